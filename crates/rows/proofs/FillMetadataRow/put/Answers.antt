-- A fill is put as the trait says: five stores in a run are a row written. Assumes nothing.
use native.Mathlib.Numerals.{towards_suc}
use Rattle.rows.specs.Rows.{fill_row}
use Rattle.models.specs.Readings.{fill_of}
use Rattle.rows.proofs.Places.{stored, fill_faithful}
use Rattle.rows.proofs.FillMetadataRow.put.Goals as goal

pub returns : goal.returns
returns c = rw (← stored fill_row fill_faithful.long _ _ (fill_of c.args.self) c.requires) (simp (towards_suc, c.side_and_use.ensures))
