-- A level is put as the trait says: two stores in a run are a row written. Assumes nothing.
use native.Mathlib.Numerals.{towards_suc}
use Rattle.rows.specs.Rows.{level_row}
use Rattle.models.specs.Readings.{level_of}
use Rattle.rows.proofs.Places.{stored, level_faithful}
use Rattle.rows.proofs.BookLevelRow.put.Goals as goal

pub returns : goal.returns
returns c = rw (← stored level_row level_faithful.long _ _ (level_of c.args.self) c.requires) (simp towards_suc)
