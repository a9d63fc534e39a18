-- `numbers::told` meets its contract: each case of the answer is the definition's case. Assumes nothing.
use Rattle.std.proofs.Common.{refl}
use Rattle.numbers.specs.Reports as report
use Rattle.numbers.proofs.told.Goals as goal

pub returns-in-Ok : goal.returns-in-Ok
returns-in-Ok g c = report.told c.in-Ok.value c.in-Ok.is refl c.numbers.ensures

pub returns-in-Err : goal.returns-in-Err
returns-in-Err g c = report.refused c.in-Err.refusal c.in-Err.is c.from.ensures refl
