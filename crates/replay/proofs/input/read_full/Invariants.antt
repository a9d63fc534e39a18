use Rattle.std.proofs.Common.{◌-◌, length}
use Rattle.replay.proofs.input.read_full.Given as goal

abbrev pub decreases-loop-done : goal.decreases-loop-done
decreases-loop-done g l = length l.initial.bytes - l.done
