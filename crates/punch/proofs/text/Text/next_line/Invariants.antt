use Rattle.std.proofs.Common.{◌-◌, if◌then◌else◌}
use Rattle.punch.proofs.text.Text.next_line.Given as goal

abbrev pub decreases-loop-length : goal.decreases-loop-length
decreases-loop-length g l = if l.self.ended then 0 else 65537 - (l.self.end - l.self.start)
