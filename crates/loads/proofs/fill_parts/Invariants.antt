-- what is left to read decreases
use Rattle.std.proofs.Common.{◌-◌}
use Rattle.loads.proofs.fill_parts.Given as goal

abbrev pub decreases-loop-done : goal.decreases-loop-done
decreases-loop-done l = l.end - l.done
