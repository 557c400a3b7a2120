-- what is done is at most the buffer, and what is left of it decreases
use Rattle.std.proofs.Common.{length, ◌-◌, ◌≤◌}
use Rattle.loads.proofs.fill.Given as goal

abbrev pub invariant-loop-done : goal.invariant-loop-done
invariant-loop-done l = l.done ≤ length l.initial.into

abbrev pub decreases-loop-done : goal.decreases-loop-done
decreases-loop-done l = length l.initial.into - l.done
