-- from here on the script ends where it ends from the start
use Rattle.sessions.proofs.Loop.{Ends, leftover}
use Rattle.timelines.proofs.run.Given as goal

abbrev pub invariant-loop-steps : goal.invariant-loop-steps
invariant-loop-steps l = Ends l.text l.session l.now_left l.now_right l.pair.left.now l.pair.right.now

abbrev pub decreases-loop-steps : goal.decreases-loop-steps
decreases-loop-steps l = leftover l.text l.session
