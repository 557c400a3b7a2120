-- the lengths of the pages stay the same, and the last walk so far, with those that are still to come, is the script's
use Rattle.std.proofs.Common.{◌≡◌, length}
use Rattle.sessions.proofs.Loop.{leftover}
use Rattle.cuts.proofs.Laws.{Sought}
use Rattle.cuts.proofs.find_last.Given as goal

abbrev pub invariant-loop-now_left : goal.invariant-loop-now_left
invariant-loop-now_left l = (length l.now_left ≡ length l.kept_left) × (length l.now_right ≡ length l.kept_right)
    × Sought l.text l.session l.last l.now_left l.now_right l.kept_left l.kept_right l.pair.left.now l.pair.right.now

abbrev pub decreases-loop-now_left : goal.decreases-loop-now_left
decreases-loop-now_left l = leftover l.text l.session
