-- `texts::trimmed` meets its contract. The loop's invariant: what is kept is trimmed as all is. Assumes nothing.
use Rattle.std.proofs.Common.{◌≡◌, length}
use Rattle.texts.specs.Texts.{trimmed}
use Rattle.texts.proofs.trimmed.Given as goal

abbrev pub invariant-loop-kept : goal.invariant-loop-kept
invariant-loop-kept l = trimmed l.kept ≡ trimmed l.line

abbrev pub decreases-loop-kept : goal.decreases-loop-kept
decreases-loop-kept l = length l.kept
