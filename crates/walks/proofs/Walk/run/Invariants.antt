-- `walks::Walk::run` meets its contract. The loop's invariant: what is left to do gives what the whole run gives.
-- Assumes nothing.
use mathlib.Core.Path.{◌≡◌}
use Rattle.walks.specs.Walks.{at_place, run_of}
use Rattle.walks.proofs.Runs.{left_to_do}
use Rattle.walks.proofs.Walk.run.Given as goal

abbrev pub invariant-loop-steps : goal.invariant-loop-steps
invariant-loop-steps l =
    left_to_do l.most l.steps (at_place l.self l.place) l.left l.right l.«data»
    ≡ run_of l.most l.self l.initial.left l.initial.right l.«data»
