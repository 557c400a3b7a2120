-- `replays::run` meets its contract. The loop's invariant: what lies ahead gives what the whole script gives.
-- Assumes nothing.
use Prim.Native.Nat.{◌-◌}
use mathlib.Core.Path.{◌≡◌}
use lib.ListN.{length}
use Rattle.model.specs.Board.{powered}
use Rattle.scripts.specs.Scripts.{checked}
use Rattle.replays.specs.Runs.{run_in, running, orders_of}
use Rattle.replays.proofs.Ahead.{Ahead}
use Rattle.replays.proofs.run.Given as goal

abbrev pub invariant-loop-item : goal.invariant-loop-item
invariant-loop-item l = (length l.left ≡ length l.initial.left)
    × (length l.right ≡ length l.initial.right)
    × (length l.out ≡ length l.initial.out)
    × Ahead l.script l.place (length l.initial.out) (run_in l.ran l.left l.right l.out)
    (running (orders_of (checked l.script (length l.initial.out)))
    (record { board = powered l.initial.left l.initial.right; output = record { out = l.initial.out; at = 0 } }))

abbrev pub decreases-loop-item : goal.decreases-loop-item
decreases-loop-item l = length l.script - l.place
