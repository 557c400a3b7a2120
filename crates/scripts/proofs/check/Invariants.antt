-- `scripts::check` meets its contract. The loop's invariant: the check from here on says what the check of all says.
-- Assumes nothing.
use Prim.Native.Nat.{◌-◌, ◌≤◌}
use mathlib.Core.Path.{◌≡◌}
use lib.ListN.{length, drop}
use Rattle.scripts.specs.Scripts.{found, checked_from, checked}
use Rattle.scripts.proofs.check.Given as goal

abbrev pub invariant-loop-at : goal.invariant-loop-at
invariant-loop-at l = (l.at ≤ length l.script)
    × (found (checked_from 0 l.at l.left (drop l.at l.script)) ≡ found (checked l.script l.room))

abbrev pub decreases-loop-at : goal.decreases-loop-at
decreases-loop-at l = length l.script - l.at
