-- `scripts::check` meets its contract. The loop's invariant: the check from here on says what the check of all says.
-- Assumes nothing.
use Prim.Native.Nat.{◌+◌, ◌-◌, ◌≤◌}
use mathlib.Core.Path.{◌≡◌, sym, ap, ◌∙◌}
use native.Mathlib.Omega.{arith}
use lib.ListN.{length, drop, length-drop}
use Rattle.std.specs.Prelude.{Some, option_map}
use Rattle.scripts.specs.Scripts.{item_in, first_of, found, checked_from}
use Rattle.scripts.proofs.Laws.{first_size, check_on}
use Rattle.scripts.proofs.check.Goals as goal
use Rattle.scripts.proofs.check.Goals.{After-size-at}

-- a call that has room: where the next one begins, and what is found from there on
onward : (c : After-size-at)
    → let f = item_in c.in_ok-item.item in
    (9 ≤ f.size)
    × (c.loop-at.at + f.size ≤ length c.args.script.now)
    × (Some f ≡ first_of (drop c.loop-at.at c.args.script.now))
onward c =
    let f = item_in c.in_ok-item.item in
    let here : Some f ≡ first_of (drop c.loop-at.at c.args.script.now) =
    ap (option_map item_in) (sym c.in_ok-item.ensures.ok_part) ∙ c.item_at.ensures in
    let h = first_size (drop c.loop-at.at c.args.script.now) f (sym here) in
    let n : length (drop c.loop-at.at c.args.script.now) ≡ length c.args.script.now - c.loop-at.at =
    length-drop c.loop-at.at c.args.script.now in
    (h.0, omega arith, here)

pub overflow_add-at : goal.overflow_add-at
overflow_add-at c = let h = onward c in omega arith

pub loop-at-preserved : goal.loop-at-preserved
loop-at-preserved c =
    let h = onward c in (
      omega arith,
      sym
          (check_on c.args.script.now c.loop-at.at c.loop-at.left (item_in c.in_ok-item.item) h.2 (omega arith)
          ∙ (λ i. found
          (checked_from 0 (c.loop-at.at + sym c.size-at.ensures i) (c.loop-at.left - sym c.room-need.ensures i)
          (drop (c.loop-at.at + sym c.size-at.ensures i) c.args.script.now))))
          ∙ c.loop-at.invariant.1,
    )
