-- `replays::run` meets its contract. The loop's invariant: what lies ahead gives what the whole script gives.
-- Assumes nothing.
use Prim.Native.Nat.{ℕ, ◌+◌}
use mathlib.Core.Path.{sym, ap, ◌∙◌}
use native.Mathlib.Omega.{arith}
use lib.ListN.{length}
use Rattle.std.specs.Prelude.{option_map}
use Rattle.model.specs.Board.{powered}
use Rattle.scripts.specs.Scripts.{item_in, checked}
use Rattle.replays.specs.Runs.{run_in, running, orders_of}
use Rattle.replays.proofs.Ahead.{Passed, ahead_from, pass, at_end}
use Rattle.replays.proofs.run.Goals as goal
use Rattle.replays.proofs.run.Goals.{After-size-place}

pub make-requires : goal.make-requires
make-requires c =
    let p =
    pass c.args.script.now c.loop-item.place (length c.args.out.now) c.in-Some.item
    (run_in c.loop-item.ran c.loop-item.left c.loop-item.right c.loop-item.out) _
    (ap (option_map item_in) (sym c.in-Some.is) ∙ c.item_at.ensures) c.loop-item.invariant.3 in
    let has = p.has in
    let n = c.loop-item.invariant.2 in
    omega arith

-- what lies ahead after the call made
passed : (c : After-size-place)
    → Passed c.args.script.now c.loop-item.place (length c.args.out.now) (item_in c.in-Some.item)
    (run_in c.loop-item.ran c.loop-item.left c.loop-item.right c.loop-item.out)
    (running (orders_of (checked c.args.script.now (length c.args.out.now)))
    (record {
      board = powered c.args.left.now c.args.right.now;
      output = record { out = c.args.out.now; at = 0 };
    }))
passed c =
    pass _ _ _ c.in-Some.item _ _ (ap (option_map item_in) (sym c.in-Some.is) ∙ c.item_at.ensures) c.loop-item.invariant.3

pub overflow_add-place : goal.overflow_add-place
overflow_add-place c = let inside = (passed c).inside in omega arith

pub loop-item-smaller : goal.loop-item-smaller
loop-item-smaller c =
    let inside = (passed c).inside in
    let more = (passed c).more in
    omega arith

pub loop-item-preserved : goal.loop-item-preserved
loop-item-preserved c = (
  c.make.auto.left ∙ c.loop-item.invariant.0,
  c.make.auto.right ∙ c.loop-item.invariant.1,
  c.make.auto.out ∙ c.loop-item.invariant.2,
  ahead_from _ _ _ _ _ _ _ (ap (λ (n : ℕ). c.loop-item.place + n) c.size-place.ensures) c.make.ensures (passed c).onward,
)

pub returns : goal.returns
returns c =
    at_end _ _ _ _ _ (ap (option_map item_in) (sym c.in_default.is) ∙ c.item_at.ensures) c.loop-item.invariant.3
