-- `cuts::find_last` meets its contract. The loop's invariant: the last walk so far, with those that are still to come.
-- Assumes nothing.
use Rattle.std.proofs.Common.{length, refl, sym, ◌≡◌, ◌∙◌, ap, arith}
use Rattle.sessions.proofs.Loop.{copied_room, less_on}
use Rattle.cuts.proofs.Laws.{sought_first, sought_not, sought_one, sought_last}
use Rattle.cuts.proofs.find_last.Goals as goal

pub loop-now_left-init : goal.loop-now_left-init
loop-now_left-init c =
    let page = length c.args.pair.left.now in
    let left : c.copy.new.dst ≡ c.args.pair.left.now = copied_room page c.args.pair.left.now _ _ refl c.requires.0 c.blank-left_room.ensures
    c.copy.ensures in
    let right : c.copy-2.new.dst ≡ c.args.pair.right.now = copied_room page c.args.pair.right.now _ _ c.requires.1 c.requires.0
    c.blank-right_room.ensures
    c.copy-2.ensures in (
      ap length left ∙ sym c.requires.2,
      ap length right ∙ c.requires.1 ∙ sym c.requires.3,
      sought_first c.args.text.now c.new-session.result c.args.pair.left.now c.args.pair.right.now
          c.copy.new.dst c.copy-2.new.dst
          c.args.kept_left.now c.args.kept_right.now
          c.new-session.ensures left right,
    )

pub loop-now_left-smaller-in-Some : goal.loop-now_left-smaller-in-Some
loop-now_left-smaller-in-Some c =
    less_on c.args.text.now c.loop-now_left.session c.next-answered.result c.loop-now_left.now_left c.loop-now_left.now_right _ _ _ _
    (sym c.is_on.ensures ∙ c.loop-now_left-test.true) c.blank-output.ensures
    c.next-answered.ensures

pub loop-now_left-smaller : goal.loop-now_left-smaller
loop-now_left-smaller c =
    less_on c.args.text.now c.loop-now_left.session c.next-answered.result c.loop-now_left.now_left c.loop-now_left.now_right _ _ _ _
    (sym c.is_on.ensures ∙ c.loop-now_left-test.true) c.blank-output.ensures
    c.next-answered.ensures

pub loop-now_left-preserved-in-Some : goal.loop-now_left-preserved-in-Some
loop-now_left-preserved-in-Some c = (
  omega arith,
  omega arith,
  sought_one c.args.text.now c.loop-now_left.session c.next-answered.result c.loop-now_left.last c.in-Some.found
      c.loop-now_left.now_left c.loop-now_left.now_right c.next-answered.new.left c.next-answered.new.right _ c.blank-output.result
      c.loop-now_left.kept_left c.loop-now_left.kept_right _ _ c.args.pair.left.now c.args.pair.right.now
      (sym c.is_on.ensures ∙ c.loop-now_left-test.true)
      c.blank-output.ensures
      c.next-answered.ensures
      (sym c.in-Some.ensures)
      c.copy-in-Some.ensures
      c.copy-in-Some-2.ensures
      (omega arith)
      (omega arith)
      c.loop-now_left.invariant.2,
)

pub loop-now_left-preserved : goal.loop-now_left-preserved
loop-now_left-preserved c = (
  omega arith,
  omega arith,
  sought_not c.args.text.now c.loop-now_left.session c.next-answered.result c.loop-now_left.last
      c.loop-now_left.now_left c.loop-now_left.now_right c.next-answered.new.left c.next-answered.new.right _ c.blank-output.result
      c.loop-now_left.kept_left c.loop-now_left.kept_right c.args.pair.left.now c.args.pair.right.now
      (sym c.is_on.ensures ∙ c.loop-now_left-test.true)
      c.blank-output.ensures
      c.next-answered.ensures
      (sym c.begun.ensures ∙ c.in_default.is)
      c.loop-now_left.invariant.2,
)

pub returns : goal.returns
returns c = sought_last c.args.text.now c.loop-now_left.session c.loop-now_left.last c.loop-now_left.now_left c.loop-now_left.now_right
    c.loop-now_left.kept_left c.loop-now_left.kept_right c.args.pair.left.now c.args.pair.right.now
    (sym c.is_on.ensures ∙ c.loop-now_left-test.false) c.loop-now_left.invariant.2
