-- `timelines::run` meets its contract. The loop's invariant: from here on the script ends where it ends from the start.
-- Assumes nothing.
use Rattle.std.proofs.Common.{length, refl, sym, ◌∙◌, arith}
use Rattle.sessions.proofs.Loop.{copied_room, ends_first, ends_on, less_on, not_right}
use Rattle.timelines.proofs.Laws.{held_last, never_held}
use Rattle.timelines.proofs.run.Goals as goal

pub returns-then-page-gt-MAX_PAGE : goal.returns-then-page-gt-MAX_PAGE
returns-then-page-gt-MAX_PAGE c = never_held c.args.text.now c.args.pair.left.now c.args.pair.right.now
    (λ x. not_right c.args.pair.left.now c.args.pair.right.now c.then-page-gt-MAX_PAGE.either x.most x.same)

pub loop-steps-init : goal.loop-steps-init
loop-steps-init c = ends_first c.args.text.now c.new-session.result c.copy.new.dst c.copy-2.new.dst c.args.pair.left.now
    c.args.pair.right.now c.new-session.ensures
    (copied_room (length c.args.pair.left.now) c.args.pair.left.now _ _ refl (omega arith) c.blank-left_room.ensures c.copy.ensures)
    (copied_room (length c.args.pair.left.now) c.args.pair.right.now _ _ (omega arith) (omega arith) c.blank-right_room.ensures
    c.copy-2.ensures)

pub loop-steps-smaller : goal.loop-steps-smaller
loop-steps-smaller c =
    less_on c.args.text.now c.loop-steps.session c.next-answered.result c.loop-steps.now_left c.loop-steps.now_right _ _ _ _
    (sym c.is_on.ensures ∙ c.loop-steps-test.true) c.blank-output.ensures
    c.next-answered.ensures

pub loop-steps-preserved : goal.loop-steps-preserved
loop-steps-preserved c =
    ends_on c.args.text.now c.loop-steps.session c.next-answered.result c.loop-steps.now_left c.loop-steps.now_right _ _ _ _
    c.args.pair.left.now
    c.args.pair.right.now
    (sym c.is_on.ensures ∙ c.loop-steps-test.true) c.blank-output.ensures
    c.next-answered.ensures
    c.loop-steps.invariant

pub returns : goal.returns
returns c = held_last c.args.text.now c.loop-steps.session c.loop-steps.now_left c.loop-steps.now_right c.args.pair.left.now
    c.args.pair.right.now
    (sym c.is_on.ensures ∙ c.loop-steps-test.false) c.loop-steps.invariant
