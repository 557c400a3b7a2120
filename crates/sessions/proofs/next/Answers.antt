-- `sessions::next` meets its contract, by the plan for what is done next. Assumes nothing.
use mathlib.Core.Path.{refl, sym, ◌∙◌}
use Rattle.boards.specs.Boards.{board_in}
use Rattle.turns.specs.Turns.{data_at}
use Rattle.sessions.proofs.Laws.{makes, copy_size, line_ready, line_after, line_made, stepped, step_made, step_unmade}
use Rattle.sessions.proofs.next.Goals as goal

pub make_one-made-requires : goal.make_one-made-requires
make_one-made-requires c =
    let x = makes c.args.text.now c.args.session c.plan_next-plan.result c.in-Make.job
    c.args.out.now c.plan_next-plan.ensures
    c.in-Make.is in
    (x.times, x.own)

pub slice_bounds-make_one-end : goal.slice_bounds-make_one-end
slice_bounds-make_one-end c =
    (makes c.args.text.now c.args.session c.plan_next-plan.result c.in-Make.job c.args.out.now c.plan_next-plan.ensures
    c.in-Make.is).fits

pub slice_bounds-make_one-end-2 : goal.slice_bounds-make_one-end-2
slice_bounds-make_one-end-2 c =
    sym (copy_size c.in-Make.job.size c.args.out.now
    (makes c.args.text.now c.args.session c.plan_next-plan.result c.in-Make.job c.args.out.now c.plan_next-plan.ensures
    c.in-Make.is).fits)

pub returns-then-session-eq0 : goal.returns-then-session-eq0
returns-then-session-eq0 c =
    let go = line_ready c.args.text.now c.args.session c.plan_next-plan.result c.in-Make.job c.args.left.now c.args.right.now c.args.out.now
    c.plan_next-plan.ensures c.in-Make.is c.if-session-eq0.true in
    let room = copy_size c.in-Make.job.size c.args.out.now go.fits in
    line_made c.args.text.now c.args.session c.make_one-made.result c.plan_next-plan.result.after c.in-Make.job.size go.made c.args.left.now c.args.right.now _ _ c.args.out.now _ _
    (c.make_one-made.ensures.0 ∙ room)
    (c.make_one-made.auto.out ∙ room) (c.make_one-made.ensures.1 go.made go.calls)
    (go.kept (board_in c.args.session.hand (data_at c.args.text.now c.args.session.began) c.args.left.now c.args.right.now) refl refl)
    (line_after c.args.text.now c.args.session c.plan_next-plan.result c.args.out.now c.plan_next-plan.ensures c.if-session-eq0.true) go.order c.if-session-eq0.true

pub returns-in-Made : goal.returns-in-Made
returns-in-Made c =
    let go = stepped c.args.text.now c.args.session c.make_one-made.result c.args.left.now c.args.right.now _ _ _ c.args.out.now c.plan_next-plan.result c.in-Make.job
    c.plan_next-plan.ensures c.in-Make.is c.if-session-eq0.false c.make_one-made.auto.out c.make_one-made.ensures in
    step_made c.args.text.now c.args.session c.make_one-made.result _ c.args.left.now c.args.right.now _ _ _ c.args.out.now _ go.empty
    go.rest go.step
    c.in-Made.is c.if-session-eq0.false refl

pub returns-in_default : goal.returns-in_default
returns-in_default c =
    let go = stepped c.args.text.now c.args.session c.make_one-made.result c.args.left.now c.args.right.now _ _ _ c.args.out.now c.plan_next-plan.result c.in-Make.job
    c.plan_next-plan.ensures c.in-Make.is c.if-session-eq0.false c.make_one-made.auto.out c.make_one-made.ensures in
    step_unmade c.args.text.now c.args.session c.make_one-made.result c.args.left.now c.args.right.now _ _ _ c.args.out.now _ go.empty
    go.rest go.step
    c.in_default.not-Made c.if-session-eq0.false
