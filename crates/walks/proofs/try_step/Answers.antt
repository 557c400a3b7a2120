-- `walks::try_step` meets its contract: what stands at the walk's place is the list's entry there. Assumes nothing.
use mathlib.Core.Path.{ap, ◌∙◌}
use Rattle.std.proofs.Common.{rules, Some}
use Rattle.walks.proofs.Laws.{looked, sought, walk_fixed, entry_there, walk_cell}
use Rattle.walks.proofs.try_step.Goals as goal
use Rattle.walks.proofs.try_step.Goals.{in_default-spot_at-via-in-Some+in_default, in_default-spot_at-via-in_default}

pub returns-in-Some : goal.returns-in-Some
returns-in-Some c =
    walk_cell c.args.walk c.args.left.now c.args.right.now c.args.«data».now c.cell_at.result c.in-Some.cell
    c.live-live.result _ c.requires.0 c.requires.1
    (sought c.args.walk c.plan-plan.result c.cell_at.result c.plan-plan.ensures c.cell_at.ensures) c.in-Some.is
    c.live-live.ensures c.try_cell.ensures

pub unreachable-requires : goal.unreachable-requires
unreachable-requires c =
    entry_there c.args.walk c.args.left.now c.args.right.now c.args.«data».now c.spot_at.result c.cell_at.result
    c.requires.0 c.requires.1
    (looked c.args.walk c.plan-plan.result c.spot_at.result c.plan-plan.ensures c.spot_at.ensures)
    (sought c.args.walk c.plan-plan.result c.cell_at.result c.plan-plan.ensures c.cell_at.ensures) c.in_default.is
    (λ y e. elim c.in_default-spot_at.branch [
      | in_default-spot_at-via-in-Some+in_default w ↦ search rules
      | in_default-spot_at-via-in_default w ↦ search rules
    ])

pub returns : goal.returns
returns c =
    walk_fixed c.args.walk c.args.left.now c.args.right.now c.args.«data».now c.spot_at.result _ _ c.requires.0
    c.requires.1
    (looked c.args.walk c.plan-plan.result c.spot_at.result c.plan-plan.ensures c.spot_at.ensures)
    (c.in-Some-Fixed.is ∙ ap Some c.in-Some-Fixed.field-0-is) c.try_entry.ensures
