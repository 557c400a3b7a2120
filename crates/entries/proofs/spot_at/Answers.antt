-- `entries::spot_at` meets its contract: what the look-up finds is what the list has there, nothing from the end on.
-- Assumes nothing.
use native.Mathlib.Omega.{arith}
use Rattle.plans.specs.declared.Request.TheVariants.{Save, Format}
use Rattle.plans.proofs.Spots.{beyond, count_of, spot_of_lem, spot_format, spot_entry}
use Rattle.entries.proofs.spot_at.Goals as goal

pub returns-then-step_count-place : goal.returns-then-step_count-place
returns-then-step_count-place c =
    spot_entry c.args.plan.request c.args.plan.start c.args.plan.erased c.args.plan.page c.args.place _
    (beyond c.args.plan.request c.args.plan.start c.args.plan.erased c.args.plan.page c.args.place (omega arith))

pub save_spot-requires : goal.save_spot-requires
save_spot-requires c =
    count_of c.args.plan.request Save c.args.plan.start c.args.plan.erased c.args.plan.page c.args.place c.in-Save.is
    (omega arith)

pub returns-in-Save : goal.returns-in-Save
returns-in-Save c =
    spot_entry c.args.plan.request c.args.plan.start c.args.plan.erased c.args.plan.page c.args.place _
    (spot_of_lem c.args.plan.request Save c.args.plan.start c.args.plan.erased c.args.plan.page c.args.place _
    c.in-Save.is (omega arith) c.save_spot.ensures)

pub returns-in-Format : goal.returns-in-Format
returns-in-Format c =
    spot_entry c.args.plan.request c.args.plan.start c.args.plan.erased c.args.plan.page c.args.place _
    (spot_of_lem c.args.plan.request Format c.args.plan.start c.args.plan.erased c.args.plan.page c.args.place _
    c.in-Format.is (omega arith)
    (spot_format c.args.plan.start c.args.plan.erased c.args.plan.page c.args.place c.format_entry.result
    (count_of c.args.plan.request Format c.args.plan.start c.args.plan.erased c.args.plan.page c.args.place
    c.in-Format.is (omega arith))
    c.format_entry.ensures))
