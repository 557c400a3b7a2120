-- `entries::cell_at` meets its contract: a save has image cells, a format none. Assumes nothing.
use mathlib.Core.Path.{◌∙◌}
use Rattle.plans.proofs.Spots.{list_cell, cell_save, cell_format}
use Rattle.entries.proofs.cell_at.Goals as goal

pub returns-in-Save : goal.returns-in-Save
returns-in-Save c =
    λ new size.
    c.save_cell.ensures
    ∙ cell_save c.args.plan.request c.args.plan.start c.args.plan.erased c.args.plan.page c.args.place c.in-Save.is
    ∙ list_cell c.args.plan.request c.args.plan.start c.args.plan.erased c.args.plan.page c.args.place new size

pub returns-in-Format : goal.returns-in-Format
returns-in-Format c =
    λ new size.
    cell_format c.args.plan.request c.args.plan.start c.args.plan.erased c.args.plan.page c.args.place c.in-Format.is
    ∙ list_cell c.args.plan.request c.args.plan.start c.args.plan.erased c.args.plan.page c.args.place new size
