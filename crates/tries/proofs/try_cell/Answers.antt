-- `tries::try_cell` meets its contract: the line is tested first; the number is made from the image of the live side.
-- Assumes nothing.
use mathlib.Core.Path.{sym, ◌∙◌}
use borrow.Author.Tests.{not-true, not-false}
use Rattle.tries.specs.Tries.{cell_entry}
use Rattle.tries.proofs.Laws.{try_unmet, cell_tried}
use Rattle.tries.proofs.try_cell.Goals as goal

pub returns-then-not-is_clean : goal.returns-then-not-is_clean
returns-then-not-is_clean c =
    try_unmet
    (cell_entry c.args.live c.args.cell.side c.args.cell.at c.args.offset c.args.«data».now c.args.left.now c.args.right.now) _ _
    (sym c.is_clean.ensures ∙ not-true c.is_clean.result c.if-not-is_clean.true-raw)

pub returns : goal.returns
returns c =
    cell_tried c.args.live c.args.cell.side c.args.cell.at c.args.offset c.args.«data».now c.args.left.now c.args.right.now _
    c.new_cell-value.result _ (sym c.is_clean.ensures ∙ not-false c.is_clean.result c.if-not-is_clean.false-raw)
    c.old_image.ensures c.new_cell-value.ensures c.make_image.ensures
