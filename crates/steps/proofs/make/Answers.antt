-- `steps::make` meets its contract: kind and side of the step say which page is written, and how. Assumes nothing.
use Rattle.pages.specs.declared.Side.TheVariants.{Left, Right}
use Rattle.steps.specs.Steps.{marked, blanked}
use Rattle.steps.proofs.Laws.{blank, on_page_lem, mark_tried, image_tried, erase_tried}
use Rattle.steps.proofs.make.Goals as goal

pub returns-in-Left : goal.returns-in-Left
returns-in-Left c =
    mark_tried _ c.in-Mark.side c.in-Mark.at c.in-Mark.value _ _ _ c.in-Mark.is
    (on_page_lem Left (λ page. marked page c.in-Mark.at c.in-Mark.value) _ _ _ _ c.in-Mark.side
    c.in-Left.is
    c.program_mark.ensures)

pub returns-in-Right : goal.returns-in-Right
returns-in-Right c =
    mark_tried _ c.in-Mark.side c.in-Mark.at c.in-Mark.value _ _ _ c.in-Mark.is
    (on_page_lem Right (λ page. marked page c.in-Mark.at c.in-Mark.value) _ _ _ _ c.in-Mark.side
    c.in-Right.is
    c.program_mark-in-Right.ensures)

pub returns-in-Image : goal.returns-in-Image
returns-in-Image c =
    image_tried _ c.in-Image.side c.in-Image.at c.in-Image.value _ _ _ c.in-Image.is c.make_image.ensures

pub returns-in-Left-side : goal.returns-in-Left-side
returns-in-Left-side c =
    erase_tried _ c.in-Erase.side _ _ _ c.in-Erase.is
    (on_page_lem Left blanked _ _ _ _ c.in-Erase.side
    c.in-Left-side.is (blank _ _ c.erase.ensures))

pub returns-in-Right-side : goal.returns-in-Right-side
returns-in-Right-side c =
    erase_tried _ c.in-Erase.side _ _ _ c.in-Erase.is
    (on_page_lem Right blanked _ _ _ _ c.in-Erase.side
    c.in-Right-side.is (blank _ _ c.erase-in-Right-side.ensures))
