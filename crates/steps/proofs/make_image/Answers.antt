-- `steps::make_image` meets its contract: the side says which page is written. Assumes nothing.
use Rattle.pages.specs.declared.Side.TheVariants.{Left, Right}
use Rattle.steps.specs.Steps.{imaged, tried}
use Rattle.steps.proofs.Laws.{on_page_lem}
use Rattle.steps.proofs.make_image.Goals as goal

pub returns-in-Left : goal.returns-in-Left
unfolding tried
returns-in-Left c =
    on_page_lem Left (λ page. imaged page c.args.at c.args.value) _ _ _ _ c.args.side
    c.in-Left.is
    c.program_cell.ensures

pub returns-in-Right : goal.returns-in-Right
unfolding tried
returns-in-Right c =
    on_page_lem Right (λ page. imaged page c.args.at c.args.value) _ _ _ _ c.args.side
    c.in-Right.is
    c.program_cell-in-Right.ensures
