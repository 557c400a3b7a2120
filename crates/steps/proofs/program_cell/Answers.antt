-- `steps::program_cell` meets its contract: a page with no image has no image cell. Assumes nothing.
use Rattle.std.proofs.Common.{length, ◌<◌, arith}
use Rattle.flash.proofs.Laws.{refused}
use Rattle.steps.proofs.Laws.{no_image_lem}
use Rattle.steps.proofs.program_cell.Goals as goal

pub returns-in_err-page : goal.returns-in_err-page
returns-in_err-page c =
    let short : length c.args.page.now < 4 = grind arith in
    rw (refused c.from_residual.result c.from_residual.ensures.0)
    (no_image_lem c.args.page.now c.args.at c.args.value short)
