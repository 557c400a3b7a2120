-- `lines::start_of` meets its contract: the live side that was found is that of the state. Assumes nothing.
use mathlib.Core.Path.{ap}
use Rattle.lines.specs.Starts.{begins_in}
use Rattle.lines.proofs.Laws.{looked}
use Rattle.lines.proofs.start_of.Goals as goal

pub returns : goal.returns
returns c =
    ap begins_in
    (looked c.args.request c.args.pair.left.now c.args.pair.right.now c.status_of-state.result c.find_erased.result
    c.status_of-state.ensures c.find_erased.ensures)
