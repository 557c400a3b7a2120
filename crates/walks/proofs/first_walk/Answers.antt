-- `walks::first_walk` meets its contract: it keeps what the pages start with. Assumes nothing.
use Rattle.walks.proofs.Numbers.{started}
use Rattle.walks.proofs.first_walk.Goals as goal

pub returns : goal.returns
returns c = started _ _ _ _ _ c.start_of-start.result c.start_of-start.ensures
