-- `boards::step` meets its contract. Assumes nothing.
use Rattle.boards.proofs.Laws.{steps_made, no_walk}
use Rattle.boards.proofs.step.Goals as goal

pub returns-in-None : goal.returns-in-None
returns-in-None c =
    no_walk c.args.times c.args.hand c.answered.result c.args.held.now c.args.«data».now c.args.left.now c.args.right.now
    c.in-None.is c.answered.ensures

pub returns-in-Some : goal.returns-in-Some
returns-in-Some c =
    steps_made c.args.times c.args.hand _ c.run-ran.result c.args.held.now
    c.args.«data».now c.handed.result.now c.args.left.now
    c.args.right.now _ _ c.from.result
    c.in-Some.is
    c.handed.ensures
    c.run-ran.ensures
    c.from.ensures
