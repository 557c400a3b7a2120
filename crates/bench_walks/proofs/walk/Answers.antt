-- `bench_walks::walk` meets its contract: what is begun is run to its end, a refused request changes nothing.
-- Assumes nothing.
use Rattle.std.specs.Prelude.{Ok, Err}
use Rattle.bench_walks.proofs.Laws.{walked_begun, walked_refused}
use Rattle.bench_walks.proofs.walk.Goals as goal

pub returns-in-Ok : goal.returns-in-Ok
returns-in-Ok c =
    walked_begun c.args.begun _ c.args.left.now c.args.right.now c.args.«data».now _ _ c.run-ran.result _
    c.in-Ok.is c.run-ran.ensures c.last_number.ensures

pub returns-in-Err : goal.returns-in-Err
returns-in-Err c =
    walked_refused c.args.begun c.in-Err.why c.args.left.now c.args.right.now c.args.«data».now _
    c.in-Err.is c.number.ensures
