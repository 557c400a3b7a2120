-- `bench::bench_begin` meets its contract: it is the beginning of a save, its answer as numbers. Assumes nothing.
use Rattle.std.specs.Prelude.{Ok, Err}
use Rattle.bench.proofs.Laws.{begun_as, refused_as}
use Rattle.bench.proofs.bench_begin.Goals as goal

pub returns-in-Ok : goal.returns-in-Ok
returns-in-Ok c =
    begun_as c.save.result _ _ _ c.save.ensures c.in-Ok.is c.kept_in.ensures

pub returns-in-Err : goal.returns-in-Err
returns-in-Err c =
    refused_as c.save.result c.in-Err.why _ _ c.save.ensures c.in-Err.is
    c.number.ensures
