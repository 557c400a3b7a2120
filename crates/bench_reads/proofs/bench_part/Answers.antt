-- `bench_reads::bench_part` meets its contract: the part that was read, by its length and first byte. Assumes nothing.
use Rattle.bench_reads.proofs.Laws.{part_seen}
use Rattle.bench_reads.proofs.bench_part.Goals as goal

pub returns : goal.returns
returns c = part_seen _ _ _ c.first_of.ensures c.read-part.ensures
