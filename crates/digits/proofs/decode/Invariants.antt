-- `digits::decode` meets its contract.
-- The loop's invariant: the bytes put so far stand at the start of the buffer, the rest is as it was, and
-- what is left of the digits makes the other bytes.
-- Assumes nothing.
use Rattle.std.proofs.Common.{◌≡◌}
use Rattle.std.specs.Iterator.Adapters.{enumerate_source, enumerate_count}
use Rattle.std.specs.Slice.Iter.{chunks_exact_rest, chunks_exact_size}
use Rattle.digits.proofs.Laws.{PutSoFar}
use Rattle.digits.proofs.decode.Given as goal

abbrev pub invariant-loop-i : goal.invariant-loop-i
invariant-loop-i l =
    record {
      pairs : chunks_exact_size (enumerate_source l.i-iterator) ≡ 2;
      so_far : PutSoFar l.digits (chunks_exact_rest (enumerate_source l.i-iterator)) l.initial.into l.into (enumerate_count l.i-iterator);
    }
