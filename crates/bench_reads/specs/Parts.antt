-- What the benchmark's reads answer, as numbers: read off what the library's own definitions give.
-- Assumes nothing.
use Rattle.std.specs.Prelude.{ℕ, List, length, get_or}
use Rattle.bench_reads.specs.declared.Part.{Part}

-- a part, by its length and first byte
abbrev pub seen : List ℕ → Part
seen part = record { len = length part; first = get_or part 0 0 }
