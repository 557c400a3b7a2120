-- Laws of what the benchmark's reads answer. Assumes nothing.
use Prim.Native.Nat.{ℕ}
use mathlib.Core.Path.{◌≡◌, ap, ◌∙◌}
use mathlib.Core.List.{List}
use lib.ListN.{length, get_or}
use Rattle.bench_reads.specs.declared.Part.{Part}
use Rattle.bench_reads.specs.Parts.{seen}

-- a part by its length and first byte
pub part_seen : (part of : List ℕ) (first : ℕ) → first ≡ get_or part 0 0 → part ≡ of
    → ◌≡◌ {A = Part} (record { len = length part; first = first }) (seen of)
part_seen part of first e h = (λ i. record { len = length part; first = e i }) ∙ ap seen h
