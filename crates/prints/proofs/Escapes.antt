-- bytes that stand for themselves, and that what stands for bytes is text
use Rattle.std.proofs.Common.{arith, ◌≡◌, ◌<◌, ℕ, zero, suc, List, [], ◌∷◌, get_or, refl}
use Rattle.std.proofs.lemmas.Grind.{common_steps}
use Rattle.std.proofs.lemmas.List.Elements.{All-head, All-tail}
use Rattle.std.proofs.lemmas.Str.{IsAscii-append}
use Rattle.std.specs.Str.{IsAscii}
use Rattle.std.specs.List.{flat_map, All}
use Rattle.prints.specs.Prints.{escaped}

pub as_they_are : (shown : ℕ → List ℕ) (bytes : List ℕ) → All (λ b. shown b ≡ b ∷ []) bytes → flat_map shown bytes ≡ bytes
as_they_are shown [] all = refl
as_they_are shown (b ∷ bytes) all =
    let one = All-head (λ c. shown c ≡ c ∷ []) b bytes all in
    rw (one, as_they_are shown bytes (All-tail (λ c. shown c ≡ c ∷ []) b bytes all)) refl

-- what a byte is printed as is ASCII, so what bytes are printed as is text
ascii_byte : (b : ℕ) → b < 256 → IsAscii (escaped b)
ascii_byte b fits zero = grind (arith, common_steps)
ascii_byte b fits (suc zero) = grind (arith, common_steps)
ascii_byte b fits (suc (suc zero)) = grind (arith, common_steps)
ascii_byte b fits (suc (suc (suc zero))) = grind (arith, common_steps)
ascii_byte b fits (suc (suc (suc (suc i)))) = grind (arith, common_steps)

pub ascii : (bytes : List ℕ) → ((i : ℕ) → get_or bytes i 0 < 256) → IsAscii (flat_map escaped bytes)
ascii [] fits = λ i. omega arith
ascii (b ∷ bytes) fits = IsAscii-append (escaped b) (flat_map escaped bytes) (ascii_byte b (fits 0)) (ascii bytes (λ i. fits (suc i)))
