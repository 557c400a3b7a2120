-- Words as numbers and as bytes (docs/FORMATS.md, "replay"): words and buffers are lists of bytes.
-- In order: digits; numbers; hexadecimal digits and bytes. Laws: proofs/Laws.antt. Assumes nothing.
use Rattle.std.specs.Prelude.{ℕ, ◌+◌, ◌-◌, ◌*◌, ◌%◌, Bool, true, cond, ◌&&◌, List, [], ◌∷◌, ◌++◌, ltb, leb, length, drop, Result, Ok, Err}
use Rattle.digits.specs.declared.Fault.{Fault}
use Rattle.digits.specs.declared.Fault.TheVariants.{NoNumber, NotNumber, PastBits}

abbrev pub within : ℕ → ℕ → ℕ → Bool
within low high b = leb low b && leb b high

-- the number of a hexadecimal digit, capital or small; 16 of any other byte
unfoldable pub digit_of : ℕ → ℕ
digit_of b =
    cond (within 48 57 b) (b - 48)
    (cond (within 65 70 b) (b - 65 + 10)
    (cond (within 97 102 b) (b - 97 + 10)
    16))

-- a decimal number of which so much is read: "at most 4294967295"
unfoldable pub number_from : ℕ → List ℕ → Result ℕ Fault
number_from value [] =
    cond (ltb value 4294967296) (Ok value) (Err PastBits)
number_from value (x ∷ xs) =
    cond (ltb 9 (digit_of x))
    (Err NotNumber)
    (number_from (value * 10 + digit_of x) xs)

unfoldable pub number_of : List ℕ → Result ℕ Fault
number_of [] = Err NoNumber
number_of (x ∷ xs) = number_from 0 (x ∷ xs)

unfoldable pub all_hex : List ℕ → Bool
all_hex [] = true
all_hex (x ∷ xs) = ltb (digit_of x) 16 && all_hex xs

-- "two hexadecimal digits a byte"; a last digit alone is none
abbrev pub joined_of : ℕ → ℕ → ℕ
joined_of high low = high % 16 * 16 + low % 16

unfoldable pub bytes_of : List ℕ → List ℕ
bytes_of [] = []
bytes_of (high ∷ []) = []
bytes_of (high ∷ (low ∷ s)) = joined_of (digit_of high) (digit_of low) ∷ bytes_of s

-- how many bytes are put at the start of a buffer, and the buffer: as it was where they don't fit
pub record Decoded : Type 0 where
  pub count : ℕ
  pub buffer : List ℕ

unfoldable pub decoded : List ℕ → List ℕ → Decoded
decoded digits buffer =
    let bytes = bytes_of digits in
    cond (leb (length bytes) (length buffer))
    (record { count = length bytes; buffer = bytes ++ drop (length bytes) buffer })
    (record { count = 0; buffer = buffer })
