-- What an output has gathered, and what bytes from outside are printed as.
use Rattle.std.specs.Prelude.{ℕ, ◌+◌, ◌/◌, ◌%◌, ◌==◌, ◌&&◌, Bool, true, List, [], ◌∷◌, ◌++◌, length, leb, if◌then◌else◌}
use Rattle.std.specs.Fmt.{digit_glyph}

-- what is gathered after bytes are printed: all that was is written where they don't fit, and they are too
-- where they would never fit
abbrev pub gathered_after : List ℕ → List ℕ → List ℕ
gathered_after gathered bytes =
    if leb (length gathered + length bytes) 65533
    then gathered ++ bytes
    else (if leb (length bytes) 65533 then bytes else [])

-- printable ASCII
abbrev pub is_printable : ℕ → Bool
is_printable b = leb 32 b && leb b 126

-- a byte as a character, a dot where it isn't printable
abbrev pub dotted : ℕ → List ℕ
dotted b = if is_printable b then b ∷ [] else 46 ∷ []

-- a byte as a character, two backslashes for one, and `\xHH` where it isn't printable
abbrev pub escaped : ℕ → List ℕ
escaped b =
    if b == 92
    then 92 ∷ 92 ∷ []
    else (if is_printable b
    then b ∷ []
    else 92 ∷ 120 ∷ digit_glyph true (b / 16) ∷ digit_glyph true (b % 16) ∷ [])
