-- A script as text (docs/FORMATS.md, "replay"): texts, lines and words are lists of bytes.
-- In order: lines; words.
-- Not here: words as numbers and as bytes (the crate digits), what a line asks for (the crate asks). Laws:
-- proofs/Laws.antt.
-- Assumes nothing.
use Rattle.std.specs.Prelude.{ℕ, zero, suc, ◌+◌, ◌-◌, Bool, true, false, cond, not, ◌&&◌, ◌||◌, List, [], ◌∷◌, eqb, ltb, length, get_or, take, drop}

-- ---- lines
-- how many bytes stand before the first that passes a test, or in all where none does
unfoldable pub before_first : (ℕ → Bool) → List ℕ → ℕ
before_first test [] = 0
before_first test (x ∷ xs) = cond (test x) 0 (suc (before_first test xs))

-- the bytes before that one, and those from it on
abbrev pub up_to : (ℕ → Bool) → List ℕ → List ℕ
up_to test s = take (before_first test s) s

abbrev pub on_from : (ℕ → Bool) → List ℕ → List ℕ
on_from test s = drop (before_first test s) s

abbrev pub is : ℕ → ℕ → Bool
is byte b = eqb b byte

-- "blanks or tabs"
unfoldable pub is_blank : ℕ → Bool
is_blank b = eqb b 32 || eqb b 9

-- the test of a byte that ends a run of blanks and tabs, or of bytes that are none
unfoldable pub ending : Bool → ℕ → Bool
ending true b = not (is_blank b)
ending false b = is_blank b

-- how long a line is up to its last byte that is no blank and no tab
abbrev pub reach : ℕ → ℕ → ℕ
reach x zero = cond (is_blank x) 0 1
reach x (suc n) = suc (suc n)

unfoldable pub used : List ℕ → ℕ
used [] = 0
used (x ∷ xs) = reach x (used xs)

abbrev pub trimmed : List ℕ → List ℕ
trimmed s = take (used s) s

-- "a carriage return before a line's end is dropped"
unfoldable pub without_return : List ℕ → List ℕ
without_return s =
    let last = length s - 1 in
    cond (eqb (get_or s last 0) 13) (take last s) s

-- "`#` and what follows it on its line is a comment"
unfoldable pub without_comment : List ℕ → List ℕ
without_comment s =
    cond (ltb (before_first (is 35) s) (length s)) (up_to (is 35) s) (without_return s)

-- the line that begins at a place, from its first word to its last
unfoldable pub line_at : List ℕ → ℕ → List ℕ
line_at text place = on_from (ending true) (trimmed (without_comment (up_to (is 10) (drop place text))))

-- where the line after that one begins: after its end, or where the text ends
unfoldable pub next_line : List ℕ → ℕ → ℕ
next_line text place =
    let end = place + before_first (is 10) (drop place text) in
    cond (ltb end (length text)) (end + 1) (length text)

-- ---- words
-- how long the first word of a line is with the blanks after it
unfoldable pub stride_of : List ℕ → ℕ
stride_of s = let end = before_first (ending false) s in end + before_first (ending true) (drop end s)

-- the word of a number, from 0, of a line that begins with its first
unfoldable pub word_at : ℕ → List ℕ → List ℕ
word_at zero s = up_to (ending false) s
word_at (suc n) s = word_at n (drop (stride_of s) s)

-- two words are the same
unfoldable pub same : List ℕ → List ℕ → Bool
same [] [] = true
same [] (y ∷ ys) = false
same (x ∷ xs) [] = false
same (x ∷ xs) (y ∷ ys) = eqb x y && same xs ys
