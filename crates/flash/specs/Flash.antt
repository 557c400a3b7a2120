-- Cells and flash steps over a list of bytes: a page, or any part of one (document 01, "Pages,
-- cells" and "Flash steps").
-- In order: bytes; cells and their numbers; programming; erasing; the erased test.
-- Not here: which bytes of a page are management and which are image (the crate pages). Laws:
-- proofs/Laws.antt.
-- Assumes nothing.
use Rattle.std.specs.Prelude.{Option, Some, None, Result, Ok, Err}
use Rattle.std.specs.Prelude.{ℕ, ◌+◌, ◌*◌, ◌/◌, ◌%◌, ◌<◌, Bool, true, cond, ◌&&◌, List, [], ◌∷◌, eqb, ltb, length, get_or, set, replicate}
use Rattle.std.specs.Int.Bits.{bit_and}
use Rattle.flash.specs.declared.StepError.{StepError}
use Rattle.flash.specs.declared.StepError.TheVariants.{Unfit}

-- every number is a byte: what a lent `[u8]` always holds
abbrev pub Bytes : List ℕ → Type 0
Bytes [] = Unit {0}
Bytes (x ∷ xs) = (x < 256) × Bytes xs

abbrev pub is_even : ℕ → Bool
is_even n = eqb (n % 2) 0

-- "A cell is 16 bits at an even place": both its bytes lie in the list
unfoldable pub is_cell : List ℕ → ℕ → Bool
is_cell l i = is_even i && ltb (i + 1) (length l)

-- "low byte first"
abbrev pub cell_number : ℕ → ℕ → ℕ
cell_number low high = low + high * 256

-- the number that the cell at a place holds
abbrev pub cell_at : List ℕ → ℕ → ℕ
cell_at l i = cell_number (get_or l i 0) (get_or l (i + 1) 0)

-- the number of the cell at a place, if one is there
unfoldable pub cell_of : List ℕ → ℕ → Option ℕ
cell_of l i = cond (is_cell l i) (Some (cell_at l i)) None

-- the list with a number's two bytes at a place
unfoldable pub stored : List ℕ → ℕ → ℕ → List ℕ
stored l i v = set (set l i (v % 256)) (i + 1) (v / 256)

-- no bit that is 0 in the old number is 1 in the new one
abbrev pub clears : ℕ → ℕ → Bool
clears old new = eqb (bit_and old new) new

-- the step fits: there is a cell, and no 0 bit would turn into a 1
unfoldable pub fits : List ℕ → ℕ → ℕ → Bool
fits l i v = is_cell l i && clears (cell_at l i) v

-- a call's number (0: none) and the lent bytes after it
pub record Outcome : Type 0 where
  pub number : ℕ
  pub bytes : List ℕ

-- document 01's number for each answer: a step that doesn't fit is 6
abbrev pub number_in : Result (Unit {0}) StepError → ℕ
number_in (Ok made) = 0
number_in (Err Unfit) = 6

-- "every bit of the cell becomes old AND new. A step asked to turn a 0 bit into a 1 isn't made
-- (refusal 6)"
unfoldable pub programmed : List ℕ → ℕ → ℕ → Outcome
programmed l i v =
    cond (fits l i v)
    (record { number = 0; bytes = stored l i (bit_and (cell_at l i) v) })
    (record { number = 6; bytes = l })

-- document 01's blanking: "all P bytes become FF"
unfoldable pub erasure : List ℕ → List ℕ
erasure l = replicate (length l) 255

-- "An erased page means all P bytes are FF, not only its management word."
unfoldable pub is_erased : List ℕ → Bool
is_erased [] = true
is_erased (x ∷ xs) = eqb x 255 && is_erased xs
