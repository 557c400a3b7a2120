-- Management words, and which page is live (document 01, "Pages, cells" and "Which page is live").
-- In order: the word of a page; a choice by side; the table of lines; the look-up; each state's
-- line number, live side and row; what an answer says.
-- Not here: the image and offsets (Offsets.antt). Laws: proofs/Laws.antt, and of the table
-- proofs/Table.antt and proofs/Life.antt. Assumes nothing.
use Rattle.std.specs.Prelude.{Option, Some, None}
use Rattle.std.specs.Prelude.{ℕ, ◌+◌, ◌*◌, ◌/◌, ◌%◌, Bool, cond, ◌&&◌, List, [], ◌∷◌, eqb, get_or}
use Rattle.pages.specs.declared.Side.{Side}
use Rattle.pages.specs.declared.Side.TheVariants.{Left, Right}
use Rattle.pages.specs.declared.State.{State}
use Rattle.pages.specs.declared.State.TheVariants.{S0, S1, S2, S3, S5, S6, S7, S8, S9, S10}
use Rattle.pages.specs.declared.Status.{Status}

-- "As one 32-bit word Valid is the lowest byte"
abbrev pub word_from : ℕ → ℕ → ℕ → ℕ → ℕ
word_from valid active dead spare = valid + active * 256 + dead * 65536 + spare * 16777216

-- "Bytes 0 to 3 of a page are management: Valid, Active, Dead, Spare."
unfoldable pub word_of : List ℕ → ℕ
word_of page = word_from (get_or page 0 0) (get_or page 1 0) (get_or page 2 0) (get_or page 3 0)

-- the four bytes of a word before others, the lowest first
abbrev pub word_bytes : ℕ → List ℕ → List ℕ
word_bytes word rest =
    word % 256 ∷ word / 256 % 256 ∷ word / 65536 % 256 ∷ word / 16777216 ∷ rest

-- of two things, one for each side, the one on a side
abbrev pub on_side : {A : Type 0} → Side → A → A → A
on_side Left left right = left
on_side Right left right = right

-- a row of the table: the word of LEFT, the word of RIGHT, their state and the live side
pub record Row : Type 0 where
  pub left : ℕ
  pub right : ℕ
  pub state : State
  pub live : Side

abbrev pub row : ℕ → ℕ → State → Side → Row
row left right state live = record { left = left; right = right; state = state; live = live }

-- the table of "Which page is live": the word of LEFT, the word of RIGHT, the state, the live side;
-- S1 is lines 1 and 4, which hold the same words
abbrev pub table : List Row
table =
    row 0xFFFF0000 0xFFFFFFFF S1 Left
    ∷ row 0xFFFF0000 0xFF00FFFF S2 Left
    ∷ row 0xFFFF0000 0xFF000000 S3 Left
    ∷ row 0xFFFF0000 0xFFFFFF00 S5 Right
    ∷ row 0xFF000000 0xFFFFFF00 S6 Right
    ∷ row 0xFF000000 0xFFFF0000 S7 Right
    ∷ row 0xFFFFFFFF 0xFFFF0000 S8 Right
    ∷ row 0xFFFFFF00 0xFFFF0000 S9 Left
    ∷ row 0xFFFFFF00 0xFF000000 S10 Left
    ∷ []

-- the row holds this pair of words
abbrev pub hits : Row → ℕ → ℕ → Bool
hits x l r = eqb x.left l && eqb x.right r

-- the state and live side of a row that holds the words, else those given
abbrev pub picked : Row → ℕ → ℕ → Status → Status
picked x l r rest = cond (hits x l r) (record { state = x.state; live = Some x.live }) rest

-- the state and live side of the row that holds a pair of words; "0: any other pair", none live
unfoldable pub look : List Row → ℕ → ℕ → Status
look [] l r = record { state = S0; live = None }
look (x ∷ xs) l r = picked x l r (look xs l r)

-- the state of two pages, and which is live
unfoldable pub status_of : List ℕ → List ℕ → Status
status_of left right = look table (word_of left) (word_of right)

-- document 01's line number for each state
abbrev pub line_of : State → ℕ
line_of S0 = 0
line_of S1 = 1
line_of S2 = 2
line_of S3 = 3
line_of S5 = 5
line_of S6 = 6
line_of S7 = 7
line_of S8 = 8
line_of S9 = 9
line_of S10 = 10

-- the state of each line number from 0 on; lines 1 and 4 are one state, under 1
abbrev pub states : List (Option State)
states =
    Some S0
    ∷ Some S1
    ∷ Some S2
    ∷ Some S3
    ∷ None
    ∷ Some S5
    ∷ Some S6
    ∷ Some S7
    ∷ Some S8
    ∷ Some S9
    ∷ Some S10
    ∷ []

abbrev pub state_from : ℕ → Option State
state_from line = get_or states line None

-- the live side of each state, as the table has it
unfoldable pub live_of : State → Option Side
live_of S0 = None
live_of S1 = Some Left
live_of S2 = Some Left
live_of S3 = Some Left
live_of S5 = Some Right
live_of S6 = Some Right
live_of S7 = Some Right
live_of S8 = Some Right
live_of S9 = Some Left
live_of S10 = Some Left

-- the row of each state; S0 has none
abbrev pub row_of : State → Row
row_of S0 = row 0 0 S0 Left
row_of S1 = get_or table 0 (row 0 0 S0 Left)
row_of S2 = get_or table 1 (row 0 0 S0 Left)
row_of S3 = get_or table 2 (row 0 0 S0 Left)
row_of S5 = get_or table 3 (row 0 0 S0 Left)
row_of S6 = get_or table 4 (row 0 0 S0 Left)
row_of S7 = get_or table 5 (row 0 0 S0 Left)
row_of S8 = get_or table 6 (row 0 0 S0 Left)
row_of S9 = get_or table 7 (row 0 0 S0 Left)
row_of S10 = get_or table 8 (row 0 0 S0 Left)

-- ---- what an answer says
-- the line number and the live side
pub record Standing : Type 0 where
  pub line : ℕ
  pub live : Option Side

abbrev pub standing : Status → Standing
standing s = record { line = line_of s.state; live = s.live }
