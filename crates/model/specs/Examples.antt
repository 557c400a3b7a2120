-- The starred examples of document 01 ("Checked examples, P = 8"), as a table. That the board gives
-- them all is one proof (proofs/Examples.antt).
-- Assumes nothing.
use Rattle.std.specs.Prelude.{ℕ, List, [], ◌∷◌, ◌++◌, length, replicate}
use Rattle.pages.specs.declared.PageOffset.{PageOffset}
use Rattle.pages.specs.Pages.{line_of, status_of}
use Rattle.model.specs.Calls.{
  Call,
  Answer,
  save,
  format,
  step,
  read,
  read_into,
  cut,
  number,
  begun,
  made,
  ended,
  bytes,
  output,
  nothing,
}
use Rattle.model.specs.Board.{powered, answers, board_after}

-- what is seen of a sequence of calls: the answers, then both pages and their line
pub record Seen : Type 0 where
  pub answered : List Answer
  pub left : List ℕ
  pub right : List ℕ
  pub line : ℕ

abbrev pub seen : List Answer → List ℕ → List ℕ → ℕ → Seen
seen answered left right line = record { answered = answered; left = left; right = right; line = line }

pub record Example : Type 0 where
  pub left : List ℕ
  pub right : List ℕ
  pub calls : List Call
  pub expected : Seen

abbrev pub example : List ℕ → List ℕ → List Call → Seen → Example
example left right calls expected = record { left = left; right = right; calls = calls; expected = expected }

abbrev pub outcome : Example → Seen
outcome e =
    let b = powered e.left e.right in
    let z = board_after b e.calls in
    seen (answers b e.calls) z.left z.right (line_of (status_of z.left z.right).state)

abbrev pub page : ℕ → ℕ → ℕ → ℕ → ℕ → ℕ → ℕ → ℕ → List ℕ
page a b c d e f g h = a ∷ b ∷ c ∷ d ∷ e ∷ f ∷ g ∷ h ∷ []

abbrev pub four : ℕ → ℕ → ℕ → ℕ → List ℕ
four a b c d = a ∷ b ∷ c ∷ d ∷ []

-- n erased bytes, and n bytes of an output that holds something, so that it is seen whether it is kept
abbrev pub blank : ℕ → List ℕ
blank n = replicate n 0xFF

abbrev pub old : ℕ → List ℕ
old n = replicate n 0x55

-- a page offset
abbrev pub at : ℕ → PageOffset
at offset = record { 0 = offset }

-- "read" in both ways: the part itself, and into an output of its length that holds something else
abbrev pub reads : ℕ → ℕ → List Call
reads offset n = read (at offset) n ∷ read_into (at offset) (old n) ∷ []

-- what both give: the bytes, or number 5 with an output of FF
abbrev pub giving : List ℕ → List Answer
giving part = bytes part ∷ output 0 part ∷ []

abbrev pub five : ℕ → List Answer
five n = number 5 ∷ output 5 (blank n) ∷ []

-- the same step n times
abbrev pub steps : ℕ → List ℕ → List Call
steps n d = replicate n (step d)

-- the data of the examples
abbrev pub first : List ℕ
first = 0x01 ∷ 0x02 ∷ []

abbrev pub second : List ℕ
second = 0x0A ∷ 0x0B ∷ []

-- the pages after the first save, and after the second
abbrev pub left₃ : List ℕ
left₃ = page 0x00 0x00 0xFF 0xFF 0x01 0x02 0xFF 0xFF

abbrev pub right₃ : List ℕ
right₃ = page 0x00 0x00 0x00 0xFF 0xFF 0xFF 0xFF 0xFF

abbrev pub left₇ : List ℕ
left₇ = page 0x00 0x00 0x00 0xFF 0x01 0x02 0xFF 0xFF

abbrev pub right₇ : List ℕ
right₇ = page 0x00 0x00 0xFF 0xFF 0x01 0x02 0x0A 0x0B

-- a request at an offset, as each read and as a save, on erased pages: its number, and the output kept
abbrev pub refused : ℕ → List ℕ → ℕ → Example
refused offset held n =
    example (blank 8) (blank 8)
    (read_into (at offset) held ∷ read (at offset) (length held) ∷ save (at offset) held ∷ [])
    (seen (output n held ∷ number n ∷ number n ∷ []) (blank 8) (blank 8) 0)

abbrev pub examples : List Example
examples =
    -- "Two erased pages, read offset 4 length 4: number 5, output FF FF FF FF."
    example (blank 8) (blank 8) (reads 4 4) (seen (five 4) (blank 8) (blank 8) 0)
    -- "Same pages, save 01 02 at 4: five steps. .. line 3."
    ∷ example (blank 8) (blank 8) (save (at 4) first ∷ steps 6 first)
    (seen (begun ∷ replicate 5 made ++ ended ∷ []) left₃ right₃ 3)
    -- "Then save 0A 0B at 6: six steps. .. line 7."
    ∷ example left₃ right₃ (save (at 6) second ∷ steps 7 second)
    (seen (begun ∷ replicate 6 made ++ ended ∷ []) left₇ right₇ 7)
    -- "The same walk cut after three steps: read at 4 gives 01 02 FF FF. After four: 01 02 0A 0B."
    ∷ example left₃ right₃ (save (at 6) second ∷ steps 3 second ++ cut ∷ reads 4 4)
    (seen (begun ∷ replicate 3 made ++ nothing ∷ giving (four 0x01 0x02 0xFF 0xFF))
    left₃ (page 0xFF 0xFF 0xFF 0xFF 0x01 0x02 0x0A 0x0B) 1)
    ∷ example left₃ right₃ (save (at 6) second ∷ steps 4 second ++ cut ∷ reads 4 4)
    (seen (begun ∷ replicate 4 made ++ nothing ∷ giving (four 0x01 0x02 0x0A 0x0B))
    left₃ (page 0x00 0xFF 0xFF 0xFF 0x01 0x02 0x0A 0x0B) 5)
    -- "From line 7 above, the walk whole, a format cut after one step: RIGHT 00 00 00 00 01 02 0A 0B, read gives number
    -- 5."
    ∷ example left₇ right₇ (format ∷ steps 1 [] ++ cut ∷ reads 4 4)
    (seen (begun ∷ made ∷ nothing ∷ five 4) left₇ (page 0x00 0x00 0x00 0x00 0x01 0x02 0x0A 0x0B) 0)
    -- "Both words FFFF0000: line 0. LEFT word FFFFFF00, RIGHT word FFFFFFFF: line 0."
    ∷ example left₃ right₇ [] (seen [] left₃ right₇ 0)
    ∷ example (page 0x00 0xFF 0xFF 0xFF 0x01 0x02 0x03 0x04) (blank 8) []
    (seen [] (page 0x00 0xFF 0xFF 0xFF 0x01 0x02 0x03 0x04) (blank 8) 0)
    -- "Offset 5 length 2: 2." "Offset 2: 3. Offset 8 length 0: 4."
    ∷ refused 5 (old 2) 2
    ∷ refused 2 (old 2) 3
    ∷ refused 8 [] 4
    ∷ []
