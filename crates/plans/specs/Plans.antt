-- The list of flash steps of a save and of a format (document 01, "The walk of a save" and "The
-- walk of a format").
-- In order: entries; when erased-or-not counts; a save's steps, 1 to 5; a format's; the list; what
-- a walk asks of it.
-- An entry is a flash step with the line of the pages before it and whether it is the deciding
-- store. That each line is the one that the step before leaves is proved (proofs/Begins.antt), as
-- are the counts (proofs/Counts.antt).
-- Not here: what a step does to the pages (the crate steps); the new image (images); beginning and
-- stepping (walks). Assumes nothing.
use Rattle.std.specs.Prelude.{Option, Some, None}
use Rattle.std.specs.Prelude.{ℕ, ◌+◌, Bool, true, false, cond, ◌&&◌, ◌||◌, List, [], ◌∷◌, ◌++◌, eqb}
use Rattle.flash.specs.Flash.{cell_number, is_erased}
use Rattle.pages.specs.declared.Side.{Side}
use Rattle.pages.specs.declared.Side.TheVariants.{Left, Right}
use Rattle.pages.specs.declared.State.{State}
use Rattle.pages.specs.declared.State.TheVariants.{S0, S1, S2, S3, S5, S6, S7, S8, S9, S10}
use Rattle.pages.specs.declared.ImageOffset.{ImageOffset}
use Rattle.pages.specs.Pages.{on_side, line_of, live_of}
use Rattle.steps.specs.declared.Step.{Step}
use Rattle.steps.specs.declared.Step.TheVariants.{Mark, Image, Erase}
use Rattle.plans.specs.declared.Request.{Request}
use Rattle.plans.specs.declared.Request.TheVariants.{Save, Format}
use Rattle.plans.specs.declared.Entry.{Entry}

-- an entry, and the deciding one: the commit
abbrev pub entry : State → Step → Entry
entry state step = record { state = state; step = step; commits = false }

abbrev pub committing : State → Step → Entry
committing state step = record { state = state; step = step; commits = true }

-- "cell 2 of a page is its bytes 2 and 3": a management cell programmed to a number
abbrev pub mark : Side → ℕ → ℕ → Step
mark s cell v = Mark s (record { 0 = cell }) v

abbrev pub other : Side → Side
other s = on_side s Right Left

abbrev pub is_line : State → ℕ → Bool
is_line state n = eqb (line_of state) n

-- "Erased-or-not counts only at lines 0, 1, 4 and 8 for a save and at line 0 for a format;
-- elsewhere it is taken as not erased." (Lines 1 and 4 are one state.)
abbrev pub counts : Request → State → Bool
counts Save start = is_line start 0 || is_line start 1 || is_line start 8
counts Format start = is_line start 0

-- "1. Tidying. Line 2: RIGHT cell 0 to 0000. Line 5: LEFT cell 2 to FF00, then RIGHT cell 0 to
-- 0000; line 6 only the second. Line 9: RIGHT cell 2 to FF00, then LEFT cell 0 to 0000; line 10
-- only the second."
abbrev pub recovery : State → List Entry
recovery S0 = []
recovery S1 = []
recovery S2 = entry S2 (mark Right 0 0x0000) ∷ []
recovery S3 = []
recovery S5 = entry S5 (mark Left 2 0xFF00) ∷ entry S6 (mark Right 0 0x0000) ∷ []
recovery S6 = entry S6 (mark Right 0 0x0000) ∷ []
recovery S7 = []
recovery S8 = []
recovery S9 = entry S9 (mark Right 2 0xFF00) ∷ entry S10 (mark Left 0 0x0000) ∷ []
recovery S10 = entry S10 (mark Left 0 0x0000) ∷ []

-- the line that it leaves
abbrev pub recovered : State → State
recovered S0 = S0
recovered S1 = S1
recovered S2 = S3
recovered S3 = S3
recovered S5 = S7
recovered S6 = S7
recovered S7 = S7
recovered S8 = S8
recovered S9 = S3
recovered S10 = S3

-- "blank LEFT, blank RIGHT", with no page live
abbrev pub erases_both : List Entry
erases_both = entry S0 (Erase Left) ∷ entry S0 (Erase Right) ∷ []

-- "2. Blank the page that isn't live, unless all its bytes are FF." "At line 0 instead: if any byte
-- of either page isn't FF, program RIGHT cell 2 to 0000 (the spoiling step), blank LEFT, blank
-- RIGHT."
abbrev pub erases : State → Option Side → Bool → List Entry
erases state None erased = cond erased [] (entry S0 (mark Right 2 0x0000) ∷ erases_both)
erases state (Some s) erased = cond erased [] (entry state (Erase (other s)) ∷ [])

-- the steps before the image cells
abbrev pub ready : State → Bool → List Entry
ready start erased =
    recovery start ++ erases (recovered start) (live_of start) (counts Save start && erased)

-- the page that is programmed: the one that isn't live, LEFT at line 0; and the line meanwhile
abbrev pub target : Option Side → Side
target None = Left
target (Some s) = other s

abbrev pub clean : Option Side → State
clean None = S0
clean (Some s) = on_side s S1 S8

-- "3. Program the C image cells of that page": "each image cell is programmed once, in ascending
-- order, FFFF included"; from an image offset on
abbrev pub cells : State → Side → ImageOffset → List ℕ → List Entry
cells state s at [] = []
cells state s at (low ∷ []) = []
cells state s at (low ∷ high ∷ rest) =
    entry state (Image s at (cell_number low high)) ∷ cells state s (record { 0 = at.0 + 2 }) rest

-- "4. Program its cell 0 to FF00. This is the deciding store. 5. Program cell 2 of the formerly
-- live page to FF00, then cell 0 of the new page to 0000." At line 0: "LEFT cell 0 to 0000 (the
-- deciding store); RIGHT cell 2 to FF00; RIGHT cell 0 to 0000."
abbrev pub marks : Option Side → List Entry
marks None =
    committing S0 (mark Left 0 0x0000)
    ∷ entry S1 (mark Right 2 0xFF00)
    ∷ entry S2 (mark Right 0 0x0000)
    ∷ []
marks (Some s) =
    committing (on_side s S1 S8) (mark (other s) 0 0xFF00)
    ∷ entry (on_side s S5 S9) (mark s 2 0xFF00)
    ∷ entry (on_side s S6 S10) (mark (other s) 0 0x0000)
    ∷ []

-- the image's first cell
abbrev pub first_cell : ImageOffset
first_cell = record { 0 = 0 }

-- "The pair is now line 7 or line 3": the line after a save, by the side that was live before it
abbrev pub settled : Option Side → State
settled None = S3
settled (Some s) = on_side s S7 S3

-- "The walk of a save", begun at a line, with the new image
unfoldable pub saving : State → Bool → List ℕ → List Entry
saving start erased new =
    ready start erased
    ++ (cells (clean (live_of start)) (target (live_of start)) first_cell new ++ marks (live_of start))

-- "The walk of a format. No steps if both pages are erased. Otherwise three: RIGHT cell 2 to 0000
-- (the deciding store), blank LEFT, blank RIGHT."
unfoldable pub formatting : State → Bool → List Entry
formatting start erased =
    cond (counts Format start && erased) [] (committing start (mark Right 2 0x0000) ∷ erases_both)

-- the list of steps of a request
abbrev pub plan : Request → State → Bool → List ℕ → List Entry
plan Save start erased new = saving start erased new
plan Format start erased new = formatting start erased

-- erased or not: of both pages at line 0, of the page that isn't live elsewhere
abbrev pub others_erased : Option Side → List ℕ → List ℕ → Bool
others_erased None l r = is_erased l && is_erased r
others_erased (Some s) l r = is_erased (on_side (other s) l r)

-- the pages' line is the line of the list
abbrev pub meets : State → State → Bool
meets wanted state = eqb (line_of wanted) (line_of state)

-- what a read past the list's end would give
abbrev pub nothing : Entry
nothing = entry S0 (Erase Left)
