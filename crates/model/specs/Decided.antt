-- What is decided on the board: the requests whose walk made its deciding store, seen from the board
-- alone. That they are the book's, in order, is a theorem (proofs/Decided.antt).
-- Assumes nothing.
use Rattle.std.specs.Prelude.{Option, Some, None}
use Rattle.std.specs.Prelude.{ℕ, Bool, true, false, cond, ◌&&◌, List, [], ◌∷◌, ◌++◌, eqb, length, get_or}
use Rattle.pages.specs.declared.PageOffset.{PageOffset}
use Rattle.plans.specs.declared.Request.{Request}
use Rattle.plans.specs.declared.Request.TheVariants.{Save, Format}
use Rattle.plans.specs.Plans.{nothing}
use Rattle.walks.specs.Walks.{steps_of}
use Rattle.model.specs.Calls.{Call, Answer}
use Rattle.model.specs.Calls as C
use Rattle.model.specs.Board.{Hand, Board, turn}
use Rattle.model.specs.Book.{Asked, save, format, list_for}

abbrev pub is_made : Answer → Bool
is_made (C.number n) = false
is_made C.begun = false
is_made C.made = true
is_made C.ended = false
is_made (C.bytes part) = false
is_made (C.output n out) = false
is_made C.nothing = false

abbrev pub is_begun : Answer → Bool
is_begun (C.number n) = false
is_begun C.begun = true
is_begun C.made = false
is_begun C.ended = false
is_begun (C.bytes part) = false
is_begun (C.output n out) = false
is_begun C.nothing = false

-- the request of the walk in hand
abbrev pub request_of : Request → PageOffset → List ℕ → Asked
request_of Save o d = save o d
request_of Format o d = format

abbrev pub asked_of : Hand → Asked
asked_of h = request_of h.walk.request h.walk.offset h.held

-- whether the entry at the walk's place is the deciding store
abbrev pub at_commit : Board → Hand → Bool
at_commit b h =
    (get_or (steps_of h.walk b.left b.right h.held) h.walk.place nothing).commits

-- a step decides where it is made and its entry commits
abbrev pub step_decides : Board → Option Hand → List ℕ → List Asked
step_decides b None d = []
step_decides b (Some h) d =
    cond (is_made (turn b (C.step d)).answer && at_commit b h) (asked_of h ∷ []) []

-- a beginning decides where the walk is begun and has no steps
abbrev pub begin_decides : Board → Call → Asked → List Asked
begin_decides b c asked =
    cond (is_begun (turn b c).answer && eqb (length (list_for asked b.left b.right)) 0)
    (asked ∷ [])
    []

-- what each call decides, and a sequence of calls
abbrev pub decides : Board → Call → List Asked
decides b (C.save o d) = begin_decides b (C.save o d) (save o d)
decides b C.format = begin_decides b C.format format
decides b (C.step d) = step_decides b b.hand d
decides b (C.read o n) = []
decides b (C.read_into o out) = []
decides b C.cut = []

unfoldable pub decided : Board → List Call → List Asked
decided b [] = []
decided b (c ∷ cs) = decides b c ++ decided (turn b c).board cs
