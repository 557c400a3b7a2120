-- Orders: what a script asks for, one after another. Steps may be ordered with the data of the walk in
-- hand, so the calls of an order depend on the board.
-- In order: orders; their calls; their answers.
-- Assumes nothing.
use Rattle.std.specs.Prelude.{Option, Some, None}
use Rattle.std.specs.Prelude.{ℕ, cond, List, [], ◌∷◌, ◌++◌, eqb, length, replicate}
use Rattle.requests.specs.Numbers.{pages_number}
use Rattle.model.specs.Calls.{Call, Answer}
use Rattle.model.specs.Calls as C
use Rattle.model.specs.Board.{Hand, Board, powered, board_after}
use Rattle.model.specs.Book.{opened, book_answers, hearing}

-- a call with its arguments, or steps with the held data, so many
pub data Order : Type 0 where
  one : Call → Order
  held : ℕ → Order

-- "The held data is that of the save in hand, and empty for a format or with no walk."
abbrev pub held_in : Option Hand → List ℕ
held_in None = []
held_in (Some h) = h.held

-- the calls of an order, with this walk in hand
abbrev pub calls_of : Option Hand → Order → List Call
calls_of hand (one c) = c ∷ []
calls_of hand (held n) = replicate n (C.step (held_in hand))

-- the calls of orders, made on a board one after another
unfoldable pub calls_from : Board → List Order → List Call
calls_from b [] = []
calls_from b (x ∷ xs) =
    calls_of b.hand x ++ calls_from (board_after b (calls_of b.hand x)) xs

-- ---- their answers
-- "Over pages whose lengths are number 1, every beginning and read is answered 1"; there is never a
-- walk, and an output is kept
abbrev pub refusal : Call → Answer
refusal (C.save o d) = C.number 1
refusal C.format = C.number 1
refusal (C.step d) = C.nothing
refusal (C.read o n) = C.number 1
refusal (C.read_into o out) = C.output 1 out
refusal C.cut = C.nothing

unfoldable pub refusals : List Call → List Answer
refusals [] = []
refusals (c ∷ cs) = refusal c ∷ refusals cs

-- demand 3: the answers are those of the book, which is told of the calls made on the board
abbrev pub true_answers : List ℕ → List ℕ → List Call → List Answer
true_answers l r cs =
    cond (eqb (pages_number (length l) (length r)) 0)
    (book_answers (opened l r) (hearing (powered l r) cs))
    (refusals cs)
