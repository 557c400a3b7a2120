-- A script as text, made call by call on a board (docs/FORMATS.md, "replay").
-- In order: its lines and their orders; where a script stands; the next call; a session of the code.
-- Not here: what a line asks for (the crate asks), the calls of orders and their answers (model).
-- Laws: proofs/. Assumes nothing.
use Rattle.std.specs.Prelude.{None}
use Rattle.std.specs.Prelude.{ℕ, zero, suc, ◌≡◌, Bool, true, cond, not, ◌||◌, List, [], ◌∷◌, ◌++◌, eqb, ltb, leb, length, take, drop, replicate}
use Rattle.pages.specs.declared.PageOffset.{PageOffset}
use Rattle.reads.specs.Reads.{filled}
use Rattle.model.specs.Calls as C
use Rattle.model.specs.Board.{Board, Turn, powered, turn, board_after}
use Rattle.model.specs.Decided.{is_made}
use Rattle.model.specs.Orders.{Order, one, held, held_in, calls_from}
use Rattle.boards.specs.declared.Call.{Call}
use Rattle.boards.specs.Boards.{answer_in, board_in, calls_in, out_after as lent}
use Rattle.turns.specs.Turns.{zeros, data_at}
use Rattle.texts.specs.Texts.{ending, on_from, trimmed, without_comment, line_at, next_line, word_at}
use Rattle.digits.specs.Digits.{bytes_of}
use Rattle.asks.specs.Asks as T
use Rattle.asks.specs.Asks.{Asks, asks_of}
use Rattle.sessions.specs.declared.Session.{Session}
use Rattle.sessions.specs.declared.Answered.{Answered}

-- ---- lines and orders
-- "A script has a call a line": a line ends at a line feed, the last one at the end of the text
abbrev pub joined : ℕ → List (List ℕ) → List (List ℕ)
joined x [] = (x ∷ []) ∷ []
joined x (line ∷ lines) = (x ∷ line) ∷ lines

unfoldable pub lines_of : List ℕ → List (List ℕ)
lines_of [] = []
lines_of (x ∷ xs) = cond (eqb x 10) ([] ∷ lines_of xs) (joined x (lines_of xs))

-- a line from its first word to its last, without its comment
abbrev pub words_of : List ℕ → List ℕ
words_of line = on_from (ending true) (trimmed (without_comment line))

-- a copy reads into the first bytes of an output that is lent, if that has as many
abbrev pub copy_into : PageOffset → ℕ → List ℕ → List Order
copy_into o n out = cond (leb n (length out)) (one (C.read_into o (take n out)) ∷ []) []

-- the order of a line, by what it asks for, the bytes of its digits and the output; a wrong line has
-- none
abbrev pub order_for : Asks → List ℕ → List ℕ → List Order
order_for T.nothing d out = []
order_for (T.save o) d out = one (C.save o d) ∷ []
order_for T.format d out = one C.format ∷ []
order_for (T.steps n) d out = held n ∷ []
order_for T.step_with d out = one (C.step d) ∷ []
order_for (T.read o n) d out = one (C.read o n) ∷ []
order_for (T.read_into o n) d out = copy_into o n out
order_for T.cut d out = one C.cut ∷ []
order_for (T.wrong fault n) d out = []

abbrev pub line_orders : List ℕ → List ℕ → List Order
line_orders words out = order_for (asks_of words) (bytes_of (word_at 2 words)) out

-- "an output .. that holds 00", with room for every copy that a line may ask for
unfoldable pub orders_in : List (List ℕ) → List Order
orders_in [] = []
orders_in (line ∷ lines) = line_orders (words_of line) zeros ++ orders_in lines

-- the orders of a script, and its calls on two pages
abbrev pub orders_of : List ℕ → List Order
orders_of text = orders_in (lines_of text)

abbrev pub script_calls : List ℕ → List ℕ → List ℕ → List C.Call
script_calls text l r = calls_from (powered l r) (orders_of text)

-- ---- where a script stands
-- the place of the line that comes next, the steps of the line before that are still to be made, and
-- the board
pub record Stand : Type 0 where
  pub at : ℕ
  pub left : ℕ
  pub board : Board

-- the calls that are still to be made
unfoldable pub remaining : List ℕ → Stand → List C.Call
remaining text s =
    let b = s.board in
    let steps = replicate s.left (C.step (held_in b.hand)) in
    steps ++ calls_from (board_after b steps) (orders_of (drop s.at text))

-- ---- the next call
-- what the calls made now are answered, where the script then stands, and the lent output
pub record Next : Type 0 where
  pub answers : List C.Answer
  pub stand : Stand
  pub out : List ℕ

abbrev pub stands : ℕ → ℕ → Board → Stand
stands place left b = record { at = place; left = left; board = b }

abbrev pub nexts : List C.Answer → Stand → List ℕ → Next
nexts answers stand out = record { answers = answers; stand = stand; out = out }

-- what a call leaves in the output: only a read into its first bytes changes it
abbrev pub out_after : C.Call → Board → List ℕ → List ℕ
out_after (C.save o d) b out = out
out_after C.format b out = out
out_after (C.step d) b out = out
out_after (C.read o n) b out = out
out_after (C.read_into o given) b out =
    (filled b.left b.right o given).bytes ++ drop (length given) out
out_after C.cut b out = out

-- a step that is left: "the first that isn't made is the last", and the others would be answered alike
abbrev pub step_next : ℕ → ℕ → Turn → List ℕ → Next
step_next place k t out =
    cond (is_made t.answer)
    (nexts (C.made ∷ []) (stands place k t.board) out)
    (nexts (replicate (suc k) t.answer) (stands place 0 t.board) out)

-- the order of a line: steps are made one by one after it
abbrev pub order_next : ℕ → Board → List ℕ → List Order → Next
order_next place b out [] = nexts [] (stands place 0 b) out
order_next place b out (held n ∷ xs) = nexts [] (stands place n b) out
order_next place b out (one c ∷ xs) =
    let t = turn b c in nexts (t.answer ∷ []) (stands place 0 t.board) (out_after c b out)

abbrev pub next_from : List ℕ → ℕ → ℕ → Board → List ℕ → Next
next_from text place zero b out =
    order_next (next_line text place) b out (line_orders (line_at text place) out)
next_from text place (suc k) b out = step_next place k (turn b (C.step (held_in b.hand))) out

unfoldable pub next_of : List ℕ → Stand → List ℕ → Next
next_of text s out = next_from text s.at s.left s.board out

-- ---- a session of the code
-- the data of the walk in hand is that of the line that began it
abbrev pub stand_in : List ℕ → Session → List ℕ → List ℕ → Stand
stand_in text s l r = stands s.at s.left (board_in s.hand (data_at text s.began) l r)

-- an answer of the code, to so many calls; a copy's has so many bytes of the output
abbrev pub next_in : List ℕ → Answered → List ℕ → List ℕ → List ℕ → Next
next_in text x l r out =
    nexts (replicate x.times (answer_in x.answer l r (take x.len out)))
    (stand_in text x.session l r)
    out

-- before its first line, with no walk in hand
abbrev pub begins : Session
begins = record { hand = None; began = 0; at = 0; left = 0 }

-- whether something is left of a script: steps of a line, or a line
abbrev pub is_on : List ℕ → Session → Bool
is_on text s = not (eqb s.left 0) || ltb s.at (length text)

-- one call made, with the data of the line at a place
abbrev pub MadeOne : List ℕ → Call → ℕ → Session → ℕ → Answered → List ℕ → List ℕ → List ℕ → List ℕ → List ℕ → List ℕ
    → Type 0
MadeOne text call own s place x l r l' r' out out' =
    (x.len ≡ length out)
    × ((c : C.Call) → calls_in call (data_at text own) out ≡ c ∷ []
    → let t = turn (board_in s.hand (data_at text s.began) l r) c in
    next_in text x l' r' out'
    ≡ nexts (t.answer ∷ []) (stands place 0 t.board) (lent call l r out))
