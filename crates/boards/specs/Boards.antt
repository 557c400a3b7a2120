-- The board as the code has it: the walk in hand by value, the data it was begun with and both pages
-- lent. Each call is the model's.
-- In order: the hand; the calls; the answers; what a call gives.
-- Not here: the board, its calls and answers (the crate model). Laws: proofs/Laws.antt. Assumes
-- nothing.
use Rattle.std.specs.Prelude.{Option, Some, None, Result, Ok, Err}
use Rattle.walks.specs.declared.Walk.{Walk}
use Rattle.requests.specs.declared.Refusal.{Refusal}
use Rattle.std.specs.Prelude.{ℕ, ◌-◌, ◌≡◌, cond, List, [], ◌∷◌, ◌++◌, eqb, replicate}
use Rattle.pages.specs.declared.PageOffset.{PageOffset}
use Rattle.reads.specs.Reads.{read_part, filled}
use Rattle.requests.specs.Numbers.{number_of}
use Rattle.walks.specs.declared.Progress.{Progress}
use Rattle.walks.specs.declared.Progress as P
use Rattle.model.specs.Calls as C
use Rattle.model.specs.Board as B
use Rattle.model.specs.Board.{Board, answers, board_after}
use Rattle.boards.specs.declared.Call.{Call}
use Rattle.boards.specs.declared.Call as L
use Rattle.boards.specs.declared.Answer.{Answer}
use Rattle.boards.specs.declared.Answer as A
use Rattle.boards.specs.declared.Turn.{Turn}

-- ---- the hand
-- the walk in hand and the data it was begun with
abbrev pub hand_in : Option Walk → List ℕ → Option B.Hand
hand_in None held = None
hand_in (Some w) held = Some (record { walk = w; held = held })

abbrev pub board_in : Option Walk → List ℕ → List ℕ → List ℕ → Board
board_in hand held l r = record { left = l; right = r; hand = hand_in hand held }

-- ---- the calls
-- the calls that each case stands for, with the data and the output lent to them
abbrev pub calls_in : Call → List ℕ → List ℕ → List C.Call
calls_in (L.TheVariants.Save o) d out = C.save o d ∷ []
calls_in L.TheVariants.Format d out = C.format ∷ []
calls_in (L.TheVariants.Step n) d out = replicate n (C.step d)
calls_in (L.TheVariants.Read o n) d out = C.read o n ∷ []
calls_in (L.TheVariants.ReadInto o) d out = C.read_into o out ∷ []
calls_in L.TheVariants.Cut d out = C.cut ∷ []

-- how many they are
abbrev pub times_of : Call → ℕ
times_of (L.TheVariants.Save o) = 1
times_of L.TheVariants.Format = 1
times_of (L.TheVariants.Step n) = n
times_of (L.TheVariants.Read o n) = 1
times_of (L.TheVariants.ReadInto o) = 1
times_of L.TheVariants.Cut = 1

-- ---- the answers
-- the model's answer for each case, over the pages and the output as they are then
abbrev pub answer_in : Answer → List ℕ → List ℕ → List ℕ → C.Answer
answer_in A.TheVariants.Nothing l r out = C.nothing
answer_in A.TheVariants.Begun l r out = C.begun
answer_in A.TheVariants.Made l r out = C.made
answer_in A.TheVariants.Ended l r out = C.ended
answer_in (A.TheVariants.Number n) l r out = C.number n
answer_in (A.TheVariants.Part o n) l r out = C.bytes (read_part l r o n)
answer_in (A.TheVariants.Output n) l r out = C.output n out

-- so many steps made, and the answer to all the calls after them
abbrev pub answers_in : ℕ → ℕ → C.Answer → List C.Answer
answers_in times made last = replicate made C.made ++ replicate (times - made) last

-- the data held after a call: its own where it begins a walk, of which a format has none
abbrev pub own_of : Call → List ℕ → List ℕ
own_of (L.TheVariants.Save o) d = d
own_of L.TheVariants.Format d = []
own_of (L.TheVariants.Step n) d = []
own_of (L.TheVariants.Read o n) d = []
own_of (L.TheVariants.ReadInto o) d = []
own_of L.TheVariants.Cut d = []

-- what is kept after an answer, of a call's own and of what was kept before
abbrev pub kept_after : {A : Type 0} → Answer → A → A → A
kept_after A.TheVariants.Nothing own before = before
kept_after A.TheVariants.Begun own before = own
kept_after A.TheVariants.Made own before = before
kept_after A.TheVariants.Ended own before = before
kept_after (A.TheVariants.Number n) own before = before
kept_after (A.TheVariants.Part o n) own before = before
kept_after (A.TheVariants.Output n) own before = before

abbrev pub held_after : Answer → List ℕ → List ℕ → List ℕ
held_after a own held = kept_after a own held

-- the turn after a beginning, and the answer after a step and of a read by its number
abbrev pub begun_turn : Option Walk → Result Walk Refusal → Turn
begun_turn hand (Ok w) =
    record { hand = Some w; made = 0; answer = A.TheVariants.Begun }
begun_turn hand (Err why) =
    record { hand = hand; made = 0; answer = A.TheVariants.Number (number_of why) }

abbrev pub progress_answer : Progress → Answer
progress_answer P.TheVariants.Made = A.TheVariants.Made
progress_answer P.TheVariants.Ended = A.TheVariants.Ended
progress_answer P.TheVariants.Unfit = A.TheVariants.Number 6

abbrev pub read_answer : ℕ → PageOffset → ℕ → Answer
read_answer number o n = cond (eqb number 0) (A.TheVariants.Part o n) (A.TheVariants.Number number)

-- ---- what a call gives
-- the answers to its calls, the board after them and the lent output
pub record Made : Type 0 where
  pub answers : List C.Answer
  pub board : Board
  pub out : List ℕ

-- the output after a call: only a read into it changes it
abbrev pub out_after : Call → List ℕ → List ℕ → List ℕ → List ℕ
out_after (L.TheVariants.Save o) l r out = out
out_after L.TheVariants.Format l r out = out
out_after (L.TheVariants.Step n) l r out = out
out_after (L.TheVariants.Read o n) l r out = out
out_after (L.TheVariants.ReadInto o) l r out = (filled l r o out).bytes
out_after L.TheVariants.Cut l r out = out

-- a turn of the code, over the pages and the output as it leaves them
abbrev pub turn_in : Call → Turn → List ℕ → List ℕ → List ℕ → List ℕ → List ℕ → Made
turn_in call t held d l r out =
    record {
      answers = answers_in (times_of call) t.made (answer_in t.answer l r out);
      board = board_in t.hand (held_after t.answer (own_of call d) held) l r;
      out = out;
    }

-- the model's calls on the model's board
unfoldable pub made_on : Call → Board → List ℕ → List ℕ → Made
made_on call b d out =
    let cs = calls_in call d out in
    record {
      answers = answers b cs;
      board = board_after b cs;
      out = out_after call b.left b.right out;
    }

-- so many steps: whatever the output is, as they keep it
abbrev pub Steps : ℕ → Turn → Option Walk → List ℕ → List ℕ → List ℕ → List ℕ → List ℕ → List ℕ → Type 0
Steps n t hand held d l r l' r' =
    (out : List ℕ)
    → turn_in (L.TheVariants.Step n) t held d l' r' out
    ≡ made_on (L.TheVariants.Step n) (board_in hand held l r) d out
