-- The board: two pages and the walk in hand, with every call answered by the very definition that
-- its function's contract cites.
-- In order: the board; what each call answers and leaves; a sequence of calls.
-- Assumes nothing.
use Rattle.std.specs.Prelude.{Option, Some, None}
use Rattle.std.specs.Prelude.{ℕ, cond, List, [], ◌∷◌, eqb, length}
use Rattle.reads.specs.Reads.{read_number, read_part, filled}
use Rattle.walks.specs.declared.Walk.{Walk}
use Rattle.walks.specs.Walks as W
use Rattle.walks.specs.Walks.{Beginning, Said, begin_save, begin_format, step_of}
use Rattle.model.specs.Calls.{Call, Answer}
use Rattle.model.specs.Calls as C

-- the walk in hand, and the data it was begun with
pub record Hand : Type 0 where
  pub walk : Walk
  pub held : List ℕ

pub record Board : Type 0 where
  pub left : List ℕ
  pub right : List ℕ
  pub hand : Option Hand

-- what a call answers, and the board after it
pub record Turn : Type 0 where
  pub answer : Answer
  pub board : Board

abbrev pub holding : Board → Option Hand → Board
holding b hand = record { left = b.left; right = b.right; hand = hand }

-- "A walk is in hand from the beginning that gives it .. until a cut or the next beginning that
-- isn't refused."
abbrev pub after_begin : Board → List ℕ → Beginning → Turn
after_begin b d (W.refused n) = record { answer = C.number n; board = b }
after_begin b d (W.begun w) =
    record { answer = C.begun; board = holding b (Some (record { walk = w; held = d })) }

abbrev pub answer_of : Said → Answer
answer_of (W.number n) = C.number n
answer_of W.made = C.made
answer_of W.ended = C.ended

-- the data handed to a step: the held data where the lengths agree (its bytes are the shop's to
-- keep), else data of another length
abbrev pub handed : List ℕ → List ℕ → List ℕ
handed held d = cond (eqb (length d) (length held)) held d

-- "each step handing it on"
abbrev pub after_step : List ℕ → W.Outcome → Turn
after_step held o =
    record {
      answer = answer_of o.said;
      board =
          record {
            left = o.left;
            right = o.right;
            hand = Some (record { walk = o.walk; held = held });
          };
    }

abbrev pub step_hand : Board → Option Hand → List ℕ → Turn
step_hand b None d = record { answer = C.nothing; board = b }
step_hand b (Some h) d =
    after_step h.held (step_of h.walk b.left b.right (handed h.held d))

-- a part read: its bytes, or the number
abbrev pub part_read : ℕ → List ℕ → Answer
part_read n part = cond (eqb n 0) (C.bytes part) (C.number n)

-- each call on the board
unfoldable pub turn : Board → Call → Turn
turn b (C.save o d) = after_begin b d (begin_save b.left b.right o d)
turn b C.format = after_begin b [] (begin_format b.left b.right)
turn b (C.step d) = step_hand b b.hand d
turn b (C.read o n) =
    record {
      answer = part_read (read_number b.left b.right o n) (read_part b.left b.right o n);
      board = b;
    }
turn b (C.read_into o out) =
    let f = filled b.left b.right o out in
    record { answer = C.output f.number f.bytes; board = b }
turn b C.cut = record { answer = C.nothing; board = holding b None }

-- the board at first: any two pages, and no walk
abbrev pub powered : List ℕ → List ℕ → Board
powered l r = record { left = l; right = r; hand = None }

-- the answers to a sequence of calls, and the board after it
unfoldable pub answers : Board → List Call → List Answer
answers b [] = []
answers b (c ∷ cs) = (turn b c).answer ∷ answers (turn b c).board cs

unfoldable pub board_after : Board → List Call → Board
board_after b [] = b
board_after b (c ∷ cs) = board_after (turn b c).board cs
