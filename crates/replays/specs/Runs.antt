-- What a replay keeps from call to call: the board, the output and the place in it.
-- In order: answers as bytes; how a call of a script is made; orders made and their answers written.
-- Not here: what a replay gives in the end (Replays.antt). Laws: proofs/. Assumes nothing.
use Rattle.std.specs.Prelude.{ℕ, ◌+◌, ◌-◌, cond, List, [], ◌∷◌, ◌++◌, eqb, length, replicate}
use Rattle.images.specs.Images.{overlaid}
use Rattle.reads.specs.Reads.{read_part}
use Rattle.model.specs.Calls as C
use Rattle.model.specs.Board.{Board, answers, board_after}
use Rattle.model.specs.Orders.{Order, calls_of}
use Rattle.boards.specs.declared.Call.{Call}
use Rattle.boards.specs.declared.Call as L
use Rattle.boards.specs.declared.Answer.{Answer}
use Rattle.boards.specs.declared.Answer as A
use Rattle.boards.specs.declared.Turn.{Turn}
use Rattle.boards.specs.Boards.{board_in}
use Rattle.scripts.specs.declared.Item.{Item}
use Rattle.scripts.specs.declared.Item as I
use Rattle.scripts.specs.Scripts.{Findings, orders, malformed, no_room}
use Rattle.replays.specs.declared.Job.{Job}
use Rattle.replays.specs.declared.Ran.{Ran}
use Rattle.replays.specs.Answers.{encoded}

-- ---- answers as bytes
-- the first byte of each answer
abbrev pub code_of : Answer → ℕ
code_of A.TheVariants.Nothing = 0x00
code_of A.TheVariants.Begun = 0x10
code_of A.TheVariants.Made = 0x11
code_of A.TheVariants.Ended = 0x12
code_of (A.TheVariants.Number n) = n
code_of (A.TheVariants.Part o n) = 0x20
code_of (A.TheVariants.Output n) = 0x21

-- and those after it; an output stands after its number
abbrev pub rest_of : Answer → List ℕ → List ℕ → List ℕ
rest_of A.TheVariants.Nothing l r = []
rest_of A.TheVariants.Begun l r = []
rest_of A.TheVariants.Made l r = []
rest_of A.TheVariants.Ended l r = []
rest_of (A.TheVariants.Number n) l r = []
rest_of (A.TheVariants.Part o n) l r = read_part l r o n
rest_of (A.TheVariants.Output n) l r = n ∷ []

-- the answer to all calls after the steps made; a step made where all were
abbrev pub last_in : Turn → ℕ → Answer
last_in t times = cond (eqb t.made times) A.TheVariants.Made t.answer

-- the bytes of so many answers, of which the first are steps made, up to an output
abbrev pub replies_in : ℕ → ℕ → Answer → List ℕ → List ℕ → List ℕ
replies_in times made a l r =
    replicate made 0x11 ++ (replicate (times - made) (code_of a) ++ rest_of a l r)

-- ---- how a call of a script is made
-- the call of a board, how many answers it has, the bytes and the output that are lent to it, and
-- how many bytes of its answer stand before that output
pub record Making : Type 0 where
  pub call : Call
  pub times : ℕ
  pub bytes : List ℕ
  pub output : List ℕ
  pub lead : ℕ

abbrev pub making : Job → Making
making job =
    record {
      call = job.call;
      times = job.times;
      bytes = job.bytes.now;
      output = job.output.now;
      lead = job.lead;
    }

-- a call that is made so many times with these bytes, and is lent no output
abbrev pub with_bytes : Call → ℕ → List ℕ → Making
with_bytes call times bytes =
    record { call = call; times = times; bytes = bytes; output = []; lead = 0 }

abbrev pub once : Call → Making
once call = with_bytes call 1 []

-- that of an item, with this data held
abbrev pub making_of : Item → List ℕ → Making
making_of (I.TheVariants.Save o d) held = with_bytes (L.TheVariants.Save o) 1 d.now
making_of I.TheVariants.Format held = once L.TheVariants.Format
making_of (I.TheVariants.Steps n) held = with_bytes (L.TheVariants.Step n) n held
making_of (I.TheVariants.StepWith d) held = with_bytes (L.TheVariants.Step 1) 1 d.now
making_of (I.TheVariants.Read o n) held = once (L.TheVariants.Read o n)
making_of (I.TheVariants.ReadInto o out) held =
    record {
      call = L.TheVariants.ReadInto o;
      times = 1;
      bytes = [];
      output = out.now;
      lead = 2;
    }
making_of I.TheVariants.Cut held = once L.TheVariants.Cut

-- ---- orders made, and their answers written
-- bytes written to an output from a place on, and the place after them
pub record Written : Type 0 where
  pub out : List ℕ
  pub at : ℕ

abbrev pub written : List ℕ → ℕ → List ℕ → Written
written out at bytes = record { out = overlaid out at bytes; at = at + length bytes }

-- a replay between two orders
pub record Run : Type 0 where
  pub board : Board
  pub output : Written

-- as the code keeps it
abbrev pub run_in : Ran → List ℕ → List ℕ → List ℕ → Run
run_in ran l r out =
    record {
      board = board_in ran.hand ran.held.now l r;
      output = record { out = out; at = ran.at };
    }

abbrev pub made : List C.Call → Run → Run
made cs x =
    record {
      board = board_after x.board cs;
      output = written x.output.out x.output.at (encoded (answers x.board cs));
    }

-- an order, and orders one after another
abbrev pub ordered : Order → Run → Run
ordered order x = made (calls_of x.board.hand order) x

unfoldable pub running : List Order → Run → Run
running [] x = x
running (o ∷ os) x = running os (ordered o x)

abbrev pub orders_of : Findings → List Order
orders_of (orders xs) = xs
orders_of (malformed at) = []
orders_of (no_room at) = []
