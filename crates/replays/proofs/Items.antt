-- The calls of an item, and what the engine gives for them.
-- In order: its calls; what they give.
-- Assumes nothing.
use Rattle.std.specs.Prelude.{Option}
use Rattle.walks.specs.declared.Walk.{Walk}
use Prim.Native.Nat.{ℕ}
use mathlib.Core.Path.{◌≡◌, refl}
use mathlib.Core.Bool.{Bool, true, false, cond}
use mathlib.Core.List.{List, []}
use lib.Dec.{eqb}
use lib.ListN.{length}
use Rattle.reads.specs.Reads.{read_number, read_part}
use Rattle.walks.specs.Walks as W
use Rattle.walks.specs.Walks.{Beginning, begin_save, begin_format}
use Rattle.model.specs.Calls as C
use Rattle.model.specs.Board.{Board, after_begin, turn}
use Rattle.model.specs.Orders.{held_in, calls_of}
use Rattle.boards.specs.declared.Call as L
use Rattle.boards.specs.declared.Turn.{Turn}
use Rattle.boards.specs.Boards.{hand_in, board_in, calls_in, turn_in, made_on}
use Rattle.scripts.specs.declared.Item.{Item}
use Rattle.scripts.specs.declared.Item.TheVariants.{Save, Format, Steps, StepWith, Read, ReadInto, Cut}
use Rattle.scripts.specs.Scripts.{item_in}
use Rattle.replays.specs.Runs.{Making, making_of}
use Rattle.replays.proofs.Output.{nil_of}
use Rattle.replays.proofs.Turns.{plain, Done, one_done, steps_done, into_done}

-- ---- its calls
abbrev pub calls_here : Making → List C.Call
calls_here job = calls_in job.call job.bytes job.output

-- they are those of the script
pub item_calls : (hand : Option Walk) (held : List ℕ) (item : Item)
    → calls_here (making_of item (held_in (hand_in hand held))) ≡ calls_of (hand_in hand held) (item_in item).order
item_calls hand held (Save o d) = refl
item_calls hand held Format = refl
item_calls hand held (Steps n) = refl
item_calls hand held (StepWith d) = refl
item_calls hand held (Read o n) = refl
item_calls hand held (ReadInto o out) = refl
item_calls hand held Cut = refl

-- ---- what they give
begun_plain : (b : Board) (d : List ℕ) (x : Beginning) → plain (after_begin b d x).answer ≡ true
begun_plain b d (W.refused n) = refl
begun_plain b d (W.begun w) = refl

part_plain : (n : ℕ) (part : List ℕ) (t : Bool) → plain (cond t (C.bytes part) (C.number n)) ≡ true
part_plain n part true = refl
part_plain n part false = refl

abbrev pub Promised : Making → Turn → Option Walk → List ℕ → List ℕ → List ℕ → List ℕ → List ℕ → List ℕ → Type 0
Promised job t hand held l r l' r' out =
    turn_in job.call t held job.bytes l' r' out ≡ made_on job.call (board_in hand held l r) job.bytes job.output

pub job_done : (item : Item) (d : List ℕ) (t : Turn) (hand : Option Walk) (held l r l' r' out : List ℕ)
    → (let job = making_of item d in
    length out ≡ length job.output → Promised job t hand held l r l' r' out
    → Done job t (board_in hand held l r) held l' r' out)
unfolding turn
job_done (Save o own) d t hand held l r l' r' out k e =
    let b = board_in hand held l r in
    one_done (L.TheVariants.Save o) own.now held t b (C.save o own.now) l' r' out refl refl
    (begun_plain b own.now (begin_save l r o own.now)) refl (nil_of out k) e
job_done Format d t hand held l r l' r' out k e =
    let b = board_in hand held l r in
    one_done L.TheVariants.Format [] held t b C.format l' r' out refl refl (begun_plain b [] (begin_format l r)) refl
    (nil_of out k) e
job_done (Steps n) d t hand held l r l' r' out k e = steps_done n d held t hand l r l' r' out (nil_of out k) e
job_done (StepWith own) d t hand held l r l' r' out k e =
    steps_done 1 own.now held t hand l r l' r' out (nil_of out k) e
job_done (Read o n) d t hand held l r l' r' out k e =
    let m = read_number l r o n in
    one_done (L.TheVariants.Read o n) [] held t (board_in hand held l r) (C.read o n) l' r' out refl refl
    (part_plain m (read_part l r o n) (eqb m 0)) refl (nil_of out k) e
job_done (ReadInto o given) d t hand held l r l' r' out k e =
    into_done o given.now held t (board_in hand held l r) l' r' out e
job_done Cut d t hand held l r l' r' out k e =
    one_done L.TheVariants.Cut [] held t (board_in hand held l r) C.cut l' r' out refl refl refl refl
    (nil_of out k) e
