-- Answers never take more than the room that the script's check keeps for them.
-- In order: answers of one byte; reads; the answers of an item; an output that is lent.
-- Assumes nothing.
use Rattle.std.specs.Prelude.{Option, Some, None}
use Prim.Native.Nat.{ℕ, zero, suc, ◌+◌, ◌≤◌}
use mathlib.Core.Path.{◌≡◌, refl, ap}
use mathlib.Core.Bool.{Bool, true, false, cond}
use mathlib.Core.List.{List, [], ◌∷◌, ◌++◌, append-nil}
use native.Mathlib.Omega.{arith}
use lib.Dec.{eqb, leb}
use lib.ListN.{length, take, drop, replicate, length-append, length-take}
use borrow.Author.Tests.{eq-eqb, eqb-true, le-leb}
use Rattle.flash.specs.Flash.{erasure}
use Rattle.flash.proofs.Laws.{length_erasure}
use Rattle.pages.specs.declared.PageOffset.{PageOffset}
use Rattle.pages.specs.Pages.{status_of}
use Rattle.requests.specs.Legal.{Legal}
use Rattle.requests.proofs.Laws.{legal}
use Rattle.reads.specs.Reads.{live_number, live_page, read_number, read_part, output_after, filled}
use Rattle.walks.specs.Walks as W
use Rattle.walks.specs.Walks.{Beginning, Said, begin_save, begin_format, step_of}
use Rattle.model.specs.Calls.{Call}
use Rattle.model.specs.Calls as C
use Rattle.model.specs.Board as B
use Rattle.model.specs.Board.{Board, after_begin, answer_of, handed, step_hand, turn, answers}
use Rattle.model.specs.Orders.{held_in, calls_of}
use Rattle.scripts.specs.declared.Item.{Item}
use Rattle.scripts.specs.declared.Item.TheVariants.{
  Save,
  Format,
  Steps,
  StepWith,
  Read,
  ReadInto,
  Cut,
}
use Rattle.scripts.specs.Scripts.{item_in, part_room}
use Rattle.replays.specs.Answers.{answer_bytes, encoded}
use Rattle.replays.specs.Runs.{making_of}

-- how many bytes a call is answered by
abbrev size : Board → Call → ℕ
size b c = length (answer_bytes (turn b c).answer)

-- ---- answers of one byte
begin_one : (b : Board) (d : List ℕ) (x : Beginning) → length (answer_bytes (after_begin b d x).answer) ≡ 1
begin_one b d (W.refused n) = refl
begin_one b d (W.begun w) = refl

said_one : (x : Said) → length (answer_bytes (answer_of x)) ≡ 1
said_one (W.number n) = refl
said_one W.made = refl
said_one W.ended = refl

step_one : (b : Board) (d : List ℕ) → size b (C.step d) ≡ 1
unfolding turn
step_one b d = go b.hand
  where
    go : (hand : Option B.Hand) → length (answer_bytes (step_hand b hand d).answer) ≡ 1
    go None = refl
    go (Some h) = said_one (step_of h.walk b.left b.right (handed h.held d)).said

steps_size : (n : ℕ) (b : Board) (d : List ℕ) → length (encoded (answers b (replicate n (C.step d)))) ≡ n
unfolding answers encoded
steps_size zero b d = refl
steps_size (suc n) b d =
    let bytes = answer_bytes (turn b (C.step d)).answer in
    let next = encoded (answers (turn b (C.step d)).board (replicate n (C.step d))) in
    let both : length (bytes ++ next) ≡ length bytes + length next = length-append bytes next in
    let one : length bytes ≡ 1 = step_one b d in
    let more : length next ≡ n = steps_size n (turn b (C.step d)).board d in
    omega arith

-- ---- reads
take_most : (k : ℕ) (xs : List ℕ) → length (take k xs) ≤ k
take_most k xs = simp length-take (omega arith)

-- the part that is read has room
part_room_lem : (l r : List ℕ) (o : PageOffset) (n : ℕ) → read_number l r o n ≡ 0
    → 1 + length (read_part l r o n) ≤ part_room n
unfolding read_number read_part
part_room_lem l r o n z =
    let page = live_page (status_of l r).live l r in
    let most : length (take n (drop o.0 page)) ≤ n = take_most n (drop o.0 page) in
    let part : read_part l r o n ≡ take n (drop o.0 page) =
    ap (λ (t : Bool). cond t (take n (drop o.0 page)) []) (eq-eqb (read_number l r o n) 0 z) in
    let fits = small (legal (length l) (length r) o n (live_number (status_of l r).live) z).0 in
    let room : part_room n ≡ 1 + n = ap (λ (t : Bool). cond t (1 + n) 1) (le-leb n 4092 fits) in
    let size : length (read_part l r o n) ≡ length (take n (drop o.0 page)) = ap length part in
    omega arith
  where
    small : Legal (length l) (length r) o n → n ≤ 4092
    small h = let a = h.in_image in let b = h.most in let d = h.ends in omega arith

read_size : (b : Board) (o : PageOffset) (n : ℕ) → size b (C.read o n) ≤ part_room n
unfolding turn
read_size b o n = go (eqb (read_number b.left b.right o n) 0) refl
  where
    number : ℕ
    number = read_number b.left b.right o n

    part : List ℕ
    part = read_part b.left b.right o n

    one : (t : Bool) → 1 ≤ cond t (1 + n) 1
    one true = omega arith
    one false = omega arith

    go : (t : Bool) → eqb number 0 ≡ t
        → length (answer_bytes (cond t (C.bytes part) (C.number number))) ≤ part_room n
    go true e = let h = part_room_lem b.left b.right o n (eqb-true number 0 e) in omega arith
    go false e = one (leb n 4092)

part_most : (l r : List ℕ) (o : PageOffset) (n : ℕ) → length (read_part l r o n) ≤ n
unfolding read_part
part_most l r o n = go (eqb (read_number l r o n) 0) (drop o.0 (live_page (status_of l r).live l r))
  where
    go : (t : Bool) (xs : List ℕ) → length (cond t (take n xs) []) ≤ n
    go true xs = take_most n xs
    go false xs = omega arith

output_most : (n : ℕ) (asked out : List ℕ) → length asked ≤ length out → length (output_after n asked out) ≤ length out
unfolding output_after
output_most n asked out h = go (eqb n 0) (eqb n 5)
  where
    go : (t u : Bool) → length (cond t asked (cond u (erasure out) out)) ≤ length out
    go true u = h
    go false true = let e = length_erasure out in omega arith
    go false false = omega arith

into_size : (b : Board) (o : PageOffset) (out : List ℕ) → size b (C.read_into o out) ≤ 2 + length out
unfolding turn filled
into_size b o out =
    let n = length out in
    let h : length (filled b.left b.right o out).bytes ≤ length out =
    output_most (read_number b.left b.right o n) (read_part b.left b.right o n) out
    (part_most b.left b.right o n) in
    omega arith

-- ---- the answers of an item
single : (b : Board) (c : Call) (room : ℕ) → size b c ≤ room → length (encoded (answers b (c ∷ []))) ≤ room
unfolding answers encoded
single b c room h =
    let bytes = answer_bytes (turn b c).answer in
    let e : length (answer_bytes (turn b c).answer ++ []) ≡ size b c = ap length (append-nil bytes) in
    omega arith

pub item_fits : (b : Board) (x : Item)
    → length (encoded (answers b (calls_of b.hand (item_in x).order))) ≤ (item_in x).room
unfolding turn answers encoded
item_fits b (Save o d) =
    let e = begin_one b d.now (begin_save b.left b.right o d.now) in single b (C.save o d.now) 1 (omega arith)
item_fits b Format = let e = begin_one b [] (begin_format b.left b.right) in single b C.format 1 (omega arith)
item_fits b (Steps n) = let e = steps_size n b (held_in b.hand) in omega arith
item_fits b (StepWith d) = let e = steps_size 1 b d.now in omega arith
item_fits b (Read o n) = single b (C.read o n) (part_room n) (read_size b o n)
item_fits b (ReadInto o out) = single b (C.read_into o out.now) (2 + length out.now) (into_size b o out.now)
item_fits b Cut = single b C.cut 1 (omega arith)

-- ---- an output that is lent
-- it has room behind the bytes before it
pub lends : (at m : ℕ) (held : List ℕ) (item : Item) → at + (item_in item).room ≤ m
    → let job = making_of item held in at + job.lead + length job.output ≤ m
lends at m held (Save o d) h = omega arith
lends at m held Format h = omega arith
lends at m held (Steps n) h = omega arith
lends at m held (StepWith d) h = omega arith
lends at m held (Read o n) h = omega arith
lends at m held (ReadInto o out) h = omega arith
lends at m held Cut h = omega arith
