-- A script made call by call: what is answered, one next after another, is what the book answers to the calls of the
-- script.
-- In order: lines; orders; the steps of a line; the next call; a whole script.
-- Assumes nothing.
use Rattle.std.specs.Prelude.{Option, Some, None}
use Prim.Native.Nat.{ℕ, zero, suc, ◌+◌, ◌-◌, ◌<◌, ◌≤◌}
use mathlib.Core.Path.{◌≡◌, refl, sym, ap, subst, ◌∙◌}
use mathlib.Core.Bool.{Bool, true, false, cond}
use mathlib.Core.List.{List, [], ◌∷◌, ◌++◌, append_assoc, append-nil}
use native.Mathlib.Omega.{arith}
use lib.Dec.{eqb, ltb, leb}
use lib.ListN.{length, take, drop, replicate, length-drop, drop_of_length-le}
use lib.Seq.{drop-drop}
use borrow.Author.Tests.{ltb-false}
use Rattle.flash.specs.Flash.{Bytes}
use Rattle.pages.specs.declared.PageOffset.{PageOffset}
use Rattle.texts.specs.Texts.{before_first, is, up_to, line_at, next_line, word_at}
use Rattle.digits.specs.Digits.{bytes_of}
use Rattle.asks.specs.Asks as T
use Rattle.asks.specs.Asks.{Asks, asks_of}
use Rattle.walks.specs.Walks as W
use Rattle.walks.specs.Walks.{step_of, kept}
use Rattle.walks.proofs.Runs.{unmade_keeps}
use Rattle.model.specs.Calls as C
use Rattle.model.specs.Board as B
use Rattle.model.specs.Board.{Board, Turn, handed, step_hand, after_step, powered, turn, answers, board_after}
use Rattle.model.specs.Decided.{is_made, is_begun}
use Rattle.model.specs.Orders.{Order, one, held, held_in, calls_from, true_answers}
use Rattle.model.proofs.Orders.{answers_append, ByteOrders, orders_book}
use Rattle.boards.proofs.Laws.{repeats}
use Rattle.turns.specs.Turns.{zeros}
use Rattle.sessions.specs.Sessions.{joined, lines_of, words_of, order_for, line_orders, orders_in, orders_of, script_calls, Stand, remaining, Next, stands, nexts, step_next, order_next, next_from, next_of}

-- ---- lines
-- the first line of a text, and those after it
first_line : (s : List ℕ) → 0 < length s → lines_of s ≡ up_to (is 10) s ∷ lines_of (drop (before_first (is 10) s + 1) s)
unfolding lines_of before_first
first_line [] h = absurd (omega arith)
first_line (x ∷ xs) h = go (eqb x 10) xs (λ k. first_line xs k)
  where
    go : (t : Bool) (ys : List ℕ)
        → (0 < length ys → lines_of ys ≡ up_to (is 10) ys ∷ lines_of (drop (before_first (is 10) ys + 1) ys))
        → cond t ([] ∷ lines_of ys) (joined x (lines_of ys))
        ≡ take (cond t 0 (suc (before_first (is 10) ys))) (x ∷ ys)
        ∷ lines_of (drop (cond t 0 (suc (before_first (is 10) ys)) + 1) (x ∷ ys))
    go true ys rec = refl
    go false [] rec = refl
    go false (y ∷ ys) rec =
        let n = before_first (is 10) (y ∷ ys) in
        let m : suc n + 1 ≡ suc (n + 1) = omega arith in
        ap (joined x) (rec (omega arith))
        ∙ ap (λ (k : ℕ). take (suc n) (x ∷ y ∷ ys) ∷ lines_of (drop k (x ∷ y ∷ ys))) (sym m)

-- at a place
pub lines_at : (text : List ℕ) (place : ℕ) → place < length text
    → lines_of (drop place text) ≡ up_to (is 10) (drop place text) ∷ lines_of (drop (next_line text place) text)
unfolding next_line
lines_at text place h =
    let s = drop place text in
    let n = before_first (is 10) s in
    let size : length s ≡ length text - place = length-drop place text in
    first_line s (omega arith)
    ∙ ap (λ (ys : List ℕ). up_to (is 10) s ∷ lines_of ys) (drop-drop (n + 1) place text ∙ go (ltb (place + n)
    (length text)) refl)
  where
    go : (t : Bool) → ltb (place + before_first (is 10) (drop place text)) (length text) ≡ t
        → drop (place + (before_first (is 10) (drop place text) + 1)) text
        ≡ drop (cond t (place + before_first (is 10) (drop place text) + 1) (length text)) text
    go true e =
        let m : place + (before_first (is 10) (drop place text) + 1)
        ≡ place + before_first (is 10) (drop place text) + 1 = omega arith in
        ap (λ (k : ℕ). drop k text) m
    go false e =
        let n = before_first (is 10) (drop place text) in
        let past : length text ≤ place + n = ltb-false (place + n) (length text) e in
        drop_of_length-le text {i = place + (n + 1)} (omega arith)
        ∙ sym (drop_of_length-le text {i = length text} (omega arith))

-- ---- orders
pub orders_at : (text : List ℕ) (place : ℕ) → place < length text
    → orders_of (drop place text) ≡ line_orders (line_at text place) zeros ++ orders_of (drop (next_line text place) text)
unfolding orders_in line_at
orders_at text place h = ap orders_in (lines_at text place h)

no_orders : (text : List ℕ) (place : ℕ) → length text ≤ place → orders_of (drop place text) ≡ []
unfolding orders_in lines_of
no_orders text place h = ap orders_of (drop_of_length-le text h)

-- ---- the steps of a line
-- a step keeps the data of the walk in hand
still_held : (b : Board) (d : List ℕ) → held_in (turn b (C.step d)).board.hand ≡ held_in b.hand
unfolding turn
still_held b d = go b.hand refl
  where
    go : (hand : Option B.Hand) → b.hand ≡ hand → held_in (step_hand b hand d).board.hand ≡ held_in b.hand
    go None e = refl
    go (Some h) e = ap held_in (sym e)

-- a step that isn't made changes nothing
unmade_stays : (b : Board) (d : List ℕ) → is_made (turn b (C.step d)).answer ≡ false → (turn b (C.step d)).board ≡ b
unfolding turn
unmade_stays b d f = go b.hand refl f
  where
    go : (hand : Option B.Hand) → b.hand ≡ hand → is_made (step_hand b hand d).answer ≡ false
        → (step_hand b hand d).board ≡ b
    go None e f = refl
    go (Some h) e f =
        let o = step_of h.walk b.left b.right (handed h.held d) in
        let keeps = unmade_keeps h.walk b.left b.right (handed h.held d) (λ z. unlike o.said z f) in
        ap (λ (x : W.Outcome). (after_step h.held x).board) keeps
        ∙ ap (λ (x : Option B.Hand). record { left = b.left; right = b.right; hand = x }) (sym e)
      where
        unlike : (said : W.Said) → said ≡ W.made → is_made (B.answer_of said) ≡ false → ⊥
        unlike said z g =
            let y : is_made (B.answer_of W.made) ≡ false = ap (λ (x : W.Said). is_made (B.answer_of x)) (sym z) ∙ g in
            let q : ◌≡◌ {A = ℕ} 0 1 = cc in absurd (omega (arith, q))

-- ---- the next call
-- answers of which none is that a walk is begun
abbrev pub Quiet : List C.Answer → Type 0
Quiet [] = Unit {0}
Quiet (x ∷ xs) = (is_begun x ≡ false) × Quiet xs

-- the calls that are made now, what they are answered and leave, and that the others are still to be made; more than one
-- are steps
pub record Follows (text : List ℕ) (s : Stand) (x : Next) : Type 0 where
  pub made : List C.Call
  pub calls : remaining text s ≡ made ++ remaining text x.stand
  pub answered : answers s.board made ≡ x.answers
  pub board : board_after s.board made ≡ x.stand.board
  pub quiet : 1 < length made → Quiet x.answers

-- a step that is made
is_made_lem : (x : C.Answer) → is_made x ≡ true → x ≡ C.made
is_made_lem (C.number n) e = cc
is_made_lem C.begun e = cc
is_made_lem C.made e = refl
is_made_lem C.ended e = cc
is_made_lem (C.bytes part) e = cc
is_made_lem (C.output n out) e = cc
is_made_lem C.nothing e = cc

step_goes : (text : List ℕ) (place k : ℕ) (b : Board) → is_made (turn b (C.step (held_in b.hand))).answer ≡ true
    → let t = turn b (C.step (held_in b.hand)) in
    Follows text (stands place (suc k) b) (nexts (C.made ∷ []) (stands place k t.board) zeros)
unfolding remaining answers board_after
step_goes text place k b made =
    let c = C.step (held_in b.hand) in
    let t = turn b c in
    let same : C.step (held_in t.board.hand) ≡ c = ap C.step (still_held b (held_in b.hand)) in
    record {
      made = c ∷ [];
      calls = ap (λ (d : C.Call).
          c ∷ (replicate k d ++ calls_from (board_after t.board (replicate k d)) (orders_of (drop place text))))
          (sym same);
      answered = ap (λ (x : C.Answer). x ∷ []) (is_made_lem t.answer made);
      board = refl;
      quiet = λ h. absurd (omega arith);
    }

-- a step begins nothing
step_quiet : (b : Board) (d : List ℕ) → is_begun (turn b (C.step d)).answer ≡ false
unfolding turn
step_quiet b d = go b.hand
  where
    said_quiet : (x : W.Said) → is_begun (B.answer_of x) ≡ false
    said_quiet (W.number n) = refl
    said_quiet W.made = refl
    said_quiet W.ended = refl

    go : (hand : Option B.Hand) → is_begun (step_hand b hand d).answer ≡ false
    go None = refl
    go (Some h) = said_quiet (step_of h.walk b.left b.right (handed h.held d)).said

all_quiet : (n : ℕ) (x : C.Answer) → is_begun x ≡ false → Quiet (replicate n x)
all_quiet zero x e = tt
all_quiet (suc n) x e = (e, all_quiet n x e)

-- one that isn't: those after it would be answered alike
step_stops : (text : List ℕ) (place k : ℕ) (b : Board) → is_made (turn b (C.step (held_in b.hand))).answer ≡ false
    → let t = turn b (C.step (held_in b.hand)) in
    Follows text (stands place (suc k) b) (nexts (replicate (suc k) t.answer) (stands place 0 t.board) zeros)
unfolding remaining board_after
step_stops text place k b unmade =
    let c = C.step (held_in b.hand) in
    let t = turn b c in
    let steps = replicate (suc k) c in
    let stays : t.board ≡ b = unmade_stays b (held_in b.hand) unmade in
    let all = repeats (suc k) b c stays in
    record {
      made = steps;
      calls = ap (λ (z : Board). steps ++ calls_from z (orders_of (drop place text))) (all.1 ∙ sym stays);
      answered = all.0;
      board = all.1 ∙ sym stays;
      quiet = λ h. all_quiet (suc k) t.answer (step_quiet b (held_in b.hand));
    }

step_follows : (text : List ℕ) (place k : ℕ) (b : Board)
    → Follows text (stands place (suc k) b) (step_next place k (turn b (C.step (held_in b.hand))) zeros)
step_follows text place k b = go (is_made (turn b (C.step (held_in b.hand))).answer) refl
  where
    go : (q : Bool) → is_made (turn b (C.step (held_in b.hand))).answer ≡ q
        → let t = turn b (C.step (held_in b.hand)) in
        Follows text (stands place (suc k) b)
        (cond q (nexts (C.made ∷ []) (stands place k t.board) zeros)
        (nexts (replicate (suc k) t.answer) (stands place 0 t.board) zeros))
    go true e = step_goes text place k b e
    go false e = step_stops text place k b e

-- a line: it has one order at most
data Single : List Order → Type 0 where
  none_only : Single []
  one_only : (x : Order) → Single (x ∷ [])

copy_single : (t : Bool) (x : Order) → Single (cond t (x ∷ []) [])
copy_single true x = one_only x
copy_single false x = none_only

single : (asks : Asks) (d out : List ℕ) → Single (order_for asks d out)
single T.nothing d out = none_only
single (T.save o) d out = one_only (one (C.save o d))
single T.format d out = one_only (one C.format)
single (T.steps n) d out = one_only (held n)
single T.step_with d out = one_only (one (C.step d))
single (T.read o n) d out = one_only (one (C.read o n))
single (T.read_into o n) d out = copy_single (leb n (length out)) (one (C.read_into o (take n out)))
single T.cut d out = one_only (one C.cut)
single (T.wrong fault n) d out = none_only

order_follows : (text : List ℕ) (place after : ℕ) (b : Board) (xs : List Order) → Single xs
    → orders_of (drop place text) ≡ xs ++ orders_of (drop after text)
    → Follows text (stands place 0 b) (order_next after b zeros xs)
unfolding remaining answers board_after calls_from
order_follows text place after b [] none_only e =
    record { made = []; calls = ap (calls_from b) e; answered = refl; board = refl; quiet = λ h. absurd (omega arith) }
order_follows text place after b (held n ∷ []) (one_only _) e =
    record { made = []; calls = ap (calls_from b) e; answered = refl; board = refl; quiet = λ h. absurd (omega arith) }
order_follows text place after b (one c ∷ []) (one_only _) e =
    record {
      made = c ∷ [];
      calls = ap (calls_from b) e;
      answered = refl;
      board = refl;
      quiet = λ h. absurd
          (omega arith);
    }
order_follows text place after b (one c ∷ (_ ∷ _)) single e = elim single [ ]
order_follows text place after b (held n ∷ (_ ∷ _)) single e = elim single [ ]

pub next_follows : (text : List ℕ) (s : Stand) → (s.left ≡ 0 → s.at < length text) → Follows text s
    (next_of text s zeros)
unfolding next_of
next_follows text s h = go s.left refl
  where
    go : (n : ℕ) → s.left ≡ n → Follows text s (next_from text s.at s.left s.board zeros)
    go zero e =
        subst (λ (m : ℕ). Follows text (stands s.at m s.board) (next_from text s.at m s.board zeros)) (sym e)
        (order_follows text s.at (next_line text s.at) s.board (line_orders (line_at text s.at) zeros)
        (single (asks_of (line_at text s.at)) (bytes_of (word_at 2 (line_at text s.at))) zeros)
        (orders_at text s.at (h e)))
    go (suc k) e =
        subst (λ (m : ℕ). Follows text (stands s.at m s.board) (next_from text s.at m s.board zeros)) (sym e)
        (step_follows text s.at k s.board)

-- ---- a whole script
-- what is answered by so many nexts, one after another, and where the script then stands
abbrev pub stands_after : List ℕ → ℕ → Stand → Stand
stands_after text zero s = s
stands_after text (suc n) s = stands_after text n (next_of text s zeros).stand

abbrev pub answered : List ℕ → ℕ → Stand → List C.Answer
answered text zero s = []
answered text (suc n) s = (next_of text s zeros).answers ++ answered text n (next_of text s zeros).stand

-- while something is left, there is a next
abbrev pub Going : List ℕ → ℕ → Stand → Type 0
Going text zero s = Unit {0}
Going text (suc n) s = (s.left ≡ 0 → s.at < length text) × Going text n (next_of text s zeros).stand

pub so_far : (text : List ℕ) (n : ℕ) (s : Stand) → Going text n s
    → (let z = stands_after text n s in
    answers s.board (remaining text s) ≡ answered text n s ++ answers z.board (remaining text z))
so_far text zero s h = refl
so_far text (suc n) s h =
    let x = next_of text s zeros in
    let z = stands_after text n x.stand in
    let f = next_follows text s h.0 in
    ap (answers s.board) f.calls ∙ answers_append s.board f.made (remaining text x.stand)
    ∙ (λ i. f.answered i ++ answers (f.board i) (remaining text x.stand))
    ∙ ap (λ (ys : List C.Answer). x.answers ++ ys) (so_far text n x.stand h.1)
    ∙ sym (append_assoc x.answers (answered text n x.stand) (answers z.board (remaining text z)))

pub nothing_left : (text : List ℕ) (s : Stand) → s.left ≡ 0 → length text ≤ s.at → remaining text s ≡ []
unfolding remaining board_after calls_from
nothing_left text s e h =
    ap
    (λ (n : ℕ).
    let steps = replicate n (C.step (held_in s.board.hand)) in
    steps ++ calls_from (board_after s.board steps) (orders_of (drop s.at text)))
    e
    ∙ ap (calls_from s.board) (no_orders text s.at h)

-- the bytes of a script's data
data_bytes : (digits : List ℕ) → Bytes (bytes_of digits)
unfolding bytes_of
data_bytes [] = tt
data_bytes (high ∷ []) = tt
data_bytes (high ∷ (low ∷ s)) = (omega arith, data_bytes s)

copy_bytes : (t : Bool) (o : PageOffset) (given : List ℕ) → ByteOrders (cond t (one (C.read_into o given) ∷ []) [])
copy_bytes true o given = (tt, tt)
copy_bytes false o given = tt

order_bytes : (asks : Asks) (d out : List ℕ) → Bytes d → ByteOrders (order_for asks d out)
order_bytes T.nothing d out h = tt
order_bytes (T.save o) d out h = (h, tt)
order_bytes T.format d out h = (tt, tt)
order_bytes (T.steps n) d out h = (tt, tt)
order_bytes T.step_with d out h = (tt, tt)
order_bytes (T.read o n) d out h = (tt, tt)
order_bytes (T.read_into o n) d out h = copy_bytes (leb n (length out)) o (take n out)
order_bytes T.cut d out h = (tt, tt)
order_bytes (T.wrong fault n) d out h = tt

both_bytes : (xs ys : List Order) → ByteOrders xs → ByteOrders ys → ByteOrders (xs ++ ys)
both_bytes [] ys h k = k
both_bytes (x ∷ xs) ys h k = (h.0, both_bytes xs ys h.1 k)

orders_bytes : (lines : List (List ℕ)) → ByteOrders (orders_in lines)
unfolding orders_in
orders_bytes [] = tt
orders_bytes (line ∷ lines) =
    let words = words_of line in
    both_bytes (line_orders words zeros) (orders_in lines)
    (order_bytes (asks_of words) (bytes_of (word_at 2 words)) zeros (data_bytes (word_at 2 words))) (orders_bytes lines)

-- Every script, on any two pages: where so many nexts have come to its end, what they were answered, one after another,
-- is what the book answers to the calls of the script (number 1 throughout where the pages have no legal length).
abbrev pub first : List ℕ → List ℕ → Stand
first l r = stands 0 0 (powered l r)

pub session_book : (text l r : List ℕ) (n : ℕ) → Bytes l → Bytes r → Going text n (first l r)
    → (stands_after text n (first l r)).left ≡ 0 → length text ≤ (stands_after text n (first l r)).at
    → answered text n (first l r) ≡ true_answers l r (script_calls text l r)
unfolding remaining answers board_after
session_book text l r n bl br going e h =
    let z = stands_after text n (first l r) in
    let all = so_far text n (first l r) going in
    sym (append-nil (answered text n (first l r)))
    ∙ ap (λ (cs : List C.Call). answered text n (first l r) ++ answers z.board cs) (sym (nothing_left text z e h))
    ∙ sym all ∙ orders_book l r (orders_of text) bl br (orders_bytes (lines_of text))
