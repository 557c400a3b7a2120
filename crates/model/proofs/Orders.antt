-- Orders: their calls one after another, and that the answers are the book's.
-- In order: a sequence after a sequence; pages of number 1; the bytes of the data; demand 3 of orders.
-- Assumes nothing.
use Rattle.std.specs.Prelude.{Option}
use Prim.Native.Nat.{ℕ, zero, suc}
use mathlib.Core.Path.{◌≡◌, refl, sym, ap, ◌∙◌}
use mathlib.Core.Bool.{Bool, true, false, cond}
use mathlib.Core.List.{List, [], ◌∷◌, ◌++◌}
use lib.Dec.{eqb}
use lib.ListN.{length, replicate}
use Rattle.flash.specs.Flash.{Bytes}
use Rattle.pages.specs.declared.PageOffset.{PageOffset}
use Rattle.pages.specs.Pages.{status_of}
use Rattle.requests.specs.Legal.{RightPages}
use Rattle.requests.specs.Numbers.{wrong_pages, span_number, pages_number, request_number}
use Rattle.requests.proofs.Laws.{right_pages}
use Rattle.reads.specs.Reads.{live_number, read_number, read_part, output_after, filled}
use Rattle.plans.specs.declared.Request.TheVariants.{Save, Format}
use Rattle.walks.specs.Walks.{beginning, first_walk, begin_save, begin_format}
use Rattle.model.specs.Calls.{Call, Answer, ByteCall, ByteCalls}
use Rattle.model.specs.Calls as C
use Rattle.model.specs.Board as B
use Rattle.model.specs.Board.{Board, powered, turn, answers, board_after}
use Rattle.model.specs.Book.{opened, book_answers, hearing}
use Rattle.model.specs.Orders.{Order, one, held, held_in, calls_of, calls_from, refusal, refusals, true_answers}
use Rattle.model.proofs.Demand3.{demand_3}

-- ---- a sequence after a sequence
pub answers_append : (b : Board) (cs ds : List Call)
    → answers b (cs ++ ds) ≡ answers b cs ++ answers (board_after b cs) ds
unfolding answers board_after
answers_append b [] ds = refl
answers_append b (c ∷ cs) ds = ap (◌∷◌ (turn b c).answer) (answers_append (turn b c).board cs ds)

pub board_append : (b : Board) (cs ds : List Call) → board_after b (cs ++ ds) ≡ board_after (board_after b cs) ds
unfolding board_after
board_append b [] ds = refl
board_append b (c ∷ cs) ds = board_append (turn b c).board cs ds

-- ---- pages of number 1
wrong_request : (p q : ℕ) (o : PageOffset) (n rest : ℕ) → wrong_pages p q ≡ true → request_number p q o n rest ≡ 1
unfolding request_number
wrong_request p q o n rest w = ap (λ (t : Bool). cond t 1 (span_number p o n rest)) w

-- a call on a board with no walk is refused, and the board is as it was
pub wrong_turn : (l r : List ℕ) (c : Call) → wrong_pages (length l) (length r) ≡ true
    → turn (powered l r) c ≡ (record { answer = refusal c; board = powered l r })
unfolding turn begin_save begin_format pages_number read_number filled output_after
wrong_turn l r (C.save o d) w =
    ap (λ (n : ℕ). B.after_begin (powered l r) d (beginning n (first_walk Save l r o (length d))))
    (wrong_request (length l) (length r) o (length d) 0 w)
wrong_turn l r C.format w =
    ap (λ (t : Bool). B.after_begin (powered l r) [] (beginning (cond t 1 0) (first_walk Format l r
    (record { 0 = 4 }) 0))) w
wrong_turn l r (C.step d) w = refl
wrong_turn l r (C.read o n) w =
    ap (λ (m : ℕ). record { answer = B.part_read m (read_part l r o n); board = powered l r })
    (wrong_request (length l) (length r) o n (live_number (status_of l r).live) w)
wrong_turn l r (C.read_into o out) w =
    ap (λ (m : ℕ). record {
      answer = C.output m (output_after m (read_part l r o (length out)) out);
      board = powered l r;
    })
    (wrong_request (length l) (length r) o (length out) (live_number (status_of l r).live) w)
wrong_turn l r C.cut w = refl

pub wrong_of : (p q : ℕ) → (RightPages p q → ⊥) → wrong_pages p q ≡ true
wrong_of p q h = go (wrong_pages p q) refl
  where
    go : (t : Bool) → wrong_pages p q ≡ t → t ≡ true
    go true e = refl
    go false e = absurd (h (right_pages p q e))

pub wrong_board : (l r : List ℕ) (cs : List Call) → wrong_pages (length l) (length r) ≡ true
    → board_after (powered l r) cs ≡ powered l r
unfolding board_after
wrong_board l r [] w = refl
wrong_board l r (c ∷ cs) w =
    ap (λ (t : B.Turn). board_after t.board cs) (wrong_turn l r c w) ∙ wrong_board l r cs w

wrong_answers : (l r : List ℕ) (cs : List Call) → wrong_pages (length l) (length r) ≡ true
    → answers (powered l r) cs ≡ refusals cs
unfolding answers refusals
wrong_answers l r [] w = refl
wrong_answers l r (c ∷ cs) w =
    let e = wrong_turn l r c w in
    ap (λ (t : B.Turn). t.answer ∷ answers t.board cs) e ∙ ap (◌∷◌ (refusal c)) (wrong_answers l r cs w)

-- ---- the bytes of the data
abbrev pub ByteOrder : Order → Type 0
ByteOrder (one c) = ByteCall c
ByteOrder (held n) = Unit {0}

abbrev pub ByteOrders : List Order → Type 0
ByteOrders [] = Unit {0}
ByteOrders (x ∷ xs) = ByteOrder x × ByteOrders xs

append_bytes : (cs ds : List Call) → ByteCalls cs → ByteCalls ds → ByteCalls (cs ++ ds)
append_bytes [] ds h k = k
append_bytes (c ∷ cs) ds h k = (h.0, append_bytes cs ds h.1 k)

steps_bytes : (n : ℕ) (d : List ℕ) → ByteCalls (replicate n (C.step d))
steps_bytes zero d = tt
steps_bytes (suc n) d = (tt, steps_bytes n d)

order_bytes : (hand : Option B.Hand) (x : Order) → ByteOrder x → ByteCalls (calls_of hand x)
order_bytes hand (one c) h = (h, tt)
order_bytes hand (held n) h = steps_bytes n (held_in hand)

calls_bytes : (b : Board) (xs : List Order) → ByteOrders xs → ByteCalls (calls_from b xs)
unfolding calls_from
calls_bytes b [] h = tt
calls_bytes b (x ∷ xs) h =
    let cs = calls_of b.hand x in
    append_bytes cs (calls_from (board_after b cs) xs) (order_bytes b.hand x h.0)
    (calls_bytes (board_after b cs) xs h.1)

-- ---- demand 3 of orders
true_answers_lem : (l r : List ℕ) (cs : List Call) → Bytes l → Bytes r → ByteCalls cs
    → answers (powered l r) cs ≡ true_answers l r cs
unfolding pages_number
true_answers_lem l r cs hl hr hc = go (wrong_pages (length l) (length r)) refl
  where
    go : (w : Bool) → wrong_pages (length l) (length r) ≡ w
        → answers (powered l r) cs
        ≡ cond (eqb (cond (wrong_pages (length l) (length r)) 1 0) 0)
        (book_answers (opened l r) (hearing (powered l r) cs))
        (refusals cs)
    go true e =
        wrong_answers l r cs e
        ∙ ap (λ (t : Bool). cond (eqb (cond t 1 0) 0) (book_answers (opened l r) (hearing (powered l r) cs))
        (refusals cs))
        (sym e)
    go false e =
        demand_3 l r cs (ap (λ (t : Bool). cond t 1 0) e) hl hr hc
        ∙ ap (λ (t : Bool). cond (eqb (cond t 1 0) 0) (book_answers (opened l r) (hearing (powered l r) cs))
        (refusals cs))
        (sym e)

-- what a script of orders is answered
pub orders_book : (l r : List ℕ) (xs : List Order) → Bytes l → Bytes r → ByteOrders xs
    → let cs = calls_from (powered l r) xs in answers (powered l r) cs ≡ true_answers l r cs
orders_book l r xs hl hr h =
    true_answers_lem l r (calls_from (powered l r) xs) hl hr (calls_bytes (powered l r) xs h)
