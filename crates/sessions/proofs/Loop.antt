-- A loop over the next calls of a script, on copies of two pages.
-- In order: copies of pages; each turn leads to where the script ends; each turn leaves less.
-- Assumes nothing.
use Prim.Native.Nat.{ℕ, zero, suc, ◌+◌, ◌-◌, ◌*◌, ◌<◌, ◌≤◌, min}
use mathlib.Core.Path.{◌≡◌, refl, sym, ap, subst, ◌∙◌}
use mathlib.Core.Bool.{Bool, true, false, cond, not, ◌||◌}
use mathlib.Core.List.{List, [], ◌∷◌, ◌++◌, append-nil}
use native.Mathlib.Omega.{arith}
use mathlib.Core.Logic.{◌⊎◌}
use Rattle.std.specs.Prelude.{◌≢◌}
use lib.Dec.{eqb, ltb, leb}
use lib.ListN.{length, take, drop, replicate, drop_of_length-le}
use lib.Seq.{length-take-le, take-length}
use borrow.Author.Tests.{ne_eqb, ltb-true, ltb-false}
use Rattle.copies.specs.Copies.{copied}
use Rattle.model.specs.Calls as C
use Rattle.model.specs.Board.{Board, Turn, powered, turn, board_after}
use Rattle.model.specs.Decided.{is_made}
use Rattle.model.specs.Orders.{one, held_in}
use Rattle.model.proofs.Orders.{board_append}
use Rattle.boards.specs.Boards.{board_in}
use Rattle.texts.specs.Texts.{before_first, is, line_at, next_line, word_at}
use Rattle.digits.specs.Digits.{bytes_of}
use Rattle.asks.specs.Asks as T
use Rattle.asks.specs.Asks.{Asks, asks_of}
use Rattle.asks.proofs.Right.{handed}
use Rattle.turns.specs.Turns.{zeros, data_at}
use Rattle.turns.proofs.Laws.{zeros_length}
use Rattle.sessions.specs.declared.Session.{Session}
use Rattle.sessions.specs.declared.Answered.{Answered}
use Rattle.sessions.specs.Sessions.{order_for, script_calls, Stand, remaining, Next, stands, nexts, step_next, order_next, next_from, next_of, stand_in, next_in, begins, is_on}
use Rattle.sessions.proofs.Script.{next_follows, nothing_left}

-- ---- copies of pages
-- bytes copied over as many
pub copied_all : (xs ys : List ℕ) → length xs ≡ length ys → copied xs ys ≡ xs
unfolding copied
copied_all xs ys e =
    let n : min (length xs) (length ys) ≡ length xs = omega arith in
    (λ i. take (n i) xs ++ drop (n i) ys)
    ∙ (λ i. take-length xs i ++ drop_of_length-le ys {i = length xs} (omega arith) i) ∙ append-nil xs

-- bytes copied to the start of a buffer, which is as long as they are
pub copied_room : (n : ℕ) (xs zs ys : List ℕ) → length xs ≡ n → n ≤ 4096 → zs ≡ zeros → ys ≡ copied xs (take n zs)
    → ys ≡ xs
copied_room n xs zs ys same h ez e =
    let room : length zs ≡ 4096 = ap length ez ∙ zeros_length in
    let size : length (take n zs) ≡ n = length-take-le n zs (omega arith) in
    e ∙ copied_all xs (take n zs) (same ∙ sym size)

-- pages that are longer than any, or differ in length
pub not_right : (l r : List ℕ) → (4096 < length l) ⊎ ((length l ≤ 4096) × (length r ≢ length l))
    → length l ≤ 4096 → length l ≡ length r → ⊥
not_right l r either most same = grind arith

-- ---- where a script ends
-- a call whose output holds 00 at first
blank_next : (text : List ℕ) (s : Session) (x : Answered) (l r l' r' out z : List ℕ) → z ≡ zeros
    → next_in text x l' r' out ≡ next_of text (stand_in text s l r) z
    → next_in text x l' r' out ≡ next_of text (stand_in text s l r) zeros
blank_next text s x l r l' r' out z ez e = e ∙ ap (next_of text (stand_in text s l r)) ez

abbrev pub Ends : List ℕ → Session → List ℕ → List ℕ → List ℕ → List ℕ → Type 0
Ends text s l r l₀ r₀ =
    let z = stand_in text s l r in
    board_after z.board (remaining text z) ≡ board_after (powered l₀ r₀) (script_calls text l₀ r₀)

pub ends_first : (text : List ℕ) (s : Session) (l r l₀ r₀ : List ℕ) → s ≡ begins → l ≡ l₀ → r ≡ r₀ → Ends text s l r l₀ r₀
unfolding remaining board_after
ends_first text s l r l₀ r₀ e el er = λ i. let z = stand_in text (e i) (el i) (er i) in board_after z.board (remaining text z)

or_cases : (n : ℕ) (t : Bool) → (not (eqb n 0) || t) ≡ true → n ≡ 0 → t ≡ true
or_cases zero t e h = e
or_cases (suc n) t e h = absurd (omega arith)

pub goes_on : (text : List ℕ) (s : Session) → is_on text s ≡ true → s.left ≡ 0 → s.at < length text
goes_on text s e z = ltb-true s.at (length text) (or_cases s.left (ltb s.at (length text)) e z)

pub ends_on : (text : List ℕ) (s : Session) (x : Answered) (l r l' r' out blank l₀ r₀ : List ℕ) → is_on text s ≡ true
    → blank ≡ zeros → next_in text x l' r' out ≡ next_of text (stand_in text s l r) blank → Ends text s l r l₀ r₀
    → Ends text x.session l' r' l₀ r₀
ends_on text s x l r l' r' out blank l₀ r₀ on ez e h =
    let z = stand_in text s l r in
    let f = next_follows text z (goes_on text s on) in
    ap (λ (y : Next). board_after y.stand.board (remaining text y.stand)) (blank_next text s x l r l' r' out blank ez e)
    ∙ sym (ap (λ (b : Board). board_after b (remaining text (next_of text z zeros).stand)) f.board)
    ∙ sym (board_append z.board f.made (remaining text (next_of text z zeros).stand))
    ∙ sym (ap (board_after z.board) f.calls) ∙ h

or_over : (n : ℕ) (t : Bool) → (not (eqb n 0) || t) ≡ false → (n ≡ 0) × (t ≡ false)
or_over zero t e = (refl, e)
or_over (suc n) t e =
    let f : true ≡ false = sym (ap (λ (q : Bool). not q || t) (ne_eqb (suc n) 0 (λ q. absurd (omega arith)))) ∙ e in
    let z : ◌≡◌ {A = ℕ} 0 1 = cc in
    absurd (omega (arith, z))

-- where nothing is left there are no calls
pub over_left : (text : List ℕ) (s : Session) (l r : List ℕ) → is_on text s ≡ false → remaining text
    (stand_in text s l r) ≡ []
over_left text s l r off =
    let over = or_over s.left (ltb s.at (length text)) off in
    nothing_left text (stand_in text s l r) over.0 (ltb-false s.at (length text) over.1)

pub ends_last : (text : List ℕ) (s : Session) (l r l₀ r₀ : List ℕ) → is_on text s ≡ false → Ends text s l r l₀ r₀
    → board_in s.hand (data_at text s.began) l r ≡ board_after (powered l₀ r₀) (script_calls text l₀ r₀)
unfolding board_after
ends_last text s l r l₀ r₀ off h =
    let z = stand_in text s l r in sym (ap (board_after z.board) (over_left text s l r off)) ∙ h

-- ---- less is left
abbrev pub leftover : List ℕ → Session → ℕ
leftover text s = (length text - s.at) * 4294967296 + s.left

abbrev standing : List ℕ → Stand → ℕ
standing text z = (length text - z.at) * 4294967296 + z.left

-- a line takes at least a byte
next_later : (text : List ℕ) (place : ℕ) → place < length text → place < next_line text place
unfolding next_line
next_later text place h = go (ltb (place + before_first (is 10) (drop place text)) (length text))
  where
    go : (t : Bool)
        → place < cond t (place + before_first (is 10) (drop place text) + 1) (length text)
    go true = omega arith
    go false = h

order_less : (text : List ℕ) (place after : ℕ) (b : Board) (asks : Asks) (d : List ℕ) → place < after
    → place < length text → ((n : ℕ) → asks ≡ T.steps n → n ≤ 4294967295)
    → standing text (order_next after b zeros (order_for asks d zeros)).stand < (length text - place) * 4294967296
order_less text place after b T.nothing d h k bits = omega arith
order_less text place after b (T.save o) d h k bits = omega arith
order_less text place after b T.format d h k bits = omega arith
order_less text place after b (T.steps n) d h k bits = let m : n ≤ 4294967295 = bits n refl in omega arith
order_less text place after b T.step_with d h k bits = omega arith
order_less text place after b (T.read o n) d h k bits = omega arith
order_less text place after b (T.read_into o n) d h k bits = go (leb n (length zeros))
  where
    go : (t : Bool)
        → standing text (order_next after b zeros (cond t (one (C.read_into o (take n zeros)) ∷ []) [])).stand
        < (length text - place) * 4294967296
    go true = omega arith
    go false = omega arith
order_less text place after b T.cut d h k bits = omega arith
order_less text place after b (T.wrong fault n) d h k bits = omega arith

step_less : (text : List ℕ) (place k : ℕ) (t : Turn)
    → standing text (step_next place k t zeros).stand < (length text - place) * 4294967296 + suc k
step_less text place k t = go (is_made t.answer)
  where
    go : (q : Bool)
        → standing text
        (cond q (nexts (C.made ∷ []) (stands place k t.board) zeros)
        (nexts (replicate (suc k) t.answer) (stands place 0 t.board) zeros)).stand
        < (length text - place) * 4294967296 + suc k
    go true = omega arith
    go false = omega arith

pub less_on : (text : List ℕ) (s : Session) (x : Answered) (l r l' r' out blank : List ℕ) → is_on text s ≡ true
    → blank ≡ zeros → next_in text x l' r' out ≡ next_of text (stand_in text s l r) blank
    → leftover text x.session < leftover text s
unfolding next_of
less_on text s x l r l' r' out blank on ez e =
    subst (λ (n : ℕ). n < leftover text s)
    (sym (ap (λ (y : Next). standing text y.stand) (blank_next text s x l r l' r' out blank ez e))) (go s.left refl)
  where
    b : Board
    b = board_in s.hand (data_at text s.began) l r

    go : (n : ℕ) → s.left ≡ n → standing text (next_from text s.at s.left b zeros).stand < leftover text s
    go zero q =
        let place = s.at in
        let inside : place < length text = goes_on text s on q in
        let asks = asks_of (line_at text place) in
        subst
        (λ (m : ℕ). standing text (next_from text place m b zeros).stand < (length text - place) * 4294967296 + m)
        (sym q)
        (let less : standing text
        (order_next (next_line text place) b zeros (order_for asks (bytes_of (word_at 2 (line_at text place))) zeros)).stand
        < (length text - place) * 4294967296 =
        order_less text place (next_line text place) b asks (bytes_of (word_at 2 (line_at text place)))
        (next_later text place inside) inside (λ n h. handed (line_at text place) (T.steps n) h) in
        omega arith)
    go (suc k) q =
        subst
        (λ (m : ℕ).
        standing text (next_from text s.at m b zeros).stand < (length text - s.at) * 4294967296 + m) (sym q)
        (step_less text s.at k (turn b (C.step (held_in b.hand))))
