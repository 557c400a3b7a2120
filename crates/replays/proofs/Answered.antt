-- The answers of a replay are the book's.
-- In order: the bytes of a script; the outcome of a replay.
-- Assumes nothing.
use Prim.Native.Nat.{ℕ, zero, suc, ◌+◌, ◌-◌}
use mathlib.Core.Path.{◌≡◌, refl, sym, ap, ◌∙◌}
use mathlib.Core.Bool.{Bool, true, false, cond, ◌&&◌}
use mathlib.Core.List.{List, [], ◌∷◌}
use native.Mathlib.Omega.{arith}
use mir.Syntax.{w8}
use mir.Val.{Fits}
use lib.Dec.{eqb, ltb, leb}
use lib.ListN.{length, get_or, drop}
use Rattle.std.specs.Prelude.{Option, None, Some, Err, Ok}
use Rattle.flash.specs.Flash.{Bytes}
use Rattle.plans.proofs.Bytes.{bytes_take, bytes_drop}
use Rattle.model.specs.Calls.{Answer}
use Rattle.model.specs.Board.{Board, powered, answers, board_after}
use Rattle.model.specs.Orders.{Order, calls_from, true_answers}
use Rattle.model.proofs.Orders.{ByteOrder, ByteOrders, orders_book}
use Rattle.scripts.specs.declared.ScriptError.{ScriptError}
use Rattle.scripts.specs.declared.ScriptError.TheVariants.{Malformed, NoRoom}
use Rattle.scripts.specs.Scripts.{
  First,
  number_at,
  kind_of,
  first_of,
  Findings,
  orders,
  malformed,
  no_room,
  Report,
  found,
  verdict_in,
  before,
  judged,
  size_of,
  room_of,
  checked_from,
  checked,
}
use Rattle.scripts.proofs.Laws.{cond_keeps}
use Rattle.replays.specs.Answers.{encoded}
use Rattle.replays.specs.Replays.{report_in, Outcome, refused, on_findings, replayed}
use Rattle.replays.specs.Runs.{Written, written, Run, running, orders_of}
use Rattle.replays.proofs.Running.{run_board_lem, run_output}
use Rattle.replays.proofs.Ahead.{found_whole}

-- ---- the bytes of a script
-- a list whose elements are bytes, one by one
pub bytes_of : (l : List ℕ) → ((i : ℕ) → Fits w8 (get_or l i 0)) → Bytes l
bytes_of [] h = tt
bytes_of (x ∷ xs) h = ((h 0).fits, bytes_of xs (λ i. h (suc i)))

abbrev ByteFirst : Option First → Type 0
ByteFirst None = Unit {0}
ByteFirst (Some f) = ByteOrder f.order

kind_bytes : (kind a b : ℕ) (own : List ℕ) → Bytes own → ByteFirst (kind_of kind a b own)
unfolding kind_of
kind_bytes kind a b own h =
    let keeps = cond_keeps ByteFirst in
    keeps (eqb kind 1) _ _ (keeps (true && leb b (length own)) _ _ (bytes_take b own h) tt)
    (keeps (eqb kind 2) _ _ (keeps (eqb a 0 && eqb b 0) _ _ tt tt)
    (keeps (eqb kind 3) _ _ (keeps (eqb b 0) _ _ tt tt)
    (keeps (eqb kind 4) _ _ (keeps (eqb a 0 && leb b (length own)) _ _ tt tt)
    (keeps (eqb kind 5) _ _ tt
    (keeps (eqb kind 6) _ _ (keeps (true && leb b (length own)) _ _ tt tt)
    (keeps (eqb kind 7) _ _ (keeps (eqb a 0 && eqb b 0) _ _ tt tt) tt))))))

first_bytes : (s : List ℕ) → Bytes s → ByteFirst (first_of s)
unfolding first_of
first_bytes s h =
    cond_keeps ByteFirst (ltb (length s) 9) _ _ tt
    (kind_bytes (get_or s 0 0) (number_at s 1) (number_at s 5) (drop 9 s) (bytes_drop 9 s h))

before_bytes : (x : Order) (f : Findings) → ByteOrder x → ByteOrders (orders_of f) → ByteOrders (orders_of (before x f))
before_bytes x (orders xs) h k = (h, k)
before_bytes x (malformed at) h k = tt
before_bytes x (no_room at) h k = tt

judged_bytes : (f : Option First) (at room : ℕ) (rest : Findings) → ByteFirst f → ByteOrders (orders_of rest)
    → ByteOrders (orders_of (judged f at room rest))
judged_bytes None at room rest h k = tt
judged_bytes (Some f) at room rest h k = go (ltb room f.room)
  where
    go : (t : Bool) → ByteOrders (orders_of (cond t (no_room at) (before f.order rest)))
    go true = tt
    go false = before_bytes f.order rest h k

checked_bytes : (over at room : ℕ) (s : List ℕ) → Bytes s → ByteOrders (orders_of (checked_from over at room s))
unfolding checked_from
checked_bytes over at room [] h = tt
checked_bytes (suc over) at room (x ∷ xs) h = checked_bytes over (at + 1) room xs h.1
checked_bytes zero at room (x ∷ xs) h =
    let f = first_of (x ∷ xs) in
    judged_bytes f at room (checked_from (size_of f - 1) (at + 1) (room - room_of f) xs) (first_bytes (x ∷ xs) h)
    (checked_bytes (size_of f - 1) (at + 1) (room - room_of f) xs h.1)

-- ---- the outcome
pub replay_done : (l r s out out₁ : List ℕ) (at : ℕ) (board : Board) → Bytes l → Bytes r → Bytes s
    → (found (checked s (length out))).status ≡ 0
    → ◌≡◌ {A = Run} (record { board = board; output = record { out = out₁; at = at } })
    (running (orders_of (checked s (length out)))
    (record { board = powered l r; output = record { out = out; at = 0 } }))
    → ◌≡◌ {A = Outcome}
    (record { report = report_in (Ok at); left = board.left; right = board.right; out = out₁ })
    (replayed l r s out)
unfolding replayed
replay_done l r s out out₁ at board hl hr hs v ran =
    let f = checked s (length out) in
    let cs = calls_from (powered l r) (orders_of f) in
    let start : Run = record { board = powered l r; output = record { out = out; at = 0 } } in
    let bytes = encoded (true_answers l r cs) in
    let said : answers (powered l r) cs ≡ true_answers l r cs =
    orders_book l r (orders_of f) hl hr (checked_bytes 0 0 (length out) s hs) in
    let after : board ≡ board_after (powered l r) cs = ap (λ (x : Run). x.board) ran ∙ run_board_lem (orders_of f) start in
    let output : ◌≡◌ {A = Written} (record { out = out₁; at = at }) (written out 0 bytes) =
    ap (λ (x : Run). x.output) ran ∙ run_output (orders_of f) start (omega arith)
    ∙ ap (λ (x : List Answer). written out 0 (encoded x)) said in
    let zero-first : 0 + length bytes ≡ length bytes = omega arith in
    let place : at ≡ length bytes = ap (λ (x : Written). x.at) output ∙ zero-first in
    ◌∙◌ {b = on_findings l r (orders (orders_of f)) out}
    (λ i. record {
      report = record { status = 0; place = place i };
      left = (after i).left;
      right = (after i).right;
      out = (output i).out;
    })
    (ap (λ (g : Findings). on_findings l r g out) (sym (found_whole f v)))

-- a script that isn't whole
abbrev as_found : List ℕ → List ℕ → List ℕ → Report → Outcome
as_found l r out x = refused x.status x.place l r out

refused_as : (f : Findings) (l r out : List ℕ) → ((found f).status ≡ 0 → ⊥)
    → as_found l r out (found f) ≡ on_findings l r f out
refused_as (orders xs) l r out h = absurd (h refl)
refused_as (malformed at) l r out h = refl
refused_as (no_room at) l r out h = refl

pub replay_refused : (l r s out : List ℕ) (e : ScriptError) → verdict_in (Err e) ≡ found (checked s (length out))
    → ◌≡◌ {A = Outcome} (record { report = report_in (Err e); left = l; right = r; out = out }) (replayed l r s out)
unfolding replayed
replay_refused l r s out (Malformed at) h =
    ap (as_found l r out) h
    ∙ refused_as (checked s (length out)) l r out (λ z. absurd (omega (arith, ap (λ (y : Report). y.status) h)))
replay_refused l r s out (NoRoom at) h =
    ap (as_found l r out) h
    ∙ refused_as (checked s (length out)) l r out (λ z. absurd (omega (arith, ap (λ (y : Report). y.status) h)))
