-- A script that was found whole, call by call.
-- In order: what lies ahead; at first; after a call; at the end.
-- Assumes nothing.
use Rattle.std.specs.Prelude.{Option}
use Rattle.walks.specs.declared.Walk.{Walk}
use Prim.Native.Nat.{ℕ, ◌+◌, ◌-◌, ◌<◌, ◌≤◌}
use mathlib.Core.Path.{◌≡◌, refl, sym, ap, subst, ◌∙◌}
use mathlib.Core.Bool.{Bool, true, false, cond}
use mathlib.Core.List.{List, [], ◌∷◌}
use native.Mathlib.Omega.{arith}
use lib.Dec.{ltb}
use lib.ListN.{length, drop, length-drop}
use borrow.Author.Tests.{ltb-false}
use Rattle.std.specs.Prelude.{None, Some}
use Rattle.model.specs.Board.{powered}
use Rattle.model.specs.Orders.{Order}
use Rattle.boards.specs.Boards.{board_in}
use Rattle.scripts.specs.declared.Item.{Item}
use Rattle.scripts.specs.Scripts.{
  First,
  first_of,
  item_in,
  Findings,
  orders,
  malformed,
  no_room,
  found,
  before,
  judged,
  checked_from,
  checked,
}
use Rattle.scripts.proofs.Laws.{first_size, check_at, bad_first}
use Rattle.replays.specs.Runs.{Run, running, ordered, orders_of}
use Rattle.replays.proofs.Room.{item_fits}

-- what lies ahead at a place of the script, where so many bytes of the output are its length: the orders from there on
-- are well formed and have room, and making their calls gives what all calls give
pub record Ahead (s : List ℕ) (place size : ℕ) (x whole : Run) : Type 0 where
  pub room : ℕ
  pub rest : List Order
  pub sound : checked_from 0 place room (drop place s) ≡ orders rest
  pub space : x.output.at + room ≤ size
  pub same : running rest x ≡ whole

-- ---- at first
pub found_whole : (f : Findings) → (found f).status ≡ 0 → f ≡ orders (orders_of f)
found_whole (orders xs) e = refl
found_whole (malformed at) e = absurd (omega arith)
found_whole (no_room at) e = absurd (omega arith)

pub ahead : (s : List ℕ) (size : ℕ) (x : Run) → x.output.at ≡ 0 → (found (checked s size)).status ≡ 0
    → Ahead s 0 size x (running (orders_of (checked s size)) x)
ahead s size x z v =
    record {
      room = size;
      rest = orders_of (checked s size);
      sound = found_whole (checked s size) v;
      space = omega arith;
      same = refl;
    }

pub ahead_from : (s : List ℕ) (place there size : ℕ) (x y whole : Run) → there ≡ place → y ≡ x
    → Ahead s place size x whole → Ahead s there size y whole
ahead_from s place there size x y whole n e a =
    subst (λ (i : ℕ). Ahead s i size y whole) (sym n) (subst (λ (z : Run). Ahead s place size z whole) (sym e) a)

-- with no walk in hand
pub first_ahead : (s l r held out : List ℕ) (hand : Option Walk) → hand ≡ None → (found (checked s (length out))).status ≡ 0
    → Ahead s 0 (length out) (record { board = board_in hand held l r; output = record { out = out; at = 0 } })
    (running (orders_of (checked s (length out)))
    (record { board = powered l r; output = record { out = out; at = 0 } }))
first_ahead s l r held out hand e v =
    ahead_from s 0 0 (length out) (record { board = powered l r; output = record { out = out; at = 0 } }) _ _ refl
    (ap (λ (h : Option Walk). record { board = board_in h held l r; output = record { out = out; at = 0 } }) e)
    (ahead s (length out) _ refl v)

-- ---- after a call
-- the findings after a call that is well formed and has room
record Judged (f : First) (room : ℕ) (after : Findings) (rest : List Order) : Type 0 where
  pub has : f.room ≤ room
  pub next : List Order
  pub sound : after ≡ orders next
  pub first : rest ≡ f.order ∷ next

judged_on : (f : First) (at room : ℕ) (after : Findings) (rest : List Order)
    → judged (Some f) at room after ≡ orders rest → Judged f room after rest
judged_on f at room after rest e = go (ltb room f.room) after refl e
  where
    go : (t : Bool) (g : Findings) → ltb room f.room ≡ t → cond t (no_room at) (before f.order g) ≡ orders rest
        → Judged f room g rest
    go true g q h = let z : ◌≡◌ {A = ℕ} 0 1 = cc in absurd (omega arith)
    go false (orders xs) q h =
        record { has = ltb-false room f.room q; next = xs; sound = refl; first = sym (ap orders_of h) }
    go false (malformed p) q h = let z : ◌≡◌ {A = ℕ} 0 1 = cc in absurd (omega arith)
    go false (no_room p) q h = let z : ◌≡◌ {A = ℕ} 0 1 = cc in absurd (omega arith)

-- what a call needs, and what lies ahead after it
pub record Passed (s : List ℕ) (place size : ℕ) (f : First) (x whole : Run) : Type 0 where
  pub inside : place + f.size ≤ length s
  pub more : 0 < f.size
  pub has : x.output.at + f.room ≤ size
  pub onward : Ahead s (place + f.size) size (ordered f.order x) whole

pub pass : (s : List ℕ) (place size : ℕ) (item : Item) (x whole : Run) → Some (item_in item) ≡ first_of (drop place s)
    → Ahead s place size x whole → Passed s place size (item_in item) x whole
unfolding running
pass s place size item x whole e a =
    let f = item_in item in
    let inside = first_size (drop place s) f (sym e) in
    let n : length (drop place s) ≡ length s - place = length-drop place s in
    let j = judged_on f place a.room _ a.rest (sym (check_at s place a.room f (sym e)) ∙ a.sound) in
    let fits = item_fits x.board item in
    let space = a.space in
    let has = j.has in
    record {
      inside = omega arith;
      more = omega arith;
      has = omega arith;
      onward =
          record {
            room = a.room - f.room;
            rest = j.next;
            sound = j.sound;
            space = omega arith;
            same = ap (λ (os : List Order). running os x) (sym j.first) ∙ a.same;
          };
    }

-- ---- at the end
none_left : (t : List ℕ) (at room : ℕ) (os : List Order) → None ≡ first_of t → checked_from 0 at room t ≡ orders os
    → [] ≡ os
unfolding checked_from
none_left [] at room os e h = cc
none_left (x ∷ xs) at room os e h = let bad = bad_first (x ∷ xs) at room (omega arith) (sym e) in cc

pub at_end : (s : List ℕ) (place size : ℕ) (x whole : Run) → None ≡ first_of (drop place s)
    → Ahead s place size x whole → x ≡ whole
unfolding running
at_end s place size x whole e a =
    ap (λ (os : List Order). running os x) (none_left (drop place s) place a.room a.rest e a.sound) ∙ a.same
