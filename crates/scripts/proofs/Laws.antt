-- Laws of scripts.
-- In order: the size of a call; passing over a call; a script checked.
-- Assumes nothing.
use Prim.Native.Nat.{ℕ, zero, suc, ◌+◌, ◌-◌, ◌<◌, ◌≤◌}
use mathlib.Core.Path.{◌≡◌, refl, sym, ap, subst, ◌∙◌}
use mathlib.Core.Bool.{Bool, true, false, cond, ◌&&◌}
use mathlib.Core.List.{List, [], ◌∷◌}
use native.Mathlib.Omega.{arith}
use lib.Dec.{eqb, ltb, leb}
use lib.ListN.{length, get_or, drop, length-drop, drop_of_length-le}
use lib.Seq.{drop-drop}
use borrow.Author.Tests.{lt-ltb, le-ltb, ltb-false, leb-true}
use Rattle.std.specs.Prelude.{Option, None, Some, Err}
use Rattle.flash.proofs.Laws.{and_right}
use Rattle.model.specs.Orders.{Order}
use Rattle.scripts.specs.declared.Item.{Item}
use Rattle.scripts.specs.declared.ScriptError.TheVariants.{Malformed, NoRoom}
use Rattle.scripts.specs.Scripts.{First, number_at, long, kind_of, first_of, item_in, Findings, orders, malformed, no_room, found, verdict_in, before, judged, size_of, room_of, checked_from}

-- ---- the size of a call
-- what holds of both cases holds of the one taken
pub cond_keeps : (P : Option First → Type 0) (t : Bool) (x y : Option First) → P x → P y → P (cond t x y)
cond_keeps P true x y h k = h
cond_keeps P false x y h k = k

-- a call has nine bytes at least, and lies in the script
abbrev Inside : ℕ → Option First → Type 0
Inside n None = Unit {0}
Inside n (Some f) = (9 ≤ f.size) × (f.size ≤ n)

long_inside : (t : Bool) (order : Order) (room b : ℕ) (own : List ℕ)
    → Inside (9 + length own) (long t order room b own)
long_inside t order room b own = go (t && leb b (length own)) refl
  where
    go : (u : Bool) → (t && leb b (length own)) ≡ u
        → Inside (9 + length own) (cond u (Some (record { order = order; size = 9 + b; room = room })) None)
    go true e =
        let h = leb-true b (length own) (and_right t (leb b (length own)) e) in (omega arith, omega arith)
    go false e = tt

kind_inside : (kind a b : ℕ) (own : List ℕ) → Inside (9 + length own) (kind_of kind a b own)
unfolding kind_of
kind_inside kind a b own =
    let nine : (9 ≤ 9) × (9 ≤ 9 + length own) = (omega arith, omega arith) in
    let keeps = cond_keeps (Inside (9 + length own)) in
    keeps (eqb kind 1) _ _ (long_inside true _ 1 b own)
    (keeps (eqb kind 2) _ _ (keeps (eqb a 0 && eqb b 0) _ _ nine tt)
    (keeps (eqb kind 3) _ _ (keeps (eqb b 0) _ _ nine tt)
    (keeps (eqb kind 4) _ _ (long_inside (eqb a 0) _ 1 b own)
    (keeps (eqb kind 5) _ _ nine
    (keeps (eqb kind 6) _ _ (long_inside true _ (2 + b) b own)
    (keeps (eqb kind 7) _ _ (keeps (eqb a 0 && eqb b 0) _ _ nine tt) tt))))))

pub first_size : (t : List ℕ) (f : First) → first_of t ≡ Some f → (9 ≤ f.size) × (f.size ≤ length t)
unfolding first_of
first_size t f e = go (ltb (length t) 9) refl e
  where
    own : Option First
    own = kind_of (get_or t 0 0) (number_at t 1) (number_at t 5) (drop 9 t)

    go : (b : Bool) → ltb (length t) 9 ≡ b → cond b None own ≡ Some f → (9 ≤ f.size) × (f.size ≤ length t)
    go true q h = cc
    go false q h =
        let long : 9 ≤ length t = ltb-false (length t) 9 q in
        let n : length (drop 9 t) ≡ length t - 9 = length-drop 9 t in
        let k =
        subst (Inside (9 + length (drop 9 t))) h
        (kind_inside (get_or t 0 0) (number_at t 1) (number_at t 5) (drop 9 t)) in
        (omega arith, omega arith)

pub first_inside : (t : List ℕ) → size_of (first_of t) ≤ length t
first_inside t = go (first_of t) refl
  where
    go : (g : Option First) → first_of t ≡ g → size_of g ≤ length t
    go None e = omega arith
    go (Some f) e = (first_size t f e).1

pub first_nine : (t : List ℕ) → (size_of (first_of t) ≡ 0 → ⊥) → 9 ≤ length t
first_nine t z = go (first_of t) refl
  where
    go : (g : Option First) → first_of t ≡ g → 9 ≤ length t
    go None e = absurd (z (ap size_of e))
    go (Some f) e = let h = first_size t f e in omega arith

-- the size of the call at a place
pub size_at : (s : List ℕ) (at n : ℕ) (x : Item) → Some (item_in x) ≡ first_of (drop at s) → n ≡ (item_in x).size
    → n ≡ size_of (first_of (drop at s))
size_at s at n x e h = h ∙ ap size_of e

-- ---- passing over a call
passed : (over at room : ℕ) (s : List ℕ) → over ≤ length s
    → checked_from over at room s ≡ checked_from 0 (at + over) room (drop over s)
unfolding checked_from
passed zero at room s h = ap (λ (n : ℕ). checked_from 0 n room s) (omega arith)
passed (suc over) at room [] h = refl
passed (suc over) at room (x ∷ xs) h =
    passed over (at + 1) room xs (omega arith)
    ∙ ap (λ (n : ℕ). checked_from 0 n room (drop over xs)) (omega arith)

-- the check at a call, by that call and the check after it
check_first : (t : List ℕ) (at room : ℕ) (f : First) → first_of t ≡ Some f
    → checked_from 0 at room t
    ≡ judged (Some f) at room (checked_from 0 (at + f.size) (room - f.room) (drop f.size t))
unfolding checked_from
check_first [] at room f e = let h = first_size [] f e in absurd (omega arith)
check_first (x ∷ xs) at room f e =
    let h = first_size (x ∷ xs) f e in
    let more : f.size ≡ suc (f.size - 1) = omega arith in
    let places : at + 1 + (f.size - 1) ≡ at + f.size = omega arith in
    ap (λ (g : Option First). judged g at room (checked_from (size_of g - 1) (at + 1) (room - room_of g) xs)) e
    ∙ ap (judged (Some f) at room)
    (passed (f.size - 1) (at + 1) (room - f.room) xs (omega arith)
    ∙ (λ i. checked_from 0 (places i) (room - f.room) (drop (sym more i) (x ∷ xs))))

pub check_at : (s : List ℕ) (at room : ℕ) (f : First) → first_of (drop at s) ≡ Some f
    → checked_from 0 at room (drop at s)
    ≡ judged (Some f) at room (checked_from 0 (at + f.size) (room - f.room) (drop (at + f.size) s))
check_at s at room f e =
    check_first (drop at s) at room f e
    ∙ ap (λ (t : List ℕ). judged (Some f) at room (checked_from 0 (at + f.size) (room - f.room) t))
    (drop-drop f.size at s)

-- a call after which nothing is left, or that is malformed
pub check_end : (s : List ℕ) (at room : ℕ) → length s ≤ at → checked_from 0 at room (drop at s) ≡ orders []
unfolding checked_from
check_end s at room h = ap (checked_from 0 at room) (drop_of_length-le s h)

pub bad_first : (t : List ℕ) (at room : ℕ) → 0 < length t → first_of t ≡ None → checked_from 0 at room t ≡ malformed at
unfolding checked_from
bad_first [] at room h e = absurd (omega arith)
bad_first (x ∷ xs) at room h e =
    ap (λ (g : Option First). judged g at room (checked_from (size_of g - 1) (at + 1) (room - room_of g) xs)) e

-- ---- a script checked
-- what the verdict is at a malformed call, at one with no room, and at one that has room
pub check_bad : (s : List ℕ) (at room : ℕ) → at < length s → None ≡ first_of (drop at s)
    → verdict_in (Err (Malformed at)) ≡ found (checked_from 0 at room (drop at s))
check_bad s at room h e =
    let n : length (drop at s) ≡ length s - at = length-drop at s in
    sym (ap found (bad_first (drop at s) at room (omega arith) (sym e)))

pub check_full : (s : List ℕ) (at room : ℕ) (f : First) → Some f ≡ first_of (drop at s) → room < f.room
    → verdict_in (Err (NoRoom at)) ≡ found (checked_from 0 at room (drop at s))
check_full s at room f e h =
    let rest = checked_from 0 (at + f.size) (room - f.room) (drop (at + f.size) s) in
    sym
    (ap found (check_at s at room f (sym e))
    ∙ ap (λ (t : Bool). found (cond t (no_room at) (before f.order rest))) (lt-ltb room f.room h))

found_before : (x : Order) (rest : Findings) → found (before x rest) ≡ found rest
found_before x (orders xs) = refl
found_before x (malformed at) = refl
found_before x (no_room at) = refl

pub check_on : (s : List ℕ) (at room : ℕ) (f : First) → Some f ≡ first_of (drop at s) → f.room ≤ room
    → found (checked_from 0 at room (drop at s))
    ≡ found (checked_from 0 (at + f.size) (room - f.room) (drop (at + f.size) s))
check_on s at room f e h =
    let rest = checked_from 0 (at + f.size) (room - f.room) (drop (at + f.size) s) in
    ap found (check_at s at room f (sym e))
    ∙ ap (λ (t : Bool). found (cond t (no_room at) (before f.order rest))) (le-ltb room f.room h)
    ∙ found_before f.order rest
