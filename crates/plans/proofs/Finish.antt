-- A save whose steps were all made: the new image is live, and "the pair is now line 7 or line 3". It follows from what
-- is Good of its list, from any two pages.
-- In order: what a list leaves; the image that is live in the end; the last step and its line; a whole save.
-- Assumes nothing.
use Rattle.std.specs.Prelude.{Option, Some, None}
use Rattle.pages.specs.declared.Side.{Side}
use Prim.Native.Nat.{ℕ, ◌+◌, ◌≤◌}
use mathlib.Core.Path.{◌≡◌, refl, sym, ap, subst, ◌∙◌}
use mathlib.Core.Bool.{Bool, true, false, ◌&&◌}
use mathlib.Core.List.{List, [], ◌∷◌, ◌++◌, append_assoc}
use native.Mathlib.Omega.{arith}
use lib.ListN.{length, drop}
use borrow.Author.Tests.{eqb-true}
use Rattle.flash.specs.Flash.{Bytes}
use Rattle.pages.specs.declared.Side.TheVariants.{Left, Right}
use Rattle.pages.specs.declared.State.{State}
use Rattle.pages.specs.declared.State.TheVariants.{S0, S1, S2, S3, S5, S6, S7, S8, S9, S10}
use Rattle.pages.specs.declared.Status.{Status}
use Rattle.pages.specs.Pages.{on_side, line_of, live_of, status_of}
use Rattle.pages.proofs.Laws.{line_same}
use Rattle.steps.specs.declared.Step.{Step}
use Rattle.steps.specs.Steps.{Tried, marked, tried}
use Rattle.images.specs.Images.{live_image}
use Rattle.plans.specs.declared.Entry.{Entry}
use Rattle.plans.specs.declared.Request.TheVariants.{Save}
use Rattle.plans.specs.Plans.{
  entry,
  committing,
  mark,
  other,
  counts,
  ready,
  target,
  clean,
  cells,
  first_cell,
  marks,
  settled,
  saving,
  others_erased,
  meets,
}
use Rattle.plans.proofs.Bytes.{Kept, tried_keeps}
use Rattle.plans.proofs.Shapes.{
  fresh,
  valid,
  dead,
  unborn,
  from_row,
  made_on_lem,
  mark_zero,
  on_other,
  at_used,
  at_settled,
}
use Rattle.plans.proofs.Good.{MaybeImage, switch, Good}
use Rattle.plans.proofs.Begins.{Sized, saves_list, good_save}
use Rattle.plans.proofs.Whole.{made_all}

-- ---- what a list leaves
made_append : (xs ys : List Entry) (l r : List ℕ)
    → made_all (xs ++ ys) l r ≡ made_all ys (made_all xs l r).left (made_all xs l r).right
made_append [] ys l r = refl
made_append (x ∷ xs) ys l r = made_append xs ys (tried x.step l r).left (tried x.step l r).right

kept_twice : {l m n : List ℕ} → Kept l m → Kept m n → Kept l n
kept_twice p q = record { bytes = q.bytes; same = q.same ∙ p.same }

pub made_keeps : (xs : List Entry) (l r : List ℕ) → Bytes l → Bytes r
    → Kept l (made_all xs l r).left × Kept r (made_all xs l r).right
made_keeps [] l r bl br = (record { bytes = bl; same = refl }, record { bytes = br; same = refl })
made_keeps (x ∷ xs) l r bl br =
    let k = tried_keeps x.step l r bl br in
    let later = made_keeps xs (tried x.step l r).left (tried x.step l r).right k.0.bytes k.1.bytes in
    (kept_twice k.0 later.0, kept_twice k.1 later.1)

-- ---- the image that is live in the end: the one then, where a step decides
final : MaybeImage → MaybeImage → List Entry → MaybeImage
final current then [] = current
final current then (x ∷ xs) = final (switch x.commits current then) then xs

good_final : (current then : MaybeImage) (xs : List Entry) (l r : List ℕ) → Good current then xs l r
    → live_image (made_all xs l r).left (made_all xs l r).right ≡ final current then xs
unfolding final
good_final current then [] l r g = g
good_final current then (x ∷ xs) l r g =
    good_final (switch x.commits current then) then xs (tried x.step l r).left (tried x.step l r).right
    g.3

-- a list that decides in its last part leaves the image then
decides_last : (current then : MaybeImage) (xs ys : List Entry) → ((i : MaybeImage) → final i then ys ≡ then)
    → final current then (xs ++ ys) ≡ then
unfolding final
decides_last current then [] ys h = h current
decides_last current then (x ∷ xs) ys h = decides_last (switch x.commits current then) then xs ys h

marks_decide : (v : Option Side) (then i : MaybeImage) → final i then (marks v) ≡ then
unfolding final
marks_decide None then i = refl
marks_decide (Some s) then i = refl

-- ---- the last step of a save
abbrev last_mark : Option Side → Entry
last_mark None = record { state = S2; step = mark Right 0 0x0000; commits = false }
last_mark (Some Left) = record { state = S6; step = mark Right 0 0x0000; commits = false }
last_mark (Some Right) = record { state = S10; step = mark Left 0 0x0000; commits = false }

-- the two marks before it
abbrev first_marks : Option Side → List Entry
first_marks None =
    committing S0 (mark Left 0 0x0000) ∷ entry S1 (mark Right 2 0xFF00) ∷ []
first_marks (Some s) =
    committing (on_side s S1 S8) (mark (other s) 0 0xFF00) ∷ entry (on_side s S5 S9) (mark s 2 0xFF00) ∷ []

three_marks : (v : Option Side) → first_marks v ++ last_mark v ∷ [] ≡ marks v
three_marks None = refl
three_marks (Some Left) = refl
three_marks (Some Right) = refl

-- the steps before it
abbrev front : State → Bool → List ℕ → List Entry
front st erased new =
    ready st erased ++ (cells (clean (live_of st)) (target (live_of st)) first_cell new ++ first_marks (live_of st))

all_but_last : (st : State) (erased : Bool) (new : List ℕ)
    → saving st erased new ≡ front st erased new ++ last_mark (live_of st) ∷ []
unfolding saving
all_but_last st erased new =
    let v = live_of st in
    let c = cells (clean v) (target v) first_cell new in
    ap (λ (xs : List Entry). ready st erased ++ (c ++ xs)) (sym (three_marks v))
    ∙ ap (λ (xs : List Entry). ready st erased ++ xs) (sym (append_assoc c (first_marks v) (last_mark v ∷ [])))
    ∙ sym (append_assoc (ready st erased) (c ++ first_marks v) (last_mark v ∷ []))

-- is made at its line
good_last : (current then : MaybeImage) (xs : List Entry) (x : Entry) (l r : List ℕ) → Good current then (xs ++ x ∷ []) l r
    → meets x.state (status_of (made_all xs l r).left (made_all xs l r).right).state ≡ true
good_last current then [] x l r g = g.1
good_last current then (y ∷ ys) x l r g =
    good_last (switch y.commits current then) then ys x (tried y.step l r).left (tried y.step l r).right
    g.3

-- and leaves line 3 or line 7
abbrev After : Step → State → List ℕ → List ℕ → Type 0
After step st l r = (status_of (tried step l r).left (tried step l r).right).state ≡ st

left_by : (step : Step) (st : State) (l r l' r' : List ℕ) → tried step l r ≡ made_on_lem l' r'
    → (status_of l' r').state ≡ st → After step st l r
left_by step st l r l' r' e h = ap (λ (t : Tried). (status_of t.left t.right).state) e ∙ h

at_line : (st : State) (l r : List ℕ) → meets st (status_of l r).state ≡ true → (status_of l r).state ≡ st
at_line st l r m = sym (line_same st (status_of l r).state (eqb-true (line_of st) (line_of (status_of l r).state) m))

last_leaves : (v : Option Side) (l r : List ℕ) → Bytes l → Bytes r → 4 ≤ length l → 4 ≤ length r
    → meets (last_mark v).state (status_of l r).state ≡ true → After (last_mark v).step (settled v) l r
unfolding tried
last_leaves None l r bl br nl nr m =
    let y = drop 4 l in
    let x = drop 4 r in
    from_row (After (mark Right 0 0x0000) S3) l r S2 bl br nl nr (at_line S2 l r m) (λ q. absurd (omega arith))
    (left_by (mark Right 0 0x0000) S3 (valid y) (unborn x) (valid y) (dead x)
    (on_other Left (λ page. marked page (record { 0 = 0 }) 0x0000) (valid y) (unborn x) (dead x)
    (mark_zero 0xFF 0xFF 0x00 0xFF 0x0000 x refl))
    (ap (λ (z : Status). z.state) (at_used Left y x)))
last_leaves (Some Left) l r bl br nl nr m =
    let y = drop 4 l in
    let x = drop 4 r in
    from_row (After (mark Right 0 0x0000) S7) l r S6 bl br nl nr (at_line S6 l r m) (λ q. absurd (omega arith))
    (left_by (mark Right 0 0x0000) S7 (dead y) (fresh x) (dead y) (valid x)
    (on_other Left (λ page. marked page (record { 0 = 0 }) 0x0000) (dead y) (fresh x) (valid x)
    (mark_zero 0x00 0xFF 0xFF 0xFF 0x0000 x refl))
    (ap (λ (z : Status). z.state) (at_settled Left y x)))
last_leaves (Some Right) l r bl br nl nr m =
    let x = drop 4 l in
    let y = drop 4 r in
    from_row (After (mark Left 0 0x0000) S3) l r S10 bl br nl nr (at_line S10 l r m) (λ q. absurd (omega arith))
    (left_by (mark Left 0 0x0000) S3 (fresh x) (dead y) (valid x) (dead y)
    (on_other Right (λ page. marked page (record { 0 = 0 }) 0x0000) (dead y) (fresh x) (valid x)
    (mark_zero 0x00 0xFF 0xFF 0xFF 0x0000 x refl))
    (ap (λ (z : Status). z.state) (at_settled Right y x)))

-- ---- a whole save, from any two pages
pub record Saved (v : Option Side) (new z y : List ℕ) : Type 0 where
  pub image : live_image z y ≡ Some new
  pub state : (status_of z y).state ≡ settled v

saves_image : (current : MaybeImage) (st : State) (erased : Bool) (new : List ℕ)
    → final current (Some new) (saving st erased new) ≡ Some new
unfolding saving
saves_image current st erased new =
    let v = live_of st in
    let c = cells (clean v) (target v) first_cell new in
    decides_last current (Some new) (ready st erased) (c ++ marks v)
    (λ i. decides_last i (Some new) c (marks v) (marks_decide v (Some new)))

pub save_finishes : (l r new : List ℕ) (st : State) → Sized l r new → (status_of l r).state ≡ st
    → let t = made_all (saves_list st new l r) l r in Saved (live_of st) new t.left t.right
save_finishes l r new st z e =
    let erased = counts Save st && others_erased (live_of st) l r in
    let list = saving st erased new in
    let g = good_save l r new st z e in
    let t = made_all list l r in
    let early = front st erased new in
    let last = last_mark (live_of st) in
    let split : list ≡ early ++ last ∷ [] = all_but_last st erased new in
    let g' : Good (live_image l r) (Some new) (early ++ last ∷ []) l r =
    subst (λ (xs : List Entry). Good (live_image l r) (Some new) xs l r) split g in
    let l' = (made_all early l r).left in
    let r' = (made_all early l r).right in
    let k = made_keeps early l r z.bytes_left z.bytes_right in
    let whole : t ≡ made_all (last ∷ []) l' r' =
    ap (λ (xs : List Entry). made_all xs l r) split ∙ made_append early (last ∷ []) l r in
    let left : length l ≡ 4 + length new = z.left in
    let right : length r ≡ 4 + length new = z.right in
    let sameLeft : length l' ≡ length l = k.0.same in
    let sameRight : length r' ≡ length r = k.1.same in
    record {
      image = good_final (live_image l r) (Some new) list l r g ∙ saves_image (live_image l r) st erased new;
      state =
          ap (λ (u : Tried). (status_of u.left u.right).state) whole
          ∙ last_leaves (live_of st) l' r' k.0.bytes k.1.bytes (omega arith) (omega arith)
          (good_last (live_image l r) (Some new) early last l r g');
    }
