-- The list of a walk with right numbers, on pages: the new image is as long as the image, and the list as long as the
-- table of counts says.
-- In order: the new image; what right numbers say; the list.
-- Assumes nothing.
use Rattle.std.specs.Prelude.{Option, Some, None}
use Prim.Native.Nat.{ℕ, ◌-◌}
use mathlib.Core.Path.{◌≡◌, refl, sym, ap, subst, ◌∙◌}
use mathlib.Core.Bool.{false, not, ◌||◌}
use mathlib.Core.List.{List}
use native.Mathlib.Omega.{arith}
use lib.Dec.{eqb}
use lib.ListN.{length, drop, length-drop, length-replicate}
use borrow.Author.Tests.{eqb-true, not-false}
use Rattle.pages.specs.declared.Side.{Side}
use Rattle.pages.specs.declared.Side.TheVariants.{Left, Right}
use Rattle.pages.specs.declared.PageOffset.{PageOffset}
use Rattle.pages.specs.Pages.{on_side, live_of, status_of}
use Rattle.pages.specs.Offsets.{image_size}
use Rattle.requests.specs.Numbers.{request_number}
use Rattle.requests.specs.Legal.{Legal}
use Rattle.requests.proofs.Laws.{or_left, or_right, legal}
use Rattle.images.specs.Images.{image_on, live_image, or_blank}
use Rattle.images.proofs.Laid.{length_laid}
use Rattle.plans.specs.Plans.{plan}
use Rattle.plans.specs.Counts.{step_count}
use Rattle.plans.proofs.Counts.{plan_length}
use Rattle.walks.specs.declared.Walk.{Walk}
use Rattle.walks.specs.Walks.{source, new_image, steps_of, wrong_format, wrong_numbers}

-- the new image is as long as the image
side_length : (s : Side) (l r : List ℕ) (p : ℕ) → length l ≡ p → length r ≡ p → length (drop 4 (on_side s l r)) ≡ p - 4
side_length Left l r p e f = length-drop 4 l ∙ ap (λ (n : ℕ). n - 4) e
side_length Right l r p e f = length-drop 4 r ∙ ap (λ (n : ℕ). n - 4) f

pub base_length : (v u : Option Side) (l r : List ℕ) (p : ℕ) → length l ≡ p → length r ≡ p
    → length (or_blank (image_size p) (source v (image_on u l r))) ≡ image_size p
base_length None u l r p e f = length-replicate (p - 4) 255
base_length (Some s) None l r p e f = length-replicate (p - 4) 255
base_length (Some s) (Some t) l r p e f = side_length t l r p e f

pub new_length : (v : Option Side) (l r : List ℕ) (p : ℕ) (o : PageOffset) (d : List ℕ) → length l ≡ p → length r ≡ p
    → Legal p p o (length d) → length (new_image v p o d (live_image l r)) ≡ image_size p
unfolding live_image
new_length v l r p o d e f h =
    let base = or_blank (image_size p) (source v (image_on (status_of l r).live l r)) in
    let n : length base ≡ image_size p = base_length v (status_of l r).live l r p e f in
    length_laid base o d h.in_image (omega (arith, h.ends, h.in_image)) ∙ n

-- what right numbers say of a walk and the pages
pub record RightNumbers (w : Walk) (p q n : ℕ) : Type 0 where
  pub request : Legal p q w.offset w.len
  pub page : p ≡ w.page
  pub size : n ≡ w.len
  pub format : wrong_format w.request w.offset w.len ≡ false

pub right_numbers : (w : Walk) (p q n : ℕ) → wrong_numbers w p q n ≡ false → RightNumbers w p q n
unfolding wrong_numbers
right_numbers w p q n e =
    let a = not (eqb (request_number p q w.offset w.len 0) 0) in
    let b = not (eqb p w.page) in
    let d = not (eqb n w.len) in
    let f = wrong_format w.request w.offset w.len in
    let e₃ = or_left (a || b || d) f e in
    let e₂ = or_left (a || b) d e₃ in
    record {
      request =
          (legal p q w.offset w.len 0
          (eqb-true (request_number p q w.offset w.len 0) 0
          (not-false (eqb (request_number p q w.offset w.len 0) 0) (or_left a b e₂)))
          ).0;
      page = eqb-true p w.page (not-false (eqb p w.page) (or_right a b e₂));
      size = eqb-true n w.len (not-false (eqb n w.len) (or_right (a || b) d e₃));
      format = or_right (a || b || d) f e;
    }

pub steps_length : (w : Walk) (l r d : List ℕ) → wrong_numbers w (length l) (length r) (length d) ≡ false
    → length (steps_of w l r d) ≡ step_count w.request w.start w.erased (length l)
steps_length w l r d e =
    let f = right_numbers w (length l) (length r) (length d) e in
    let h : Legal (length l) (length r) w.offset w.len = f.request in
    let g : Legal (length l) (length l) w.offset (length d) =
    subst (Legal (length l) (length l) w.offset) (sym f.size)
    (subst (λ (q : ℕ). Legal (length l) q w.offset w.len) (sym h.same) h) in
    let v = live_of w.start in
    let new = new_image v (length l) w.offset d (live_image l r) in
    let n : length new ≡ image_size (length l) = new_length v l r (length l) w.offset d refl (sym h.same) g in
    ap
    (λ (k : ℕ).
    length (plan w.request w.start w.erased (new_image v k w.offset d (live_image l r))))
    (sym f.page)
    ∙ plan_length w.request w.start w.erased new (length l) n
