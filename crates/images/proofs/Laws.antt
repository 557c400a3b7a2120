-- Laws of the cells of a new image.
-- In order: the data's cell; a cell of the new image by what stands in the data and in the old image; the same cell as
-- that of the image with the data laid in.
-- Not here: laying bytes in (Overlay.antt, Laid.antt). Assumes nothing.
use Rattle.std.specs.Prelude.{unwrap_or, Some, None}
use Prim.Native.Nat.{ℕ, ◌+◌, ◌-◌, ◌%◌, ◌<◌, ◌≤◌}
use mathlib.Core.Path.{◌≡◌, refl, sym, ap, ap₂, subst, ◌∙◌}
use mathlib.Core.Bool.{Bool, true, false}
use mathlib.Core.List.{List, []}
use mathlib.Core.Logic.{inl, inr}
use native.Mathlib.Omega.{arith}
use lib.Dec.{ltb}
use lib.ListN.{length, get_or, replicate, length-replicate, get_or-replicate}
use borrow.Author.Tests.{ltb-true, ltb-false, le-leb, lt-leb}
use Rattle.flash.specs.Flash.{cell_number, cell_at, cell_of}
use Rattle.flash.proofs.Laws.{cell_here, cell_past}
use Rattle.pages.specs.declared.PageOffset.{PageOffset}
use Rattle.pages.specs.declared.ImageOffset.{ImageOffset}
use Rattle.pages.specs.Offsets.{to_page}
use Rattle.pages.proofs.Laws.{page_offset}
use Rattle.images.specs.Images.{overlaid, laid_in, data_cell, new_cell}
use Rattle.images.proofs.Overlay.{byte_outside, byte_inside}
use Rattle.images.proofs.Laid.{laid_at}

-- ---- the data's cell
pub data_before : (o : PageOffset) (d : List ℕ) (i : ImageOffset) → (to_page i).0 < o.0 → data_cell o d i ≡ None
unfolding data_cell
data_before o d i h = simp (lt-leb o.0 (to_page i).0 h)

pub data_from : (o : PageOffset) (d : List ℕ) (i : ImageOffset) → o.0 ≤ (to_page i).0
    → data_cell o d i ≡ cell_of d ((to_page i).0 - o.0)
unfolding data_cell
data_from o d i h = simp (le-leb o.0 (to_page i).0 h)

-- ---- a cell of the new image: the data's, else the old image's, else FFFF
pub new_data : (old : List ℕ) (o : PageOffset) (d : List ℕ) (i : ImageOffset) (v : ℕ) → data_cell o d i ≡ Some v
    → new_cell old o d i ≡ v
unfolding new_cell
new_data old o d i v e = simp e

pub new_kept : (old : List ℕ) (o : PageOffset) (d : List ℕ) (i : ImageOffset) (v : ℕ) → data_cell o d i ≡ None
    → cell_of old i.0 ≡ Some v → new_cell old o d i ≡ v
unfolding new_cell
new_kept old o d i v e k = simp (e, k)

pub new_old : (old : List ℕ) (o : PageOffset) (d : List ℕ) (i : ImageOffset) → data_cell o d i ≡ None
    → unwrap_or (cell_of old i.0) 65535 ≡ new_cell old o d i
unfolding new_cell
new_old old o d i e = sym (simp e)

-- ---- the cells of the image with the data laid in
kept_cell : (old : List ℕ) (o : PageOffset) (d : List ℕ) (i : ImageOffset) → i.0 % 2 ≡ 0 → i.0 + 1 < length old
    → data_cell o d i ≡ None → new_cell old o d i ≡ cell_at old i.0
kept_cell old o d i e h k = new_kept old o d i (cell_at old i.0) k (cell_here old i.0 e h)

-- even places that lie in the image: what a legal save and an image cell of its page fulfil
pub record Places (size : ℕ) (o : PageOffset) (n : ℕ) (i : ImageOffset) : Type 0 where
  pub in_image : 4 ≤ o.0
  pub even_offset : o.0 % 2 ≡ 0
  pub even_length : n % 2 ≡ 0
  pub ends : o.0 + n ≤ 4 + size
  pub even_cell : i.0 % 2 ≡ 0
  pub cell_in : i.0 + 1 < size
  pub bits : size ≤ 4294967291

-- a cell of the new image is that cell of the old one with the data laid in
pub new_cell_at : (old : List ℕ) (o : PageOffset) (d : List ℕ) (i : ImageOffset) → Places (length old) o (length d) i
    → new_cell old o d i ≡ cell_at (laid_in old o d) i.0
new_cell_at old o d i h =
    go (ltb i.0 (o.0 - 4)) (ltb i.0 (o.0 - 4 + length d)) refl refl
    ∙ ap (λ (x : List ℕ). cell_at x i.0) (sym (laid_at old o d h.in_image))
  where
    at : (to_page i).0 ≡ 4 + i.0
    at = page_offset i (omega (arith, h))

    go : (s t : Bool) → ltb i.0 (o.0 - 4) ≡ s → ltb i.0 (o.0 - 4 + length d) ≡ t
        → new_cell old o d i ≡ cell_at (overlaid old (o.0 - 4) d) i.0
    go true t p q =
        let a = ltb-true i.0 (o.0 - 4) p in
        kept_cell old o d i h.even_cell h.cell_in (data_before o d i (omega (arith, at)))
        ∙ sym (ap₂ cell_number (byte_outside old (o.0 - 4) d i.0 (omega (arith, h)) (inl a))
        (byte_outside old (o.0 - 4) d (i.0 + 1) (omega (arith, h)) (inl (omega (arith, h)))))
    go false true p q =
        let a = ltb-false i.0 (o.0 - 4) p in
        let b = ltb-true i.0 (o.0 - 4 + length d) q in
        let m : (to_page i).0 - o.0 ≡ i.0 - (o.0 - 4) = omega (arith, at, h) in
        let n : i.0 + 1 - (o.0 - 4) ≡ i.0 - (o.0 - 4) + 1 = omega arith in
        new_data old o d i (cell_at d (i.0 - (o.0 - 4)))
        (data_from o d i (omega (arith, at, h)) ∙ ap (cell_of d) m
        ∙ cell_here d (i.0 - (o.0 - 4)) (omega (arith, h)) (omega (arith, h)))
        ∙ sym (ap₂ cell_number (byte_inside old (o.0 - 4) d i.0 (omega (arith, h)) a b)
        (byte_inside old (o.0 - 4) d (i.0 + 1) (omega (arith, h)) (omega arith) (omega (arith, h))
        ∙ ap (λ (j : ℕ). get_or d j 0) n))
    go false false p q =
        let a = ltb-false i.0 (o.0 - 4) p in
        let b = ltb-false i.0 (o.0 - 4 + length d) q in
        kept_cell old o d i h.even_cell h.cell_in
        (data_from o d i (omega (arith, at, h))
        ∙ cell_past d ((to_page i).0 - o.0) (omega (arith, at, h)) (omega (arith, at, h)))
        ∙ sym (ap₂ cell_number (byte_outside old (o.0 - 4) d i.0 (omega (arith, h)) (inr b))
        (byte_outside old (o.0 - 4) d (i.0 + 1) (omega (arith, h)) (inr (omega arith))))

-- with no old image it is that cell of an all-FF one with the data laid in
no_old : (n : ℕ) (o : PageOffset) (d : List ℕ) (i : ImageOffset) → i.0 % 2 ≡ 0 → i.0 + 1 < n
    → new_cell [] o d i ≡ new_cell (replicate n 255) o d i
unfolding new_cell
no_old n o d i e h =
    let None-there : cell_of [] i.0 ≡ None = cell_past [] i.0 e (omega arith) in
    let m : length {A = ℕ} (replicate n 255) ≡ n = length-replicate n 255 in
    let ff : cell_of (replicate n 255) i.0 ≡ Some 0xFFFF =
    cell_here (replicate n 255) i.0 e (omega arith)
    ∙ ap₂ (λ (a b : ℕ). Some (cell_number a b))
    (get_or-replicate n i.0 255 0 (omega arith)) (get_or-replicate n (i.0 + 1) 255 0 h) in
    simp (None-there, ff)

pub new_cell_blank : (n : ℕ) (o : PageOffset) (d : List ℕ) (i : ImageOffset) → Places n o (length d) i
    → new_cell [] o d i ≡ cell_at (laid_in (replicate n 255) o d) i.0
new_cell_blank n o d i h =
    let m : length {A = ℕ} (replicate n 255) ≡ n = length-replicate n 255 in
    no_old n o d i h.even_cell h.cell_in
    ∙ new_cell_at (replicate n 255) o d i (subst (λ (k : ℕ). Places k o (length d) i) (sym m) h)
