-- Laws of an image with data laid in at a page offset: what Overlay.antt says of bytes laid in at a place, for the places
-- of an image in its page.
-- In order: a page offset at or after the image's first byte is a place 4 lower in the image; the length; nothing laid
-- in; the data read back; laid in twice; two that don't overlap.
-- Assumes nothing.
use Prim.Native.Nat.{ℕ, suc, ◌+◌, ◌-◌, ◌≤◌}
use mathlib.Core.Path.{◌≡◌, sym, ap, ◌∙◌}
use mathlib.Core.List.{List, [], ◌++◌}
use mathlib.Core.Logic.{inl, inr, ⊎_elim}
use native.Mathlib.Omega.{arith}
use lib.ListN.{length, take, drop}
use Rattle.pages.specs.declared.PageOffset.{PageOffset}
use Rattle.pages.specs.Offsets.{image_of}
use Rattle.images.specs.Images.{overlaid, in_page, laid_in}
use Rattle.images.proofs.Overlay.{
  length_overlaid,
  overlaid_nothing,
  data_back,
  overlaid_twice,
  Apart,
  overlaid_apart,
}

-- ---- places of the page and of the image
-- bytes laid in after the first four
later : (image : List ℕ) (i : ℕ) (d : List ℕ)
    → image_of (overlaid (in_page image) (suc (suc (suc (suc i)))) d) ≡ overlaid image i d
unfolding overlaid
later image i d =
    let e : suc (suc (suc (suc i))) + length d ≡ suc (suc (suc (suc (i + length d)))) = omega arith in
    ap (λ (k : ℕ). take i image ++ (d ++ drop k (in_page image))) e

pub laid_at : (image : List ℕ) (o : PageOffset) (d : List ℕ) → 4 ≤ o.0 → laid_in image o d ≡ overlaid image (o.0 - 4) d
unfolding laid_in
laid_at image o d h =
    let e : o.0 ≡ suc (suc (suc (suc (o.0 - 4)))) = omega arith in
    ap (λ (k : ℕ). image_of (overlaid (in_page image) k d)) e ∙ later image (o.0 - 4) d

-- the bytes from a page offset on, counted in the image
pub asked_at : (image : List ℕ) (o : PageOffset) → 4 ≤ o.0 → drop o.0 (in_page image) ≡ drop (o.0 - 4) image
asked_at image o h =
    let e : o.0 ≡ suc (suc (suc (suc (o.0 - 4)))) = omega arith in
    ap (λ (k : ℕ). drop k (in_page image)) e

-- ---- laws
pub length_laid : (image : List ℕ) (o : PageOffset) (d : List ℕ) → 4 ≤ o.0 → o.0 + length d ≤ 4 + length image
    → length (laid_in image o d) ≡ length image
length_laid image o d h k = ap length (laid_at image o d h) ∙ length_overlaid image (o.0 - 4) d (omega arith)

-- data of length 0 "changes no image byte"
pub laid_nothing : (image : List ℕ) (o : PageOffset) → 4 ≤ o.0 → laid_in image o [] ≡ image
laid_nothing image o h = laid_at image o [] h ∙ overlaid_nothing image (o.0 - 4)

-- "reading those bytes back gives them exactly"
pub laid_back : (image : List ℕ) (o : PageOffset) (d : List ℕ) → 4 ≤ o.0 → o.0 + length d ≤ 4 + length image
    → take (length d) (drop o.0 (in_page (laid_in image o d))) ≡ d
laid_back image o d h k =
    ap (take (length d)) (asked_at (laid_in image o d) o h)
    ∙ ap (λ (x : List ℕ). take (length d) (drop (o.0 - 4) x)) (laid_at image o d h)
    ∙ data_back image (o.0 - 4) d (omega arith)

pub laid_twice : (image : List ℕ) (o : PageOffset) (d : List ℕ) → 4 ≤ o.0 → o.0 + length d ≤ 4 + length image
    → laid_in (laid_in image o d) o d ≡ laid_in image o d
laid_twice image o d h k =
    laid_at (laid_in image o d) o d h
    ∙ ap (λ (x : List ℕ). overlaid x (o.0 - 4) d) (laid_at image o d h)
    ∙ overlaid_twice image (o.0 - 4) d (omega arith)
    ∙ sym (laid_at image o d h)

-- two that don't overlap, in either order
lower : (o : PageOffset) (d : List ℕ) (o' : PageOffset) (d' : List ℕ) → 4 ≤ o.0 → 4 ≤ o'.0
    → Apart o.0 d o'.0 d' → Apart (o.0 - 4) d (o'.0 - 4) d'
lower o d o' d' h h' a = ⊎_elim (λ p. inl (omega arith)) (λ p. inr (omega arith)) a

pub laid_apart : (image : List ℕ) (o : PageOffset) (d : List ℕ) (o' : PageOffset) (d' : List ℕ) → 4 ≤ o.0
    → o.0 + length d ≤ 4 + length image → 4 ≤ o'.0 → o'.0 + length d' ≤ 4 + length image → Apart o.0 d o'.0 d'
    → laid_in (laid_in image o d) o' d' ≡ laid_in (laid_in image o' d') o d
laid_apart image o d o' d' h k h' k' a =
    laid_at (laid_in image o d) o' d' h'
    ∙ ap (λ (x : List ℕ). overlaid x (o'.0 - 4) d') (laid_at image o d h)
    ∙ overlaid_apart image (o.0 - 4) d (o'.0 - 4) d' (omega arith) (omega arith) (lower o d o' d' h h' a)
    ∙ ap (λ (x : List ℕ). overlaid x (o.0 - 4) d) (sym (laid_at image o' d' h'))
    ∙ sym (laid_at (laid_in image o' d') o d h)
