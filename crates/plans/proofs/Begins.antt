-- From any two pages of bytes: the list of steps of a save, and of a format, is Good from the very pages that it is
-- made for. This is why the method is safe: a cut between any two steps leaves the old image or the new one, whole.
-- In order: from lines to bytes; a save; a format.
-- Assumes nothing.
use Rattle.std.specs.Prelude.{Option, Some, None}
use Prim.Native.Nat.{ℕ, ◌+◌, ◌%◌}
use mathlib.Core.Path.{◌≡◌, refl, sym, ap, subst, ◌∙◌}
use mathlib.Core.Bool.{Bool, true, false, cond, ◌&&◌}
use mathlib.Core.List.{List, [], ◌∷◌, ◌++◌}
use native.Mathlib.Omega.{arith}
use lib.ListN.{length, drop, length-drop}
use Rattle.flash.specs.Flash.{Bytes, is_erased}
use Rattle.flash.proofs.Laws.{and_left, and_right, erased_is_erasure}
use Rattle.pages.specs.declared.Side.{Side}
use Rattle.pages.specs.declared.Side.TheVariants.{Left, Right}
use Rattle.pages.specs.declared.State.{State}
use Rattle.pages.specs.declared.State.TheVariants.{S0, S1, S2, S3, S5, S6, S7, S8, S9, S10}
use Rattle.pages.specs.Pages.{on_side, line_of, live_of, row_of, status_of}
use Rattle.pages.proofs.Table.{status_live}
use Rattle.steps.specs.declared.Step.TheVariants.{Erase}
use Rattle.images.specs.Images.{image_on, live_image}
use Rattle.plans.specs.declared.Entry.{Entry}
use Rattle.plans.specs.declared.Request.TheVariants.{Save, Format}
use Rattle.plans.specs.Plans.{
  entry,
  committing,
  mark,
  other,
  counts,
  others_erased,
  saving,
  formatting,
}
use Rattle.plans.proofs.Shapes.{blank, valid, dead, bytes_of, from_row, at_clean, at_used, shows_none, at_blank}
use Rattle.plans.proofs.Good.{
  Good,
  MaybeImage,
  filler,
  onward,
  first_onward,
  good_retired,
  good_finish,
  good_clean,
  good_erase,
  erasure_blank,
  good_unborn,
  good_first,
  good_shows,
  good_spoil,
}

-- ---- pages and a new image that fits them
pub record Sized (l r new : List ℕ) : Type 0 where
  pub bytes_left : Bytes l
  pub bytes_right : Bytes r
  pub bytes_new : Bytes new
  pub left : length l ≡ 4 + length new
  pub right : length r ≡ 4 + length new
  pub even : length new % 2 ≡ 0

-- ---- a save
-- its list, begun on these pages
abbrev pub saves_list : State → List ℕ → List ℕ → List ℕ → List Entry
saves_list st new l r = saving st (counts Save st && others_erased (live_of st) l r) new

abbrev Saves : State → List ℕ → List ℕ → List ℕ → Type 0
Saves st new l r = Good (live_image l r) (Some new) (saves_list st new l r) l r

-- what is Good from an image is Good from the one shown
shown : (current then : MaybeImage) (xs : List Entry) (l r : List ℕ) → Good current then xs l r → Good
    (live_image l r) then xs l r
shown current then xs l r g = subst (λ (i : MaybeImage). Good i then xs l r) (sym (good_shows current then xs l r g)) g

-- a save begun at a line other than 0, from what is Good of the bytes of its row
begin_at : (st : State) (l r new current : List ℕ) → Sized l r new → (status_of l r).state ≡ st → (line_of st ≡ 0 → ⊥)
    → Good (Some current) (Some new)
    (saves_list st new (bytes_of (row_of st).left (drop 4 l)) (bytes_of (row_of st).right (drop 4 r)))
    (bytes_of (row_of st).left (drop 4 l)) (bytes_of (row_of st).right (drop 4 r))
    → Saves st new l r
begin_at st l r new current z e h g =
    let x = bytes_of (row_of st).left (drop 4 l) in
    let y = bytes_of (row_of st).right (drop 4 r) in
    let n : length l ≡ 4 + length new = z.left in
    let m : length r ≡ 4 + length new = z.right in
    from_row (Saves st new) l r st z.bytes_left z.bytes_right (omega arith) (omega arith) e h
    (shown (Some current) (Some new) (saves_list st new x y) x y g)

-- from a clean pair: the page that isn't live is erased unless it is already
from_clean : (s : Side) (y x new : List ℕ) (t : Bool) → is_erased (blank x) ≡ t → Bytes new → length new % 2 ≡ 0
    → length x ≡ length new
    → Good (Some y) (Some new) (cond t [] (entry (on_side s S1 S8) (Erase (other s)) ∷ []) ++ onward s new)
    (on_side s (valid y) (blank x)) (on_side s (blank x) (valid y))
from_clean s y x new true e b even n =
    let k : blank x ≡ blank (filler (length new)) =
    erased_is_erasure (blank x) e ∙ erasure_blank (blank x) (length new) (omega arith) in
    subst (λ (p : List ℕ). Good (Some y) (Some new) (onward s new) (on_side s (valid y) p) (on_side s p (valid y)))
    (sym k) (good_clean s y new b even)
from_clean s y x new false e b even n =
    good_erase s (on_side s S1 S8) y (blank x) new b even (omega arith) (at_clean s y x)

-- from a pair whose other page is Dead
from_used : (s : Side) (y x new : List ℕ) → Bytes new → length new % 2 ≡ 0 → length x ≡ length new
    → Good (Some y) (Some new) (entry (on_side s S3 S7) (Erase (other s)) ∷ onward s new)
    (on_side s (valid y) (dead x)) (on_side s (dead x) (valid y))
from_used s y x new b even n = good_erase s (on_side s S3 S7) y (dead x) new b even (omega arith) (at_used s y x)

image_length : (l new : List ℕ) → length l ≡ 4 + length new → length (drop 4 l) ≡ length new
image_length l new e = length-drop 4 l ∙ (omega arith)

-- at line 0 there is no image
none_live_lem : (l r : List ℕ) → (status_of l r).state ≡ S0 → live_image l r ≡ None
unfolding live_image live_of
none_live_lem l r e = ap (λ (v : Option Side). image_on v l r) (status_live l r ∙ ap live_of e)

-- from line 0: both pages are erased unless they are already
from_none : (l r new : List ℕ) (t : Bool) → (is_erased l && is_erased r) ≡ t → (status_of l r).state ≡ S0 → Sized l r new
    → Good None (Some new)
    (cond t [] (entry S0 (mark Right 2 0x0000) ∷ entry S0 (Erase Left) ∷ entry S0 (Erase Right) ∷ [])
    ++ first_onward new)
    l r
from_none l r new true e q z =
    let a : l ≡ blank (filler (length new)) =
    erased_is_erasure l (and_left (is_erased l) (is_erased r) e) ∙ erasure_blank l (length new) z.left in
    let b : r ≡ blank (filler (length new)) =
    erased_is_erasure r (and_right (is_erased l) (is_erased r) e) ∙ erasure_blank r (length new) z.right in
    subst (λ (k : List ℕ). Good None (Some new) (first_onward new) k r) (sym a)
    (subst (Good None (Some new) (first_onward new) (blank (filler (length new)))) (sym b)
    (good_first new (filler (length new)) z.bytes_new z.even))
from_none l r new false e q z =
    good_spoil None (Some new) S0 false (first_onward new) l r (length new) (none_live_lem l r q) q refl z.bytes_right
    z.left z.right (good_first new (filler (length new)) z.bytes_new z.even)

pub good_save : (l r new : List ℕ) (st : State) → Sized l r new → (status_of l r).state ≡ st → Saves st new l r
unfolding saving live_of
good_save l r new S0 z e =
    shown None (Some new) (saving S0 (true && (is_erased l && is_erased r)) new) l r
    (from_none l r new (is_erased l && is_erased r) refl e z)
good_save l r new S1 z e =
    begin_at S1 l r new (drop 4 l) z e (λ q. absurd (omega arith))
    (from_clean Left (drop 4 l) (drop 4 r) new (is_erased (blank (drop 4 r))) refl z.bytes_new z.even
    (image_length r new z.right))
good_save l r new S2 z e =
    begin_at S2 l r new (drop 4 l) z e (λ q. absurd (omega arith))
    (good_unborn (Some new) (drop 4 l) (drop 4 r) (entry S3 (Erase Right) ∷ onward Left new)
    (from_used Left (drop 4 l) (drop 4 r) new z.bytes_new z.even (image_length r new z.right)))
good_save l r new S3 z e =
    begin_at S3 l r new (drop 4 l) z e (λ q. absurd (omega arith))
    (from_used Left (drop 4 l) (drop 4 r) new z.bytes_new z.even (image_length r new z.right))
good_save l r new S5 z e =
    begin_at S5 l r new (drop 4 r) z e (λ q. absurd (omega arith))
    (good_finish (Some new) Left (drop 4 l) (drop 4 r) (entry S7 (Erase Left) ∷ onward Right new)
    (from_used Right (drop 4 r) (drop 4 l) new z.bytes_new z.even (image_length l new z.left)))
good_save l r new S6 z e =
    begin_at S6 l r new (drop 4 r) z e (λ q. absurd (omega arith))
    (good_retired (Some new) Left (drop 4 l) (drop 4 r) (entry S7 (Erase Left) ∷ onward Right new)
    (from_used Right (drop 4 r) (drop 4 l) new z.bytes_new z.even (image_length l new z.left)))
good_save l r new S7 z e =
    begin_at S7 l r new (drop 4 r) z e (λ q. absurd (omega arith))
    (from_used Right (drop 4 r) (drop 4 l) new z.bytes_new z.even (image_length l new z.left))
good_save l r new S8 z e =
    begin_at S8 l r new (drop 4 r) z e (λ q. absurd (omega arith))
    (from_clean Right (drop 4 r) (drop 4 l) new (is_erased (blank (drop 4 l))) refl z.bytes_new z.even
    (image_length l new z.left))
good_save l r new S9 z e =
    begin_at S9 l r new (drop 4 l) z e (λ q. absurd (omega arith))
    (good_finish (Some new) Right (drop 4 r) (drop 4 l) (entry S3 (Erase Right) ∷ onward Left new)
    (from_used Left (drop 4 l) (drop 4 r) new z.bytes_new z.even (image_length r new z.right)))
good_save l r new S10 z e =
    begin_at S10 l r new (drop 4 l) z e (λ q. absurd (omega arith))
    (good_retired (Some new) Right (drop 4 r) (drop 4 l) (entry S3 (Erase Right) ∷ onward Left new)
    (from_used Left (drop 4 l) (drop 4 r) new z.bytes_new z.even (image_length r new z.right)))

-- ---- a format
pub good_format : (l r : List ℕ) (st : State) (n : ℕ) → Bytes r → length l ≡ 4 + n → length r ≡ 4 + n
    → (status_of l r).state ≡ st
    → Good (live_image l r) None (formatting st (counts Format st && others_erased (live_of st) l r)) l r
unfolding formatting
good_format l r st n b p q e = go (counts Format st && (counts Format st && others_erased (live_of st) l r))
  where
    go : (t : Bool)
        → Good (live_image l r) None
        (cond t [] (committing st (mark Right 2 0x0000) ∷ entry S0 (Erase Left) ∷ entry S0 (Erase Right) ∷ [])) l r
    go true = refl
    go false =
        good_spoil (live_image l r) None st true [] l r n refl e refl b p q
        (shows_none S0 (blank (filler n)) (blank (filler n)) (at_blank (filler n) (filler n)))
