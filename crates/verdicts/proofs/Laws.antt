-- Laws of verdicts.
-- In order: what a read shows; bytes of the old and the new image; the new image, byte after byte, and that it is the old
-- one with the data laid in; the verdict; counts, and what is counted for what a read shows.
-- Assumes nothing.
use Rattle.std.proofs.Common.{◌≡◌, ℕ, zero, suc, ◌+◌, ◌-◌, ◌*◌, ◌<◌, ◌≤◌, Bool, true, false, cond, ◌&&◌, eqb, ltb, List, [], ◌∷◌, length, get_or, take, drop, sym, refl, ap, ◌∙◌, ⊎_elim, le_of_suc-le-suc, arith, ext_get_or, le-ltb, lt-ltb, eqb-true}
use lib.ListN.{get_or-eq_default}
use Rattle.std.proofs.lemmas.List.{get_or_default}
use Rattle.pages.specs.declared.PageOffset.{PageOffset}
use Rattle.pages.specs.declared.ImageOffset.{ImageOffset}
use Rattle.pages.specs.Offsets.{to_page}
use Rattle.pages.specs.Pages.{status_of}
use Rattle.pages.proofs.Laws.{page_offset}
use Rattle.plans.specs.declared.Request.{Request}
use Rattle.plans.specs.declared.Request.TheVariants.{Save, Format}
use Rattle.plans.specs.Counts.{cell_count}
use Rattle.requests.proofs.Laws.{legal}
use Rattle.reads.specs.Reads.{live_number, live_page, read_number, read_part}
use Rattle.images.specs.Images.{overlaid, laid_in}
use Rattle.images.proofs.Overlay.{byte_either, length_overlaid}
use Rattle.images.proofs.Laid.{laid_at}
use Rattle.texts.specs.Texts.{same}
use Rattle.std.specs.Cmp.Lexicographic.{pointwise}
use Rattle.std.specs.List.{list_all, zip, range_with_len}
use Rattle.verdicts.specs.declared.Tally.{Tally}
use Rattle.verdicts.specs.Verdicts.{
  shown,
  old_byte,
  new_byte,
  is_new,
  is_saved,
  is_asked,
  Shows,
  no_image,
  lost_shows,
  image_verdict,
  verdict_of,
  one_more,
  counted,
}

-- ---- what a read shows
pub too_long : (l r : List ℕ) → 4096 < length l → [] ≡ shown l r
unfolding read_part read_number
too_long l r h = go (eqb (read_number l r (to_page (record { 0 = 0 })) (cell_count (length l) * 2)) 0) refl
  where
    go : (t : Bool) → eqb (read_number l r (to_page (record { 0 = 0 })) (cell_count (length l) * 2)) 0 ≡ t
        → []
        ≡ cond t
        (take (cell_count (length l) * 2) (drop (to_page (record { 0 = 0 })).0 (live_page (status_of l r).live l r)))
        []
    go true e =
        let o : PageOffset = to_page (record { 0 = 0 }) in
        let n = cell_count (length l) * 2 in
        let x = (legal (length l) (length r) o n (live_number (status_of l r).live) (eqb-true
        (read_number l r o n) 0 e)).0 in
        absurd (omega (arith, x.most))
    go false e = refl

-- ---- bytes
pub old_inside : (image : List ℕ) (i : ImageOffset) → i.0 < length image → get_or image i.0 0 ≡ old_byte image i
old_inside image i h = get_or_default image i.0 0 255 h

-- before the data, in it and after it, by the page offset of the byte
pub new_before : (image : List ℕ) (o : PageOffset) (d : List ℕ) (i : ImageOffset) (p : PageOffset) (x : ℕ)
    → p ≡ to_page i → p.0 < o.0 → x ≡ old_byte image i → x ≡ new_byte image o d i
new_before image o d i p x ep h e =
    e
    ∙ sym (ap
    (λ (q : PageOffset). cond (ltb q.0 o.0) (old_byte image i) (get_or d (q.0 - o.0) (old_byte image i))) (sym ep)
    ∙ ap (λ (t : Bool). cond t (old_byte image i) (get_or d (p.0 - o.0) (old_byte image i))) (lt-ltb p.0 o.0 h))

pub new_inside : (image : List ℕ) (o : PageOffset) (d : List ℕ) (i : ImageOffset) (p : PageOffset) → p ≡ to_page i
    → o.0 ≤ p.0 → p.0 - o.0 < length d → get_or d (p.0 - o.0) 0 ≡ new_byte image o d i
new_inside image o d i p ep h k =
    get_or_default d (p.0 - o.0) 0 (old_byte image i) k
    ∙ sym (ap
    (λ (q : PageOffset). cond (ltb q.0 o.0) (old_byte image i) (get_or d (q.0 - o.0) (old_byte image i))) (sym ep)
    ∙ ap (λ (t : Bool). cond t (old_byte image i) (get_or d (p.0 - o.0) (old_byte image i))) (le-ltb p.0 o.0 h))

pub new_after : (image : List ℕ) (o : PageOffset) (d : List ℕ) (i : ImageOffset) (p : PageOffset) (x : ℕ)
    → p ≡ to_page i → o.0 ≤ p.0 → length d ≤ p.0 - o.0 → x ≡ old_byte image i → x ≡ new_byte image o d i
new_after image o d i p x ep h k e =
    e ∙ sym (get_or-eq_default d (old_byte image i) k)
    ∙ sym (ap
    (λ (q : PageOffset). cond (ltb q.0 o.0) (old_byte image i) (get_or d (q.0 - o.0) (old_byte image i))) (sym ep)
    ∙ ap (λ (t : Bool). cond t (old_byte image i) (get_or d (p.0 - o.0) (old_byte image i))) (le-ltb p.0 o.0 h))

-- ---- byte after byte
abbrev pub at : ℕ → ImageOffset
at i = record { 0 = i }

pub each_is_new : (image old : List ℕ) (o : PageOffset) (d : List ℕ) (i : ℕ)
    → list_all (λ (p : ℕ × ℕ). eqb p.1 (new_byte old o d (at p.0))) (zip (range_with_len i (length image)) image)
    ≡ is_new image old o d i
unfolding is_new
each_is_new [] old o d i = refl
each_is_new (x ∷ xs) old o d i = ap (λ t. eqb x (new_byte old o d (at i)) && t) (each_is_new xs old o d (i + 1))

-- the new image is the old one with the data laid in
laid_byte : (old : List ℕ) (o : PageOffset) (d : List ℕ) (i : ℕ) → 4 ≤ o.0 → o.0 - 4 ≤ length old → i < length old
    → i ≤ 4294967291 → get_or (overlaid old (o.0 - 4) d) i 0 ≡ new_byte old o d (at i)
laid_byte old o d i g h k bits =
    let p : (to_page (at i)).0 ≡ 4 + i = page_offset (at i) bits in
    byte_either old (o.0 - 4) d i (new_byte old o d (at i)) h
    (⊎_elim
    (λ q. new_before old o d (at i) (to_page (at i)) (get_or old i 0) refl (omega (arith, q)) (old_inside old (at i) k))
    (λ q.
    new_after old o d (at i) (to_page (at i)) (get_or old i 0) refl (omega (arith, q)) (omega (arith, q))
    (old_inside old (at i) k)))
    (λ q s.
    let m : i - (o.0 - 4) ≡ (to_page (at i)).0 - o.0 = omega (arith, q) in
    ap (λ (n : ℕ). get_or d n 0) m
    ∙ new_inside old o d (at i) (to_page (at i)) refl (omega (arith, q)) (omega (arith, q, s)))

each_new : (image old : List ℕ) (o : PageOffset) (d : List ℕ) (i : ℕ) → is_new image old o d i ≡ true → (j : ℕ)
    → j < length image → get_or image j 0 ≡ new_byte old o d (at (i + j))
unfolding is_new
each_new [] old o d i h j k = absurd (omega (arith, k))
each_new (x ∷ xs) old o d i h j k = go (eqb x (new_byte old o d (at i))) refl h (each_new xs old o d (i + 1)) j k
  where
    go : (t : Bool) → eqb x (new_byte old o d (at i)) ≡ t → (t && is_new xs old o d (i + 1)) ≡ true
        → (is_new xs old o d (i + 1) ≡ true → (j : ℕ) → j < length xs
        → get_or xs j 0 ≡ new_byte old o d (at (i + 1 + j)))
        → (j : ℕ) → j < length (x ∷ xs) → get_or (x ∷ xs) j 0 ≡ new_byte old o d (at (i + j))
    go true q e later zero k =
        let n : i ≡ i + 0 = omega arith in
        eqb-true x (new_byte old o d (at i)) q ∙ ap (λ (m : ℕ). new_byte old o d (at m)) n
    go true q e later (suc j) k =
        let n : i + 1 + j ≡ i + suc j = omega arith in
        later e j (le_of_suc-le-suc k) ∙ ap (λ (m : ℕ). new_byte old o d (at m)) n
    go false q e later j k = let z : ◌≡◌ {A = ℕ} 0 1 = cc in absurd (omega arith)

pub new_is_laid : (image old : List ℕ) (o : PageOffset) (d : List ℕ) → length image ≡ length old → length old ≤ 4096
    → 4 ≤ o.0 → o.0 + length d ≤ 4 + length old → is_new image old o d 0 ≡ true → image ≡ laid_in old o d
new_is_laid image old o d e small g h t =
    let fit : o.0 - 4 + length d ≤ length old = omega arith in
    ext_get_or 0 image (overlaid old (o.0 - 4) d) (e ∙ sym (length_overlaid old (o.0 - 4) d fit))
    (λ i k.
    let n : 0 + i ≡ i = omega arith in
    each_new image old o d 0 t i k
    ∙ ap (λ (m : ℕ). new_byte old o d (at m)) n
    ∙ sym (laid_byte old o d i g (omega (arith, h)) (omega (arith, e, k)) (omega (arith, e, k, small))))
    ∙ sym (laid_at old o d g)

-- ---- the verdict
pub same_pointwise : (a b : List ℕ) → same a b ≡ pointwise eqb a b
unfolding same
same_pointwise [] [] = refl
same_pointwise [] (y ∷ ys) = refl
same_pointwise (x ∷ xs) [] = refl
same_pointwise (x ∷ xs) (y ∷ ys) = ap (λ t. eqb x y && t) (same_pointwise xs ys)

pub shows : (q : Request) (image old : List ℕ) (o : PageOffset) (d : List ℕ) (t : Bool) (v : Shows) → 0 < length image
    → t ≡ is_asked q image old o d → v ≡ image_verdict (same image old) t → v ≡ verdict_of q image old o d
unfolding verdict_of
shows q [] old o d t v h e f = absurd (omega (arith, h))
shows q (x ∷ xs) old o d t v h e f = f ∙ ap (image_verdict (same (x ∷ xs) old)) e

pub lost : (q : Request) (image old : List ℕ) (o : PageOffset) (d : List ℕ) (v : Shows) → length image ≤ 0
    → 0 < length old → v ≡ lost_shows q → v ≡ verdict_of q image old o d
unfolding verdict_of
lost q [] [] o d v h k e = absurd (omega (arith, k))
lost q [] (y ∷ ys) o d v h k e = e
lost q (x ∷ xs) old o d v h k e = absurd (omega (arith, h))

pub never_there : (q : Request) (image old : List ℕ) (o : PageOffset) (d : List ℕ) → length image ≤ 0 → length old ≤ 0
    → no_image ≡ verdict_of q image old o d
unfolding verdict_of
never_there q [] [] o d h k = refl
never_there q [] (y ∷ ys) o d h k = absurd (omega (arith, k))
never_there q (x ∷ xs) old o d h k = absurd (omega (arith, h))

-- ---- counts
counted_image : (t : Tally) (is-old is-asked : Bool)
    → counted t (image_verdict is-old is-asked)
    ≡ cond is-old
    (record { old = one_more t.old; new = t.new; another = t.another })
    (cond is-asked
    (record { old = t.old; new = one_more t.new; another = t.another })
    (record { old = t.old; new = t.new; another = one_more t.another }))
counted_image t true true = refl
counted_image t true false = refl
counted_image t false true = refl
counted_image t false false = refl

-- whether what a read shows is what a request is to leave: of a save an image, and of a format none
abbrev pub leaves : Request → List ℕ → List ℕ → PageOffset → List ℕ → Bool
leaves Save [] before o d = false
leaves Save (x ∷ xs) before o d = is_saved (x ∷ xs) before o d
leaves Format [] before o d = true
leaves Format (x ∷ xs) before o d = false

-- from what a read shows to what is counted: old where it is what it was, else new where it is what was
-- asked for, and else, and only then, another
pub counts_exactly : (t : Tally) (q : Request) (image before : List ℕ) (o : PageOffset) (d : List ℕ)
    → counted t (verdict_of q image before o d)
    ≡ cond (same image before)
    (record { old = one_more t.old; new = t.new; another = t.another })
    (cond (leaves q image before o d)
    (record { old = t.old; new = one_more t.new; another = t.another })
    (record { old = t.old; new = t.new; another = one_more t.another }))
unfolding verdict_of same
counts_exactly t q [] [] o d = refl
counts_exactly t Save [] (y ∷ ys) o d = refl
counts_exactly t Format [] (y ∷ ys) o d = refl
counts_exactly t Save (x ∷ xs) before o d =
    counted_image t (same (x ∷ xs) before) (is_saved (x ∷ xs) before o d)
counts_exactly t Format (x ∷ xs) before o d = counted_image t (same (x ∷ xs) before) false
