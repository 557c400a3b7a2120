-- Writing to the output.
-- In order: bytes written one after another; answers; bytes lent where they were laid in.
-- Assumes nothing.
use Prim.Native.Nat.{ℕ, ◌+◌, ◌-◌, ◌≤◌}
use mathlib.Core.Path.{◌≡◌, refl, sym, ap, subst, ◌∙◌}
use mathlib.Core.List.{List, [], ◌∷◌, ◌++◌, append-nil}
use mathlib.Core.Logic.{◌⊎◌, inr, ⊎_elim}
use native.Mathlib.Omega.{arith}
use lib.ListN.{length, take, drop, replicate, length-append, length-drop}
use lib.Seq.{drop_at, drop-drop, length-take-le, take_at}
use borrow.Rule.Slice.PartMut.{mid_of, put_mid}
use Rattle.images.specs.Images.{overlaid}
use Rattle.images.proofs.Overlay.{overlaid_nothing, data_back, overlaid_apart, overlaid_next}
use Rattle.pages.specs.declared.PageOffset.{PageOffset}
use Rattle.boards.specs.declared.Answer.{Answer}
use Rattle.boards.specs.declared.Answer.TheVariants.{Nothing, Begun, Made, Ended, Number, Part, Output}
use Rattle.replays.specs.Runs.{code_of, rest_of, replies_in, Written, written}

-- ---- bytes written one after another
-- all of a part of the output
pub put_written : (xs d ys : List ℕ) (at k end : ℕ) → k ≡ length d → end ≡ at + length d → ys ≡ d
    → ◌≡◌ {A = Written} (record { out = put_mid at k xs ys; at = end }) (written xs at d)
unfolding overlaid
put_written xs d ys at k end n m e =
    (λ j. record { out = take at xs ++ (e j ++ drop (n j) (drop at xs)); at = m j })
    ∙ ap (λ (t : List ℕ). record { out = take at xs ++ (d ++ t); at = at + length d }) (drop-drop (length d) at xs)

pub filled_part : (xs ys : List ℕ) (at count v : ℕ) → at + count ≤ length xs
    → ys ≡ replicate (length (mid_of at (at + count - at) xs)) v → ys ≡ replicate count v
filled_part xs ys at count v h e =
    let k : at + count - at ≡ count = omega arith in
    let n : length (drop at xs) ≡ length xs - at = length-drop at xs in
    let m : length (take count (drop at xs)) ≡ count = length-take-le count (drop at xs) (omega arith) in
    e ∙ (λ i. replicate (length (take (k i) (drop at xs))) v) ∙ ap (λ (j : ℕ). replicate j v) m

pub written_none : (out : List ℕ) (at : ℕ) → ◌≡◌ {A = Written} (record { out = out; at = at }) (written out at [])
written_none out at =
    let after : at ≡ at + 0 = omega arith in
    λ i. record { out = sym (overlaid_nothing out at) i; at = after i }

pub written_next : (out : List ℕ) (at : ℕ) (d e : List ℕ) → at ≤ length out
    → written (overlaid out at d) (at + length d) e ≡ written out at (d ++ e)
written_next out at d e h =
    let n : length (d ++ e) ≡ length d + length e = length-append d e in
    let after : at + length d + length e ≡ at + length (d ++ e) = omega arith in
    λ i. record { out = overlaid_next out at d e h i; at = after i }

pub written_inside : (out : List ℕ) (at : ℕ) (d : List ℕ) → at ≤ length out → at + length d ≤ length
    (overlaid out at d)
unfolding overlaid
written_inside out at d h =
    let n : length (take at out) ≡ at = length-take-le at out h in
    simp (length-append, n) (omega arith)

-- ---- answers
-- bytes written after others
written_then : (out d e : List ℕ) (at : ℕ) (w x : Written) → at ≤ length out → w ≡ written out at d
    → x ≡ written w.out w.at e → x ≡ written out at (d ++ e)
written_then out d e at w x h ew ex =
    ex ∙ ap (λ (y : Written). written y.out y.at e) ew ∙ written_next out at d e h

pub replies_written : (n m : ℕ) (a : Answer) (l r d out : List ℕ) (at v : ℕ) (w x y : Written) → at ≤ length out
    → v ≡ code_of a → d ≡ rest_of a l r → w ≡ written out at (replicate m 0x11)
    → x ≡ written w.out w.at (replicate (n - m) v) → y ≡ written x.out x.at d → y ≡ written out at (replies_in n m a l r)
replies_written n m a l r d out at v w x y h ev ed ew ex ey =
    let first : List ℕ = replicate m 0x11 in
    let here : w.at ≤ length w.out =
    subst (λ (z : Written). z.at ≤ length z.out) (sym ew) (written_inside out at first h) in
    written_then out first (replicate (n - m) v ++ d) at w y h ew
    (written_then w.out (replicate (n - m) v) d w.at x y here ex ey)
    ∙ (λ i. written out at (first ++ (replicate (n - m) (ev i) ++ ed i)))

-- an answer of one byte
pub no_rest : (a : Answer) (l r : List ℕ) → ((o : PageOffset) (n : ℕ) → a ≡ Part o n → ⊥)
    → ((n : ℕ) → a ≡ Output n → ⊥) → [] ≡ rest_of a l r
no_rest Nothing l r h k = refl
no_rest Begun l r h k = refl
no_rest Made l r h k = refl
no_rest Ended l r h k = refl
no_rest (Number n) l r h k = refl
no_rest (Part o n) l r h k = absurd (h o n refl)
no_rest (Output n) l r h k = absurd (k n refl)

-- ---- bytes lent where they were laid in
pub lent_back : (xs d ys : List ℕ) (i k : ℕ) → k ≡ length d → i + length d ≤ length xs → ys ≡ overlaid xs i d
    → mid_of i k ys ≡ d
lent_back xs d ys i k n h e = (λ j. take (n j) (drop i (e j))) ∙ data_back xs i d h

pub lent_filled : (xs d ys zs : List ℕ) (i k : ℕ) → k ≡ length d → i + length d ≤ length xs → ys ≡ overlaid xs i d
    → length zs ≡ length d → put_mid i k ys zs ≡ overlaid xs i zs
unfolding overlaid
lent_filled xs d ys zs i k m h e n =
    let a : length (take i xs) ≡ i = length-take-le i xs (omega arith) in
    let rest = d ++ drop (i + length d) xs in
    let first : take i (take i xs ++ rest) ≡ take i xs = take_at (take i xs) rest i a in
    let back : drop i (take i xs ++ rest) ≡ rest = drop_at (take i xs) rest i a in
    let past : drop (length d) (d ++ drop (i + length d) xs) ≡ drop (i + length d) xs =
    drop_at d (drop (i + length d) xs) (length d) refl in
    (λ j. take i (e j) ++ (zs ++ drop (m j) (drop i (e j))))
    ∙ (λ j. first j ++ (zs ++ drop (length d) (back j)))
    ∙ ap (λ (t : List ℕ). take i xs ++ (zs ++ t)) past
    ∙ ap (λ (q : ℕ). take i xs ++ (zs ++ drop (i + q) xs)) (sym n)

pub nil_of : (xs : List ℕ) → length xs ≡ 0 → xs ≡ []
nil_of [] h = refl
nil_of (x ∷ xs) h = absurd (omega arith)

-- bytes written before them
pub written_before : (out d e : List ℕ) (at lead size : ℕ) (w : Written) → length e ≡ size → at + length d ≤ length out
    → at + lead + size ≤ length out → (length e ≡ 0) ⊎ (length d ≡ lead) → w ≡ written (overlaid out (at + lead) e) at d
    → ◌≡◌ {A = Written} (record { out = w.out; at = w.at + size }) (written out at (d ++ e))
written_before out d e at lead size w n h k either ew =
    ap (λ (x : Written). record { out = x.out; at = x.at + size }) ew
    ∙ (λ i. record { out = laid i; at = after i })
  where
    after : at + length d + size ≡ at + length (d ++ e)
    after = let m = length-append d e in omega arith

    laid : overlaid (overlaid out (at + lead) e) at d ≡ overlaid out at (d ++ e)
    laid =
        ⊎_elim
        (λ z.
        let None : e ≡ [] = nil_of e z in
        ap (λ (x : List ℕ). overlaid (overlaid out (at + lead) x) at d) None
        ∙ ap (λ (x : List ℕ). overlaid x at d) (overlaid_nothing out (at + lead))
        ∙ ap (overlaid out at) (sym (append-nil d) ∙ ap (λ (x : List ℕ). d ++ x) (sym None)))
        (λ z.
        let place : at + lead ≡ at + length d = omega arith in
        overlaid_apart out (at + lead) e at d (omega arith) h (inr (omega arith))
        ∙ ap (λ (m : ℕ). overlaid (overlaid out at d) m e) place
        ∙ overlaid_next out at d e (omega arith))
        either
