-- A part of a list, lent and written, is laid in where it stands.
-- In order: a part up to the end, of which the first bytes are written; a part that is written whole.
-- Assumes nothing.
use Prim.Native.Nat.{ℕ, ◌+◌, ◌-◌, ◌≤◌}
use mathlib.Core.Path.{◌≡◌, ap, ◌∙◌}
use mathlib.Core.List.{List, [], ◌++◌, append-nil}
use native.Mathlib.Omega.{arith}
use lib.ListN.{length, take, drop, length-drop, drop_of_length-le}
use lib.Seq.{drop-drop, take_all, take-length}
use borrow.Rule.Slice.PartMut.{mid_of, put_mid}
use Rattle.images.specs.Images.{overlaid}

pub part_overlaid : (xs d ys : List ℕ) (i : ℕ) → i + length d ≤ length xs
    → ys ≡ take (length d) d ++ drop (length d) (mid_of i (length xs - i) xs)
    → put_mid i (length xs - i) xs ys ≡ overlaid xs i d
unfolding overlaid
part_overlaid xs d ys i h e =
    let n : length (drop i xs) ≡ length xs - i = length-drop i xs in
    let past : drop (length xs - i) (drop i xs) ≡ [] = drop_of_length-le (drop i xs) {i = length xs - i}
    (omega arith) in
    let here : mid_of i (length xs - i) xs ≡ drop i xs = take_all (length xs - i) (drop i xs) (omega arith) in
    let all : ys ≡ d ++ drop (i + length d) xs =
    e ∙ (λ j. take-length d j ++ drop (length d) (here j))
    ∙ ap (λ (t : List ℕ). d ++ t) (drop-drop (length d) i xs) in
    ap (λ (t : List ℕ). take i xs ++ (ys ++ t)) past ∙ ap (λ (t : List ℕ). take i xs ++ t) (append-nil ys ∙ all)

pub part_filled : (xs d ys : List ℕ) (i k : ℕ) → k ≡ length d → ys ≡ d → put_mid i k xs ys ≡ overlaid xs i d
unfolding overlaid
part_filled xs d ys i k n e =
    (λ j. take i xs ++ (e j ++ drop (n j) (drop i xs)))
    ∙ ap (λ (t : List ℕ). take i xs ++ (d ++ t)) (drop-drop (length d) i xs)
