-- Laws of laying bytes in.
-- In order: the length; nothing laid in; a byte before, inside and after the data; the data read back; laid in twice;
-- two that don't overlap; one right after another.
-- Assumes nothing.
use Prim.Native.Nat.{ℕ, ◌+◌, ◌-◌, ◌<◌, ◌≤◌}
use mathlib.Core.Path.{◌≡◌, refl, sym, ap, ◌∙◌}
use mathlib.Core.Bool.{Bool, true, false}
use mathlib.Core.List.{List, [], ◌++◌, append_assoc}
use mathlib.Core.Logic.{◌⊎◌, inl, inr, ⊎_elim}
use native.Mathlib.Omega.{arith}
use lib.ListN.{length, get_or, take, drop, take-append-drop, length-append, length-drop, get_or-append}
use lib.Seq.{
  length-take-le,
  get_or-take,
  get_or-drop,
  get_or-append-add,
  drop_at,
  drop-drop,
  drop-append-add,
  take_at,
  take-append_seam,
  ext_get_or,
}
use lib.Dec.{ltb, leb}
use borrow.Author.Tests.{ltb-true, ltb-false, leb-true, leb-false}
use Rattle.images.specs.Images.{overlaid}

pub length_overlaid : (image : List ℕ) (o : ℕ) (d : List ℕ) → o + length d ≤ length image
    → length (overlaid image o d) ≡ length image
unfolding overlaid
length_overlaid image o d h =
    let a : length (take o image) ≡ o = length-take-le o image (omega arith) in
    let b : length (drop (o + length d) image) ≡ length image - (o + length d) = length-drop (o + length d) image in
    simp (length-append, a, b) (omega arith)

-- data of length 0 "changes no image byte"
pub overlaid_nothing : (image : List ℕ) (o : ℕ) → overlaid image o [] ≡ image
unfolding overlaid
overlaid_nothing image o =
    let e : o + 0 ≡ o = omega arith in
    ap (λ (k : ℕ). take o image ++ drop k image) e ∙ take-append-drop o image

-- a place in the second of two lists
pub get_d_later : {A : Type 0} (xs ys : List A) (z : A) (i n : ℕ) → length xs ≡ n → n ≤ i
    → get_or (xs ++ ys) i z ≡ get_or ys (i - n) z
get_d_later xs ys z i n e h =
    let k : i ≡ length xs + (i - n) = omega arith in
    ap (λ (j : ℕ). get_or (xs ++ ys) j z) k ∙ get_or-append-add xs ys (i - n) z

-- a byte that the data doesn't reach is kept, one that it reaches is the data's
before : (image : List ℕ) (o : ℕ) (d : List ℕ) (i : ℕ) → o ≤ length image → i < o
    → get_or (overlaid image o d) i 0 ≡ get_or image i 0
unfolding overlaid
before image o d i h k =
    let a : length (take o image) ≡ o = length-take-le o image h in
    get_or-append (take o image) (d ++ drop (o + length d) image) 0 i (omega arith) ∙ get_or-take o image i 0 k

after : (image : List ℕ) (o : ℕ) (d : List ℕ) (i : ℕ) → o ≤ length image → o + length d ≤ i
    → get_or (overlaid image o d) i 0 ≡ get_or image i 0
unfolding overlaid
after image o d i h k =
    let e : (o + length d) + ((i - o) - length d) ≡ i = omega arith in
    get_d_later (take o image) (d ++ drop (o + length d) image) 0 i o (length-take-le o image h) (omega arith)
    ∙ get_d_later d (drop (o + length d) image) 0 (i - o) (length d) refl (omega arith)
    ∙ get_or-drop (o + length d) image ((i - o) - length d) 0
    ∙ ap (λ (j : ℕ). get_or image j 0) e

abbrev pub Outside : ℕ → List ℕ → ℕ → Type 0
Outside o d i = (i < o) ⊎ (o + length d ≤ i)

pub byte_outside : (image : List ℕ) (o : ℕ) (d : List ℕ) (i : ℕ) → o ≤ length image → Outside o d i
    → get_or (overlaid image o d) i 0 ≡ get_or image i 0
byte_outside image o d i h = ⊎_elim (before image o d i h) (after image o d i h)

pub byte_inside : (image : List ℕ) (o : ℕ) (d : List ℕ) (i : ℕ) → o ≤ length image → o ≤ i → i < o + length d
    → get_or (overlaid image o d) i 0 ≡ get_or d (i - o) 0
unfolding overlaid
byte_inside image o d i h j k =
    get_d_later (take o image) (d ++ drop (o + length d) image) 0 i o (length-take-le o image h) j
    ∙ get_or-append d (drop (o + length d) image) 0 (i - o) (omega arith)

-- so what holds of it either way holds of it
pub byte_either : (image : List ℕ) (o : ℕ) (d : List ℕ) (i x : ℕ) → o ≤ length image
    → (Outside o d i → get_or image i 0 ≡ x) → (o ≤ i → i < o + length d → get_or d (i - o) 0 ≡ x)
    → get_or (overlaid image o d) i 0 ≡ x
byte_either image o d i x h f g = go (ltb i o) (leb (o + length d) i) refl refl
  where
    go : (s t : Bool) → ltb i o ≡ s → leb (o + length d) i ≡ t → get_or (overlaid image o d) i 0 ≡ x
    go true t p q = let u = inl (ltb-true i o p) in byte_outside image o d i h u ∙ f u
    go false true p q = let u = inr (leb-true (o + length d) i q) in byte_outside image o d i h u ∙ f u
    go false false p q =
        let a = ltb-false i o p in
        let b = leb-false (o + length d) i q in
        byte_inside image o d i h a b ∙ g a b

-- the data is read back
pub data_back : (image : List ℕ) (o : ℕ) (d : List ℕ) → o + length d ≤ length image
    → take (length d) (drop o (overlaid image o d)) ≡ d
unfolding overlaid
data_back image o d h =
    let a : length (take o image) ≡ o = length-take-le o image (omega arith) in
    ap (take (length d)) (drop_at (take o image) (d ++ drop (o + length d) image) o a)
    ∙ take-append_seam d (drop (o + length d) image)

-- laying the same data in twice is laying it in once
pub overlaid_twice : (image : List ℕ) (o : ℕ) (d : List ℕ) → o + length d ≤ length image
    → overlaid (overlaid image o d) o d ≡ overlaid image o d
overlaid_twice image o d h =
    let n = length_overlaid image o d h in
    ext_get_or 0 (overlaid (overlaid image o d) o d) (overlaid image o d)
    (length_overlaid (overlaid image o d) o d (omega arith))
    (λ i k. byte_either (overlaid image o d) o d i (get_or (overlaid image o d) i 0) (omega arith) (λ u. refl)
    (λ a b. sym (byte_inside image o d i (omega arith) a b)))

-- data that doesn't overlap may be laid in in either order
abbrev pub Apart : ℕ → List ℕ → ℕ → List ℕ → Type 0
Apart o d o' d' = (o + length d ≤ o') ⊎ (o' + length d' ≤ o)

apart_outside : (o : ℕ) (d : List ℕ) (o' : ℕ) (d' : List ℕ) (i : ℕ) → Apart o d o' d' → o' ≤ i → i < o' + length d'
    → Outside o d i
apart_outside o d o' d' i e a b = ⊎_elim (λ k. inr (omega arith)) (λ k. inl (omega arith)) e

pub overlaid_apart : (image : List ℕ) (o : ℕ) (d : List ℕ) (o' : ℕ) (d' : List ℕ) → o + length d ≤ length image
    → o' + length d' ≤ length image → Apart o d o' d'
    → overlaid (overlaid image o d) o' d' ≡ overlaid (overlaid image o' d') o d
overlaid_apart image o d o' d' h h' e =
    let n : length (overlaid image o d) ≡ length image = length_overlaid image o d h in
    let n' : length (overlaid image o' d') ≡ length image = length_overlaid image o' d' h' in
    let m : length (overlaid (overlaid image o d) o' d') ≡ length (overlaid image o d) =
    length_overlaid (overlaid image o d) o' d' (omega arith) in
    let m' : length (overlaid (overlaid image o' d') o d) ≡ length (overlaid image o' d') =
    length_overlaid (overlaid image o' d') o d (omega arith) in
    ext_get_or 0 (overlaid (overlaid image o d) o' d') (overlaid (overlaid image o' d') o d) (omega arith)
    (λ i k.
    byte_either (overlaid image o d) o' d' i (get_or (overlaid (overlaid image o' d') o d) i 0) (omega arith)
    (λ u'.
    byte_either image o d i (get_or (overlaid (overlaid image o' d') o d) i 0) (omega arith)
    (λ u.
    sym (byte_outside (overlaid image o' d') o d i (omega arith) u ∙ byte_outside image o' d' i (omega arith) u'))
    (λ a b. sym (byte_inside (overlaid image o' d') o d i (omega arith) a b)))
    (λ a b.
    sym (byte_outside (overlaid image o' d') o d i (omega arith) (apart_outside o d o' d' i e a b)
    ∙ byte_inside image o' d' i (omega arith) a b)))

-- data laid in right after other data
pub overlaid_next : (xs : List ℕ) (i : ℕ) (d e : List ℕ) → i ≤ length xs
    → overlaid (overlaid xs i d) (i + length d) e ≡ overlaid xs i (d ++ e)
unfolding overlaid
overlaid_next xs i d e h =
    let f = take i xs ++ d in
    let t = drop (i + length d) xs in
    let n : length (take i xs) ≡ i = length-take-le i xs h in
    let m : length (take i xs ++ d) ≡ i + length d = length-append (take i xs) d ∙ ap (λ (k : ℕ). k + length d) n in
    let split : take i xs ++ (d ++ drop (i + length d) xs) ≡ (take i xs ++ d) ++ drop (i + length d) xs =
    sym (append_assoc (take i xs) d t) in
    let front : take (i + length d) (f ++ t) ≡ f = take_at f t (i + length d) m in
    let ends : i + length d + length e ≡ i + length (d ++ e) =
    let k : length (d ++ e) ≡ length d + length e = length-append d e in
    omega arith in
    let back : drop (i + length d + length e) (f ++ t) ≡ drop (i + length (d ++ e)) xs =
    ap (λ (k : ℕ). drop (k + length e) (f ++ t)) (sym m) ∙ drop-append-add f t (length e)
    ∙ drop-drop (length e) (i + length d) xs ∙ ap (λ (k : ℕ). drop k xs) ends in
    ap (λ (z : List ℕ). take (i + length d) z ++ (e ++ drop (i + length d + length e) z)) split
    ∙ (λ j. front j ++ (e ++ back j)) ∙ append_assoc (take i xs) d (e ++ drop (i + length (d ++ e)) xs)
    ∙ ap (λ (z : List ℕ). take i xs ++ z) (sym (append_assoc d e (drop (i + length (d ++ e)) xs)))
