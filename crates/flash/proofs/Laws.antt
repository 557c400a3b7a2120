-- Laws of cells, programming and erasing: callers use these and never the text of the definitions.
-- In order: answers and Booleans; cells; programming; erasing; the erased test.
-- Not here: laws of lists (lib.Seq, lib.ListN) and of bits (lib.Bits). Assumes nothing.
use Rattle.std.specs.Prelude.{Some, None, Result, Ok, Err}
use Rattle.std.specs.Result.{is_err}
use Prim.Native.Nat.{ℕ, zero, suc, ◌+◌, ◌*◌, ◌%◌, ◌/◌, ◌<◌, ◌≤◌}
use mathlib.Core.Path.{◌≡◌, refl, sym, ap, ap₂, ◌∙◌}
use mathlib.Core.Bool.{Bool, true, false, cond, not, ◌&&◌}
use mathlib.Core.List.{List, [], ◌∷◌, ◌++◌, append-nil}
use native.Mathlib.Numerals.{add-one}
use native.Mathlib.Nat.{add-zero, suc-add}
use native.Mathlib.Omega.{arith}
use lib.Bits.{bit_and, and_self, and_le_l, and_le_r}
use lib.Dec.{eqb, ltb}
use lib.ListN.{length, get_or, set, take, drop, replicate, length-set, length-replicate, drop_of_length-le}
use lib.Seq.{drop-cons, drop-drop, drop-length, get_or-set_same, get_or-set_other}
use borrow.Author.Fill.{fill_more}
use borrow.Author.Tests.{eqb-true, eqb-false, ltb-true, eq-eqb, ne_eqb, lt-ltb, le-ltb}
use Rattle.std.specs.Int.{w16, w64, from_le_bytes, to_le_bytes}
use borrow.Rule.Slice.PartMut.{put_mid}
use Rattle.std.specs.List.{list_all}
use Rattle.std.specs.Simd.{first_chunks}
use Rattle.flash.specs.declared.StepError.{StepError}
use Rattle.flash.specs.declared.StepError.TheVariants.{Unfit}
use Rattle.flash.specs.Flash.{
  number_in,
  is_cell,
  cell_at,
  cell_of,
  stored,
  clears,
  fits,
  Outcome,
  programmed,
  erasure,
  is_erased,
}

-- what is promised of a call's answer, once a `match` has told which case it is
pub told : {A B : Type 0} (f : A → B) {x y : A} {z : B} → x ≡ y → f x ≡ z → f y ≡ z
told f e h = ap f (sym e) ∙ h

-- both sides of a conjunction
pub and_left : (a b : Bool) → (a && b) ≡ true → a ≡ true
and_left true b e = refl
and_left false b e = e

pub and_right : (a b : Bool) → (a && b) ≡ true → b ≡ true
and_right true b e = e
and_right false b e = cc

and_assoc : (a b c : Bool) → ((a && b) && c) ≡ (a && (b && c))
and_assoc true b c = refl
and_assoc false b c = refl

pub and_true : (a : Bool) → (a && true) ≡ a
and_true true = refl
and_true false = refl

-- the byte after an even place inside is where a cell ends
pub cell_here : (l : List ℕ) (i : ℕ) → i % 2 ≡ 0 → i + 1 < length l → cell_of l i ≡ Some (cell_at l i)
unfolding cell_of is_cell
cell_here l i e h = simp (eq-eqb _ _ e, lt-ltb _ _ h)

pub cell_odd : (l : List ℕ) (i : ℕ) → (i % 2 ≡ 0 → ⊥) → cell_of l i ≡ None
unfolding cell_of is_cell
cell_odd l i h = simp (ne_eqb _ _ h)

pub cell_past : (l : List ℕ) (i : ℕ) → i % 2 ≡ 0 → length l ≤ i + 1 → cell_of l i ≡ None
unfolding cell_of is_cell
cell_past l i e h = simp (eq-eqb _ _ e, le-ltb _ _ h)

pub cell_inside : (l : List ℕ) (i : ℕ) → is_cell l i ≡ true → i + 1 < length l
unfolding is_cell
cell_inside l i e = ltb-true (i + 1) (length l) (and_right (eqb (i % 2) 0) (ltb (i + 1) (length l)) e)

-- from the answer of a look at a cell back to the cell
pub holds_cell : (l : List ℕ) (i v : ℕ) → cell_of l i ≡ Some v → (is_cell l i ≡ true) × (cell_at l i ≡ v)
unfolding cell_of
holds_cell l i v = go (is_cell l i) refl
  where
    go : (t : Bool) → is_cell l i ≡ t → cond t (Some (cell_at l i)) None ≡ Some v
        → (is_cell l i ≡ true) × (cell_at l i ≡ v)
    go true q e = (q, cc)
    go false q e = (cc, cc)

pub outside_cell : (l : List ℕ) (i : ℕ) → cell_of l i ≡ None → is_cell l i ≡ false
unfolding cell_of
outside_cell l i = go (is_cell l i) refl
  where
    go : (t : Bool) → is_cell l i ≡ t → cond t (Some (cell_at l i)) None ≡ None → is_cell l i ≡ false
    go true q e = cc
    go false q e = q

-- a step is made exactly if it fits
pub made : (l : List ℕ) (i v : ℕ) → fits l i v ≡ true
    → programmed l i v ≡ (record { number = 0; bytes = stored l i (bit_and (cell_at l i) v) })
unfolding programmed
made l i v e = simp e

pub unfit : (l : List ℕ) (i v : ℕ) → fits l i v ≡ false → programmed l i v ≡ (record { number = 6; bytes = l })
unfolding programmed
unfit l i v e = simp e

-- the parts of the test, from a look at the cell
pub fits_cell : (l : List ℕ) (i v old : ℕ) → cell_of l i ≡ Some old → fits l i v ≡ clears old v
unfolding fits
fits_cell l i v old e = simp ((holds_cell l i old e).0, (holds_cell l i old e).1)

pub fits_nowhere : (l : List ℕ) (i v : ℕ) → cell_of l i ≡ None → fits l i v ≡ false
unfolding fits
fits_nowhere l i v e = simp (outside_cell l i e)

-- a step that isn't made has one number
pub refused : (r : Result (Unit {0}) StepError) → is_err r ≡ true → number_in r ≡ 6
refused (Ok made) e = cc
refused (Err Unfit) e = refl

-- the three ways a step ends, from a look at the cell and the test of its bits
pub step_nowhere : (l : List ℕ) (i v : ℕ) → cell_of l i ≡ None
    → ◌≡◌ {A = Outcome} (record { number = 6; bytes = l }) (programmed l i v)
step_nowhere l i v e = sym (unfit l i v (fits_nowhere l i v e))

pub step_unfit : (l : List ℕ) (i v old : ℕ) → cell_of l i ≡ Some old → (bit_and old v ≡ v → ⊥)
    → ◌≡◌ {A = Outcome} (record { number = 6; bytes = l }) (programmed l i v)
step_unfit l i v old e h = sym (unfit l i v (fits_cell l i v old e ∙ ne_eqb (bit_and old v) v h))

pub step_made : (l : List ℕ) (i v old : ℕ) → cell_of l i ≡ Some old → bit_and old v ≡ v
    → ◌≡◌ {A = Outcome} (record { number = 0; bytes = stored l i (bit_and old v) }) (programmed l i v)
step_made l i v old e h =
    sym (made l i v (fits_cell l i v old e ∙ eq-eqb (bit_and old v) v h)
    ∙ ap (λ (x : ℕ). record { number = 0; bytes = stored l i (bit_and x v) }) (holds_cell l i old e).1)

pub holds_inside : (l : List ℕ) (i v : ℕ) → cell_of l i ≡ Some v → i + 1 < length l
holds_inside l i v e = cell_inside l i (holds_cell l i v e).0

-- a made step by the two bytes that are laid in: they are the number stored there
put_stored : (l : List ℕ) (i k v : ℕ) → k ≡ 2 → v < 65536 → i + 1 < length l
    → put_mid i k l (to_le_bytes w16 v) ≡ stored l i v
unfolding stored
put_stored l i k v e h n = rw e (go l i n)
  where
    high : v / 256 % 256 ≡ v / 256
    high = omega (arith, h)

    go : (l : List ℕ) (i : ℕ) → i + 1 < length l
        → take i l ++ (v % 256 ∷ v / 256 % 256 ∷ drop 2 (drop i l)) ≡ set (set l i (v % 256)) (i + 1) (v / 256)
    go [] i n = absurd (omega (arith, n))
    go (x ∷ []) zero n = absurd (omega (arith, n))
    go (x ∷ y ∷ xs) zero n = ap (λ (b : ℕ). v % 256 ∷ b ∷ xs) high
    go (x ∷ xs) (suc i) n = rw (suc-add i 1) (ap (λ (r : List ℕ). x ∷ r) (go xs i (omega (arith, n))))

pub step_laid : (l ys : List ℕ) (i k v old : ℕ) → cell_of l i ≡ Some old → bit_and old v ≡ v → v < 65536 → k ≡ 2
    → ys ≡ to_le_bytes w16 (bit_and old v)
    → ◌≡◌ {A = Outcome} (record { number = 0; bytes = put_mid i k l ys }) (programmed l i v)
step_laid l ys i k v old e h w n y =
    ap (λ (b : List ℕ). record { number = 0; bytes = b })
    (ap (put_mid i k l) y ∙ put_stored l i k (bit_and old v) n (omega (arith, h)) (holds_inside l i old e))
    ∙ step_made l i v old e h

-- a stored number is read back from its cell, and every other byte is as it was
pub cell_stored : (l : List ℕ) (i v : ℕ) → i + 1 < length l → cell_at (stored l i v) i ≡ v
unfolding stored
cell_stored l i v h =
    let m = set l i (v % 256) in
    let low : get_or (set m (i + 1) (v / 256)) i 0 ≡ v % 256 =
    get_or-set_other m (i + 1) i (v / 256) 0 (λ e. omega arith) ∙ get_or-set_same l i (v % 256) 0 (omega arith) in
    let high : get_or (set m (i + 1) (v / 256)) (i + 1) 0 ≡ v / 256 =
    get_or-set_same m (i + 1) (v / 256) 0 (simp length-set h) in
    omega arith

pub byte_stored : (l : List ℕ) (i v j : ℕ) → (j ≡ i → ⊥) → (j ≡ i + 1 → ⊥) → get_or (stored l i v) j 0 ≡ get_or l j 0
unfolding stored
byte_stored l i v j p q =
    get_or-set_other (set l i (v % 256)) (i + 1) j (v / 256) 0 q ∙ get_or-set_other l i j (v % 256) 0 p

-- so a made step leaves old AND new, which is the new number, in the cell
fits_clears : (l : List ℕ) (i v : ℕ) → fits l i v ≡ true → (is_cell l i ≡ true) × (bit_and (cell_at l i) v ≡ v)
unfolding fits
fits_clears l i v e = (
  and_left (is_cell l i) (clears (cell_at l i) v) e,
  eqb-true (bit_and (cell_at l i) v) v (and_right (is_cell l i) (clears (cell_at l i) v) e),
)

pub cell_made : (l : List ℕ) (i v : ℕ) → fits l i v ≡ true → cell_at (programmed l i v).bytes i ≡ v
cell_made l i v e =
    let f = fits_clears l i v e in
    rw (made l i v e, f.1) (cell_stored l i v (cell_inside l i f.0))

pub length_stored : (l : List ℕ) (i v : ℕ) → length (stored l i v) ≡ length l
unfolding stored
length_stored l i v = simp length-set

-- erasing keeps the length
pub length_erasure : (l : List ℕ) → length (erasure l) ≡ length l
unfolding erasure
length_erasure l = length-replicate (length l) 255

-- a list of FF passes the erased test, and no other does
pub replicate_erased : (n : ℕ) → is_erased (replicate n 255) ≡ true
unfolding is_erased
replicate_erased zero = refl
replicate_erased (suc n) = replicate_erased n

pub erased_erasure : (l : List ℕ) → is_erased (erasure l) ≡ true
unfolding erasure
erased_erasure l = replicate_erased (length l)

pub erased_is_erasure : (l : List ℕ) → is_erased l ≡ true → l ≡ erasure l
unfolding is_erased erasure
erased_is_erasure [] e = refl
erased_is_erasure (x ∷ xs) e =
    ap₂ ◌∷◌ (eqb-true x 255 (and_left (eqb x 255) (is_erased xs) e))
    (erased_is_erasure xs (and_right (eqb x 255) (is_erased xs) e))

-- ---- what the loops keep
-- erasing: where the bytes before i are FF and the others as they were, all are once i is past them
pub filled : (l₀ l : List ℕ) (i : ℕ) → i ≤ length l₀ → length l₀ ≤ i → l ≡ replicate i 255 ++ drop i l₀
    → l ≡ erasure l₀
unfolding erasure
filled l₀ l i h k e =
    let n : i ≡ length l₀ = omega arith in
    e ∙ simp (n, drop-length, append-nil)

-- the erased test: AND leaves every bit set exactly if both numbers have every bit set
full_and : (full a b : ℕ) → a ≤ full → b ≤ full → eqb (bit_and a b) full ≡ (eqb a full && eqb b full)
full_and full a b ha hb = go (eqb a full) (eqb b full) refl refl
  where
    go : (s t : Bool) → eqb a full ≡ s → eqb b full ≡ t → eqb (bit_and a b) full ≡ (s && t)
    go true true p q =
        eq-eqb (bit_and a b) full (ap₂ bit_and (eqb-true a full p) (eqb-true b full q) ∙ and_self full)
    go true false p q = ne_eqb (bit_and a b) full (λ e. eqb-false b full q (omega (arith, and_le_r a b)))
    go false t p q = ne_eqb (bit_and a b) full (λ e. eqb-false a full p (omega (arith, and_le_l a b)))

-- a byte put below a number: all as great as can be exactly if both are
full_digit : (b n full : ℕ) → b ≤ 255 → eqb (b + n * 256) (255 + full * 256) ≡ (eqb b 255 && eqb n full)
full_digit b n full h = go (eqb b 255) (eqb n full) refl refl
  where
    go : (s t : Bool) → eqb b 255 ≡ s → eqb n full ≡ t → eqb (b + n * 256) (255 + full * 256) ≡ (s && t)
    go true true p q =
        eq-eqb (b + n * 256) (255 + full * 256) (omega (arith, eqb-true b 255 p, eqb-true n full q))
    go true false p q = ne_eqb (b + n * 256) (255 + full * 256) (λ e. eqb-false n full q (omega arith))
    go false t p q = ne_eqb (b + n * 256) (255 + full * 256) (λ e. eqb-false b 255 p (omega arith))

-- the bytes from a place on: the first of them, and the others
pub byte_next : (l : List ℕ) (i : ℕ) → i < length l
    → is_erased (drop i l) ≡ (eqb (get_or l i 0) 255 && is_erased (drop (i + 1) l))
unfolding is_erased
byte_next l i h = rw (drop-cons l i 0 h, add-one)

-- n bytes from a place on as one number, the first lowest; and the number of n bytes of FF
abbrev number_from : List ℕ → ℕ → ℕ → ℕ
number_from l k zero = 0
number_from l k (suc n) = get_or l k 0 + number_from l (suc k) n * 256

abbrev full_of : ℕ → ℕ
full_of zero = 0
full_of (suc n) = 255 + full_of n * 256

-- the same for n bytes: they are FF exactly if their number is
bytes_next : (l : List ℕ) (k n : ℕ) → ((j : ℕ) → get_or l j 0 ≤ 255) → k + n ≤ length l
    → is_erased (drop k l) ≡ (eqb (number_from l k n) (full_of n) && is_erased (drop (k + n) l))
bytes_next l k zero b h = ap (λ (j : ℕ). is_erased (drop j l)) (sym (add-zero k))
bytes_next l k (suc n) b h =
    let x = get_or l k 0 in
    let m = number_from l (suc k) n in
    let full = full_of n in
    let here : k + 1 ≡ suc k = omega arith in
    let end : suc k + n ≡ k + suc n = omega arith in
    byte_next l k (omega arith)
    ∙ ap (λ (j : ℕ). eqb x 255 && is_erased (drop j l)) here
    ∙ ap (λ (t : Bool). eqb x 255 && t) (bytes_next l (suc k) n b (omega arith))
    ∙ ap (λ (j : ℕ). eqb x 255 && (eqb m full && is_erased (drop j l))) end
    ∙ sym (and_assoc (eqb x 255) (eqb m full) (is_erased (drop (k + suc n) l)))
    ∙ ap (λ (t : Bool). t && is_erased (drop (k + suc n) l)) (sym (full_digit x m full (b k)))

-- eight bytes as one number
pub eight_full : (l : List ℕ) → ((j : ℕ) → get_or l j 0 ≤ 255) → length l ≡ 8
    → eqb (from_le_bytes w64 l) 18446744073709551615 ≡ is_erased l
unfolding is_erased
eight_full l b h =
    let same : number_from l 0 8 ≡ from_le_bytes w64 l = omega arith in
    let past : drop 8 l ≡ [] = drop_of_length-le l {i = 8} (omega arith) in
    sym (bytes_next l 0 8 b (omega arith)
    ∙ ap₂ (λ (m : ℕ) (k : List ℕ). eqb m 18446744073709551615 && is_erased k) same past
    ∙ and_true (eqb (from_le_bytes w64 l) 18446744073709551615))

-- a list is erased exactly if both its parts are, and so with its chunks and the bytes after them
pub parts_erased : (n : ℕ) (l : List ℕ) → is_erased l ≡ (is_erased (take n l) && is_erased (drop n l))
unfolding is_erased
parts_erased zero l = refl
parts_erased (suc n) [] = refl
parts_erased (suc n) (x ∷ xs) =
    ap (λ (t : Bool). eqb x 255 && t) (parts_erased n xs)
    ∙ sym (and_assoc (eqb x 255) (is_erased (take n xs)) (is_erased (drop n xs)))

first_erased : (n k : ℕ) (l : List ℕ) → is_erased l ≡ (list_all is_erased (first_chunks n k l) && is_erased (drop (k * n) l))
first_erased n zero l =
    let past : zero * n ≡ 0 = omega arith in
    ap (λ (j : ℕ). is_erased (drop j l)) (sym past)
first_erased n (suc k) l =
    let rest = drop n l in
    let end : n + k * n ≡ suc k * n = omega arith in
    parts_erased n l
    ∙ ap (λ (t : Bool). is_erased (take n l) && t) (first_erased n k rest)
    ∙ sym (and_assoc (is_erased (take n l)) (list_all is_erased (first_chunks n k rest)) (is_erased (drop (k * n) rest)))
    ∙ ap (λ (j : List ℕ). list_all is_erased (first_chunks n (suc k) l) && is_erased j)
    (drop-drop (k * n) n l ∙ ap (λ (j : ℕ). drop j l) end)

pub chunks_erased : (n : ℕ) (l rest : List ℕ) (chunks : List (List ℕ)) → chunks ≡ first_chunks n (length l / n) l
    → rest ≡ drop (length l / n * n) l → is_erased l ≡ (list_all is_erased chunks && is_erased rest)
chunks_erased n l rest chunks e q =
    first_erased n (length l / n) l
    ∙ ap₂ (λ (c : List (List ℕ)) (r : List ℕ). list_all is_erased c && is_erased r) (sym e) (sym q)

-- so where it is known whether the chunks are erased, the bytes after them decide, or nothing
pub chunks_passed : (n : ℕ) (l rest : List ℕ) (chunks : List (List ℕ)) (r b : Bool) → chunks ≡ first_chunks n (length l / n) l
    → rest ≡ drop (length l / n * n) l → r ≡ list_all is_erased chunks → r ≡ b → (b && is_erased rest) ≡ is_erased l
chunks_passed n l rest chunks r b e q a h =
    ap (λ (u : Bool). u && is_erased rest) (sym h ∙ a) ∙ sym (chunks_erased n l rest chunks e q)

-- the eights from a place on: the first of them, joined by AND to those before it, and the others
pub eight_joined : (t : Bool) (full all x i : ℕ) (eights : List (List ℕ)) → all ≤ full → x ≤ full
    → i < length eights → eqb x full ≡ is_erased (get_or eights i []) → t ≡ (eqb all full && list_all is_erased (drop i eights))
    → t ≡ (eqb (bit_and all x) full && list_all is_erased (drop (i + 1) eights))
eight_joined t full all x i eights ha hx h q e =
    let rest = list_all is_erased (drop (i + 1) eights) in
    let here : list_all is_erased (drop i eights) ≡ (eqb x full && rest) = rw (drop-cons eights i [] h, add-one, sym q) in
    e
    ∙ ap (λ (u : Bool). eqb all full && u) here
    ∙ sym (and_assoc (eqb all full) (eqb x full) rest)
    ∙ ap (λ (u : Bool). u && rest) (sym (full_and full all x ha hx))

-- the same of the bytes of a page from a place on
pub eight_joined_at : (l : List ℕ) (t : Bool) (full all x i j : ℕ) → all ≤ full → x ≤ full
    → t ≡ (eqb all full && is_erased (drop i l)) → is_erased (drop i l) ≡ (eqb x full && is_erased (drop j l))
    → t ≡ (eqb (bit_and all x) full && is_erased (drop j l))
eight_joined_at l t full all x i j ha hx e q =
    e
    ∙ ap (λ (u : Bool). eqb all full && u) q
    ∙ sym (and_assoc (eqb all full) (eqb x full) (is_erased (drop j l)))
    ∙ ap (λ (u : Bool). u && is_erased (drop j l)) (sym (full_and full all x ha hx))

-- where it is known whether the byte at a place is FF, the bytes after it decide, or nothing
pub byte_passed : (t b : Bool) (l : List ℕ) (i : ℕ) → i < length l → t ≡ is_erased (drop i l) → eqb (get_or l i 0) 255 ≡ b
    → t ≡ (b && is_erased (drop (i + 1) l))
byte_passed t b l i h e q = e ∙ byte_next l i h ∙ ap (λ (u : Bool). u && is_erased (drop (i + 1) l)) q

pub all_passed : (t : Bool) (l : List ℕ) (i : ℕ) → length l ≤ i → t ≡ is_erased (drop i l) → true ≡ t
unfolding is_erased
all_passed t l i h e = sym (e ∙ ap is_erased (drop_of_length-le l {i = i} h))

-- of no bytes, yes; of others, not if the first isn't FF
pub none_erased : (l : List ℕ) → length l ≡ 0 → true ≡ is_erased l
unfolding is_erased
none_erased [] h = refl
none_erased (x ∷ xs) h = absurd (omega (arith, h))

pub first_used : (l : List ℕ) → 1 ≤ length l → (get_or l 0 0 ≡ 255 → ⊥) → false ≡ is_erased l
unfolding is_erased
first_used [] e h = absurd (omega (arith, e))
first_used (x ∷ xs) e h = sym (simp (ne_eqb x 255 h))

-- ---- by places: what a loop that counts them keeps
pub fill_step : (l₀ l : List ℕ) (i : ℕ) → i < length l₀ → l ≡ replicate i 255 ++ drop i l₀
    → set l i 255 ≡ replicate (i + 1) 255 ++ drop (i + 1) l₀
fill_step l₀ l i h e = ap (λ (k : List ℕ). set k i 255) e ∙ fill_more i 255 l₀ h

-- n bytes from a place behind another as one number; they are FF exactly if it is
abbrev number_behind : List ℕ → ℕ → ℕ → ℕ → ℕ
number_behind l i k zero = 0
number_behind l i k (suc n) = get_or l (i + k) 0 + number_behind l i (suc k) n * 256

bytes_behind : (l : List ℕ) (i k n : ℕ) → ((j : ℕ) → get_or l j 0 ≤ 255) → i + k + n ≤ length l
    → is_erased (drop (i + k) l) ≡ (eqb (number_behind l i k n) (full_of n) && is_erased (drop (i + k + n) l))
bytes_behind l i k zero b h = ap (λ (j : ℕ). is_erased (drop j l)) (sym (add-zero (i + k)))
bytes_behind l i k (suc n) b h =
    let x = get_or l (i + k) 0 in
    let m = number_behind l i (suc k) n in
    let full = full_of n in
    let here : i + k + 1 ≡ i + suc k = omega arith in
    let end : i + suc k + n ≡ i + k + suc n = omega arith in
    byte_next l (i + k) (omega arith)
    ∙ ap (λ (j : ℕ). eqb x 255 && is_erased (drop j l)) here
    ∙ ap (λ (t : Bool). eqb x 255 && t) (bytes_behind l i (suc k) n b (omega arith))
    ∙ ap (λ (j : ℕ). eqb x 255 && (eqb m full && is_erased (drop j l))) end
    ∙ sym (and_assoc (eqb x 255) (eqb m full) (is_erased (drop (i + k + suc n) l)))
    ∙ ap (λ (t : Bool). t && is_erased (drop (i + k + suc n) l)) (sym (full_digit x m full (b (i + k))))

-- eight bytes from a place on as one number
abbrev pub eight_at : List ℕ → ℕ → ℕ
eight_at l i =
    get_or l i 0 + get_or l (i + 1) 0 * 256 + get_or l (i + 2) 0 * 65536 + get_or l (i + 3) 0 * 16777216
    + get_or l (i + 4) 0 * 4294967296 + get_or l (i + 5) 0 * 1099511627776 + get_or l (i + 6) 0 * 281474976710656
    + get_or l (i + 7) 0 * 72057594037927936

pub eight_next : (l : List ℕ) (i : ℕ) → ((j : ℕ) → get_or l j 0 ≤ 255) → i + 8 ≤ length l
    → is_erased (drop i l) ≡ (eqb (eight_at l i) 18446744073709551615 && is_erased (drop (i + 8) l))
eight_next l i b h =
    let nought = add-zero i in
    let first : get_or l (i + 0) 0 ≡ get_or l i 0 = ap (λ (j : ℕ). get_or l j 0) nought in
    let same : number_behind l i 0 8 ≡ eight_at l i = omega (arith, first) in
    let end : i + 0 + 8 ≡ i + 8 = omega arith in
    sym (ap (λ (j : ℕ). is_erased (drop j l)) nought)
    ∙ bytes_behind l i 0 8 b (omega arith)
    ∙ ap₂ (λ (m j : ℕ). eqb m 18446744073709551615 && is_erased (drop j l)) same end

-- where the bits looked at are all set, the bytes after them decide; else the page isn't erased
pub set_passed : (t rest : Bool) (x full : ℕ) → x ≡ full → t ≡ (eqb x full && rest) → t ≡ rest
set_passed t rest x full h e = e ∙ ap (λ (u : Bool). u && rest) (eq-eqb x full h)

pub unset_used : (t rest : Bool) (x full : ℕ) → (x ≡ full → ⊥) → t ≡ (eqb x full && rest) → false ≡ t
unset_used t rest x full h e = sym (e ∙ ap (λ (u : Bool). u && rest) (ne_eqb x full h))

-- what isn't used is erased
pub not_used : (t rest used : Bool) → t ≡ rest → used ≡ not rest → not used ≡ t
not_used t true used e q = ap not q ∙ sym e
not_used t false used e q = ap not q ∙ sym e
