-- Laws of flash steps.
-- In order: a cell of a page's later part; an image cell; a step by its kind and side; a step that isn't made.
-- Not here: programming a list of bytes (the crate flash); lists (lib.Seq). Assumes nothing.
use Prim.Native.Nat.{ℕ, ◌+◌, ◌-◌, ◌%◌, ◌<◌, ◌≤◌}
use mathlib.Core.Path.{◌≡◌, refl, sym, ap, ◌∙◌}
use mathlib.Core.Bool.{Bool, true, false, cond, ◌&&◌}
use mathlib.Core.List.{List, [], ◌∷◌, ◌++◌, append-nil}
use native.Mathlib.Nat.{zero-add, suc-add}
use native.Mathlib.Omega.{arith}
use lib.Bits.{bit_and}
use lib.Dec.{ltb}
use lib.ListN.{length, set, take, drop, take-append-drop, length-append, length-drop, drop_of_length-le}
use lib.Seq.{get_or-append-add, length-take-le, take_all}
use borrow.Author.Tests.{ltb-true, ltb-false, lt-ltb, le-ltb}
use borrow.Rule.Slice.PartMut.{mid_of, put_mid}
use Rattle.flash.specs.Flash.{Outcome, is_cell, cell_at, stored, fits, programmed, erasure}
use Rattle.pages.specs.declared.Side.{Side}
use Rattle.pages.specs.declared.Side.TheVariants.{Left, Right}
use Rattle.pages.specs.Pages.{on_side}
use Rattle.pages.specs.declared.PageOffset.{PageOffset}
use Rattle.pages.specs.declared.ImageOffset.{ImageOffset}
use Rattle.steps.specs.declared.Step.{Step}
use Rattle.steps.specs.declared.Step.TheVariants.{Mark, Image, Erase}
use Rattle.steps.specs.Steps.{Tried, marked, imaged, blanked, on_page, tried}

-- ---- a cell of a page's later part
set_append_add : (xs ys : List ℕ) (n a : ℕ) → set (xs ++ ys) (length xs + n) a ≡ xs ++ set ys n a
set_append_add [] ys n a = ap (λ (k : ℕ). set ys k a) (zero-add n)
set_append_add (x ∷ xs) ys n a =
    ap (λ (k : ℕ). set (x ∷ (xs ++ ys)) k a) (suc-add (length xs) n)
    ∙ ap (λ (r : List ℕ). x ∷ r) (set_append_add xs ys n a)

ltb_same : (a b c d : ℕ) → (a < b → c < d) → (b ≤ a → d ≤ c) → ltb a b ≡ ltb c d
ltb_same a b c d f g = go (ltb a b) refl
  where
    go : (t : Bool) → ltb a b ≡ t → t ≡ ltb c d
    go true e = sym (lt-ltb c d (f (ltb-true a b e)))
    go false e = sym (le-ltb c d (g (ltb-false a b e)))

and_false : (a : Bool) → (a && false) ≡ false
and_false true = refl
and_false false = refl

-- the places of a part that begins at an even one are cells where they are cells of the whole
part_cell : (xs ys : List ℕ) (i : ℕ) → length xs % 2 ≡ 0 → is_cell (xs ++ ys) (length xs + i) ≡ is_cell ys i
unfolding is_cell
part_cell xs ys i e =
    let n : length (xs ++ ys) ≡ length xs + length ys = length-append xs ys in
    let p : (length xs + i) % 2 ≡ i % 2 = omega arith in
    let q : ltb (length xs + i + 1) (length (xs ++ ys)) ≡ ltb (i + 1) (length ys) =
    ltb_same (length xs + i + 1) (length (xs ++ ys)) (i + 1) (length ys) (λ h. omega arith) (λ h. omega arith) in
    simp (p, q)

part_number : (xs ys : List ℕ) (i : ℕ) → cell_at (xs ++ ys) (length xs + i) ≡ cell_at ys i
part_number xs ys i =
    let n : length xs + i + 1 ≡ length xs + (i + 1) = omega arith in
    simp (n, get_or-append-add)

part_stored : (xs ys : List ℕ) (i v : ℕ) → stored (xs ++ ys) (length xs + i) v ≡ xs ++ stored ys i v
unfolding stored
part_stored xs ys i v =
    let n : length xs + i + 1 ≡ length xs + (i + 1) = omega arith in
    simp (n, set_append_add)

part_fits : (xs ys : List ℕ) (i v : ℕ) → length xs % 2 ≡ 0 → fits (xs ++ ys) (length xs + i) v ≡ fits ys i v
unfolding fits
part_fits xs ys i v e = simp (part_cell xs ys i e, part_number xs ys i)

-- the outcome of a step on a part, put back after what lies before it
abbrev pub after : List ℕ → Outcome → Outcome
after xs o = record { number = o.number; bytes = xs ++ o.bytes }

-- so a step on the part is that step on the whole, and what lies before the part is as it was
pub part_programmed : (xs ys : List ℕ) (i v : ℕ) → length xs % 2 ≡ 0
    → programmed (xs ++ ys) (length xs + i) v ≡ after xs (programmed ys i v)
unfolding programmed
part_programmed xs ys i v e =
    let p : fits (xs ++ ys) (length xs + i) v ≡ fits ys i v = part_fits xs ys i v e in
    let q : stored (xs ++ ys) (length xs + i) (bit_and (cell_at (xs ++ ys) (length xs + i)) v)
    ≡ xs ++ stored ys i (bit_and (cell_at ys i) v) =
    part_stored xs ys i (bit_and (cell_at (xs ++ ys) (length xs + i)) v)
    ∙ ap (λ (n : ℕ). xs ++ stored ys i (bit_and n v)) (part_number xs ys i) in
    simp (p, q) (go (fits ys i v))
  where
    go : (t : Bool)
        → cond t (record { number = 0; bytes = xs ++ stored ys i (bit_and (cell_at ys i) v) })
        (record { number = 6; bytes = xs ++ ys })
        ≡ after xs (cond t (record { number = 0; bytes = stored ys i (bit_and (cell_at ys i) v) })
        (record { number = 6; bytes = ys }))
    go true = refl
    go false = refl

-- ---- an image cell
-- the image lent from byte 4 on is all that comes after, and comes back to its place
pub lent : (l : List ℕ) → mid_of 4 (length l - 4) l ≡ drop 4 l
lent l = take_all (length l - 4) (drop 4 l) (simp length-drop (omega arith))

put_back : (l ys : List ℕ) → put_mid 4 (length l - 4) l ys ≡ take 4 l ++ ys
put_back l ys =
    let d : drop (length l - 4) (drop 4 l) ≡ [] =
    drop_of_length-le (drop 4 l) {i = length l - 4} (simp length-drop (omega arith)) in
    simp (d, append-nil)

pub image_back : (l ys : List ℕ) (k : ℕ) (at : ImageOffset) (v : ℕ)
    → ◌≡◌ {A = Outcome} (record { number = k; bytes = ys }) (programmed (mid_of 4 (length l - 4) l) at.0 v)
    → ◌≡◌ {A = Outcome} (record { number = k; bytes = put_mid 4 (length l - 4) l ys }) (imaged l at v)
image_back l ys k at v e =
    ap (λ (x : List ℕ). record { number = k; bytes = x }) (put_back l ys)
    ∙ ap (λ (o : Outcome). after (take 4 l) o) (e ∙ ap (λ (x : List ℕ). programmed x at.0 v) (lent l))

-- a page too short for management bytes has no image cell
no_cell : (i v : ℕ) → programmed [] i v ≡ (record { number = 6; bytes = [] })
unfolding programmed fits is_cell
no_cell i v =
    let q : ltb (i + 1) 0 ≡ false = le-ltb (i + 1) 0 (omega arith) in
    simp (q, and_false)

pub no_image_lem : (l : List ℕ) (at : ImageOffset) (v : ℕ) → length l < 4
    → ◌≡◌ {A = Outcome} (record { number = 6; bytes = l }) (imaged l at v)
no_image_lem l at v h =
    let None : drop 4 l ≡ [] = drop_of_length-le l {i = 4} (omega arith) in
    let whole : l ≡ take 4 l ++ [] = sym (append-nil (take 4 l) ∙ take_all 4 l (omega arith)) in
    ◌∙◌ {b = after (take 4 l) (record { number = 6; bytes = [] })}
    (ap (λ (x : List ℕ). record { number = 6; bytes = x }) whole)
    (ap (λ (o : Outcome). after (take 4 l) o)
    (sym (ap (λ (x : List ℕ). programmed x at.0 v) None ∙ no_cell at.0 v)))

-- a step on a cell of the image is that step on the page, 4 bytes on
pub imaged_at : (l : List ℕ) (at : ImageOffset) (v : ℕ) → 4 ≤ length l → imaged l at v ≡ programmed l (4 + at.0) v
imaged_at l at v h =
    let n : length (take 4 l) ≡ 4 = length-take-le 4 l h in
    let e : length (take 4 l) % 2 ≡ 0 = omega arith in
    sym
    (ap (λ (k : List ℕ). programmed k (4 + at.0) v) (sym (take-append-drop 4 l))
    ∙ ap (λ (k : ℕ). programmed (take 4 l ++ drop 4 l) (k + at.0) v) (sym n)
    ∙ part_programmed (take 4 l) (drop 4 l) at.0 v e)

-- ---- a step by its kind and side
pub blank : (l ys : List ℕ) → ys ≡ erasure l → ◌≡◌ {A = Outcome} (record { number = 0; bytes = ys }) (blanked l)
blank l ys e = ap (λ (x : List ℕ). record { number = 0; bytes = x }) e

pub on_page_lem : (t : Side) (f : List ℕ → Outcome) (l r ys : List ℕ) (k : ℕ) (s : Side) → s ≡ t
    → ◌≡◌ {A = Outcome} (record { number = k; bytes = ys }) (f (on_side t l r))
    → ◌≡◌ {A = Tried} (record { number = k; left = on_side t ys l; right = on_side t r ys }) (on_page s f l r)
on_page_lem t f l r ys k s q e =
    (λ i. record { number = (e i).number; left = on_side t (e i).bytes l; right = on_side t r (e i).bytes })
    ∙ ap (λ (x : Side). on_page x f l r) (sym q)

pub mark_tried : (step : Step) (s : Side) (at : PageOffset) (v : ℕ) (l r : List ℕ) (t : Tried) → step ≡ Mark s at v
    → t ≡ on_page s (λ page. marked page at v) l r → t ≡ tried step l r
unfolding tried
mark_tried step s at v l r t q e = e ∙ ap (λ (x : Step). tried x l r) (sym q)

pub image_tried : (step : Step) (s : Side) (at : ImageOffset) (v : ℕ) (l r : List ℕ) (t : Tried) → step ≡ Image s at v
    → t ≡ tried (Image s at v) l r → t ≡ tried step l r
image_tried step s at v l r t q e = e ∙ ap (λ (x : Step). tried x l r) (sym q)

pub erase_tried : (step : Step) (s : Side) (l r : List ℕ) (t : Tried) → step ≡ Erase s
    → t ≡ on_page s blanked l r → t ≡ tried step l r
unfolding tried
erase_tried step s l r t q e = e ∙ ap (λ (x : Step). tried x l r) (sym q)

-- ---- a step "happens whole or not at all": one that isn't made is number 6, and both pages are as they were
programmed_unfit : (l : List ℕ) (i v : ℕ) → ((programmed l i v).number ≡ 0 → ⊥)
    → programmed l i v ≡ (record { number = 6; bytes = l })
unfolding programmed
programmed_unfit l i v = go (fits l i v)
  where
    go : (t : Bool)
        → ((cond {A = Outcome} t (record { number = 0; bytes = stored l i (bit_and (cell_at l i) v) })
        (record { number = 6; bytes = l })).number ≡ 0 → ⊥)
        → cond {A = Outcome} t (record { number = 0; bytes = stored l i (bit_and (cell_at l i) v) })
        (record { number = 6; bytes = l })
        ≡ (record { number = 6; bytes = l })
    go true h = absurd (h refl)
    go false h = refl

imaged_unfit : (l : List ℕ) (at : ImageOffset) (v : ℕ) → ((imaged l at v).number ≡ 0 → ⊥)
    → imaged l at v ≡ (record { number = 6; bytes = l })
imaged_unfit l at v h =
    ap (λ (o : Outcome). after (take 4 l) o) (programmed_unfit (drop 4 l) at.0 v h)
    ∙ ap (λ (x : List ℕ). record { number = 6; bytes = x }) (take-append-drop 4 l)

page_unfit : (s : Side) (f : List ℕ → Outcome) (l r : List ℕ) → ((on_page s f l r).number ≡ 0 → ⊥)
    → ((page : List ℕ) → ((f page).number ≡ 0 → ⊥) → f page ≡ (record { number = 6; bytes = page }))
    → on_page s f l r ≡ (record { number = 6; left = l; right = r })
page_unfit Left f l r h g = ap (λ (o : Outcome). record { number = o.number; left = o.bytes; right = r }) (g l h)
page_unfit Right f l r h g = ap (λ (o : Outcome). record { number = o.number; left = l; right = o.bytes }) (g r h)

pub tried_unfit : (x : Step) (l r : List ℕ) → ((tried x l r).number ≡ 0 → ⊥)
    → tried x l r ≡ (record { number = 6; left = l; right = r })
unfolding tried
tried_unfit (Mark s at v) l r h =
    page_unfit s (λ page. marked page at v) l r h (λ page k. programmed_unfit page at.0 v k)
tried_unfit (Image s at v) l r h = page_unfit s (λ page. imaged page at v) l r h (λ page k. imaged_unfit page at v k)
tried_unfit (Erase s) l r h = absurd (h refl)
