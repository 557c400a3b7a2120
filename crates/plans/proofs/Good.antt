-- What holds of the pages while the rest of a list of steps is made: `Good now then rest left right` says that a read
-- shows the image `now`, that each step of the rest meets its line and fits, and that from the deciding store on a read
-- shows the image `then`. One lemma for each part of a walk, over the side, each from what holds after it.
-- In order: Good; a step; the image cells; the marks; erasing; recovery; line 0.
-- Assumes nothing.
use Rattle.std.specs.Prelude.{Option, Some, None}
use Prim.Native.Nat.{ℕ, suc, ◌+◌, ◌%◌}
use mathlib.Core.Path.{◌≡◌, refl, sym, ap, subst, ◌∙◌}
use mathlib.Core.Bool.{Bool, true, cond}
use mathlib.Core.List.{List, [], ◌∷◌, ◌++◌, append_assoc}
use native.Mathlib.Omega.{arith}
use lib.ListN.{length, replicate, length-append}
use borrow.Author.Tests.{eq-eqb}
use Rattle.flash.specs.Flash.{Bytes, cell_number, programmed, erasure}
use Rattle.pages.specs.declared.Side.{Side}
use Rattle.pages.specs.declared.Side.TheVariants.{Left, Right}
use Rattle.pages.specs.declared.State.{State}
use Rattle.pages.specs.declared.State.TheVariants.{S0, S1, S2, S3, S5, S6, S7, S8, S9, S10}
use Rattle.pages.specs.declared.Status.{Status}
use Rattle.pages.specs.Pages.{on_side, line_of, status_of}
use Rattle.pages.specs.declared.ImageOffset.{ImageOffset}
use Rattle.steps.specs.declared.Step.TheVariants.{Image, Erase}
use Rattle.steps.specs.Steps.{Tried, imaged, marked, blanked, tried}
use Rattle.steps.proofs.Laws.{imaged_at}
use Rattle.images.specs.Images.{live_image}
use Rattle.plans.specs.declared.Entry.{Entry}
use Rattle.plans.specs.Plans.{entry, committing, mark, other, cells, first_cell, marks, erases_both, meets}
use Rattle.plans.proofs.Shapes.{
  blank,
  fresh,
  valid,
  dead,
  unborn,
  made_on_lem,
  mark_zero,
  mark_two,
  image_takes,
  on_side_lem,
  on_other,
  at,
  at_clean,
  at_used,
  at_fresh,
  at_retired,
  at_settled,
  at_unborn,
  at_blank,
  at_spoiled,
  shows_side,
  shows_other,
  shows_none,
  spoils,
}

abbrev pub MaybeImage : Type 0
MaybeImage = Option (List ℕ)

-- erased bytes
abbrev pub filler : ℕ → List ℕ
filler n = replicate n 0xFF

-- the image that a read shows after a step: from the deciding store on the new one
abbrev pub switch : Bool → MaybeImage → MaybeImage → MaybeImage
switch commits current then = cond commits then current

abbrev pub Good : MaybeImage → MaybeImage → List Entry → List ℕ → List ℕ → Type 0
Good current then [] l r = live_image l r ≡ current
Good current then (x ∷ xs) l r =
    (live_image l r ≡ current)
    × (meets x.state (status_of l r).state ≡ true)
    × ((tried x.step l r).number ≡ 0)
    × Good (switch x.commits current then) then xs (tried x.step l r).left (tried x.step l r).right

-- what a read shows
pub good_shows : (current then : MaybeImage) (xs : List Entry) (l r : List ℕ) → Good current then xs l r
    → live_image l r ≡ current
good_shows current then [] l r g = g
good_shows current then (x ∷ xs) l r g = g.0

-- a step, from the line and the live side, what it leaves, and what holds from there on
pub good_step : (current then : MaybeImage) (x : Entry) (xs : List Entry) (l r l' r' : List ℕ) → live_image l r ≡ current
    → (status_of l r).state ≡ x.state → tried x.step l r ≡ made_on_lem l' r'
    → Good (switch x.commits current then) then xs l' r' → Good current then (x ∷ xs) l r
good_step current then x xs l r l' r' h s e g = (
  h,
  eq-eqb (line_of x.state) (line_of (status_of l r).state) (ap line_of (sym s)),
  ap (λ (t : Tried). t.number) e,
  subst (λ (t : Tried). Good (switch x.commits current then) then xs t.left t.right) (sym e) g,
)

-- ---- a step on a side, or on the other, from the step on the page
image_on_lem : (s : Side) (x y z : List ℕ) (at : ImageOffset) (v : ℕ) → imaged x at v ≡ (record { number = 0; bytes = z })
    → tried (Image s at v) (on_side s x y) (on_side s y x) ≡ made_on_lem (on_side s z y) (on_side s y z)
unfolding tried
image_on_lem s x y z at v e = on_side_lem s (λ page. imaged page at v) x y z e

pub mark_on : (s : Side) (x y z : List ℕ) (i v : ℕ) → programmed x i v ≡ (record { number = 0; bytes = z })
    → tried (mark s i v) (on_side s x y) (on_side s y x) ≡ made_on_lem (on_side s z y) (on_side s y z)
unfolding tried
mark_on s x y z i v e = on_side_lem s (λ page. marked page (record { 0 = i }) v) x y z e

pub mark_other : (s : Side) (y x z : List ℕ) (i v : ℕ) → programmed x i v ≡ (record { number = 0; bytes = z })
    → tried (mark (other s) i v) (on_side s y x) (on_side s x y) ≡ made_on_lem (on_side s y z) (on_side s z y)
unfolding tried
mark_other s y x z i v e = on_other s (λ page. marked page (record { 0 = i }) v) y x z e

erase_other : (s : Side) (y x z : List ℕ) → erasure x ≡ z
    → tried (Erase (other s)) (on_side s y x) (on_side s x y) ≡ made_on_lem (on_side s y z) (on_side s z y)
unfolding tried
erase_other s y x z e = on_other s blanked y x z (λ i. record { number = 0; bytes = e i })

-- ---- the image cells, into a blank part of a page, two bytes at a time
-- the pages while the page on a side is programmed: its word is blank, the other page is y
abbrev pub Blank : MaybeImage → State → Side → List ℕ → Type 0
Blank current st s y =
    (x : List ℕ)
    → (live_image (on_side s (blank x) y) (on_side s y (blank x)) ≡ current)
    × ((status_of (on_side s (blank x) y) (on_side s y (blank x))).state ≡ st)

abbrev OnPages : (List ℕ → List ℕ → Type 0) → Side → List ℕ → List ℕ → Type 0
OnPages P s x y = P (on_side s x y) (on_side s y x)

pub good_cells : (current then : MaybeImage) (st : State) (s : Side) (y front rest : List ℕ) (at : ImageOffset)
    (xs : List Entry)
    → Blank current st s y → Bytes rest → length rest % 2 ≡ 0 → length front ≡ at.0 → at.0 % 2 ≡ 0
    → OnPages (Good current then xs) s (blank (front ++ rest)) y
    → OnPages (Good current then (cells st s at rest ++ xs)) s (blank (front ++ filler (length rest))) y
good_cells current then st s y front [] at xs h b even e n g = g
good_cells current then st s y front (low ∷ []) at xs h b even e n g = let z : ◌≡◌ {A = ℕ} 1 0 = even in absurd
    (omega arith)
good_cells current then st s y front (low ∷ high ∷ rest) at xs h b even e n g =
    let next : ImageOffset = record { 0 = at.0 + 2 } in
    let back = filler (length rest) in
    let front' = front ++ low ∷ high ∷ [] in
    let join : (t : List ℕ) → front' ++ t ≡ front ++ low ∷ high ∷ t = λ t. append_assoc front (low ∷ high ∷ []) t in
    let size : length front' ≡ at.0 + 2 = length-append front (low ∷ high ∷ []) ∙ (omega arith) in
    let taken : imaged (blank (front ++ 255 ∷ 255 ∷ back)) at (cell_number low high)
    ≡ (record { number = 0; bytes = blank (front ++ low ∷ high ∷ back) }) =
    imaged_at (blank (front ++ 255 ∷ 255 ∷ back)) at (cell_number low high) (omega arith)
    ∙ ap (λ (k : ℕ). programmed (blank (front ++ 255 ∷ 255 ∷ back)) (4 + k) (cell_number low high)) (sym e)
    ∙ image_takes 255 255 255 255 front back low high b.0 b.1.0 (omega arith) in
    let later = good_cells current then st s y front' rest next xs h b.1.1 (omega arith) size (omega arith)
    (subst (λ (t : List ℕ). OnPages (Good current then xs) s (blank t) y) (sym (join rest)) g) in
    good_step current then (entry st (Image s at (cell_number low high))) (cells st s next rest ++ xs)
    (on_side s (blank (front ++ 255 ∷ 255 ∷ back)) y) (on_side s y (blank (front ++ 255 ∷ 255 ∷ back)))
    (on_side s (blank (front ++ low ∷ high ∷ back)) y) (on_side s y (blank (front ++ low ∷ high ∷ back)))
    (h (front ++ 255 ∷ 255 ∷ back)).0 (h (front ++ 255 ∷ 255 ∷ back)).1
    (image_on_lem s (blank (front ++ 255 ∷ 255 ∷ back)) y (blank (front ++ low ∷ high ∷ back)) at
    (cell_number low high) taken)
    (subst (λ (t : List ℕ). OnPages (Good current then (cells st s next rest ++ xs)) s (blank t) y) (join back) later)

-- ---- the marks of a save from a live page: the deciding store, then the old page Dead, then the new one Active
abbrev pub finish : Side → List Entry → List Entry
finish s xs = entry (on_side s S5 S9) (mark s 2 0xFF00) ∷ entry (on_side s S6 S10) (mark (other s) 0 0x0000) ∷ xs

-- the pages of a side and of the other
abbrev Pair : (List ℕ → List ℕ → Type 0) → Side → List ℕ → List ℕ → Type 0
Pair P s y x = P (on_side s y x) (on_side s x y)

pub good_retired : (then : MaybeImage) (s : Side) (y x : List ℕ) (xs : List Entry)
    → Pair (Good (Some x) then xs) s (dead y) (valid x)
    → Pair (Good (Some x) then (entry (on_side s S6 S10) (mark (other s) 0 0x0000) ∷ xs)) s (dead y) (fresh x)
good_retired then s y x xs g =
    let h = at_retired s y x in
    good_step (Some x) then (entry (on_side s S6 S10) (mark (other s) 0 0x0000)) xs
    (on_side s (dead y) (fresh x)) (on_side s (fresh x) (dead y))
    (on_side s (dead y) (valid x)) (on_side s (valid x) (dead y))
    (shows_other s (on_side s S6 S10) 0x00 0xFF 0xFF 0xFF (dead y) x h) (ap (λ (z : Status). z.state) h)
    (mark_other s (dead y) (fresh x) (valid x) 0 0x0000 (mark_zero 0x00 0xFF 0xFF 0xFF 0x0000 x refl)) g

pub good_finish : (then : MaybeImage) (s : Side) (y x : List ℕ) (xs : List Entry)
    → Pair (Good (Some x) then xs) s (dead y) (valid x)
    → Pair (Good (Some x) then (finish s xs)) s (valid y) (fresh x)
good_finish then s y x xs g =
    let h = at_fresh s y x in
    good_step (Some x) then (entry (on_side s S5 S9) (mark s 2 0xFF00))
    (entry (on_side s S6 S10) (mark (other s) 0 0x0000) ∷ xs)
    (on_side s (valid y) (fresh x)) (on_side s (fresh x) (valid y))
    (on_side s (dead y) (fresh x)) (on_side s (fresh x) (dead y))
    (shows_other s (on_side s S5 S9) 0x00 0xFF 0xFF 0xFF (valid y) x h) (ap (λ (z : Status). z.state) h)
    (mark_on s (valid y) (fresh x) (dead y) 2 0xFF00 (mark_two 0x00 0x00 0xFF 0xFF 0xFF00 y refl))
    (good_retired then s y x xs g)

good_marks : (s : Side) (y new : List ℕ)
    → Pair (Good (Some y) (Some new) (marks (Some s))) s (valid y) (blank new)
good_marks s y new =
    let h = at_clean s y new in
    let e = at_settled s y new in
    good_step (Some y) (Some new) (committing (on_side s S1 S8) (mark (other s) 0 0xFF00)) (finish s [])
    (on_side s (valid y) (blank new)) (on_side s (blank new) (valid y))
    (on_side s (valid y) (fresh new)) (on_side s (fresh new) (valid y))
    (shows_side s (on_side s S1 S8) 0x00 0x00 0xFF 0xFF y (blank new) h) (ap (λ (z : Status). z.state) h)
    (mark_other s (valid y) (blank new) (fresh new) 0 0xFF00 (mark_zero 0xFF 0xFF 0xFF 0xFF 0xFF00 new refl))
    (good_finish (Some new) s y new []
    (shows_other s (on_side s S7 S3) 0x00 0x00 0xFF 0xFF (dead y) new e))

-- ---- a save from a clean pair, and from a page that has to be erased
abbrev pub onward : Side → List ℕ → List Entry
onward s new = cells (on_side s S1 S8) (other s) first_cell new ++ marks (Some s)

flip : (P : List ℕ → List ℕ → Type 0) (s : Side) (y x : List ℕ) → OnPages P (other s) x y → Pair P s y x
flip P Left y x p = p
flip P Right y x p = p

flip_back : (P : List ℕ → List ℕ → Type 0) (s : Side) (y x : List ℕ) → Pair P s y x → OnPages P (other s) x y
flip_back P Left y x p = p
flip_back P Right y x p = p

clean_blank : (s : Side) (y : List ℕ) → Blank (Some y) (on_side s S1 S8) (other s) (valid y)
clean_blank s y x = (
  flip_back (λ l r. live_image l r ≡ Some y) s (valid y) (blank x)
      (shows_side s (on_side s S1 S8) 0x00 0x00 0xFF 0xFF y (blank x) (at_clean s y x)),
  flip_back (λ l r. (status_of l r).state ≡ on_side s S1 S8) s (valid y) (blank x)
      (ap (λ (z : Status). z.state) (at_clean s y x)),
)

pub good_clean : (s : Side) (y new : List ℕ) → Bytes new → length new % 2 ≡ 0
    → Pair (Good (Some y) (Some new) (onward s new)) s (valid y) (blank (filler (length new)))
good_clean s y new b even =
    flip (Good (Some y) (Some new) (onward s new)) s (valid y) (blank (filler (length new)))
    (good_cells (Some y) (Some new) (on_side s S1 S8) (other s) (valid y) [] new first_cell (marks (Some s))
    (clean_blank s y) b even refl refl
    (flip_back (Good (Some y) (Some new) (marks (Some s))) s (valid y) (blank new) (good_marks s y new)))

-- a page of the image's size is blank after an erase
pub erasure_blank : (x : List ℕ) (n : ℕ) → length x ≡ 4 + n → erasure x ≡ blank (filler n)
unfolding erasure
erasure_blank x n e =
    let k : length x ≡ suc (suc (suc (suc n))) = omega arith in
    ap filler k

pub good_erase : (s : Side) (st : State) (y x new : List ℕ) → Bytes new → length new % 2 ≡ 0 → length x ≡ 4 + length new
    → status_of (on_side s (valid y) x) (on_side s x (valid y)) ≡ at st (Some s)
    → Pair (Good (Some y) (Some new) (entry st (Erase (other s)) ∷ onward s new)) s (valid y) x
good_erase s st y x new b even n h =
    good_step (Some y) (Some new) (entry st (Erase (other s))) (onward s new)
    (on_side s (valid y) x) (on_side s x (valid y))
    (on_side s (valid y) (blank (filler (length new)))) (on_side s (blank (filler (length new))) (valid y))
    (shows_side s st 0x00 0x00 0xFF 0xFF y x h) (ap (λ (z : Status). z.state) h)
    (erase_other s (valid y) x (blank (filler (length new))) (erasure_blank x (length new) n))
    (good_clean s y new b even)

-- ---- line 2, and the save from line 0
pub good_unborn : (then : MaybeImage) (y x : List ℕ) (xs : List Entry) → Good (Some y) then xs (valid y) (dead x)
    → Good (Some y) then (entry S2 (mark Right 0 0x0000) ∷ xs) (valid y) (unborn x)
good_unborn then y x xs g =
    let h = at_unborn y x in
    good_step (Some y) then (entry S2 (mark Right 0 0x0000)) xs (valid y) (unborn x) (valid y) (dead x)
    (shows_side Left S2 0x00 0x00 0xFF 0xFF y (unborn x) h) (ap (λ (z : Status). z.state) h)
    (mark_other Left (valid y) (unborn x) (dead x) 0 0x0000 (mark_zero 0xFF 0xFF 0x00 0xFF 0x0000 x refl)) g

good_first_marks : (new x : List ℕ) → Good None (Some new) (marks None) (blank new) (blank x)
good_first_marks new x =
    let h = at_blank new x in
    let k = at_clean Left new x in
    good_step None (Some new) (committing S0 (mark Left 0 0x0000))
    (entry S1 (mark Right 2 0xFF00) ∷ entry S2 (mark Right 0 0x0000) ∷ [])
    (blank new) (blank x) (valid new) (blank x)
    (shows_none S0 (blank new) (blank x) h) (ap (λ (z : Status). z.state) h)
    (mark_on Left (blank new) (blank x) (valid new) 0 0x0000 (mark_zero 0xFF 0xFF 0xFF 0xFF 0x0000 new refl))
    (good_step (Some new) (Some new) (entry S1 (mark Right 2 0xFF00)) (entry S2 (mark Right 0 0x0000) ∷ [])
    (valid new) (blank x) (valid new) (unborn x)
    (shows_side Left S1 0x00 0x00 0xFF 0xFF new (blank x) k) (ap (λ (z : Status). z.state) k)
    (mark_other Left (valid new) (blank x) (unborn x) 2 0xFF00 (mark_two 0xFF 0xFF 0xFF 0xFF 0xFF00 x refl))
    (good_unborn (Some new) new x []
    (shows_side Left S3 0x00 0x00 0xFF 0xFF new (dead x) (at_used Left new x))))

abbrev pub first_onward : List ℕ → List Entry
first_onward new = cells S0 Left first_cell new ++ marks None

pub good_first : (new x : List ℕ) → Bytes new → length new % 2 ≡ 0
    → Good None (Some new) (first_onward new) (blank (filler (length new))) (blank x)
good_first new x b even =
    good_cells None (Some new) S0 Left (blank x) [] new first_cell (marks None)
    (λ z. (shows_none S0 (blank z) (blank x) (at_blank z x), ap (λ (u : Status). u.state) (at_blank z x)))
    b even refl refl (good_first_marks new x)

-- ---- spoiling: from it on no page is live
pub good_spoil : (current then : MaybeImage) (st : State) (commits : Bool) (xs : List Entry) (l r : List ℕ) (n : ℕ)
    → live_image l r ≡ current → (status_of l r).state ≡ st → switch commits current then ≡ None → Bytes r
    → length l ≡ 4 + n → length r ≡ 4 + n → Good None then xs (blank (filler n)) (blank (filler n))
    → Good current then ((record { state = st; step = mark Right 2 0x0000; commits = commits }) ∷
    (erases_both ++ xs)) l r
good_spoil current then st commits xs l [] n h k s b p q g = absurd (omega arith)
good_spoil current then st commits xs l (a ∷ []) n h k s b p q g = absurd (omega arith)
good_spoil current then st commits xs l (a ∷ c ∷ []) n h k s b p q g = absurd (omega arith)
good_spoil current then st commits xs l (a ∷ c ∷ e ∷ []) n h k s b p q g = absurd (omega arith)
good_spoil current then st commits xs l (a ∷ c ∷ e ∷ f ∷ x) n h k s b p q g =
    let spoiled = a ∷ c ∷ 0 ∷ 0 ∷ x in
    let empty = blank (filler n) in
    let u : (z : List ℕ) → status_of z spoiled ≡ at S0 None = λ z. at_spoiled z a c x b.0 b.1.0 in
    good_step current then (record { state = st; step = mark Right 2 0x0000; commits = commits }) (erases_both ++ xs)
    l (a ∷ c ∷ e ∷ f ∷ x) l spoiled h k
    (mark_other Left l (a ∷ c ∷ e ∷ f ∷ x) spoiled 2 0x0000 (spoils a c e f x))
    (subst (λ (i : MaybeImage). Good i then (erases_both ++ xs) l spoiled) (sym s)
    (good_step None then (entry S0 (Erase Left)) (entry S0 (Erase Right) ∷ xs) l spoiled empty spoiled
    (shows_none S0 l spoiled (u l)) (ap (λ (z : Status). z.state) (u l))
    (erase_other Right spoiled l empty (erasure_blank l n p))
    (good_step None then (entry S0 (Erase Right)) xs empty spoiled empty empty
    (shows_none S0 empty spoiled (u empty)) (ap (λ (z : Status). z.state) (u empty))
    (erase_other Left empty spoiled empty (erasure_blank spoiled n q)) g)))
