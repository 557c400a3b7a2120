-- Number 6 in other words: each of its cases, by plain facts, is answered 6 and keeps walk and pages; where none holds a
-- step is made, or the walk has ended.
-- In order: kept numbers; another line; bits; none of them.
-- Assumes nothing.
use Prim.Native.Nat.{ℕ, ◌<◌}
use mathlib.Core.Path.{◌≡◌, refl, sym, ap, ◌∙◌}
use mathlib.Core.Bool.{Bool, true, false, cond, not, ◌||◌}
use mathlib.Core.List.{List}
use native.Mathlib.Omega.{arith}
use lib.Dec.{eqb}
use lib.ListN.{length, get_or}
use borrow.Author.Tests.{eq-eqb, ne_eqb, eqb-true, not-false, lt-ltb, le-ltb}
use Rattle.pages.specs.declared.PageOffset.{PageOffset}
use Rattle.pages.specs.Pages.{line_of, status_of}
use Rattle.requests.specs.Numbers.{request_number}
use Rattle.requests.specs.Legal.{Legal}
use Rattle.requests.proofs.Laws.{or_left, or_right, legal_none}
use Rattle.steps.specs.Steps.{Tried, tried}
use Rattle.plans.specs.declared.Entry.{Entry}
use Rattle.plans.specs.declared.Request.{Request}
use Rattle.plans.specs.declared.Request.TheVariants.{Save, Format}
use Rattle.plans.specs.Plans.{meets, nothing}
use Rattle.tries.specs.Tries.{attempt}
use Rattle.tries.proofs.Laws.{elsewhere_kept, unmade_kept}
use Rattle.walks.specs.declared.Walk.{Walk}
use Rattle.walks.specs.Walks.{
  number,
  made,
  ended,
  Outcome,
  steps_of,
  wrong_format,
  wrong_numbers,
  advanced,
  kept,
  after,
  stepped,
  step_of,
}
use Rattle.walks.proofs.Sizes.{right_numbers}

-- the answer of every case
abbrev pub six : Walk → List ℕ → List ℕ → Outcome
six w l r = kept (number 6) w l r

-- a test that would be right isn't, so it is wrong
wrong_is_six : (w : Walk) (l r d : List ℕ) (t : Bool) → wrong_numbers w (length l) (length r) (length d) ≡ t
    → (wrong_numbers w (length l) (length r) (length d) ≡ false → ⊥) → step_of w l r d ≡ six w l r
unfolding step_of
wrong_is_six w l r d true e h =
    ap (λ (t : Bool). cond t (six w l r) (stepped w (steps_of w l r d) l r)) e
wrong_is_six w l r d false e h = absurd (h e)

-- ---- "the pages or kept numbers meet 1 to 4, .. or P or the data's length isn't the kept one"
pub numbers_six : (w : Walk) (l r d : List ℕ) → (request_number (length l) (length r) w.offset w.len 0 ≡ 0 → ⊥)
    → step_of w l r d ≡ six w l r
numbers_six w l r d h =
    wrong_is_six w l r d (wrong_numbers w (length l) (length r) (length d)) refl
    (λ e.
    h (legal_none (length l) (length r) w.offset w.len 0
    (right_numbers w (length l) (length r) (length d) e).request))

pub page_six : (w : Walk) (l r d : List ℕ) → (length l ≡ w.page → ⊥) → step_of w l r d ≡ six w l r
page_six w l r d h =
    wrong_is_six w l r d (wrong_numbers w (length l) (length r) (length d)) refl
    (λ e. h (right_numbers w (length l) (length r) (length d) e).page)

pub data_six : (w : Walk) (l r d : List ℕ) → (length d ≡ w.len → ⊥) → step_of w l r d ≡ six w l r
data_six w l r d h =
    wrong_is_six w l r d (wrong_numbers w (length l) (length r) (length d)) refl
    (λ e. h (right_numbers w (length l) (length r) (length d) e).size)

-- "A format .. keeps offset 4 and length 0, and any others are number 6"
format_keeps : (q : Request) (o : PageOffset) (n : ℕ) → q ≡ Format → wrong_format q o n ≡ false → (o.0 ≡ 4) × (n ≡ 0)
format_keeps q o n e f =
    let g : (not (eqb o.0 4) || not (eqb n 0)) ≡ false = ap (λ (x : Request). wrong_format x o n) (sym e) ∙ f in (
      eqb-true o.0 4 (not-false (eqb o.0 4) (or_left (not (eqb o.0 4)) (not (eqb n 0)) g)),
      eqb-true n 0 (not-false (eqb n 0) (or_right (not (eqb o.0 4)) (not (eqb n 0)) g)),
    )

pub format_six : (w : Walk) (l r d : List ℕ) → w.request ≡ Format → ((w.offset.0 ≡ 4) × (w.len ≡ 0) → ⊥)
    → step_of w l r d ≡ six w l r
format_six w l r d q h =
    wrong_is_six w l r d (wrong_numbers w (length l) (length r) (length d)) refl
    (λ e.
    h (format_keeps w.request w.offset w.len q
    (right_numbers w (length l) (length r) (length d) e).format))

-- "or the place lies beyond the list's end"
either_six : (w : Walk) (l r d : List ℕ) (t : Bool) → wrong_numbers w (length l) (length r) (length d) ≡ t
    → stepped w (steps_of w l r d) l r ≡ six w l r → step_of w l r d ≡ six w l r
unfolding step_of
either_six w l r d true e f = ap (λ (t : Bool). cond t (six w l r) (stepped w (steps_of w l r d) l r)) e
either_six w l r d false e f = ap (λ (t : Bool). cond t (six w l r) (stepped w (steps_of w l r d) l r)) e ∙ f

pub beyond_six : (w : Walk) (l r d : List ℕ) → length (steps_of w l r d) < w.place → step_of w l r d ≡ six w l r
unfolding stepped
beyond_six w l r d h =
    let n = length (steps_of w l r d) in
    either_six w l r d (wrong_numbers w (length l) (length r) (length d)) refl (simp (lt-ltb n w.place h))

-- ---- "(when steps remain) the pages' line isn't the line of the list at that place": before a mark, an image cell and
-- an erase alike
-- the entry of the list at the walk's place
abbrev pub entry_here : Walk → List ℕ → List ℕ → List ℕ → Entry
entry_here w l r d = get_or (steps_of w l r d) w.place nothing

here_kept : (w : Walk) (x : Entry) (l r d : List ℕ) → w.place < length (steps_of w l r d) → entry_here w l r d ≡ x
    → attempt x l r ≡ (record { number = 6; left = l; right = r }) → step_of w l r d ≡ six w l r
unfolding stepped after
here_kept w x l r d h e f =
    let n = length (steps_of w l r d) in
    either_six w l r d (wrong_numbers w (length l) (length r) (length d)) refl
    (simp (le-ltb n w.place (omega arith), ne_eqb n w.place (λ q. omega arith), e, f))

pub elsewhere_six : (w : Walk) (l r d : List ℕ) → w.place < length (steps_of w l r d)
    → (line_of (entry_here w l r d).state ≡ line_of (status_of l r).state → ⊥) → step_of w l r d ≡ six w l r
elsewhere_six w l r d h k =
    here_kept w (entry_here w l r d) l r d h refl (elsewhere_kept (entry_here w l r d) l r k)

-- ---- "or the program step would turn a 0 bit into a 1": the flash step isn't made
unfit_tries : (x : Entry) (l r : List ℕ) → ((tried x.step l r).number ≡ 0 → ⊥) → (attempt x l r).number ≡ 0 → ⊥
unfolding attempt
unfit_tries x l r h = go (meets x.state (status_of l r).state)
  where
    go : (t : Bool)
        → (cond {A = Tried} t (tried x.step l r) (record { number = 6; left = l; right = r })).number ≡ 0 → ⊥
    go true e = h e
    go false e = omega (arith, e)

pub bits_six : (w : Walk) (l r d : List ℕ) → w.place < length (steps_of w l r d)
    → ((tried (entry_here w l r d).step l r).number ≡ 0 → ⊥) → step_of w l r d ≡ six w l r
bits_six w l r d h k =
    here_kept w (entry_here w l r d) l r d h refl
    (unmade_kept (entry_here w l r d) l r (unfit_tries (entry_here w l r d) l r k))

-- ---- where none of these holds, the walk has ended or the step is made
pub record Fits (w : Walk) (l r d : List ℕ) : Type 0 where
  pub request : Legal (length l) (length r) w.offset w.len
  pub page : length l ≡ w.page
  pub size : length d ≡ w.len
  pub format : w.request ≡ Format → (w.offset.0 ≡ 4) × (w.len ≡ 0)

right_format : (q : Request) (o : PageOffset) (n : ℕ) → (q ≡ Format → (o.0 ≡ 4) × (n ≡ 0)) → wrong_format q o n ≡ false
right_format Save o n h = refl
right_format Format o n h = simp (eq-eqb o.0 4 (h refl).0, eq-eqb n 0 (h refl).1)

fit_numbers : (w : Walk) (l r d : List ℕ) → Fits w l r d → wrong_numbers w (length l) (length r) (length d) ≡ false
unfolding wrong_numbers
fit_numbers w l r d h =
    simp (
      eq-eqb (request_number (length l) (length r) w.offset w.len 0) 0
          (legal_none (length l) (length r) w.offset w.len 0 h.request),
      eq-eqb (length l) w.page h.page,
      eq-eqb (length d) w.len h.size,
      right_format w.request w.offset w.len h.format,
    )

pub ended_exactly : (w : Walk) (l r d : List ℕ) → Fits w l r d → length (steps_of w l r d) ≡ w.place
    → step_of w l r d ≡ kept ended w l r
unfolding step_of stepped
ended_exactly w l r d h e =
    let n = length (steps_of w l r d) in
    simp (fit_numbers w l r d h, le-ltb n w.place (omega arith), eq-eqb n w.place e)

pub made_exactly : (w : Walk) (l r d : List ℕ) → Fits w l r d → w.place < length (steps_of w l r d)
    → line_of (entry_here w l r d).state ≡ line_of (status_of l r).state
    → (tried (entry_here w l r d).step l r).number ≡ 0
    → let t = tried (entry_here w l r d).step l r in
    step_of w l r d ≡ (record { said = made; walk = advanced w; left = t.left; right = t.right })
unfolding step_of stepped attempt after
made_exactly w l r d h k e f =
    let n = length (steps_of w l r d) in
    let x = entry_here w l r d in
    simp (
      fit_numbers w l r d h,
      le-ltb n w.place (omega arith),
      ne_eqb n w.place (λ q. omega arith),
      eq-eqb (line_of x.state) (line_of (status_of l r).state) e,
      eq-eqb (tried x.step l r).number 0 f,
    )
