-- Laws of the list of steps: what stands at a place.
-- In order: the steps before the image cells, a format's steps and the marks; the places of a save's list.
-- Not here: the length of the list (Counts.antt). Assumes nothing.
use Rattle.std.specs.Prelude.{Option, Some}
use Prim.Native.Nat.{ℕ, zero, suc, ◌+◌, ◌-◌, ◌*◌, ◌/◌, ◌<◌, ◌≤◌}
use mathlib.Core.Path.{◌≡◌, refl, sym, ap, ap₂, subst, ◌∙◌}
use mathlib.Core.Bool.{Bool, true, false, cond, ◌&&◌}
use mathlib.Core.List.{List, [], ◌∷◌, ◌++◌}
use native.Mathlib.Omega.{arith}
use lib.ListN.{length, get_or, get_or-append}
use Rattle.images.proofs.Overlay.{get_d_later}
use Rattle.flash.specs.Flash.{cell_number, cell_at}
use Rattle.pages.specs.declared.Side.{Side}
use Rattle.pages.specs.declared.Side.TheVariants.{Right}
use Rattle.pages.specs.declared.State.{State}
use Rattle.pages.specs.declared.State.TheVariants.{S0, S1, S2, S3, S5, S6, S7, S8, S9, S10}
use Rattle.pages.specs.declared.ImageOffset.{ImageOffset}
use Rattle.pages.specs.Pages.{line_of, live_of}
use Rattle.steps.specs.declared.Step.{Step}
use Rattle.steps.specs.declared.Step.TheVariants.{Image}
use Rattle.plans.specs.declared.Request.TheVariants.{Save, Format}
use Rattle.plans.specs.declared.Entry.{Entry}
use Rattle.plans.specs.Plans.{entry, committing, mark, counts, ready, erases_both, target, clean, cells, first_cell, marks, saving, formatting, nothing}
use Rattle.plans.specs.Counts.{added, format_count}
use Rattle.plans.proofs.Counts.{ready_length, cells_length, bound}

-- ---- the steps before the image cells, a format's steps and the marks
pub on_side_lem : (live : Option Side) (s t : Side) → live ≡ Some s → s ≡ t → live ≡ Some t
on_side_lem live s t e h = e ∙ ap Some h

-- what stands after the first of a list
tail_at : (x : Entry) (xs : List Entry) (k : ℕ) → (k ≡ 0 → ⊥) → get_or xs (k - 1) nothing ≡ get_or (x ∷ xs) k nothing
tail_at x xs zero h = absurd (h refl)
tail_at x xs (suc k) h =
    let e : suc k - 1 ≡ k = omega arith in
    ap (λ (n : ℕ). get_or xs n nothing) e

-- the first step before the image cells is made at the line where the save begins
pub head_entry : (state : State) (step : Step) → step ≡ (get_or (ready state false) 0 nothing).step
    → entry state step ≡ get_or (ready state false) 0 nothing
unfolding live_of
head_entry S0 step e = ap (entry S0) e
head_entry S1 step e = ap (entry S1) e
head_entry S2 step e = ap (entry S2) e
head_entry S3 step e = ap (entry S3) e
head_entry S5 step e = ap (entry S5) e
head_entry S6 step e = ap (entry S6) e
head_entry S7 step e = ap (entry S7) e
head_entry S8 step e = ap (entry S8) e
head_entry S9 step e = ap (entry S9) e
head_entry S10 step e = ap (entry S10) e

-- elsewhere what follows it is the list from the next line on
abbrev pub next_of : State → State
next_of start = (get_or (ready start false) 1 nothing).state

abbrev Follows : State → State → Type 0
Follows start next =
    (ready start false ≡ get_or (ready start false) 0 nothing ∷ ready next false) × (line_of next ≡ 0 → ⊥)

follows : (start : State) → (line_of start ≡ 0 → ⊥) → 1 < length (ready start false) → Follows start (next_of start)
unfolding live_of
follows S0 h k = absurd (h refl)
follows S1 h k = absurd (omega (arith, k))
follows S2 h k = (refl, λ e. omega (arith, e))
follows S3 h k = absurd (omega (arith, k))
follows S5 h k = (refl, λ e. omega (arith, e))
follows S6 h k = (refl, λ e. omega (arith, e))
follows S7 h k = absurd (omega (arith, k))
follows S8 h k = absurd (omega (arith, k))
follows S9 h k = (refl, λ e. omega (arith, e))
follows S10 h k = (refl, λ e. omega (arith, e))

ready_most : (start : State) → length (ready start false) ≤ 3
ready_most start = omega (arith, ready_length start false, bound Save start false 4)

follows_length : (start : State) → (line_of start ≡ 0 → ⊥) → 1 < length (ready start false)
    → length (ready start false) ≡ suc (length (ready (next_of start) false))
follows_length start h k = ap (λ (xs : List Entry). length xs) (follows start h k).0

follows_at : (start : State) (k : ℕ) → (line_of start ≡ 0 → ⊥) → suc k < length (ready start false)
    → get_or (ready (next_of start) false) k nothing ≡ get_or (ready start false) (suc k) nothing
follows_at start k h p = sym (ap (λ (xs : List Entry). get_or xs (suc k) nothing) (follows start h (omega arith)).0)

pub ready_second : (start next : State) (place : ℕ) → (line_of start ≡ 0 → ⊥) → next ≡ next_of start → place ≡ 1
    → place < length (ready start false)
    → get_or (ready next false) 0 nothing ≡ get_or (ready start false) place nothing
ready_second start next place h e p k =
    ap (λ (s : State). get_or (ready s false) 0 nothing) e
    ∙ follows_at start 0 h (omega arith)
    ∙ ap (λ (n : ℕ). get_or (ready start false) n nothing) (sym p)

pub ready_third : (start next last : State) (place : ℕ) → (line_of start ≡ 0 → ⊥) → next ≡ next_of start
    → last ≡ next_of next → 2 ≤ place → place < length (ready start false)
    → get_or (ready last false) 0 nothing ≡ get_or (ready start false) place nothing
ready_third start next last place h e f p k =
    let most : length (ready start false) ≤ 3 = ready_most start in
    let two : place ≡ 2 = omega arith in
    let more : 1 < length (ready start false) = omega arith in
    let n : length (ready start false) ≡ suc (length (ready (next_of start) false)) = follows_length start h more in
    let g : line_of (next_of start) ≡ 0 → ⊥ = (follows start h more).1 in
    ap (λ (s : State). get_or (ready s false) 0 nothing) (f ∙ ap next_of e)
    ∙ follows_at (next_of start) 0 g (omega arith)
    ∙ follows_at start 1 h (omega arith)
    ∙ ap (λ (m : ℕ). get_or (ready start false) m nothing) (sym two)

-- a list that isn't empty is that of a walk begun with nothing erased
pub ready_some : (start : State) (erased : Bool) (k : ℕ) → k < length (ready start erased)
    → ready start erased ≡ ready start false
unfolding live_of
ready_some S0 true k h = absurd (omega (arith, h))
ready_some S0 false k h = refl
ready_some S1 true k h = absurd (omega (arith, h))
ready_some S1 false k h = refl
ready_some S2 erased k h = refl
ready_some S3 erased k h = refl
ready_some S5 erased k h = refl
ready_some S6 erased k h = refl
ready_some S7 erased k h = refl
ready_some S8 true k h = absurd (omega (arith, h))
ready_some S8 false k h = refl
ready_some S9 erased k h = refl
ready_some S10 erased k h = refl

and_false : (t : Bool) → (t && false) ≡ false
and_false true = refl
and_false false = refl

-- a format's steps: none where both pages are erased, else the deciding store, then the erases of both pages
format_some : (start : State) (erased : Bool) (k : ℕ) → k < format_count start erased
    → formatting start erased ≡ formatting start false
unfolding formatting
format_some start true k h = go (counts Format start) h
  where
    go : (t : Bool) → k < cond (t && true) 0 3
        → cond (t && true) [] (committing start (mark Right 2 0x0000) ∷ erases_both)
        ≡ cond (t && false) [] (committing start (mark Right 2 0x0000) ∷ erases_both)
    go true q = absurd (omega arith)
    go false q = refl
format_some start false k h = refl

format_list : (start : State) → formatting start false ≡ committing start (mark Right 2 0x0000) ∷ erases_both
unfolding formatting
format_list start = simp (and_false (counts Format start))

pub format_first : (start : State) (k : ℕ) → k ≡ 0
    → committing start (mark Right 2 0x0000) ≡ get_or (formatting start false) k nothing
format_first start k e =
    ap (λ (xs : List Entry). get_or xs 0 nothing) (sym (format_list start))
    ∙ ap (λ (n : ℕ). get_or (formatting start false) n nothing) (sym e)

pub format_later : (start : State) (k : ℕ) → (k ≡ 0 → ⊥)
    → get_or erases_both (k - 1) nothing ≡ get_or (formatting start false) k nothing
format_later start k h =
    tail_at (committing start (mark Right 2 0x0000)) erases_both k h
    ∙ ap (λ (xs : List Entry). get_or xs k nothing) (sym (format_list start))

pub format_at : (start : State) (erased : Bool) (k : ℕ) → k < format_count start erased
    → get_or (formatting start false) k nothing ≡ get_or (formatting start erased) k nothing
format_at start erased k h = ap (λ (xs : List Entry). get_or xs k nothing) (sym (format_some start erased k h))

-- ---- the places of a save's list
before_seam : (xs ys : List Entry) (k : ℕ) → k < length xs → get_or (xs ++ ys) k nothing ≡ get_or xs k nothing
before_seam xs ys k h = get_or-append xs ys nothing k h

-- the k-th image cell is at twice k, and holds what the image holds there
pub cells_at : (state : State) (s : Side) (at : ImageOffset) (image : List ℕ) (k : ℕ) → k * 2 + 1 < length image
    → get_or (cells state s at image) k nothing
    ≡ entry state (Image s (record { 0 = at.0 + k * 2 }) (cell_at image (k * 2)))
cells_at state s at [] k h = absurd (omega arith)
cells_at state s at (low ∷ []) k h = absurd (omega arith)
cells_at state s at (low ∷ high ∷ rest) zero h =
    let p : at.0 ≡ at.0 + 0 = omega arith in
    ap (λ (j : ℕ). entry state (Image s (record { 0 = j }) (cell_number low high))) p
cells_at state s at (low ∷ high ∷ rest) (suc k) h =
    let p : at.0 + 2 + k * 2 ≡ at.0 + suc k * 2 = omega arith in
    let q : suc (suc (k * 2)) ≡ suc k * 2 = omega arith in
    let q' : suc (suc (k * 2 + 1)) ≡ suc k * 2 + 1 = omega arith in
    cells_at state s (record { 0 = at.0 + 2 }) rest k (omega arith)
    ∙ ap₂ (λ (j v : ℕ). entry state (Image s (record { 0 = j }) v)) p
    (ap₂ cell_number (ap (λ (n : ℕ). get_or (low ∷ high ∷ rest) n 0) q)
    (ap (λ (n : ℕ). get_or (low ∷ high ∷ rest) n 0) q'))

pub ready_count : (start : State) (erased : Bool) → length (ready start erased) ≡ added start erased - 3
ready_count start erased =
    let n : length (ready start erased) + 3 ≡ added start erased = ready_length start erased in
    omega arith

pub save_ready : (start : State) (erased : Bool) (new : List ℕ) (place : ℕ) → place < added start erased - 3
    → get_or (ready start false) place nothing ≡ get_or (saving start erased new) place nothing
unfolding saving
save_ready start erased new place h =
    let live = live_of start in
    let k : place < length (ready start erased) = omega (arith, ready_count start erased) in
    ap (λ (xs : List Entry). get_or xs place nothing) (sym (ready_some start erased place k))
    ∙ sym (before_seam (ready start erased) (cells (clean live) (target live) first_cell new ++ marks live) place k)

pub save_cell : (start : State) (erased : Bool) (new : List ℕ) (place k : ℕ)
    → added start erased - 3 ≤ place → k ≡ place - (added start erased - 3) → k < length new / 2
    → entry (clean (live_of start)) (Image (target (live_of start)) (record { 0 = k * 2 }) (cell_at new (k * 2)))
    ≡ get_or (saving start erased new) place nothing
unfolding saving
save_cell start erased new place k h e p =
    let live = live_of start in
    let list = cells (clean live) (target live) first_cell new in
    let z : 0 + k * 2 ≡ k * 2 = omega arith in
    sym (get_d_later (ready start erased) (list ++ marks live) nothing place (added start erased - 3)
    (ready_count start erased) h
    ∙ ap (λ (n : ℕ). get_or (list ++ marks live) n nothing) (sym e)
    ∙ before_seam list (marks live) k (omega (arith, cells_length (clean live) (target live) first_cell new))
    ∙ cells_at (clean live) (target live) first_cell new k (omega arith)
    ∙ ap (λ (n : ℕ). entry (clean live) (Image (target live) (record { 0 = n }) (cell_at new (k * 2)))) z)

pub save_mark : (start : State) (erased : Bool) (new : List ℕ) (place k : ℕ)
    → added start erased - 3 ≤ place → k ≡ place - (added start erased - 3) → length new / 2 ≤ k
    → get_or (marks (live_of start)) (k - length new / 2) nothing ≡ get_or (saving start erased new) place nothing
unfolding saving
save_mark start erased new place k h e p =
    let live = live_of start in
    let list = cells (clean live) (target live) first_cell new in
    sym (get_d_later (ready start erased) (list ++ marks live) nothing place (added start erased - 3)
    (ready_count start erased) h
    ∙ ap (λ (n : ℕ). get_or (list ++ marks live) n nothing) (sym e)
    ∙ get_d_later list (marks live) nothing k (length new / 2) (cells_length (clean live) (target live) first_cell new) p)

pub ready_inside : (start : State) (erased : Bool) (place : ℕ) → place < added start erased - 3
    → place < length (ready start false)
ready_inside start erased place h =
    let k : place < length (ready start erased) = omega (arith, ready_count start erased) in
    subst (λ (xs : List Entry). place < length xs) (ready_some start erased place k) k
