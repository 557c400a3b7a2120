-- The table of counts: how many steps the list of a request has, each row, both kinds; and the bound.
-- In order: the image cells; a save's and a format's list; the bound.
-- Assumes nothing.
use Rattle.std.specs.Prelude.{Option, Some, None}
use Prim.Native.Nat.{ℕ, ◌+◌, ◌-◌, ◌/◌, ◌≤◌}
use mathlib.Core.Path.{◌≡◌, refl, ap, ◌∙◌}
use mathlib.Core.Bool.{Bool, true, false, cond, ◌&&◌}
use mathlib.Core.List.{List, [], ◌∷◌, ◌++◌}
use native.Mathlib.Omega.{arith}
use lib.ListN.{length, length-append}
use Rattle.pages.specs.declared.Side.{Side}
use Rattle.pages.specs.declared.Side.TheVariants.{Right}
use Rattle.pages.specs.declared.State.{State}
use Rattle.pages.specs.declared.State.TheVariants.{S0, S1, S2, S3, S5, S6, S7, S8, S9, S10}
use Rattle.pages.specs.declared.ImageOffset.{ImageOffset}
use Rattle.pages.specs.Pages.{live_of}
use Rattle.pages.specs.Offsets.{image_size}
use Rattle.plans.specs.declared.Request.{Request}
use Rattle.plans.specs.declared.Request.TheVariants.{Save, Format}
use Rattle.plans.specs.Plans.{
  committing,
  mark,
  counts,
  erases_both,
  ready,
  clean,
  target,
  cells,
  first_cell,
  marks,
  saving,
  formatting,
  plan,
}
use Rattle.plans.specs.Counts.{added, format_count, step_count}

-- an entry for every two bytes
pub cells_length : (st : State) (s : Side) (at : ImageOffset) (im : List ℕ)
    → length (cells st s at im) ≡ length im / 2
cells_length st s at [] = refl
cells_length st s at (low ∷ []) = refl
cells_length st s at (low ∷ high ∷ rest) =
    let n : length (cells st s (record { 0 = at.0 + 2 }) rest) ≡ length rest / 2 =
    cells_length st s (record { 0 = at.0 + 2 }) rest in
    omega arith

-- the steps before the image cells: each row of the table, less the three after them
pub ready_length : (st : State) (erased : Bool) → length (ready st erased) + 3 ≡ added st erased
unfolding live_of
ready_length S0 true = refl
ready_length S0 false = refl
ready_length S1 true = refl
ready_length S1 false = refl
ready_length S2 erased = refl
ready_length S3 erased = refl
ready_length S5 erased = refl
ready_length S6 erased = refl
ready_length S7 erased = refl
ready_length S8 true = refl
ready_length S8 false = refl
ready_length S9 erased = refl
ready_length S10 erased = refl

marks_length : (v : Option Side) → length (marks v) ≡ 3
marks_length None = refl
marks_length (Some s) = refl

save_length : (st : State) (erased : Bool) (new : List ℕ)
    → length (saving st erased new) ≡ length new / 2 + added st erased
unfolding saving
save_length st erased new =
    let v = live_of st in
    let c = cells (clean v) (target v) first_cell new in
    let a : length (ready st erased) + 3 ≡ added st erased = ready_length st erased in
    let b : length c ≡ length new / 2 = cells_length (clean v) (target v) first_cell new in
    let m : length (marks v) ≡ 3 = marks_length v in
    let rest : length (c ++ marks v) ≡ length c + length (marks v) = length-append c (marks v) in
    length-append (ready st erased) (c ++ marks v) ∙ (omega arith)

format_length : (st : State) (erased : Bool) → length (formatting st erased) ≡ format_count st erased
unfolding formatting
format_length st erased = go (counts Format st && erased)
  where
    go : (t : Bool) → length (cond t [] (committing st (mark Right 2 0x0000) ∷ erases_both)) ≡ cond t 0 3
    go true = refl
    go false = refl

-- the table of counts is the length of the list
pub plan_length : (request : Request) (st : State) (erased : Bool) (new : List ℕ) (p : ℕ) → length new ≡ image_size p
    → length (plan request st erased new) ≡ step_count request st erased p
plan_length Save st erased new p n = save_length st erased new ∙ ap (λ (k : ℕ). k / 2 + added st erased) n
plan_length Format st erased new p n = format_length st erased

-- ---- the bound
added_most : (st : State) (erased : Bool) → added st erased ≤ 6
added_most S0 true = omega arith
added_most S0 false = omega arith
added_most S1 true = omega arith
added_most S1 false = omega arith
added_most S2 erased = omega arith
added_most S3 erased = omega arith
added_most S5 erased = omega arith
added_most S6 erased = omega arith
added_most S7 erased = omega arith
added_most S8 true = omega arith
added_most S8 false = omega arith
added_most S9 erased = omega arith
added_most S10 erased = omega arith

format_most : (t : Bool) → cond t 0 3 ≤ 3
format_most true = omega arith
format_most false = omega arith

-- "never above (P - 4) / 2 + 6"
pub bound : (request : Request) (st : State) (erased : Bool) (p : ℕ) → step_count request st erased p ≤ (p - 4) / 2 + 6
bound Save st erased p = let a : added st erased ≤ 6 = added_most st erased in omega arith
bound Format st erased p = let a : format_count st erased ≤ 3 = format_most (counts Format st && erased) in omega arith
