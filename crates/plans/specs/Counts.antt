-- How many steps a walk has (document 01's table in "The walk of a save", and "The walk of a
-- format"). That the list of steps has this length is a theorem (proofs/Counts.antt).
-- Assumes nothing.
use Rattle.std.specs.Prelude.{ℕ, ◌+◌, ◌/◌, Bool, cond, ◌&&◌}
use Rattle.pages.specs.declared.State.{State}
use Rattle.pages.specs.declared.State.TheVariants.{S0, S1, S2, S3, S5, S6, S7, S8, S9, S10}
use Rattle.pages.specs.Offsets.{image_size}
use Rattle.plans.specs.declared.Request.{Request}
use Rattle.plans.specs.declared.Request.TheVariants.{Save, Format}
use Rattle.plans.specs.Plans.{is_line}

-- "C below is (P - 4) / 2"
abbrev pub cell_count : ℕ → ℕ
cell_count p = image_size p / 2

-- what each row of the table adds to C
abbrev pub added : State → Bool → ℕ
added S0 erased = cond erased 3 6
added S1 erased = cond erased 3 4
added S2 erased = 5
added S3 erased = 4
added S5 erased = 6
added S6 erased = 5
added S7 erased = 4
added S8 erased = cond erased 3 4
added S9 erased = 6
added S10 erased = 5

-- "No steps if both pages are erased .. Otherwise three"
abbrev pub format_count : State → Bool → ℕ
format_count start erased = cond (is_line start 0 && erased) 0 3

-- the steps of a walk on pages of P bytes
abbrev pub step_count : Request → State → Bool → ℕ → ℕ
step_count Save start erased p = cell_count p + added start erased
step_count Format start erased p = format_count start erased
