-- `walks::Walk::step` meets its contract: wrong numbers, a place beyond the list and its end come first; then the entry
-- at the walk's place is tried. Assumes nothing.
use Rattle.std.specs.Prelude.{Ok, Err}
use Prim.Native.Nat.{◌<◌}
use mathlib.Core.Path.{◌≡◌, sym, ◌∙◌}
use mathlib.Core.Bool.{false}
use native.Mathlib.Omega.{arith}
use lib.ListN.{length}
use Rattle.walks.specs.declared.Progress.TheVariants.{Made, Ended, Unfit}
use Rattle.walks.specs.Walks.{wrong_numbers}
use Rattle.walks.proofs.Laws.{total_of}
use Rattle.walks.proofs.Steps.{answered, step_wrong, step_beyond, step_ended, step_made, step_unfit}
use Rattle.std.proofs.Common.{rules}
use Rattle.walks.proofs.Walk.step.Goals as goal
use Rattle.walks.proofs.Walk.step.Goals.{After-try_step-arg-2-1}

pub returns-then-wrong_numbers : goal.returns-then-wrong_numbers
returns-then-wrong_numbers c =
    answered _ c.args.self Unfit _ _ _ c.answered.ensures
    (step_wrong c.args.self c.args.left.now c.args.right.now c.args.«data».now
    (sym c.wrong_numbers.ensures ∙ c.if-wrong_numbers.true))

pub returns-then-total-self : goal.returns-then-total-self
returns-then-total-self c =
    answered _ c.args.self Unfit _ _ _ c.answered-then-total-self.ensures
    (step_beyond c.args.self c.args.left.now c.args.right.now c.args.«data».now
    (sym c.wrong_numbers.ensures ∙ c.if-wrong_numbers.false) (omega arith))

pub returns-then-total-self-2 : goal.returns-then-total-self-2
returns-then-total-self-2 c =
    answered _ c.args.self Ended _ _ _ c.answered-then-total-self-2.ensures
    (step_ended c.args.self c.args.left.now c.args.right.now c.args.«data».now
    (sym c.wrong_numbers.ensures ∙ c.if-wrong_numbers.false) (omega arith))

-- the numbers are right, and steps remain
remains : (c : After-try_step-arg-2-1)
    → (wrong_numbers c.args.self (length c.args.left.now) (length c.args.right.now) (length c.args.«data».now) ≡ false)
    × (c.args.self.place < total_of c.args.self)
remains c =
    (sym c.wrong_numbers.ensures ∙ c.if-wrong_numbers.false, omega arith)

pub try_step-requires : goal.try_step-requires
try_step-requires c = remains c

pub returns-in-Ok : goal.returns-in-Ok
returns-in-Ok c =
    answered _ c.advanced.result Made _ _ _ c.answered-in-Ok.ensures
    (step_made c.args.self c.advanced.result c.args.left.now c.args.right.now c.args.«data».now _ _
    c.try_step.result (remains (goal.at.returns-in-Ok c).After-try_step-arg-2-1).0 (remains (goal.at.returns-in-Ok c).After-try_step-arg-2-1).1 c.in-Ok.is
    c.advanced.ensures c.try_step.ensures)

pub returns-in-Err-Unfit : goal.returns-in-Err-Unfit
returns-in-Err-Unfit c =
    answered _ c.args.self Unfit _ _ _ c.answered-in-Err-Unfit.ensures
    (step_unfit c.args.self c.args.left.now c.args.right.now c.args.«data».now _ _ c.try_step.result
    (remains (goal.at.returns-in-Err-Unfit c).After-try_step-arg-2-1).0 (remains (goal.at.returns-in-Err-Unfit c).After-try_step-arg-2-1).1 (search rules) c.try_step.ensures)
