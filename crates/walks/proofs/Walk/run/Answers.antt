-- `walks::Walk::run` meets its contract. The loop's invariant: what is left to do gives what the whole run gives.
-- Assumes nothing.
use Prim.Native.Nat.{ℕ}
use mathlib.Core.Path.{◌≡◌, ap, ◌∙◌}
use native.Mathlib.Omega.{arith}
use Rattle.std.proofs.Common.{rules}
use Rattle.walks.specs.Walks.{at_place}
use Rattle.walks.proofs.Runs.{left_to_do, goes_on, stops, spent}
use Rattle.walks.proofs.Walk.run.Goals as goal

pub returns-then-ne : goal.returns-then-ne
returns-then-ne c =
    stops c.args.most c.loop-steps.steps (at_place c.args.self c.loop-steps.place) c.at.result c.loop-steps.left
    c.loop-steps.right c.args.«data».now _ _ c.step-progress.result c.ran.result (omega arith) c.at.ensures
    c.step-progress.ensures (λ e. search rules) c.ran.ensures
    ∙ c.loop-steps.invariant

pub loop-steps-preserved : goal.loop-steps-preserved
loop-steps-preserved c =
    goes_on c.args.most c.loop-steps.steps c.args.self c.at.result c.loop-steps.place c.loop-steps.left
    c.loop-steps.right c.args.«data».now _ _ c.step-progress.result (omega arith) c.at.ensures c.step-progress.ensures
    (search rules)
    ∙ c.loop-steps.invariant

pub returns : goal.returns
returns c =
    let e : c.args.most ≡ c.loop-steps.steps = omega arith in
    spent c.args.most c.args.most (at_place c.args.self c.loop-steps.place) c.at-2.result c.loop-steps.left
    c.loop-steps.right c.args.«data».now c.ran-2.result (omega arith) c.at-2.ensures c.ran-2.ensures
    ∙ ap
    (λ (n : ℕ).
    left_to_do c.args.most n (at_place c.args.self c.loop-steps.place) c.loop-steps.left c.loop-steps.right
    c.args.«data».now)
    e
    ∙ c.loop-steps.invariant
