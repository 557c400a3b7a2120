-- `bench::bench_step` meets its contract: it is the step of the walk that keeps the numbers. Assumes nothing.
use Rattle.std.specs.Prelude.{Some}
use mathlib.Core.Path.{sym, ap, ◌∙◌}
use Rattle.bench.proofs.Laws.{step_as_lem, step_none}
use Rattle.bench.proofs.bench_step.Goals as goal

pub returns-in_default : goal.returns-in_default
returns-in_default c =
    step_none _ _ _ _ _ _ _ _ c.args.«data».now (sym c.state_of.ensures ∙ c.in_default.is)

pub returns : goal.returns
returns c =
    step_as_lem _ c.in-Some.state c.args.erased c.args.page _ c.args.len _ _ _ c.args.«data».now _ _ _
    c.step-stepped.result (sym c.state_of.ensures ∙ c.in-Some.is) c.code_of.ensures
    c.step-stepped.ensures
