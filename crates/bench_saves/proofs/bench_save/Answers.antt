-- `bench_saves::bench_save` meets its contract: what a save begins is walked. Assumes nothing.
use mathlib.Core.Path.{ap, ◌∙◌}
use Rattle.walks.specs.Walks.{Beginning}
use Rattle.bench_walks.specs.Whole.{walked}
use Rattle.bench_saves.proofs.bench_save.Goals as goal

pub returns : goal.returns
returns c =
    c.walk.ensures
    ∙ ap (λ (x : Beginning). walked x c.args.left.now c.args.right.now c.args.«data».now) c.save-begun.ensures
