-- `bench_formats::bench_format` meets its contract: what a format begins is walked, with no data. Assumes nothing.
use mathlib.Core.Path.{ap, ◌∙◌}
use mathlib.Core.List.{[]}
use Rattle.walks.specs.Walks.{Beginning}
use Rattle.bench_walks.specs.Whole.{walked}
use Rattle.bench_formats.proofs.bench_format.Goals as goal

pub returns : goal.returns
returns c =
    c.walk.ensures
    ∙ ap (λ (x : Beginning). walked x c.args.left.now c.args.right.now []) c.format-begun.ensures
