-- `tries::try_entry` meets its contract: the line is tested first. Assumes nothing.
use mathlib.Core.Path.{sym, ◌∙◌}
use Rattle.tries.proofs.Laws.{try_met, try_unmet}
use Rattle.tries.proofs.try_entry.Goals as goal

pub returns-then-is_at : goal.returns-then-is_at
returns-then-is_at c =
    try_met c.args.x _ _ _
    (sym c.is_at.ensures ∙ c.if-is_at.true)
    c.make.ensures

pub returns : goal.returns
returns c =
    try_unmet c.args.x _ _
    (sym c.is_at.ensures ∙ c.if-is_at.false)
