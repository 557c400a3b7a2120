-- `table::status_of` meets its contract: it looks up the words of the two pages. Assumes nothing.
use mathlib.Core.Path.{ap, ◌∙◌}
use Rattle.pages.specs.Pages.{table, look, status_of, standing}
use Rattle.table.proofs.status_of.Goals as goal

pub returns : goal.returns
unfolding status_of
returns c =
    ap standing
    (c.look_up.ensures ∙ (λ i. look table (c.word.ensures i) (c.word-2.ensures i)))
