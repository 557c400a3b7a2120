-- `texts::blanks` meets its contract. Assumes nothing.
use Rattle.std.proofs.Common.{true, rules, tests, ◌∙◌}
use Rattle.std.proofs.lemmas.Iterator.{YieldsList-from_slice}
use Rattle.std.proofs.lemmas.Iterator.Search.{position_from_yields_List}
use Rattle.texts.specs.Texts.{ending}
use Rattle.texts.proofs.Laws.{found_or}
use Rattle.texts.proofs.blanks.Goals as goal

pub returns-clause-value : goal.returns-clause-value
unfolding ending
returns-clause-value c =
    c.unwrap_or.ensures
    ∙ found_or (ending true) c.args.line.now c.position-first.result
    (position_from_yields_List (ending true) _ _ c.position-first.result c.position-first.ensures.ran (YieldsList-from_slice c.args.line.now (cc))
    (λ x b q k. search (rules, tests)))
