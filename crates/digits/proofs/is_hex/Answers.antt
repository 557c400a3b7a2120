-- `digits::is_hex` meets its contract. Assumes nothing.
use Rattle.std.proofs.Common.{rules, tests, ◌∙◌}
use Rattle.std.proofs.lemmas.Iterator.{YieldsList-from_slice}
use Rattle.std.proofs.lemmas.Iterator.Search.{all_from_yields_List}
use Rattle.digits.proofs.Laws.{is_digit, all_is, digit_is}
use Rattle.digits.proofs.is_hex.Goals as goal

pub returns : goal.returns
returns c =
    all_from_yields_List is_digit _ _ _ c.all.ensures.ran (YieldsList-from_slice c.args.word.now (cc))
    (λ x b q k. search (rules, tests, digit_is))
    ∙ all_is c.args.word.now
