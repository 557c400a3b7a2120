-- `flash::eights_erased` meets its contract: the page is erased exactly if the eights and the rest are. Assumes nothing.
use mathlib.Core.Path.{◌∙◌}
use borrow.Author.Rules.{rules}
use borrow.Author.Tests.{tests}
use Rattle.std.proofs.lemmas.Iterator.{YieldsList-from_slice}
use Rattle.std.proofs.lemmas.Iterator.Search.{all_from_yields_List}
use Rattle.flash.specs.Flash.{is_erased}
use Rattle.flash.proofs.Laws.{chunks_passed}
use Rattle.flash.proofs.eights_erased.Goals as goal

pub returns-then-all : goal.returns-then-all
returns-then-all c =
    c.bytes_erased.ensures
    ∙ chunks_passed 8 c.args.page.now _ c.as_chunks.result.0.now c.all.result _ c.as_chunks.ensures.front c.as_chunks.ensures.back
    (all_from_yields_List is_erased _ _ c.all.result c.all.ensures.ran (YieldsList-from_slice c.as_chunks.result.0.now cc)
    (λ x b q k. search (rules, tests))) c.if-all.true

pub returns-else-all : goal.returns-else-all
returns-else-all c =
    c.if-all.false
    ∙ chunks_passed 8 c.args.page.now _ c.as_chunks.result.0.now c.all.result _ c.as_chunks.ensures.front c.as_chunks.ensures.back
    (all_from_yields_List is_erased _ _ c.all.result c.all.ensures.ran (YieldsList-from_slice c.as_chunks.result.0.now cc)
    (λ x b q k. search (rules, tests))) c.if-all.false
