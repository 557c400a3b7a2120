-- `lines::is_none` meets its contract: no row has a RIGHT with another Spare than FF. Assumes nothing.
use borrow.Author.Tests.{ltb-true}
use mathlib.Core.Path.{sym, ◌∙◌}
use Rattle.pages.specs.Pages.{word_of}
use Rattle.lines.proofs.Words.{word_meets}
use Rattle.lines.proofs.is_none.Goals as goal

pub returns-then-lacks_spare : goal.returns-then-lacks_spare
returns-then-lacks_spare c =
    c.if-lacks_spare.true
    ∙ word_meets c.args.pair.left.now c.args.pair.right.now
    (ltb-true (word_of c.args.pair.right.now) 4278190080 (sym c.lacks_spare.ensures ∙ c.if-lacks_spare.true))
