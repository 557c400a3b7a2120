-- `lines::is_clean` meets its contract: the live side says which line it is. Assumes nothing.
use Rattle.std.proofs.Common.{ap, ◌∙◌, ◌&&◌, eqb}
use Rattle.pages.specs.declared.State.{State}
use Rattle.pages.specs.Pages.{word_of, row_of}
use Rattle.lines.proofs.Words.{clean_side}
use Rattle.lines.proofs.is_clean.Goals as goal

pub returns-in-Some : goal.returns-in-Some
returns-in-Some c =
    clean_side _ c.in-Some.side c.args.pair.left.now c.args.pair.right.now _ c.in-Some.is
    (c.has_words.ensures
    ∙ ap (λ (s : State). eqb (word_of c.args.pair.left.now) (row_of s).left && eqb (word_of c.args.pair.right.now) (row_of s).right)
    c.pick.ensures)
