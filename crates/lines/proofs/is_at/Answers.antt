-- `lines::is_at` meets its contract: at line 0 by the look-up, elsewhere by the two words of the row. Assumes nothing.
use Rattle.std.proofs.Common.{rules, ◌∙◌}
use Rattle.lines.proofs.Words.{other_line, row_decides}
use Rattle.lines.proofs.is_at.Goals as goal

pub returns : goal.returns
returns c =
    c.has_words.ensures
    ∙ row_decides c.args.wanted c.args.pair.left.now c.args.pair.right.now (other_line c.args.wanted (search rules))
