-- `texts::without_comment` meets its contract. Assumes nothing.
use Rattle.std.proofs.Common.{refl, sym, ◌∙◌}
use Rattle.texts.proofs.Laws.{comment_cut, no_comment, return_is}
use Rattle.texts.proofs.without_comment.Goals as goal

pub returns-in-Some : goal.returns-in-Some
returns-in-Some c = comment_cut c.args.line.now c.in-Some.end (sym c.find.ensures ∙ c.in-Some.is)

pub returns-in-None : goal.returns-in-None
returns-in-None c =
    return_is c.args.line.now c.args.line c.unwrap_or.result c.strip_suffix.result refl c.unwrap_or.ensures
    c.strip_suffix.ensures.cases
    ∙ no_comment c.args.line.now (sym c.find.ensures ∙ c.in-None.is)
