-- `verdicts::is_new` meets its contract: the bytes are tested one by one. Assumes nothing.
use Rattle.std.proofs.Common.{ℕ, ◌∙◌, rules, length, ◌==◌, arith}
use Rattle.std.proofs.lemmas.Iterator.{YieldsList-from_slice, YieldsList-from_range, YieldsList-from_zip}
use Rattle.std.proofs.lemmas.Iterator.Search.{all_from_yields_List}
use borrow.Author.Tests.{tests}
use Rattle.verdicts.specs.Verdicts.{new_byte}
use Rattle.verdicts.proofs.Laws.{at, each_is_new}
use Rattle.verdicts.proofs.is_new.Goals as goal

pub returns : goal.returns
returns c =
    all_from_yields_List (λ (p : ℕ × ℕ). p.1 == new_byte c.args.old.now c.args.offset c.args.«data».now (at p.0)) c.all.new.self _ _ c.all.ensures.ran
    (YieldsList-from_zip
    (YieldsList-from_range 0 _ (length c.args.image.now) c.zip.ensures.first (omega arith))
    (YieldsList-from_slice c.args.image.now c.zip.ensures.second.0))
    (λ x b q k. search (rules, tests))
    ∙ each_is_new c.args.image.now c.args.old.now c.args.offset c.args.«data».now 0
