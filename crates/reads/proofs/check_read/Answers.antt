-- `reads::check_read` meets its contract: the number is that of where the bytes were found. Assumes nothing.
use Rattle.std.proofs.Common.{rules}
use Rattle.reads.proofs.Laws.{error_read, found_read}
use Rattle.reads.proofs.check_read.Goals as goal

pub returns-in_err-locate : goal.returns-in_err-locate
returns-in_err-locate c =
    error_read _ _ _ _ c.in_err-locate.field-0.0 _ _ (search rules) c.locate.ensures (search rules)

pub returns : goal.returns
returns c = found_read _ _ _ _ _ c.in_ok-locate.field-0 (search rules) c.locate.ensures
