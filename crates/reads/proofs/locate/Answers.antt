-- `reads::locate` meets its contract: the check of the request comes first, then the live side. Assumes nothing.
use Rattle.std.proofs.Common.{rules}
use Rattle.reads.proofs.Laws.{located_refused, located_live}
use Rattle.reads.proofs.locate.Goals as goal

pub returns-in_err-check_request : goal.returns-in_err-check_request
returns-in_err-check_request c =
    located_refused _ _ _ _ c.in_err-check_request.field-0.0 _ (search rules) (search rules)

pub returns : goal.returns
returns c = located_live _ _ _ _ c.status_of.result _ (search rules) c.status_of.ensures c.ok_or.ensures.value
