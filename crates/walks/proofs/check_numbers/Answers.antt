-- `walks::check_numbers` meets its contract: the lengths that a page may have, as the walk's type has them, are document
-- 01's. Assumes nothing.
use Rattle.requests.specs.Numbers.{request_number}
use Rattle.walks.proofs.check_numbers.Goals as goal

pub returns : goal.returns
unfolding request_number
returns c = c.check_within.ensures
