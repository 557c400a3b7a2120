-- `walks::Walk::format` meets its contract: the pages' number comes first. Assumes nothing.
use Rattle.std.proofs.Common.{rules, length, ◌≡◌, ap, ◌∙◌, Err}
use Rattle.requests.specs.Numbers.{pages_number}
use Rattle.requests.proofs.Laws.{legal_pages}
use Rattle.walks.specs.Walks.{begin_format, beginning_in}
use Rattle.walks.proofs.Numbers.{begin_refused, begin_on}
use Rattle.walks.proofs.Walk.format.Goals as goal

pub first_walk-requires : goal.first_walk-requires
unfolding pages_number
first_walk-requires c = (legal_pages (length c.args.pair.left.now) (length c.args.pair.right.now) (search rules)).most

pub returns-in_err-check_lengths : goal.returns-in_err-check_lengths
unfolding begin_format pages_number
returns-in_err-check_lengths c =
    let e : c.from_residual.result ≡ Err c.in_err-check_lengths.field-0.0 = search rules in
    ap beginning_in e ∙ begin_refused _ _ c.in_err-check_lengths.field-0.0 (search rules)

pub returns : goal.returns
unfolding begin_format pages_number
returns c = begin_on _ _ _ (search rules) c.first_walk.ensures
