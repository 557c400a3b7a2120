-- `walks::Walk::save` meets its contract: the request's number comes first. Assumes nothing.
use Rattle.std.proofs.Common.{rules, ◌≡◌, ap, ◌∙◌, Err}
use native.Mathlib.Omega.{arith}
use lib.ListN.{length}
use Rattle.requests.specs.Legal.{Legal}
use Rattle.requests.proofs.Laws.{legal}
use Rattle.walks.specs.Walks.{begin_save, beginning_in}
use Rattle.walks.proofs.Numbers.{begin_refused, begin_on}
use Rattle.walks.proofs.Walk.save.Goals as goal
use Rattle.walks.proofs.Walk.save.Goals.{In_ok-check_numbers}

legal_here : (c : In_ok-check_numbers)
    → Legal (length c.args.pair.left.now) (length c.args.pair.right.now) c.args.offset (length c.args.«data».now)
legal_here c = (legal _ _ _ _ 0 (search rules)).0

pub overflow_cast-size : goal.overflow_cast-size
overflow_cast-size c = omega (arith, legal_here c)

pub first_walk-requires : goal.first_walk-requires
first_walk-requires c = omega (arith, legal_here c)

pub returns-in_err-check_numbers : goal.returns-in_err-check_numbers
unfolding begin_save
returns-in_err-check_numbers c =
    let e : c.from_residual.result ≡ Err c.in_err-check_numbers.field-0.0 = search rules in
    ap beginning_in e ∙ begin_refused _ _ c.in_err-check_numbers.field-0.0 (search rules)

pub returns : goal.returns
unfolding begin_save
returns c = begin_on _ _ _ (search rules) c.first_walk.ensures
