-- `digits::parse_number` meets its contract. Assumes nothing.
use Rattle.std.proofs.Common.{◌≡◌, get_or, rules, tests, arith, sym, ◌∙◌, Some}
use Rattle.digits.proofs.Laws.{number_on, grown, grown_is, grown_within, decimal_of, decimal_is}
use Rattle.digits.proofs.parse_number.Goals as goal

pub loop-byte-preserved : goal.loop-byte-preserved
loop-byte-preserved c =
    let e : c.filter.result ≡ decimal_of (get_or c.args.word.now c.loop-byte.byte-index 0) =
    search (rules, tests, decimal_is) in
    let d : c.filter.result ≡ Some c.in_ok-next.next = grind arith in
    let f : c.and_then-number.result ≡ grown c.loop-byte.number c.in_ok-next.next = search (rules, grown_is) in
    record {
      within = rw f (grown_within c.loop-byte.number c.in_ok-next.next);
      same =
          rw f
          (number_on c.args.word.now c.loop-byte.byte-index c.in_ok-next.next c.loop-byte.number _ c.loop-byte-test.true
          (sym e ∙ d) c.loop-byte.invariant.same);
    }
