-- `digits::decode` meets its contract. Assumes nothing.
use Rattle.std.proofs.Common.{◌≡◌, ◌/◌, length, refl, arith, ◌∙◌}
use Rattle.digits.proofs.Laws.{put_first, put_on, put_all, put_none}
use Rattle.digits.proofs.decode.Goals as goal

pub returns-then-into-count-clause-fact : goal.returns-then-into-count-clause-fact
returns-then-into-count-clause-fact c = put_none c.args.digits.now c.args.into.now c.if-into-count.true

pub loop-i-init : goal.loop-i-init
loop-i-init c = record { pairs = (cc); so_far = put_first c.args.digits.now _ c.args.into.now _ (cc) (cc) }

pub loop-i-preserved : goal.loop-i-preserved
loop-i-preserved c =
    let h = c.in-Some.ensures.steps in
    let two : length c.in-Some.pair.now ≡ 2 = h.0.1.1 ∙ c.loop-i.invariant.pairs in
    record {
      pairs = h.0.0 ∙ c.loop-i.invariant.pairs;
      so_far =
          rw (h.2, h.1)
          (put_on c.args.digits.now c.args.into.now c.loop-i.into _ _ c.in-Some.pair.now _ c.joined.result
          c.if-into-count.false h.0.1.0 two c.joined.ensures c.loop-i.invariant.so_far);
    }

pub returns-clause-fact : goal.returns-clause-fact
returns-clause-fact c =
    let left = c.in-None.ensures.steps.0.1.0 in
    put_all c.args.digits.now c.args.into.now c.loop-i.into _ _ (length c.args.digits.now / 2) refl
    c.if-into-count.false (omega arith) c.loop-i.invariant.so_far
