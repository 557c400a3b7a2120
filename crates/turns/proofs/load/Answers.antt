-- `turns::load` meets its contract. Assumes nothing.
use Rattle.turns.proofs.Laws.{load_short, load_long}
use Rattle.turns.proofs.load.Goals as goal

pub returns-then-count-room-clause-fact : goal.returns-then-count-room-clause-fact
returns-then-count-room-clause-fact c =
    load_short c.digits_at-digits.result.now _ c.args.into.now _ c.decode-size.result c.digits_at-digits.ensures
    c.if-count-room.true c.decode-size.ensures.fact

pub returns-else-count-room-clause-fact : goal.returns-else-count-room-clause-fact
returns-else-count-room-clause-fact c =
    load_long c.digits_at-digits.result.now _ c.args.into.now _ c.decode-size.result _ c.digits_at-digits.ensures
    c.if-count-room.false c.saturating_sub.ensures c.decode-size.ensures.fact
