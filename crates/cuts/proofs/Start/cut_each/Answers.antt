-- `cuts::Start::cut_each` meets its contract. The loop's invariant: so many cuts are tallied. Assumes nothing.
use Rattle.std.proofs.Common.{refl, arith}
use Rattle.cuts.proofs.Laws.{no_tally, tally_next}
use Rattle.cuts.proofs.Start.cut_each.Goals as goal

pub loop-count-init : goal.loop-count-init
loop-count-init c = (
  omega arith,
  no_tally c.args.self.now.walk c.args.self.now.«data».now c.args.self.now.pair.left.now c.args.self.now.pair.right.now _ c.new-tally.ensures,
)

pub loop-count-preserved : goal.loop-count-preserved
loop-count-preserved c = (
  omega arith,
  tally_next c.loop-count.count _ c.args.self.now.walk c.args.self.now.«data».now c.args.self.now.pair.left.now
      c.args.self.now.pair.right.now c.loop-count.tally _ _ refl
      c.loop-count.invariant.1
      c.cut_after.ensures c.with-tally.ensures,
)

pub returns-2 : goal.returns-2
returns-2 c = tally_next c.loop-count.count _ c.args.self.now.walk c.args.self.now.«data».now c.args.self.now.pair.left.now
    c.args.self.now.pair.right.now c.loop-count.tally _ _
    (omega (arith, c.total-count-end.ensures))
    c.loop-count.invariant.1 c.cut_after.ensures c.with-tally.ensures
