-- so many cuts are tallied
use Rattle.std.proofs.Common.{◌≤◌, ◌≡◌}
use Rattle.cuts.specs.Cuts.{tallied}
use Rattle.cuts.proofs.Start.cut_each.Given as goal

abbrev pub invariant-loop-count : goal.invariant-loop-count
invariant-loop-count l = (l.count ≤ l.count-end)
    × (l.tally ≡ tallied l.count l.self.walk l.self.«data».now l.self.pair.left.now l.self.pair.right.now)
