-- `flash::block_erased` meets its contract. The loop's invariant: the block is erased exactly if the eights passed, joined,
-- have every bit set and those not yet passed are erased. Assumes nothing.
use Prim.Native.Nat.{◌≤◌}
use mathlib.Core.Bool.{◌&&◌}
use mathlib.Core.Path.{◌≡◌}
use lib.Dec.{eqb}
use lib.ListN.{drop}
use Rattle.std.specs.List.{list_all}
use Rattle.flash.specs.Flash.{is_erased}
use Rattle.flash.proofs.block_erased.Given as goal

abbrev pub invariant-loop-eight : goal.invariant-loop-eight
invariant-loop-eight l = (is_erased l.block ≡ (eqb l.all 18446744073709551615 && list_all is_erased (drop l.eight-index l.eights)))
    × (l.all ≤ 18446744073709551615)
