-- `flash::bytes_erased` meets its contract. The loop's invariant: the bytes passed are FF, so that the page is erased exactly
-- if those not yet passed are. Assumes nothing.
use mathlib.Core.Path.{◌≡◌}
use lib.ListN.{drop}
use Rattle.flash.specs.Flash.{is_erased}
use Rattle.flash.proofs.bytes_erased.Given as goal

abbrev pub invariant-loop-byte : goal.invariant-loop-byte
invariant-loop-byte l = is_erased l.page ≡ is_erased (drop l.byte-index l.page)
