-- `flash::erase` meets its contract. The loop's invariant: the bytes passed are FF, the others as they were.
-- Assumes nothing.
use mathlib.Core.Path.{◌≡◌}
use mathlib.Core.List.{◌++◌}
use lib.ListN.{drop, replicate}
use Rattle.flash.proofs.erase.Given as goal

abbrev pub invariant-loop-byte : goal.invariant-loop-byte
invariant-loop-byte l = l.page ≡ replicate l.byte-index 255 ++ drop l.byte-index l.initial.page
