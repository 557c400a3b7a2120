-- the bytes so far, as they are printed, stand first, and each takes four bytes at most
use Rattle.std.proofs.Common.{◌≡◌, ◌≤◌, ◌*◌, take}
use Rattle.std.specs.List.{flat_map}
use Rattle.prints.specs.Prints.{escaped}
use Rattle.prints.proofs.escape.Given as goal

abbrev pub invariant-loop-b : goal.invariant-loop-b
invariant-loop-b l = record {
  fits : l.len ≤ 4 * l.b-index;
  text : take l.len l.room ≡ flat_map escaped (take l.b-index l.bytes);
}
