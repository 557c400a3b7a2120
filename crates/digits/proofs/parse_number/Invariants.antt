-- `digits::parse_number` meets its contract.
-- The loop's invariant: what is read so far and what is left make the number of all.
-- Assumes nothing.
use Rattle.std.proofs.Common.{◌≡◌, ◌<◌, drop}
use Rattle.std.specs.Prelude.{IfSome}
use Rattle.digits.specs.Digits.{number_of}
use Rattle.digits.proofs.Laws.{number_on_from}
use Rattle.digits.proofs.parse_number.Given as goal

abbrev pub invariant-loop-byte : goal.invariant-loop-byte
invariant-loop-byte l =
    record {
      within : IfSome l.number (λ v. v < 4294967296);
      same : number_on_from l.number (drop l.byte-index l.word) ≡ number_of l.word;
    }
