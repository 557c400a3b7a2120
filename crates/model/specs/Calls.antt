-- Calls and answers (document 01, "The book of demand 3").
-- Assumes nothing.
use Rattle.std.specs.Prelude.{ℕ, List, [], ◌∷◌}
use Rattle.flash.specs.Flash.{Bytes}
use Rattle.pages.specs.declared.PageOffset.{PageOffset}

-- the five calls, and a cut of the power; a read comes "in two ways"
pub data Call : Type 0 where
  save : PageOffset → List ℕ → Call
  format : Call
  step : List ℕ → Call
  read : PageOffset → ℕ → Call
  read_into : PageOffset → List ℕ → Call
  cut : Call

-- "The answers compared are the number, or that a walk was begun, a step made or the walk ended, or
-- the bytes read." The copying read answers its number (0: none) and what its output then holds. A
-- cut, and a step with no walk, answer nothing.
pub data Answer : Type 0 where
  number : ℕ → Answer
  begun : Answer
  made : Answer
  ended : Answer
  bytes : List ℕ → Answer
  output : ℕ → List ℕ → Answer
  nothing : Answer

-- the data of a save is bytes
abbrev pub ByteCall : Call → Type 0
ByteCall (save o d) = Bytes d
ByteCall format = Unit {0}
ByteCall (step d) = Unit {0}
ByteCall (read o n) = Unit {0}
ByteCall (read_into o out) = Unit {0}
ByteCall cut = Unit {0}

abbrev pub ByteCalls : List Call → Type 0
ByteCalls [] = Unit {0}
ByteCalls (c ∷ cs) = ByteCall c × ByteCalls cs
