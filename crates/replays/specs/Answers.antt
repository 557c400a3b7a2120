-- Answers as bytes (docs/FORMATS.md, "A script of calls as bytes").
-- Assumes nothing.
use Rattle.std.specs.Prelude.{ℕ, List, [], ◌∷◌, ◌++◌}
use Rattle.model.specs.Calls.{Answer}
use Rattle.model.specs.Calls as C

abbrev pub answer_bytes : Answer → List ℕ
answer_bytes (C.number n) = n ∷ []
answer_bytes C.begun = 0x10 ∷ []
answer_bytes C.made = 0x11 ∷ []
answer_bytes C.ended = 0x12 ∷ []
answer_bytes (C.bytes part) = 0x20 ∷ part
answer_bytes (C.output n out) = 0x21 ∷ n ∷ out
answer_bytes C.nothing = 0x00 ∷ []

-- "Answers stand in the output one after another"
unfoldable pub encoded : List Answer → List ℕ
encoded [] = []
encoded (x ∷ xs) = answer_bytes x ++ encoded xs
