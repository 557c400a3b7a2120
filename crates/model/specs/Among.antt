-- Steps of a walk among other calls: reads, refused beginnings and steps with data of another
-- length leave the walk in hand.
-- In order: which calls leave it; the steps with data of its length, and their answers.
-- Assumes nothing.
use Rattle.std.specs.Prelude.{ℕ, zero, suc, ◌≡◌, Bool, false, cond, List, [], ◌∷◌, eqb, length}
use Rattle.model.specs.Calls.{Call, Answer}
use Rattle.model.specs.Calls as C
use Rattle.model.specs.Board.{Board, turn}

-- "until a cut or the next beginning that isn't refused"
abbrev pub Leaves : Board → Call → Type 0
Leaves b (C.save o d) = (turn b (C.save o d)).answer ≡ C.begun → ⊥
Leaves b C.format = (turn b C.format).answer ≡ C.begun → ⊥
Leaves b (C.step d) = Unit {0}
Leaves b (C.read o n) = Unit {0}
Leaves b (C.read_into o out) = Unit {0}
Leaves b C.cut = ⊥

abbrev pub AllLeave : Board → List Call → Type 0
AllLeave b [] = Unit {0}
AllLeave b (c ∷ cs) = Leaves b c × AllLeave (turn b c).board cs

-- whether a call is a step with data of a length
abbrev pub is_step : ℕ → Call → Bool
is_step n (C.save o d) = false
is_step n C.format = false
is_step n (C.step d) = eqb (length d) n
is_step n (C.read o k) = false
is_step n (C.read_into o out) = false
is_step n C.cut = false

-- how many calls are, and what these are answered
unfoldable pub steps_in : ℕ → List Call → ℕ
steps_in n [] = 0
steps_in n (c ∷ cs) = cond (is_step n c) (suc (steps_in n cs)) (steps_in n cs)

unfoldable pub step_answers : ℕ → Board → List Call → List Answer
step_answers n b [] = []
step_answers n b (c ∷ cs) =
    let rest = step_answers n (turn b c).board cs in
    cond (is_step n c) ((turn b c).answer ∷ rest) rest

-- so many answers to steps of a walk with so many left: `made` for each step that is left, then
-- `ended`
abbrev pub made_then_ended : ℕ → ℕ → List Answer
made_then_ended remaining zero = []
made_then_ended zero (suc n) = C.ended ∷ made_then_ended zero n
made_then_ended (suc remaining) (suc n) = C.made ∷ made_then_ended remaining n
