-- A whole walk: stepped from its beginning until a step isn't made.
-- Assumes nothing.
use Rattle.std.specs.Prelude.{ℕ, List}
use Rattle.walks.specs.Walks as W
use Rattle.walks.specs.Walks.{Beginning, Said, Course, run_of}

-- the number, 0 where the walk has ended; the steps made; and both pages
pub record Walked : Type 0 where
  pub number : ℕ
  pub steps : ℕ
  pub left : List ℕ
  pub right : List ℕ

-- by what the last step says: 0 at the end; 6 where it doesn't fit, and where the end isn't reached
abbrev pub number_said : Said → ℕ
number_said W.made = 6
number_said W.ended = 0
number_said (W.number k) = k

abbrev pub walked_in : Course → Walked
walked_in c = record { number = number_said c.said; steps = c.steps; left = c.left; right = c.right }

-- a walk that is begun, stepped to its end, and at most 2053 times; a refused one changes nothing
abbrev pub walked : Beginning → List ℕ → List ℕ → List ℕ → Walked
walked (W.refused k) l r d = record { number = k; steps = 0; left = l; right = r }
walked (W.begun w) l r d = walked_in (run_of 2053 w l r d)
