-- Laws of a whole walk, as a match has told how it was begun. Assumes nothing.
use Rattle.std.specs.Prelude.{Result, Ok, Err}
use Prim.Native.Nat.{ℕ}
use mathlib.Core.Path.{◌≡◌, sym, ap, ◌∙◌}
use mathlib.Core.List.{List}
use Rattle.requests.specs.declared.Refusal.{Refusal}
use Rattle.requests.specs.Numbers.{number_of}
use Rattle.walks.specs.declared.Walk.{Walk}
use Rattle.walks.specs.declared.Ran as R
use Rattle.walks.specs.Walks.{beginning_in, said_in, run_of}
use Rattle.walks.proofs.Runs.{course}
use Rattle.bench_walks.specs.Whole.{number_said, Walked, walked_in, walked}

pub walked_begun : (b : Result Walk Refusal) (w : Walk) (l r d l' r' : List ℕ) (x : R.Ran) (k : ℕ) → b ≡ Ok w
    → course x l' r' ≡ run_of 2053 w l r d → k ≡ number_said (said_in x.progress)
    → ◌≡◌ {A = Walked} (record { number = k; steps = x.steps; left = l'; right = r' }) (walked (beginning_in b) l r d)
walked_begun b w l r d l' r' x k e h f =
    (λ i. record { number = f i; steps = x.steps; left = l'; right = r' })
    ∙ ap walked_in h
    ∙ ap (λ (y : Result Walk Refusal). walked (beginning_in y) l r d) (sym e)

pub walked_refused : (b : Result Walk Refusal) (why : Refusal) (l r d : List ℕ) (k : ℕ) → b ≡ Err why
    → k ≡ number_of why
    → ◌≡◌ {A = Walked} (record { number = k; steps = 0; left = l; right = r }) (walked (beginning_in b) l r d)
walked_refused b why l r d k e h =
    (λ i. record { number = h i; steps = 0; left = l; right = r })
    ∙ ap (λ (y : Result Walk Refusal). walked (beginning_in y) l r d) (sym e)
