-- Laws of what the benchmark's calls answer.
-- In order: beginnings; a step. Assumes nothing.
use Rattle.std.specs.Prelude.{Option, Some, None, Result, Ok, Err}
use Prim.Native.Nat.{ℕ}
use mathlib.Core.Path.{◌≡◌, refl, sym, ap, ◌∙◌}
use mathlib.Core.Bool.{Bool, false}
use mathlib.Core.List.{List}
use Rattle.pages.specs.declared.State.{State}
use Rattle.pages.specs.declared.PageOffset.{PageOffset}
use Rattle.requests.specs.declared.Refusal.{Refusal}
use Rattle.requests.specs.Numbers.{number_of}
use Rattle.walks.specs.declared.Walk.{Walk}
use Rattle.walks.specs.declared.Progress.{Progress}
use Rattle.walks.specs.declared.Progress.TheVariants.{Made, Ended, Unfit}
use Rattle.walks.specs.declared.Stepped as S
use Rattle.walks.specs.Walks as W
use Rattle.walks.specs.Walks.{Beginning, beginning_in, said_in, step_of}
use Rattle.bench.specs.declared.Start.{Start}
use Rattle.bench.specs.Calls.{kept_in, start_in, code_of, said_code, Stepped, walk_of, step_as, step_in}

-- ---- beginnings
-- the answer of a beginning, once a match has told it
pub begun_as : (b : Result Walk Refusal) (w : Walk) (s : Start) (o : Beginning) → beginning_in b ≡ o → b ≡ Ok w
    → s ≡ kept_in w → s ≡ start_in o
begun_as b w s o e h f = f ∙ ap (λ (x : Result Walk Refusal). start_in (beginning_in x)) (sym h) ∙ ap start_in e

pub refused_as : (b : Result Walk Refusal) (why : Refusal) (k : ℕ) (o : Beginning) → beginning_in b ≡ o
    → b ≡ Err why
    → k ≡ number_of why → ◌≡◌ {A = Start} (record { number = k; line = 0; erased = false }) (start_in o)
refused_as b why k o e h f =
    ap (λ (n : ℕ). start_in (W.refused n)) f
    ∙ ap (λ (x : Result Walk Refusal). start_in (beginning_in x)) (sym h)
    ∙ ap start_in e

-- ---- a step
-- the code of a step's answer is that of what it says
code_said : (p : Progress) → code_of p ≡ said_code (said_in p)
code_said Made = refl
code_said Ended = refl
code_said Unfit = refl

-- a step of the walk that keeps the numbers
pub step_as_lem : (found : Option State) (state : State) (erased : Bool) (page : ℕ) (offset : PageOffset) (n place : ℕ)
    (l r d l' r' : List ℕ) (code : ℕ) (s : S.Stepped) → found ≡ Some state → code ≡ code_of s.progress
    → ◌≡◌ {A = W.Outcome} (record { said = said_in s.progress; walk = s.walk; left = l'; right = r' })
    (step_of (walk_of state erased page offset n place) l r d)
    → ◌≡◌ {A = Stepped} (record { code = code; place = s.walk.place; left = l'; right = r' })
    (step_in found erased page offset n place l r d)
step_as_lem found state erased page offset n place l r d l' r' code s q h e =
    (λ i. record { code = (h ∙ code_said s.progress) i; place = s.walk.place; left = l'; right = r' })
    ∙ ap step_as e
    ∙ ap (λ (x : Option State). step_in x erased page offset n place l r d) (sym q)

pub step_none : (found : Option State) (erased : Bool) (page : ℕ) (offset : PageOffset) (n place : ℕ) (l r d : List ℕ)
    → found ≡ None
    → ◌≡◌ {A = Stepped} (record { code = 6; place = place; left = l; right = r })
    (step_in found erased page offset n place l r d)
step_none found erased page offset n place l r d q =
    ap (λ (x : Option State). step_in x erased page offset n place l r d) (sym q)
