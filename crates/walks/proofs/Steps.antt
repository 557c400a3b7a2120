-- Laws of a step.
-- In order: wrong numbers; beyond the end and at it; an entry tried; what a step that isn't made keeps.
-- Not here: which entry stands at a place (Laws.antt); wrong numbers themselves (Numbers.antt). Assumes nothing.
use Rattle.std.specs.Prelude.{Result, Ok, Err}
use Prim.Native.Nat.{ℕ, ◌<◌}
use mathlib.Core.Path.{◌≡◌, sym, ap, ◌∙◌}
use mathlib.Core.Bool.{true, false}
use mathlib.Core.List.{List}
use native.Mathlib.Omega.{arith}
use lib.ListN.{length, get_or}
use borrow.Author.Tests.{eq-eqb, ne_eqb, lt-ltb, le-ltb}
use Rattle.flash.specs.declared.StepError.{StepError}
use Rattle.flash.specs.declared.StepError.TheVariants.{Unfit}
use Rattle.flash.specs.Flash.{number_in}
use Rattle.flash.proofs.Laws.{told}
use Rattle.steps.specs.Steps.{Tried}
use Rattle.plans.specs.Plans.{nothing}
use Rattle.tries.specs.Tries.{attempt}
use Rattle.walks.specs.declared.Walk.{Walk}
use Rattle.walks.specs.declared.Progress.{Progress}
use Rattle.walks.specs.declared.Stepped.{Stepped}
use Rattle.walks.specs.Walks.{
  steps_of,
  number,
  made,
  ended,
  said_in,
  Outcome,
  wrong_numbers,
  advanced,
  kept,
  after,
  stepped,
  step_of,
}
use Rattle.walks.proofs.Laws.{total_of, total_steps}

-- ---- a step
pub step_wrong : (w : Walk) (l r d : List ℕ) → wrong_numbers w (length l) (length r) (length d) ≡ true
    → kept (number 6) w l r ≡ step_of w l r d
unfolding step_of
step_wrong w l r d e = sym (simp e)

step_right : (w : Walk) (l r d : List ℕ) → wrong_numbers w (length l) (length r) (length d) ≡ false
    → stepped w (steps_of w l r d) l r ≡ step_of w l r d
unfolding step_of
step_right w l r d e = sym (simp e)

pub step_beyond : (w : Walk) (l r d : List ℕ) → wrong_numbers w (length l) (length r) (length d) ≡ false
    → total_of w < w.place → kept (number 6) w l r ≡ step_of w l r d
unfolding stepped
step_beyond w l r d e h =
    let n = total_steps w l r d e in
    sym (simp (lt-ltb (length (steps_of w l r d)) w.place (omega (arith, n)))) ∙ step_right w l r d e

pub step_ended : (w : Walk) (l r d : List ℕ) → wrong_numbers w (length l) (length r) (length d) ≡ false
    → total_of w ≡ w.place → kept ended w l r ≡ step_of w l r d
unfolding stepped
step_ended w l r d e h =
    let n = total_steps w l r d e in
    sym (simp (
      le-ltb (length (steps_of w l r d)) w.place (omega (arith, n)),
      eq-eqb (length (steps_of w l r d)) w.place (omega (arith, n)),
    ))
    ∙ step_right w l r d e

pub step_on : (w : Walk) (l r d : List ℕ) (t : Tried) → wrong_numbers w (length l) (length r) (length d) ≡ false
    → w.place < total_of w → t ≡ attempt (get_or (steps_of w l r d) w.place nothing) l r
    → after w t ≡ step_of w l r d
unfolding stepped
step_on w l r d t e h f =
    let n = total_steps w l r d e in
    ap (after w) f
    ∙ sym (simp (
      le-ltb (length (steps_of w l r d)) w.place (omega (arith, n)),
      ne_eqb (length (steps_of w l r d)) w.place (λ z. omega (arith, n)),
    ))
    ∙ step_right w l r d e

pub step_made : (w next : Walk) (l r d l' r' : List ℕ) (p : Result (Unit {0}) StepError)
    → wrong_numbers w (length l) (length r) (length d) ≡ false → w.place < total_of w → p ≡ Ok tt → next ≡ advanced w
    → ◌≡◌ {A = Tried} (record { number = number_in p; left = l'; right = r' })
    (attempt (get_or (steps_of w l r d) w.place nothing) l r)
    → ◌≡◌ {A = Outcome} (record { said = made; walk = next; left = l'; right = r' }) (step_of w l r d)
unfolding after
step_made w next l r d l' r' p e h q n f =
    ap (λ (x : Walk). record { said = made; walk = x; left = l'; right = r' }) n
    ∙ step_on w l r d (record { number = 0; left = l'; right = r' }) e h
    (told (λ (x : Result (Unit {0}) StepError). record { number = number_in x; left = l'; right = r' }) q f)

pub step_unfit : (w : Walk) (l r d l' r' : List ℕ) (p : Result (Unit {0}) StepError)
    → wrong_numbers w (length l) (length r) (length d) ≡ false → w.place < total_of w → p ≡ Err Unfit
    → ◌≡◌ {A = Tried} (record { number = number_in p; left = l'; right = r' })
    (attempt (get_or (steps_of w l r d) w.place nothing) l r)
    → kept (number 6) w l' r' ≡ step_of w l r d
unfolding after
step_unfit w l r d l' r' p e h q f =
    step_on w l r d (record { number = 6; left = l'; right = r' }) e h
    (told (λ (x : Result (Unit {0}) StepError). record { number = number_in x; left = l'; right = r' }) q f)

-- the answer of a step, from the walk and the word that it is made of
pub answered : (s : Stepped) (w : Walk) (p : Progress) (l r : List ℕ) (o : Outcome)
    → s ≡ (record { walk = w; progress = p })
    → ◌≡◌ {A = Outcome} (record { said = said_in p; walk = w; left = l; right = r }) o
    → ◌≡◌ {A = Outcome} (record { said = said_in s.progress; walk = s.walk; left = l; right = r }) o
answered s w p l r o e h =
    ap (λ (x : Stepped). record { said = said_in x.progress; walk = x.walk; left = l; right = r }) e ∙ h
