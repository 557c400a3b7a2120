-- Laws of steps one after another.
-- In order: a step moves only the place, and one that isn't made moves nothing; stepping on, step by step.
-- Assumes nothing.
use Prim.Native.Nat.{ℕ, suc, ◌+◌, ◌-◌, ◌<◌, ◌≤◌}
use mathlib.Core.Path.{◌≡◌, refl, sym, ap, subst, ◌∙◌}
use mathlib.Core.Bool.{Bool, true, false, cond}
use mathlib.Core.List.{List}
use native.Mathlib.Omega.{arith}
use lib.Dec.{eqb, ltb}
use lib.ListN.{length, get_or}
use borrow.Author.Tests.{eqb-false}
use Rattle.steps.specs.Steps.{Tried}
use Rattle.plans.specs.declared.Entry.{Entry}
use Rattle.plans.specs.Plans.{nothing}
use Rattle.tries.specs.Tries.{attempt}
use Rattle.tries.proofs.Laws.{unmade_kept}
use Rattle.walks.specs.declared.Walk.{Walk}
use Rattle.walks.specs.declared.Progress.{Progress}
use Rattle.walks.specs.declared.Progress.TheVariants.{Made, Ended, Unfit}
use Rattle.walks.specs.declared.Stepped as S
use Rattle.walks.specs.declared.Ran as R
use Rattle.walks.specs.Walks.{number, made, said_in, Outcome, steps_of, wrong_numbers, at_place, advanced, kept, after, stepped, step_of, Course, if_made, one_more, run_of}

-- ---- a step moves only the place
abbrev Moved : Walk → Outcome → Type 0
Moved w o = o.walk ≡ at_place w o.walk.place

either : (w : Walk) (t : Bool) (a b : Outcome) → Moved w a → Moved w b → Moved w (cond t a b)
either w true a b p q = p
either w false a b p q = q

after_moved : (w : Walk) (t : Tried) → Moved w (after w t)
unfolding after
after_moved w t = either w (eqb t.number 0) _ _ refl refl

step_moved : (w : Walk) (l r d : List ℕ) → Moved w (step_of w l r d)
unfolding step_of stepped
step_moved w l r d =
    let list = steps_of w l r d in
    either w (wrong_numbers w (length l) (length r) (length d)) _ _ refl
    (either w (ltb (length list) w.place) _ _ refl
    (either w (eqb (length list) w.place) _ _ refl
    (after_moved w (attempt (get_or list w.place nothing) l r))))

-- ---- "walk and pages kept": a step that isn't made changes neither
abbrev Keeps : Walk → List ℕ → List ℕ → Outcome → Type 0
Keeps w l r o = (o.said ≡ made → ⊥) → o ≡ kept o.said w l r

either_keeps : (w : Walk) (l r : List ℕ) (t : Bool) (a b : Outcome) → Keeps w l r a → Keeps w l r b
    → Keeps w l r (cond t a b)
either_keeps w l r true a b p q = p
either_keeps w l r false a b p q = q

after_keeps : (w : Walk) (x : Entry) (l r : List ℕ) → Keeps w l r (after w (attempt x l r))
unfolding after
after_keeps w x l r = go (eqb (attempt x l r).number 0) refl
  where
    t : Tried
    t = attempt x l r

    go : (s : Bool) → eqb (attempt x l r).number 0 ≡ s
        → Keeps w l r
        (cond s (record { said = made; walk = advanced w; left = t.left; right = t.right })
        (kept (number 6) w t.left t.right))
    go true e h = absurd (h refl)
    go false e h =
        ap (λ (u : Tried). kept (number 6) w u.left u.right)
        (unmade_kept x l r (eqb-false (attempt x l r).number 0 e))

pub unmade_keeps : (w : Walk) (l r d : List ℕ) → ((step_of w l r d).said ≡ made → ⊥)
    → step_of w l r d ≡ kept (step_of w l r d).said w l r
unfolding step_of stepped
unmade_keeps w l r d =
    let list = steps_of w l r d in
    either_keeps w l r (wrong_numbers w (length l) (length r) (length d)) _ _ (λ h. refl)
    (either_keeps w l r (ltb (length list) w.place) _ _ (λ h. refl)
    (either_keeps w l r (eqb (length list) w.place) _ _ (λ h. refl)
    (after_keeps w (get_or list w.place nothing) l r)))

-- ---- stepping on
-- the outcome of a step, and of several, as the code has them
abbrev pub outcome : S.Stepped → List ℕ → List ℕ → Outcome
outcome s l r = record { said = said_in s.progress; walk = s.walk; left = l; right = r }

abbrev pub course : R.Ran → List ℕ → List ℕ → Course
course x l r = record { said = said_in x.progress; steps = x.steps; walk = x.walk; left = l; right = r }

-- so many steps more than a course has
abbrev pub more : ℕ → Course → Course
more n c = record { said = c.said; steps = n + c.steps; walk = c.walk; left = c.left; right = c.right }

on_step : (most : ℕ) (w : Walk) (l r d : List ℕ) (o : Outcome) → o ≡ step_of w l r d
    → run_of (suc most) w l r d
    ≡ if_made o.said (one_more (run_of most o.walk o.left o.right d))
    (record { said = o.said; steps = 0; walk = o.walk; left = o.left; right = o.right })
unfolding run_of
on_step most w l r d o e =
    ap (λ (x : Outcome).
    if_made x.said (one_more (run_of most x.walk x.left x.right d))
    (record { said = x.said; steps = 0; walk = x.walk; left = x.left; right = x.right }))
    (sym e)

-- with n steps made of at most `most`, what is left to do gives what the whole gives
abbrev pub left_to_do : ℕ → ℕ → Walk → List ℕ → List ℕ → List ℕ → Course
left_to_do most n w l r d = more n (run_of (most - n) w l r d)

next : (most n : ℕ) → n < most → most - n ≡ suc (most - (n + 1))
next most n h = omega arith

-- the step after n of them
one_step : (most n : ℕ) (w : Walk) (l r d l' r' : List ℕ) (s : S.Stepped) (p : Progress) → n < most
    → outcome s l' r' ≡ step_of w l r d → s.progress ≡ p
    → left_to_do most n w l r d
    ≡ more n
    (if_made (said_in p) (one_more (run_of (most - (n + 1)) s.walk l' r' d))
    (record { said = said_in p; steps = 0; walk = s.walk; left = l'; right = r' }))
one_step most n w l r d l' r' s p h e q =
    ap (λ (k : ℕ). more n (run_of k w l r d)) (next most n h)
    ∙ ap (more n) (on_step (most - (n + 1)) w l r d (outcome s l' r') e)
    ∙ ap
    (λ (x : Progress).
    more n
    (if_made (said_in x) (one_more (run_of (most - (n + 1)) s.walk l' r' d))
    (record { said = said_in x; steps = 0; walk = s.walk; left = l'; right = r' })))
    q

pub goes_on : (most n : ℕ) (w u : Walk) (place : ℕ) (l r d l' r' : List ℕ) (s : S.Stepped) → n < most
    → u ≡ at_place w place → outcome s l' r' ≡ step_of u l r d → s.progress ≡ Made
    → left_to_do most (n + 1) (at_place w s.walk.place) l' r' d ≡ left_to_do most n (at_place w place) l r d
goes_on most n w u place l r d l' r' s h v f p =
    let e : outcome s l' r' ≡ step_of (at_place w place) l r d = f ∙ ap (λ (x : Walk). step_of x l r d) v in
    let y : s.walk ≡ at_place w s.walk.place =
    subst (Moved (at_place w place)) (sym e) (step_moved (at_place w place) l r d) in
    let c = run_of (most - (n + 1)) s.walk l' r' d in
    let m : n + 1 + c.steps ≡ n + (1 + c.steps) = omega arith in
    ap (λ (u : Walk). left_to_do most (n + 1) u l' r' d) (sym y)
    ∙ (λ i. record { said = c.said; steps = m i; walk = c.walk; left = c.left; right = c.right })
    ∙ sym (one_step most n (at_place w place) l r d l' r' s Made h e p)

-- a step that isn't made is the last
unmade : (p : Progress) (a b : Course) → (p ≡ Made → ⊥) → if_made (said_in p) a b ≡ b
unmade Made a b h = absurd (h refl)
unmade Ended a b h = refl
unmade Unfit a b h = refl

pub stops : (most n : ℕ) (w u : Walk) (l r d l' r' : List ℕ) (s : S.Stepped) (x : R.Ran) → n < most → u ≡ w
    → outcome s l' r' ≡ step_of u l r d → (s.progress ≡ Made → ⊥)
    → x ≡ (record { walk = s.walk; steps = n; progress = s.progress }) → course x l' r' ≡ left_to_do most n w l r d
stops most n w u l r d l' r' s x h v e q y =
    let z : n ≡ n + 0 = omega arith in
    ap (λ (u : R.Ran). course u l' r') y
    ∙ (λ i. record { said = said_in s.progress; steps = z i; walk = s.walk; left = l'; right = r' })
    ∙ ap (more n) (sym (unmade s.progress (one_more (run_of (most - (n + 1)) s.walk l' r' d)) _ q))
    ∙ sym (one_step most n u l r d l' r' s s.progress h e refl)
    ∙ ap (λ (z : Walk). left_to_do most n z l r d) v

-- and where as many were made as were asked for, none is left
pub spent : (most n : ℕ) (w u : Walk) (l r d : List ℕ) (x : R.Ran) → most ≤ n → u ≡ w
    → x ≡ (record { walk = u; steps = n; progress = Made }) → course x l r ≡ left_to_do most n w l r d
unfolding run_of
spent most n w u l r d x h v y =
    let z : n ≡ n + 0 = omega arith in
    let k : 0 ≡ most - n = omega arith in
    ap (λ (t : R.Ran). course t l r) y
    ∙ (λ i. record { said = made; steps = z i; walk = v i; left = l; right = r })
    ∙ ap (λ (m : ℕ). more n (run_of m w l r d)) k
