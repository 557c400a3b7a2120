-- What the benchmark's calls answer, as numbers: each is read off what the library's own definitions
-- give.
-- In order: a beginning; a step. Assumes nothing.
use Rattle.std.specs.Prelude.{Option, Some, None}
use Rattle.std.specs.Prelude.{ℕ, Bool, false, List}
use Rattle.pages.specs.declared.State.{State}
use Rattle.pages.specs.declared.PageOffset.{PageOffset}
use Rattle.pages.specs.Pages.{line_of, state_from}
use Rattle.plans.specs.declared.Request.TheVariants.{Save}
use Rattle.walks.specs.declared.Walk.{Walk}
use Rattle.walks.specs.declared.Progress as P
use Rattle.walks.specs.declared.Progress.{Progress}
use Rattle.walks.specs.Walks as W
use Rattle.walks.specs.Walks.{Beginning, Said, step_of}
use Rattle.bench.specs.declared.Start.{Start}

-- ---- a beginning
-- what a walk keeps that its caller didn't give
abbrev pub kept_in : Walk → Start
kept_in w = record { number = 0; line = line_of w.start; erased = w.erased }

abbrev pub start_in : Beginning → Start
start_in (W.refused k) = record { number = k; line = 0; erased = false }
start_in (W.begun w) = kept_in w

-- ---- a step
-- 0: made, 1: ended, 6: the step doesn't fit
abbrev pub code_of : Progress → ℕ
code_of P.TheVariants.Made = 0
code_of P.TheVariants.Ended = 1
code_of P.TheVariants.Unfit = 6

abbrev pub said_code : Said → ℕ
said_code W.made = 0
said_code W.ended = 1
said_code (W.number k) = k

-- a step's answer, the walk's place and both pages
pub record Stepped : Type 0 where
  pub code : ℕ
  pub place : ℕ
  pub left : List ℕ
  pub right : List ℕ

-- the save that keeps this state and erased-or-not, P, offset, length and place
abbrev pub walk_of : State → Bool → ℕ → PageOffset → ℕ → ℕ → Walk
walk_of state erased page offset n place =
    record {
      request = Save;
      start = state;
      erased = erased;
      page = page;
      offset = offset;
      len = n;
      place = place;
    }

abbrev pub step_as : W.Outcome → Stepped
step_as o = record { code = said_code o.said; place = o.walk.place; left = o.left; right = o.right }

abbrev pub step_in : Option State → Bool → ℕ → PageOffset → ℕ → ℕ → List ℕ → List ℕ → List ℕ → Stepped
step_in None erased page offset n place l r d = record { code = 6; place = place; left = l; right = r }
step_in (Some state) erased page offset n place l r d =
    step_as (step_of (walk_of state erased page offset n place) l r d)

abbrev pub step_from : ℕ → Bool → ℕ → PageOffset → ℕ → ℕ → List ℕ → List ℕ → List ℕ → Stepped
step_from line erased page offset n place l r d = step_in (state_from line) erased page offset n place l r d
