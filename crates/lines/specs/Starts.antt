-- What a walk begins with (document 01: "The walk keeps .. the line and erased-or-not it began
-- with").
-- Not here: when erased-or-not counts, and of which pages (the crate plans). Laws: proofs/.
-- Assumes nothing.
use Rattle.std.specs.Prelude.{Bool, ◌&&◌, List, ℕ}
use Rattle.pages.specs.Pages.{line_of, live_of, status_of}
use Rattle.plans.specs.declared.Request.{Request}
use Rattle.plans.specs.Plans.{counts, others_erased}
use Rattle.lines.specs.declared.Start.{Start}

-- the line of two pages, and erased-or-not where it counts for the request; else not erased
abbrev pub start_of : Request → List ℕ → List ℕ → Start
start_of request l r =
    let state = (status_of l r).state in
    record { state = state; erased = counts request state && others_erased (live_of state) l r }

-- what an answer says: the line number, and erased-or-not
pub record Begins : Type 0 where
  pub line : ℕ
  pub erased : Bool

abbrev pub begins_in : Start → Begins
begins_in s = record { line = line_of s.state; erased = s.erased }
