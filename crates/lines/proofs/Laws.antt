-- Laws of what a walk begins with.
-- In order: erased-or-not where it counts; the start that was found; what an answer says.
-- Assumes nothing.
use Rattle.std.specs.Prelude.{Option}
use Prim.Native.Nat.{ℕ}
use mathlib.Core.Path.{◌≡◌, sym, ap, ◌∙◌}
use mathlib.Core.Bool.{Bool, true, ◌&&◌}
use mathlib.Core.List.{List}
use Rattle.pages.specs.declared.Side.{Side}
use Rattle.pages.specs.declared.Status.{Status}
use Rattle.pages.specs.Pages.{status_of, live_of, standing}
use Rattle.pages.proofs.Laws.{line_same, standing_same}
use Rattle.pages.proofs.Table.{status_live}
use Rattle.plans.specs.declared.Request.{Request}
use Rattle.plans.specs.Plans.{counts, others_erased}
use Rattle.lines.specs.declared.Start.{Start}
use Rattle.lines.specs.Starts.{start_of, Begins, begins_in}

pub erased_counts : (a b t : Bool) → a ≡ true → t ≡ b → t ≡ (a && b)
erased_counts a b t e h = h ∙ sym (simp e)

-- the live side that was found is that of the state
pub looked : (request : Request) (l r : List ℕ) (s : Status) (t : Bool) → standing s ≡ standing (status_of l r)
    → t ≡ (counts request s.state && others_erased s.live l r)
    → ◌≡◌ {A = Start} (record { state = s.state; erased = t }) (start_of request l r)
looked request l r s t told h =
    let e : s ≡ status_of l r = standing_same s (status_of l r) told in
    let p : s.state ≡ (status_of l r).state = ap (λ (x : Status). x.state) e in
    let q : t ≡ (counts request (status_of l r).state && others_erased (live_of (status_of l r).state) l r) =
    h
    ∙ ap (λ (x : Status). counts request x.state && others_erased x.live l r) e
    ∙ ap (λ (x : Option Side). counts request (status_of l r).state && others_erased x l r) (status_live l r) in
    λ i. record { state = p i; erased = q i }

-- a start is known by what it says
pub start_same : (a b : Start) → begins_in a ≡ begins_in b → a ≡ b
start_same a b e =
    let states : a.state ≡ b.state = line_same a.state b.state (ap (λ (x : Begins). x.line) e) in
    λ i. record { state = states i; erased = (e i).erased }
