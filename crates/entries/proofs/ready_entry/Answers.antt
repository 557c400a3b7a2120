-- `entries::ready_entry` meets its contract: what follows the first step is the list from the next line on.
-- Assumes nothing.
use mathlib.Core.Path.{◌≡◌, ◌∙◌}
use Rattle.std.proofs.Common.{rules}
use native.Mathlib.Omega.{arith}
use Rattle.pages.specs.Pages.{line_of}
use Rattle.plans.proofs.Laws.{ready_second, ready_third}
use Rattle.entries.proofs.ready_entry.Goals as goal
use Rattle.entries.proofs.ready_entry.Goals.{Else-eq}

-- a state that isn't S0 has another line number than 0
not_zero : (c : Else-eq) → line_of c.args.start ≡ 0 → ⊥
not_zero c e = search rules

pub returns-in-1 : goal.returns-in-1
returns-in-1 c =
    c.first_entry.ensures
    ∙ ready_second c.args.start c.next_state.result c.args.place (not_zero (goal.at.returns-in-1 c).Else-eq)
    c.next_state.ensures c.in-1.is c.requires

pub returns-in_default-2 : goal.returns-in_default-2
returns-in_default-2 c =
    c.first_entry-in_default-2.ensures
    ∙ ready_third c.args.start c.next_state-in_default-2.result c.next_state-in_default-2-2.result c.args.place
    (not_zero (goal.at.returns-in_default-2 c).Else-eq) c.next_state-in_default-2.ensures
    c.next_state-in_default-2-2.ensures (omega arith) c.requires
