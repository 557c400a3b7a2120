-- Laws of a script made to its end: pages of number 1, and the walk in hand in the end.
-- Assumes nothing.
use Rattle.std.specs.Prelude.{Option, Some, None}
use Rattle.walks.specs.declared.Walk.{Walk}
use Prim.Native.Nat.{ℕ}
use mathlib.Core.Path.{◌≡◌, refl, sym, ap, ◌∙◌}
use mathlib.Core.Bool.{false}
use mathlib.Core.List.{List}
use lib.ListN.{length}
use Rattle.requests.specs.Legal.{RightPages}
use Rattle.model.specs.Board.{Board}
use Rattle.model.proofs.Orders.{wrong_of, wrong_board}
use Rattle.boards.specs.Boards.{hand_in}
use Rattle.turns.specs.Turns.{data_at}
use Rattle.sessions.specs.declared.Session.{Session}
use Rattle.sessions.specs.Sessions.{script_calls, is_on}
use Rattle.sessions.proofs.Loop.{Ends, ends_last}
use Rattle.timelines.specs.Timelines.{walk_of, ends_with}

-- with no legal pages there never is a walk
pub never_held : (text l r : List ℕ) → (RightPages (length l) (length r) → ⊥)
    → None ≡ ends_with text l r
never_held text l r h =
    ap (λ (b : Board). walk_of b.hand)
    (sym (wrong_board l r (script_calls text l r) (wrong_of (length l) (length r) h)))

-- in the end
same_walk : (hand : Option Walk) (held : List ℕ) → hand ≡ walk_of (hand_in hand held)
same_walk None held = refl
same_walk (Some w) held = refl

pub held_last : (text : List ℕ) (s : Session) (l r l₀ r₀ : List ℕ) → is_on text s ≡ false → Ends text s l r l₀ r₀
    → s.hand ≡ ends_with text l₀ r₀
held_last text s l r l₀ r₀ off h =
    same_walk s.hand (data_at text s.began) ∙ ap (λ (b : Board). walk_of b.hand)
    (ends_last text s l r l₀ r₀ off h)
