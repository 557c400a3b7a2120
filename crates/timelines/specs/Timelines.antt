-- A script made to its end on two pages.
-- Not here: the calls of a script (the crate sessions), what they leave (model). Assumes nothing.
use Rattle.std.specs.Prelude.{Option, Some, None}
use Rattle.std.specs.Prelude.{ℕ, List}
use Rattle.walks.specs.declared.Walk.{Walk}
use Rattle.model.specs.Board as B
use Rattle.model.specs.Board.{powered, board_after}
use Rattle.sessions.specs.Sessions.{script_calls}

-- the walk in hand of the model
abbrev pub walk_of : Option B.Hand → Option Walk
walk_of None = None
walk_of (Some h) = Some h.walk

-- the walk in hand after all calls of a script
abbrev pub ends_with : List ℕ → List ℕ → List ℕ → Option Walk
ends_with text l r = walk_of (board_after (powered l r) (script_calls text l r)).hand
