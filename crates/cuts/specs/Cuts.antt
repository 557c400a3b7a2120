-- The last save or format of a script that is begun, cut after each number of its steps (the report of
-- `--cuts` in docs/FORMATS.md).
-- In order: the last walk; a cut; the tally of all cuts.
-- Not here: what a read shows and its verdict (the crate verdicts). Laws: proofs/. Assumes nothing.
use Rattle.std.specs.Prelude.{Option, is_some}
use Rattle.std.specs.Prelude.{ℕ, zero, suc, ◌+◌, Bool, true, false, cond, ◌&&◌, List, [], ◌∷◌, eqb, Some, None}
use Rattle.plans.specs.Counts.{step_count}
use Rattle.walks.specs.declared.Walk.{Walk}
use Rattle.walks.specs.Walks.{run_of}
use Rattle.model.specs.Calls.{Call}
use Rattle.model.specs.Board as B
use Rattle.model.specs.Board.{Board, Turn, powered, turn}
use Rattle.model.specs.Decided.{is_begun}
use Rattle.boards.specs.declared.Answer.{Answer}
use Rattle.boards.specs.declared.Answer as A
use Rattle.boards.specs.Boards.{board_in}
use Rattle.turns.specs.Turns.{data_at}
use Rattle.sessions.specs.declared.Answered.{Answered}
use Rattle.sessions.specs.Sessions.{script_calls}
use Rattle.verdicts.specs.declared.Tally.{Tally}
use Rattle.verdicts.specs.Verdicts.{shown, Shows, verdict_of, no_cuts, counted}
use Rattle.cuts.specs.declared.Last.{Last}

-- ---- the last walk
-- whether a walk is in hand
abbrev pub is_held : Option B.Hand → Bool
is_held None = false
is_held (Some h) = true

-- the board after a call that begins a walk
abbrev pub begun_by : Turn → Option Board
begun_by t = cond (is_begun t.answer && is_held t.board.hand) (Some t.board) None

abbrev pub or_else : Option Board → Option Board → Option Board
or_else None y = y
or_else (Some b) y = Some b

-- "the last of its saves and formats that was begun", with the pages as they were there
unfoldable pub last_walk : Board → List Call → Option Board
last_walk b [] = None
last_walk b (c ∷ cs) = or_else (last_walk (turn b c).board cs) (begun_by (turn b c))

-- as the code has it: its data is that of a line, its pages are kept
abbrev pub last_in : List ℕ → Option Last → List ℕ → List ℕ → Option Board
last_in text None l r = None
last_in text (Some x) l r = Some (board_in (Some x.walk) (data_at text x.at) l r)

-- whether an answer of the code begins a walk
abbrev pub begun_in : Answer → Bool
begun_in A.TheVariants.Nothing = false
begun_in A.TheVariants.Begun = true
begun_in A.TheVariants.Made = false
begun_in A.TheVariants.Ended = false
begun_in (A.TheVariants.Number n) = false
begun_in (A.TheVariants.Part o n) = false
begun_in (A.TheVariants.Output n) = false

-- the walk in hand, and the line that began it
abbrev pub last_of : Option Walk → ℕ → Option Last
last_of None at = None
last_of (Some w) at = Some (record { walk = w; at = at })

-- the walk that a call begins
abbrev pub begun_last : Answered → Option Last
begun_last x = cond (eqb x.times 1 && begun_in x.answer) (last_of x.session.hand x.session.began) None

-- ---- a cut
-- what a read shows after so many steps of a walk, beside what it showed before them
abbrev pub cut_shown : ℕ → Walk → List ℕ → List ℕ → List ℕ → Shows
cut_shown n w d l r =
    let c = run_of n w l r d in
    verdict_of w.request (shown c.left c.right) (shown l r) w.offset d

-- ---- the tally
-- of the cuts after fewer than so many steps
unfoldable pub tallied : ℕ → Walk → List ℕ → List ℕ → List ℕ → Tally
tallied zero w d l r = no_cuts
tallied (suc n) w d l r = counted (tallied n w d l r) (cut_shown n w d l r)

abbrev pub total_of : Walk → ℕ
total_of w = step_count w.request w.start w.erased w.page

-- "cut after each number of steps from none to all, each time from the same pages"
abbrev pub walk_tally : Option B.Hand → List ℕ → List ℕ → Tally
walk_tally None l r = no_cuts
walk_tally (Some h) l r = tallied (total_of h.walk + 1) h.walk h.held l r

abbrev pub board_tally : Option Board → Tally
board_tally None = no_cuts
board_tally (Some b) = walk_tally b.hand b.left b.right

abbrev pub script_tally : List ℕ → List ℕ → List ℕ → Tally
script_tally text l r = board_tally (last_walk (powered l r) (script_calls text l r))

-- whether a script begins a walk
abbrev pub is_begun_in : List ℕ → List ℕ → List ℕ → Bool
is_begun_in text l r = is_some (last_walk (powered l r) (script_calls text l r))
