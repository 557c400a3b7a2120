-- Calls of a script as text (docs/FORMATS.md, "replay").
-- In order: the data of a line; a call made with it; the call that a line stands for.
-- Not here: what a line asks for (the crate asks), a call on a board (boards). Laws: proofs/Laws.antt.
-- Assumes nothing.
use Rattle.std.specs.Prelude.{ℕ, zero, suc, ◌-◌, ◌%◌, cond, List, ◌++◌, leb, length, drop, replicate}
use Rattle.boards.specs.declared.Call.{Call}
use Rattle.boards.specs.declared.Call as L
use Rattle.boards.specs.declared.Answer.{Answer}
use Rattle.boards.specs.declared.Turn.{Turn}
use Rattle.boards.specs.Boards.{kept_after}
use Rattle.texts.specs.Texts.{line_at, next_line, word_at}
use Rattle.digits.specs.Digits.{bytes_of, Decoded}
use Rattle.asks.specs.Asks as T
use Rattle.asks.specs.Asks.{Asks, asks_of}
use Rattle.turns.specs.declared.Turned.{Turned}
use Rattle.turns.specs.declared.Next.{Next}
use Rattle.turns.specs.declared.Next as N
use Rattle.turns.specs.declared.Plan.{Plan}

-- ---- the data of a line
-- what a buffer takes of it: data that is longer isn't taken, but stays as long as the buffer, and odd
-- or even as it was
unfoldable pub loaded : List ℕ → List ℕ → Decoded
loaded d buffer =
    cond (leb (length d) (length buffer))
    (record { count = length d; buffer = d ++ drop (length d) buffer })
    (record { count = length buffer - length d % 2; buffer = buffer })

-- "at most 4,096": longer data is longer than any page, and every save of it meets the same number
abbrev pub fitting : List ℕ → List ℕ
fitting d = cond (leb (length d) 4096) d (replicate (4096 - length d % 2) 0)

-- the bytes of the line at a place
abbrev pub data_at : List ℕ → ℕ → List ℕ
data_at text place = fitting (bytes_of (word_at 2 (line_at text place)))

-- a buffer that holds 00
unfoldable pub zeros : List ℕ
zeros = replicate 4096 0

-- ---- a call made
-- the engine's turn in it
abbrev pub turn_of : Turned → Turn
turn_of x = x.turn

-- where the line is that began the walk in hand
abbrev pub began_after : Answer → ℕ → ℕ → ℕ
began_after a own began = kept_after a own began

-- ---- the call that a line stands for
-- what is done for a line at a place of a text with this end: steps that are left, or a call, of
-- which a copy needs room
abbrev pub left_over : ℕ → Next
left_over steps = N.TheVariants.Steps steps

abbrev pub made_now : Call → ℕ → ℕ → ℕ → Next
made_now call place begins size =
    N.TheVariants.Make (record { call = call; place = place; begins = begins; size = size })

abbrev pub next_for : Asks → ℕ → ℕ → ℕ → Next
next_for T.nothing at end room = left_over 0
next_for (T.save o) at end room = made_now (L.TheVariants.Save o) at at 0
next_for T.format at end room = made_now L.TheVariants.Format end end 0
next_for (T.steps n) at end room = left_over n
next_for T.step_with at end room = made_now (L.TheVariants.Step 1) at end 0
next_for (T.read o n) at end room = made_now (L.TheVariants.Read o n) end end 0
next_for (T.read_into o n) at end room =
    cond (leb n room) (made_now (L.TheVariants.ReadInto o) end end n) (left_over 0)
next_for T.cut at end room = made_now L.TheVariants.Cut end end 0
next_for (T.wrong fault n) at end room = left_over 0

abbrev pub plan_for : Asks → ℕ → ℕ → ℕ → ℕ → Plan
plan_for asks at after end room = record { after = after; next = next_for asks at end room }

-- where so many steps of the line before are left: one of them, else that line
abbrev pub plan_from : List ℕ → ℕ → ℕ → ℕ → ℕ → Plan
plan_from text at began zero room =
    plan_for (asks_of (line_at text at)) at (next_line text at) (length text) room
plan_from text at began (suc k) room =
    record { after = at; next = made_now (L.TheVariants.Step 1) began (length text) 0 }

unfoldable pub plan_of : List ℕ → ℕ → ℕ → ℕ → ℕ → Plan
plan_of text at began left room = plan_from text at began left room
