-- A script replayed on two pages (docs/FORMATS.md, "A script of calls as bytes").
-- In order: the report; the pages and the output afterwards.
-- Not here: the layout (the crate scripts); the calls of orders and their answers, the book's
-- (model). Laws: proofs/. Assumes nothing.
use Rattle.std.specs.Prelude.{ℕ, List, length, Result, Ok, Err}
use Rattle.images.specs.Images.{overlaid}
use Rattle.model.specs.Calls.{Call}
use Rattle.model.specs.Board.{powered, board_after}
use Rattle.model.specs.Orders.{calls_from, true_answers}
use Rattle.scripts.specs.declared.ScriptError.{ScriptError}
use Rattle.scripts.specs.declared.ScriptError as E
use Rattle.scripts.specs.Scripts.{Findings, orders, malformed, no_room, Report, checked}
use Rattle.replays.specs.Answers.{encoded}

-- ---- what is reported, and what the pages and the output then hold
-- status and place for each answer
abbrev pub report_in : Result ℕ ScriptError → Report
report_in (Ok n) = record { status = 0; place = n }
report_in (Err (E.TheVariants.Malformed at)) = record { status = 1; place = at }
report_in (Err (E.TheVariants.NoRoom at)) = record { status = 2; place = at }

pub record Outcome : Type 0 where
  pub report : Report
  pub left : List ℕ
  pub right : List ℕ
  pub out : List ℕ

-- "Either way the answer names the byte at which the call begins, and pages and output are as they
-- were."
abbrev pub refused : ℕ → ℕ → List ℕ → List ℕ → List ℕ → Outcome
refused status at l r out =
    record { report = record { status = status; place = at }; left = l; right = r; out = out }

abbrev pub done : List ℕ → List ℕ → List Call → List ℕ → Outcome
done l r cs out =
    let answers = encoded (true_answers l r cs) in
    let after = board_after (powered l r) cs in
    record {
      report = record { status = 0; place = length answers };
      left = after.left;
      right = after.right;
      out = overlaid out 0 answers;
    }

abbrev pub on_findings : List ℕ → List ℕ → Findings → List ℕ → Outcome
on_findings l r (orders xs) out = done l r (calls_from (powered l r) xs) out
on_findings l r (malformed at) out = refused 1 at l r out
on_findings l r (no_room at) out = refused 2 at l r out

-- a script replayed
unfoldable pub replayed : List ℕ → List ℕ → List ℕ → List ℕ → Outcome
replayed l r script out = on_findings l r (checked script (length out)) out
