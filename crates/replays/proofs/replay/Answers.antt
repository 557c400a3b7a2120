-- `replays::replay` meets its contract: demand 3 of a script. Assumes nothing.
use mathlib.Core.Path.{◌≡◌, sym, ap, ◌∙◌}
use Rattle.std.specs.Prelude.{Result, Ok, Err, IsErrAnd}
use Rattle.std.proofs.Common.{rules}
use Rattle.scripts.specs.Scripts.{Report}
use Rattle.replays.specs.Replays.{report_in}
use Rattle.replays.proofs.Answered.{bytes_of, replay_done, replay_refused}
use Rattle.replays.proofs.replay.Goals as goal

err_is : {T E : Type 0} (r : Result T E) (e : E) → IsErrAnd r (λ x. x ≡ e) → r ≡ Err e
err_is (Ok x) e h = absurd h
err_is (Err x) e h = ap Err h

pub returns-in_err-check : goal.returns-in_err-check
returns-in_err-check c =
    (λ i. record {
      report = report_in (err_is c.from_residual.result _ c.from_residual.ensures.1 i);
      left = c.args.left.now;
      right = c.args.right.now;
      out = c.args.out.now;
    })
    ∙ replay_refused c.args.left.now c.args.right.now c.args.script.now c.args.out.now _ (c.in_err-check.ensures {u = tt})

pub returns : goal.returns
returns c =
    replay_done c.args.left.now c.args.right.now c.args.script.now c.args.out.now _ _ _
    (bytes_of c.args.left.now (search rules))
    (bytes_of c.args.right.now (search rules)) (bytes_of c.args.script.now (search rules))
    (ap (λ (x : Report). x.status) (sym (c.in_ok-check.ensures {u = tt}))) c.run.ensures
