-- `replays::put_answers` meets its contract. Assumes nothing.
use mathlib.Core.Path.{sym, ap, ◌∙◌}
use mathlib.Core.List.{[], ◌∷◌}
use native.Mathlib.Omega.{arith}
use Rattle.boards.specs.declared.Answer.{Answer}
use Rattle.replays.specs.Runs.{rest_of}
use Rattle.replays.proofs.Output.{written_none, replies_written, no_rest}
use Rattle.replays.proofs.put_answers.Goals as goal

pub returns-in-Part : goal.returns-in-Part
returns-in-Part c =
    let l = c.args.pair.left.now in
    let r = c.args.pair.right.now in
    replies_written c.args.replies.times c.args.replies.made c.args.replies.last l r c.read.result.now c.args.out.now c.args.at _ _ _ _ (omega arith)
    c.code_of.ensures (c.read.ensures ∙ sym (ap (λ (a : Answer). rest_of a l r) c.in-Part.is)) c.put_all-rest.ensures
    c.put_all-end.ensures c.put.ensures

pub returns-in-Output : goal.returns-in-Output
returns-in-Output c =
    let l = c.args.pair.left.now in
    let r = c.args.pair.right.now in
    replies_written c.args.replies.times c.args.replies.made c.args.replies.last l r (c.in-Output.number ∷ []) c.args.out.now c.args.at _ _ _ _ (omega arith)
    c.code_of.ensures (sym (ap (λ (a : Answer). rest_of a l r) c.in-Output.is)) c.put_all-rest.ensures
    c.put_all-end.ensures c.put-in-Output.ensures

pub returns-in_default : goal.returns-in_default
returns-in_default c =
    let l = c.args.pair.left.now in
    let r = c.args.pair.right.now in
    replies_written c.args.replies.times c.args.replies.made c.args.replies.last l r [] c.args.out.now c.args.at _ _ _ _ (omega arith)
    c.code_of.ensures (no_rest c.args.replies.last l r c.in_default.not-Part c.in_default.not-Output) c.put_all-rest.ensures
    c.put_all-end.ensures (written_none c.put_all-end.new.out c.put_all-end.result)
