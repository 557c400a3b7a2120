-- `replays::Ran::make` meets its contract: one call of the engine, by the laws of Made.antt. Assumes nothing.
use mathlib.Core.Path.{ap, ◌∙◌}
use Prim.Native.Nat.{ℕ}
use mathlib.Core.List.{List}
use denote.Ref.{Bor}
use Rattle.boards.proofs.Laws.{kept_now}
use native.Mathlib.Omega.{arith}
use Rattle.replays.specs.Runs.{making, making_of}
use Rattle.replays.proofs.Made.{left_by, left_room, left_end, left_run}
use Rattle.replays.proofs.Ran.make.Goals as goal

pub put_answers-after-requires : goal.put_answers-after-requires
put_answers-after-requires c =
    let z =
    left_by c.args.self.now.at c.put-end.result (making c.of-job.result) c.make-turn.result c.args.self.now.hand
    c.args.self.now.held.now c.args.item c.args.left.now c.args.right.now _ _ c.args.out.now _ _
    (c.of-job.ensures ∙ ap (making_of c.args.item) c.data_in_hand.ensures) c.requires c.put-end.ensures
    c.make-turn.auto.out c.make-turn.ensures in
    (z.done.count, left_room c.last_of-last.result z c.last_of-last.ensures)

pub overflow_add-self : goal.overflow_add-self
overflow_add-self c =
    let z =
    left_by c.args.self.now.at c.put-end.result (making c.of-job.result) c.make-turn.result c.args.self.now.hand
    c.args.self.now.held.now c.args.item c.args.left.now c.args.right.now _ _ c.args.out.now _ _
    (c.of-job.ensures ∙ ap (making_of c.args.item) c.data_in_hand.ensures) c.requires c.put-end.ensures
    c.make-turn.auto.out c.make-turn.ensures in
    let end = left_end c.last_of-last.result _ z c.last_of-last.ensures c.put_answers-after.ensures in
    omega arith

pub returns : goal.returns
returns c =
    let z =
    left_by c.args.self.now.at c.put-end.result (making c.of-job.result) c.make-turn.result c.args.self.now.hand
    c.args.self.now.held.now c.args.item c.args.left.now c.args.right.now _ _ c.args.out.now _ _
    (c.of-job.ensures ∙ ap (making_of c.args.item) c.data_in_hand.ensures) c.requires c.put-end.ensures
    c.make-turn.auto.out c.make-turn.ensures in
    left_run c.last_of-last.result c.kept-self.result.now _ z c.last_of-last.ensures
    (ap (λ (x : Bor (List ℕ)). x.now) c.kept-self.ensures ∙ kept_now c.last_of-last.result _ _)
    c.put_answers-after.ensures
