-- A replay from order to order: the board after it, and the bytes written.
-- Assumes nothing.
use Prim.Native.Nat.{◌≤◌}
use mathlib.Core.Path.{◌≡◌, refl, sym, ap, ◌∙◌}
use mathlib.Core.List.{List, [], ◌∷◌}
use lib.ListN.{length}
use Rattle.model.specs.Board.{answers, board_after}
use Rattle.model.specs.Orders.{Order, calls_of, calls_from}
use Rattle.model.proofs.Orders.{answers_append, board_append}
use Rattle.replays.specs.Answers.{encoded}
use Rattle.replays.specs.Runs.{written, Run, running, ordered}
use Rattle.replays.proofs.Output.{written_none, written_next, written_inside}
use Rattle.replays.proofs.Turns.{encoded_append}

pub run_board_lem : (os : List Order) (x : Run) → (running os x).board ≡ board_after x.board (calls_from x.board os)
unfolding running calls_from board_after
run_board_lem [] x = refl
run_board_lem (o ∷ os) x =
    let b = x.board in
    let cs = calls_of b.hand o in
    run_board_lem os (ordered o x) ∙ sym (board_append b cs (calls_from (board_after b cs) os))

pub run_output : (os : List Order) (x : Run) → x.output.at ≤ length x.output.out
    → (running os x).output
    ≡ written x.output.out x.output.at (encoded (answers x.board (calls_from x.board os)))
unfolding running calls_from answers encoded
run_output [] x h = written_none x.output.out x.output.at
run_output (o ∷ os) x h =
    let b = x.board in
    let out = x.output.out in
    let at = x.output.at in
    let cs = calls_of b.hand o in
    let rest = calls_from (board_after b cs) os in
    let d = encoded (answers b cs) in
    let e = encoded (answers (board_after b cs) rest) in
    run_output os (ordered o x) (written_inside out at d h)
    ∙ written_next out at d e h
    ∙ ap (written out at)
    (sym (encoded_append (answers b cs) (answers (board_after b cs) rest)) ∙ ap encoded (sym (answers_append b cs rest)))
