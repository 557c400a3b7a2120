-- The data of a line that is right is all in a buffer of 4,096 bytes, and so is what a copy asks for.
-- Assumes nothing.
use Prim.Native.Nat.{ℕ, ◌-◌, ◌/◌, ◌%◌, ◌≤◌}
use mathlib.Core.Path.{◌≡◌, sym, ap}
use mathlib.Core.Bool.{Bool, true, cond}
use mathlib.Core.List.{List, []}
use native.Mathlib.Omega.{arith}
use lib.ListN.{length, replicate, drop_of_length-le}
use borrow.Author.Tests.{le-leb}
use Rattle.pages.specs.declared.PageOffset.{PageOffset}
use Rattle.texts.specs.Texts.{before_first, ending, is, line_at, on_from, stride_of, trimmed, up_to, used, without_comment, without_return, word_at}
use Rattle.digits.specs.Digits.{bytes_of}
use Rattle.digits.proofs.Laws.{bytes_length}
use Rattle.asks.specs.Asks as T
use Rattle.asks.specs.Asks.{asks_of}
use Rattle.asks.proofs.Right.{handed}
use Rattle.turns.specs.Turns.{fitting, data_at}

fits : (line : List ℕ) → length (word_at 2 line) ≤ 8192 → fitting (bytes_of (word_at 2 line)) ≡ bytes_of (word_at 2 line)
fits line h =
    let d = bytes_of (word_at 2 line) in
    let n : length d ≡ length (word_at 2 line) / 2 = bytes_length (word_at 2 line) in
    ap (λ (t : Bool). cond t d (replicate (4096 - length d % 2) 0)) (le-leb (length d) 4096 (omega arith))

pub save_data : (text : List ℕ) (place : ℕ) (o : PageOffset) → asks_of (line_at text place) ≡ T.save o
    → data_at text place ≡ bytes_of (word_at 2 (line_at text place))
save_data text place o e = fits (line_at text place) (handed (line_at text place) (T.save o) e)

pub step_data : (text : List ℕ) (place : ℕ) → asks_of (line_at text place) ≡ T.step_with
    → data_at text place ≡ bytes_of (word_at 2 (line_at text place))
step_data text place e = fits (line_at text place) (handed (line_at text place) T.step_with e)

-- past the end of a text there is no line, and so no data
pub no_line : (text : List ℕ) (place : ℕ) → length text ≤ place → [] ≡ line_at text place
unfolding line_at before_first without_comment without_return used
no_line text place h =
    sym
    (ap (λ (t : List ℕ). on_from (ending true) (trimmed (without_comment (up_to (is 10) t))))
    (drop_of_length-le text h))

pub none_held : (text : List ℕ) → data_at text (length text) ≡ []
unfolding word_at bytes_of before_first stride_of
none_held text =
    ap (λ (line : List ℕ). fitting (bytes_of (word_at 2 line))) (sym (no_line text (length text) (omega arith)))
