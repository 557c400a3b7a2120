-- `boards::read` meets its contract. Assumes nothing.
use Prim.Native.Nat.{ℕ}
use mathlib.Core.Path.{sym, ap, ◌∙◌}
use mathlib.Core.Bool.{Bool, cond}
use borrow.Author.Tests.{ne_eqb}
use Rattle.flash.proofs.Laws.{told}
use Rattle.reads.specs.Reads.{number_in, error_number}
use Rattle.reads.proofs.Laws.{error_never}
use Rattle.boards.specs.declared.Answer as A
use Rattle.boards.specs.Boards.{read_answer}
use Rattle.boards.proofs.read.Goals as goal

pub returns-in-Ok : goal.returns-in-Ok
returns-in-Ok c =
    ap (λ (n : ℕ). read_answer n c.args.offset c.args.len) (told number_in c.in-Ok.is c.check_read.ensures)

pub returns-in-Err : goal.returns-in-Err
returns-in-Err c =
    (λ i. A.TheVariants.Number (c.number.ensures i))
    ∙ sym (ap (λ (t : Bool). cond t (A.TheVariants.Part c.args.offset c.args.len)
    (A.TheVariants.Number (error_number c.in-Err.error)))
    (ne_eqb (error_number c.in-Err.error) 0 (error_never c.in-Err.error)))
    ∙ ap (λ (n : ℕ). read_answer n c.args.offset c.args.len) (told number_in c.in-Err.is c.check_read.ensures)
