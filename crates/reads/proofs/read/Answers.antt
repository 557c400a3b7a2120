-- `reads::read` meets its contract: a refusal hands back nothing, and a found page the asked bytes, which lie in it.
-- Assumes nothing.
use mathlib.Core.Path.{◌∙◌}
use native.Mathlib.Omega.{arith}
use Rattle.flash.proofs.Laws.{told}
use Rattle.reads.specs.Reads.{found_in}
use Rattle.reads.proofs.Laws.{no_part, error_given, on_legal, on_part}
use Rattle.reads.proofs.read.Goals as goal

pub part-requires : goal.part-requires
part-requires c =
    omega (
      arith,
      on_legal _ _ _ _ _ (told found_in c.in-Ok.is c.locate.ensures),
    )

pub returns-in-Err : goal.returns-in-Err
returns-in-Err c =
    no_part _ _ _ _ _ (told found_in c.in-Err.is c.locate.ensures) (error_given c.in-Err.field-0)

pub returns-in-Ok : goal.returns-in-Ok
returns-in-Ok c =
    c.part.ensures
    ∙ on_part _ _ _ _ _
    (told found_in c.in-Ok.is c.locate.ensures)
