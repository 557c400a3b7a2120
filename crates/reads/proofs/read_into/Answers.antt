-- `reads::read_into` meets its contract: a refusal keeps the output, number 5 fills it with FF, and a found page is
-- copied from.
-- Assumes nothing.
use native.Mathlib.Omega.{arith}
use Rattle.flash.proofs.Laws.{told}
use Rattle.reads.specs.Reads.{found_in}
use Rattle.reads.proofs.Laws.{on_legal, kept_at, blank_at, given}
use Rattle.reads.proofs.read_into.Goals as goal

pub part-requires : goal.part-requires
part-requires c =
    omega (
      arith,
      on_legal _ _ _ _ _ (told found_in c.in-Ok.is c.locate.ensures),
    )

pub returns-in-Ok : goal.returns-in-Ok
returns-in-Ok c =
    given _ _ _ _ _ _ _
    (told found_in c.in-Ok.is c.locate.ensures)
    c.part.ensures c.copy.ensures

pub returns-in-NoLive : goal.returns-in-NoLive
returns-in-NoLive c =
    blank_at c.args.pair.left.now c.args.pair.right.now c.args.offset c.args.out.now _ c.in-Err.error c.in-NoLive.is
    (told found_in c.in-Err.is c.locate.ensures) c.erase.ensures

pub returns-in_default : goal.returns-in_default
returns-in_default c =
    kept_at c.args.pair.left.now c.args.pair.right.now c.args.offset c.args.out.now c.in-Err.error c.in_default.not-NoLive
    (told found_in c.in-Err.is c.locate.ensures)
