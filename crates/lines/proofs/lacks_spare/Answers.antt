-- `lines::lacks_spare` meets its contract: the fourth byte is that of Spare. Assumes nothing.
use Rattle.std.proofs.Common.{rules}
use native.Mathlib.Omega.{arith}
use Rattle.lines.proofs.Words.{spare_word}
use Rattle.lines.proofs.lacks_spare.Goals as goal

pub returns : goal.returns
returns c =
    spare_word c.args.page.now c.unwrap_or.result (search rules) (omega (arith, c.type_inv.page 0))
    (omega (arith, c.type_inv.page 1)) (omega (arith, c.type_inv.page 2)) (omega (arith, c.type_inv.page 3))
