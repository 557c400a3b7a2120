-- `flash::bytes_erased` meets its contract. Assumes nothing.
use mathlib.Core.Bool.{true, false}
use mathlib.Core.Path.{sym}
use borrow.Author.Rules.{rules}
use borrow.Author.Tests.{eq-eqb, ne_eqb}
use Rattle.flash.proofs.Laws.{byte_passed, all_passed}
use Rattle.flash.proofs.bytes_erased.Goals as goal

pub returns-then-byte : goal.returns-then-byte
returns-then-byte c =
    sym (byte_passed _ false c.args.page.now c.loop-byte.byte-index (search rules) c.loop-byte.invariant (ne_eqb _ _ c.if-byte.true))

pub loop-byte-preserved : goal.loop-byte-preserved
loop-byte-preserved c =
    byte_passed _ true c.args.page.now c.loop-byte.byte-index (search rules) c.loop-byte.invariant (eq-eqb _ _ c.if-byte.false)

pub returns : goal.returns
returns c = all_passed _ c.args.page.now c.loop-byte.byte-index (search rules) c.loop-byte.invariant
