-- `flash::erase` meets its contract. Assumes nothing.
use borrow.Author.Rules.{rules}
use Rattle.flash.proofs.Laws.{filled}
use Rattle.flash.proofs.erase.Goals as goal

pub returns : goal.returns
returns c = filled _ _ _ c.loop-byte.auto.byte-index-end (search rules) c.loop-byte.invariant
