-- `flash::block_erased` meets its contract. Assumes nothing.
use Prim.Native.Nat.{◌%◌}
use mathlib.Core.Bool.{◌&&◌}
use mathlib.Core.Path.{sym, ap, ◌∙◌}
use borrow.Author.Rules.{rules}
use Rattle.std.specs.List.{list_all}
use Rattle.flash.specs.Flash.{is_erased}
use Rattle.flash.proofs.Laws.{and_true, chunks_erased, none_erased}
use Rattle.flash.proofs.block_erased.Goals as goal

pub loop-eight-init : goal.loop-eight-init
loop-eight-init c =
    let eights = c.as_chunks.result.0.now in (
      chunks_erased 8 c.args.block.now c.as_chunks.result.1.now eights c.as_chunks.ensures.front c.as_chunks.ensures.back
          ∙ ap (λ rest. list_all is_erased eights && rest) (sym (none_erased _ (c.as_chunks.ensures.back_len ∙ ap (λ n. n % 8) c.told-block)))
          ∙ and_true (list_all is_erased eights),
      search rules,
    )
