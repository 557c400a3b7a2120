-- what the next part stands for is written after what is written so far
use Rattle.std.proofs.Common.{rules, ◌∙◌, ℕ, List, ◌++◌, ap, sym, append_assoc}
use Rattle.std.proofs.Output.{has_written_append}
use Rattle.std.proofs.lemmas.Grind.{flat_map-append}
use Rattle.std.specs.List.{flat_map}
use Rattle.std.specs.Slice.Iter.{chunks_rest}
use Rattle.prints.specs.Prints.{escaped}
use Rattle.prints.proofs.EscapedDisplay.fmt.Goals as goal

pub loop-part-preserved : goal.loop-part-preserved
loop-part-preserved g c =
    let steps = c.in-Some.ensures.steps in (
      search rules,
      tt,
      steps.0 ∙ c.loop-part.invariant.2,
      λ plain.
          let so_far = c.loop-part.invariant.3 plain in (
            so_far.0 ++ flat_map escaped c.in-Some.part.now,
            has_written_append _ _ _ _ _ _ so_far.1 (search rules),
            append_assoc so_far.0 _ _
                ∙ ap (λ (t : List ℕ). so_far.0 ++ t)
                (sym (flat_map-append escaped c.in-Some.part.now (chunks_rest c.next.new.self))
                ∙ ap (flat_map escaped) (sym steps.1.0))
                ∙ so_far.2,
          ),
    )
