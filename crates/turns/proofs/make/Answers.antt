-- `turns::make` meets its contract. Assumes nothing.
use Rattle.turns.proofs.Laws.{loaded_part, made_with}
use Rattle.turns.proofs.make.Goals as goal

pub returns : goal.returns
returns c = (
  made_with c.args.job.call c.make-turn.result c.args.hand _ _ _ _
      c.args.left.now c.args.right.now _ _ c.args.out.now _
      (loaded_part _ _ _ _ c.blank-held.ensures c.load-held_size.ensures.fact) (loaded_part _ _ _ _
      c.blank-data.ensures
      c.load-data_size.ensures.fact)
      c.make-turn.ensures,
  c.kept-began.ensures,
)
