-- `sessions::make_one` meets its contract. Assumes nothing.
use mathlib.Core.Path.{refl}
use Rattle.sessions.proofs.Laws.{none_made, some_made, made_one}
use Rattle.sessions.proofs.make_one.Goals as goal

pub returns-then-turn-eq0 : goal.returns-then-turn-eq0
returns-then-turn-eq0 c = (
  refl,
  made_one c.args.text.now c.args.job.call c.args.job.place c.args.job.begins c.args.session c.args.after
      c.make-began.result _ c.args.left.now
      c.args.right.now _ _ c.args.out.now _ _
      c.requires.0
      c.requires.1
      c.make-began.auto.out
      c.make-began.ensures
      (none_made c.make-began.result.turn.made
      c.make-began.result.turn.answer c.if-turn-eq0.true),
)

pub returns-else-turn-eq0 : goal.returns-else-turn-eq0
returns-else-turn-eq0 c = (
  refl,
  made_one c.args.text.now c.args.job.call c.args.job.place c.args.job.begins c.args.session c.args.after
      c.make-began.result _ c.args.left.now
      c.args.right.now _ _ c.args.out.now _ _
      c.requires.0
      c.requires.1
      c.make-began.auto.out
      c.make-began.ensures
      (some_made c.make-began.result.turn.made
      c.make-began.result.turn.answer c.if-turn-eq0.false),
)
