-- `cuts::Start::cut_after` meets its contract: so many steps on copies, judged beside the pages before them.
-- Assumes nothing.
use Rattle.std.proofs.Common.{length, refl}
use Rattle.sessions.proofs.Loop.{copied_room}
use Rattle.cuts.proofs.Laws.{cut_judged}
use Rattle.cuts.proofs.Start.cut_after.Goals as goal

pub returns : goal.returns
returns c = cut_judged c.args.count c.args.self.now.walk c.run.result c.args.self.now.«data».now
    c.args.self.now.pair.left.now c.args.self.now.pair.right.now c.copy.new.dst c.copy-2.new.dst c.run.new.left c.run.new.right _ _ _
    (copied_room (length c.args.self.now.pair.left.now) _ _ _ refl c.args.self.now.fits.0 c.blank-left_room.ensures c.copy.ensures)
    (copied_room (length c.args.self.now.pair.right.now) _ _ _ refl c.args.self.now.fits.1 c.blank-right_room.ensures c.copy-2.ensures)
    c.run.ensures
    c.image.ensures
    c.image-2.ensures
    c.judge-verdict.ensures
