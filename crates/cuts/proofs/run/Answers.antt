-- `cuts::run` meets its contract. Assumes nothing.
use Rattle.std.proofs.Common.{ap, sym}
use Rattle.sessions.proofs.Loop.{not_right}
use Rattle.turns.proofs.Laws.{loaded_part}
use Rattle.std.specs.Prelude.{is_some}
use Rattle.cuts.specs.Cuts.{board_tally}
use Rattle.cuts.proofs.Laws.{no_walks, tally_one}
use Rattle.cuts.proofs.run.Goals as goal

pub returns-then-page-gt-MAX_PAGE-clause-tally : goal.returns-then-page-gt-MAX_PAGE-clause-tally
returns-then-page-gt-MAX_PAGE-clause-tally c = sym (ap board_tally (no_walks c.args.text.now c.args.pair.left.now c.args.pair.right.now
    (λ x. not_right c.args.pair.left.now c.args.pair.right.now c.then-page-gt-MAX_PAGE.either x.most x.same)))

pub returns-then-page-gt-MAX_PAGE-clause-found : goal.returns-then-page-gt-MAX_PAGE-clause-found
returns-then-page-gt-MAX_PAGE-clause-found c = sym (ap is_some (no_walks c.args.text.now c.args.pair.left.now c.args.pair.right.now
    (λ x. not_right c.args.pair.left.now c.args.pair.right.now c.then-page-gt-MAX_PAGE.either x.most x.same)))

pub returns-clause-tally : goal.returns-clause-tally
returns-clause-tally c =
    tally_one c.args.text.now c.args.pair.left.now c.args.pair.right.now
    c.find_last.new.kept_left c.find_last.new.kept_right _ c.find_last.result c.in_ok-last.last c.cut_each-tally.result
    c.in_ok-last.was
    c.find_last.ensures
    (loaded_part _ _ _ _ c.blank-data_room.ensures c.load-size.ensures.fact)
    c.cut_each-tally.ensures
