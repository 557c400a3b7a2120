-- `bench::kept_in` meets its contract: the line is that of the state. Assumes nothing.
use Rattle.bench.proofs.kept_in.Goals as goal

pub returns : goal.returns
returns c =
    λ i. record { number = 0; line = c.line.ensures i; erased = c.args.walk.erased }
