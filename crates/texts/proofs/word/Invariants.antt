-- `texts::word` meets its contract. The loop's invariant: the word of the rest is the word of all. Assumes nothing.
use Rattle.std.proofs.Common.{◌≡◌, ◌-◌}
use Rattle.texts.specs.Texts.{word_at}
use Rattle.texts.proofs.word.Given as goal

abbrev pub invariant-loop : goal.invariant-loop
invariant-loop l = word_at (l.number - l.counter) l.rest ≡ word_at l.number l.line
