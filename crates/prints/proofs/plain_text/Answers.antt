-- bytes that are all plain are printed as they are
use Rattle.std.proofs.Common.{rules, tests, ◌≡◌, ◌∷◌, []}
use Rattle.std.specs.List.{flat_map}
use Rattle.std.proofs.lemmas.Iterator.{cases_from_all, YieldsList-from_slice}
use Rattle.std.proofs.lemmas.List.Elements.{All-from_all_within}
use Rattle.prints.specs.Prints.{escaped}
use Rattle.prints.proofs.Escapes.{as_they_are}
use Rattle.prints.proofs.plain_text.Goals as goal

pub returns-then-all : goal.returns-then-all
returns-then-all c =
    let bytes = c.args.bytes.now in
    let cases = cases_from_all _ _ _ (λ b. escaped b ≡ b ∷ []) (λ b. Unit {0}) c.all.ensures.ran (YieldsList-from_slice bytes cc) (λ b q k. search (rules, tests)) (λ b q k. tt) in
    let plain = rw c.if-all.true at cases in
    let same : flat_map escaped bytes ≡ bytes = as_they_are escaped bytes (All-from_all_within (λ b. escaped b ≡ b ∷ []) bytes plain) in
    rw same (search rules)
