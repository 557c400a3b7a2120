-- what is put is ASCII, so it is text
use Rattle.std.proofs.Common.{arith}
use Rattle.std.proofs.lemmas.Str.{IsUtf8-from_ascii}
use Rattle.std.specs.List.{flat_map}
use Rattle.prints.specs.Prints.{escaped}
use Rattle.prints.proofs.Escapes.{ascii}
use Rattle.prints.proofs.part_text.Goals as goal

pub unreachable-requires : goal.unreachable-requires
unreachable-requires c =
    let part = c.args.part.now in
    c.in_default-from_utf8.ensures.cases.0 (rw c.escape-len.ensures.text (IsUtf8-from_ascii (flat_map escaped part) (ascii part (λ i. omega (arith, c.type_inv.part i)))))
