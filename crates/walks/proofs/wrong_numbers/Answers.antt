-- `walks::wrong_numbers` meets its contract: the tests are those of the definition, in its order. Assumes nothing.
use Rattle.std.specs.Prelude.{Ok, Err}
use mathlib.Core.Path.{◌≡◌, ◌∙◌}
use mathlib.Core.Bool.{true}
use Rattle.std.proofs.Common.{rules, inl, inr}
use native.Mathlib.Omega.{arith}
use Rattle.requests.specs.Numbers.{number_in}
use Rattle.flash.proofs.Laws.{told}
use Rattle.walks.proofs.Numbers.{wrong_request, wrong_page, wrong_data, wrong_format_lem}
use Rattle.walks.proofs.wrong_numbers.Goals as goal

pub returns-in-Err : goal.returns-in-Err
returns-in-Err c =
    wrong_request c.args.walk c.args.left c.args.right c.args.«data» c.in-Err.field-0
    (told number_in c.in-Err.is c.check_numbers.ensures)

pub returns-then-data-len : goal.returns-then-data-len
returns-then-data-len c =
    let e = told number_in c.in-Ok.is c.check_numbers.ensures in
    let t : c.if-left-walk.t-10 ≡ true = search rules in
    t
    ∙ elim c.if-data-len.either [
      | inl h ↦ wrong_page c.args.walk c.args.left c.args.right c.args.«data» e h
      | inr h ↦ wrong_data c.args.walk c.args.left c.args.right c.args.«data» e h.0 h.1
    ]

pub returns-else-data-len : goal.returns-else-data-len
returns-else-data-len c =
    c.wrong_format.ensures
    ∙ wrong_format_lem c.args.walk c.args.left c.args.right c.args.«data»
    (told number_in c.in-Ok.is c.check_numbers.ensures) (omega arith) (omega arith)
