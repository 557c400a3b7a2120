-- The starred examples of document 01: one table under one proof, by computation on the definitions that the contracts
-- cite.
-- Assumes nothing.
use mathlib.Core.Path.{◌≡◌, refl}
use mathlib.Core.List.{map}
use Rattle.flash.specs.Flash.{is_cell, fits, stored, programmed, erasure, is_erased}
use Rattle.pages.specs.Pages.{word_of, look, live_of, status_of}
use Rattle.requests.specs.Numbers.{
  wrong_lengths,
  odd_request,
  below_image,
  past_end,
  end_number,
  span_number,
  request_number,
  pages_number,
}
use Rattle.reads.specs.Reads.{filled, read_number, read_part, output_after}
use Rattle.steps.specs.Steps.{tried}
use Rattle.images.specs.Images.{live_image, overlaid, laid_in}
use Rattle.plans.specs.Plans.{saving, formatting}
use Rattle.tries.specs.Tries.{attempt}
use Rattle.walks.specs.Walks.{begin_save, begin_format, wrong_numbers, after, stepped, step_of}
use Rattle.model.specs.Board.{turn, answers, board_after}
use Rattle.model.specs.Examples.{Example, outcome, examples}

pub examples_right : map outcome examples ≡ map (λ (e : Example). e.expected) examples
unfolding is_cell fits stored programmed erasure is_erased word_of look live_of status_of
    wrong_lengths odd_request below_image past_end end_number span_number request_number pages_number
    filled read_number read_part output_after tried live_image overlaid laid_in saving formatting
    begin_save begin_format wrong_numbers attempt after stepped step_of turn answers board_after
examples_right = refl
