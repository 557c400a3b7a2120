-- An entry of the list of steps, tried on the pages (document 01, "Numbers the board gives back").
-- Not here: the list of steps (the crate plans); which entry a walk tries (walks). Laws: proofs/.
-- Assumes nothing.
use Rattle.std.specs.Prelude.{Option}
use Rattle.std.specs.Prelude.{ℕ, cond, List}
use Rattle.pages.specs.declared.Side.{Side}
use Rattle.pages.specs.declared.PageOffset.{PageOffset}
use Rattle.pages.specs.declared.ImageOffset.{ImageOffset}
use Rattle.pages.specs.Pages.{status_of}
use Rattle.steps.specs.declared.Step.TheVariants.{Image}
use Rattle.steps.specs.Steps.{Tried, tried}
use Rattle.images.specs.Images.{image_on, or_blank, new_cell}
use Rattle.plans.specs.declared.Entry.{Entry}
use Rattle.plans.specs.Plans.{entry, clean, meets}

-- number 6 and both pages as they were where "the pages' line isn't the line of the list at that
-- place or the program step would turn a 0 bit into a 1"; else the flash step, made
unfoldable pub attempt : Entry → List ℕ → List ℕ → Tried
attempt x l r =
    cond (meets x.state (status_of l r).state)
    (tried x.step l r)
    (record { number = 6; left = l; right = r })

-- the entry of an image cell, its number made from the image of a live side
abbrev pub cell_entry : Option Side → Side → ImageOffset → PageOffset → List ℕ → List ℕ → List ℕ → Entry
cell_entry live s at o d l r =
    entry (clean live) (Image s at (new_cell (or_blank 0 (image_on live l r)) o d at))
