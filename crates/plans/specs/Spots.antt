-- What stands at a place of the list of steps.
-- In order: the entry at a place of a list, and what each answer says of it; the same without going
-- through the list. That both agree is a theorem (proofs/Spots.antt).
-- Assumes nothing.
use Rattle.std.specs.Prelude.{ℕ, zero, suc, ◌-◌, ◌*◌, ◌≡◌, Bool, cond, List, [], ◌∷◌, ltb, length, get_or, Option, None, Some}
use Rattle.flash.specs.Flash.{cell_at}
use Rattle.pages.specs.declared.State.{State}
use Rattle.pages.specs.Pages.{live_of}
use Rattle.pages.specs.Offsets.{image_size}
use Rattle.steps.specs.declared.Step.{Step}
use Rattle.steps.specs.declared.Step.TheVariants.{Mark, Image, Erase}
use Rattle.plans.specs.declared.Request.{Request}
use Rattle.plans.specs.declared.Request.TheVariants.{Save, Format}
use Rattle.plans.specs.declared.Entry.{Entry}
use Rattle.plans.specs.declared.ImageCell.{ImageCell}
use Rattle.plans.specs.declared.Spot.{Spot}
use Rattle.plans.specs.declared.Spot.TheVariants.{Fixed, Cell}
use Rattle.plans.specs.Plans.{entry, ready, clean, target, marks, formatting, plan, nothing}
use Rattle.plans.specs.Counts.{cell_count, step_count}

-- ---- by the list
-- the entry at a place of a list, from 0; none at its end and beyond
unfoldable pub entry_at : List Entry → ℕ → Option Entry
entry_at [] k = None
entry_at (x ∷ xs) zero = Some x
entry_at (x ∷ xs) (suc k) = entry_at xs k

-- what each answer to a look at a place says, with the new image: the entry there, or none; an image
-- cell is programmed to the number that the new image has there
abbrev pub entry_in : List ℕ → Option Spot → Option Entry
entry_in new None = None
entry_in new (Some (Fixed x)) = Some x
entry_in new (Some (Cell state c)) = Some (entry state (Image c.side c.at (cell_at new c.at.0)))

-- that an answer is what stands at a place of a request's list on pages of P bytes, whatever the new
-- image is
abbrev pub Stands : Request → State → Bool → ℕ → ℕ → Option Spot → Type 0
Stands request start erased p place x =
    (new : List ℕ) → length new ≡ image_size p
    → entry_in new x ≡ entry_at (plan request start erased new) place

-- the image cell that an entry programs, if it does
abbrev pub step_cell : Step → Option ImageCell
step_cell (Mark s at v) = None
step_cell (Image s at v) = Some (record { side = s; at = at })
step_cell (Erase s) = None

abbrev pub image_cell : Option Entry → Option ImageCell
image_cell None = None
image_cell (Some x) = step_cell x.step

-- that an answer is the image cell that stands at a place, if one does, whatever the new image is
abbrev pub Programs : Request → State → Bool → ℕ → ℕ → Option ImageCell → Type 0
Programs request start erased p place x =
    (new : List ℕ) → length new ≡ image_size p
    → x ≡ image_cell (entry_at (plan request start erased new) place)

-- ---- without going through the list
-- of a save: a step before the image cells, an image cell, or a mark; n is how many stand before
-- the cells
abbrev pub save_spot_at : State → Bool → ℕ → ℕ → ℕ → Spot
save_spot_at start erased p n place =
    cond (ltb place n)
    (Fixed (get_or (ready start erased) place nothing))
    (cond (ltb (place - n) (cell_count p))
    (Cell (clean (live_of start))
    (record { side = target (live_of start); at = record { 0 = (place - n) * 2 } }))
    (Fixed (get_or (marks (live_of start)) (place - n - cell_count p) nothing)))

unfoldable pub save_spot : State → Bool → ℕ → ℕ → Spot
save_spot start erased p place = save_spot_at start erased p (length (ready start erased)) place

abbrev pub request_spot : Request → State → Bool → ℕ → ℕ → Spot
request_spot Save start erased p place = save_spot start erased p place
request_spot Format start erased p place = Fixed (get_or (formatting start erased) place nothing)

-- nothing at the end of the list and beyond
unfoldable pub spot_of : Request → State → Bool → ℕ → ℕ → Option Spot
spot_of request start erased p place =
    cond (ltb place (step_count request start erased p))
    (Some (request_spot request start erased p place))
    None

-- the image cell that stands there, if one does
abbrev pub cell_of : Spot → Option ImageCell
cell_of (Fixed x) = None
cell_of (Cell state c) = Some c

abbrev pub spot_cell : Option Spot → Option ImageCell
spot_cell None = None
spot_cell (Some x) = cell_of x
