-- Flash steps on a pair of pages (document 01, "Flash steps").
-- In order: a step on one page; the pages after a step on a side; a step.
-- Not here: programming and erasing the bytes of a page (the crate flash). Laws: proofs/Laws.antt.
-- Assumes nothing.
use Rattle.std.specs.Prelude.{ℕ, List, ◌++◌}
use Rattle.flash.specs.Flash.{Outcome, programmed, erasure}
use Rattle.pages.specs.declared.Side.{Side}
use Rattle.pages.specs.declared.PageOffset.{PageOffset}
use Rattle.pages.specs.declared.ImageOffset.{ImageOffset}
use Rattle.pages.specs.Pages.{on_side}
use Rattle.pages.specs.Offsets.{management_of, image_of}
use Rattle.steps.specs.declared.Step.{Step}
use Rattle.steps.specs.declared.Step.TheVariants.{Mark, Image, Erase}

-- a management cell of a page, "named by that place"
abbrev pub marked : List ℕ → PageOffset → ℕ → Outcome
marked page at v = programmed page at.0 v

-- a cell of its image, which alone is written: "Work inside the image counts from byte 4"
abbrev pub imaged : List ℕ → ImageOffset → ℕ → Outcome
imaged page at v =
    let o = programmed (image_of page) at.0 v in
    record { number = o.number; bytes = management_of page ++ o.bytes }

-- "Blank a page"
abbrev pub blanked : List ℕ → Outcome
blanked page = record { number = 0; bytes = erasure page }

-- the number of a step (0: it is made) and both pages after it
pub record Tried : Type 0 where
  pub number : ℕ
  pub left : List ℕ
  pub right : List ℕ

-- what a step on the page of a side leaves: the other page is as it was
abbrev pub on_page : Side → (List ℕ → Outcome) → List ℕ → List ℕ → Tried
on_page s f l r =
    let o = f (on_side s l r) in
    record { number = o.number; left = on_side s o.bytes l; right = on_side s r o.bytes }

-- a step: made whole, or number 6 and both pages as they were
unfoldable pub tried : Step → List ℕ → List ℕ → Tried
tried (Mark s at v) l r = on_page s (λ page. marked page at v) l r
tried (Image s at v) l r = on_page s (λ page. imaged page at v) l r
tried (Erase s) l r = on_page s blanked l r
