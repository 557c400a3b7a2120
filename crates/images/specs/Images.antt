-- Images (document 01, "Pages, cells", and the first sentence of "The walk of a save").
-- In order: the image of the live page; bytes laid in; a cell of the new image.
-- Not here: the image of a page (the crate pages). Laws: proofs/. Assumes nothing.
use Rattle.std.specs.Prelude.{Option, Some, None, unwrap_or}
use Rattle.pages.specs.declared.Side.{Side}
use Rattle.std.specs.Prelude.{ℕ, ◌+◌, ◌-◌, cond, List, ◌++◌, leb, length, take, drop, replicate}
use Rattle.flash.specs.Flash.{cell_of}
use Rattle.pages.specs.declared.PageOffset.{PageOffset}
use Rattle.pages.specs.declared.ImageOffset.{ImageOffset}
use Rattle.pages.specs.Pages.{on_side, status_of}
use Rattle.pages.specs.Offsets.{management_size, image_of, to_page}

-- the image of the page on the live side, if there is one
abbrev pub image_on : Option Side → List ℕ → List ℕ → Option (List ℕ)
image_on None l r = None
image_on (Some s) l r = Some (image_of (on_side s l r))

-- "the image of the live page, or none at line 0"
unfoldable pub live_image : List ℕ → List ℕ → Option (List ℕ)
live_image l r = image_on (status_of l r).live l r

-- an image of n bytes: the one there is, "all FF if none"
abbrev pub or_blank : ℕ → Option (List ℕ) → List ℕ
or_blank n None = replicate n 255
or_blank n (Some image) = image

-- ---- bytes laid in
-- bytes with others laid in from a place on
unfoldable pub overlaid : List ℕ → ℕ → List ℕ → List ℕ
overlaid bytes i d = take i bytes ++ (d ++ drop (i + length d) bytes)

-- an image as it stands in a page, "its first byte being page offset 4"
abbrev pub in_page : List ℕ → List ℕ
in_page image = replicate management_size 0xFF ++ image

-- an image "with the data laid in at the offset; every other image byte keeps its number"
unfoldable pub laid_in : List ℕ → PageOffset → List ℕ → List ℕ
laid_in image o d = image_of (overlaid (in_page image) o.0 d)

-- ---- a cell of the new image
-- the number of the data's cell that lies at an image offset, if one does
unfoldable pub data_cell : PageOffset → List ℕ → ImageOffset → Option ℕ
data_cell o d i =
    let at = (to_page i).0 in
    cond (leb o.0 at) (cell_of d (at - o.0)) None

-- the data's, else the old image's, else FFFF
unfoldable pub new_cell : List ℕ → PageOffset → List ℕ → ImageOffset → ℕ
new_cell old o d i = unwrap_or (data_cell o d i) (unwrap_or (cell_of old i.0) 0xFFFF)
