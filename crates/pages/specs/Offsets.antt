-- Management bytes and image of a page, and the two kinds of offset (document 01, "Pages, cells, two
-- kinds of offset"): "they differ by 4, and both look plausible".
-- In order: the parts of a page; the one conversion of offsets.
-- Laws: proofs/Laws.antt. Assumes nothing.
use Rattle.std.specs.Prelude.{ℕ, ◌+◌, ◌-◌, min, List, take, drop}
use Rattle.pages.specs.declared.PageOffset.{PageOffset}
use Rattle.pages.specs.declared.ImageOffset.{ImageOffset}

-- "Bytes 0 to 3 of a page are management"
abbrev pub management_size : ℕ
management_size = 4

abbrev pub management_of : List ℕ → List ℕ
management_of page = take management_size page

-- "Bytes 4 to P - 1 are the image"
abbrev pub image_of : List ℕ → List ℕ
image_of page = drop management_size page

-- how many bytes that is
abbrev pub image_size : ℕ → ℕ
image_size p = p - management_size

-- the page offset of an image offset, the one conversion: "Work inside the image counts from byte
-- 4". An offset has 32 bits; one past them stays at the last, where no page has a byte.
unfoldable pub to_page : ImageOffset → PageOffset
to_page i = record { 0 = min (management_size + i.0) 4294967295 }
