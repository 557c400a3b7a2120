-- What a read shows after a save or a format was cut: the image before it, what it was to leave, or
-- another (docs/FORMATS.md, "replay").
-- In order: what a read shows; the new image, byte by byte; the verdict; counting verdicts.
-- Laws: proofs/Laws.antt, where the new image is the old one with the data laid in. Assumes nothing.
use Rattle.std.specs.Prelude.{ℕ, ◌+◌, ◌-◌, ◌*◌, ◌%◌, ◌^◌, Bool, true, false, cond, ◌&&◌, List, [], ◌∷◌, length, ◌==◌, nat_le, nat_lt, slice_index_or}
use Rattle.pages.specs.declared.PageOffset.{PageOffset}
use Rattle.pages.specs.declared.ImageOffset.{ImageOffset}
use Rattle.pages.specs.Offsets.{to_page}
use Rattle.plans.specs.declared.Request.{Request}
use Rattle.plans.specs.declared.Request.TheVariants.{Save, Format}
use Rattle.plans.specs.Counts.{cell_count}
use Rattle.reads.specs.Reads.{read_part}
use Rattle.texts.specs.Texts.{same}
use Rattle.verdicts.specs.declared.Verdict.{Verdict}
use Rattle.verdicts.specs.declared.Verdict as D
use Rattle.verdicts.specs.declared.Tally.{Tally}

-- "a read of the whole image", all its cells: nothing where it is refused or no page is live
abbrev pub shown : List ℕ → List ℕ → List ℕ
shown l r = read_part l r (to_page (record { 0 = 0 })) (cell_count (length l) * 2)

-- ---- the new image
-- a byte of an image, "FF where there was none"
abbrev pub old_byte : List ℕ → ImageOffset → ℕ
old_byte image i = slice_index_or image i.0 255

-- a byte of the image with data laid in from a page offset on
abbrev pub new_byte : List ℕ → PageOffset → List ℕ → ImageOffset → ℕ
new_byte image o d i =
    let place = (to_page i).0 in
    cond (nat_lt place o.0) (old_byte image i) (slice_index_or d (place - o.0) (old_byte image i))

-- whether bytes that lie from an image offset on are those of the new image
unfoldable pub is_new : List ℕ → List ℕ → PageOffset → List ℕ → ℕ → Bool
is_new [] old o d i = true
is_new (x ∷ xs) old o d i = x == new_byte old o d (record { 0 = i }) && is_new xs old o d (i + 1)

-- whether an image, which is no longer than a page, is the one before a save with its data laid in
abbrev pub is_saved : List ℕ → List ℕ → PageOffset → List ℕ → Bool
is_saved image old o d = nat_le (length image) 4096 && is_new image old o d 0

-- ---- the verdict
-- "a read is answered 5, as before the save" (or format); "shows the old image, whole"; "shows the old
-- image, whole, which is the new one too"; "shows the new image, whole"; "is answered 5, as the format
-- has it"; "shows ANOTHER IMAGE"
pub data Shows : Type 0 where
  no_image : Shows
  old : Shows
  both : Shows
  new : Shows
  gone : Shows
  another : Shows

abbrev pub verdict_in : Verdict → Shows
verdict_in D.TheVariants.NoImage = no_image
verdict_in D.TheVariants.Old = old
verdict_in D.TheVariants.Both = both
verdict_in D.TheVariants.New = new
verdict_in D.TheVariants.Gone = gone
verdict_in D.TheVariants.Another = another

abbrev pub image_verdict : Bool → Bool → Shows
image_verdict true true = both
image_verdict true false = old
image_verdict false true = new
image_verdict false false = another

-- whether an image is the one that a request is to leave; "of a format .. none"
abbrev pub is_asked : Request → List ℕ → List ℕ → PageOffset → List ℕ → Bool
is_asked Save image before o d = is_saved image before o d
is_asked Format image before o d = false

-- no image where there was one: what a format is to leave, and nothing that a save may show
abbrev pub lost_shows : Request → Shows
lost_shows Save = another
lost_shows Format = gone

-- what a read shows beside the image before the request; no bytes stand for no image
unfoldable pub verdict_of : Request → List ℕ → List ℕ → PageOffset → List ℕ → Shows
verdict_of q [] [] o d = no_image
verdict_of q [] (y ∷ ys) o d = lost_shows q
verdict_of q (x ∷ xs) before o d =
    image_verdict (same (x ∷ xs) before) (is_asked q (x ∷ xs) before o d)

-- ---- counting
abbrev pub one_more : ℕ → ℕ
one_more n = (n + 1) % 2 ^ 64

abbrev pub no_cuts : Tally
no_cuts = record { old = 0; new = 0; another = 0 }

-- with one verdict more; what a read shows where nothing new is to be seen counts as old, and what a
-- format leaves as new
abbrev pub counted : Tally → Shows → Tally
counted t new = record { old = t.old; new = one_more t.new; another = t.another }
counted t gone = record { old = t.old; new = one_more t.new; another = t.another }
counted t another = record { old = t.old; new = t.new; another = one_more t.another }
counted t no_image = record { old = one_more t.old; new = t.new; another = t.another }
counted t old = record { old = one_more t.old; new = t.new; another = t.another }
counted t both = record { old = one_more t.old; new = t.new; another = t.another }
