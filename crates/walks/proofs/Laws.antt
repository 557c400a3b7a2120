-- Laws of the list of a walk with right numbers: what stands at its place, and how long it is.
-- Not here: the list of a request (the crate plans). Assumes nothing.
use Prim.Native.Nat.{ℕ, ◌+◌, ◌%◌, ◌<◌}
use mathlib.Core.Path.{◌≡◌, refl, sym, ap, subst, ◌∙◌}
use mathlib.Core.Bool.{Bool, true, false}
use mathlib.Core.List.{List}
use Rattle.std.specs.Prelude.{Option, None, Some}
use native.Mathlib.Omega.{arith}
use lib.ListN.{length, get_or, length-drop}
use Rattle.flash.specs.Flash.{cell_at}
use Rattle.pages.specs.declared.Side.{Side}
use Rattle.pages.specs.declared.Side.TheVariants.{Left, Right}
use Rattle.pages.specs.declared.PageOffset.{PageOffset}
use Rattle.pages.specs.declared.ImageOffset.{ImageOffset}
use Rattle.pages.specs.Pages.{live_of, status_of}
use Rattle.pages.specs.Offsets.{image_of, image_size}
use Rattle.requests.specs.Legal.{Legal}
use Rattle.steps.specs.declared.Step.TheVariants.{Image}
use Rattle.steps.specs.Steps.{Tried}
use Rattle.images.specs.Images.{image_on, live_image, or_blank, new_cell}
use Rattle.images.proofs.Laws.{Places, new_cell_at, new_cell_blank}
use Rattle.plans.specs.declared.Entry.{Entry}
use Rattle.plans.specs.declared.Plan.{Plan}
use Rattle.plans.specs.declared.Spot.{Spot}
use Rattle.plans.specs.declared.Spot.TheVariants.{Fixed, Cell}
use Rattle.plans.specs.declared.ImageCell.{ImageCell}
use Rattle.plans.specs.Plans.{entry, target, clean, meets, nothing}
use Rattle.plans.specs.Counts.{step_count}
use Rattle.plans.specs.Spots.{entry_at, entry_in, Stands, image_cell, Programs}
use Rattle.plans.proofs.Spots.{entry_at_lem, cell_found}
use Rattle.tries.specs.Tries.{attempt, cell_entry}
use Rattle.tries.proofs.Laws.{try_unmet, clean_image}
use Rattle.walks.specs.declared.Walk.{Walk}
use Rattle.walks.specs.Walks.{new_image, steps_of, wrong_numbers}
use Rattle.walks.proofs.Sizes.{new_length, steps_length}
use Rattle.walks.proofs.Numbers.{right_legal, right_page, kept_legal}

-- the new image for the pages as they are
abbrev pub image_for : Walk → List ℕ → List ℕ → List ℕ → List ℕ
image_for w l r d = new_image (live_of w.start) w.page w.offset d (live_image l r)

image_size_lem : (w : Walk) (l r d : List ℕ) → wrong_numbers w (length l) (length r) (length d) ≡ false
    → length (image_for w l r d) ≡ image_size w.page
image_size_lem w l r d e =
    let h = kept_legal w (length l) (length r) (length d) e in
    let p = right_page w (length l) (length r) (length d) e in
    let q = sym (right_legal w (length l) (length r) (length d) e).same ∙ p in
    new_length (live_of w.start) l r w.page w.offset d p q h

-- ---- the list of a walk by its request
abbrev pub plan_of : Walk → Plan
plan_of w = record { request = w.request; start = w.start; erased = w.erased; page = w.page }

abbrev pub total_of : Walk → ℕ
total_of w = step_count w.request w.start w.erased w.page

pub total_steps : (w : Walk) (l r d : List ℕ) → wrong_numbers w (length l) (length r) (length d) ≡ false
    → length (steps_of w l r d) ≡ total_of w
total_steps w l r d e =
    steps_length w l r d e
    ∙ ap (λ (p : ℕ). step_count w.request w.start w.erased p)
    (right_page w (length l) (length r) (length d) e)

-- the entry of the list at the walk's place
abbrev here : Walk → List ℕ → List ℕ → List ℕ → Entry
here w l r d = get_or (steps_of w l r d) w.place nothing

listed : (w : Walk) (l r d : List ℕ) → wrong_numbers w (length l) (length r) (length d) ≡ false → w.place < total_of w
    → entry_at (steps_of w l r d) w.place ≡ Some (here w l r d)
listed w l r d e h =
    let n = total_steps w l r d e in
    entry_at_lem (steps_of w l r d) w.place (omega (arith, n))

-- what a look at that place says
abbrev pub Looked : Walk → Option Spot → Type 0
Looked w x = Stands w.request w.start w.erased w.page w.place x

abbrev pub Sought : Walk → Option ImageCell → Type 0
Sought w x = Programs w.request w.start w.erased w.page w.place x

-- looked up by the list that the walk gives
pub looked : (w : Walk) (p : Plan) (s : Option Spot) → p ≡ plan_of w
    → Stands p.request p.start p.erased p.page w.place s → Looked w s
looked w p s e h = subst (λ (q : Plan). Stands q.request q.start q.erased q.page w.place s) e h

pub sought : (w : Walk) (p : Plan) (x : Option ImageCell) → p ≡ plan_of w
    → Programs p.request p.start p.erased p.page w.place x → Sought w x
sought w p x e h = subst (λ (q : Plan). Programs q.request q.start q.erased q.page w.place x) e h

-- an entry that was found there is the list's
pub walk_fixed : (w : Walk) (l r d : List ℕ) (s : Option Spot) (x : Entry) (t : Tried)
    → wrong_numbers w (length l) (length r) (length d) ≡ false → w.place < total_of w → Looked w s → s ≡ Some (Fixed x)
    → t ≡ attempt x l r → t ≡ attempt (here w l r d) l r
walk_fixed w l r d s x t e h k f g =
    let found : Some x ≡ Some (here w l r d) =
    ap (entry_in (image_for w l r d)) (sym f) ∙ k (image_for w l r d) (image_size_lem w l r d e) ∙ listed w l r d e h in
    let same : x ≡ here w l r d = cc in
    g ∙ ap (λ (y : Entry). attempt y l r) same

-- there is something at the walk's place, and where no image cell was found it is an entry
pub entry_there : (w : Walk) (l r d : List ℕ) (s : Option Spot) (x : Option ImageCell)
    → wrong_numbers w (length l) (length r) (length d) ≡ false → w.place < total_of w → Looked w s → Sought w x
    → x ≡ None → ((y : Entry) → s ≡ Some (Fixed y) → ⊥) → ⊥
entry_there w l r d None x e h k m f g =
    let found : None ≡ Some (here w l r d) =
    k (image_for w l r d) (image_size_lem w l r d e) ∙ listed w l r d e h in
    let z : ◌≡◌ {A = ℕ} 0 1 = cc in omega (arith, z)
entry_there w l r d (Some (Fixed y)) x e h k m f g = g y refl
entry_there w l r d (Some (Cell state cell)) x e h k m f g =
    let new = image_for w l r d in
    let size = image_size_lem w l r d e in
    let found : Some cell ≡ None = ap image_cell (k new size) ∙ sym (m new size) ∙ f in
    let z : ◌≡◌ {A = ℕ} 0 1 = cc in omega (arith, z)

-- ---- an image cell that was found there
-- its number, made from the page that is live, is the one in the new image
places : (n : ℕ) (l r d : List ℕ) (o : PageOffset) (at : ImageOffset) → Legal (length l) (length r) o (length d)
    → n ≡ image_size (length l) → at.0 % 2 ≡ 0 → at.0 + 1 < n → Places n o (length d) at
places n l r d o at h size even within =
    record {
      in_image = h.in_image;
      even_offset = h.even_offset;
      even_length = h.even_length;
      ends = omega (arith, h, size);
      even_cell = even;
      cell_in = within;
      bits = omega (arith, h, size);
    }

cell_value : (live : Option Side) (l r d : List ℕ) (o : PageOffset) (at : ImageOffset)
    → Legal (length l) (length r) o (length d) → at.0 % 2 ≡ 0 → at.0 + 1 < image_size (length l)
    → new_cell (or_blank 0 (image_on live l r)) o d at
    ≡ cell_at (new_image live (length l) o d (image_on live l r)) at.0
cell_value None l r d o at h even within =
    new_cell_blank (image_size (length l)) o d at (places (image_size (length l)) l r d o at h refl even within)
cell_value (Some Left) l r d o at h even within =
    let n : length (image_of l) ≡ image_size (length l) = length-drop 4 l in
    new_cell_at (image_of l) o d at (places (length (image_of l)) l r d o at h n even (omega (arith, n)))
cell_value (Some Right) l r d o at h even within =
    let n : length (image_of r) ≡ image_size (length l) = length-drop 4 r ∙ ap image_size (sym h.same) in
    new_cell_at (image_of r) o d at (places (length (image_of r)) l r d o at h n even (omega (arith, n)))

-- so trying it is trying the list's entry: at another line both are number 6
cell_tried : (live : Option Side) (l r d : List ℕ) (o : PageOffset) (at : ImageOffset) (s : Side) (t : Bool)
    → meets (clean live) (status_of l r).state ≡ t → Legal (length l) (length r) o (length d) → at.0 % 2 ≡ 0
    → at.0 + 1 < image_size (length l) → s ≡ target live
    → attempt (cell_entry live s at o d l r) l r
    ≡ attempt
    (entry (clean live) (Image (target live) at (cell_at (new_image live (length l) o d (live_image l r)) at.0))) l r
cell_tried live l r d o at s true m h even within side =
    let value : new_cell (or_blank 0 (image_on live l r)) o d at
    ≡ cell_at (new_image live (length l) o d (live_image l r)) at.0 =
    cell_value live l r d o at h even within
    ∙ ap (λ (x : Option (List ℕ)). cell_at (new_image live (length l) o d x) at.0) (sym (clean_image live l r m)) in
    λ i. attempt (entry (clean live) (Image (side i) at (value i))) l r
cell_tried live l r d o at s false m h even within side =
    sym (try_unmet (cell_entry live s at o d l r) l r m)
    ∙ try_unmet
    (entry (clean live) (Image (target live) at (cell_at (new_image live (length l) o d (live_image l r)) at.0))) l r m

pub walk_cell : (w : Walk) (l r d : List ℕ) (x : Option ImageCell) (cell : ImageCell) (live : Option Side) (t : Tried)
    → wrong_numbers w (length l) (length r) (length d) ≡ false → w.place < total_of w → Sought w x
    → x ≡ Some cell → live ≡ live_of w.start → t ≡ attempt (cell_entry live cell.side cell.at w.offset d l r) l r
    → t ≡ attempt (here w l r d) l r
walk_cell w l r d x cell live t e h k f v g =
    let new = image_for w l r d in
    let size = image_size_lem w l r d e in
    let p = right_page w (length l) (length r) (length d) e in
    let found =
    cell_found w.request w.start w.erased w.place new cell.side cell.at w.page size
    (sym f ∙ k new size) in
    let same : Some (entry (clean (live_of w.start)) (Image (target (live_of w.start)) cell.at (cell_at new cell.at.0)))
    ≡ Some (here w l r d) =
    sym found.here ∙ listed w l r d e h in
    let entries : entry (clean (live_of w.start)) (Image (target (live_of w.start)) cell.at (cell_at new cell.at.0))
    ≡ here w l r d = cc in
    g
    ∙ cell_tried live l r d w.offset cell.at cell.side (meets (clean live) (status_of l r).state) refl
    (right_legal w (length l) (length r) (length d) e) found.even (omega (arith, found.within, size, p))
    (found.side ∙ ap target (sym v))
    ∙ (λ i.
    attempt
    (entry (clean (v i)) (Image (target (v i)) cell.at (cell_at (new_image (v i) (p i) w.offset d (live_image l r))
    cell.at.0)))
    l r)
    ∙ ap (λ (y : Entry). attempt y l r) entries
