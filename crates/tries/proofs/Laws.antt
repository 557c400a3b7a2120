-- Laws of an entry tried on the pages.
-- In order: its line met or not; what a try leaves that isn't made; the image that a new one is made from.
-- Not here: a flash step on two pages (the crate steps). Assumes nothing.
use Rattle.std.specs.Prelude.{Option, Some, None}
use Prim.Native.Nat.{ℕ, ◌<◌}
use mathlib.Core.Path.{◌≡◌, refl, sym, ap, ◌∙◌}
use mathlib.Core.Bool.{Bool, true, false, cond}
use mathlib.Core.List.{List, []}
use native.Mathlib.Omega.{arith}
use lib.ListN.{length, drop_of_length-le}
use borrow.Author.Tests.{ne_eqb}
use Rattle.pages.specs.declared.Side.{Side}
use Rattle.pages.specs.declared.Side.TheVariants.{Left, Right}
use Rattle.pages.specs.declared.PageOffset.{PageOffset}
use Rattle.pages.specs.declared.ImageOffset.{ImageOffset}
use Rattle.pages.specs.Pages.{line_of, live_of, status_of}
use Rattle.pages.specs.Offsets.{image_of}
use Rattle.pages.proofs.Table.{status_live}
use Rattle.steps.specs.declared.Step.TheVariants.{Image}
use Rattle.steps.specs.Steps.{Tried, tried}
use Rattle.steps.proofs.Laws.{tried_unfit}
use Rattle.images.specs.Images.{image_on, live_image, or_blank, new_cell}
use Rattle.plans.specs.declared.Entry.{Entry}
use Rattle.plans.specs.Plans.{clean, meets}
use Rattle.lines.proofs.Words.{meets_same}
use Rattle.tries.specs.Tries.{attempt, cell_entry}

-- ---- the line
pub try_met : (x : Entry) (l r : List ℕ) (t : Tried) → meets x.state (status_of l r).state ≡ true
    → t ≡ tried x.step l r → t ≡ attempt x l r
unfolding attempt
try_met x l r t e h = h ∙ sym (simp e)

pub try_unmet : (x : Entry) (l r : List ℕ) → meets x.state (status_of l r).state ≡ false
    → ◌≡◌ {A = Tried} (record { number = 6; left = l; right = r }) (attempt x l r)
unfolding attempt
try_unmet x l r e = sym (simp e)

-- at any other line than its own an entry is number 6 and keeps both pages, whatever its flash step is
pub elsewhere_kept : (x : Entry) (l r : List ℕ) → (line_of x.state ≡ line_of (status_of l r).state → ⊥)
    → attempt x l r ≡ (record { number = 6; left = l; right = r })
elsewhere_kept x l r h = sym (try_unmet x l r (ne_eqb (line_of x.state) (line_of (status_of l r).state) h))

-- ---- what isn't made is number 6, and both pages are as they were
pub unmade_kept : (x : Entry) (l r : List ℕ) → ((attempt x l r).number ≡ 0 → ⊥)
    → attempt x l r ≡ (record { number = 6; left = l; right = r })
unfolding attempt
unmade_kept x l r = go (meets x.state (status_of l r).state)
  where
    go : (t : Bool)
        → ((cond t (tried x.step l r) (record { number = 6; left = l; right = r })).number ≡ 0 → ⊥)
        → cond t (tried x.step l r) (record { number = 6; left = l; right = r })
        ≡ (record { number = 6; left = l; right = r })
    go true h = tried_unfit x.step l r h
    go false h = refl

-- ---- the image that the new one is made from
pub no_image_lem : (page : List ℕ) → length page < 4 → [] ≡ image_of page
no_image_lem page h = sym (drop_of_length-le page {i = 4} (omega arith))

-- where the pages are at the line of the image cells, the live side is the one that it is named by
clean_live : (live : Option Side) → live_of (clean live) ≡ live
unfolding live_of
clean_live None = refl
clean_live (Some Left) = refl
clean_live (Some Right) = refl

pub clean_image : (live : Option Side) (l r : List ℕ) → meets (clean live) (status_of l r).state ≡ true
    → live_image l r ≡ image_on live l r
unfolding live_image
clean_image live l r e =
    ap (λ (x : Option Side). image_on x l r)
    (status_live l r ∙ ap live_of (meets_same (clean live) (status_of l r).state e) ∙ clean_live live)

pub cell_tried : (live : Option Side) (s : Side) (at : ImageOffset) (o : PageOffset) (d l r old : List ℕ) (v : ℕ) (t : Tried)
    → meets (clean live) (status_of l r).state ≡ true → old ≡ or_blank 0 (image_on live l r) → v ≡ new_cell old o d at
    → t ≡ tried (Image s at v) l r → t ≡ attempt (cell_entry live s at o d l r) l r
cell_tried live s at o d l r old v t m e f h =
    try_met (cell_entry live s at o d l r) l r t m
    (h ∙ ap (λ (n : ℕ). tried (Image s at n) l r) (f ∙ ap (λ (x : List ℕ). new_cell x o d at) e))
