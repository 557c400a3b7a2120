-- What stands at a place is what the list has there, whatever the new image: `spot_entry`.
-- In order: the entry at a place of a list; of a save; of a request; the look-up itself; image cells: the one at a place,
-- and that each stands once and an earlier one lower.
-- Assumes nothing.
use Prim.Native.Nat.{ℕ, zero, suc, ◌+◌, ◌-◌, ◌*◌, ◌/◌, ◌%◌, ◌<◌, ◌≤◌}
use mathlib.Core.Path.{◌≡◌, refl, sym, ap, subst, ◌∙◌}
use mathlib.Core.Bool.{Bool, true, false, cond, ◌&&◌}
use mathlib.Core.List.{List, [], ◌∷◌}
use Rattle.std.specs.Prelude.{Option, None, Some}
use native.Mathlib.Omega.{arith}
use lib.Dec.{ltb}
use lib.ListN.{length, get_or}
use borrow.Author.Tests.{ltb-true, ltb-false, lt-ltb, le-ltb}
use Rattle.flash.specs.Flash.{cell_at}
use Rattle.pages.specs.declared.State.{State}
use Rattle.pages.specs.declared.State.TheVariants.{S0, S1, S2, S3, S5, S6, S7, S8, S9, S10}
use Rattle.pages.specs.declared.Side.{Side}
use Rattle.pages.specs.declared.Side.TheVariants.{Right}
use Rattle.pages.specs.declared.ImageOffset.{ImageOffset}
use Rattle.pages.specs.Pages.{live_of}
use Rattle.pages.specs.Offsets.{image_size}
use Rattle.steps.specs.declared.Step.TheVariants.{Image}
use Rattle.plans.specs.declared.Request.{Request}
use Rattle.plans.specs.declared.Request.TheVariants.{Save, Format}
use Rattle.plans.specs.declared.Entry.{Entry}
use Rattle.plans.specs.declared.ImageCell.{ImageCell}
use Rattle.plans.specs.declared.Spot.{Spot}
use Rattle.plans.specs.declared.Spot.TheVariants.{Fixed, Cell}
use Rattle.plans.specs.Plans.{
  entry,
  committing,
  mark,
  counts,
  erases_both,
  ready,
  clean,
  target,
  marks,
  saving,
  formatting,
  plan,
  nothing,
}
use Rattle.plans.specs.Counts.{cell_count, added, step_count}
use Rattle.plans.specs.Spots.{
  entry_at,
  entry_in,
  step_cell,
  image_cell,
  save_spot_at,
  save_spot,
  request_spot,
  spot_of,
  cell_of,
  spot_cell,
}
use Rattle.plans.proofs.Counts.{ready_length, plan_length}
use Rattle.plans.proofs.Laws.{ready_some, ready_count, save_ready, save_cell, save_mark, format_at}

-- ---- the entry at a place of a list
pub entry_at_lem : (xs : List Entry) (k : ℕ) → k < length xs → entry_at xs k ≡ Some (get_or xs k nothing)
unfolding entry_at
entry_at_lem [] k h = absurd (omega arith)
entry_at_lem (x ∷ xs) zero h = refl
entry_at_lem (x ∷ xs) (suc k) h = entry_at_lem xs k (omega arith)

pub entry_past : (xs : List Entry) (k : ℕ) → length xs ≤ k → entry_at xs k ≡ None
unfolding entry_at
entry_past [] k h = refl
entry_past (x ∷ xs) zero h = absurd (omega arith)
entry_past (x ∷ xs) (suc k) h = entry_past xs k (omega arith)

-- ---- of a save
ready_erased : (start : State) (erased : Bool) (place : ℕ) → place < length (ready start erased)
    → get_or (ready start erased) place nothing ≡ get_or (ready start false) place nothing
ready_erased start erased place h = ap (λ (xs : List Entry). get_or xs place nothing) (ready_some start erased place h)

save_spot_entry : (start : State) (erased : Bool) (new : List ℕ) (p place : ℕ) → length new ≡ image_size p
    → entry_in new (Some (save_spot start erased p place)) ≡ Some (get_or (saving start erased new) place nothing)
unfolding save_spot
save_spot_entry start erased new p place size =
    go (ltb place (length (ready start erased))) (ltb (place - length (ready start erased)) (cell_count p)) refl refl
  where
    go : (s t : Bool) → ltb place (length (ready start erased)) ≡ s
        → ltb (place - length (ready start erased)) (cell_count p) ≡ t
        → entry_in new
        (Some
        (cond s (Fixed (get_or (ready start erased) place nothing))
        (cond t
        (Cell (clean (live_of start))
        (record { side = target (live_of start); at = record { 0 = (place - length (ready start erased)) * 2 } }))
        (Fixed
        (get_or (marks (live_of start)) (place - length (ready start erased) - cell_count p) nothing)))))
        ≡ Some (get_or (saving start erased new) place nothing)
    go true t e f =
        let h = ltb-true place (length (ready start erased)) e in
        let n : length (ready start erased) ≡ added start erased - 3 = ready_count start erased in
        ap Some (ready_erased start erased place h ∙ save_ready start erased new place (omega arith))
    go false true e f =
        let h = ltb-false place (length (ready start erased)) e in
        let k = ltb-true (place - length (ready start erased)) (cell_count p) f in
        let n : length (ready start erased) ≡ added start erased - 3 = ready_count start erased in
        ap Some
        (save_cell start erased new place (place - length (ready start erased)) (omega arith)
        (ap (λ (m : ℕ). place - m) n) (omega arith))
    go false false e f =
        let h = ltb-false place (length (ready start erased)) e in
        let k = ltb-false (place - length (ready start erased)) (cell_count p) f in
        let n : length (ready start erased) ≡ added start erased - 3 = ready_count start erased in
        let half : cell_count p ≡ length new / 2 = ap (λ (m : ℕ). m / 2) (sym size) in
        ap Some
        (ap (λ (m : ℕ). get_or (marks (live_of start)) (place - length (ready start erased) - m) nothing) half
        ∙ save_mark start erased new place (place - length (ready start erased)) (omega arith)
        (ap (λ (m : ℕ). place - m) n) (omega arith))

-- ---- of a request
request_spot_entry : (request : Request) (start : State) (erased : Bool) (new : List ℕ) (p place : ℕ)
    → length new ≡ image_size p
    → entry_in new (Some (request_spot request start erased p place))
    ≡ Some (get_or (plan request start erased new) place nothing)
request_spot_entry Save start erased new p place size = save_spot_entry start erased new p place size
request_spot_entry Format start erased new p place size = refl

pub inside : (request : Request) (start : State) (erased : Bool) (p place : ℕ)
    → place < step_count request start erased p
    → spot_of request start erased p place ≡ Some (request_spot request start erased p place)
unfolding spot_of
inside request start erased p place h = simp (lt-ltb place (step_count request start erased p) h)

pub beyond : (request : Request) (start : State) (erased : Bool) (p place : ℕ)
    → step_count request start erased p ≤ place
    → None ≡ spot_of request start erased p place
unfolding spot_of
beyond request start erased p place h = sym (simp (le-ltb place (step_count request start erased p) h))

-- the look-up says what the list has, whatever the new image
pub spot_entry : (request : Request) (start : State) (erased : Bool) (p place : ℕ) (x : Option Spot)
    → x ≡ spot_of request start erased p place → (new : List ℕ) → length new ≡ image_size p
    → entry_in new x ≡ entry_at (plan request start erased new) place
spot_entry request start erased p place x e new size =
    ap (entry_in new) e ∙ go (ltb place (step_count request start erased p)) refl
  where
    list : List Entry
    list = plan request start erased new

    long : length list ≡ step_count request start erased p
    long = plan_length request start erased new p size

    go : (t : Bool) → ltb place (step_count request start erased p) ≡ t
        → entry_in new (spot_of request start erased p place) ≡ entry_at list place
    go true q =
        let h = ltb-true place (step_count request start erased p) q in
        ap (entry_in new) (inside request start erased p place h)
        ∙ request_spot_entry request start erased new p place size
        ∙ sym (entry_at_lem list place (omega (arith, long)))
    go false q =
        let h = ltb-false place (step_count request start erased p) q in
        ap (entry_in new) (sym (beyond request start erased p place h))
        ∙ sym (entry_past list place (omega (arith, long)))

-- ---- the look-up
-- a save's place before the image cells, among them and after them
pub spot_ready : (start : State) (erased : Bool) (p place : ℕ) (x : Entry) → place < added start erased - 3
    → x ≡ get_or (ready start false) place nothing → Fixed x ≡ save_spot start erased p place
unfolding save_spot
spot_ready start erased p place x h e =
    let n : length (ready start erased) ≡ added start erased - 3 = ready_count start erased in
    let k : place < length (ready start erased) = omega arith in
    ap Fixed (e ∙ sym (ready_erased start erased place k)) ∙ sym (simp (lt-ltb place (length (ready start erased)) k))

after_ready : (start : State) (erased : Bool) (p place : ℕ) → added start erased - 3 ≤ place
    → save_spot start erased p place
    ≡ cond (ltb (place - (added start erased - 3)) (cell_count p))
    (Cell (clean (live_of start))
    (record { side = target (live_of start); at = record { 0 = (place - (added start erased - 3)) * 2 } }))
    (Fixed (get_or (marks (live_of start)) (place - (added start erased - 3) - cell_count p) nothing))
unfolding save_spot
after_ready start erased p place h =
    let n : length (ready start erased) ≡ added start erased - 3 = ready_count start erased in
    ap (λ (m : ℕ). save_spot_at start erased p m place) n ∙ simp (le-ltb place (added start erased - 3) h)

pub spot_cell_lem : (start : State) (erased : Bool) (p place : ℕ) (state : State) (s : Side) (live : Option Side) (k n : ℕ)
    → added start erased - 3 ≤ place → k ≡ place - (added start erased - 3) → n ≡ cell_count p → k < n
    → live ≡ live_of start → state ≡ clean live → s ≡ target live
    → Cell state (record { side = s; at = record { 0 = k * 2 } }) ≡ save_spot start erased p place
spot_cell_lem start erased p place state s live k n h e f g v q t =
    let here : place - (added start erased - 3) < cell_count p = omega arith in
    (λ i. Cell ((q ∙ ap clean v) i) (record { side = (t ∙ ap target v) i; at = record { 0 = e i * 2 } }))
    ∙ sym (after_ready start erased p place h
    ∙ simp (lt-ltb (place - (added start erased - 3)) (cell_count p) here))

pub spot_mark : (start : State) (erased : Bool) (p place : ℕ) (live : Option Side) (k n : ℕ) (x : Entry)
    → added start erased - 3 ≤ place → k ≡ place - (added start erased - 3) → n ≡ cell_count p → n ≤ k
    → live ≡ live_of start → x ≡ get_or (marks live) (k - n) nothing → Fixed x ≡ save_spot start erased p place
spot_mark start erased p place live k n x h e f g v q =
    let here : cell_count p ≤ place - (added start erased - 3) = omega arith in
    ap Fixed (q ∙ (λ i. get_or (marks (v i)) (e i - f i) nothing))
    ∙ sym (after_ready start erased p place h
    ∙ simp (le-ltb (place - (added start erased - 3)) (cell_count p) here))

pub spot_format : (start : State) (erased : Bool) (p place : ℕ) (x : Entry) → place < step_count Format start erased p
    → x ≡ get_or (formatting start false) place nothing → Fixed x ≡ request_spot Format start erased p place
spot_format start erased p place x h e = ap Fixed (e ∙ format_at start erased place h)

-- the look-up by its request, once a match has told which it is
pub count_of : (request kind : Request) (start : State) (erased : Bool) (p place : ℕ) → request ≡ kind
    → place < step_count request start erased p → place < step_count kind start erased p
count_of request kind start erased p place e h = subst (λ (q : Request). place < step_count q start erased p) e h

pub spot_of_lem : (request kind : Request) (start : State) (erased : Bool) (p place : ℕ) (x : Spot) → request ≡ kind
    → place < step_count request start erased p → x ≡ request_spot kind start erased p place
    → Some x ≡ spot_of request start erased p place
spot_of_lem request kind start erased p place x e h f =
    ap Some (f ∙ ap (λ (q : Request). request_spot q start erased p place) (sym e))
    ∙ sym (inside request start erased p place h)

-- ---- the image cell at a place
-- no step before the image cells, no mark and no step of a format programs an image cell
abbrev Still : List Entry → Type 0
Still [] = Unit {0}
Still (x ∷ xs) = (step_cell x.step ≡ None) × Still xs

still_at : (xs : List Entry) (k : ℕ) → Still xs → step_cell (get_or xs k nothing).step ≡ None
still_at [] k h = refl
still_at (x ∷ xs) zero h = h.0
still_at (x ∷ xs) (suc k) h = still_at xs k h.1

still_ready : (start : State) (erased : Bool) → Still (ready start erased)
unfolding live_of
still_ready S0 true = tt
still_ready S0 false = (refl, (refl, (refl, tt)))
still_ready S1 true = tt
still_ready S1 false = (refl, tt)
still_ready S2 erased = (refl, (refl, tt))
still_ready S3 erased = (refl, tt)
still_ready S5 erased = (refl, (refl, (refl, tt)))
still_ready S6 erased = (refl, (refl, tt))
still_ready S7 erased = (refl, tt)
still_ready S8 true = tt
still_ready S8 false = (refl, tt)
still_ready S9 erased = (refl, (refl, (refl, tt)))
still_ready S10 erased = (refl, (refl, tt))

still_marks : (live : Option Side) → Still (marks live)
still_marks None = (refl, (refl, (refl, tt)))
still_marks (Some s) = (refl, (refl, (refl, tt)))

still_format : (start : State) (erased : Bool) → Still (formatting start erased)
unfolding formatting
still_format start erased = go (counts Format start && erased)
  where
    go : (t : Bool) → Still (cond t [] (committing start (mark Right 2 0x0000) ∷ erases_both))
    go true = tt
    go false = (refl, (refl, (refl, tt)))

-- so what stands at a place programs an image cell exactly if it is one, whose line, side and place these are
abbrev Sound : State → ℕ → Spot → Type 0
Sound start p (Fixed x) = step_cell x.step ≡ None
Sound start p (Cell state c) =
    (state ≡ clean (live_of start)) × (c.side ≡ target (live_of start)) × (c.at.0 % 2 ≡ 0)
    × (c.at.0 / 2 < cell_count p)

abbrev Proper : State → ℕ → Option Spot → Type 0
Proper start p None = Unit {0}
Proper start p (Some x) = Sound start p x

save_sound : (start : State) (erased : Bool) (p place : ℕ) → Sound start p (save_spot start erased p place)
unfolding save_spot
save_sound start erased p place =
    go (ltb place (length (ready start erased))) (ltb (place - length (ready start erased)) (cell_count p)) refl
  where
    go : (s t : Bool) → ltb (place - length (ready start erased)) (cell_count p) ≡ t
        → Sound start p
        (cond s (Fixed (get_or (ready start erased) place nothing))
        (cond t
        (Cell (clean (live_of start))
        (record { side = target (live_of start); at = record { 0 = (place - length (ready start erased)) * 2 } }))
        (Fixed
        (get_or (marks (live_of start)) (place - length (ready start erased) - cell_count p) nothing))))
    go true t e = still_at (ready start erased) place (still_ready start erased)
    go false true e =
        let k = ltb-true (place - length (ready start erased)) (cell_count p) e in
        (refl, refl, omega arith, omega arith)
    go false false e =
        still_at (marks (live_of start)) (place - length (ready start erased) - cell_count p)
        (still_marks (live_of start))

spot_sound : (request : Request) (start : State) (erased : Bool) (p place : ℕ)
    → Proper start p (spot_of request start erased p place)
unfolding spot_of
spot_sound request start erased p place = go (ltb place (step_count request start erased p)) request
  where
    go : (t : Bool) (q : Request) → Proper start p (cond t (Some (request_spot q start erased p place)) None)
    go true Save = save_sound start erased p place
    go true Format = still_at (formatting start erased) place (still_format start erased)
    go false q = tt

sound_cell : (start : State) (p : ℕ) (new : List ℕ) (x : Option Spot) → Proper start p x
    → image_cell (entry_in new x) ≡ spot_cell x
sound_cell start p new None h = refl
sound_cell start p new (Some (Fixed x)) h = h
sound_cell start p new (Some (Cell state c)) h = refl

-- the image cell of the list's entry is the one of the look-up
pub list_cell : (request : Request) (start : State) (erased : Bool) (p place : ℕ) (new : List ℕ)
    → length new ≡ image_size p
    → spot_cell (spot_of request start erased p place) ≡ image_cell (entry_at (plan request start erased new) place)
list_cell request start erased p place new size =
    sym (sound_cell start p new (spot_of request start erased p place) (spot_sound request start erased p place))
    ∙ ap image_cell (spot_entry request start erased p place (spot_of request start erased p place) refl new size)

-- past a save's image cells none stands, whether the list goes on or not
pub cell_save : (request : Request) (start : State) (erased : Bool) (p place : ℕ) → request ≡ Save
    → cell_of (save_spot start erased p place) ≡ spot_cell (spot_of request start erased p place)
unfolding spot_of save_spot
cell_save request start erased p place e =
    go (ltb place (step_count Save start erased p)) refl
    ∙ ap (λ (q : Request). spot_cell (spot_of q start erased p place)) (sym e)
  where
    last : step_count Save start erased p ≤ place
        → cell_of (save_spot_at start erased p (length (ready start erased)) place) ≡ None
    last k =
        let n : length (ready start erased) ≡ added start erased - 3 = ready_count start erased in
        let m = ready_length start erased in
        let a : length (ready start erased) ≤ place = omega (arith, m) in
        let b : cell_count p ≤ place - length (ready start erased) = omega (arith, m) in
        simp (
          le-ltb place (length (ready start erased)) a,
          le-ltb (place - length (ready start erased)) (cell_count p) b,
        )

    go : (t : Bool) → ltb place (step_count Save start erased p) ≡ t
        → cell_of (save_spot_at start erased p (length (ready start erased)) place)
        ≡ spot_cell (cond t (Some (save_spot_at start erased p (length (ready start erased)) place)) None)
    go true e = refl
    go false e = last (ltb-false place (step_count Save start erased p) e)

pub cell_format : (request : Request) (start : State) (erased : Bool) (p place : ℕ) → request ≡ Format
    → None ≡ spot_cell (spot_of request start erased p place)
unfolding spot_of
cell_format request start erased p place e =
    go (ltb place (step_count Format start erased p))
    ∙ ap (λ (q : Request). spot_cell (spot_of q start erased p place)) (sym e)
  where
    go : (t : Bool)
        → None ≡ spot_cell (cond t (Some (Fixed (get_or (formatting start erased) place nothing))) None)
    go true = refl
    go false = refl

-- what an image cell that was found says of the list: its entry is that cell of the new image, at an even place of it
pub record Found (request : Request) (start : State) (erased : Bool) (place : ℕ) (new : List ℕ) (s : Side)
    (at : ImageOffset) : Type 0 where
  pub here : entry_at (plan request start erased new) place
      ≡ Some (entry (clean (live_of start)) (Image (target (live_of start)) at (cell_at new at.0)))
  pub side : s ≡ target (live_of start)
  pub even : at.0 % 2 ≡ 0
  pub within : at.0 + 1 < length new

pub cell_found : (request : Request) (start : State) (erased : Bool) (place : ℕ) (new : List ℕ) (s : Side)
    (at : ImageOffset) (p : ℕ) → length new ≡ image_size p
    → Some (record { side = s; at = at }) ≡ image_cell (entry_at (plan request start erased new) place)
    → Found request start erased place new s at
cell_found request start erased place new s at p size e =
    go (spot_of request start erased p place) refl (spot_sound request start erased p place)
    (e ∙ sym (list_cell request start erased p place new size))
  where
    go : (x : Option Spot) → spot_of request start erased p place ≡ x → Proper start p x
        → Some (record { side = s; at = at }) ≡ spot_cell x → Found request start erased place new s at
    go None q h f = let z : ◌≡◌ {A = ℕ} 0 1 = cc in absurd (omega (arith, z))
    go (Some (Fixed x)) q h f = let z : ◌≡◌ {A = ℕ} 0 1 = cc in absurd (omega (arith, z))
    go (Some (Cell state t)) q h f =
        let c : ◌≡◌ {A = ImageCell} (record { side = s; at = at }) t = cc in
        let same : at ≡ t.at = ap (λ (k : ImageCell). k.at) c in
        let place_of : at.0 ≡ t.at.0 = ap (λ (k : ImageOffset). k.0) same in
        record {
          here =
              sym (spot_entry request start erased p place (spot_of request start erased p place) refl new size)
              ∙ ap (entry_in new) q
              ∙ (λ k. Some (entry (h.0 k) (Image (h.1 k) (sym same k) (cell_at new (sym same k).0))));
          side = ap (λ (k : ImageCell). k.side) c ∙ h.1;
          even = omega (arith, place_of, h.2);
          within = omega (arith, place_of, size, h.2, h.3);
        }

-- ---- "each image cell is programmed once, in ascending order"
-- of two image cells of a list the earlier one lies lower
pub save_place : (start : State) (erased : Bool) (p place : ℕ) (x : ImageCell)
    → Some x ≡ cell_of (save_spot start erased p place)
    → (x.at.0 ≡ (place - length (ready start erased)) * 2) × (length (ready start erased) ≤ place)
unfolding save_spot
save_place start erased p place x =
    go (ltb place (length (ready start erased))) (ltb (place - length (ready start erased)) (cell_count p)) refl
  where
    go : (s t : Bool) → ltb place (length (ready start erased)) ≡ s
        → Some x
        ≡ cell_of
        (cond s (Fixed (get_or (ready start erased) place nothing))
        (cond t
        (Cell (clean (live_of start))
        (record { side = target (live_of start); at = record { 0 = (place - length (ready start erased)) * 2 } }))
        (Fixed
        (get_or (marks (live_of start)) (place - length (ready start erased) - cell_count p) nothing))))
        → (x.at.0 ≡ (place - length (ready start erased)) * 2) × (length (ready start erased) ≤ place)
    go true t q e = let z : ◌≡◌ {A = ℕ} 0 1 = cc in absurd (omega (arith, z))
    go false true q e =
        let c : x ≡ (record {
          side = target (live_of start);
          at = record {
            0 = (place - length
                (ready start erased)) * 2;
          };
        }) = cc in
        (ap (λ (k : ImageCell). k.at.0) c, ltb-false place (length (ready start erased)) q)
    go false false q e = let z : ◌≡◌ {A = ℕ} 0 1 = cc in absurd (omega (arith, z))
