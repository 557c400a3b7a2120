-- Whole lists of steps, in other words than the list's own: what they leave, and what stands in them.
-- In order: the pages after all steps of a list; tidying leaves line 3 or 7; a format leaves both pages erased; a page is
-- blanked unless all its bytes are FF; each image cell stands once, and an earlier one lower.
-- Not here: that it is safe to cut between any two steps (Good.antt, Begins.antt). Assumes nothing.
use Rattle.std.specs.Prelude.{Option, None}
use Prim.Native.Nat.{ℕ, ◌+◌, ◌-◌, ◌*◌, ◌/◌, ◌%◌, ◌<◌, ◌≤◌}
use mathlib.Core.Path.{◌≡◌, refl, sym, ap, ap₂, ◌∙◌}
use mathlib.Core.Bool.{Bool, true, false, cond, not, ◌&&◌, ◌||◌}
use mathlib.Core.List.{List, [], ◌∷◌, ◌++◌}
use Rattle.std.specs.Prelude.{Some}
use native.Mathlib.Omega.{arith}
use lib.ListN.{length, drop}
use Rattle.flash.specs.Flash.{Bytes, cell_at, erasure, is_erased}
use Rattle.flash.proofs.Laws.{and_left, and_right, erased_is_erasure}
use Rattle.pages.specs.declared.Side.{Side}
use Rattle.pages.specs.declared.Side.TheVariants.{Left, Right}
use Rattle.pages.specs.declared.State.{State}
use Rattle.pages.specs.declared.State.TheVariants.{S0, S1, S2, S3, S5, S6, S7, S8, S9, S10}
use Rattle.pages.specs.declared.ImageOffset.{ImageOffset}
use Rattle.pages.specs.declared.Status.{Status}
use Rattle.pages.specs.Pages.{line_of, live_of, status_of}
use Rattle.pages.specs.Offsets.{image_size}
use Rattle.steps.specs.declared.Step.{Step}
use Rattle.steps.specs.declared.Step.TheVariants.{Mark, Image, Erase}
use Rattle.steps.specs.Steps.{Tried, tried}
use Rattle.plans.specs.declared.Entry.{Entry}
use Rattle.plans.specs.declared.Request.TheVariants.{Save, Format}
use Rattle.plans.specs.Plans.{
  entry,
  committing,
  mark,
  counts,
  recovery,
  erases_both,
  ready,
  target,
  clean,
  cells,
  first_cell,
  marks,
  saving,
  formatting,
  others_erased,
}
use Rattle.plans.specs.Counts.{cell_count, added}
use Rattle.plans.specs.declared.ImageCell.{ImageCell}
use Rattle.plans.specs.Spots.{entry_at, image_cell}
use Rattle.plans.proofs.Counts.{plan_length, ready_length}
use Rattle.plans.proofs.Laws.{save_cell}
use Rattle.plans.proofs.Spots.{entry_at_lem, list_cell, cell_save, save_place}
use Rattle.plans.proofs.Shapes.{
  fresh,
  valid,
  dead,
  unborn,
  from_row,
  made_on_lem,
  mark_zero,
  mark_two,
  spoils,
  at_used,
  at_settled,
}
use Rattle.plans.proofs.Good.{mark_on, mark_other}

-- ---- the pages after all steps of a list, made one after another
abbrev pub made_all : List Entry → List ℕ → List ℕ → Tried
made_all [] l r = made_on_lem l r
made_all (x ∷ xs) l r = let t = tried x.step l r in made_all xs t.left t.right

made_next : (x : Entry) (xs : List Entry) (l r l' r' : List ℕ) → tried x.step l r ≡ made_on_lem l' r'
    → made_all (x ∷ xs) l r ≡ made_all xs l' r'
made_next x xs l r l' r' e = ap (λ (t : Tried). made_all xs t.left t.right) e

-- ---- tidying: after its steps the pair is line 3 where LEFT is live, line 7 where RIGHT is
abbrev pub line_after : Tried → ℕ
line_after t = line_of (status_of t.left t.right).state

abbrev pub tidy_line : Option Side → ℕ
tidy_line None = 0
tidy_line (Some Left) = 3
tidy_line (Some Right) = 7

abbrev Tidied : State → List ℕ → List ℕ → Type 0
Tidied st l r = line_after (made_all (recovery st) l r) ≡ tidy_line (live_of st)

line_left : (l r : List ℕ) (z : Status) → status_of l r ≡ z → line_after (made_on_lem l r) ≡ line_of z.state
line_left l r z e = ap (λ (u : Status). line_of u.state) e

pub tidied : (l r : List ℕ) (st : State) → Bytes l → Bytes r → 4 ≤ length l → 4 ≤ length r → (status_of l r).state ≡ st
    → (line_of st ≡ 0 → ⊥) → (line_of st ≡ 1 → ⊥) → (line_of st ≡ 8 → ⊥)
    → line_after (made_all (recovery st) l r) ≡ tidy_line (live_of st)
unfolding live_of
tidied l r S0 bl br nl nr e h a b = absurd (h refl)
tidied l r S1 bl br nl nr e h a b = absurd (a refl)
tidied l r S2 bl br nl nr e h a b =
    let y = drop 4 l in
    let x = drop 4 r in
    from_row (Tidied S2) l r S2 bl br nl nr e h
    (ap line_after
    (made_next (entry S2 (mark Right 0 0x0000)) [] (valid y) (unborn x) (valid y) (dead x)
    (mark_other Left (valid y) (unborn x) (dead x) 0 0x0000 (mark_zero 0xFF 0xFF 0x00 0xFF 0x0000 x refl)))
    ∙ line_left (valid y) (dead x) _ (at_used Left y x))
tidied l r S3 bl br nl nr e h a b = ap line_of e
tidied l r S5 bl br nl nr e h a b =
    let y = drop 4 l in
    let x = drop 4 r in
    from_row (Tidied S5) l r S5 bl br nl nr e h
    (ap line_after
    (made_next (entry S5 (mark Left 2 0xFF00)) (entry S6 (mark Right 0 0x0000) ∷ []) (valid y) (fresh x) (dead y)
    (fresh x)
    (mark_on Left (valid y) (fresh x) (dead y) 2 0xFF00 (mark_two 0x00 0x00 0xFF 0xFF 0xFF00 y refl))
    ∙ made_next (entry S6 (mark Right 0 0x0000)) [] (dead y) (fresh x) (dead y) (valid x)
    (mark_other Left (dead y) (fresh x) (valid x) 0 0x0000 (mark_zero 0x00 0xFF 0xFF 0xFF 0x0000 x refl)))
    ∙ line_left (dead y) (valid x) _ (at_settled Left y x))
tidied l r S6 bl br nl nr e h a b =
    let y = drop 4 l in
    let x = drop 4 r in
    from_row (Tidied S6) l r S6 bl br nl nr e h
    (ap line_after
    (made_next (entry S6 (mark Right 0 0x0000)) [] (dead y) (fresh x) (dead y) (valid x)
    (mark_other Left (dead y) (fresh x) (valid x) 0 0x0000 (mark_zero 0x00 0xFF 0xFF 0xFF 0x0000 x refl)))
    ∙ line_left (dead y) (valid x) _ (at_settled Left y x))
tidied l r S7 bl br nl nr e h a b = ap line_of e
tidied l r S8 bl br nl nr e h a b = absurd (b refl)
tidied l r S9 bl br nl nr e h a b =
    let x = drop 4 l in
    let y = drop 4 r in
    from_row (Tidied S9) l r S9 bl br nl nr e h
    (ap line_after
    (made_next (entry S9 (mark Right 2 0xFF00)) (entry S10 (mark Left 0 0x0000) ∷ []) (fresh x) (valid y) (fresh x)
    (dead y)
    (mark_on Right (valid y) (fresh x) (dead y) 2 0xFF00 (mark_two 0x00 0x00 0xFF 0xFF 0xFF00 y refl))
    ∙ made_next (entry S10 (mark Left 0 0x0000)) [] (fresh x) (dead y) (valid x) (dead y)
    (mark_other Right (dead y) (fresh x) (valid x) 0 0x0000 (mark_zero 0x00 0xFF 0xFF 0xFF 0x0000 x refl)))
    ∙ line_left (valid x) (dead y) _ (at_settled Right y x))
tidied l r S10 bl br nl nr e h a b =
    let x = drop 4 l in
    let y = drop 4 r in
    from_row (Tidied S10) l r S10 bl br nl nr e h
    (ap line_after
    (made_next (entry S10 (mark Left 0 0x0000)) [] (fresh x) (dead y) (valid x) (dead y)
    (mark_other Right (dead y) (fresh x) (valid x) 0 0x0000 (mark_zero 0x00 0xFF 0xFF 0xFF 0x0000 x refl)))
    ∙ line_left (valid x) (dead y) _ (at_settled Right y x))

-- ---- a format: from any pages both are erased after its steps
erase_left : (l r : List ℕ) → tried (Erase Left) l r ≡ made_on_lem (erasure l) r
unfolding tried
erase_left l r = refl

erase_right : (l r : List ℕ) → tried (Erase Right) l r ≡ made_on_lem l (erasure r)
unfolding tried
erase_right l r = refl

format_made : (st : State) (l r : List ℕ) → 4 ≤ length r
    → made_all (committing st (mark Right 2 0x0000) ∷ erases_both) l r ≡ made_on_lem (erasure l) (erasure r)
unfolding erasure
format_made st l [] h = absurd (omega arith)
format_made st l (a ∷ []) h = absurd (omega arith)
format_made st l (a ∷ b ∷ []) h = absurd (omega arith)
format_made st l (a ∷ b ∷ c ∷ []) h = absurd (omega arith)
format_made st l (a ∷ b ∷ c ∷ e ∷ x) h =
    let r = a ∷ b ∷ c ∷ e ∷ x in
    let spoiled = a ∷ b ∷ 0 ∷ 0 ∷ x in
    made_next (committing st (mark Right 2 0x0000)) erases_both l r l spoiled
    (mark_other Left l r spoiled 2 0x0000 (spoils a b c e x))
    ∙ made_next (entry S0 (Erase Left)) (entry S0 (Erase Right) ∷ []) l spoiled (erasure l) spoiled
    (erase_left l spoiled)
    ∙ made_next (entry S0 (Erase Right)) [] (erasure l) spoiled (erasure l) (erasure spoiled)
    (erase_right (erasure l) spoiled)

both_erased : (st : State) (l r : List ℕ) → (counts Format st && others_erased (live_of st) l r) ≡ true
    → (is_erased l ≡ true) × (is_erased r ≡ true)
unfolding live_of
both_erased S0 l r e = (and_left (is_erased l) (is_erased r) e, and_right (is_erased l) (is_erased r) e)
both_erased S1 l r e = (cc, cc)
both_erased S2 l r e = (cc, cc)
both_erased S3 l r e = (cc, cc)
both_erased S5 l r e = (cc, cc)
both_erased S6 l r e = (cc, cc)
both_erased S7 l r e = (cc, cc)
both_erased S8 l r e = (cc, cc)
both_erased S9 l r e = (cc, cc)
both_erased S10 l r e = (cc, cc)

pub format_erases : (st : State) (l r : List ℕ) → 4 ≤ length r
    → made_all (formatting st (counts Format st && others_erased (live_of st) l r)) l r
    ≡ made_on_lem (erasure l) (erasure r)
unfolding formatting
format_erases st l r h = go (counts Format st) refl (others_erased (live_of st) l r) refl
  where
    go : (s : Bool) → counts Format st ≡ s → (t : Bool) → others_erased (live_of st) l r ≡ t
        → made_all (cond (s && (s && t)) [] (committing st (mark Right 2 0x0000) ∷ erases_both)) l r
        ≡ made_on_lem (erasure l) (erasure r)
    go true p true q =
        let b = both_erased st l r (ap₂ ◌&&◌ p q) in
        (λ i. made_on_lem (erased_is_erasure l b.0 i) (erased_is_erasure r b.1 i))
    go true p false q = format_made st l r h
    go false p t q = format_made st l r h

-- ---- blanking: "unless all its bytes are FF"
abbrev pub is_erase : Step → Bool
is_erase (Mark s at v) = false
is_erase (Image s at v) = false
is_erase (Erase s) = true

abbrev pub has_erase : List Entry → Bool
has_erase [] = false
has_erase (x ∷ xs) = is_erase x.step || has_erase xs

-- what has to be all FF at a line so that nothing is blanked: at line 0 both pages, at line 1 (and 4) RIGHT, at line 8
-- LEFT; at every other line a page is blanked whatever it holds
abbrev pub all_ff : State → List ℕ → List ℕ → Bool
all_ff S0 l r = is_erased l && is_erased r
all_ff S1 l r = is_erased r
all_ff S2 l r = false
all_ff S3 l r = false
all_ff S5 l r = false
all_ff S6 l r = false
all_ff S7 l r = false
all_ff S8 l r = is_erased l
all_ff S9 l r = false
all_ff S10 l r = false

or_false : (t : Bool) → (t || false) ≡ t
or_false true = refl
or_false false = refl

or_assoc : (a b c : Bool) → ((a || b) || c) ≡ (a || (b || c))
or_assoc true b c = refl
or_assoc false b c = refl

erase_append : (xs ys : List Entry) → has_erase (xs ++ ys) ≡ (has_erase xs || has_erase ys)
erase_append [] ys = refl
erase_append (x ∷ xs) ys =
    ap (λ (t : Bool). is_erase x.step || t) (erase_append xs ys)
    ∙ sym (or_assoc (is_erase x.step) (has_erase xs) (has_erase ys))

cells_quiet : (st : State) (s : Side) (at : ImageOffset) (im : List ℕ) → has_erase (cells st s at im) ≡ false
cells_quiet st s at [] = refl
cells_quiet st s at (low ∷ []) = refl
cells_quiet st s at (low ∷ high ∷ rest) = cells_quiet st s (record { 0 = at.0 + 2 }) rest

marks_quiet : (v : Option Side) → has_erase (marks v) ≡ false
marks_quiet None = refl
marks_quiet (Some s) = refl

-- only what stands before the image cells blanks
before_cells : (st : State) (erased : Bool) (new : List ℕ) → has_erase (saving st erased new) ≡ has_erase
    (ready st erased)
unfolding saving
before_cells st erased new =
    let v = live_of st in
    let c = cells (clean v) (target v) first_cell new in
    erase_append (ready st erased) (c ++ marks v)
    ∙ ap (λ (t : Bool). has_erase (ready st erased) || t)
    (erase_append c (marks v) ∙ ap₂ ◌||◌ (cells_quiet (clean v) (target v) first_cell new) (marks_quiet v))
    ∙ or_false (has_erase (ready st erased))

ready_erases : (st : State) (l r : List ℕ)
    → has_erase (ready st (counts Save st && others_erased (live_of st) l r)) ≡ not (all_ff st l r)
unfolding live_of
ready_erases S0 l r = go (is_erased l && is_erased r)
  where
    go : (t : Bool) → has_erase (cond t [] (entry S0 (mark Right 2 0x0000) ∷ erases_both)) ≡ not t
    go true = refl
    go false = refl
ready_erases S1 l r = go (is_erased r)
  where
    go : (t : Bool) → has_erase (cond t [] (entry S1 (Erase Right) ∷ [])) ≡ not t
    go true = refl
    go false = refl
ready_erases S2 l r = refl
ready_erases S3 l r = refl
ready_erases S5 l r = refl
ready_erases S6 l r = refl
ready_erases S7 l r = refl
ready_erases S8 l r = go (is_erased l)
  where
    go : (t : Bool) → has_erase (cond t [] (entry S8 (Erase Left) ∷ [])) ≡ not t
    go true = refl
    go false = refl
ready_erases S9 l r = refl
ready_erases S10 l r = refl

pub save_erases : (st : State) (l r new : List ℕ)
    → has_erase (saving st (counts Save st && others_erased (live_of st) l r) new) ≡ not (all_ff st l r)
save_erases st l r new =
    before_cells st (counts Save st && others_erased (live_of st) l r) new ∙ ready_erases st l r

-- a format blanks both unless both are all FF, which counts at line 0 alone
abbrev pub both_ff : State → List ℕ → List ℕ → Bool
both_ff S0 l r = is_erased l && is_erased r
both_ff S1 l r = false
both_ff S2 l r = false
both_ff S3 l r = false
both_ff S5 l r = false
both_ff S6 l r = false
both_ff S7 l r = false
both_ff S8 l r = false
both_ff S9 l r = false
both_ff S10 l r = false

pub format_blanks : (st : State) (l r : List ℕ)
    → has_erase (formatting st (counts Format st && others_erased (live_of st) l r)) ≡ not (both_ff st l r)
unfolding live_of formatting
format_blanks S0 l r = go (is_erased l && is_erased r)
  where
    go : (t : Bool) → has_erase (cond t [] (committing S0 (mark Right 2 0x0000) ∷ erases_both)) ≡ not t
    go true = refl
    go false = refl
format_blanks S1 l r = refl
format_blanks S2 l r = refl
format_blanks S3 l r = refl
format_blanks S5 l r = refl
format_blanks S6 l r = refl
format_blanks S7 l r = refl
format_blanks S8 l r = refl
format_blanks S9 l r = refl
format_blanks S10 l r = refl

-- ---- the image cells of a save: "each image cell is programmed once, in ascending order"
-- an image cell of a save's list, by where the steps before the cells end
cell_place : (st : State) (erased : Bool) (new : List ℕ) (k : ℕ) (x : ImageCell)
    → Some x ≡ image_cell (entry_at (saving st erased new) k)
    → (x.at.0 ≡ (k - length (ready st erased)) * 2) × (length (ready st erased) ≤ k)
cell_place st erased new k x e =
    let p = 4 + length new in
    let size : length new ≡ image_size p = omega arith in
    save_place st erased p k x
    (e ∙ sym (list_cell Save st erased p k new size) ∙ sym (cell_save Save st erased p k refl))

-- an earlier one lies lower
pub earlier_lower : (st : State) (erased : Bool) (new : List ℕ) (j k : ℕ) (x y : ImageCell) → j < k
    → Some x ≡ image_cell (entry_at (saving st erased new) j) → Some y ≡ image_cell (entry_at (saving st erased new) k)
    → x.at.0 < y.at.0
earlier_lower st erased new j k x y h e f =
    let a = cell_place st erased new j x e in
    let b = cell_place st erased new k y f in
    omega (arith, a.0, a.1, b.0, b.1)

-- and each cell of the new image stands there, with its number, on the page that isn't live; so it stands once
pub each_cell : (st : State) (erased : Bool) (new : List ℕ) (o : ImageOffset) → o.0 % 2 ≡ 0 → o.0 + 1 < length new
    → (k : ℕ)
    × (entry_at (saving st erased new) k
    ≡ Some (entry (clean (live_of st)) (Image (target (live_of st)) o (cell_at new o.0))))
each_cell st erased new o even h =
    let n = added st erased - 3 in
    let half = o.0 / 2 in
    let three : length (ready st erased) + 3 ≡ added st erased = ready_length st erased in
    let back : half * 2 ≡ o.0 = omega arith in
    let offset : ◌≡◌ {A = ImageOffset} (record { 0 = half * 2 }) o = λ i. record { 0 = back i } in
    let p = 4 + length new in
    let long : length (saving st erased new) ≡ cell_count p + added st erased =
    plan_length Save st erased new p (omega arith) in
    let k = n + half in
    let place : half ≡ k - n = omega arith in (
      k,
      entry_at_lem (saving st erased new) k (omega (arith, long, three))
          ∙ ap Some (sym (save_cell st erased new k half (omega arith) place (omega arith)))
          ∙ (λ i. Some (entry (clean (live_of st)) (Image (target (live_of st)) (offset i) (cell_at new (offset i).0)))),
    )
