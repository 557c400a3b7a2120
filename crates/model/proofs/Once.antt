-- Every list of steps has at most one deciding store, and it is where its place says.
-- In order: at most one; the entry at the deciding place; the lists of steps.
-- Assumes nothing.
use Rattle.std.specs.Prelude.{Option, Some, None}
use Prim.Native.Nat.{ℕ, zero, suc, ◌+◌, ◌<◌}
use mathlib.Core.Path.{◌≡◌, refl, sym, subst, ◌∙◌}
use mathlib.Core.Bool.{Bool, true, false, cond, ◌&&◌}
use mathlib.Core.List.{List, [], ◌∷◌, ◌++◌, append_assoc}
use native.Mathlib.Omega.{arith}
use lib.Dec.{eqb}
use lib.ListN.{length, get_or}
use borrow.Author.Tests.{eq-eqb, ne_eqb, eqb-true, eqb-false}
use Rattle.pages.specs.declared.Side.{Side}
use Rattle.pages.specs.declared.Side.TheVariants.{Left, Right}
use Rattle.pages.specs.declared.State.{State}
use Rattle.pages.specs.declared.State.TheVariants.{S0, S1, S2, S3, S5, S6, S7, S8, S9, S10}
use Rattle.pages.specs.declared.ImageOffset.{ImageOffset}
use Rattle.pages.specs.Pages.{live_of}
use Rattle.steps.specs.declared.Step.TheVariants.{Erase}
use Rattle.plans.specs.declared.Entry.{Entry}
use Rattle.plans.specs.declared.Request.{Request}
use Rattle.plans.specs.declared.Request.TheVariants.{Save, Format}
use Rattle.plans.specs.Plans.{
  entry,
  committing,
  mark,
  counts,
  recovery,
  recovered,
  erases,
  clean,
  target,
  cells,
  first_cell,
  marks,
  saving,
  formatting,
  plan,
  nothing,
}
use Rattle.model.specs.Book.{next, commit_place}

-- no entry of a list decides; at most one does
abbrev Quiet : List Entry → Type 0
Quiet [] = Unit {0}
Quiet (x ∷ xs) = (x.commits ≡ false) × Quiet xs

abbrev After : Bool → Type 0 → Type 0 → Type 0
After true quiet once = quiet
After false quiet once = once

abbrev pub Once : List Entry → Type 0
Once [] = Unit {0}
Once (x ∷ xs) = After x.commits (Quiet xs) (Once xs)

-- so the entry at a place decides exactly if that is the deciding place
quiet_place : (xs : List Entry) (k : ℕ) → Quiet xs → k < length xs → (get_or xs k nothing).commits ≡ false
quiet_place [] k q h = absurd (omega arith)
quiet_place (x ∷ xs) zero q h = q.0
quiet_place (x ∷ xs) (suc k) q h = quiet_place xs k q.1 (omega arith)

not_first : (n : ℕ) → eqb (zero + 1) (next n) ≡ false
not_first zero = refl
not_first (suc n) = ne_eqb (zero + 1) (suc (suc n)) (λ e. omega arith)

shifted : (k n : ℕ) → eqb (k + 1) n ≡ eqb (suc k + 1) (next n)
shifted k zero = ne_eqb (k + 1) zero (λ e. omega arith) ∙ sym (ne_eqb (suc k + 1) zero (λ e. omega arith))
shifted k (suc n) = go (eqb (k + 1) (suc n)) refl
  where
    go : (t : Bool) → eqb (k + 1) (suc n) ≡ t → eqb (k + 1) (suc n) ≡ eqb (suc k + 1) (suc (suc n))
    go true q =
        let e : k + 1 ≡ suc n = eqb-true (k + 1) (suc n) q in
        q ∙ sym (eq-eqb (suc k + 1) (suc (suc n)) (omega arith))
    go false q = q ∙ sym (ne_eqb (suc k + 1) (suc (suc n)) (λ e. eqb-false (k + 1) (suc n) q (omega arith)))

pub decides : (xs : List Entry) (k : ℕ) → Once xs → k < length xs
    → (get_or xs k nothing).commits ≡ eqb (k + 1) (commit_place xs)
unfolding commit_place
decides [] k o h = absurd (omega arith)
decides (x ∷ xs) k o h = go x.commits refl k o h (λ j q u. decides xs j q u)
  where
    go : (t : Bool) → x.commits ≡ t → (k : ℕ) → After t (Quiet xs) (Once xs) → k < suc (length xs)
        → ((j : ℕ) → Once xs → j < length xs → (get_or xs j nothing).commits ≡ eqb (j + 1) (commit_place xs))
        → (get_or (x ∷ xs) k nothing).commits ≡ eqb (k + 1) (cond t 1 (next (commit_place xs)))
    go true e zero o h rec = e
    go true e (suc k) o h rec =
        quiet_place xs k o (omega arith) ∙ sym (ne_eqb (suc k + 1) 1 (λ q. omega arith))
    go false e zero o h rec = e ∙ sym (not_first (commit_place xs))
    go false e (suc k) o h rec = rec k o (omega arith) ∙ shifted k (commit_place xs)

-- every list of steps has at most one
once_cells : (st : State) (s : Side) (at : ImageOffset) (im : List ℕ) (xs : List Entry) → Once xs
    → Once (cells st s at im ++ xs)
once_cells st s at [] xs o = o
once_cells st s at (low ∷ []) xs o = o
once_cells st s at (low ∷ high ∷ rest) xs o = once_cells st s (record { 0 = at.0 + 2 }) rest xs o

once_marks : (v : Option Side) → Once (marks v)
once_marks None = (refl, (refl, tt))
once_marks (Some s) = (refl, (refl, tt))

once_onward : (v : Option Side) (new : List ℕ) → Once (cells (clean v) (target v) first_cell new ++ marks v)
once_onward v new = once_cells (clean v) (target v) first_cell new (marks v) (once_marks v)

once_erases : (st : State) (v : Option Side) (t : Bool) (xs : List Entry) → Once xs → Once (erases st v t ++ xs)
once_erases st None true xs o = o
once_erases st None false xs o = o
once_erases st (Some s) true xs o = o
once_erases st (Some s) false xs o = o

once_recovery : (st : State) (xs : List Entry) → Once xs → Once (recovery st ++ xs)
once_recovery S0 xs o = o
once_recovery S1 xs o = o
once_recovery S2 xs o = o
once_recovery S3 xs o = o
once_recovery S5 xs o = o
once_recovery S6 xs o = o
once_recovery S7 xs o = o
once_recovery S8 xs o = o
once_recovery S9 xs o = o
once_recovery S10 xs o = o

pub once_plan : (request : Request) (st : State) (erased : Bool) (new : List ℕ) → Once (plan request st erased new)
unfolding saving formatting
once_plan Save st erased new =
    let t = counts Save st && erased in
    let xs = cells (clean (live_of st)) (target (live_of st)) first_cell new ++ marks (live_of st) in
    subst Once (sym (append_assoc (recovery st) (erases (recovered st) (live_of st) t) xs))
    (once_recovery st (erases (recovered st) (live_of st) t ++ xs)
    (once_erases (recovered st) (live_of st) t xs (once_onward (live_of st) new)))
once_plan Format st erased new = go (counts Format st && erased)
  where
    go : (t : Bool)
        → Once (cond t [] (committing st (mark Right 2 0x0000) ∷ entry S0 (Erase Left) ∷ entry S0 (Erase Right) ∷ []))
    go true = tt
    go false = (refl, (refl, tt))
