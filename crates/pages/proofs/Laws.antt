-- Laws of states, of answers and of offsets.
-- In order: states and what an answer says; offsets.
-- Not here: what holds of document 01's own table (Table.antt, Life.antt). Assumes nothing.
use Rattle.std.specs.Prelude.{Option, Some, None}
use Prim.Native.Nat.{ℕ, zero, suc, ◌+◌, ◌<◌, ◌≤◌, min}
use mathlib.Core.Path.{◌≡◌, refl, sym, ap, ◌∙◌}
use mathlib.Core.Bool.{Bool, true, false}
use mathlib.Core.List.{List, [], ◌∷◌}
use native.Mathlib.Omega.{arith}
use lib.Dec.{ltb}
use lib.ListN.{get_or, get_or-eq_default}
use borrow.Author.Tests.{ltb-true, ltb-false}
use Rattle.pages.specs.declared.State.{State}
use Rattle.pages.specs.declared.State.TheVariants.{S0, S1, S2, S3, S5, S6, S7, S8, S9, S10}
use Rattle.pages.specs.declared.Status.{Status}
use Rattle.pages.specs.declared.PageOffset.{PageOffset}
use Rattle.pages.specs.declared.ImageOffset.{ImageOffset}
use Rattle.pages.specs.Pages.{line_of, states, state_from, Standing, standing}
use Rattle.pages.specs.Offsets.{to_page}

-- ---- a state is known by its line number, and a status by what it says
abbrev state_at : ℕ → State
state_at n = get_or (S0 ∷ S1 ∷ S2 ∷ S3 ∷ S0 ∷ S5 ∷ S6 ∷ S7 ∷ S8 ∷ S9 ∷ S10 ∷ []) n S0

at_line : (s : State) → state_at (line_of s) ≡ s
at_line S0 = refl
at_line S1 = refl
at_line S2 = refl
at_line S3 = refl
at_line S5 = refl
at_line S6 = refl
at_line S7 = refl
at_line S8 = refl
at_line S9 = refl
at_line S10 = refl

pub line_same : (s t : State) → line_of s ≡ line_of t → s ≡ t
line_same s t e = sym (at_line s) ∙ ap state_at e ∙ at_line t

-- and by the list of the states
pub named_at : (s : State) → state_from (line_of s) ≡ Some s
named_at S0 = refl
named_at S1 = refl
named_at S2 = refl
named_at S3 = refl
named_at S5 = refl
named_at S6 = refl
named_at S7 = refl
named_at S8 = refl
named_at S9 = refl
named_at S10 = refl

-- and a number that names a state is that state's own, once over the states
abbrev Numbered : ℕ → List (Option State) → Type 0
Numbered i [] = Unit {0}
Numbered i (None ∷ xs) = Numbered (suc i) xs
Numbered i (Some s ∷ xs) = (line_of s ≡ i) × Numbered (suc i) xs

numbered : Numbered 0 states
numbered = search (refl, tt)

unnamed : (s : State) → None ≡ Some s → ⊥
unnamed s e = let z : ◌≡◌ {A = ℕ} 0 1 = cc in absurd (omega (arith, z))

at_number : (xs : List (Option State)) (i k : ℕ) (s : State) → Numbered i xs → get_or xs k None ≡ Some s
    → line_of s ≡ i + k
at_number [] i k s h e = absurd (unnamed s e)
at_number (None ∷ xs) i zero s h e = absurd (unnamed s e)
at_number (None ∷ xs) i (suc k) s h e =
    let rest = at_number xs (suc i) k s h e in omega (arith, rest)
at_number (Some t ∷ xs) i zero s h e =
    let same : t ≡ s = cc in
    let here : line_of t ≡ line_of s = ap line_of same in omega (arith, here, h.0)
at_number (Some t ∷ xs) i (suc k) s h e =
    let rest = at_number xs (suc i) k s h.1 e in omega (arith, rest)

pub line_named : (n : ℕ) (s : State) → state_from n ≡ Some s → line_of s ≡ n
line_named n s e = let here = at_number states 0 n s numbered e in omega (arith, here)

-- a number that isn't one of the ten has no state
above : (n k : ℕ) → k ≤ n → (n ≡ k → ⊥) → k < n
above n k h a = omega (arith, h, a)

below : (n k : ℕ) → n < suc k → (n ≡ k → ⊥) → n < k
below n k h a = omega (arith, h, a)

four : (n : ℕ) → 3 < n → n < 5 → n ≡ 4
four n h k = omega (arith, h, k)

pub nameless : (line : ℕ) → (line ≡ 0 → ⊥) → (line ≡ 1 → ⊥) → (line ≡ 2 → ⊥) → (line ≡ 3 → ⊥) → (line ≡ 5 → ⊥)
    → (line ≡ 6 → ⊥) → (line ≡ 7 → ⊥) → (line ≡ 8 → ⊥) → (line ≡ 9 → ⊥) → (line ≡ 10 → ⊥) → None ≡ state_from line
nameless line a b c d e f g h i j = go (ltb line 11) refl
  where
    go : (t : Bool) → ltb line 11 ≡ t → None ≡ state_from line
    go true p =
        let least : 3 < line = above line 3 (above line 2 (above line 1 (above line 0 (omega arith) a) b) c) d in
        let most : line < 5 =
        below line 5 (below line 6 (below line 7 (below line 8 (below line 9 (below line 10
        (ltb-true line 11 p) j) i) h) g) f) e in
        ap state_from (sym (four line least most))
    go false p = sym (get_or-eq_default states None (ltb-false line 11 p))

pub standing_same : (a b : Status) → standing a ≡ standing b → a ≡ b
standing_same a b e =
    let states : a.state ≡ b.state = line_same a.state b.state (ap (λ (x : Standing). x.line) e) in
    let lives : a.live ≡ b.live = ap (λ (x : Standing). x.live) e in
    λ i. record { state = states i; live = lives i }

-- ---- offsets: 4 apart, as far as 32 bits go
pub page_offset : (i : ImageOffset) → i.0 ≤ 4294967291 → (to_page i).0 ≡ 4 + i.0
unfolding to_page
page_offset i h = omega arith

pub within_bits : (i : ImageOffset) → i.0 ≤ 4294967291 → ◌≡◌ {A = PageOffset} (record { 0 = 4 + i.0 }) (to_page i)
within_bits i h = ap (λ (n : ℕ). record { 0 = n }) (sym (page_offset i h))

pub past_bits : (i : ImageOffset) → 4294967291 < i.0 → ◌≡◌ {A = PageOffset} (record { 0 = 4294967295 }) (to_page i)
unfolding to_page
past_bits i h = let e : 4294967295 ≡ min (4 + i.0) 4294967295 = omega arith in ap (λ (n : ℕ). record { 0 = n }) e
