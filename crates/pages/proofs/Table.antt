-- The rule of document 01's table, proved once over the table: each row is found by its own words, its live side is
-- that of its state, and the live page is the one that its marks say. From it, the live side of any two pages is that
-- of their state, a state other than S0 is the words of its row and no others, and a RIGHT whose Spare isn't FF has no
-- row.
-- Assumes nothing.
use Rattle.std.specs.Prelude.{Some}
use mathlib.Core.Path.{◌≡◌, refl, sym, ap, ap₂, ◌∙◌}
use mathlib.Core.Bool.{Bool, true, false, cond, not, ◌&&◌, ◌||◌}
use mathlib.Core.List.{List, [], ◌∷◌}
use Prim.Native.Nat.{ℕ, ◌<◌}
use native.Mathlib.Omega.{arith}
use lib.Dec.{eqb, ltb}
use lib.ListN.{get_or}
use borrow.Author.Tests.{eqb-true, ltb-false}
use Rattle.pages.specs.declared.State.{State}
use Rattle.pages.specs.declared.State.TheVariants.{S0, S1, S2, S3, S5, S6, S7, S8, S9, S10}
use Rattle.pages.specs.declared.Status.{Status}
use Rattle.pages.specs.Pages.{Row, on_side, table, hits, look, line_of, live_of, row_of, status_of, word_of}

-- what holds of every row of a list
abbrev pub All : (Row → Type 0) → List Row → Type 0
All P [] = Unit {0}
All P (x ∷ xs) = P x × All P xs

-- marked Valid and not Dead
abbrev is_valid : ℕ → Bool
is_valid w = eqb w 0xFFFF0000 || eqb w 0xFFFFFF00

-- the page to read of two: a valid one, and of two valid ones the newer, which isn't marked Active yet
abbrev leads : ℕ → ℕ → Bool
leads w other = is_valid w && (not (is_valid other) || eqb w 0xFFFFFF00)

abbrev live_word : Row → ℕ
live_word x = on_side x.live x.left x.right

abbrev other_word : Row → ℕ
other_word x = on_side x.live x.right x.left

-- the rule of a row: its words lead to it and to no other row, its state says its live side, and of its pages the live
-- one leads
abbrev pub Ruled : Row → Type 0
Ruled x =
    (look table x.left x.right ≡ (record { state = x.state; live = Some x.live }))
    × (live_of x.state ≡ Some x.live)
    × (leads (live_word x) (other_word x) ≡ true)
    × (leads (other_word x) (live_word x) ≡ false)

pub ruled : All Ruled table
unfolding look live_of
ruled = search tt

-- a look-up finds the live side of the state that it finds, in any list of rows that keep the rule
pick_live : (t : Bool) (a b : Status) → a.live ≡ live_of a.state → b.live ≡ live_of b.state
    → (cond t a b).live ≡ live_of (cond t a b).state
pick_live true a b p q = p
pick_live false a b p q = q

look_live : (xs : List Row) → All Ruled xs → (l r : ℕ) → (look xs l r).live ≡ live_of (look xs l r).state
unfolding look live_of
look_live [] a l r = refl
look_live (x ∷ xs) a l r =
    pick_live (hits x l r) (record { state = x.state; live = Some x.live }) (look xs l r)
    (sym a.0.1) (look_live xs a.1 l r)

pub status_live : (l r : List ℕ) → (status_of l r).live ≡ live_of (status_of l r).state
unfolding status_of
status_live l r = look_live table ruled (word_of l) (word_of r)

-- ---- from a state to the words, and back
-- each row is that of its state
abbrev Own : Row → Type 0
Own x = row_of x.state ≡ x

own : All Own table
own = search tt

found : (xs : List Row) → All Own xs → (l r : ℕ) (st : State) → (look xs l r).state ≡ st → (line_of st ≡ 0 → ⊥)
    → (l ≡ (row_of st).left) × (r ≡ (row_of st).right)
unfolding look
found [] a l r st e h = absurd (h (ap line_of (sym e)))
found (x ∷ xs) a l r st e h =
    go (eqb x.left l) (eqb x.right r) refl refl (found xs a.1 l r st) e h
  where
    go : (s t : Bool) → eqb x.left l ≡ s → eqb x.right r ≡ t
        → ((look xs l r).state ≡ st → (line_of st ≡ 0 → ⊥) → (l ≡ (row_of st).left) × (r ≡ (row_of st).right))
        → (cond (s && t) (record { state = x.state; live = Some x.live }) (look xs l r)).state ≡ st
        → (line_of st ≡ 0 → ⊥) → (l ≡ (row_of st).left) × (r ≡ (row_of st).right)
    go true true p q later e h =
        let y : row_of st ≡ x = ap row_of (sym e) ∙ a.0 in (
          sym (eqb-true x.left l p) ∙ ap (λ (z : Row). z.left) (sym y),
          sym (eqb-true x.right r q) ∙ ap (λ (z : Row). z.right) (sym y),
        )
    go true false p q later e h = later e h
    go false t p q later e h = later e h

pub words_of : (l r : List ℕ) (st : State) → (status_of l r).state ≡ st → (line_of st ≡ 0 → ⊥)
    → (word_of l ≡ (row_of st).left) × (word_of r ≡ (row_of st).right)
unfolding status_of
words_of l r st = found table own (word_of l) (word_of r) st

at_row : (st : State) → (line_of st ≡ 0 → ⊥) → (look table (row_of st).left (row_of st).right).state ≡ st
unfolding look
at_row S0 h = absurd (h refl)
at_row S1 h = refl
at_row S2 h = refl
at_row S3 h = refl
at_row S5 h = refl
at_row S6 h = refl
at_row S7 h = refl
at_row S8 h = refl
at_row S9 h = refl
at_row S10 h = refl

pub state_of : (l r : List ℕ) (st : State) → (line_of st ≡ 0 → ⊥) → word_of l ≡ (row_of st).left → word_of r ≡ (row_of st).right
    → (status_of l r).state ≡ st
unfolding status_of
state_of l r st h p q = ap₂ (λ (a b : ℕ). (look table a b).state) p q ∙ at_row st h

-- ---- Spare
-- every row's RIGHT has Spare FF, so no row has a word of RIGHT below it
abbrev Spared : Row → Type 0
Spared x = ltb x.right 0xFF000000 ≡ false

spared : All Spared table
spared = search tt

no_row : (xs : List Row) → All Spared xs → (l r : ℕ) → r < 0xFF000000 → (look xs l r).state ≡ S0
unfolding look
no_row [] a l r h = refl
no_row (x ∷ xs) a l r h = go (eqb x.left l) (eqb x.right r) refl (no_row xs a.1 l r h)
  where
    go : (s t : Bool) → eqb x.right r ≡ t → (look xs l r).state ≡ S0
        → (cond (s && t) (record { state = x.state; live = Some x.live }) (look xs l r)).state ≡ S0
    go true true q later =
        absurd (omega (arith, eqb-true x.right r q, h, ltb-false x.right 0xFF000000 a.0))
    go true false q later = later
    go false t q later = later

pub word_none : (l r : List ℕ) → word_of r < 0xFF000000 → (status_of l r).state ≡ S0
unfolding status_of
word_none l r h = no_row table spared (word_of l) (word_of r) h

-- the bytes of RIGHT say it: they are bytes, and the fourth isn't FF
pub spare_none : (l r : List ℕ) → get_or r 0 0 < 256 → get_or r 1 0 < 256 → get_or r 2 0 < 256 → get_or r 3 0 < 255
    → (status_of l r).state ≡ S0
unfolding word_of
spare_none l r a b c d = word_none l r (omega (arith, a, b, c, d))
