-- Laws of lines: whether the pages are at a line, by the two words of its row.
-- Not here: the table (pages.proofs.Table). Assumes nothing.
use Rattle.std.specs.Prelude.{Option, Some}
use Prim.Native.Nat.{ℕ, ◌<◌}
use mathlib.Core.Path.{◌≡◌, refl, sym, ap, ◌∙◌}
use mathlib.Core.Bool.{Bool, true, false, not, ◌&&◌}
use mathlib.Core.List.{List}
use native.Mathlib.Omega.{arith}
use lib.Dec.{eqb, ltb}
use lib.ListN.{length, get_or, get_or-eq_default}
use borrow.Author.Tests.{eqb-true, eqb-false, eq-eqb, ne_eqb, le-ltb, lt-ltb}
use Rattle.pages.specs.declared.Side.{Side}
use Rattle.pages.specs.declared.Side.TheVariants.{Left, Right}
use Rattle.pages.specs.declared.State.TheVariants.{S0}
use Rattle.pages.specs.declared.State.{State}
use Rattle.pages.specs.Pages.{word_of, status_of, line_of, row_of}
use Rattle.pages.proofs.Table.{words_of, state_of, spare_none, word_none}
use Rattle.pages.proofs.Laws.{line_same}
use Rattle.plans.specs.Plans.{clean, meets}

pub meets_same : (wanted s : State) → meets wanted s ≡ true → s ≡ wanted
meets_same wanted s e = line_same s wanted (sym (eqb-true (line_of wanted) (line_of s) e))

same_meets : (wanted s : State) → s ≡ wanted → meets wanted s ≡ true
same_meets wanted s e = eq-eqb (line_of wanted) (line_of s) (ap line_of (sym e))

-- no row has a RIGHT whose Spare isn't FF, or is missing
pub spare_meets : (l r : List ℕ) → get_or r 0 0 < 256 → get_or r 1 0 < 256 → get_or r 2 0 < 256 → get_or r 3 0 < 255
    → true ≡ meets S0 (status_of l r).state
spare_meets l r a b c d = sym (same_meets S0 (status_of l r).state (spare_none l r a b c d))

pub no_spare : (r : List ℕ) → length r < 4 → get_or r 3 0 < 255
no_spare r h =
    let e : get_or r 3 0 ≡ 0 = get_or-eq_default r 0 (omega (arith, h)) in
    omega (arith, e)

-- the fourth byte says whether a word is below FF000000
pub spare_word : (r : List ℕ) (b : ℕ) → b ≡ get_or r 3 0 → get_or r 0 0 < 256 → get_or r 1 0 < 256 → get_or r 2 0 < 256
    → get_or r 3 0 < 256 → not (eqb b 255) ≡ ltb (word_of r) 0xFF000000
unfolding word_of
spare_word r b e v w x y = go (eqb b 255) refl
  where
    go : (t : Bool) → eqb b 255 ≡ t → not t ≡ ltb (word_of r) 0xFF000000
    go true q = sym (le-ltb (word_of r) 0xFF000000 (omega (arith, eqb-true b 255 q, e)))
    go false q = sym (lt-ltb (word_of r) 0xFF000000 (omega (arith, eqb-false b 255 q, e, v, w, x, y)))

pub word_meets : (l r : List ℕ) → word_of r < 0xFF000000 → true ≡ meets S0 (status_of l r).state
word_meets l r h = sym (same_meets S0 (status_of l r).state (word_none l r h))

-- the pages are at a line or not, from the look-up where it is line 0
pub at_none : (wanted s : State) → line_of wanted ≡ 0 → eqb (line_of s) 0 ≡ meets wanted s
at_none wanted s h = go (eqb (line_of s) 0) refl
  where
    go : (t : Bool) → eqb (line_of s) 0 ≡ t → t ≡ meets wanted s
    go true e = sym (eq-eqb (line_of wanted) (line_of s) (h ∙ sym (eqb-true (line_of s) 0 e)))
    go false e = sym (ne_eqb (line_of wanted) (line_of s) (λ q. eqb-false (line_of s) 0 e (sym q ∙ h)))

-- and from the two words of its row elsewhere
not_there : (wanted s : State) → (s ≡ wanted → ⊥) → false ≡ meets wanted s
not_there wanted s h = sym (ne_eqb (line_of wanted) (line_of s) (λ e. h (sym (line_same wanted s e))))

pub other_line : (wanted : State) → (wanted ≡ S0 → ⊥) → line_of wanted ≡ 0 → ⊥
other_line wanted h e = h (line_same wanted S0 e)

pub row_decides : (wanted : State) (l r : List ℕ) → (line_of wanted ≡ 0 → ⊥)
    → (eqb (word_of l) (row_of wanted).left && eqb (word_of r) (row_of wanted).right) ≡ meets wanted (status_of l r).state
row_decides wanted l r h = go (eqb (word_of l) (row_of wanted).left) (eqb (word_of r) (row_of wanted).right) refl refl
  where
    go : (s t : Bool) → eqb (word_of l) (row_of wanted).left ≡ s → eqb (word_of r) (row_of wanted).right ≡ t
        → (s && t) ≡ meets wanted (status_of l r).state
    go true true e f =
        sym (same_meets wanted (status_of l r).state
        (state_of l r wanted h (eqb-true (word_of l) (row_of wanted).left e) (eqb-true (word_of r) (row_of wanted).right f)))
    go true false e f =
        not_there wanted (status_of l r).state
        (λ q. eqb-false (word_of r) (row_of wanted).right f (words_of l r wanted q h).1)
    go false t e f =
        not_there wanted (status_of l r).state
        (λ q. eqb-false (word_of l) (row_of wanted).left e (words_of l r wanted q h).0)

-- two words compared one after the other
pub left_differs : (a b l r : ℕ) → (a ≡ l → ⊥) → false ≡ (eqb a l && eqb b r)
left_differs a b l r h = sym (simp (ne_eqb a l h))

pub right_decides : (a b l r : ℕ) → a ≡ l → eqb b r ≡ (eqb a l && eqb b r)
right_decides a b l r e = sym (simp (eq-eqb a l e))

-- at the line of the image cells, which the live side tells
side_decides : (s : Side) (l r : List ℕ)
    → (eqb (word_of l) (row_of (clean (Some s))).left && eqb (word_of r) (row_of (clean (Some s))).right)
    ≡ meets (clean (Some s)) (status_of l r).state
side_decides Left l r = row_decides (clean (Some Left)) l r (λ e. absurd (omega (arith, e)))
side_decides Right l r = row_decides (clean (Some Right)) l r (λ e. absurd (omega (arith, e)))

pub clean_side : (live : Option Side) (s : Side) (l r : List ℕ) (t : Bool) → live ≡ Some s
    → t ≡ (eqb (word_of l) (row_of (clean (Some s))).left && eqb (word_of r) (row_of (clean (Some s))).right)
    → t ≡ meets (clean live) (status_of l r).state
clean_side live s l r t e h =
    h ∙ side_decides s l r ∙ ap (λ (x : Option Side). meets (clean x) (status_of l r).state) (sym e)
