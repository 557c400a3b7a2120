-- "Each is given exactly in its case and never otherwise": numbers 1 to 4 by plain facts, each where none of the lower
-- ones holds. The tests of the definitions are said here in other words, so that a bound changed in tests and code alike
-- is refused.
-- In order: the facts of each case; from the number to its case; from the case to its number; the number of a format.
-- Assumes nothing.
use Prim.Native.Nat.{ℕ, zero, suc, ◌+◌, ◌%◌, ◌<◌, ◌≤◌}
use mathlib.Core.Path.{◌≡◌, refl}
use mathlib.Core.Bool.{Bool, true, false, cond, not}
use native.Mathlib.Omega.{arith}
use lib.Dec.{ltb, leb}
use borrow.Author.Tests.{eqb-true, ltb-true, ltb-false, leb-false, not-false}
use Rattle.flash.specs.Flash.{is_even}
use Rattle.pages.specs.declared.PageOffset.{PageOffset}
use Rattle.requests.specs.Numbers.{
  wrong_pages,
  odd_request,
  below_image,
  past_end,
  end_number,
  span_number,
  request_number,
  pages_number,
}
use Rattle.requests.specs.Legal.{RightPages, Legal}
use Rattle.requests.proofs.Laws.{
  or_left,
  or_right,
  right_pages,
  pages_right,
  both_even,
  in_management,
  in_image_lem,
  ends_inside,
  legal_none,
}

-- ---- the facts of each case
-- neither offset nor length is odd
abbrev pub Even : PageOffset → ℕ → Type 0
Even o n = (o.0 % 2 ≡ 0) × (n % 2 ≡ 0)

-- the offset lies below P, and offset and length together don't pass it
abbrev pub Inside : ℕ → PageOffset → ℕ → Type 0
Inside p o n = (o.0 < p) × (o.0 + n ≤ p)

-- a number's case, given that none of the lower ones holds; 0 is no number
abbrev pub Case : ℕ → ℕ → ℕ → PageOffset → ℕ → Type 0
Case zero p q o n = Legal p q o n
Case (suc zero) p q o n = RightPages p q → ⊥
Case (suc (suc zero)) p q o n = RightPages p q × (Even o n → ⊥)
Case (suc (suc (suc zero))) p q o n = RightPages p q × Even o n × (o.0 < 4)
Case (suc (suc (suc (suc zero)))) p q o n = RightPages p q × Even o n × (4 ≤ o.0) × (Inside p o n → ⊥)
Case (suc (suc (suc (suc (suc k))))) p q o n = ⊥

-- ---- from the number to its case
even_pair : (o : PageOffset) (n : ℕ) → odd_request o n ≡ false → Even o n
unfolding odd_request
even_pair o n e = (
  eqb-true (o.0 % 2) 0 (not-false (is_even o.0) (or_left (not (is_even o.0)) (not (is_even n)) e)),
  eqb-true (n % 2) 0 (not-false (is_even n) (or_right (not (is_even o.0)) (not (is_even n)) e)),
)

below : (o : PageOffset) → below_image o ≡ true → o.0 < 4
unfolding below_image
below o e = ltb-true o.0 4 e

not_below : (o : PageOffset) → below_image o ≡ false → 4 ≤ o.0
unfolding below_image
not_below o e = ltb-false o.0 4 e

inside : (p : ℕ) (o : PageOffset) (n : ℕ) → past_end p o n ≡ false → Inside p o n
unfolding past_end
inside p o n e = (
  leb-false p o.0 (or_left (leb p o.0) (ltb p (o.0 + n)) e),
  ltb-false p (o.0 + n) (or_right (leb p o.0) (ltb p (o.0 + n)) e),
)

-- a test that holds and doesn't
both : (t : Bool) → t ≡ true → t ≡ false → ⊥
both t p q = let z : ◌≡◌ {A = ℕ} 0 1 = cc in omega (arith, z)

pub exactly : (p q : ℕ) (o : PageOffset) (n : ℕ) → Case (request_number p q o n 0) p q o n
unfolding request_number span_number end_number
exactly p q o n = go (wrong_pages p q) (odd_request o n) (below_image o) (past_end p o n) refl refl refl refl
  where
    go : (s t u v : Bool) → wrong_pages p q ≡ s → odd_request o n ≡ t → below_image o ≡ u → past_end p o n ≡ v
        → Case (cond s 1 (cond t 2 (cond u 3 (cond v 4 0)))) p q o n
    go true t u v a b c d =
        λ h. both (wrong_pages p q) a (pages_right 8 4096 p q h.same h.even_page h.least h.most)
    go false true u v a b c d = (right_pages p q a, λ h. both (odd_request o n) b (both_even o n h.0 h.1))
    go false false true v a b c d = (right_pages p q a, even_pair o n b, below o c)
    go false false false true a b c d = (
      right_pages p q a,
      even_pair o n b,
      not_below o c,
      λ h. both (past_end p o n) d (ends_inside p o n h.0 (omega (arith, h.1))),
    )
    go false false false false a b c d =
        let r = right_pages p q a in
        let e = even_pair o n b in
        let i = inside p o n d in
        record {
          same = r.same;
          even_page = r.even_page;
          least = r.least;
          most = r.most;
          even_offset = e.0;
          even_length = e.1;
          in_image = not_below o c;
          starts = i.0;
          ends = i.1;
        }

-- ---- from the case to its number
module _ (p q : ℕ) (o : PageOffset) (n : ℕ) where
  -- the number by the four tests
  by_tests : (s t u v : Bool) → wrong_pages p q ≡ s → odd_request o n ≡ t → below_image o ≡ u → past_end p o n ≡ v
      → request_number p q o n 0 ≡ cond s 1 (cond t 2 (cond u 3 (cond v 4 0)))
  unfolding request_number span_number end_number
  by_tests s t u v a b c d = λ i. cond (a i) 1 (cond (b i) 2 (cond (c i) 3 (cond (d i) 4 0)))

  right : RightPages p q → wrong_pages p q ≡ false
  right h = pages_right 8 4096 p q h.same h.even_page h.least h.most

  one_only : (RightPages p q → ⊥) → (t : Bool) → wrong_pages p q ≡ t → request_number p q o n 0 ≡ 1
  one_only h true a = by_tests true (odd_request o n) (below_image o) (past_end p o n) a refl refl refl
  one_only h false a = absurd (h (right_pages p q a))

  two_only : RightPages p q → (Even o n → ⊥) → (t : Bool) → odd_request o n ≡ t → request_number p q o n 0 ≡ 2
  two_only r h true b = by_tests false true (below_image o) (past_end p o n) (right r) b refl refl
  two_only r h false b = absurd (h (even_pair o n b))

  four_only : RightPages p q → Even o n → 4 ≤ o.0 → (Inside p o n → ⊥) → (t : Bool) → past_end p o n ≡ t
      → request_number p q o n 0 ≡ 4
  four_only r e i h true d = by_tests false false false true (right r) (both_even o n e.0 e.1) (in_image_lem o i) d
  four_only r e i h false d = absurd (h (inside p o n d))

pub only : (k p q : ℕ) (o : PageOffset) (n : ℕ) → Case k p q o n → request_number p q o n 0 ≡ k
only zero p q o n h = legal_none p q o n 0 h
only (suc zero) p q o n h = one_only p q o n h (wrong_pages p q) refl
only (suc (suc zero)) p q o n h = two_only p q o n h.0 h.1 (odd_request o n) refl
only (suc (suc (suc zero))) p q o n h =
    by_tests p q o n false false true (past_end p o n) (right p q o n h.0) (both_even o n h.1.0 h.1.1)
    (in_management o h.2) refl
only (suc (suc (suc (suc zero)))) p q o n h =
    four_only p q o n h.0 h.1 h.2 h.3 (past_end p o n) refl
only (suc (suc (suc (suc (suc k))))) p q o n h = absurd h

-- ---- a format: 1 or none
abbrev pub PagesCase : ℕ → ℕ → ℕ → Type 0
PagesCase zero p q = RightPages p q
PagesCase (suc zero) p q = RightPages p q → ⊥
PagesCase (suc (suc k)) p q = ⊥

pub pages_exactly : (p q : ℕ) → PagesCase (pages_number p q) p q
unfolding pages_number
pages_exactly p q = go (wrong_pages p q) refl
  where
    go : (s : Bool) → wrong_pages p q ≡ s → PagesCase (cond s 1 0) p q
    go true a = λ h. both (wrong_pages p q) a (pages_right 8 4096 p q h.same h.even_page h.least h.most)
    go false a = right_pages p q a
