-- Laws of numbers 1 to 4.
-- In order: from facts to each case and its number; what a legal request fulfils; numbers that come after 1 to 4.
-- Not here: that each number is given exactly in its case (Exact.antt). Assumes nothing.
use Prim.Native.Nat.{ℕ, suc, ◌+◌, ◌-◌, ◌%◌, ◌<◌, ◌≤◌}
use mathlib.Core.Path.{◌≡◌, refl, sym, ap}
use mathlib.Core.Bool.{Bool, true, false, cond, not, ◌||◌}
use native.Mathlib.Omega.{arith}
use lib.Dec.{eqb, ltb, leb, lit≤}
use borrow.Author.Tests.{eqb-true, ltb-false, leb-false, not-false, eq-eqb, ne_eqb, lt-ltb, le-ltb, le-leb, lt-leb}
use Rattle.pages.specs.declared.PageOffset.{PageOffset}
use Rattle.flash.specs.Flash.{is_even}
use Rattle.requests.specs.declared.Refusal.{Refusal}
use Rattle.requests.specs.declared.Refusal.TheVariants.{PageLength, OddRequest, InManagement, PastEnd}
use Rattle.requests.specs.Numbers.{number_of, wrong_lengths, wrong_pages, odd_request, below_image, past_end, end_number, span_number, request_number, lengths_number, pages_number}
use Rattle.requests.specs.Legal.{RightPages, Legal}

-- ---- from facts to each case
pub pages_differ : (a b p q : ℕ) → (p ≡ q → ⊥) → wrong_lengths a b p q ≡ true
unfolding wrong_lengths
pages_differ a b p q h = simp (ne_eqb p q h)

pub pages_odd : (a b p q : ℕ) → p ≡ q → (p % 2 ≡ 0 → ⊥) → wrong_lengths a b p q ≡ true
unfolding wrong_lengths
pages_odd a b p q e h = simp (eq-eqb p q e, ne_eqb (p % 2) 0 h)

pub pages_short : (a b p q : ℕ) → p ≡ q → p % 2 ≡ 0 → p < a → wrong_lengths a b p q ≡ true
unfolding wrong_lengths
pages_short a b p q e v h = simp (eq-eqb p q e, eq-eqb (p % 2) 0 v, lt-ltb p a h)

pub pages_long : (a b p q : ℕ) → p ≡ q → p % 2 ≡ 0 → a ≤ p → b < p → wrong_lengths a b p q ≡ true
unfolding wrong_lengths
pages_long a b p q e v l h = simp (eq-eqb p q e, eq-eqb (p % 2) 0 v, le-ltb p a l, lt-ltb b p h)

pub pages_right : (a b p q : ℕ) → p ≡ q → p % 2 ≡ 0 → a ≤ p → p ≤ b → wrong_lengths a b p q ≡ false
unfolding wrong_lengths
pages_right a b p q e v l h = simp (eq-eqb p q e, eq-eqb (p % 2) 0 v, le-ltb p a l, le-ltb b p h)

pub offset_odd : (o : PageOffset) (n : ℕ) → (o.0 % 2 ≡ 0 → ⊥) → odd_request o n ≡ true
unfolding odd_request
offset_odd o n h = simp (ne_eqb (o.0 % 2) 0 h)

pub length_odd : (o : PageOffset) (n : ℕ) → o.0 % 2 ≡ 0 → (n % 2 ≡ 0 → ⊥) → odd_request o n ≡ true
unfolding odd_request
length_odd o n e h = simp (eq-eqb (o.0 % 2) 0 e, ne_eqb (n % 2) 0 h)

pub both_even : (o : PageOffset) (n : ℕ) → o.0 % 2 ≡ 0 → n % 2 ≡ 0 → odd_request o n ≡ false
unfolding odd_request
both_even o n e h = simp (eq-eqb (o.0 % 2) 0 e, eq-eqb (n % 2) 0 h)

pub in_management : (o : PageOffset) → o.0 < 4 → below_image o ≡ true
unfolding below_image
in_management o h = lt-ltb o.0 4 h

pub in_image_lem : (o : PageOffset) → 4 ≤ o.0 → below_image o ≡ false
unfolding below_image
in_image_lem o h = le-ltb o.0 4 h

pub starts_past : (p : ℕ) (o : PageOffset) (n : ℕ) → p ≤ o.0 → past_end p o n ≡ true
unfolding past_end
starts_past p o n h = simp (le-leb p o.0 h)

pub ends_past : (p : ℕ) (o : PageOffset) (n : ℕ) → o.0 < p → p - o.0 < n → past_end p o n ≡ true
unfolding past_end
ends_past p o n s h = simp (lt-leb p o.0 s, lt-ltb p (o.0 + n) (omega arith))

pub ends_inside : (p : ℕ) (o : PageOffset) (n : ℕ) → o.0 < p → n ≤ p - o.0 → past_end p o n ≡ false
unfolding past_end
ends_inside p o n s h = simp (lt-leb p o.0 s, le-ltb p (o.0 + n) (omega arith))

-- ---- from each case to its number
-- a case that would give a number doesn't hold where none is given
passed : (t : Bool) (k rest : ℕ) → cond t (suc k) rest ≡ 0 → (t ≡ false) × (rest ≡ 0)
passed true k rest e = absurd (omega (arith, e))
passed false k rest e = (refl, e)

pub one : (a b p q : ℕ) → wrong_lengths a b p q ≡ true → 1 ≡ lengths_number a b p q
one a b p q e = sym (ap (λ (t : Bool). cond t 1 0) e)

pub two : (p : ℕ) (o : PageOffset) (n rest : ℕ) → odd_request o n ≡ true → 2 ≡ span_number p o n rest
unfolding span_number
two p o n rest e = simp e

pub three : (p : ℕ) (o : PageOffset) (n rest : ℕ) → odd_request o n ≡ false → below_image o ≡ true
    → 3 ≡ span_number p o n rest
unfolding span_number
three p o n rest e h = simp (e, h)

pub four : (p : ℕ) (o : PageOffset) (n rest : ℕ) → past_end p o n ≡ true → 4 ≡ end_number p o n rest
unfolding end_number
four p o n rest e = simp e

pub not_four : (p : ℕ) (o : PageOffset) (n rest : ℕ) → past_end p o n ≡ false → rest ≡ end_number p o n rest
unfolding end_number
not_four p o n rest e = simp e

-- the pages' number comes first, and the others where the pages give none
pub one_to_four : (why : Refusal) → (1 ≤ number_of why) × (number_of why ≤ 4)
one_to_four PageLength = (lit≤ tt, lit≤ tt)
one_to_four OddRequest = (lit≤ tt, lit≤ tt)
one_to_four InManagement = (lit≤ tt, lit≤ tt)
one_to_four PastEnd = (lit≤ tt, lit≤ tt)

pub never_none : (why : Refusal) → number_of why ≡ 0 → ⊥
never_none why e = omega (arith, one_to_four why)

-- ---- what a legal request fulfils
pub or_left : (a b : Bool) → (a || b) ≡ false → a ≡ false
or_left true b e = e
or_left false b e = refl

pub or_right : (a b : Bool) → (a || b) ≡ false → b ≡ false
or_right true b e = cc
or_right false b e = e

even : (n : ℕ) → not (is_even n) ≡ false → n % 2 ≡ 0
even n e = eqb-true (n % 2) 0 (not-false (is_even n) e)

-- pages that aren't given 1
pub right_pages : (p q : ℕ) → wrong_pages p q ≡ false → RightPages p q
unfolding wrong_lengths
right_pages p q e =
    let w₃ = or_left (not (eqb p q) || not (is_even p) || ltb p 8) (ltb 4096 p) e in
    let w₂ = or_left (not (eqb p q) || not (is_even p)) (ltb p 8) w₃ in
    record {
      same = eqb-true p q (not-false (eqb p q) (or_left (not (eqb p q)) (not (is_even p)) w₂));
      even_page = even p (or_right (not (eqb p q)) (not (is_even p)) w₂);
      least = ltb-false p 8 (or_right (not (eqb p q) || not (is_even p)) (ltb p 8) w₃);
      most = ltb-false 4096 p (or_right (not (eqb p q) || not (is_even p) || ltb p 8) (ltb 4096 p) e);
    }

pub legal_pages : (p q : ℕ) → pages_number p q ≡ 0 → RightPages p q
unfolding pages_number
legal_pages p q e = right_pages p q (passed (wrong_pages p q) 0 0 e).0

-- no number means a legal request, and none from what comes after
pub legal : (p q : ℕ) (o : PageOffset) (n rest : ℕ) → request_number p q o n rest ≡ 0 → Legal p q o n × (rest ≡ 0)
unfolding request_number span_number end_number odd_request below_image past_end
legal p q o n rest e =
    let w = passed (wrong_pages p q) 0 (span_number p o n rest) e in
    let d = passed (odd_request o n) 1 (cond (below_image o) 3 (end_number p o n rest)) w.1 in
    let b = passed (below_image o) 2 (end_number p o n rest) d.1 in
    let z = passed (past_end p o n) 3 rest b.1 in
    let r = right_pages p q w.0 in (
      record {
        same = r.same;
        even_page = r.even_page;
        least = r.least;
        most = r.most;
        even_offset = even o.0 (or_left (not (is_even o.0)) (not (is_even n)) d.0);
        even_length = even n (or_right (not (is_even o.0)) (not (is_even n)) d.0);
        in_image = ltb-false o.0 4 b.0;
        starts = leb-false p o.0 (or_left (leb p o.0) (ltb p (o.0 + n)) z.0);
        ends = ltb-false p (o.0 + n) (or_right (leb p o.0) (ltb p (o.0 + n)) z.0);
      },
      z.1,
    )

-- and a request that fulfils it is given none of 1 to 4
pub legal_none : (p q : ℕ) (o : PageOffset) (n rest : ℕ) → Legal p q o n → request_number p q o n rest ≡ rest
unfolding request_number span_number end_number below_image
legal_none p q o n rest h =
    simp (
      pages_right 8 4096 p q h.same h.even_page h.least h.most,
      both_even o n h.even_offset h.even_length,
      le-ltb o.0 4 h.in_image,
      ends_inside p o n h.starts (omega arith),
    )

-- ---- numbers that come after 1 to 4
-- one of 1 to 4 is given whatever comes after it
later : (t : Bool) (m k a b : ℕ) → (m ≡ a → m ≡ b) → m ≡ cond t k a → m ≡ cond t k b
later true m k a b f e = e
later false m k a b f e = f e

pub refused_first : (p q : ℕ) (o : PageOffset) (n rest : ℕ) (why : Refusal) → number_of why ≡ request_number p q o n 0
    → number_of why ≡ request_number p q o n rest
unfolding request_number span_number end_number
refused_first p q o n rest why =
    later (wrong_pages p q) (number_of why) 1 _ _
    (later (odd_request o n) (number_of why) 2 _ _
    (later (below_image o) (number_of why) 3 _ _
    (later (past_end p o n) (number_of why) 4 0 rest (λ e. absurd (never_none why e)))))

-- a legal request is given what comes after
pub legal_then : (p q : ℕ) (o : PageOffset) (n rest : ℕ) → request_number p q o n 0 ≡ 0
    → request_number p q o n rest ≡ rest
legal_then p q o n rest e = legal_none p q o n rest (legal p q o n 0 e).0
