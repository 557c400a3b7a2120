-- Laws of beginnings, and of a step's number 6 for wrong numbers.
-- In order: beginnings; a format's numbers; from facts to wrong numbers; what right numbers fulfil.
-- Not here: numbers 1 to 4 themselves (the crate requests). Assumes nothing.
use Prim.Native.Nat.{ℕ}
use mathlib.Core.Path.{◌≡◌, sym, ap, subst, ◌∙◌}
use mathlib.Core.Bool.{true, false, not}
use mathlib.Core.List.{List}
use lib.Dec.{eqb}
use lib.ListN.{length}
use borrow.Author.Tests.{eq-eqb, ne_eqb}
use Rattle.pages.specs.declared.PageOffset.{PageOffset}
use Rattle.requests.specs.declared.Refusal.{Refusal}
use Rattle.requests.specs.Numbers.{number_of, request_number}
use Rattle.requests.specs.Legal.{Legal}
use Rattle.requests.proofs.Laws.{never_none}
use Rattle.plans.specs.declared.Request.{Request}
use Rattle.plans.specs.declared.Request.TheVariants.{Format}
use Rattle.lines.specs.declared.Start.{Start}
use Rattle.lines.specs.Starts.{start_of, begins_in}
use Rattle.lines.proofs.Laws.{start_same}
use Rattle.walks.specs.declared.Walk.{Walk}
use Rattle.walks.specs.Walks.{
  first_walk,
  refused,
  begun,
  beginning,
  wrong_format,
  wrong_numbers,
}
use Rattle.walks.proofs.Sizes.{right_numbers}

-- ---- beginnings
pub begin_refused : (k : ℕ) (w : Walk) (why : Refusal) → number_of why ≡ k → refused (number_of why) ≡ beginning k w
begin_refused k w why e = ap refused e ∙ sym (simp (ne_eqb k 0 (λ z. never_none why (e ∙ z))))

pub begin_on : (k : ℕ) (v w : Walk) → 0 ≡ k → v ≡ w → begun v ≡ beginning k w
begin_on k v w e h = ap begun h ∙ sym (simp (eq-eqb k 0 (sym e)))

-- the walk that keeps what the pages start with is the first one
pub started : (request : Request) (l r : List ℕ) (o : PageOffset) (n : ℕ) (s : Start) → begins_in s ≡ begins_in
    (start_of request l r)
    → ◌≡◌ {A = Walk}
    (record {
      request = request;
      start = s.state;
      erased = s.erased;
      page = length l;
      offset = o;
      len = n;
      place = 0;
    })
    (first_walk request l r o n)
started request l r o n s told =
    let e : s ≡ start_of request l r = start_same s (start_of request l r) told in
    λ i. record {
      request = request;
      start = (e i).state;
      erased = (e i).erased;
      page = length l;
      offset = o;
      len = n;
      place = 0;
    }

-- ---- a format's offset and length
pub format_offset : (o : PageOffset) (n : ℕ) → (o.0 ≡ 4 → ⊥) → true ≡ wrong_format Format o n
format_offset o n h = sym (simp (ne_eqb o.0 4 h))

pub format_length : (o : PageOffset) (n : ℕ) → o.0 ≡ 4 → not (eqb n 0) ≡ wrong_format Format o n
format_length o n h = sym (simp (eq-eqb o.0 4 h))

-- ---- wrong numbers
pub wrong_request : (w : Walk) (p q n : ℕ) (why : Refusal)
    → number_of why ≡ request_number p q w.offset w.len 0 → true ≡ wrong_numbers w p q n
unfolding wrong_numbers
wrong_request w p q n why e =
    sym (simp (ne_eqb (request_number p q w.offset w.len 0) 0 (λ z. never_none why (e ∙ z))))

pub wrong_page : (w : Walk) (p q n : ℕ) → 0 ≡ request_number p q w.offset w.len 0 → (p ≡ w.page → ⊥)
    → true ≡ wrong_numbers w p q n
unfolding wrong_numbers
wrong_page w p q n e h =
    sym (simp (eq-eqb (request_number p q w.offset w.len 0) 0 (sym e), ne_eqb p w.page h))

pub wrong_data : (w : Walk) (p q n : ℕ) → 0 ≡ request_number p q w.offset w.len 0 → p ≡ w.page
    → (n ≡ w.len → ⊥) → true ≡ wrong_numbers w p q n
unfolding wrong_numbers
wrong_data w p q n e f h =
    sym (simp (
      eq-eqb (request_number p q w.offset w.len 0) 0 (sym e),
      eq-eqb p w.page f,
      ne_eqb n w.len h,
    ))

pub wrong_format_lem : (w : Walk) (p q n : ℕ) → 0 ≡ request_number p q w.offset w.len 0 → p ≡ w.page
    → n ≡ w.len → wrong_format w.request w.offset w.len ≡ wrong_numbers w p q n
unfolding wrong_numbers
wrong_format_lem w p q n e f h =
    sym (simp (
      eq-eqb (request_number p q w.offset w.len 0) 0 (sym e),
      eq-eqb p w.page f,
      eq-eqb n w.len h,
    ))

-- ---- what right numbers fulfil
pub right_legal : (w : Walk) (p q n : ℕ) → wrong_numbers w p q n ≡ false → Legal p q w.offset n
right_legal w p q n e =
    let f = right_numbers w p q n e in
    subst (λ (k : ℕ). Legal p q w.offset k) (sym f.size) f.request

pub right_page : (w : Walk) (p q n : ℕ) → wrong_numbers w p q n ≡ false → p ≡ w.page
right_page w p q n e = (right_numbers w p q n e).page

pub kept_legal : (w : Walk) (p q n : ℕ) → wrong_numbers w p q n ≡ false → Legal w.page w.page w.offset n
kept_legal w p q n e =
    let h = right_legal w p q n e in
    subst (λ (k : ℕ). Legal k k w.offset n) (right_page w p q n e)
    (subst (λ (k : ℕ). Legal p k w.offset n) (sym h.same) h)
