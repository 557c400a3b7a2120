-- Numbers 1 to 4, "checked in this order, first hit wins" (document 01, "Numbers the board gives
-- back").
-- In order: the number of each answer; the four cases; the numbers. A number that isn't given is 0.
-- Not here: number 5, a read's (the crate reads), and 6, a step's; what a legal request fulfils
-- (Legal.antt). Laws: proofs/Laws.antt; that each number is given exactly in its case:
-- proofs/Exact.antt. Assumes nothing.
use Rattle.std.specs.Prelude.{Result, Ok, Err}
use Rattle.std.specs.Prelude.{ℕ, ◌+◌, Bool, cond, not, ◌||◌, eqb, ltb, leb}
use Rattle.flash.specs.Flash.{is_even}
use Rattle.pages.specs.declared.PageOffset.{PageOffset}
use Rattle.pages.specs.Offsets.{management_size}
use Rattle.requests.specs.declared.Refusal.{Refusal}
use Rattle.requests.specs.declared.Refusal.TheVariants.{
  PageLength,
  OddRequest,
  InManagement,
  PastEnd,
}

-- document 01's number for each refusal
abbrev pub number_of : Refusal → ℕ
number_of PageLength = 1
number_of OddRequest = 2
number_of InManagement = 3
number_of PastEnd = 4

-- and for each answer of a check
abbrev pub number_in : Result (Unit {0}) Refusal → ℕ
number_in (Ok legal) = 0
number_in (Err why) = number_of why

-- ---- the four cases
-- 1: "the pages differ in length, or P is odd, below 8 or above 4,096", with the least and the
-- greatest length given
unfoldable pub wrong_lengths : ℕ → ℕ → ℕ → ℕ → Bool
wrong_lengths least greatest p q = not (eqb p q) || not (is_even p) || ltb p least || ltb greatest p

abbrev pub wrong_pages : ℕ → ℕ → Bool
wrong_pages p q = wrong_lengths 8 4096 p q

-- 2: "offset or length is odd"
unfoldable pub odd_request : PageOffset → ℕ → Bool
odd_request o n = not (is_even o.0) || not (is_even n)

-- 3: "offset below 4"
unfoldable pub below_image : PageOffset → Bool
below_image o = ltb o.0 management_size

-- 4: "offset at or above P, or offset + length above P"
unfoldable pub past_end : ℕ → PageOffset → ℕ → Bool
past_end p o n = leb p o.0 || ltb p (o.0 + n)

-- ---- the numbers in their order; `rest` is what is given where none of these cases holds
unfoldable pub end_number : ℕ → PageOffset → ℕ → ℕ → ℕ
end_number p o n rest = cond (past_end p o n) 4 rest

unfoldable pub span_number : ℕ → PageOffset → ℕ → ℕ → ℕ
span_number p o n rest = cond (odd_request o n) 2 (cond (below_image o) 3 (end_number p o n rest))

-- of a request with an offset and a length, to pages of these two lengths
unfoldable pub request_number : ℕ → ℕ → PageOffset → ℕ → ℕ → ℕ
request_number p q o n rest = cond (wrong_pages p q) 1 (span_number p o n rest)

-- the same with the least and the greatest length of a page given
abbrev pub number_within : ℕ → ℕ → ℕ → ℕ → PageOffset → ℕ → ℕ
number_within least greatest p q o n = cond (wrong_lengths least greatest p q) 1 (span_number p o n 0)

-- of lengths alone
abbrev pub lengths_number : ℕ → ℕ → ℕ → ℕ → ℕ
lengths_number least greatest p q = cond (wrong_lengths least greatest p q) 1 0

-- "A format has no offset and can only meet 1."
unfoldable pub pages_number : ℕ → ℕ → ℕ
pages_number p q = cond (wrong_pages p q) 1 0
