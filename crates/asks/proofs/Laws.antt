-- Laws of what a line asks for.
-- In order: words that are the same; a read or a copy; a step with bytes.
-- Not here: the laws of words and numbers (the crates texts and digits); what a right line hands over (Right.antt).
-- Assumes nothing.
use lib.ListN.{length}
use borrow.Author.Tests.{ne_eqb}
use mathlib.Core.Path.{◌∙◌}
use mathlib.Core.Bool.{true}
use Rattle.std.proofs.Common.{◌≡◌, ℕ, Bool, ◌&&◌, List, [], ◌∷◌, eqb, refl, ap}
use Rattle.std.specs.Prelude.{Result, Ok, Err, MatchResult}
use Rattle.std.specs.Cmp.Lexicographic.{pointwise}
use Rattle.pages.specs.declared.PageOffset.{PageOffset}
use Rattle.texts.specs.Texts.{same, word_at}
use Rattle.asks.specs.declared.Call.{Call}
use Rattle.asks.specs.declared.Call.TheVariants as C
use Rattle.asks.specs.declared.Wrong.{Wrong}
use Rattle.asks.specs.Asks.{part_call, at, with_word, with_bytes, steps_of, step_of}

-- whether two words are the same, as `==` tells it
pub same_is : (a b : List ℕ) → pointwise eqb a b ≡ same a b
unfolding same
same_is [] [] = refl
same_is [] (y ∷ ys) = refl
same_is (x ∷ xs) [] = refl
same_is (x ∷ xs) (y ∷ ys) = ap (λ (t : Bool). eqb x y && t) (same_is xs ys)

pub called : (call : PageOffset → ℕ → Call) (x : Result (PageOffset × ℕ) Wrong) (r : Result Call Wrong)
    → MatchResult x (λ p. r ≡ Ok (call p.0 p.1)) (λ e. r ≡ Err e) → r ≡ part_call call x
called call (Ok p) r h = h
called call (Err e) r h = h

-- a part that isn't copied is read
pub part_read_lem : (offset size : ℕ) → Ok (C.Read (at offset) size) ≡ part_call C.Read (Ok (at offset, size))
part_read_lem offset size = refl

-- what a step asks for goes by the word behind it
on_count : (line count : List ℕ) → count ≡ word_at 1 line → steps_of count line ≡ step_of line
unfolding step_of
on_count line count ew = ap (λ (t : List ℕ). steps_of t line) ew

-- `step with HEX`, by the word behind `step`
pub step_with_lem : (line count : List ℕ) (z : Result Call Wrong) → count ≡ word_at 1 line → (length count ≡ 0 → ⊥)
    → same count with_word ≡ true → z ≡ with_bytes line C.StepWith → z ≡ step_of line
unfolding steps_of
step_with_lem line count z ew h k e =
    let f : with_bytes line C.StepWith ≡ steps_of count line = simp (ne_eqb (length count) 0 h, k) in
    e ∙ f ∙ on_count line count ew
