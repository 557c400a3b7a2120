-- Laws of a copy that goes on from place to place.
-- In order: a part more; all parts.
-- Assumes nothing.
use Prim.Native.Nat.{ℕ, ◌+◌, ◌-◌, ◌≤◌, min}
use mathlib.Core.Path.{◌≡◌, refl, sym, ap, ap₂, ◌∙◌}
use mathlib.Core.List.{List, ◌++◌, append_assoc}
use native.Mathlib.Omega.{arith}
use lib.ListN.{length, take, drop}
use lib.Seq.{length-take-le, take_at, take-add, drop-drop, drop-append-add}
use Rattle.copies.specs.Copies.{copied}

-- the bytes before a place are copied, the others as they were
pub block_next : (src old dst after : List ℕ) (a e : ℕ) → a ≤ e → a ≤ length src
    → dst ≡ take a src ++ drop a old
    → after ≡ take a dst ++ (take (e - a) (drop a src) ++ drop e dst)
    → after ≡ take e src ++ drop e old
block_next src old dst after a e h m p q =
    let k : length (take a src) ≡ a = length-take-le a src m in
    let front : take a dst ≡ take a src =
    ap (λ (l : List ℕ). take a l) p ∙ take_at (take a src) (drop a old) a k in
    let whole : a + (e - a) ≡ e = omega arith in
    let rest : drop e dst ≡ drop e old =
    ap (λ (l : List ℕ). drop e l) p
    ∙ ap (λ (n : ℕ). drop n (take a src ++ drop a old)) (sym (ap (λ (n : ℕ). n + (e - a)) k ∙ whole))
    ∙ drop-append-add (take a src) (drop a old) (e - a)
    ∙ drop-drop (e - a) a old
    ∙ ap (λ (n : ℕ). drop n old) whole in
    q
    ∙ ap₂ (λ (x y : List ℕ). x ++ (take (e - a) (drop a src) ++ y)) front rest
    ∙ sym (append_assoc (take a src) (take (e - a) (drop a src)) (drop e old))
    ∙ ap (λ (l : List ℕ). l ++ drop e old)
    (sym (take-add a (e - a) src) ∙ ap (λ (n : ℕ). take n src) whole)

pub all_copied : (src old dst : List ℕ) (n : ℕ) → n ≡ min (length src) (length old)
    → dst ≡ take n src ++ drop n old → dst ≡ copied src old
unfolding copied
all_copied src old dst n e q = q ∙ ap (λ (k : ℕ). take k src ++ drop k old) e
