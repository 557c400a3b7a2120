-- Laws of scripts as text.
-- In order: the bytes before one; lines; words.
-- Not here: words as numbers and as bytes (the crate digits).
-- Assumes nothing.
use Rattle.std.proofs.Common.{◌≡◌, ℕ, ◌+◌, ◌-◌, ◌<◌, ◌≤◌, Bool, true, false, cond, not, ◌&&◌, List, [], ◌∷◌, ◌++◌, eqb, ltb, length, get_or, take, drop, refl, sym, ap, ◌∙◌, arith, add-one}
use Prim.Native.Nat.{zero, suc}
use Rattle.std.specs.Prelude.{Option, Some, None, MatchOption, unwrap_or, position}
use Rattle.std.specs.List.{position_or_len}
use Rattle.std.proofs.lemmas.List.{drop_more, drop_all, take_all, take_more, take_rest, take-append-le, length-take, length-drop}
use borrow.Author.Tests.{eq-eqb, lt-ltb, le-ltb, ltb-true, ltb-false, eqb-true}
use Rattle.std.specs.Cmp.Lexicographic.{pointwise}
use denote.Ref.{Bor}
use Rattle.texts.specs.Texts.{
  before_first,
  up_to,
  on_from,
  is,
  is_blank,
  ending,
  reach,
  used,
  trimmed,
  without_return,
  without_comment,
  line_at,
  next_line,
  stride_of,
  word_at,
  same,
}

-- ---- the bytes before one that passes a test
before_within : (test : ℕ → Bool) (s : List ℕ) → before_first test s ≤ length s
unfolding before_first
before_within test [] = omega arith
before_within test (x ∷ xs) = go (test x) (before_within test xs)
  where
    go : (t : Bool) → before_first test xs ≤ length xs → cond t 0 (suc (before_first test xs)) ≤ suc (length xs)
    go true h = omega arith
    go false h = omega arith

-- that is std's word for it
before_is : (test : ℕ → Bool) (s : List ℕ) → position_or_len test s ≡ before_first test s
unfolding before_first
before_is test [] = refl
before_is test (x ∷ xs) = go (test x) (before_is test xs)
  where
    go : (t : Bool) → position_or_len test xs ≡ before_first test xs
        → cond (not t) (1 + position_or_len test xs) 0 ≡ cond t 0 (suc (before_first test xs))
    go true h = refl
    go false h = omega arith

pub found_is : (test : ℕ → Bool) (s : List ℕ)
    → position test s ≡ cond (ltb (before_first test s) (length s)) (Some (before_first test s)) None
found_is test s = ap (λ (n : ℕ). cond (ltb n (length s)) (Some n) None) (before_is test s)

pub found_some : (test : ℕ → Bool) (s : List ℕ) (i : ℕ) → position test s ≡ Some i
    → (i ≡ before_first test s) × (i < length s)
found_some test s i h = go (ltb (before_first test s) (length s)) refl (sym (found_is test s) ∙ h)
  where
    go : (t : Bool) → ltb (before_first test s) (length s) ≡ t
        → ◌≡◌ {A = Option ℕ} (cond t (Some (before_first test s)) None) (Some i)
        → (i ≡ before_first test s) × (i < length s)
    go true e k =
        let at : i ≡ before_first test s = cc in
        (at, rw at (ltb-true (before_first test s) (length s) e))
    go false e k = absurd (cc)

pub found_none : (test : ℕ → Bool) (s : List ℕ) → position test s ≡ None → before_first test s ≡ length s
found_none test s h = go (ltb (before_first test s) (length s)) refl (sym (found_is test s) ∙ h)
  where
    go : (t : Bool) → ltb (before_first test s) (length s) ≡ t
        → ◌≡◌ {A = Option ℕ} (cond t (Some (before_first test s)) None) None → before_first test s ≡ length s
    go true e k = absurd (cc)
    go false e k = omega (arith, before_within test s, ltb-false (before_first test s) (length s) e)

pub found_or : (test : ℕ → Bool) (s : List ℕ) (o : Option ℕ) → o ≡ position test s
    → unwrap_or o (length s) ≡ before_first test s
found_or test s None e = sym (found_none test s (sym e))
found_or test s (Some i) e = (found_some test s i (sym e)).0

-- ---- lines
-- a line without its last byte
used_push : (s : List ℕ) (b : ℕ) (t : Bool) → is_blank b ≡ t
    → used (s ++ b ∷ []) ≡ cond t (used s) (length s + 1)
unfolding used
used_push [] b true e = ap (λ (u : Bool). cond u 0 1) e
used_push [] b false e = ap (λ (u : Bool). cond u 0 1) e
used_push (x ∷ xs) b true e = ap (reach x) (used_push xs b true e)
used_push (x ∷ xs) b false e = ap (reach x) (used_push xs b false e ∙ add-one (length xs)) ∙ sym (add-one (length (x ∷ xs)))

used_within : (s : List ℕ) → used s ≤ length s
unfolding used
used_within [] = omega arith
used_within (x ∷ xs) = go (is_blank x) (used xs) (used_within xs)
  where
    go : (t : Bool) (n : ℕ) → n ≤ length xs → reach x n ≤ suc (length xs)
    go t zero h = low (is_blank x)
      where
        low : (u : Bool) → cond u 0 1 ≤ suc (length xs)
        low true = omega arith
        low false = omega arith
    go t (suc n) h = omega arith

last_apart : (s : List ℕ) → 0 < length s
    → s ≡ take (length s - 1) s ++ get_or s (length s - 1) 0 ∷ []
last_apart s h =
    let all : length s - 1 + 1 ≡ length s = omega arith in
    sym (ap (λ (n : ℕ). take n s) all ∙ take_all (length s) s (omega arith))
    ∙ take_more s (length s - 1) 0 (omega arith)

pub trimmed_blank : (s : List ℕ) → 0 < length s → is_blank (get_or s (length s - 1) 0) ≡ true
    → trimmed (take (length s - 1) s) ≡ trimmed s
trimmed_blank s h e =
    let front : List ℕ = take (length s - 1) s in
    let b : ℕ = get_or s (length s - 1) 0 in
    sym
    (ap trimmed (last_apart s h)
    ∙ ap (λ (n : ℕ). take n (front ++ b ∷ [])) (used_push front b true e)
    ∙ take-append-le (used front) front (b ∷ []) (used_within front))

pub trimmed_word : (s : List ℕ) → 0 < length s → is_blank (get_or s (length s - 1) 0) ≡ false → s ≡ trimmed s
trimmed_word s h e =
    let front : List ℕ = take (length s - 1) s in
    let b : ℕ = get_or s (length s - 1) 0 in
    let all : used s ≡ length front + 1 = ap used (last_apart s h) ∙ used_push front b false e in
    sym (take_all (used s) s (omega (arith, all, length-take (length s - 1) s)))

-- a line up to its comment
pub comment_cut : (s : List ℕ) (i : ℕ) → position (is 35) s ≡ Some i → take i s ≡ without_comment s
unfolding without_comment
comment_cut s i h =
    let at = found_some (is 35) s i h in
    ap (λ (n : ℕ). take n s) at.0
    ∙ sym
    (ap (λ (t : Bool). cond t (up_to (is 35) s) (without_return s))
    (lt-ltb (before_first (is 35) s) (length s) (omega (arith, at.0, at.1))))

pub no_comment : (s : List ℕ) → position (is 35) s ≡ None → without_return s ≡ without_comment s
unfolding without_comment
no_comment s h =
    sym
    (ap (λ (t : Bool). cond t (up_to (is 35) s) (without_return s))
    (le-ltb (before_first (is 35) s) (length s) (omega (arith, found_none (is 35) s h))))

last_return : (s : List ℕ) (t : Bool) → pointwise eqb (drop (length s - 1) s) (13 ∷ []) ≡ t
    → eqb (get_or s (length s - 1) 0) 13 ≡ t
last_return [] t h = h
last_return (x ∷ xs) t h = alone (eqb (get_or (x ∷ xs) (length (x ∷ xs) - 1) 0) 13) ∙ sym (ap (λ (r : List ℕ). pointwise eqb r (13 ∷ [])) left) ∙ h
  where
    left : drop (length (x ∷ xs) - 1) (x ∷ xs) ≡ get_or (x ∷ xs) (length (x ∷ xs) - 1) 0 ∷ []
    left =
        drop_more (x ∷ xs) (length (x ∷ xs) - 1) 0 (omega arith)
        ∙ ap (λ (r : List ℕ). get_or (x ∷ xs) (length (x ∷ xs) - 1) 0 ∷ r)
        (drop_all (length (x ∷ xs) - 1 + 1) (x ∷ xs) (omega arith))

    alone : (b : Bool) → b ≡ (b && true)
    alone true = refl
    alone false = refl

pub return_is : (s : List ℕ) (line r : Bor (List ℕ)) (o : Option (Bor (List ℕ))) → line.now ≡ s → r ≡ unwrap_or o line
    → MatchOption o (pointwise eqb (drop (length s - 1) s) (13 ∷ []) ≡ false)
    (λ x.
    (pointwise eqb (drop (length s - 1) s) (13 ∷ []) ≡ true)
    × (x.now ≡ take (length s - 1) s)
    × (length x.now + 1 ≡ length s))
    → r.now ≡ without_return s
unfolding without_return
return_is s line r None el er h =
    ap (λ (x : Bor (List ℕ)). x.now) er ∙ el
    ∙ sym (ap (λ (t : Bool). cond t (take (length s - 1) s) s) (last_return s false h))
return_is s line r (Some x) el er h =
    ap (λ (x : Bor (List ℕ)). x.now) er ∙ h.1
    ∙ sym (ap (λ (t : Bool). cond t (take (length s - 1) s) s) (last_return s true h.0))

pub line_is : (text words : List ℕ) (place end start : ℕ) → end ≡ before_first (is 10) (drop place text)
    → words ≡ trimmed (without_comment (take end (drop place text))) → start ≡ before_first (ending true) words
    → take (length words - start) (drop start words) ≡ line_at text place
unfolding line_at
line_is text words place end start ee ew es =
    take_rest words start
    ∙ ap (λ (n : ℕ). drop n words) es
    ∙ ap (on_from (ending true)) (ew ∙ ap (λ (n : ℕ). trimmed (without_comment (take n (drop place text)))) ee)

-- where the next line begins
pub next_more : (text : List ℕ) (place n : ℕ) → position (is 10) (drop place text) ≡ Some n
    → place + n + 1 ≡ next_line text place
unfolding next_line
next_more text place n h =
    let at = found_some (is 10) (drop place text) n h in
    let l : length (drop place text) ≡ length text - place = length-drop place text in
    ap (λ (k : ℕ). place + k + 1) at.0
    ∙ sym
    (ap (λ (t : Bool). cond t (place + before_first (is 10) (drop place text) + 1) (length text))
    (lt-ltb (place + before_first (is 10) (drop place text)) (length text) (omega (arith, l, at.0, at.1))))

pub next_last : (text : List ℕ) (place : ℕ) → position (is 10) (drop place text) ≡ None
    → length text ≡ next_line text place
unfolding next_line
next_last text place h =
    sym
    (ap (λ (t : Bool). cond t (place + before_first (is 10) (drop place text) + 1) (length text))
    (le-ltb (place + before_first (is 10) (drop place text)) (length text)
    (omega (arith, length-drop place text, found_none (is 10) (drop place text) h))))

-- ---- words
pub stride_is : (s : List ℕ) (a b : ℕ) → a ≡ before_first (ending false) s
    → b ≡ before_first (ending true) (take (length s - a) (drop a s)) → a + b ≡ stride_of s
unfolding stride_of
stride_is s a b ea eb =
    ap (λ (n : ℕ). a + n) (eb ∙ ap (before_first (ending true)) (take_rest s a))
    ∙ ap (λ (n : ℕ). n + before_first (ending true) (drop n s)) ea

pub word_on : (rest w : List ℕ) (size counter number : ℕ) → counter < number → size ≡ stride_of rest
    → word_at (number - counter) rest ≡ w
    → word_at (number - (counter + 1)) (take (length rest - size) (drop size rest)) ≡ w
unfolding word_at
word_on rest w size counter number h e k =
    let left : number - counter ≡ suc (number - (counter + 1)) = omega arith in
    ap (word_at (number - (counter + 1))) (take_rest rest size ∙ ap (λ (n : ℕ). drop n rest) e)
    ∙ sym (ap (λ (n : ℕ). word_at n rest) left)
    ∙ k

-- two words are the same
same_self : (a : List ℕ) → same a a ≡ true
unfolding same
same_self [] = refl
same_self (x ∷ xs) = simp (eq-eqb x x refl, same_self xs)

same_true : (a b : List ℕ) → same a b ≡ true → a ≡ b
unfolding same
same_true [] [] h = refl
same_true [] (y ∷ ys) h = let z : ◌≡◌ {A = ℕ} 0 1 = cc in absurd (omega arith)
same_true (x ∷ xs) [] h = let z : ◌≡◌ {A = ℕ} 0 1 = cc in absurd (omega arith)
same_true (x ∷ xs) (y ∷ ys) h = go (eqb x y) refl h (same_true xs ys)
  where
    go : (t : Bool) → eqb x y ≡ t → (t && same xs ys) ≡ true → (same xs ys ≡ true → xs ≡ ys) → x ∷ xs ≡ y ∷ ys
    go true e k f = (λ i. eqb-true x y e i ∷ f k i)
    go false e k f = let z : ◌≡◌ {A = ℕ} 0 1 = cc in absurd (omega arith)
