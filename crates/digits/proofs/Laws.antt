-- Laws of words as numbers and as bytes.
-- In order: numbers; hexadecimal digits; bytes.
-- Assumes nothing.
use Rattle.std.proofs.Common.{◌≡◌, ℕ, ◌+◌, ◌*◌, ◌/◌, ◌<◌, ◌≤◌, Bool, true, false, cond, ◌&&◌, List, [], ◌∷◌, ◌++◌, ltb, leb, length, get_or, take, drop, set, refl, sym, ap, ◌∙◌, arith, append_assoc}
use borrow.Author.Tests.{lt-ltb, le-ltb, ltb-true, le-leb, lt-leb, ltb-false}
use Rattle.std.specs.Prelude.{Option, Some, None, unwrap_or, is_some, IfSome, MatchOption, Result, Err}
use Rattle.std.specs.Bool.{then_some}
use Rattle.std.specs.List.{list_all}
use Rattle.std.proofs.lemmas.List.{drop_more, take_more, take_all, set_at, length-drop, length-take-le}
use Rattle.std.proofs.lemmas.Bool.Decides.{nat_tests}
use Rattle.digits.specs.declared.Fault.{Fault}
use Rattle.digits.specs.declared.Fault.TheVariants.{NotNumber}
use Rattle.digits.specs.Digits.{digit_of, number_from, all_hex, joined_of, bytes_of, Decoded, decoded}

number_cons : (value x : ℕ) (xs : List ℕ) (t : Bool) → ltb 9 (digit_of x) ≡ t
    → number_from value (x ∷ xs) ≡ cond t (Err NotNumber) (number_from (value * 10 + digit_of x) xs)
unfolding number_from
number_cons value x xs t e =
    ap (λ (u : Bool). cond u (Err NotNumber) (number_from (value * 10 + digit_of x) xs)) e

-- past 32 bits the number is no matter
past : (a b : ℕ) (s : List ℕ) → 4294967296 ≤ a → 4294967296 ≤ b → number_from a s ≡ number_from b s
unfolding number_from
past a b [] h k = simp (le-ltb a 4294967296 h, le-ltb b 4294967296 k)
past a b (x ∷ xs) h k =
    ap (cond (ltb 9 (digit_of x)) (Err NotNumber))
    (past (a * 10 + digit_of x) (b * 10 + digit_of x) xs (omega arith) (omega arith))

kept : (a : ℕ) (s : List ℕ) → number_from (cond (ltb a 4294967296) a 4294967296) s ≡ number_from a s
kept a s = go (ltb a 4294967296) refl
  where
    go : (t : Bool) → ltb a 4294967296 ≡ t → number_from (cond t a 4294967296) s ≡ number_from a s
    go true e = refl
    go false e = past 4294967296 a s (omega arith) (ltb-false a 4294967296 e)

-- what is read so far and what is left make the number, where a number past 32 bits is none
abbrev pub number_on_from : Option ℕ → List ℕ → Result ℕ Fault
number_on_from so_far s = number_from (unwrap_or so_far 4294967296) s

-- a byte as a decimal digit
abbrev pub decimal_of : ℕ → Option ℕ
decimal_of b = cond (ltb 9 (digit_of b)) None (Some (digit_of b))

decimal_digit : (d : ℕ) → then_some (leb d 9) d ≡ cond (ltb 9 d) None (Some d)
decimal_digit d = grind (arith, nat_tests)

pub decimal_is : (b : ℕ) (o r : Option ℕ) → unwrap_or o 16 ≡ digit_of b
    → MatchOption o (r ≡ None) (λ d. (t : Bool) × (t ≡ leb d 9) × (r ≡ then_some t d)) → r ≡ decimal_of b
decimal_is b None r e h = h ∙ ap (λ (d : ℕ). cond (ltb 9 d) None (Some d)) e
decimal_is b (Some d) r e (t, h, k) =
    k ∙ ap (λ (u : Bool). then_some u d) h ∙ decimal_digit d ∙ ap (λ (n : ℕ). cond (ltb 9 n) None (Some n)) e

decimal_some : (d n : ℕ) → ◌≡◌ {A = Option ℕ} (cond (ltb 9 d) None (Some d)) (Some n) → (n ≡ d) × (d ≤ 9)
decimal_some d n h = go (ltb 9 d) refl h
  where
    go : (t : Bool) → ltb 9 d ≡ t → ◌≡◌ {A = Option ℕ} (cond t None (Some d)) (Some n) → (n ≡ d) × (d ≤ 9)
    go true e k = absurd (cc)
    go false e k = (cc, ltb-false 9 d e)

-- a digit more of a number, which is none from where it is past 32 bits on
abbrev pub grown : Option ℕ → ℕ → Option ℕ
grown None d = None
grown (Some v) d = cond (ltb (v * 10 + d) 4294967296) (Some (v * 10 + d)) None

pub grown_is : (so_far more : Option ℕ) (d : ℕ)
    → MatchOption so_far (more ≡ None) (λ v. more ≡ cond (ltb (v * 10 + d) 4294967296) (Some (v * 10 + d)) None)
    → more ≡ grown so_far d
grown_is None more d h = h
grown_is (Some v) more d h = h

pub grown_within : (so_far : Option ℕ) (d : ℕ) → IfSome (grown so_far d) (λ v. v < 4294967296)
grown_within None d = tt
grown_within (Some v) d = go (ltb (v * 10 + d) 4294967296) refl
  where
    go : (t : Bool) → ltb (v * 10 + d) 4294967296 ≡ t
        → IfSome (cond t (Some (v * 10 + d)) None) (λ n. n < 4294967296)
    go true e = ltb-true (v * 10 + d) 4294967296 e
    go false e = tt

grown_on : (so_far : Option ℕ) (d : ℕ) (s : List ℕ)
    → number_on_from (grown so_far d) s ≡ number_from (unwrap_or so_far 4294967296 * 10 + d) s
grown_on None d s = past 4294967296 (4294967296 * 10 + d) s (omega arith) (omega arith)
grown_on (Some v) d s =
    (λ i. number_from (unwrapped (ltb (v * 10 + d) 4294967296) i) s) ∙ kept (v * 10 + d) s
  where
    unwrapped : (t : Bool)
        → unwrap_or (cond t (Some (v * 10 + d)) None) 4294967296 ≡ cond t (v * 10 + d) 4294967296
    unwrapped true = refl
    unwrapped false = refl

pub number_on : (s : List ℕ) (i d : ℕ) (so_far : Option ℕ) (n : Result ℕ Fault) → i < length s
    → decimal_of (get_or s i 0) ≡ Some d → number_on_from so_far (drop i s) ≡ n
    → number_on_from (grown so_far d) (drop (i + 1) s) ≡ n
number_on s i d so_far n h k f =
    let value : ℕ = unwrap_or so_far 4294967296 in
    let (e, small) = decimal_some (digit_of (get_or s i 0)) d k in
    grown_on so_far d (drop (i + 1) s)
    ∙ ap (λ (c : ℕ). number_from (value * 10 + c) (drop (i + 1) s)) e
    ∙ sym
    (ap (number_from value) (drop_more s i 0 h)
    ∙ number_cons value (get_or s i 0) (drop (i + 1) s) false (le-ltb 9 (digit_of (get_or s i 0)) small))
    ∙ f

-- ---- hexadecimal digits
abbrev pub is_digit : ℕ → Bool
is_digit b = ltb (digit_of b) 16

pub all_is : (s : List ℕ) → list_all is_digit s ≡ all_hex s
unfolding all_hex
all_is [] = refl
all_is (x ∷ xs) = ap (λ (t : Bool). is_digit x && t) (all_is xs)

pub digit_is : (b : ℕ) (o : Option ℕ) → unwrap_or o 16 ≡ digit_of b → IfSome o (λ d. d < 16) → is_some o ≡ is_digit b
digit_is b None e h = ap (λ (d : ℕ). ltb d 16) e
digit_is b (Some d) e h = sym (lt-ltb d 16 h) ∙ ap (λ (d : ℕ). ltb d 16) e

-- ---- bytes
pub bytes_length : (s : List ℕ) → length (bytes_of s) ≡ length s / 2
unfolding bytes_of
bytes_length [] = omega arith
bytes_length (high ∷ []) = omega arith
bytes_length (high ∷ (low ∷ s)) = omega (arith, bytes_length s)

bytes_cons : (s pair rest : List ℕ) → s ≡ pair ++ rest → length pair ≡ 2
    → bytes_of s ≡ joined_of (digit_of (get_or pair 0 0)) (digit_of (get_or pair 1 0)) ∷ bytes_of rest
unfolding bytes_of
bytes_cons s [] rest e h = absurd (omega arith)
bytes_cons s (high ∷ []) rest e h = absurd (omega arith)
bytes_cons s (high ∷ (low ∷ [])) rest e h = ap bytes_of e
bytes_cons s (high ∷ (low ∷ (x ∷ xs))) rest e h = absurd (omega arith)

-- what is put so far stands at the start of the buffer, and what is left of the digits makes the other bytes
pub record PutSoFar (digits left before buffer : List ℕ) (i : ℕ) : Type 0 where
  fits : i ≤ length digits / 2
  rest : drop i (bytes_of digits) ≡ bytes_of left
  put : buffer ≡ take i (bytes_of digits) ++ drop i before

pub put_first : (s left d : List ℕ) (i : ℕ) → left ≡ s → i ≡ 0 → PutSoFar s left d d i
put_first s left d i e h =
    rw h (record { fits = omega arith; rest = ap bytes_of (sym e); put = refl })

-- a byte more is put
pub put_on : (s d current left rest pair : List ℕ) (i v : ℕ) → length s / 2 ≤ length d → left ≡ pair ++ rest
    → length pair ≡ 2 → v ≡ joined_of (digit_of (get_or pair 0 0)) (digit_of (get_or pair 1 0))
    → PutSoFar s left d current i → PutSoFar s rest d (set current i v) (i + 1)
put_on s d current left rest pair i v k el h ev so_far =
    let b : List ℕ = bytes_of s in
    let m : length (bytes_of s) ≡ length s / 2 = bytes_length s in
    let e : drop i (bytes_of s) ≡ v ∷ bytes_of rest =
    so_far.rest ∙ bytes_cons left pair rest el h ∙ ap (λ (n : ℕ). n ∷ bytes_of rest) (sym ev) in
    let n : i < length (bytes_of s) =
    omega (arith, length-drop i (bytes_of s), ap length (so_far.rest ∙ bytes_cons left pair rest el h)) in
    let f : get_or b i 0 ∷ drop (i + 1) b ≡ v ∷ bytes_of rest = sym (drop_more b i 0 n) ∙ e in
    let at : i < length d = omega arith in
    record {
      fits = omega arith;
      rest = ap (drop 1) f;
      put =
          ap (λ (t : List ℕ). set t i v) so_far.put
          ∙ ap (λ (t : List ℕ). set (take i b ++ t) i v) (drop_more d i 0 at)
          ∙ set_at (take i b) (get_or d i 0) (drop (i + 1) d) v i (length-take-le i b (omega arith))
          ∙ sym (append_assoc (take i b) (v ∷ []) (drop (i + 1) d))
          ∙ ap (λ (t : List ℕ). t ++ drop (i + 1) d)
          (ap (λ (n : ℕ). take i b ++ n ∷ []) (sym (ap (λ (t : List ℕ). get_or t 0 0) f)) ∙ sym (take_more b i 0 n));
    }

none_left : (s : List ℕ) → length s < 2 → bytes_of s ≡ []
unfolding bytes_of
none_left [] h = refl
none_left (high ∷ []) h = refl
none_left (high ∷ (low ∷ s)) h = absurd (omega arith)

pub put_all : (s d current left : List ℕ) (i count : ℕ) → count ≡ length s / 2 → count ≤ length d → length left < 2
    → PutSoFar s left d current i → ◌≡◌ {A = Decoded} (record { count = count; buffer = current })
    (decoded s d)
unfolding decoded
put_all s d current left i count n k h so_far =
    let b : List ℕ = bytes_of s in
    let m : count ≡ length (bytes_of s) = n ∙ sym (bytes_length s) in
    let at : i ≡ length (bytes_of s) =
    omega (arith, length-drop i (bytes_of s), ap length (so_far.rest ∙ none_left left h)) in
    let f : current ≡ bytes_of s ++ drop (length (bytes_of s)) d =
    so_far.put ∙ ap (λ (n : ℕ). take n b ++ drop n d) at
    ∙ ap (λ (t : List ℕ). t ++ drop (length b) d) (take_all (length b) b (omega arith)) in
    (λ j. record { count = m j; buffer = f j })
    ∙ sym
    (ap (λ (t : Bool). cond t
    (record { count = length b; buffer = b ++ drop (length b) d }) (record { count = 0; buffer = d }))
    (le-leb (length b) (length d) (omega arith)))

pub put_none : (s d : List ℕ) → length d < length s / 2
    → ◌≡◌ {A = Decoded} (record { count = 0; buffer = d }) (decoded s d)
unfolding decoded
put_none s d h =
    let b : List ℕ = bytes_of s in
    let m : length (bytes_of s) ≡ length s / 2 = bytes_length s in
    sym
    (ap (λ (t : Bool). cond t
    (record { count = length b; buffer = b ++ drop (length b) d }) (record { count = 0; buffer = d }))
    (lt-leb (length b) (length d) (omega arith)))
