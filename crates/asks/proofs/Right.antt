-- What a line that is right hands over: no save and no step has more than 4,096 bytes, no copy asks for more, and no
-- number of steps is past 32 bits.
-- Assumes nothing.
use Rattle.std.proofs.Common.{◌≡◌, ℕ, ◌+◌, ◌*◌, ◌%◌, ◌≤◌, Bool, true, false, cond, List, [], ◌∷◌, eqb, ltb, leb, length, refl, subst, arith}
use Rattle.std.specs.Prelude.{None, Result, Ok, Err}
use borrow.Author.Tests.{leb-true, ltb-true}
use Rattle.pages.specs.declared.PageOffset.{PageOffset}
use Rattle.digits.specs.declared.Fault.{Fault}
use Rattle.texts.specs.Texts.{word_at, same}
use Rattle.digits.specs.Digits.{digit_of, number_from, number_of, all_hex}
use Rattle.asks.specs.declared.Call.{Call}
use Rattle.asks.specs.declared.Call as C
use Rattle.asks.specs.declared.Wrong.{Wrong}
use Rattle.asks.specs.Asks as T
use Rattle.asks.specs.Asks.{
  read_word,
  copy_word,
  cut_word,
  save_word,
  format_word,
  step_word,
  with_word,
  all_word,
  is_empty,
  ended_by,
  with_digits,
  with_bytes,
  by_number,
  at,
  save_of,
  steps_of,
  step_of,
  part_call,
  part_of,
  named_of,
  some_call,
  call_of,
  Asks,
  call_in,
  asks_in,
  asks_of,
}

-- what is handed over fits
abbrev Right : List ℕ → Call → Type 0
Right line (C.TheVariants.Save o) = length (word_at 2 line) ≤ 8192
Right line C.TheVariants.Format = Unit {0}
Right line (C.TheVariants.Steps n) = n ≤ 4294967295
Right line C.TheVariants.StepWith = length (word_at 2 line) ≤ 8192
Right line (C.TheVariants.Read o n) = Unit {0}
Right line (C.TheVariants.Copy o n) = n ≤ 4096
Right line C.TheVariants.Cut = Unit {0}

-- of a value that is right, not of what is wrong
abbrev IsGood : {A : Type 0} → (A → Type 0) → Result A Wrong → Type 0
IsGood P (Ok value) = P value
IsGood P (Err wrong) = Unit {0}

-- by cases of a test
pick : {A : Type 0} (P : Result A Wrong → Type 0) (t : Bool) (x y : Result A Wrong) → (t ≡ true → P x) → P y → P (cond t x y)
pick P true x y h k = h refl
pick P false x y h k = k

ended_right : {A : Type 0} (P : A → Type 0) (line : List ℕ) (n : ℕ) (value : A) → P value → IsGood P (ended_by n line value)
unfolding ended_by
ended_right P line n value h = pick (IsGood P) (is_empty (word_at n line)) (Ok value) _ (λ e. h) tt

bytes_right_lem : (line : List ℕ) (call : Call) → (length (word_at 2 line) ≤ 8192 → Right line call)
    → IsGood (Right line) (with_bytes line call)
unfolding with_bytes with_digits
bytes_right_lem line call h =
    let d = word_at 2 line in
    pick (IsGood (Right line)) (all_hex d) _ _
    (λ e.
    pick (IsGood (Right line)) (eqb (length d % 2) 0) _ _
    (λ f.
    pick (IsGood (Right line)) (leb (length d) 8192) _ _
    (λ g. ended_right (Right line) line 3 call (h (leb-true (length d) 8192 g))) tt)
    tt)
    tt

-- a number that is read is within 32 bits
abbrev Within : Result ℕ Fault → Type 0
Within (Ok v) = v ≤ 4294967295
Within (Err fault) = Unit {0}

either : (t : Bool) (x y : Result ℕ Fault) → (t ≡ true → Within x) → Within y → Within (cond t x y)
either true x y h k = h refl
either false x y h k = k

read_within : (value : ℕ) (w : List ℕ) → Within (number_from value w)
unfolding number_from
read_within value [] =
    either (ltb value 4294967296) _ _ (λ e. let h = ltb-true value 4294967296 e in omega arith) tt
read_within value (x ∷ xs) =
    either (ltb 9 (digit_of x)) _ _ (λ e. tt) (read_within (value * 10 + digit_of x) xs)

number_within_lem : (w : List ℕ) → Within (number_of w)
unfolding number_of
number_within_lem [] = tt
number_within_lem (x ∷ xs) = read_within 0 (x ∷ xs)

number_right : {A : Type 0} (P : A → Type 0) (x : Result ℕ Fault) (n : ℕ) (f : ℕ → Result A Wrong) → Within x
    → ((v : ℕ) → v ≤ 4294967295 → IsGood P (f v)) → IsGood P (by_number x n f)
number_right P (Ok v) n f w h = h v w
number_right P (Err fault) n f w h = tt

save_right : (line : List ℕ) → IsGood (Right line) (save_of line)
unfolding save_of
save_right line =
    number_right (Right line) (number_of (word_at 1 line)) 1 _ (number_within_lem (word_at 1 line))
    (λ o k. bytes_right_lem line (C.TheVariants.Save (at o)) (λ h. h))

step_right : (line : List ℕ) → IsGood (Right line) (step_of line)
unfolding step_of steps_of
step_right line =
    let count = word_at 1 line in
    let P : Call → Type 0 = Right line in
    pick (IsGood P) (is_empty count) _ _ (λ e. omega arith)
    (pick (IsGood P) (same count with_word) _ _ (λ e. bytes_right_lem line C.TheVariants.StepWith (λ h. h))
    (pick (IsGood P) (same count all_word) _ _
    (λ e. ended_right P line 2 (C.TheVariants.Steps 4294967295) (omega arith))
    (number_right P (number_of count) 1 _ (number_within_lem count)
    (λ n k. ended_right P line 2 (C.TheVariants.Steps n) k))))

-- the length of a part is within its limit
part_right : (most : ℕ) (line : List ℕ) → IsGood (λ (p : PageOffset × ℕ). p.1 ≤ most) (part_of most line)
unfolding part_of
part_right most line =
    let P : PageOffset × ℕ → Type 0 = λ p. p.1 ≤ most in
    number_right P (number_of (word_at 1 line)) 1 _ (number_within_lem (word_at 1 line))
    (λ o k.
    number_right P (number_of (word_at 2 line)) 2 _ (number_within_lem (word_at 2 line))
    (λ n m. pick (IsGood P) (leb n most) _ _ (λ e. ended_right P line 3 (at o, n) (leb-true n most e)) tt))

part_call_right : (line : List ℕ) (most : ℕ) (call : PageOffset → ℕ → Call) (x : Result (PageOffset × ℕ) Wrong)
    → ((o : PageOffset) (n : ℕ) → n ≤ most → Right line (call o n)) → IsGood (λ (p : PageOffset × ℕ). p.1 ≤ most) x
    → IsGood (Right line) (part_call call x)
part_call_right line most call (Ok p) h k = h p.0 p.1 k
part_call_right line most call (Err wrong) h k = tt

named_right : (name line : List ℕ) → IsGood (Right line) (named_of name line)
unfolding named_of
named_right name line =
    let P : Call → Type 0 = Right line in
    pick (IsGood P) (same name save_word) _ _ (λ e. save_right line)
    (pick (IsGood P) (same name format_word) _ _ (λ e. ended_right P line 1 C.TheVariants.Format tt)
    (pick (IsGood P) (same name step_word) _ _ (λ e. step_right line)
    (pick (IsGood P) (same name read_word) _ _
    (λ e. part_call_right line 4294967295 C.TheVariants.Read _ (λ o n h. tt) (part_right 4294967295 line))
    (pick (IsGood P) (same name copy_word) _ _
    (λ e. part_call_right line 4096 C.TheVariants.Copy _ (λ o n h. h) (part_right 4096 line))
    (pick (IsGood P) (same name cut_word) _ _ (λ e. ended_right P line 1 C.TheVariants.Cut tt) tt)))))

-- by what a line asks for
abbrev pub Hands : List ℕ → Asks → Type 0
Hands line T.nothing = Unit {0}
Hands line (T.save o) = length (word_at 2 line) ≤ 8192
Hands line T.format = Unit {0}
Hands line (T.steps n) = n ≤ 4294967295
Hands line T.step_with = length (word_at 2 line) ≤ 8192
Hands line (T.read o n) = Unit {0}
Hands line (T.read_into o n) = n ≤ 4096
Hands line T.cut = Unit {0}
Hands line (T.wrong fault n) = Unit {0}

hands : (line : List ℕ) (call : Call) → Right line call → Hands line (call_in call)
hands line (C.TheVariants.Save o) h = h
hands line C.TheVariants.Format h = tt
hands line (C.TheVariants.Steps n) h = h
hands line C.TheVariants.StepWith h = h
hands line (C.TheVariants.Read o n) h = tt
hands line (C.TheVariants.Copy o n) h = h
hands line C.TheVariants.Cut h = tt

some_hands : (line : List ℕ) (x : Result Call Wrong) → IsGood (Right line) x → Hands line (asks_in (some_call x))
some_hands line (Ok call) h = hands line call h
some_hands line (Err wrong) h = tt

line_hands : (line : List ℕ) → Hands line (asks_in (call_of line))
unfolding call_of
line_hands line =
    pick (λ x. Hands line (asks_in x)) (is_empty (word_at 0 line)) (Ok None) _ (λ e. tt)
    (some_hands line (named_of (word_at 0 line) line) (named_right (word_at 0 line) line))

pub handed : (line : List ℕ) (asks : Asks) → asks_of line ≡ asks → Hands line asks
unfolding asks_of
handed line asks e = subst (Hands line) e (line_hands line)
