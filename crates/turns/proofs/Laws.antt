-- Laws of calls of a script.
-- In order: a buffer, and what is decoded into it; a call made; what is done next.
-- Assumes nothing.
use Rattle.walks.specs.declared.Walk.{Walk}
use Prim.Native.Nat.{ℕ, zero, suc, ◌-◌, ◌%◌, ◌/◌, ◌<◌, ◌≤◌}
use mathlib.Core.Path.{◌≡◌, refl, sym, ap, ◌∙◌}
use mathlib.Core.Bool.{Bool, true, false, cond}
use mathlib.Core.List.{List, [], ◌∷◌, ◌++◌}
use native.Mathlib.Omega.{arith}
use lib.Dec.{leb}
use lib.ListN.{length, take, drop, replicate, length-replicate}
use borrow.Author.Tests.{leb-false, le-leb, lt-leb}
use Rattle.pages.specs.declared.PageOffset.{PageOffset}
use Rattle.requests.specs.Numbers.{request_number}
use Rattle.requests.proofs.Exact.{Case, exactly, only}
use Rattle.boards.specs.declared.Call.{Call}
use Rattle.boards.specs.declared.Call as L
use Rattle.boards.specs.declared.Turn.{Turn}
use Rattle.boards.specs.Boards.{board_in, turn_in, made_on}
use Rattle.texts.specs.Texts.{line_at, next_line}
use Rattle.digits.specs.Digits.{bytes_of, Decoded, decoded}
use Rattle.std.specs.Prelude.{Option, Result}
use Rattle.asks.specs.declared.Call as K
use Rattle.asks.specs.declared.Wrong.{Wrong}
use Rattle.asks.specs.Asks.{Asks, asks_in, asks_of}
use Rattle.turns.specs.declared.Next.{Next}
use Rattle.turns.specs.declared.Plan.{Plan}
use Rattle.digits.proofs.Laws.{bytes_length}
use Rattle.turns.specs.Turns.{loaded, fitting, zeros, made_now, next_for, plan_from, plan_of}

pub blank_is : replicate 4096 0 ≡ zeros
unfolding zeros
blank_is = refl

pub zeros_length : length zeros ≡ 4096
unfolding zeros
zeros_length = refl

-- the bytes of digits, decoded into a buffer
take_prefix : (xs ys : List ℕ) → take (length xs) (xs ++ ys) ≡ xs
take_prefix [] ys = refl
take_prefix (x ∷ xs) ys = ap (λ (zs : List ℕ). x ∷ zs) (take_prefix xs ys)

take_zeros : (n m : ℕ) → n ≤ m → take {A = ℕ} n (replicate {A = ℕ} m 0) ≡ replicate {A = ℕ} n 0
take_zeros zero m h = refl
take_zeros (suc n) zero h = absurd (omega arith)
take_zeros (suc n) (suc m) h = ap (λ (zs : List ℕ). 0 ∷ zs) (take_zeros n m (omega arith))

pub loaded_part : (d buffer into : List ℕ) (n : ℕ) → buffer ≡ zeros
    → ◌≡◌ {A = Decoded} (record { count = n; buffer = into }) (loaded d buffer) → take n into ≡ fitting d
unfolding zeros loaded
loaded_part d buffer into n z e =
    ap (λ (x : Decoded). take x.count x.buffer) e
    ∙ ap (λ (b : List ℕ). take (loaded d b).count (loaded d b).buffer) z
    ∙ (λ i.
    let x : Decoded =
    cond (leb (length d) (zeros_length i)) (record { count = length d; buffer = d ++ drop (length d) zeros })
    (record { count = zeros_length i - length d % 2; buffer = zeros }) in
    take x.count x.buffer)
    ∙ go (leb (length d) 4096)
  where
    go : (t : Bool)
        → (let x : Decoded =
        cond t (record { count = length d; buffer = d ++ drop (length d) zeros })
        (record { count = 4096 - length d % 2; buffer = zeros }) in
        take x.count x.buffer)
        ≡ cond t d (replicate (4096 - length d % 2) 0)
    go true = take_prefix d (drop (length d) zeros)
    go false = take_zeros (4096 - length d % 2) 4096 (omega arith)

-- data that a buffer takes whole
abbrev wholly : List ℕ → List ℕ → Decoded
wholly d buffer = record { count = length d; buffer = d ++ drop (length d) buffer }

-- what decoding leaves is what is loaded, but for the number of bytes of longer data
pub load_short : (digits line buffer into : List ℕ) (n : ℕ) → digits ≡ line → length digits / 2 ≤ length buffer
    → ◌≡◌ {A = Decoded} (record { count = n; buffer = into }) (decoded digits buffer)
    → ◌≡◌ {A = Decoded} (record { count = n; buffer = into }) (loaded (bytes_of line) buffer)
unfolding decoded loaded
load_short digits line buffer into n el h e =
    let size : length (bytes_of digits) ≡ length digits / 2 = bytes_length digits in
    let t : leb (length (bytes_of digits)) (length buffer) ≡ true =
    le-leb (length (bytes_of digits)) (length buffer) (omega (arith, size, h)) in
    e ∙ ap (λ (q : Bool). cond q (wholly (bytes_of digits) buffer) (record { count = 0; buffer = buffer })) t
    ∙ sym (ap
    (λ (q : Bool).
    cond q (wholly (bytes_of digits) buffer) (record {
      count = length buffer - length
          (bytes_of digits) % 2;
      buffer = buffer;
    })) t)
    ∙ ap (λ (x : List ℕ). loaded (bytes_of x) buffer) el

pub load_long : (digits line buffer into : List ℕ) (n k : ℕ) → digits ≡ line → length buffer < length digits / 2
    → k ≡ length buffer - length digits / 2 % 2
    → ◌≡◌ {A = Decoded} (record { count = n; buffer = into }) (decoded digits buffer)
    → ◌≡◌ {A = Decoded} (record { count = k; buffer = into }) (loaded (bytes_of line) buffer)
unfolding decoded loaded
load_long digits line buffer into n k el h ek e =
    let size : length (bytes_of digits) ≡ length digits / 2 = bytes_length digits in
    let t : leb (length (bytes_of digits)) (length buffer) ≡ false =
    lt-leb (length (bytes_of digits)) (length buffer) (omega (arith, size, h)) in
    let kept : into ≡ buffer =
    ap (λ (x : Decoded). x.buffer)
    (e ∙ ap (λ (q : Bool). cond q (wholly (bytes_of digits) buffer) (record { count = 0; buffer = buffer })) t) in
    let same : k ≡ length buffer - length (bytes_of digits) % 2 =
    ek ∙ ap (λ (m : ℕ). length buffer - m % 2) (sym size) in
    (λ i. record { count = same i; buffer = kept i })
    ∙ sym (ap
    (λ (q : Bool).
    cond q (wholly (bytes_of digits) buffer) (record {
      count = length buffer - length
          (bytes_of digits) % 2;
      buffer = buffer;
    })) t)
    ∙ ap (λ (x : List ℕ). loaded (bytes_of x) buffer) el

-- "offset + length above P" stays: data that is longer than any page meets the number that its own length meets
longer : (k p q : ℕ) (o : PageOffset) (n : ℕ) → 4096 < n → Case k p q o n → Case k p q o (4096 - n % 2)
longer zero p q o n h c = absurd (omega (arith, c.most, c.ends))
longer (suc zero) p q o n h c = c
longer (suc (suc zero)) p q o n h c = (c.0, λ e. c.1 (e.0, omega (arith, e.1)))
longer (suc (suc (suc zero))) p q o n h c = (c.0, (c.1.0, omega (arith, c.1.1)), c.2)
longer (suc (suc (suc (suc zero)))) p q o n h c = (
  c.0,
  (c.1.0, omega (arith, c.1.1)),
  c.2,
  λ i. absurd (omega (arith, c.0.most, c.2, i.1)),
)
longer (suc (suc (suc (suc (suc k))))) p q o n h c = c

pub same_number : (p q : ℕ) (o : PageOffset) (d : List ℕ)
    → request_number p q o (length (fitting d)) 0 ≡ request_number p q o (length d) 0
same_number p q o d = go (leb (length d) 4096) refl
  where
    go : (t : Bool) → t ≡ leb (length d) 4096
        → request_number p q o (length (cond t d (replicate (4096 - length d % 2) 0))) 0 ≡ request_number p q o
        (length d) 0
    go true e = refl
    go false e =
        ap (λ (n : ℕ). request_number p q o n 0) (length-replicate (4096 - length d % 2) 0)
        ∙ only (request_number p q o (length d) 0) p q o (4096 - length d % 2)
        (longer (request_number p q o (length d) 0) p q o (length d) (leb-false (length d) 4096 (sym e))
        (exactly p q o (length d)))

-- a call made with these data
pub made_with : (call : Call) (t : Turn) (hand : Option Walk) (held held' d d' l r l' r' out out' : List ℕ) → held ≡ held'
    → d ≡ d' → turn_in call t held d l' r' out' ≡ made_on call (board_in hand held l r) d out
    → turn_in call t held' d' l' r' out' ≡ made_on call (board_in hand held' l r) d' out
made_with call t hand held held' d d' l r l' r' out out' e f h =
    (λ i. turn_in call t (sym e i) (sym f i) l' r' out') ∙ h ∙ (λ i. made_on call (board_in hand (e i) l r) (f i) out)

-- what is done next
pub line_planned : (text : List ℕ) (at began left room after : ℕ) (line : List ℕ)
    (asked : Result (Option K.Call) Wrong) (x : Next) → left ≡ 0
    → line ≡ line_at text at → asks_in asked ≡ asks_of line → after ≡ next_line text at
    → x ≡ next_for (asks_in asked) at (length text) room
    → ◌≡◌ {A = Plan} (record { after = after; next = x }) (plan_of text at began left room)
unfolding plan_of
line_planned text at began left room after line asked x z el ec ea ex =
    let asks : asks_in asked ≡ asks_of (line_at text at) = ec ∙ ap asks_of el in
    (λ i. record { after = ea i; next = (ex ∙ ap (λ (q : Asks). next_for q at (length text) room) asks) i })
    ∙ ap (λ (n : ℕ). plan_from text at began n room) (sym z)

pub step_planned : (text : List ℕ) (at began left room : ℕ) → (left ≡ 0 → ⊥)
    → ◌≡◌ {A = Plan}
    (record { after = at; next = made_now (L.TheVariants.Step 1) began (length text) 0 })
    (plan_of text at began left room)
unfolding plan_of
step_planned text at began zero room h = absurd (h refl)
step_planned text at began (suc k) room h = refl
