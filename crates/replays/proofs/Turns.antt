-- Calls through the engine, and their answers as bytes.
-- In order: the bytes of answers; what the engine promises; a call of one answer; steps; a read into an output.
-- Assumes nothing.
use Rattle.std.specs.Prelude.{Option, Some, None}
use Rattle.walks.specs.declared.Walk.{Walk}
use Prim.Native.Nat.{ℕ, zero, suc, ◌-◌, ◌<◌, ◌≤◌}
use mathlib.Core.Path.{◌≡◌, refl, sym, ap, subst, ◌∙◌}
use mathlib.Core.Bool.{Bool, true, false, cond}
use mathlib.Core.List.{List, [], ◌∷◌, ◌++◌, append-nil, append_assoc}
use mathlib.Core.Logic.{◌⊎◌, inl, inr}
use native.Mathlib.Omega.{arith}
use lib.Dec.{eqb}
use lib.ListN.{length, replicate, length-append, length-replicate}
use borrow.Author.Tests.{eqb-true, eqb-false}
use Rattle.pages.specs.declared.PageOffset.{PageOffset}
use Rattle.reads.specs.Reads.{read_part, filled}
use Rattle.walks.specs.Walks as W
use Rattle.walks.specs.Walks.{Said, step_of}
use Rattle.model.specs.Calls as C
use Rattle.model.specs.Board as B
use Rattle.model.specs.Board.{Board, answer_of, handed, step_hand, turn, answers, board_after}
use Rattle.boards.specs.declared.Call.{Call}
use Rattle.boards.specs.declared.Call.TheVariants.{Step, ReadInto}
use Rattle.boards.specs.declared.Answer.{Answer}
use Rattle.boards.specs.declared.Answer as A
use Rattle.boards.specs.declared.Turn.{Turn}
use Rattle.boards.specs.Boards.{
  hand_in,
  board_in,
  calls_in,
  times_of,
  answer_in,
  answers_in,
  own_of,
  held_after,
  Made,
  turn_in,
  made_on,
}
use Rattle.replays.specs.Answers.{answer_bytes, encoded}
use Rattle.replays.specs.Runs.{code_of, rest_of, last_in, replies_in, Making, with_bytes}

-- ---- the bytes of answers
pub encoded_append : (xs ys : List C.Answer) → encoded (xs ++ ys) ≡ encoded xs ++ encoded ys
unfolding encoded
encoded_append [] ys = refl
encoded_append (x ∷ xs) ys =
    ap (λ (z : List ℕ). answer_bytes x ++ z) (encoded_append xs ys)
    ∙ sym (append_assoc (answer_bytes x) (encoded xs) (encoded ys))

-- an answer of one byte, many times
same_byte : (k : ℕ) (x : C.Answer) (code : ℕ) → answer_bytes x ≡ code ∷ [] → encoded (replicate k x) ≡ replicate k code
unfolding encoded
same_byte zero x code e = refl
same_byte (suc k) x code e = λ i. e i ++ same_byte k x code e i

-- an answer that the code's bytes are right for, given so many times and with these bytes in the output: one of more than
-- a byte is given once, and only that of a read into an output has any
abbrev Fitting : Answer → ℕ → List ℕ → Type 0
Fitting A.TheVariants.Nothing k out = out ≡ []
Fitting A.TheVariants.Begun k out = out ≡ []
Fitting A.TheVariants.Made k out = out ≡ []
Fitting A.TheVariants.Ended k out = out ≡ []
Fitting (A.TheVariants.Number n) k out = out ≡ []
Fitting (A.TheVariants.Part o n) k out = (k ≡ 1) × (out ≡ [])
Fitting (A.TheVariants.Output n) k out = k ≡ 1

replied : (a : Answer) (k : ℕ) (l r out : List ℕ) → Fitting a k out
    → encoded (replicate k (answer_in a l r out)) ≡ replicate k (code_of a) ++ (rest_of a l r ++ out)
unfolding encoded
replied a k l r out = go a
  where
    short : (x : C.Answer) (code : ℕ) → answer_bytes x ≡ code ∷ [] → out ≡ []
        → encoded (replicate k x) ≡ replicate k code ++ out
    short x code e eo =
        same_byte k x code e
        ∙ sym (append-nil (replicate k code))
        ∙ ap (λ (z : List ℕ). replicate k code ++ z) (sym eo)

    go : (x : Answer) → Fitting x k out
        → encoded (replicate k (answer_in x l r out)) ≡ replicate k (code_of x) ++ (rest_of x l r ++ out)
    go A.TheVariants.Nothing e = short C.nothing 0x00 refl e
    go A.TheVariants.Begun e = short C.begun 0x10 refl e
    go A.TheVariants.Made e = short C.made 0x11 refl e
    go A.TheVariants.Ended e = short C.ended 0x12 refl e
    go (A.TheVariants.Number n) e = short (C.number n) n refl e
    go (A.TheVariants.Part o n) e =
        let part = read_part l r o n in
        ap (λ (m : ℕ). encoded (replicate m (C.bytes part))) e.0
        ∙ (λ i. 0x20 ∷ (part ++ sym e.1 i))
        ∙ ap (λ (m : ℕ). replicate m 0x20 ++ (part ++ out)) (sym e.0)
    go (A.TheVariants.Output n) e =
        ap (λ (m : ℕ). encoded (replicate m (C.output n out))) e
        ∙ ap (λ (z : List ℕ). 0x21 ∷ n ∷ z) (append-nil out)
        ∙ ap (λ (m : ℕ). replicate m 0x21 ++ (n ∷ out)) (sym e)

all_replied : (a : Answer) (n m : ℕ) (l r out : List ℕ) → Fitting a (n - m) out
    → encoded (answers_in n m (answer_in a l r out)) ≡ replies_in n m a l r ++ out
all_replied a n m l r out e =
    let x = answer_in a l r out in
    let first : List ℕ = replicate m 0x11 in
    let codes = replicate (n - m) (code_of a) in
    encoded_append (replicate m C.made) (replicate (n - m) x)
    ∙ (λ i. same_byte m C.made 0x11 refl i ++ replied a (n - m) l r out e i)
    ∙ ap (λ (z : List ℕ). first ++ z) (sym (append_assoc codes (rest_of a l r) out))
    ∙ sym (append_assoc first (codes ++ rest_of a l r) out)

-- ---- what the engine promises
-- what a call gives: the bytes of its answers, where an output stands in them, and the board, as the model has them
pub record Done (job : Making) (t : Turn) (b : Board) (held l r out : List ℕ) : Type 0 where
  pub count : t.made ≤ job.times
  pub bytes : encoded (answers b (calls_in job.call job.bytes job.output))
      ≡ replies_in job.times t.made (last_in t job.times) l r ++ out
  pub place : (length out ≡ 0) ⊎ (length (replies_in job.times t.made (last_in t job.times) l r) ≡ job.lead)
  pub board : board_in t.hand (held_after (last_in t job.times) job.bytes held) l r
      ≡ board_after b (calls_in job.call job.bytes job.output)

promised_answers : (call : Call) (t : Turn) (b : Board) (held d l r out out' : List ℕ)
    → turn_in call t held d l r out' ≡ made_on call b d out
    → answers_in (times_of call) t.made (answer_in t.answer l r out') ≡ answers b (calls_in call d out)
unfolding made_on
promised_answers call t b held d l r out out' e = ap (λ (x : Made). x.answers) e

promised_board : (call : Call) (t : Turn) (b : Board) (held d l r out out' : List ℕ)
    → turn_in call t held d l r out' ≡ made_on call b d out
    → board_in t.hand (held_after t.answer (own_of call d) held) l r ≡ board_after b (calls_in call d out)
unfolding made_on
promised_board call t b held d l r out out' e = ap (λ (x : Made). x.board) e

-- where all steps were made no answer comes after them
last_same : (t : Turn) (n : ℕ) (l r out : List ℕ)
    → answers_in n t.made (answer_in (last_in t n) l r out) ≡ answers_in n t.made (answer_in t.answer l r out)
last_same t n l r out = go (eqb t.made n) refl
  where
    go : (q : Bool) → eqb t.made n ≡ q
        → answers_in n t.made (answer_in (cond q A.TheVariants.Made t.answer) l r out)
        ≡ answers_in n t.made (answer_in t.answer l r out)
    go true e =
        let k : n - t.made ≡ 0 = let h = eqb-true t.made n e in omega arith in
        ap (λ (m : ℕ). replicate t.made C.made ++ replicate m C.made) k
        ∙ ap (λ (m : ℕ). replicate t.made C.made ++ replicate m (answer_in t.answer l r out)) (sym k)
    go false e = refl

-- one answer, and it is no step's
one_said : (m : ℕ) (x y : C.Answer) → (y ≡ C.made → ⊥) → answers_in 1 m x ≡ y ∷ [] → (m ≡ 0) × (x ≡ y)
one_said zero x y h e = (refl, cc)
one_said (suc m) x y h e = let f : y ≡ C.made = cc in absurd (h f)

one_last : (t : Turn) → t.made ≡ 0 → last_in t 1 ≡ t.answer
one_last t e = ap (λ (m : ℕ). cond (eqb m 1) A.TheVariants.Made t.answer) e

-- ---- a call of one answer
-- the answers of a beginning, a read of a part and a cut
abbrev pub plain : C.Answer → Bool
plain (C.number n) = true
plain C.begun = true
plain C.made = false
plain C.ended = false
plain (C.bytes part) = true
plain (C.output n out) = false
plain C.nothing = true

plain_unmade : (x : C.Answer) → plain x ≡ true → x ≡ C.made → ⊥
plain_unmade x h e =
    let f : false ≡ true = sym (ap plain e) ∙ h in
    let z : ◌≡◌ {A = ℕ} 0 1 = cc in
    absurd (omega arith)

one_fitting : (a : Answer) (k : ℕ) (out : List ℕ) → k ≡ 1 → out ≡ [] → Fitting a k out
one_fitting A.TheVariants.Nothing k out ek eo = eo
one_fitting A.TheVariants.Begun k out ek eo = eo
one_fitting A.TheVariants.Made k out ek eo = eo
one_fitting A.TheVariants.Ended k out ek eo = eo
one_fitting (A.TheVariants.Number n) k out ek eo = eo
one_fitting (A.TheVariants.Part o n) k out ek eo = (ek, eo)
one_fitting (A.TheVariants.Output n) k out ek eo = ek

pub one_done : (call : Call) (d held : List ℕ) (t : Turn) (b : Board) (x : C.Call) (l r out : List ℕ)
    → times_of call ≡ 1 → calls_in call d [] ≡ x ∷ [] → plain (turn b x).answer ≡ true → d ≡ own_of call d → out ≡ []
    → turn_in call t held d l r out ≡ made_on call b d [] → Done (with_bytes call 1 d) t b held l r out
unfolding answers
one_done call d held t b x l r out n calls h own eo e =
    let a = last_in t 1 in
    let said : answers_in 1 t.made (answer_in (last_in t 1) l r out) ≡ answers b (calls_in call d []) =
    last_same t 1 l r out
    ∙ ap (λ (k : ℕ). answers_in k t.made (answer_in t.answer l r out)) (sym n)
    ∙ promised_answers call t b held d l r [] out e in
    let z = one_said t.made (answer_in a l r out) (turn b x).answer (plain_unmade (turn b x).answer h)
    (said ∙ ap (answers b) calls) in
    let none_made : t.made ≡ 0 = z.0 in
    let k : 1 - t.made ≡ 1 = omega arith in
    record {
      count = omega arith;
      bytes = ap encoded (sym said) ∙ all_replied a 1 t.made l r out (one_fitting a (1 - t.made) out k eo);
      place = inl (ap length eo);
      board =
          (λ i. board_in t.hand (held_after (one_last t none_made i) (own i) held) l r)
          ∙ promised_board call t b held d l r [] out e;
    }

-- ---- steps
abbrev step_like : C.Answer → Bool
step_like (C.number n) = true
step_like C.begun = false
step_like C.made = true
step_like C.ended = true
step_like (C.bytes part) = false
step_like (C.output n out) = false
step_like C.nothing = true

abbrev AllSteps : List C.Answer → Type 0
AllSteps [] = Unit {0}
AllSteps (x ∷ xs) = (step_like x ≡ true) × AllSteps xs

said_step : (x : Said) → step_like (answer_of x) ≡ true
said_step (W.number n) = refl
said_step W.made = refl
said_step W.ended = refl

step_like_lem : (b : Board) (d : List ℕ) → step_like (turn b (C.step d)).answer ≡ true
unfolding turn
step_like_lem b d = go b.hand
  where
    go : (hand : Option B.Hand) → step_like (step_hand b hand d).answer ≡ true
    go None = refl
    go (Some h) = said_step (step_of h.walk b.left b.right (handed h.held d)).said

all_steps : (n : ℕ) (b : Board) (d : List ℕ) → AllSteps (answers b (replicate n (C.step d)))
unfolding answers
all_steps zero b d = tt
all_steps (suc n) b d = (step_like_lem b d, all_steps n (turn b (C.step d)).board d)

all_right : (xs ys : List C.Answer) → AllSteps (xs ++ ys) → AllSteps ys
all_right [] ys h = h
all_right (x ∷ xs) ys h = all_right xs ys h.1

all_first : (k : ℕ) (x : C.Answer) → 0 < k → AllSteps (replicate k x) → step_like x ≡ true
all_first zero x p h = absurd (omega arith)
all_first (suc k) x p h = h.0

-- the last answer is a step's
last_step : (t : Turn) (n : ℕ) (l r out : List ℕ) → t.made ≤ n
    → AllSteps (answers_in n t.made (answer_in t.answer l r out)) → step_like (answer_in (last_in t n) l r out) ≡ true
last_step t n l r out p h = go (eqb t.made n) refl
  where
    go : (q : Bool) → eqb t.made n ≡ q
        → step_like (answer_in (cond q A.TheVariants.Made t.answer) l r out) ≡ true
    go true e = refl
    go false e =
        let u : t.made ≡ n → ⊥ = eqb-false t.made n e in
        all_first (n - t.made) (answer_in t.answer l r out) (omega arith)
        (all_right (replicate t.made C.made) (replicate (n - t.made) (answer_in t.answer l r out)) h)

step_fitting : (a : Answer) (k : ℕ) (l r out : List ℕ) → step_like (answer_in a l r out) ≡ true → out ≡ []
    → Fitting a k out
step_fitting A.TheVariants.Nothing k l r out h eo = eo
step_fitting A.TheVariants.Begun k l r out h eo = eo
step_fitting A.TheVariants.Made k l r out h eo = eo
step_fitting A.TheVariants.Ended k l r out h eo = eo
step_fitting (A.TheVariants.Number n) k l r out h eo = eo
step_fitting (A.TheVariants.Part o n) k l r out h eo = (cc, eo)
step_fitting (A.TheVariants.Output n) k l r out h eo = cc

-- the data held is kept
step_holds : (a : Answer) (l r out own held : List ℕ) → step_like (answer_in a l r out) ≡ true
    → held_after a own held ≡ held
step_holds A.TheVariants.Nothing l r out own held h = refl
step_holds A.TheVariants.Begun l r out own held h = cc
step_holds A.TheVariants.Made l r out own held h = refl
step_holds A.TheVariants.Ended l r out own held h = refl
step_holds (A.TheVariants.Number n) l r out own held h = refl
step_holds (A.TheVariants.Part o n) l r out own held h = refl
step_holds (A.TheVariants.Output n) l r out own held h = refl

abbrev Keeps : List ℕ → Option B.Hand → Type 0
Keeps held None = Unit {0}
Keeps held (Some h) = h.held ≡ held

step_keeps : (held : List ℕ) (b : Board) (d : List ℕ) → Keeps held b.hand
    → Keeps held (turn b (C.step d)).board.hand
unfolding turn
step_keeps held b d = go b.hand refl
  where
    go : (hand : Option B.Hand) → b.hand ≡ hand → Keeps held hand → Keeps held (step_hand b hand d).board.hand
    go None e k = subst (Keeps held) (sym e) tt
    go (Some h) e k = k

steps_keep : (n : ℕ) (held : List ℕ) (b : Board) (d : List ℕ) → Keeps held b.hand
    → Keeps held (board_after b (replicate n (C.step d))).hand
unfolding board_after
steps_keep zero held b d k = k
steps_keep (suc n) held b d k = steps_keep n held (turn b (C.step d)).board d (step_keeps held b d k)

holds : (hand : Option Walk) (held : List ℕ) → Keeps held (hand_in hand held)
holds None held = tt
holds (Some w) held = refl

kept : (hand : Option Walk) (x held : List ℕ) → Keeps held (hand_in hand x) → hand_in hand held ≡ hand_in hand x
kept None x held k = refl
kept (Some w) x held k = λ i. Some (record { walk = w; held = sym k i })

-- no more are made than are asked for
answers_length : (b : Board) (cs : List C.Call) → length (answers b cs) ≡ length cs
unfolding answers
answers_length b [] = refl
answers_length b (c ∷ cs) = ap suc (answers_length (turn b c).board cs)

counted : (n m : ℕ) (x : C.Answer) → length (answers_in n m x) ≡ n → m ≤ n
counted n m x h =
    let both = length-append (replicate m C.made) (replicate (n - m) x) in
    let first = length-replicate m C.made in
    let rest = length-replicate (n - m) x in
    omega arith

pub steps_done : (n : ℕ) (d held : List ℕ) (t : Turn) (hand : Option Walk) (l r l' r' out : List ℕ) → out ≡ []
    → turn_in (Step n) t held d l' r' out ≡ made_on (Step n) (board_in hand held l r) d []
    → Done (with_bytes (Step n) n d) t (board_in hand held l r) held l' r' out
steps_done n d held t hand l r l' r' out eo e =
    let b = board_in hand held l r in
    let cs = replicate n (C.step d) in
    let m = t.made in
    let a = last_in t n in
    let said : answers_in n m (answer_in t.answer l' r' out) ≡ answers b cs =
    promised_answers (Step n) t b held d l' r' [] out e in
    let most : m ≤ n =
    counted n m (answer_in t.answer l' r' out)
    (ap length said ∙ answers_length b cs ∙ length-replicate n (C.step d)) in
    let step : step_like (answer_in a l' r' out) ≡ true =
    last_step t n l' r' out most (subst AllSteps (sym said) (all_steps n b d)) in
    let board = promised_board (Step n) t b held d l' r' [] out e in
    let y = held_after t.answer [] held in
    let keeps : Keeps held (hand_in t.hand y) =
    subst (Keeps held) (sym (ap (λ (z : Board). z.hand) board)) (steps_keep n held b d (holds hand held)) in
    record {
      count = most;
      bytes =
          ap encoded (sym (last_same t n l' r' out ∙ said))
          ∙ all_replied a n m l' r' out (step_fitting a (n - m) l' r' out step eo);
      place = inl (ap length eo);
      board =
          ap (λ (z : List ℕ). board_in t.hand z l' r') (step_holds a l' r' out d held step)
          ∙ (λ i. record { left = l'; right = r'; hand = kept t.hand y held keeps i })
          ∙ board;
    }

-- ---- a read into an output
output_is : (a : Answer) (l r out ys : List ℕ) (n : ℕ) → answer_in a l r out ≡ C.output n ys
    → a ≡ A.TheVariants.Output n
output_is A.TheVariants.Nothing l r out ys n e = cc
output_is A.TheVariants.Begun l r out ys n e = cc
output_is A.TheVariants.Made l r out ys n e = cc
output_is A.TheVariants.Ended l r out ys n e = cc
output_is (A.TheVariants.Number m) l r out ys n e = cc
output_is (A.TheVariants.Part o m) l r out ys n e = cc
output_is (A.TheVariants.Output m) l r out ys n e = cc

output_unmade : (n : ℕ) (ys : List ℕ) → C.output n ys ≡ C.made → ⊥
output_unmade n ys e = let z : ◌≡◌ {A = ℕ} 0 1 = cc in absurd (omega arith)

pub into_done : (o : PageOffset) (given held : List ℕ) (t : Turn) (b : Board) (l r out : List ℕ)
    → turn_in (ReadInto o) t held [] l r out ≡ made_on (ReadInto o) b [] given
    → Done (record { call = ReadInto o; times = 1; bytes = []; output = given; lead = 2 }) t b held l r out
unfolding answers turn
into_done o given held t b l r out e =
    let a = last_in t 1 in
    let f = filled b.left b.right o given in
    let said = last_same t 1 l r out ∙ promised_answers (ReadInto o) t b held [] l r given out e in
    let z = one_said t.made (answer_in a l r out) (C.output f.number f.bytes)
    (output_unmade f.number f.bytes) said in
    let none_made : t.made ≡ 0 = z.0 in
    let k : 1 - t.made ≡ 1 = omega arith in
    let is : a ≡ A.TheVariants.Output f.number = output_is a l r out f.bytes f.number z.1 in
    record {
      count = omega arith;
      bytes =
          ap encoded (sym said)
          ∙ all_replied a 1 t.made l r out
          (subst (λ (x : Answer). Fitting x (1 - t.made) out) (sym is) k);
      place = inr (λ i. length (replies_in 1 (none_made i) (is i) l r));
      board =
          ap (λ (x : Answer). board_in t.hand (held_after x [] held) l r) (one_last t none_made)
          ∙ promised_board (ReadInto o) t b held [] l r given out e;
    }
