-- Calls as the code makes them are the model's.
-- In order: beginnings; steps; reads; a cut.
-- Assumes nothing.
use Rattle.std.specs.Prelude.{Option, Some, None, Result, Ok, Err}
use Rattle.requests.specs.declared.Refusal.{Refusal}
use Prim.Native.Nat.{ℕ, zero, suc, ◌+◌, ◌-◌}
use mathlib.Core.Path.{◌≡◌, refl, sym, ap, ap₂, ◌∙◌}
use mathlib.Core.Bool.{Bool, true, false, cond}
use mathlib.Core.List.{List, [], ◌∷◌, ◌++◌}
use native.Mathlib.Omega.{arith}
use lib.Dec.{eqb}
use lib.ListN.{replicate}
use Rattle.flash.specs.Flash.{Outcome as Filled}
use Rattle.pages.specs.declared.PageOffset.{PageOffset}
use Rattle.reads.specs.Reads.{read_number, read_part, filled}
use denote.Ref.{Bor}
use Rattle.walks.specs.declared.Walk.{Walk}
use Rattle.walks.specs.declared.Progress.{Progress}
use Rattle.walks.specs.declared.Progress as P
use Rattle.walks.specs.declared.Ran as R
use Rattle.walks.specs.Walks as W
use Rattle.walks.specs.Walks.{
  beginning_in,
  begin_save,
  begin_format,
  said_in,
  Said,
  Outcome,
  step_of,
  kept,
  Course,
  one_more,
  if_made,
  run_of,
}
use Rattle.walks.proofs.Runs.{unmade_keeps, course}
use Rattle.model.specs.Calls as C
use Rattle.model.specs.Board.{Board, after_begin, answer_of, handed, after_step, turn, answers, board_after}
use Rattle.boards.specs.declared.Call.{Call}
use Rattle.boards.specs.declared.Call.TheVariants.{Save, Format, Step, Read, ReadInto, Cut}
use Rattle.boards.specs.declared.Answer.{Answer}
use Rattle.boards.specs.declared.Answer as A
use Rattle.boards.specs.declared.Turn.{Turn}
use Rattle.boards.specs.Boards.{board_in, answer_in, answers_in, kept_after, held_after, begun_turn, progress_answer, read_answer, turn_in, made_on, Steps}

-- ---- beginnings
pub save_made : (o : PageOffset) (hand : Option Walk) (begun : Result Walk Refusal) (held d l r out : List ℕ) (t : Turn)
    → beginning_in begun ≡ begin_save l r o d → t ≡ begun_turn hand begun
    → turn_in (Save o) t held d l r out ≡ made_on (Save o) (board_in hand held l r) d out
unfolding made_on answers board_after turn
save_made o hand begun held d l r out t e f =
    ap (λ (u : Turn). turn_in (Save o) u held d l r out) f ∙ go begun
    ∙ ap
    (λ (x : W.Beginning).
    let z = after_begin (board_in hand held l r) d x in
    record { answers = z.answer ∷ []; board = z.board; out = out })
    e
  where
    go : (x : Result Walk Refusal)
        → turn_in (Save o) (begun_turn hand x) held d l r out
        ≡ (let z = after_begin (board_in hand held l r) d (beginning_in x) in
        record { answers = z.answer ∷ []; board = z.board; out = out })
    go (Ok w) = refl
    go (Err why) = refl

pub format_made : (hand : Option Walk) (begun : Result Walk Refusal) (held d l r out : List ℕ) (t : Turn)
    → beginning_in begun ≡ begin_format l r → t ≡ begun_turn hand begun
    → turn_in Format t held d l r out ≡ made_on Format (board_in hand held l r) d out
unfolding made_on answers board_after turn
format_made hand begun held d l r out t e f =
    ap (λ (u : Turn). turn_in Format u held d l r out) f ∙ go begun
    ∙ ap
    (λ (x : W.Beginning).
    let z = after_begin (board_in hand held l r) [] x in
    record { answers = z.answer ∷ []; board = z.board; out = out })
    e
  where
    go : (x : Result Walk Refusal)
        → turn_in Format (begun_turn hand x) held d l r out
        ≡ (let z = after_begin (board_in hand held l r) [] (beginning_in x) in
        record { answers = z.answer ∷ []; board = z.board; out = out })
    go (Ok w) = refl
    go (Err why) = refl

-- ---- steps
-- a call that changes nothing is answered alike each time
pub repeats : (n : ℕ) (b : Board) (c : C.Call) → (turn b c).board ≡ b
    → (answers b (replicate n c) ≡ replicate n (turn b c).answer) × (board_after b (replicate n c) ≡ b)
unfolding answers board_after
repeats zero b c e = (refl, refl)
repeats (suc n) b c e =
    let again = repeats n b c e in (
      ap (λ (z : Board). (turn b c).answer ∷ answers z (replicate n c)) e
          ∙ ap (λ (xs : List C.Answer). (turn b c).answer ∷ xs) again.0,
      ap (λ (z : Board). board_after z (replicate n c)) e ∙ again.1,
    )

-- the answers of a run, and the board after it
abbrev run_answers : ℕ → Course → List C.Answer
run_answers n c = answers_in n c.steps (answer_of c.said)

abbrev run_board : List ℕ → Course → Board
run_board held c =
    record {
      left = c.left;
      right = c.right;
      hand = Some (record { walk = c.walk; held = held });
    }

abbrev Runs : ℕ → Walk → List ℕ → List ℕ → List ℕ → List ℕ → Type 0
Runs n w held d l r =
    let b = board_in (Some w) held l r in
    let c = run_of n w l r (handed held d) in
    (answers b (replicate n (C.step d)) ≡ run_answers n c)
    × (board_after b (replicate n (C.step d)) ≡ run_board held c)

-- a step that isn't made
unmade : (n : ℕ) (w : Walk) (held d l r : List ℕ) (o : Outcome) → o ≡ step_of w l r (handed held d)
    → (o.said ≡ W.made → ⊥)
    → let b = board_in (Some w) held l r in
    (answers b (replicate n (C.step d)) ≡ replicate n (answer_of o.said))
    × (board_after b (replicate n (C.step d)) ≡ run_board held
    (record { said = o.said; steps = 0; walk = o.walk; left = o.left; right = o.right }))
unfolding turn
unmade n w held d l r o e h =
    let x = handed held d in
    let keeps : step_of w l r x ≡ kept (step_of w l r x).said w l r =
    unmade_keeps w l r x (λ z. h (ap (λ (y : Outcome). y.said) e ∙ z)) in
    let b = board_in (Some w) held l r in
    let same = repeats n b (C.step d) (ap (λ (y : Outcome). (after_step held y).board) keeps) in
    let here : o ≡ kept (step_of w l r x).said w l r = e ∙ keeps in (
      same.0 ∙ ap (λ (y : Outcome). replicate n (answer_of y.said)) (sym e),
      same.1 ∙ sym (ap (λ (y : Outcome). (after_step held y).board) here),
    )

-- what a run's answers are after one more step
more_answers : (n : ℕ) (c : Course) → C.made ∷ run_answers n c ≡ run_answers (suc n) (one_more c)
more_answers n c =
    let m : suc c.steps ≡ 1 + c.steps = omega arith in
    let k : n - c.steps ≡ suc n - (1 + c.steps) = omega arith in
    ap₂ (λ (x y : ℕ). replicate x C.made ++ replicate y (answer_of c.said)) m k

-- the first step of a run, by what it says
abbrev stopped : Outcome → Course
stopped o = record { said = o.said; steps = 0; walk = o.walk; left = o.left; right = o.right }

first : (n : ℕ) (w : Walk) (l r d : List ℕ) (s : Said) → (step_of w l r d).said ≡ s
    → let o = step_of w l r d in
    run_of (suc n) w l r d ≡ if_made s (one_more (run_of n o.walk o.left o.right d)) (stopped o)
unfolding run_of
first n w l r d s q =
    let o = step_of w l r d in
    ap (λ (x : Said). if_made x (one_more (run_of n o.walk o.left o.right d)) (stopped o)) q

stops : (n : ℕ) (w : Walk) (held d l r : List ℕ) → ((step_of w l r (handed held d)).said ≡ W.made → ⊥)
    → run_of (suc n) w l r (handed held d) ≡ stopped (step_of w l r (handed held d)) → Runs (suc n) w held d l r
stops n w held d l r h e =
    let o = step_of w l r (handed held d) in
    let z = unmade (suc n) w held d l r o refl h in
    let k : suc n ≡ suc n - 0 = omega arith in (
      z.0 ∙ ap (λ (m : ℕ). replicate m (answer_of o.said)) k ∙ ap (run_answers (suc n)) (sym e),
      z.1 ∙ ap (run_board held) (sym e),
    )

ended_unlike : W.ended ≡ W.made → ⊥
ended_unlike e = let z : ◌≡◌ {A = ℕ} 0 1 = cc in absurd (omega (arith, z))

number_unlike : (k : ℕ) → W.number k ≡ W.made → ⊥
number_unlike k e = let z : ◌≡◌ {A = ℕ} 0 1 = cc in absurd (omega (arith, z))

runs : (n : ℕ) (w : Walk) (held d l r : List ℕ) → Runs n w held d l r
unfolding answers board_after run_of turn
runs zero w held d l r = (refl, refl)
runs (suc n) w held d l r =
    let o = step_of w l r (handed held d) in go o.said refl (runs n o.walk held d o.left o.right)
  where
    go : (s : Said) → (step_of w l r (handed held d)).said ≡ s
        → (let o = step_of w l r (handed held d) in Runs n o.walk held d o.left o.right)
        → Runs (suc n) w held d l r
    go W.made q rest =
        let o = step_of w l r (handed held d) in
        let c = run_of n o.walk o.left o.right (handed held d) in
        let e = sym (first n w l r (handed held d) W.made q) in (
          ap
              (λ (x : Said).
              answer_of x ∷ answers (board_in (Some o.walk) held o.left o.right) (replicate n (C.step d)))
              q
              ∙ ap (λ (xs : List C.Answer). C.made ∷ xs) rest.0 ∙ more_answers n c ∙ ap (run_answers (suc n)) e,
          rest.1 ∙ ap (run_board held) e,
        )
    go W.ended q rest =
        stops n w held d l r (λ z. ended_unlike (sym q ∙ z)) (first n w l r (handed held d) W.ended q)
    go (W.number k) q rest =
        stops n w held d l r (λ z. number_unlike k (sym q ∙ z)) (first n w l r (handed held d) (W.number k) q)

-- so many steps
answer_same : (p : Progress) (l r out : List ℕ) → answer_in (progress_answer p) l r out ≡ answer_of (said_in p)
answer_same P.TheVariants.Made l r out = refl
answer_same P.TheVariants.Ended l r out = refl
answer_same P.TheVariants.Unfit l r out = refl

-- what is kept of two references is kept of what they lead to
pub kept_now : (a : Answer) (own before : Bor (List ℕ)) → (kept_after a own before).now ≡ held_after a own.now before.now
kept_now A.TheVariants.Nothing own before = refl
kept_now A.TheVariants.Begun own before = refl
kept_now A.TheVariants.Made own before = refl
kept_now A.TheVariants.Ended own before = refl
kept_now (A.TheVariants.Number n) own before = refl
kept_now (A.TheVariants.Part o n) own before = refl
kept_now (A.TheVariants.Output n) own before = refl

still_held : (p : Progress) (own held : List ℕ) → held_after (progress_answer p) own held ≡ held
still_held P.TheVariants.Made own held = refl
still_held P.TheVariants.Ended own held = refl
still_held P.TheVariants.Unfit own held = refl

pub steps_made : (n : ℕ) (hand : Option Walk) (w : Walk) (x : R.Ran) (held d own l r l' r' : List ℕ) (a : Answer)
    → hand ≡ Some w → own ≡ handed held d → course x l' r' ≡ run_of n w l r own → a ≡ progress_answer x.progress
    → Steps n (record { hand = Some x.walk; made = x.steps; answer = a }) hand held d l r l' r'
unfolding made_on
steps_made n hand w x held d own l r l' r' a eh eo ex ea out =
    let p = x.progress in
    let c : course x l' r' ≡ run_of n w l r (handed held d) = ex ∙ ap (run_of n w l r) eo in
    let z = runs n w held d l r in
    ap (λ (y : Answer). turn_in (Step n) (record {
      hand = Some
          x.walk;
      made = x.steps;
      answer = y;
    }) held d l' r' out)
    ea
    ∙ (λ i.
    record {
      answers = answers_in n x.steps (answer_same p l' r' out i);
      board = board_in (Some x.walk) (still_held p [] held i) l' r';
      out = out;
    })
    ∙ ap (λ (y : Course). record { answers = run_answers n y; board = run_board held y; out = out }) c
    ∙ (λ i. record { answers = sym z.0 i; board = sym z.1 i; out = out })
    ∙ ap (λ (y : Option Walk). made_on (Step n) (board_in y held l r) d out) (sym eh)

pub no_walk : (n : ℕ) (hand : Option Walk) (t : Turn) (held d l r : List ℕ) → hand ≡ None
    → t ≡ (record { hand = hand; made = 0; answer = A.TheVariants.Nothing }) → Steps n t hand held d l r l r
unfolding made_on turn
no_walk n hand t held d l r eh et out =
    let b = board_in None held l r in
    let z = repeats n b (C.step d) refl in
    let k : n - 0 ≡ n = omega arith in
    ap (λ (u : Turn). turn_in (Step n) u held d l r out) et
    ∙ (λ i.
    record {
      answers = replicate (k i) C.nothing;
      board = board_in (eh i) held l r;
      out = out;
    })
    ∙ (λ i. record { answers = sym z.0 i; board = sym z.1 i; out = out })
    ∙ ap (λ (y : Option Walk). made_on (Step n) (board_in y held l r) d out) (sym eh)

-- ---- reads
pub read_made : (o : PageOffset) (n : ℕ) (hand : Option Walk) (held d l r out : List ℕ) (a : Answer)
    → a ≡ read_answer (read_number l r o n) o n
    → turn_in (Read o n) (record { hand = hand; made = 0; answer = a }) held d l r out
    ≡ made_on (Read o n) (board_in hand held l r) d out
unfolding made_on answers board_after turn
read_made o n hand held d l r out a e =
    ap (λ (x : Answer). turn_in (Read o n) (record { hand = hand; made = 0; answer = x }) held d l r out) e
    ∙ go (eqb (read_number l r o n) 0)
  where
    go : (t : Bool)
        → turn_in (Read o n)
        (record {
          hand = hand;
          made = 0;
          answer = cond t (A.TheVariants.Part o n) (A.TheVariants.Number (read_number l r o n));
        })
        held d l r out
        ≡ (record {
          answers = cond t (C.bytes (read_part l r o n)) (C.number (read_number l r o n)) ∷ [];
          board = board_in hand held l r;
          out = out;
        })
    go true = refl
    go false = refl

pub into_made : (o : PageOffset) (k m : ℕ) (hand : Option Walk) (held d l r out out' : List ℕ) → m ≡ k
    → ◌≡◌ {A = Filled} (record { number = k; bytes = out' }) (filled l r o out)
    → turn_in (ReadInto o) (record { hand = hand; made = 0; answer = A.TheVariants.Output m }) held d l r out'
    ≡ made_on (ReadInto o) (board_in hand held l r) d out
unfolding made_on answers board_after turn
into_made o k m hand held d l r out out' f e =
    ap (λ (x : ℕ). record { answers = C.output x out' ∷ []; board = board_in hand held l r; out = out' }) f
    ∙ ap
    (λ (x : Filled).
    record { answers = C.output x.number x.bytes ∷ []; board = board_in hand held l r; out = x.bytes })
    e

-- ---- a cut
pub cut_made : (hand next : Option Walk) (held d l r out : List ℕ) → next ≡ None
    → turn_in Cut (record { hand = next; made = 0; answer = A.TheVariants.Nothing }) held d l r out
    ≡ made_on Cut (board_in hand held l r) d out
unfolding made_on answers board_after turn
cut_made hand next held d l r out e =
    ap (λ (h : Option Walk). turn_in Cut (record { hand = h; made = 0; answer = A.TheVariants.Nothing }) held d l r out) e

-- ---- the call that is made
pub of_call : (call c : Call) (t u : Turn) (b : Board) (held d l r out out' : List ℕ) → call ≡ c → t ≡ u
    → turn_in c u held d l r out' ≡ made_on c b d out → turn_in call t held d l r out' ≡ made_on call b d out
of_call call c t u b held d l r out out' e f h =
    ap (λ (x : Turn). turn_in call x held d l r out') f
    ∙ ap (λ (x : Call). turn_in x u held d l r out') e ∙ h ∙ ap (λ (x : Call). made_on x b d out) (sym e)
