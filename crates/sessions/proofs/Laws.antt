-- Calls of a session are the model's.
-- In order: buffers; one call; steps; a copy; a line.
-- Assumes nothing.
use Rattle.std.specs.Prelude.{Option, Some, None, leb}
use Rattle.walks.specs.declared.Walk.{Walk}
use Prim.Native.Nat.{ℕ, zero, suc, ◌-◌, ◌≤◌}
use mathlib.Core.Path.{◌≡◌, refl, sym, ap, subst, ◌∙◌}
use mathlib.Core.Bool.{Bool, true, false, cond}
use mathlib.Core.List.{List, [], ◌∷◌, ◌++◌}
use native.Mathlib.Omega.{arith}
use lib.ListN.{length, take, drop, replicate}
use lib.Seq.{take-length, take-nil, length-take-le}
use borrow.Author.Tests.{leb-true}
use Rattle.reads.specs.Reads.{filled}
use Rattle.model.specs.Calls as C
use Rattle.model.specs.Board.{Board, Turn, turn, answers, board_after}
use Rattle.model.specs.Decided.{is_made}
use Rattle.model.specs.Orders.{one, held_in}
use Rattle.pages.specs.declared.PageOffset.{PageOffset}
use Rattle.boards.specs.declared.Call.{Call}
use Rattle.boards.specs.declared.Call as L
use Rattle.boards.specs.declared.Answer.{Answer}
use Rattle.boards.specs.declared.Answer as A
use Rattle.boards.specs.Boards.{
  hand_in,
  board_in,
  calls_in,
  times_of,
  answer_in,
  answers_in,
  own_of,
  held_after,
  Made,
  turn_in,
  made_on,
  out_after as lent,
}
use Rattle.texts.specs.Texts.{line_at, next_line, word_at}
use Rattle.digits.specs.Digits.{bytes_of}
use Rattle.asks.specs.Asks as T
use Rattle.asks.specs.Asks.{Asks, asks_of}
use Rattle.turns.specs.declared.Turned.{Turned}
use Rattle.turns.specs.declared.Job.{Job}
use Rattle.turns.specs.declared.Next as N
use Rattle.turns.specs.declared.Plan.{Plan}
use Rattle.turns.specs.Turns.{data_at, turn_of, began_after, made_now, next_for, plan_for, plan_from, plan_of}
use Rattle.sessions.proofs.Lines.{save_data, step_data, none_held}
use Rattle.sessions.specs.declared.Session.{Session}
use Rattle.sessions.specs.declared.Answered.{Answered}
use Rattle.sessions.specs.Sessions.{
  order_for,
  line_orders,
  Next,
  stands,
  nexts,
  out_after,
  order_next,
  next_from,
  next_of,
  stand_in,
  next_in,
  MadeOne,
}

nothing_in : (xs : List ℕ) → length xs ≡ 0 → xs ≡ []
nothing_in [] e = refl
nothing_in (x ∷ xs) e = absurd (omega arith)

-- ---- one call
-- where a walk was begun, and with which data
held_there : (a : Answer) (text own held : List ℕ) (begins began : ℕ) → data_at text begins ≡ own
    → data_at text began ≡ held
    → data_at text (began_after a begins began) ≡ held_after a own held
held_there A.TheVariants.Nothing text own held begins began e f = f
held_there A.TheVariants.Begun text own held begins began e f = e
held_there A.TheVariants.Made text own held begins began e f = f
held_there A.TheVariants.Ended text own held begins began e f = f
held_there (A.TheVariants.Number n) text own held begins began e f = f
held_there (A.TheVariants.Part o n) text own held begins began e f = f
held_there (A.TheVariants.Output n) text own held begins began e f = f

-- the one answer
abbrev head_or : C.Answer → List C.Answer → C.Answer
head_or x [] = x
head_or x (y ∷ ys) = y

-- what the engine counts as made is made
abbrev made_or : ℕ → Answer → Answer
made_or zero a = a
made_or (suc n) a = A.TheVariants.Made

only_answer : (made : ℕ) (a : Answer) (l r out : List ℕ) (x : C.Answer)
    → answers_in 1 made (answer_in a l r out) ≡ x ∷ [] → answer_in (made_or made a) l r out ≡ x
only_answer zero a l r out x e = ap (head_or x) e
only_answer (suc n) a l r out x e = ap (head_or x) e

pub none_made : (n : ℕ) (a : Answer) → n ≡ 0 → a ≡ made_or n a
none_made n a e = sym (ap (λ (k : ℕ). made_or k a) e)

pub some_made : (n : ℕ) (a : Answer) → (n ≡ 0 → ⊥) → A.TheVariants.Made ≡ made_or n a
some_made zero a h = absurd (h refl)
some_made (suc n) a h = refl

pub made_one : (text : List ℕ) (call : Call) (own begins : ℕ) (s : Session) (place : ℕ) (t : Turned) (a : Answer)
    (l r l' r' out out' : List ℕ) (size : ℕ) → times_of call ≡ 1 → data_at text begins ≡ own_of call (data_at text own)
    → length out' ≡ size
    → (turn_in call (turn_of t) (data_at text s.began) (data_at text own) l' r' out'
    ≡ made_on call (board_in s.hand (data_at text s.began) l r) (data_at text own) out)
    × (t.began ≡ began_after t.turn.answer begins s.began)
    → a ≡ made_or t.turn.made t.turn.answer
    → (c : C.Call) → calls_in call (data_at text own) out ≡ c ∷ []
    → let u = turn (board_in s.hand (data_at text s.began) l r) c in
    next_in text
    (record {
      session = record { hand = t.turn.hand; began = t.began; at = place; left = 0 };
      times = 1;
      answer = a;
      len = size;
    })
    l' r' out'
    ≡ nexts (u.answer ∷ []) (stands place 0 u.board) (lent call l r out)
unfolding made_on answers board_after
made_one text call own begins s place t a l r l' r' out out' size n hb es e ea c ec =
    let et = e.0 in
    let held = data_at text s.began in
    let b = board_in s.hand held l r in
    let first : answers_in 1 t.turn.made (answer_in t.turn.answer l' r' out') ≡ (turn b c).answer ∷ [] =
    ap (λ (m : ℕ). answers_in m t.turn.made (answer_in t.turn.answer l' r' out')) (sym n)
    ∙ ap (λ (x : Made). x.answers) et ∙ ap (answers b) ec in
    let whole : take size out' ≡ out' = ap (λ (k : ℕ). take k out') (sym es) ∙ take-length out' in
    let answer : answer_in a l' r' (take size out') ≡ (turn b c).answer =
    (λ i. answer_in (ea i) l' r' (whole i)) ∙ only_answer t.turn.made t.turn.answer l' r' out' (turn b c).answer first in
    let after : board_in t.turn.hand (held_after t.turn.answer (own_of call (data_at text own)) held) l' r' ≡ (turn b c).board =
    ap (λ (x : Made). x.board) et ∙ ap (board_after b) ec in
    let board : board_in t.turn.hand (data_at text t.began) l' r' ≡ (turn b c).board =
    ap (λ (h : List ℕ). board_in t.turn.hand h l' r')
    (ap (data_at text) e.1
    ∙ held_there t.turn.answer text (own_of call (data_at text own)) held begins s.began hb refl)
    ∙ after in
    let kept : out' ≡ lent call l r out = ap (λ (x : Made). x.out) et in
    λ i. nexts (answer i ∷ []) (stands place 0 (board i)) (kept i)

-- ---- steps
unmade : (a : Answer) (l r out : List ℕ) → (a ≡ A.TheVariants.Made → ⊥) → is_made (answer_in a l r out) ≡ false
unmade A.TheVariants.Nothing l r out h = refl
unmade A.TheVariants.Begun l r out h = refl
unmade A.TheVariants.Made l r out h = absurd (h refl)
unmade A.TheVariants.Ended l r out h = refl
unmade (A.TheVariants.Number n) l r out h = refl
unmade (A.TheVariants.Part o n) l r out h = refl
unmade (A.TheVariants.Output n) l r out h = refl

-- a step with the data that the line has, and with the held data
held_turn : (hand : Option Walk) (held l r : List ℕ)
    → turn (board_in hand held l r) (C.step held) ≡ turn (board_in hand held l r) (C.step (held_in (hand_in hand held)))
unfolding turn
held_turn None held l r = refl
held_turn (Some w) held l r = refl

-- one answer to so many calls, of which there is one
one_time : (n : ℕ) (x y : C.Answer) → replicate n x ≡ y ∷ [] → x ≡ y
one_time zero x y e = cc
one_time (suc n) x y e = ap (head_or x) e

-- a step of a session, as it is made with no output
abbrev OneStep : List ℕ → Session → Answered → List ℕ → List ℕ → List ℕ → List ℕ → List ℕ → Type 0
OneStep text s m l r l' r' unused =
    let u = turn (board_in s.hand (data_at text s.began) l r) (C.step (data_at text s.began)) in
    next_in text m l' r' unused ≡ nexts (u.answer ∷ []) (stands s.at 0 u.board) []

-- the step with the held data on the session's board
abbrev step_turn : List ℕ → Session → List ℕ → List ℕ → Turn
step_turn text s l r =
    let b = board_in s.hand (data_at text s.began) l r in turn b (C.step (held_in b.hand))

record One (text : List ℕ) (s : Session) (m : Answered) (l r l' r' : List ℕ) : Type 0 where
  pub answer : answer_in m.answer l' r' [] ≡ (step_turn text s l r).answer
  pub at : m.session.at ≡ s.at
  pub left : m.session.left ≡ 0
  pub board : board_in m.session.hand (data_at text m.session.began) l' r' ≡ (step_turn text s l r).board

one_step : (text : List ℕ) (s : Session) (m : Answered) (l r l' r' unused : List ℕ) → length unused ≡ 0
    → OneStep text s m l r l' r' unused → One text s m l r l' r'
one_step text s m l r l' r' unused n e =
    let held = data_at text s.began in
    let same = held_turn s.hand held l r in
    let empty : take m.len unused ≡ [] = ap (take m.len) (nothing_in unused n) ∙ take-nil m.len in
    record {
      answer =
          sym (ap (answer_in m.answer l' r') empty)
          ∙ one_time m.times (answer_in m.answer l' r' (take m.len unused))
          (turn (board_in s.hand held l r) (C.step held)).answer (ap (λ (x : Next). x.answers) e)
          ∙ ap (λ (t : Turn). t.answer) same;
      at = ap (λ (x : Next). x.stand.at) e;
      left = ap (λ (x : Next). x.stand.left) e;
      board = ap (λ (x : Next). x.stand.board) e ∙ ap (λ (t : Turn). t.board) same;
    }

-- of s.left steps, at least one, by whether it is made
step_by : (text : List ℕ) (s : Session) (k : ℕ) (q : Bool) (l r out : List ℕ) → s.left ≡ suc k
    → is_made (step_turn text s l r).answer ≡ q
    → let t = step_turn text s l r in
    cond q (nexts (C.made ∷ []) (stands s.at k t.board) out)
    (nexts (replicate (suc k) t.answer) (stands s.at 0 t.board) out)
    ≡ next_of text (stand_in text s l r) out
unfolding next_of
step_by text s k q l r out more made =
    let t = step_turn text s l r in
    let b = board_in s.hand (data_at text s.began) l r in
    sym (ap (λ (n : ℕ). next_from text s.at n b out) more
    ∙ ap
    (λ (z : Bool).
    cond z (nexts (C.made ∷ []) (stands s.at k t.board) out)
    (nexts (replicate (suc k) t.answer) (stands s.at 0 t.board) out))
    made)

pub step_made : (text : List ℕ) (s : Session) (m : Answered) (k : ℕ) (l r l' r' unused out rest : List ℕ)
    → length unused ≡ 0 → rest ≡ out → OneStep text s m l r l' r' unused → m.answer ≡ A.TheVariants.Made
    → (s.left ≡ 0 → ⊥) → k ≡ s.left - 1
    → next_in text
    (record {
      session = record { hand = m.session.hand; began = m.session.began; at = m.session.at; left = k };
      times = 1;
      answer = m.answer;
      len = 0;
    })
    l' r' (unused ++ rest)
    ≡ next_of text (stand_in text s l r) out
step_made text s m k l r l' r' unused out rest n er e f some_left ek =
    let x = one_step text s m l r l' r' unused n e in
    let here : answer_in m.answer l' r' [] ≡ C.made = ap (λ (a : Answer). answer_in a l' r' []) f in
    (λ i. nexts (here i ∷ []) (stands (x.at i) k (x.board i)) (nothing_in unused n i ++ er i))
    ∙ step_by text s k true l r out (omega arith) (ap is_made (sym x.answer ∙ here))

pub step_unmade : (text : List ℕ) (s : Session) (m : Answered) (l r l' r' unused out rest : List ℕ)
    → length unused ≡ 0 → rest ≡ out → OneStep text s m l r l' r' unused → (m.answer ≡ A.TheVariants.Made → ⊥)
    → (s.left ≡ 0 → ⊥)
    → next_in text (record { session = m.session; times = s.left; answer = m.answer; len = 0 }) l' r' (unused ++ rest)
    ≡ next_of text (stand_in text s l r) out
step_unmade text s m l r l' r' unused out rest n er e f some_left =
    let x = one_step text s m l r l' r' unused n e in
    let more : s.left ≡ suc (s.left - 1) = omega arith in
    (λ i.
    nexts (replicate (more i) (x.answer i)) (stands (x.at i) (x.left i) (x.board i))
    (nothing_in unused n i ++ er i))
    ∙ step_by text s (s.left - 1) false l r out more (ap is_made (sym x.answer) ∙ unmade m.answer l' r' [] f)

-- ---- a line
-- of which no call is made now
-- whose one call is made, with the first bytes of the output
take_front : (xs ys : List ℕ) (n : ℕ) → length xs ≡ n → take n (xs ++ ys) ≡ take n xs
take_front [] ys zero e = refl
take_front [] ys (suc n) e = absurd (omega arith)
take_front (x ∷ xs) ys zero e = absurd (omega arith)
take_front (x ∷ xs) ys (suc n) e = ap (λ (zs : List ℕ). x ∷ zs) (take_front xs ys n (omega arith))

pub line_made : (text : List ℕ) (s : Session) (x : Answered) (place n : ℕ) (c : C.Call)
    (l r l' r' out part kept : List ℕ)
    → x.len ≡ n → length part ≡ n
    → (let u = turn (board_in s.hand (data_at text s.began) l r) c in
    next_in text x l' r' part ≡ nexts (u.answer ∷ []) (stands place 0 u.board) kept)
    → kept ++ drop n out ≡ out_after c (board_in s.hand (data_at text s.began) l r) out
    → place ≡ next_line text s.at → line_orders (line_at text s.at) out ≡ one c ∷ [] → s.left ≡ 0
    → next_in text x l' r' (part ++ drop n out) ≡ next_of text (stand_in text s l r) out
unfolding next_of
line_made text s x place n c l r l' r' out part kept en ep e ek epl eo z =
    let b = board_in s.hand (data_at text s.began) l r in
    let rest = drop n out in
    let front : take x.len (part ++ rest) ≡ take x.len part = take_front part rest x.len (ep ∙ sym en) in
    ap (λ (w : List ℕ). nexts (replicate x.times (answer_in x.answer l' r' w)) (stand_in text x.session l' r')
    (part ++ rest)) front
    ∙ ap (λ (y : Next). nexts y.answers y.stand (y.out ++ rest)) e
    ∙ ap (λ (w : List ℕ). nexts ((turn b c).answer ∷ []) (stands place 0 (turn b c).board) w) ek
    ∙ (λ i. order_next (epl i) b out (sym eo i)) ∙ ap (λ (m : ℕ). next_from text s.at m b out) (sym z)

pub copy_size : (n : ℕ) (out : List ℕ) → n ≤ length out → length (take n out) ≡ n
copy_size n out h =
    length-take-le n out h

-- by the plan for it
asked : (text : List ℕ) (place : ℕ) (out : List ℕ) (asks : Asks) → asks_of (line_at text place) ≡ asks
    → line_orders (line_at text place) out ≡ order_for asks (bytes_of (word_at 2 (line_at text place))) out
asked text place out asks e = ap (λ (x : Asks). order_for x (bytes_of (word_at 2 (line_at text place))) out) e

-- its call is made
pub record Ready (text : List ℕ) (at : ℕ) (j : Job) (l r out : List ℕ) : Type 0 where
  pub fits : j.size ≤ length out
  pub times : times_of j.call ≡ 1
  pub own : data_at text j.begins ≡ own_of j.call (data_at text j.place)
  pub made : C.Call
  pub calls : calls_in j.call (data_at text j.place) (take j.size out) ≡ made ∷ []
  pub order : line_orders (line_at text at) out ≡ one made ∷ []
  pub kept : (b : Board) → b.left ≡ l → b.right ≡ r
      → lent j.call l r (take j.size out) ++ drop j.size out ≡ out_after made b out

-- or steps are left
abbrev Meant : List ℕ → ℕ → List ℕ → List ℕ → List ℕ → N.Next → Type 0
Meant text at l r out (N.TheVariants.Make j) = Ready text at j l r out
Meant text at l r out (N.TheVariants.Steps n) =
    (after : ℕ) (b : Board)
    → order_next after b out (line_orders (line_at text at) out) ≡ nexts [] (stands after n b) out

copy_meant : (text : List ℕ) (at : ℕ) (o : PageOffset) (n : ℕ) (l r out : List ℕ) (t : Bool)
    → asks_of (line_at text at) ≡ T.read_into o n → leb n (length out) ≡ t
    → Meant text at l r out
    (cond t (made_now (L.TheVariants.ReadInto o) (length text) (length text) n) (N.TheVariants.Steps 0))
copy_meant text at o n l r out true e f =
    let h : n ≤ length out = leb-true n (length out) f in
    let size : length (take n out) ≡ n = length-take-le n out h in
    record {
      fits = h;
      times = refl;
      own = none_held text;
      made = C.read_into o (take n out);
      calls = refl;
      order =
          asked text at out _ e ∙ ap (λ (t : Bool). cond t (one (C.read_into o (take n out)) ∷ []) []) f;
      kept =
          λ b p q.
          (λ i. (filled (sym p i) (sym q i) o (take n out)).bytes ++ drop (sym size i) out);
    }
copy_meant text at o n l r out false e f = λ after b.
    ap (order_next after b out)
    (asked text at out _ e ∙ ap (λ (t : Bool). cond t (one (C.read_into o (take n out)) ∷ []) []) f)

meant : (text : List ℕ) (at : ℕ) (asks : Asks) (l r out : List ℕ) → asks_of (line_at text at) ≡ asks
    → Meant text at l r out (next_for asks at (length text) (length out))
meant text at T.nothing l r out e = λ after b. ap (order_next after b out) (asked text at out _ e)
meant text at (T.save o) l r out e =
    record {
      fits = omega arith;
      times = refl;
      own = refl;
      made = C.save o (data_at text at);
      calls = refl;
      order = asked text at out _ e ∙ ap (λ (x : List ℕ). one (C.save o x) ∷ []) (sym (save_data text at o e));
      kept = λ b p q. refl;
    }
meant text at T.format l r out e =
    record {
      fits = omega arith;
      times = refl;
      own = none_held text;
      made = C.format;
      calls = refl;
      order = asked text at out _ e;
      kept = λ b p q. refl;
    }
meant text at (T.steps n) l r out e = λ after b. ap (order_next after b out) (asked text at out _ e)
meant text at T.step_with l r out e =
    record {
      fits = omega arith;
      times = refl;
      own = none_held text;
      made = C.step (data_at text at);
      calls = refl;
      order = asked text at out _ e ∙ ap (λ (x : List ℕ). one (C.step x) ∷ []) (sym (step_data text at e));
      kept = λ b p q. refl;
    }
meant text at (T.read o n) l r out e =
    record {
      fits = omega arith;
      times = refl;
      own = none_held text;
      made = C.read o n;
      calls = refl;
      order = asked text at out _ e;
      kept = λ b p q. refl;
    }
meant text at (T.read_into o n) l r out e = copy_meant text at o n l r out (leb n (length out)) e refl
meant text at T.cut l r out e =
    record {
      fits = omega arith;
      times = refl;
      own = none_held text;
      made = C.cut;
      calls = refl;
      order = asked text at out _ e;
      kept = λ b p q. refl;
    }
meant text at (T.wrong fault n) l r out e = λ after b. ap (order_next after b out) (asked text at out _ e)

-- ---- what is done next
-- a line, where no steps are left
line_plan : (text : List ℕ) (s : Session) (p : Plan) (out : List ℕ)
    → p ≡ plan_of text s.at s.began s.left (length out) → s.left ≡ 0
    → p ≡ plan_for (asks_of (line_at text s.at)) s.at (next_line text s.at) (length text) (length out)
unfolding plan_of
line_plan text s p out e z = e ∙ ap (λ (n : ℕ). plan_from text s.at s.began n (length out)) z

-- a step, where some are
abbrev step_job : List ℕ → Session → Job
step_job text s = record { call = L.TheVariants.Step 1; place = s.began; begins = length text; size = 0 }

step_plan : (text : List ℕ) (s : Session) (p : Plan) (out : List ℕ)
    → p ≡ plan_of text s.at s.began s.left (length out) → (s.left ≡ 0 → ⊥)
    → ◌≡◌ {A = Plan} p (record { after = s.at; next = N.TheVariants.Make (step_job text s) })
unfolding plan_of
step_plan text s p out e h = e ∙ go s.left h
  where
    go : (n : ℕ) → (n ≡ 0 → ⊥)
        → ◌≡◌ {A = Plan} (plan_from text s.at s.began n (length out))
        (record { after = s.at; next = N.TheVariants.Make (step_job text s) })
    go zero k = absurd (k refl)
    go (suc n) k = refl

-- which of them it is
either : (n : ℕ) (A : Type 0) → (n ≡ 0 → A) → ((n ≡ 0 → ⊥) → A) → A
either zero A f g = f refl
either (suc n) A f g = g (λ e. absurd (omega arith))

line_meant : (text : List ℕ) (s : Session) (p : Plan) (x : N.Next) (l r out : List ℕ)
    → p ≡ plan_of text s.at s.began s.left (length out) → p.next ≡ x → s.left ≡ 0
    → Meant text s.at l r out x
line_meant text s p x l r out e f z =
    subst (Meant text s.at l r out) (sym (ap (λ (q : Plan). q.next) (line_plan text s p out e z)) ∙ f)
    (meant text s.at (asks_of (line_at text s.at)) l r out refl)

pub line_ready : (text : List ℕ) (s : Session) (p : Plan) (j : Job) (l r out : List ℕ)
    → p ≡ plan_of text s.at s.began s.left (length out) → p.next ≡ N.TheVariants.Make j → s.left ≡ 0
    → Ready text s.at j l r out
line_ready text s p j l r out e f z = line_meant text s p (N.TheVariants.Make j) l r out e f z

step_ready : (text : List ℕ) (s : Session) (p : Plan) (j : Job) (out : List ℕ)
    → p ≡ plan_of text s.at s.began s.left (length out) → p.next ≡ N.TheVariants.Make j → (s.left ≡ 0 → ⊥)
    → step_job text s ≡ j
step_ready text s p j out e f z =
    let same : N.TheVariants.Make (step_job text s) ≡ N.TheVariants.Make j =
    sym (ap (λ (q : Plan). q.next) (step_plan text s p out e z)) ∙ f in
    cc

-- the output has room, and the call one answer and data of its own
pub record Makes (text : List ℕ) (j : Job) (out : List ℕ) : Type 0 where
  pub fits : j.size ≤ length out
  pub times : times_of j.call ≡ 1
  pub own : data_at text j.begins ≡ own_of j.call (data_at text j.place)

pub makes : (text : List ℕ) (s : Session) (p : Plan) (j : Job) (out : List ℕ)
    → p ≡ plan_of text s.at s.began s.left (length out) → p.next ≡ N.TheVariants.Make j → Makes text j out
makes text s p j out e f =
    either s.left (Makes text j out)
    (λ z. let x = line_ready text s p j [] [] out e f z in record { fits = x.fits; times = x.times; own = x.own })
    (λ z.
    subst (λ (x : Job). Makes text x out) (step_ready text s p j out e f z)
    (record { fits = omega arith; times = refl; own = none_held text }))

pub line_after : (text : List ℕ) (s : Session) (p : Plan) (out : List ℕ)
    → p ≡ plan_of text s.at s.began s.left (length out) → s.left ≡ 0 → p.after ≡ next_line text s.at
line_after text s p out e z = ap (λ (x : Plan). x.after) (line_plan text s p out e z)

pub passed : (text : List ℕ) (s : Session) (p : Plan) (left : ℕ) (l r out : List ℕ)
    → p ≡ plan_of text s.at s.began s.left (length out) → p.next ≡ N.TheVariants.Steps left
    → next_in text
    (record {
      session = record { hand = s.hand; began = s.began; at = p.after; left = left };
      times = 0;
      answer = A.TheVariants.Nothing;
      len = 0;
    })
    l r out
    ≡ next_of text (stand_in text s l r) out
unfolding next_of
passed text s p left l r out e f =
    either s.left _
    (λ z.
    let b = board_in s.hand (data_at text s.began) l r in
    sym (line_meant text s p (N.TheVariants.Steps left) l r out e f z p.after b)
    ∙ (λ i. order_next (line_after text s p out e z i) b out (line_orders (line_at text s.at) out))
    ∙ ap (λ (m : ℕ). next_from text s.at m b out) (sym z))
    (λ z.
    let same : N.TheVariants.Make (step_job text s) ≡ N.TheVariants.Steps left =
    sym (ap (λ (q : Plan). q.next) (step_plan text s p out e z)) ∙ f in
    cc)

-- a step that is left, as it was made by its plan
pub record Stepped (text : List ℕ) (s : Session) (m : Answered) (l r l' r' unused out : List ℕ)
    (j : Job) : Type 0 where
  pub step : OneStep text s m l r l' r' unused
  pub empty : length unused ≡ 0
  pub rest : drop j.size out ≡ out

abbrev StepsBy : List ℕ → Session → ℕ → Answered → List ℕ → List ℕ → List ℕ → List ℕ → List ℕ → List ℕ → Job → Type 0
StepsBy text s after m l r l' r' unused out j =
    length unused ≡ length (take j.size out)
    → MadeOne text j.call j.place s after m l r l' r' (take j.size out) unused
    → Stepped text s m l r l' r' unused out j

pub stepped : (text : List ℕ) (s : Session) (m : Answered) (l r l' r' unused out : List ℕ) (p : Plan) (j : Job)
    → p ≡ plan_of text s.at s.began s.left (length out) → p.next ≡ N.TheVariants.Make j → (s.left ≡ 0 → ⊥)
    → StepsBy text s p.after m l r l' r' unused out j
stepped text s m l r l' r' unused out p j e f z =
    let after : s.at ≡ p.after = sym (ap (λ (q : Plan). q.after) (step_plan text s p out e z)) in
    subst (λ (n : ℕ). StepsBy text s n m l r l' r' unused out j) after
    (subst (StepsBy text s s.at m l r l' r' unused out) (step_ready text s p j out e f z)
    (λ n x. record { step = x.1 (C.step (data_at text s.began)) refl; empty = n; rest = refl }))
