-- Laws of cuts.
-- In order: the last walk of calls; a turn of the loop that looks for it; cuts and their tally; pages of number 1.
-- Assumes nothing.
use Rattle.std.specs.Prelude.{Option}
use Prim.Native.Nat.{ℕ, zero, suc, ◌+◌, ◌<◌}
use mathlib.Core.Path.{◌≡◌, refl, sym, ap, subst, ◌∙◌}
use mathlib.Core.Bool.{Bool, true, false, cond, ◌&&◌}
use mathlib.Core.List.{List, [], ◌∷◌, ◌++◌}
use Rattle.std.specs.Prelude.{Some, None}
use native.Mathlib.Omega.{arith}
use lib.Dec.{eqb}
use lib.ListN.{length, take, replicate}
use borrow.Author.Tests.{ne_eqb, eq-eqb}
use Rattle.copies.specs.Copies.{copied}
use Rattle.requests.specs.Legal.{RightPages}
use Rattle.requests.specs.Numbers.{wrong_pages}
use Rattle.model.specs.Calls as C
use Rattle.model.specs.Calls.{Call}
use Rattle.model.specs.Board.{Board, Turn, powered, turn, answers, board_after}
use Rattle.model.specs.Decided.{is_begun}
use Rattle.model.specs.Orders.{refusal}
use Rattle.model.proofs.Orders.{wrong_of, wrong_turn}
use Rattle.boards.specs.declared.Answer.{Answer}
use Rattle.boards.specs.declared.Answer as A
use Rattle.boards.specs.Boards.{hand_in, board_in, answer_in}
use Rattle.turns.specs.Turns.{zeros, data_at}
use Rattle.sessions.specs.declared.Session.{Session}
use Rattle.sessions.specs.declared.Answered.{Answered}
use Rattle.sessions.specs.Sessions.{script_calls, Stand, remaining, Next, next_of, stand_in, next_in, begins, is_on}
use Rattle.sessions.proofs.Script.{Quiet, next_follows}
use Rattle.sessions.proofs.Loop.{copied_all, goes_on, over_left}
use Rattle.walks.specs.declared.Walk.{Walk}
use Rattle.walks.specs.declared.Ran as R
use Rattle.walks.specs.Walks.{Course, run_of}
use Rattle.walks.proofs.Runs.{course}
use Rattle.verdicts.specs.declared.Tally.{Tally}
use Rattle.verdicts.specs.Verdicts.{shown, Shows, verdict_of, no_cuts, counted}
use Rattle.cuts.specs.declared.Last.{Last}
use Rattle.cuts.specs.Cuts.{
  is_held,
  begun_by,
  or_else,
  last_walk,
  last_in,
  begun_in,
  last_of,
  begun_last,
  cut_shown,
  tallied,
  total_of,
  board_tally,
  script_tally,
}

-- ---- the last walk of calls
or_else_lem : (x y z : Option Board) → or_else (or_else x y) z ≡ or_else x (or_else y z)
or_else_lem None y z = refl
or_else_lem (Some b) y z = refl

no_else : (x : Option Board) → or_else x None ≡ x
no_else None = refl
no_else (Some b) = refl

last_append : (b : Board) (cs ds : List Call)
    → last_walk b (cs ++ ds) ≡ or_else (last_walk (board_after b cs) ds) (last_walk b cs)
unfolding last_walk board_after
last_append b [] ds = sym (no_else (last_walk b ds))
last_append b (c ∷ cs) ds =
    let t = turn b c in
    ap (λ (x : Option Board). or_else x (begun_by t)) (last_append t.board cs ds)
    ∙ or_else_lem (last_walk (board_after t.board cs) ds) (last_walk t.board cs) (begun_by t)

-- calls of which none begins a walk
quiet_last : (b : Board) (cs : List Call) → Quiet (answers b cs) → last_walk b cs ≡ None
unfolding last_walk answers
quiet_last b [] q = refl
quiet_last b (c ∷ cs) q =
    let t = turn b c in
    ap (λ (x : Option Board). or_else x (begun_by t)) (quiet_last t.board cs q.1)
    ∙ ap (λ (x : Bool). cond (x && is_held t.board.hand) (Some t.board) None) q.0

-- ---- a turn
begun_same : (a : Answer) (l r out : List ℕ) → is_begun (answer_in a l r out) ≡ begun_in a
begun_same A.TheVariants.Nothing l r out = refl
begun_same A.TheVariants.Begun l r out = refl
begun_same A.TheVariants.Made l r out = refl
begun_same A.TheVariants.Ended l r out = refl
begun_same (A.TheVariants.Number n) l r out = refl
begun_same (A.TheVariants.Part o n) l r out = refl
begun_same (A.TheVariants.Output n) l r out = refl

answers_length : (b : Board) (cs : List Call) → length (answers b cs) ≡ length cs
unfolding answers
answers_length b [] = refl
answers_length b (c ∷ cs) = ap suc (answers_length (turn b c).board cs)

times_length : (n : ℕ) (x : C.Answer) → length (replicate n x) ≡ n
times_length zero x = refl
times_length (suc n) x = ap suc (times_length n x)

-- what the calls made now begin, as the code tells it
abbrev pub holds_in : Option Walk → Bool
holds_in None = false
holds_in (Some w) = true

holds_same : (hand : Option Walk) (held : List ℕ) → is_held (hand_in hand held) ≡ holds_in hand
holds_same None held = refl
holds_same (Some w) held = refl

abbrev pub begins_walk : Answered → Bool
begins_walk x = eqb x.times 1 && (begun_in x.answer && holds_in x.session.hand)

pub not_once : (x : Answered) → (x.times ≡ 1 → ⊥) → begins_walk x ≡ false
not_once x h = ap (λ (t : Bool). t && (begun_in x.answer && holds_in x.session.hand)) (ne_eqb x.times 1 h)

once : (x : Answered) → x.times ≡ 1 → begins_walk x ≡ (begun_in x.answer && holds_in x.session.hand)
once x e = ap (λ (t : Bool). t && (begun_in x.answer && holds_in x.session.hand)) (eq-eqb x.times 1 e)

first_of : (n : ℕ) (y z : C.Answer) → replicate n y ≡ z ∷ [] → y ≡ z
first_of zero y z e = cc
first_of (suc n) y z e = cc

abbrev to_walk : Bool → Board → Option Board
to_walk t b = cond t (Some b) None

begun_now : (b b' : Board) (made : List Call) (x : Answered) (l r out : List ℕ)
    → answers b made ≡ replicate x.times (answer_in x.answer l r (take x.len out)) → board_after b made ≡ b'
    → (held : List ℕ) → b'.hand ≡ hand_in x.session.hand held → (1 < length made → Quiet (answers b made))
    → last_walk b made ≡ to_walk (begins_walk x) b'
unfolding last_walk answers board_after
begun_now b b' [] x l r out e f held g q =
    let n : 0 ≡ x.times = ap length e ∙ times_length x.times _ in
    sym (ap (λ (t : Bool). to_walk t b') (not_once x (λ z. absurd (omega arith))))
begun_now b b' (c ∷ []) x l r out e f held g q =
    let t = turn b c in
    let y = answer_in x.answer l r (take x.len out) in
    let n : 1 ≡ x.times = ap length e ∙ times_length x.times y in
    let same : y ≡ t.answer = first_of x.times y t.answer (sym e) in
    let begun : is_begun t.answer ≡ begun_in x.answer =
    ap is_begun (sym same) ∙ begun_same x.answer l r (take x.len out) in
    let holds : is_held t.board.hand ≡ holds_in x.session.hand =
    ap (λ (z : Board). is_held z.hand) f ∙ ap is_held g ∙ holds_same x.session.hand held in
    (λ i. to_walk (begun i && holds i) (f i)) ∙ ap (λ (s : Bool). to_walk s b') (sym (once x (sym n)))
begun_now b b' (c ∷ (d ∷ cs)) x l r out e f held g q =
    let m : length (answers b (c ∷ (d ∷ cs))) ≡ length (c ∷ (d ∷ cs)) = answers_length b (c ∷ (d ∷ cs)) in
    let n : length (answers b (c ∷ (d ∷ cs))) ≡ x.times = ap length e ∙ times_length x.times _ in
    quiet_last b (c ∷ (d ∷ cs)) (q (omega arith))
    ∙ sym (ap (λ (t : Bool). to_walk t b') (not_once x (λ z. absurd (omega (arith, m, n, z)))))

last_turn : (text : List ℕ) (s : Session) (x : Answered) (l r l' r' out : List ℕ) → is_on text s ≡ true
    → next_in text x l' r' out ≡ next_of text (stand_in text s l r) zeros
    → let z = stand_in text s l r in
    let z' = stand_in text x.session l' r' in
    last_walk z.board (remaining text z)
    ≡ or_else (last_walk z'.board (remaining text z')) (to_walk (begins_walk x) z'.board)
last_turn text s x l r l' r' out on e =
    let z = stand_in text s l r in
    let z' = stand_in text x.session l' r' in
    let f = next_follows text z (goes_on text s on) in
    let stand : (next_of text z zeros).stand ≡ z' = sym (ap (λ (y : Next). y.stand) e) in
    let board : board_after z.board f.made ≡ z'.board = f.board ∙ ap (λ (y : Stand). y.board) stand in
    let said : answers z.board f.made ≡ replicate x.times (answer_in x.answer l' r' (take x.len out)) =
    f.answered ∙ sym (ap (λ (y : Next). y.answers) e) in
    ap (last_walk z.board) f.calls ∙ last_append z.board f.made (remaining text (next_of text z zeros).stand)
    ∙ (λ i. or_else (last_walk (board i) (remaining text (stand i))) (last_walk z.board f.made))
    ∙ ap (or_else (last_walk z'.board (remaining text z')))
    (begun_now z.board z'.board f.made x l' r' out said board (data_at text x.session.began) refl
    (λ h. subst Quiet (sym f.answered) (f.quiet h)))

-- the walk that a call begins, as the code has it
same_begun : (text : List ℕ) (x : Answered) (l r : List ℕ)
    → to_walk (begins_walk x) (board_in x.session.hand (data_at text x.session.began) l r)
    ≡ last_in text (begun_last x) l r
same_begun text x l r = go (eqb x.times 1) (begun_in x.answer) x.session.hand
  where
    go : (t u : Bool) (hand : Option Walk)
        → to_walk (t && (u && holds_in hand)) (board_in hand (data_at text x.session.began) l r)
        ≡ last_in text (cond (t && u) (last_of hand x.session.began) None) l r
    go true true None = refl
    go true true (Some w) = refl
    go true false hand = refl
    go false u hand = refl

-- ---- the loop
-- the last walk so far, with those that are still to come
abbrev pub Sought : List ℕ → Session → Option Last → List ℕ → List ℕ → List ℕ → List ℕ → List ℕ → List ℕ → Type 0
Sought text s last l r kl kr l₀ r₀ =
    let z = stand_in text s l r in
    or_else (last_walk z.board (remaining text z)) (last_in text last kl kr)
    ≡ last_walk (powered l₀ r₀) (script_calls text l₀ r₀)

pub sought_first : (text : List ℕ) (s : Session) (l r nl nr kl kr : List ℕ) → s ≡ begins → nl ≡ l → nr ≡ r
    → Sought text s None nl nr kl kr l r
unfolding remaining board_after
sought_first text s l r nl nr kl kr e el er =
    (λ i. let z = stand_in text (e i) (el i) (er i) in or_else (last_walk z.board (remaining text z)) None)
    ∙ no_else (last_walk (powered l r) (script_calls text l r))

-- a turn that begins no walk, and one that does
turned : (text : List ℕ) (s : Session) (x : Answered) (last : Option Last) (l r l' r' out z kl kr l₀ r₀ : List ℕ)
    → is_on text s ≡ true → z ≡ zeros → next_in text x l' r' out ≡ next_of text (stand_in text s l r) z
    → Sought text s last l r kl kr l₀ r₀
    → (let z' = stand_in text x.session l' r' in
    or_else (last_walk z'.board (remaining text z'))
    (or_else (last_in text (begun_last x) l' r') (last_in text last kl kr))
    ≡ last_walk (powered l₀ r₀) (script_calls text l₀ r₀))
turned text s x last l r l' r' out z kl kr l₀ r₀ on ez e h =
    let old = last_in text last kl kr in
    let z' = stand_in text x.session l' r' in
    ap (λ (y : Option Board). or_else (last_walk z'.board (remaining text z')) (or_else y old))
    (sym (same_begun text x l' r'))
    ∙ sym (or_else_lem (last_walk z'.board (remaining text z')) (to_walk (begins_walk x) z'.board) old)
    ∙ ap (λ (y : Option Board). or_else y old)
    (sym (last_turn text s x l r l' r' out on (e ∙ ap (next_of text (stand_in text s l r)) ez))) ∙ h

pub sought_not : (text : List ℕ) (s : Session) (x : Answered) (last : Option Last) (l r l' r' out z kl kr l₀ r₀ : List ℕ)
    → is_on text s ≡ true → z ≡ zeros → next_in text x l' r' out ≡ next_of text (stand_in text s l r) z
    → begun_last x ≡ None → Sought text s last l r kl kr l₀ r₀ → Sought text x.session last l' r' kl kr l₀ r₀
sought_not text s x last l r l' r' out z kl kr l₀ r₀ on ez e f h =
    let z' = stand_in text x.session l' r' in
    ap
    (λ (y : Option Last).
    or_else (last_walk z'.board (remaining text z')) (or_else (last_in text y l' r') (last_in text last kl kr)))
    (sym f)
    ∙ turned text s x last l r l' r' out z kl kr l₀ r₀ on ez e h

pub sought_one : (text : List ℕ) (s : Session) (x : Answered) (last : Option Last) (found : Last)
    (l r l' r' out z kl kr kl' kr' l₀ r₀ : List ℕ) → is_on text s ≡ true → z ≡ zeros
    → next_in text x l' r' out ≡ next_of text (stand_in text s l r) z → begun_last x ≡ Some found
    → kl' ≡ copied l' kl → kr' ≡ copied r' kr → length l' ≡ length kl → length r' ≡ length kr
    → Sought text s last l r kl kr l₀ r₀ → Sought text x.session (Some found) l' r' kl' kr' l₀ r₀
sought_one text s x last found l r l' r' out z kl kr kl' kr' l₀ r₀ on ez e f el er nl nr h =
    let z' = stand_in text x.session l' r' in
    (λ i.
    or_else (last_walk z'.board (remaining text z'))
    (last_in text (Some found) ((el ∙ copied_all l' kl nl) i) ((er ∙ copied_all r' kr nr) i)))
    ∙ ap
    (λ (y : Option Last).
    or_else (last_walk z'.board (remaining text z')) (or_else (last_in text y l' r') (last_in text last kl kr)))
    (sym f)
    ∙ turned text s x last l r l' r' out z kl kr l₀ r₀ on ez e h

pub sought_last : (text : List ℕ) (s : Session) (last : Option Last) (l r kl kr l₀ r₀ : List ℕ) → is_on text s ≡ false
    → Sought text s last l r kl kr l₀ r₀
    → last_in text last kl kr ≡ last_walk (powered l₀ r₀) (script_calls text l₀ r₀)
unfolding last_walk
sought_last text s last l r kl kr l₀ r₀ off h =
    let z = stand_in text s l r in
    sym (ap (λ (cs : List Call). or_else (last_walk z.board cs) (last_in text last kl kr)) (over_left text s l r off))
    ∙ h

-- ---- cuts
-- what is judged
pub cut_judged : (n : ℕ) (w : Walk) (ran : R.Ran) (d l r nl nr l' r' image before : List ℕ) (v : Shows)
    → nl ≡ l → nr ≡ r → course ran l' r' ≡ run_of n w nl nr d → image ≡ shown l' r' → before ≡ shown l r
    → v ≡ verdict_of w.request image before w.offset d → v ≡ cut_shown n w d l r
cut_judged n w ran d l r nl nr l' r' image before v el er e ei eb ev =
    let ran_on : course ran l' r' ≡ run_of n w l r d = e ∙ (λ i. run_of n w (el i) (er i) d) in
    ev
    ∙ (λ i.
    verdict_of w.request ((ei ∙ ap (λ (c : Course). shown c.left c.right) ran_on) i) (eb i)
    w.offset d)

-- ---- pages of number 1
wrong_quiet : (l r : List ℕ) (cs : List Call) → wrong_pages (length l) (length r) ≡ true → last_walk
    (powered l r) cs ≡ None
unfolding last_walk
wrong_quiet l r [] w = refl
wrong_quiet l r (c ∷ cs) w =
    ap (λ (t : Turn). or_else (last_walk t.board cs) (begun_by t)) (wrong_turn l r c w)
    ∙ ap (λ (x : Option Board). or_else x (begun_by (record { answer = refusal c; board = powered l r })))
    (wrong_quiet l r cs w)
    ∙ never c
  where
    never : (x : Call) → begun_by (record { answer = refusal x; board = powered l r }) ≡ None
    never (C.save o d) = refl
    never C.format = refl
    never (C.step d) = refl
    never (C.read o n) = refl
    never (C.read_into o out) = refl
    never C.cut = refl

pub no_walks : (text l r : List ℕ) → (RightPages (length l) (length r) → ⊥)
    → last_walk (powered l r) (script_calls text l r) ≡ None
no_walks text l r h = wrong_quiet l r (script_calls text l r) (wrong_of (length l) (length r) h)

-- ---- the tally
pub no_tally : (w : Walk) (d l r : List ℕ) (t : Tally) → t ≡ no_cuts → t ≡ tallied 0 w d l r
unfolding tallied
no_tally w d l r t e = e

pub tally_next : (n m : ℕ) (w : Walk) (d l r : List ℕ) (t s : Tally) (v : Shows) → m ≡ n + 1 → t ≡ tallied n w d l r
    → v ≡ cut_shown n w d l r → s ≡ counted t v → s ≡ tallied m w d l r
unfolding tallied
tally_next n m w d l r t s v em et ev es =
    let k : m ≡ suc n = omega arith in
    es ∙ (λ i. counted (et i) (ev i)) ∙ sym (ap (λ (i : ℕ). tallied i w d l r) k)

-- of a script whose last walk is found
pub tally_one : (text l r kl kr d : List ℕ) (f : Option Last) (x : Last) (t : Tally) → f ≡ Some x
    → last_in text f kl kr ≡ last_walk (powered l r) (script_calls text l r) → d ≡ data_at text x.at
    → t ≡ tallied (total_of x.walk + 1) x.walk d kl kr → t ≡ script_tally text l r
tally_one text l r kl kr d f x t is e ed et =
    et ∙ ap (λ (ds : List ℕ). tallied (total_of x.walk + 1) x.walk ds kl kr) ed
    ∙ ap (λ (y : Option Last). board_tally (last_in text y kl kr)) (sym is) ∙ ap board_tally e
