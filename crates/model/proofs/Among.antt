-- A walk stepped on, with reads, refused beginnings and steps with data of another length in between: it answers `made`
-- once for each step that is left, then `ended`, and its last step leaves the pages that its list leaves.
-- In order: what a walk's steps lead to; one call; a sequence of calls.
-- Assumes nothing.
use Rattle.std.specs.Prelude.{Option, Some}
use Prim.Native.Nat.{ℕ, suc, ◌+◌, ◌-◌, ◌<◌, ◌≤◌}
use mathlib.Core.Path.{◌≡◌, refl, sym, ap, ap₂, subst, ◌∙◌}
use mathlib.Core.Bool.{Bool, true, false, cond}
use mathlib.Core.List.{List, [], ◌∷◌}
use native.Mathlib.Numerals.{lt_of_le_of_ne}
use native.Mathlib.Omega.{arith}
use lib.Dec.{eqb}
use lib.ListN.{length, get_or, drop, drop_of_length-le}
use lib.Seq.{drop-cons}
use borrow.Author.Tests.{eq-eqb, ne_eqb, eqb-true, eqb-false}
use Rattle.steps.specs.Steps.{Tried, tried}
use Rattle.images.specs.Images.{live_image}
use Rattle.plans.specs.declared.Entry.{Entry}
use Rattle.plans.specs.Plans.{nothing}
use Rattle.plans.proofs.Good.{MaybeImage, Good}
use Rattle.plans.proofs.Whole.{made_all}
use Rattle.walks.specs.Walks as W
use Rattle.walks.specs.Walks.{steps_of, advanced, kept, stepped}
use Rattle.model.specs.Calls.{Call, Answer, ByteCall, ByteCalls}
use Rattle.model.specs.Calls as C
use Rattle.model.specs.Board.{Hand, Board, Turn, after_begin, after_step, step_hand, turn, board_after}
use Rattle.model.specs.Book as B
use Rattle.model.specs.Book.{
  Asked,
  data_of,
  Job,
  Book,
  Entered,
  entered,
  told,
  next_job,
  one_more,
  step_book,
  entry,
  book_after,
  hearing,
}
use Rattle.model.specs.Among.{Leaves, AllLeave, is_step, steps_in, step_answers, made_then_ended}
use Rattle.model.proofs.Agree.{Walking, Hands, Agree, list_at, step_made, another_length, all_made, held_step, book_step, follow}
use Rattle.model.proofs.Decided.{same_list}

-- ---- what the steps of the walk in hand lead to
-- the walk of an agreeing board, and its job
pub in_hand : (b : Board) (k : Book) (h : Hand) (j : Job) → Agree b k → b.hand ≡ Some h → k.job ≡ Some j
    → Walking k.page k.image b.left b.right h j
in_hand b k h j a e f =
    subst (λ (q : Option Job). Hands k.page k.image b.left b.right (Some h) q) f
    (subst (λ (q : Option Hand). Hands k.page k.image b.left b.right q k.job) e a.hands)

-- the steps of its list that aren't made yet, all made on the pages, leave these pages
abbrev pub Landing : Board → Hand → Tried → Type 0
Landing b h end =
    made_all (drop h.walk.place (steps_of h.walk b.left b.right h.held)) b.left b.right ≡ end

-- a job with a walk in hand, wherever the board came from
pub record Under (b : Board) (k : Book) (j : Job) (end : Tried) : Type 0 where
  pub hand : Hand
  pub held : b.hand ≡ Some hand
  pub job : k.job ≡ Some j
  pub lands : Landing b hand end

-- ---- one call
-- a step with data of the held length, where one is left
pub record Steps (b : Board) (k : Book) (d : List ℕ) (h : Hand) (j : Job) (list : List Entry) : Type 0 where
  pub answer : (turn b (C.step d)).answer ≡ C.made
  pub book : (entry k (B.step d)).book ≡ one_more k j
  pub board : (turn b (C.step d)).board
      ≡ (record {
        left = (tried (get_or list j.made nothing).step b.left b.right).left;
        right = (tried (get_or list j.made nothing).step b.left b.right).right;
        hand = Some (record { walk = advanced h.walk; held = h.held });
      })

right_length : (b : Board) (k : Book) (d : List ℕ) (h : Hand) (j : Job)
    → (g : Walking k.page k.image b.left b.right h j) → length d ≡ length (data_of j.asked)
    → eqb (length d) (length h.held) ≡ true
right_length b k d h j g n =
    eq-eqb (length d) (length h.held) (n ∙ ap length (sym g.held))

makes_step : (b : Board) (k : Book) (d : List ℕ) (h : Hand) (j : Job) → Agree b k → b.hand ≡ Some h → k.job ≡ Some j
    → (g : Walking k.page k.image b.left b.right h j) → length d ≡ length (data_of j.asked)
    → j.made < j.total → Steps b k d h j g.list
unfolding turn entry
makes_step b k d h j a e f g n lt =
    let l = b.left in
    let r = b.right in
    let x = get_or g.list j.made nothing in
    let total : j.total ≡ length g.list = g.total in
    let place : h.walk.place ≡ j.made = g.place in
    let good : Good k.image g.then (x ∷ drop (suc j.made) g.list) l r =
    subst (λ (xs : List Entry). Good k.image g.then xs l r) (drop-cons g.list j.made nothing (omega arith))
    g.good in
    let here : get_or g.list h.walk.place nothing ≡ x = ap (λ (m : ℕ). get_or g.list m nothing) place in
    let walked : step_hand b b.hand d
    ≡ after_step h.held
    (record {
      said = W.made;
      walk = advanced h.walk;
      left = (tried x.step l r).left;
      right = (tried x.step l r).right;
    }) =
    ap (λ (q : Option Hand). step_hand b q d) e
    ∙ held_step b k d h j a g (right_length b k d h j g n)
    ∙ ap (after_step h.held) (step_made h.walk g.list l r x (omega arith) here good.1 good.2) in
    let booked : step_book k k.job d ≡ entered C.made (one_more k j) =
    ap (λ (q : Option Job). step_book k q d) f
    ∙ book_step k j d h.held true false g.held (right_length b k d h j g n)
    (ne_eqb j.total j.made (λ q. omega arith)) in
    record {
      answer = ap (λ (t : Turn). t.answer) walked;
      book = ap (λ (t : Entered). t.book) booked;
      board = ap (λ (t : Turn). t.board) walked;
    }

-- the list is the same after it, and leads to the same pages
image_or : (P : MaybeImage → Type 0) (t : Bool) (a b : MaybeImage) → P a → P b → P (cond t b a)
image_or P true a b p q = q
image_or P false a b p q = p

lands_on : (b : Board) (k : Book) (d : List ℕ) (h : Hand) (j : Job) (end : Tried) → Agree b k → k.job ≡ Some j
    → (g : Walking k.page k.image b.left b.right h j) → j.made < j.total
    → Steps b k d h j g.list → Landing b h end
    → Agree (turn b (C.step d)).board (entry k (B.step d)).book
    → Under (turn b (C.step d)).board (entry k (B.step d)).book (next_job j) end
lands_on b k d h j end a f g lt s landing a' =
    let l = b.left in
    let r = b.right in
    let list = g.list in
    let x = get_or list j.made nothing in
    let l' = (tried x.step l r).left in
    let r' = (tried x.step l r).right in
    let h' : Hand = record { walk = advanced h.walk; held = h.held } in
    let b' : Board = record { left = l'; right = r'; hand = Some h' } in
    let total : j.total ≡ length list = g.total in
    let place : h.walk.place ≡ j.made = g.place in
    let shows : live_image l' r' ≡ (one_more k j).image =
    subst (λ (y : Book). live_image l' r' ≡ y.image) s.book
    (subst (λ (y : Board). live_image y.left y.right ≡ (entry k (B.step d)).book.image) s.board a'.shows) in
    let either : list_at h.walk h.held (one_more k j).image ≡ list =
    image_or (λ (i : MaybeImage). list_at h.walk h.held i ≡ list) (eqb (j.made + 1) j.commit) k.image
    (B.effect k.page j.asked k.image) g.now_list
    (ap (list_at h.walk h.held) g.now_effect ∙ g.then_list) in
    let same : steps_of (advanced h.walk) l' r' h.held ≡ list =
    ap (list_at h.walk h.held) shows ∙ either in
    let next : h.walk.place + 1 ≡ suc j.made = omega arith in
    let before : steps_of h.walk l r h.held ≡ list = same_list b k h j a g in
    let cons : drop h.walk.place (steps_of h.walk l r h.held) ≡ x ∷ drop (suc j.made) list =
    ap₂ (λ (m : ℕ) (xs : List Entry). drop m xs) place before ∙ drop-cons list j.made nothing (omega arith) in
    let on : made_all (drop (h.walk.place + 1) (steps_of (advanced h.walk) l' r' h.held)) l' r' ≡ end =
    ap₂ (λ (m : ℕ) (xs : List Entry). made_all (drop m xs) l' r') next same
    ∙ sym (ap (λ (xs : List Entry). made_all xs l r) cons) ∙ landing in
    subst (λ (y : Board). Under y (entry k (B.step d)).book (next_job j) end) (sym s.board)
    (record {
      hand = h';
      held = refl;
      job = ap (λ (y : Book). y.job) s.book;
      lands = on;
    })

-- what a call does that leaves the walk in hand: a step with data of its length is made or finds the walk ended, and any
-- other call leaves it where it is
pub data Met (b : Board) (k : Book) (j : Job) (end : Tried) (n : ℕ) (c : Call) : Type 0 where
  goes : is_step n c ≡ true → (turn b c).answer ≡ C.made → j.made < j.total
      → Under (turn b c).board (entry k (told b c)).book (next_job j) end → Met b k j end n c
  ends : is_step n c ≡ true → (turn b c).answer ≡ C.ended → j.made ≡ j.total
      → Under (turn b c).board (entry k (told b c)).book j end → Met b k j end n c
  waits : is_step n c ≡ false → Under (turn b c).board (entry k (told b c)).book j end → Met b k j end n c

still_under : (b b' : Board) (k k' : Book) (j : Job) (end : Tried) → b' ≡ b → k' ≡ k → Under b k j end
    → Under b' k' j end
still_under b b' k k' j end p q u =
    subst (λ (y : Board). Under y k' j end) (sym p) (subst (λ (y : Book). Under b y j end) (sym q) u)

-- a beginning that isn't begun changes nothing
refused_keeps : (b : Board) (d : List ℕ) (x : W.Beginning) → ((after_begin b d x).answer ≡ C.begun → ⊥)
    → (after_begin b d x).board ≡ b
refused_keeps b d (W.refused n) h = refl
refused_keeps b d (W.begun w) h = absurd (h refl)

book_refused : (k : Book) (n : ℕ) (asked : Asked) (list : List Entry)
    → ((B.begin_book k n asked list).answer ≡ C.begun → ⊥) → (B.begin_book k n asked list).book ≡ k
book_refused k n asked list = go (eqb n 0)
  where
    go : (t : Bool)
        → ((cond t
        (entered C.begun (record { page = k.page; image = k.image; job = Some (B.job_of asked list) }))
        (entered (C.number n) k)).answer ≡ C.begun → ⊥)
        → (cond t
        (entered C.begun (record { page = k.page; image = k.image; job = Some (B.job_of asked list) }))
        (entered (C.number n) k)).book
        ≡ k
    go true h = absurd (h refl)
    go false h = refl

-- a step that is refused, or that finds the walk ended, leaves the board as it is
same_board : (b : Board) (h : Hand) (d : List ℕ) (said : W.Said) → b.hand ≡ Some h
    → step_hand b (Some h) d ≡ after_step h.held (kept said h.walk b.left b.right)
    → (turn b (C.step d)).board ≡ b
unfolding turn
same_board b h d said e q =
    ap (λ (x : Option Hand). (step_hand b x d).board) e ∙ ap (λ (t : Turn). t.board) q
    ∙ ap (λ (x : Option Hand). record { left = b.left; right = b.right; hand = x }) (sym e)

step_meets : (b : Board) (k : Book) (j : Job) (end : Tried) (d : List ℕ) → Agree b k → (u : Under b k j end)
    → (g : Walking k.page k.image b.left b.right u.hand j)
    → (s t : Bool) → eqb (length d) (length (data_of j.asked)) ≡ s → eqb j.total j.made ≡ t
    → Met b k j end (length (data_of j.asked)) (C.step d)
unfolding turn entry
step_meets b k j end d a u g true false p q =
    let n : length d ≡ length (data_of j.asked) = eqb-true (length d) (length (data_of j.asked)) p in
    let total : j.total ≡ length g.list = g.total in
    let within : j.made ≤ length g.list = g.within in
    let lt : j.made < j.total =
    lt_of_le_of_ne (omega arith) (λ z. eqb-false j.total j.made q (sym z)) in
    let s = makes_step b k d u.hand j a u.held u.job g n lt in
    goes p s.answer lt
    (lands_on b k d u.hand j end a u.job g lt s u.lands (follow b k (C.step d) tt a).1)
step_meets b k j end d a u g true true p q =
    let same : j.total ≡ j.made = eqb-true j.total j.made q in
    let held : eqb (length d) (length u.hand.held) ≡ true =
    ap (λ (x : List ℕ). eqb (length d) (length x)) g.held ∙ p in
    let booked : step_book k k.job d ≡ entered C.ended k =
    ap (λ (x : Option Job). step_book k x d) u.job ∙ book_step k j d (data_of j.asked) true true refl p q in
    ends p ((follow b k (C.step d) tt a).0 ∙ ap (λ (x : Entered). x.answer) booked) (sym same)
    (still_under b (turn b (C.step d)).board k (entry k (B.step d)).book j end
    (same_board b u.hand d W.ended u.held (all_made b k d u.hand j a g held same))
    (ap (λ (x : Entered). x.book) booked) u)
step_meets b k j end d a u g false t p q =
    let held : eqb (length d) (length u.hand.held) ≡ false =
    ap (λ (x : List ℕ). eqb (length d) (length x)) g.held ∙ p in
    let booked : step_book k k.job d ≡ entered (C.number 6) k =
    ap (λ (x : Option Job). step_book k x d) u.job ∙ book_step k j d (data_of j.asked) false t refl p q in
    waits p
    (still_under b (turn b (C.step d)).board k (entry k (B.step d)).book j end
    (same_board b u.hand d (W.number 6) u.held (another_length b k d u.hand j g held))
    (ap (λ (x : Entered). x.book) booked) u)

-- each call
meets_call : (b : Board) (k : Book) (j : Job) (end : Tried) (c : Call) → Agree b k → ByteCall c → Leaves b c
    → (u : Under b k j end) → Met b k j end (length (data_of j.asked)) c
unfolding turn entry
meets_call b k j end (C.save o d) a y h u =
    waits refl
    (still_under b (turn b (C.save o d)).board k (entry k (told b (C.save o d))).book j end
    (refused_keeps b d (W.begin_save b.left b.right o d) h)
    (book_refused k (B.begin_number k.page (B.save o d)) (B.save o d)
    (B.list_for (B.save o d) b.left b.right)
    (λ z. h ((follow b k (C.save o d) y a).0 ∙ z)))
    u)
meets_call b k j end C.format a y h u =
    waits refl
    (still_under b (turn b C.format).board k (entry k (told b C.format)).book j end
    (refused_keeps b [] (W.begin_format b.left b.right) h)
    (book_refused k (B.begin_number k.page B.format) B.format (B.list_for B.format b.left b.right)
    (λ z. h ((follow b k C.format y a).0 ∙ z)))
    u)
meets_call b k j end (C.step d) a y h u =
    step_meets b k j end d a u (in_hand b k u.hand j a u.held u.job)
    (eqb (length d) (length (data_of j.asked))) (eqb j.total j.made) refl refl
meets_call b k j end (C.read o n) a y h u = waits refl u
meets_call b k j end (C.read_into o out) a y h u = waits refl u
meets_call b k j end C.cut a y h u = absurd h

-- ---- a sequence of calls that leave the walk in hand
pub record Passed (b : Board) (j : Job) (end : Tried) (n : ℕ) (cs : List Call) : Type 0 where
  pub answered : step_answers n b cs ≡ made_then_ended (j.total - j.made) (steps_in n cs)
  pub left : j.total ≤ j.made + steps_in n cs → (board_after b cs).left ≡ end.left
  pub right : j.total ≤ j.made + steps_in n cs → (board_after b cs).right ≡ end.right

-- a walk with no steps left is where its list leads
at_end : (b : Board) (k : Book) (j : Job) (end : Tried) → Agree b k → (u : Under b k j end) → j.total ≡ j.made
    → (b.left ≡ end.left) × (b.right ≡ end.right)
at_end b k j end a u e =
    let h = u.hand in
    let g = in_hand b k h j a u.held u.job in
    let place : length g.list ≤ h.walk.place = omega (arith, g.total, g.place, e) in
    let none_left : drop h.walk.place (steps_of h.walk b.left b.right h.held) ≡ [] =
    ap (drop h.walk.place) (same_list b k h j a g) ∙ drop_of_length-le g.list place in
    let here = sym (ap (λ (xs : List Entry). made_all xs b.left b.right) none_left) ∙ u.lands in
    (ap (λ (t : Tried). t.left) here, ap (λ (t : Tried). t.right) here)

-- the answers to the steps among a call and those after it
first_answer : (n : ℕ) (b : Board) (c : Call) (cs : List Call) (x : Answer) → is_step n c ≡ true
    → (turn b c).answer ≡ x
    → step_answers n b (c ∷ cs) ≡ x ∷ step_answers n (turn b c).board cs
unfolding step_answers
first_answer n b c cs x p e =
    λ i. cond (p i) (e i ∷ step_answers n (turn b c).board cs) (step_answers n (turn b c).board cs)

pub among : (b : Board) (k : Book) (j : Job) (end : Tried) (cs : List Call) → Agree b k → ByteCalls cs → AllLeave b cs
    → Under b k j end → Passed b j end (length (data_of j.asked)) cs
unfolding step_answers steps_in board_after
among b k j end [] a y h u =
    let g = in_hand b k u.hand j a u.held u.job in
    let within : j.made ≤ length g.list = g.within in
    let total : j.total ≡ length g.list = g.total in
    record {
      answered = refl;
      left = λ z. (at_end b k j end a u (omega arith)).0;
      right = λ z. (at_end b k j end a u (omega arith)).1;
    }
among b k j end (c ∷ cs) a y h u =
    go (meets_call b k j end c a y.0 h.0 u)
    (λ j' u'. among (turn b c).board (entry k (told b c)).book j' end cs (follow b k c y.0 a).1 y.1 h.1 u')
  where
    go : Met b k j end (length (data_of j.asked)) c
        → ((j' : Job) → Under (turn b c).board (entry k (told b c)).book j' end
        → Passed (turn b c).board j' end (length (data_of j'.asked)) cs)
        → Passed b j end (length (data_of j.asked)) (c ∷ cs)
    go (goes p e lt u') rec =
        let n = length (data_of j.asked) in
        let z = rec (next_job j) u' in
        let more : steps_in n (c ∷ cs) ≡ suc (steps_in n cs) =
        ap (λ (t : Bool). cond t (suc (steps_in n cs)) (steps_in n cs)) p in
        let fewer : j.total - j.made ≡ suc (j.total - (j.made + 1)) = omega arith in
        record {
          answered =
              first_answer n b c cs C.made p e ∙ ap (λ (xs : List Answer). C.made ∷ xs) z.answered
              ∙ sym (ap₂ made_then_ended fewer more);
          left = λ q. z.left (omega arith);
          right = λ q. z.right (omega arith);
        }
    go (ends p e same u') rec =
        let n = length (data_of j.asked) in
        let z = rec j u' in
        let more : steps_in n (c ∷ cs) ≡ suc (steps_in n cs) =
        ap (λ (t : Bool). cond t (suc (steps_in n cs)) (steps_in n cs)) p in
        let none_left : j.total - j.made ≡ 0 = omega arith in
        record {
          answered =
              first_answer n b c cs C.ended p e ∙ ap (λ (xs : List Answer). C.ended ∷ xs) z.answered
              ∙ ap (λ (m : ℕ). C.ended ∷ made_then_ended m (steps_in n cs)) none_left
              ∙ sym (ap₂ made_then_ended none_left more);
          left = λ q. z.left (omega arith);
          right = λ q. z.right (omega arith);
        }
    go (waits p u') rec =
        let n = length (data_of j.asked) in
        let z = rec j u' in
        let same : steps_in n (c ∷ cs) ≡ steps_in n cs =
        ap (λ (t : Bool). cond t (suc (steps_in n cs)) (steps_in n cs)) p in
        record {
          answered =
              ap
              (λ (t : Bool).
              cond t ((turn b c).answer ∷ step_answers n (turn b c).board cs) (step_answers n (turn b c).board cs))
              p
              ∙ z.answered ∙ ap (made_then_ended (j.total - j.made)) (sym same);
          left = λ q. z.left (omega arith);
          right = λ q. z.right (omega arith);
        }
