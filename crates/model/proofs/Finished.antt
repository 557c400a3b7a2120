-- A walk stepped on to its end, with reads, refused beginnings and steps with data of another length in between.
-- In order: it is made exactly as many steps as are counted, then has ended; what a save leaves; what a format leaves.
-- Assumes nothing.
use Rattle.std.specs.Prelude.{Option, Some, None}
use Prim.Native.Nat.{ℕ, suc, ◌+◌, ◌-◌, ◌/◌, ◌≤◌}
use mathlib.Core.Path.{◌≡◌, refl, sym, ap, ap₂, subst, ◌∙◌}
use mathlib.Core.Bool.{Bool, false, cond}
use mathlib.Core.List.{List, [], ◌∷◌}
use native.Mathlib.Omega.{arith}
use lib.ListN.{length, drop, replicate}
use borrow.Author.Tests.{eq-eqb}
use Rattle.flash.specs.Flash.{Bytes, erasure}
use Rattle.pages.specs.declared.PageOffset.{PageOffset}
use Rattle.pages.specs.declared.State.TheVariants.{S0}
use Rattle.pages.specs.declared.Status.{Status}
use Rattle.pages.specs.Offsets.{image_size}
use Rattle.pages.specs.Pages.{live_of, status_of}
use Rattle.requests.specs.Numbers.{request_number, pages_number}
use Rattle.requests.specs.Legal.{Legal}
use Rattle.requests.proofs.Laws.{legal}
use Rattle.reads.specs.Reads.{read_part}
use Rattle.steps.specs.Steps.{Tried}
use Rattle.images.specs.Images.{live_image, or_blank, laid_in}
use Rattle.images.proofs.Laid.{laid_back}
use Rattle.plans.specs.declared.Entry.{Entry}
use Rattle.plans.specs.declared.Request.TheVariants.{Save, Format}
use Rattle.plans.specs.Counts.{step_count}
use Rattle.plans.specs.Plans.{settled}
use Rattle.plans.proofs.Counts.{bound}
use Rattle.plans.proofs.Shapes.{blank, at_blank}
use Rattle.plans.proofs.Good.{filler}
use Rattle.plans.proofs.Whole.{made_all, format_erases}
use Rattle.plans.proofs.Finish.{save_finishes}
use Rattle.walks.specs.declared.Walk.{Walk}
use Rattle.walks.specs.Walks as W
use Rattle.walks.specs.Walks.{source, first_walk, steps_of, beginning, begin_save, begin_format, wrong_numbers}
use Rattle.walks.proofs.Sizes.{steps_length}
use Rattle.model.specs.Calls.{Call, ByteCall, ByteCalls}
use Rattle.model.specs.Calls as C
use Rattle.model.specs.Board.{Hand, Board, after_begin, powered, turn, board_after}
use Rattle.model.specs.Book as B
use Rattle.model.specs.Book.{
  Asked,
  data_of,
  Job,
  Book,
  Entered,
  entered,
  opened,
  told,
  list_for,
  begin_number,
  job_of,
  begin_book,
  entry,
  book_after,
  hearing,
}
use Rattle.model.specs.Among.{AllLeave, steps_in, step_answers, made_then_ended}
use Rattle.model.proofs.Agree.{
  Walking,
  Hands,
  Agree,
  source_live,
  same_part,
  new_fits,
  begun_save,
  begun_format,
  follow,
}
use Rattle.model.proofs.Demand3.{opens, still_agree}
use Rattle.model.proofs.Decided.{same_list}
use Rattle.model.proofs.Shown.{book_image}
use Rattle.model.proofs.Among.{in_hand, Under, among}

-- ---- exact steps
-- the job of a walk in hand
job_of_lem : (b : Board) (k : Book) (h : Hand) → Agree b k → b.hand ≡ Some h → (j : Job) × (k.job ≡ Some j)
job_of_lem b k h a e = go k.job refl
  where
    go : (job : Option Job) → k.job ≡ job → (j : Job) × (k.job ≡ Some j)
    go None f =
        absurd (subst (λ (q : Option Job). Hands k.page k.image b.left b.right (Some h) q) f
        (subst (λ (q : Option Hand). Hands k.page k.image b.left b.right q k.job) e a.hands))
    go (Some j) f = (j, f)

-- how many steps its list has
counted_steps : (b : Board) (k : Book) (h : Hand) (j : Job) → Agree b k
    → (g : Walking k.page k.image b.left b.right h j)
    → step_count h.walk.request h.walk.start h.walk.erased (length b.left) ≡ j.total
counted_steps b k h j a g =
    let w = h.walk in
    let right : wrong_numbers w (length b.left) (length b.right) (length h.held) ≡ false =
    ap₂ (λ (m n : ℕ). wrong_numbers w m n (length h.held)) a.left a.right ∙ g.numbers in
    sym (steps_length w b.left b.right h.held right) ∙ ap length (same_list b k h j a g) ∙ sym g.total

-- from every board that calls reach: a walk in hand, stepped on with neither cut nor beginning that isn't refused,
-- answers 'made' once for each step that is counted and not yet made, then 'ended'; and the count keeps the bound
pub record Ends (b : Board) (h : Hand) : Type 0 where
  pub total : ℕ
  pub counted : total ≡ step_count h.walk.request h.walk.start h.walk.erased (length b.left)
  pub bounded : total ≤ (length b.left - 4) / 2 + 6
  pub within : h.walk.place ≤ total
  pub answered : (cs : List Call) → ByteCalls cs → AllLeave b cs
      → step_answers (length h.held) b cs ≡ made_then_ended (total - h.walk.place) (steps_in (length h.held) cs)

ends : (b : Board) (k : Book) (h : Hand) → Agree b k → b.hand ≡ Some h → Ends b h
ends b k h a e =
    let found = job_of_lem b k h a e in
    let j = found.0 in
    let w = h.walk in
    let g = in_hand b k h j a e found.1 in
    let n = step_count w.request w.start w.erased (length b.left) in
    let total : n ≡ j.total = counted_steps b k h j a g in
    let within : j.made ≤ length g.list = g.within in
    let size : j.total ≡ length g.list = g.total in
    let place : w.place ≡ j.made = g.place in
    let held : length h.held ≡ length (data_of j.asked) = ap length g.held in
    let walk : List Entry = steps_of w b.left b.right h.held in
    let under : Under b k j (made_all (drop w.place walk) b.left b.right) =
    record { hand = h; held = e; job = found.1; lands = refl } in
    record {
      total = n;
      counted = refl;
      bounded = bound w.request w.start w.erased (length b.left);
      within = omega arith;
      answered =
          λ cs y z.
          ap (λ (m : ℕ). step_answers m b cs) held
          ∙ (among b k j (made_all (drop w.place walk) b.left b.right) cs a y z under).answered
          ∙ (λ i. made_then_ended ((sym total i) - (sym place i)) (steps_in (sym held i) cs));
    }

pub exact_steps : (l r : List ℕ) (calls : List Call) (h : Hand) → pages_number (length l) (length r) ≡ 0 → Bytes l
    → Bytes r → ByteCalls calls → (board_after (powered l r) calls).hand ≡ Some h
    → Ends (board_after (powered l r) calls) h
exact_steps l r calls h e bl br bc f =
    ends (board_after (powered l r) calls) (book_after (opened l r) (hearing (powered l r) calls)) h
    (still_agree (powered l r) (opened l r) calls bc (opens l r e bl br)) f

-- ---- a request begun, and all its steps made
-- the board and the book after a beginning that isn't refused
record Started (b : Board) (k : Book) (c : Call) (asked : Asked) (w : Walk) : Type 0 where
  board : (turn b c).board
      ≡ (record { left = b.left; right = b.right; hand = Some (record { walk = w; held = data_of asked }) })
  book : (entry k (told b c)).book
      ≡ (record { page = k.page; image = k.image; job = Some (job_of asked (list_for asked b.left b.right)) })

-- all its steps made among other calls: the pages are those that its list leaves
reaches_end : (b : Board) (k : Book) (c : Call) (asked : Asked) (w : Walk) (cs : List Call) → Agree b k → ByteCall c
    → ByteCalls cs → Started b k c asked w
    → steps_of w b.left b.right (data_of asked) ≡ list_for asked b.left b.right → w.place ≡ 0
    → AllLeave (turn b c).board cs
    → length (list_for asked b.left b.right) ≤ steps_in (length (data_of asked)) cs
    → let end = made_all (list_for asked b.left b.right) b.left b.right in
    ((board_after (turn b c).board cs).left ≡ end.left) × ((board_after (turn b c).board cs).right ≡ end.right)
reaches_end b k c asked w cs a y ys s same first leave enough =
    let l = b.left in
    let r = b.right in
    let list = list_for asked l r in
    let end = made_all list l r in
    let k' = (entry k (told b c)).book in
    let h : Hand = record { walk = w; held = data_of asked } in
    let under : Under (turn b c).board k' (job_of asked list) end =
    subst (λ (z : Board). Under z k' (job_of asked list) end) (sym s.board)
    (record {
      hand = h;
      held = refl;
      job = ap (λ (z : Book). z.job) s.book;
      lands = ap₂ (λ (n : ℕ) (xs : List Entry). made_all (drop n xs) l r) first same;
    }) in
    let p = among (turn b c).board k' (job_of asked list) end cs (follow b k c y a).1 ys leave under in
    (p.left (omega arith), p.right (omega arith))

begun_board : (b : Board) (d : List ℕ) (n : ℕ) (w : Walk) → n ≡ 0
    → (after_begin b d (beginning n w)).board
    ≡ (record { left = b.left; right = b.right; hand = Some (record { walk = w; held = d }) })
begun_board b d n w e =
    ap (λ (t : Bool). (after_begin b d (cond t (W.begun w) (W.refused n))).board) (eq-eqb n 0 e)

begun_book : (k : Book) (n : ℕ) (asked : Asked) (list : List Entry) → n ≡ 0
    → (begin_book k n asked list).book ≡ (record { page = k.page; image = k.image; job = Some (job_of asked list) })
begun_book k n asked list e =
    ap
    (λ (t : Bool).
    (cond t
    (entered C.begun (record { page = k.page; image = k.image; job = Some (job_of asked list) }))
    (entered (C.number n) k)).book)
    (eq-eqb n 0 e)

starts_save : (b : Board) (k : Book) (o : PageOffset) (d : List ℕ) → Agree b k
    → request_number k.page k.page o (length d) 0 ≡ 0
    → Started b k (C.save o d) (B.save o d) (first_walk Save b.left b.right o (length d))
unfolding turn entry begin_save
starts_save b k o d a z =
    record {
      board =
          begun_board b d (request_number (length b.left) (length b.right) o (length d) 0)
          (first_walk Save b.left b.right o (length d))
          (ap₂ (λ (x y : ℕ). request_number x y o (length d) 0) a.left a.right ∙ z);
      book =
          begun_book k (request_number k.page k.page o (length d) 0) (B.save o d)
          (list_for (B.save o d) b.left b.right) z;
    }

starts_format : (b : Board) (k : Book) → Agree b k → pages_number k.page k.page ≡ 0
    → Started b k C.format B.format (first_walk Format b.left b.right (record { 0 = 4 }) 0)
unfolding turn entry begin_format
starts_format b k a z =
    record {
      board =
          begun_board b [] (pages_number (length b.left) (length b.right))
          (first_walk Format b.left b.right (record { 0 = 4 }) 0)
          (ap₂ pages_number a.left a.right ∙ z);
      book =
          begun_book k (pages_number k.page k.page) B.format (list_for B.format b.left b.right) z;
    }

-- ---- a finished save
-- the steps that a save of some data at an offset is counted on pages
abbrev pub save_steps : List ℕ → List ℕ → PageOffset → List ℕ → ℕ
save_steps l r o d =
    let w = first_walk Save l r o (length d) in step_count Save w.start w.erased (length l)

-- the old image with the data laid in, and the data read back; "the pair is now line 7 or line 3"
pub record FinishedSave (l r z y : List ℕ) (o : PageOffset) (d : List ℕ) : Type 0 where
  pub image : live_image z y ≡ Some (laid_in (or_blank (image_size (length l)) (live_image l r)) o d)
  pub read_back : read_part z y o (length d) ≡ d
  pub state : (status_of z y).state ≡ settled (live_of (status_of l r).state)

-- all steps of a save that was begun on a board, made among other calls
pub save_ends : (b : Board) (k : Book) (o : PageOffset) (d : List ℕ) (cs : List Call) → Agree b k → Bytes d
    → ByteCalls cs → request_number k.page k.page o (length d) 0 ≡ 0 → AllLeave (turn b (C.save o d)).board cs
    → save_steps b.left b.right o d ≤ steps_in (length d) cs
    → let end = board_after (turn b (C.save o d)).board cs in
    FinishedSave b.left b.right end.left end.right o d
unfolding board_after book_after hearing
save_ends b k o d cs a bd y z leave enough =
    let l = b.left in
    let r = b.right in
    let p = k.page in
    let v = live_of (status_of l r).state in
    let w = first_walk Save l r o (length d) in
    let c = C.save o d in
    let list = list_for (B.save o d) l r in
    let g = begun_save l r p o d a.bytes_left a.bytes_right bd a.left a.right z in
    let right : wrong_numbers w (length l) (length r) (length d) ≡ false =
    ap₂ (λ (x y : ℕ). wrong_numbers w x y (length d)) a.left a.right ∙ g.numbers in
    let size : length list ≡ save_steps l r o d = steps_length w l r d right in
    let there =
    reaches_end b k c (B.save o d) w cs a bd y (starts_save b k o d a z) refl refl leave (omega arith) in
    let legal_here = (legal p p o (length d) 0 z).0 in
    let here : Legal (length l) (length l) o (length d) =
    subst (λ (n : ℕ). Legal n n o (length d)) (sym a.left) legal_here in
    let base = or_blank (image_size (length l)) (source v (live_image l r)) in
    let f =
    new_fits v l r (length l) o d a.bytes_left a.bytes_right bd refl (a.right ∙ sym a.left) here in
    let saved = save_finishes l r (laid_in base o d) (status_of l r).state f.sized refl in
    let end = board_after b (c ∷ cs) in
    let kz = book_after k (hearing b (c ∷ cs)) in
    let agree : Agree end kz = still_agree b k (c ∷ cs) (bd, y) a in
    let image : live_image end.left end.right ≡ Some (laid_in base o d) =
    ap₂ live_image there.0 there.1 ∙ saved.image in
    let shown : kz.image ≡ Some (laid_in base o d) = sym agree.shows ∙ image in
    let number : B.read_book kz o (length d) ≡ 0 =
    ap₂ (λ (x : ℕ) (i : Option (List ℕ)). request_number x x o (length d) (B.image_number i))
    (book_image b k (c ∷ cs) (bd, y) a).0 shown
    ∙ z in
    record {
      image = image ∙ ap (λ (i : Option (List ℕ)). Some (laid_in (or_blank (image_size (length l)) i) o d))
          (source_live l r);
      read_back =
          same_part end kz o (length d) agree number
          ∙ ap (λ (i : Option (List ℕ)). B.asked_bytes i o (length d)) shown
          ∙ laid_back base o d here.in_image f.fit;
      state = ap₂ (λ (x y : List ℕ). (status_of x y).state) there.0 there.1 ∙ saved.state;
    }

pub finished_save : (l r : List ℕ) (calls : List Call) (o : PageOffset) (d : List ℕ) (cs : List Call)
    → pages_number (length l) (length r) ≡ 0 → Bytes l → Bytes r → ByteCalls calls → Bytes d → ByteCalls cs
    → request_number (length l) (length l) o (length d) 0 ≡ 0
    → let b = board_after (powered l r) calls in
    let begun = (turn b (C.save o d)).board in
    AllLeave begun cs → save_steps b.left b.right o d ≤ steps_in (length d) cs
    → FinishedSave b.left b.right (board_after begun cs).left (board_after begun cs).right o d
finished_save l r calls o d cs e bl br bc bd y z leave enough =
    let b = board_after (powered l r) calls in
    let k = book_after (opened l r) (hearing (powered l r) calls) in
    let first = opens l r e bl br in
    let page : k.page ≡ length l = (book_image (powered l r) (opened l r) calls bc first).0 in
    save_ends b k o d cs (still_agree (powered l r) (opened l r) calls bc first) bd y
    (ap (λ (p : ℕ). request_number p p o (length d) 0) page ∙ z) leave enough

-- ---- a finished format: "both pages" are erased
abbrev pub format_steps : List ℕ → List ℕ → ℕ
format_steps l r =
    let w = first_walk Format l r (record { 0 = 4 }) 0 in step_count Format w.start w.erased (length l)

pub record FinishedFormat (l r z y : List ℕ) : Type 0 where
  pub left : z ≡ erasure l
  pub right : y ≡ erasure r
  pub state : (status_of z y).state ≡ S0

erased_blank : (l : List ℕ) → 4 ≤ length l → erasure l ≡ blank (filler (length l - 4))
unfolding erasure
erased_blank l h =
    let e : length l ≡ suc (suc (suc (suc (length l - 4)))) = omega arith in ap (λ (n : ℕ). replicate n 255) e

format_ends : (b : Board) (k : Book) (cs : List Call) → Agree b k → ByteCalls cs → pages_number k.page k.page ≡ 0
    → AllLeave (turn b C.format).board cs → format_steps b.left b.right ≤ steps_in 0 cs
    → let end = board_after (turn b C.format).board cs in
    FinishedFormat b.left b.right end.left end.right
format_ends b k cs a y z leave enough =
    let l = b.left in
    let r = b.right in
    let p = k.page in
    let w = first_walk Format l r (record { 0 = 4 }) 0 in
    let list = list_for B.format l r in
    let g = begun_format l r p a.bytes_left a.bytes_right a.left a.right a.page in
    let right : wrong_numbers w (length l) (length r) 0 ≡ false =
    ap₂ (λ (x y : ℕ). wrong_numbers w x y 0) a.left a.right ∙ g.numbers in
    let size : length list ≡ format_steps l r = steps_length w l r [] right in
    let there = reaches_end b k C.format B.format w cs a tt y (starts_format b k a z) refl refl leave (omega arith) in
    let longLeft : 4 ≤ length l = omega (arith, a.left, a.page.least) in
    let longRight : 4 ≤ length r = omega (arith, a.right, a.page.least) in
    let erases = format_erases (status_of l r).state l r longRight in
    let left = there.0 ∙ ap (λ (t : Tried). t.left) erases in
    let right = there.1 ∙ ap (λ (t : Tried). t.right) erases in
    record {
      left = left;
      right = right;
      state =
          ap₂ (λ (x y : List ℕ). (status_of x y).state) (left ∙ erased_blank l longLeft) (right
          ∙ erased_blank r longRight)
          ∙ ap (λ (s : Status). s.state) (at_blank (filler (length l - 4)) (filler (length r - 4)));
    }

pub finished_format : (l r : List ℕ) (calls : List Call) (cs : List Call)
    → pages_number (length l) (length r) ≡ 0 → Bytes l → Bytes r → ByteCalls calls → ByteCalls cs
    → let b = board_after (powered l r) calls in
    let begun = (turn b C.format).board in
    AllLeave begun cs → format_steps b.left b.right ≤ steps_in 0 cs
    → FinishedFormat b.left b.right (board_after begun cs).left (board_after begun cs).right
finished_format l r calls cs e bl br bc y leave enough =
    let b = board_after (powered l r) calls in
    let k = book_after (opened l r) (hearing (powered l r) calls) in
    let first = opens l r e bl br in
    let page : k.page ≡ length l = (book_image (powered l r) (opened l r) calls bc first).0 in
    let same : length l ≡ length r = sym first.right in
    format_ends b k cs (still_agree (powered l r) (opened l r) calls bc first) y
    (ap (λ (p : ℕ). pages_number p p) page ∙ ap (pages_number (length l)) same ∙ e) leave enough
