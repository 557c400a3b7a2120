-- What reads show: the image at first with the requests that were decided on the board since, one after another.
-- In order: an empty list; a call; a sequence; both reads.
-- Assumes nothing.
use Rattle.std.specs.Prelude.{Option, Some, None}
use Rattle.pages.specs.declared.Side.{Side}
use Prim.Native.Nat.{ℕ, ◌+◌}
use mathlib.Core.Path.{◌≡◌, refl, sym, ap, ap₂, ◌∙◌}
use mathlib.Core.Bool.{Bool, true, false, cond, not, ◌&&◌}
use mathlib.Core.List.{List, [], ◌∷◌, ◌++◌}
use native.Mathlib.Omega.{arith}
use lib.Dec.{eqb}
use lib.ListN.{length}
use borrow.Author.Tests.{eqb-true}
use Rattle.flash.specs.Flash.{Bytes}
use Rattle.pages.specs.declared.PageOffset.{PageOffset}
use Rattle.pages.specs.declared.State.{State}
use Rattle.pages.specs.declared.State.TheVariants.{S0, S1, S2, S3, S5, S6, S7, S8, S9, S10}
use Rattle.pages.specs.Pages.{live_of, status_of}
use Rattle.pages.proofs.Table.{status_live}
use Rattle.requests.specs.Numbers.{request_number, pages_number}
use Rattle.reads.specs.Reads.{output_after}
use Rattle.images.specs.Images.{image_on, live_image}
use Rattle.plans.specs.declared.Request.TheVariants.{Save, Format}
use Rattle.plans.specs.Plans.{formatting}
use Rattle.plans.specs.Counts.{step_count}
use Rattle.walks.specs.Walks.{first_walk, wrong_numbers}
use Rattle.walks.proofs.Sizes.{steps_length}
use Rattle.model.specs.Calls.{Call, ByteCall, ByteCalls}
use Rattle.model.specs.Calls as C
use Rattle.model.specs.Board.{Board, part_read, powered, turn, board_after}
use Rattle.model.specs.Book as B
use Rattle.model.specs.Book.{
  Asked,
  data_of,
  Job,
  Book,
  Entered,
  entered,
  opened,
  told,
  list_for,
  begin_number,
  effect,
  next_job,
  step_book,
  entry,
  book_after,
  hearing,
  effects,
}
use Rattle.model.specs.Decided.{decides, decided}
use Rattle.model.proofs.Agree.{Agree, begun_save, same_read, same_output, follow}
use Rattle.model.proofs.Demand3.{opens, still_agree}
use Rattle.model.proofs.Decided.{same_decided}

-- ---- an empty list: what the request leaves stands already
-- "its effect .. then counts as reached when it is begun": a save has steps, a format has none only at line 0
empty_format : (st : State) (erased : Bool) → length (formatting st erased) ≡ 0 → st ≡ S0
unfolding formatting
empty_format S0 erased e = refl
empty_format S1 erased e = absurd (omega (arith, e))
empty_format S2 erased e = absurd (omega (arith, e))
empty_format S3 erased e = absurd (omega (arith, e))
empty_format S5 erased e = absurd (omega (arith, e))
empty_format S6 erased e = absurd (omega (arith, e))
empty_format S7 erased e = absurd (omega (arith, e))
empty_format S8 erased e = absurd (omega (arith, e))
empty_format S9 erased e = absurd (omega (arith, e))
empty_format S10 erased e = absurd (omega (arith, e))

no_image_lem : (l r : List ℕ) → (status_of l r).state ≡ S0 → live_image l r ≡ None
unfolding live_image live_of
no_image_lem l r e = ap (λ (v : Option Side). image_on v l r) (status_live l r ∙ ap live_of e)

reached : (b : Board) (k : Book) (asked : Asked) → Agree b k → begin_number k.page asked ≡ 0
    → Bytes (data_of asked) → length (list_for asked b.left b.right) ≡ 0
    → k.image ≡ effect k.page asked k.image
reached b k (B.save o d) a z bd e =
    let l = b.left in
    let r = b.right in
    let w = first_walk Save l r o (length d) in
    let g = begun_save l r k.page o d a.bytes_left a.bytes_right bd a.left a.right z in
    let right : wrong_numbers w (length l) (length r) (length d) ≡ false =
    ap₂ (λ (x y : ℕ). wrong_numbers w x y (length d)) a.left a.right ∙ g.numbers in
    let size : length (list_for (B.save o d) l r) ≡ step_count Save w.start w.erased (length l) =
    steps_length w l r d right in
    absurd (omega (arith, size, e, a.page.least, a.left))
reached b k B.format a z bd e =
    let l = b.left in
    let r = b.right in
    let w = first_walk Format l r (record { 0 = 4 }) 0 in
    sym a.shows ∙ no_image_lem l r (empty_format w.start w.erased e)

-- ---- a call: the page size stays, and the image changes by what is decided
abbrev FollowsOn : Book → Entered → List Asked → Type 0
FollowsOn k e xs = (e.book.page ≡ k.page) × (e.book.image ≡ effects k.page k.image xs)

begin_image : (b : Board) (k : Book) (asked : Asked) → Agree b k → Bytes (data_of asked)
    → let list = list_for asked b.left b.right in
    let number = begin_number k.page asked in
    FollowsOn k (B.begin_book k number asked list) (B.begin_commits number asked list)
unfolding effects
begin_image b k asked a bd =
    go (eqb (begin_number k.page asked) 0) refl (eqb (length (list_for asked b.left b.right)) 0) refl
  where
    go : (s : Bool) → eqb (begin_number k.page asked) 0 ≡ s → (t : Bool)
        → eqb (length (list_for asked b.left b.right)) 0 ≡ t
        → FollowsOn k
        (cond s
        (entered C.begun
        (record {
          page = k.page;
          image = k.image;
          job = Some (B.job_of asked (list_for asked b.left b.right));
        }))
        (entered (C.number (begin_number k.page asked)) k))
        (cond (s && t) (asked ∷ []) [])
    go true p true q = (
      refl,
      reached b k asked a (eqb-true (begin_number k.page asked) 0 p) bd
          (eqb-true (length (list_for asked b.left b.right)) 0 q),
    )
    go true p false q = (refl, refl)
    go false p t q = (refl, refl)

step_image : (k : Book) (job : Option Job) (d : List ℕ) → FollowsOn k (step_book k job d) (B.step_commits job d)
unfolding effects
step_image k None d = (refl, refl)
step_image k (Some j) d =
    go (eqb (length d) (length (data_of j.asked))) (eqb j.total j.made) (eqb (j.made + 1) j.commit)
  where
    go : (s t u : Bool)
        → FollowsOn k
        (cond (not s) (entered (C.number 6) k)
        (cond t (entered C.ended k)
        (entered C.made
        (record {
          page = k.page;
          image = cond u (effect k.page j.asked k.image) k.image;
          job = Some (next_job j);
        }))))
        (cond (s && not t && u) (j.asked ∷ []) [])
    go false t u = (refl, refl)
    go true true u = (refl, refl)
    go true false true = (refl, refl)
    go true false false = (refl, refl)

call_image : (b : Board) (k : Book) (c : Call) → ByteCall c → Agree b k
    → FollowsOn k (entry k (told b c)) (B.commits k (told b c))
unfolding entry effects
call_image b k (C.save o d) y a = begin_image b k (B.save o d) a y
call_image b k C.format y a = begin_image b k B.format a tt
call_image b k (C.step d) y a = step_image k k.job d
call_image b k (C.read o n) y a = (refl, refl)
call_image b k (C.read_into o out) y a = (refl, refl)
call_image b k C.cut y a = (refl, refl)

-- ---- a sequence
effects_append : (p : ℕ) (image : Option (List ℕ)) (xs ys : List Asked)
    → effects p image (xs ++ ys) ≡ effects p (effects p image xs) ys
unfolding effects
effects_append p image [] ys = refl
effects_append p image (x ∷ xs) ys = effects_append p (effect p x image) xs ys

pub book_image : (b : Board) (k : Book) (cs : List Call) → ByteCalls cs → Agree b k
    → ((book_after k (hearing b cs)).page ≡ k.page)
    × ((book_after k (hearing b cs)).image ≡ effects k.page k.image (decided b cs))
unfolding book_after hearing decided effects
book_image b k [] y a = (refl, refl)
book_image b k (c ∷ cs) y a =
    let f = call_image b k c y.0 a in
    let b' = (turn b c).board in
    let k' = (entry k (told b c)).book in
    let g = book_image b' k' cs y.1 (follow b k c y.0 a).1 in
    let here : k'.image ≡ effects k.page k.image (decides b c) =
    f.1 ∙ ap (effects k.page k.image) (sym (same_decided b k c y.0 a)) in (
      g.0 ∙ f.0,
      g.1 ∙ ap₂ (λ (p : ℕ) (i : Option (List ℕ)). effects p i (decided b' cs)) f.0 here
          ∙ sym (effects_append k.page k.image (decides b c) (decided b' cs)),
    )

-- the image after a sequence of calls
abbrev pub image_after : List ℕ → List ℕ → List Call → Option (List ℕ)
image_after l r calls = effects (length l) (live_image l r) (decided (powered l r) calls)

pub decided_image : (l r : List ℕ) (calls : List Call) → pages_number (length l) (length r) ≡ 0 → Bytes l → Bytes r
    → ByteCalls calls
    → live_image (board_after (powered l r) calls).left (board_after (powered l r) calls).right ≡ image_after l r calls
decided_image l r calls e bl br bc =
    let a = opens l r e bl br in
    (still_agree (powered l r) (opened l r) calls bc a).shows ∙ (book_image (powered l r) (opened l r) calls bc a).1

-- ---- both reads of it
pub decided_read : (l r : List ℕ) (calls : List Call) (o : PageOffset) (n : ℕ) → pages_number (length l) (length r) ≡ 0
    → Bytes l → Bytes r → ByteCalls calls
    → let i = image_after l r calls in
    (turn (board_after (powered l r) calls) (C.read o n)).answer
    ≡ part_read (request_number (length l) (length l) o n (B.image_number i)) (B.asked_bytes i o n)
unfolding turn
decided_read l r calls o n e bl br bc =
    let b = board_after (powered l r) calls in
    let k = book_after (opened l r) (hearing (powered l r) calls) in
    let a = opens l r e bl br in
    let f = book_image (powered l r) (opened l r) calls bc a in
    same_read b k o n (still_agree (powered l r) (opened l r) calls bc a)
    ∙ ap₂
    (λ (p : ℕ) (i : Option (List ℕ)). part_read (request_number p p o n (B.image_number i)) (B.asked_bytes i o n))
    f.0 f.1

pub decided_copy : (l r : List ℕ) (calls : List Call) (o : PageOffset) (out : List ℕ)
    → pages_number (length l) (length r) ≡ 0 → Bytes l → Bytes r → ByteCalls calls
    → let i = image_after l r calls in
    let n = request_number (length l) (length l) o (length out) (B.image_number i) in
    (turn (board_after (powered l r) calls) (C.read_into o out)).answer
    ≡ C.output n (output_after n (B.asked_bytes i o (length out)) out)
unfolding turn
decided_copy l r calls o out e bl br bc =
    let b = board_after (powered l r) calls in
    let k = book_after (opened l r) (hearing (powered l r) calls) in
    let a = opens l r e bl br in
    let f = book_image (powered l r) (opened l r) calls bc a in
    same_output b k o out (still_agree (powered l r) (opened l r) calls bc a)
    ∙ ap₂
    (λ (p : ℕ) (i : Option (List ℕ)).
    let n = request_number p p o (length out) (B.image_number i) in
    C.output n (output_after n (B.asked_bytes i o (length out)) out)) f.0 f.1
