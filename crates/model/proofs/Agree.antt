-- What the board and the book have in common at every moment, and that each call keeps it and is answered alike.
-- In order: a walk in hand and its job; the board and the book; reads; beginning; stepping; each call.
-- Assumes nothing.
use Rattle.std.specs.Prelude.{Option, Some, None}
use Prim.Native.Nat.{ℕ, suc, ◌+◌, ◌-◌, ◌<◌, ◌≤◌}
use mathlib.Core.Path.{◌≡◌, refl, sym, ap, ap₂, subst, ◌∙◌}
use mathlib.Core.Bool.{Bool, true, false, cond, not, ◌||◌}
use mathlib.Core.List.{List, [], ◌∷◌}
use native.Mathlib.Numerals.{add-one, lt_of_le_of_ne}
use native.Mathlib.Omega.{arith}
use lib.Dec.{eqb}
use lib.ListN.{length, get_or, take, drop}
use lib.Seq.{drop-cons, drop-drop, drop-nil, take-nil}
use borrow.Author.Tests.{eqb-true, eqb-false, eq-eqb, ne_eqb, le-ltb}
use Rattle.flash.specs.Flash.{Bytes}
use Rattle.pages.specs.declared.Side.{Side}
use Rattle.pages.specs.declared.Side.TheVariants.{Left, Right}
use Rattle.pages.specs.declared.PageOffset.{PageOffset}
use Rattle.pages.specs.Pages.{on_side, live_of, status_of}
use Rattle.pages.specs.Offsets.{image_of, image_size}
use Rattle.pages.proofs.Table.{status_live}
use Rattle.requests.specs.Numbers.{request_number, pages_number}
use Rattle.requests.specs.Legal.{RightPages, Legal}
use Rattle.requests.proofs.Laws.{legal, legal_none}
use Rattle.reads.specs.Reads.{live_number, live_page, read_number, read_part, output_after, filled}
use Rattle.steps.specs.Steps.{tried}
use Rattle.images.specs.Images.{image_on, live_image, or_blank, laid_in}
use Rattle.images.proofs.Laid.{asked_at, length_laid, laid_twice}
use Rattle.plans.specs.declared.Entry.{Entry}
use Rattle.plans.specs.declared.Request.TheVariants.{Save, Format}
use Rattle.walks.specs.declared.Walk.{Walk}
use Rattle.plans.specs.Plans.{plan, meets, nothing}
use Rattle.walks.proofs.Sizes.{base_length, right_numbers}
use Rattle.walks.specs.Walks as W
use Rattle.tries.specs.Tries.{attempt}
use Rattle.walks.specs.Walks.{
  source,
  new_image,
  steps_of,
  first_walk,
  beginning,
  begin_save,
  begin_format,
  wrong_format,
  wrong_numbers,
  advanced,
  kept,
  after,
  stepped,
  step_of,
}
use Rattle.model.specs.Calls.{Call, ByteCall}
use Rattle.model.specs.Calls as C
use Rattle.model.specs.Board.{Hand, Board, Turn, after_begin, after_step, step_hand, part_read, turn}
use Rattle.model.specs.Book.{
  Asked,
  save,
  format,
  data_of,
  Job,
  Book,
  Entered,
  entered,
  list_for,
  commit_place,
  job_of,
  begin_book,
  effect,
  one_more,
  step_book,
  image_number,
  read_book,
  asked_bytes,
  told,
  entry,
}
use Rattle.plans.proofs.Bytes.{bytes_drop, bytes_blank, bytes_laid, tried_keeps}
use Rattle.plans.proofs.Good.{MaybeImage, switch, Good, good_shows}
use Rattle.plans.proofs.Begins.{Sized, good_save, good_format}
use Rattle.model.specs.Decided.{asked_of}
use Rattle.model.proofs.Once.{decides, once_plan}

-- ---- a walk in hand and its job, on pages of length p that show an image
-- the list of a walk's steps where a read shows an image
abbrev pub list_at : Walk → List ℕ → MaybeImage → List Entry
list_at w d image =
    plan w.request w.start w.erased (new_image (live_of w.start) w.page w.offset d image)

-- 1. The list is the same while a read shows the image now and when it shows the one then.
-- 2. The request's effect makes the one then of either.
-- 3. The rest of the list is Good, and decides where the job says.
pub record Walking (p : ℕ) (current : MaybeImage) (l r : List ℕ) (h : Hand) (j : Job) : Type 0 where
  pub list : List Entry
  pub then : MaybeImage
  pub asks : asked_of h ≡ j.asked
  pub held : h.held ≡ data_of j.asked
  pub numbers : wrong_numbers h.walk p p (length h.held) ≡ false
  pub place : h.walk.place ≡ j.made
  pub within : j.made ≤ length list
  pub total : j.total ≡ length list
  pub flags : (k : ℕ) → k < length list → (get_or list k nothing).commits ≡ eqb (k + 1) j.commit
  pub now_list : list_at h.walk h.held current ≡ list
  pub then_list : list_at h.walk h.held then ≡ list
  pub now_effect : effect p j.asked current ≡ then
  pub then_effect : effect p j.asked then ≡ then
  pub good : Good current then (drop j.made list) l r

abbrev pub Hands : ℕ → MaybeImage → List ℕ → List ℕ → Option Hand → Option Job → Type 0
Hands p current l r None None = Unit {0}
Hands p current l r None (Some j) = ⊥
Hands p current l r (Some h) None = ⊥
Hands p current l r (Some h) (Some j) = Walking p current l r h j

-- ---- the board and the book
pub record Agree (b : Board) (k : Book) : Type 0 where
  pub page : RightPages k.page k.page
  pub left : length b.left ≡ k.page
  pub right : length b.right ≡ k.page
  pub bytes_left : Bytes b.left
  pub bytes_right : Bytes b.right
  pub shows : live_image b.left b.right ≡ k.image
  pub hands : Hands k.page k.image b.left b.right b.hand k.job

-- ---- reads
live_number_lem : (v : Option Side) (l r : List ℕ) → live_number v ≡ image_number (image_on v l r)
live_number_lem None l r = refl
live_number_lem (Some s) l r = refl

pub same_number : (b : Board) (k : Book) (o : PageOffset) (n : ℕ) → Agree b k → read_number b.left
    b.right o n ≡ read_book k o n
unfolding read_number live_image
same_number b k o n a =
    let rest : live_number (status_of b.left b.right).live ≡ image_number k.image =
    live_number_lem (status_of b.left b.right).live b.left b.right ∙ ap image_number a.shows in
    λ i. request_number (a.left i) (a.right i) o n (rest i)

-- a legal read's bytes, counted from the page and from the image
same_bytes : (v : Option Side) (l r : List ℕ) (o : PageOffset) (n : ℕ) → 4 ≤ o.0
    → take n (drop o.0 (live_page v l r)) ≡ asked_bytes (image_on v l r) o n
same_bytes None l r o n h = ap (take n) (drop-nil o.0) ∙ take-nil n
same_bytes (Some s) l r o n h =
    let e : o.0 ≡ 4 + (o.0 - 4) = omega arith in
    ap (take n)
    (ap (λ (k : ℕ). drop k (on_side s l r)) e ∙ sym (drop-drop (o.0 - 4) 4 (on_side s l r))
    ∙ sym (asked_at (image_of (on_side s l r)) o h))

pub same_part : (b : Board) (k : Book) (o : PageOffset) (n : ℕ) → Agree b k → read_book k o n ≡ 0
    → read_part b.left b.right o n ≡ asked_bytes k.image o n
unfolding read_part live_image
same_part b k o n a z =
    let m : read_number b.left b.right o n ≡ 0 = same_number b k o n a ∙ z in
    let h = (legal k.page k.page o n (image_number k.image) z).0 in
    ap (λ (t : Bool). cond t (take n (drop o.0 (live_page (status_of b.left b.right).live b.left
    b.right))) [])
    (eq-eqb (read_number b.left b.right o n) 0 m)
    ∙ same_bytes (status_of b.left b.right).live b.left b.right o n h.in_image
    ∙ ap (λ (i : MaybeImage). asked_bytes i o n) a.shows

-- what is made of the bytes only where no number is given
where_none : {A : Type 0} (n : ℕ) (f : List ℕ → A) (other : A) (x y : List ℕ) → (n ≡ 0 → x ≡ y)
    → cond (eqb n 0) (f x) other ≡ cond (eqb n 0) (f y) other
where_none n f other x y h = go (eqb n 0) refl
  where
    go : (t : Bool) → eqb n 0 ≡ t → cond t (f x) other ≡ cond t (f y) other
    go true q = ap f (h (eqb-true n 0 q))
    go false q = refl

pub same_read : (b : Board) (k : Book) (o : PageOffset) (n : ℕ) → Agree b k
    → part_read (read_number b.left b.right o n) (read_part b.left b.right o n)
    ≡ part_read (read_book k o n) (asked_bytes k.image o n)
same_read b k o n a =
    ap (λ (m : ℕ). part_read m (read_part b.left b.right o n)) (same_number b k o n a)
    ∙ where_none (read_book k o n) C.bytes (C.number (read_book k o n)) (read_part b.left b.right o n)
    (asked_bytes k.image o n) (same_part b k o n a)

pub same_output : (b : Board) (k : Book) (o : PageOffset) (out : List ℕ) → Agree b k
    → C.output (filled b.left b.right o out).number (filled b.left b.right o out).bytes
    ≡ C.output (read_book k o (length out))
    (output_after (read_book k o (length out)) (asked_bytes k.image o (length out)) out)
unfolding filled output_after
same_output b k o out a =
    let n = length out in
    let part = read_part b.left b.right o n in
    ap (λ (m : ℕ). C.output m (output_after m part out)) (same_number b k o n a)
    ∙ ap (C.output (read_book k o n))
    (where_none (read_book k o n) (λ (x : List ℕ). x) _ part (asked_bytes k.image o n) (same_part b k o n a))

-- ---- beginning
-- the live image is made from exactly if a page is live
pub source_live : (l r : List ℕ) → source (live_of (status_of l r).state) (live_image l r) ≡ live_image l r
unfolding live_image
source_live l r =
    ap (λ (v : Option Side). source v (image_on (status_of l r).live l r)) (sym (status_live l r))
    ∙ go (status_of l r).live
  where
    go : (v : Option Side) → source v (image_on v l r) ≡ image_on v l r
    go None = refl
    go (Some s) = refl

-- the image that data is laid into is bytes
side_bytes : (s : Side) (l r : List ℕ) → Bytes l → Bytes r → Bytes (drop 4 (on_side s l r))
side_bytes Left l r h k = bytes_drop 4 l h
side_bytes Right l r h k = bytes_drop 4 r k

base_bytes : (v u : Option Side) (l r : List ℕ) (n : ℕ) → Bytes l → Bytes r → Bytes (or_blank n (source v (image_on u l r)))
base_bytes None u l r n h k = bytes_blank n
base_bytes (Some s) None l r n h k = bytes_blank n
base_bytes (Some s) (Some t) l r n h k = side_bytes t l r h k

-- and as long as the pages are after the management bytes
pub record Based (p : ℕ) (image : List ℕ) : Type 0 where
  pub bytes : Bytes image
  pub size : length image ≡ image_size p

pub based : (v : Option Side) (l r : List ℕ) (p : ℕ) → Bytes l → Bytes r → length l ≡ p → length r ≡ p
    → Based p (or_blank (image_size p) (source v (live_image l r)))
unfolding live_image
based v l r p h k e f =
    record {
      bytes = base_bytes v (status_of l r).live l r (image_size p) h k;
      size = base_length v (status_of l r).live l r p e f;
    }

-- a list made from the new image is the one made from the old one
again : (v : Option Side) (n : ℕ) (o : PageOffset) (d : List ℕ) (image : MaybeImage) → 4 ≤ o.0
    → o.0 + length d ≤ 4 + length (or_blank n (source v image))
    → laid_in (or_blank n (source v (Some (laid_in (or_blank n (source v image)) o d)))) o d
    ≡ laid_in (or_blank n (source v image)) o d
again None n o d image h k = refl
again (Some s) n o d image h k = laid_twice (or_blank n image) o d h k

numbers_right : (w : Walk) (p n : ℕ) → request_number p p w.offset w.len 0 ≡ 0 → w.page ≡ p → w.len ≡ n
    → wrong_format w.request w.offset w.len ≡ false → wrong_numbers w p p n ≡ false
unfolding wrong_numbers
numbers_right w p n z e f g =
    simp (
      eq-eqb (request_number p p w.offset w.len 0) 0 z,
      eq-eqb p w.page (sym e),
      eq-eqb n w.len (sym f),
      g,
    )

-- the new image of a legal save, and the pages it is for
pub record Fits (l r : List ℕ) (p : ℕ) (o : PageOffset) (d base : List ℕ) : Type 0 where
  pub fit : o.0 + length d ≤ 4 + length base
  pub sized : Sized l r (laid_in base o d)

pub new_fits : (v : Option Side) (l r : List ℕ) (p : ℕ) (o : PageOffset) (d : List ℕ) → Bytes l → Bytes r → Bytes d
    → length l ≡ p → length r ≡ p → Legal p p o (length d)
    → Fits l r p o d (or_blank (image_size p) (source v (live_image l r)))
new_fits v l r p o d bl br bd el er h =
    let base = or_blank (image_size p) (source v (live_image l r)) in
    let ok : Based p base = based v l r p bl br el er in
    let size : length base ≡ image_size p = ok.size in
    let fit : o.0 + length d ≤ 4 + length base = omega (arith, h.ends, h.in_image) in
    let newSize : length (laid_in base o d) ≡ length base = length_laid base o d h.in_image fit in
    record {
      fit = fit;
      sized =
          record {
            bytes_left = bl;
            bytes_right = br;
            bytes_new = bytes_laid base o d ok.bytes bd;
            left = omega (arith, h.least);
            right = omega (arith, h.least);
            even = omega (arith, h.even_page, h.least);
          };
    }

pub begun_save : (l r : List ℕ) (p : ℕ) (o : PageOffset) (d : List ℕ) → Bytes l → Bytes r → Bytes d → length l ≡ p
    → length r ≡ p → request_number p p o (length d) 0 ≡ 0
    → Walking p (live_image l r) l r
    (record { walk = first_walk Save l r o (length d); held = d })
    (job_of (save o d) (list_for (save o d) l r))
begun_save l r p o d bl br bd el er z =
    let h : Legal p p o (length d) = (legal p p o (length d) 0 z).0 in
    let st = (status_of l r).state in
    let v = live_of st in
    let w = first_walk Save l r o (length d) in
    let base = or_blank (image_size p) (source v (live_image l r)) in
    let same : base ≡ or_blank (image_size p) (live_image l r) = ap (or_blank (image_size p)) (source_live l r) in
    let f : Fits l r p o d base = new_fits v l r p o d bl br bd el er h in
    let new = laid_in base o d in
    let list = plan Save st w.erased new in
    let from : (i : MaybeImage) → list_at w d i ≡ plan Save st w.erased (new_image v p o d i) =
    λ i. ap (λ (k : ℕ). plan Save st w.erased (new_image v k o d i)) el in
    record {
      list = list;
      then = Some new;
      asks = refl;
      held = refl;
      numbers = numbers_right w p (length d) z el refl refl;
      place = refl;
      within = omega arith;
      total = ap length (from (live_image l r));
      flags =
          λ k q.
          decides list k (once_plan Save st w.erased new) q
          ∙ ap (λ (x : List Entry). eqb (k + 1) (commit_place x)) (sym (from (live_image l r)));
      now_list = from (live_image l r);
      then_list =
          from (Some new)
          ∙ ap (plan Save st w.erased) (again v (image_size p) o d (live_image l r) h.in_image f.fit);
      now_effect = ap (λ (x : List ℕ). Some (laid_in x o d)) (sym same);
      then_effect = ap Some (laid_twice base o d h.in_image f.fit);
      good = good_save l r new st f.sized refl;
    }

pub begun_format : (l r : List ℕ) (p : ℕ) → Bytes l → Bytes r → length l ≡ p → length r ≡ p → RightPages p p
    → Walking p (live_image l r) l r
    (record { walk = first_walk Format l r (record { 0 = 4 }) 0; held = [] })
    (job_of format (list_for format l r))
begun_format l r p bl br el er h =
    let st = (status_of l r).state in
    let w = first_walk Format l r (record { 0 = 4 }) 0 in
    let None-given : request_number p p (record { 0 = 4 }) 0 0 ≡ 0 =
    legal_none p p (record { 0 = 4 }) 0 0
    (record {
      same = refl;
      even_page = h.even_page;
      least = h.least;
      most = h.most;
      even_offset = refl;
      even_length = refl;
      in_image = omega arith;
      starts = omega (arith, h.least);
      ends = omega (arith, h.least);
    }) in
    record {
      list = list_for format l r;
      then = None;
      asks = refl;
      held = refl;
      numbers = numbers_right w p 0 None-given el refl refl;
      place = refl;
      within = omega arith;
      total = refl;
      flags = λ k q. decides (list_for format l r) k (once_plan Format st w.erased []) q;
      now_list = refl;
      then_list = refl;
      now_effect = refl;
      then_effect = refl;
      good = good_format l r st (p - 4) br (omega (arith, h.least)) (omega (arith, h.least)) refl;
    }

-- a beginning on the board and in the book, from the walk that it would give
abbrev Follows : Board → Book → Call → Type 0
Follows b k c =
    ((turn b c).answer ≡ (entry k (told b c)).answer) × Agree (turn b c).board (entry k (told b c)).book

abbrev Alike : Turn → Entered → Type 0
Alike t e = (t.answer ≡ e.answer) × Agree t.board e.book

take_up : (b : Board) (k : Book) (asked : Asked) (w : Walk) (list : List Entry) (m n : ℕ) → Agree b k → m ≡ n
    → (n ≡ 0
    → Walking k.page k.image b.left b.right (record { walk = w; held = data_of asked }) (job_of asked list))
    → Alike (after_begin b (data_of asked) (beginning m w)) (begin_book k n asked list)
take_up b k asked w list m n a e f = go (eqb m 0) (eqb n 0) refl refl
  where
    go : (s t : Bool) → eqb m 0 ≡ s → eqb n 0 ≡ t
        → Alike (after_begin b (data_of asked) (cond s (W.begun w) (W.refused m)))
        (cond t
        (entered C.begun (record { page = k.page; image = k.image; job = Some (job_of asked list) }))
        (entered (C.number n) k))
    go true true p q = (
      refl,
      record {
        page = a.page;
        left = a.left;
        right = a.right;
        bytes_left = a.bytes_left;
        bytes_right = a.bytes_right;
        shows = a.shows;
        hands = f (eqb-true n 0 q);
      },
    )
    go true false p q = absurd (eqb-false n 0 q (sym e ∙ eqb-true m 0 p))
    go false true p q = absurd (eqb-false m 0 p (e ∙ eqb-true n 0 q))
    go false false p q = (ap C.number e, a)

pub follow_save : (b : Board) (k : Book) (o : PageOffset) (d : List ℕ) → Bytes d → Agree b k → Follows b k (C.save o d)
unfolding turn entry begin_save
follow_save b k o d bd a =
    take_up b k (save o d) (first_walk Save b.left b.right o (length d))
    (list_for (save o d) b.left b.right)
    (request_number (length b.left) (length b.right) o (length d) 0)
    (request_number k.page k.page o (length d) 0) a
    (ap₂ (λ (p q : ℕ). request_number p q o (length d) 0) a.left a.right)
    (λ z.
    subst
    (λ (i : MaybeImage).
    Walking k.page i b.left b.right
    (record { walk = first_walk Save b.left b.right o (length d); held = d })
    (job_of (save o d) (list_for (save o d) b.left b.right)))
    a.shows
    (begun_save b.left b.right k.page o d a.bytes_left a.bytes_right bd a.left a.right z))

follow_format : (b : Board) (k : Book) → Agree b k → Follows b k C.format
unfolding turn entry begin_format
follow_format b k a =
    take_up b k format (first_walk Format b.left b.right (record { 0 = 4 }) 0)
    (list_for format b.left b.right)
    (pages_number (length b.left) (length b.right)) (pages_number k.page k.page) a
    (ap₂ pages_number a.left a.right)
    (λ z.
    subst
    (λ (i : MaybeImage).
    Walking k.page i b.left b.right
    (record { walk = first_walk Format b.left b.right (record { 0 = 4 }) 0; held = [] })
    (job_of format (list_for format b.left b.right)))
    a.shows
    (begun_format b.left b.right k.page a.bytes_left a.bytes_right a.left a.right a.page))

-- ---- stepping
-- what holds of either image holds of the one shown
either : (P : MaybeImage → Type 0) (t : Bool) (current then : MaybeImage) → P current → P then → P (switch t current then)
either P true current then p q = q
either P false current then p q = p

-- data of another length is number 6
or_true : (a b c : Bool) → (a || b || true || c) ≡ true
or_true true b c = refl
or_true false true c = refl
or_true false false c = refl

wrong_length : (w : Walk) (p q n : ℕ) → (n ≡ w.len → ⊥) → wrong_numbers w p q n ≡ true
unfolding wrong_numbers
wrong_length w p q n h =
    ap
    (λ (t : Bool).
    not (eqb (request_number p q w.offset w.len 0) 0) || not (eqb p w.page) || not t
    || wrong_format w.request w.offset w.len)
    (ne_eqb n w.len h)
    ∙ or_true (not (eqb (request_number p q w.offset w.len 0) 0)) (not (eqb p w.page))
    (wrong_format w.request w.offset w.len)

-- the three ways that a step ends
step_refused : (w : Walk) (l r d : List ℕ) → wrong_numbers w (length l) (length r) (length d) ≡ true
    → step_of w l r d ≡ kept (W.number 6) w l r
unfolding step_of
step_refused w l r d e = ap (λ (t : Bool). cond t (kept (W.number 6) w l r) (stepped w (steps_of w l r d) l r)) e

step_in : (w : Walk) (l r d : List ℕ) (list : List Entry) → wrong_numbers w (length l) (length r) (length d) ≡ false
    → steps_of w l r d ≡ list → step_of w l r d ≡ stepped w list l r
unfolding step_of
step_in w l r d list e f =
    ap (λ (t : Bool). cond t (kept (W.number 6) w l r) (stepped w (steps_of w l r d) l r)) e
    ∙ ap (λ (x : List Entry). stepped w x l r) f

step_ended : (w : Walk) (list : List Entry) (l r : List ℕ) → length list ≡ w.place
    → stepped w list l r ≡ kept W.ended w l r
unfolding stepped
step_ended w list l r e =
    simp (le-ltb (length list) w.place (omega arith), eq-eqb (length list) w.place e)

pub step_made : (w : Walk) (list : List Entry) (l r : List ℕ) (x : Entry) → w.place < length list
    → get_or list w.place nothing ≡ x → meets x.state (status_of l r).state ≡ true → (tried x.step l r).number ≡ 0
    → stepped w list l r
    ≡ (record {
      said = W.made;
      walk = advanced w;
      left = (tried x.step l r).left;
      right = (tried x.step l r).right;
    })
unfolding stepped attempt after
step_made w list l r x h e m n =
    simp (
      le-ltb (length list) w.place (omega arith),
      ne_eqb (length list) w.place (λ q. omega arith),
      e,
      m,
      eq-eqb (tried x.step l r).number 0 n,
    )

alike_by : (t t' : Turn) (e e' : Entered) → t ≡ t' → e ≡ e' → Alike t' e' → Alike t e
alike_by t t' e e' p q g = subst (λ (u : Turn). Alike u e) (sym p) (subst (Alike t') (sym q) g)

-- a step that is refused, or that finds the walk ended, changes neither the board nor the book
pub unchanged : (b : Board) (k : Book) (h : Hand) → b.hand ≡ Some h → Agree b k
    → Agree (record { left = b.left; right = b.right; hand = Some h }) k
unchanged b k h e a = subst (λ (q : Option Hand). Agree (record { left = b.left; right = b.right; hand = q }) k) e a

-- a made step: the image that the book has is the one that the pages show
made_agree : (b : Board) (k : Book) (h : Hand) (j : Job) (x : Entry) → Agree b k
    → (g : Walking k.page k.image b.left b.right h j) → j.made < length g.list
    → get_or g.list j.made nothing ≡ x
    → Good (switch x.commits k.image g.then) g.then (drop (suc j.made) g.list)
    (tried x.step b.left b.right).left (tried x.step b.left b.right).right
    → Agree
    (record {
      left = (tried x.step b.left b.right).left;
      right = (tried x.step b.left b.right).right;
      hand = Some (record { walk = advanced h.walk; held = h.held });
    })
    (one_more k j)
unfolding wrong_numbers
made_agree b k h j x a g lt e later =
    let l = b.left in
    let r = b.right in
    let current = k.image in
    let then = g.then in
    let l' = (tried x.step l r).left in
    let r' = (tried x.step l r).right in
    let keeps = tried_keeps x.step l r a.bytes_left a.bytes_right in
    let shown = switch x.commits current then in
    let flag : x.commits ≡ eqb (j.made + 1) j.commit =
    ap (λ (z : Entry). z.commits) (sym e) ∙ g.flags j.made lt in
    let same : shown ≡ cond (eqb (j.made + 1) j.commit) (effect k.page j.asked current) current =
    λ i. cond (flag i) (sym g.now_effect i) current in
    record {
      page = a.page;
      left = keeps.0.same ∙ a.left;
      right = keeps.1.same ∙ a.right;
      bytes_left = keeps.0.bytes;
      bytes_right = keeps.1.bytes;
      shows = good_shows shown then (drop (suc j.made) g.list) l' r' later ∙ same;
      hands =
          record {
            list = g.list;
            then = then;
            asks = g.asks;
            held = g.held;
            numbers = g.numbers;
            place = ap (λ (n : ℕ). n + 1) g.place;
            within = omega arith;
            total = g.total;
            flags = g.flags;
            now_list =
                subst (λ (i : MaybeImage). list_at h.walk h.held i ≡ g.list) same
                (either (λ (i : MaybeImage). list_at h.walk h.held i ≡ g.list) x.commits current then
                g.now_list g.then_list);
            then_list = g.then_list;
            now_effect =
                subst (λ (i : MaybeImage). effect k.page j.asked i ≡ then) same
                (either (λ (i : MaybeImage). effect k.page j.asked i ≡ then) x.commits current then
                g.now_effect g.then_effect);
            then_effect = g.then_effect;
            good =
                subst (λ (i : MaybeImage). Good i then (drop (j.made + 1) g.list) l' r') same
                (subst (λ (n : ℕ). Good shown then (drop n g.list) l' r') (sym (add-one j.made)) later);
          };
    }

-- the step on the board, with the held data, and the step in the book, by their tests
pub held_step : (b : Board) (k : Book) (d : List ℕ) (h : Hand) (j : Job) → Agree b k
    → (g : Walking k.page k.image b.left b.right h j) → eqb (length d) (length h.held) ≡ true
    → step_hand b (Some h) d ≡ after_step h.held (stepped h.walk g.list b.left b.right)
held_step b k d h j a g p =
    let w = h.walk in
    let l = b.left in
    let r = b.right in
    let right : wrong_numbers w (length l) (length r) (length h.held) ≡ false =
    ap₂ (λ (m n : ℕ). wrong_numbers w m n (length h.held)) a.left a.right ∙ g.numbers in
    let lists : steps_of w l r h.held ≡ g.list = ap (list_at w h.held) a.shows ∙ g.now_list in
    ap (λ (c : Bool). after_step h.held (step_of w l r (cond c h.held d))) p
    ∙ ap (after_step h.held) (step_in w l r h.held g.list right lists)

pub book_step : (k : Book) (j : Job) (d held : List ℕ) (s t : Bool) → held ≡ data_of j.asked
    → eqb (length d) (length held) ≡ s → eqb j.total j.made ≡ t
    → step_book k (Some j) d
    ≡ cond (not s) (entered (C.number 6) k) (cond t (entered C.ended k) (entered C.made (one_more k j)))
book_step k j d held s t e p q =
    let o : eqb (length d) (length (data_of j.asked)) ≡ s =
    ap (λ (x : List ℕ). eqb (length d) (length x)) (sym e) ∙ p in
    λ i. cond (not (o i)) (entered (C.number 6) k) (cond (q i) (entered C.ended k) (entered C.made (one_more k j)))

-- data of another length leaves the walk in hand, and so does a step of a walk that has ended
pub another_length : (b : Board) (k : Book) (d : List ℕ) (h : Hand) (j : Job)
    → (g : Walking k.page k.image b.left b.right h j) → eqb (length d) (length h.held) ≡ false
    → step_hand b (Some h) d ≡ after_step h.held (kept (W.number 6) h.walk b.left b.right)
another_length b k d h j g p =
    let w = h.walk in
    let l = b.left in
    let r = b.right in
    let n : length h.held ≡ w.len = (right_numbers w k.page k.page (length h.held) g.numbers).size in
    let wrong : wrong_numbers w (length l) (length r) (length d) ≡ true =
    wrong_length w (length l) (length r) (length d) (λ z. eqb-false (length d) (length h.held) p (z ∙ sym n)) in
    ap (λ (c : Bool). after_step h.held (step_of w l r (cond c h.held d))) p
    ∙ ap (after_step h.held) (step_refused w l r d wrong)

pub all_made : (b : Board) (k : Book) (d : List ℕ) (h : Hand) (j : Job) → Agree b k
    → (g : Walking k.page k.image b.left b.right h j) → eqb (length d) (length h.held) ≡ true
    → j.total ≡ j.made
    → step_hand b (Some h) d ≡ after_step h.held (kept W.ended h.walk b.left b.right)
all_made b k d h j a g p e =
    held_step b k d h j a g p
    ∙ ap (after_step h.held)
    (step_ended h.walk g.list b.left b.right (sym g.total ∙ e ∙ sym g.place))

follow_walk : (b : Board) (k : Book) (d : List ℕ) (h : Hand) (j : Job) → Agree b k → b.hand ≡ Some h
    → Walking k.page k.image b.left b.right h j → Alike (step_hand b (Some h) d) (step_book k (Some j) d)
follow_walk b k d h j a eh g = go (eqb (length d) (length h.held)) (eqb j.total j.made) refl refl
  where
    go : (s t : Bool) → eqb (length d) (length h.held) ≡ s → eqb j.total j.made ≡ t
        → Alike (step_hand b (Some h) d) (step_book k (Some j) d)
    go false t p q =
        alike_by (step_hand b (Some h) d) (after_step h.held (kept (W.number 6) h.walk b.left b.right))
        (step_book k (Some j) d) (entered (C.number 6) k) (another_length b k d h j g p)
        (book_step k j d h.held false t g.held p q) (refl, unchanged b k h eh a)
    go true true p q =
        alike_by (step_hand b (Some h) d) (after_step h.held (kept W.ended h.walk b.left b.right))
        (step_book k (Some j) d) (entered C.ended k)
        (all_made b k d h j a g p (eqb-true j.total j.made q))
        (book_step k j d h.held true true g.held p q) (refl, unchanged b k h eh a)
    go true false p q =
        let l = b.left in
        let r = b.right in
        let x = get_or g.list j.made nothing in
        let ne = eqb-false j.total j.made q in
        let total : j.total ≡ length g.list = g.total in
        let within : j.made ≤ length g.list = g.within in
        let lt : j.made < length g.list = lt_of_le_of_ne within (λ z. ne (total ∙ sym z)) in
        let good : Good k.image g.then (x ∷ drop (suc j.made) g.list) l r =
        subst (λ (xs : List Entry). Good k.image g.then xs l r) (drop-cons g.list j.made nothing lt)
        g.good in
        let place : h.walk.place ≡ j.made = g.place in
        let at : get_or g.list h.walk.place nothing ≡ x =
        ap (λ (n : ℕ). get_or g.list n nothing) place in
        alike_by (step_hand b (Some h) d)
        (after_step h.held
        (record {
          said = W.made;
          walk = advanced h.walk;
          left = (tried x.step l r).left;
          right = (tried x.step l r).right;
        }))
        (step_book k (Some j) d) (entered C.made (one_more k j))
        (held_step b k d h j a g p
        ∙ ap (after_step h.held) (step_made h.walk g.list l r x (omega arith) at good.1 good.2))
        (book_step k j d h.held true false g.held p q)
        (refl, made_agree b k h j x a g lt refl good.3)

follow_step : (b : Board) (k : Book) (d : List ℕ) → Agree b k → Follows b k (C.step d)
unfolding turn entry
follow_step b k d a = go b.hand k.job refl a.hands
  where
    go : (hand : Option Hand) (job : Option Job) → b.hand ≡ hand
        → Hands k.page k.image b.left b.right hand job → Alike (step_hand b hand d) (step_book k job d)
    go None None e w = (refl, a)
    go None (Some j) e w = absurd w
    go (Some h) None e w = absurd w
    go (Some h) (Some j) e w = follow_walk b k d h j a e w

-- ---- each call is answered alike, and keeps what the board and the book have in common
pub follow : (b : Board) (k : Book) (c : Call) → ByteCall c → Agree b k → Follows b k c
unfolding turn entry
follow b k (C.save o d) h a = follow_save b k o d h a
follow b k C.format h a = follow_format b k a
follow b k (C.step d) h a = follow_step b k d a
follow b k (C.read o n) h a = (same_read b k o n a, a)
follow b k (C.read_into o out) h a = (same_output b k o out a, a)
follow b k C.cut h a = (
  refl,
  record {
    page = a.page;
    left = a.left;
    right = a.right;
    bytes_left = a.bytes_left;
    bytes_right = a.bytes_right;
    shows = a.shows;
    hands = tt;
  },
)
