-- Pages as four management bytes before an image: their lines, and the flash steps on them.
-- In order: the five words as bytes; from a word and from a line to its bytes; marks; an image cell; pages by side; lines and live
-- images of the pairs that a walk goes through; a spoiled RIGHT.
-- Assumes nothing.
use Rattle.std.specs.Prelude.{Option, Some, None}
use Prim.Native.Nat.{ℕ, suc, ◌+◌, ◌%◌, ◌/◌, ◌<◌, ◌≤◌}
use mathlib.Core.Path.{◌≡◌, refl, sym, ap, ap₂, subst, ◌∙◌}
use mathlib.Core.Bool.{Bool, true, false, cond, ◌&&◌}
use mathlib.Core.List.{List, [], ◌∷◌, ◌++◌}
use native.Mathlib.Nat.{mod-eq_of_lt}
use native.Mathlib.Omega.{arith}
use lib.Bits.{bit_and, and_comm, and_mask, and_zero_r}
use lib.Dec.{eqb, ltb}
use lib.ListN.{length, get_or, drop, set, length-append}
use lib.Seq.{set_at, get_or_at}
use borrow.Author.Tests.{eq-eqb, lt-ltb, ltb-true, ne_eqb}
use Rattle.flash.specs.Flash.{Bytes, Outcome, is_cell, cell_number, cell_at, fits, stored, programmed}
use Rattle.flash.proofs.Laws.{made}
use Rattle.pages.specs.declared.Side.{Side}
use Rattle.pages.specs.declared.Side.TheVariants.{Left, Right}
use Rattle.pages.specs.declared.State.{State}
use Rattle.pages.specs.declared.State.TheVariants.{S0, S1, S2, S3, S5, S6, S7, S8, S9, S10}
use Rattle.pages.specs.declared.Status.{Status}
use Rattle.pages.specs.Pages.{Row, on_side, word_from, word_of, table, look, line_of, row_of, status_of}
use Rattle.pages.proofs.Table.{All, words_of}
use Rattle.steps.specs.Steps.{Tried, on_page}
use Rattle.images.specs.Images.{image_on, live_image}
use Rattle.plans.specs.Plans.{other}

-- ---- the five words, as the bytes before an image: FFFFFFFF, FFFFFF00, FFFF0000, FF000000 and FF00FFFF
abbrev pub blank : List ℕ → List ℕ
blank im = 0xFF ∷ 0xFF ∷ 0xFF ∷ 0xFF ∷ im

abbrev pub fresh : List ℕ → List ℕ
fresh im = 0x00 ∷ 0xFF ∷ 0xFF ∷ 0xFF ∷ im

abbrev pub valid : List ℕ → List ℕ
valid im = 0x00 ∷ 0x00 ∷ 0xFF ∷ 0xFF ∷ im

abbrev pub dead : List ℕ → List ℕ
dead im = 0x00 ∷ 0x00 ∷ 0x00 ∷ 0xFF ∷ im

abbrev pub unborn : List ℕ → List ℕ
unborn im = 0xFF ∷ 0xFF ∷ 0x00 ∷ 0xFF ∷ im

-- a page is the four bytes of its word before its image
abbrev pub bytes_of : ℕ → List ℕ → List ℕ
bytes_of w im = w % 256 ∷ w / 256 % 256 ∷ w / 65536 % 256 ∷ w / 16777216 ∷ im

join : {a b c e a' b' c' e' : ℕ} {im : List ℕ} → a ≡ a' → b ≡ b' → c ≡ c' → e ≡ e'
    → a ∷ b ∷ c ∷ e ∷ im ≡ a' ∷ b' ∷ c' ∷ e' ∷ im
join {im = im} p q u v = λ i. p i ∷ q i ∷ u i ∷ v i ∷ im

word_bytes : (a b c e : ℕ) (im : List ℕ) → a < 256 → b < 256 → c < 256 → e < 256
    → a ∷ b ∷ c ∷ e ∷ im ≡ bytes_of (word_from a b c e) im
word_bytes a b c e im ha hb hc he = join (omega arith) (omega arith) (omega arith) (omega arith)

pub by_word : (l : List ℕ) → Bytes l → 4 ≤ length l → l ≡ bytes_of (word_of l) (drop 4 l)
unfolding word_of
by_word [] h k = absurd (omega arith)
by_word (a ∷ []) h k = absurd (omega arith)
by_word (a ∷ b ∷ []) h k = absurd (omega arith)
by_word (a ∷ b ∷ c ∷ []) h k = absurd (omega arith)
by_word (a ∷ b ∷ c ∷ e ∷ im) h k = word_bytes a b c e im h.0 h.1.0 h.1.1.0 h.1.1.1.0

-- so a known word is known bytes
pub shaped : (l : List ℕ) (w : ℕ) → Bytes l → 4 ≤ length l → word_of l ≡ w → l ≡ bytes_of w (drop 4 l)
shaped l w h k e = by_word l h k ∙ ap (λ (x : ℕ). bytes_of x (drop 4 l)) e

-- pages of bytes at a line other than 0 are the bytes of its row before their images
pub from_row : (P : List ℕ → List ℕ → Type 0) (l r : List ℕ) (st : State) → Bytes l → Bytes r → 4 ≤ length l
    → 4 ≤ length r → (status_of l r).state ≡ st → (line_of st ≡ 0 → ⊥)
    → P (bytes_of (row_of st).left (drop 4 l)) (bytes_of (row_of st).right (drop 4 r)) → P l r
from_row P l r st bl br nl nr e h p =
    let w = words_of l r st e h in
    let a : l ≡ bytes_of (row_of st).left (drop 4 l) = shaped l (row_of st).left bl nl w.0 in
    let b : r ≡ bytes_of (row_of st).right (drop 4 r) = shaped r (row_of st).right br nr w.1 in
    subst (λ (k : List ℕ). P k r) (sym a) (subst (P (bytes_of (row_of st).left (drop 4 l))) (sym b) p)

-- ---- marks
abbrev made_as : List ℕ → Outcome
made_as l = record { number = 0; bytes = l }

-- a cell whose bits allow it takes the new number
pub takes : (l : List ℕ) (i v : ℕ) → i % 2 ≡ 0 → i + 1 < length l → bit_and (cell_at l i) v ≡ v
    → programmed l i v ≡ made_as (stored l i v)
unfolding fits is_cell
takes l i v e h k =
    made l i v (simp (eq-eqb (i % 2) 0 e, lt-ltb (i + 1) (length l) h, eq-eqb (bit_and (cell_at l i) v) v k))
    ∙ ap (λ (x : ℕ). made_as (stored l i x)) k

pub mark_zero : (a b c e v : ℕ) (im : List ℕ) → bit_and (cell_number a b) v ≡ v
    → programmed (a ∷ b ∷ c ∷ e ∷ im) 0 v ≡ made_as (v % 256 ∷ v / 256 ∷ c ∷ e ∷ im)
unfolding stored
mark_zero a b c e v im k = takes (a ∷ b ∷ c ∷ e ∷ im) 0 v refl (omega arith) k

pub mark_two : (a b c e v : ℕ) (im : List ℕ) → bit_and (cell_number c e) v ≡ v
    → programmed (a ∷ b ∷ c ∷ e ∷ im) 2 v ≡ made_as (a ∷ b ∷ v % 256 ∷ v / 256 ∷ im)
unfolding stored
mark_two a b c e v im k = takes (a ∷ b ∷ c ∷ e ∷ im) 2 v refl (omega arith) k

-- ---- an image cell of a blank part takes any number
all_bits : (v : ℕ) → v < 65536 → bit_and 65535 v ≡ v
all_bits v h = and_comm 65535 v ∙ and_mask v 16 ∙ mod-eq_of_lt h

get_next : (p : List ℕ) (x y : ℕ) (ys : List ℕ) → get_or (p ++ x ∷ y ∷ ys) (suc (length p)) 0 ≡ y
get_next [] x y ys = refl
get_next (a ∷ p) x y ys = get_next p x y ys

set_next : (p : List ℕ) (x y v : ℕ) (ys : List ℕ) → set (p ++ x ∷ y ∷ ys) (suc (length p)) v ≡ p ++ x ∷ v ∷ ys
set_next [] x y v ys = refl
set_next (a ∷ p) x y v ys = ap (λ (k : List ℕ). a ∷ k) (set_next p x y v ys)

pub image_takes : (a b c e : ℕ) (front back : List ℕ) (low high : ℕ) → low < 256 → high < 256 → length front % 2 ≡ 0
    → programmed (a ∷ b ∷ c ∷ e ∷ (front ++ 255 ∷ 255 ∷ back)) (4 + length front) (cell_number low high)
    ≡ made_as (a ∷ b ∷ c ∷ e ∷ (front ++ low ∷ high ∷ back))
unfolding stored
image_takes a b c e front back low high hl hh even =
    let p = a ∷ b ∷ c ∷ e ∷ front in
    let n = 4 + length front in
    let v = cell_number low high in
    let at : length p ≡ n = omega arith in
    let after : suc (length p) ≡ n + 1 = omega arith in
    let l = p ++ 255 ∷ 255 ∷ back in
    let first : get_or l n 0 ≡ 255 = get_or_at p 255 (255 ∷ back) 0 n at in
    let second : get_or l (n + 1) 0 ≡ 255 =
    ap (λ (k : ℕ). get_or l k 0) (sym after) ∙ get_next p 255 255 back in
    let size : length l ≡ length p + (2 + length back) = length-append p (255 ∷ 255 ∷ back) ∙ omega arith in
    let full : cell_at l n ≡ 65535 = omega arith in
    let low_byte : v % 256 ≡ low = omega arith in
    let high_byte : v / 256 ≡ high = omega arith in
    let one : set l n (v % 256) ≡ p ++ low ∷ 255 ∷ back =
    ap (set l n) low_byte ∙ set_at p 255 (255 ∷ back) low n at in
    let two : set (set l n (v % 256)) (n + 1) (v / 256) ≡ p ++ low ∷ high ∷ back =
    ap₂ (λ (m : List ℕ) (k : ℕ). set m k (v / 256)) one (sym after)
    ∙ set_next p low 255 (v / 256) back ∙ ap (λ (k : ℕ). p ++ low ∷ k ∷ back) high_byte in
    takes l n v (omega arith) (omega arith) (ap (λ (k : ℕ). bit_and k v) full ∙ all_bits v (omega arith))
    ∙ ap made_as two

-- ---- pages by side: one page on a side, the other page on the other
abbrev pub made_on_lem : List ℕ → List ℕ → Tried
made_on_lem l r = record { number = 0; left = l; right = r }

pub on_side_lem : (s : Side) (f : List ℕ → Outcome) (y x z : List ℕ) → f y ≡ made_as z
    → on_page s f (on_side s y x) (on_side s x y) ≡ made_on_lem (on_side s z x) (on_side s x z)
on_side_lem Left f y x z e = λ i. record { number = (e i).number; left = (e i).bytes; right = x }
on_side_lem Right f y x z e = λ i. record { number = (e i).number; left = x; right = (e i).bytes }

pub on_other : (s : Side) (f : List ℕ → Outcome) (y x z : List ℕ) → f x ≡ made_as z
    → on_page (other s) f (on_side s y x) (on_side s x y) ≡ made_on_lem (on_side s y z) (on_side s z y)
on_other Left f y x z e = λ i. record { number = (e i).number; left = y; right = (e i).bytes }
on_other Right f y x z e = λ i. record { number = (e i).number; left = (e i).bytes; right = y }

-- ---- the lines of the pairs that a walk goes through, and what is live there
abbrev pub at : State → Option Side → Status
at state live = record { state = state; live = live }

pub at_clean : (s : Side) (y x : List ℕ)
    → status_of (on_side s (valid y) (blank x)) (on_side s (blank x) (valid y)) ≡ at (on_side s S1 S8) (Some s)
unfolding status_of look word_of
at_clean Left y x = refl
at_clean Right y x = refl

pub at_used : (s : Side) (y x : List ℕ)
    → status_of (on_side s (valid y) (dead x)) (on_side s (dead x) (valid y)) ≡ at (on_side s S3 S7) (Some s)
unfolding status_of look word_of
at_used Left y x = refl
at_used Right y x = refl

pub at_fresh : (s : Side) (y x : List ℕ)
    → status_of (on_side s (valid y) (fresh x)) (on_side s (fresh x) (valid y)) ≡ at (on_side s S5 S9) (Some (other s))
unfolding status_of look word_of
at_fresh Left y x = refl
at_fresh Right y x = refl

pub at_retired : (s : Side) (y x : List ℕ)
    → status_of (on_side s (dead y) (fresh x)) (on_side s (fresh x) (dead y)) ≡ at (on_side s S6 S10) (Some (other s))
unfolding status_of look word_of
at_retired Left y x = refl
at_retired Right y x = refl

pub at_settled : (s : Side) (y x : List ℕ)
    → status_of (on_side s (dead y) (valid x)) (on_side s (valid x) (dead y)) ≡ at (on_side s S7 S3) (Some (other s))
unfolding status_of look word_of
at_settled Left y x = refl
at_settled Right y x = refl

pub at_unborn : (y x : List ℕ) → status_of (valid y) (unborn x) ≡ at S2 (Some Left)
unfolding status_of look word_of
at_unborn y x = refl

pub at_blank : (y x : List ℕ) → status_of (blank y) (blank x) ≡ at S0 None
unfolding status_of look word_of
at_blank y x = refl

-- the live image, by side
pub shows_side : (s : Side) (st : State) (a b c e : ℕ) (y x : List ℕ)
    → status_of (on_side s (a ∷ b ∷ c ∷ e ∷ y) x) (on_side s x (a ∷ b ∷ c ∷ e ∷ y)) ≡ at st (Some s)
    → live_image (on_side s (a ∷ b ∷ c ∷ e ∷ y) x) (on_side s x (a ∷ b ∷ c ∷ e ∷ y)) ≡ Some y
unfolding live_image
shows_side Left st a b c e y x h = ap (λ (z : Status). image_on z.live (a ∷ b ∷ c ∷ e ∷ y) x) h
shows_side Right st a b c e y x h = ap (λ (z : Status). image_on z.live x (a ∷ b ∷ c ∷ e ∷ y)) h

pub shows_other : (s : Side) (st : State) (a b c e : ℕ) (y x : List ℕ)
    → status_of (on_side s y (a ∷ b ∷ c ∷ e ∷ x)) (on_side s (a ∷ b ∷ c ∷ e ∷ x) y) ≡ at st (Some (other s))
    → live_image (on_side s y (a ∷ b ∷ c ∷ e ∷ x)) (on_side s (a ∷ b ∷ c ∷ e ∷ x) y) ≡ Some x
unfolding live_image
shows_other Left st a b c e y x h = ap (λ (z : Status). image_on z.live y (a ∷ b ∷ c ∷ e ∷ x)) h
shows_other Right st a b c e y x h = ap (λ (z : Status). image_on z.live (a ∷ b ∷ c ∷ e ∷ x) y) h

pub shows_none : (st : State) (l r : List ℕ) → status_of l r ≡ at st None → live_image l r ≡ None
unfolding live_image
shows_none st l r h = ap (λ (z : Status). image_on z.live l r) h

-- ---- a spoiled RIGHT: its word is in no row, whatever LEFT holds
abbrev High : Row → Type 0
High x = ltb 65535 x.right ≡ true

high : All High table
high = search tt

no_hit : (t : Bool) (a b : Status) → cond (t && false) a b ≡ b
no_hit true a b = refl
no_hit false a b = refl

low_word : (xs : List Row) → All High xs → (l r : ℕ) → r < 65536 → look xs l r ≡ at S0 None
unfolding look
low_word [] h l r k = refl
low_word (x ∷ xs) h l r k =
    let b : 65535 < x.right = ltb-true 65535 x.right h.0 in
    ap (λ (t : Bool). cond (eqb x.left l && t) (record { state = x.state; live = Some x.live }) (look xs l r))
    (ne_eqb x.right r (λ e. omega arith))
    ∙ no_hit (eqb x.left l) (record { state = x.state; live = Some x.live }) (look xs l r) ∙ low_word xs h.1 l r k

pub at_spoiled : (l : List ℕ) (a b : ℕ) (x : List ℕ) → a < 256 → b < 256
    → status_of l (a ∷ b ∷ 0 ∷ 0 ∷ x) ≡ at S0 None
unfolding status_of word_of
at_spoiled l a b x ha hb = low_word table high (word_of l) (word_from a b 0 0) (omega arith)

-- spoiling fits any page
pub spoils : (a b c e : ℕ) (x : List ℕ) → programmed (a ∷ b ∷ c ∷ e ∷ x) 2 0 ≡ made_as (a ∷ b ∷ 0 ∷ 0 ∷ x)
spoils a b c e x = mark_two a b c e 0 x (and_zero_r (cell_number c e))
