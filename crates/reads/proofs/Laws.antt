-- Laws of the two reads.
-- In order: where a read finds its bytes; what follows of its number, of the part and of the output.
-- Not here: laws of numbers 1 to 4 (the crate requests) and of flash (flash). Assumes nothing.
use Rattle.std.specs.Prelude.{Option, Some, None, Result, Ok, Err, ok_or}
use Prim.Native.Nat.{ℕ, min}
use mathlib.Core.Path.{◌≡◌, refl, sym, ap, ◌∙◌}
use mathlib.Core.Bool.{Bool, cond}
use mathlib.Core.List.{List, [], ◌++◌, append-nil}
use native.Mathlib.Omega.{arith}
use lib.Dec.{eqb}
use lib.ListN.{length, take, drop, length-drop}
use lib.Seq.{take-length, drop-length, length-take-le}
use borrow.Author.Tests.{ne_eqb}
use Rattle.copies.specs.Copies.{copied}
use Rattle.flash.specs.Flash.{Outcome, erasure}
use Rattle.pages.specs.declared.Side.{Side}
use Rattle.pages.specs.declared.Side.TheVariants.{Left, Right}
use Rattle.pages.specs.declared.PageOffset.{PageOffset}
use Rattle.pages.specs.declared.Status.{Status}
use Rattle.pages.specs.Pages.{on_side, status_of, standing}
use Rattle.pages.proofs.Laws.{standing_same}
use Rattle.requests.specs.declared.Refusal.{Refusal}
use Rattle.requests.specs.Numbers.{number_of, request_number}
use Rattle.requests.specs.Legal.{Legal}
use Rattle.requests.proofs.Laws.{legal, legal_none, legal_then, refused_first, one_to_four, never_none}
use Rattle.reads.specs.declared.ReadError.{ReadError}
use Rattle.reads.specs.declared.ReadError.TheVariants.{Refused, NoLive}
use Rattle.reads.specs.Reads.{
  error_number,
  number_in,
  found_in,
  live_number,
  live_page,
  read_number,
  read_part,
  output_after,
  filled,
  Located,
  refused_by,
  none_live,
  live_on,
  located,
}

-- ---- where a read finds its bytes, from the check of the request and the live side
pub found_live : (l r : List ℕ) (s : Status) → standing s ≡ standing (status_of l r) → (status_of l r).live ≡ s.live
found_live l r s e = sym (ap (λ (x : Status). x.live) (standing_same s (status_of l r) e))

at_number : (l r : List ℕ) (o : PageOffset) (n k : ℕ) (live : Option Side) → k ≡ read_number l r o n
    → live ≡ cond (eqb (read_number l r o n) 0) (status_of l r).live None
    → ◌≡◌ {A = Located} (record { number = k; live = live }) (located l r o n)
unfolding located
at_number l r o n k live p q = λ i. record { number = p i; live = q i }

pub found_refused : (l r : List ℕ) (o : PageOffset) (n : ℕ) (why : Refusal) → number_of why ≡ request_number (length l)
    (length r) o n 0
    → refused_by why ≡ located l r o n
unfolding read_number
found_refused l r o n why e =
    let k : number_of why ≡ read_number l r o n =
    refused_first (length l) (length r) o n (live_number (status_of l r).live) why e in
    at_number l r o n (number_of why) None k
    (sym (simp (ne_eqb (read_number l r o n) 0 (λ z. never_none why (k ∙ z)))))

-- a legal read has number 5 or none
legal_number : (l r : List ℕ) (o : PageOffset) (n : ℕ) (v : Option Side) → request_number (length l) (length r) o n 0 ≡ 0
    → (status_of l r).live ≡ v → read_number l r o n ≡ live_number v
unfolding read_number
legal_number l r o n v e h = legal_then (length l) (length r) o n (live_number (status_of l r).live) e ∙ ap live_number h

pub found_none : (l r : List ℕ) (o : PageOffset) (n : ℕ) → request_number (length l) (length r) o n 0 ≡ 0
    → (status_of l r).live ≡ None
    → none_live ≡ located l r o n
found_none l r o n e h =
    let k = legal_number l r o n None e h in
    at_number l r o n 5 None (sym k) (sym (simp k))

pub found_on : (l r : List ℕ) (o : PageOffset) (n : ℕ) (s : Side) → request_number (length l) (length r) o n 0 ≡ 0
    → (status_of l r).live ≡ Some s → live_on s ≡ located l r o n
found_on l r o n s e h =
    let k = legal_number l r o n (Some s) e h in
    at_number l r o n 0 (Some s) (sym k) (sym (simp (k, h)))

-- the answers of a look: what the check of the request says first, then whether a page is live
pub located_refused : (l r : List ℕ) (o : PageOffset) (n : ℕ) (why : Refusal) (x : Result Side ReadError)
    → number_of why ≡ request_number (length l) (length r) o n 0 → x ≡ Err (Refused why) → found_in x ≡ located l r o n
located_refused l r o n why x e h = ap found_in h ∙ found_refused l r o n why e

pub located_live : (l r : List ℕ) (o : PageOffset) (n : ℕ) (s : Status) (x : Result Side ReadError)
    → request_number (length l) (length r) o n 0 ≡ 0 → standing s ≡ standing (status_of l r)
    → x ≡ ok_or s.live NoLive → found_in x ≡ located l r o n
located_live l r o n s x e p h = ap found_in h ∙ go s.live (found_live l r s p)
  where
    go : (v : Option Side) → (status_of l r).live ≡ v → found_in (ok_or v NoLive) ≡ located l r o n
    go None q = found_none l r o n e q
    go (Some side) q = found_on l r o n side e q

-- ---- what follows
never_five : (why : Refusal) → number_of why ≡ 5 → ⊥
never_five why e = omega (arith, one_to_four why)

pub found_number : (l r : List ℕ) (o : PageOffset) (n : ℕ) (f : Located) → f ≡ located l r o n
    → f.number ≡ read_number l r o n
unfolding located
found_number l r o n f e = ap (λ (x : Located). x.number) e

-- the number of an answer, whether it has a page or not
pub error_read : (l r : List ℕ) (o : PageOffset) (n : ℕ) (e : ReadError) (x : Result Side ReadError)
    (y : Result (Unit {0}) ReadError) → x ≡ Err e → found_in x ≡ located l r o n → y ≡ Err e
    → number_in y ≡ read_number l r o n
error_read l r o n e x y q f h = ap number_in h ∙ same e ∙ found_number l r o n (found_in (Err e)) (ap found_in (sym q) ∙ f)
  where
    same : (z : ReadError) → error_number z ≡ (found_in (Err z)).number
    same (Refused why) = refl
    same NoLive = refl

pub found_read : (l r : List ℕ) (o : PageOffset) (n : ℕ) (x : Result Side ReadError) (s : Side) → x ≡ Ok s
    → found_in x ≡ located l r o n → 0 ≡ read_number l r o n
found_read l r o n x s q f = found_number l r o n (live_on s) (ap found_in (sym q) ∙ f)

pub error_given : (e : ReadError) → (found_in (Err e)).number ≡ 0 → ⊥
error_given (Refused why) = never_none why
error_given NoLive = λ e. omega (arith, e)

pub error_never : (e : ReadError) → error_number e ≡ 0 → ⊥
error_never (Refused why) = never_none why
error_never NoLive = λ e. omega (arith, e)

-- a found page is the live one, and the request is legal
on_number : (l r : List ℕ) (o : PageOffset) (n : ℕ) (s : Side) → live_on s ≡ located l r o n
    → read_number l r o n ≡ 0
on_number l r o n s e = sym (found_number l r o n (live_on s) e)

on_live : (l r : List ℕ) (o : PageOffset) (n : ℕ) (s : Side) → live_on s ≡ located l r o n
    → (status_of l r).live ≡ Some s
unfolding located
on_live l r o n s e =
    sym (ap (λ (x : Located). x.live) e ∙ (simp (on_number l r o n s e)))

pub on_legal : (l r : List ℕ) (o : PageOffset) (n : ℕ) (s : Side) → live_on s ≡ located l r o n
    → Legal (length l) (length r) o n
unfolding read_number
on_legal l r o n s e = (legal (length l) (length r) o n (live_number (status_of l r).live) (on_number l r o n s e)).0

-- no part where a number is given; else the asked bytes of that page
pub no_part : (l r : List ℕ) (o : PageOffset) (n : ℕ) (f : Located) → f ≡ located l r o n → (f.number ≡ 0 → ⊥)
    → [] ≡ read_part l r o n
unfolding read_part
no_part l r o n f e h =
    sym (simp (ne_eqb (read_number l r o n) 0 (λ z. h (found_number l r o n f e ∙ z))))

pub on_part : (l r : List ℕ) (o : PageOffset) (n : ℕ) (s : Side) → live_on s ≡ located l r o n
    → take n (drop o.0 (on_side s l r)) ≡ read_part l r o n
unfolding read_part
on_part l r o n s e = sym (simp (on_number l r o n s e, on_live l r o n s e))

-- a page of a legal request holds the asked bytes
side_length : (l r : List ℕ) (s : Side) → length l ≡ length r → length (on_side s l r) ≡ length l
side_length l r Left e = refl
side_length l r Right e = sym e

part_length : (l r : List ℕ) (o : PageOffset) (n : ℕ) (s : Side) → live_on s ≡ located l r o n
    → length (take n (drop o.0 (on_side s l r))) ≡ n
part_length l r o n s e =
    let h = on_legal l r o n s e in
    let k : length (on_side s l r) ≡ length l = side_length l r s h.same in
    length-take-le n (drop o.0 (on_side s l r)) (simp length-drop (omega arith))

-- a copy of as many bytes as the output has is those bytes
whole_copy : (src out : List ℕ) → length src ≡ length out → copied src out ≡ src
unfolding copied
whole_copy src out e =
    let n : min (length src) (length out) ≡ length src = omega (arith, e) in
    let d : drop (length src) out ≡ [] = ap (λ (k : ℕ). drop k out) e ∙ drop-length out in
    ap (λ (k : ℕ). take k src ++ drop k out) n ∙ simp (take-length, d, append-nil)

-- "A returned part is empty on every refusal": a number and bytes are never given together
pub refused_empty : (l r : List ℕ) (o : PageOffset) (n : ℕ) → (read_number l r o n ≡ 0 → ⊥)
    → length (read_part l r o n) ≡ 0
unfolding read_part
refused_empty l r o n h =
    ap (λ (t : Bool). length (cond t (take n (drop o.0 (live_page (status_of l r).live l r))) []))
    (ne_eqb (read_number l r o n) 0 h)

-- of a read that is given the request is legal and a page is live
numbers_none : (l r : List ℕ) (o : PageOffset) (n : ℕ) → read_number l r o n ≡ 0
    → request_number (length l) (length r) o n 0 ≡ 0
unfolding read_number
numbers_none l r o n e =
    legal_none (length l) (length r) o n 0
    (legal (length l) (length r) o n (live_number (status_of l r).live) e).0

five_given : (l r : List ℕ) (o : PageOffset) (n : ℕ) → (status_of l r).live ≡ None → read_number l r o n ≡ 0 → ⊥
five_given l r o n q e =
    let five : read_number l r o n ≡ 5 = legal_number l r o n None (numbers_none l r o n e) q in
    omega (arith, five, e)

-- and a read that is given hands back exactly as many bytes as were asked for
pub given_whole : (l r : List ℕ) (o : PageOffset) (n : ℕ) → read_number l r o n ≡ 0 → length (read_part l r o n) ≡ n
given_whole l r o n e = go (status_of l r).live refl
  where
    go : (v : Option Side) → (status_of l r).live ≡ v → length (read_part l r o n) ≡ n
    go None q = absurd (five_given l r o n q e)
    go (Some s) q =
        let found = found_on l r o n s (numbers_none l r o n e) q in
        ap length (sym (on_part l r o n s found)) ∙ part_length l r o n s found

-- ---- the output after each answer
filling : (l r : List ℕ) (o : PageOffset) (k : ℕ) (out bytes : List ℕ) → k ≡ read_number l r o (length out)
    → bytes ≡ output_after k (read_part l r o (length out)) out
    → ◌≡◌ {A = Outcome} (record { number = k; bytes = bytes }) (filled l r o out)
unfolding filled
filling l r o k out bytes p q =
    λ i. record { number = p i; bytes = (q ∙ ap (λ (x : ℕ). output_after x (read_part l r o (length out)) out) p) i }

pub kept : (l r : List ℕ) (o : PageOffset) (out : List ℕ) (why : Refusal)
    → refused_by why ≡ located l r o (length out)
    → ◌≡◌ {A = Outcome} (record { number = number_of why; bytes = out }) (filled l r o out)
unfolding output_after
kept l r o out why e =
    filling l r o (number_of why) out out
    (found_number l r o (length out) (refused_by why) e)
    (sym (simp (ne_eqb (number_of why) 0 (never_none why), ne_eqb (number_of why) 5 (never_five why))))

pub blank : (l r : List ℕ) (o : PageOffset) (out bytes : List ℕ)
    → none_live ≡ located l r o (length out) → bytes ≡ erasure out
    → ◌≡◌ {A = Outcome} (record { number = 5; bytes = bytes }) (filled l r o out)
unfolding output_after
blank l r o out bytes e h =
    filling l r o 5 out bytes (found_number l r o (length out) none_live e) h

-- the two by the error that was found
pub kept_at : (l r : List ℕ) (o : PageOffset) (out : List ℕ) (e : ReadError) → (e ≡ NoLive → ⊥)
    → found_in (Err e) ≡ located l r o (length out)
    → ◌≡◌ {A = Outcome} (record { number = error_number e; bytes = out }) (filled l r o out)
kept_at l r o out (Refused why) h p = kept l r o out why p
kept_at l r o out NoLive h p = absurd (h refl)

pub blank_at : (l r : List ℕ) (o : PageOffset) (out bytes : List ℕ) (e : ReadError) → e ≡ NoLive
    → found_in (Err e) ≡ located l r o (length out) → bytes ≡ erasure out
    → ◌≡◌ {A = Outcome} (record { number = error_number e; bytes = bytes }) (filled l r o out)
blank_at l r o out bytes (Refused why) h p q = absurd (cc)
blank_at l r o out bytes NoLive h p q = blank l r o out bytes p q

pub given : (l r : List ℕ) (o : PageOffset) (s : Side) (out src bytes : List ℕ)
    → live_on s ≡ located l r o (length out)
    → src ≡ take (length out) (drop o.0 (on_side s l r))
    → bytes ≡ copied src out
    → ◌≡◌ {A = Outcome} (record { number = 0; bytes = bytes }) (filled l r o out)
unfolding output_after
given l r o s out src bytes e p q =
    filling l r o 0 out bytes (found_number l r o (length out) (live_on s) e)
    (q ∙ whole_copy src out (ap length p ∙ part_length l r o (length out) s e) ∙ p ∙ on_part l r o (length out) s e)
