-- Pages of bytes: what flash steps and laying bytes in keep of them.
-- In order: bytes of lists; a cell of bytes; programming, erasing and laying in keep bytes and lengths.
-- Assumes nothing.
use Prim.Native.Nat.{ℕ, zero, suc, ◌+◌, ◌%◌, ◌/◌, ◌<◌, ◌≤◌}
use mathlib.Core.Path.{◌≡◌, refl, ap}
use mathlib.Core.Bool.{Bool, true, false, cond}
use mathlib.Core.List.{List, [], ◌∷◌, ◌++◌}
use native.Mathlib.Omega.{arith}
use lib.Bits.{bit_and, and_le_l}
use lib.ListN.{
  length,
  get_or,
  take,
  drop,
  set,
  replicate,
  length-replicate,
  length-append,
  take-append-drop,
}
use Rattle.flash.specs.Flash.{Bytes, Outcome, cell_at, fits, stored, programmed, erasure}
use Rattle.flash.proofs.Laws.{length_stored}
use Rattle.pages.specs.declared.Side.{Side}
use Rattle.pages.specs.declared.Side.TheVariants.{Left, Right}
use Rattle.pages.specs.declared.PageOffset.{PageOffset}
use Rattle.pages.specs.declared.ImageOffset.{ImageOffset}
use Rattle.steps.specs.declared.Step.{Step}
use Rattle.steps.specs.declared.Step.TheVariants.{Mark, Image, Erase}
use Rattle.steps.specs.Steps.{marked, imaged, blanked, on_page, tried}
use Rattle.images.specs.Images.{overlaid, in_page, laid_in}

-- ---- lists
pub bytes_append : (l m : List ℕ) → Bytes l → Bytes m → Bytes (l ++ m)
bytes_append [] m h k = k
bytes_append (x ∷ xs) m h k = (h.0, bytes_append xs m h.1 k)

pub bytes_take : (n : ℕ) (l : List ℕ) → Bytes l → Bytes (take n l)
bytes_take zero l h = tt
bytes_take (suc n) [] h = tt
bytes_take (suc n) (x ∷ xs) h = (h.0, bytes_take n xs h.1)

pub bytes_drop : (n : ℕ) (l : List ℕ) → Bytes l → Bytes (drop n l)
bytes_drop zero l h = h
bytes_drop (suc n) [] h = tt
bytes_drop (suc n) (x ∷ xs) h = bytes_drop n xs h.1

pub bytes_set : (l : List ℕ) (i v : ℕ) → v < 256 → Bytes l → Bytes (set l i v)
bytes_set [] i v k h = tt
bytes_set (x ∷ xs) zero v k h = (k, h.1)
bytes_set (x ∷ xs) (suc i) v k h = (h.0, bytes_set xs i v k h.1)

pub bytes_blank : (n : ℕ) → Bytes (replicate n 255)
bytes_blank zero = tt
bytes_blank (suc n) = (omega arith, bytes_blank n)

pub byte_at : (l : List ℕ) (i : ℕ) → Bytes l → get_or l i 0 < 256
byte_at [] i h = omega arith
byte_at (x ∷ xs) zero h = h.0
byte_at (x ∷ xs) (suc i) h = byte_at xs i h.1

-- ---- what keeps bytes
pub bytes_overlaid : (image : List ℕ) (o : ℕ) (d : List ℕ) → Bytes image → Bytes d → Bytes (overlaid image o d)
unfolding overlaid
bytes_overlaid image o d h k =
    bytes_append (take o image) (d ++ drop (o + length d) image) (bytes_take o image h)
    (bytes_append d (drop (o + length d) image) k (bytes_drop (o + length d) image h))

pub bytes_laid : (image : List ℕ) (o : PageOffset) (d : List ℕ) → Bytes image → Bytes d → Bytes (laid_in image o d)
unfolding laid_in
bytes_laid image o d h k =
    bytes_drop 4 (overlaid (in_page image) o.0 d)
    (bytes_overlaid (in_page image) o.0 d (bytes_append (replicate 4 255) image (bytes_blank 4) h) k)

bytes_stored : (l : List ℕ) (i v : ℕ) → v < 65536 → Bytes l → Bytes (stored l i v)
unfolding stored
bytes_stored l i v k h =
    bytes_set (set l i (v % 256)) (i + 1) (v / 256) (omega arith) (bytes_set l i (v % 256) (omega arith) h)

-- bytes that stay bytes, as many as they were
pub record Kept (l m : List ℕ) : Type 0 where
  pub bytes : Bytes m
  pub same : length m ≡ length l

programmed_keeps : (l : List ℕ) (i v : ℕ) → Bytes l → Kept l (programmed l i v).bytes
unfolding programmed
programmed_keeps l i v h = go (fits l i v)
  where
    go : (t : Bool)
        → Kept l (cond {A = Outcome} t (record { number = 0; bytes = stored l i (bit_and (cell_at l i) v) })
        (record { number = 6; bytes = l })).bytes
    go true =
        let a : get_or l i 0 < 256 = byte_at l i h in
        let b : get_or l (i + 1) 0 < 256 = byte_at l (i + 1) h in
        let c : bit_and (cell_at l i) v ≤ cell_at l i = and_le_l (cell_at l i) v in
        record {
          bytes = bytes_stored l i (bit_and (cell_at l i) v) (omega arith) h;
          same = length_stored l i (bit_and (cell_at l i) v);
        }
    go false = record { bytes = h; same = refl }

-- an image cell: what lies before the image is as it was
imaged_keeps : (l : List ℕ) (at : ImageOffset) (v : ℕ) → Bytes l → Kept l (imaged l at v).bytes
imaged_keeps l at v h =
    let k = programmed_keeps (drop 4 l) at.0 v (bytes_drop 4 l h) in
    let o = (programmed (drop 4 l) at.0 v).bytes in
    let same : length o ≡ length (drop 4 l) = k.same in
    let both : length (take 4 l ++ o) ≡ length (take 4 l) + length o = length-append (take 4 l) o in
    let whole : length (take 4 l ++ drop 4 l) ≡ length (take 4 l) + length (drop 4 l) =
    length-append (take 4 l) (drop 4 l) in
    let back : length (take 4 l ++ drop 4 l) ≡ length l = ap length (take-append-drop 4 l) in
    record { bytes = bytes_append (take 4 l) o (bytes_take 4 l h) k.bytes; same = omega arith }

erasure_keeps : (l : List ℕ) → Kept l (erasure l)
unfolding erasure
erasure_keeps l = record { bytes = bytes_blank (length l); same = length-replicate (length l) 255 }

-- a step on one side keeps what it keeps of a page
on_side_lem : (s : Side) (f : List ℕ → Outcome) (l r : List ℕ) → Bytes l → Bytes r
    → ((page : List ℕ) → Bytes page → Kept page (f page).bytes)
    → Kept l (on_page s f l r).left × Kept r (on_page s f l r).right
on_side_lem Left f l r h k g = (g l h, record { bytes = k; same = refl })
on_side_lem Right f l r h k g = (record { bytes = h; same = refl }, g r k)

pub tried_keeps : (x : Step) (l r : List ℕ) → Bytes l → Bytes r
    → Kept l (tried x l r).left × Kept r (tried x l r).right
unfolding tried
tried_keeps (Mark s o v) l r h k =
    on_side_lem s (λ page. marked page o v) l r h k (λ page q. programmed_keeps page o.0 v q)
tried_keeps (Image s o v) l r h k =
    on_side_lem s (λ page. imaged page o v) l r h k (λ page q. imaged_keeps page o v q)
tried_keeps (Erase s) l r h k = on_side_lem s blanked l r h k (λ page q. erasure_keeps page)
