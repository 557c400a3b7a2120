-- behind what is put so far the next byte's text is put, and there is room for its four bytes
use Rattle.std.proofs.Common.{arith, ◌≡◌, ◌<◌, ◌≤◌, ◌∙◌, ℕ, List, [], ◌∷◌, ◌++◌, ◌+◌, ◌-◌, length, get_or, take, drop, ap, sym, append-nil}
use Rattle.std.proofs.Math.Seq.{take-append-add}
use Rattle.std.proofs.lemmas.Grind.{common_steps, flat_map-append}
use Rattle.std.proofs.lemmas.List.{length-take-le, take-append-le, take_more}
use Rattle.std.specs.List.{flat_map}
use Rattle.prints.specs.Prints.{escaped}
use Rattle.prints.proofs.escape.Goals as goal
use borrow.Rule.Slice.PartMut.{put_mid}

-- what is put first of a part stands behind what stood before it
first_of_part : (a k n : ℕ) (xs ys : List ℕ) → a ≤ length xs → n ≤ length ys
    → take (a + n) (put_mid a k xs ys) ≡ take a xs ++ take n ys
first_of_part a k n xs ys within short =
    ap (λ m. take (m + n) (put_mid a k xs ys)) (sym (length-take-le a xs within))
    ∙ take-append-add (take a xs) (ys ++ drop k (drop a xs)) n
    ∙ ap (λ (t : List ℕ). take a xs ++ t) (take-append-le n ys _ short)

-- what a byte more is printed as
one_more : (bytes : List ℕ) (i : ℕ) → i < length bytes
    → flat_map escaped (take (i + 1) bytes) ≡ flat_map escaped (take i bytes) ++ escaped (get_or bytes i 0)
one_more bytes i within =
    ap (flat_map escaped) (take_more bytes i 0 within)
    ∙ flat_map-append escaped (take i bytes) (get_or bytes i 0 ∷ [])
    ∙ ap (λ (t : List ℕ). flat_map escaped (take i bytes) ++ t) (append-nil (escaped (get_or bytes i 0)))

pub overflow_add-len : goal.overflow_add-len
overflow_add-len c = omega (arith, c.loop-b.invariant.fits)

pub loop-b-preserved : goal.loop-b-preserved
loop-b-preserved c =
    let so_far = c.loop-b.invariant in
    let byte = c.escaped_byte-count.ensures in
    let four : c.escaped_byte-count.result.1 ≤ length c.copy_from_slice.new.self = grind (arith, common_steps) in
    let within : c.loop-b.len ≤ length c.loop-b.room = omega (arith, so_far.fits, c.requires) in
    let put = first_of_part c.loop-b.len (c.loop-b.len + 4 - c.loop-b.len) _ c.loop-b.room c.copy_from_slice.new.self within four in
    let more = one_more c.args.bytes.now c.loop-b.b-index c.loop-b-test.true in record {
      fits = omega (arith, so_far.fits, byte.fits);
      text = cc (put, more, so_far.text, byte.text, c.copy_from_slice.ensures.after);
    }

pub returns-clause-fits : goal.returns-clause-fits
returns-clause-fits c = omega (arith, c.loop-b.invariant.fits)
