-- What a line of a script asks for (docs/FORMATS.md, "replay"): lines and words are lists of bytes.
-- In order: the call of a line; what that is in the words of docs/FORMATS.md.
-- Not here: lines, words, digits and numbers (the crate texts); making the calls (the crates boards and replay).
-- Laws: proofs/Laws.antt, proofs/Right.antt.
-- Assumes nothing.
use Rattle.std.specs.Prelude.{ℕ, ◌%◌, Bool, cond, List, [], ◌∷◌, eqb, leb, length, Option, Some, None, Result, Ok, Err}
use Rattle.pages.specs.declared.PageOffset.{PageOffset}
use Rattle.digits.specs.declared.Fault.{Fault}
use Rattle.digits.specs.declared.Fault.TheVariants.{
  UnknownWord,
  NoNumber,
  NotNumber,
  PastBits,
  OddDigits,
  NotHex,
  TooLong,
  ExtraWord,
}
use Rattle.texts.specs.Texts.{word_at, same}
use Rattle.digits.specs.Digits.{number_of, all_hex}
use Rattle.asks.specs.declared.Call.{Call}
use Rattle.asks.specs.declared.Call as C
use Rattle.asks.specs.declared.Wrong.{Wrong}

-- ---- the call of a line
abbrev pub is_empty : List ℕ → Bool
is_empty s = eqb (length s) 0

-- the words that a line may have, as they are spelled
abbrev pub save_word : List ℕ
save_word = 115 ∷ (97 ∷ (118 ∷ (101 ∷ [])))

abbrev pub format_word : List ℕ
format_word = 102 ∷ (111 ∷ (114 ∷ (109 ∷ (97 ∷ (116 ∷ [])))))

abbrev pub step_word : List ℕ
step_word = 115 ∷ (116 ∷ (101 ∷ (112 ∷ [])))

abbrev pub read_word : List ℕ
read_word = 114 ∷ (101 ∷ (97 ∷ (100 ∷ [])))

abbrev pub copy_word : List ℕ
copy_word = 99 ∷ (111 ∷ (112 ∷ (121 ∷ [])))

abbrev pub cut_word : List ℕ
cut_word = 99 ∷ (117 ∷ (116 ∷ []))

abbrev pub with_word : List ℕ
with_word = 119 ∷ (105 ∷ (116 ∷ (104 ∷ [])))

abbrev pub all_word : List ℕ
all_word = 97 ∷ (108 ∷ (108 ∷ []))

-- a fault of the word of a number
abbrev pub wrong_at : {A : Type 0} → Fault → ℕ → Result A Wrong
wrong_at fault n = Err (record { fault = fault; word = n })

-- what a line has that has no word of a number, which would be one too many
unfoldable pub ended_by : {A : Type 0} → ℕ → List ℕ → A → Result A Wrong
ended_by n line value = cond (is_empty (word_at n line)) (Ok value) (wrong_at ExtraWord n)

-- a call with bytes, "two hexadecimal digits a byte, at most 4,096": word 2 has them, the last
unfoldable pub with_digits : List ℕ → List ℕ → Call → Result Call Wrong
with_digits digits line call =
    cond (all_hex digits)
    (cond (eqb (length digits % 2) 0)
    (cond (leb (length digits) 8192)
    (ended_by 3 line call)
    (wrong_at TooLong 2))
    (wrong_at OddDigits 2))
    (wrong_at NotHex 2)

unfoldable pub with_bytes : List ℕ → Call → Result Call Wrong
with_bytes line call = with_digits (word_at 2 line) line call

-- what a line has by the number that is a word of it, or the fault of that word
abbrev pub by_number : {A : Type 0} → Result ℕ Fault → ℕ → (ℕ → Result A Wrong) → Result A Wrong
by_number (Ok value) n call = call value
by_number (Err fault) n call = wrong_at fault n

abbrev pub with_number : {A : Type 0} → ℕ → List ℕ → (ℕ → Result A Wrong) → Result A Wrong
with_number n line call = by_number (number_of (word_at n line)) n call

-- a number that is a page offset
abbrev pub at : ℕ → PageOffset
at offset = record { 0 = offset }

-- `save OFFSET HEX`
unfoldable pub save_of : List ℕ → Result Call Wrong
save_of line = with_number 1 line (λ offset. with_bytes line (C.TheVariants.Save (at offset)))

-- `step`, `step with HEX`, `step all` and `step N`, by word 1
unfoldable pub steps_of : List ℕ → List ℕ → Result Call Wrong
steps_of count line =
    cond (is_empty count) (Ok (C.TheVariants.Steps 1))
    (cond (same count with_word) (with_bytes line C.TheVariants.StepWith)
    (cond (same count all_word) (ended_by 2 line (C.TheVariants.Steps 4294967295))
    (by_number (number_of count) 1 (λ steps. ended_by 2 line (C.TheVariants.Steps steps)))))

unfoldable pub step_of : List ℕ → Result Call Wrong
step_of line = steps_of (word_at 1 line) line

-- the part of `read OFFSET LENGTH` and `copy OFFSET LENGTH`, with the most that LENGTH may be
unfoldable pub part_of : ℕ → List ℕ → Result (PageOffset × ℕ) Wrong
part_of most line =
    with_number 1 line (λ offset.
    with_number 2 line (λ size.
    cond (leb size most)
    (ended_by 3 line (at offset, size))
    (wrong_at TooLong 2)))

-- the call that a part is for
abbrev pub part_call : (PageOffset → ℕ → Call) → Result (PageOffset × ℕ) Wrong → Result Call Wrong
part_call call (Ok part) = Ok (call part.0 part.1)
part_call call (Err wrong) = Err wrong

-- the call of a line by its name
unfoldable pub named_of : List ℕ → List ℕ → Result Call Wrong
named_of name line =
    cond (same name save_word) (save_of line)
    (cond (same name format_word) (ended_by 1 line C.TheVariants.Format)
    (cond (same name step_word) (step_of line)
    (cond (same name read_word) (part_call C.TheVariants.Read (part_of 4294967295 line))
    (cond (same name copy_word) (part_call C.TheVariants.Copy (part_of 4096 line))
    (cond (same name cut_word) (ended_by 1 line C.TheVariants.Cut)
    (wrong_at UnknownWord 0))))))

-- a line with a name asks for its call
abbrev pub some_call : Result Call Wrong → Result (Option Call) Wrong
some_call (Ok call) = Ok (Some call)
some_call (Err wrong) = Err wrong

-- the call of a line that begins with its first word, its name, or the first fault from the left
unfoldable pub call_of : List ℕ → Result (Option Call) Wrong
call_of line = cond (is_empty (word_at 0 line)) (Ok None) (some_call (named_of (word_at 0 line) line))

-- ---- what a line asks for, in the words of docs/FORMATS.md
-- the faults, by their place in its table ("What is wrong with an input")
abbrev pub fault_in : Fault → ℕ
fault_in UnknownWord = 1
fault_in NoNumber = 2
fault_in NotNumber = 3
fault_in PastBits = 4
fault_in OddDigits = 5
fault_in NotHex = 6
fault_in TooLong = 7
fault_in ExtraWord = 8

-- nothing; "begin a save of these bytes"; "begin a format"; so many steps "with the held data"; "one
-- step with these bytes"; "read a part"; "read into an output of LENGTH bytes that holds 00"; "cut the
-- power"; or a fault and the word that has it
pub data Asks : Type 0 where
  nothing : Asks
  save : PageOffset → Asks
  format : Asks
  steps : ℕ → Asks
  step_with : Asks
  read : PageOffset → ℕ → Asks
  read_into : PageOffset → ℕ → Asks
  cut : Asks
  wrong : ℕ → ℕ → Asks

abbrev pub call_in : Call → Asks
call_in (C.TheVariants.Save o) = save o
call_in C.TheVariants.Format = format
call_in (C.TheVariants.Steps n) = steps n
call_in C.TheVariants.StepWith = step_with
call_in (C.TheVariants.Read o n) = read o n
call_in (C.TheVariants.Copy o n) = read_into o n
call_in C.TheVariants.Cut = cut

abbrev pub asks_in : Result (Option Call) Wrong → Asks
asks_in (Ok None) = nothing
asks_in (Ok (Some call)) = call_in call
asks_in (Err wrong_word) = wrong (fault_in wrong_word.fault) wrong_word.word

unfoldable pub asks_of : List ℕ → Asks
asks_of line = asks_in (call_of line)
