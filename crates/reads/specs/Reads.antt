-- The two reads (document 01, "Reading") and their numbers ("Numbers the board gives back": 1 to 4,
-- then 5).
-- In order: the number of each answer; the numbers of a read; the part handed back; the output
-- filled; where a read finds its bytes.
-- Not here: numbers 1 to 4 (the crate requests), which page is live (pages). Laws:
-- proofs/Laws.antt. Assumes nothing.
use Rattle.std.specs.Prelude.{Option, Some, None, Result, Ok, Err}
use Rattle.std.specs.Prelude.{ℕ, cond, List, [], eqb, length, take, drop}
use Rattle.flash.specs.Flash.{Outcome, erasure}
use Rattle.pages.specs.declared.Side.{Side}
use Rattle.pages.specs.declared.PageOffset.{PageOffset}
use Rattle.pages.specs.Pages.{on_side, status_of}
use Rattle.requests.specs.declared.Refusal.{Refusal}
use Rattle.requests.specs.Numbers.{number_of, request_number}
use Rattle.reads.specs.declared.ReadError.{ReadError}
use Rattle.reads.specs.declared.ReadError.TheVariants.{Refused, NoLive}

-- document 01's number for why a read gives nothing
abbrev pub error_number : ReadError → ℕ
error_number (Refused why) = number_of why
error_number NoLive = 5

-- and for how it is answered; 0 where the bytes are given
abbrev pub number_in : Result (Unit {0}) ReadError → ℕ
number_in (Ok given) = 0
number_in (Err error) = error_number error

-- 5: "a read, and the pair is line 0"
abbrev pub live_number : Option Side → ℕ
live_number None = 5
live_number (Some s) = 0

-- the number of a read: 1 to 4, then 5
unfoldable pub read_number : List ℕ → List ℕ → PageOffset → ℕ → ℕ
read_number l r o n = request_number (length l) (length r) o n (live_number (status_of l r).live)

-- the live page, or nothing
abbrev pub live_page : Option Side → List ℕ → List ℕ → List ℕ
live_page None l r = []
live_page (Some s) l r = on_side s l r

-- the first read: "the asked part of the live page itself", counted from byte 0 of the page; "empty
-- on every refusal"
unfoldable pub read_part : List ℕ → List ℕ → PageOffset → ℕ → List ℕ
read_part l r o n =
    cond (eqb (read_number l r o n) 0)
    (take n (drop o.0 (live_page (status_of l r).live l r)))
    []

-- what a lent output holds after a number: the asked bytes where none is given, FF after 5, else
-- what it held
unfoldable pub output_after : ℕ → List ℕ → List ℕ → List ℕ
output_after number asked out = cond (eqb number 0) asked (cond (eqb number 5) (erasure out) out)

-- the second read, its number and the output afterwards: "the length asked for is the output's own"
unfoldable pub filled : List ℕ → List ℕ → PageOffset → List ℕ → Outcome
filled l r o out =
    record {
      number = read_number l r o (length out);
      bytes = output_after (read_number l r o (length out)) (read_part l r o (length out)) out;
    }

-- where a read finds its bytes: its number, and the live side where there is none
pub record Located : Type 0 where
  pub number : ℕ
  pub live : Option Side

abbrev pub refused_by : Refusal → Located
refused_by why = record { number = number_of why; live = None }

abbrev pub none_live : Located
none_live = record { number = 5; live = None }

abbrev pub live_on : Side → Located
live_on s = record { number = 0; live = Some s }

abbrev pub found_in : Result Side ReadError → Located
found_in (Ok s) = live_on s
found_in (Err (Refused why)) = refused_by why
found_in (Err NoLive) = none_live

unfoldable pub located : List ℕ → List ℕ → PageOffset → ℕ → Located
located l r o n =
    record {
      number = read_number l r o n;
      live = cond (eqb (read_number l r o n) 0) (status_of l r).live None;
    }
