-- A script of calls as bytes (docs/FORMATS.md, "A script of calls as bytes").
-- In order: what a script is made of; the call at its start; the whole script, checked.
-- Not here: making the calls (the crate replays). Laws: proofs/Laws.antt. Assumes nothing.
use Rattle.std.specs.Prelude.{ℕ, zero, suc, ◌+◌, ◌-◌, Bool, true, cond, ◌&&◌, List, [], ◌∷◌, eqb, ltb, leb, length, get_or, take, drop, Option, None, Some, Result, Ok, Err}
use Rattle.pages.specs.declared.PageOffset.{PageOffset}
use Rattle.pages.specs.Pages.{word_of}
use Rattle.model.specs.Calls as C
use Rattle.model.specs.Orders.{Order, one, held}
use Rattle.scripts.specs.declared.Item.{Item}
use Rattle.scripts.specs.declared.Item as I
use Rattle.scripts.specs.declared.ScriptError.{ScriptError}
use Rattle.scripts.specs.declared.ScriptError as E

-- the first call of a script: what it orders, how many bytes of the script it takes, and how many
-- bytes of the output its answers take at most
pub record First : Type 0 where
  pub order : Order
  pub size : ℕ
  pub room : ℕ

-- four bytes as a number, "lowest byte first": read as a management word is
abbrev pub number_at : List ℕ → ℕ → ℕ
number_at s i = word_of (drop i s)

-- a number that is a page offset
abbrev pub at : ℕ → PageOffset
at a = record { 0 = a }

-- a call of nine bytes; "other than 0 where the table says 0" is malformed
abbrev pub short : Bool → Order → ℕ → Option First
short legal order room =
    cond legal (Some (record { order = order; size = 9; room = room })) None

-- a call with B bytes of its own, "cut short by the script's end" if there aren't as many
abbrev pub long : Bool → Order → ℕ → ℕ → List ℕ → Option First
long legal order room b own =
    cond (legal && leb b (length own))
    (Some (record { order = order; size = 9 + b; room = room }))
    None

-- "1 + B; 1 where B is above 4,092", since no read of more is legal
abbrev pub part_room : ℕ → ℕ
part_room b = cond (leb b 4092) (1 + b) 1

-- the table of kinds: kind, A, B and the bytes after them
unfoldable pub kind_of : ℕ → ℕ → ℕ → List ℕ → Option First
kind_of kind a b own =
    cond (eqb kind 1) (long true (one (C.save (at a) (take b own))) 1 b own)
    (cond (eqb kind 2) (short (eqb a 0 && eqb b 0) (one C.format) 1)
    (cond (eqb kind 3) (short (eqb b 0) (held a) a)
    (cond (eqb kind 4) (long (eqb a 0) (one (C.step (take b own))) 1 b own)
    (cond (eqb kind 5) (short true (one (C.read (at a) b)) (part_room b))
    (cond (eqb kind 6) (long true (one (C.read_into (at a) (take b own))) (2 + b) b own)
    (cond (eqb kind 7) (short (eqb a 0 && eqb b 0) (one C.cut) 1)
    None))))))

-- the call at the start of a script
unfoldable pub first_of : List ℕ → Option First
first_of s =
    cond (ltb (length s) 9)
    None
    (kind_of (get_or s 0 0) (number_at s 1) (number_at s 5) (drop 9 s))

-- the call that each case of the code's enum stands for
abbrev pub item_in : Item → First
item_in (I.TheVariants.Save o d) =
    record { order = one (C.save o d.now); size = 9 + length d.now; room = 1 }
item_in I.TheVariants.Format = record { order = one C.format; size = 9; room = 1 }
item_in (I.TheVariants.Steps n) = record { order = held n; size = 9; room = n }
item_in (I.TheVariants.StepWith d) =
    record { order = one (C.step d.now); size = 9 + length d.now; room = 1 }
item_in (I.TheVariants.Read o n) =
    record { order = one (C.read o n); size = 9; room = part_room n }
item_in (I.TheVariants.ReadInto o out) =
    record {
      order = one (C.read_into o out.now);
      size = 9 + length out.now;
      room = 2 + length out.now;
    }
item_in I.TheVariants.Cut = record { order = one C.cut; size = 9; room = 1 }

-- ---- the whole script
-- what a check of a script finds: its orders, or the place of the first call that is malformed or
-- has no room
pub data Findings : Type 0 where
  orders : List Order → Findings
  malformed : ℕ → Findings
  no_room : ℕ → Findings

-- status and place: "0" where the script is whole, "1" with the byte at which the first malformed
-- call begins, "2" with that of the first whose answers have no room
pub record Report : Type 0 where
  pub status : ℕ
  pub place : ℕ

abbrev pub found : Findings → Report
found (orders xs) = record { status = 0; place = 0 }
found (malformed place) = record { status = 1; place = place }
found (no_room place) = record { status = 2; place = place }

-- and those of each answer of a check
abbrev pub verdict_in : Result (Unit {0}) ScriptError → Report
verdict_in (Ok x) = record { status = 0; place = 0 }
verdict_in (Err (E.TheVariants.Malformed place)) = record { status = 1; place = place }
verdict_in (Err (E.TheVariants.NoRoom place)) = record { status = 2; place = place }

-- a call before what is found of the rest
abbrev pub before : Order → Findings → Findings
before x (orders xs) = orders (x ∷ xs)
before x (malformed at) = malformed at
before x (no_room at) = no_room at

abbrev pub judged : Option First → ℕ → ℕ → Findings → Findings
judged None at room rest = malformed at
judged (Some f) at room rest = cond (ltb room f.room) (no_room at) (before f.order rest)

abbrev pub size_of : Option First → ℕ
size_of None = 0
size_of (Some f) = f.size

abbrev pub room_of : Option First → ℕ
room_of None = 0
room_of (Some f) = f.room

-- a script from a place on, where so many bytes of the call before are still to be passed over and
-- so many bytes of the output are left
unfoldable pub checked_from : ℕ → ℕ → ℕ → List ℕ → Findings
checked_from over at room [] = orders []
checked_from (suc over) at room (x ∷ xs) = checked_from over (at + 1) room xs
checked_from zero at room (x ∷ xs) =
    let f = first_of (x ∷ xs) in
    judged f at room (checked_from (size_of f - 1) (at + 1) (room - room_of f) xs)

-- "The whole script is checked first, from its start."
abbrev pub checked : List ℕ → ℕ → Findings
checked s room = checked_from 0 0 room s
