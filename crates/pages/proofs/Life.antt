-- The table by the life of a board: from two blank words, document 01's marks and blankings one after another, lead
-- through its lines in the order of their numbers, 1 to 10 (4 is 1 again) and back to 3. Every row is met there with
-- its words, its number and its live side, so a row changed in the table, in a state's number or in its live side is
-- refused here, though the code changed alike.
-- In order: what changes a word; the life; that each moment's line and live side are those of the table; no other row.
-- Assumes nothing.
use Rattle.std.specs.Prelude.{Option, Some}
use Prim.Native.Nat.{ℕ, ◌+◌, ◌*◌, ◌/◌, ◌%◌}
use mathlib.Core.Path.{◌≡◌, refl}
use mathlib.Core.List.{List, [], ◌∷◌}
use lib.ListN.{length}
use Rattle.pages.specs.declared.Side.{Side}
use Rattle.pages.specs.declared.Side.TheVariants.{Left, Right}
use Rattle.pages.specs.Pages.{on_side, table, look, standing}

-- ---- what changes a word
-- "Program a cell", cell 0 or cell 2 of the page on a side, to a number; "Blank a page"
pub data Change : Type 0 where
  cell_zero : Side → ℕ → Change
  cell_two : Side → ℕ → Change
  blanked : Side → Change

-- the words of LEFT and RIGHT
pub record Words : Type 0 where
  pub left : ℕ
  pub right : ℕ

-- cell 0 is the lower half of a word, cell 2 the upper one
abbrev pub with_zero : ℕ → ℕ → ℕ
with_zero v word = word / 65536 * 65536 + v

abbrev pub with_two : ℕ → ℕ → ℕ
with_two v word = v * 65536 + word % 65536

abbrev pub on_words : Side → (ℕ → ℕ) → Words → Words
on_words s f w = record { left = on_side s (f w.left) w.left; right = on_side s w.right (f w.right) }

abbrev pub changed : Change → Words → Words
changed (cell_zero s v) w = on_words s (with_zero v) w
changed (cell_two s v) w = on_words s (with_two v) w
changed (blanked s) w = on_words s (λ word. 0xFFFFFFFF) w

-- ---- the life of a board
pub record Moment : Type 0 where
  pub change : Change
  pub line : ℕ
  pub live : Option Side

abbrev pub then : Change → ℕ → Side → Moment
then change line side = record { change = change; line = line; live = Some side }

abbrev pub life : List Moment
life =
    -- the first save: "LEFT cell 0 to 0000 (the deciding store); RIGHT cell 2 to FF00; RIGHT cell 0 to 0000"
    then (cell_zero Left 0x0000) 1 Left
    ∷ then (cell_two Right 0xFF00) 2 Left
    ∷ then (cell_zero Right 0x0000) 3 Left
    -- a save with LEFT live: "Blank the page that isn't live"; "Program its cell 0 to FF00. This is the deciding store.";
    -- "Program cell 2 of the formerly live page to FF00, then cell 0 of the new page to 0000"
    ∷ then (blanked Right) 1 Left
    ∷ then (cell_zero Right 0xFF00) 5 Right
    ∷ then (cell_two Left 0xFF00) 6 Right
    ∷ then (cell_zero Right 0x0000) 7 Right
    -- a save with RIGHT live, the same with the sides changed over: "The pair is now line 7 or line 3."
    ∷ then (blanked Left) 8 Right
    ∷ then (cell_zero Left 0xFF00) 9 Left
    ∷ then (cell_two Right 0xFF00) 10 Left
    ∷ then (cell_zero Left 0x0000) 3 Left
    ∷ []

-- ---- the table tells every moment of it
abbrev pub Lived : Words → List Moment → Type 0
Lived w [] = Unit {0}
Lived w (x ∷ xs) =
    let next = changed x.change w in
    (standing (look table next.left next.right) ≡ (record { line = x.line; live = x.live })) × Lived next xs

abbrev pub blank : Words
blank = record { left = 0xFFFFFFFF; right = 0xFFFFFFFF }

pub lived : Lived blank life
unfolding look
lived = (refl, (refl, (refl, (refl, (refl, (refl, (refl, (refl, (refl, (refl, (refl, tt)))))))))))

-- and has no other row
pub nine_rows : length table ≡ 9
nine_rows = refl
