-- A cut of the power: the walk is lost, on the board and in the book, and nothing else changes. So no step after it is a
-- call until a request is begun anew.
-- Assumes nothing.
use Rattle.std.specs.Prelude.{None}
use Prim.Native.Nat.{ℕ}
use mathlib.Core.Path.{◌≡◌, refl}
use mathlib.Core.List.{List}
use Rattle.model.specs.Calls as C
use Rattle.model.specs.Board.{Board, turn}
use Rattle.model.specs.Book as B
use Rattle.model.specs.Book.{Book, entry}

-- "A cut loses everything except the bytes of the two pages.": these stay, and a step answers nothing and changes nothing
pub record Lost (b : Board) (k : Book) (d : List ℕ) : Type 0 where
  pub hand : (turn b C.cut).board.hand ≡ None
  pub left : (turn b C.cut).board.left ≡ b.left
  pub right : (turn b C.cut).board.right ≡ b.right
  pub job : (entry k B.cut).book.job ≡ None
  pub page : (entry k B.cut).book.page ≡ k.page
  pub image : (entry k B.cut).book.image ≡ k.image
  pub step : (turn (turn b C.cut).board (C.step d)).answer ≡ C.nothing
  pub kept : (turn (turn b C.cut).board (C.step d)).board ≡ (turn b C.cut).board
  pub entered : (entry (entry k B.cut).book (B.step d)).answer ≡ C.nothing

pub cut_loses : (b : Board) (k : Book) (d : List ℕ) → Lost b k d
unfolding turn entry
cut_loses b k d =
    record {
      hand = refl;
      left = refl;
      right = refl;
      job = refl;
      page = refl;
      image = refl;
      step = refl;
      kept = refl;
      entered = refl;
    }
