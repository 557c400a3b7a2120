-- Demand 3: for every pair of pages of legal length and every sequence of calls, every answer is the book's.
-- Assumes nothing.
use Prim.Native.Nat.{ℕ}
use mathlib.Core.Path.{◌≡◌, refl, sym, ap₂}
use mathlib.Core.List.{List, [], ◌∷◌}
use lib.ListN.{length}
use Rattle.flash.specs.Flash.{Bytes}
use Rattle.requests.specs.Numbers.{pages_number}
use Rattle.requests.proofs.Laws.{legal_pages}
use Rattle.model.specs.Calls.{Call, ByteCalls}
use Rattle.model.specs.Board.{Board, powered, turn, answers, board_after}
use Rattle.model.specs.Book.{Book, opened, told, entry, book_answers, book_after, hearing}
use Rattle.model.proofs.Agree.{Agree, follow}

-- at first the board and the book agree
pub opens : (l r : List ℕ) → pages_number (length l) (length r) ≡ 0 → Bytes l → Bytes r
    → Agree (powered l r) (opened l r)
opens l r e h k =
    let p = legal_pages (length l) (length r) e in
    record {
      page = record { same = refl; even_page = p.even_page; least = p.least; most = p.most };
      left = refl;
      right = sym p.same;
      bytes_left = h;
      bytes_right = k;
      shows = refl;
      hands = tt;
    }

-- and through every sequence of calls
pub same_answers : (b : Board) (k : Book) (cs : List Call) → ByteCalls cs → Agree b k
    → answers b cs ≡ book_answers k (hearing b cs)
unfolding answers book_answers hearing
same_answers b k [] h a = refl
same_answers b k (c ∷ cs) h a =
    let f = follow b k c h.0 a in
    ap₂ ◌∷◌ f.0 (same_answers (turn b c).board (entry k (told b c)).book cs h.1 f.1)

pub still_agree : (b : Board) (k : Book) (cs : List Call) → ByteCalls cs → Agree b k
    → Agree (board_after b cs) (book_after k (hearing b cs))
unfolding board_after book_after hearing
still_agree b k [] h a = a
still_agree b k (c ∷ cs) h a =
    still_agree (turn b c).board (entry k (told b c)).book cs h.1 (follow b k c h.0 a).1

pub demand_3 : (l r : List ℕ) (calls : List Call) → pages_number (length l) (length r) ≡ 0 → Bytes l → Bytes r
    → ByteCalls calls → answers (powered l r) calls ≡ book_answers (opened l r) (hearing (powered l r) calls)
demand_3 l r calls e h k c = same_answers (powered l r) (opened l r) calls c (opens l r e h k)
