-- The abstract model: document 01's book of demand 3, from that section by itself.
-- In order: what the book is told; what it holds; each call; a sequence of calls.
-- Assumes nothing.
use Rattle.std.specs.Prelude.{Option, Some, None}
use Rattle.std.specs.Prelude.{ℕ, zero, suc, ◌+◌, cond, not, ◌&&◌, List, [], ◌∷◌, ◌++◌, eqb, length, take, drop}
use Rattle.pages.specs.declared.PageOffset.{PageOffset}
use Rattle.pages.specs.Offsets.{image_size}
use Rattle.images.specs.Images.{live_image, or_blank, in_page, laid_in}
use Rattle.reads.specs.Reads.{output_after}
use Rattle.requests.specs.Numbers.{request_number, pages_number}
use Rattle.plans.specs.declared.Entry.{Entry}
use Rattle.plans.specs.declared.Request.TheVariants.{Save, Format}
use Rattle.walks.specs.Walks.{first_walk, steps_of}
use Rattle.model.specs.Calls.{Call, Answer}
use Rattle.model.specs.Calls as C
use Rattle.model.specs.Board.{Board, part_read, turn}

-- a request with its data
pub data Asked : Type 0 where
  save : PageOffset → List ℕ → Asked
  format : Asked

abbrev pub data_of : Asked → List ℕ
data_of (save o d) = d
data_of format = []

-- "the calls' arguments, of which it sees the pages at beginnings only"
pub data Told : Type 0 where
  begin : Asked → List ℕ → List ℕ → Told
  step : List ℕ → Told
  read : PageOffset → ℕ → Told
  read_into : PageOffset → List ℕ → Told
  cut : Told

abbrev pub told : Board → Call → Told
told b (C.save o d) = begin (save o d) b.left b.right
told b C.format = begin format b.left b.right
told b (C.step d) = step d
told b (C.read o n) = read o n
told b (C.read_into o out) = read_into o out
told b C.cut = cut

-- "for the walk in hand its request with the data, its total, its deciding place and the steps
-- made"
pub record Job : Type 0 where
  pub asked : Asked
  pub total : ℕ
  pub commit : ℕ
  pub made : ℕ

-- "It holds P, an image or none, and for the walk in hand .."
pub record Book : Type 0 where
  pub page : ℕ
  pub image : Option (List ℕ)
  pub job : Option Job

-- what a call answers, and the book after it
pub record Entered : Type 0 where
  pub answer : Answer
  pub book : Book

abbrev pub entered : Answer → Book → Entered
entered answer k = record { answer = answer; book = k }

-- "At first: the image of the live page, or none at line 0; no walk."
abbrev pub opened : List ℕ → List ℕ → Book
opened l r = record { page = length l; image = live_image l r; job = None }

-- "its list of steps for these pages"
abbrev pub list_for : Asked → List ℕ → List ℕ → List Entry
list_for (save o d) l r = steps_of (first_walk Save l r o (length d)) l r d
list_for format l r = steps_of (first_walk Format l r (record { 0 = 4 }) 0) l r []

-- the numbers of a beginning, to pages of length P
abbrev pub begin_number : ℕ → Asked → ℕ
begin_number p (save o d) = request_number p p o (length d) 0
begin_number p format = pages_number p p

-- the place of the deciding store in a list, "counted from 1 (0 if the list is empty)"
abbrev pub next : ℕ → ℕ
next zero = zero
next (suc n) = suc (suc n)

unfoldable pub commit_place : List Entry → ℕ
commit_place [] = 0
commit_place (x ∷ xs) = cond x.commits 1 (next (commit_place xs))

-- "Begin: if the numbers refuse it, that number, and nothing changes. Otherwise the request
-- replaces any former one. The total is the length of its list of steps for these pages, the
-- deciding place that of the deciding store in it .. Steps made: 0."
abbrev pub job_of : Asked → List Entry → Job
job_of asked list =
    record { asked = asked; total = length list; commit = commit_place list; made = 0 }

abbrev pub begin_book : Book → ℕ → Asked → List Entry → Entered
begin_book k number asked list =
    cond (eqb number 0)
    (entered C.begun
    (record { page = k.page; image = k.image; job = Some (job_of asked list) }))
    (entered (C.number number) k)

-- "a save lays its data into the image (all FF if none) and a format leaves none"
abbrev pub effect : ℕ → Asked → Option (List ℕ) → Option (List ℕ)
effect p (save o d) image = Some (laid_in (or_blank (image_size p) image) o d)
effect p format image = None

-- "Otherwise one more is made. If that is the deciding one, .."
abbrev pub next_job : Job → Job
next_job j =
    record { asked = j.asked; total = j.total; commit = j.commit; made = j.made + 1 }

abbrev pub one_more : Book → Job → Book
one_more k j =
    record {
      page = k.page;
      image =
          cond (eqb (j.made + 1) j.commit)
          (effect k.page j.asked k.image)
          k.image;
      job = Some (next_job j);
    }

-- "Step: with no walk it is no call and changes nothing. If the data hasn't the length of the
-- save's data (0 for a format): 6, nothing changes. If all steps are made: ended, nothing changes."
abbrev pub step_book : Book → Option Job → List ℕ → Entered
step_book k None d = entered C.nothing k
step_book k (Some j) d =
    cond (not (eqb (length d) (length (data_of j.asked))))
    (entered (C.number 6) k)
    (cond (eqb j.total j.made)
    (entered C.ended k)
    (entered C.made (one_more k j)))

-- "Read: 1 to 4 by the table; otherwise 5 if there is no image; otherwise the asked bytes of the
-- image, its first byte being page offset 4."
abbrev pub image_number : Option (List ℕ) → ℕ
image_number None = 5
image_number (Some image) = 0

abbrev pub read_book : Book → PageOffset → ℕ → ℕ
read_book k o n = request_number k.page k.page o n (image_number k.image)

abbrev pub asked_bytes : Option (List ℕ) → PageOffset → ℕ → List ℕ
asked_bytes None o n = []
asked_bytes (Some image) o n = take n (drop o.0 (in_page image))

-- each call in the book
unfoldable pub entry : Book → Told → Entered
entry k (begin asked l r) = begin_book k (begin_number k.page asked) asked (list_for asked l r)
entry k (step d) = step_book k k.job d
entry k (read o n) = entered (part_read (read_book k o n) (asked_bytes k.image o n)) k
entry k (read_into o out) =
    let n = read_book k o (length out) in
    entered (C.output n (output_after n (asked_bytes k.image o (length out)) out)) k
entry k cut = entered C.nothing (record { page = k.page; image = k.image; job = None })

-- the book's answers to a sequence, and the book after it
unfoldable pub book_answers : Book → List Told → List Answer
book_answers k [] = []
book_answers k (c ∷ cs) = (entry k c).answer ∷ book_answers (entry k c).book cs

unfoldable pub book_after : Book → List Told → Book
book_after k [] = k
book_after k (c ∷ cs) = book_after (entry k c).book cs

-- ---- the requests that make their deciding store, in order, and what they give one after another
-- a request with no steps: "its effect .. then counts as reached when it is begun"
abbrev pub begin_commits : ℕ → Asked → List Entry → List Asked
begin_commits number asked list = cond (eqb number 0 && eqb (length list) 0) (asked ∷ []) []

abbrev pub step_commits : Option Job → List ℕ → List Asked
step_commits None d = []
step_commits (Some j) d =
    cond
    (eqb (length d) (length (data_of j.asked)) && not (eqb j.total j.made)
    && eqb (j.made + 1) j.commit)
    (j.asked ∷ [])
    []

abbrev pub commits : Book → Told → List Asked
commits k (begin asked l r) = begin_commits (begin_number k.page asked) asked (list_for asked l r)
commits k (step d) = step_commits k.job d
commits k (read o n) = []
commits k (read_into o out) = []
commits k cut = []

unfoldable pub committed : Book → List Told → List Asked
committed k [] = []
committed k (c ∷ cs) = commits k c ++ committed (entry k c).book cs

unfoldable pub effects : ℕ → Option (List ℕ) → List Asked → Option (List ℕ)
effects p image [] = image
effects p image (x ∷ xs) = effects p (effect p x image) xs

-- what the book is told of a sequence of calls on a board
unfoldable pub hearing : Board → List Call → List Told
hearing b [] = []
hearing b (c ∷ cs) = told b c ∷ hearing (turn b c).board cs
