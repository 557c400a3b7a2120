-- Beginning and stepping a walk (document 01, "Numbers the board gives back").
-- In order: a walk's new image and list of steps; the beginnings; number 6; a step; steps one after
-- another.
-- Not here: the list of steps of a request (the crate plans); an entry tried on the pages (tries).
-- Laws: proofs/. Assumes nothing.
use Rattle.std.specs.Prelude.{Option, Some, None, Result, Ok, Err}
use Rattle.pages.specs.declared.Side.{Side}
use Rattle.requests.specs.declared.Refusal.{Refusal}
use Rattle.std.specs.Prelude.{ℕ, zero, suc, ◌+◌, Bool, false, cond, not, ◌||◌, List, eqb, ltb, length, get_or}
use Rattle.pages.specs.declared.PageOffset.{PageOffset}
use Rattle.pages.specs.Pages.{live_of}
use Rattle.pages.specs.Offsets.{image_size}
use Rattle.requests.specs.Numbers.{number_of, pages_number, request_number}
use Rattle.steps.specs.Steps.{Tried}
use Rattle.images.specs.Images.{live_image, or_blank, laid_in}
use Rattle.plans.specs.declared.Request.{Request}
use Rattle.plans.specs.declared.Request.TheVariants.{Save, Format}
use Rattle.plans.specs.declared.Entry.{Entry}
use Rattle.walks.specs.declared.Walk.{Walk}
use Rattle.walks.specs.declared.Progress as P
use Rattle.walks.specs.declared.Progress.{Progress}
use Rattle.plans.specs.Plans.{plan, nothing}
use Rattle.lines.specs.Starts.{start_of}
use Rattle.tries.specs.Tries.{attempt}

-- ---- the new image, and the list of a walk
-- what the new image is made from: no image at line 0, else the live one
abbrev pub source : Option Side → Option (List ℕ) → Option (List ℕ)
source None image = None
source (Some s) image = image

-- "The new image is the live image, or all FF at line 0, with the data laid in at the offset", from
-- the live side at the beginning, P, the page offset, the data and the live image
abbrev pub new_image : Option Side → ℕ → PageOffset → List ℕ → Option (List ℕ) → List ℕ
new_image began p o d image = laid_in (or_blank (image_size p) (source began image)) o d

-- the list of steps of a walk, from the pages as they are and the data
abbrev pub steps_of : Walk → List ℕ → List ℕ → List ℕ → List Entry
steps_of w l r d =
    plan w.request w.start w.erased
    (new_image (live_of w.start) w.page w.offset d (live_image l r))

-- ---- beginning
-- "The walk keeps which kind of request it is, P, offset, length, the line and erased-or-not it
-- began with, and its place in the list."
abbrev pub first_walk : Request → List ℕ → List ℕ → PageOffset → ℕ → Walk
first_walk request l r o n =
    let start = start_of request l r in
    record {
      request = request;
      start = start.state;
      erased = start.erased;
      page = length l;
      offset = o;
      len = n;
      place = 0;
    }

-- what a beginning answers: a number, or a walk
pub data Beginning : Type 0 where
  refused : ℕ → Beginning
  begun : Walk → Beginning

-- document 01's number, or the walk, for each answer
abbrev pub beginning_in : Result Walk Refusal → Beginning
beginning_in (Err why) = refused (number_of why)
beginning_in (Ok w) = begun w

abbrev pub beginning : ℕ → Walk → Beginning
beginning number w = cond (eqb number 0) (begun w) (refused number)

-- "a save's length is that of its data"
unfoldable pub begin_save : List ℕ → List ℕ → PageOffset → List ℕ → Beginning
begin_save l r o d =
    beginning
    (request_number (length l) (length r) o (length d) 0)
    (first_walk Save l r o (length d))

-- "A format has no offset and can only meet 1": "it keeps offset 4 and length 0"
unfoldable pub begin_format : List ℕ → List ℕ → Beginning
begin_format l r =
    beginning
    (pages_number (length l) (length r))
    (first_walk Format l r (record { 0 = 4 }) 0)

-- ---- stepping
-- what a step answers: a number, that it is made, or that the walk has ended
pub data Said : Type 0 where
  number : ℕ → Said
  made : Said
  ended : Said

-- document 01's number, or its word, for each answer
abbrev pub said_in : Progress → Said
said_in P.TheVariants.Made = made
said_in P.TheVariants.Ended = ended
said_in P.TheVariants.Unfit = number 6

-- a step's answer, the walk handed back and both pages
pub record Outcome : Type 0 where
  pub said : Said
  pub walk : Walk
  pub left : List ℕ
  pub right : List ℕ

-- "A format's data is empty; it keeps offset 4 and length 0, and any others are number 6"
abbrev pub wrong_format : Request → PageOffset → ℕ → Bool
wrong_format Save o n = false
wrong_format Format o n = not (eqb o.0 4) || not (eqb n 0)

-- "the pages or kept numbers meet 1 to 4, .. or P or the data's length isn't the kept one"
unfoldable pub wrong_numbers : Walk → ℕ → ℕ → ℕ → Bool
wrong_numbers w p q n =
    not (eqb (request_number p q w.offset w.len 0) 0)
    || not (eqb p w.page)
    || not (eqb n w.len)
    || wrong_format w.request w.offset w.len

-- a walk at another place of its list
abbrev pub at_place : Walk → ℕ → Walk
at_place w place =
    record {
      request = w.request;
      start = w.start;
      erased = w.erased;
      page = w.page;
      offset = w.offset;
      len = w.len;
      place = place;
    }

-- "Stepping it hands back the walk at the next place"
abbrev pub advanced : Walk → Walk
advanced w = at_place w (w.place + 1)

-- "walk and pages kept"
abbrev pub kept : Said → Walk → List ℕ → List ℕ → Outcome
kept said w l r = record { said = said; walk = w; left = l; right = r }

-- what a walk's step answers, from the entry tried
unfoldable pub after : Walk → Tried → Outcome
after w t =
    cond (eqb t.number 0)
    (record { said = made; walk = advanced w; left = t.left; right = t.right })
    (kept (number 6) w t.left t.right)

-- the walk at its place in a list: "or the place lies beyond the list's end"; "or says that it has
-- ended and changes nothing"
unfoldable pub stepped : Walk → List Entry → List ℕ → List ℕ → Outcome
stepped w list l r =
    cond (ltb (length list) w.place)
    (kept (number 6) w l r)
    (cond (eqb (length list) w.place)
    (kept ended w l r)
    (after w (attempt (get_or list w.place nothing) l r)))

-- a step
unfoldable pub step_of : Walk → List ℕ → List ℕ → List ℕ → Outcome
step_of w l r d =
    cond (wrong_numbers w (length l) (length r) (length d))
    (kept (number 6) w l r)
    (stepped w (steps_of w l r d) l r)

-- ---- steps one after another
-- how far a walk was stepped: what the last step said, how many were made, the walk handed back and
-- both pages
pub record Course : Type 0 where
  pub said : Said
  pub steps : ℕ
  pub walk : Walk
  pub left : List ℕ
  pub right : List ℕ

-- of two things, the one for a step that was made or for one that wasn't
abbrev pub if_made : {A : Type 0} → Said → A → A → A
if_made made a b = a
if_made ended a b = b
if_made (number k) a b = b

abbrev pub one_more : Course → Course
one_more c =
    record {
      said = c.said;
      steps = 1 + c.steps;
      walk = c.walk;
      left = c.left;
      right = c.right;
    }

-- a walk stepped until a step isn't made, at most so many times; `made` is said where as many were
-- made as were asked for
unfoldable pub run_of : ℕ → Walk → List ℕ → List ℕ → List ℕ → Course
run_of zero w l r d = record { said = made; steps = 0; walk = w; left = l; right = r }
run_of (suc most) w l r d =
    let o = step_of w l r d in
    if_made o.said
    (one_more (run_of most o.walk o.left o.right d))
    (record { said = o.said; steps = 0; walk = o.walk; left = o.left; right = o.right })
