-- What is decided on the board is what the book commits: the same requests, in the same order.
-- In order: a step; a beginning; a call; a sequence.
-- Assumes nothing.
use Rattle.std.specs.Prelude.{Option, Some, None}
use Prim.Native.Nat.{ℕ, ◌+◌, ◌<◌, ◌≤◌}
use mathlib.Core.Path.{◌≡◌, refl, sym, ap, ap₂, ◌∙◌}
use mathlib.Core.Bool.{Bool, true, false, cond, not, ◌&&◌}
use mathlib.Core.List.{List, [], ◌∷◌, ◌++◌}
use native.Mathlib.Numerals.{lt_of_le_of_ne}
use native.Mathlib.Omega.{arith}
use lib.Dec.{eqb}
use lib.ListN.{length, get_or}
use borrow.Author.Tests.{eqb-false}
use Rattle.flash.specs.Flash.{Bytes}
use Rattle.requests.specs.Numbers.{pages_number}
use Rattle.plans.specs.declared.Entry.{Entry}
use Rattle.plans.specs.Plans.{nothing}
use Rattle.walks.specs.Walks.{steps_of}
use Rattle.model.specs.Calls.{Call, Answer, ByteCall, ByteCalls}
use Rattle.model.specs.Calls as C
use Rattle.model.specs.Board.{Hand, Board, powered, turn}
use Rattle.model.specs.Book as B
use Rattle.model.specs.Book.{
  Asked,
  data_of,
  Job,
  Book,
  Entered,
  opened,
  told,
  list_for,
  begin_number,
  job_of,
  begin_book,
  one_more,
  step_book,
  entry,
  begin_commits,
  step_commits,
  commits,
  committed,
  hearing,
}
use Rattle.model.specs.Decided.{
  is_made,
  is_begun,
  asked_of,
  at_commit,
  step_decides,
  begin_decides,
  decides,
  decided,
}
use Rattle.model.proofs.Agree.{Walking, Hands, Agree, list_at, follow}
use Rattle.model.proofs.Demand3.{opens}

-- ---- a step
-- the list of the walk in hand, worked out from the pages, is the one that the job counts by
pub same_list : (b : Board) (k : Book) (h : Hand) (j : Job) → Agree b k
    → (g : Walking k.page k.image b.left b.right h j)
    → steps_of h.walk b.left b.right h.held ≡ g.list
same_list b k h j a g = ap (list_at h.walk h.held) a.shows ∙ g.now_list

-- the entry at its place commits exactly if the next step is the deciding one
commit_here : (b : Board) (k : Book) (h : Hand) (j : Job) → Agree b k
    → (g : Walking k.page k.image b.left b.right h j) → j.made < length g.list
    → at_commit b h ≡ eqb (j.made + 1) j.commit
commit_here b k h j a g lt =
    let place : h.walk.place ≡ j.made = g.place in
    ap₂ (λ (xs : List Entry) (n : ℕ). (get_or xs n nothing).commits) (same_list b k h j a g) place
    ∙ g.flags j.made lt

-- what the book's step answers, by its tests
made_answer : (s t : Bool) (k : Book) (j : Job)
    → is_made
    (cond (not s) (B.entered (C.number 6) k) (cond t (B.entered C.ended k) (B.entered C.made (one_more k j)))).answer
    ≡ (s && not t)
made_answer false t k j = refl
made_answer true true k j = refl
made_answer true false k j = refl

and_right_same : (a b c : Bool) → (a ≡ true → b ≡ c) → (a && b) ≡ (a && c)
and_right_same true b c h = h refl
and_right_same false b c h = refl

step_same : (b : Board) (k : Book) (d : List ℕ) (h : Hand) (j : Job) → Agree b k
    → Walking k.page k.image b.left b.right h j
    → (turn b (C.step d)).answer ≡ (step_book k (Some j) d).answer → step_decides b (Some h) d ≡ step_commits (Some j) d
step_same b k d h j a g e =
    let s = eqb (length d) (length (data_of j.asked)) in
    let t = eqb j.total j.made in
    let answer : is_made (turn b (C.step d)).answer ≡ (s && not t) = ap is_made e ∙ made_answer s t k j in
    let flags : ((s && not t) && at_commit b h) ≡ ((s && not t) && eqb (j.made + 1) j.commit) =
    and_right_same (s && not t) (at_commit b h) (eqb (j.made + 1) j.commit)
    (λ q. commit_here b k h j a g (remains s t refl q)) in
    ap (λ (u : Bool). cond (u && at_commit b h) (asked_of h ∷ []) []) answer
    ∙ (λ i. cond (flags i) (g.asks i ∷ []) [])
    ∙ regroup s (not t) (eqb (j.made + 1) j.commit)
  where
    total : j.total ≡ length g.list
    total = g.total

    within : j.made ≤ length g.list
    within = g.within

    remains : (s t : Bool) → eqb j.total j.made ≡ t → (s && not t) ≡ true → j.made < length g.list
    remains true true p q = let z : ◌≡◌ {A = ℕ} 0 1 = cc in absurd (omega (arith, z))
    remains true false p q = lt_of_le_of_ne within (λ z. eqb-false j.total j.made p (total ∙ sym z))
    remains false t p q = let z : ◌≡◌ {A = ℕ} 0 1 = cc in absurd (omega (arith, z))

    regroup : (x y z : Bool)
        → cond ((x && y) && z) (j.asked ∷ []) [] ≡ cond (x && y && z) (j.asked ∷ []) []
    regroup x y z = refl

-- ---- a beginning
begin_same : (b : Board) (k : Book) (c : Call) (asked : Asked) (n : ℕ)
    → (turn b c).answer ≡ (begin_book k n asked (list_for asked b.left b.right)).answer
    → begin_decides b c asked ≡ begin_commits n asked (list_for asked b.left b.right)
begin_same b k c asked n e =
    let list = list_for asked b.left b.right in
    ap (λ (x : Answer). cond (is_begun x && eqb (length list) 0) (asked ∷ []) []) e ∙ go (eqb n 0)
  where
    list : List Entry
    list = list_for asked b.left b.right

    go : (t : Bool)
        → cond
        (is_begun
        (cond t
        (B.entered C.begun (record { page = k.page; image = k.image; job = Some (job_of asked list) }))
        (B.entered (C.number n) k)).answer
        && eqb (length list) 0)
        (asked ∷ []) []
        ≡ cond (t && eqb (length list) 0) (asked ∷ []) []
    go true = refl
    go false = refl

-- ---- a call
pub same_decided : (b : Board) (k : Book) (c : Call) → ByteCall c → Agree b k → decides b c ≡ commits k (told b c)
unfolding entry
same_decided b k (C.save o d) h a =
    begin_same b k (C.save o d) (B.save o d) (begin_number k.page (B.save o d)) (follow b k (C.save o d) h a).0
same_decided b k C.format h a =
    begin_same b k C.format B.format (begin_number k.page B.format) (follow b k C.format h a).0
same_decided b k (C.step d) h a = go b.hand k.job refl refl a.hands
  where
    go : (hand : Option Hand) (job : Option Job) → b.hand ≡ hand → k.job ≡ job
        → Hands k.page k.image b.left b.right hand job → step_decides b hand d ≡ step_commits job d
    go None None e f w = refl
    go None (Some j) e f w = absurd w
    go (Some x) None e f w = absurd w
    go (Some x) (Some j) e f w =
        step_same b k d x j a w
        ((follow b k (C.step d) tt a).0 ∙ ap (λ (q : Option Job). (step_book k q d).answer) f)
same_decided b k (C.read o n) h a = refl
same_decided b k (C.read_into o out) h a = refl
same_decided b k C.cut h a = refl

-- ---- a sequence
decided_same : (b : Board) (k : Book) (cs : List Call) → ByteCalls cs → Agree b k
    → decided b cs ≡ committed k (hearing b cs)
unfolding decided committed hearing
decided_same b k [] h a = refl
decided_same b k (c ∷ cs) h a =
    ap₂ ◌++◌ (same_decided b k c h.0 a)
    (decided_same (turn b c).board (entry k (told b c)).book cs h.1 (follow b k c h.0 a).1)

-- what the board decides is what the book commits
pub decided_committed : (l r : List ℕ) (calls : List Call) → pages_number (length l) (length r) ≡ 0 → Bytes l → Bytes r
    → ByteCalls calls
    → decided (powered l r) calls ≡ committed (opened l r) (hearing (powered l r) calls)
decided_committed l r calls e bl br bc = decided_same (powered l r) (opened l r) calls bc (opens l r e bl br)
