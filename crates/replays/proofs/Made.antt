-- An item as the code makes it: one call of the engine, its answers and its output.
-- In order: what the engine left; the room for the answers; the replay after it.
-- Assumes nothing.
use Rattle.std.specs.Prelude.{Option}
use Rattle.walks.specs.declared.Walk.{Walk}
use Prim.Native.Nat.{ℕ, ◌+◌, ◌-◌, ◌≤◌}
use mathlib.Core.Path.{◌≡◌, sym, ap, subst, ◌∙◌}
use mathlib.Core.List.{List, ◌++◌}
use native.Mathlib.Omega.{arith}
use lib.ListN.{length, length-append}
use borrow.Rule.Slice.PartMut.{mid_of, put_mid}
use Rattle.images.specs.Images.{overlaid}
use Rattle.images.proofs.Overlay.{length_overlaid}
use Rattle.model.specs.Calls.{Call}
use Rattle.model.specs.Board.{answers, board_after}
use Rattle.model.specs.Orders.{held_in, calls_of}
use Rattle.boards.specs.declared.Answer.{Answer}
use Rattle.boards.specs.declared.Turn.{Turn}
use Rattle.boards.specs.Boards.{hand_in, board_in, held_after, turn_in, made_on}
use Rattle.scripts.specs.declared.Item.{Item}
use Rattle.scripts.specs.Scripts.{item_in}
use Rattle.replays.specs.Answers.{encoded}
use Rattle.replays.specs.Runs.{last_in, replies_in, Making, making_of, Written, written, Run, made, ordered}
use Rattle.replays.proofs.Output.{lent_back, lent_filled, written_before}
use Rattle.replays.proofs.Turns.{Done}
use Rattle.replays.proofs.Items.{calls_here, Promised, job_done, item_calls}
use Rattle.replays.proofs.Room.{item_fits, lends}

-- the bytes of the answers
abbrev replies : Making → Turn → List ℕ → List ℕ → List ℕ
replies job t l r = replies_in job.times t.made (last_in t job.times) l r

-- ---- what the engine left
-- an output that has room
pub output_room : (at m : ℕ) (d : List ℕ) (job : Making) (item : Item) → job ≡ making_of item d
    → at + (item_in item).room ≤ m → (at + job.lead ≤ m) × (at + job.lead + length job.output ≤ m)
output_room at m d job item e h =
    let j = subst (λ (x : Making). at + x.lead + length x.output ≤ m) (sym e) (lends at m d item h) in
    (omega arith, j)

-- after a call for an item, to which a part of the output was lent
pub record Left (at : ℕ) (job : Making) (t : Turn) (hand : Option Walk) (held : List ℕ) (item : Item)
    (l r l' r' out after out' : List ℕ) : Type 0 where
  pub done : Done job t (board_in hand held l r) held l' r' out'
  pub calls : calls_here job ≡ calls_of (hand_in hand held) (item_in item).order
  pub size : length out' ≡ length job.output
  pub lent : at + job.lead + length job.output ≤ length out
  pub laid : after ≡ overlaid out (at + job.lead) out'
  pub same : length after ≡ length out
  pub room : at + length (replies job t l' r') + length job.output ≤ length out

pub left_by : (at end : ℕ) (job : Making) (t : Turn) (hand : Option Walk) (held : List ℕ) (item : Item)
    (l r l' r' out out₁ out' : List ℕ) → job ≡ making_of item (held_in (hand_in hand held))
    → at + (item_in item).room ≤ length out
    → ◌≡◌ {A = Written} (record { out = out₁; at = end }) (written out (at + job.lead) job.output)
    → (let start = at + job.lead in
    let size = end - (at + job.lead) in
    length out' ≡ length (mid_of start size out₁)
    → turn_in job.call t held job.bytes l' r' out'
    ≡ made_on job.call (board_in hand held l r) job.bytes (mid_of start size out₁)
    → Left at job t hand held item l r l' r' out (put_mid start size out₁ out') out')
left_by at end job t hand held item l r l' r' out out₁ out' ej room e₁ k e =
    let d = held_in (hand_in hand held) in
    let start = at + job.lead in
    let given = job.output in
    let b = board_in hand held l r in
    let lent : at + job.lead + length job.output ≤ length out =
    (output_room at (length out) d job item ej room).1 in
    let to : end ≡ at + job.lead + length job.output = ap (λ (w : Written). w.at) e₁ in
    let here : out₁ ≡ overlaid out start given = ap (λ (w : Written). w.out) e₁ in
    let n : end - (at + job.lead) ≡ length job.output = omega arith in
    let back : mid_of start (end - start) out₁ ≡ given = lent_back out given out₁ start (end - start) n lent here in
    let size : length out' ≡ length job.output = k ∙ ap length back in
    let laid : put_mid start (end - start) out₁ out' ≡ overlaid out start out' =
    lent_filled out given out₁ out' start (end - start) n lent here size in
    let promised : Promised job t hand held l r l' r' out' =
    e ∙ ap (made_on job.call (board_in hand held l r) job.bytes) back in
    let done : Done job t (board_in hand held l r) held l' r' out' =
    subst
    (λ (j : Making). length out' ≡ length j.output → Promised j t hand held l r l' r' out'
    → Done j t (board_in hand held l r) held l' r' out')
    (sym ej) (job_done item d t hand held l r l' r' out') size promised in
    let calls : calls_here job ≡ calls_of (hand_in hand held) (item_in item).order =
    ap calls_here ej ∙ item_calls hand held item in
    let bytes = replies job t l' r' in
    let all : length (encoded (answers b (calls_of b.hand (item_in item).order))) ≡ length (bytes ++ out') =
    ap (λ (cs : List Call). length (encoded (answers b cs))) (sym calls) ∙ ap length done.bytes in
    let both : length (bytes ++ out') ≡ length bytes + length out' = length-append bytes out' in
    let fits = item_fits b item in
    record {
      done = done;
      calls = calls;
      size = size;
      lent = lent;
      laid = laid;
      same = ap length laid ∙ length_overlaid out start out' (omega arith);
      room = omega arith;
    }

-- ---- the room for the answers
pub left_room : {at : ℕ} {job : Making} {t : Turn} {hand : Option Walk} {held : List ℕ} {item : Item}
    {l r l' r' out after out' : List ℕ} (last : Answer) → Left at job t hand held item l r l' r' out after out'
    → last ≡ last_in t job.times → at + length (replies_in job.times t.made last l' r') ≤ length after
left_room {at = at} {job = job} {t = t} {l' = l'} {r' = r'} last z e =
    let n : length (replies_in job.times t.made last l' r') ≡ length (replies job t l' r') =
    ap (λ (a : Answer). length (replies_in job.times t.made a l' r')) e in
    let room = z.room in
    let same = z.same in
    omega arith

pub left_end : {at : ℕ} {job : Making} {t : Turn} {hand : Option Walk} {held : List ℕ} {item : Item}
    {l r l' r' out after out' : List ℕ} (last : Answer) (w : Written)
    → Left at job t hand held item l r l' r' out after out' → last ≡ last_in t job.times
    → w ≡ written after at (replies_in job.times t.made last l' r') → w.at + length job.output ≤ length out
left_end {at = at} {job = job} {t = t} {l' = l'} {r' = r'} last w z e ew =
    let n : w.at ≡ at + length (replies job t l' r') =
    ap (λ (y : Written). y.at) ew
    ∙ ap (λ (a : Answer). at + length (replies_in job.times t.made a l' r')) e in
    let room = z.room in
    omega arith

-- ---- the replay after it
pub left_run : {at : ℕ} {job : Making} {t : Turn} {hand : Option Walk} {held : List ℕ} {item : Item}
    {l r l' r' out after out' : List ℕ} (last : Answer) (next : List ℕ) (w : Written)
    → Left at job t hand held item l r l' r' out after out' → last ≡ last_in t job.times
    → next ≡ held_after last job.bytes held → w ≡ written after at (replies_in job.times t.made last l' r')
    → ◌≡◌ {A = Run}
    (record {
      board = board_in t.hand next l' r';
      output = record { out = w.out; at = w.at + length job.output };
    })
    (ordered (item_in item).order
    (record { board = board_in hand held l r; output = record { out = out; at = at } }))
left_run {at} {job} {t} {hand} {held} {item} {l} {r} {l'} {r'} {out} {after} {out'} last next w z e en ew =
    let b = board_in hand held l r in
    let start : Run = record { board = b; output = record { out = out; at = at } } in
    let room = z.room in
    let output =
    written_before out (replies job t l' r') out' at job.lead (length job.output) w z.size (omega arith) z.lent
    z.done.place
    (ew ∙ (λ i. written (z.laid i) at (replies_in job.times t.made (e i) l' r'))) in
    let board : board_in t.hand next l' r' ≡ board_after b (calls_here job) =
    ap (λ (y : List ℕ). board_in t.hand y l' r') (en ∙ ap (λ (a : Answer). held_after a job.bytes held) e)
    ∙ z.done.board in
    (λ i. record { board = board i; output = (output ∙ ap (written out at) (sym z.done.bytes)) i })
    ∙ ap (λ (cs : List Call). made cs start) z.calls
