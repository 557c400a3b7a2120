-- `boards::make` meets its contract: each call is the one of the model. Assumes nothing.
use mathlib.Core.Path.{refl}
use Rattle.boards.specs.Boards.{board_in}
use Rattle.boards.specs.declared.Call.TheVariants.{Save, Format, Step, Read, ReadInto, Cut}
use Rattle.boards.proofs.Laws.{save_made, format_made, read_made, into_made, cut_made, of_call}
use Rattle.boards.proofs.make.Goals as goal

pub returns-in-Save : goal.returns-in-Save
returns-in-Save c =
    let b = board_in c.args.hand c.args.held.now c.args.left.now c.args.right.now in
    of_call c.args.call (Save _) c.begin.result c.begin.result b c.args.held.now c.args.«data».now _ _
    c.args.out.now _ c.in-Save.is refl
    (save_made _ c.args.hand c.save.result c.args.held.now c.args.«data».now c.args.left.now c.args.right.now
    c.args.out.now
    c.begin.result c.save.ensures c.begin.ensures)

pub returns-in-Format : goal.returns-in-Format
returns-in-Format c =
    let b = board_in c.args.hand c.args.held.now c.args.left.now c.args.right.now in
    of_call c.args.call Format c.begin-in-Format.result c.begin-in-Format.result b c.args.held.now c.args.«data».now _ _
    c.args.out.now _ c.in-Format.is refl
    (format_made c.args.hand c.format.result c.args.held.now c.args.«data».now c.args.left.now c.args.right.now
    c.args.out.now
    c.begin-in-Format.result c.format.ensures c.begin-in-Format.ensures)

pub returns-in-Step : goal.returns-in-Step
returns-in-Step c =
    let b = board_in c.args.hand c.args.held.now c.args.left.now c.args.right.now in
    of_call c.args.call (Step _) c.step.result
    c.step.result b c.args.held.now c.args.«data».now _ _ c.args.out.now _
    c.in-Step.is refl
    (c.step.ensures c.args.out.now)

pub returns-in-Read : goal.returns-in-Read
returns-in-Read c =
    let b = board_in c.args.hand c.args.held.now c.args.left.now c.args.right.now in
    of_call c.args.call (Read _ _) c.answered.result _ b c.args.held.now c.args.«data».now _ _ c.args.out.now _
    c.in-Read.is
    c.answered.ensures
    (read_made _ _ c.args.hand c.args.held.now c.args.«data».now c.args.left.now c.args.right.now c.args.out.now
    c.read.result
    c.read.ensures)

pub returns-in-ReadInto : goal.returns-in-ReadInto
returns-in-ReadInto c =
    let b = board_in c.args.hand c.args.held.now c.args.left.now c.args.right.now in
    of_call c.args.call (ReadInto _) c.answered-in-ReadInto.result _ b c.args.held.now c.args.«data».now _ _ c.args.out.now _
    c.in-ReadInto.is
    c.answered-in-ReadInto.ensures
    (into_made _ _ c.number_of.result c.args.hand c.args.held.now c.args.«data».now c.args.left.now
    c.args.right.now c.args.out.now _
    c.number_of.ensures c.read_into-reading.ensures)

pub returns-in-Cut : goal.returns-in-Cut
returns-in-Cut c =
    let b = board_in c.args.hand c.args.held.now c.args.left.now c.args.right.now in
    of_call c.args.call Cut c.answered-in-Cut.result _ b c.args.held.now c.args.«data».now _ _ c.args.out.now _
    c.in-Cut.is
    c.answered-in-Cut.ensures
    (cut_made c.args.hand c.emptied.result c.args.held.now c.args.«data».now c.args.left.now c.args.right.now
    c.args.out.now c.emptied.ensures)
