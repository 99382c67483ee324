use Rattle.std.proofs.Common.{◌≡◌, true, sym, ap, ◌∙◌, Some, Ok}
use Rattle.shelf.specs.Shelves.{declared, find_in}
use Rattle.state.specs.Bytes.{shelf_in}
use Rattle.soundness.specs.Numbered.{place_in}
use Rattle.soundness.specs.Soundings.{sound_in}
use Rattle.soundness.proofs.InPlace.{unsound_in, stranger_in, misfit_in, comes_in}
use Rattle.soundness.proofs.Noted.{note_bad, note_good, note_nobody, note_place}
use Rattle.soundness.proofs.admit.Goals as goal
use Rattle.soundness.proofs.admit.Goals.{Else-note-eq0, Else-note-eq1}

pub returns-then-note-eq1 : goal.returns-then-note-eq1
returns-then-note-eq1 c =
    let a = c.args in
    sym (unsound_in a.card a.s.now a.store a.rows a.unit a.right (note_bad a.card a.s.now a.store a.rows a.unit _ c.look-note.ensures.value c.if-note-eq1.true))

good : (c : Else-note-eq1) → let a = c.args in sound_in a.card a.s.now a.store a.rows ≡ true
good c = let a = c.args in note_good a.card a.s.now a.store a.rows a.unit _ c.look-note.ensures.value c.if-note-eq1.false

there : (c : Else-note-eq0) → let look = c in let a = look.args in find_in (declared (shelf_in a.s.now)) a.unit ≡ Some (place_in look.look-note.result)
there c =
    let look = c in
    let a = look.args in
    note_place a.card a.s.now a.store a.rows a.unit _ look.look-note.ensures.value (note_good a.card a.s.now a.store a.rows a.unit _ c.look-note.ensures.value c.if-note-eq1.false) c.if-note-eq0.false

pub returns-then-note-eq0 : goal.returns-then-note-eq0
returns-then-note-eq0 c =
    let look = c in
    let a = look.args in
    let s = good (goal.at.returns-then-note-eq0 c).Else-note-eq1 in
    sym (stranger_in a.card a.s.now a.store a.rows a.unit a.right s (note_nobody a.card a.s.now a.store a.rows a.unit _ look.look-note.ensures.value s c.if-note-eq0.true))

pub returns-then-not-right : goal.returns-then-not-right
returns-then-not-right c =
    let a = c.args in
    sym (misfit_in a.card a.s.now a.store a.rows a.unit a.right (good (goal.at.returns-then-not-right c).Else-note-eq1) _ (there (goal.at.returns-then-not-right c).Else-note-eq0) (c.if-not-right.true))

pub returns : goal.returns
returns c =
    let found = c in
    let a = found.args in
    ap Ok c.place_of.ensures.0
    ∙ sym (comes_in a.card a.s.now a.store a.rows a.unit a.right (good (goal.at.returns c).Else-note-eq1) _ (there (goal.at.returns c).Else-note-eq0) (c.if-not-right.false))
