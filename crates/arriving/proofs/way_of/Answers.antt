use mathlib.Core.Path.{◌≡◌, sym}
use mathlib.Core.Bool.{true, false}
use lib.ListN.{get_or}
use Rattle.octets.specs.Octets.{four}
use Rattle.lookup.specs.Record.{record_at}
use Rattle.lookup.specs.Lookup.{sound_header, translated}
use Rattle.arriving.proofs.Leaves.{unheaded, headed}
use Rattle.arriving.specs.Arriving.{way_by}
use mathlib.Core.Path.{ap, ◌∙◌}
use Rattle.arriving.proofs.way_of.Goals as goal

pub returns-then-not-sound : goal.returns-then-not-sound
returns-then-not-sound c =
    let a = c.args in
    let e : sound_header (four a.cell.now 0) (get_or a.cell.now 4 0) ≡ false = ap (λ n. sound_header n (get_or a.cell.now 4 0)) (sym c.four-word.ensures) ∙ sym c.sound.ensures ∙ c.if-not-sound.true in
    unheaded a.card a.settings a.at a.memory.now a.cell.now e

pub returns : goal.returns
returns c =
    let a = c.args in
    let e : sound_header (four a.cell.now 0) (get_or a.cell.now 4 0) ≡ true = ap (λ n. sound_header n (get_or a.cell.now 4 0)) (sym c.four-word.ensures) ∙ sym c.sound.ensures ∙ c.if-not-sound.false in
    c.way_by.ensures
    ∙ ap way_by (c.translate.ensures ∙ ap (translated (record_at a.card a.memory.now) a.settings.link a.settings.top a.at) c.four-word.ensures)
    ∙ headed a.card a.settings a.at a.memory.now a.cell.now e
