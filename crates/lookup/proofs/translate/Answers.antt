use mathlib.Core.Path.{◌≡◌, sym, ap, ◌∙◌}
use Rattle.lookup.specs.Record.{record_at}
use Rattle.lookup.proofs.Laws.{no_path, above_top, by_record}
use Rattle.lookup.specs.Lookup.{by_got, by_fields, translated}
use Rattle.lookup.proofs.translate.Goals as goal

pub returns-then-h : goal.returns-then-h
unfolding translated
returns-then-h c =
    let a = c.args in
    let s = record_at a.card a.memory.now in
    let h = c.read-h.result in
    let e : translated s a.link a.top a.place a.word ≡ by_fields s a.top a.place h = ap (by_fields s a.top a.place) (sym c.read-h.ensures) in
    sym (e ∙ no_path s a.top a.place h c.if-h.true)

pub returns-then-top-h : goal.returns-then-top-h
unfolding translated
returns-then-top-h c =
    let a = c.args in
    let s = record_at a.card a.memory.now in
    let h = c.read-h.result in
    let e : translated s a.link a.top a.place a.word ≡ by_fields s a.top a.place h = ap (by_fields s a.top a.place) (sym c.read-h.ensures) in
    sym (e ∙ above_top s a.top a.place h c.if-h.false c.if-top-h.true)

pub returns-in_default : goal.returns-in_default
unfolding translated by_got
returns-in_default c =
    let a = c.args in
    let s = record_at a.card a.memory.now in
    let h = c.read-h.result in
    let e : translated s a.link a.top a.place a.word ≡ by_fields s a.top a.place h = ap (by_fields s a.top a.place) (sym c.read-h.ensures) in
    sym (e ∙ by_record s a.top a.place h c.if-h.false c.if-top-h.false ∙ ap (λ g. by_got s g h) (sym c.get.ensures ∙ c.in_default.is))

pub returns : goal.returns
unfolding translated by_got
returns c =
    let a = c.args in
    let s = record_at a.card a.memory.now in
    let h = c.read-h.result in
    let e : translated s a.link a.top a.place a.word ≡ by_fields s a.top a.place h = ap (by_fields s a.top a.place) (sym c.read-h.ensures) in
    c.by_vpi.ensures ∙ sym (e ∙ by_record s a.top a.place h c.if-h.false c.if-top-h.false ∙ ap (λ g. by_got s g h) (sym c.get.ensures ∙ c.in-Some.is))
