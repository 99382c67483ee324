use mathlib.Core.Path.{ap, ◌∙◌}
use Rattle.octets.specs.Octets.{be2, be4, splice}
use Rattle.bus.proofs.Laws.{composed}
use Rattle.bus.proofs.compose.Goals as goal

pub returns : goal.returns
returns c =
    let s = c in
    let a = s.args in
    c.copy.ensures
    ∙ ap (λ b. splice b 8 a.payload.now)
    (c.put_four.ensures
    ∙ ap (λ b. splice b 4 (be4 a.header)) (c.put_two-2.ensures ∙ ap (λ b. splice b 2 (be2 0)) c.put_two.ensures))
    ∙ composed a.routing a.header a.payload.now a.bytes.now s.requires s.told-bytes
