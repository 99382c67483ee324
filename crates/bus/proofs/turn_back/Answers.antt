use mathlib.Core.Path.{ap, ◌∙◌}
use Rattle.octets.specs.Octets.{be2, splice}
use Rattle.bus.proofs.Laws.{turned}
use Rattle.bus.proofs.turn_back.Goals as goal

pub returns : goal.returns
returns c =
    let b = c.args.cell.now in
    c.put_two.ensures ∙ ap (λ r. splice b 0 (be2 r)) c.control_to.ensures ∙ turned b
