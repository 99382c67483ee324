use Rattle.taking.specs.Takes.{line_cell}
use mathlib.Core.Path.{ap, ◌∙◌}
use Rattle.octets.specs.Octets.{part}
use Rattle.outlet.specs.Taking.{outgoing}
use Rattle.taking.proofs.hand_out.Goals as goal

pub returns : goal.returns
returns c =
    let a = c.args in
    c.write_cell.ensures
    ∙ ap (λ h. line_cell h (part a.cell.now 8 48)) (c.outgoing-header.ensures ∙ (λ i. outgoing a.link (c.marks.ensures i) (c.four.ensures i)))
