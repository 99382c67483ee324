use Rattle.outlet.specs.Taking.{marked, user_data, outgoing}
use mathlib.Core.Path.{ap, ◌∙◌}
use mathlib.Core.Bool.{◌&&◌}
use Rattle.header.specs.Fields.{word}
use Rattle.header.specs.declared.Header.{Header}
use Rattle.outlet.proofs.outgoing.Goals as goal

pub returns : goal.returns
unfolding outgoing
returns c =
    let a = c.args in
    let read = c.read-h.ensures in
    c.write.ensures
    ∙ (λ i. word a.link (record { gfc = 0; vpi = (read i).vpi; vci = (read i).vci; pt = (c.marked.ensures ∙ ap (λ (h : Header). marked (a.mark && user_data h.pt) h.pt) read) i; clp = (read i).clp }))
