-- `owned::hear` meets its contract. Assumes nothing.
use Rattle.std.proofs.Common.{◌∙◌, rules}
use Rattle.owned.proofs.Few.{hears_few}
use Rattle.owned.proofs.hear.Goals as goal

pub returns : goal.returns
returns c =
    let a = c.args in
    let w = c.hear-answer in
    let g = hears_few a.rows a.lent c.within-n.result (search rules) c.within-n.ensures a.card w.result w.new.rows a.state.now a.store.now w.new.state a.unit a.frame.now w.new.store w.ensures in
    (c.joined.ensures.0 ∙ g.0, (g.1.0, (g.1.1.0, c.joined.ensures.1 ∙ g.1.1.1)))
