-- `owned::take` meets its contract. Assumes nothing.
use Rattle.std.proofs.Common.{◌∙◌, rules}
use Rattle.owned.proofs.Few.{takes_few}
use Rattle.owned.proofs.take.Goals as goal

pub returns : goal.returns
returns c =
    let a = c.args in
    let w = c.take-answer in
    let g = takes_few a.rows a.lent c.within-n.result (search rules) c.within-n.ensures a.card w.result w.new.rows a.state.now a.store.now w.new.state a.unit a.buffer.now w.new.buffer w.ensures in
    (c.joined.ensures.0 ∙ g.0, (g.1.0, (g.1.1.0, c.joined.ensures.1 ∙ g.1.1.1)))
