-- `owned::load` meets its contract. Assumes nothing.
use Rattle.std.proofs.Common.{◌∙◌, rules}
use Rattle.owned.proofs.Few.{loads_few}
use Rattle.owned.proofs.load.Goals as goal

pub returns : goal.returns
returns c =
    let a = c.args in
    let w = c.load-answer in
    let g = loads_few a.rows a.lent c.within-n.result (search rules) c.within-n.ensures a.card w.result w.new.rows a.text.now a.memory.now a.store.now w.new.memory w.new.state w.ensures in
    (c.joined.ensures.0 ∙ g.0, (g.1.0, (g.1.1.0, c.joined.ensures.1 ∙ g.1.1.1)))
