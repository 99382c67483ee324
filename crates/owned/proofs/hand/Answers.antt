-- `owned::hand` meets its contract. Assumes nothing.
use Rattle.std.proofs.Common.{rules}
use Rattle.owned.proofs.Few.{hands_few}
use Rattle.owned.proofs.hand.Goals as goal

pub returns : goal.returns
returns c =
    let a = c.args in
    let w = c.hand in
    hands_few a.rows a.lent c.within-n.result (search rules) c.within-n.ensures a.card a.state.now a.store.now a.unit a.cell.now w.result w.new.state w.new.store w.ensures
