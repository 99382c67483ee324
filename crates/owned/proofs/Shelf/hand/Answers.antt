-- `Shelf::hand` meets its contract. Assumes nothing.
use Rattle.std.proofs.Common.{rules}
use Rattle.owned.proofs.Few.{hands_few}
use Rattle.owned.proofs.Shelf.hand.Goals as goal

pub returns-clause-leaves : goal.returns-clause-leaves
returns-clause-leaves c =
    let a = c.args in
    let s = c.args.self.now in
    let w = c.hand in
    hands_few s.rows s.lent c.within-n.result (search rules) c.within-n.ensures s.card s.state.now s.store.now a.unit a.cell.now w.result w.new.state w.new.store w.ensures
