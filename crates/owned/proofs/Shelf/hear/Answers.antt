-- `Shelf::hear` meets its contract. Assumes nothing.
use Rattle.std.proofs.Common.{rules}
use Rattle.owned.proofs.Few.{hears_few}
use Rattle.owned.proofs.Shelf.hear.Goals as goal

pub returns-clause-leaves : goal.returns-clause-leaves
returns-clause-leaves c =
    let a = c.args in
    let s = c.args.self.now in
    let w = c.hear-answer in
    hears_few s.rows s.lent c.within-n.result (search rules) c.within-n.ensures s.card w.result w.new.rows s.state.now s.store.now w.new.state a.unit a.frame.now w.new.store w.ensures
