-- `Shelf::load` meets its contract. Assumes nothing.
use Rattle.std.proofs.Common.{rules}
use Rattle.owned.proofs.Few.{loads_few}
use Rattle.owned.proofs.Shelf.load.Goals as goal

pub returns-clause-leaves : goal.returns-clause-leaves
returns-clause-leaves c =
    let a = c.args in
    let s = c.args.self.now in
    let w = c.load-answer in
    loads_few s.rows s.lent c.within-n.result (search rules) c.within-n.ensures s.card w.result w.new.rows a.text.now s.memory.now s.store.now w.new.memory w.new.state w.ensures
