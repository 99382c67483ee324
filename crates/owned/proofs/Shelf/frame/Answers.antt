-- `Shelf::frame` meets its contract. Assumes nothing.
use Rattle.std.proofs.Common.{rules}
use Rattle.owned.proofs.Few.{frames_few}
use Rattle.owned.proofs.Shelf.frame.Goals as goal

pub returns-clause-leaves : goal.returns-clause-leaves
returns-clause-leaves c =
    let a = c.args in
    let s = c.args.self.now in
    let w = c.frame-answer in
    frames_few s.rows s.lent c.within-n.result (search rules) c.within-n.ensures s.card w.result w.new.rows s.state.now s.store.now w.new.state a.buffer.now w.new.store w.new.buffer w.ensures
