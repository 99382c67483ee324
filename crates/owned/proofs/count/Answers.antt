-- `owned::count` meets its contract. Assumes nothing.
use Rattle.std.proofs.Common.{rules}
use Rattle.owned.proofs.Few.{counts_few}
use Rattle.owned.proofs.count.Goals as goal

pub returns : goal.returns
returns c =
    let a = c.args in
    counts_few a.rows a.lent c.within-n.result (search rules) c.within-n.ensures a.card a.state.now a.store.now a.unit c.count.result c.count.ensures
