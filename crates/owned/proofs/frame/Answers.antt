-- `owned::frame` meets its contract. Assumes nothing.
use Rattle.std.proofs.Common.{◌∙◌, rules}
use Rattle.owned.proofs.Few.{frames_few}
use Rattle.owned.proofs.frame.Goals as goal

pub returns : goal.returns
returns c =
    let a = c.args in
    let w = c.frame-answer in
    let g = frames_few a.rows a.lent c.within-n.result (search rules) c.within-n.ensures a.card w.result w.new.rows a.state.now a.store.now w.new.state a.buffer.now w.new.store w.new.buffer w.ensures in
    (c.joined.ensures.0 ∙ g.0, (g.1.0, (g.1.1.0, (g.1.1.1.0, c.joined.ensures.1 ∙ g.1.1.1.1))))
