use Rattle.std.proofs.Common.{sym, ap, ◌∙◌, add-zero, drop_of_length-le}
use Rattle.state.specs.Placing.{puts}
use Rattle.state.proofs.Placed.{puts_step, puts_none}
use Rattle.state.proofs.put_columns.Goals as goal

pub loop-k-init : goal.loop-k-init
loop-k-init c = let a = c.args in ap (λ n. puts a.s.now a.i n a.values.now) (sym (add-zero a.first))

pub loop-k-preserved : goal.loop-k-preserved
loop-k-preserved c = let a = c.args in c.loop-k.invariant ∙ puts_step c.loop-k.s a.values.now a.i a.first c.loop-k.k c.loop-k-test.true

pub returns : goal.returns
returns c = let a = c.args in sym (c.loop-k.invariant ∙ puts_none c.loop-k.s a.i _ _ (drop_of_length-le a.values.now c.loop-k-test.false))
