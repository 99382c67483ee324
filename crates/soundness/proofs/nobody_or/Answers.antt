use Rattle.soundness.proofs.Numbered.{nobody_in, nobody_out}
use Rattle.soundness.proofs.nobody_or.Goals as goal

pub returns-then-number-lt32 : goal.returns-then-number-lt32
returns-then-number-lt32 c = let a = c.args in nobody_in a.held.now a.number c.if-number-lt32.true

pub returns-else-number-lt32 : goal.returns-else-number-lt32
returns-else-number-lt32 c = let a = c.args in nobody_out a.held.now a.number c.told-held c.if-number-lt32.false
