use Rattle.soundness.proofs.Words.{both}
use Rattle.soundness.proofs.eight_of.Goals as goal

pub returns : goal.returns
returns c = let a = c.args in both 4 a.each.now a.at _ _ (rw c.from.ensures c.four_of.ensures) (rw c.from-2.ensures c.four_of-2.ensures)
