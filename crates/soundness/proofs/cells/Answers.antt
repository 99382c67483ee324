use Rattle.std.proofs.Common.{arith}
use Rattle.soundness.proofs.cells.Goals as goal

pub returns : goal.returns
returns c = omega arith
