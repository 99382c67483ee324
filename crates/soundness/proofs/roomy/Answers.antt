use Rattle.std.proofs.Common.{refl}
use Rattle.soundness.specs.State.{roomy}
use Rattle.soundness.proofs.roomy.Goals as goal

pub returns : goal.returns
unfolding roomy
returns c = refl
