use mathlib.Core.Path.{refl}
use Rattle.meaning.specs.Told.{total}
use Rattle.table.proofs.begin.Goals as goal

pub returns : goal.returns
unfolding total
returns c = refl
