use mathlib.Core.Path.{refl}
use Rattle.shelf.specs.Sessions.{hears}
use Rattle.shelf.proofs.hears.Goals as goal

pub returns : goal.returns
unfolding hears
returns c = refl
