use Rattle.lookup.specs.Lookup.{sound_header}
use Rattle.lookup.proofs.sound.Goals as goal

pub returns : goal.returns
unfolding sound_header
returns c = rw c.check.ensures
