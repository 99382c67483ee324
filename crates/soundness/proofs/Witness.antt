-- The examples are computed. Assumes nothing.
use Rattle.std.proofs.Common.{refl}
use Rattle.card.specs.Cards.{narrow_holds, holds}
use Rattle.outlet.specs.Outlets.{capacity, given, ring_fits, queue_fits, rings_fit}
use Rattle.soundness.specs.State.{every, among, none_repeated, roomy, settings_given, asks_known, arbiter_known, sound_of}
use Rattle.soundness.specs.Examples.{examples, Examples}

pub witnessed : Examples
unfolding narrow_holds holds capacity given ring_fits queue_fits rings_fit every among none_repeated roomy settings_given asks_known arbiter_known sound_of examples
witnessed = refl
