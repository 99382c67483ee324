-- What a card can hold. "Two cards: the narrow card keeps an outgoing VPI in one byte, the wide card in two. Everything else is common."
-- Assumes nothing.
use Rattle.std.specs.Prelude.{Bool, true, false, not, eqb, leb}
use Rattle.header.specs.declared.Link.TheVariants.{Uni, Nni}
use Rattle.card.specs.declared.Card.{Card}
use Rattle.card.specs.declared.Card.TheVariants.{Narrow, Wide}
use Rattle.card.specs.declared.Ask.{Ask}
use Rattle.card.specs.declared.Ask.TheVariants.{Bus, On, Out}

-- Wide, "narrow card only: `bus` 32, `nni`, or outgoing VPI above 255"
unfoldable pub narrow_holds : Ask → Bool
narrow_holds (Bus units) = not (eqb units 32)
narrow_holds (On Uni) = true
narrow_holds (On Nni) = false
narrow_holds (Out vpi) = leb vpi 255

unfoldable pub holds : Card → Ask → Bool
holds Wide ask = true
holds Narrow ask = narrow_holds ask
