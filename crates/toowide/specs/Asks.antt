-- What a line asks for that a narrow card does not hold. Wide, "narrow card only: `bus` 32, `nni`, or outgoing VPI above 255". Assumes nothing.
use Rattle.std.specs.Prelude.{cond, Ok, Err, Option, Some, None}
use Rattle.card.specs.Cards.{narrow_holds}
use Rattle.card.specs.declared.Ask.{Ask}
use Rattle.card.specs.declared.Ask.TheVariants.{Bus as A-as-Bus, On, Out}
use Rattle.line.specs.declared.Line.{Line}
use Rattle.line.specs.declared.Line.TheVariants.{Bus, Unit as L-as-Unit, Vp, Drop, Page, Vc, Mc}
use Rattle.line.specs.Lines.{Reading}

-- what a line asks of a card: a bus, a link or an outgoing VPI
unfoldable pub ask_of : Line → Option Ask
ask_of (Bus bus) = Some (A-as-Bus bus)
ask_of (L-as-Unit settings limits) = Some (On settings.link)
ask_of (Vp a b target class outvpi) = Some (Out outvpi)
ask_of (Drop a b) = None
ask_of (Page a b top) = None
ask_of (Vc a b c target class outvpi outvci) = Some (Out outvpi)
ask_of (Mc a session) = None

-- if a narrow card does not hold it
unfoldable pub beyond : Option Ask → Option Ask
beyond (Some ask) = cond (narrow_holds ask) None (Some ask)
beyond None = None

-- a line that cannot be read asks nothing
unfoldable pub asked : Reading → Option Ask
asked (Ok l) = beyond (ask_of l)
asked (Err wrong) = None
