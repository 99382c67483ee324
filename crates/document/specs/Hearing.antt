-- 01's Hearing, and its Capacities; 02's control and loopback cells. Assumes nothing.
use Rattle.std.specs.Prelude.{ℕ, Bool, true, cond, ◌&&◌, List, [], ◌∷◌, ◌++◌, eqb, leb, length, take}
use Rattle.bus.specs.declared.Target as T
use Rattle.bus.specs.declared.Target.TheVariants as target
use Rattle.bus.specs.Frame.{heard, payload}
use Rattle.bus.specs.Heard as frame
use Rattle.outlet.specs.Outlets.{capacity}
use Rattle.outlet.specs.Hearing.{queue_of, limit, too_wide, bus_clp}
use Rattle.line.specs.declared.Line.{Line}
use Rattle.meaning.specs.Told.{hears_in}
use Rattle.answer.specs.declared.Hearing as A
use Rattle.answer.specs.declared.Hearing.TheVariants.{Damaged, Other, Wide, Full, Clp, Queued}
use Rattle.paper.specs.Counters.{hearing_counts}
use Rattle.document.specs.Counters.{entries}
use Rattle.document.specs.Shelf.{Unit, Shelf, number_of, queue_at, held, with_queue, with_control_out, with_loopback_out, unit_at, after}

-- "address 8 (unit, session, or 0 for broadcast)", "`mc` unit, session: the unit hears that session", "All declared units hear a broadcast, the
-- sender too."
unfoldable pub addressed : List Line → Unit → T.Target → Bool
addressed lines u (target.Unit number) = eqb (number_of u) number
addressed lines u (target.Session session) = hears_in lines (number_of u) session
addressed lines u target.All = true

-- "Then: VPI above 255 at a UNI unit, `wide`; queue at capacity, `full`; CLP 1 and the queue at its limit or above, `clp`; else `queued`."
unfoldable pub fate_in : Unit → ℕ → ℕ → A.Hearing
fate_in u q header =
    cond (too_wide u.settings.link header) Wide
    (cond (leb (capacity u.limits q) (held u q)) Full (cond (eqb (bus_clp header) 1 && leb (limit u.limits q) (held u q)) Clp Queued))

-- "a four-cell control outlet and a one-cell loopback outlet": a place for so many cells, "`full` if taken". "Neither cell meets `wide` or `clp`."
unfoldable pub room_in : ℕ → List (List ℕ) → A.Hearing
room_in most cells = cond (leb most (length cells)) Full Queued

-- "Bad parity .. is `damaged`. Not addressed: `other`". "Routing kind 3 now means control or loopback to one unit"
unfoldable pub hearing_of : List Line → Unit → frame.Heard → A.Hearing
hearing_of lines u frame.Length = Damaged
hearing_of lines u frame.Damaged = Damaged
hearing_of lines u (frame.Cell target class header) = cond (addressed lines u target) (fate_in u (queue_of u.limits class) header) Other
hearing_of lines u (frame.Control unit) = cond (eqb (number_of u) unit) (room_in 4 u.side.controlout) Other
hearing_of lines u (frame.Loopback unit) = cond (eqb (number_of u) unit) (room_in 1 u.side.loopbackout) Other

-- a cell on the bus: what it is heard as, its payload, and its 56 bytes before parity
pub record OnBus : Type 0 where
  pub heard : frame.Heard
  pub payload : List ℕ
  pub bytes : List ℕ

-- a queued copy stands behind the others in its queue: a data cell in that of its class, a control cell in the control outlet, a loopback cell in the loopback outlet
unfoldable pub placing : Unit → OnBus → frame.Heard → Unit
placing u x frame.Length = u
placing u x frame.Damaged = u
placing u x (frame.Cell target class header) =
    let q = queue_of u.limits class in with_queue u q (queue_at u q ++ (record { header = header; payload = x.payload } ∷ []))
placing u x (frame.Control unit) = with_control_out u (u.side.controlout ++ (x.bytes ∷ []))
placing u x (frame.Loopback unit) = with_loopback_out u (u.side.loopbackout ++ (x.bytes ∷ []))

-- the unit when it has heard a frame, with this fate
unfoldable pub keeping : A.Hearing → Unit → OnBus → Unit
keeping Damaged u x = u
keeping Other u x = u
keeping Wide u x = u
keeping Full u x = u
keeping Clp u x = u
keeping Queued u x = placing u x x.heard

abbrev pub hearing_unit : List Line → Unit → OnBus → Unit
hearing_unit lines u x = keeping (hearing_of lines u x.heard) u x

-- a frame handed in is heard "by the unit named with it"
abbrev pub as_handed : List ℕ → OnBus
as_handed f = record { heard = heard f; payload = payload f; bytes = take 56 f }

unfoldable pub handed_in : Shelf → ℕ → List ℕ → Shelf
handed_in shelf place f =
    let u = unit_at shelf place in
    after shelf place (hearing_unit shelf.lines u (as_handed f)) (entries (number_of u) (hearing_counts (hearing_of shelf.lines u (heard f))))
