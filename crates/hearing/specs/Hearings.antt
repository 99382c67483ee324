-- What becomes of a heard frame at a unit. Assumes nothing.
use Rattle.std.specs.Prelude.{ℕ, Bool, true, cond, List, eqb, leb, length, take, Result}
use Rattle.bus.specs.declared.Target as T
use Rattle.bus.specs.declared.Target.TheVariants as target
use Rattle.bus.specs.Frame.{heard}
use Rattle.bus.specs.Heard as frame
use Rattle.card.specs.declared.Card.{Card}
use Rattle.outlet.specs.Outlets.{capacity, queue}
use Rattle.outlet.specs.declared.Outlet.{Outlet}
use Rattle.outlet.specs.Hearing.{queue_of, fate}
use Rattle.outlet.specs.declared.Fate as F
use Rattle.outlet.specs.declared.Fate.TheVariants as fates
use Rattle.store.specs.Rings.{tail, pushed}
use Rattle.store.specs.Places.{Cell, slot_at, outlet_slot, control_out_slot, loopback_out_slot, put_at}
use Rattle.shelf.specs.Sessions.{hears}
use Rattle.shelf.specs.Shelves.{number_of}
use Rattle.shelf.specs.declared.Unit as U
use Rattle.shelf.specs.Shelf.{Shelf}
use Rattle.answer.specs.declared.Hearing as A
use Rattle.answer.specs.declared.Hearing.TheVariants.{Damaged, Other, Wide, Full, Clp, Queued}
use Rattle.answer.specs.declared.Answer.TheVariants.{Heard}
use Rattle.answer.specs.Done.{Done}
use Rattle.answer.specs.Answers.{hearing_rises, row, ends, refused}
use Rattle.soundness.specs.Admission.{admitted, decided, unit_at, with_unit, with_queue, with_side}

-- a unit after it has heard a frame, and the fate of the frame there
pub record Copy : Type 0 where
  pub unit : U.Unit
  pub fate : A.Hearing

-- "address 8 (unit, session, or 0 for broadcast)", "`mc` unit, session: the unit hears that session", "All declared units hear a broadcast, the
-- sender too."
unfoldable pub addressed : U.Unit → T.Target → Bool
addressed u (target.Unit number) = eqb (number_of u) number
addressed u (target.Session session) = hears u.sessions session
addressed u target.All = true

-- a copy is queued in this queue, in the control outlet or in the loopback outlet, or lost with this fate
pub data Plan : Type 0 where
  Queue : ℕ → Plan
  ToControl : Plan
  ToLoopback : Plan
  Lost : A.Hearing → Plan

-- the four fates of a copy that is addressed to the unit
unfoldable pub plan_for : F.Fate → ℕ → Plan
plan_for fates.Wide q = Lost Wide
plan_for fates.Full q = Lost Full
plan_for fates.Clp q = Lost Clp
plan_for fates.Queued q = Queue q

-- what becomes of a copy of this class with this header that is addressed to the unit
abbrev pub plan_to : U.Unit → ℕ → ℕ → Plan
plan_to u class header = plan_for (fate u.outlet u.settings.link class header) (queue_of u.outlet.limits class)

-- 02, W1: "a four-cell control outlet and a one-cell loopback outlet", "`full` if taken"; "Neither cell meets `wide` or `clp`."
unfoldable pub plan_in : ℕ → ℕ → Plan → Plan
plan_in most count plan = cond (leb most count) (Lost Full) plan

abbrev pub plan_control : U.Unit → Plan
plan_control u = plan_in 4 u.side.controlout.count ToControl

abbrev pub plan_loopback : U.Unit → Plan
plan_loopback u = plan_in 1 u.side.loopbackout ToLoopback

-- "Bad parity .. is `damaged`. Not addressed: `other` .. Then: VPI above 255 at a UNI unit, `wide`; queue at capacity, `full`; CLP 1 and the
-- queue at its limit or above, `clp`; else `queued`."
unfoldable pub plan_of : U.Unit → frame.Heard → Plan
plan_of u frame.Length = Lost Damaged
plan_of u frame.Damaged = Lost Damaged
plan_of u (frame.Cell target class header) = cond (addressed u target) (plan_to u class header) (Lost Other)
plan_of u (frame.Control unit) = cond (eqb (number_of u) unit) (plan_control u) (Lost Other)
plan_of u (frame.Loopback unit) = cond (eqb (number_of u) unit) (plan_loopback u) (Lost Other)

-- the fate that a plan comes to
unfoldable pub fate_by : Plan → A.Hearing
fate_by (Queue q) = Queued
fate_by ToControl = Queued
fate_by ToLoopback = Queued
fate_by (Lost fate) = fate

-- a unit and a fate
abbrev pub copy_with : U.Unit → A.Hearing → Copy
copy_with u fate = record { unit = u; fate = fate }

-- where in the store the next cell of a queue goes, and the unit with one more there
abbrev pub slot_of : Outlet → ℕ → ℕ → ℕ
slot_of o place q = slot_at place (outlet_slot o.limits q (tail (queue o q) (capacity o.limits q)))

abbrev pub queued_up : U.Unit → ℕ → U.Unit
queued_up u q = with_queue u q (pushed (queue u.outlet q))

-- the same of the control outlet, and of the loopback outlet
abbrev pub controlled_up : U.Unit → U.Unit
controlled_up u =
    with_side u
    (record {
      controlin = u.side.controlin;
      loopbackin = u.side.loopbackin;
      controlout = pushed u.side.controlout;
      loopbackout = u.side.loopbackout;
    })

abbrev pub looped_up : U.Unit → U.Unit
looped_up u =
    with_side u
    (record { controlin = u.side.controlin; loopbackin = u.side.loopbackin; controlout = u.side.controlout; loopbackout = 1 })

-- the unit afterwards and the fate; a queued copy is behind the others in its queue
unfoldable pub copy_by : Plan → U.Unit → Copy
copy_by (Queue q) u = copy_with (queued_up u q) Queued
copy_by ToControl u = copy_with (controlled_up u) Queued
copy_by ToLoopback u = copy_with (looped_up u) Queued
copy_by (Lost fate) u = copy_with u fate

unfoldable pub store_by : Plan → U.Unit → ℕ → List ℕ → Cell → List ℕ
store_by (Queue q) u place store cell =
    put_at store place (outlet_slot u.outlet.limits q (tail (queue u.outlet q) (capacity u.outlet.limits q))) cell
store_by ToControl u place store cell = put_at store place (control_out_slot (tail u.side.controlout 4)) cell
store_by ToLoopback u place store cell = put_at store place loopback_out_slot cell
store_by (Lost fate) u place store cell = store

abbrev pub copy_of : U.Unit → frame.Heard → Copy
copy_of u h = copy_by (plan_of u h) u

abbrev pub store_of : U.Unit → frame.Heard → ℕ → List ℕ → Cell → List ℕ
store_of u h place store cell = store_by (plan_of u h) u place store cell

-- a frame handed in is heard "by the unit named with it"
abbrev pub heard_by : Copy → Shelf → ℕ → Done
heard_by copy shelf place = ends (Heard copy.fate) (with_unit shelf place copy.unit) (row place (hearing_rises copy.fate))

abbrev pub done_at : Shelf → ℕ → List ℕ → Done
done_at shelf place f = heard_by (copy_of (unit_at shelf place) (heard f)) shelf place

abbrev pub store_at : Shelf → ℕ → List ℕ → List ℕ → List ℕ
store_at shelf place store f = store_of (unit_at shelf place) (heard f) place store (take 56 f)

-- by the unit with a number, if it is let in
abbrev pub let_in : Card → Shelf → ℕ → ℕ → ℕ → List ℕ → Result ℕ ℕ
let_in card shelf store rows unit f = admitted card shelf store rows unit (eqb (length f) 57)

abbrev pub hear_done : Card → Shelf → ℕ → ℕ → ℕ → List ℕ → Done
hear_done card shelf store rows unit f = decided (let_in card shelf store rows unit f) (λ place. done_at shelf place f) (refused shelf)

abbrev pub hear_store : Card → Shelf → List ℕ → ℕ → ℕ → List ℕ → List ℕ
hear_store card shelf store rows unit f = decided (let_in card shelf (length store) rows unit f) (λ place. store_at shelf place store f) (λ number. store)
