-- Hearing of a frame handed in. Assumes nothing.
use Rattle.std.specs.Prelude.{ℕ, ◌+◌, ◌≡◌, ◌≢◌, List, length, take}
use Rattle.card.specs.declared.Card.{Card}
use Rattle.shelf.specs.declared.Unit as U
use Rattle.answer.specs.declared.Answer.TheVariants.{Heard}
use Rattle.answer.specs.declared.Hearing as H
use Rattle.answer.specs.declared.Hearing.TheVariants as hearing
use Rattle.paper.specs.Outlets.{queue_at, ring_at, slot_at, behind, longer}
use Rattle.paper.specs.Counters.{hearing_counts, RisenAt}
use Rattle.paper.specs.State.{unit_at, DeclaredAt}
use Rattle.paper.specs.Hearing.{Waits, in_queue, in_control, in_loopback, waits_in, HearingIs}
use Rattle.document.specs.Events.{Event, hear, answers}
use Rattle.running.specs.Events.{World, Outcome}
use Rattle.sentences.specs.Changes.{with_unit, with_queue, with_side, with_cell}

-- a copy that is queued stands behind the others in the queue of its class, in the control outlet or in the loopback outlet: where in the store, and the unit with it
abbrev pub slot_in : U.Unit → ℕ → Waits → ℕ
slot_in u place (in_queue q) = slot_at place ((queue_at u.outlet q).first + behind (ring_at u.outlet q) (queue_at u.outlet q).capacity)
slot_in u place in_control = slot_at place (129 + behind u.side.controlout 4)
slot_in u place in_loopback = slot_at place 133

abbrev pub with_one : U.Unit → Waits → U.Unit
with_one u (in_queue q) = with_queue u q (longer (ring_at u.outlet q))
with_one u in_control = with_side u u.side.controlin u.side.loopbackin (longer u.side.controlout) u.side.loopbackout
with_one u in_loopback = with_side u u.side.controlin u.side.loopbackin u.side.controlout 1

abbrev pub slot_for : U.Unit → ℕ → List ℕ → ℕ
slot_for u place f = slot_in u place (waits_in u f)

abbrev pub with_copy : U.Unit → List ℕ → U.Unit
with_copy u f = with_one u (waits_in u f)

-- a frame of 57 bytes meets exactly one fate at the unit named with it; that fate is said and counted there, and nothing else changes but that a queued copy is held
pub record Hears (w : World) (place : ℕ) (f : List ℕ) (o : Outcome) : Type 0 where
  pub fate : H.Hearing
  pub is : HearingIs (unit_at w.shelf place) f fate
  pub only : (other : H.Hearing) → HearingIs (unit_at w.shelf place) f other → other ≡ fate
  pub said : o.said ≡ answers (Heard fate)
  pub memory : o.world.memory ≡ w.memory
  pub rows : RisenAt w.rows place (hearing_counts fate) o.world.rows
  pub bytes : o.bytes ≡ f
  pub same_shelf : fate ≢ hearing.Queued → o.world.shelf ≡ w.shelf
  pub same_store : fate ≢ hearing.Queued → o.world.store ≡ w.store
  pub held : fate ≡ hearing.Queued → o.world.shelf ≡ with_unit w.shelf place (with_copy (unit_at w.shelf place) f)
  pub stored : fate ≡ hearing.Queued → o.world.store ≡ with_cell w.store (slot_for (unit_at w.shelf place) place f) (take 56 f)

abbrev pub HearingRule : Card → World → (Event → Outcome) → Type 0
HearingRule card w comes = (unit place : ℕ) → DeclaredAt w.shelf unit place → (f : List ℕ) → length f ≡ 57 → Hears w place f (comes (hear unit f))
