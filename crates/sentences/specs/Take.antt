-- Take. Assumes nothing.
use Rattle.std.specs.Prelude.{ℕ, ◌+◌, ◌≡◌, List, [], ◌∷◌, length, None, Option, Some}
use Rattle.card.specs.declared.Card.{Card}
use Rattle.answer.specs.declared.Answer.TheVariants.{Taken, Empty}
use Rattle.paper.specs.Outlets.{queue_at, ring_at, cell_at, shorter}
use Rattle.paper.specs.Counters.{taken, RisenAt}
use Rattle.paper.specs.State.{unit_at, DeclaredAt}
use Rattle.paper.specs.Take.{Leaves, HandedOut}
use Rattle.document.specs.Events.{Event, take_cell, answers}
use Rattle.running.specs.Events.{World, Outcome}
use Rattle.sentences.specs.Changes.{with_unit, with_queue}

-- "`empty` with the buffer unchanged"
pub record TakesNone (w : World) (buffer : List ℕ) (o : Outcome) : Type 0 where
  pub said : o.said ≡ answers Empty
  pub world : o.world ≡ w
  pub bytes : o.bytes ≡ buffer

-- the oldest cell of a queue
pub record Takes (w : World) (place q : ℕ) (o : Outcome) : Type 0 where
  pub said : o.said ≡ answers Taken
  pub shelf :
      let u = unit_at w.shelf place in
      o.world.shelf ≡ with_unit w.shelf place (with_queue u q (shorter (ring_at u.outlet q) (queue_at u.outlet q).capacity))
  pub memory : o.world.memory ≡ w.memory
  pub store : o.world.store ≡ w.store
  pub rows : RisenAt w.rows place (taken ∷ []) o.world.rows
  pub bytes :
      let u = unit_at w.shelf place in
      HandedOut u (cell_at w.store place ((queue_at u.outlet q).first + (ring_at u.outlet q).head)) o.bytes

abbrev pub TakenFrom : World → ℕ → List ℕ → Option ℕ → Outcome → Type 0
TakenFrom w place buffer None o = TakesNone w buffer o
TakenFrom w place buffer (Some q) o = Takes w place q o

-- a buffer of 53 bytes
pub record TakenAt (w : World) (place : ℕ) (buffer : List ℕ) (o : Outcome) : Type 0 where
  pub queue : Option ℕ
  pub is : Leaves (unit_at w.shelf place).outlet queue
  pub only : (other : Option ℕ) → Leaves (unit_at w.shelf place).outlet other → other ≡ queue
  pub comes_to : TakenFrom w place buffer queue o

abbrev pub TakeRule : Card → World → (Event → Outcome) → Type 0
TakeRule card w comes = (unit place : ℕ) → DeclaredAt w.shelf unit place → (buffer : List ℕ) → length buffer ≡ 53 → TakenAt w place buffer (comes (take_cell unit buffer))
