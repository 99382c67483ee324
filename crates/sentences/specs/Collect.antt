-- 02's collect: "The processor .. takes from the control outlet (or `empty`), the 56 bytes before parity". Assumes nothing.
use Rattle.std.specs.Prelude.{ℕ, ◌+◌, ◌≤◌, ◌≡◌, List, [], ◌∷◌, length}
use Rattle.card.specs.declared.Card.{Card}
use Rattle.answer.specs.declared.Answer.TheVariants.{Taken, Empty}
use Rattle.paper.specs.Counters.{taken, RisenAt}
use Rattle.paper.specs.Outlets.{cell_at, shorter}
use Rattle.paper.specs.State.{unit_at, DeclaredAt}
use Rattle.document.specs.Events.{Event, collect, answers}
use Rattle.running.specs.Events.{World, Outcome}
use Rattle.sentences.specs.Changes.{with_unit, with_side}

-- the oldest cell of the control outlet, as it stands in the store; "leaving either outlet is `taken`"
pub record Collects (w : World) (place : ℕ) (o : Outcome) : Type 0 where
  pub said : o.said ≡ answers Taken
  pub shelf :
      let u = unit_at w.shelf place in
      o.world.shelf ≡ with_unit w.shelf place (with_side u u.side.controlin u.side.loopbackin (shorter u.side.controlout 4) u.side.loopbackout)
  pub memory : o.world.memory ≡ w.memory
  pub store : o.world.store ≡ w.store
  pub rows : RisenAt w.rows place (taken ∷ []) o.world.rows
  pub bytes : o.bytes ≡ cell_at w.store place (129 + (unit_at w.shelf place).side.controlout.head)

-- "(or `empty`)", with the buffer unchanged
pub record CollectsNone (w : World) (buffer : List ℕ) (o : Outcome) : Type 0 where
  pub said : o.said ≡ answers Empty
  pub world : o.world ≡ w
  pub bytes : o.bytes ≡ buffer

-- a buffer of 56 bytes at a declared unit
pub record CollectedAt (w : World) (place : ℕ) (buffer : List ℕ) (o : Outcome) : Type 0 where
  pub some : 1 ≤ (unit_at w.shelf place).side.controlout.count → Collects w place o
  pub none : (unit_at w.shelf place).side.controlout.count ≡ 0 → CollectsNone w buffer o

abbrev pub CollectRule : Card → World → (Event → Outcome) → Type 0
CollectRule card w comes =
    (unit place : ℕ) → DeclaredAt w.shelf unit place → (buffer : List ℕ) → length buffer ≡ 56 → CollectedAt w place buffer (comes (collect unit buffer))
