-- 02's hand: "The processor hands in .. the 56 bytes before parity". Assumes nothing.
use Rattle.std.specs.Prelude.{ℕ, ◌≡◌, List, length}
use Rattle.card.specs.declared.Card.{Card}
use Rattle.answer.specs.declared.Answer.TheVariants.{Handed}
use Rattle.paper.specs.Outlets.{slot_at}
use Rattle.paper.specs.State.{unit_at, DeclaredAt}
use Rattle.document.specs.Events.{Event, hand, answers}
use Rattle.running.specs.Events.{World, Outcome}
use Rattle.sentences.specs.Changes.{with_unit, with_side, with_cell}

-- the place is free: the cell waits there, in slot 127 of the unit's part of the store; no counter rises, and nothing else changes
pub record Hands (w : World) (place : ℕ) (cell : List ℕ) (o : Outcome) : Type 0 where
  pub said : o.said ≡ answers Handed
  pub shelf :
      let u = unit_at w.shelf place in
      o.world.shelf ≡ with_unit w.shelf place (with_side u 1 u.side.loopbackin u.side.controlout u.side.loopbackout)
  pub store : o.world.store ≡ with_cell w.store (slot_at place 127) cell
  pub memory : o.world.memory ≡ w.memory
  pub rows : o.world.rows ≡ w.rows
  pub bytes : o.bytes ≡ cell

-- 56 bytes at a declared unit whose place is free; "11 Busy, place taken" is `RefusedRule`'s
abbrev pub HandRule : Card → World → (Event → Outcome) → Type 0
HandRule card w comes =
    (unit place : ℕ) → DeclaredAt w.shelf unit place → (unit_at w.shelf place).side.controlin ≡ 0 → (cell : List ℕ) → length cell ≡ 56 → Hands w place cell (comes (hand unit cell))
