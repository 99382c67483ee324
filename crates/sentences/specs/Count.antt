-- What a count answers. Assumes nothing.
use Rattle.std.specs.Prelude.{ℕ, ◌≡◌}
use Rattle.card.specs.declared.Card.{Card}
use Rattle.paper.specs.Counters.{row_at}
use Rattle.paper.specs.State.{DeclaredAt}
use Rattle.document.specs.Events.{Event, count, counts}
use Rattle.running.specs.Events.{World, Outcome}

-- "The counters of the units are a lent row of records, in `unit` line order": the row of the unit's place, and nothing changes
pub record Counts (w : World) (place : ℕ) (o : Outcome) : Type 0 where
  pub said : o.said ≡ counts (row_at w.rows place)
  pub world : o.world ≡ w

abbrev pub CountRule : Card → World → (Event → Outcome) → Type 0
CountRule card w comes = (unit place : ℕ) → DeclaredAt w.shelf unit place → Counts w place (comes (count unit))
