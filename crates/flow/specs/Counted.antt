-- Promise: the counters equal that history. Assumes nothing.
use Rattle.std.specs.Prelude.{ℕ, ◌+◌, ◌<◌, ◌≡◌, List, length}
use Rattle.line.specs.declared.Line.{Line}
use Rattle.document.specs.Events.{Event}
use Rattle.paper.specs.Counters.{Counter, arrived, sent, queued, full, clp, wide, taken, place_of, occurs}
use Rattle.document.specs.Shelf.{units_of, opened}
use Rattle.document.specs.Steps.{becomes}
use Rattle.flow.specs.Parts.{counted_at, arrived_at, addressed_at}
use Rattle.document.specs.Shelf.{in_all}
use Rattle.flow.specs.Lost.{Different, happened}
use Rattle.flow.specs.Order.{over, queued_all, taken_all, sent_all, control_sent, moved_all, loopback_sent, control_queued, collected_all, loopback_queued}

-- of the unit in place i: each of the thirteen says how often the events counted it there. Some of them in cells: those that arrived; were sent, data, control and loopback; were
-- queued; were taken, "leaving either outlet" too; and
-- "each copy on the bus meets exactly one fate at each unit it addresses"
pub record Counted (lines : List Line) (es : List Event) (i : ℕ) : Type 0 where
  pub each : (c : Counter) → happened (becomes (opened lines) es) i c ≡ occurs (over (λ d e. counted_at d e i) (opened lines) es) (place_of c)
  pub arrivals : happened (becomes (opened lines) es) i arrived ≡ length (over (λ d e. arrived_at d e i) (opened lines) es)
  pub frames :
      happened (becomes (opened lines) es) i sent ≡
      length (sent_all (opened lines) es i) + length (control_sent (opened lines) es i) + length (loopback_sent (opened lines) es i)
  pub copies :
      happened (becomes (opened lines) es) i queued ≡
      in_all (queued_all (opened lines) es i) + length (control_queued (opened lines) es i) + length (loopback_queued (opened lines) es i)
  pub cells :
      happened (becomes (opened lines) es) i taken ≡
      in_all (taken_all (opened lines) es i) + length (collected_all (opened lines) es i) + length (moved_all (opened lines) es i)
  pub fates :
      let d = becomes (opened lines) es in
      happened d i wide + happened d i full + happened d i clp + happened d i queued ≡ length (over (λ x e. addressed_at x e i) (opened lines) es)

abbrev pub CountersTrue : Type 0
CountersTrue = (lines : List Line) → Different (units_of lines) → (es : List Event) (i : ℕ) → i < length (units_of lines) → Counted lines es i
