-- Promise: what is one unit's is no other's, and no cell goes out twice. Assumes nothing.
use Rattle.std.specs.Prelude.{ℕ, ◌<◌, ◌≤◌, ◌≡◌, Bool, List, length, Some}
use Rattle.line.specs.declared.Line.{Line}
use Rattle.paper.specs.Counters.{Counter}
use Rattle.document.specs.Events.{Event, named}
use Rattle.document.specs.Shelf.{Cell, Routed, Shelf, number_of, unit_at, units_of, opened}
use Rattle.document.specs.Steps.{happens_to}
use Rattle.flow.specs.Parts.{among, routed_at, meant_for}
use Rattle.flow.specs.Lost.{Different, happened}
use Rattle.flow.specs.Order.{over, taken_all, sent_all, handed_all, control_sent, moved_all, control_queued, collected_all, loopback_queued}

-- the inlet, the queues, the places beside them and the counters of the unit in place i are as they were
pub record Untouched (d d' : Shelf) (i : ℕ) : Type 0 where
  pub unit : unit_at d' i ≡ unit_at d i
  pub counters : (c : Counter) → happened d' i c ≡ happened d i c

-- "one handed in by the unit named with it": an event that names a unit touches no other
abbrev pub Isolation : Type 0
Isolation = (d : Shelf) → Different d.units → (e : Event) (unit i : ℕ) → named e ≡ Some unit → i < length d.units → (number_of (unit_at d i) ≡ unit → ⊥) → Untouched d (happens_to d e).shelf i

-- of the cells that meet a test, whatever it is, no more are sent than arrived and were routed, and no more leave a queue than came to it in frames that address the unit; no more
-- control cells are sent than were handed in, and no more are collected, or move, than came to that outlet
pub record Once (lines : List Line) (es : List Event) (i : ℕ) : Type 0 where
  pub cells : (test : Routed → Bool) → length (among test (sent_all (opened lines) es i)) ≤ length (among test (over (λ d e. routed_at d e i) (opened lines) es))
  pub copies : (q : ℕ) (test : Cell → Bool) →
      length (among test (taken_all (opened lines) es i q)) ≤ length (among test (over (λ d e. meant_for d e i q) (opened lines) es))
  pub controls : (test : List ℕ → Bool) → length (among test (control_sent (opened lines) es i)) ≤ length (among test (handed_all (opened lines) es i))
  pub collected : (test : List ℕ → Bool) → length (among test (collected_all (opened lines) es i)) ≤ length (among test (control_queued (opened lines) es i))
  pub turned : (test : List ℕ → Bool) → length (among test (moved_all (opened lines) es i)) ≤ length (among test (loopback_queued (opened lines) es i))

-- after every sequence of events, of every unit
abbrev pub OnceOnly : Type 0
OnceOnly = (lines : List Line) (es : List Event) (i : ℕ) → i < length (units_of lines) → Once lines es i
