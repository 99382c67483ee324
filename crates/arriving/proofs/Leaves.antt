-- By the header check, and where the next cell of an inlet lies. Assumes nothing.
use Rattle.std.specs.Prelude.{Err}
use Prim.Native.Nat.{ℕ, ◌+◌, ◌≤◌, ◌<◌}
use native.Mathlib.Omega.{arith}
use mathlib.Core.Path.{◌≡◌}
use mathlib.Core.Bool.{true, false}
use mathlib.Core.List.{List}
use lib.ListN.{get_or}
use Rattle.octets.specs.Octets.{four}
use Rattle.card.specs.declared.Card.{Card}
use Rattle.lookup.specs.Record.{record_at}
use Rattle.lookup.specs.Lookup.{sound_header, translated}
use Rattle.outlet.specs.declared.Ring.{Ring}
use Rattle.outlet.specs.Outlets.{RingFits}
use Rattle.store.specs.Rings.{tail}
use Rattle.store.specs.Places.{Inside, slot_at, inlet_slot}
use Rattle.store.proofs.Rounds.{back_lt}
use Rattle.store.proofs.Slots.{slot_inside}
use Rattle.shelf.specs.declared.Settings.{Settings}
use Rattle.answer.specs.declared.Arrival.TheVariants.{Hec}
use Rattle.arriving.specs.Arriving.{way_by, way_for}

-- by the header check
pub unheaded : (card : Card) (settings : Settings) (at : ℕ) (memory c : List ℕ) → sound_header (four c 0) (get_or c 4 0) ≡ false → Err Hec ≡ way_for card settings at memory c
unheaded card settings at memory c e = rw e

pub headed : (card : Card) (settings : Settings) (at : ℕ) (memory c : List ℕ) → sound_header (four c 0) (get_or c 4 0) ≡ true →
    way_by (translated (record_at card memory) settings.link settings.top at (four c 0)) ≡ way_for card settings at memory c
headed card settings at memory c e = rw e

-- the next place of the inlet lies in the store
pub inlet_inside : (place bytes : ℕ) (ring : Ring) → Inside place bytes → RingFits ring 4 → ring.count < 4 → slot_at place (inlet_slot (tail ring 4)) + 56 ≤ bytes
unfolding tail
inlet_inside place bytes ring inside fits h =
    let t = back_lt 4 (ring.head + ring.count) (omega (arith, fits.place (omega arith))) in
    let s = slot_inside place (inlet_slot (tail ring 4)) (omega (arith, t)) in
    omega (arith, s.1, inside)
