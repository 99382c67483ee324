-- The places of queued cells in the lent store. "A bus frame is 57 bytes": a queued cell is its 56 bytes before parity. "cell store below
-- 8,192 bytes a declared unit": each has a part of 8,192. Assumes nothing.
use Rattle.std.specs.Prelude.{ℕ, ◌+◌, ◌*◌, ◌≤◌, List, [], ◌∷◌, get_or}
use Rattle.octets.specs.Octets.{splice, part}
use Rattle.outlet.specs.Outlets.{capacity}
use Rattle.outlet.specs.declared.Mode.{Mode}
use Rattle.outlet.specs.declared.Mode.TheVariants.{One, Four}
use Rattle.outlet.specs.declared.Limits.{Limits}
use Rattle.outlet.specs.declared.Ring.{Ring}
use Rattle.store.specs.Rings.{in_ring}

-- The parts stand in `unit` line order. Where the part of the unit in a place starts, and where a slot of 56 bytes in it does; a part has 146
unfoldable pub part_of : ℕ → ℕ
part_of place = 8192 * place

unfoldable pub slot_at : ℕ → ℕ → ℕ
slot_at place slot = part_of place + 56 * slot

-- the part of the unit in a place lies in a store of so many bytes
abbrev pub Inside : ℕ → ℕ → Type 0
Inside place bytes = part_of place + 8192 ≤ bytes

-- The slot where each queue of an outlet starts, one after the other: "mode `one`, 123 .. Mode `four`: class 0 holds 2, CBR its length, VBR 89
-- less the CBR length, ABR 32". After the outlet's 123 slots the inlet has four
abbrev pub starts : Mode → ℕ → List ℕ
starts One cbrlength = 0 ∷ []
starts Four cbrlength = 0 ∷ 2 ∷ (2 + cbrlength) ∷ 91 ∷ []

unfoldable pub start : Limits → ℕ → ℕ
start limits q = get_or (starts limits.mode limits.cbrlength) q 123

-- the slot of a place of a queue's ring, and of the inlet's
abbrev pub outlet_slot : Limits → ℕ → ℕ → ℕ
outlet_slot limits q p = start limits q + p

abbrev pub inlet_slot : ℕ → ℕ
inlet_slot p = 123 + p

-- 02, W1: behind the inlet the control cell and the loopback cell that wait there, the four places of the control outlet, the loopback outlet
abbrev pub control_in_slot : ℕ
control_in_slot = 127

abbrev pub loopback_in_slot : ℕ
loopback_in_slot = 128

abbrev pub control_out_slot : ℕ → ℕ
control_out_slot p = 129 + p

abbrev pub loopback_out_slot : ℕ
loopback_out_slot = 133

abbrev pub Cell : Type 0
Cell = List ℕ

-- the cell in a slot, and the store with a cell in a slot
unfoldable pub cell_at : List ℕ → ℕ → ℕ → Cell
cell_at store place slot = part store (slot_at place slot) 56

unfoldable pub put_at : List ℕ → ℕ → ℕ → Cell → List ℕ
put_at store place slot cell = splice store (slot_at place slot) cell

-- the cells of a ring whose places are the slots from `base` on of the unit in a place
unfoldable pub cells : List ℕ → ℕ → ℕ → ℕ → Ring → List Cell
cells store place base capacity ring = in_ring (λ p. cell_at store place (base + p)) capacity ring

-- the cells of queue q of the unit in a place, which has these limits, and those of its inlet, the oldest first
abbrev pub outlet_cells : List ℕ → ℕ → Limits → ℕ → Ring → List Cell
outlet_cells store place limits q ring = cells store place (start limits q) (capacity limits q) ring

abbrev pub inlet_cells : List ℕ → ℕ → Ring → List Cell
inlet_cells store place ring = cells store place 123 4 ring

-- those of its control outlet; and those of a single place, in this slot, of which there are so many, 0 or 1
abbrev pub control_cells : List ℕ → ℕ → Ring → List Cell
control_cells store place ring = cells store place 129 4 ring

abbrev pub single : ℕ → Ring
single count = record { head = 0; count = count }

abbrev pub single_cells : List ℕ → ℕ → ℕ → ℕ → List Cell
single_cells store place slot count = cells store place slot 1 (single count)
