-- The queues of an outlet, the places of cells in the store, in 01's own numbers. Assumes nothing.
use Rattle.std.specs.Prelude.{ℕ, ◌+◌, ◌-◌, ◌*◌, ◌/◌, ◌≤◌, ◌≡◌, ◌⊎◌, cond, true, List, [], ◌∷◌, ltb, get_or, take, drop, None, Option, Some}
use Rattle.outlet.specs.declared.Mode.{Mode}
use Rattle.outlet.specs.declared.Mode.TheVariants.{One, Four}
use Rattle.outlet.specs.declared.Limits.{Limits}
use Rattle.outlet.specs.declared.Ring.{Ring}
use Rattle.outlet.specs.declared.Outlet.{Outlet}

-- a queue: how many cells it holds at most, its limit if it has one, and the first of its slots in the unit's part of the store
pub record Queue : Type 0 where
  pub capacity : ℕ
  pub limit : Option ℕ
  pub first : ℕ

abbrev pub queue : ℕ → Option ℕ → ℕ → Queue
queue capacity limit first = record { capacity = capacity; limit = limit; first = first }

-- "Capacities: mode `one`, 123 with the VBR limit. Mode `four`: class 0 holds 2, CBR its length, VBR 89 less the CBR length, ABR 32; classes 0 and 3 have no limit."
abbrev pub queues_in : Mode → ℕ → ℕ → ℕ → List Queue
queues_in One cbrlength cbrlimit vbrlimit = queue 123 (Some vbrlimit) 0 ∷ []
queues_in Four cbrlength cbrlimit vbrlimit =
    queue 2 None 0 ∷ queue cbrlength (Some cbrlimit) 2 ∷ queue (89 - cbrlength) (Some vbrlimit) (2 + cbrlength) ∷ queue 32 None 91 ∷ []

abbrev pub queues : Limits → List Queue
queues limits = queues_in limits.mode limits.cbrlength limits.cbrlimit limits.vbrlimit

-- the queue of a class: "class 2 (0 control data, 1 CBR, 2 VBR, 3 ABR)"; in mode `one` all cells are in the one queue
abbrev pub number_for : Mode → ℕ → ℕ
number_for One class = 0
number_for Four class = class

-- "Mode `one`: CBR length and limit 0, VBR limit 1 to 123. Mode `four`: CBR length 1 to 88, CBR limit 1 to that length, VBR limit 1 to 89 less that length."
abbrev pub GivenIn : Mode → ℕ → ℕ → ℕ → Type 0
GivenIn One cbrlength cbrlimit vbrlimit = (cbrlength ≡ 0) × (cbrlimit ≡ 0) × (1 ≤ vbrlimit) × (vbrlimit ≤ 123)
GivenIn Four cbrlength cbrlimit vbrlimit =
    (1 ≤ cbrlength) × (cbrlength ≤ 88) × (1 ≤ cbrlimit) × (cbrlimit ≤ cbrlength) × (1 ≤ vbrlimit) × (vbrlimit ≤ 89 - cbrlength)

abbrev pub Given : Limits → Type 0
Given limits = GivenIn limits.mode limits.cbrlength limits.cbrlimit limits.vbrlimit

-- no queue: nothing goes there
abbrev pub nowhere : Queue
nowhere = queue 0 None 0

abbrev pub queue_at : Outlet → ℕ → Queue
queue_at outlet q = get_or (queues outlet.limits) q nowhere

-- the ring of a queue, and how many cells it holds
abbrev pub ring_at : Outlet → ℕ → Ring
ring_at outlet q = get_or outlet.queues q (record { head = 0; count = 0 })

abbrev pub held : Outlet → ℕ → ℕ
held outlet q = (ring_at outlet q).count

-- "the queue at its limit or above"
abbrev pub AtLimit : Option ℕ → ℕ → Type 0
AtLimit None held = ⊥
AtLimit (Some limit) held = limit ≤ held

-- "CBR or VBR is at its limit or above (mode `one`: the queue at the VBR limit or above)"
abbrev pub Crowded : Mode → Limits → (ℕ → ℕ) → Type 0
Crowded One limits held = limits.vbrlimit ≤ held 0
Crowded Four limits held = (limits.cbrlimit ≤ held 1) ⊎ (limits.vbrlimit ≤ held 2)

-- "If mark is 1 and, counted before it leaves, ..": `held` says how many cells each queue holds
abbrev pub Marks : Limits → (ℕ → ℕ) → Type 0
Marks limits held = (limits.mark ≡ true) × Crowded limits.mode limits held

-- 02: "Now only cells whose top PT bit is 0 are marked": whether a cell with this PT is, of whose three bits the top one is `p / 4`
abbrev pub MarksCell : Limits → (ℕ → ℕ) → ℕ → Type 0
MarksCell limits held p = Marks limits held × (p / 4 ≡ 0)

-- The store: "8,192 bytes a declared unit", in `unit` line order; a cell is its 56 bytes before parity, in a slot of 56. The outlet has slots 0 to 122, the inlet 123 to 126,
-- its control cell 127, its loopback cell 128, the control outlet 129 to 132, the loopback outlet 133
abbrev pub slot_at : ℕ → ℕ → ℕ
slot_at place slot = 8192 * place + 56 * slot

abbrev pub cell_at : List ℕ → ℕ → ℕ → List ℕ
cell_at store place slot = take 56 (drop (slot_at place slot) store)

-- a ring's places follow each other, and after the last comes the first: the place behind its cells, and the place after its oldest
abbrev pub behind : Ring → ℕ → ℕ
behind ring capacity = cond (ltb (ring.head + ring.count) capacity) (ring.head + ring.count) (ring.head + ring.count - capacity)

abbrev pub onward : Ring → ℕ → ℕ
onward ring capacity = cond (ltb (ring.head + 1) capacity) (ring.head + 1) 0

-- with a cell more behind the others, and without the oldest
abbrev pub longer : Ring → Ring
longer ring = record { head = ring.head; count = ring.count + 1 }

abbrev pub shorter : Ring → ℕ → Ring
shorter ring capacity = record { head = onward ring capacity; count = ring.count - 1 }
