-- What befalls a copy at an outlet that it is addressed to: 01's Hearing from "Then" on. Assumes nothing.
use Rattle.std.specs.Prelude.{ℕ, ◌%◌, ◌≤◌, ◌<◌, ◌≡◌, Bool, false, ◌&&◌, cond, eqb, leb, ltb}
use Rattle.header.specs.Fields.{fields}
use Rattle.header.specs.declared.Link.{Link}
use Rattle.header.specs.declared.Link.TheVariants.{Uni, Nni}
use Rattle.outlet.specs.Outlets.{capacity, queue}
use Rattle.outlet.specs.declared.Mode.{Mode}
use Rattle.outlet.specs.declared.Mode.TheVariants.{One, Four}
use Rattle.outlet.specs.declared.Limits.{Limits}
use Rattle.outlet.specs.declared.Outlet.{Outlet}
use Rattle.outlet.specs.declared.Fate.{Fate}
use Rattle.outlet.specs.declared.Fate.TheVariants.{Wide, Full, Clp, Queued}

-- the queue of a class: in mode one all cells are in queue 0, in mode four each of the four classes has its own
abbrev pub queue_in : Mode → ℕ → ℕ
queue_in One class = 0
queue_in Four class = class % 4

unfoldable pub queue_of : Limits → ℕ → ℕ
queue_of limits class = queue_in limits.mode class

-- "Capacities: mode `one`, 123 with the VBR limit. Mode `four`: .. classes 0 and 3 have no limit." CBR is class 1 and VBR class 2.
-- That a queue has no limit is said by its capacity: a queue at its capacity is `full` before its limit is looked at
abbrev pub limit_of : Mode → ℕ → ℕ → ℕ → ℕ → ℕ
limit_of One cbrlimit vbrlimit none queue = cond (eqb queue 0) vbrlimit none
limit_of Four cbrlimit vbrlimit none queue = cond (eqb queue 1) cbrlimit (cond (eqb queue 2) vbrlimit none)

unfoldable pub limit : Limits → ℕ → ℕ
limit limits queue = limit_of limits.mode limits.cbrlimit limits.vbrlimit (capacity limits queue) queue

-- how many cells a queue holds; "the queue at its limit or above"
abbrev pub held : Outlet → ℕ → ℕ
held outlet q = (queue outlet q).count

unfoldable pub at_limit : Outlet → ℕ → Bool
at_limit outlet q = leb (limit outlet.limits q) (held outlet q)

-- "The cell header on the bus always has a twelve-bit VPI."
abbrev pub bus_vpi : ℕ → ℕ
bus_vpi header = (fields Nni header).vpi

abbrev pub bus_clp : ℕ → ℕ
bus_clp header = (fields Nni header).clp

-- "VPI above 255 at a UNI unit"
unfoldable pub too_wide : Link → ℕ → Bool
too_wide Uni header = ltb 255 (bus_vpi header)
too_wide Nni header = false

-- "queue at capacity, `full`; CLP 1 and the queue at its limit or above, `clp`; else `queued`"
unfoldable pub fate_at : ℕ → ℕ → ℕ → ℕ → Fate
fate_at held capacity limit clp = cond (leb capacity held) Full (cond (eqb clp 1 && leb limit held) Clp Queued)

-- "Then: VPI above 255 at a UNI unit, `wide`;" and the rest at a queue; the queue is that of the cell's class
abbrev pub fate_in : ℕ → ℕ → ℕ → Link → ℕ → Fate
fate_in capacity limit held link header = cond (too_wide link header) Wide (fate_at held capacity limit (bus_clp header))

unfoldable pub fate : Outlet → Link → ℕ → ℕ → Fate
fate outlet link class header =
    let q = queue_of outlet.limits class in
    fate_in (capacity outlet.limits q) (limit outlet.limits q) (held outlet q) link header

-- The same as facts: what each fate says
abbrev pub TooWide : Link → ℕ → Type 0
TooWide link header = (link ≡ Uni) × (255 < bus_vpi header)

abbrev pub FateAt : ℕ → ℕ → ℕ → ℕ → Fate → Type 0
FateAt held capacity limit clp Wide = ⊥
FateAt held capacity limit clp Full = capacity ≤ held
FateAt held capacity limit clp Clp = (held < capacity) × (clp ≡ 1) × (limit ≤ held)
FateAt held capacity limit clp Queued = (held < capacity) × (clp ≡ 1 → held < limit)

abbrev pub FateIn : Outlet → ℕ → ℕ → Fate → Type 0
FateIn outlet q header f = FateAt (held outlet q) (capacity outlet.limits q) (limit outlet.limits q) (bus_clp header) f

abbrev pub FateOf : Outlet → Link → ℕ → ℕ → Fate → Type 0
FateOf outlet link class header Wide = TooWide link header
FateOf outlet link class header Full = (TooWide link header → ⊥) × FateIn outlet (queue_of outlet.limits class) header Full
FateOf outlet link class header Clp = (TooWide link header → ⊥) × FateIn outlet (queue_of outlet.limits class) header Clp
FateOf outlet link class header Queued = (TooWide link header → ⊥) × FateIn outlet (queue_of outlet.limits class) header Queued
