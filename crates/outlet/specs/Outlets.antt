-- A unit's outlet: what its queues hold, which limits a `unit` line gives, a fresh one. Assumes nothing.
use Rattle.std.specs.Prelude.{ℕ, ◌-◌, ◌≤◌, ◌<◌, ◌≡◌, Bool, ◌&&◌, cond, List, [], ◌∷◌, eqb, leb, ltb, get_or, replicate}
use Rattle.outlet.specs.declared.Mode.{Mode}
use Rattle.outlet.specs.declared.Mode.TheVariants.{One, Four}
use Rattle.outlet.specs.declared.Limits.{Limits}
use Rattle.outlet.specs.declared.Ring.{Ring}
use Rattle.outlet.specs.declared.Outlet.{Outlet}

-- "Capacities: mode `one`, 123 with the VBR limit. Mode `four`: class 0 holds 2, CBR its length, VBR 89 less the CBR length, ABR 32."
-- So many cells each of the four queues holds; in mode one three of them are not there
abbrev pub capacities : Mode → ℕ → List ℕ
capacities One cbrlength = 123 ∷ 0 ∷ 0 ∷ 0 ∷ []
capacities Four cbrlength = 2 ∷ cbrlength ∷ (89 - cbrlength) ∷ 32 ∷ []

unfoldable pub capacity : Limits → ℕ → ℕ
capacity limits queue = get_or (capacities limits.mode limits.cbrlength) queue 0

abbrev pub between : ℕ → ℕ → ℕ → Bool
between least most n = leb least n && leb n most

-- "Mode `one`: CBR length and limit 0, VBR limit 1 to 123. Mode `four`: CBR length 1 to 88, CBR limit 1 to that length, VBR limit 1 to 89
-- less that length."
abbrev pub given_in : Mode → ℕ → ℕ → ℕ → Bool
given_in One cbrlength cbrlimit vbrlimit = eqb cbrlength 0 && eqb cbrlimit 0 && between 1 123 vbrlimit
given_in Four cbrlength cbrlimit vbrlimit = between 1 88 cbrlength && between 1 cbrlength cbrlimit && between 1 (89 - cbrlength) vbrlimit

unfoldable pub given : Limits → Bool
given limits = given_in limits.mode limits.cbrlength limits.cbrlimit limits.vbrlimit

-- the same as a fact
abbrev pub GivenIn : Mode → ℕ → ℕ → ℕ → Type 0
GivenIn One cbrlength cbrlimit vbrlimit = (cbrlength ≡ 0) × (cbrlimit ≡ 0) × (1 ≤ vbrlimit) × (vbrlimit ≤ 123)
GivenIn Four cbrlength cbrlimit vbrlimit =
    (1 ≤ cbrlength) × (cbrlength ≤ 88) × (1 ≤ cbrlimit) × (cbrlimit ≤ cbrlength) × (1 ≤ vbrlimit) × (vbrlimit ≤ 89 - cbrlength)

abbrev pub Given : Limits → Type 0
Given limits = GivenIn limits.mode limits.cbrlength limits.cbrlimit limits.vbrlimit

-- a position below the capacity and a count that is at most the capacity; a queue that is not there has neither
abbrev pub within : Ring → ℕ → Bool
within ring capacity = ltb ring.head capacity && leb ring.count capacity

abbrev pub nothing : Ring → Bool
nothing ring = eqb ring.head 0 && eqb ring.count 0

unfoldable pub ring_fits : Ring → ℕ → Bool
ring_fits ring capacity = cond (eqb capacity 0) (nothing ring) (within ring capacity)

pub record RingFits (ring : Ring) (capacity : ℕ) : Type 0 where
  pub place : 0 < capacity → ring.head < capacity
  pub nowhere : capacity ≡ 0 → ring.head ≡ 0
  pub held : ring.count ≤ capacity

-- a queue without a cell, from its first place on
abbrev pub empty : Ring
empty = record { head = 0; count = 0 }

-- queue q of an outlet
abbrev pub queue : Outlet → ℕ → Ring
queue outlet q = get_or outlet.queues q empty

unfoldable pub queue_fits : Outlet → ℕ → Bool
queue_fits outlet q = ring_fits (queue outlet q) (capacity outlet.limits q)

unfoldable pub rings_fit : Outlet → Bool
rings_fit outlet = queue_fits outlet 0 && queue_fits outlet 1 && queue_fits outlet 2 && queue_fits outlet 3

-- both: a test of an outlet
unfoldable pub outlet_fits : Outlet → Bool
outlet_fits outlet = given outlet.limits && rings_fit outlet

pub record RingsFit (outlet : Outlet) : Type 0 where
  pub each : (q : ℕ) → q < 4 → RingFits (queue outlet q) (capacity outlet.limits q)

-- a fresh outlet, and one in each mode
abbrev pub fresh : Limits → Outlet
fresh limits = record { limits = limits; queues = replicate 4 empty }

abbrev pub one : ℕ → Bool → Outlet
one vbrlimit mark = fresh (record { mode = One; cbrlength = 0; cbrlimit = 0; vbrlimit = vbrlimit; mark = mark })

abbrev pub four : ℕ → ℕ → ℕ → Bool → Outlet
four cbrlength cbrlimit vbrlimit mark =
    fresh (record { mode = Four; cbrlength = cbrlength; cbrlimit = cbrlimit; vbrlimit = vbrlimit; mark = mark })
