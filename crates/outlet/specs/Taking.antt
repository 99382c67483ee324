-- Which cell leaves an outlet, whether it is marked, and its header: 01's Take. Assumes nothing.
use Rattle.std.specs.Prelude.{ℕ, zero, suc, ◌+◌, ◌*◌, ◌/◌, ◌%◌, ◌≤◌, ◌<◌, ◌≡◌, ◌⊎◌, Bool, true, false, ◌&&◌, ◌||◌, cond, ltb, eqb, None, Option, Some}
use Rattle.header.specs.Fields.{fields, word}
use Rattle.header.specs.declared.Link.{Link}
use Rattle.header.specs.declared.Link.TheVariants.{Nni}
use Rattle.header.specs.declared.Header.{Header}
use Rattle.outlet.specs.declared.Mode.{Mode}
use Rattle.outlet.specs.declared.Mode.TheVariants.{One, Four}
use Rattle.outlet.specs.declared.Outlet.{Outlet}
use Rattle.outlet.specs.Hearing.{held, at_limit}

-- how many queues an outlet has
abbrev pub queues : Mode → ℕ
queues One = 1
queues Four = 4

-- the lowest of n queues, from queue q on, that holds a cell; `cells` says how many each holds
unfoldable pub lowest : (ℕ → ℕ) → ℕ → ℕ → Option ℕ
lowest cells q zero = None
lowest cells q (suc n) = cond (ltb 0 (cells q)) (Some q) (lowest cells (q + 1) n)

-- "Take gives the oldest cell (mode `one`) or the oldest cell of the lowest class held (mode `four`), or `empty`"
unfoldable pub leaving : Outlet → Option ℕ
leaving outlet = lowest (held outlet) 0 (queues outlet.limits.mode)

-- the same as a fact
abbrev pub LeavingOf : (ℕ → ℕ) → ℕ → Option ℕ → Type 0
LeavingOf cells n (Some q) = (q < n) × (0 < cells q) × ((p : ℕ) → p < q → cells p ≡ 0)
LeavingOf cells n None = (p : ℕ) → p < n → cells p ≡ 0

-- "CBR or VBR is at its limit or above (mode `one`: the queue at the VBR limit or above)"
abbrev pub congested_in : Mode → Outlet → Bool
congested_in One outlet = at_limit outlet 0
congested_in Four outlet = at_limit outlet 1 || at_limit outlet 2

-- "If mark is 1 and, counted before it leaves, ..": whether an outlet marks the user cell that leaves it, whatever its class
unfoldable pub marks : Outlet → Bool
marks outlet = outlet.limits.mark && congested_in outlet.limits.mode outlet

-- the same as a fact
abbrev pub CongestedIn : Mode → Outlet → Type 0
CongestedIn One outlet = outlet.limits.vbrlimit ≤ held outlet 0
CongestedIn Four outlet = (outlet.limits.cbrlimit ≤ held outlet 1) ⊎ (outlet.limits.vbrlimit ≤ held outlet 2)

-- "the middle PT bit is set": the upper and the lowest bit stay
unfoldable pub marked : Bool → ℕ → ℕ
marked true pt = pt / 4 * 4 + 2 + pt % 2
marked false pt = pt

-- the fields of a cell that leaves: "A UNI unit writes GFC 0." An NNI has no GFC
abbrev pub leaving_as : Bool → Header → Header
leaving_as mark h = record { gfc = 0; vpi = h.vpi; vci = h.vci; pt = marked mark h.pt; clp = h.clp }

-- 02: "the mark belongs to user data .. only cells whose top PT bit is 0 are marked": whether a cell with this bus header is, at an outlet that marks; VCI and CLP have no part in it
abbrev pub user_data : ℕ → Bool
user_data pt = eqb (pt / 4 % 2) 0

abbrev pub marks_cell : Bool → ℕ → Bool
marks_cell mark header = mark && user_data (fields Nni header).pt

-- the bus header, as the link writes it
unfoldable pub outgoing : Link → Bool → ℕ → ℕ
outgoing link mark header = word link (leaving_as (marks_cell mark header) (fields Nni header))
