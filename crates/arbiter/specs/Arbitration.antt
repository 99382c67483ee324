-- Requests and grants. Assumes nothing.
use Rattle.std.specs.Prelude.{ℕ, zero, suc, ◌+◌, ◌-◌, ◌%◌, ◌≤◌, ◌<◌, ◌≡◌, Bool, true, false, ◌||◌, cond, List, [], ◌∷◌, ◌++◌, eqb, leb, ltb, length, get_or, set, take, drop, replicate}
use Rattle.arbiter.specs.declared.Arbiter.{Arbiter}
use Rattle.arbiter.specs.declared.Grant.{Grant}
use Rattle.arbiter.specs.declared.Granted.{Granted}

-- no unit: "before any grant", and where no grant is open
abbrev pub nobody : ℕ
nobody = 255

abbrev pub fresh : Arbiter
fresh = record { last = replicate 3 nobody; asks = replicate 32 0 }

-- "a unit asks if it has a cell besides one already granted": the priority that it asks at, or 0
abbrev pub besides : ℕ → Bool → ℕ
besides cells granted = cells - cond granted 1 0

unfoldable pub asking : ℕ → ℕ → Bool → ℕ
asking priority cells granted = cond (leb 1 (besides cells granted)) priority 0

-- the same of a unit with this number, where that one is granted
abbrev pub asks_now : ℕ → ℕ → ℕ → ℕ → ℕ
asks_now granted number priority cells = asking priority cells (eqb number granted)

-- "On a 16 bus each unit's request is renewed every frame; on a 32 bus units 0 to 15 are renewed in even frames and 16 to 31 in odd ones, and
-- the others stand."
abbrev pub even : ℕ → Bool
even frame = eqb (frame % 2) 0

abbrev pub odd : ℕ → Bool
odd frame = eqb (frame % 2) 1

unfoldable pub due : ℕ → ℕ → ℕ → Bool
due bus frame number = cond (eqb bus 32) (cond (ltb number 16) (even frame) (odd frame)) true

-- the requests of the units from this number on, each renewed by what the unit asks now if it is due
unfoldable pub renewed_from : ℕ → ℕ → List ℕ → ℕ → List ℕ → List ℕ
renewed_from bus frame now number [] = []
renewed_from bus frame now number (ask ∷ asks) = cond (due bus frame number) (get_or now number 0) ask ∷ renewed_from bus frame now (suc number) asks

abbrev pub renewed : Arbiter → ℕ → ℕ → List ℕ → Arbiter
renewed arbiter bus frame now = record { last = arbiter.last; asks = renewed_from bus frame now 0 arbiter.asks }

-- the numbers of the 32 units
unfoldable pub run : ℕ → ℕ → List ℕ
run n zero = []
run n (suc count) = n ∷ run (suc n) count

abbrev pub units : List ℕ
units = run 0 32

-- an order turned: those behind a place, then those from the start up to it
abbrev pub turned : List ℕ → ℕ → List ℕ
turned order place = drop (suc place) order ++ take (suc place) order

-- "in cyclic order after the last unit granted": the units above it, then those from unit 0 up to it; "before any grant, from unit 0": no unit
-- is above nobody
unfoldable pub cyclic : ℕ → List ℕ
cyclic last = turned units last

-- the next unit in that order
unfoldable pub next : ℕ → ℕ
next unit = cond (ltb unit 31) (unit + 1) 0

-- whether a unit asks at a priority; whether one of these units does
abbrev pub asks_at : List ℕ → ℕ → ℕ → Bool
asks_at asks priority unit = eqb (get_or asks unit 0) priority

unfoldable pub some_asks : List ℕ → ℕ → List ℕ → Bool
some_asks asks priority [] = false
some_asks asks priority (unit ∷ others) = asks_at asks priority unit || some_asks asks priority others

-- "the highest priority asking (3 is highest)", 0 where nobody asks
unfoldable pub highest : List ℕ → ℕ
highest asks = cond (some_asks asks 3 units) 3 (cond (some_asks asks 2 units) 2 (cond (some_asks asks 1 units) 1 0))

-- "the first unit" of these that asks at a priority, or nobody
unfoldable pub first : List ℕ → ℕ → List ℕ → ℕ
first asks priority [] = nobody
first asks priority (unit ∷ others) = cond (asks_at asks priority unit) unit (first asks priority others)

-- "the last unit granted at each of the three priorities, its own kept for each"
abbrev pub last_at : List ℕ → ℕ → ℕ
last_at last priority = get_or last (priority - 1) 0

abbrev pub turn : List ℕ → List ℕ → ℕ → ℕ
turn last asks priority = first asks priority (cyclic (last_at last priority))

-- a grant at a priority: "A grant clears that request."
abbrev pub grant_to : List ℕ → List ℕ → ℕ → ℕ → Grant
grant_to last asks priority unit = record { unit = unit; last = set last (priority - 1) unit; asks = set asks unit 0 }

abbrev pub no_grant : List ℕ → List ℕ → Grant
no_grant last asks = record { unit = nobody; last = last; asks = asks }

-- "Then the grant: of the highest priority asking (3 is highest), the first unit in cyclic order after the last unit granted at each of the
-- three priorities, its own kept for each; before any grant, from unit 0. A grant clears that request."
unfoldable pub granted : List ℕ → List ℕ → Grant
granted last asks = cond (eqb (highest asks) 0) (no_grant last asks) (grant_to last asks (highest asks) (turn last asks (highest asks)))

-- the same of an arbiter
abbrev pub arbiter_of : Grant → Arbiter
arbiter_of g = record { last = g.last; asks = g.asks }

abbrev pub granted_by : Arbiter → Granted
granted_by arbiter = record { arbiter = arbiter_of (granted arbiter.last arbiter.asks); unit = (granted arbiter.last arbiter.asks).unit }

-- The same as facts. A unit asks
abbrev pub Asks : List ℕ → ℕ → Type 0
Asks asks unit = (unit < 32) × (1 ≤ get_or asks unit 0) × (get_or asks unit 0 ≤ 3)

-- a unit is granted
abbrev pub unit_of : List ℕ → List ℕ → ℕ
unit_of last asks = (granted last asks).unit

abbrev pub Grants : List ℕ → List ℕ → Type 0
Grants last asks = unit_of last asks ≡ nobody → ⊥

-- of these units in this order, one is the first that asks at a priority: it stands at a place, and none before it asks so
pub record FirstOf (requests : List ℕ) (priority : ℕ) (order : List ℕ) (unit : ℕ) : Type 0 where
  pub place : ℕ
  pub inside : place < length order
  pub there : get_or order place 0 ≡ unit
  pub asks : get_or requests unit 0 ≡ priority
  pub before : (j : ℕ) → j < place → get_or requests (get_or order j 0) 0 ≡ priority → ⊥

-- what a grant to a unit at a priority changes of the requests and of the last units granted, and what it keeps
pub record Changed (last asks : List ℕ) (priority unit : ℕ) (after : Grant) : Type 0 where
  pub cleared : get_or after.asks unit 0 ≡ 0
  pub stand : (n : ℕ) → (n ≡ unit → ⊥) → get_or after.asks n 0 ≡ get_or asks n 0
  pub own : length last ≡ 3 → last_at after.last priority ≡ unit
  pub kept : (q : ℕ) → 1 ≤ q → (q ≡ priority → ⊥) → last_at after.last q ≡ last_at last q
