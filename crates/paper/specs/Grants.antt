-- Requests and the grant: 01's Frame, in its own numbers. Assumes nothing.
use Rattle.std.specs.Prelude.{ℕ, ◌+◌, ◌-◌, ◌%◌, ◌≤◌, ◌<◌, ◌≡◌, ◌⊎◌, ◌≢◌, cond, List, ltb, get_or}
use Rattle.shelf.specs.declared.Unit as U
use Rattle.paper.specs.State.{waiting}

-- "a unit asks if it has a cell besides one already granted"
pub record Wants (granted : ℕ) (u : U.Unit) : Type 0 where
  pub cell : 1 ≤ waiting u
  pub besides : u.settings.number ≡ granted → 2 ≤ waiting u

-- "On a 16 bus each unit's request is renewed every frame; on a 32 bus units 0 to 15 are renewed in even frames and 16 to 31 in odd ones, and the others stand."
abbrev pub Renewed : ℕ → ℕ → ℕ → Type 0
Renewed bus frame number = (bus ≡ 16) ⊎ ((number < 16) × (frame % 2 ≡ 0)) ⊎ ((16 ≤ number) × (frame % 2 ≡ 1))

-- a request of one of the 32 units: "priority 1 to 3"
abbrev pub Asks : List ℕ → ℕ → Type 0
Asks asks unit = (unit < 32) × (1 ≤ get_or asks unit 0) × (get_or asks unit 0 ≤ 3)

-- "in cyclic order after the last unit granted ..; before any grant, from unit 0": how many units are before a unit in that order. Before any grant the last one is 255
abbrev pub turn : ℕ → ℕ → ℕ
turn last unit = cond (ltb last 32) (cond (ltb last unit) (unit - last - 1) (unit + 31 - last)) unit

-- "the last unit granted at each of the three priorities"
abbrev pub last_at : List ℕ → ℕ → ℕ
last_at last priority = get_or last (priority - 1) 0

-- "Then the grant: of the highest priority asking (3 is highest), the first unit in cyclic order after the last unit granted at each of the three priorities, its own kept for each;
-- before any grant, from unit 0. A grant clears that request."
pub record GrantTo (last asks : List ℕ) (unit : ℕ) (last' asks' : List ℕ) : Type 0 where
  pub asked : Asks asks unit
  pub highest : (n : ℕ) → Asks asks n → get_or asks n 0 ≤ get_or asks unit 0
  pub first : (n : ℕ) → n < 32 → get_or asks n 0 ≡ get_or asks unit 0 → turn (last_at last (get_or asks unit 0)) unit ≤ turn (last_at last (get_or asks unit 0)) n
  pub cleared : get_or asks' unit 0 ≡ 0
  pub stand : (n : ℕ) → n ≢ unit → get_or asks' n 0 ≡ get_or asks n 0
  pub own : last_at last' (get_or asks unit 0) ≡ unit
  pub kept : (p : ℕ) → 1 ≤ p → p ≢ get_or asks unit 0 → last_at last' p ≡ last_at last p

-- nobody asks: nobody, 255, is granted, and nothing changes
pub record NoGrant (last asks : List ℕ) (unit : ℕ) (last' asks' : List ℕ) : Type 0 where
  pub silent : (n : ℕ) → Asks asks n → ⊥
  pub nobody : unit ≡ 255
  pub lasts : last' ≡ last
  pub stand : asks' ≡ asks
