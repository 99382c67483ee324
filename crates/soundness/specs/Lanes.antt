-- When the bytes of the declared units are such as a unit can have: each byte that says a link, a mode or a mark is one, and the unit fits. Assumes nothing.
use Rattle.std.specs.Prelude.{ℕ, zero, suc, ◌-◌, Bool, true, cond, ◌&&◌, ◌||◌, List, ◌==◌, nat_le}
use Rattle.card.specs.declared.Card.{Card}
use Rattle.card.specs.declared.Card.TheVariants.{Narrow, Wide}
use Rattle.soundness.specs.State.{unit_fits}
use Rattle.outlet.specs.Outlets.{between, ring_fits}
use Rattle.state.specs.Bytes.{col, ring_by, unit_in}

-- the columns of the link, the mode and the mark
abbrev pub formed : (ℕ → ℕ) → Bool
formed f = nat_le (f 1) 1 && nat_le (f 5) 1 && nat_le (f 9) 1

abbrev pub lane_good : Card → ℕ → List ℕ → ℕ → Bool
lane_good card bus b i = formed (col b i) && unit_fits card bus (unit_in b i)

-- of so many places from one on, each below the count is good
unfoldable pub lanes : (ℕ → Bool) → ℕ → ℕ → ℕ → Bool
lanes good count i zero = true
lanes good count i (suc n) = (nat_le count i || good i) && lanes good count (suc i) n

-- The same of one place in tests that a byte is at most another: of the settings, where no link of the card is above `links` and no number above
-- `last`,
abbrev pub highest_link : Card → ℕ
highest_link Narrow = 0
highest_link Wide = 1

abbrev pub settings_at : ℕ → ℕ → (ℕ → ℕ) → Bool
settings_at links last f = (nat_le (f 0) last && nat_le (f 1) links) && (nat_le (f 2) (cond (f 1 == 0) 0 15) && between 1 3 (f 4))

-- of the limits,
abbrev pub lesser : ℕ → ℕ → ℕ
lesser a b = a - (a - b)

abbrev pub limits_at : (ℕ → ℕ) → Bool
limits_at f = between (lesser (f 6) 1) (lesser (f 6) 1) (f 5) && (between (f 5) (f 6) (f 7) && between 1 (cond (f 5 == 0) 123 (89 - f 6)) (f 8))

-- of the outlet's rings,
abbrev pub rings_at : (ℕ → ℕ) → Bool
rings_at f =
    ring_fits (ring_by f 16 20) (cond (f 5 == 0) 123 2)
    && (ring_fits (ring_by f 17 21) (f 6) && (ring_fits (ring_by f 18 22) (cond (f 5 == 0) 0 (89 - f 6)) && ring_fits (ring_by f 19 23) (cond (f 5 == 0) 0 32)))

-- and of what has one bound in every unit: inlet and control outlet, mark and single places
abbrev pub fixed_at : (ℕ → ℕ) → Bool
fixed_at f = ((nat_le (f 14) 3 && nat_le (f 28) 3) && (nat_le (f 15) 4 && nat_le (f 29) 4)) && ((nat_le (f 9) 1 && nat_le (f 26) 1) && (nat_le (f 27) 1 && nat_le (f 30) 1))

abbrev pub lane_at : ℕ → ℕ → (ℕ → ℕ) → Bool
lane_at links last f = settings_at links last f && (limits_at f && (rings_at f && fixed_at f))
