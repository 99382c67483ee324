-- Requests and grants on each side of a line. Assumes nothing.
use Rattle.std.specs.Prelude.{ℕ, ◌≡◌, true, false, List, [], ◌∷◌, ◌++◌, set, replicate}
use Rattle.arbiter.specs.Arbitration.{nobody, due, asking, renewed, granted, unit_of}
use Rattle.arbiter.specs.declared.Arbiter.{Arbiter}

-- nobody asks, all ask at a priority, one more unit asks; the last units granted at priorities 1, 2 and 3
abbrev none : List ℕ
none = replicate 32 0

abbrev all : ℕ → List ℕ
all priority = replicate 32 priority

abbrev ask : ℕ → ℕ → List ℕ → List ℕ
ask unit priority asks = set asks unit priority

abbrev lasts : ℕ → ℕ → ℕ → List ℕ
lasts one two three = one ∷ two ∷ three ∷ []

abbrev ungranted : List ℕ
ungranted = lasts nobody nobody nobody

abbrev standing : Arbiter
standing = record { last = ungranted; asks = all 1 }

pub record Examples : Type 0 where
  -- "a cell besides one already granted"
  pub no_cell : asking 3 0 false ≡ 0
  pub a_cell : asking 3 1 false ≡ 3
  pub granted_cell : asking 3 1 true ≡ 0
  pub cell_besides : asking 3 2 true ≡ 3
  -- "On a 16 bus .. every frame"
  pub bus_16 : due 16 7 0 ≡ true
  -- "on a 32 bus units 0 to 15 .. in even frames and 16 to 31 in odd ones"
  pub even_0 : due 32 0 0 ≡ true
  pub even_15 : due 32 65534 15 ≡ true
  pub even_16 : due 32 65534 16 ≡ false
  pub odd_15 : due 32 65535 15 ≡ false
  pub odd_16 : due 32 65535 16 ≡ true
  pub odd_31 : due 32 1 31 ≡ true
  -- "the others stand": all ask at 1 and now at 2
  pub renew_16 : (renewed standing 16 1 (all 2)).asks ≡ all 2
  pub renew_even : (renewed standing 32 0 (all 2)).asks ≡ replicate 16 2 ++ replicate 16 1
  pub renew_odd : (renewed standing 32 1 (all 2)).asks ≡ replicate 16 1 ++ replicate 16 2
  -- nobody asks; no priority is above 3
  pub idle : granted (lasts 1 2 3) none ≡ record { unit = nobody; last = lasts 1 2 3; asks = none }
  pub no_priority : unit_of ungranted (all 4) ≡ nobody
  -- "before any grant, from unit 0"
  pub from_0 : unit_of ungranted (all 3) ≡ 0
  -- "in cyclic order after the last unit granted": after 5 comes 6, after 30 comes 31, after 31 comes 0
  pub after_5 : unit_of (lasts nobody nobody 5) (all 3) ≡ 6
  pub after_30 : unit_of (lasts nobody nobody 30) (all 3) ≡ 31
  pub after_31 : unit_of (lasts nobody nobody 31) (all 3) ≡ 0
  -- the last unit granted comes last
  pub not_itself : unit_of (lasts nobody nobody 5) (ask 4 3 (ask 5 3 none)) ≡ 4
  pub itself : unit_of (lasts nobody nobody 5) (ask 5 3 none) ≡ 5
  -- "of the highest priority asking (3 is highest)"
  pub three_first : unit_of ungranted (ask 31 3 (all 2)) ≡ 31
  pub two_first : unit_of ungranted (ask 31 2 (all 1)) ≡ 31
  -- "its own kept for each", "A grant clears that request"
  pub own_1 : granted (lasts 9 4 20) (all 1) ≡ record { unit = 10; last = lasts 10 4 20; asks = ask 10 0 (all 1) }
  pub own_2 : granted (lasts 9 4 20) (all 2) ≡ record { unit = 5; last = lasts 9 5 20; asks = ask 5 0 (all 2) }
  pub own_3 : granted (lasts 9 4 20) (all 3) ≡ record { unit = 21; last = lasts 9 4 21; asks = ask 21 0 (all 3) }
