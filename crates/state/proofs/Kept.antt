-- What a written byte of a column keeps: how many bytes there are, every other byte, and so every other column and the shelf itself. A ring is two
-- such bytes. Assumes nothing.
use mathlib.Core.Path.{◌≡◌, ◌∙◌}
use mathlib.Core.Logic.{◌≢◌}
use mathlib.Core.List.{List}
use Prim.Native.Nat.{ℕ, ◌+◌, ◌*◌, ◌≤◌, ◌<◌}
use native.Mathlib.Omega.{arith}
use lib.ListN.{length, get_or, length-set}
use lib.Seq.{get_or-set_other}
use Rattle.outlet.specs.declared.Ring.{Ring}
use Rattle.state.specs.Bytes.{col, with_ring, with_byte}

-- a column of a unit: what would be columns 24 and 25 is the shelf itself, what would be column 31 is free
abbrev pub Column : ℕ → Type 0
Column c = (c < 31) × (c ≢ 24) × (c ≢ 25)

-- a byte of the shelf itself: arbiter, grant, bus, count, frame number, free bytes
abbrev pub Own : ℕ → Type 0
Own k = (768 ≤ k) × (k < 832)

module _ (b : List ℕ) (c i v : ℕ) where
  pub byte_long : length (with_byte b c i v) ≡ length b
  byte_long = length-set b (c * 32 + i) v

  pub byte_other : (k : ℕ) → (k ≡ c * 32 + i → ⊥) → get_or (with_byte b c i v) k 0 ≡ get_or b k 0
  byte_other k ne = get_or-set_other b (c * 32 + i) k v 0 ne

  module _ (hi : i < 32) where
    pub byte_column : (j k : ℕ) → j < 32 → (k ≡ c → ⊥) → col (with_byte b c i v) j k ≡ col b j k
    byte_column j k hj ne = byte_other (k * 32 + j) (λ e. ne (omega arith))

    pub byte_own : Column c → (k : ℕ) → Own k → get_or (with_byte b c i v) k 0 ≡ get_or b k 0
    byte_own hc k hk = byte_other k (λ e. omega arith)

module _ (b : List ℕ) (h c i : ℕ) (r : Ring) where
  abbrev one : List ℕ
  one = with_byte b h i r.head

  pub ring_long : length (with_ring b h c i r) ≡ length b
  ring_long = byte_long one c i r.count ∙ byte_long b h i r.head

  -- a byte that is in neither of the two places
  pub ring_other : (k : ℕ) → (k ≡ h * 32 + i → ⊥) → (k ≡ c * 32 + i → ⊥) → get_or (with_ring b h c i r) k 0 ≡ get_or b k 0
  ring_other k nh nc = byte_other one c i r.count k nc ∙ byte_other b h i r.head k nh

  module _ (hi : i < 32) where
    -- another column
    pub ring_column : (j k : ℕ) → j < 32 → (k ≡ h → ⊥) → (k ≡ c → ⊥) → col (with_ring b h c i r) j k ≡ col b j k
    ring_column j k hj nh nc = byte_column one c i r.count hi j k hj nc ∙ byte_column b h i r.head hi j k hj nh

    pub ring_own : Column h → Column c → (k : ℕ) → Own k → get_or (with_ring b h c i r) k 0 ≡ get_or b k 0
    ring_own hh hc k hk = byte_own one c i r.count hi hc k hk ∙ byte_own b h i r.head hi hh k hk
