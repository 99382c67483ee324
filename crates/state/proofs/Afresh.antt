-- The bytes of a bus without a unit are a fresh shelf. Assumes nothing.
use mathlib.Core.Path.{◌≡◌, refl, sym, ◌∙◌}
use mathlib.Core.List.{List, [], ◌∷◌}
use Prim.Native.Nat.{ℕ, zero, suc, ◌+◌, ◌*◌, ◌≤◌, ◌<◌}
use native.Mathlib.Omega.{arith}
use lib.ListN.{length, replicate, get_or, set, drop, length-set, length-take, length-drop, length-replicate, get_or-replicate}
use lib.Seq.{get_or-set_same, get_or-set_other, ext_get_or}
use Rattle.octets.specs.Octets.{part}
use Rattle.arbiter.specs.Arbitration.{nobody}
use Rattle.shelf.specs.Shelves.{fresh, blank}
use Rattle.state.specs.Bytes.{col, link_of, mode_of, unit_by, unit_in, units_from, shelf_in}
use Rattle.state.specs.Placing.{zeros, fresh_bytes}
use Rattle.state.proofs.Laws.{by_columns, part_at}

zero_at : (k : ℕ) → k < 2048 → get_or zeros k 0 ≡ 0
unfolding zeros
zero_at k h = get_or-replicate 2048 k 0 0 h

zeros_long : length zeros ≡ 2048
unfolding zeros
zeros_long = length-replicate {A = ℕ} 2048 0

module _ (bus : ℕ) where
  abbrev b0 : List ℕ
  b0 = set zeros 800 nobody

  abbrev b1 : List ℕ
  b1 = set b0 801 nobody

  abbrev b2 : List ℕ
  b2 = set b1 802 nobody

  abbrev b3 : List ℕ
  b3 = set b2 803 nobody

  long0 : length b0 ≡ 2048
  long0 = length-set zeros 800 nobody ∙ zeros_long

  long1 : length b1 ≡ 2048
  long1 = length-set b0 801 nobody ∙ long0

  long2 : length b2 ≡ 2048
  long2 = length-set b1 802 nobody ∙ long1

  long3 : length b3 ≡ 2048
  long3 = length-set b2 803 nobody ∙ long2

  pub fresh_long : length (fresh_bytes bus) ≡ 2048
  unfolding fresh_bytes
  fresh_long = length-set b3 804 bus ∙ long3

  -- every byte but those five is zero
  pub fresh_zero : (k : ℕ) → k < 2048 → (800 ≤ k → k ≤ 804 → ⊥) → get_or (fresh_bytes bus) k 0 ≡ 0
  unfolding fresh_bytes
  fresh_zero k h ne =
      get_or-set_other b3 804 k bus 0 (λ e. ne (omega arith) (omega arith)) ∙ get_or-set_other b2 803 k nobody 0 (λ e. ne (omega arith) (omega arith))
      ∙ get_or-set_other b1 802 k nobody 0 (λ e. ne (omega arith) (omega arith)) ∙ get_or-set_other b0 801 k nobody 0 (λ e. ne (omega arith) (omega arith))
      ∙ get_or-set_other zeros 800 k nobody 0 (λ e. ne (omega arith) (omega arith)) ∙ zero_at k h

  at_804 : get_or (fresh_bytes bus) 804 0 ≡ bus
  unfolding fresh_bytes
  at_804 = get_or-set_same b3 804 bus 0 (let l = long3 in omega arith)

  at_803 : get_or (fresh_bytes bus) 803 0 ≡ nobody
  unfolding fresh_bytes
  at_803 = get_or-set_other b3 804 803 bus 0 (λ e. absurd (omega arith)) ∙ get_or-set_same b2 803 nobody 0 (let l = long2 in omega arith)

  at_802 : get_or (fresh_bytes bus) 802 0 ≡ nobody
  unfolding fresh_bytes
  at_802 =
      get_or-set_other b3 804 802 bus 0 (λ e. absurd (omega arith)) ∙ get_or-set_other b2 803 802 nobody 0 (λ e. absurd (omega arith))
      ∙ get_or-set_same b1 802 nobody 0 (let l = long1 in omega arith)

  at_801 : get_or (fresh_bytes bus) 801 0 ≡ nobody
  unfolding fresh_bytes
  at_801 =
      get_or-set_other b3 804 801 bus 0 (λ e. absurd (omega arith)) ∙ get_or-set_other b2 803 801 nobody 0 (λ e. absurd (omega arith))
      ∙ get_or-set_other b1 802 801 nobody 0 (λ e. absurd (omega arith)) ∙ get_or-set_same b0 801 nobody 0 (let l = long0 in omega arith)

  at_800 : get_or (fresh_bytes bus) 800 0 ≡ nobody
  unfolding fresh_bytes
  at_800 =
      get_or-set_other b3 804 800 bus 0 (λ e. absurd (omega arith)) ∙ get_or-set_other b2 803 800 nobody 0 (λ e. absurd (omega arith))
      ∙ get_or-set_other b1 802 800 nobody 0 (λ e. absurd (omega arith)) ∙ get_or-set_other b0 801 800 nobody 0 (λ e. absurd (omega arith))
      ∙ get_or-set_same zeros 800 nobody 0 (let l = zeros_long in omega arith)

  -- so many bytes that are zero
  zero_part : (x : ℕ) → x + 32 ≤ 2048 → ((j : ℕ) → j < 32 → get_or (fresh_bytes bus) (x + j) 0 ≡ 0) → part (fresh_bytes bus) x 32 ≡ replicate 32 0
  zero_part x h z =
      let l = fresh_long in
      let n = length-take 32 (drop x (fresh_bytes bus)) in
      let m = length-drop x (fresh_bytes bus) in
      let r = length-replicate {A = ℕ} 32 0 in
      ext_get_or 0 (part (fresh_bytes bus) x 32) (replicate 32 0) (omega arith)
      (λ j hj. let k : j < 32 = omega arith in part_at (fresh_bytes bus) x 32 j k ∙ z j k ∙ sym (get_or-replicate 32 j 0 0 k))

  blank_at : (i : ℕ) → i < 32 → unit_in (fresh_bytes bus) i ≡ blank
  unfolding unit_by link_of mode_of
  blank_at i h =
      by_columns (col (fresh_bytes bus) i) (λ k. 0) (part (fresh_bytes bus) (1024 + 32 * i) 32) (replicate 32 0)
      (λ k hk. fresh_zero (k * 32 + i) (omega arith) (λ a b. absurd (omega arith)))
      (zero_part (1024 + 32 * i) (omega arith) (λ j hj. fresh_zero (1024 + 32 * i + j) (omega arith) (λ a b. absurd (omega arith))))

  blanks : (k n : ℕ) → k + n ≤ 32 → units_from (fresh_bytes bus) k n ≡ replicate n blank
  unfolding units_from
  blanks k zero h = refl
  blanks k (suc n) h = λ t. blank_at k (omega arith) t ∷ blanks (suc k) n (omega arith) t

  -- "a fresh 16 bus with no units", of any number
  pub fresh_shelf : shelf_in (fresh_bytes bus) ≡ fresh bus
  fresh_shelf t =
      record {
        bus = at_804 t;
        count = fresh_zero 805 (omega arith) (λ a b. absurd (omega arith)) t;
        units = blanks 0 32 (omega arith) t;
        arbiter = record {
          last = at_800 t ∷ at_801 t ∷ at_802 t ∷ [];
          asks = zero_part 768 (omega arith) (λ j hj. fresh_zero (768 + j) (omega arith) (λ a b. absurd (omega arith))) t;
        };
        granted = at_803 t;
        frame = fresh_zero 806 (omega arith) (λ a b. absurd (omega arith)) t * 256 + fresh_zero 807 (omega arith) (λ a b. absurd (omega arith)) t;
      }
