-- The units that lent bytes are, and what a written ring makes of them. Assumes nothing.
use mathlib.Core.Path.{◌≡◌, refl, sym, ap, ◌∙◌}
use mathlib.Core.Bool.{Bool, true, false, cond}
use mathlib.Core.Logic.{◌⊎◌, inl, inr, ⊎_elim}
use mathlib.Core.List.{List, [], ◌∷◌}
use Prim.Native.Nat.{ℕ, zero, suc, ◌+◌, ◌*◌, ◌≤◌, ◌<◌}
use native.Mathlib.Nat.{add-zero, zero-add, not-suc-le-zero}
use native.Mathlib.Omega.{arith}
use lib.Dec.{eqb}
use lib.ListN.{length, get_or, set, take, drop, length-set, length-take, length-drop}
use lib.Seq.{get_or-set_same, get_or-set_other, get_or-take, get_or-drop, drop-set-lt, ext_get_or}
use borrow.Author.Tests.{eqb-true, eqb-false}
use Rattle.octets.specs.Octets.{part}
use Rattle.outlet.specs.declared.Ring.{Ring}
use Rattle.shelf.specs.Shelves.{number_of, control_in_put, loopback_in_put, control_out_put, loopback_out_put}
use Rattle.shelf.specs.declared.Unit as U
use Rattle.state.specs.Bytes.{col, link_of, mode_of, unit_by, unit_in, units_from, shelf_in, with_ring, with_byte, inlet_put, queue_put, side_put, with_unit}
use Rattle.state.proofs.Kept.{Column, Own, byte_long, byte_other, byte_column, byte_own, ring_long, ring_own}

-- how many units there are, and which
pub units_length : (b : List ℕ) (k n : ℕ) → length (units_from b k n) ≡ n
unfolding units_from
units_length b k zero = refl
units_length b k (suc n) = ap suc (units_length b (suc k) n)

units_from_lem : (b : List ℕ) (k n i : ℕ) (d : U.Unit) → i < n → get_or (units_from b k n) i d ≡ unit_in b (k + i)
unfolding units_from
units_from_lem b k zero i d h = absurd (not-suc-le-zero h)
units_from_lem b k (suc n) zero d h = ap (unit_in b) (sym (add-zero k))
units_from_lem b k (suc n) (suc i) d h =
    let e : suc k + i ≡ k + suc i = omega arith in
    units_from_lem b (suc k) n i d (omega arith) ∙ ap (unit_in b) e

pub unit_at_lem : (b : List ℕ) (i : ℕ) (d : U.Unit) → i < 32 → get_or (shelf_in b).units i d ≡ unit_in b i
unit_at_lem b i d h = units_from_lem b 0 32 i d h ∙ ap (unit_in b) (zero-add i)

pub number_at : (b : List ℕ) (i : ℕ) (d : U.Unit) → i < 32 → number_of (get_or (shelf_in b).units i d) ≡ col b i 0
unfolding unit_by
number_at b i d h = ap number_of (unit_at_lem b i d h)

-- a byte, and a part of so many
pub part_at : (b : List ℕ) (x n j : ℕ) → j < n → get_or (part b x n) j 0 ≡ get_or b (x + j) 0
part_at b x n j h = get_or-take n (drop x b) j 0 h ∙ get_or-drop x b j 0

pub part_same_bytes : (a b : List ℕ) (x n : ℕ) → x + n ≤ length a → length a ≡ length b → ((j : ℕ) → j < n → get_or a (x + j) 0 ≡ get_or b (x + j) 0) → part a x n ≡ part b x n
part_same_bytes a b x n h l e =
    let la = length-take n (drop x a) in
    let lb = length-take n (drop x b) in
    let da = length-drop x a in
    let db = length-drop x b in
    ext_get_or 0 (part a x n) (part b x n) (omega arith) (λ j hj. let k : j < n = omega arith in part_at a x n j k ∙ e j k ∙ sym (part_at b x n j k))

-- two numbers that are not the same
pub apart : (a b : ℕ) → (a ≡ b → ⊥) → (a < b) ⊎ (b < a)
apart zero zero ne = absurd (ne refl)
apart zero (suc b) ne = inl (omega arith)
apart (suc a) zero ne = inr (omega arith)
apart (suc a) (suc b) ne = ⊎_elim (λ h. inl (omega arith)) (λ h. inr (omega arith)) (apart a b (λ e. ne (ap suc e)))

-- a unit is what its columns and its sessions are
pub by_columns : (f g : ℕ → ℕ) (s t : List ℕ) → ((k : ℕ) → Column k → f k ≡ g k) → s ≡ t → unit_by f s ≡ unit_by g t
unfolding unit_by
by_columns f g s t e es z =
    record {
      settings = record { number = e 0 (omega arith) z; link = link_of (e 1 (omega arith) z); top = e 2 (omega arith) z * 256 + e 3 (omega arith) z; priority = e 4 (omega arith) z };
      inlet = record { head = e 14 (omega arith) z; count = e 15 (omega arith) z };
      outlet = record {
        limits = record { mode = mode_of (e 5 (omega arith) z); cbrlength = e 6 (omega arith) z; cbrlimit = e 7 (omega arith) z; vbrlimit = e 8 (omega arith) z; mark = eqb (e 9 (omega arith) z) 1 };
        queues = record { head = e 16 (omega arith) z; count = e 20 (omega arith) z } ∷ record { head = e 17 (omega arith) z; count = e 21 (omega arith) z }
            ∷ record { head = e 18 (omega arith) z; count = e 22 (omega arith) z } ∷ record { head = e 19 (omega arith) z; count = e 23 (omega arith) z } ∷ [];
      };
      side = record {
        controlin = e 26 (omega arith) z;
        loopbackin = e 27 (omega arith) z;
        controlout = record { head = e 28 (omega arith) z; count = e 29 (omega arith) z };
        loopbackout = e 30 (omega arith) z;
      };
      place = (e 10 (omega arith) z * 256 + e 11 (omega arith) z) * 65536 + (e 12 (omega arith) z * 256 + e 13 (omega arith) z);
      sessions = es z;
    }

-- bytes of which one unit has changed, and no other
pub units_set : (b next : List ℕ) (i : ℕ) (u : U.Unit) → i < 32 → unit_in next i ≡ u → ((j : ℕ) → j < 32 → (j ≡ i → ⊥) → unit_in next j ≡ unit_in b j) → (shelf_in next).units ≡ set (shelf_in b).units i u
units_set b next i u hi here there =
    let l = units_length b 0 32 in
    let m = units_length next 0 32 in
    ext_get_or u (shelf_in next).units (set (shelf_in b).units i u)
    (m ∙ sym (length-set (shelf_in b).units i u ∙ l))
    (λ j hj. unit_at_lem next j u (omega (arith, m)) ∙ at j (omega (arith, m)) (eqb j i) refl)
  where
    at : (j : ℕ) → j < 32 → (t : Bool) → eqb j i ≡ t → unit_in next j ≡ get_or (set (shelf_in b).units i u) j u
    at j hj true q =
        let x = eqb-true j i q in
        ap (unit_in next) x ∙ here ∙ sym (ap (λ n. get_or (set (shelf_in b).units i u) n u) x ∙ get_or-set_same (shelf_in b).units i u u (omega (arith, units_length b 0 32)))
    at j hj false q =
        let x = eqb-false j i q in
        there j hj x ∙ sym (get_or-set_other (shelf_in b).units i j u u x ∙ unit_at_lem b j u hj)

-- and nothing of the shelf itself: they are the shelf that they were, with that unit
pub shelf_set : (b next : List ℕ) (i : ℕ) (u : U.Unit) → i < 32 → length b ≡ 2048 → length next ≡ length b → ((k : ℕ) → Own k → get_or next k 0 ≡ get_or b k 0) → unit_in next i ≡ u → ((j : ℕ) → j < 32 → (j ≡ i → ⊥) → unit_in next j ≡ unit_in b j) → shelf_in next ≡ with_unit (shelf_in b) i u
shelf_set b next i u hi long same own here there t =
    record {
      bus = own 804 (omega arith) t;
      count = own 805 (omega arith) t;
      units = units_set b next i u hi here there t;
      arbiter = record {
        last = own 800 (omega arith) t ∷ own 801 (omega arith) t ∷ own 802 (omega arith) t ∷ [];
        asks = part_same_bytes next b 768 32 (omega arith) same (λ m hm. own (768 + m) (omega arith)) t;
      };
      granted = own 803 (omega arith) t;
      frame = own 806 (omega arith) t * 256 + own 807 (omega arith) t;
    }

-- a byte of a column after one was written
abbrev pub over : (ℕ → ℕ) → ℕ → ℕ → ℕ → ℕ
over f c v k = cond (eqb k c) v (f k)

-- one byte of a column is written
module _ (b : List ℕ) (c i v : ℕ) (hc : c < 32) (hi : i < 32) (long : length b ≡ 2048) where
  col_here : (k : ℕ) → col (with_byte b c i v) i k ≡ over (col b i) c v k
  col_here k = pick (eqb k c) refl
    where
      pick : (t : Bool) → eqb k c ≡ t → col (with_byte b c i v) i k ≡ cond t v (col b i k)
      pick true e =
          let q = eqb-true k c e in
          ap (λ n. get_or (with_byte b c i v) (n * 32 + i) 0) q ∙ get_or-set_same b (c * 32 + i) v 0 (omega arith)
      pick false e = byte_column b c i v hi i k hi (eqb-false k c e)

  sessions_kept : (j : ℕ) → part (with_byte b c i v) (1024 + 32 * j) 32 ≡ part b (1024 + 32 * j) 32
  sessions_kept j = ap (take 32) (drop-set-lt (1024 + 32 * j) b (c * 32 + i) v (omega arith))

  pub byte_there : (j : ℕ) → j < 32 → (j ≡ i → ⊥) → unit_in (with_byte b c i v) j ≡ unit_in b j
  byte_there j hj ne t = unit_by (λ k. byte_other b c i v (k * 32 + j) (λ x. ne (omega arith)) t) (sessions_kept j t)

  pub byte_here : unit_in (with_byte b c i v) i ≡ unit_by (over (col b i) c v) (part b (1024 + 32 * i) 32)
  byte_here t = unit_by (λ k. col_here k t) (sessions_kept i t)

  pub byte_put : (u : U.Unit) → Column c → unit_in (with_byte b c i v) i ≡ u → shelf_in (with_byte b c i v) ≡ with_unit (shelf_in b) i u
  byte_put u own e = shelf_set b (with_byte b c i v) i u hi long (byte_long b c i v) (byte_own b c i v hi own) e byte_there

-- a ring is written into its columns: two bytes
module _ (b : List ℕ) (h c i : ℕ) (r : Ring) (hh : h < 32) (hc : c < 32) (hi : i < 32) (long : length b ≡ 2048) where
  abbrev one : List ℕ
  one = with_byte b h i r.head

  one_long : length one ≡ 2048
  one_long = byte_long b h i r.head ∙ long

  pub ring_there : (j : ℕ) → j < 32 → (j ≡ i → ⊥) → unit_in (with_ring b h c i r) j ≡ unit_in b j
  ring_there j hj ne = byte_there one c i r.count hc hi one_long j hj ne ∙ byte_there b h i r.head hh hi long j hj ne

  pub ring_here : unit_in (with_ring b h c i r) i ≡ unit_by (over (over (col b i) h r.head) c r.count) (part b (1024 + 32 * i) 32)
  ring_here =
      byte_here one c i r.count hc hi one_long
      ∙ (λ t. unit_by (over (λ k. col_here b h i r.head hh hi long k t) c r.count) (sessions_kept b h i r.head hh hi long i t))

  pub ring_put : (u : U.Unit) → Column h → Column c → unit_in (with_ring b h c i r) i ≡ u → shelf_in (with_ring b h c i r) ≡ with_unit (shelf_in b) i u
  ring_put u oh oc e = shelf_set b (with_ring b h c i r) i u hi long (ring_long b h c i r) (ring_own b h c i r hi oh oc) e ring_there

-- the inlet of a unit is written, its four queues, its control outlet
module _ (b : List ℕ) (i : ℕ) (r : Ring) (hi : i < 32) (long : length b ≡ 2048) where
  pub inlet_put_lem : shelf_in (with_ring b 14 15 i r) ≡ with_unit (shelf_in b) i (inlet_put (unit_in b i) r)
  unfolding unit_by
  inlet_put_lem = ring_put b 14 15 i r (omega arith) (omega arith) hi long (inlet_put (unit_in b i) r) (omega arith) (omega arith) (ring_here b 14 15 i r (omega arith) (omega arith) hi long)

  queue_over : (q : ℕ) → q < 4 → unit_by (over (over (col b i) (16 + q) r.head) (20 + q) r.count) (part b (1024 + 32 * i) 32) ≡ queue_put (unit_in b i) q r
  unfolding unit_by
  queue_over zero h = refl
  queue_over (suc zero) h = refl
  queue_over (suc (suc zero)) h = refl
  queue_over (suc (suc (suc zero))) h = refl
  queue_over (suc (suc (suc (suc q)))) h = absurd (omega arith)

  pub queue_put_lem : (q : ℕ) → q < 4 → shelf_in (with_ring b (16 + q) (20 + q) i r) ≡ with_unit (shelf_in b) i (queue_put (unit_in b i) q r)
  queue_put_lem q h =
      ring_put b (16 + q) (20 + q) i r (omega arith) (omega arith) hi long (queue_put (unit_in b i) q r) (omega arith) (omega arith)
      (ring_here b (16 + q) (20 + q) i r (omega arith) (omega arith) hi long ∙ queue_over q h)

  pub controlout_put : shelf_in (with_ring b 28 29 i r) ≡ with_unit (shelf_in b) i (side_put (unit_in b i) (control_out_put (unit_in b i).side r))
  unfolding unit_by
  controlout_put = ring_put b 28 29 i r (omega arith) (omega arith) hi long (side_put (unit_in b i) (control_out_put (unit_in b i).side r)) (omega arith) (omega arith) (ring_here b 28 29 i r (omega arith) (omega arith) hi long)

-- a single place of a unit is written: the control cell or the loopback cell of its inlet, the loopback cell of its outlet
module _ (b : List ℕ) (i v : ℕ) (hi : i < 32) (long : length b ≡ 2048) where
  pub controlin_put : shelf_in (with_byte b 26 i v) ≡ with_unit (shelf_in b) i (side_put (unit_in b i) (control_in_put (unit_in b i).side v))
  unfolding unit_by
  controlin_put = byte_put b 26 i v (omega arith) hi long (side_put (unit_in b i) (control_in_put (unit_in b i).side v)) (omega arith) (byte_here b 26 i v (omega arith) hi long)

  pub loopbackin_put : shelf_in (with_byte b 27 i v) ≡ with_unit (shelf_in b) i (side_put (unit_in b i) (loopback_in_put (unit_in b i).side v))
  unfolding unit_by
  loopbackin_put = byte_put b 27 i v (omega arith) hi long (side_put (unit_in b i) (loopback_in_put (unit_in b i).side v)) (omega arith) (byte_here b 27 i v (omega arith) hi long)

  pub loopbackout_put : shelf_in (with_byte b 30 i v) ≡ with_unit (shelf_in b) i (side_put (unit_in b i) (loopback_out_put (unit_in b i).side v))
  unfolding unit_by
  loopbackout_put = byte_put b 30 i v (omega arith) hi long (side_put (unit_in b i) (loopback_out_put (unit_in b i).side v)) (omega arith) (byte_here b 30 i v (omega arith) hi long)
