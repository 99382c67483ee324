-- The bytes after a unit was declared are the shelf with that unit. Assumes nothing.
use mathlib.Core.Path.{◌≡◌, refl, sym, ap, ◌∙◌}
use mathlib.Core.Bool.{Bool, true, false}
use mathlib.Core.Logic.{⊎_elim}
use mathlib.Core.List.{List, [], ◌∷◌}
use Prim.Native.Nat.{ℕ, zero, suc, ◌+◌, ◌*◌, ◌/◌, ◌%◌, ◌-◌, ◌≤◌, ◌<◌}
use native.Mathlib.Numerals.{add-one}
use native.Mathlib.Omega.{arith}
use lib.Dec.{eqb}
use lib.ListN.{length, replicate, get_or, set, take, drop, length-set, get_or-replicate, get_or-eq_default}
use lib.Seq.{get_or-set_same, get_or-set_other, drop-set-lt, drop-cons}
use Rattle.octets.specs.Octets.{part, splice}
use Rattle.octets.proofs.Parts.{length_splice, part_same, part_before, part_after}
use Rattle.header.specs.declared.Link.{Link}
use Rattle.header.specs.declared.Link.TheVariants.{Uni, Nni}
use Rattle.outlet.specs.Outlets.{fresh as fresh_outlet}
use Rattle.outlet.specs.declared.Mode.{Mode}
use Rattle.outlet.specs.declared.Mode.TheVariants.{One, Four}
use Rattle.outlet.specs.declared.Limits.{Limits}
use Rattle.shelf.specs.Shelves.{unit, empty_side}
use Rattle.shelf.specs.declared.Settings.{Settings}
use Rattle.shelf.specs.declared.Unit as U
use Rattle.state.specs.Bytes.{col, link_of, mode_of, unit_by, unit_in, shelf_in}
use Rattle.state.specs.Placing.{link_byte, mode_byte, mark_byte, columns_of, puts, side_emptied, placed, declared_by, declare_in}
use Rattle.state.proofs.Kept.{Column, Own}
use Rattle.state.proofs.Laws.{apart, part_same_bytes, by_columns, units_set}

-- one column more
pub puts_step : (b vs : List ℕ) (i first k : ℕ) → k < length vs → puts b i (first + k) (drop k vs) ≡ puts (set b ((first + k) * 32 + i) (get_or vs k 0)) i (first + (k + 1)) (drop (k + 1) vs)
unfolding puts
puts_step b vs i first k h =
    let e : suc (first + k) ≡ first + (k + 1) = omega arith in
    ap (puts b i (first + k)) (drop-cons vs k 0 h)
    ∙ (λ t. puts (set b ((first + k) * 32 + i) (get_or vs k 0)) i (e t) (drop (sym (add-one k) t) vs))

pub puts_none : (b : List ℕ) (i c : ℕ) (vs : List ℕ) → vs ≡ [] → puts b i c vs ≡ b
unfolding puts
puts_none b i c vs e = ap (puts b i c) e

pub puts_length : (b : List ℕ) (i c : ℕ) (vs : List ℕ) → length (puts b i c vs) ≡ length b
unfolding puts
puts_length b i c [] = refl
puts_length b i c (v ∷ vs) = puts_length (set b (c * 32 + i) v) i (suc c) vs ∙ length-set b (c * 32 + i) v

puts_other : (b : List ℕ) (i c : ℕ) (vs : List ℕ) (x : ℕ) → ((k : ℕ) → k < length vs → x ≡ (c + k) * 32 + i → ⊥) → get_or (puts b i c vs) x 0 ≡ get_or b x 0
unfolding puts
puts_other b i c [] x ne = refl
puts_other b i c (v ∷ vs) x ne =
    puts_other (set b (c * 32 + i) v) i (suc c) vs x (λ k h e. ne (suc k) (omega arith) (omega arith))
    ∙ get_or-set_other b (c * 32 + i) x v 0 (λ e. ne 0 (omega arith) (omega arith))

puts_at : (b : List ℕ) (i c : ℕ) (vs : List ℕ) (k : ℕ) → k < length vs → c + length vs ≤ 32 → i < 32 → length b ≡ 2048 → get_or (puts b i c vs) ((c + k) * 32 + i) 0 ≡ get_or vs k 0
unfolding puts
puts_at b i c [] k h f hi long = absurd (omega arith)
puts_at b i c (v ∷ vs) zero h f hi long =
    puts_other (set b (c * 32 + i) v) i (suc c) vs ((c + 0) * 32 + i) (λ k l e. absurd (omega arith))
    ∙ (let e : (c + 0) * 32 + i ≡ c * 32 + i = omega arith in ap (λ n. get_or (set b (c * 32 + i) v) n 0) e)
    ∙ get_or-set_same b (c * 32 + i) v 0 (omega arith)
puts_at b i c (v ∷ vs) (suc k) h f hi long =
    (let e : (c + suc k) * 32 + i ≡ (suc c + k) * 32 + i = omega arith in ap (λ n. get_or (puts (set b (c * 32 + i) v) i (suc c) vs) n 0) e)
    ∙ puts_at (set b (c * 32 + i) v) i (suc c) vs k (omega arith) (omega arith) hi (length-set b (c * 32 + i) v ∙ long)

-- a byte, and a part of so many
at_part : (b : List ℕ) (x : ℕ) → get_or b x 0 ≡ get_or (part b x 1) 0 0
at_part [] zero = refl
at_part [] (suc x) = refl
at_part (a ∷ b) zero = refl
at_part (a ∷ b) (suc x) = at_part b x

link_back : (l : Link) → link_of (link_byte l) ≡ l
unfolding link_of link_byte
link_back Uni = refl
link_back Nni = refl

mode_back : (m : Mode) → mode_of (mode_byte m) ≡ m
unfolding mode_of mode_byte
mode_back One = refl
mode_back Four = refl

mark_back : (b : Bool) → eqb (mark_byte b) 1 ≡ b
unfolding mark_byte
mark_back true = refl
mark_back false = refl

two_back : (n : ℕ) → n / 256 * 256 + n % 256 ≡ n
two_back n = omega arith

halves_back : (n : ℕ) → n / 65536 * 65536 + n % 65536 ≡ n
halves_back n = omega arith

-- the columns of a fresh unit are that unit
fresh_back : (s : Settings) (l : Limits) (place : ℕ) → unit_by (λ k. get_or (columns_of s (fresh_outlet l) place) k 0) (replicate 32 0) ≡ unit s l place
unfolding unit_by
fresh_back s l place =
    (λ z. record {
      settings = record { number = s.number; link = link_back s.link z; top = two_back s.top z; priority = s.priority };
      inlet = record { head = 0; count = 0 };
      outlet = record {
        limits = record { mode = mode_back l.mode z; cbrlength = l.cbrlength; cbrlimit = l.cbrlimit; vbrlimit = l.vbrlimit; mark = mark_back l.mark z };
        queues = record { head = 0; count = 0 } ∷ record { head = 0; count = 0 } ∷ record { head = 0; count = 0 } ∷ record { head = 0; count = 0 } ∷ [];
      };
      side = empty_side;
      place = two_back (place / 65536) z * 65536 + two_back (place % 65536) z;
      sessions = replicate 32 0;
    })
    ∙ (λ z. record {
      settings = s;
      inlet = record { head = 0; count = 0 };
      outlet = record { limits = l; queues = record { head = 0; count = 0 } ∷ record { head = 0; count = 0 } ∷ record { head = 0; count = 0 } ∷ record { head = 0; count = 0 } ∷ [] };
      side = empty_side;
      place = halves_back place z;
      sessions = replicate 32 0;
    })

module _ (b : List ℕ) (i : ℕ) (vs : List ℕ) (hi : i < 32) (long : length b ≡ 2048) (all : length vs ≡ 24) where
  abbrev cols : List ℕ
  cols = puts b i 0 vs

  cols_long : length cols ≡ 2048
  cols_long = puts_length b i 0 vs ∙ long

  abbrev all_cols : List ℕ
  all_cols = side_emptied cols i

  all_cols_long : length all_cols ≡ 2048
  unfolding side_emptied
  all_cols_long = puts_length cols i 26 (replicate 5 0) ∙ cols_long

  abbrev none : List ℕ
  none = replicate 32 0

  fits : 1024 + 32 * i + length none ≤ length all_cols
  fits = let l = all_cols_long in omega arith

  abbrev whole : List ℕ
  whole = splice all_cols (1024 + 32 * i) none

  whole_long : length whole ≡ 2048
  whole_long = length_splice all_cols (1024 + 32 * i) none fits ∙ all_cols_long

  pub placed_long : length (placed b i vs) ≡ 2048
  unfolding placed
  placed_long = length-set whole 805 (i + 1) ∙ whole_long

  -- a byte before the sessions, or behind them
  before : (x : ℕ) → x < 1024 + 32 * i → (x ≡ 805 → ⊥) → get_or (placed b i vs) x 0 ≡ get_or all_cols x 0
  unfolding placed
  before x h ne =
      get_or-set_other whole 805 x (i + 1) 0 ne
      ∙ at_part whole x ∙ ap (λ l. get_or l 0 0) (part_before all_cols (1024 + 32 * i) none fits x 1 (omega arith)) ∙ sym (at_part all_cols x)

  behind : (x : ℕ) → 1056 + 32 * i ≤ x → get_or (placed b i vs) x 0 ≡ get_or all_cols x 0
  unfolding placed
  behind x h =
      get_or-set_other whole 805 x (i + 1) 0 (λ e. absurd (omega arith))
      ∙ at_part whole x ∙ ap (λ l. get_or l 0 0) (part_after all_cols (1024 + 32 * i) none fits x 1 (omega arith)) ∙ sym (at_part all_cols x)

  -- a byte in none of the unit's columns
  beside : (x : ℕ) → ((k : ℕ) → Column k → x ≡ k * 32 + i → ⊥) → get_or all_cols x 0 ≡ get_or b x 0
  unfolding side_emptied
  beside x ne =
      puts_other cols i 26 (replicate 5 0) x (λ k h e. ne (26 + k) (omega arith) e) ∙ puts_other b i 0 vs x (λ k h e. ne k (omega arith) (omega arith))

  -- in its columns, of which it is given those up to the 24th: the others are empty
  given : (k : ℕ) → k < 24 → col all_cols i k ≡ get_or vs k 0
  unfolding side_emptied
  given k h =
      puts_other cols i 26 (replicate 5 0) (k * 32 + i) (λ m hm e. absurd (omega arith))
      ∙ (let e : k * 32 + i ≡ (0 + k) * 32 + i = omega arith in ap (λ n. get_or cols n 0) e) ∙ puts_at b i 0 vs k (omega arith) (omega arith) hi long

  emptied : (k : ℕ) → 26 ≤ k → k < 31 → col all_cols i k ≡ get_or vs k 0
  unfolding side_emptied
  emptied k h l =
      (let e : k * 32 + i ≡ (26 + (k - 26)) * 32 + i = omega arith in ap (λ n. get_or (puts cols i 26 (replicate 5 0)) n 0) e)
      ∙ puts_at cols i 26 (replicate 5 0) (k - 26) (omega arith) (omega arith) hi cols_long
      ∙ get_or-replicate 5 (k - 26) 0 0 (omega arith) ∙ sym (get_or-eq_default vs 0 {n = k} (omega arith))

  pub placed_kept : (x : ℕ) → ((k : ℕ) → Column k → x ≡ k * 32 + i → ⊥) → x < 1024 + 32 * i → (x ≡ 805 → ⊥) → get_or (placed b i vs) x 0 ≡ get_or b x 0
  placed_kept x ne l n = before x l n ∙ beside x ne

  kept_behind : (x : ℕ) → 1056 + 32 * i ≤ x → get_or (placed b i vs) x 0 ≡ get_or b x 0
  kept_behind x h = behind x h ∙ beside x (λ k c e. absurd (omega arith))

  pub placed_count : get_or (placed b i vs) 805 0 ≡ i + 1
  unfolding placed
  placed_count = get_or-set_same whole 805 (i + 1) 0 (let l = whole_long in omega arith)

  pub placed_here : (k : ℕ) → Column k → col (placed b i vs) i k ≡ get_or vs k 0
  placed_here k h = before (k * 32 + i) (omega arith) (λ e. absurd (omega arith)) ∙ ⊎_elim (λ x. given k x) (λ x. emptied k (omega arith) (omega arith)) (apart k 24 h.1)

  pub placed_there : (j : ℕ) → j < 32 → (j ≡ i → ⊥) → (k : ℕ) → Column k → col (placed b i vs) j k ≡ col b j k
  placed_there j hj ne k h = placed_kept (k * 32 + j) (λ m c e. ne (omega arith)) (omega arith) (λ e. absurd (omega arith))

  here : unit_in (placed b i vs) i ≡ unit_by (λ k. get_or vs k 0) (replicate 32 0)
  unfolding placed
  here =
      by_columns (col (placed b i vs) i) (λ k. get_or vs k 0) (part (placed b i vs) (1024 + 32 * i) 32) (replicate 32 0) placed_here
      (ap (take 32) (drop-set-lt (1024 + 32 * i) whole 805 (i + 1) (omega arith)) ∙ part_same all_cols (1024 + 32 * i) none fits)

  there : (j : ℕ) → j < 32 → (j ≡ i → ⊥) → unit_in (placed b i vs) j ≡ unit_in b j
  there j hj ne =
      by_columns (col (placed b i vs) j) (col b j) (part (placed b i vs) (1024 + 32 * j) 32) (part b (1024 + 32 * j) 32) (placed_there j hj ne)
      (part_same_bytes (placed b i vs) b (1024 + 32 * j) 32 (let l = placed_long in omega arith) (placed_long ∙ sym long)
      (λ m hm. ⊎_elim (λ less. placed_kept (1024 + 32 * j + m) (λ k c e. absurd (omega arith)) (omega arith) (λ e. absurd (omega arith))) (λ more. kept_behind (1024 + 32 * j + m) (omega arith)) (apart j i ne)))

  -- a byte of the shelf itself, but for how many units there are
  own : (x : ℕ) → Own x → (x ≡ 805 → ⊥) → get_or (placed b i vs) x 0 ≡ get_or b x 0
  own x h ne = placed_kept x (λ k c e. absurd (omega arith)) (omega arith) ne

  shelf_placed : (u : U.Unit) → unit_by (λ k. get_or vs k 0) (replicate 32 0) ≡ u → i ≡ get_or b 805 0 → shelf_in (placed b i vs) ≡ declare_in (shelf_in b) u
  shelf_placed u e same t =
      record {
        bus = own 804 (omega arith) (omega arith) t;
        count = (placed_count ∙ ap (λ n. n + 1) same) t;
        units = (units_set b (placed b i vs) i u hi (here ∙ e) there ∙ ap (λ n. set (shelf_in b).units n u) same) t;
        arbiter = record {
          last = own 800 (omega arith) (omega arith) t ∷ own 801 (omega arith) (omega arith) t ∷ own 802 (omega arith) (omega arith) t ∷ [];
          asks = part_same_bytes (placed b i vs) b 768 32 (let l = placed_long in omega arith) (placed_long ∙ sym long) (λ m hm. own (768 + m) (omega arith) (omega arith)) t;
        };
        granted = own 803 (omega arith) (omega arith) t;
        frame = own 806 (omega arith) (omega arith) t * 256 + own 807 (omega arith) (omega arith) t;
      }

-- 01's "unit" line: one unit more, empty, that hears no session
pub declared_shelf : (b : List ℕ) (s : Settings) (l : Limits) (place : ℕ) → length b ≡ 2048 → get_or b 805 0 < 32 → shelf_in (declared_by b s (fresh_outlet l) place) ≡ declare_in (shelf_in b) (unit s l place)
declared_shelf b s l place long h = shelf_placed b (get_or b 805 0) (columns_of s (fresh_outlet l) place) h long refl (unit s l place) (fresh_back s l place) refl
