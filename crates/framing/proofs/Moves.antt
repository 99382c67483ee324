-- The loopback cells move: the bytes, the store and the counters afterwards are those of the shelf, and what of the bytes is kept. Assumes nothing.
use Rattle.std.proofs.Common.{◌≡◌, ℕ, zero, suc, ◌+◌, ◌-◌, ◌*◌, ◌<◌, ◌≤◌, min, Bool, true, false, cond, not, ◌&&◌, ◌||◌, eqb, List, [], ◌∷◌, length, get_or, set, replicate, sym, refl, ap, ◌∙◌, subst, add-one, arith, take_all}
use lib.ListN.{get_or-replicate}
use lib.Seq.{set-get_or}
use Rattle.octets.specs.Octets.{part, splice}
use Rattle.octets.proofs.Parts.{copied}
use Rattle.arbiter.proofs.Requests.{same_or}
use Rattle.bus.specs.Frame.{returned}
use Rattle.outlet.specs.declared.Ring.{Ring}
use Rattle.store.specs.Places.{slot_at, loopback_in_slot, loopback_out_slot, cell_at, put_at}
use Rattle.answer.specs.Answers.{#taken}
use Rattle.shelf.specs.Shelves.{declared}
use Rattle.shelf.specs.declared.Unit as U
use Rattle.shelf.specs.Shelf.{Shelf}
use Rattle.state.specs.Bytes.{col, ring_by, unit_by, unit_in, units_from, shelf_in, with_ring, with_byte}
use Rattle.state.proofs.Kept.{Column, ring_long, ring_other}
use Rattle.state.proofs.Laws.{ring_there, ring_here, shelf_set}
use Rattle.soundness.specs.Soundings.{formed_all}
use Rattle.soundness.proofs.Kept.{formed_ring}
use Rattle.soundness.specs.Admission.{with_unit, with_side, Housed}
use Rattle.framing.specs.Moves.{moves, moved_unit, moved_rises, moved_store, moved_from, each_from, store_from, moved, moved_each, moved_stores, moved_state, Moved, move, move_from, moved_in, some_looped}
use Rattle.framing.specs.Scenes.{AllHousedIn}
use Rattle.framing.proofs.Turns.{units_same, units_declared}

-- what is written where one moves: its place in the inlet is taken, that in the outlet free. Two bytes, as those of a ring
abbrev gone : Ring
gone = record { head = 1; count = 0 }

-- either way: it moves, or nothing changes
pub either : {A : Type 0} (P : A → Type 0) (t : Bool) (x y : A) → P x → P y → P (cond t x y)
either P true x y f g = f
either P false x y f g = g

-- one unit
module _ (b : List ℕ) (i : ℕ) where
  pub moved_long : length (moved_state b i) ≡ length b
  moved_long = either (λ x. length x ≡ length b) (moves (unit_in b i)) (with_ring b 27 30 i gone) b (ring_long b 27 30 i gone) refl

  moved_other : (k : ℕ) → ((c : ℕ) → 14 ≤ c → Column c → k ≡ c * 32 + i → ⊥) → get_or (moved_state b i) k 0 ≡ get_or b k 0
  moved_other k ne =
      either (λ x. get_or x k 0 ≡ get_or b k 0) (moves (unit_in b i)) (with_ring b 27 30 i gone) b (ring_other b 27 30 i gone k (ne 27 (omega arith) (omega arith)) (ne 30 (omega arith) (omega arith))) refl

  module _ (hi : i < 32) where
    moved_formed : formed_all (moved_state b i) ≡ formed_all b
    moved_formed =
        either (λ x. formed_all x ≡ formed_all b) (moves (unit_in b i)) (with_ring b 27 30 i gone) b (formed_ring b 27 30 i gone (omega arith) (omega arith) (omega arith) (omega arith) hi) refl

    module _ (long : length b ≡ 2048) where
      pub moved_there : (j : ℕ) → j < 32 → (j ≡ i → ⊥) → unit_in (moved_state b i) j ≡ unit_in b j
      moved_there j hj ne =
          either (λ x. unit_in x j ≡ unit_in b j) (moves (unit_in b i)) (with_ring b 27 30 i gone) b (ring_there b 27 30 i gone (omega arith) (omega arith) hi long j hj ne) refl

      pub moved_here : unit_in (moved_state b i) i ≡ moved_unit (unit_in b i)
      unfolding moved_unit unit_by
      moved_here = by (moves (unit_in b i))
        where
          by : (t : Bool) → unit_in (cond t (with_ring b 27 30 i gone) b) i ≡ cond t (with_side (unit_in b i) (record { controlin = col b i 26; loopbackin = 1; controlout = ring_by (col b i) 28 29; loopbackout = 0 })) (unit_in b i)
          by true = ring_here b 27 30 i gone (omega arith) (omega arith) hi long
          by false = refl

      pub moved_put : shelf_in (moved_state b i) ≡ with_unit (shelf_in b) i (moved_unit (unit_in b i))
      moved_put =
          shelf_set b (moved_state b i) i (moved_unit (unit_in b i)) hi long moved_long (λ k own. moved_other k (λ c low col e. omega arith)) moved_here moved_there

      -- its part of the store and its rings stay as they are
      moved_housed : (n j : ℕ) → j < 32 → Housed j (unit_in b j) n → Housed j (unit_in (moved_state b i) j) n
      unfolding moved_unit
      moved_housed n j hj h =
          same_or j i
          (λ e. subst (λ k. Housed k (unit_in (moved_state b i) k) n) (sym e) (subst (λ u. Housed i u n) (sym moved_here) (by (moves (unit_in b i)) (subst (λ k. Housed k (unit_in b k) n) e h))))
          (λ ne. subst (λ u. Housed j u n) (sym (moved_there j hj ne)) h)
        where
          by : (t : Bool) → Housed i (unit_in b i) n → Housed i (cond t (with_side (unit_in b i) (record { controlin = (unit_in b i).side.controlin; loopbackin = 1; controlout = (unit_in b i).side.controlout; loopbackout = 0 })) (unit_in b i)) n
          by true h = record { below = h.below; inside = h.inside; limits = h.limits; queues = h.queues; inlet = h.inlet; side = record { controlout = h.side.controlout; controlin = h.side.controlin; loopbackin = omega arith; loopbackout = omega arith } }
          by false h = h

-- so many places
later : (i n : ℕ) (b : List ℕ) → i + suc n ≤ 32 → length b ≡ 2048 → units_from (moved_state b i) (suc i) n ≡ units_from b (suc i) n
later i n b hi long = units_same (moved_state b i) b (suc i) n (λ j a l. moved_there b i (omega arith) long j (omega arith) (λ e. absurd (omega arith)))

all_put : (i n : ℕ) (x : Moved) → i + n ≤ 32 → length x.bytes ≡ 2048 → shelf_in (move_from i n x).bytes ≡ moved_from i (units_from x.bytes i n) (shelf_in x.bytes)
unfolding move_from moved_from units_from
all_put i zero x hi long = refl
all_put i (suc n) x hi long =
    all_put (suc i) n (move i x) (omega arith) (moved_long x.bytes i ∙ long) ∙ (λ t. moved_from (suc i) (later i n x.bytes hi long t) (moved_put x.bytes i (omega arith) long t))

all_each : (i n : ℕ) (x : Moved) → i + n ≤ 32 → length x.bytes ≡ 2048 → (move_from i n x).each ≡ each_from i (units_from x.bytes i n) x.each
unfolding move_from each_from units_from
all_each i zero x hi long = refl
all_each i (suc n) x hi long = all_each (suc i) n (move i x) (omega arith) (moved_long x.bytes i ∙ long) ∙ (λ t. each_from (suc i) (later i n x.bytes hi long t) (move i x).each)

all_stored : (i n : ℕ) (x : Moved) → i + n ≤ 32 → length x.bytes ≡ 2048 → (move_from i n x).store ≡ store_from i (units_from x.bytes i n) x.store
unfolding move_from store_from units_from
all_stored i zero x hi long = refl
all_stored i (suc n) x hi long = all_stored (suc i) n (move i x) (omega arith) (moved_long x.bytes i ∙ long) ∙ (λ t. store_from (suc i) (later i n x.bytes hi long t) (move i x).store)

all_long : (i n : ℕ) (x : Moved) → length (move_from i n x).bytes ≡ length x.bytes
unfolding move_from
all_long i zero x = refl
all_long i (suc n) x = all_long (suc i) n (move i x) ∙ moved_long x.bytes i

all_formed : (i n : ℕ) (x : Moved) → i + n ≤ 32 → formed_all (move_from i n x).bytes ≡ formed_all x.bytes
unfolding move_from
all_formed i zero x hi = refl
all_formed i (suc n) x hi = all_formed (suc i) n (move i x) (omega arith) ∙ moved_formed x.bytes i (omega arith)

all_other : (i n : ℕ) (x : Moved) → (k : ℕ) → ((j c : ℕ) → i ≤ j → j < i + n → 14 ≤ c → Column c → k ≡ c * 32 + j → ⊥) → get_or (move_from i n x).bytes k 0 ≡ get_or x.bytes k 0
unfolding move_from
all_other i zero x k ne = refl
all_other i (suc n) x k ne = all_other (suc i) n (move i x) k (λ j c a l. ne j c (omega arith) (omega arith)) ∙ moved_other x.bytes i k (λ c. ne i c (omega arith) (omega arith))

all_housed : (m i n : ℕ) (x : Moved) → i + n ≤ 32 → length x.bytes ≡ 2048 → (j : ℕ) → j < 32 → Housed j (unit_in x.bytes j) m → Housed j (unit_in (move_from i n x).bytes j) m
unfolding move_from
all_housed m i zero x hi long j hj h = h
all_housed m i (suc n) x hi long j hj h =
    all_housed m (suc i) n (move i x) (omega arith) (moved_long x.bytes i ∙ long) j hj (moved_housed x.bytes i (omega arith) long m j hj h)

-- one place more, none is left: as the loop goes
pub moves_step : (i n : ℕ) (x y : Moved) → i < n → move i x ≡ y → move_from i (n - i) x ≡ move_from (i + 1) (n - (i + 1)) y
unfolding move_from
moves_step i n x y less e =
    let m : n - i ≡ suc (n - (i + 1)) = omega arith in
    ap (λ k. move_from i k x) m ∙ (λ t. move_from (sym (add-one i) t) (n - (i + 1)) (e t))

pub moves_end : (i n : ℕ) (x : Moved) → n ≤ i → move_from i (n - i) x ≡ x
unfolding move_from
moves_end i n x e = let m : n - i ≡ 0 = omega arith in ap (λ k. move_from i k x) m

-- every declared unit
module _ (b store : List ℕ) where
  abbrev begun : Moved
  begun = record { bytes = b; store = store; each = replicate 32 0 }

  pub moves_long : length (moved_in b store).bytes ≡ length b
  moves_long = all_long 0 (min (get_or b 805 0) 32) begun

  pub moves_formed : formed_all (moved_in b store).bytes ≡ formed_all b
  moves_formed = all_formed 0 (min (get_or b 805 0) 32) begun (omega arith)

  pub moves_other : (k : ℕ) → ((j c : ℕ) → j < 32 → j < get_or b 805 0 → 14 ≤ c → Column c → k ≡ c * 32 + j → ⊥) → get_or (moved_in b store).bytes k 0 ≡ get_or b k 0
  moves_other k ne = all_other 0 (min (get_or b 805 0) 32) begun k (λ j c a l. ne j c (omega arith) (omega arith))

  pub moves_count : get_or (moved_in b store).bytes 805 0 ≡ get_or b 805 0
  moves_count = moves_other 805 (λ j c hj lj lc hc e. omega arith)

  module _ (long : length b ≡ 2048) where
    pub moves_decode : shelf_in (moved_in b store).bytes ≡ moved (shelf_in b)
    moves_decode = all_put 0 (min (get_or b 805 0) 32) begun (omega arith) long ∙ ap (λ us. moved_from 0 us (shelf_in b)) (units_declared b)

    pub moves_each : (moved_in b store).each ≡ moved_each (shelf_in b)
    moves_each = all_each 0 (min (get_or b 805 0) 32) begun (omega arith) long ∙ ap (λ us. each_from 0 us (replicate 32 0)) (units_declared b)

    pub moves_store : (moved_in b store).store ≡ moved_stores (shelf_in b) store
    moves_store = all_stored 0 (min (get_or b 805 0) 32) begun (omega arith) long ∙ ap (λ us. store_from 0 us store) (units_declared b)

    -- each has its part of the store as before
    pub moves_housed : (n : ℕ) → AllHousedIn b n → AllHousedIn (moved_in b store).bytes n
    moves_housed n all j h =
        let c = moves_count in
        all_housed n 0 (min (get_or b 805 0) 32) begun (omega arith) long j (omega arith) (all j (omega arith))

-- what of a shelf no unit has a part in
pub moved_same : {A : Type 0} (f : Shelf → A) → ((s : Shelf) (i : ℕ) (u : U.Unit) → f (with_unit s i u) ≡ f s) → (i : ℕ) (us : List U.Unit) (s : Shelf) → f (moved_from i us s) ≡ f s
unfolding moved_from
moved_same f same i [] s = refl
moved_same f same i (u ∷ us) s = moved_same f same (suc i) us (with_unit s i (moved_unit u)) ∙ same s i (moved_unit u)

pub moved_count : (s : Shelf) → (moved s).count ≡ s.count
moved_count s = moved_same (λ x. x.count) (λ x i u. refl) 0 (declared s) s

-- whether some waits, so far and in those that are left
pub looped_step : (b : List ℕ) (i : ℕ) (some now : Bool) → i < 32 → now ≡ (some || not (eqb (col b i 30) 0)) →
    (some || some_looped b i (32 - i)) ≡ (now || some_looped b (i + 1) (32 - (i + 1)))
unfolding some_looped
looped_step b i some now less e =
    let m : 32 - i ≡ suc (32 - (i + 1)) = omega arith in
    ap (λ k. some || some_looped b i k) m ∙ by some (not (eqb (col b i 30) 0)) (some_looped b (suc i) (32 - (i + 1))) ∙ (λ t. sym e t || some_looped b (sym (add-one i) t) (32 - (i + 1)))
  where
    by : (x y z : Bool) → (x || (y || z)) ≡ ((x || y) || z)
    by true y z = refl
    by false y z = refl

pub looped_end : (b : List ℕ) (i : ℕ) (some : Bool) → 32 ≤ i → (some || some_looped b i (32 - i)) ≡ some
unfolding some_looped
looped_end b i some h = let m : 32 - i ≡ 0 = omega arith in ap (λ k. some || some_looped b i k) m ∙ by some
  where
    by : (x : Bool) → (x || false) ≡ x
    by true = refl
    by false = refl

-- where none waits, nothing moves
unlooped : (b : List ℕ) (i n j : ℕ) → some_looped b i n ≡ false → i ≤ j → j < i + n → eqb (col b j 30) 0 ≡ true
unfolding some_looped
unlooped b i zero j e low high = absurd (omega arith)
unlooped b i (suc n) j e low high =
    same_or j i
    (λ q. ap (λ k. eqb (col b k 30) 0) q ∙ here (eqb (col b i 30) 0) (some_looped b (suc i) n) e)
    (λ ne. unlooped b (suc i) n j (there (eqb (col b i 30) 0) (some_looped b (suc i) n) e) (omega arith) (omega arith))
  where
    here : (x y : Bool) → (not x || y) ≡ false → x ≡ true
    here true y e = refl
    here false y e = sym e

    there : (x y : Bool) → (not x || y) ≡ false → y ≡ false
    there true y e = e
    there false true e = e
    there false false e = refl

stays : (b : List ℕ) (i : ℕ) → eqb (col b i 30) 0 ≡ true → moves (unit_in b i) ≡ false
unfolding moves unit_by
stays b i e = rw e

-- nothing is written; or the cell in the inlet's slot, and two bytes
module _ (b store : List ℕ) (i : ℕ) where
  pub unmoved_all : moves (unit_in b i) ≡ false → (0 ≡ moved_rises (unit_in b i)) × ((b ≡ moved_state b i) × (store ≡ moved_store (unit_in b i) i store))
  unfolding moved_rises moved_store
  unmoved_all e = (rw e, (rw e, rw e))

  pub moved_all : moves (unit_in b i) ≡ true →
      (#taken ≡ moved_rises (unit_in b i)) × ((with_byte (with_byte b 27 i 1) 30 i 0 ≡ moved_state b i) × (put_at store i loopback_in_slot (returned (cell_at store i loopback_out_slot)) ≡ moved_store (unit_in b i) i store))
  unfolding moved_rises moved_store
  moved_all e = (rw e, (rw e, rw e))

nothing_moves : (b : List ℕ) → ((j : ℕ) → j < 32 → eqb (col b j 30) 0 ≡ true) → (i n : ℕ) (store : List ℕ) → i + n ≤ 32 → move_from i n (begun b store) ≡ begun b store
unfolding move_from
nothing_moves b none i zero store hi = refl
nothing_moves b none i (suc n) store hi =
    let w = unmoved_all b store i (stays b i (none i (omega arith))) in
    let z : List ℕ = replicate 32 0 in
    let r : set z i 0 ≡ z = ap (set z i) (sym (get_or-replicate 32 i 0 0 (omega arith))) ∙ set-get_or z i 0 in
    ap (move_from (suc i) n) (λ t. record { bytes = sym w.1.0 t; store = sym w.1.1 t; each = (ap (set z i) (sym w.0) ∙ r) t })
    ∙ nothing_moves b none (suc i) n store (omega arith)

pub none_moves : (b store : List ℕ) → some_looped b 0 32 ≡ false → moved_in b store ≡ begun b store
none_moves b store e = nothing_moves b (λ j h. unlooped b 0 32 j e (omega arith) (omega arith)) 0 (min (get_or b 805 0) 32) store (omega arith)

-- what is read of the bytes says whether it moves, as the code asks
pub moves_by : (b : List ℕ) (i : ℕ) → moves (unit_in b i) ≡ not (eqb (col b i 30) 0 || not (eqb (col b i 27) 0))
unfolding moves unit_by
moves_by b i = by (eqb (col b i 30) 0) (eqb (col b i 27) 0)
  where
    by : (x y : Bool) → (not x && y) ≡ not (x || not y)
    by true y = refl
    by false true = refl
    by false false = refl

-- the cell by way of a local array
pub turned_back : (store cell copy back : List ℕ) (i at to : ℕ) → at ≡ slot_at i loopback_out_slot → cell ≡ part store at 56 → length cell ≡ 56 → copy ≡ splice (replicate 56 0) 0 cell → back ≡ returned copy → to ≡ slot_at i loopback_in_slot →
    splice store to back ≡ put_at store i loopback_in_slot (returned (cell_at store i loopback_out_slot))
unfolding put_at cell_at
turned_back store cell copy back i at to at_is cell_is full Copy-is back_is to_is =
    let z : List ℕ = replicate 56 0 in
    let whole = Copy-is ∙ ap (splice z 0) (sym (take_all 56 cell (omega arith))) ∙ copied 56 z cell refl full in
    (λ t. splice store (to_is t) ((back_is ∙ ap returned (whole ∙ cell_is ∙ ap (λ n. part store n 56) at_is)) t))
