-- The loopback cells move at the start of a frame: the units, the counters and the store, place by place. Assumes nothing.
use Prim.Native.Nat.{ℕ, suc, ◌+◌, ◌-◌, ◌*◌, ◌/◌, ◌%◌, ◌<◌, ◌≤◌}
use native.Mathlib.Omega.{arith}
use mathlib.Core.Path.{◌≡◌, refl, sym, ap, subst, ◌∙◌}
use mathlib.Core.Logic.{◌⊎◌, ◌↔◌}
use mathlib.Core.Bool.{Bool, true, false, not, ◌&&◌, cond}
use mathlib.Core.List.{List, [], ◌∷◌, ◌++◌, map}
use lib.Dec.{eqb, leb}
use lib.ListN.{length, get_or, set, drop, replicate, length-map}
use lib.Seq.{sets, sets-eq, length-sets, get_or-drop, get_or-append-add}
use borrow.Author.Tests.{eqb-true, eqb-false, lt-leb, le-leb}
use Rattle.remainder.proofs.Laws.{residue_lt}
use Rattle.card.specs.declared.Card.{Card}
use Rattle.bus.specs.Routing as routing
use Rattle.bus.specs.Frame as bus
use Rattle.bus.proofs.Wire.{length_returned}
use Rattle.outlet.proofs.Truth.{decide, eq_iff, le_iff, and_iff}
use Rattle.store.specs.Places as places
use Rattle.store.proofs.Slots.{part_inside, slot_inside, cell_length, put_length}
use Rattle.shelf.specs.Shelves.{declared}
use Rattle.shelf.specs.declared.Unit as U
use Rattle.shelf.specs.Shelf.{Shelf}
use Rattle.answer.specs.Answers.{#taken}
use Rattle.answer.specs.Counting.{settled}
use Rattle.answer.specs.declared.Rises.{Rises}
use Rattle.answer.proofs.Settling.{length_settled}
use Rattle.soundness.specs.Admission as admit
use Rattle.framing.specs.Moves as moving
use Rattle.framing.proofs.Moving.{moved_unit_lem, moved_rises_lem, stores_long, stores_here}
use Rattle.running.specs.Events.{World}
use Rattle.running.proofs.Moved.{moves_sound}
use Rattle.paper.specs.Cells.{byte, kind, class, address}
use Rattle.paper.specs.Outlets.{slot_at, cell_at}
use Rattle.paper.specs.Counters.{taken, occurs}
use Rattle.paper.specs.State.{unit_at, blank, Sound}
use Rattle.paper.proofs.Cells.{routing_check_iff}
use Rattle.paper.proofs.Outlets.{slot_is, cell_is}
use Rattle.paper.proofs.Counters.{Agree, agree, agree_taken, risen_in, tallies}
use Rattle.paper.proofs.State.{sound_iff}
use Rattle.sentences.specs.Changes.{Runs}
use Rattle.sentences.specs.Frame.{Moves, has_moved, Returned, moved_counts, Moved}
use Rattle.sentences.proofs.Found.{many_units, unit_at_lem}
use Rattle.sentences.proofs.Listens.{beside}

-- whether a unit's loopback cell moves
some_is : (n : ℕ) → not (eqb n 0) ≡ leb 1 n
some_is n =
    decide (eqb n 0)
    (λ t. ap not t ∙ sym (lt-leb 1 n (omega (arith, eqb-true n 0 t))))
    (λ f. ap not f ∙ sym (le-leb 1 n (let d = eqb-false n 0 f in omega (arith, d))))

pub moves_iff : (u : U.Unit) → (moving.moves u ≡ true) ↔ Moves u
unfolding moving.moves
moves_iff u =
    and_iff (subst (λ b. (b ≡ true) ↔ (1 ≤ u.side.loopbackout)) (sym (some_is u.side.loopbackout)) (le_iff 1 u.side.loopbackout)) (eq_iff u.side.loopbackin 0)

pub counts_are : (u : U.Unit) → moved_counts u ≡ cond (moving.moves u) (taken ∷ []) []
unfolding moving.moves
counts_are u = ap (λ b. cond (b && eqb u.side.loopbackin 0) (taken ∷ []) []) (sym (some_is u.side.loopbackout))

pub one_agrees : (b : Bool) → Agree (cond b #taken 0) (cond b (taken ∷ []) [])
unfolding occurs tallies
one_agrees true = agree_taken
one_agrees false = agree 0 [] refl

unmoved : (b : Bool) → (b ≡ true → ⊥) → b ≡ false
unmoved true n = absurd (n refl)
unmoved false n = refl

-- the 56 bytes of a cell that has moved
module _ (t c : ℕ) (low : t < 256) (few : c < 16) where
  fields : (kind ((3072 + t) * 16 + c) ≡ 3) × (class ((3072 + t) * 16 + c) ≡ 0) × (address ((3072 + t) * 16 + c) ≡ t)
  fields = (omega arith, omega arith, omega arith)

  upper : ((3072 + t) * 16 + c) / 16 ≡ 3072 + t
  upper = omega arith

  lower : ((3072 + t) * 16 + c) % 16 ≡ c
  lower = omega arith

check_lt : (n : ℕ) → routing.check n < 16
unfolding routing.check
check_lt n = residue_lt routing.divisor 12 n

pub returned_is : (c : List ℕ) → byte c 2 < 256 → Returned c (bus.returned c)
unfolding bus.returned routing.controlling
returned_is c low =
    let t = byte c 2 in
    let k = routing.check (3072 + t) in
    let few : k < 16 = check_lt (3072 + t) in
    let f = fields t k low few in
    record {
      routing = (3072 + t) * 16 + k;
      whole = omega arith;
      kind_is = f.0;
      class_is = f.1;
      address_is = f.2;
      check = (routing_check_iff ((3072 + t) * 16 + k)).0 (ap routing.check (upper t k low few) ∙ sym (lower t k low few));
      bytes = refl;
    }

-- Units one after the other
abbrev with_units : Shelf → List U.Unit → Shelf
with_units shelf us = record { bus = shelf.bus; count = shelf.count; units = us; arbiter = shelf.arbiter; granted = shelf.granted; frame = shelf.frame }

moved_is : (place : ℕ) (us : List U.Unit) (shelf : Shelf) → moving.moved_from place us shelf ≡ with_units shelf (sets shelf.units place (map moving.moved_unit us))
unfolding moving.moved_from
moved_is place [] shelf = refl
moved_is place (u ∷ us) shelf = moved_is (suc place) us (admit.with_unit shelf place (moving.moved_unit u))

each_is : (place : ℕ) (us : List U.Unit) (each : List ℕ) → moving.each_from place us each ≡ sets each place (map moving.moved_rises us)
unfolding moving.each_from
each_is place [] each = refl
each_is place (u ∷ us) each = each_is (suc place) us (set each place (moving.moved_rises u))

-- the store: one unit
module _ (u : U.Unit) (place : ℕ) (store : List ℕ) (inside : places.Inside place (length store)) where
  abbrev back : List ℕ
  back = bus.returned (places.cell_at store place 133)

  back_56 : length back ≡ 56
  back_56 = let e = cell_length store place 133 (omega arith) inside in length_returned (places.cell_at store place 133) (omega arith) ∙ e

  moves_store : moving.moves u ≡ true → moving.moved_store u place store ≡ places.put_at store place 128 back
  unfolding moving.moved_store
  moves_store t = ap (λ b. cond b (places.put_at store place 128 back) store) t

  stays_store : moving.moves u ≡ false → moving.moved_store u place store ≡ store
  unfolding moving.moved_store
  stays_store f = ap (λ b. cond b (places.put_at store place 128 back) store) f

  one_long : length (moving.moved_store u place store) ≡ length store
  one_long =
      decide (moving.moves u)
      (λ t. ap length (moves_store t) ∙ put_length store place 128 (omega arith) inside back back_56)
      (λ f. ap length (stays_store f))

  one_kept : (k : ℕ) → (moving.moves u ≡ true → (k < slot_at place 128) ⊎ (slot_at place 128 + 56 ≤ k)) → byte (moving.moved_store u place store) k ≡ byte store k
  unfolding places.put_at
  one_kept k out =
      let at : places.slot_at place 128 ≡ slot_at place 128 = slot_is place 128 in
      decide (moving.moves u)
      (λ t.
      ap (λ (s : List ℕ). byte s k) (moves_store t)
      ∙ beside store (places.slot_at place 128) back (let room = (slot_inside place 128 (omega arith)).1 in omega (arith, room, inside, back_56)) k
      (subst (λ n. (k < n) ⊎ (n + length back ≤ k)) (sym at) (subst (λ m. (k < slot_at place 128) ⊎ (slot_at place 128 + m ≤ k)) (sym back_56) (out t))))
      (λ f. ap (λ (s : List ℕ). byte s k) (stays_store f))

-- and all of them
abbrev AllInside : ℕ → List U.Unit → List ℕ → Type 0
AllInside place us store = (i : ℕ) → i < length us → places.Inside (place + i) (length store)

module _ (place : ℕ) (u : U.Unit) (us : List U.Unit) (store : List ℕ) (inside : AllInside place (u ∷ us) store) where
  first : places.Inside place (length store)
  first = let on : place + 0 ≡ place = omega arith in subst (λ p. places.Inside p (length store)) on (inside 0 (omega arith))

  rest : AllInside (suc place) us (moving.moved_store u place store)
  rest i few =
      let next : place + suc i ≡ suc place + i = omega arith in
      subst (λ n. places.Inside (suc place + i) n) (sym (one_long u place store first)) (subst (λ p. places.Inside p (length store)) next (inside (suc i) (omega arith)))

all_kept : (place : ℕ) (us : List U.Unit) (store : List ℕ) → AllInside place us store → (k : ℕ) →
    ((i : ℕ) → i < length us → moving.moves (get_or us i blank) ≡ true → (k < slot_at (place + i) 128) ⊎ (slot_at (place + i) 128 + 56 ≤ k)) → byte (moving.store_from place us store) k ≡ byte store k
unfolding moving.store_from
all_kept place [] store inside k out = refl
all_kept place (u ∷ us) store inside k out =
    let on : place + 0 ≡ place = omega arith in
    all_kept (suc place) us (moving.moved_store u place store) (rest place u us store inside) k
    (λ i few t. let next : place + suc i ≡ suc place + i = omega arith in subst (λ p. (k < slot_at p 128) ⊎ (slot_at p 128 + 56 ≤ k)) next (out (suc i) (omega arith) t))
    ∙ one_kept u place store (first place u us store inside) k (λ t. subst (λ p. (k < slot_at p 128) ⊎ (slot_at p 128 + 56 ≤ k)) on (out 0 (omega arith) t))

-- a world between the moves and the requests
abbrev pub rises_of : World → Rises
rises_of w = record { from = 0; to = w.shelf.count; anew = false; each = moving.moved_each w.shelf }

unfoldable pub middle : World → World
middle w = record { shelf = moving.moved w.shelf; memory = w.memory; store = moving.moved_stores w.shelf w.store; rows = settled w.rows (rises_of w) }

module _ (card : Card) (w : World) (runs : Runs card w) where
  abbrev shelf : Shelf
  shelf = w.shelf

  abbrev us : List U.Unit
  us = declared shelf

  us_many : length us ≡ shelf.count
  us_many = many_units shelf runs.whole runs.sound.count

  shelf_is : moving.moved shelf ≡ with_units shelf (sets shelf.units 0 (map moving.moved_unit us))
  shelf_is = moved_is 0 us shelf

  pub same_count : (moving.moved shelf).count ≡ shelf.count
  same_count = ap (λ x. x.count) shelf_is

  now_many : length (map moving.moved_unit us) ≡ shelf.count
  now_many = length-map us moving.moved_unit ∙ us_many

  units_are : (moving.moved shelf).units ≡ map moving.moved_unit us ++ drop shelf.count shelf.units
  units_are =
      ap (λ x. x.units) shelf_is ∙ sets-eq (map moving.moved_unit us) shelf.units 0 (omega (arith, now_many, runs.whole.units_32, runs.sound.count))
      ∙ ap (λ n. map moving.moved_unit us ++ drop n shelf.units) (let e : 0 + length (map moving.moved_unit us) ≡ shelf.count = omega (arith, now_many) in e)

  units_32 : length (moving.moved shelf).units ≡ 32
  units_32 = ap (λ x. length x.units) shelf_is ∙ length-sets shelf.units 0 (map moving.moved_unit us) ∙ runs.whole.units_32

  unit_now : (i : ℕ) → i < shelf.count → unit_at (moving.moved shelf) i ≡ moving.moved_unit (unit_at shelf i)
  unit_now i b = unit_at_lem (moving.moved shelf) i (omega (arith, same_count)) ∙ moved_unit_lem shelf i (omega (arith, us_many)) ∙ ap moving.moved_unit (sym (unit_at_lem shelf i b))

  unit_beyond : (i : ℕ) → shelf.count ≤ i → get_or (moving.moved shelf).units i blank ≡ get_or shelf.units i blank
  unit_beyond i b =
      let n = i - shelf.count in
      let at : i ≡ length (map moving.moved_unit us) + n = omega (arith, now_many) in
      let back : shelf.count + n ≡ i = omega arith in
      ap (λ x. get_or x i blank) units_are ∙ ap (λ k. get_or (map moving.moved_unit us ++ drop shelf.count shelf.units) k blank) at
      ∙ get_or-append-add (map moving.moved_unit us) (drop shelf.count shelf.units) n blank ∙ get_or-drop shelf.count shelf.units n blank ∙ ap (λ k. get_or shelf.units k blank) back

  -- a unit whose cell moves, and one whose does not
  moves_now : (i : ℕ) → i < shelf.count → Moves (unit_at shelf i) → unit_at (moving.moved shelf) i ≡ has_moved (unit_at shelf i)
  unfolding moving.moved_unit
  moves_now i b m = unit_now i b ∙ ap (λ t. cond t (has_moved (unit_at shelf i)) (unit_at shelf i)) ((moves_iff (unit_at shelf i)).1 m)

  stays_now : (i : ℕ) → i < shelf.count → (Moves (unit_at shelf i) → ⊥) → unit_at (moving.moved shelf) i ≡ unit_at shelf i
  unfolding moving.moved_unit
  stays_now i b n = unit_now i b ∙ ap (λ t. cond t (has_moved (unit_at shelf i)) (unit_at shelf i)) (unmoved (moving.moves (unit_at shelf i)) (λ t. n ((moves_iff (unit_at shelf i)).0 t)))

  -- what is counted
  pub each_32 : length (moving.moved_each shelf) ≡ 32
  each_32 = ap length (each_is 0 us (replicate 32 0)) ∙ length-sets (replicate 32 0) 0 (map moving.moved_rises us)

  pub each_at : (i : ℕ) → i < shelf.count → get_or (moving.moved_each shelf) i 0 ≡ cond (moving.moves (unit_at shelf i)) #taken 0
  unfolding moving.moved_rises
  each_at i b = moved_rises_lem shelf i (omega (arith, us_many)) (omega (arith, runs.sound.count)) ∙ ap moving.moved_rises (sym (unit_at_lem shelf i b))

  agrees : (i : ℕ) → i < shelf.count → Agree (get_or (moving.moved_each shelf) i 0) (moved_counts (unit_at shelf i))
  agrees i b = subst (λ n. Agree n (moved_counts u)) (sym (each_at i b)) (subst (λ cs. Agree (cond (moving.moves u) #taken 0) cs) (sym (counts_are u)) (one_agrees (moving.moves u)))
    where
      u : U.Unit
      u = unit_at shelf i

  -- the store
  inside : (i : ℕ) → i < length us → places.Inside i (length w.store)
  inside i few = part_inside i shelf.count (length w.store) (omega (arith, us_many)) runs.sound.store

  stored_at : (i : ℕ) → i < shelf.count → Moves (unit_at shelf i) → cell_at (moving.moved_stores shelf w.store) i 128 ≡ bus.returned (cell_at w.store i 133)
  stored_at i b m =
      let yes : moving.moves (admit.unit_at shelf i) ≡ true = ap moving.moves (sym (unit_at_lem shelf i b)) ∙ (moves_iff (unit_at shelf i)).1 m in
      sym (cell_is (moving.moved_stores shelf w.store) i 128) ∙ stores_here shelf w.store inside i (omega (arith, us_many))
      ∙ ap (λ t. cond t (bus.returned (places.cell_at w.store i 133)) (places.cell_at w.store i 128)) yes ∙ ap bus.returned (cell_is w.store i 133)

  kept_at : (k : ℕ) → ((i : ℕ) → i < shelf.count → Moves (unit_at shelf i) → (k < slot_at i 128) ⊎ (slot_at i 128 + 56 ≤ k)) → byte (moving.moved_stores shelf w.store) k ≡ byte w.store k
  kept_at k out =
      all_kept 0 us w.store (λ i few. let z : i ≡ 0 + i = omega arith in subst (λ p. places.Inside p (length w.store)) z (inside i few)) k
      (λ i few t. let z : i ≡ 0 + i = omega arith in subst (λ p. (k < slot_at p 128) ⊎ (slot_at p 128 + 56 ≤ k)) z (out i (omega (arith, us_many)) ((moves_iff (unit_at shelf i)).0 t)))

  pub have_moved : Moved w (middle w)
  unfolding middle
  have_moved =
      record {
        moves = moves_now;
        stays = stays_now;
        beyond = unit_beyond;
        places = units_32;
        stored = λ i b m low. subst (λ c. Returned (cell_at w.store i 133) c) (sym (stored_at i b m)) (returned_is (cell_at w.store i 133) low);
        kept = kept_at;
        long = stores_long shelf w.store inside;
        rows = risen_in w.rows shelf.count (moving.moved_each shelf) (λ i. moved_counts (unit_at shelf i)) runs.sound.records agrees;
        memory = refl;
        bus = ap (λ x. x.bus) shelf_is;
        count = same_count;
        arbiter = ap (λ x. x.arbiter) shelf_is;
        granted = ap (λ x. x.granted) shelf_is;
        frame = ap (λ x. x.frame) shelf_is;
      }

  -- it runs too
  pub runs_between : Runs card (middle w)
  unfolding middle
  runs_between =
      record {
        whole = record {
          units_32 = units_32;
          asks_32 = ap (λ x. length x.arbiter.asks) shelf_is ∙ runs.whole.asks_32;
          last_3 = ap (λ x. length x.arbiter.last) shelf_is ∙ runs.whole.last_3;
        };
        sound =
            subst (λ n. Sound card (moving.moved shelf) (length (moving.moved_stores shelf w.store)) n) (sym (length_settled w.rows (rises_of w) shelf.count))
            ((sound_iff card (moving.moved shelf) (length (moving.moved_stores shelf w.store)) (length w.rows)).0
            (moves_sound card shelf w.store (length w.rows) ((sound_iff card shelf (length w.store) (length w.rows)).1 runs.sound)));
      }
