-- A good load: the shelf is the document's shelf of these lines. Assumes nothing.
use Rattle.std.specs.Prelude.{None, Some, Option}
use Prim.Native.Nat.{ℕ, zero, suc, ◌*◌, ◌<◌, ◌≤◌, min}
use native.Mathlib.Omega.{arith}
use mathlib.Core.Path.{◌≡◌, refl, sym, ap, ap₂, subst, ◌∙◌}
use mathlib.Core.Bool.{true, false≢true}
use mathlib.Core.List.{List, [], ◌∷◌, ◌++◌, map, map-append, append-nil}
use lib.ListN.{length, get_or, replicate, length-take, length-map, get_or-replicate, get_or-map}
use lib.Seq.{map-set_same, take-set-lt, get_or-take}
use Rattle.outlet.specs.Outlets.{queue, fresh as fresh_outlet}
use Rattle.outlet.specs.declared.Limits.{Limits}
use Rattle.store.specs.Rings as R
use Rattle.store.specs.Places.{cells, inlet_cells, outlet_cells}
use Rattle.card.specs.declared.Card.{Card}
use Rattle.lookup.specs.Record.{size, usable, record_at}
use Rattle.lookup.specs.Lookup.{translated}
use Rattle.shelf.specs.Shelves.{unit, blank, empty_side, fresh, declared, find_in, number_of}
use Rattle.shelf.specs.declared.Unit as U
use Rattle.shelf.specs.Shelf.{Shelf}
use Rattle.shelf.proofs.Finding.{find_at, declared_at}
use Rattle.line.specs.declared.Line.{Line}
use Rattle.line.specs.declared.Line.TheVariants.{Bus, Unit as L-as-Unit, Vp, Drop, Page, Vc, Mc}
use Rattle.soundness.specs.State.{sound_of}
use Rattle.soundness.proofs.Facts.{sound_find}
use Rattle.meaning.specs.Told.{of_unit, top_of, total, hears_in, declare, hearing, join_at, shelf_by, shelf_of, memory_of}
use Rattle.meaning.specs.Lines.{is_first, Good}
use Rattle.meaning.proofs.Regions.{start}
use Rattle.meaning.proofs.Fits.{fine_bus, fine_unit}
use Rattle.meaning.proofs.Memory.{AllRanged}
use Rattle.meaning.proofs.Shelved.{Stands, shelved, declared_more, room_for_one}
use Rattle.table.specs.Load.{load, loaded as loaded_memory}
use Rattle.promise.specs.Served.{looked_up}
use Rattle.promise.specs.Refusals.{Accepts}
use Rattle.promise.proofs.ByLines.{lookup_lines}
use Rattle.promise.proofs.Refusals.{accepts_good, accepts_in_range, accepts_ranged, accepts_units, accepted}
use Rattle.promise.proofs.Loads.{loaded_sound}
use Rattle.table.specs.Loads.{load_done}
use Rattle.answer.specs.declared.Rises.{Rises}
use Rattle.answer.specs.Counting as C·
use Rattle.answer.specs.declared.Counters as C
use Rattle.answer.proofs.Settling.{settled_row, settled_ahead, length_settled}
use Rattle.soundness.specs.Admission.{unit_at}
use Rattle.paper.specs.Counters.{place_of}
use Rattle.document.specs.Counters.{times}
use Rattle.document.specs.Shelf as D
use Rattle.running.specs.Keeping.{loaded}
use Rattle.refining.proofs.Alike.{AllSendable, on_bus, off_bus, Known, SideAlike, UnitAlike, RowAlike, Alike, WorldAlike}
use Rattle.paper.proofs.Counters.{placed}

-- A. what no line but `bus` changes
abbrev idle : Shelf → Shelf
idle shelf = record { bus = shelf.bus; count = 0; units = []; arbiter = shelf.arbiter; granted = shelf.granted; frame = shelf.frame }

-- a session more does not either
joined_idle : (shelf : Shelf) (f : Option ℕ) (session : ℕ) → idle (join_at shelf f session) ≡ idle shelf
unfolding join_at
joined_idle shelf (Some i) session = refl
joined_idle shelf None session = refl

-- the bus is the document's, and nothing has happened on it
opened_idle : (told : List Line) → idle (shelf_of told) ≡ idle (fresh (D.bus_of told))
unfolding shelf_of shelf_by declare D.bus_of
opened_idle [] = refl
opened_idle (Bus bus ∷ told) = refl
opened_idle (L-as-Unit settings limits ∷ told) = opened_idle told
opened_idle (Vp u v target class outvpi ∷ told) = opened_idle told
opened_idle (Drop u v ∷ told) = opened_idle told
opened_idle (Page u v top ∷ told) = opened_idle told
opened_idle (Vc u v w target class outvpi outvci ∷ told) = opened_idle told
opened_idle (Mc u session ∷ told) = joined_idle (shelf_of told) (find_in (declared (shelf_of told)) u) session ∙ opened_idle told

-- B. the units
-- a unit without the place of its records and its sessions; and the fresh unit of the document's unit
abbrev plain : U.Unit → U.Unit
plain u = record { settings = u.settings; outlet = u.outlet; inlet = u.inlet; side = u.side; place = 0; sessions = replicate 32 0 }

abbrev made : D.Unit → U.Unit
made d = unit d.settings d.limits 0

abbrev again : D.Unit → D.Unit
again d = D.fresh_unit d.settings d.limits

-- a session more
joined_plain : (shelf : Shelf) (a session : ℕ) (f : Option ℕ) → find_in (declared shelf) a ≡ f → map plain (declared (join_at shelf f session)) ≡ map plain (declared shelf)
unfolding join_at
joined_plain shelf a session (Some i) e =
    let inside = ((find_at a (declared shelf) i).0 e).inside in
    let below : i < shelf.count = omega (arith, inside, length-take shelf.count shelf.units) in
    ap (map plain) (take-set-lt shelf.count shelf.units i (hearing (get_or shelf.units i blank) session) below)
    ∙ map-set_same plain (declared shelf) i (hearing (get_or shelf.units i blank) session) blank (ap plain (sym (get_or-take shelf.count shelf.units i blank below)))
joined_plain shelf a session None e = refl

-- a `bus` line comes first
bus_units : (told : List Line) (bus : ℕ) → is_first told ≡ true → map plain (declared (fresh bus)) ≡ map made (D.units_of (Bus bus ∷ told))
unfolding D.units_of
bus_units [] bus e = refl
bus_units (l ∷ told) bus e = absurd (false≢true e)

-- the declared units are those of the lines, in their order, each fresh
opened_units : (card : Card) (room : ℕ) (told : List Line) → Good card room told → AllRanged told → map plain (declared (shelf_of told)) ≡ map made (D.units_of told)
unfolding shelf_of shelf_by D.units_of
opened_units card room [] g r = refl
opened_units card room (Bus bus ∷ told) g r = bus_units told bus (fine_bus card room told bus g.0).0
opened_units card room (L-as-Unit settings limits ∷ told) g r =
    let w = shelved card room told g.1 r.1 in
    ap (map plain) (declared_more (shelf_of told) (unit settings limits (size * total told)) (room_for_one told settings limits r.0 (fine_unit card room told settings limits g.0).new w))
    ∙ map-append plain (declared (shelf_of told)) (unit settings limits (size * total told) ∷ [])
    ∙ ap (λ us. us ++ (unit settings limits 0 ∷ [])) (opened_units card room told g.1 r.1)
    ∙ sym (map-append made (D.units_of told) (D.fresh_unit settings limits ∷ []))
opened_units card room (Vp u v target class outvpi ∷ told) g r = opened_units card room told g.1 r.1 ∙ ap (map made) (sym (append-nil (D.units_of told)))
opened_units card room (Drop u v ∷ told) g r = opened_units card room told g.1 r.1 ∙ ap (map made) (sym (append-nil (D.units_of told)))
opened_units card room (Page u v top ∷ told) g r = opened_units card room told g.1 r.1 ∙ ap (map made) (sym (append-nil (D.units_of told)))
opened_units card room (Vc u v w target class outvpi outvci ∷ told) g r = opened_units card room told g.1 r.1 ∙ ap (map made) (sym (append-nil (D.units_of told)))
opened_units card room (Mc u session ∷ told) g r =
    joined_plain (shelf_of told) u session (find_in (declared (shelf_of told)) u) refl ∙ opened_units card room told g.1 r.1
    ∙ ap (map made) (sym (append-nil (D.units_of told)))

-- and the document's are fresh
fresh_units : (told : List Line) → map again (D.units_of told) ≡ D.units_of told
unfolding D.units_of
fresh_units [] = refl
fresh_units (l ∷ told) = map-append again (D.units_of told) (D.units_by l) ∙ ap₂ ◌++◌ (fresh_units told) (by l)
  where
    by : (l : Line) → map again (D.units_by l) ≡ D.units_by l
    by (Bus bus) = refl
    by (L-as-Unit settings limits) = refl
    by (Vp u v target class outvpi) = refl
    by (Drop u v) = refl
    by (Page u v top) = refl
    by (Vc u v w target class outvpi outvci) = refl
    by (Mc u session) = refl

-- a fresh unit holds nothing, whatever the store holds
empty_queue : (store : List ℕ) (place : ℕ) (limits : Limits) (q : ℕ) → map off_bus (outlet_cells store place limits q (queue (fresh_outlet limits) q)) ≡ get_or (replicate 4 []) q []
unfolding cells R.queue
empty_queue store place limits zero = refl
empty_queue store place limits (suc zero) = refl
empty_queue store place limits (suc (suc zero)) = refl
empty_queue store place limits (suc (suc (suc zero))) = refl
empty_queue store place limits (suc (suc (suc (suc q)))) = refl

empty_side_lem : (store : List ℕ) (place : ℕ) → SideAlike store place empty_side D.empty_side
unfolding cells R.queue
empty_side_lem store place = record { controlin = refl; loopbackin = refl; controlout = refl; loopbackout = refl }

-- it is alike to the document's fresh unit
fresh_alike : (store : List ℕ) (place : ℕ) (u : U.Unit) (d : D.Unit) → plain u ≡ made d → again d ≡ d → UnitAlike store place u d
unfolding cells R.queue
fresh_alike store place u d e f =
    record {
      settings = ap (λ x. x.settings) e;
      limits = ap (λ x. x.outlet.limits) e;
      sendable = subst (λ x. AllSendable x.inlet) f tt;
      inlet = ap (λ x. inlet_cells store place x.inlet) e ∙ ap (λ x. map on_bus x.inlet) f;
      rings = ap (λ x. length x.outlet.queues) e;
      four = ap (λ x. length x.queues) (sym f);
      queues = λ q h. ap (λ x. map off_bus (outlet_cells store place x.outlet.limits q (queue x.outlet q))) e ∙ empty_queue store place d.limits q ∙ ap (λ x. D.queue_at x q) f;
      side = subst (λ (x : D.Unit). SideAlike store place u.side x.side) f (subst (λ s. SideAlike store place s D.empty_side) (sym (ap (λ x. x.side) e)) (empty_side_lem store place));
    }

-- C. what the memory and the sessions mean to each of them
-- what is found is told apart
at_is : {i j : ℕ} → Some i ≡ Some j → i ≡ j
at_is e = cc

nothing_at : {i : ℕ} → None ≡ Some i → ⊥
nothing_at e = let z : ◌≡◌ {A = ℕ} 0 1 = cc in omega arith

module _ (card : Card) (memory : List ℕ) (told : List Line) (g : Good card (usable memory) told) (r : AllRanged told) (n i : ℕ) (found : find_in (declared (shelf_of told)) n ≡ Some i) where
  -- a unit that is found stands where its line put it
  stands : (top : ℕ) × (top_of told (of_unit n) ≡ Some top) × Stands (shelf_of told) n top (start told (of_unit n)) (hears_in told n)
  stands = go (top_of told (of_unit n)) refl
    where
      go : (o : Option ℕ) → top_of told (of_unit n) ≡ o → (top : ℕ) × (top_of told (of_unit n) ≡ Some top) × Stands (shelf_of told) n top (start told (of_unit n)) (hears_in told n)
      go None e = absurd (nothing_at (sym ((shelved card (usable memory) told g r).gone n e) ∙ found))
      go (Some top) e = (top, e, (shelved card (usable memory) told g r).here n top e)

  -- and it knows what the lines say
  known : Known card (memory_of card memory told) told (unit_at (shelf_of told) i)
  known =
      let top = stands.0 in
      let s = stands.2 in
      let u = unit_at (shelf_of told) s.i in
      subst (λ j. Known card (memory_of card memory told) told (unit_at (shelf_of told) j)) (at_is (sym s.found ∙ found))
      (record {
        looks = λ header.
            ap₂ (λ t p. translated (record_at card (memory_of card memory told)) u.settings.link t p header) s.tops s.starts
            ∙ lookup_lines card memory told g r u.settings.link n top header stands.1
            ∙ ap₂ (λ m t. looked_up told u.settings.link m t header) (sym s.named) (sym s.tops);
        hearing = λ t h. s.hearing t h ∙ ap (λ m. hears_in told m t) (sym s.named);
      })

-- D. a good load
module _ (card : Card) (text memory store : List ℕ) (rows : List C.Counters) (told : List Line) (a : Accepts card text memory (length store) (length rows) told) where
  abbrev good : Good card (usable memory) told
  good = accepts_good card text memory (length store) (length rows) told a

  ranges : AllRanged told
  ranges = accepts_ranged card text memory (length store) (length rows) told a

  -- its shelf is that of the lines
  same_shelf : (load card text memory (length store) (length rows)).shelf ≡ shelf_of told
  same_shelf = ap (λ x. x.shelf) (accepted card text memory (length store) (length rows) told a).0

  -- as many units, and each of them
  same_units : map plain (declared (shelf_of told)) ≡ map made (D.units_of told)
  same_units = opened_units card (usable memory) told good ranges

  opened_many : length (declared (shelf_of told)) ≡ length (D.units_of told)
  opened_many = sym (length-map (declared (shelf_of told)) plain) ∙ ap length same_units ∙ length-map (D.units_of told) made

  opened_count : (shelf_of told).count ≡ length (D.units_of told)
  opened_count =
      let w = shelved card (usable memory) told good ranges in
      let c = w.counted in
      omega (arith, opened_many, length-take (shelf_of told).count (shelf_of told).units, w.long)

  opened_unit : (i : ℕ) → i < length (D.units_of told) → UnitAlike store i (unit_at (shelf_of told) i) (get_or (D.units_of told) i D.blank)
  opened_unit i h =
      fresh_alike store i (unit_at (shelf_of told) i) (get_or (D.units_of told) i D.blank)
      (ap plain (sym (declared_at (shelf_of told) i blank (omega (arith, opened_count))))
      ∙ sym (get_or-map plain (declared (shelf_of told)) i blank) ∙ ap (λ us. get_or us i (plain blank)) same_units ∙ get_or-map made (D.units_of told) i D.blank)
      (sym (get_or-map again (D.units_of told) i D.blank) ∙ ap (λ us. get_or us i D.blank) (fresh_units told))

  -- which is sound
  sound_told : sound_of card (shelf_of told) (length store) (length rows) ≡ true
  sound_told = ap (λ x. sound_of card x (length store) (length rows)) (sym same_shelf) ∙ loaded_sound card text memory (length store) (length rows) told a

  -- each unit knows what the lines say
  opened_known : (i : ℕ) → i < length (D.units_of told) → Known card (memory_of card memory told) told (unit_at (shelf_of told) i)
  opened_known i h =
      known card memory told good ranges (number_of (get_or (declared (shelf_of told)) i blank)) i
      (sound_find card (shelf_of told) (length store) (length rows) sound_told i (omega (arith, opened_many)))

  -- all but the counters
  opened_shelf : Alike card (shelf_of told) (memory_of card memory told) store (D.opened told)
  opened_shelf =
      let e = opened_idle told in
      record {
        many = opened_many;
        counted = opened_count;
        units = opened_unit;
        known = opened_known;
        ranged = accepts_in_range card text memory (length store) (length rows) told a;
        bus = ap (λ x. x.bus) e;
        arbiter = ap (λ x. x.arbiter) e;
        granted = ap (λ x. x.granted) e;
        frame = ap (λ x. x.frame) e;
      }

  -- the rows of the declared units are new
  abbrev rises : Rises
  rises = (load_done card text memory (length store) (length rows)).rises

  to_count : rises.to ≡ length (D.units_of told)
  to_count =
      let w = shelved card (usable memory) told good ranges in
      let c = w.counted in
      ap (λ x. min x.count 32) same_shelf ∙ omega (arith, opened_count)

  opened_row : (i : ℕ) → i < length (D.units_of told) → RowAlike (C·.settled rows rises) (D.opened told) i
  unfolding C·.row_after times
  opened_row i h c =
      ap (λ x. C·.value x (place_of c)) (settled_row rows rises rises.to i (omega arith) (omega (arith, to_count)) (omega (arith, a.rows_enough, accepts_units card text memory (length store) (length rows) told a, opened_count)))
      ∙ get_or-replicate 13 (place_of c) 0 0 (placed c)

  -- the real shelf after a good load is the document's
  pub opened_alike : WorldAlike card (loaded card text memory store rows) (D.opened told)
  opened_alike =
      record {
        sound =
            ap (sound_of card (load card text memory (length store) (length rows)).shelf (length store)) (length_settled rows rises rises.to)
            ∙ loaded_sound card text memory (length store) (length rows) told a;
        shelf =
            subst (λ s. Alike card s (loaded_memory card text memory (length store) (length rows)) store (D.opened told)) (sym same_shelf)
            (subst (λ m. Alike card (shelf_of told) m store (D.opened told)) (sym (accepted card text memory (length store) (length rows) told a).1) opened_shelf);
        rows = opened_row;
      }

  -- the other rows are those that were lent
  pub opened_rows : (i : ℕ) → length (D.units_of told) ≤ i → get_or (loaded card text memory store rows).rows i C·.zeros ≡ get_or rows i C·.zeros
  opened_rows i h = settled_ahead rows rises rises.to i (omega (arith, to_count))
