-- A cell that is said to be queued is held. Assumes nothing.
use Rattle.std.specs.Prelude.{Some, None, Option}
use Prim.Native.Nat.{ℕ, ◌<◌}
use native.Mathlib.Omega.{arith}
use mathlib.Core.Path.{◌≡◌, refl, sym, ap, subst, ◌∙◌}
use mathlib.Core.Logic.{◌↔◌, ◌≢◌}
use mathlib.Core.Bool.{Bool, true, false, cond, ◌&&◌}
use mathlib.Core.List.{List, [], ◌∷◌, ◌++◌}
use lib.Dec.{eqb, leb, ltb}
use lib.ListN.{length, length-append, get_or}
use lib.Seq.{get_or-set_same, get_or-set_other}
use borrow.Author.Tests.{eqb-true, eqb-false, eq-eqb}
use Rattle.octets.specs.Octets.{four, part}
use Rattle.header.specs.Check.{check}
use Rattle.header.specs.declared.Header as H
use Rattle.bus.specs.Frame.{heard}
use Rattle.bus.specs.Heard as sort
use Rattle.outlet.specs.Hearing.{queue_of}
use Rattle.outlet.proofs.Fates.{queue_lt}
use Rattle.shelf.specs.Shelves.{place_from}
use Rattle.line.specs.declared.Line.{Line}
use Rattle.meaning.proofs.Grown.{decide}
use Rattle.meaning.specs.Served.{Serving, by_vp, by_drop, by_vc}
use Rattle.answer.specs.declared.Arrival as A
use Rattle.answer.specs.declared.Arrival.TheVariants as arrival
use Rattle.answer.specs.declared.Hearing as Q
use Rattle.answer.specs.declared.Hearing.TheVariants as hearing
use Rattle.answer.specs.declared.Answer.TheVariants.{Handed, Taken}
use Rattle.document.specs.Events.{arrive, frame, hear, hand, collect, answers}
use Rattle.document.specs.Shelf.{Routed, Unit as D-as-Unit, Shelf, queue_at, with_inlet, with_side, with_control_in, with_control_out, blank, find_in, unit_at}
use Rattle.document.specs.Arrival.{Way, goes, lost, routed, header_of, way_by, way_for, way_of, arrival_by, inlet_by, arrived}
use Rattle.document.specs.Hearing.{fate_in, OnBus, hearing_of, placing, keeping, hearing_unit, as_handed, handed_in}
use Rattle.document.specs.Frame.{moved_unit, moved}
use Rattle.document.specs.Processor.{hands_into, collects_from}
use Rattle.document.specs.Steps.{admitted, happens_to}
use Rattle.flow.specs.Parts.{From, from_inlet, from_control, from_loopback, chosen, chosen_of, cell_of, without, rests, hears, sends, moves, sending, sending_by, turn_of, part_of}
use Rattle.flow.specs.Order.{InTurn}
use Rattle.flow.proofs.Times.{moved_unit_lem, found as found_at}
use Rattle.flow.proofs.Turns.{unit_by, same_address, numbers_moved, does}
use Rattle.flow.proofs.Moves.{Waiting, heard_waits, moved_by_lem}
use Rattle.fates.specs.Fates.{line_for, SoundWith}
use Rattle.fates.specs.Held.{RoutedBy, ArrivalHeld, Behind, SameOutlets, SameInlets, CopyHeld, HandHeld, CollectHeld, unit_after, Others, Holds, HeldMeansHeld}
use Rattle.fates.proofs.Loads.{from_load}

-- a list with one more behind it is another list
longer : {X : Type 0} (l : List X) (x : X) → l ≡ l ++ (x ∷ []) → ⊥
longer l x e = let a = ap length e ∙ length-append l (x ∷ []) in omega arith

-- so is one with one more before it, whatever was taken from it
shorter : {X : Type 0} (l : List X) (x : X) → l ≡ x ∷ l → ⊥
shorter l x e = let a = ap length e in omega arith

-- 1. arrival, by the way of the cell
module _ (lines : List Line) (u : D-as-Unit) (c : List ℕ) where
  abbrev h : H.Header
  h = header_of u.settings c

  abbrev payload_of : List ℕ
  payload_of = part c 5 48

  -- the routed cell that its line makes
  abbrev Made : Routed → Type 0
  Made r = RoutedBy (line_for lines u c) h payload_of r

  -- how the cell ends: it goes, as its line makes it, or it is lost, and not as `queued`
  data Ends : Way → Type 0 where
    on : (r : Routed) → Made r → Ends (goes r)
    off : (fate : A.Arrival) → (fate ≡ arrival.Queued → ⊥) → Ends (lost fate)

  -- by the line
  by_line : (o : Option Serving) → line_for lines u c ≡ o → Ends (way_by o h payload_of)
  unfolding way_by
  by_line None e = off arrival.Misrouted (λ q. let z : ◌≡◌ {A = ℕ} 0 1 = cc in omega arith)
  by_line (Some by_drop) e = off arrival.Ignored (λ q. let z : ◌≡◌ {A = ℕ} 0 1 = cc in omega arith)
  by_line (Some (by_vp target class outvpi)) e = on _ (subst (λ o. RoutedBy o h payload_of (routed target class outvpi h.vci h payload_of)) (sym e) refl)
  by_line (Some (by_vc target class outvpi outvci)) e = on _ (subst (λ o. RoutedBy o h payload_of (routed target class outvpi outvci h payload_of)) (sym e) refl)

  -- by the tests
  ends : Ends (way_of lines u.settings c)
  unfolding way_of way_for
  ends = pick (eqb (check (four c 0)) (get_or c 4 0)) (eqb h.vpi 0 && eqb h.vci 0) (ltb u.settings.top h.vpi)
    where
      pick : (k z t : Bool) → Ends (cond k (cond z (lost arrival.Ignored) (cond t (lost arrival.Misrouted) (way_by (line_for lines u c) h payload_of))) (lost arrival.Hec))
      pick false z t = off arrival.Hec (λ q. let z : ◌≡◌ {A = ℕ} 0 1 = cc in omega arith)
      pick true true t = off arrival.Ignored (λ q. let z : ◌≡◌ {A = ℕ} 0 1 = cc in omega arith)
      pick true false true = off arrival.Misrouted (λ q. let z : ◌≡◌ {A = ℕ} 0 1 = cc in omega arith)
      pick true false false = by_line (line_for lines u c) refl

  -- a fate and the inlet with it
  abbrev Held : A.Arrival → List Routed → Type 0
  Held fate inlet =
      ((fate ≡ arrival.Queued) ↔ ((r : Routed) × Made r × (inlet ≡ u.inlet ++ (r ∷ [])))) × ((fate ≡ arrival.Queued → ⊥) → inlet ≡ u.inlet)

  -- the inlet is as it was
  kept : (fate : A.Arrival) → (fate ≡ arrival.Queued → ⊥) → Held fate u.inlet
  kept fate n = ((λ q. absurd (n q), λ g. absurd (longer u.inlet g.0 g.2)), λ q. refl)

  -- it has one more
  grown : (r : Routed) → Made r → Held arrival.Queued (u.inlet ++ (r ∷ []))
  grown r m = ((λ q. (r, m, refl), λ g. refl), λ n. absurd (n refl))

  -- either way
  by_way : (way : Way) → Ends way → Held (arrival_by way u) (inlet_by way u)
  unfolding arrival_by inlet_by
  by_way way (off fate n) = kept fate n
  by_way way (on r m) = pick (leb 4 (length u.inlet))
    where
      pick : (full : Bool) → Held (cond full arrival.Inletfull arrival.Queued) (cond full u.inlet (u.inlet ++ (r ∷ [])))
      pick true = kept arrival.Inletfull (λ q. let z : ◌≡◌ {A = ℕ} 0 1 = cc in omega arith)
      pick false = grown r m

  -- an arrival
  arrival_held : ArrivalHeld lines u c (with_inlet u (inlet_by (way_of lines u.settings c) u))
  arrival_held = let b = by_way (way_of lines u.settings c) ends in record { queued = b.0; lost = b.1; queues = refl; side = refl }

-- 2. a copy, by what is heard. The cells that wait for the bus have no part in it
module _ (lines : List Line) (u : D-as-Unit) (wide : length u.queues ≡ 4) (inlet : List Routed) (control loopback : List (List ℕ)) (payload bytes : List ℕ) where
  abbrev with : D-as-Unit
  with = with_side (with_inlet u inlet) (record { controlin = control; loopbackin = loopback; controlout = u.side.controlout; loopbackout = u.side.loopbackout })

  abbrev on_bus : sort.Heard → OnBus
  on_bus h = record { heard = h; payload = payload; bytes = bytes }

  -- a fate and the unit with it
  pub record HeldWith (h : sort.Heard) (fate : Q.Hearing) (v : D-as-Unit) : Type 0 where
    pub queued : (fate ≡ hearing.Queued) ↔ Behind u (on_bus h) h v
    pub lost : (fate ≡ hearing.Queued → ⊥) → SameOutlets u v
    pub others : (q : ℕ) → SoundWith u h (λ target class header. q ≢ queue_of u.limits class) (λ unit cells most. Unit {0}) → queue_at v q ≡ queue_at u q
    pub control_kept : ((unit : ℕ) → h ≡ sort.Control unit → ⊥) → v.side.controlout ≡ u.side.controlout
    pub loopback_kept : ((unit : ℕ) → h ≡ sort.Loopback unit → ⊥) → v.side.loopbackout ≡ u.side.loopbackout

  -- nothing stands behind where all is as it was
  not_behind : (h : sort.Heard) → Behind u (on_bus h) h with → ⊥
  not_behind sort.Length b = b
  not_behind sort.Damaged b = b
  not_behind (sort.Cell target class header) b = longer (queue_at u (queue_of u.limits class)) (record { header = header; payload = payload }) b
  not_behind (sort.Control unit) b = longer u.side.controlout bytes b
  not_behind (sort.Loopback unit) b = longer u.side.loopbackout bytes b

  as_it_was : (h : sort.Heard) (fate : Q.Hearing) → (fate ≡ hearing.Queued → ⊥) → HeldWith h fate with
  as_it_was h fate n =
      record {
        queued = (λ e. absurd (n e), λ e. absurd (not_behind h e));
        lost = λ e. record { queues = refl; controlout = refl; loopbackout = refl };
        others = λ q s. refl;
        control_kept = λ e. refl;
        loopback_kept = λ e. refl;
      }

  -- each fate
  by_fate : (h : sort.Heard) → HeldWith h hearing.Queued (placing with (on_bus h) h) → (fate : Q.Hearing) → HeldWith h fate (keeping fate with (on_bus h))
  unfolding keeping
  by_fate h kept hearing.Damaged = as_it_was h hearing.Damaged (λ e. let z : ◌≡◌ {A = ℕ} 0 1 = cc in omega arith)
  by_fate h kept hearing.Other = as_it_was h hearing.Other (λ e. let z : ◌≡◌ {A = ℕ} 0 1 = cc in omega arith)
  by_fate h kept hearing.Wide = as_it_was h hearing.Wide (λ e. let z : ◌≡◌ {A = ℕ} 0 1 = cc in omega arith)
  by_fate h kept hearing.Full = as_it_was h hearing.Full (λ e. let z : ◌≡◌ {A = ℕ} 0 1 = cc in omega arith)
  by_fate h kept hearing.Clp = as_it_was h hearing.Clp (λ e. let z : ◌≡◌ {A = ℕ} 0 1 = cc in omega arith)
  by_fate h kept hearing.Queued = kept

  -- a queued copy, of each kind
  data_behind : (target : _) (class header : ℕ) → HeldWith (sort.Cell target class header) hearing.Queued (placing with (on_bus (sort.Cell target class header)) (sort.Cell target class header))
  unfolding placing
  data_behind target class header =
      let q = queue_of u.limits class in
      let now = queue_at u q ++ (record { header = header; payload = payload } ∷ []) in
      let few = queue_lt u.limits class in
      record {
        queued = (λ e. get_or-set_same u.queues q now [] (omega arith), λ e. refl);
        lost = λ n. absurd (n refl);
        others = λ p apart. get_or-set_other u.queues q p now [] apart;
        control_kept = λ e. refl;
        loopback_kept = λ e. refl;
      }

  control_behind : (unit : ℕ) → HeldWith (sort.Control unit) hearing.Queued (placing with (on_bus (sort.Control unit)) (sort.Control unit))
  unfolding placing
  control_behind unit =
      record { queued = (λ e. refl, λ e. refl); lost = λ n. absurd (n refl); others = λ p s. refl; control_kept = λ e. absurd (e unit refl); loopback_kept = λ e. refl }

  loopback_behind : (unit : ℕ) → HeldWith (sort.Loopback unit) hearing.Queued (placing with (on_bus (sort.Loopback unit)) (sort.Loopback unit))
  unfolding placing
  loopback_behind unit =
      record { queued = (λ e. refl, λ e. refl); lost = λ n. absurd (n refl); others = λ p s. refl; control_kept = λ e. refl; loopback_kept = λ e. absurd (e unit refl) }

  -- so of whatever is heard, with the fate that the unit itself would give it
  held_with : (h : sort.Heard) → HeldWith h (hearing_of lines u h) (hearing_unit lines with (on_bus h))
  unfolding hearing_of fate_in keeping
  held_with sort.Length = as_it_was sort.Length hearing.Damaged (λ e. let z : ◌≡◌ {A = ℕ} 0 1 = cc in omega arith)
  held_with sort.Damaged = as_it_was sort.Damaged hearing.Damaged (λ e. let z : ◌≡◌ {A = ℕ} 0 1 = cc in omega arith)
  held_with (sort.Cell target class header) =
      let h = sort.Cell target class header in
      let same : hearing_of lines with h ≡ hearing_of lines u h = ap (λ b. cond b (fate_in u (queue_of u.limits class) header) hearing.Other) (same_address lines with u target refl) in
      subst (λ f. HeldWith h f (hearing_unit lines with (on_bus h))) same (by_fate h (data_behind target class header) (hearing_of lines with h))
  held_with (sort.Control unit) = by_fate (sort.Control unit) (control_behind unit) (hearing_of lines u (sort.Control unit))
  held_with (sort.Loopback unit) = by_fate (sort.Loopback unit) (loopback_behind unit) (hearing_of lines u (sort.Loopback unit))

  copy_with : (h : sort.Heard) → CopyHeld lines u (on_bus h) (hearing_unit lines with (on_bus h))
  copy_with h = let k = held_with h in record { queued = k.queued; lost = k.lost; others = k.others; control = k.control_kept; loopback = k.loopback_kept }

-- a unit that hears, and the sender, without the cell that it sends
copy_held : (lines : List Line) (u : D-as-Unit) → length u.queues ≡ 4 → (x : OnBus) → CopyHeld lines u x (hearing_unit lines u x)
copy_held lines u wide x = copy_with lines u wide u.inlet u.side.controlin u.side.loopbackin x.payload x.bytes x.heard

copy_sent : (lines : List Line) (u : D-as-Unit) → length u.queues ≡ 4 → (f : From) (x : OnBus) → CopyHeld lines u x (hearing_unit lines (without f u) x)
unfolding without
copy_sent lines u wide (from_inlet r rest) x = copy_with lines u wide rest u.side.controlin u.side.loopbackin x.payload x.bytes x.heard
copy_sent lines u wide (from_control c rest) x = copy_with lines u wide u.inlet rest u.side.loopbackin x.payload x.bytes x.heard
copy_sent lines u wide (from_loopback c rest) x = copy_with lines u wide u.inlet u.side.controlin rest x.payload x.bytes x.heard

-- what waits is as it was
still_waits : (lines : List Line) (u : D-as-Unit) (x : OnBus) → SameInlets u (hearing_unit lines u x)
still_waits lines u x =
    let w = heard_waits lines u x in
    record { inlet = ap (λ (w : Waiting). w.inlet) w; controlin = ap (λ (w : Waiting). w.control) w; loopbackin = ap (λ (w : Waiting). w.loopback) w }

-- 3. whose turn it is, is chosen
pub is_chosen : (u : D-as-Unit) (f : From) → InTurn u f → chosen_of u ≡ Some f
unfolding chosen
is_chosen u (from_inlet r rest) e = ap (λ l. chosen l u.side.controlin u.side.loopbackin) e
is_chosen u (from_control c rest) e = λ t. chosen (e.0 t) (e.1 t) u.side.loopbackin
is_chosen u (from_loopback c rest) e = λ t. chosen (e.0 t) (e.1 t) (e.2 t)

-- the unit with the open grant stands where it stood when the cells have moved
pub found_moved : (d : Shelf) (n place : ℕ) → find_in d.units n ≡ Some place → find_in (moved d).units n ≡ Some place
found_moved d n place there = ap (λ l. place_from 0 l n) (numbers_moved d.units) ∙ there

-- 4. the events
module _ (d : Shelf) (fours : (j : ℕ) → length (unit_at d j).queues ≡ 4) where
  arrives : (unit place : ℕ) (c : List ℕ) → find_in d.units unit ≡ Some place → length c ≡ 53 →
      ArrivalHeld d.lines (unit_at d place) c (unit_after d (arrive unit c) place) × Others d (arrive unit c) place
  unfolding happens_to admitted arrived
  arrives unit place c there whole =
      let u = unit_at d place in
      let v = with_inlet u (inlet_by (way_of d.lines u.settings c) u) in
      rw (there, eq-eqb (length c) 53 whole) (
        subst (ArrivalHeld d.lines u c) (sym (get_or-set_same d.units place v blank (found_at d.units unit place there).0)) (arrival_held d.lines u c),
        λ j apart. get_or-set_other d.units place j v blank apart,
      )

  -- a frame handed in
  hears_one : (unit place : ℕ) (f : List ℕ) → find_in d.units unit ≡ Some place → length f ≡ 57 →
      CopyHeld d.lines (unit_at d place) (as_handed f) (unit_after d (hear unit f) place)
      × SameInlets (unit_at d place) (unit_after d (hear unit f) place)
      × Others d (hear unit f) place
  unfolding happens_to admitted handed_in
  hears_one unit place f there whole =
      let u = unit_at d place in
      let v = hearing_unit d.lines u (as_handed f) in
      let same = sym (get_or-set_same d.units place v blank (found_at d.units unit place there).0) in
      rw (there, eq-eqb (length f) 57 whole) (
        subst (CopyHeld d.lines u (as_handed f)) same (copy_held d.lines u (fours place) (as_handed f)),
        subst (SameInlets u) same (still_waits d.lines u (as_handed f)),
        λ j apart. get_or-set_other d.units place j v blank apart,
      )

  -- a cell handed in, by what stands in its place
  hands_in : (unit place : ℕ) (c : List ℕ) → find_in d.units unit ≡ Some place → length c ≡ 56 →
      HandHeld (unit_at d place) c (happens_to d (hand unit c)).said (unit_after d (hand unit c) place) × Others d (hand unit c) place
  unfolding happens_to admitted hands_into
  hands_in unit place c there whole = rw (there, eq-eqb (length c) 56 whole) (go (unit_at d place).side.controlin refl)
    where
      go : (cells : List (List ℕ)) → (unit_at d place).side.controlin ≡ cells →
          HandHeld (unit_at d place) c (answers (hands_into cells d place c).answer) (unit_at (hands_into cells d place c).shelf place)
          × ((j : ℕ) → j ≢ place → unit_at (hands_into cells d place c).shelf j ≡ unit_at d j)
      go [] e =
          let v = with_control_in (unit_at d place) (c ∷ []) in (
            subst (HandHeld (unit_at d place) c (answers Handed)) (sym (get_or-set_same d.units place v blank (found_at d.units unit place there).0))
                (record {
                  taken = (λ q. sym (ap (λ l. l ++ (c ∷ [])) e), λ q. refl);
                  free = (λ q. e, λ q. refl);
                  busy = λ n. absurd (n refl);
                  only = refl;
                }),
            λ j apart. get_or-set_other d.units place j v blank apart,
          )
      go (b ∷ others) e = (
        record {
          taken = (λ q. let z : ◌≡◌ {A = ℕ} 0 1 = cc in absurd (omega arith), λ q. absurd (longer (unit_at d place).side.controlin c q));
          free = (λ q. let z : ◌≡◌ {A = ℕ} 0 1 = cc in absurd (omega arith), λ q. let z : ◌≡◌ {A = ℕ} 0 1 = cc in absurd (omega arith));
          busy = λ n. (refl, refl);
          only = refl;
        },
        λ j apart. refl,
      )

  -- a cell collected, by what stands in the outlet
  collects_one : (unit place : ℕ) (buffer : List ℕ) → find_in d.units unit ≡ Some place → length buffer ≡ 56 →
      CollectHeld (unit_at d place) buffer (happens_to d (collect unit buffer)).said (happens_to d (collect unit buffer)).bytes (unit_after d (collect unit buffer) place)
      × Others d (collect unit buffer) place
  unfolding happens_to admitted collects_from
  collects_one unit place buffer there whole = rw (there, eq-eqb (length buffer) 56 whole) (go (unit_at d place).side.controlout refl)
    where
      go : (cells : List (List ℕ)) → (unit_at d place).side.controlout ≡ cells →
          CollectHeld (unit_at d place) buffer (answers (collects_from cells d place buffer).answer) (collects_from cells d place buffer).bytes (unit_at (collects_from cells d place buffer).shelf place)
          × ((j : ℕ) → j ≢ place → unit_at (collects_from cells d place buffer).shelf j ≡ unit_at d j)
      go [] e = (
        record {
          oldest = (λ q. let z : ◌≡◌ {A = ℕ} 0 1 = cc in absurd (omega arith), λ q. absurd (shorter (unit_at d place).side.controlout buffer q));
          empty = λ n. (refl, e, refl, refl);
          only = refl;
        },
        λ j apart. refl,
      )
      go (c ∷ rest) e =
          let v = with_control_out (unit_at d place) rest in (
            subst (CollectHeld (unit_at d place) buffer (answers Taken) c) (sym (get_or-set_same d.units place v blank (found_at d.units unit place there).0))
                (record { oldest = (λ q. e, λ q. refl); empty = λ n. absurd (n refl); only = refl }),
            λ j apart. get_or-set_other d.units place j v blank apart,
          )

  -- a frame on the bus: what each unit does in it
  module _ (buffer : List ℕ) (place : ℕ) (f : From) (whole : length buffer ≡ 57) (there : find_in d.units d.granted ≡ Some place) (turn : InTurn (moved_unit (unit_at d place)) f) where
    pub part_is : (j : ℕ) → part_of d (frame buffer) j ≡ moves (cond (eqb j place) (sends f) (hears (cell_of f)))
    unfolding part_of sending_by sending
    part_is j =
        ap (λ x. cond x (moves (turn_of (moved d) j)) rests) (eq-eqb (length buffer) 57 whole)
        ∙ ap (λ g. moves (sending_by g (moved d) j)) (found_moved d d.granted place there)
        ∙ ap (λ o. moves (sending o place j)) (ap chosen_of (moved_unit_lem d.units place) ∙ is_chosen (moved_unit (unit_at d place)) f turn)

    after_is : (j : ℕ) → j < length d.units → unit_after d (frame buffer) j ≡ unit_by d.lines (moved_unit (unit_at d j)) (cond (eqb j place) (sends f) (hears (cell_of f)))
    unfolding unit_by
    after_is j h = (does d (frame buffer) j h).unit ∙ ap (unit_by d.lines (unit_at d j)) (part_is j)

    moved_four : (j : ℕ) → length (moved_unit (unit_at d j)).queues ≡ 4
    moved_four j = ap length (moved_by_lem (λ v. v.queues) (unit_at d j) (λ back out. refl)) ∙ fours j

    pub hears_all : (j : ℕ) → j < length d.units →
        CopyHeld d.lines (moved_unit (unit_at d j)) (cell_of f) (unit_after d (frame buffer) j)
        × (j ≢ place → SameInlets (moved_unit (unit_at d j)) (unit_after d (frame buffer) j))
        × (j ≡ place → SameInlets (without f (moved_unit (unit_at d j))) (unit_after d (frame buffer) j))
    unfolding unit_by
    hears_all j h =
        let u = moved_unit (unit_at d j) in
        decide (eqb j place)
        (λ t.
        let is : unit_after d (frame buffer) j ≡ hearing_unit d.lines (without f u) (cell_of f) = after_is j h ∙ ap (λ b. unit_by d.lines u (cond b (sends f) (hears (cell_of f)))) t in (
          subst (CopyHeld d.lines u (cell_of f)) (sym is) (copy_sent d.lines u (moved_four j) f (cell_of f)),
          λ n. absurd (n (eqb-true j place t)),
          λ y. subst (SameInlets (without f u)) (sym is) (still_waits d.lines (without f u) (cell_of f)),
        ))
        (λ t.
        let is : unit_after d (frame buffer) j ≡ hearing_unit d.lines u (cell_of f) = after_is j h ∙ ap (λ b. unit_by d.lines u (cond b (sends f) (hears (cell_of f)))) t in (
          subst (CopyHeld d.lines u (cell_of f)) (sym is) (copy_held d.lines u (moved_four j) (cell_of f)),
          λ n. subst (SameInlets u) (sym is) (still_waits d.lines u (cell_of f)),
          λ y. absurd (eqb-false j place t y),
        ))

-- from a good load on each unit has four queues
pub held_means_held : HeldMeansHeld
held_means_held =
    from_load Holds
    (λ d s.
    record {
      arrived = arrives d s.fours;
      heard_one = hears_one d s.fours;
      heard_all = λ buffer place f whole there turn. hears_all d s.fours buffer place f whole there turn;
      handed = hands_in d s.fours;
      collected = collects_one d s.fours;
    })
