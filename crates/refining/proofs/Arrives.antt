-- An arrival. Assumes nothing.
use Rattle.std.specs.Prelude.{None, Option, Some, Ok, Err}
use Prim.Native.Nat.{ℕ, ◌<◌, ◌≤◌, ◌^◌}
use native.Mathlib.Omega.{arith}
use mathlib.Core.Path.{◌≡◌, refl, sym, ap, subst, ◌∙◌}
use mathlib.Core.Logic.{inl, inr}
use mathlib.Core.Bool.{◌&&◌}
use mathlib.Core.List.{List, [], ◌∷◌, ◌++◌, map, map-append}
use lib.Dec.{eqb, leb, ltb}
use lib.ListN.{length, length-append, length-take, length-drop, drop, get_or, set}
use lib.Seq.{set-get_or}
use borrow.Author.Tests.{le-ltb, leb-false}
use Rattle.octets.specs.Octets.{four, part, be2, be4}
use Rattle.header.specs.Fields.{fields, word}
use Rattle.header.specs.declared.Header as H
use Rattle.header.specs.declared.Link.TheVariants.{Nni}
use Rattle.header.proofs.Laws.{top_lt}
use Rattle.bus.specs.Routing.{routing}
use Rattle.card.specs.declared.Card.{Card}
use Rattle.bus.specs.Frame.{cell}
use Rattle.lookup.specs.Lookup.{sound_header, goes_by}
use Rattle.outlet.specs.Outlets.{queue}
use Rattle.store.specs.Places.{put_at, inlet_slot}
use Rattle.store.specs.Rings.{tail, pushed}
use Rattle.store.proofs.Rounds.{tail_lt}
use Rattle.store.proofs.Queues.{length_cells, inlet_pushed, outlet_above}
use Rattle.shelf.specs.declared.Settings.{Settings}
use Rattle.shelf.specs.declared.Unit as U
use Rattle.shelf.specs.Shelf.{Shelf}
use Rattle.line.specs.Ranges.{WayIn}
use Rattle.line.specs.declared.Line.{Line}
use Rattle.line.specs.declared.Line.TheVariants.{Bus as L-as-Bus, Unit as L-as-Unit, Vp, Drop, Page, Vc, Mc}
use Rattle.meaning.proofs.Grown.{decide}
use Rattle.meaning.specs.Served.{Serving, by_vp, by_drop, by_vc, serves, served}
use Rattle.promise.specs.Served.{become, looked_up}
use Rattle.promise.proofs.Runs.{AllInRange}
use Rattle.answer.specs.Answers.{arrival_rises, row}
use Rattle.answer.specs.declared.Answer.TheVariants as answer
use Rattle.soundness.specs.Admission.{unit_at, with_inlet, Housed}
use Rattle.arriving.specs.Arriving as arriving
use Rattle.arriving.specs.Arriving.{Way}
use Rattle.paper.specs.Counters.{arrival_counts}
use Rattle.document.specs.Counters.{Entry, entries}
use Rattle.document.specs.Shelf as D
use Rattle.document.specs.Arrival as P
use Rattle.refining.proofs.Alike.{Sendable, AllSendable, UnitAlike, Known, Alike, on_bus, off_bus, side_kept, elsewhere}
use Rattle.refining.proofs.Finds.{length_map}
use Rattle.refining.proofs.Changes.{changed}

-- A. the line that serves a cell has its numbers in range
abbrev ServingIn : Serving → Type 0
ServingIn (by_vp target class outvpi) = WayIn target class outvpi
ServingIn by_drop = Unit {0}
ServingIn (by_vc target class outvpi outvci) = WayIn target class outvpi × (outvci ≤ 65535)

abbrev ServedIn : Option Serving → Type 0
ServedIn None = Unit {0}
ServedIn (Some s) = ServingIn s

served_in : (lines : List Line) → AllInRange lines → (u v w : ℕ) → ServedIn (served lines u v w)
unfolding served serves
served_in [] r u v w = tt
served_in (L-as-Bus bus ∷ lines) r u v w = served_in lines r.1 u v w
served_in (L-as-Unit settings limits ∷ lines) r u v w = served_in lines r.1 u v w
served_in (Vp a b target class outvpi ∷ lines) r u v w = decide (eqb u a && eqb v b) (λ t. rw t r.0.way) (λ t. rw t (served_in lines r.1 u v w))
served_in (Drop a b ∷ lines) r u v w = decide (eqb u a && eqb v b) (λ t. rw t tt) (λ t. rw t (served_in lines r.1 u v w))
served_in (Page a b top ∷ lines) r u v w = served_in lines r.1 u v w
served_in (Vc a b c target class outvpi outvci ∷ lines) r u v w =
    decide ((eqb u a && eqb v b) && eqb w c) (λ t. rw t (r.0.way, r.0.outvci_most)) (λ t. rw t (served_in lines r.1 u v w))
served_in (Mc a session ∷ lines) r u v w = served_in lines r.1 u v w

-- B. the way of a cell is the one that the document has
abbrev pub way_in : P.Way → Way
way_in (P.goes r) = Ok (record { routing = (routing r.target r.class); header = r.cell.header })
way_in (P.lost fate) = Err fate

way_served : (o : Option Serving) → ServedIn o → (h : H.Header) (payload : List ℕ) → arriving.way_by (become o h) ≡ way_in (P.way_by o h payload)
unfolding arriving.way_by P.way_by goes_by
way_served None r h payload = refl
way_served (Some by_drop) r h payload = refl
way_served (Some (by_vp target class outvpi)) r h payload = rw (le-ltb 4095 outvpi r.outvpi_most) refl
way_served (Some (by_vc target class outvpi outvci)) r h payload = rw (le-ltb 4095 outvpi r.0.outvpi_most) refl

way_fields : (lines : List Line) → AllInRange lines → (s : Settings) (header : ℕ) (payload : List ℕ) →
    arriving.way_by (looked_up lines s.link s.number s.top header) ≡ way_in (P.way_for lines s (fields s.link header) payload)
unfolding looked_up P.way_for arriving.way_by
way_fields lines r s header payload =
    let h = fields s.link header in
    decide (eqb h.vpi 0 && eqb h.vci 0) (λ t. rw t refl)
    (λ t. rw t
    (decide (ltb s.top h.vpi) (λ x. rw x refl)
    (λ x. rw x (way_served (served lines s.number h.vpi h.vci) (served_in lines r s.number h.vpi h.vci) h payload))))

way_alike : (card : Card) (memory : List ℕ) (lines : List Line) (u : U.Unit) (c : List ℕ) → AllInRange lines → Known card memory lines u →
    arriving.way_of card u memory c ≡ way_in (P.way_of lines u.settings c)
unfolding arriving.way_of P.way_of sound_header
way_alike card memory lines u c r k =
    decide (eqb (Rattle.header.specs.Check.check (four c 0)) (get_or c 4 0))
    (λ t. rw t (ap arriving.way_by (k.looks (four c 0)) ∙ way_fields lines r u.settings (four c 0) (part c 5 48)))
    (λ t. rw t refl)

-- C. a cell that goes to the bus can be sent
abbrev GoodWay : List ℕ → P.Way → Type 0
GoodWay c (P.goes r) = Sendable r × (r.cell.payload ≡ part c 5 48)
GoodWay c (P.lost fate) = Unit {0}

word_lt : (vpi vci pt clp : ℕ) → vci < 65536 → word Nni (record { gfc = 0; vpi = vpi; vci = vci; pt = pt; clp = clp }) < 2 ^ 32
unfolding word
word_lt vpi vci pt clp h = let t = top_lt Nni 0 vpi in omega (arith, t, h)

module _ (c : List ℕ) (whole : length c ≡ 53) where
  abbrev payload : List ℕ
  payload = part c 5 48

  payload_length : length payload ≡ 48
  payload_length = let a = length-take 48 (drop 5 c) in let b = length-drop 5 c in omega arith

  good_served : (o : Option Serving) → ServedIn o → (h : H.Header) → h.vci < 65536 → GoodWay c (P.way_by o h payload)
  unfolding P.way_by
  good_served None r h small = tt
  good_served (Some by_drop) r h small = tt
  good_served (Some (by_vp target class outvpi)) r h small =
      (record { target = r.sayable; class = (let m = r.class_most in omega arith); header = word_lt outvpi h.vci h.pt h.clp small; payload = payload_length }, refl)
  good_served (Some (by_vc target class outvpi outvci)) r h small =
      (record { target = r.0.sayable; class = (let m = r.0.class_most in omega arith); header = word_lt outvpi outvci h.pt h.clp (let m = r.1 in omega arith); payload = payload_length }, refl)

  good_way : (lines : List Line) → AllInRange lines → (s : Settings) → GoodWay c (P.way_of lines s c)
  unfolding P.way_of P.way_for fields
  good_way lines r s =
      let h = fields s.link (four c 0) in
      decide (eqb (Rattle.header.specs.Check.check (four c 0)) (get_or c 4 0))
      (λ t. rw t
      (decide (eqb h.vpi 0 && eqb h.vci 0) (λ x. rw x tt)
      (λ x. rw x
      (decide (ltb s.top h.vpi) (λ y. rw y tt)
      (λ y. rw y (good_served (served lines s.number h.vpi h.vci) (served_in lines r s.number h.vpi h.vci) h (omega arith)))))))
      (λ t. rw t tt)

-- D. the inlet
pub inlet_held : (store : List ℕ) (i : ℕ) (u : U.Unit) (e : D.Unit) → UnitAlike store i u e → u.inlet.count ≡ length e.inlet
inlet_held store i u e a = sym (length_cells store i 123 4 u.inlet) ∙ ap length a.inlet ∙ length_map on_bus e.inlet

one_more : (rs : List D.Routed) (r : D.Routed) → AllSendable rs → Sendable r → AllSendable (rs ++ (r ∷ []))
one_more [] r all s = (s, tt)
one_more (x ∷ rs) r all s = (all.0, one_more rs r all.1 s)

pub on_bus_length : (r : D.Routed) → Sendable r → length (on_bus r) ≡ 56
unfolding cell
on_bus_length r s =
    length-append (be2 (routing r.target r.class) ++ be2 0 ++ be4 r.cell.header) r.cell.payload ∙ (let p = s.payload in omega arith)

module _ (store : List ℕ) (i : ℕ) (u : U.Unit) (e : D.Unit) (a : UnitAlike store i u e) (housed : Housed i u (length store)) (r : D.Routed) (s : Sendable r) (room : u.inlet.count < 4) where
  slot : ℕ
  slot = inlet_slot (tail u.inlet 4)

  slot_few : tail u.inlet 4 < 4
  slot_few = tail_lt 4 (omega arith) u.inlet housed.inlet (omega arith)

  pub unit_with : UnitAlike (put_at store i (inlet_slot (tail u.inlet 4)) (on_bus r)) i (with_inlet u (pushed u.inlet)) (D.with_inlet e (e.inlet ++ (r ∷ [])))
  unit_with =
      record {
        settings = a.settings;
        limits = a.limits;
        sendable = one_more e.inlet r a.sendable s;
        inlet =
            inlet_pushed i u.inlet housed.inlet store (on_bus r) (on_bus_length r s) housed.inside room ∙ ap (λ l. l ++ (on_bus r ∷ [])) a.inlet
            ∙ sym (map-append on_bus e.inlet (r ∷ []));
        rings = a.rings;
        four = a.four;
        queues = λ q h.
            ap (map off_bus) (outlet_above i u.outlet.limits housed.limits q h (queue u.outlet q) (housed.queues.each q h) store (on_bus r) (on_bus_length r s) housed.inside (tail u.inlet 4) slot_few)
            ∙ a.queues q h;
        side = side_kept store i i (inlet_slot (tail u.inlet 4)) (on_bus r) (on_bus_length r s) (omega (arith, slot_few)) housed.inside u.side e.side housed.side (inr (inl (omega (arith, slot_few)))) a.side;
      }

-- E. the whole arrival
module _ (card : Card) (shelf : Shelf) (memory store : List ℕ) (d : D.Shelf) (a : Alike card shelf memory store d) (housed : (j : ℕ) → j < length d.units → Housed j (unit_at shelf j) (length store)) (i : ℕ) (here : i < length d.units) where
  -- nothing changes but the history
  pub as_was : (happened : List Entry) → Alike card shelf memory store (D.after d i (D.unit_at d i) happened)
  as_was happened =
      let same : set d.units i (D.unit_at d i) ≡ d.units = set-get_or d.units i D.blank in
      record {
        many = a.many ∙ ap length (sym same);
        counted = a.counted ∙ ap length (sym same);
        units = subst (λ us. (j : ℕ) → j < length us → UnitAlike store j (unit_at shelf j) (get_or us j D.blank)) (sym same) a.units;
        known = subst (λ us. (j : ℕ) → j < length us → Known card memory d.lines (unit_at shelf j)) (sym same) a.known;
        ranged = a.ranged;
        bus = a.bus;
        arbiter = a.arbiter;
        granted = a.granted;
        frame = a.frame;
      }

  abbrev u : U.Unit
  u = unit_at shelf i

  abbrev e : D.Unit
  e = D.unit_at d i

  module _ (c : List ℕ) where
    pub record ArriveAlike (way : P.Way) (happened : List Entry) : Type 0 where
      pub answer : (arriving.done_by (way_in way) shelf i).reply.answer ≡ answer.Arrived (P.arrival_by way e)
      pub rises : (arriving.done_by (way_in way) shelf i).rises ≡ row i (arrival_rises (P.arrival_by way e))
      pub after : Alike card (arriving.done_by (way_in way) shelf i).reply.shelf memory (arriving.store_by (way_in way) u i store c) (D.after d i (D.with_inlet e (P.inlet_by way e)) happened)

    by_way : (way : P.Way) → GoodWay c way → (happened : List Entry) → ArriveAlike way happened
    unfolding P.arrival_by P.inlet_by arriving.done_by arriving.store_by
    by_way (P.lost fate) g happened = record { answer = refl; rises = refl; after = as_was happened }
    by_way (P.goes r) g happened =
        let x = a.units i here in
        let n = inlet_held store i u e x in
        decide (leb 4 (length e.inlet))
        (λ t. let f = ap (leb 4) n ∙ t in record { answer = rw (t, f) refl; rises = rw (t, f) refl; after = rw (t, f) (as_was happened) })
        (λ t.
        let f = ap (leb 4) n ∙ t in
        let room = leb-false 4 u.inlet.count f in
        let h = housed i here in
        let z = tail_lt 4 (omega arith) u.inlet h.inlet (omega arith) in
        let put = changed card shelf memory store d a i here (with_inlet u (pushed u.inlet)) (D.with_inlet e (e.inlet ++ (r ∷ [])))
        (put_at store i (inlet_slot (tail u.inlet 4)) (on_bus r)) happened
        (unit_with store i u e x h r g.0 room) (record { looks = (a.known i here).looks; hearing = (a.known i here).hearing })
        (λ j few apart. elsewhere store j i (inlet_slot (tail u.inlet 4)) (on_bus r) (unit_at shelf j) (D.unit_at d j) (on_bus_length r g.0) (omega (arith, z)) h.inside (λ q. apart (sym q)) (housed j few) (a.units j few)) in
        record { answer = rw (t, f) refl; rises = rw (t, f) refl; after = rw (t, f) (subst (λ p. Alike card (arriving.cell_in shelf i) memory (put_at store i (inlet_slot (tail u.inlet 4)) (cell (routing r.target r.class) 0 r.cell.header p)) (D.after d i (D.with_inlet e (e.inlet ++ (r ∷ []))) happened)) g.1 put) })

    pub arrive_alike : length c ≡ 53 →
        ((arriving.done_at card shelf i memory c).reply.answer ≡ answer.Arrived (P.arrival_of d.lines e c))
        × ((arriving.done_at card shelf i memory c).rises ≡ row i (arrival_rises (P.arrival_of d.lines e c)))
        × Alike card (arriving.done_at card shelf i memory c).reply.shelf memory (arriving.store_at card shelf i memory store c) (P.arrived d i c)
    unfolding P.arrived
    arrive_alike whole =
        let way = P.way_of d.lines e.settings c in
        let same : arriving.way_of card u memory c ≡ way_in way = way_alike card memory d.lines u c a.ranged (a.known i here) ∙ ap (λ s. way_in (P.way_of d.lines s c)) (a.units i here).settings in
        let happened = entries (D.number_of e) (arrival_counts (P.arrival_of d.lines e c)) in
        let r = by_way way (good_way c whole d.lines a.ranged e.settings) happened in (
          ap (λ w. (arriving.done_by w shelf i).reply.answer) same ∙ r.answer,
          ap (λ w. (arriving.done_by w shelf i).rises) same ∙ r.rises,
          subst (λ w. Alike card (arriving.done_by w shelf i).reply.shelf memory (arriving.store_by w u i store c) (D.after d i (D.with_inlet e (P.inlet_by way e)) happened)) (sym same) r.after,
        )
