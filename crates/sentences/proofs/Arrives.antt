-- Arrival at a unit. Assumes nothing.
use Rattle.std.specs.Prelude.{Ok, Err}
use Prim.Native.Nat.{ℕ, ◌+◌, ◌<◌}
use native.Mathlib.Omega.{arith}
use mathlib.Core.Path.{◌≡◌, refl, sym, ap, subst, ◌∙◌}
use mathlib.Core.Bool.{Bool, true}
use mathlib.Core.List.{List, ◌++◌}
use lib.Dec.{eqb}
use lib.ListN.{length, take, drop, length-take, length-drop}
use borrow.Author.Tests.{eq-eqb, ne_eqb, le-leb, lt-leb}
use Rattle.octets.specs.Octets as octets
use Rattle.header.specs.Check as header·
use Rattle.card.specs.declared.Card.{Card}
use Rattle.bus.specs.Frame as bus
use Rattle.lookup.specs.Lookup as lookup
use Rattle.store.specs.Places as places
use Rattle.store.specs.Rings as rings
use Rattle.shelf.specs.declared.Unit as U
use Rattle.shelf.specs.Shelf.{Shelf}
use Rattle.answer.specs.Answers.{arrival_rises}
use Rattle.answer.specs.declared.Arrival as A
use Rattle.answer.specs.declared.Arrival.TheVariants as arrival
use Rattle.soundness.specs.Admission as admit
use Rattle.arriving.specs.Arriving as arriving
use Rattle.arriving.specs.Arriving.{Way as Way·}
use Rattle.document.specs.Events.{arrive}
use Rattle.running.specs.Events.{World, Outcome, happens, ended}
use Rattle.paper.specs.Cells.{byte, four, pt, clp, header, bus_cell}
use Rattle.paper.specs.Outlets.{slot_at, behind}
use Rattle.paper.specs.Counters.{arrival_counts}
use Rattle.paper.specs.State.{units, unit_at, DeclaredAt, Sound}
use Rattle.paper.specs.Arrival.{Way, hec, ignored, misrouted, routed, Meets, wrong_check, right_check}
use Rattle.paper.proofs.Cells.{four_is, check_iff, bus_cell_lem}
use Rattle.paper.proofs.Outlets.{slot_is, longer_is}
use Rattle.paper.proofs.Counters.{agree_arrival, risen_at}
use Rattle.paper.proofs.State.{sound_iff, tail_is}
use Rattle.paper.proofs.Arrival.{looked_as, looked_up, some_way, one_way, never_hec}
use Rattle.sentences.specs.Changes.{with_unit, with_inlet, with_cell, Runs, OnShelves}
use Rattle.sentences.specs.Arrival.{Lost, on_bus, Queued, ComesTo, Arrives, ArrivalRule}
use Rattle.paper.proofs.State.{found_at}
use Rattle.sentences.proofs.Found.{many_units, unit_at_lem}

-- an event that names a declared unit, with bytes of the right length, is let in at its place
pub let_in : (card : Card) (shelf : Shelf) (bytes rows : ℕ) → Sound card shelf bytes rows → (unit place : ℕ) → DeclaredAt shelf unit place → (right : Bool) → right ≡ true → admit.admitted card shelf bytes rows unit right ≡ Ok place
unfolding admit.admitted admit.at_unit
let_in card shelf bytes rows s unit place d right e = rw ((sound_iff card shelf bytes rows).1 s, found_at card shelf bytes rows s unit place d, e)

-- the way that the code finds
code_way : Way → ℕ → Way·
code_way hec h = Err arrival.Hec
code_way ignored h = Err arrival.Ignored
code_way misrouted h = Err arrival.Misrouted
code_way (routed r v c) h = Ok (record { routing = r; header = (header v c (pt h) (clp h)) })

looked_way : (way : Way) (h : ℕ) → (way ≡ hec → ⊥) → arriving.way_by (looked_as way h) ≡ code_way way h
unfolding code_way arriving.way_by
looked_way hec h n = absurd (n refl)
looked_way ignored h n = refl
looked_way misrouted h n = refl
looked_way (routed r v c) h n = refl

way_is : (card : Card) (memory : List ℕ) (u : U.Unit) (cell : List ℕ) (way : Way) → Meets card memory u cell way → arriving.way_of card u memory cell ≡ code_way way (four cell 0)
unfolding arriving.way_of lookup.sound_header code_way
way_is card memory u cell way (wrong_check n e) =
    rw (four_is cell 0, ne_eqb (header·.check (four cell 0)) (byte cell 4) (λ q. n ((check_iff (four cell 0) (byte cell 4)).0 q)), e)
way_is card memory u cell way (right_check k l) =
    rw (four_is cell 0, eq-eqb (header·.check (four cell 0)) (byte cell 4) ((check_iff (four cell 0) (byte cell 4)).1 k))
    (ap arriving.way_by (looked_up card memory u (four cell 0) way l) ∙ looked_way way (four cell 0) (never_hec card memory u (four cell 0) way l))

-- what an arrival comes to, where it is let in
outcome : (card : Card) (w : World) (place : ℕ) (cell : List ℕ) → Way· → Outcome
outcome card w place cell way = ended w (arriving.done_by way w.shelf place) (arriving.store_by way (admit.unit_at w.shelf place) place w.store cell) cell

module _ (card : Card) (w : World) (runs : Runs card w) (unit place : ℕ) (d : DeclaredAt w.shelf unit place) (cell : List ℕ) (whole : length cell ≡ 53) where
  abbrev u : U.Unit
  u = unit_at w.shelf place

  counted : length (units w.shelf) ≡ w.shelf.count
  counted = many_units w.shelf runs.whole runs.sound.count

  below : place < w.shelf.count
  below = subst (λ n. place < n) counted d.inside

  same : u ≡ admit.unit_at w.shelf place
  same = unit_at_lem w.shelf place below

  comes : (way : Way) → Meets card w.memory u cell way → happens card w (arrive unit cell) ≡ outcome card w place cell (code_way way (four cell 0))
  unfolding happens admit.decided outcome
  comes way m =
      rw (let_in card w.shelf (length w.store) (length w.rows) runs.sound unit place d (eqb (length cell) 53) (eq-eqb (length cell) 53 whole))
      (ap (outcome card w place cell) (ap (λ x. arriving.way_of card x w.memory cell) (sym same) ∙ way_is card w.memory u cell way m))

  -- a cell that is lost
  lost : (fate : A.Arrival) → Lost w place cell fate (ended w (arriving.arrived w.shelf place fate) w.store cell)
  lost fate =
      record {
        said = refl;
        shelf = refl;
        memory = refl;
        store = refl;
        rows = risen_at w.rows place (arrival_rises fate) (arrival_counts fate) (omega (arith, below, runs.sound.records)) (omega (arith, below, runs.sound.count)) (agree_arrival fate);
        bytes = refl;
      }

  -- a cell that waits: its ring and its bytes
  abbrev payload : List ℕ
  payload = take 48 (drop 5 cell)

  payload_48 : length payload ≡ 48
  payload_48 = let e = length-drop 5 cell in length-take 48 (drop 5 cell) ∙ omega arith

  cell_56 : (r h : ℕ) → length (bus.cell r 0 h payload) ≡ 56
  unfolding bus.cell
  cell_56 r h = let e = payload_48 in omega arith

  -- where it goes in the store
  slot : places.slot_at place (places.inlet_slot (rings.tail u.inlet 4)) ≡ slot_at place (123 + behind u.inlet 4)
  slot = slot_is place (123 + rings.tail u.inlet 4) ∙ ap (λ p. slot_at place (123 + p)) (tail_is u.inlet 4 (omega arith) (omega arith) (runs.sound.each place d.inside).inlet)

  put : (r h : ℕ) → places.put_at w.store place (places.inlet_slot (rings.tail u.inlet 4)) (bus.cell r 0 h payload) ≡ with_cell w.store (slot_at place (123 + behind u.inlet 4)) (bus_cell r h payload)
  unfolding places.put_at
  put r h =
      let at = slot_at place (123 + behind u.inlet 4) in
      ap (λ k. octets.splice w.store k (bus.cell r 0 h payload)) slot
      ∙ ap (λ n. take at w.store ++ bus.cell r 0 h payload ++ drop (at + n) w.store) (cell_56 r h)
      ∙ ap (with_cell w.store at) (bus_cell_lem r h payload)

  queued : (r v c : ℕ) → u.inlet.count < 4 → Queued w place cell (on_bus r v c cell) (ended w (arriving.arrived (with_unit w.shelf place (with_inlet u (rings.pushed u.inlet))) place arrival.Queued) (places.put_at w.store place (places.inlet_slot (rings.tail u.inlet 4)) (bus.cell r 0 (header v c (pt (four cell 0)) (clp (four cell 0))) payload)) cell)
  queued r v c h =
      record {
        said = refl;
        shelf = ap (λ x. with_unit w.shelf place (with_inlet u x)) (longer_is u.inlet (omega arith));
        memory = refl;
        store = put r (header v c (pt (four cell 0)) (clp (four cell 0)));
        rows = risen_at w.rows place (arrival_rises arrival.Queued) (arrival_counts arrival.Queued) (omega (arith, below, runs.sound.records)) (omega (arith, below, runs.sound.count)) (agree_arrival arrival.Queued);
        bytes = refl;
      }

  -- what each way comes to
  by_way : (way : Way) → ComesTo w place cell way (outcome card w place cell (code_way way (four cell 0)))
  unfolding outcome code_way arriving.done_by arriving.store_by
  by_way hec = lost arrival.Hec
  by_way ignored = lost arrival.Ignored
  by_way misrouted = lost arrival.Misrouted
  by_way (routed r v c) = (
    λ h. rw (ap (λ x. x.inlet.count) (sym same), le-leb 4 u.inlet.count h) (lost arrival.Inletfull),
    λ h. rw (sym same, lt-leb 4 u.inlet.count h) (queued r v c h),
  )

  arrives : Arrives card w place cell (happens card w (arrive unit cell))
  arrives =
      let m = some_way card w.memory u cell in
      record {
        way = m.0;
        meets = m.1;
        only = λ other o. one_way card w.memory u cell other m.0 o m.1;
        comes_to = subst (ComesTo w place cell m.0) (sym (comes m.0 m.1)) (by_way m.0);
      }

pub arrival_rule : OnShelves ArrivalRule
arrival_rule card w runs unit place d cell whole = arrives card w runs unit place d cell whole
