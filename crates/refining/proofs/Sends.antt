-- What a granted unit sends, on both. Assumes nothing.
use Rattle.std.specs.Prelude.{Some}
use Prim.Native.Nat.{ℕ, zero, suc, ◌+◌, ◌<◌, ◌≤◌}
use native.Mathlib.Omega.{arith}
use mathlib.Core.Path.{◌≡◌, refl, sym, ap, subst, ◌∙◌}
use mathlib.Core.Bool.{Bool, true, false, cond}
use mathlib.Core.List.{List, [], ◌∷◌, map}
use lib.Dec.{leb}
use lib.ListN.{length}
use lib.Seq.{take_all}
use borrow.Author.Tests.{le-leb, lt-leb}
use Rattle.octets.proofs.Numbers.{four_be4}
use Rattle.card.specs.declared.Card.{Card}
use Rattle.bus.specs.Frame.{cell, heard}
use Rattle.bus.proofs.Wire.{heard_sealed, sent_is_heard}
use Rattle.store.specs.Rings.{popped}
use Rattle.store.specs.Places.{inlet_slot, control_in_slot, loopback_in_slot, cell_at, inlet_cells, single, single_cells}
use Rattle.store.proofs.Slots.{cell_length}
use Rattle.store.proofs.Queues.{length_cells, inlet_popped, single_none, single_one}
use Rattle.shelf.specs.Shelves as S
use Rattle.shelf.specs.declared.Unit as U
use Rattle.line.specs.declared.Line.{Line}
use Rattle.soundness.specs.Admission.{with_inlet, with_side, Housed}
use Rattle.framing.specs.Sending.{send_slot, unit_out}
use Rattle.document.specs.Shelf as D
use Rattle.document.specs.Frame as page
use Rattle.refining.proofs.Alike.{Sendable, AllSendable, on_bus, UnitAlike, Known}
use Rattle.refining.proofs.Arrives.{inlet_held, on_bus_length}
use Rattle.refining.proofs.Hears.{Carries, carried_says}

-- 1. a data cell on the bus: it carries its target, its header and its payload, and its frame is heard as that
module _ (r : D.Routed) (s : Sendable r) where
  data_carries : Carries (page.data_on_bus r)
  unfolding cell
  data_carries =
      record {
        whole = on_bus_length r s;
        payload = take_all 48 r.cell.payload (omega (arith, s.payload));
        says = (s.target, four_be4 r.cell.header [] s.header);
      }

  data_heard : heard (page.frame_of (page.data_on_bus r)) ≡ (page.data_on_bus r).heard
  data_heard = sent_is_heard r.target r.class 0 r.cell.header r.cell.payload s.target s.class s.header s.payload

-- 2. a single place with a cell: it holds just that
module _ (store : List ℕ) (i slot : ℕ) where
  record Alone (count : ℕ) (c : List ℕ) (rest : List (List ℕ)) : Type 0 where
    one : count ≡ 1
    first : c ≡ cell_at store i slot
    none : single_cells store i slot 0 ≡ rest

  alone : (count : ℕ) (c : List ℕ) (rest : List (List ℕ)) → count ≤ 1 → single_cells store i slot count ≡ c ∷ rest → Alone count c rest
  alone zero c rest most e = let z = sym (length_cells store i slot 1 (single 0)) ∙ ap length e in absurd (omega arith)
  alone (suc zero) c rest most e =
      let f : cell_at store i slot ∷ [] ≡ c ∷ rest = sym (single_one store i slot) ∙ e in
      let first : cell_at store i slot ≡ c = cc in
      let last : [] ≡ rest = cc in
      record { one = refl; first = sym first; none = single_none store i slot ∙ last }
  alone (suc (suc count)) c rest most e = absurd (omega arith)

-- 3. "data, then control, then loopback": the slot and what is left, by what waits
abbrev slot_by : U.Unit → Bool → Bool → ℕ
slot_by u held control = cond held (inlet_slot u.inlet.head) (cond control control_in_slot loopback_in_slot)

abbrev out_by : U.Unit → Bool → Bool → U.Unit
out_by u held control =
    cond held (with_inlet u (popped u.inlet 4)) (cond control (with_side u (S.control_in_put u.side 0)) (with_side u (S.loopback_in_put u.side 0)))

module _ (store : List ℕ) (i : ℕ) (u : U.Unit) (d : D.Unit) (a : UnitAlike store i u d) (housed : Housed i u (length store)) where
  -- as many cells wait
  control_count : u.side.controlin ≡ length d.side.controlin
  control_count = sym (length_cells store i 127 1 (single u.side.controlin)) ∙ ap length a.side.controlin

  loopback_count : u.side.loopbackin ≡ length d.side.loopbackin
  loopback_count = sym (length_cells store i 128 1 (single u.side.loopbackin)) ∙ ap length a.side.loopbackin

  pub waiting_alike : S.waiting u ≡ D.waiting d
  waiting_alike = λ z. inlet_held store i u d a z + control_count z + loopback_count z

  -- the cell stands in the slot, the unit without it is the document's without it, and its frame is heard as what it is
  pub record SendsAlike (s : page.Sending) : Type 0 where
    pub cell : cell_at store i (send_slot u) ≡ s.cell.bytes
    pub left : UnitAlike store i (unit_out u) s.left
    pub carries : Carries s.cell
    pub heard : heard (page.frame_of s.cell) ≡ s.cell.heard

  -- by what waits
  by_waiting : (x y : Bool) → leb 1 u.inlet.count ≡ x → leb 1 u.side.controlin ≡ y → (s : page.Sending) → cell_at store i (slot_by u x y) ≡ s.cell.bytes → UnitAlike store i (out_by u x y) s.left →
      Carries s.cell → heard (page.frame_of s.cell) ≡ s.cell.heard → SendsAlike s
  unfolding send_slot unit_out
  by_waiting x y p q s cell left carries heard =
      record {
        cell = (λ z. cell_at store i (slot_by u (p z) (q z))) ∙ cell;
        left = subst (λ v. UnitAlike store i v s.left) (λ z. out_by u (sym p z) (sym q z)) left;
        carries = carries;
        heard = heard;
      }

  -- a cell of the processor's, or one that moved
  bytes_carry : (slot : ℕ) → slot < 146 → (c : List ℕ) → c ≡ cell_at store i slot → Carries (page.bytes_on_bus c) × (heard (page.frame_of (page.bytes_on_bus c)) ≡ (page.bytes_on_bus c).heard)
  bytes_carry slot few c e =
      let whole = ap length e ∙ cell_length store i slot few housed.inside in
      (record { whole = whole; payload = refl; says = carried_says c }, heard_sealed c whole)

  abbrev Sends : List D.Routed → List (List ℕ) → List (List ℕ) → Type 0
  Sends inlet control loopback = (s : page.Sending) × (page.sending_from inlet control loopback d ≡ Some s) × SendsAlike s

  from_inlet : (r : D.Routed) (rest : List D.Routed) (control loopback : List (List ℕ)) → d.inlet ≡ r ∷ rest → Sends (r ∷ rest) control loopback
  unfolding page.sending_from
  from_inlet r rest control loopback e =
      let n = inlet_held store i u d a ∙ ap length e in
      let able = subst AllSendable e a.sendable in
      let oldest : cell_at store i (inlet_slot u.inlet.head) ∷ inlet_cells store i (popped u.inlet 4) ≡ on_bus r ∷ map on_bus rest = sym (inlet_popped store i u.inlet (omega arith)) ∙ a.inlet ∙ ap (map on_bus) e in
      let first : cell_at store i (inlet_slot u.inlet.head) ≡ on_bus r = cc in
      let others : inlet_cells store i (popped u.inlet 4) ≡ map on_bus rest = cc in (
        record { cell = page.data_on_bus r; left = D.with_inlet d rest },
        refl,
        by_waiting true (leb 1 u.side.controlin) (le-leb 1 u.inlet.count (omega arith)) refl _ first
            (record { settings = a.settings; limits = a.limits; sendable = able.1; inlet = others; rings = a.rings; four = a.four; queues = a.queues; side = a.side })
            (data_carries r able.0) (data_heard r able.0),
      )

  from_control : (c : List ℕ) (rest loopback : List (List ℕ)) → d.inlet ≡ [] → d.side.controlin ≡ c ∷ rest → Sends [] (c ∷ rest) loopback
  unfolding page.sending_from
  from_control c rest loopback none e =
      let n = inlet_held store i u d a ∙ ap length none in
      let x = alone store i control_in_slot u.side.controlin c rest housed.side.controlin (a.side.controlin ∙ e) in
      let good = bytes_carry control_in_slot (omega arith) c x.first in (
        record { cell = page.bytes_on_bus c; left = D.with_control_in d rest },
        refl,
        by_waiting false true (lt-leb 1 u.inlet.count (omega arith)) (le-leb 1 u.side.controlin (omega (arith, x.one))) _ (sym x.first)
            (record {
              settings = a.settings;
              limits = a.limits;
              sendable = a.sendable;
              inlet = a.inlet;
              rings = a.rings;
              four = a.four;
              queues = a.queues;
              side = record { controlin = x.none; loopbackin = a.side.loopbackin; controlout = a.side.controlout; loopbackout = a.side.loopbackout };
            })
            good.0 good.1,
      )

  from_loopback : (c : List ℕ) (rest : List (List ℕ)) → d.inlet ≡ [] → d.side.controlin ≡ [] → d.side.loopbackin ≡ c ∷ rest → Sends [] [] (c ∷ rest)
  unfolding page.sending_from
  from_loopback c rest none neither e =
      let n = inlet_held store i u d a ∙ ap length none in
      let m = control_count ∙ ap length neither in
      let x = alone store i loopback_in_slot u.side.loopbackin c rest housed.side.loopbackin (a.side.loopbackin ∙ e) in
      let good = bytes_carry loopback_in_slot (omega arith) c x.first in (
        record { cell = page.bytes_on_bus c; left = D.with_loopback_in d rest },
        refl,
        by_waiting false false (lt-leb 1 u.inlet.count (omega arith)) (lt-leb 1 u.side.controlin (omega arith)) _ (sym x.first)
            (record {
              settings = a.settings;
              limits = a.limits;
              sendable = a.sendable;
              inlet = a.inlet;
              rings = a.rings;
              four = a.four;
              queues = a.queues;
              side = record { controlin = a.side.controlin; loopbackin = x.none; controlout = a.side.controlout; loopbackout = a.side.loopbackout };
            })
            good.0 good.1,
      )

  -- a unit in which a cell waits sends one
  pub sends_alike : 1 ≤ S.waiting u → Sends d.inlet d.side.controlin d.side.loopbackin
  sends_alike held = go d.inlet d.side.controlin d.side.loopbackin refl refl refl
    where
      go : (inlet : List D.Routed) (control loopback : List (List ℕ)) → d.inlet ≡ inlet → d.side.controlin ≡ control → d.side.loopbackin ≡ loopback → Sends inlet control loopback
      go (r ∷ rest) control loopback x y z = from_inlet r rest control loopback x
      go [] (c ∷ rest) loopback x y z = from_control c rest loopback x y
      go [] [] (c ∷ rest) x y z = from_loopback c rest x y z
      go [] [] [] x y z = absurd (omega (arith, held, inlet_held store i u d a ∙ ap length x, control_count ∙ ap length y, loopback_count ∙ ap length z))

-- a unit without the cell that it sends knows what it knew
pub sends_knows : (card : Card) (memory : List ℕ) (lines : List Line) (u : U.Unit) → Known card memory lines u → Known card memory lines (unit_out u)
unfolding unit_out
sends_knows card memory lines u k = by (leb 1 u.inlet.count) (leb 1 u.side.controlin)
  where
    by : (x y : Bool) → Known card memory lines (out_by u x y)
    by true y = record { looks = k.looks; hearing = k.hearing }
    by false true = record { looks = k.looks; hearing = k.hearing }
    by false false = record { looks = k.looks; hearing = k.hearing }
