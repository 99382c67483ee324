-- What `lookup` says of a header in a memory is what the paper says. Assumes nothing.
use Rattle.std.specs.Prelude.{None, Option, Some}
use Prim.Native.Nat.{ℕ, zero, suc, ◌+◌, ◌*◌, ◌-◌, ◌/◌, ◌%◌, ◌<◌, ◌≤◌}
use native.Mathlib.Nat.{add_assoc}
use native.Mathlib.Omega.{arith}
use mathlib.Core.Path.{◌≡◌, refl, sym, ap, subst, ◌∙◌}
use mathlib.Core.Logic.{◌≢◌}
use mathlib.Core.Bool.{Bool, true, false, cond, ◌&&◌, false≢true}
use mathlib.Core.List.{List}
use lib.Dec.{eqb, leb, ltb}
use lib.ListN.{length, get_or, drop}
use borrow.Author.Tests.{eqb-true, eqb-false, eq-eqb, ne_eqb, le-leb, lt-leb, lt-ltb, le-ltb}
use Rattle.octets.specs.Octets as octets
use Rattle.header.specs.Fields.{fields, top_of, word}
use Rattle.header.specs.Check as header·
use Rattle.header.specs.declared.Header.{Header}
use Rattle.header.specs.declared.Link.{Link}
use Rattle.header.specs.declared.Link.TheVariants.{Nni}
use Rattle.card.specs.declared.Card.{Card}
use Rattle.card.specs.declared.Card.TheVariants.{Narrow, Wide}
use lib.Seq.{get_or-take, get_or-drop}
use Rattle.lookup.proofs.RecordLaws.{kind_route, kind_page}
use Rattle.lookup.specs.Record as record·
use Rattle.lookup.specs.declared.Record.TheVariants as record·is
use Rattle.lookup.specs.Lookup as lookup
use Rattle.lookup.specs.declared.Looked.{Looked}
use Rattle.lookup.specs.declared.Looked.TheVariants as looked
use Rattle.shelf.specs.declared.Unit as U
use Rattle.paper.specs.Cells.{byte, two, four, vpi, vci, pt, clp, header}
use Rattle.paper.specs.Arrival.{Way, hec, ignored, misrouted, routed, Inside, KindAt, outgoing, ByRoute, above_4095, goes, AtCircuit, AtPath, LookedUp, zeros, above, below, Meets, wrong_check, right_check}
use Rattle.lookup.proofs.Laws.{no_path, above_top, by_record}
use Rattle.store.proofs.Slots.{by_lt}
use Rattle.outlet.proofs.Truth.{decide}
use Rattle.paper.proofs.Cells.{four_is, vpi_is, fields_are, check_iff}
use Rattle.paper.proofs.Counters.{both}
use Rattle.lookup.specs.declared.Record as R

-- what the lookup answers for a way; it tests no check
abbrev pub looked_as : Way → ℕ → Looked
looked_as hec h = looked.Misrouted
looked_as ignored h = looked.Ignored
looked_as misrouted h = looked.Misrouted
looked_as (routed r v c) h = looked.Goes r (header v c (pt h) (clp h))

-- A. a record
-- its bytes, where they stand in the memory
byte_in : (memory : List ℕ) (at k : ℕ) → k < 8 → get_or (octets.part memory at 8) k 0 ≡ byte memory (at + k)
byte_in memory at k h = get_or-take 8 (drop at memory) k 0 h ∙ get_or-drop at memory k 0

module _ (card : Card) (memory : List ℕ) (at : ℕ) where
  abbrev b : List ℕ
  b = octets.part memory at 8

  first : get_or b 0 0 ≡ byte memory at
  first = byte_in memory at 0 (omega arith) ∙ ap (byte memory) (omega arith)

  two_at : (k : ℕ) → k < 7 → octets.two b k ≡ two memory (at + k)
  two_at k h = λ i. byte_in memory at k (omega arith) i * 256 + (byte_in memory at (k + 1) (omega arith) ∙ ap (byte memory) (sym (add_assoc at k 1))) i

  four_at : octets.four b 4 ≡ four memory (at + 4)
  four_at = (λ i. two_at 4 (omega arith) i * 65536 + (two_at 6 (omega arith) ∙ ap (two memory) (sym (add_assoc at 4 2))) i) ∙ four_is memory (at + 4)

  at_outside : (Inside memory at → ⊥) → record·.record_at card memory at ≡ None
  unfolding record·.record_at
  at_outside n = rw (lt-leb (at + 8) (length memory) (omega arith))

  at_inside : Inside memory at → record·.record_at card memory at ≡ record·.record_in card b
  unfolding record·.record_at
  at_inside h = rw (le-leb (at + 8) (length memory) h)

  at_empty : KindAt memory at 0 → record·.record_at card memory at ≡ Some record·is.Empty
  unfolding record·.record_in
  at_empty k = at_inside k.0 ∙ rw (first ∙ k.1)

  at_drop : KindAt memory at 1 → record·.record_at card memory at ≡ Some record·is.Drop
  unfolding record·.record_in
  at_drop k = at_inside k.0 ∙ rw (first ∙ k.1)

  at_unknown : Inside memory at → 3 < byte memory at → record·.record_at card memory at ≡ None
  unfolding record·.record_in
  at_unknown h k =
      let n = get_or b 0 0 in
      let more : 3 < n = subst (λ x. 3 < x) (sym first) k in
      at_inside h ∙ rw (ne_eqb n 0 (λ e. omega arith), ne_eqb n 1 (λ e. omega arith), ne_eqb n 2 (λ e. omega arith), ne_eqb n 3 (λ e. omega arith))

vpi_at : (card : Card) (memory : List ℕ) (at : ℕ) → record·.vpi_in card (octets.part memory at 8) ≡ outgoing card memory at
vpi_at Narrow memory at = byte_in memory at 3 (omega arith)
vpi_at Wide memory at = two_at Wide memory at 6 (omega arith)

at_route : (card : Card) (memory : List ℕ) (at : ℕ) → KindAt memory at 2 → record·.record_at card memory at ≡ Some (record·is.Route (two memory (at + 1)) (outgoing card memory at) (two memory (at + 4)))
at_route card memory at k =
    at_inside card memory at k.0 ∙ kind_route card (octets.part memory at 8) (first card memory at ∙ k.1)
    ∙ (λ i. Some (record·is.Route (two_at card memory at 1 (omega arith) i) (vpi_at card memory at i) (two_at card memory at 4 (omega arith) i)))

at_page : (card : Card) (memory : List ℕ) (at : ℕ) → KindAt memory at 3 → record·.record_at card memory at ≡ Some (record·is.Page (two memory (at + 1)) (four memory (at + 4)))
at_page card memory at k =
    at_inside card memory at k.0 ∙ kind_page card (octets.part memory at 8) (first card memory at ∙ k.1)
    ∙ (λ i. Some (record·is.Page (two_at card memory at 1 (omega arith) i) (four_at card memory at i)))

-- B. a way that the paper gives is the one that the lookup answers
-- the header that goes on
on_bus : (link : Link) (w v c : ℕ) → v ≤ 4095 → word Nni (record { gfc = 0; vpi = v; vci = c; pt = (fields link w).pt; clp = (fields link w).clp }) ≡ header v c (pt w) (clp w)
unfolding word top_of fields
on_bus link w v c h = λ i. top i * 1048576 + c * 16 + pts i * 2 + clps i
  where
    top : (0 * 4096 + v % 4096) % 4096 ≡ v
    top = omega arith

    pts : w / 2 % 8 % 8 ≡ w / 2 % 8
    pts = omega arith

    clps : w % 2 % 2 ≡ w % 2
    clps = omega arith

module _ (card : Card) (memory : List ℕ) (link : Link) (w : ℕ) where
  abbrev stands : ℕ → Option R.Record
  stands at = record·.record_at card memory at

  by_route : (at c : ℕ) (way : Way) → ByRoute card memory at c way → lookup.goes_by (two memory (at + 1)) (outgoing card memory at) c (fields link w) ≡ looked_as way w
  unfolding lookup.goes_by
  by_route at c way (above_4095 h e) = rw (e, lt-ltb 4095 (outgoing card memory at) h)
  by_route at c way (goes h e) =
      rw (e, le-ltb 4095 (outgoing card memory at) h) (ap (looked.Goes (two memory (at + 1))) (on_bus link w (outgoing card memory at) c h))

  by_circuit : (at : ℕ) (way : Way) → AtCircuit card memory at way → lookup.by_vci (stands at) (fields link w) ≡ looked_as way w
  unfolding lookup.by_vci
  by_circuit at way (AtCircuit.outside n e) = rw (at_outside card memory at n, e)
  by_circuit at way (AtCircuit.no_route h n e) = by (byte memory at) refl ∙ ap (λ x. looked_as x w) (sym e)
    where
      by : (k : ℕ) → byte memory at ≡ k → lookup.by_vci (stands at) (fields link w) ≡ looked.Misrouted
      by zero q = rw (at_empty card memory at (h, q))
      by (suc zero) q = rw (at_drop card memory at (h, q))
      by (suc (suc zero)) q = absurd (n q)
      by (suc (suc (suc zero))) q = rw (at_page card memory at (h, q))
      by (suc (suc (suc (suc k)))) q = rw (at_unknown card memory at h (omega (arith, q)))
  by_circuit at way (AtCircuit.route k r) = rw (at_route card memory at k) (by_route at (two memory (at + 4)) way r)

  by_path : (at : ℕ) (way : Way) → AtPath card memory at (vci w) way → lookup.by_got stands (stands at) (fields link w) ≡ looked_as way w
  unfolding lookup.by_got lookup.by_vpi fields
  by_path at way (AtPath.outside n e) = rw (at_outside card memory at n, e)
  by_path at way (AtPath.empty k e) = rw (at_empty card memory at k, e)
  by_path at way (AtPath.drop k e) = rw (at_drop card memory at k, e)
  by_path at way (AtPath.route k r) = rw (at_route card memory at k) (by_route at (vci w) way r)
  by_path at way (AtPath.page k h r) = rw (at_page card memory at k, le-ltb (two memory (at + 1)) (vci w) h) (by_circuit (four memory (at + 4) + 8 * vci w) way r)
  by_path at way (AtPath.page_above k h e) = rw (at_page card memory at k, lt-ltb (two memory (at + 1)) (vci w) h, e)
  by_path at way (AtPath.unknown h k e) = rw (at_unknown card memory at h k, e)

-- a sound header
both_not : (a b : Bool) → (a ≡ true → b ≡ true → ⊥) → (a && b) ≡ false
both_not true true n = absurd (n refl refl)
both_not true false n = refl
both_not false b n = refl

pub looked_up : (card : Card) (memory : List ℕ) (u : U.Unit) (w : ℕ) (way : Way) → LookedUp card memory u w way →
    lookup.translated (record·.record_at card memory) u.settings.link u.settings.top u.place w ≡ looked_as way w
unfolding lookup.translated
looked_up card memory u w way = by_fields_lem
  where
    link : Link
    link = u.settings.link

    h : Header
    h = fields link w

    is : h.vpi ≡ vpi link w
    is = vpi_is link w

    is_vci : h.vci ≡ vci w
    is_vci = (fields_are link w).0

    some : (vpi link w ≡ 0 → vci w ≡ 0 → ⊥) → (eqb h.vpi 0 && eqb h.vci 0) ≡ false
    some n = both_not (eqb h.vpi 0) (eqb h.vci 0) (λ a b. n (sym is ∙ eqb-true h.vpi 0 a) (sym is_vci ∙ eqb-true h.vci 0 b))

    by_fields_lem : LookedUp card memory u w way → lookup.by_fields (record·.record_at card memory) u.settings.top u.place h ≡ looked_as way w
    by_fields_lem (zeros a b e) =
        no_path (record·.record_at card memory) u.settings.top u.place h (λ i. eq-eqb h.vpi 0 (is ∙ a) i && eq-eqb h.vci 0 (is_vci ∙ b) i) ∙ ap (λ x. looked_as x w) (sym e)
    by_fields_lem (above n k e) =
        above_top (record·.record_at card memory) u.settings.top u.place h (some n) (subst (λ x. u.settings.top < x) (sym is) k) ∙ ap (λ x. looked_as x w) (sym e)
    by_fields_lem (below n k p) =
        by_record (record·.record_at card memory) u.settings.top u.place h (some n) (subst (λ x. x ≤ u.settings.top) (sym is) k)
        ∙ by_path card memory link w (u.place + 8 * h.vpi) way (subst (λ x. AtPath card memory (u.place + 8 * x) (vci w) way) (sym is) p)

-- C. the paper gives every cell a way
module _ (card : Card) (memory : List ℕ) where
  some_route : (at c : ℕ) → (way : Way) × ByRoute card memory at c way
  some_route at c =
      by_lt 4095 (outgoing card memory at)
      (λ h. (misrouted, above_4095 h refl))
      (λ h. (routed (two memory (at + 1)) (outgoing card memory at) c, goes h refl))

  some_circuit : (at : ℕ) → (way : Way) × AtCircuit card memory at way
  some_circuit at =
      by_lt (length memory) (at + 8)
      (λ n. (misrouted, AtCircuit.outside (λ h. omega arith) refl))
      (λ h.
      decide (eqb (byte memory at) 2)
      (λ t. let r = some_route at (two memory (at + 4)) in (r.0, AtCircuit.route (h, eqb-true (byte memory at) 2 t) r.1))
      (λ f. (misrouted, AtCircuit.no_route h (eqb-false (byte memory at) 2 f) refl)))

  some_path : (at c : ℕ) → (way : Way) × AtPath card memory at c way
  some_path at c = by_lt (length memory) (at + 8) (λ n. (misrouted, AtPath.outside (λ h. omega arith) refl)) (λ h. by h (byte memory at) refl)
    where
      by : Inside memory at → (k : ℕ) → byte memory at ≡ k → (way : Way) × AtPath card memory at c way
      by h zero q = (misrouted, AtPath.empty (h, q) refl)
      by h (suc zero) q = (ignored, AtPath.drop (h, q) refl)
      by h (suc (suc zero)) q = let r = some_route at c in (r.0, AtPath.route (h, q) r.1)
      by h (suc (suc (suc zero))) q =
          by_lt (two memory (at + 1)) c
          (λ a. (misrouted, AtPath.page_above (h, q) a refl))
          (λ b. let r = some_circuit (four memory (at + 4) + 8 * c) in (r.0, AtPath.page (h, q) b r.1))
      by h (suc (suc (suc (suc k)))) q = (misrouted, AtPath.unknown h (omega (arith, q)) refl)

  some_looked : (u : U.Unit) (w : ℕ) → (way : Way) × LookedUp card memory u w way
  some_looked u w =
      let v = vpi u.settings.link w in
      let c = vci w in
      decide (eqb v 0 && eqb c 0)
      (λ t. let z = both (eqb v 0) (eqb c 0) t in (ignored, zeros (eqb-true v 0 z.0) (eqb-true c 0 z.1) refl))
      (λ f.
      let n : v ≡ 0 → c ≡ 0 → ⊥ = λ a b. false≢true (sym f ∙ (λ i. eq-eqb v 0 a i && eq-eqb c 0 b i)) in
      by_lt u.settings.top v
      (λ h. (misrouted, above n h refl))
      (λ h. let r = some_path (u.place + 8 * v) c in (r.0, below n h r.1)))

  pub some_way : (u : U.Unit) (cell : List ℕ) → (way : Way) × Meets card memory u cell way
  some_way u cell =
      decide (eqb (header·.check (four cell 0)) (byte cell 4))
      (λ t. let r = some_looked u (four cell 0) in (r.0, right_check ((check_iff (four cell 0) (byte cell 4)).0 (eqb-true (header·.check (four cell 0)) (byte cell 4) t)) r.1))
      (λ f. (hec, wrong_check (λ k. eqb-false (header·.check (four cell 0)) (byte cell 4) f ((check_iff (four cell 0) (byte cell 4)).1 k)) refl))

-- D. and no cell two
module _ (card : Card) (memory : List ℕ) where
  route_way : ℕ → ℕ → Way
  route_way at c = cond (ltb 4095 (outgoing card memory at)) misrouted (routed (two memory (at + 1)) (outgoing card memory at) c)

  route_only : (at c : ℕ) (way : Way) → ByRoute card memory at c way → way ≡ route_way at c
  unfolding route_way
  route_only at c way (above_4095 h e) = rw (lt-ltb 4095 (outgoing card memory at) h) e
  route_only at c way (goes h e) = rw (le-ltb 4095 (outgoing card memory at) h) e

  circuit_way : ℕ → Way
  circuit_way at = cond (leb (at + 8) (length memory)) (cond (eqb (byte memory at) 2) (route_way at (two memory (at + 4))) misrouted) misrouted

  circuit_only : (at : ℕ) (way : Way) → AtCircuit card memory at way → way ≡ circuit_way at
  unfolding circuit_way
  circuit_only at way (AtCircuit.outside n e) = rw (lt-leb (at + 8) (length memory) (omega arith)) e
  circuit_only at way (AtCircuit.no_route h n e) = rw (le-leb (at + 8) (length memory) h, ne_eqb (byte memory at) 2 n) e
  circuit_only at way (AtCircuit.route k r) = rw (le-leb (at + 8) (length memory) k.0, eq-eqb (byte memory at) 2 k.1) (route_only at (two memory (at + 4)) way r)

  kind_way : ℕ → ℕ → ℕ → Way
  kind_way at c zero = misrouted
  kind_way at c (suc zero) = ignored
  kind_way at c (suc (suc zero)) = route_way at c
  kind_way at c (suc (suc (suc zero))) = cond (ltb (two memory (at + 1)) c) misrouted (circuit_way (four memory (at + 4) + 8 * c))
  kind_way at c (suc (suc (suc (suc k)))) = misrouted

  path_way : ℕ → ℕ → Way
  path_way at c = cond (leb (at + 8) (length memory)) (kind_way at c (byte memory at)) misrouted

  unknown_kind : (at c k : ℕ) → 3 < k → kind_way at c k ≡ misrouted
  unfolding kind_way
  unknown_kind at c zero h = absurd (omega arith)
  unknown_kind at c (suc zero) h = absurd (omega arith)
  unknown_kind at c (suc (suc zero)) h = absurd (omega arith)
  unknown_kind at c (suc (suc (suc zero))) h = absurd (omega arith)
  unknown_kind at c (suc (suc (suc (suc k)))) h = refl

  of_kind : (at c k : ℕ) → KindAt memory at k → path_way at c ≡ kind_way at c k
  unfolding path_way
  of_kind at c k h = rw (le-leb (at + 8) (length memory) h.0) (ap (kind_way at c) h.1)

  path_only : (at c : ℕ) (way : Way) → AtPath card memory at c way → way ≡ path_way at c
  unfolding path_way kind_way
  path_only at c way (AtPath.outside n e) = rw (lt-leb (at + 8) (length memory) (omega arith)) e
  path_only at c way (AtPath.empty k e) = e ∙ sym (of_kind at c 0 k)
  path_only at c way (AtPath.drop k e) = e ∙ sym (of_kind at c 1 k)
  path_only at c way (AtPath.route k r) = route_only at c way r ∙ sym (of_kind at c 2 k)
  path_only at c way (AtPath.page k h r) =
      circuit_only (four memory (at + 4) + 8 * c) way r ∙ sym (of_kind at c 3 k ∙ rw (le-ltb (two memory (at + 1)) c h))
  path_only at c way (AtPath.page_above k h e) = e ∙ sym (of_kind at c 3 k ∙ rw (lt-ltb (two memory (at + 1)) c h))
  path_only at c way (AtPath.unknown h k e) = e ∙ sym (of_kind at c (byte memory at) (h, refl) ∙ unknown_kind at c (byte memory at) k)

  looked_way : U.Unit → ℕ → Way
  looked_way u w =
      let v = vpi u.settings.link w in
      cond (eqb v 0 && eqb (vci w) 0) ignored (cond (ltb u.settings.top v) misrouted (path_way (u.place + 8 * v) (vci w)))

  looked_only : (u : U.Unit) (w : ℕ) (way : Way) → LookedUp card memory u w way → way ≡ looked_way u w
  unfolding looked_way
  looked_only u w way (zeros a b e) = e ∙ sym (λ i. cond (eq-eqb (vpi u.settings.link w) 0 a i && eq-eqb (vci w) 0 b i) ignored (rest u w))
    where
      rest : U.Unit → ℕ → Way
      rest u w = cond (ltb u.settings.top (vpi u.settings.link w)) misrouted (path_way (u.place + 8 * vpi u.settings.link w) (vci w))
  looked_only u w way (above n h e) =
      let v = vpi u.settings.link w in
      rw (both_not (eqb v 0) (eqb (vci w) 0) (λ a b. n (eqb-true v 0 a) (eqb-true (vci w) 0 b)), lt-ltb u.settings.top v h) e
  looked_only u w way (below n h p) =
      let v = vpi u.settings.link w in
      rw (both_not (eqb v 0) (eqb (vci w) 0) (λ a b. n (eqb-true v 0 a) (eqb-true (vci w) 0 b)), le-ltb u.settings.top v h) (path_only (u.place + 8 * v) (vci w) way p)

  meets_way : U.Unit → List ℕ → Way
  meets_way u cell = cond (eqb (header·.check (four cell 0)) (byte cell 4)) (looked_way u (four cell 0)) hec

  meets_only : (u : U.Unit) (cell : List ℕ) (way : Way) → Meets card memory u cell way → way ≡ meets_way u cell
  unfolding meets_way
  meets_only u cell way (wrong_check n e) = rw (ne_eqb (header·.check (four cell 0)) (byte cell 4) (λ q. n ((check_iff (four cell 0) (byte cell 4)).0 q))) e
  meets_only u cell way (right_check k l) = rw (eq-eqb (header·.check (four cell 0)) (byte cell 4) ((check_iff (four cell 0) (byte cell 4)).1 k)) (looked_only u (four cell 0) way l)

  pub one_way : (u : U.Unit) (cell : List ℕ) (a b : Way) → Meets card memory u cell a → Meets card memory u cell b → a ≡ b
  one_way u cell a b p q = meets_only u cell a p ∙ sym (meets_only u cell b q)

-- E. a sound header is never `hec`
module _ (card : Card) (memory : List ℕ) where
  is_hec : Way → Bool
  is_hec hec = true
  is_hec ignored = false
  is_hec misrouted = false
  is_hec (routed r v c) = false

  route_no : (at c : ℕ) (way : Way) → ByRoute card memory at c way → is_hec way ≡ false
  unfolding is_hec
  route_no at c way (above_4095 h e) = ap is_hec e
  route_no at c way (goes h e) = ap is_hec e

  circuit_no : (at : ℕ) (way : Way) → AtCircuit card memory at way → is_hec way ≡ false
  unfolding is_hec
  circuit_no at way (AtCircuit.outside n e) = ap is_hec e
  circuit_no at way (AtCircuit.no_route h n e) = ap is_hec e
  circuit_no at way (AtCircuit.route k r) = route_no at (two memory (at + 4)) way r

  path_no : (at c : ℕ) (way : Way) → AtPath card memory at c way → is_hec way ≡ false
  unfolding is_hec
  path_no at c way (AtPath.outside n e) = ap is_hec e
  path_no at c way (AtPath.empty k e) = ap is_hec e
  path_no at c way (AtPath.drop k e) = ap is_hec e
  path_no at c way (AtPath.route k r) = route_no at c way r
  path_no at c way (AtPath.page k h r) = circuit_no (four memory (at + 4) + 8 * c) way r
  path_no at c way (AtPath.page_above k h e) = ap is_hec e
  path_no at c way (AtPath.unknown h k e) = ap is_hec e

  looked_no : (u : U.Unit) (w : ℕ) (way : Way) → LookedUp card memory u w way → is_hec way ≡ false
  unfolding is_hec
  looked_no u w way (zeros a b e) = ap is_hec e
  looked_no u w way (above n h e) = ap is_hec e
  looked_no u w way (below n h p) = path_no (u.place + 8 * vpi u.settings.link w) (vci w) way p

  pub never_hec : (u : U.Unit) (w : ℕ) (way : Way) → LookedUp card memory u w way → way ≡ hec → ⊥
  unfolding is_hec
  never_hec u w way l e = false≢true (sym (looked_no u w way l) ∙ ap is_hec e)
