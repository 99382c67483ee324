-- What is one unit's is no other's, and no cell goes out twice. Assumes nothing.
use Rattle.std.specs.Prelude.{None, Option, Some}
use Prim.Native.Nat.{ℕ, ◌+◌, ◌≤◌}
use native.Mathlib.Omega.{arith}
use mathlib.Core.Path.{◌≡◌, refl, ap, subst, ◌∙◌}
use mathlib.Core.Bool.{Bool, true, false, cond, ◌&&◌}
use mathlib.Core.List.{List, [], ◌∷◌, ◌++◌}
use lib.Dec.{eqb, leb}
use lib.ListN.{length}
use borrow.Author.Tests.{eqb-true}
use Rattle.bus.specs.Heard as frames
use Rattle.outlet.specs.Hearing.{queue_of}
use Rattle.line.specs.declared.Line.{Line}
use Rattle.answer.specs.declared.Hearing as A
use Rattle.answer.specs.declared.Hearing.TheVariants as hearing
use Rattle.answer.specs.Answers.{queued_one}
use Rattle.paper.specs.Counters.{place_of, occurs}
use Rattle.document.specs.Counters.{times}
use Rattle.document.specs.Events.{Event, arrive, frame, hear, take_cell, count, hand, collect, named}
use Rattle.document.specs.Shelf.{Cell, Routed, Unit, Shelf, number_of, find_in, unit_at, opened}
use Rattle.document.specs.Arrival.{Way, goes, lost, way_of}
use Rattle.document.specs.Hearing.{addressed, fate_in, hearing_of}
use Rattle.document.specs.Frame.{moved_unit}
use Rattle.document.specs.Steps.{happens_to}
use Rattle.document.proofs.Fixed.{given_kept}
use Rattle.flow.specs.Parts.{From, from_inlet, from_control, from_loopback, cell_of, without, Part, rests, arrives, hears, takes, hands, collects, sends, moves, only_at, part_of, among, room_for, routed_in, routed_by, routed_at, brought_by, brought_in, copy_in, copy_for, queued_by, queued_in, meant_by, meant_for, counts_by}
use Rattle.flow.specs.Order.{over, taken_all, sent_all, control_sent, moved_all, collected_all}
use Rattle.flow.specs.Apart.{Isolation, OnceOnly}
use Rattle.flow.proofs.Times.{found}
use Rattle.flow.proofs.Turns.{does, unit_by, same_address, number_without}
use Rattle.flow.proofs.Kept.{number_at, in_order}

-- a unit that is not named rests
not_named : (d : Shelf) (unit i : ℕ) → (number_of (unit_at d i) ≡ unit → ⊥) → (f : Option ℕ) → find_in d.units unit ≡ f → (right : Bool) (p : Part) → only_at f right i p ≡ rests
unfolding only_at
not_named d unit i other (Some place) t right p = go right (eqb i place) refl
  where
    go : (a b : Bool) → eqb i place ≡ b → cond (a && b) p rests ≡ rests
    go true true x = absurd (other (ap (λ j. number_of (unit_at d j)) (eqb-true i place x) ∙ (found d.units unit place t).1))
    go true false x = refl
    go false b x = refl
not_named d unit i other None t right p = refl

-- whatever the event
rests_there : (d : Shelf) (e : Event) (unit i : ℕ) → named e ≡ Some unit → (number_of (unit_at d i) ≡ unit → ⊥) → part_of d e i ≡ rests
unfolding named part_of
rests_there d (arrive u c) unit i n other = let z : u ≡ unit = cc in not_named d u i (λ x. other (x ∙ z)) (find_in d.units u) refl (eqb (length c) 53) (arrives c)
rests_there d (frame buffer) unit i n other = let z : ◌≡◌ {A = ℕ} 0 1 = cc in absurd (omega arith)
rests_there d (hear u f) unit i n other = let z : u ≡ unit = cc in not_named d u i (λ x. other (x ∙ z)) (find_in d.units u) refl (eqb (length f) 57) _
rests_there d (take_cell u buffer) unit i n other = let z : u ≡ unit = cc in not_named d u i (λ x. other (x ∙ z)) (find_in d.units u) refl (eqb (length buffer) 53) takes
rests_there d (count u) unit i n other = refl
rests_there d (hand u c) unit i n other = let z : u ≡ unit = cc in not_named d u i (λ x. other (x ∙ z)) (find_in d.units u) refl (eqb (length c) 56) (hands c)
rests_there d (collect u buffer) unit i n other = let z : u ≡ unit = cc in not_named d u i (λ x. other (x ∙ z)) (find_in d.units u) refl (eqb (length buffer) 56) collects

-- so nothing of it changes
pub isolation : Isolation
unfolding unit_by counts_by occurs
isolation d once e unit i n within other =
    let d' = (happens_to d e).shelf in
    let w = does d e i within in
    let r = rests_there d e unit i n other in
    record {
      unit = w.unit ∙ ap (unit_by d.lines (unit_at d i)) r;
      counters = λ c.
          let a = ap (λ m. times d'.history m c) (number_at d d' (given_kept d e) i) in
          let b = w.counted once c in
          let x = ap (λ p. occurs (counts_by d.lines d.units (unit_at d i) p) (place_of c)) r in
          omega (arith, a, b, x);
    }

-- of two lists, one behind the other, as many meet a test as of both
module _ {A : Type 0} (test : A → Bool) where
  abbrev meet : List A → ℕ
  meet xs = length (among test xs)

  meet_append : (xs ys : List A) → meet (xs ++ ys) ≡ meet xs + meet ys
  unfolding among
  meet_append [] ys = omega arith
  meet_append (x ∷ xs) ys = go (test x) (meet_append xs ys)
    where
      go : (b : Bool) → meet (xs ++ ys) ≡ meet xs + meet ys → length (cond b (x ∷ among test (xs ++ ys)) (among test (xs ++ ys))) ≡ length (cond b (x ∷ among test xs) (among test xs)) + meet ys
      go true e = omega arith
      go false e = e

  -- what left first is no more than what came
  no_more : (xs ys zs : List A) → xs ≡ ys ++ zs → meet ys ≤ meet xs
  no_more xs ys zs e = let a = ap meet e ∙ meet_append ys zs in omega arith

  -- no more in each event, so no more in all
  over_no_more : (f g : Shelf → Event → List A) → ((d : Shelf) (e : Event) → meet (f d e) ≤ meet (g d e)) → (d : Shelf) (es : List Event) → meet (over f d es) ≤ meet (over g d es)
  unfolding over
  over_no_more f g one d [] = omega arith
  over_no_more f g one d (e ∷ es) =
      let d' = (happens_to d e).shelf in
      omega (arith, one d e, over_no_more f g one d' es, meet_append (f d e) (over f d' es), meet_append (g d e) (over g d' es))

-- an inlet takes no more than is routed
room_routed : (test : Routed → Bool) (w : Way) (u : Unit) → meet test (room_for w u) ≤ meet test (routed_in w)
unfolding room_for routed_in among
room_routed test (lost fate) u = omega arith
room_routed test (goes r) u = go (leb 4 (length u.inlet))
  where
    go : (b : Bool) → meet test (cond b [] (r ∷ [])) ≤ meet test (r ∷ [])
    go true = omega arith
    go false = omega arith

-- whatever the part
brought_routed : (test : Routed → Bool) (lines : List Line) (u : Unit) (p : Part) → meet test (brought_by lines u p) ≤ meet test (routed_by lines u p)
unfolding brought_by routed_by
brought_routed test lines u rests = omega arith
brought_routed test lines u (arrives c) = room_routed test (way_of lines u.settings c) u
brought_routed test lines u (hears x) = omega arith
brought_routed test lines u takes = omega arith
brought_routed test lines u (hands c) = omega arith
brought_routed test lines u collects = omega arith
brought_routed test lines u (sends f) = omega arith
brought_routed test lines u (moves p) = brought_routed test lines (moved_unit u) p

-- a queue takes no more than is meant for it
copy_meant : (test : Cell → Bool) (lines : List Line) (u : Unit) (h : frames.Heard) (bytes : List ℕ) (q : ℕ) → meet test (copy_in lines u h bytes q) ≤ meet test (copy_for lines u h bytes q)
unfolding copy_in copy_for hearing_of queued_one among
copy_meant test lines u frames.Length bytes q = omega arith
copy_meant test lines u frames.Damaged bytes q = omega arith
copy_meant test lines u (frames.Control unit) bytes q = omega arith
copy_meant test lines u (frames.Loopback unit) bytes q = omega arith
copy_meant test lines u (frames.Cell target class header) bytes q = go (addressed lines u target) (fate_in u (queue_of u.limits class) header) (eqb q (queue_of u.limits class)) _
  where
    either : (a b : Bool) (cells : List Cell) → meet test (cond (a && b) cells []) ≤ meet test (cond b cells [])
    either true b cells = omega arith
    either false b cells = omega arith

    go : (a : Bool) (fate : A.Hearing) (b : Bool) (cells : List Cell) → meet test (cond (eqb (queued_one (cond a fate hearing.Other)) 1 && b) cells []) ≤ meet test (cond (a && b) cells [])
    go true fate b cells = either (eqb (queued_one fate) 1) b cells
    go false fate b cells = omega arith

-- what is meant for it goes by its number and its limits
same_meant : (lines : List Line) (u v : Unit) (h : frames.Heard) (bytes : List ℕ) (q : ℕ) → number_of u ≡ number_of v → u.limits ≡ v.limits → copy_for lines u h bytes q ≡ copy_for lines v h bytes q
unfolding copy_for
same_meant lines u v frames.Length bytes q n l = refl
same_meant lines u v frames.Damaged bytes q n l = refl
same_meant lines u v (frames.Cell target class header) bytes q n l =
    λ t. cond (same_address lines u v target n t && eqb q (queue_of (l t) class)) (record { header = header; payload = bytes } ∷ []) []
same_meant lines u v (frames.Control unit) bytes q n l = refl
same_meant lines u v (frames.Loopback unit) bytes q n l = refl

limits_without : (f : From) (u : Unit) → (without f u).limits ≡ u.limits
unfolding without
limits_without (from_inlet r rest) u = refl
limits_without (from_control c rest) u = refl
limits_without (from_loopback c rest) u = refl

-- whatever the part
queued_meant : (test : Cell → Bool) (lines : List Line) (u : Unit) (p : Part) (q : ℕ) → meet test (queued_by lines u p q) ≤ meet test (meant_by lines u p q)
unfolding queued_by meant_by
queued_meant test lines u rests q = omega arith
queued_meant test lines u (arrives c) q = omega arith
queued_meant test lines u (hears x) q = copy_meant test lines u x.heard x.payload q
queued_meant test lines u takes q = omega arith
queued_meant test lines u (hands c) q = omega arith
queued_meant test lines u collects q = omega arith
queued_meant test lines u (sends f) q =
    subst (λ cells. meet test (copy_in lines (without f u) (cell_of f).heard (cell_of f).payload q) ≤ meet test cells)
    (same_meant lines (without f u) u (cell_of f).heard (cell_of f).payload q (number_without f u) (limits_without f u))
    (copy_meant test lines (without f u) (cell_of f).heard (cell_of f).payload q)
queued_meant test lines u (moves p) q = queued_meant test lines (moved_unit u) p q

-- so over every sequence of events
pub once_only : OnceOnly
once_only lines es i within =
    let w = in_order lines es i within in
    let d = opened lines in
    record {
      cells = λ test.
          omega (arith, no_more test _ (sent_all d es i) _ w.inlet, over_no_more test (λ x e. brought_in x e i) (λ x e. routed_at x e i) (λ x e. brought_routed test x.lines (unit_at x i) (part_of x e i)) d es);
      copies = λ q test.
          omega (arith, no_more test _ (taken_all d es i q) _ (w.queues q), over_no_more test (λ x e. queued_in x e i q) (λ x e. meant_for x e i q) (λ x e. queued_meant test x.lines (unit_at x i) (part_of x e i) q) d es);
      controls = λ test. no_more test _ (control_sent d es i) _ w.controlin;
      collected = λ test. no_more test _ (collected_all d es i) _ w.controlout;
      turned = λ test. no_more test _ (moved_all d es i) _ w.loopbackout;
    }
