-- Hand, and collect. Assumes nothing.
use Prim.Native.Nat.{ℕ, ◌+◌, ◌<◌}
use native.Mathlib.Omega.{arith}
use mathlib.Core.Path.{◌≡◌, refl, sym, ap, subst, ◌∙◌}
use mathlib.Core.Bool.{Bool, true, false, cond}
use mathlib.Core.List.{List, [], ◌∷◌, ◌++◌}
use lib.Dec.{eqb}
use lib.ListN.{length, take, drop}
use borrow.Author.Tests.{eq-eqb, ne_eqb, lt-leb}
use Rattle.octets.specs.Octets as octets
use Rattle.card.specs.declared.Card.{Card}
use Rattle.store.specs.Places as places
use Rattle.shelf.specs.declared.Unit as U
use Rattle.answer.specs.Answers.{#taken, none, row, ends, refused}
use Rattle.answer.specs.declared.Answer.TheVariants.{Handed, Taken, Empty}
use Rattle.answer.specs.Counting.{settled_to}
use Rattle.soundness.specs.Admission as admit
use Rattle.handing.specs.Hands as handing
use Rattle.handing.specs.Collects as collecting
use Rattle.document.specs.Events.{hand, collect}
use Rattle.running.specs.Events.{World, Outcome, happens, ended}
use Rattle.paper.specs.Outlets.{slot_at}
use Rattle.paper.specs.Counters.{taken}
use Rattle.paper.specs.State.{unit_at, DeclaredAt}
use Rattle.paper.proofs.Outlets.{slot_is, cell_is, shorter_is}
use Rattle.paper.proofs.Counters.{agree_taken, risen_at}
use Rattle.sentences.specs.Changes.{with_unit, with_side, with_cell, Runs, OnShelves}
use Rattle.sentences.specs.Hand.{Hands, HandRule}
use Rattle.sentences.specs.Collect.{Collects, CollectsNone, CollectedAt, CollectRule}
use Rattle.sentences.proofs.Found.{many_units, unit_at_lem}
use Rattle.sentences.proofs.Arrives.{let_in}

-- what a hand-in comes to, where it is let in, and what a collect does: at this unit, and where a place is taken or empty
handed : (w : World) (place : ℕ) (cell : List ℕ) (u : U.Unit) → Bool → Outcome
handed w place cell u b =
    ended w (cond b (refused w.shelf 11) (ends Handed (with_unit w.shelf place (handing.handed_to u)) none)) (cond b w.store (places.put_at w.store place places.control_in_slot cell)) cell

collected : (w : World) (place : ℕ) (buffer : List ℕ) (u : U.Unit) → Bool → Outcome
collected w place buffer u b =
    ended w (cond b (ends Empty w.shelf none) (ends Taken (with_unit w.shelf place (collecting.collected_from u)) (row place #taken))) w.store
    (cond b buffer (places.cell_at w.store place (places.control_out_slot u.side.controlout.head)))

module _ (card : Card) (w : World) (runs : Runs card w) (unit place : ℕ) (d : DeclaredAt w.shelf unit place) where
  abbrev u : U.Unit
  u = unit_at w.shelf place

  below : place < w.shelf.count
  below = subst (λ n. place < n) (many_units w.shelf runs.whole runs.sound.count) d.inside

  same : u ≡ admit.unit_at w.shelf place
  same = unit_at_lem w.shelf place below

  -- a hand-in where the place is free
  module _ (free : u.side.controlin ≡ 0) (cell : List ℕ) (whole : length cell ≡ 56) where
    hand_comes : happens card w (hand unit cell) ≡ handed w place cell u false
    unfolding happens admit.decided handed
    hand_comes =
        rw (let_in card w.shelf (length w.store) (length w.rows) runs.sound unit place d (eqb (length cell) 56) (eq-eqb (length cell) 56 whole))
        (ap (λ x. handed w place cell x (handing.busy x)) (sym same) ∙ ap (handed w place cell u) (lt-leb 1 u.side.controlin (omega arith)))

    put : places.put_at w.store place places.control_in_slot cell ≡ with_cell w.store (slot_at place 127) cell
    unfolding places.put_at
    put =
        ap (λ k. octets.splice w.store k cell) (slot_is place 127)
        ∙ ap (λ n. take (slot_at place 127) w.store ++ cell ++ drop (slot_at place 127 + n) w.store) whole

    hands : Hands w place cell (handed w place cell u false)
    unfolding handed settled_to
    hands = record { said = refl; shelf = refl; store = put; memory = refl; rows = refl; bytes = refl }

    pub handed_in : Hands w place cell (happens card w (hand unit cell))
    handed_in = subst (Hands w place cell) (sym hand_comes) hands

  -- a collect
  module _ (buffer : List ℕ) (whole : length buffer ≡ 56) where
    collect_comes : (b : Bool) → collecting.bare u ≡ b → happens card w (collect unit buffer) ≡ collected w place buffer u b
    unfolding happens admit.decided collected
    collect_comes b e =
        rw (let_in card w.shelf (length w.store) (length w.rows) runs.sound unit place d (eqb (length buffer) 56) (eq-eqb (length buffer) 56 whole))
        (ap (λ x. collected w place buffer x (collecting.bare x)) (sym same) ∙ ap (collected w place buffer u) e)

    takes_one : Collects w place (collected w place buffer u false)
    unfolding collected
    takes_one =
        record {
          said = refl;
          shelf = ap (λ r. with_unit w.shelf place (with_side u u.side.controlin u.side.loopbackin r u.side.loopbackout)) (shorter_is u.side.controlout 4);
          memory = refl;
          store = refl;
          rows = risen_at w.rows place #taken (taken ∷ []) (omega (arith, below, runs.sound.records)) (omega (arith, below, runs.sound.count)) agree_taken;
          bytes = cell_is w.store place (129 + u.side.controlout.head);
        }

    takes_none : CollectsNone w buffer (collected w place buffer u true)
    unfolding collected settled_to
    takes_none = record { said = refl; world = refl; bytes = refl }

    pub collected_at : CollectedAt w place buffer (happens card w (collect unit buffer))
    collected_at =
        record {
          some = λ h. subst (Collects w place) (sym (collect_comes false (ne_eqb u.side.controlout.count 0 (λ e. omega arith)))) takes_one;
          none = λ h. subst (CollectsNone w buffer) (sym (collect_comes true (eq-eqb u.side.controlout.count 0 h))) takes_none;
        }

pub hand_rule : OnShelves HandRule
hand_rule card w runs unit place d free cell whole = handed_in card w runs unit place d free cell whole

pub collect_rule : OnShelves CollectRule
collect_rule card w runs unit place d buffer whole = collected_at card w runs unit place d buffer whole
