-- After a refused load: a bus without units, which is the document's without a line. Assumes nothing.
use Rattle.std.specs.Prelude.{None, Option, Some}
use Prim.Native.Nat.{ℕ}
use native.Mathlib.Omega.{arith}
use mathlib.Core.Path.{◌≡◌, refl, sym, ap, subst, ◌∙◌}
use mathlib.Core.Bool.{Bool, true, false, cond, false≢true}
use mathlib.Core.List.{List, [], ◌∷◌}
use lib.Dec.{eqb}
use lib.ListN.{length, take}
use Rattle.card.specs.declared.Card.{Card}
use Rattle.lookup.specs.Record.{cleared}
use Rattle.shelf.specs.Shelves.{declared, find_in, place_from, fresh, is_at}
use Rattle.shelf.specs.Shelf.{Shelf}
use Rattle.soundness.specs.State.{sound_of}
use Rattle.answer.specs.Counting.{settled, settled_to}
use Rattle.answer.specs.declared.Counters as C
use Rattle.answer.specs.Answers.{refused}
use Rattle.framing.specs.Moves as framing·
use Rattle.framing.specs.Frames as framing
use Rattle.promise.proofs.Loads.{load_sound}
use Rattle.document.specs.Events.{Event, arrive, frame, hear, take_cell, count, hand, collect}
use Rattle.document.specs.Shelf as D
use Rattle.running.specs.Events.{World, happens}
use Rattle.running.specs.Keeping.{sound_in, run}
use Rattle.running.specs.Refusing.{known, fits, taken}
use Rattle.running.proofs.Refused.{refusal_changes_nothing}
use Rattle.running.specs.Tables.{Zeroed}
use Rattle.running.proofs.Tables.{zeroed, refused_leaves}
use Rattle.running.proofs.InPlace.{runs_in_place}
use Rattle.refining.specs.Refines.{RefinesRefused}
use Rattle.refining.proofs.Alike.{WorldAlike}
use Rattle.refining.proofs.Refined.{given, gives_alike, loaded_gives}

-- nobody is found
not_there : (shelf : Shelf) → shelf.count ≡ 0 → (unit : ℕ) → find_in (declared shelf) unit ≡ None
unfolding find_in place_from
not_there shelf none unit = ap (λ n. find_in (take n shelf.units) unit) none

-- what an event leaves: no unit still, and all the rest as it was
record Same (w v : World) : Type 0 where
  none : v.shelf.count ≡ 0
  memory : v.memory ≡ w.memory
  store : v.store ≡ w.store
  rows : v.rows ≡ w.rows

unknown : (s k f t : Bool) → k ≡ false → ◌≡◌ {A = ℕ} (cond s (cond k (cond f (cond t 11 0) 10) 9) 8) 0 → ⊥
unknown true true f t e z = false≢true (sym e)
unknown true false f t e z = omega arith
unknown false k f t e z = omega arith

-- nothing moves either
none_declared : (shelf : Shelf) → shelf.count ≡ 0 → declared shelf ≡ []
none_declared shelf none = ap (λ n. take n shelf.units) none

stays_put : (shelf : Shelf) → shelf.count ≡ 0 → framing·.moved shelf ≡ shelf
unfolding framing·.moved_from
stays_put shelf none = ap (λ us. framing·.moved_from 0 us shelf) (none_declared shelf none)

stays_stored : (shelf : Shelf) (store : List ℕ) → shelf.count ≡ 0 → framing·.moved_stores shelf store ≡ store
unfolding framing·.store_from
stays_stored shelf store none = ap (λ us. framing·.store_from 0 us store) (none_declared shelf none)

module _ (card : Card) (w : World) (none : w.shelf.count ≡ 0) where
  -- an event at a unit is refused
  at_nobody : (e : Event) (unit : ℕ) → known w.shelf e ≡ is_at (find_in (declared w.shelf) unit) → Same w (happens card w e).world
  at_nobody e unit k =
      subst (Same w) (sym (ap (λ o. o.world) (refusal_changes_nothing card w e (unknown (sound_in card w) (known w.shelf e) (fits e) (taken w.shelf e) (k ∙ ap is_at (not_there w.shelf none unit))))))
      (record { none = none; memory = refl; store = refl; rows = refl })

  -- a frame is idle
  framed : (s r : Bool) (m : Shelf) (then each : List ℕ) → m.count ≡ 0 → then ≡ w.store → (sender : Option ℕ) → sender ≡ None →
      let done = cond s (cond r (framing.ended m (framing.granted m) (framing.listened_by sender m then each)) (refused w.shelf 10)) (refused w.shelf 8) in
      Same w (record { shelf = done.reply.shelf; memory = w.memory; store = cond s (cond r (framing.store_by sender m then) w.store) w.store; rows = settled w.rows done.rises })
  unfolding framing.listened_by framing.store_by settled_to
  framed true true m then each nobody kept None e = record { none = nobody; memory = refl; store = kept; rows = ap (settled_to w.rows _) nobody }
  framed true true m then each nobody kept (Some place) e = let z : ◌≡◌ {A = ℕ} 0 1 = cc in absurd (omega arith)
  framed true false m then each nobody kept sender e = record { none = none; memory = refl; store = refl; rows = refl }
  framed false r m then each nobody kept sender e = record { none = none; memory = refl; store = refl; rows = refl }

  stays : (e : Event) → Same w (happens card w e).world
  unfolding happens known framing.checked
  stays (arrive unit cell) = at_nobody (arrive unit cell) unit refl
  stays (frame buffer) =
      let m = framing·.moved w.shelf in
      let nobody = ap (λ x. x.count) (stays_put w.shelf none) ∙ none in
      framed (sound_in card w) (eqb (length buffer) 57) m (framing·.moved_stores w.shelf w.store) (framing·.moved_each w.shelf) nobody (stays_stored w.shelf w.store none) (framing.sender m)
      (not_there m nobody m.granted)
  stays (hear unit heard) = at_nobody (hear unit heard) unit refl
  stays (take_cell unit buffer) = at_nobody (take_cell unit buffer) unit refl
  stays (count unit) = at_nobody (count unit) unit refl
  stays (hand unit cell) = at_nobody (hand unit cell) unit refl
  stays (collect unit buffer) = at_nobody (collect unit buffer) unit refl

-- so it is over every sequence of events
stays_all : (card : Card) (w : World) → w.shelf.count ≡ 0 → (es : List Event) → Same w (run card w es)
unfolding run
stays_all card w none [] = record { none = none; memory = refl; store = refl; rows = refl }
stays_all card w none (e ∷ es) =
    let s = stays card w none e in
    let r = stays_all card (happens card w e).world s.none es in
    record { none = r.none; memory = r.memory ∙ s.memory; store = r.store ∙ s.store; rows = r.rows ∙ s.rows }

-- the bare bus is the document's shelf without a line
bare : List ℕ → List ℕ → List C.Counters → World
bare memory store rows = record { shelf = fresh 16; memory = cleared memory; store = store; rows = rows }

bare_alike : (card : Card) (memory store : List ℕ) (rows : List C.Counters) → sound_of card (fresh 16) (length store) (length rows) ≡ true → WorldAlike card (bare memory store rows) (D.opened [])
unfolding bare D.units_of D.bus_of
bare_alike card memory store rows sound =
    record {
      sound = sound;
      shelf =
          record {
            many = refl;
            counted = refl;
            units = λ i h. absurd (omega arith);
            known = λ i h. absurd (omega arith);
            ranged = tt;
            bus = refl;
            arbiter = refl;
            granted = refl;
            frame = refl;
          };
      rows = λ i h. absurd (omega arith);
    }

pub refines_refused : RefinesRefused
unfolding bare
refines_refused card text memory store rows number line r es =
    let k = refused_leaves card text memory store rows number line r in
    let sound = ap (λ w. sound_of card w.shelf (length store) (length rows)) (sym k) ∙ load_sound card text memory (length store) (length rows) in
    let s = stays_all card (bare memory store rows) refl es in
    let ran = (runs_in_place card text memory store rows es).same ∙ ap (λ w. run card w es) k in
    record {
      events = loaded_gives card text memory store rows es ∙ ap (λ w. given card w es) k ∙ gives_alike card (bare memory store rows) (D.opened []) (bare_alike card memory store rows sound) es;
      zeroed = subst (Zeroed memory) (sym (ap (λ w. w.memory) ran ∙ s.memory)) (zeroed memory);
      store_kept = ap (λ w. w.store) ran ∙ s.store;
      rows_kept = ap (λ w. w.rows) ran ∙ s.rows;
    }
