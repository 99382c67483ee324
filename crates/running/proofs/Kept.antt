-- Soundness is kept by every event. Assumes nothing.
use Rattle.std.specs.Prelude.{Err, Ok, Result}
use Prim.Native.Nat.{ℕ, ◌<◌}
use native.Mathlib.Omega.{arith}
use mathlib.Core.Path.{◌≡◌, refl, sym, ap, ◌∙◌}
use mathlib.Core.Bool.{Bool, true, false, cond, false≢true}
use mathlib.Core.List.{List, [], ◌∷◌}
use lib.Dec.{eqb}
use lib.ListN.{length, length-take, take}
use borrow.Author.Tests.{eqb-true}
use Rattle.card.specs.declared.Card.{Card}
use Rattle.bus.specs.Frame.{heard}
use Rattle.shelf.specs.Shelves.{declared}
use Rattle.shelf.proofs.Finding.{find_at}
use Rattle.soundness.specs.State.{Sound, sound_of}
use Rattle.soundness.proofs.Facts.{sound_iff}
use Rattle.answer.specs.Counting.{settled, settled_to}
use Rattle.answer.specs.declared.Counters as C
use Rattle.answer.proofs.Settling.{length_settled}
use Rattle.answer.specs.Answers.{refused}
use Rattle.answer.specs.Done.{Done}
use Rattle.soundness.specs.Admission.{admitted, decided, unit_at, Housed}
use Rattle.soundness.proofs.Laws.{at_let_in, let_in_housed}
use Rattle.arriving.specs.Arriving as arriving
use Rattle.hearing.specs.Hearings as hearing
use Rattle.taking.specs.Takes as taking
use Rattle.handing.specs.Hands as hands
use Rattle.handing.specs.Collects as collects
use Rattle.framing.specs.Frames as framing
use Rattle.table.specs.Loads.{load_done}
use Rattle.promise.proofs.Loads.{load_sound}
use Rattle.document.specs.Events.{Event, arrive, frame, hear, take_cell, count, hand, collect, number_said}
use Rattle.running.specs.Events.{World, happens}
use Rattle.running.specs.Keeping.{sound_in, SoundnessKept, run, loaded, NeverState}
use Rattle.running.specs.Refusing.{known, fits, taken as busy}
use Rattle.running.proofs.Refused.{refused_iff}
use Rattle.running.proofs.Framed.{frame_shelf, frame_store}
use Rattle.running.proofs.Copies.{store_kept}
use Rattle.running.proofs.UnitKept.{arrived, heard_by_lem, taken, handed, handed_store, collected}
use Rattle.running.proofs.InPlace.{after_load}

-- an event at a unit: what it does to the shelf, and the store's length
module _ (card : Card) (w : World) (inside : ℕ → Done) (store : ℕ → List ℕ) (unit : ℕ) (right : Bool) where
  abbrev s : ℕ
  s = length w.store

  abbrev n : ℕ
  n = length w.rows

  abbrev d : Result ℕ ℕ
  d = admitted card w.shelf s n unit right

  -- the world afterwards, by the way in
  abbrev after : Result ℕ ℕ → Bool
  after a =
      let done = decided a inside (refused w.shelf) in
      sound_of card done.reply.shelf (length (decided a store (λ number. w.store))) (length (settled w.rows done.rises))

  at_unit : sound_in card w ≡ true →
      ((i : ℕ) → i < length (declared w.shelf) → Sound card w.shelf s n → Housed i (unit_at w.shelf i) s → right ≡ true →
      Sound card (inside i).reply.shelf s n × (length (store i) ≡ s)) →
      after d ≡ true
  unfolding decided settled_to
  at_unit sound kept = go d refl
    where
      go : (a : Result ℕ ℕ) → d ≡ a → after a ≡ true
      go (Err number) e = sound
      go (Ok i) e =
          let l = at_let_in card w.shelf s n unit right i e in
          let k = kept i ((find_at unit (declared w.shelf) i).0 l.found).inside ((sound_iff card w.shelf s n).0 sound) (let_in_housed card w.shelf s n unit right i l).0 l.fits in
          (λ t. sound_of card (inside i).reply.shelf (k.1 t) (length_settled w.rows (inside i).rises (inside i).rises.to t)) ∙ (sound_iff card (inside i).reply.shelf s n).1 k.0

either_way : (store : List ℕ) (a : Result ℕ ℕ) → decided a (λ place. store) (λ number. store) ≡ store
unfolding decided
either_way store (Ok place) = refl
either_way store (Err number) = refl

-- a frame: refused, or sent, heard and granted
framed : (card : Card) (w : World) (s r : Bool) (good : Done) (store : List ℕ) → s ≡ true → sound_in card w ≡ true →
    sound_of card good.reply.shelf (length store) (length (settled w.rows good.rises)) ≡ true →
    let done = cond s (cond r good (refused w.shelf 10)) (refused w.shelf 8) in
    sound_of card done.reply.shelf (length (cond s (cond r store w.store) w.store)) (length (settled w.rows done.rises)) ≡ true
unfolding settled_to
framed card w true true good store e sound k = k
framed card w true false good store e sound k = sound
framed card w false r good store e sound k = absurd (false≢true e)

pub soundness_kept : SoundnessKept
unfolding happens framing.checked
soundness_kept card w (arrive unit c) sound =
    at_unit card w (λ place. arriving.done_at card w.shelf place w.memory c) (λ place. arriving.store_at card w.shelf place w.memory w.store c) unit (eqb (length c) 53) sound
    (λ i here s housed fits. arrived card w.shelf w.store c (length w.rows) i here s housed (eqb-true (length c) 53 fits) (arriving.way_of card (unit_at w.shelf i) w.memory c))
soundness_kept card w (frame buffer) sound =
    let good = framing.done_at w.shelf w.store in
    framed card w (sound_in card w) (eqb (length buffer) 57) good (framing.store_at w.shelf w.store) sound sound
    ((λ t. sound_of card good.reply.shelf (frame_store card w.shelf w.store (length w.rows) sound t) (length_settled w.rows good.rises good.rises.to t))
    ∙ (sound_iff card good.reply.shelf (length w.store) (length w.rows)).1 (frame_shelf card w.shelf w.store (length w.rows) sound))
soundness_kept card w (hear unit f) sound =
    at_unit card w (λ place. hearing.done_at w.shelf place f) (λ place. hearing.store_at w.shelf place w.store f) unit (eqb (length f) 57) sound
    (λ i here s housed fits. (
      heard_by_lem card w.shelf (length w.store) (length w.rows) i here s housed (heard f),
      store_kept (unit_at w.shelf i) (heard f) i w.store (take 56 f) housed (let a = length-take 56 f in let b = eqb-true (length f) 57 fits in omega arith),
    ))
soundness_kept card w (take_cell unit b) sound =
    let done = taking.take_done card w.shelf (length w.store) (length w.rows) unit (length b) in
    let rows = settled w.rows done.rises in
    ap (λ x. sound_of card done.reply.shelf (length x) (length rows)) (sym (either_way w.store (admitted card w.shelf (length w.store) (length w.rows) unit (eqb (length b) 53))))
    ∙ at_unit card w (taking.done_at w.shelf) (λ place. w.store) unit (eqb (length b) 53) sound
    (λ i here s housed fits. (taken card w.shelf (length w.store) (length w.rows) i here s housed _ refl, refl))
soundness_kept card w (hand unit c) sound =
    at_unit card w (hands.hand_at w.shelf) (λ place. hands.hand_store_at w.shelf place w.store c) unit (eqb (length c) 56) sound
    (λ i here s housed fits. (
      handed card w.shelf (length w.store) (length w.rows) i here s housed,
      handed_store w.store w.shelf i c housed (eqb-true (length c) 56 fits),
    ))
soundness_kept card w (collect unit b) sound =
    let done = collects.collect_done card w.shelf (length w.store) (length w.rows) unit (length b) in
    let rows = settled w.rows done.rises in
    ap (λ x. sound_of card done.reply.shelf (length x) (length rows)) (sym (either_way w.store (admitted card w.shelf (length w.store) (length w.rows) unit (eqb (length b) 56))))
    ∙ at_unit card w (collects.collect_at w.shelf) (λ place. w.store) unit (eqb (length b) 56) sound
    (λ i here s housed fits. (collected card w.shelf (length w.store) (length w.rows) i here s housed, refl))
soundness_kept card w (count unit) sound = sound

runs_kept : (card : Card) (w : World) (es : List Event) → sound_in card w ≡ true → sound_in card (run card w es) ≡ true
unfolding run
runs_kept card w [] sound = sound
runs_kept card w (e ∷ es) sound = runs_kept card (happens card w e).world es (soundness_kept card w e sound)

-- a sound world is not refused as State
other : (s k f b : Bool) → s ≡ true → ◌≡◌ {A = ℕ} (cond s (cond k (cond f (cond b 11 0) 10) 9) 8) 8 → ⊥
other true true true true t q = omega arith
other true true true false t q = omega arith
other true true false b t q = omega arith
other true false f b t q = omega arith
other false k f b t q = false≢true t

not_state : (card : Card) (w : World) (e : Event) → sound_in card w ≡ true → number_said (happens card w e).said ≡ 8 → ⊥
not_state card w e sound eight = other (sound_in card w) (known w.shelf e) (fits e) (busy w.shelf e) sound (sym (refused_iff card w e) ∙ eight)

pub loads_sound : (card : Card) (text memory store : List ℕ) (rows : List C.Counters) → sound_in card (loaded card text memory store rows) ≡ true
loads_sound card text memory store rows =
    let done = load_done card text memory (length store) (length rows) in
    ap (sound_of card done.reply.shelf (length store)) (length_settled rows done.rises done.rises.to) ∙ load_sound card text memory (length store) (length rows)

pub never_state : NeverState
never_state card text memory store rows es e eight =
    not_state card (run card (loaded card text memory store rows) es) e (runs_kept card (loaded card text memory store rows) es (loads_sound card text memory store rows))
    (ap (λ o. number_said o.said) (sym (after_load card text memory store rows es e)) ∙ eight)
