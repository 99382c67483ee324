-- Two cards on equal bytes that say and give back the same leave equal bytes. Assumes nothing.
use Rattle.std.specs.Prelude.{None, Option, Some, Err, Ok, Result}
use Prim.Native.Nat.{ℕ, zero, suc, ◌+◌, ◌*◌, ◌%◌, ◌^◌, min}
use mathlib.Core.Path.{◌≡◌, refl, sym, ap, subst, ◌∙◌}
use mathlib.Core.Bool.{Bool, true, false, cond, ◌&&◌}
use mathlib.Core.List.{List, [], ◌∷◌}
use native.Mathlib.Omega.{arith}
use lib.Dec.{eqb}
use lib.ListN.{length, get_or, take, replicate}
use borrow.Author.Tests.{le-ltb}
use Rattle.octets.specs.Octets.{four}
use Rattle.card.specs.declared.Card.{Card}
use Rattle.bus.specs.Frame.{heard}
use Rattle.bus.specs.Heard as H
use Rattle.store.specs.Places.{Cell}
use Rattle.lookup.specs.Record.{usable, record_at}
use Rattle.line.specs.declared.Line.{Line}
use Rattle.meaning.specs.Told.{shelf_of}
use Rattle.meaning.specs.Lines.{done}
use Rattle.lookup.specs.Lookup.{sound_header, translated}
use Rattle.lookup.specs.declared.Looked as L
use Rattle.lookup.specs.declared.Looked.TheVariants as looked
use Rattle.shelf.specs.Shelves.{declared, blank, find_in}
use Rattle.shelf.specs.Shelf.{Shelf}
use Rattle.shelf.specs.declared.Unit as U
use Rattle.state.specs.Bytes.{shelf_in, unit_in, with_turn}
use Rattle.state.specs.Placing.{fresh_bytes}
use Rattle.state.proofs.Laws.{unit_at_lem}
use Rattle.soundness.specs.State.{sound_of}
use Rattle.soundness.specs.Soundings.{formed_all, sound_in}
use Rattle.answer.specs.declared.Counters as C
use Rattle.answer.specs.Answers.{refused_with, refused}
use Rattle.answer.specs.Done.{outcome_of}
use Rattle.answer.specs.declared.Answer as N
use Rattle.answer.specs.declared.Answer.TheVariants.{Arrived}
use Rattle.answer.specs.declared.Arrival as A
use Rattle.answer.specs.declared.Arrival.TheVariants.{Hec, Inletfull, Queued}
use Rattle.soundness.specs.Admission.{at_unit, admitted, admitted_in, decided, unit_at}
use Rattle.soundness.proofs.InPlace.{in_place}
use Rattle.arriving.specs.Arriving as arriving
use Rattle.arriving.specs.InPlace as arriving·
use Rattle.arriving.specs.Arriving.{Way}
use Rattle.hearing.specs.Hearings.{plan_of}
use Rattle.hearing.specs.InPlace as hearing·
use Rattle.framing.specs.Moves.{moved_state, Moved, move, move_from, moved_in}
use Rattle.framing.specs.Sending.{sent_frame}
use Rattle.framing.specs.Frames as framing
use Rattle.framing.specs.Scenes.{Scene, turns, heeded_by}
use Rattle.framing.specs.InPlace as framing·
use Rattle.framing.proofs.Moves.{moves_decode, moves_store}
use Rattle.table.specs.Load.{too_little, ran_of}
use Rattle.table.specs.InPlace.{state_of, state_ran, state_loaded}
use Rattle.table.specs.EventInPlace.{load_state}
use Rattle.table.proofs.EventInPlace.{load_formed, load_long}
use Rattle.promise.specs.Readings.{lines_of}
use Rattle.promise.specs.Refusals.{Accepts}
use Rattle.promise.proofs.Runs.{done_iff_good, ran_lines}
use Rattle.promise.proofs.Refusals.{all_fine, accepts_units}
use Rattle.document.specs.Events.{Event, arrive, frame, hear, take_cell, count, hand, collect, answers, Back}
use Rattle.running.specs.Keeping as keeping
use Rattle.running.specs.Lent.{Lent, Long, does, run_in, loaded_in, seen}
use Rattle.running.proofs.Kept.{soundness_kept, loads_sound}
use Rattle.running.proofs.InPlace.{same, formed_after, long_after, loaded_seen}
use Rattle.refining.specs.Refines.{gives}

-- bytes on which an event is not refused as State
pub record Good (card : Card) (l : Lent) : Type 0 where
  pub long : Long l
  pub formed : formed_all l.state ≡ true
  pub sound : keeping.sound_in card (seen l) ≡ true

then_good : (card : Card) (l : Lent) → Good card l → (e : Event) → Good card (does card l e).lent
then_good card l g e =
    record {
      long = long_after card l g.long g.formed e;
      formed = formed_after card l g.long g.formed e;
      sound = ap (λ o. keeping.sound_in card o.world) (same card l g.long g.formed e) ∙ soundness_kept card (seen l) e g.sound;
    }

pub begins : (card : Card) (text memory store : List ℕ) (rows : List C.Counters) → Good card (loaded_in card text memory store rows)
begins card text memory store rows =
    record {
      long = load_long card text memory (length store) (length rows);
      formed = load_formed card text memory (length store) (length rows);
      sound = ap (keeping.sound_in card) (loaded_seen card text memory store rows) ∙ loads_sound card text memory store rows;
    }

-- a good table leaves the bytes of its lines, on either card
pub accepted_state : (card : Card) (text memory : List ℕ) (store rows : ℕ) (told : List Line) → Accepts card text memory store rows told → load_state card text memory store rows ≡ state_of told
unfolding state_loaded state_ran
accepted_state card text memory store rows told a =
    let n = accepts_units card text memory store rows told a in
    let room = usable memory in
    let ran : ran_of card room text ≡ done told = ran_lines card room text ∙ (done_iff_good card room (lines_of text) told).1 (all_fine card text memory told a.fine) in
    let enough : too_little (shelf_of told) store rows ≡ false = rw (le-ltb store (8192 * (shelf_of told).count) (omega (arith, a.store_enough)), le-ltb rows (shelf_of told).count (omega (arith, a.rows_enough))) in
    ap (λ x. cond x (fresh_bytes 16) (state_ran (ran_of card room text) store rows)) (le-ltb 65536 (length text) a.short)
    ∙ ap (λ x. state_ran x store rows) ran
    ∙ ap (λ x. cond x (fresh_bytes 16) (state_of told)) enough

-- A. an event at a unit is let in at the same place
lets_in : (card : Card) (b : List ℕ) (store rows unit : ℕ) (right : Bool) → formed_all b ≡ true → sound_of card (shelf_in b) store rows ≡ true →
    admitted_in card b store rows unit right ≡ at_unit (find_in (declared (shelf_in b)) unit) right
unfolding admitted_in admitted
lets_in card b store rows unit right formed sound = rw (formed, sound)

both_in : (c c' : Card) (b : List ℕ) (s s' n n' unit : ℕ) (right : Bool) (inside : ℕ → List ℕ) → formed_all b ≡ true → sound_of c (shelf_in b) s n ≡ true → sound_of c' (shelf_in b) s' n' ≡ true →
    decided (admitted_in c b s n unit right) inside (λ number. b) ≡ decided (admitted_in c' b s' n' unit right) inside (λ number. b)
both_in c c' b s s' n n' unit right inside formed x y =
    ap (λ d. decided d inside (λ number. b)) (lets_in c b s n unit right formed x ∙ sym (lets_in c' b s' n' unit right formed y))

-- B. an arrival: no cell is lost as queued
not_queued : (card : Card) (u : U.Unit) (memory c : List ℕ) → arriving.way_of card u memory c ≡ Err Queued → ⊥
unfolding arriving.way_of arriving.way_by
not_queued card u memory c e = by (sound_header (four c 0) (get_or c 4 0)) (translated (record_at card memory) u.settings.link u.settings.top u.place (four c 0)) e
  where
    by : (k : Bool) (x : L.Looked) → cond k (arriving.way_by x) (Err Hec) ≡ Err Queued → ⊥
    by true looked.Ignored e = let z : ◌≡◌ {A = ℕ} 0 1 = cc in omega arith
    by true looked.Misrouted e = let z : ◌≡◌ {A = ℕ} 0 1 = cc in omega arith
    by true (looked.Goes routing header) e = let z : ◌≡◌ {A = ℕ} 0 1 = cc in omega arith
    by false x e = let z : ◌≡◌ {A = ℕ} 0 1 = cc in omega arith

fate_is : {f g : A.Arrival} → Arrived f ≡ Arrived g → f ≡ g
fate_is e = cc

-- so what is said tells whether a cell is in
module _ (shelf : Shelf) (place : ℕ) where
  abbrev answer : Way → N.Answer
  answer way = (arriving.done_by way shelf place).reply.answer

  lost_or_in : (f : A.Arrival) (k : Bool) (b more : List ℕ) → (◌≡◌ {A = Way} (Err f) (Err Queued) → ⊥) →
      Arrived f ≡ (cond k (arriving.arrived shelf place Inletfull) (arriving.arrived (arriving.cell_in shelf place) place Queued)).reply.answer → b ≡ cond k b more
  lost_or_in f true b more other e = refl
  lost_or_in f false b more other e = absurd (other (ap Err (fate_is e)))

  by_ways : (x y : Way) (b : List ℕ) → (x ≡ Err Queued → ⊥) → (y ≡ Err Queued → ⊥) → answer x ≡ answer y → arriving·.state_by x (unit_at shelf place) b place ≡ arriving·.state_by y (unit_at shelf place) b place
  unfolding arriving.done_by arriving·.state_by
  by_ways (Err f) (Err g) b p q e = refl
  by_ways (Err f) (Ok heads) b p q e = lost_or_in f (arriving.inlet_full (unit_at shelf place)) b _ p e
  by_ways (Ok heads) (Err g) b p q e = sym (lost_or_in g (arriving.inlet_full (unit_at shelf place)) b _ q (sym e))
  by_ways (Ok heads) (Ok heads') b p q e = refl

answer_is : {x y : N.Answer} → answers x ≡ answers y → x ≡ y
answer_is e = cc

module _ (card : Card) (b memory store : List ℕ) (rows : List C.Counters) (unit : ℕ) (c : List ℕ) (place : ℕ) (e : arriving·.comes_in card b (length store) (length rows) unit c ≡ Ok place) where
  abbrev l : Lent
  l = record { state = b; memory = memory; store = store; rows = rows }

  abbrev way : Way
  way = arriving.way_of card (unit_at (shelf_in b) place) memory c

  said_is : (does card l (arrive unit c)).said ≡ answers (arriving.done_by way (shelf_in b) place).reply.answer
  unfolding does decided
  said_is =
      let w = in_place card b (length store) (length rows) unit (eqb (length c) 53) place e in
      λ t. answers (cond (w.formed t) (outcome_of (decided (w.shelf t) (λ i. arriving.done_at card (shelf_in b) i memory c) (refused (shelf_in b)))) (refused_with 8)).answer

  state_is : arriving·.state_at card b place memory c ≡ arriving·.state_by way (unit_at (shelf_in b) place) b place
  state_is =
      let w = in_place card b (length store) (length rows) unit (eqb (length c) 53) place e in
      ap (λ u. arriving·.state_by (arriving.way_of card u memory c) u b place) (sym (unit_at_lem b place blank w.below))

-- C. a frame: the units hear what was sent, wherever it stood
bytes_alone : (h : H.Heard) (cell : Cell) (i n : ℕ) (x y : Scene) → x.bytes ≡ y.bytes → (turns h cell i n x).bytes ≡ (turns h cell i n y).bytes
unfolding turns
bytes_alone h cell i zero x y e = e
bytes_alone h cell i (suc n) x y e = bytes_alone h cell (suc i) n _ _ (ap (λ b. hearing·.state_by (plan_of (unit_in b i) h) b i) e)

sent_same : (f : Option ℕ) (b store store' buffer : List ℕ) → framing.buffer_by f (shelf_in b) store buffer ≡ framing.buffer_by f (shelf_in b) store' buffer → framing·.state_by f b store ≡ framing·.state_by f b store'
unfolding framing.buffer_by framing·.state_by framing·.sent_state
sent_same (Some place) b store store' buffer e =
    let f = sent_frame (shelf_in b) place store' in
    ap (λ x. (heeded_by (heard x) (take 56 x) (framing·.out_state b place) store (replicate 32 0)).bytes) e ∙ bytes_alone (heard f) (take 56 f) 0 _ _ _ refl
sent_same None b store store' buffer e = refl

-- no byte of the store has a part in what the moves write
moves_alone : (i n : ℕ) (x y : Moved) → x.bytes ≡ y.bytes → (move_from i n x).bytes ≡ (move_from i n y).bytes
unfolding move_from
moves_alone i zero x y e = e
moves_alone i (suc n) x y e = moves_alone (suc i) n (move i x) (move i y) (ap (λ b. moved_state b i) e)

turn_same : (b store store' buffer : List ℕ) → framing.turn_buffer (shelf_in b) store buffer ≡ framing.turn_buffer (shelf_in b) store' buffer → framing·.turn_state b store ≡ framing·.turn_state b store'
turn_same b store store' buffer e =
    let shelf = shelf_in b in
    ap (λ x. with_turn x (framing.granted shelf).arbiter (framing.granted shelf).unit ((shelf.frame + 1) % 2 ^ 16)) (sent_same (framing.sender shelf) b store store' buffer e)

frame_same : (b store store' buffer : List ℕ) → length b ≡ 2048 → framing.buffer_at (shelf_in b) store buffer ≡ framing.buffer_at (shelf_in b) store' buffer → framing·.state_at b store ≡ framing·.state_at b store'
frame_same b store store' buffer long e =
    let x = moved_in b store in
    let y = moved_in b store' in
    let same = moves_alone 0 (min (get_or b 805 0) 32) (record { bytes = b; store = store; each = replicate 32 0 }) (record { bytes = b; store = store'; each = replicate 32 0 }) refl in
    let one : framing.turn_buffer (shelf_in x.bytes) x.store buffer ≡ framing.buffer_at (shelf_in b) store buffer = λ t. framing.turn_buffer (moves_decode b store long t) (moves_store b store long t) buffer in
    let two : framing.turn_buffer (shelf_in x.bytes) y.store buffer ≡ framing.buffer_at (shelf_in b) store' buffer = λ t. framing.turn_buffer (moves_decode b store long t) (moves_store b store' long t) buffer in
    turn_same x.bytes x.store y.store buffer (one ∙ e ∙ sym two) ∙ ap (λ z. framing·.turn_state z y.store) same

-- D. one event, on two cards
module _ (c c' : Card) (b memory memory' store store' : List ℕ) (rows rows' : List C.Counters) where
  abbrev one : Lent
  one = record { state = b; memory = memory; store = store; rows = rows }

  abbrev two : Lent
  two = record { state = b; memory = memory'; store = store'; rows = rows' }

  module _ (g : Good c one) (g' : Good c' two) where
    abbrev way_in : ℕ → Bool → Result ℕ ℕ
    way_in unit right = at_unit (find_in (declared (shelf_in b)) unit) right

    arrived : (unit : ℕ) (cell : List ℕ) → (does c one (arrive unit cell)).said ≡ (does c' two (arrive unit cell)).said → (does c one (arrive unit cell)).lent.state ≡ (does c' two (arrive unit cell)).lent.state
    unfolding does decided
    arrived unit cell e =
        let x = lets_in c b (length store) (length rows) unit (eqb (length cell) 53) g.formed g.sound in
        let y = lets_in c' b (length store') (length rows') unit (eqb (length cell) 53) g'.formed g'.sound in
        ap (after c memory) x ∙ at (way_in unit (eqb (length cell) 53)) x y ∙ ap (after c' memory') (sym y)
      where
        after : Card → List ℕ → Result ℕ ℕ → List ℕ
        after card m d = decided d (λ place. arriving·.state_at card b place m cell) (λ number. b)

        at : (d : Result ℕ ℕ) → arriving·.comes_in c b (length store) (length rows) unit cell ≡ d → arriving·.comes_in c' b (length store') (length rows') unit cell ≡ d → after c memory d ≡ after c' memory' d
        at (Err number) p q = refl
        at (Ok place) p q =
            state_is c b memory store rows unit cell place p
            ∙ by_ways (shelf_in b) place _ _ b (not_queued c (unit_at (shelf_in b) place) memory cell) (not_queued c' (unit_at (shelf_in b) place) memory' cell)
            (answer_is (sym (said_is c b memory store rows unit cell place p) ∙ e ∙ said_is c' b memory' store' rows' unit cell place q))
            ∙ sym (state_is c' b memory' store' rows' unit cell place q)

    framed : (buffer : List ℕ) → (does c one (frame buffer)).bytes ≡ (does c' two (frame buffer)).bytes → (does c one (frame buffer)).lent.state ≡ (does c' two (frame buffer)).lent.state
    unfolding does framing.checked sound_in
    framed buffer e =
        states c store rows g ∙ by (eqb (length buffer) 57) (sym (bytes c store rows g) ∙ e ∙ bytes c' store' rows' g') ∙ sym (states c' store' rows' g')
      where
        shelf : Shelf
        shelf = shelf_in b

        states : (card : Card) (s : List ℕ) (n : List C.Counters) {m : List ℕ} → Good card (record { state = b; memory = m; store = s; rows = n }) →
            cond (formed_all b && sound_of card shelf (length s) (length n)) (cond (eqb (length buffer) 57) (framing·.state_at b s) b) b ≡ cond (eqb (length buffer) 57) (framing·.state_at b s) b
        states card s n k = rw (k.formed, k.sound)

        bytes : (card : Card) (s : List ℕ) (n : List C.Counters) {m : List ℕ} → Good card (record { state = b; memory = m; store = s; rows = n }) →
            cond (formed_all b) (cond (sound_of card shelf (length s) (length n)) (cond (eqb (length buffer) 57) (framing.buffer_at shelf s buffer) buffer) buffer) buffer ≡ cond (eqb (length buffer) 57) (framing.buffer_at shelf s buffer) buffer
        bytes card s n k = rw (k.formed, k.sound)

        by : (right : Bool) → cond right (framing.buffer_at shelf store buffer) buffer ≡ cond right (framing.buffer_at shelf store' buffer) buffer → cond right (framing·.state_at b store) b ≡ cond right (framing·.state_at b store') b
        by true k = frame_same b store store' buffer g.long k
        by false k = refl

    agree_at : (e : Event) → (does c one e).said ≡ (does c' two e).said → (does c one e).bytes ≡ (does c' two e).bytes → (does c one e).lent.state ≡ (does c' two e).lent.state
    unfolding does
    agree_at (arrive unit cell) p q = arrived unit cell p
    agree_at (frame buffer) p q = framed buffer q
    agree_at (hear unit f) p q = both_in c c' b (length store) (length store') (length rows) (length rows') unit (eqb (length f) 57) _ g.formed g.sound g'.sound
    agree_at (take_cell unit buffer) p q = both_in c c' b (length store) (length store') (length rows) (length rows') unit (eqb (length buffer) 53) _ g.formed g.sound g'.sound
    agree_at (count unit) p q = refl
    agree_at (hand unit cell) p q = both_in c c' b (length store) (length store') (length rows) (length rows') unit (eqb (length cell) 56) _ g.formed g.sound g'.sound
    agree_at (collect unit buffer) p q = both_in c c' b (length store) (length store') (length rows) (length rows') unit (eqb (length buffer) 56) _ g.formed g.sound g'.sound

agree : (c c' : Card) (l l' : Lent) → l.state ≡ l'.state → Good c l → Good c' l' → (e : Event) → (does c l e).said ≡ (does c' l' e).said → (does c l e).bytes ≡ (does c' l' e).bytes →
    (does c l e).lent.state ≡ (does c' l' e).lent.state
agree c c' l l' same_bytes =
    subst
    (λ x.
    let other : Lent = record { state = x; memory = l'.memory; store = l'.store; rows = l'.rows } in
    Good c l → Good c' other → (e : Event) → (does c l e).said ≡ (does c' other e).said → (does c l e).bytes ≡ (does c' other e).bytes → (does c l e).lent.state ≡ (does c' other e).lent.state)
    same_bytes (agree_at c c' l.state l.memory l'.memory l.store l'.store l.rows l'.rows)

-- E. and over every sequence of events
head_is : {x y : Back} {xs ys : List Back} → x ∷ xs ≡ y ∷ ys → x ≡ y
head_is e = cc

tail_is : {x y : Back} {xs ys : List Back} → x ∷ xs ≡ y ∷ ys → xs ≡ ys
tail_is e = cc

pub same_states : (c c' : Card) (l l' : Lent) (es : List Event) → l.state ≡ l'.state → Good c l → Good c' l' → gives c l es ≡ gives c' l' es → (run_in c l es).state ≡ (run_in c' l' es).state
unfolding gives run_in
same_states c c' l l' [] same_bytes g g' given = same_bytes
same_states c c' l l' (e ∷ es) same_bytes g g' given =
    let first = head_is given in
    same_states c c' (does c l e).lent (does c' l' e).lent es
    (agree c c' l l' same_bytes g g' e (ap (λ x. x.said) first) (ap (λ x. x.bytes) first))
    (then_good c l g e) (then_good c' l' g' e) (tail_is given)
