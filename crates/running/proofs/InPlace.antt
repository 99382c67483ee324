-- An event in lent bytes is the event on the shelf that they are. Assumes nothing.
use Rattle.std.specs.Prelude.{None, Option, Some, Err, Ok, Result}
use Prim.Native.Nat.{ℕ, ◌<◌, ◌≤◌}
use native.Mathlib.Omega.{arith}
use mathlib.Core.Path.{◌≡◌, refl, sym, ap, ◌∙◌}
use mathlib.Core.Logic.{◌⊎◌, inl, inr}
use mathlib.Core.Bool.{Bool, true, false, cond, ◌&&◌, false≢true}
use mathlib.Core.List.{List, [], ◌∷◌}
use lib.Dec.{eqb}
use lib.ListN.{length, get_or}
use Rattle.card.specs.declared.Card.{Card}
use Rattle.shelf.specs.Shelves.{declared, blank, find_in, is_at}
use Rattle.state.specs.Bytes.{unit_in, with_byte}
use Rattle.state.proofs.Laws.{unit_at_lem}
use Rattle.soundness.specs.State.{sound_of}
use Rattle.soundness.specs.Soundings.{formed_all, sound_in}
use Rattle.answer.specs.Counting.{settled, settled_to}
use Rattle.answer.specs.declared.Counters as C
use Rattle.answer.specs.Answers.{refused_with}
use Rattle.answer.specs.Done.{outcome_of}
use Rattle.answer.specs.declared.Answer.TheVariants as answer
use Rattle.soundness.specs.Admission.{at_unit, admitted, admitted_in, decided}
use Rattle.soundness.proofs.InPlace.{formed_in, unformed_in, LetInPlace, in_place as let_in_place}
use Rattle.arriving.specs.Arriving.{arrive_done, arrive_store}
use Rattle.arriving.specs.InPlace as arriving
use Rattle.arriving.proofs.InPlace.{arrive_decodes, arrive_formed, arrive_long, arrive_free, arrive_kept, arrive_others}
use Rattle.hearing.specs.Hearings.{hear_done, hear_store}
use Rattle.hearing.specs.InPlace as hearing
use Rattle.hearing.proofs.InPlace.{hear_decodes, hear_formed, hear_long, hear_own, hear_free, hear_kept, hear_others}
use Rattle.taking.specs.Takes.{take_done, take_buffer}
use Rattle.taking.specs.InPlace as taking
use Rattle.taking.proofs.InPlace.{take_decodes, take_formed, take_long, take_free, take_kept, take_others}
use Rattle.handing.specs.Hands.{busy, hand_done, hand_store}
use Rattle.handing.specs.Collects.{collect_done, collect_buffer}
use Rattle.handing.specs.InPlace as handing
use Rattle.handing.proofs.InPlace.{hand_decodes, hand_formed, hand_long, hand_kept, hand_free, hand_others, collect_decodes, collect_formed, collect_long, collect_kept, collect_free, collect_others}
use Rattle.framing.specs.Frames.{checked, frame_done, frame_store, frame_buffer}
use Rattle.framing.specs.InPlace as framing
use Rattle.framing.proofs.InPlace.{frame_decodes, frame_formed, frame_long, frame_free, frame_bus, frame_count, frame_kept, frame_others}
use Rattle.table.specs.Loads.{load_done, load_memory}
use Rattle.table.proofs.EventInPlace.{load_decodes, load_formed, load_long, load_spare}
use Rattle.entry.specs.Counts.{count_of}
use Rattle.paper.specs.State.{Formed}
use Rattle.paper.proofs.State.{formed_iff}
use Rattle.document.specs.Events.{Event, arrive, frame, hear, take_cell, count, hand, collect, bytes_of, answers}
use Rattle.running.specs.Events.{World, count_said, happens}
use Rattle.running.specs.Keeping.{run, loaded}
use Rattle.running.specs.Refusing.{known, fits, taken_at, taken, refusal}
use Rattle.running.specs.Lent.{Lent, Long, does, run_in, loaded_in, seen, shown}
use Rattle.running.specs.InPlace.{Untouched, Spare, Tied, InPlace, RunsInPlace}
use Rattle.running.proofs.Refused.{refusal_changes_nothing}

module _ (card : Card) (l : Lent) where
  abbrev b : List ℕ
  b = l.state

  abbrev s : ℕ
  s = length l.store

  abbrev n : ℕ
  n = length l.rows

  abbrev w : World
  w = seen l

  -- A. bytes that are a state: what is said of them is what is done to the shelf
  module _ (long : Long l) (formed : formed_all b ≡ true) where
    pub same : (e : Event) → shown (does card l e) ≡ happens card w e
    unfolding does happens
    same (arrive unit c) =
        λ t.
        let out = cond (formed t) (outcome_of (arrive_done card w.shelf l.memory s n unit c)) (refused_with 8) in
        record {
          said = answers out.answer;
          world = record {
            shelf = arrive_decodes card b l.memory s n unit c long formed t;
            memory = l.memory;
            store = cond (formed t) (arrive_store card w.shelf l.memory l.store n unit c) l.store;
            rows = settled l.rows out.rises;
          };
          bytes = c;
        }
    same (frame buffer) =
        λ t.
        let out = cond (formed t) (outcome_of (frame_done card w.shelf l.store n (length buffer))) (refused_with 8) in
        record {
          said = answers out.answer;
          world = record {
            shelf = frame_decodes card b l.store n (length buffer) long formed t;
            memory = l.memory;
            store = cond (formed t) (frame_store card w.shelf l.store n (length buffer)) l.store;
            rows = settled l.rows out.rises;
          };
          bytes = cond (formed t) (frame_buffer card w.shelf l.store n buffer) buffer;
        }
    same (hear unit f) =
        λ t.
        let out = cond (formed t) (outcome_of (hear_done card w.shelf s n unit f)) (refused_with 8) in
        record {
          said = answers out.answer;
          world = record {
            shelf = hear_decodes card b s n unit f long formed t;
            memory = l.memory;
            store = cond (formed t) (hear_store card w.shelf l.store n unit f) l.store;
            rows = settled l.rows out.rises;
          };
          bytes = f;
        }
    same (take_cell unit buffer) =
        λ t.
        let out = cond (formed t) (outcome_of (take_done card w.shelf s n unit (length buffer))) (refused_with 8) in
        record {
          said = answers out.answer;
          world = record { shelf = take_decodes card b s n unit (length buffer) long formed t; memory = l.memory; store = l.store; rows = settled l.rows out.rises };
          bytes = cond (formed t) (take_buffer card w.shelf l.store n unit buffer) buffer;
        }
    same (hand unit c) =
        λ t.
        let out = cond (formed t) (outcome_of (hand_done card w.shelf s n unit (length c))) (refused_with 8) in
        record {
          said = answers out.answer;
          world = record {
            shelf = hand_decodes card b s n unit (length c) long formed t;
            memory = l.memory;
            store = cond (formed t) (hand_store card w.shelf l.store n unit c) l.store;
            rows = settled l.rows out.rises;
          };
          bytes = c;
        }
    same (collect unit buffer) =
        λ t.
        let out = cond (formed t) (outcome_of (collect_done card w.shelf s n unit (length buffer))) (refused_with 8) in
        record {
          said = answers out.answer;
          world = record { shelf = collect_decodes card b s n unit (length buffer) long formed t; memory = l.memory; store = l.store; rows = settled l.rows out.rises };
          bytes = cond (formed t) (collect_buffer card w.shelf l.store n unit buffer) buffer;
        }
    same (count unit) = λ t. record { said = count_said (count_of (formed_in card b s n unit true formed t) l.rows); world = w; bytes = [] }

    pub formed_after : (e : Event) → formed_all (does card l e).lent.state ≡ true
    unfolding does
    formed_after (arrive unit c) = arrive_formed card b l.memory s n unit c long formed
    formed_after (frame buffer) = frame_formed card b l.store n (length buffer) long formed
    formed_after (hear unit f) = hear_formed card b s n unit f long formed
    formed_after (take_cell unit buffer) = take_formed card b s n unit (length buffer) long formed
    formed_after (hand unit c) = hand_formed card b s n unit (length c) long formed
    formed_after (collect unit buffer) = collect_formed card b s n unit (length buffer) long formed
    formed_after (count unit) = formed

    pub long_after : (e : Event) → Long (does card l e).lent
    unfolding does
    long_after (arrive unit c) = arrive_long card b l.memory s n unit c long
    long_after (frame buffer) = frame_long card b l.store n (length buffer) long formed
    long_after (hear unit f) = hear_long card b s n unit f long formed
    long_after (take_cell unit buffer) = take_long card b s n unit (length buffer) long
    long_after (hand unit c) = hand_long card b s n unit (length c) long
    long_after (collect unit buffer) = collect_long card b s n unit (length buffer) long
    long_after (count unit) = long

    -- a byte of no column: the bus, the count of units, a free one or one of the sessions; more roughly, one among the shelf's own or past all columns
    abbrev Apart : ℕ → Type 0
    Apart k = ((k ≡ 804) ⊎ (k ≡ 805)) ⊎ (((808 ≤ k) × (k < 832)) ⊎ (992 ≤ k))

    abbrev Outside : ℕ → Type 0
    Outside k = ((768 ≤ k) × (k < 832)) ⊎ (992 ≤ k)

    above : (k : ℕ) → Apart k → 768 ≤ k
    above k (inl (inl e)) = omega arith
    above k (inl (inr e)) = omega arith
    above k (inr (inl h)) = omega (arith, h.0)
    above k (inr (inr h)) = omega arith

    outside : (k : ℕ) → Apart k → Outside k
    outside k (inl (inl e)) = inl (omega arith, omega arith)
    outside k (inl (inr e)) = inl (omega arith, omega arith)
    outside k (inr (inl h)) = let low = h.0 in inl (omega arith, h.1)
    outside k (inr (inr h)) = inr h

    heard_kept : (unit : ℕ) (f : List ℕ) (k : ℕ) → Outside k → get_or (hearing.hear_state card b s n unit f) k 0 ≡ get_or b k 0
    heard_kept unit f k (inl h) = hear_own card b s n unit f long formed k h
    heard_kept unit f k (inr h) = hear_free card b s n unit f long formed k h

    handed_kept : (unit m k : ℕ) → Outside k → get_or (handing.hand_state card b s n unit m) k 0 ≡ get_or b k 0
    handed_kept unit m k (inl h) = hand_kept card b s n unit m long k h.1
    handed_kept unit m k (inr h) = hand_free card b s n unit m long k (omega arith)

    collected_kept : (unit m k : ℕ) → Outside k → get_or (handing.collect_state card b s n unit m) k 0 ≡ get_or b k 0
    collected_kept unit m k (inl h) = let high = h.1 in collect_kept card b s n unit m long k (omega arith)
    collected_kept unit m k (inr h) = collect_free card b s n unit m long k (omega arith)

    kept : (e : Event) (k : ℕ) → Untouched b k → get_or (does card l e).lent.state k 0 ≡ get_or b k 0
    unfolding does
    kept (arrive unit c) k (inl h) = arrive_others card b l.memory s n unit c long k h.1
    kept (arrive unit c) k (inr (inl h)) = arrive_kept card b l.memory s n unit c long k h
    kept (arrive unit c) k (inr (inr h)) = arrive_free card b l.memory s n unit c long k (above k h)
    kept (frame buffer) k (inl h) = frame_others card b l.store n (length buffer) long formed k h.0 h.1
    kept (frame buffer) k (inr (inl h)) = frame_kept card b l.store n (length buffer) long formed k h
    kept (frame buffer) k (inr (inr (inl (inl e)))) = ap (λ i. get_or (framing.frame_state card b l.store n (length buffer)) i 0) e ∙ frame_bus card b l.store n (length buffer) long ∙ ap (λ i. get_or b i 0) (sym e)
    kept (frame buffer) k (inr (inr (inl (inr e)))) = ap (λ i. get_or (framing.frame_state card b l.store n (length buffer)) i 0) e ∙ frame_count card b l.store n (length buffer) long ∙ ap (λ i. get_or b i 0) (sym e)
    kept (frame buffer) k (inr (inr (inr h))) = frame_free card b l.store n (length buffer) long formed k h
    kept (hear unit f) k (inl h) = hear_others card b s n unit f long formed k h.1
    kept (hear unit f) k (inr (inl h)) = hear_kept card b s n unit f long formed k h
    kept (hear unit f) k (inr (inr h)) = heard_kept unit f k (outside k h)
    kept (take_cell unit buffer) k (inl h) = take_others card b s n unit (length buffer) long k h.1
    kept (take_cell unit buffer) k (inr (inl h)) = take_kept card b s n unit (length buffer) long k h
    kept (take_cell unit buffer) k (inr (inr h)) = take_free card b s n unit (length buffer) long k (above k h)
    kept (hand unit c) k (inl h) = hand_others card b s n unit (length c) long k h.1
    kept (hand unit c) k (inr (inl h)) = hand_kept card b s n unit (length c) long k (omega arith)
    kept (hand unit c) k (inr (inr h)) = handed_kept unit (length c) k (outside k h)
    kept (collect unit buffer) k (inl h) = collect_others card b s n unit (length buffer) long k h.1
    kept (collect unit buffer) k (inr (inl h)) = collect_kept card b s n unit (length buffer) long k (omega arith)
    kept (collect unit buffer) k (inr (inr h)) = collected_kept unit (length buffer) k (outside k h)
    kept (count unit) k h = refl

    pub tied : (e : Event) → Tied card l e
    tied e = record { same = same e; formed = (formed_iff (does card l e).lent.state).0 (formed_after e); long = long_after e; kept = kept e }

  -- B. bytes that are none
  unformed : formed_all b ≡ false → (e : Event) → does card l e ≡ record { said = answers (answer.Refused 8); lent = l; bytes = bytes_of e }
  unfolding does bytes_of decided settled_to checked sound_in count_of count_said
  unformed none (arrive unit c) =
      λ t.
      let out = cond (none t) (outcome_of (arrive_done card w.shelf l.memory s n unit c)) (refused_with 8) in
      record {
        said = answers out.answer;
        lent = record {
          state = decided (unformed_in card b s n unit (eqb (length c) 53) none t) (λ place. arriving.state_at card b place l.memory c) (λ number. b);
          memory = l.memory;
          store = cond (none t) (arrive_store card w.shelf l.memory l.store n unit c) l.store;
          rows = settled l.rows out.rises;
        };
        bytes = c;
      }
  unformed none (frame buffer) =
      λ t.
      let out = cond (none t) (outcome_of (frame_done card w.shelf l.store n (length buffer))) (refused_with 8) in
      record {
        said = answers out.answer;
        lent = record {
          state = checked (none t && sound_of card w.shelf s n) (length buffer) b b (framing.state_at b l.store);
          memory = l.memory;
          store = cond (none t) (frame_store card w.shelf l.store n (length buffer)) l.store;
          rows = settled l.rows out.rises;
        };
        bytes = cond (none t) (frame_buffer card w.shelf l.store n buffer) buffer;
      }
  unformed none (hear unit f) =
      λ t.
      let out = cond (none t) (outcome_of (hear_done card w.shelf s n unit f)) (refused_with 8) in
      record {
        said = answers out.answer;
        lent = record {
          state = decided (unformed_in card b s n unit (eqb (length f) 57) none t) (λ place. hearing.state_at b place f) (λ number. b);
          memory = l.memory;
          store = cond (none t) (hear_store card w.shelf l.store n unit f) l.store;
          rows = settled l.rows out.rises;
        };
        bytes = f;
      }
  unformed none (take_cell unit buffer) =
      λ t.
      let out = cond (none t) (outcome_of (take_done card w.shelf s n unit (length buffer))) (refused_with 8) in
      record {
        said = answers out.answer;
        lent = record {
          state = decided (unformed_in card b s n unit (eqb (length buffer) 53) none t) (taking.state_at b) (λ number. b);
          memory = l.memory;
          store = l.store;
          rows = settled l.rows out.rises;
        };
        bytes = cond (none t) (take_buffer card w.shelf l.store n unit buffer) buffer;
      }
  unformed none (hand unit c) =
      λ t.
      let out = cond (none t) (outcome_of (hand_done card w.shelf s n unit (length c))) (refused_with 8) in
      record {
        said = answers out.answer;
        lent = record {
          state = decided (unformed_in card b s n unit (eqb (length c) 56) none t) (handing.hand_state_at b) (λ number. b);
          memory = l.memory;
          store = cond (none t) (hand_store card w.shelf l.store n unit c) l.store;
          rows = settled l.rows out.rises;
        };
        bytes = c;
      }
  unformed none (collect unit buffer) =
      λ t.
      let out = cond (none t) (outcome_of (collect_done card w.shelf s n unit (length buffer))) (refused_with 8) in
      record {
        said = answers out.answer;
        lent = record {
          state = decided (unformed_in card b s n unit (eqb (length buffer) 56) none t) (handing.collect_state_at b) (λ number. b);
          memory = l.memory;
          store = l.store;
          rows = settled l.rows out.rises;
        };
        bytes = cond (none t) (collect_buffer card w.shelf l.store n unit buffer) buffer;
      }
  unformed none (count unit) = λ t. record { said = count_said (count_of (unformed_in card b s n unit true none t) l.rows); lent = l; bytes = [] }

-- C. what is refused changes no byte
keeps : (x : Bool) (f : Option ℕ) (r : Bool) (inside : ℕ → List ℕ) (state : List ℕ) → (◌≡◌ {A = ℕ} (cond x (cond (is_at f) (cond r 0 10) 9) 8) 0 → ⊥) →
    decided (cond x (at_unit f r) (Err 8)) inside (λ number. state) ≡ state
unfolding decided at_unit
keeps true (Some i) true inside state h = absurd (h refl)
keeps true (Some i) false inside state h = refl
keeps true None r inside state h = refl
keeps false f r inside state h = refl

kept_frame : (x r : Bool) (state sent : List ℕ) → (◌≡◌ {A = ℕ} (cond x (cond r 0 10) 8) 0 → ⊥) → cond x (cond r sent state) state ≡ state
kept_frame true true state sent h = absurd (h refl)
kept_frame true false state sent h = refl
kept_frame false r state sent h = refl

module _ (card : Card) (l : Lent) (long : Long l) (formed : formed_all l.state ≡ true) where
  at_unit_lem : (unit : ℕ) (r : Bool) (inside : ℕ → List ℕ) →
      (◌≡◌ {A = ℕ} (cond (sound_of card (seen l).shelf (length l.store) (length l.rows)) (cond (is_at (find_in (declared (seen l).shelf) unit)) (cond r 0 10) 9) 8) 0 → ⊥) →
      decided (admitted_in card l.state (length l.store) (length l.rows) unit r) inside (λ number. l.state) ≡ l.state
  unfolding admitted
  at_unit_lem unit r inside h =
      ap (λ d. decided d inside (λ number. l.state)) (formed_in card l.state (length l.store) (length l.rows) unit r formed)
      ∙ keeps (sound_of card (seen l).shelf (length l.store) (length l.rows)) (find_in (declared (seen l).shelf) unit) r inside l.state h

  -- a hand-in that is let in and refused: the place is taken
  abbrev b' : List ℕ
  b' = l.state

  hand_keeps : (unit : ℕ) (c : List ℕ) → (refusal card (seen l) (hand unit c) ≡ 0 → ⊥) → handing.hand_state card b' (length l.store) (length l.rows) unit (length c) ≡ b'
  unfolding decided known fits taken
  hand_keeps unit c h = go (handing.comes_in card b' (length l.store) (length l.rows) unit (length c)) refl
    where
      busy_kept : (i : ℕ) → LetInPlace card b' (length l.store) (length l.rows) unit (eqb (length c) 56) i → (t : Bool) → busy (unit_in b' i) ≡ t → cond t b' (with_byte b' 26 i 1) ≡ b'
      busy_kept i p true t = refl
      busy_kept i p false t =
          let a = p.let_in in
          absurd
          (h
          ((λ k. cond (a.sound k) (cond (is_at (a.found k)) (cond (a.fits k) (cond (taken_at (seen l).shelf (a.found k)) 11 0) 10) 9) 8)
          ∙ ap (λ u. cond (busy u) 11 0) (unit_at_lem b' i blank p.below) ∙ ap (λ x. cond x 11 0) t))

      go : (d : Result ℕ ℕ) → handing.comes_in card b' (length l.store) (length l.rows) unit (length c) ≡ d → decided d (handing.hand_state_at b') (λ number. b') ≡ b'
      go (Err number) e = refl
      go (Ok i) e = busy_kept i (let_in_place card b' (length l.store) (length l.rows) unit (eqb (length c) 56) i e) (busy (unit_in b' i)) refl

  state_kept : (e : Event) → (refusal card (seen l) e ≡ 0 → ⊥) → (does card l e).lent.state ≡ l.state
  unfolding does known fits taken checked sound_in
  state_kept (arrive unit c) h = at_unit_lem unit (eqb (length c) 53) _ h
  state_kept (frame buffer) h =
      let sound = sound_of card (seen l).shelf (length l.store) (length l.rows) in
      let sent = framing.state_at l.state l.store in
      ap (λ t. cond (t && sound) (cond (eqb (length buffer) 57) sent l.state) l.state) formed ∙ kept_frame sound (eqb (length buffer) 57) l.state sent h
  state_kept (hear unit f) h = at_unit_lem unit (eqb (length f) 57) _ h
  state_kept (take_cell unit buffer) h = at_unit_lem unit (eqb (length buffer) 53) _ h
  state_kept (hand unit c) h = hand_keeps unit c h
  state_kept (collect unit buffer) h = at_unit_lem unit (eqb (length buffer) 56) _ h
  state_kept (count unit) h = refl

  pub refused_keeps : (e : Event) → (refusal card (seen l) e ≡ 0 → ⊥) → does card l e ≡ record { said = answers (answer.Refused (refusal card (seen l) e)); lent = l; bytes = bytes_of e }
  refused_keeps e h =
      let v = same card l long formed e ∙ refusal_changes_nothing card (seen l) e h in
      λ t. record { said = (v t).said; lent = record { state = state_kept e h t; memory = (v t).world.memory; store = (v t).world.store; rows = (v t).world.rows }; bytes = (v t).bytes }

pub in_place : InPlace
in_place card l e long = by (formed_all l.state) refl
  where
    by : (t : Bool) → formed_all l.state ≡ t → (Formed l.state → Tied card l e) × ((Formed l.state → ⊥) → does card l e ≡ record { said = answers (answer.Refused 8); lent = l; bytes = bytes_of e })
    by true f = (λ h. tied card l long f e, λ none. absurd (none ((formed_iff l.state).0 f)))
    by false f = (λ h. absurd (false≢true (sym f ∙ (formed_iff l.state).1 h)), λ none. unformed card l f e)

-- D. one event after the other
record Ran (card : Card) (l : Lent) (es : List Event) : Type 0 where
  same : seen (run_in card l es) ≡ run card (seen l) es
  formed : formed_all (run_in card l es).state ≡ true
  long : Long (run_in card l es)
  count : get_or (run_in card l es).state 805 0 ≡ get_or l.state 805 0
  spare : (k : ℕ) → Spare l.state k → get_or (run_in card l es).state k 0 ≡ get_or l.state k 0

-- with as many units the same bytes say nothing, and no event writes one
spare_as : (a b : List ℕ) (k : ℕ) → get_or a 805 0 ≡ get_or b 805 0 → Spare b k → Spare a k
spare_as a b k e (inl h) = inl h
spare_as a b k e (inr (inl h)) = let l = h.1 in inr (inl (h.0, omega (arith, e, l)))
spare_as a b k e (inr (inr h)) = let l = h.0 in inr (inr (omega (arith, e, l), h.1))

spare_untouched : (b : List ℕ) (k : ℕ) → Spare b k → Untouched b k
spare_untouched b k (inl (inl h)) = inr (inr (inr (inl h)))
spare_untouched b k (inl (inr h)) = inr (inr (inr (inr h.0)))
spare_untouched b k (inr (inl h)) = inl h
spare_untouched b k (inr (inr h)) = let l = h.0 in inr (inr (inr (inr (omega arith))))

ran : (card : Card) (l : Lent) (es : List Event) → Long l → formed_all l.state ≡ true → Ran card l es
unfolding run run_in
ran card l [] long formed = record { same = refl; formed = formed; long = long; count = refl; spare = λ k h. refl }
ran card l (e ∷ es) long formed =
    let one = tied card l long formed e in
    let r = ran card (does card l e).lent es one.long (formed_after card l long formed e) in
    let c = one.kept 805 (inr (inr (inl (inr refl)))) in
    record {
      same = r.same ∙ ap (λ o. run card o.world es) one.same;
      formed = r.formed;
      long = r.long;
      count = r.count ∙ c;
      spare = λ k h. r.spare k (spare_as (does card l e).lent.state l.state k c h) ∙ one.kept k (spare_untouched l.state k h);
    }

-- a load
pub loaded_seen : (card : Card) (text memory store : List ℕ) (rows : List C.Counters) → seen (loaded_in card text memory store rows) ≡ loaded card text memory store rows
loaded_seen card text memory store rows =
    let d = load_done card text memory (length store) (length rows) in
    λ t. record { shelf = load_decodes card text memory (length store) (length rows) t; memory = load_memory card text memory (length store) (length rows); store = store; rows = settled rows d.rises }

pub runs_in_place : RunsInPlace
runs_in_place card text memory store rows es =
    let r = ran card (loaded_in card text memory store rows) es (load_long card text memory (length store) (length rows)) (load_formed card text memory (length store) (length rows)) in
    record {
      same = r.same ∙ ap (λ w. run card w es) (loaded_seen card text memory store rows);
      formed = (formed_iff (run_in card (loaded_in card text memory store rows) es).state).0 r.formed;
      long = r.long;
      spare = λ k h.
          let x = spare_as (loaded_in card text memory store rows).state (run_in card (loaded_in card text memory store rows) es).state k (sym r.count) h in
          r.spare k x ∙ load_spare card text memory (length store) (length rows) k x;
    }

-- so an event after a load is the event on the shelf
pub after_load : (card : Card) (text memory store : List ℕ) (rows : List C.Counters) (es : List Event) (e : Event) →
    shown (does card (run_in card (loaded_in card text memory store rows) es) e) ≡ happens card (run card (loaded card text memory store rows) es) e
after_load card text memory store rows es e =
    let r = runs_in_place card text memory store rows es in
    ((in_place card (run_in card (loaded_in card text memory store rows) es) e r.long).0 r.formed).same ∙ ap (λ w. happens card w e) r.same
