-- The bytes after all have heard are the shelf after all have heard, and the store likewise; and what of the bytes is kept. Assumes nothing.
use Rattle.std.proofs.Common.{◌≡◌, ℕ, zero, suc, ◌+◌, ◌*◌, ◌<◌, ◌≤◌, min, ◌||◌, List, length, get_or, set, refl, ap, ◌∙◌, arith}
use lib.Bits.{bit_or}
use Rattle.bus.specs.Heard as H
use Rattle.store.specs.Places.{Cell}
use Rattle.state.specs.Bytes.{unit_in, units_from, shelf_in}
use Rattle.state.proofs.Kept.{Column}
use Rattle.soundness.specs.Soundings.{formed_all}
use Rattle.answer.specs.Answers.{hearing_rises, queued_one, is_addressed}
use Rattle.hearing.specs.Hearings.{plan_of, copy_of}
use Rattle.hearing.specs.InPlace.{state_by}
use Rattle.hearing.proofs.Plans.{plan_queue}
use Rattle.hearing.proofs.InPlace.{fate_copy, state_long, state_put, state_there, state_other, state_formed}
use Rattle.framing.specs.Sending.{Listened, after, heard_from, store_from, heard_by_all, heard_store}
use Rattle.framing.specs.Scenes.{unheeded, heeded_of, Scene, turn, turns, heeded_by}
use Rattle.framing.proofs.Turns.{units_same, units_declared}

abbrev listened : Scene → Listened
listened x = record { shelf = shelf_in x.bytes; each = x.tally.each; copies = x.tally.copies; addressed = x.tally.addressed }

module _ (h : H.Heard) (cell : Cell) where
  -- one place
  turned : (i : ℕ) (x : Scene) → i < 32 → length x.bytes ≡ 2048 → listened (turn h cell i x) ≡ after i (copy_of (unit_in x.bytes i) h) (listened x)
  turned i x hi long t =
      let u = unit_in x.bytes i in
      let f = fate_copy (plan_of u h) u in
      record {
        shelf = state_put (plan_of u h) x.bytes i (plan_queue u h) hi long t;
        each = set x.tally.each i (bit_or (get_or x.tally.each i 0) (hearing_rises (f t)));
        copies = x.tally.copies + queued_one (f t);
        addressed = x.tally.addressed || is_addressed (f t);
      }

  turn_long : (i : ℕ) (x : Scene) → length (turn h cell i x).bytes ≡ length x.bytes
  turn_long i x = state_long (plan_of (unit_in x.bytes i) h) x.bytes i

  pub turn_there : (i : ℕ) (x : Scene) → i < 32 → length x.bytes ≡ 2048 → (j : ℕ) → j < 32 → (j ≡ i → ⊥) → unit_in (turn h cell i x).bytes j ≡ unit_in x.bytes j
  turn_there i x hi long = state_there (plan_of (unit_in x.bytes i) h) x.bytes i (plan_queue (unit_in x.bytes i) h) hi long

  later : (i n : ℕ) (x : Scene) → i + suc n ≤ 32 → length x.bytes ≡ 2048 → units_from (turn h cell i x).bytes (suc i) n ≡ units_from x.bytes (suc i) n
  later i n x hi long = units_same (turn h cell i x).bytes x.bytes (suc i) n (λ j a l. turn_there i x (omega arith) long j (omega arith) (λ e. absurd (omega arith)))

  -- so many places
  decoded : (i n : ℕ) (x : Scene) → i + n ≤ 32 → length x.bytes ≡ 2048 → listened (turns h cell i n x) ≡ heard_from h i (units_from x.bytes i n) (listened x)
  unfolding turns heard_from units_from
  decoded i zero x hi long = refl
  decoded i (suc n) x hi long =
      decoded (suc i) n (turn h cell i x) (omega arith) (turn_long i x ∙ long) ∙ (λ t. heard_from h (suc i) (later i n x hi long t) (turned i x (omega arith) long t))

  stored : (i n : ℕ) (x : Scene) → i + n ≤ 32 → length x.bytes ≡ 2048 → (turns h cell i n x).store ≡ store_from h i (units_from x.bytes i n) x.store cell
  unfolding turns store_from units_from
  stored i zero x hi long = refl
  stored i (suc n) x hi long =
      stored (suc i) n (turn h cell i x) (omega arith) (turn_long i x ∙ long) ∙ (λ t. store_from h (suc i) (later i n x hi long t) (turn h cell i x).store cell)

  turns_long : (i n : ℕ) (x : Scene) → length (turns h cell i n x).bytes ≡ length x.bytes
  unfolding turns
  turns_long i zero x = refl
  turns_long i (suc n) x = turns_long (suc i) n (turn h cell i x) ∙ turn_long i x

  turns_formed : (i n : ℕ) (x : Scene) → i + n ≤ 32 → formed_all (turns h cell i n x).bytes ≡ formed_all x.bytes
  unfolding turns
  turns_formed i zero x hi = refl
  turns_formed i (suc n) x hi =
      turns_formed (suc i) n (turn h cell i x) (omega arith) ∙ state_formed (plan_of (unit_in x.bytes i) h) x.bytes i (plan_queue (unit_in x.bytes i) h) (omega arith)

  turns_other : (i n : ℕ) (x : Scene) → i + n ≤ 32 → (k : ℕ) → ((j c : ℕ) → i ≤ j → j < i + n → 14 ≤ c → Column c → k ≡ c * 32 + j → ⊥) → get_or (turns h cell i n x).bytes k 0 ≡ get_or x.bytes k 0
  unfolding turns
  turns_other i zero x hi k ne = refl
  turns_other i (suc n) x hi k ne =
      turns_other (suc i) n (turn h cell i x) (omega arith) k (λ j c a l. ne j c (omega arith) (omega arith))
      ∙ state_other (plan_of (unit_in x.bytes i) h) x.bytes i (plan_queue (unit_in x.bytes i) h) (omega arith) k (λ c. ne i c (omega arith) (omega arith))

  -- the counters have no part in the bytes
  turns_uncounted : (i n : ℕ) (x y : Scene) → x.bytes ≡ y.bytes → (turns h cell i n x).bytes ≡ (turns h cell i n y).bytes
  unfolding turns
  turns_uncounted i zero x y e = e
  turns_uncounted i (suc n) x y e = turns_uncounted (suc i) n (turn h cell i x) (turn h cell i y) (ap (λ b. state_by (plan_of (unit_in b i) h) b i) e)

  pub heeded_uncounted : (b store each other : List ℕ) → (heeded_by h cell b store each).bytes ≡ (heeded_by h cell b store other).bytes
  heeded_uncounted b store each other = turns_uncounted 0 (min (get_or b 805 0) 32) _ _ refl

  -- "a sent frame is heard by every declared unit"
  module _ (b store each : List ℕ) where
    abbrev begun : Scene
    begun = record { bytes = b; store = store; tally = unheeded each }

    pub heeded_long : length (heeded_by h cell b store each).bytes ≡ length b
    heeded_long = turns_long 0 (min (get_or b 805 0) 32) begun

    pub heeded_formed : formed_all (heeded_by h cell b store each).bytes ≡ formed_all b
    heeded_formed = turns_formed 0 (min (get_or b 805 0) 32) begun (omega arith)

    pub heeded_other : (k : ℕ) → ((j c : ℕ) → j < 32 → j < get_or b 805 0 → 14 ≤ c → Column c → k ≡ c * 32 + j → ⊥) → get_or (heeded_by h cell b store each).bytes k 0 ≡ get_or b k 0
    heeded_other k ne = turns_other 0 (min (get_or b 805 0) 32) begun (omega arith) k (λ j c a l. ne j c (omega arith) (omega arith))

    module _ (long : length b ≡ 2048) where
      all_heard : listened (heeded_by h cell b store each) ≡ heard_by_all (shelf_in b) each h
      all_heard = decoded 0 (min (get_or b 805 0) 32) begun (omega arith) long ∙ ap (λ us. heard_from h 0 us (listened begun)) (units_declared b)

      pub shelf_heard : shelf_in (heeded_by h cell b store each).bytes ≡ (heard_by_all (shelf_in b) each h).shelf
      shelf_heard t = (all_heard t).shelf

      pub tally_heard : (heeded_by h cell b store each).tally ≡ heeded_of (heard_by_all (shelf_in b) each h)
      tally_heard t = heeded_of (all_heard t)

      pub store_heard : (heeded_by h cell b store each).store ≡ heard_store (shelf_in b) h store cell
      store_heard = stored 0 (min (get_or b 805 0) 32) begun (omega arith) long ∙ ap (λ us. store_from h 0 us store cell) (units_declared b)
