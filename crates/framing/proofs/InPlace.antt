-- Frame, of a state in lent bytes: State and Length go by the bytes; the bytes afterwards are the shelf after the frame, and what of them is kept. Assumes nothing.
use Rattle.std.proofs.Common.{◌≡◌, ℕ, ◌+◌, ◌*◌, ◌%◌, ◌^◌, ◌<◌, ◌≤◌, min, Bool, true, false, cond, ◌&&◌, eqb, ◌⊎◌, List, length, get_or, take, replicate, sym, refl, ap, ◌∙◌, inl, inr, arith, length-drop, length-take, None, Option, Some}
use Rattle.octets.specs.Octets.{part}
use Rattle.card.specs.declared.Card.{Card}
use Rattle.bus.specs.Frame.{heard}
use Rattle.arbiter.proofs.Grants.{granted_length}
use Rattle.arbiter.proofs.Requests.{renewed_many}
use Rattle.shelf.specs.Shelves.{declared}
use Rattle.shelf.proofs.Finding.{find_at, declared_length}
use Rattle.state.specs.Bytes.{shelf_in, turn_put}
use Rattle.state.proofs.Laws.{units_length}
use Rattle.state.proofs.Kept.{Column}
use Rattle.state.proofs.Turn.{turn_long, turn_before, turn_behind, turn_shelf}
use Rattle.soundness.specs.State.{sound_of}
use Rattle.soundness.specs.Soundings.{formed_all, sound_in}
use Rattle.soundness.proofs.Kept.{formed_turn}
use Rattle.answer.specs.Answers.{refused}
use Rattle.soundness.specs.Admission.{formed_or}
use Rattle.soundness.proofs.InPlace.{sound_in_lem}
use Rattle.framing.specs.Moves.{moved_each, moved_in}
use Rattle.framing.specs.Requests.{requests, asking_now}
use Rattle.framing.specs.Sending.{sent_frame}
use Rattle.framing.specs.Frames.{sender, granted, listened_by, listened_of, turn_done, done_at, checked, frame_done}
use Rattle.framing.specs.InPlace.{out_state, sent_state, state_by, turn_state, state_at, frame_state}
use Rattle.framing.proofs.Moves.{moves_long, moves_formed, moves_other, moves_count, moves_decode, moves_store}
use Rattle.framing.proofs.Decoded.{heeded_long, heeded_formed, heeded_other}
use Rattle.framing.proofs.Sends.{out_other, out_formed, out_long, sent_shelf, checked_unsound, checked_misfit, checked_good}

-- State, then Length
module _ {X Y : Type 0} (card : Card) (b : List ℕ) (store rows n : ℕ) (f : X → Y) (unsound misfit good : X) where
  abbrev come : Y
  come = formed_or b (f (checked (sound_of card (shelf_in b) store rows) n unsound misfit good)) (f unsound)

  formed_come : (formed_all b ≡ true → f unsound ≡ f (checked (sound_of card (shelf_in b) store rows) n unsound misfit good)) → f unsound ≡ come
  formed_come e = by (formed_all b) refl
    where
      by : (t : Bool) → formed_all b ≡ t → f unsound ≡ cond t (f (checked (sound_of card (shelf_in b) store rows) n unsound misfit good)) (f unsound)
      by true h = e h
      by false h = refl

  pub in_unsound : sound_in card b store rows ≡ false → f unsound ≡ come
  unfolding sound_in
  in_unsound e =
      formed_come (λ h. ap f (checked_unsound (sound_of card (shelf_in b) store rows) n unsound misfit good (ap (λ t. t && sound_of card (shelf_in b) store rows) (sym h) ∙ e)))

  module _ (e : sound_in card b store rows ≡ true) where
    formed : f (checked (sound_of card (shelf_in b) store rows) n unsound misfit good) ≡ come
    formed = ap (λ t. cond t (f (checked (sound_of card (shelf_in b) store rows) n unsound misfit good)) (f unsound)) (sym (sound_in_lem card b store rows e).0)

    pub in_misfit : (n ≡ 57 → ⊥) → f misfit ≡ come
    in_misfit h = ap f (checked_misfit (sound_of card (shelf_in b) store rows) n unsound misfit good (sound_in_lem card b store rows e).1 h) ∙ formed

    pub in_good : n ≡ 57 → f good ≡ come
    in_good h = ap f (checked_good (sound_of card (shelf_in b) store rows) n unsound misfit good (sound_in_lem card b store rows e).1 h) ∙ formed

module _ (b store : List ℕ) (long : length b ≡ 2048) where
  -- the arrays of the arbiter have their lengths
  asks_long : length (granted (shelf_in b)).arbiter.asks ≡ 32
  asks_long =
      let r = requests (shelf_in b) in
      let p : length (part b 768 32) ≡ 32 = simp (length-take, length-drop) (omega arith) in
      (granted_length r.last r.asks).1 ∙ renewed_many (get_or b 804 0) (shelf_in b).frame (asking_now (shelf_in b)) 0 (part b 768 32) ∙ p

  last_long : length (granted (shelf_in b)).arbiter.last ≡ 3
  last_long = let r = requests (shelf_in b) in (granted_length r.last r.asks).0

  -- the sender, if there is one, is a declared unit
  inside : (place : ℕ) → sender (shelf_in b) ≡ Some place → place < min (get_or b 805 0) 32
  inside place e = omega (arith, ((find_at (get_or b 803 0) (declared (shelf_in b)) place).0 e).inside, declared_length (shelf_in b) (units_length b 0 32))

  -- what holds of the bytes before, and after a unit has sent
  sending : (P : List ℕ → Type 0) → P b → ((place : ℕ) → place < min (get_or b 805 0) 32 → P (sent_state b place store)) → P (state_by (sender (shelf_in b)) b store)
  unfolding state_by
  sending P was is = by (sender (shelf_in b)) refl
    where
      by : (x : Option ℕ) → sender (shelf_in b) ≡ x → P (state_by x b store)
      by (Some place) e = is place (inside place e)
      by None e = was

  abbrev f : ℕ → List ℕ
  f place = sent_frame (shelf_in b) place store

  sent_long : length (state_by (sender (shelf_in b)) b store) ≡ 2048
  unfolding sent_state
  sent_long =
      sending (λ x. length x ≡ 2048) long (λ place h.
      heeded_long (heard (f place)) (take 56 (f place)) (out_state b place) store (replicate 32 0) ∙ out_long b place store long h)

  sent_formed : formed_all (state_by (sender (shelf_in b)) b store) ≡ formed_all b
  unfolding sent_state
  sent_formed =
      sending (λ x. formed_all x ≡ formed_all b) refl (λ place h.
      heeded_formed (heard (f place)) (take 56 (f place)) (out_state b place) store (replicate 32 0) ∙ out_formed b place (omega arith))

  sent_other : (k : ℕ) → ((j c : ℕ) → j < 32 → j < get_or b 805 0 → 14 ≤ c → Column c → k ≡ c * 32 + j → ⊥) → get_or (state_by (sender (shelf_in b)) b store) k 0 ≡ get_or b k 0
  unfolding sent_state
  sent_other k ne =
      sending (λ x. get_or x k 0 ≡ get_or b k 0) refl (λ place h.
      let count = out_other b place 805 (λ c low col e. omega arith) in
      heeded_other (heard (f place)) (take 56 (f place)) (out_state b place) store (replicate 32 0) k (λ j c hj lj. ne j c hj (omega (arith, count)))
      ∙ out_other b place k (λ c. ne place c (omega arith) (omega arith)))

  sent_decodes : (each : List ℕ) → shelf_in (state_by (sender (shelf_in b)) b store) ≡ (listened_of (shelf_in b) store each).shelf
  unfolding state_by listened_by
  sent_decodes each = by (sender (shelf_in b)) refl
    where
      by : (x : Option ℕ) → sender (shelf_in b) ≡ x → shelf_in (state_by x b store) ≡ (listened_by x (shelf_in b) store each).shelf
      by (Some place) e = sent_shelf b place store long (inside place e) each
      by None e = refl

  -- requests, sending and grant
  abbrev next : ℕ
  next = ((shelf_in b).frame + 1) % 2 ^ 16

  on_long : length (turn_state b store) ≡ 2048
  on_long = turn_long (state_by (sender (shelf_in b)) b store) (granted (shelf_in b)).arbiter (granted (shelf_in b)).unit next sent_long asks_long

  on_formed : formed_all (turn_state b store) ≡ formed_all b
  on_formed = formed_turn (state_by (sender (shelf_in b)) b store) (granted (shelf_in b)).arbiter (granted (shelf_in b)).unit next sent_long asks_long ∙ sent_formed

  on_other : (k : ℕ) → (k < 768) ⊎ (808 ≤ k) → ((j c : ℕ) → j < 32 → j < get_or b 805 0 → 14 ≤ c → Column c → k ≡ c * 32 + j → ⊥) → get_or (turn_state b store) k 0 ≡ get_or b k 0
  on_other k (inl h) ne = turn_before (state_by (sender (shelf_in b)) b store) (granted (shelf_in b)).arbiter (granted (shelf_in b)).unit next sent_long asks_long k h ∙ sent_other k ne
  on_other k (inr h) ne = turn_behind (state_by (sender (shelf_in b)) b store) (granted (shelf_in b)).arbiter (granted (shelf_in b)).unit next sent_long asks_long k h ∙ sent_other k ne

  on_turn : shelf_in (turn_state b store) ≡ turn_put (shelf_in (state_by (sender (shelf_in b)) b store)) (granted (shelf_in b)).arbiter (granted (shelf_in b)).unit next
  on_turn = turn_shelf (state_by (sender (shelf_in b)) b store) (granted (shelf_in b)).arbiter (granted (shelf_in b)).unit next sent_long asks_long last_long (omega arith)

  on_bus : get_or (turn_state b store) 804 0 ≡ get_or b 804 0
  on_bus = ap (λ s. s.bus) on_turn ∙ sent_other 804 (λ j c hj lj lc hc e. omega arith)

  on_count : get_or (turn_state b store) 805 0 ≡ get_or b 805 0
  on_count = ap (λ s. s.count) on_turn ∙ sent_other 805 (λ j c hj lj lc hc e. omega arith)

  on_decodes : (each : List ℕ) → shelf_in (turn_state b store) ≡ (turn_done (shelf_in b) store each).reply.shelf
  on_decodes each =
      on_turn
      ∙ ap (λ s. turn_put s (granted (shelf_in b)).arbiter (granted (shelf_in b)).unit next) (sent_decodes each)

-- the whole of the frame: the same of the bytes and the store after the moves
module _ (b store : List ℕ) (long : length b ≡ 2048) where
  abbrev b' : List ℕ
  b' = (moved_in b store).bytes

  abbrev store' : List ℕ
  store' = (moved_in b store).store

  long' : length b' ≡ 2048
  long' = moves_long b store ∙ long

  at_long : length (state_at b store) ≡ 2048
  at_long = on_long b' store' long'

  at_formed : formed_all (state_at b store) ≡ formed_all b
  at_formed = on_formed b' store' long' ∙ moves_formed b store

  at_other : (k : ℕ) → (k < 768) ⊎ (808 ≤ k) → ((j c : ℕ) → j < 32 → j < get_or b 805 0 → 14 ≤ c → Column c → k ≡ c * 32 + j → ⊥) → get_or (state_at b store) k 0 ≡ get_or b k 0
  at_other k h ne = let count = moves_count b store in on_other b' store' long' k h (λ j c hj lj. ne j c hj (omega (arith, count))) ∙ moves_other b store k ne

  at_bus : get_or (state_at b store) 804 0 ≡ get_or b 804 0
  at_bus = on_bus b' store' long' ∙ moves_other b store 804 (λ j c hj lj lc hc e. omega arith)

  at_count : get_or (state_at b store) 805 0 ≡ get_or b 805 0
  at_count = on_count b' store' long' ∙ moves_count b store

  at_decodes : shelf_in (state_at b store) ≡ (done_at (shelf_in b) store).reply.shelf
  at_decodes =
      on_decodes b' store' long' (moved_each (shelf_in b))
      ∙ (λ t. (turn_done (moves_decode b store long t) (moves_store b store long t) (moved_each (shelf_in b))).reply.shelf)

-- the tie to the shelf of specs
module _ (card : Card) (b store : List ℕ) (rows lent : ℕ) where
  kept : (P : List ℕ → Type 0) → P b → P (state_at b store) → P (frame_state card b store rows lent)
  unfolding checked
  kept P was is = by (sound_in card b (length store) rows) (eqb lent 57)
    where
      by : (s t : Bool) → P (cond s (cond t (state_at b store) b) b)
      by true true = is
      by true false = was
      by false t = was

  pub frame_long : length b ≡ 2048 → formed_all b ≡ true → length (frame_state card b store rows lent) ≡ 2048
  frame_long long formed = kept (λ x. length x ≡ 2048) long (at_long b store long)

  pub frame_formed : length b ≡ 2048 → formed_all b ≡ true → formed_all (frame_state card b store rows lent) ≡ true
  frame_formed long formed = kept (λ x. formed_all x ≡ true) formed (at_formed b store long ∙ formed)

  -- the free bytes and the sessions; the columns before those of rings; the places past the declared units
  pub frame_free : length b ≡ 2048 → formed_all b ≡ true → (k : ℕ) → ((808 ≤ k) × (k < 832)) ⊎ (992 ≤ k) → get_or (frame_state card b store rows lent) k 0 ≡ get_or b k 0
  frame_free long formed k (inl h) = kept (λ x. get_or x k 0 ≡ get_or b k 0) refl (at_other b store long k (inr h.0) (λ j c hj lj lc hc e. omega arith))
  frame_free long formed k (inr h) = kept (λ x. get_or x k 0 ≡ get_or b k 0) refl (at_other b store long k (inr (omega arith)) (λ j c hj lj lc hc e. omega arith))

  -- the bus and the count of units
  pub frame_bus : length b ≡ 2048 → get_or (frame_state card b store rows lent) 804 0 ≡ get_or b 804 0
  frame_bus long = kept (λ x. get_or x 804 0 ≡ get_or b 804 0) refl (at_bus b store long)

  pub frame_count : length b ≡ 2048 → get_or (frame_state card b store rows lent) 805 0 ≡ get_or b 805 0
  frame_count long = kept (λ x. get_or x 805 0 ≡ get_or b 805 0) refl (at_count b store long)

  pub frame_kept : length b ≡ 2048 → formed_all b ≡ true → (k : ℕ) → k < 448 → get_or (frame_state card b store rows lent) k 0 ≡ get_or b k 0
  frame_kept long formed k high = kept (λ x. get_or x k 0 ≡ get_or b k 0) refl (at_other b store long k (inl (omega arith)) (λ j c hj lj lc hc e. omega arith))

  pub frame_others : length b ≡ 2048 → formed_all b ≡ true → (k : ℕ) → (k < 768) ⊎ ((832 ≤ k) × (k < 992)) → get_or b 805 0 ≤ k % 32 → get_or (frame_state card b store rows lent) k 0 ≡ get_or b k 0
  frame_others long formed k (inl h) past = kept (λ x. get_or x k 0 ≡ get_or b k 0) refl (at_other b store long k (inl h) (λ j c hj lj lc hc e. omega arith))
  frame_others long formed k (inr h) past = kept (λ x. get_or x k 0 ≡ get_or b k 0) refl (at_other b store long k (inr (omega arith)) (λ j c hj lj lc hc e. omega arith))

  pub frame_decodes : length b ≡ 2048 → formed_all b ≡ true → shelf_in (frame_state card b store rows lent) ≡ (frame_done card (shelf_in b) store rows lent).reply.shelf
  unfolding checked sound_in
  frame_decodes long formed =
      ap (λ s. shelf_in (cond (s && sound_of card (shelf_in b) (length store) rows) (cond (eqb lent 57) (state_at b store) b) b)) formed ∙ by (sound_of card (shelf_in b) (length store) rows) (eqb lent 57)
    where
      by : (s t : Bool) → shelf_in (cond s (cond t (state_at b store) b) b) ≡ (cond s (cond t (done_at (shelf_in b) store) (refused (shelf_in b) 10)) (refused (shelf_in b) 8)).reply.shelf
      by true true = at_decodes b store long
      by true false = refl
      by false t = refl
