-- Frames go on. Assumes nothing.
use Rattle.std.specs.Prelude.{None, Option, Some}
use Prim.Native.Nat.{ℕ, zero, suc, ◌+◌, ◌-◌, ◌%◌, ◌^◌, ◌<◌, ◌≤◌}
use native.Mathlib.Omega.{arith}
use mathlib.Core.Path.{◌≡◌, refl, sym, ap, subst, ◌∙◌}
use mathlib.Core.Logic.{◌⊎◌, inl, inr, ⊎_elim}
use mathlib.Core.Bool.{true, false, cond}
use mathlib.Core.List.{List, [], ◌∷◌, ◌++◌, map}
use lib.Dec.{eqb, ltb}
use lib.ListN.{length, length-set, length-append, length-map, get_or, set, replicate, get_or-replicate, get_or-eq_default}
use lib.Seq.{get_or-set_same, get_or-set_other}
use borrow.Author.Tests.{eqb-true, eqb-false, eq-eqb, ltb-true, ltb-false, lt-ltb, le-ltb}
use Rattle.bus.specs.Frame.{returned}
use Rattle.arbiter.specs.Arbitration.{nobody, fresh, besides, due, arbiter_of, asks_now, Asks, Changed}
use Rattle.arbiter.proofs.Requests.{renewed_many, renewed_at, asks_with, asks_without}
use Rattle.arbiter.proofs.Grants.{not_granted, grants_if_asked, granted_highest, granted_first, granted_changes}
use Rattle.store.proofs.Slots.{by_lt}
use Rattle.shelf.specs.Shelves.{place_from}
use Rattle.line.specs.declared.Line.{Line}
use Rattle.meaning.proofs.Grown.{decide}
use Rattle.answer.specs.declared.Answer.TheVariants.{Framed}
use Rattle.document.specs.Events.{frame, answers}
use Rattle.document.specs.Shelf as D
use Rattle.document.specs.Frame.{moving, moved_unit, moved, requests, asking_of, frame_of, sends_one, sends, sent_in, framed, framed_answer, framed_bytes}
use Rattle.document.specs.Steps.{step, happens_to, becomes}
use Rattle.document.proofs.Fixed.{unit_moved, given_kept}
use Rattle.flow.specs.Lost.{Different}
use Rattle.flow.specs.Parts.{From, from_inlet, from_control, from_loopback, chosen_of, cell_of, without}
use Rattle.flow.specs.Order.{InTurn}
use Rattle.flow.proofs.Times.{moved_unit_lem, found as found_at}
use Rattle.flow.proofs.Turns.{number_moved, numbers_moved, as_sending, as_sending_lem, moved_different}
use Rattle.flow.proofs.Moves.{moved_by_lem, moved_in}
use Rattle.flow.proofs.Kept.{number_at, as_many}
use Rattle.flow.proofs.Senders.{Backed, backed, found_here}
use Rattle.fates.specs.Frames.{asks_of, granted_now, after_frame, Renewed, left_by, AsksRightly, Waits, GrantedInTurn, in_outlets, moving_all, SendsOldest, Idle, Starts, GoesOn, FramesGoOn}
use Rattle.fates.proofs.Standing.{Stands}
use Rattle.fates.proofs.Loads.{from_load}
use Rattle.fates.proofs.Fated.{untrue}
use Rattle.fates.proofs.Holding.{is_chosen, found_moved, hears_all}
use Rattle.fates.proofs.Copying.{copies_queued}

-- a frame whose buffer has its length is not refused
pub let_in : (d : D.Shelf) (buffer : List ℕ) → length buffer ≡ 57 → happens_to d (frame buffer) ≡ step (answers (framed_answer d buffer)) (framed d buffer) (framed_bytes d buffer)
unfolding happens_to
let_in d buffer whole = rw (eq-eqb (length buffer) 57 whole)

-- what a unit asks now stands at its number, where no other unit has that number
module _ (g : ℕ) where
  abbrev asked : D.Unit → ℕ
  asked u = asks_now g (D.number_of u) u.settings.priority (D.waiting u)

  asked_other : (now : List ℕ) (us : List D.Unit) (n : ℕ) → ((j : ℕ) → j < length us → D.number_of (get_or us j D.blank) ≡ n → ⊥) → get_or (asking_of g now us) n 0 ≡ get_or now n 0
  unfolding asking_of
  asked_other now [] n f = refl
  asked_other now (u ∷ us) n f =
      asked_other (set now (D.number_of u) (asked u)) us n (λ j h. f (suc j) (omega arith)) ∙ get_or-set_other now (D.number_of u) n (asked u) 0 (λ e. f 0 (omega arith) (sym e))

  -- so each unit finds its own
  asked_at : (now : List ℕ) (us : List D.Unit) (i : ℕ) → i < length us → Different us → D.number_of (get_or us i D.blank) < length now →
      get_or (asking_of g now us) (D.number_of (get_or us i D.blank)) 0 ≡ asked (get_or us i D.blank)
  unfolding asking_of
  asked_at now [] i h once low = absurd (omega arith)
  asked_at now (u ∷ us) zero h once low =
      asked_other (set now (D.number_of u) (asked u)) us (D.number_of u) (λ j k e. once 0 (suc j) (omega arith) (omega arith) (sym e))
      ∙ get_or-set_same now (D.number_of u) (asked u) 0 low
  asked_at now (u ∷ us) (suc i) h once low =
      asked_at (set now (D.number_of u) (asked u)) us i (omega arith) (λ j k l m. once (suc j) (suc k) (omega arith) (omega arith)) (omega (arith, low, length-set now (D.number_of u) (asked u)))

-- before any request
no_requests : (n : ℕ) → get_or fresh.asks n 0 ≡ 0
no_requests n = by_lt n 32 (get_or-replicate 32 n 0 0) (λ h. get_or-eq_default fresh.asks 0 {n = n} h)

-- when a request is renewed
module _ (d : D.Shelf) (n : ℕ) where
  pub is_due : Renewed d n → due d.bus d.frame n ≡ true
  unfolding due
  is_due r =
      decide (eqb d.bus 32)
      (λ t.
      ⊎_elim (λ b. absurd (omega (arith, b, eqb-true d.bus 32 t)))
      (⊎_elim (λ e. rw (t, lt-ltb n 16 e.0, eq-eqb (d.frame % 2) 0 e.1)) (λ o. rw (t, le-ltb n 16 o.0, eq-eqb (d.frame % 2) 1 o.1))) r)
      (λ t. rw t)

  -- on a 32 bus only so
  pub is_renewed : (d.bus ≡ 16) ⊎ (d.bus ≡ 32) → due d.bus d.frame n ≡ true → Renewed d n
  unfolding due
  is_renewed bus e =
      ⊎_elim inl
      (λ b.
      let f = rw (eq-eqb d.bus 32 b) at e in
      decide (ltb n 16)
      (λ t. inr (inl (ltb-true n 16 t, eqb-true (d.frame % 2) 0 (rw t at f))))
      (λ t. inr (inr (ltb-false n 16 t, eqb-true (d.frame % 2) 1 (rw t at f)))))
      bus

module _ (d : D.Shelf) where
  -- what all units ask now
  abbrev asks_all : List ℕ
  asks_all = asking_of d.granted (replicate 32 0) (map moved_unit d.units)

  -- a request, renewed or not
  request_at : (n : ℕ) → n < length d.arbiter.asks → get_or (asks_of d) n 0 ≡ cond (due d.bus d.frame n) (get_or asks_all n 0) (get_or d.arbiter.asks n 0)
  request_at n h =
      let z : n ≡ 0 + n = omega arith in
      renewed_at d.bus d.frame asks_all 0 d.arbiter.asks n h
      ∙ ap (λ k. cond (due d.bus d.frame k) (get_or asks_all k 0) (get_or d.arbiter.asks n 0)) (sym z)

  pub beyond : (n : ℕ) → length d.arbiter.asks ≤ n → get_or (asks_of d) n 0 ≡ 0
  beyond n h = let many = renewed_many d.bus d.frame asks_all 0 d.arbiter.asks in get_or-eq_default (asks_of d) 0 {n = n} (omega arith)

  -- a request that is not due stands
  stands : (n : ℕ) → due d.bus d.frame n ≡ false → get_or (asks_of d) n 0 ≡ get_or d.arbiter.asks n 0
  stands n other =
      by_lt n (length d.arbiter.asks)
      (λ h. request_at n h ∙ ap (λ b. cond b (get_or asks_all n 0) (get_or d.arbiter.asks n 0)) other)
      (λ h. beyond n h ∙ sym (get_or-eq_default d.arbiter.asks 0 {n = n} h))

  module _ (buffer : List ℕ) (whole : length buffer ≡ 57) where
    -- the grant that a frame leaves open, its number, its last units granted and its requests
    opened : (after_frame d buffer).granted ≡ granted_now d
    opened = ap (λ s. s.shelf.granted) (let_in d buffer whole)

    numbered : (after_frame d buffer).frame ≡ (d.frame + 1) % 2 ^ 16
    numbered = ap (λ s. s.shelf.frame) (let_in d buffer whole)

    changed : (granted_now d ≡ nobody → ⊥) → Changed d.arbiter.last (asks_of d) (get_or (asks_of d) (granted_now d) 0) (granted_now d) (left_by d buffer)
    changed some =
        subst (λ x. Changed d.arbiter.last (asks_of d) (get_or (asks_of d) (granted_now d) 0) (granted_now d) (record { unit = granted_now d; last = x.last; asks = x.asks }))
        (ap (λ s. s.shelf.arbiter) (sym (let_in d buffer whole))) (granted_changes d.arbiter.last (asks_of d) some)

    -- or no grant
    rested : granted_now d ≡ nobody → (after_frame d buffer).arbiter ≡ requests (moved d)
    rested none = ap (λ s. s.shelf.arbiter) (let_in d buffer whole) ∙ ap arbiter_of (not_granted d.arbiter.last (asks_of d) none)

-- a cell waits when the cells have moved, if one did before; and one is then in turn
pub waits_moved : (u : D.Unit) → D.waiting u ≤ D.waiting (moved_unit u)
waits_moved u =
    let a = ap length (moved_by_lem (λ v. v.inlet) u (λ back out. refl)) in
    let b = ap length (moved_by_lem (λ v. v.side.controlin) u (λ back out. refl)) in
    let c = sym (length-append u.side.loopbackin (map returned (moving u))) ∙ ap length (moved_in u) in
    omega (arith, a, b, c)

in_turn_one : (u : D.Unit) → 1 ≤ D.waiting u → (f : From) × InTurn u f
in_turn_one u some = go u.inlet refl u.side.controlin refl u.side.loopbackin refl
  where
    go : (inlet : List D.Routed) → u.inlet ≡ inlet → (control : List (List ℕ)) → u.side.controlin ≡ control → (loopback : List (List ℕ)) → u.side.loopbackin ≡ loopback → (f : From) × InTurn u f
    go (r ∷ rest) a control b loopback c = (from_inlet r rest, a)
    go [] a (x ∷ rest) b loopback c = (from_control x rest, (a, b))
    go [] a [] b (x ∷ rest) c = (from_loopback x rest, (a, b, c))
    go [] a [] b [] c = absurd (omega (arith, some, ap length a, ap length b, ap length c))

-- who waits, in our words
pub waits_in : (d : D.Shelf) → Backed d → (d.granted ≡ nobody → ⊥) → Waits d d.granted
waits_in d b some = let w = b.grant some in record { place = w.place; declared = w.inside; named = w.named; cell = w.enough }

module _ (d : D.Shelf) (s : Stands d) where
  -- the unit with the open grant is found
  pub open_grant : (some : d.granted ≡ nobody → ⊥) → D.find_in d.units d.granted ≡ Some (waits_in d s.backed some).place
  open_grant some =
      let w = waits_in d s.backed some in
      ap (D.find_in d.units) (sym w.named) ∙ found_here d.units s.once w.place w.declared

  -- no unit is nobody
  nobody_found : D.find_in (moved d).units nobody ≡ None
  nobody_found = ap (λ l. place_from 0 l nobody) (numbers_moved d.units) ∙ go (D.find_in d.units nobody) refl
    where
      go : (f : Option ℕ) → D.find_in d.units nobody ≡ f → f ≡ None
      go None e = refl
      go (Some i) e =
          let at = found_at d.units nobody i e in
          let n = at.1 in
          absurd (omega (arith, (s.units i at.0).below))

  -- the cell that is sent
  pub has_cell : (some : d.granted ≡ nobody → ⊥) → (f : From) × InTurn (moved_unit (D.unit_at d (waits_in d s.backed some).place)) f
  has_cell some =
      let w = waits_in d s.backed some in
      let u = D.unit_at d w.place in
      in_turn_one (moved_unit u) (omega (arith, w.cell, waits_moved u))

  module _ (buffer : List ℕ) (whole : length buffer ≡ 57) (w : Waits d d.granted) (there : D.find_in d.units d.granted ≡ Some w.place) (f : From) (turn : InTurn (moved_unit (D.unit_at d w.place)) f) where
    -- what is left when that cell has been on the bus
    pub sent_is : sent_in (moved d) buffer ≡ sends_one (Some (record { cell = cell_of f; left = without f (D.unit_at (moved d) w.place) })) (moved d) w.place buffer
    unfolding sends as_sending
    sent_is =
        let u = D.unit_at (moved d) w.place in
        ap (λ g. sends g (moved d) buffer) (found_moved d d.granted w.place there)
        ∙ ap (λ o. sends_one o (moved d) w.place buffer)
        (as_sending_lem u ∙ ap (as_sending u) (ap chosen_of (moved_unit_lem d.units w.place) ∙ is_chosen (moved_unit (D.unit_at d w.place)) f turn))

    -- its bytes
    pub sent_bytes : (happens_to d (frame buffer)).bytes ≡ frame_of (cell_of f)
    unfolding sends_one
    sent_bytes = ap (λ s. s.bytes) (let_in d buffer whole) ∙ ap (λ s. s.bytes) sent_is

    -- the copies that are queued
    pub sent_copies : in_outlets (after_frame d buffer).units + length (moving_all d.units) ≡ (sent_in (moved d) buffer).queued + in_outlets d.units
    unfolding sends_one
    sent_copies =
        ap (λ s. in_outlets s.shelf.units + length (moving_all d.units)) (let_in d buffer whole) ∙ ap (λ s. in_outlets s.units + length (moving_all d.units)) sent_is
        ∙ copies_queued d s.fours w.place f (cell_of f) ∙ ap (λ s. s.queued + in_outlets d.units) (sym sent_is)

    -- all of it
    abbrev pub sent_at : SendsOldest d buffer
    sent_at =
        record {
          sender = w;
          found = there;
          from = f;
          oldest = turn;
          copies = (sent_in (moved d) buffer).queued;
          says = ap (λ s. s.said) (let_in d buffer whole);
          bytes = sent_bytes;
          gone = (hears_all d s.fours buffer w.place f whole there turn w.place w.declared).2 refl;
          grown = sent_copies;
        }

  -- the unit granted in the frame before sends its oldest cell
  sends_oldest : (d.granted ≡ nobody → ⊥) → (buffer : List ℕ) → length buffer ≡ 57 → SendsOldest d buffer
  sends_oldest some buffer whole = let c = has_cell some in sent_at buffer whole (waits_in d s.backed some) (open_grant some) c.0 c.1

  -- nobody was granted: the frame is idle
  idles : d.granted ≡ nobody → (buffer : List ℕ) → length buffer ≡ 57 → Idle d buffer
  unfolding sends
  idles n buffer whole =
      let none = ap (D.find_in (moved d).units) n ∙ nobody_found in
      record {
        says = ap (λ s. s.said) (let_in d buffer whole) ∙ (λ t. answers (Framed d.frame (n t) (granted_now d) (sends (none t) (moved d) buffer).queued));
        bytes = ap (λ s. s.bytes) (let_in d buffer whole) ∙ (λ t. (sends (none t) (moved d) buffer).bytes);
        units = ap (λ s. s.shelf.units) (let_in d buffer whole) ∙ (λ t. (sends (none t) (moved d) buffer).units);
        history = ap (λ s. s.shelf.history) (let_in d buffer whole) ∙ (λ t. (sends (none t) (moved d) buffer).happened ++ (moved d).history);
      }

  -- a unit's request that is renewed is what it asks now, its cell moved
  request_is : (i : ℕ) → i < length d.units → due d.bus d.frame (D.number_of (D.unit_at d i)) ≡ true →
      get_or (asks_of d) (D.number_of (D.unit_at d i)) 0 ≡ asks_now d.granted (D.number_of (D.unit_at d i)) (D.unit_at d i).settings.priority (D.waiting (moved_unit (D.unit_at d i)))
  request_is i h turn =
      let u = D.unit_at d i in
      let v = D.unit_at (moved d) i in
      let n = D.number_of u in
      let is : v ≡ moved_unit u = moved_unit_lem d.units i in
      let number : D.number_of v ≡ n = ap D.number_of is ∙ number_moved u in
      let priority : v.settings.priority ≡ u.settings.priority = ap (λ x. x.settings.priority) is ∙ ap (λ g. g.settings.priority) (unit_moved u) in
      let low : n < 32 = (s.units i h).below in
      let many = s.full.asks in
      request_at d n (omega arith)
      ∙ ap (λ b. cond b (get_or (asks_all d) n 0) (get_or d.arbiter.asks n 0)) turn
      ∙ ap (λ k. get_or (asks_all d) k 0) (sym number)
      ∙ asked_at d.granted (replicate 32 0) (moved d).units i (omega (arith, h, length-map d.units moved_unit)) (moved_different d s.once) (omega (arith, low, number))
      ∙ (λ t. asks_now d.granted (number t) (priority t) (D.waiting (is t)))

  -- so it asks at its priority exactly if it has a cell besides a granted one
  asks_rightly : (i : ℕ) → i < length d.units → Renewed d (D.number_of (D.unit_at d i)) → AsksRightly d (D.unit_at d i)
  asks_rightly i h renewed =
      let u = D.unit_at d i in
      let turn = is_due d (D.number_of u) renewed in
      let mine = eqb (D.number_of u) d.granted in
      let cells = besides (D.waiting (moved_unit u)) mine in
      let with : 1 ≤ cells → get_or (asks_of d) (D.number_of u) 0 ≡ u.settings.priority =
      λ c. request_is i h turn ∙ asks_with u.settings.priority (D.waiting (moved_unit u)) mine c in
      let without : cells ≡ 0 → get_or (asks_of d) (D.number_of u) 0 ≡ 0 =
      λ c. request_is i h turn ∙ asks_without u.settings.priority (D.waiting (moved_unit u)) mine c in
      let some : 1 ≤ get_or (asks_of d) (D.number_of u) 0 → 1 ≤ cells = λ r. by_lt 0 cells (λ c. c) (λ c. absurd (omega (arith, r, without (omega arith)))) in
      let k = s.units i h in
      let asking : 1 ≤ cells → Asks (asks_of d) (D.number_of u) = λ c. (k.below, omega (arith, with c, k.least), omega (arith, with c, k.most)) in
      record {
        exactly = (λ r. some r.1, asking);
        at_own = λ r. with (some r.1);
        silent = λ no. by_lt 0 cells (λ c. absurd (no (asking c))) (λ c. without (omega arith));
      }

  -- a number that no unit has
  unasked : (n : ℕ) → ((i : ℕ) → i < length d.units → D.number_of (D.unit_at d i) ≡ n → ⊥) → get_or (asks_of d) n 0 ≡ 0
  unasked n apart =
      let none : (i : ℕ) → i < length (moved d).units → D.number_of (D.unit_at (moved d) i) ≡ n → ⊥ =
      λ i h e. apart i (omega (arith, h, length-map d.units moved_unit)) (sym (ap D.number_of (moved_unit_lem d.units i) ∙ number_moved (D.unit_at d i)) ∙ e) in
      decide (due d.bus d.frame n)
      (λ t.
      by_lt n (length d.arbiter.asks)
      (λ h.
      request_at d n h ∙ ap (λ b. cond b (get_or (asks_all d) n 0) (get_or d.arbiter.asks n 0)) t
      ∙ asked_other d.granted (replicate 32 0) (moved d).units n none ∙ no_requests n)
      (beyond d n))
      (λ t.
      stands d n t
      ∙ decide (eqb (get_or d.arbiter.asks n 0) 0)
      (λ q. eqb-true (get_or d.arbiter.asks n 0) 0 q)
      (λ q. let w = s.backed.asked n (eqb-false (get_or d.arbiter.asks n 0) 0 q) in absurd (apart w.place w.inside w.named)))

  -- the others stand
  others_stand : (n : ℕ) → (Renewed d n → ⊥) → get_or (asks_of d) n 0 ≡ get_or d.arbiter.asks n 0
  others_stand n not = stands d n (untrue (due d.bus d.frame n) (λ e. not (is_renewed d n s.bus e)))

  -- who is granted has a cell after the frame, and is declared in it
  still_waits : (granted_now d ≡ nobody → ⊥) → (buffer : List ℕ) → length buffer ≡ 57 → Waits (after_frame d buffer) (granted_now d)
  unfolding becomes
  still_waits some buffer whole =
      let e = opened d buffer whole in
      subst (Waits (after_frame d buffer)) e (waits_in (after_frame d buffer) (backed d (frame buffer ∷ []) s.backed) (λ n. some (sym e ∙ n)))

  -- who is granted is declared, asks at the highest priority, and is the first in turn
  in_turn : (granted_now d ≡ nobody → ⊥) → GrantedInTurn d
  in_turn some =
      let buffer : List ℕ = replicate 57 0 in
      let v = still_waits some buffer refl in
      let same = given_kept d (frame buffer) in
      record {
        place = v.place;
        declared = omega (arith, v.declared, as_many d (after_frame d buffer) same);
        named = sym (number_at d (after_frame d buffer) same v.place) ∙ v.named;
        highest = granted_highest d.arbiter.last (asks_of d) some;
        first = granted_first d.arbiter.last (asks_of d) some;
      }

-- all of it, of a shelf that stands
goes_on : (d : D.Shelf) → Stands d → GoesOn d
goes_on d s =
    record {
      asks = asks_rightly d s;
      stand = others_stand d s;
      undeclared = unasked d s;
      granted = grants_if_asked d.arbiter.last (asks_of d);
      in_turn = in_turn d s;
      three = s.full.lasts;
      keeps = λ some buffer whole. changed d buffer whole some;
      rests = λ none buffer whole. rested d buffer whole none;
      sends = sends_oldest d s;
      idle = idles d s;
      still = still_waits d s;
      opens = opened d;
      numbers = numbered d;
    }

-- how a table starts
starts : (lines : List Line) → Starts (D.opened lines)
starts lines =
    record {
      number = refl;
      grant = refl;
      lasts = λ p least most. get_or-replicate 3 (p - 1) nobody 0 (omega arith);
      asks = no_requests;
    }

-- so from a good load on
pub frames_go_on : FramesGoOn
frames_go_on = (starts, from_load GoesOn goes_on)
