-- A unit that asks at 3 is granted within so many frames: over every sequence of events, and on our shelf. Assumes nothing.
use Prim.Native.Nat.{ℕ, suc, ◌+◌, ◌<◌, ◌≤◌}
use native.Mathlib.Omega.{arith}
use mathlib.Core.Path.{◌≡◌, refl, sym, ap, subst, ◌∙◌}
use mathlib.Core.Bool.{true, false, cond}
use mathlib.Core.List.{List, [], ◌∷◌, ◌++◌}
use lib.Dec.{leb}
use lib.ListN.{length, get_or, drop}
use borrow.Author.Tests.{eq-eqb}
use Rattle.outlet.proofs.Truth.{decide}
use Rattle.card.specs.declared.Card.{Card}
use Rattle.arbiter.specs.Arbitration.{arbiter_of, granted}
use Rattle.arbiter.specs.declared.Grant.{Grant}
use Rattle.line.specs.declared.Line.{Line}
use Rattle.answer.specs.declared.Answer.TheVariants.{Framed}
use Rattle.paper.specs.Grants.{turn, last_at}
use Rattle.document.specs.Events.{Event, frame, bytes_of, answers, Back}
use Rattle.document.specs.Shelf.{Shelf, opened}
use Rattle.document.specs.Frame.{moved, sent_in}
use Rattle.document.specs.Steps as document
use Rattle.document.proofs.Fixed.{given_stays}
use Rattle.running.specs.Lent.{Lent, does, run_in, loaded_in}
use Rattle.refining.specs.Refines.{gives}
use Rattle.refining.proofs.Refined.{refines}
use Rattle.fates.specs.Frames.{asks_of}
use Rattle.fates.proofs.Standing.{Stands}
use Rattle.fates.proofs.Loads.{from_load}
use Rattle.fates.proofs.Going.{frames_go_on}
use Rattle.waiting.specs.Waiting.{is_frame, frames_in, GrantedBy, at_three, up_to, Holds, HoldsFor, WaitsAtMost, WaitsItsTurn}
use Rattle.waiting.proofs.Turns.{few_among, Turned, its_own, asks_on, nearer, in_turn}
use Rattle.waiting.proofs.Frames.{arbiter_after, frame_says, holds}

-- A. one event
-- the arbiter after a frame, and after another event
abbrev grant : Shelf → Grant
grant d = granted d.arbiter.last (asks_of d)

after_frame : (d : Shelf) (e : Event) → is_frame e ≡ true → (document.happens_to d e).shelf.arbiter ≡ arbiter_of (grant d)
after_frame d e t = arbiter_after d e ∙ ap (λ b. cond b (arbiter_of (grant d)) d.arbiter) t

after_other : (d : Shelf) (e : Event) → is_frame e ≡ false → (document.happens_to d e).shelf.arbiter ≡ d.arbiter
after_other d e t = arbiter_after d e ∙ ap (λ b. cond b (arbiter_of (grant d)) d.arbiter) t

-- one more event before the grant
later : (e : Event) (b : Back) (unit n m : ℕ) (es : List Event) (back : List Back) → cond (is_frame e) 1 0 + m ≤ n → GrantedBy unit m es back → GrantedBy unit n (e ∷ es) (b ∷ back)
unfolding frames_in
later e b unit n m es back fits g =
    record { place = suc g.place; soon = omega (arith, g.soon); number = g.number; sender = g.sender; copies = g.copies; says = g.says }

-- B. of any units that may ask at 3
module _ (may : List ℕ) where
  -- how many of them stand up to a unit
  abbrev ahead : Shelf → ℕ → ℕ
  ahead d unit = length (up_to (last_at d.arbiter.last 3) unit may)

  turned : (d : Shelf) → Holds may d → (unit : ℕ) → get_or (asks_of d) unit 0 ≡ 3 → Turned may d.arbiter.last unit (grant d)
  turned d h unit ask = nearer may d.arbiter.last (asks_of d) unit (grant d) h.few h.one ask (in_turn d.arbiter.last (asks_of d) h.three unit (h.few unit ask) ask)

  -- a frame that takes the request up, and what is known of the events behind it
  from_frame : (d : Shelf) → Holds may d → (e : Event) → is_frame e ≡ true → (unit : ℕ) → get_or (asks_of d) unit 0 ≡ 3 → (es : List Event) →
      (get_or (document.happens_to d e).shelf.arbiter.asks unit 0 ≡ 3 → ahead (document.happens_to d e).shelf unit < ahead d unit →
      GrantedBy unit (ahead (document.happens_to d e).shelf unit) es (document.gives (document.happens_to d e).shelf es)) →
      GrantedBy unit (ahead d unit) (e ∷ es) (document.gives d (e ∷ es))
  unfolding document.gives frames_in
  from_frame d h e t unit ask es rest = go (turned d h unit ask)
    where
      d' : Shelf
      d' = (document.happens_to d e).shelf

      go : Turned may d.arbiter.last unit (grant d) → GrantedBy unit (ahead d unit) (e ∷ es) (document.gives d (e ∷ es))
      go (its_own own some) =
          record {
            place = 0;
            soon = some;
            number = d.frame;
            sender = d.granted;
            copies = (sent_in (moved d) (bytes_of e)).queued;
            says = frame_says d e t ∙ ap (λ v. answers (Framed d.frame d.granted v (sent_in (moved d) (bytes_of e)).queued)) own;
          }
      go (asks_on on near) =
          let one = ap {B = ℕ} (λ b. cond b 1 0) t in
          let is = after_frame d e t in
          let same = ap (λ a. length (up_to (last_at a.last 3) unit may)) is in
          later e _ unit (ahead d unit) (ahead d' unit) es (document.gives d' es) (omega arith) (rest (ap (λ a. get_or a.asks unit 0) is ∙ on) (omega arith))

  some_ahead : (d : Shelf) → Holds may d → (unit : ℕ) → get_or (asks_of d) unit 0 ≡ 3 → 0 < ahead d unit
  some_ahead d h unit ask = go (turned d h unit ask)
    where
      go : Turned may d.arbiter.last unit (grant d) → 0 < ahead d unit
      go (its_own own some) = some
      go (asks_on on near) = omega arith

  -- over every sequence of events
  Ever : Shelf → Type 0
  Ever d = (es : List Event) → Holds may (document.becomes d es)

  granted_within : (d : Shelf) → Ever d → (unit : ℕ) → get_or d.arbiter.asks unit 0 ≡ 3 → (es : List Event) → ahead d unit ≤ frames_in es → GrantedBy unit (ahead d unit) es (document.gives d es)
  unfolding Ever frames_in document.gives document.becomes
  granted_within d ever unit ask [] enough = absurd (omega (arith, some_ahead d (ever []) unit ((ever []).stand unit ask)))
  granted_within d ever unit ask (e ∷ es) enough =
      let d' = (document.happens_to d e).shelf in
      decide (is_frame e)
      (λ t.
      let one = ap {B = ℕ} (λ b. cond b 1 0) t in
      from_frame d (ever []) e t unit ((ever []).stand unit ask) es (λ on near. granted_within d' (λ fs. ever (e ∷ fs)) unit on es (omega arith)))
      (λ t.
      let none = ap {B = ℕ} (λ b. cond b 1 0) t in
      let is = after_other d e t in
      let same = ap (λ a. length (up_to (last_at a.last 3) unit may)) is in
      later e _ unit (ahead d unit) (ahead d' unit) es (document.gives d' es) (omega arith)
      (granted_within d' (λ fs. ever (e ∷ fs)) unit (ap (λ a. get_or a.asks unit 0) is ∙ ask) es (omega arith)))

-- C. on our shelf
-- what it gives back after some events is what the document's shelf gives back after them
pub gives_after : (card : Card) (l : Lent) (d : Shelf) → ((es : List Event) → gives card l es ≡ document.gives d es) → (es later : List Event) → gives card (run_in card l es) later ≡ document.gives (document.becomes d es) later
unfolding gives run_in document.gives document.becomes
gives_after card l d same [] later = same later
gives_after card l d same (e ∷ es) later = gives_after card (does card l e).lent (document.happens_to d e).shelf (λ fs. ap (drop 1) (same (e ∷ fs))) es later

becomes_after : (d : Shelf) (es later : List Event) → document.becomes d (es ++ later) ≡ document.becomes (document.becomes d es) later
unfolding document.becomes
becomes_after d [] later = refl
becomes_after d (e ∷ es) later = becomes_after (document.happens_to d e).shelf es later

-- whichever units may ask at 3
module _ (may : List Line → List ℕ) where
  its_turn : HoldsFor may → WaitsItsTurn may
  unfolding is_frame frames_in Ever document.becomes
  its_turn hold card text memory store rows told good es buffer more whole unit up enough =
      let d = document.becomes (opened told) es in
      let ever : Ever (may told) d = λ fs. subst (Holds (may told)) (becomes_after (opened told) es fs) (hold card text memory store rows told good (es ++ fs)) in
      let t = eq-eqb (length buffer) 57 whole in
      let one = ap {B = ℕ} (λ b. cond b 1 0) t in
      subst (GrantedBy unit (ahead (may told) d unit) (frame buffer ∷ more)) (sym (gives_after card (loaded_in card text memory store rows) (opened told) (refines card text memory store rows told good) es (frame buffer ∷ more)))
      (from_frame (may told) d (ever []) (frame buffer) t unit up more
      (λ on near. granted_within (may told) (document.happens_to d (frame buffer)).shelf (λ fs. ever (frame buffer ∷ fs)) unit on more (omega arith)))

  -- so within as many frames as there are such units
  at_most : WaitsItsTurn may → WaitsAtMost may
  at_most waits card text memory store rows told good es buffer more whole unit up enough =
      let last = last_at (document.becomes (opened told) es).arbiter.last 3 in
      let fits = few_among (λ n. leb (turn last n) (turn last unit)) (may told) in
      let g = waits card text memory store rows told good es buffer more whole unit up (omega arith) in
      record { place = g.place; soon = omega (arith, g.soon); number = g.number; sender = g.sender; copies = g.copies; says = g.says }

-- those at priority 3
three_hold : HoldsFor at_three
three_hold card text memory store rows told good es =
    holds told (document.becomes (opened told) es) (given_stays (opened told) es) (from_load Stands (λ x s. s) card text memory store rows told good es) (frames_go_on.1 card text memory store rows told good es)

pub waits_its_turn : WaitsItsTurn at_three
waits_its_turn = its_turn at_three three_hold

pub waits_at_most : WaitsAtMost at_three
waits_at_most = at_most at_three waits_its_turn
