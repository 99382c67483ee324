-- The shelf refines the document's shelf; its counters are the history; both cards are one. Assumes nothing.
use Rattle.std.specs.Prelude.{Ok}
use Prim.Native.Nat.{ℕ, ◌*◌, ◌<◌, ◌≤◌, min}
use native.Mathlib.Omega.{arith}
use mathlib.Core.Path.{◌≡◌, refl, sym, ap, subst, ◌∙◌}
use mathlib.Core.Logic.{⊎_elim}
use mathlib.Core.Bool.{true}
use mathlib.Core.List.{List, [], ◌∷◌}
use lib.ListN.{length, get_or, get_or-map}
use Rattle.card.specs.declared.Card.{Card}
use Rattle.card.specs.declared.Card.TheVariants.{Narrow, Wide}
use Rattle.lookup.specs.Record.{most, usable}
use Rattle.line.specs.declared.Line.{Line}
use Rattle.answer.specs.Counting.{zeros}
use Rattle.answer.specs.declared.Counters as C
use Rattle.meaning.specs.Lines.{Good}
use Rattle.table.specs.Load.{load}
use Rattle.table.specs.Loads.{answer_of}
use Rattle.table.proofs.EventInPlace.{load_formed, load_long}
use Rattle.promise.specs.Refusals.{Accepts}
use Rattle.promise.specs.Says.{unit_lines}
use Rattle.promise.proofs.Faults.{good_iff}
use Rattle.promise.proofs.Refusals.{accepts_good, accepted, loaded_refused, refused_number, refused_line}
use Rattle.promise.specs.Narrow.{FirstWide}
use Rattle.promise.proofs.Cards.{wide_or_not, narrow_accepts, narrow_refuses_iff}
use Rattle.document.specs.Events.{Event, arrive, frame, hear, take_cell, count, hand, collect, Back}
use Rattle.document.specs.Counters.{counter_of}
use Rattle.document.specs.Shelf as D
use Rattle.document.specs.Steps as document
use Rattle.document.proofs.Fixed.{given_of, given_stays}
use Rattle.running.specs.Events.{World, happens}
use Rattle.running.specs.Keeping.{run, loaded}
use Rattle.running.specs.Lent.{Lent, Long, does, loaded_in, seen}
use Rattle.paper.specs.Counters.{row_at, value_of}
use Rattle.paper.proofs.Counters.{value_is}
use Rattle.paper.specs.Answers.{IsRefused}
use Rattle.running.proofs.Tables.{table_refused, refused_is}
use Rattle.running.proofs.Kept.{soundness_kept}
use Rattle.running.proofs.InPlace.{same, formed_after, long_after, loaded_seen, runs_in_place}
use Rattle.soundness.specs.Soundings.{formed_all}
use Rattle.refining.specs.Refines.{gives, Refines, CountersAreHistory}
use Rattle.refining.specs.Cards.{Equal, TooWide, SameCard}
use Rattle.refining.proofs.Alike.{WorldAlike}
use Rattle.refining.proofs.States.{accepted_state, begins, same_states}
use Rattle.refining.proofs.Opens.{opened_alike, opened_rows}
use Rattle.refining.proofs.Steps.{StepAlike, arrive_step, frame_step, hear_step, take_step, count_step, hand_step, collect_step}
use Rattle.table.specs.Loading.{refusal_of}

step_alike : (card : Card) (w : World) (d : D.Shelf) → WorldAlike card w d → (e : Event) → StepAlike card w d (happens card w e) (document.happens_to d e)
step_alike card w d a (arrive unit c) = arrive_step card w d a unit c
step_alike card w d a (frame buffer) = frame_step card w d a buffer
step_alike card w d a (hear unit f) = hear_step card w d a unit f
step_alike card w d a (take_cell unit buffer) = take_step card w d a unit buffer
step_alike card w d a (count unit) = count_step card w d a unit
step_alike card w d a (hand unit c) = hand_step card w d a unit c
step_alike card w d a (collect unit buffer) = collect_step card w d a unit buffer

-- after an event both are alike again
pub then_alike : (card : Card) (w : World) (d : D.Shelf) → WorldAlike card w d → (e : Event) → WorldAlike card (happens card w e).world (document.happens_to d e).shelf
then_alike card w d a e =
    let x = step_alike card w d a e in
    record {
      sound = soundness_kept card w e a.sound;
      shelf = x.shelf;
      rows = λ j h. x.rows j (subst (λ n. j < n) x.many h);
    }

-- so they are over every sequence of events
unfoldable pub given : Card → World → List Event → List Back
given card w [] = []
given card w (e ∷ es) = record { said = (happens card w e).said; bytes = (happens card w e).bytes } ∷ given card (happens card w e).world es

pub gives_alike : (card : Card) (w : World) (d : D.Shelf) → WorldAlike card w d → (es : List Event) → given card w es ≡ document.gives d es
unfolding given document.gives
gives_alike card w d a [] = refl
gives_alike card w d a (e ∷ es) =
    let x = step_alike card w d a e in
    let rest = gives_alike card (happens card w e).world (document.happens_to d e).shelf (then_alike card w d a e) es in
    λ t. record { said = x.said t; bytes = x.bytes t } ∷ rest t

-- what lent bytes give back is what the shelf that they are gives
gives_seen : (card : Card) (l : Lent) (es : List Event) → Long l → formed_all l.state ≡ true → gives card l es ≡ given card (seen l) es
unfolding gives given
gives_seen card l [] long formed = refl
gives_seen card l (e ∷ es) long formed =
    let x = same card l long formed e in
    let rest = gives_seen card (does card l e).lent es (long_after card l long formed e) (formed_after card l long formed e) ∙ ap (λ o. given card o.world es) x in
    λ t. record { said = (x t).said; bytes = (x t).bytes } ∷ rest t

pub loaded_gives : (card : Card) (text memory store : List ℕ) (rows : List C.Counters) (es : List Event) →
    gives card (loaded_in card text memory store rows) es ≡ given card (loaded card text memory store rows) es
loaded_gives card text memory store rows es =
    gives_seen card (loaded_in card text memory store rows) es (load_long card text memory (length store) (length rows)) (load_formed card text memory (length store) (length rows))
    ∙ ap (λ w. given card w es) (loaded_seen card text memory store rows)

pub refines : Refines
refines card text memory store rows told good es =
    loaded_gives card text memory store rows es
    ∙ gives_alike card (loaded card text memory store rows) (D.opened told) (opened_alike card text memory store rows told good) es

-- what is left after the events: rows alike, rows beyond as they were, and the units are the same ones
pub record Left (card : Card) (w : World) (d : D.Shelf) (w' : World) (d' : D.Shelf) : Type 0 where
  pub alike : WorldAlike card w' d'
  pub beyond : (j : ℕ) → length d.units ≤ j → get_or w'.rows j zeros ≡ get_or w.rows j zeros
  pub many : length d'.units ≡ length d.units

pub run_alike : (card : Card) (w : World) (d : D.Shelf) → WorldAlike card w d → (es : List Event) → Left card w d (run card w es) (document.becomes d es)
unfolding run document.becomes
run_alike card w d a [] = record { alike = a; beyond = λ j h. refl; many = refl }
run_alike card w d a (e ∷ es) =
    let x = step_alike card w d a e in
    let r = run_alike card (happens card w e).world (document.happens_to d e).shelf (then_alike card w d a e) es in
    record {
      alike = r.alike;
      beyond = λ j h. r.beyond j (subst (λ n. n ≤ j) (sym x.many) h) ∙ x.beyond j h;
      many = r.many ∙ x.many;
    }

-- a unit's number is its line's for ever
number_stays : (d : D.Shelf) (es : List Event) (i : ℕ) → D.number_of (D.unit_at (document.becomes d es) i) ≡ D.number_of (D.unit_at d i)
number_stays d es i =
    ap (λ g. g.settings.number)
    (sym (get_or-map given_of (document.becomes d es).units i D.blank) ∙ ap (λ l. get_or l i (given_of D.blank)) (given_stays d es) ∙ get_or-map given_of d.units i D.blank)

pub counters_are_history : CountersAreHistory
counters_are_history card text memory store rows told good es =
    let rows_are = ap (λ w. w.rows) (runs_in_place card text memory store rows es).same in
    let left = run_alike card (loaded card text memory store rows) (D.opened told) (opened_alike card text memory store rows told good) es in
    record {
      equal = λ i h c. ap (λ r. value_of (row_at r i) c) rows_are ∙ value_is (row_at (run card (loaded card text memory store rows) es).rows i) c ∙ left.alike.rows i (subst (λ n. i < n) (sym left.many) h) c ∙ ap (λ n. counter_of (document.becomes (D.opened told) es).history n c) (number_stays (D.opened told) es i);
      untouched = λ i h. ap (λ r. row_at r i) rows_are ∙ left.beyond i h ∙ opened_rows card text memory store rows told good i h;
    }

-- the same lines are good with equal room
module _ (text memory memory' store store' : List ℕ) (rows rows' : List C.Counters) (equal : Equal memory memory' store store' rows rows') (told : List Line) where
  same_room : usable memory ≡ usable memory'
  same_room = ap (λ n. min n most) equal.memories

  moved : (card : Card) → Accepts card text memory (length store) (length rows) told → Accepts card text memory' (length store') (length rows') told
  moved card a =
      record {
        short = a.short;
        fine = record {
          some = a.fine.some;
          all = a.fine.all;
          ranged = a.fine.ranged;
          faultless = (good_iff card memory' told).0 (subst (λ room. Good card room told) same_room (accepts_good card text memory (length store) (length rows) told a));
        };
        store_enough = subst (λ n. 8192 * unit_lines told ≤ n) equal.stores a.store_enough;
        rows_enough = subst (λ n. unit_lines told ≤ n) equal.records a.rows_enough;
      }

pub too_wide : TooWide
too_wide text memory memory' store store' rows rows' equal told a number line =
    let b = moved text memory memory' store store' rows rows' equal told Wide a in
    let outcome = (load Narrow text memory' (length store') (length rows')).outcome in
    let wide : (n : ℕ) → FirstWide told n → outcome ≡ refusal_of 5 n = λ n w. (narrow_refuses_iff text memory' (length store') (length rows') told b n).0 w in (
      λ h.
          let e = refused_is outcome number line h in
          ⊎_elim (λ n. absurd (loaded_refused (sym (ap (λ x. x.outcome) (accepted Narrow text memory' (length store') (length rows') told (narrow_accepts text memory' (length store') (length rows') told b n)).0) ∙ e)))
          (λ w. let z = sym (wide w.0 w.1) ∙ e in (sym (refused_number z), subst (FirstWide told) (refused_line z) w.1)) (wide_or_not told),
      λ w.
          let e = wide line w.1 ∙ ap (λ n. refusal_of n line) (sym w.0) in
          subst (λ o. IsRefused (answer_of o) number line) (sym e) (table_refused number line (omega (arith, w.0))),
    )

pub same_card : SameCard
same_card text memory memory' store store' rows rows' equal told a none es =
    let b = moved text memory memory' store store' rows rows' equal told Wide a in
    let n = narrow_accepts text memory' (length store') (length rows') told b none in
    let wide = refines Wide text memory store rows told a es in
    let alike = refines Narrow text memory' store' rows' told n es ∙ sym wide in
    record {
      answer =
          ap (λ x. answer_of x.outcome) ((accepted Narrow text memory' (length store') (length rows') told n).0 ∙ sym (accepted Wide text memory (length store) (length rows) told a).0);
      events = alike;
      states =
          same_states Narrow Wide (loaded_in Narrow text memory' store' rows') (loaded_in Wide text memory store rows) es
          (accepted_state Narrow text memory' (length store') (length rows') told n ∙ sym (accepted_state Wide text memory (length store) (length rows) told a))
          (begins Narrow text memory' store' rows') (begins Wide text memory store rows) alike;
      both = wide;
    }
