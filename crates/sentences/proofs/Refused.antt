-- Refusals 8 to 11. Assumes nothing.
use Rattle.std.specs.Prelude.{None, Option, Some}
use Prim.Native.Nat.{ℕ, ◌<◌, ◌≤◌}
use native.Mathlib.Omega.{arith}
use mathlib.Core.Path.{◌≡◌, refl, sym, ap, subst, ◌∙◌}
use mathlib.Core.Logic.{◌≢◌, ◌↔◌}
use mathlib.Core.Bool.{Bool, true, false, cond, ◌&&◌, false≢true}
use lib.ListN.{length, length-take}
use Rattle.card.specs.declared.Card.{Card}
use Rattle.shelf.specs.Shelf.{Shelf}
use Rattle.shelf.specs.Shelves.{declared, find_in}
use Rattle.shelf.proofs.Finding.{find_at}
use Rattle.soundness.specs.State.{sound_of}
use Rattle.soundness.specs.Soundings.{formed_all}
use Rattle.soundness.specs.Admission as admit
use Rattle.answer.specs.Answers.{number_of}
use Rattle.answer.specs.declared.Answer.TheVariants as answer
use Rattle.document.specs.Events.{Event, arrive, frame, hear, take_cell, count, hand, collect, bytes_of, answers, number_said}
use Rattle.running.specs.Events.{happens}
use Rattle.running.specs.Lent.{Lent, Long, does, seen}
use Rattle.running.specs.Refusing.{known, fits, taken_at, taken}
use Rattle.running.proofs.Refused.{refused_iff}
use Rattle.running.proofs.InPlace.{same, refused_keeps, in_place}
use Rattle.running.proofs.Kept.{soundness_kept}
use Rattle.outlet.proofs.Truth.{eq_iff, le_iff, and_iff}
use Rattle.paper.specs.State.{unit_at, DeclaredAt, Sound, Formed}
use Rattle.paper.proofs.State.{sound_iff, found_at, found_iff, formed_iff}
use Rattle.sentences.specs.Changes.{StateGood}
use Rattle.sentences.specs.Refusals.{UnitGood, LengthGood, Busy, Refused, RefusedRule, StateKept}
use Rattle.sentences.proofs.Found.{unit_at_lem}

-- the four tests
known_iff : (shelf : Shelf) (e : Event) → (known shelf e ≡ true) ↔ UnitGood shelf e
unfolding known
known_iff shelf (arrive unit cell) = found_iff shelf unit
known_iff shelf (frame buffer) = (λ t. tt, λ t. refl)
known_iff shelf (hear unit heard) = found_iff shelf unit
known_iff shelf (take_cell unit buffer) = found_iff shelf unit
known_iff shelf (count unit) = found_iff shelf unit
known_iff shelf (hand unit cell) = found_iff shelf unit
known_iff shelf (collect unit buffer) = found_iff shelf unit

fits_iff : (e : Event) → (fits e ≡ true) ↔ LengthGood e
unfolding fits
fits_iff (arrive unit cell) = eq_iff (length cell) 53
fits_iff (frame buffer) = eq_iff (length buffer) 57
fits_iff (hear unit heard) = eq_iff (length heard) 57
fits_iff (take_cell unit buffer) = eq_iff (length buffer) 53
fits_iff (count unit) = (λ t. tt, λ t. refl)
fits_iff (hand unit cell) = eq_iff (length cell) 56
fits_iff (collect unit buffer) = eq_iff (length buffer) 56

-- in a sound state the place is that of the one unit with the number
module _ (card : Card) (shelf : Shelf) (bytes rows : ℕ) (s : Sound card shelf bytes rows) where
  busy_at : (unit place : ℕ) → DeclaredAt shelf unit place → (taken_at shelf (Some place) ≡ true) ↔ (1 ≤ (unit_at shelf place).side.controlin)
  busy_at unit place d =
      let below : place < shelf.count = omega (arith, d.inside, length-take shelf.count shelf.units) in
      subst (λ u. (taken_at shelf (Some place) ≡ true) ↔ (1 ≤ u.side.controlin)) (sym (unit_at_lem shelf place below)) (le_iff 1 (admit.unit_at shelf place).side.controlin)

  hand_busy : (unit : ℕ) → (taken_at shelf (find_in (declared shelf) unit) ≡ true) ↔ ((place : ℕ) × DeclaredAt shelf unit place × (1 ≤ (unit_at shelf place).side.controlin))
  hand_busy unit = (
    to (find_in (declared shelf) unit) refl,
    λ b. ap (taken_at shelf) (found_at card shelf bytes rows s unit b.0 b.1) ∙ (busy_at unit b.0 b.1).1 b.2,
  )
    where
      to : (f : Option ℕ) → find_in (declared shelf) unit ≡ f → taken_at shelf f ≡ true → (place : ℕ) × DeclaredAt shelf unit place × (1 ≤ (unit_at shelf place).side.controlin)
      to (Some i) e t =
          let x = (find_at unit (declared shelf) i).0 e in
          let at : DeclaredAt shelf unit i = record { inside = x.inside; named = x.named } in
          (i, at, (busy_at unit i at).0 t)
      to None e t = absurd (false≢true t)

  taken_iff : (e : Event) → (taken shelf e ≡ true) ↔ Busy shelf e
  unfolding taken
  taken_iff (arrive unit cell) = (false≢true, λ b. absurd b)
  taken_iff (frame buffer) = (false≢true, λ b. absurd b)
  taken_iff (hear unit heard) = (false≢true, λ b. absurd b)
  taken_iff (take_cell unit buffer) = (false≢true, λ b. absurd b)
  taken_iff (count unit) = (false≢true, λ b. absurd b)
  taken_iff (hand unit cell) = hand_busy unit
  taken_iff (collect unit buffer) = (false≢true, λ b. absurd b)

-- the number that four tests give, in their order
abbrev given : Bool → Bool → Bool → Bool → ℕ
given s k f b = cond s (cond k (cond f (cond b 11 0) 10) 9) 8

record Given (S K F B : Type 0) (n : ℕ) : Type 0 where
  eight : (n ≡ 8) ↔ (S → ⊥)
  nine : (n ≡ 9) ↔ (S × (K → ⊥))
  ten : (n ≡ 10) ↔ (S × K × (F → ⊥))
  eleven : (n ≡ 11) ↔ (S × K × F × B)
  none : (n ≡ 0) ↔ (S × K × F × (B → ⊥))

-- the last one is asked of a sound state alone
by_tests : (S K F B : Type 0) (s k f b : Bool) → (s ≡ true) ↔ S → (k ≡ true) ↔ K → (f ≡ true) ↔ F → (S → (b ≡ true) ↔ B) → Given S K F B (given s k f b)
by_tests S K F B false k f b is ik if ib =
    let no : S → ⊥ = λ x. false≢true (is.1 x) in
    record {
      eight = (λ e. no, λ n. refl);
      nine = (λ e. absurd (omega arith), λ h. absurd (no h.0));
      ten = (λ e. absurd (omega arith), λ h. absurd (no h.0));
      eleven = (λ e. absurd (omega arith), λ h. absurd (no h.0));
      none = (λ e. absurd (omega arith), λ h. absurd (no h.0));
    }
by_tests S K F B true false f b is ik if ib =
    let yes = is.0 refl in
    let no : K → ⊥ = λ x. false≢true (ik.1 x) in
    record {
      eight = (λ e. absurd (omega arith), λ n. absurd (n yes));
      nine = (λ e. (yes, no), λ h. refl);
      ten = (λ e. absurd (omega arith), λ h. absurd (no h.1));
      eleven = (λ e. absurd (omega arith), λ h. absurd (no h.1));
      none = (λ e. absurd (omega arith), λ h. absurd (no h.1));
    }
by_tests S K F B true true false b is ik if ib =
    let no : F → ⊥ = λ x. false≢true (if.1 x) in
    record {
      eight = (λ e. absurd (omega arith), λ n. absurd (n (is.0 refl)));
      nine = (λ e. absurd (omega arith), λ h. absurd (h.1 (ik.0 refl)));
      ten = (λ e. (is.0 refl, ik.0 refl, no), λ h. refl);
      eleven = (λ e. absurd (omega arith), λ h. absurd (no h.2));
      none = (λ e. absurd (omega arith), λ h. absurd (no h.2));
    }
by_tests S K F B true true true true is ik if ib =
    let yes = (ib (is.0 refl)).0 refl in
    record {
      eight = (λ e. absurd (omega arith), λ n. absurd (n (is.0 refl)));
      nine = (λ e. absurd (omega arith), λ h. absurd (h.1 (ik.0 refl)));
      ten = (λ e. absurd (omega arith), λ h. absurd (h.2 (if.0 refl)));
      eleven = (λ e. (is.0 refl, ik.0 refl, if.0 refl, yes), λ h. refl);
      none = (λ e. absurd (omega arith), λ h. absurd (h.3 yes));
    }
by_tests S K F B true true true false is ik if ib =
    let no : B → ⊥ = λ x. false≢true ((ib (is.0 refl)).1 x) in
    record {
      eight = (λ e. absurd (omega arith), λ n. absurd (n (is.0 refl)));
      nine = (λ e. absurd (omega arith), λ h. absurd (h.1 (ik.0 refl)));
      ten = (λ e. absurd (omega arith), λ h. absurd (h.2 (if.0 refl)));
      eleven = (λ e. absurd (omega arith), λ h. absurd (no h.3));
      none = (λ e. (is.0 refl, ik.0 refl, if.0 refl, no), λ h. refl);
    }

-- what is said is that number, and with one nothing has changed
module _ (card : Card) (l : Lent) (e : Event) (long : Long l) where
  abbrev formed : Bool
  formed = formed_all l.state

  abbrev sound : Bool
  sound = sound_of card (seen l).shelf (length l.store) (length l.rows)

  abbrev number : Bool → ℕ
  number t = given (t && sound) (known (seen l).shelf e) (fits e) (taken (seen l).shelf e)

  unformed : formed ≡ false → Formed l.state → ⊥
  unformed f h = false≢true (sym f ∙ (formed_iff l.state).1 h)

  number_is : (t : Bool) → formed ≡ t → number_said (does card l e).said ≡ number t
  unfolding number_said number_of
  number_is true f = ap (λ o. number_said o.said) (same card l long f e) ∙ refused_iff card (seen l) e
  number_is false f = ap (λ o. number_said o.said) ((in_place card l e long).1 (unformed f))

  keeps : (t : Bool) → formed ≡ t → (number t ≡ 0 → ⊥) → does card l e ≡ record { said = answers (answer.Refused (number t)); lent = l; bytes = bytes_of e }
  keeps true f h = refused_keeps card l long f e h
  keeps false f h = (in_place card l e long).1 (unformed f)

  state_iff : ((formed && sound) ≡ true) ↔ StateGood card l
  state_iff =
      let both = and_iff (formed_iff l.state) (sound_iff card (seen l).shelf (length l.store) (length l.rows)) in
      (λ t. let x = both.0 t in record { formed = x.0; sound = x.1 }, λ g. both.1 (g.formed, g.sound))

  refused_at : Refused card l e
  refused_at =
      let n = number_is formed refl in
      let g = by_tests (StateGood card l) (UnitGood (seen l).shelf e) (LengthGood e) (Busy (seen l).shelf e) (formed && sound) (known (seen l).shelf e) (fits e) (taken (seen l).shelf e) state_iff
      (known_iff (seen l).shelf e) (fits_iff e) (λ good. taken_iff card (seen l).shelf (length l.store) (length l.rows) good.sound e) in
      let kept = keeps formed refl in
      record {
        state_8 = (λ q. g.eight.0 (sym n ∙ q), λ q. n ∙ g.eight.1 q);
        unit_9 = (λ q. g.nine.0 (sym n ∙ q), λ q. n ∙ g.nine.1 q);
        length_10 = (λ q. g.ten.0 (sym n ∙ q), λ q. n ∙ g.ten.1 q);
        busy_11 = (λ q. g.eleven.0 (sym n ∙ q), λ q. n ∙ g.eleven.1 q);
        let_in = (λ q. g.none.0 (sym n ∙ q), λ q. n ∙ g.none.1 q);
        only_number = λ q. let s = ap (λ o. o.said) (kept (λ z. q (n ∙ z))) in s ∙ ap (λ k. answers (answer.Refused k)) (sym n);
        same_lent = λ q. ap (λ o. o.lent) (kept (λ z. q (n ∙ z)));
        same_bytes = λ q. ap (λ o. o.bytes) (kept (λ z. q (n ∙ z)));
      }

pub refused : RefusedRule
refused card l e long = refused_at card l e long

pub state_kept : StateKept
state_kept card l e long good =
    let t = (in_place card l e long).0 good.formed in
    let w = seen l in
    let o = (happens card w e).world in
    record {
      formed = t.formed;
      sound =
          subst (λ v. Sound card v.shelf (length v.store) (length v.rows)) (sym (ap (λ x. x.world) t.same))
          ((sound_iff card o.shelf (length o.store) (length o.rows)).0 (soundness_kept card w e ((sound_iff card w.shelf (length w.store) (length w.rows)).1 good.sound)));
    }
