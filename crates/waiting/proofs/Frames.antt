-- Requests at 3 on the document's shelf: who makes them, and that they stand until they are granted. Assumes nothing.
use Prim.Native.Nat.{ℕ, zero, suc, ◌<◌, ◌≤◌}
use native.Mathlib.Omega.{arith}
use mathlib.Core.Path.{◌≡◌, refl, sym, ap, subst, ◌∙◌}
use mathlib.Core.Bool.{true, cond}
use mathlib.Core.List.Memᴰ
use mathlib.Core.List.{List, [], ◌∷◌, map, Memᴰ as In}
use lib.Dec.{eqb}
use lib.ListN.{length, get_or}
use borrow.Author.Tests.{eq-eqb}
use Rattle.outlet.proofs.Truth.{decide}
use Rattle.store.proofs.Slots.{by_lt}
use Rattle.arbiter.specs.Arbitration.{besides, due, granted, arbiter_of}
use Rattle.line.specs.declared.Line.{Line}
use Rattle.document.specs.Events.{Event, arrive, frame, hear, take_cell, count, hand, collect, bytes_of, answers}
use Rattle.document.specs.Shelf as D
use Rattle.document.specs.Arrival.{arrived}
use Rattle.document.specs.Hearing.{handed_in}
use Rattle.document.specs.Frame.{moved_unit, framed_answer}
use Rattle.document.specs.Take.{leaving}
use Rattle.document.specs.Steps.{happens_to}
use Rattle.document.proofs.Fixed.{given}
use Rattle.flow.specs.Parts.{among}
use Rattle.flow.proofs.Kept.{given_at, as_many}
use Rattle.fates.specs.Frames.{asks_of, granted_now, Renewed, GoesOn}
use Rattle.fates.proofs.Standing.{at_unit, took, handed, collected, Stands}
use Rattle.fates.proofs.Going.{is_due, is_renewed, beyond, waits_moved}
use Rattle.waiting.specs.Waiting.{is_frame, at_three, Holds}

-- only a frame changes requests and last units granted, and it says who is granted
pub arbiter_after : (d : D.Shelf) (e : Event) → (happens_to d e).shelf.arbiter ≡ cond (is_frame e) (arbiter_of (granted d.arbiter.last (asks_of d))) d.arbiter
unfolding happens_to is_frame arrived handed_in
arbiter_after d (arrive unit c) = at_unit (λ s. s.shelf.arbiter ≡ d.arbiter) (D.find_in d.units unit) (eqb (length c) 53) _ _ (λ place. refl) (λ number. refl)
arbiter_after d (frame buffer) = decide (eqb (length buffer) 57) (λ t. rw t) (λ t. rw t)
arbiter_after d (hear unit f) = at_unit (λ s. s.shelf.arbiter ≡ d.arbiter) (D.find_in d.units unit) (eqb (length f) 57) _ _ (λ place. refl) (λ number. refl)
arbiter_after d (take_cell unit buffer) =
    at_unit (λ s. s.shelf.arbiter ≡ d.arbiter) (D.find_in d.units unit) (eqb (length buffer) 53) _ _ (λ place. took (leaving (D.unit_at d place)) d place buffer) (λ number. refl)
arbiter_after d (count unit) = at_unit (λ s. s.shelf.arbiter ≡ d.arbiter) (D.find_in d.units unit) true _ _ (λ place. refl) (λ number. refl)
arbiter_after d (hand unit c) =
    at_unit (λ s. s.shelf.arbiter ≡ d.arbiter) (D.find_in d.units unit) (eqb (length c) 56) _ _ (λ place. handed (D.unit_at d place).side.controlin d place c) (λ number. refl)
arbiter_after d (collect unit buffer) =
    at_unit (λ s. s.shelf.arbiter ≡ d.arbiter) (D.find_in d.units unit) (eqb (length buffer) 56) _ _ (λ place. collected (D.unit_at d place).side.controlout d place buffer) (λ number. refl)

pub frame_says : (d : D.Shelf) (e : Event) → is_frame e ≡ true → (happens_to d e).said ≡ answers (framed_answer d (bytes_of e))
unfolding happens_to is_frame bytes_of
frame_says d (frame buffer) t = rw t
frame_says d (arrive unit c) t = let z : ◌≡◌ {A = ℕ} 0 1 = cc in absurd (omega arith)
frame_says d (hear unit f) t = let z : ◌≡◌ {A = ℕ} 0 1 = cc in absurd (omega arith)
frame_says d (take_cell unit buffer) t = let z : ◌≡◌ {A = ℕ} 0 1 = cc in absurd (omega arith)
frame_says d (count unit) t = let z : ◌≡◌ {A = ℕ} 0 1 = cc in absurd (omega arith)
frame_says d (hand unit c) t = let z : ◌≡◌ {A = ℕ} 0 1 = cc in absurd (omega arith)
frame_says d (collect unit buffer) t = let z : ◌≡◌ {A = ℕ} 0 1 = cc in absurd (omega arith)

module _ (d : D.Shelf) (s : Stands d) (g : GoesOn d) where
  -- what a unit asks, it asks at its own priority
  at_own : (i : ℕ) → i < length d.units → (get_or (asks_of d) (D.number_of (D.unit_at d i)) 0 ≡ 0 → ⊥) → get_or (asks_of d) (D.number_of (D.unit_at d i)) 0 ≡ (D.unit_at d i).settings.priority
  at_own i h some =
      let u = D.unit_at d i in
      let n = D.number_of u in
      decide (due d.bus d.frame n)
      (λ t.
      let a = g.asks i h (is_renewed d n s.bus t) in
      by_lt 0 (besides (D.waiting (moved_unit u)) (eqb n d.granted))
      (λ c. a.at_own (a.exactly.1 c))
      (λ c. absurd (some (a.silent (λ x. let y = a.exactly.0 x in omega arith)))))
      (λ t.
      let e = g.stand n (λ r. let x = is_due d n r in let z : ◌≡◌ {A = ℕ} 0 1 = cc in omega arith) in
      e ∙ s.own i h (λ z. some (e ∙ z)))

  -- a request that was not granted stands, renewed or not
  stands : (n : ℕ) → (get_or d.arbiter.asks n 0 ≡ 0 → ⊥) → get_or (asks_of d) n 0 ≡ get_or d.arbiter.asks n 0
  stands n some =
      let w = s.backed.asked n some in
      let i = w.place in
      let u = D.unit_at d i in
      decide (due d.bus d.frame n)
      (λ t.
      let a = g.asks i w.inside (subst (Renewed d) (sym w.named) (is_renewed d n s.bus t)) in
      let q = ap {B = ℕ} (λ k. cond (eqb k d.granted) 1 0) w.named in
      let c : 1 ≤ besides (D.waiting (moved_unit u)) (eqb (D.number_of u) d.granted) = omega (arith, w.enough, waits_moved u, q) in
      let own = s.own i w.inside (λ z. some (ap (λ k. get_or d.arbiter.asks k 0) (sym w.named) ∙ z)) in
      ap (λ k. get_or (asks_of d) k 0) (sym w.named) ∙ a.at_own (a.exactly.1 c) ∙ sym own ∙ ap (λ k. get_or d.arbiter.asks k 0) w.named)
      (λ t. g.stand n (λ r. let x = is_due d n r in let z : ◌≡◌ {A = ℕ} 0 1 = cc in omega arith))

-- a unit at priority 3 is listed
listed : (us : List D.Unit) (i : ℕ) → i < length us → (get_or us i D.blank).settings.priority ≡ 3 → In (D.number_of (get_or us i D.blank)) (map D.number_of (among (λ u. eqb u.settings.priority 3) us))
unfolding among
listed [] i h e = absurd (omega arith)
listed (u ∷ us) zero h e = rw (eq-eqb u.settings.priority 3 e) (In.head refl)
listed (u ∷ us) (suc i) h e =
    let rest = listed us i (omega arith) e in
    decide (eqb u.settings.priority 3) (λ t. rw t (In.tail rest)) (λ t. rw t rest)

-- all that the bound asks of a shelf holds of the units at priority 3
pub holds : (told : List Line) (d : D.Shelf) → given d ≡ given (D.opened told) → Stands d → GoesOn d → Holds (at_three told) d
holds told d same s g =
    record {
      three = g.three;
      few = λ n e. by_lt n 32 (λ h. h) (λ h. absurd (let z = beyond d n (omega (arith, s.full.asks)) in omega arith));
      stand = λ n e. stands d s g n (λ z. omega arith) ∙ e;
      one = λ e.
          let t = g.in_turn (λ z. let a = beyond d (granted_now d) (omega (arith, z, s.full.asks)) in omega arith) in
          let i = t.place in
          let is = given_at (D.opened told) d same i in
          let ask : get_or (asks_of d) (D.number_of (D.unit_at d i)) 0 ≡ 3 = ap (λ n. get_or (asks_of d) n 0) t.named ∙ e in
          let own = at_own d s g i t.declared (λ z. omega arith) in
          Memᴰ.cast (sym t.named ∙ ap (λ x. x.settings.number) is)
          (listed (D.units_of told) i (omega (arith, t.declared, as_many (D.opened told) d same)) (sym (ap (λ x. x.settings.priority) is) ∙ sym own ∙ ask));
    }
