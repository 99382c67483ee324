-- The outlets grow by the copies that are queued, but for the cells that move from there. Assumes nothing.
use Prim.Native.Nat.{ℕ, zero, suc, ◌+◌, ◌<◌}
use native.Mathlib.Omega.{arith}
use mathlib.Core.Path.{◌≡◌, refl, ap, ◌∙◌}
use mathlib.Core.Logic.{◌≢◌}
use mathlib.Core.List.{List, [], ◌∷◌, ◌++◌, map}
use lib.ListN.{length, length-append, get_or, set}
use lib.Seq.{get_or-set_same, get_or-set_other}
use Rattle.bus.specs.Heard as sort
use Rattle.outlet.specs.Hearing.{queue_of}
use Rattle.outlet.proofs.Fates.{queue_lt}
use Rattle.line.specs.declared.Line.{Line}
use Rattle.answer.specs.declared.Hearing as Q
use Rattle.answer.specs.declared.Hearing.TheVariants as hearing
use Rattle.answer.specs.Answers.{queued_one}
use Rattle.document.specs.Shelf.{Cell, Unit as D-as-Unit, Shelf, queue_at, held, in_all, in_outlet, with_queue, blank, unit_at}
use Rattle.document.specs.Hearing.{OnBus, hearing_of, placing, keeping, hearing_unit}
use Rattle.document.specs.Frame.{moving, moved_unit, moved, all_hear, copies}
use Rattle.flow.specs.Parts.{From, from_inlet, from_control, from_loopback, without}
use Rattle.flow.proofs.Times.{moved_unit_lem}
use Rattle.flow.proofs.Moves.{moved_by_lem, moved_out}
use Rattle.fates.specs.Frames.{in_outlets, moving_all}

-- a unit with one more cell in a queue
module _ (u : D-as-Unit) (four : length u.queues ≡ 4) (x : Cell) where
  abbrev more : ℕ → D-as-Unit
  more q = with_queue u q (queue_at u q ++ (x ∷ []))

  here : (q : ℕ) → q < 4 → held (more q) q ≡ held u q + 1
  here q few = ap length (get_or-set_same u.queues q (queue_at u q ++ (x ∷ [])) [] (omega arith)) ∙ length-append (queue_at u q) (x ∷ [])

  there : (q p : ℕ) → p ≢ q → held (more q) p ≡ held u p
  there q p apart = ap length (get_or-set_other u.queues q p (queue_at u q ++ (x ∷ [])) [] apart)

  one_more : (q : ℕ) → q < 4 → in_outlet (more q) ≡ 1 + in_outlet u
  one_more zero few = omega (arith, here 0 few, there 0 1 (λ e. omega arith), there 0 2 (λ e. omega arith), there 0 3 (λ e. omega arith))
  one_more (suc zero) few = omega (arith, here 1 few, there 1 0 (λ e. omega arith), there 1 2 (λ e. omega arith), there 1 3 (λ e. omega arith))
  one_more (suc (suc zero)) few = omega (arith, here 2 few, there 2 0 (λ e. omega arith), there 2 1 (λ e. omega arith), there 2 3 (λ e. omega arith))
  one_more (suc (suc (suc zero))) few = omega (arith, here 3 few, there 3 0 (λ e. omega arith), there 3 1 (λ e. omega arith), there 3 2 (λ e. omega arith))
  one_more (suc (suc (suc (suc q)))) few = absurd (omega arith)

-- a unit that hears a cell
module _ (lines : List Line) (u : D-as-Unit) (four : length u.queues ≡ 4) (payload bytes : List ℕ) where
  abbrev on_bus : sort.Heard → OnBus
  on_bus h = record { heard = h; payload = payload; bytes = bytes }

  -- only a queued copy is one more
  by_fate : (h : sort.Heard) → in_outlet (placing u (on_bus h) h) ≡ 1 + in_outlet u → (fate : Q.Hearing) → in_outlet (keeping fate u (on_bus h)) ≡ queued_one fate + in_outlet u
  unfolding keeping queued_one
  by_fate h more hearing.Damaged = omega arith
  by_fate h more hearing.Other = omega arith
  by_fate h more hearing.Wide = omega arith
  by_fate h more hearing.Full = omega arith
  by_fate h more hearing.Clp = omega arith
  by_fate h more hearing.Queued = more

  heard_one : (h : sort.Heard) → in_outlet (hearing_unit lines u (on_bus h)) ≡ queued_one (hearing_of lines u h) + in_outlet u
  unfolding hearing_of placing keeping queued_one
  heard_one sort.Length = omega arith
  heard_one sort.Damaged = omega arith
  heard_one (sort.Cell target class header) =
      by_fate (sort.Cell target class header) (one_more u four (record { header = header; payload = payload }) (queue_of u.limits class) (queue_lt u.limits class)) (hearing_of lines u (sort.Cell target class header))
  heard_one (sort.Control unit) =
      by_fate (sort.Control unit) (let a = length-append u.side.controlout (bytes ∷ []) in omega (arith, a)) (hearing_of lines u (sort.Control unit))
  heard_one (sort.Loopback unit) =
      by_fate (sort.Loopback unit) (let a = length-append u.side.loopbackout (bytes ∷ []) in omega (arith, a)) (hearing_of lines u (sort.Loopback unit))

-- all of them
all_hear_lem : (lines : List Line) (us : List D-as-Unit) (x : OnBus) → ((j : ℕ) → length (get_or us j blank).queues ≡ 4) →
    in_outlets (all_hear lines us x) ≡ copies lines us x + in_outlets us
unfolding in_outlets copies
all_hear_lem lines [] x fours = refl
all_hear_lem lines (u ∷ us) x fours =
    let one = heard_one lines u (fours 0) x.payload x.bytes x.heard in let others = all_hear_lem lines us x (λ j. fours (suc j)) in omega (arith, one, others)

-- the cells that wait have no part in it
same_outlet : (f : From) (u : D-as-Unit) → (in_outlet (without f u) ≡ in_outlet u) × ((without f u).queues ≡ u.queues)
unfolding without
same_outlet (from_inlet r rest) u = (refl, refl)
same_outlet (from_control c rest) u = (refl, refl)
same_outlet (from_loopback c rest) u = (refl, refl)

same_outlets : (us : List D-as-Unit) (i : ℕ) (f : From) → in_outlets (set us i (without f (get_or us i blank))) ≡ in_outlets us
unfolding in_outlets
same_outlets [] i f = refl
same_outlets (u ∷ us) zero f = ap (λ n. n + in_outlets us) (same_outlet f u).0
same_outlets (u ∷ us) (suc i) f = ap (λ n. in_outlet u + n) (same_outlets us i f)

still_four : (us : List D-as-Unit) (i : ℕ) (f : From) → ((j : ℕ) → length (get_or us j blank).queues ≡ 4) → (j : ℕ) → length (get_or (set us i (without f (get_or us i blank))) j blank).queues ≡ 4
still_four [] i f fours j = fours j
still_four (u ∷ us) zero f fours zero = ap length (same_outlet f u).1 ∙ fours 0
still_four (u ∷ us) zero f fours (suc j) = fours (suc j)
still_four (u ∷ us) (suc i) f fours zero = fours 0
still_four (u ∷ us) (suc i) f fours (suc j) = still_four us i f (λ k. fours (suc k)) j

-- a cell that moves leaves an outlet
one_moves : (u : D-as-Unit) → in_outlet (moved_unit u) + length (moving u) ≡ in_outlet u
one_moves u =
    let a = ap (λ q. in_all (λ k. get_or q k [])) (moved_by_lem (λ v. v.queues) u (λ back out. refl)) in
    let b = ap length (moved_by_lem (λ v. v.side.controlout) u (λ back out. refl)) in
    let c = ap length (moved_out u) ∙ length-append (moving u) (moved_unit u).side.loopbackout in
    omega (arith, a, b, c)

all_move : (us : List D-as-Unit) → in_outlets (map moved_unit us) + length (moving_all us) ≡ in_outlets us
unfolding in_outlets moving_all
all_move [] = refl
all_move (u ∷ us) =
    let one = one_moves u in
    let others = all_move us in
    let both = length-append (moving u) (moving_all us) in
    omega (arith, one, others, both)

-- so once the cells have moved and one has left the sender
pub copies_queued : (d : Shelf) → ((j : ℕ) → length (unit_at d j).queues ≡ 4) → (place : ℕ) (f : From) (x : OnBus) →
    let left = set (moved d).units place (without f (unit_at (moved d) place)) in
    in_outlets (all_hear d.lines left x) + length (moving_all d.units) ≡ copies d.lines left x + in_outlets d.units
copies_queued d fours place f x =
    let us = map moved_unit d.units in
    let left = set us place (without f (get_or us place blank)) in
    let four : (j : ℕ) → length (get_or us j blank).queues ≡ 4 =
    λ j. ap (λ u. length u.queues) (moved_unit_lem d.units j) ∙ ap length (moved_by_lem (λ v. v.queues) (unit_at d j) (λ back out. refl)) ∙ fours j in
    let a = all_hear_lem d.lines left x (still_four us place f four) in
    let b = same_outlets us place f in
    let c = all_move d.units in
    omega (arith, a, b, c)
