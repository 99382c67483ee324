-- Which unit has a number: one unit at a time, what is found, and what a declared unit changes. Assumes nothing.
use Rattle.std.specs.Prelude.{None, Option, Some}
use mathlib.Core.Path.{◌≡◌, refl, sym, ap, subst, ◌∙◌}
use mathlib.Core.Logic.{◌↔◌}
use mathlib.Core.List.{List, [], ◌∷◌, ◌++◌, map-append}
use mathlib.Core.Bool.{Bool, true, false, cond}
use Prim.Native.Nat.{ℕ, zero, suc, ◌+◌, ◌≤◌, ◌<◌, min}
use native.Mathlib.Nat.{not-suc-le-zero, zero-add, add-zero}
use native.Mathlib.Numerals.{add-one}
use native.Mathlib.Omega.{arith}
use lib.Dec.{eqb}
use lib.ListN.{length, get_or, drop, set, length-map, length-take, drop_of_length-le}
use lib.Seq.{drop-cons, get_or-take, map-set_same}
use borrow.Author.Tests.{eq-eqb, ne_eqb, eqb-true, eqb-false}
use Rattle.shelf.specs.Shelves.{declared, blank, number_of, numbers, place_from, find_in, FoundAt, FoundNowhere}
use Rattle.shelf.specs.declared.Unit as U
use Rattle.shelf.specs.Shelf.{Shelf}

-- the declared units of a shelf: how many, and which
pub declared_length : (shelf : Shelf) → length shelf.units ≡ 32 → length (declared shelf) ≡ min shelf.count 32
declared_length shelf long = length-take shelf.count shelf.units ∙ ap (min shelf.count) long

pub declared_at : (shelf : Shelf) (i : ℕ) (d : U.Unit) → i < shelf.count → get_or (declared shelf) i d ≡ get_or shelf.units i d
declared_at shelf i d h = get_or-take shelf.count shelf.units i d h

-- the search, one unit at a time
step_here : (us : List U.Unit) (i : ℕ) (d : U.Unit) (number : ℕ) → i < length us → number_of (get_or us i d) ≡ number → place_from i (numbers (drop i us)) number ≡ Some i
unfolding place_from
step_here us i d number h e = rw (drop-cons us i d h, eq-eqb (number_of (get_or us i d)) number e)

step_later : (us : List U.Unit) (i : ℕ) (d : U.Unit) (number : ℕ) → i < length us → (number_of (get_or us i d) ≡ number → ⊥) → place_from i (numbers (drop i us)) number ≡ place_from (i + 1) (numbers (drop (i + 1) us)) number
unfolding place_from
step_later us i d number h e = rw (add-one, drop-cons us i d h, ne_eqb (number_of (get_or us i d)) number e)

module _ (shelf : Shelf) (long : length shelf.units ≡ 32) (i : ℕ) (number : ℕ) where
  pub here : (d : U.Unit) → i < min shelf.count 32 → number_of (get_or shelf.units i d) ≡ number → place_from i (numbers (drop i (declared shelf))) number ≡ Some i
  here d h e =
      let l = declared_length shelf long in
      step_here (declared shelf) i d number (omega arith) (ap number_of (declared_at shelf i d (omega arith)) ∙ e)

  pub later : (d : U.Unit) → i < min shelf.count 32 → (number_of (get_or shelf.units i d) ≡ number → ⊥) → place_from i (numbers (drop i (declared shelf))) number ≡ place_from (i + 1) (numbers (drop (i + 1) (declared shelf))) number
  later d h e =
      let l = declared_length shelf long in
      step_later (declared shelf) i d number (omega arith) (λ x. e (sym (ap number_of (declared_at shelf i d (omega arith))) ∙ x))

  pub nowhere : min shelf.count 32 ≤ i → place_from i (numbers (drop i (declared shelf))) number ≡ None
  unfolding place_from
  nowhere h = let l = declared_length shelf long in rw (drop_of_length-le (declared shelf) {i = i} (omega arith))

-- what is found in a list and in one behind it
abbrev pub or_else : Option ℕ → Option ℕ → Option ℕ
or_else (Some i) f = Some i
or_else None f = f

through : (b : Bool) (i : ℕ) (f g : Option ℕ) → or_else (cond b (Some i) f) g ≡ cond b (Some i) (or_else f g)
through true i f g = refl
through false i f g = refl

place_append : (i : ℕ) (ms ns : List ℕ) (number : ℕ) → place_from i (ms ++ ns) number ≡ or_else (place_from i ms number) (place_from (i + length ms) ns number)
unfolding place_from
place_append i [] ns number = ap (λ k. place_from k ns number) (sym (add-zero i))
place_append i (m ∷ ms) ns number =
    let e : suc i + length ms ≡ i + suc (length ms) = omega arith in
    ap (cond (eqb m number) (Some i)) (place_append (suc i) ms ns number ∙ ap (λ k. or_else (place_from (suc i) ms number) (place_from k ns number)) e)
    ∙ sym (through (eqb m number) i (place_from (suc i) ms number) (place_from (i + suc (length ms)) ns number))

-- a unit declared behind the others: those before it are found where they were, and it where it stands
pub find_declared : (us : List U.Unit) (u : U.Unit) (number : ℕ) → find_in (us ++ (u ∷ [])) number ≡ or_else (find_in us number) (cond (eqb (number_of u) number) (Some (length us)) None)
unfolding find_in place_from
find_declared us u number =
    ap (λ l. place_from 0 l number) (map-append number_of us (u ∷ []))
    ∙ place_append 0 (numbers us) (number_of u ∷ []) number
    ∙ ap (λ k. or_else (place_from 0 (numbers us) number) (cond (eqb (number_of u) number) (Some k) None)) (zero-add (length (numbers us)) ∙ length-map us number_of)

-- a unit that keeps its number is found where it was
pub find_kept : (us : List U.Unit) (i : ℕ) (u d : U.Unit) (number : ℕ) → number_of u ≡ number_of (get_or us i d) → find_in (set us i u) number ≡ find_in us number
unfolding find_in
find_kept us i u d number e = ap (λ l. place_from 0 l number) (map-set_same number_of us i u d e)

-- what is found, and that it is found
module _ (number : ℕ) where
  found_from : (us : List U.Unit) (k p : ℕ) → place_from k (numbers us) number ≡ Some p → (i : ℕ) × (p ≡ k + i) × FoundAt us number i
  unfolding place_from
  found_from [] k p e = let z : ◌≡◌ {A = ℕ} 0 1 = cc in absurd (omega arith)
  found_from (u ∷ us) k p e = pick (eqb (number_of u) number) refl (found_from us (suc k) p) e
    where
      pick : (b : Bool) → eqb (number_of u) number ≡ b → (place_from (suc k) (numbers us) number ≡ Some p → (i : ℕ) × (p ≡ suc k + i) × FoundAt us number i) → cond b (Some k) (place_from (suc k) (numbers us) number) ≡ Some p → (i : ℕ) × (p ≡ k + i) × FoundAt (u ∷ us) number i
      pick true t rest e =
          let q : k ≡ p = cc in
          (0, omega arith, record { inside = omega arith; named = eqb-true (number_of u) number t; first = λ j h. absurd (omega arith) })
      pick false t rest e =
          let r = rest e in
          let f = r.2 in
          let w = f.inside in (
            suc r.0,
            omega (arith, r.1),
            record {
              inside = omega arith;
              named = f.named;
              first = λ j. elim j as (λ k. k < suc r.0 → number_of (get_or (u ∷ us) k blank) ≡ number → ⊥) [ zero ↦ λ h x. eqb-false (number_of u) number t x | suc m ↦ λ h x. f.first m (omega arith) x ];
            },
          )

  at_from : (us : List U.Unit) (k i : ℕ) → FoundAt us number i → place_from k (numbers us) number ≡ Some (k + i)
  unfolding place_from
  at_from [] k i f = absurd (not-suc-le-zero f.inside)
  at_from (u ∷ us) k zero f = rw (eq-eqb (number_of u) number f.named, add-zero)
  at_from (u ∷ us) k (suc i) f =
      let w = f.inside in
      let e : suc k + i ≡ k + suc i = omega arith in
      rw (ne_eqb (number_of u) number (f.first 0 (omega arith)))
      (at_from us (suc k) i (record { inside = omega arith; named = f.named; first = λ j h x. f.first (suc j) (omega arith) x }) ∙ ap Some e)

  nothing_from : (us : List U.Unit) (k : ℕ) → FoundNowhere us number → place_from k (numbers us) number ≡ None
  unfolding place_from
  nothing_from [] k f = refl
  nothing_from (u ∷ us) k f = rw (ne_eqb (number_of u) number (f 0 (omega arith))) (nothing_from us (suc k) (λ j h x. f (suc j) (omega arith) x))

  from_nothing : (us : List U.Unit) (k : ℕ) → place_from k (numbers us) number ≡ None → FoundNowhere us number
  unfolding place_from
  from_nothing [] k e = λ j h. absurd (not-suc-le-zero h)
  from_nothing (u ∷ us) k e = pick (eqb (number_of u) number) refl (from_nothing us (suc k)) e
    where
      pick : (b : Bool) → eqb (number_of u) number ≡ b → (place_from (suc k) (numbers us) number ≡ None → FoundNowhere us number) → cond b (Some k) (place_from (suc k) (numbers us) number) ≡ None → FoundNowhere (u ∷ us) number
      pick true t rest e = let z : ◌≡◌ {A = ℕ} 0 1 = cc in absurd (omega arith)
      pick false t rest e = λ j. elim j as (λ k. k < suc (length us) → number_of (get_or (u ∷ us) k blank) ≡ number → ⊥) [ zero ↦ λ h x. eqb-false (number_of u) number t x | suc m ↦ λ h x. rest e m (omega arith) x ]

  pub find_at : (us : List U.Unit) (i : ℕ) → (find_in us number ≡ Some i) ↔ FoundAt us number i
  unfolding find_in
  find_at us i = (
    λ e. let r = found_from us 0 i e in let q : r.0 ≡ i = omega (arith, r.1) in subst (λ n. FoundAt us number n) q r.2,
    λ f. at_from us 0 i f ∙ ap Some (zero-add i),
  )

  pub find_nothing : (us : List U.Unit) → (find_in us number ≡ None) ↔ FoundNowhere us number
  unfolding find_in
  find_nothing us = (from_nothing us 0, nothing_from us 0)
