-- The lines of a good table have no unit number twice, and none above 31. Assumes nothing.
use Rattle.std.specs.Prelude.{None, Option, Some}
use Prim.Native.Nat.{ℕ, zero, suc, ◌<◌}
use native.Mathlib.Omega.{arith}
use mathlib.Core.Path.{◌≡◌, refl, sym, subst}
use mathlib.Core.Bool.{Bool, true, false}
use mathlib.Core.List.{List, [], ◌∷◌, ◌++◌, append-nil}
use lib.Dec.{eqb}
use lib.ListN.{length, get_or}
use borrow.Author.Tests.{eqb-false}
use Rattle.line.specs.declared.Line.{Line}
use Rattle.line.specs.declared.Line.TheVariants.{Bus, Unit as L-as-Unit, Vp, Drop, Page, Vc, Mc}
use Rattle.meaning.specs.Told.{of_unit, same, opens, only, either, top_of}
use Rattle.meaning.proofs.Fits.{fine_unit}
use Rattle.paper.specs.Words.{AllInRange}
use Rattle.document.specs.Shelf.{Unit, number_of, blank, fresh_unit, units_of}
use Rattle.flow.specs.Lost.{Different, NumbersOnce}

-- of each of two lists, so of both
each_two : (P : Unit → Type 0) (us vs : List Unit) → ((i : ℕ) → i < length us → P (get_or us i blank)) → ((i : ℕ) → i < length vs → P (get_or vs i blank)) → (i : ℕ) → i < length (us ++ vs) → P (get_or (us ++ vs) i blank)
each_two P [] vs f g i h = g i h
each_two P (u ∷ us) vs f g zero h = f 0 (omega arith)
each_two P (u ∷ us) vs f g (suc i) h = each_two P us vs (λ j k. f (suc j) (omega arith)) g i (omega arith)

-- of one unit
each_one : (P : Unit → Type 0) (u : Unit) → P u → (i : ℕ) → i < length (u ∷ []) → P (get_or (u ∷ []) i blank)
each_one P u p zero h = p
each_one P u p (suc i) h = absurd (omega arith)

-- a unit more, with a number that is not there
one_more : (us : List Unit) (u : Unit) → ((i : ℕ) → i < length us → number_of (get_or us i blank) ≡ number_of u → ⊥) → Different us → Different (us ++ (u ∷ []))
one_more [] u new once i zero h k = absurd (omega arith)
one_more [] u new once i (suc j) h k = absurd (omega arith)
one_more (v ∷ us) u new once i zero h k = absurd (omega arith)
one_more (v ∷ us) u new once zero (suc j) h k =
    each_two (λ w. number_of v ≡ number_of w → ⊥) us (u ∷ []) (λ a b. once 0 (suc a) (omega arith) (omega arith)) (each_one (λ w. number_of v ≡ number_of w → ⊥) u (new 0 (omega arith))) j (omega arith)
one_more (v ∷ us) u new once (suc i) (suc j) h k =
    one_more us u (λ a b. new (suc a) (omega arith)) (λ a b l m. once (suc a) (suc b) (omega arith) (omega arith)) i j (omega arith) (omega arith)

-- a number without a top is no declared unit's
neither : {A : Type 0} (a b : Option A) → either a b ≡ None → (a ≡ None) × (b ≡ None)
neither None b e = (refl, e)
neither (Some a) b e = let z : ◌≡◌ {A = ℕ} 0 1 = cc in absurd (omega arith)

-- a test that gave nothing did not hold
only_none : {A : Type 0} (b : Bool) (a : A) → only b a ≡ None → b ≡ false
only_none true a e = let z : ◌≡◌ {A = ℕ} 0 1 = cc in absurd (omega arith)
only_none false a e = refl

abbrev Nowhere : ℕ → List Unit → Type 0
Nowhere n us = (i : ℕ) → i < length us → number_of (get_or us i blank) ≡ n → ⊥

-- a line that declares no unit
plain : (n : ℕ) (us : List Unit) → Nowhere n us → Nowhere n (us ++ [])
plain n us f = subst (Nowhere n) (sym (append-nil us)) f

-- so of all lines
nowhere : (told : List Line) (n : ℕ) → top_of told (of_unit n) ≡ None → Nowhere n (units_of told)
unfolding top_of units_of opens same
nowhere [] n e = λ i h. absurd (omega arith)
nowhere (Bus bus ∷ told) n e = plain n (units_of told) (nowhere told n e)
nowhere (L-as-Unit settings limits ∷ told) n e =
    let w = neither (only (eqb settings.number n) settings.top) (top_of told (of_unit n)) e in
    each_two (λ u. number_of u ≡ n → ⊥) (units_of told) (fresh_unit settings limits ∷ []) (nowhere told n w.1)
    (each_one (λ u. number_of u ≡ n → ⊥) (fresh_unit settings limits) (eqb-false settings.number n (only_none (eqb settings.number n) settings.top w.0)))
nowhere (Vp u v target class outvpi ∷ told) n e = plain n (units_of told) (nowhere told n e)
nowhere (Drop u v ∷ told) n e = plain n (units_of told) (nowhere told n e)
nowhere (Page u v top ∷ told) n e = plain n (units_of told) (nowhere told n e)
nowhere (Vc u v w target class outvpi outvci ∷ told) n e = plain n (units_of told) (nowhere told n e)
nowhere (Mc u session ∷ told) n e = plain n (units_of told) (nowhere told n e)

-- a line that declares no unit, again
no_more : (us : List Unit) → Different us → Different (us ++ [])
no_more us once = subst Different (sym (append-nil us)) once

-- line by line: `unit` only with a new number
pub numbers_once : NumbersOnce
unfolding units_of
numbers_once card room [] g = λ i j h k. absurd (omega arith)
numbers_once card room (Bus bus ∷ told) g = no_more (units_of told) (numbers_once card room told g.1)
numbers_once card room (L-as-Unit settings limits ∷ told) g =
    one_more (units_of told) (fresh_unit settings limits) (nowhere told settings.number (fine_unit card room told settings limits g.0).new)
    (numbers_once card room told g.1)
numbers_once card room (Vp u v target class outvpi ∷ told) g = no_more (units_of told) (numbers_once card room told g.1)
numbers_once card room (Drop u v ∷ told) g = no_more (units_of told) (numbers_once card room told g.1)
numbers_once card room (Page u v top ∷ told) g = no_more (units_of told) (numbers_once card room told g.1)
numbers_once card room (Vc u v w target class outvpi outvci ∷ told) g = no_more (units_of told) (numbers_once card room told g.1)
numbers_once card room (Mc u session ∷ told) g = no_more (units_of told) (numbers_once card room told g.1)

-- "units 0 to 31"
abbrev Low : List Unit → Type 0
Low us = (i : ℕ) → i < length us → number_of (get_or us i blank) < 32

still_low : (us : List Unit) → Low us → Low (us ++ [])
still_low us low = subst Low (sym (append-nil us)) low

pub numbers_low : (told : List Line) → AllInRange told → (i : ℕ) → i < length (units_of told) → number_of (get_or (units_of told) i blank) < 32
unfolding units_of
numbers_low [] r = λ i h. absurd (omega arith)
numbers_low (Bus bus ∷ told) r = still_low (units_of told) (numbers_low told r.1)
numbers_low (L-as-Unit settings limits ∷ told) r =
    let small : settings.number < 32 = omega (arith, r.0.0) in
    each_two (λ u. number_of u < 32) (units_of told) (fresh_unit settings limits ∷ []) (numbers_low told r.1) (each_one (λ u. number_of u < 32) (fresh_unit settings limits) small)
numbers_low (Vp u v target class outvpi ∷ told) r = still_low (units_of told) (numbers_low told r.1)
numbers_low (Drop u v ∷ told) r = still_low (units_of told) (numbers_low told r.1)
numbers_low (Page u v top ∷ told) r = still_low (units_of told) (numbers_low told r.1)
numbers_low (Vc u v w target class outvpi outvci ∷ told) r = still_low (units_of told) (numbers_low told r.1)
numbers_low (Mc u session ∷ told) r = still_low (units_of told) (numbers_low told r.1)
