-- What the requests of a sound shelf are once they are renewed. Assumes nothing.
use Prim.Native.Nat.{ℕ, zero, suc, ◌+◌, ◌<◌, ◌≤◌}
use native.Mathlib.Omega.{arith}
use mathlib.Core.Path.{◌≡◌, refl, sym, ap, subst, ◌∙◌}
use mathlib.Core.Logic.{◌⊎◌, inl, inr, ⊎_elim}
use mathlib.Core.Bool.{Bool, true, false, cond}
use mathlib.Core.List.{List, [], ◌∷◌}
use lib.Dec.{eqb, leb}
use lib.ListN.{length, get_or, set, replicate}
use borrow.Author.Tests.{leb-true}
use Rattle.card.specs.declared.Card.{Card}
use Rattle.arbiter.specs.Arbitration.{due, asking, besides, renewed_from}
use Rattle.arbiter.proofs.Requests.{renewed_at, renewed_past}
use Rattle.store.proofs.Slots.{by_lt}
use Rattle.shelf.specs.Shelves.{declared, blank, waiting, number_of}
use Rattle.shelf.specs.declared.Unit as U
use Rattle.shelf.specs.Shelf.{Shelf}
use Rattle.soundness.specs.State.{DeclaredIn, Sound}
use Rattle.arbiter.specs.Arbitration.{asks_now}
use Rattle.framing.specs.Requests.{asking_of, asking_now, requests}
use Rattle.running.proofs.Changed.{set_or}

-- what a number asks now comes from one of the units, or from before
from_unit : (granted n : ℕ) (now : List ℕ) (us : List U.Unit) →
    (get_or (asking_of granted now us) n 0 ≡ get_or now n 0)
    ⊎ ((k : ℕ) × (k < length us) × (number_of (get_or us k blank) ≡ n) × (get_or (asking_of granted now us) n 0 ≡ asks_now granted (number_of (get_or us k blank)) (get_or us k blank).settings.priority (waiting (get_or us k blank))))
unfolding asking_of
from_unit granted n now [] = inl refl
from_unit granted n now (u ∷ us) =
    ⊎_elim
    (λ e.
    ⊎_elim
    (λ o. inr (0, omega arith, sym o.0, e ∙ o.1))
    (λ o. inl (e ∙ o))
    (set_or now (number_of u) (asks_now granted (number_of u) u.settings.priority (waiting u)) 0 n))
    (λ r. inr (suc r.0, omega (arith, r.1), r.2, r.3))
    (from_unit granted n (set now (number_of u) (asks_now granted (number_of u) u.settings.priority (waiting u))) us)

pub none_yet : (k n : ℕ) → ◌≡◌ {A = ℕ} (get_or (replicate k 0) n 0) 0
none_yet zero n = refl
none_yet (suc k) zero = refl
none_yet (suc k) (suc n) = none_yet k n

-- a request is that of before, what is asked now, or none
renewed_or : (bus frame : ℕ) (now asks : List ℕ) (n : ℕ) →
    (get_or (renewed_from bus frame now 0 asks) n 0 ≡ 0) ⊎ ((get_or (renewed_from bus frame now 0 asks) n 0 ≡ get_or now n 0) ⊎ (get_or (renewed_from bus frame now 0 asks) n 0 ≡ get_or asks n 0))
renewed_or bus frame now asks n =
    by_lt n (length asks)
    (λ h. pick (due bus frame (0 + n)) (renewed_at bus frame now 0 asks n h))
    (λ h. inl (renewed_past bus frame now 0 asks n h))
  where
    z : 0 + n ≡ n
    z = omega arith

    pick : (b : Bool) → get_or (renewed_from bus frame now 0 asks) n 0 ≡ cond b (get_or now (0 + n) 0) (get_or asks n 0) →
        (get_or (renewed_from bus frame now 0 asks) n 0 ≡ 0) ⊎ ((get_or (renewed_from bus frame now 0 asks) n 0 ≡ get_or now n 0) ⊎ (get_or (renewed_from bus frame now 0 asks) n 0 ≡ get_or asks n 0))
    pick true e = inr (inl (e ∙ ap (λ k. get_or now k 0) z))
    pick false e = inr (inr e)

-- a unit asks at its priority for a cell besides a granted one, or not at all
abbrev pub AsksFor : ℕ → ℕ → U.Unit → Type 0
AsksFor ask granted u = (ask ≡ 0) ⊎ ((ask ≡ u.settings.priority) × (1 ≤ besides (waiting u) (eqb (number_of u) granted)))

asks_for : (granted : ℕ) (u : U.Unit) → AsksFor (asks_now granted (number_of u) u.settings.priority (waiting u)) granted u
unfolding asking
asks_for granted u = pick (leb 1 (besides (waiting u) (eqb (number_of u) granted))) refl
  where
    pick : (b : Bool) → leb 1 (besides (waiting u) (eqb (number_of u) granted)) ≡ b → AsksFor (cond b u.settings.priority 0) granted u
    pick true t = inr (refl, leb-true 1 (besides (waiting u) (eqb (number_of u) granted)) t)
    pick false t = inl refl

module _ (card : Card) (shelf : Shelf) (bytes records : ℕ) (s : Sound card shelf bytes records) where
  -- two units with one number are one
  same_place : (i j : ℕ) → i < length (declared shelf) → j < length (declared shelf) → number_of (get_or (declared shelf) i blank) ≡ number_of (get_or (declared shelf) j blank) → i ≡ j
  same_place i j hi hj e = by_lt i j (λ l. absurd (s.once i j l hj e)) (λ l. by_lt j i (λ k. absurd (s.once j i k hi (sym e))) (λ k. omega arith))

  abbrev asks : List ℕ
  asks = (requests shelf).asks

  pub declared_asks : (j : ℕ) → j < length (declared shelf) → AsksFor (get_or asks (number_of (get_or (declared shelf) j blank)) 0) shelf.granted (get_or (declared shelf) j blank)
  declared_asks j h =
      let u = get_or (declared shelf) j blank in
      let n = number_of u in
      ⊎_elim
      (λ e. inl e)
      (⊎_elim
      (λ e.
      ⊎_elim
      (λ o. inl (e ∙ o ∙ none_yet 32 n))
      (λ o.
      let k = same_place o.0 j o.1 h o.2 in
      subst (λ a. AsksFor a shelf.granted u) (sym (e ∙ o.3 ∙ ap (λ m. asks_now shelf.granted (number_of (get_or (declared shelf) m blank)) (get_or (declared shelf) m blank).settings.priority (waiting (get_or (declared shelf) m blank))) k)) (asks_for shelf.granted u))
      (from_unit shelf.granted n (replicate 32 0) (declared shelf)))
      (λ e. subst (λ a. AsksFor a shelf.granted u) (sym e) (s.units j h).ask))
      (renewed_or shelf.bus shelf.frame (asking_now shelf) shelf.arbiter.asks n)

  pub stranger_asks : (n : ℕ) → (DeclaredIn (declared shelf) n → ⊥) → get_or asks n 0 ≡ 0
  stranger_asks n f =
      ⊎_elim
      (λ e. e)
      (⊎_elim
      (λ e.
      ⊎_elim
      (λ o. e ∙ o ∙ none_yet 32 n)
      (λ o. absurd (f (o.0, o.1, o.2)))
      (from_unit shelf.granted n (replicate 32 0) (declared shelf)))
      (λ e. e ∙ s.asks n f))
      (renewed_or shelf.bus shelf.frame (asking_now shelf) shelf.arbiter.asks n)
