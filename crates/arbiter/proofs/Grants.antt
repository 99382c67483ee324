-- What a grant does: who is granted, whom it passes over, what it changes. Assumes nothing.
use mathlib.Core.Path.{◌≡◌, refl, sym, ap, ap₂, subst, ◌∙◌}
use mathlib.Core.Logic.{◌↔◌}
use mathlib.Core.Bool.{true}
use mathlib.Core.List.{List}
use Prim.Native.Nat.{ℕ, ◌-◌, ◌≤◌, ◌<◌}
use native.Mathlib.Omega.{arith}
use lib.ListN.{length, get_or, length-set, get_or-eq_default}
use lib.Seq.{get_or-set_same, get_or-set_other, set_out}
use borrow.Author.Tests.{eq-eqb, ne_eqb}
use Rattle.arbiter.proofs.Order.{below_or, units_length, unit_at_lem, cyclic_length, cyclic_unit}
use Rattle.arbiter.proofs.Requests.{same_or, some_there, first_is, some_cyclic, highest_is}
use Rattle.arbiter.specs.Arbitration.{nobody, units, cyclic, some_asks, highest, last_at, turn, grant_to, no_grant, granted, Asks, unit_of, Grants, FirstOf, Changed}

module _ (last asks : List ℕ) where
  changes : (p unit : ℕ) → 1 ≤ p → p ≤ 3 → Changed last asks p unit (grant_to last asks p unit)
  changes p unit l m =
      record {
        cleared = below_or unit (length asks)
            (λ h. get_or-set_same asks unit 0 0 h)
            (λ h. ap (λ s. get_or s unit 0) (set_out asks unit 0 h) ∙ get_or-eq_default asks 0 {n = unit} h);
        stand = λ n h. get_or-set_other asks unit n 0 0 h;
        own = λ h. get_or-set_same last (p - 1) unit 0 (omega arith);
        kept = λ q h n. get_or-set_other last (p - 1) (q - 1) unit 0 (λ x. n (omega arith));
      }

  -- nobody asks, or the highest priority is granted
  module _ (p : ℕ) (top : p ≡ highest asks) where
    pub none_granted : p ≡ 0 → no_grant last asks ≡ granted last asks
    unfolding granted
    none_granted e = rw (← top, eq-eqb p 0 e)

    pub one_granted : (unit : ℕ) → (p ≡ 0 → ⊥) → unit ≡ turn last asks p → grant_to last asks p unit ≡ granted last asks
    unfolding granted
    one_granted unit e u = rw (← top, ne_eqb p 0 e, u)

    pub turn_first : (p ≡ 0 → ⊥) → FirstOf asks p (cyclic (last_at last p)) (turn last asks p)
    turn_first e =
        let h = highest_is asks in
        let t : some_asks asks p units ≡ true = ap (λ n. some_asks asks n units) top ∙ h.one (omega arith) in
        first_is asks p (cyclic (last_at last p)) (some_cyclic asks p (last_at last p) t)

    pub turn_unit : (p ≡ 0 → ⊥) → turn last asks p < 32
    turn_unit e =
        let f = turn_first e in
        let w = f.inside in
        let l = cyclic_length (last_at last p) in
        let u = cyclic_unit (last_at last p) f.place (omega arith) in
        let t = f.there in
        omega arith

    pub top_most : p ≤ 3
    top_most = let h = (highest_is asks).most in omega arith

  -- a unit is granted exactly if one asks, and otherwise nothing changes
  some_top : Grants last asks → highest asks ≡ 0 → ⊥
  some_top g e = g (ap (λ x. x.unit) (sym (none_granted (highest asks) refl e)))

  at_top : (n : ℕ) → Asks asks n → get_or asks n 0 ≤ highest asks
  at_top n w =
      let l = units_length in
      (highest_is asks).above (get_or asks n 0) w.1 w.2
      (some_there asks (get_or asks n 0) units n (omega arith) (ap (λ m. get_or asks m 0) (unit_at_lem n w.0)))

  is_granted : (highest asks ≡ 0 → ⊥) → grant_to last asks (highest asks) (turn last asks (highest asks)) ≡ granted last asks
  is_granted e = one_granted (highest asks) refl (turn last asks (highest asks)) e refl

  pub not_granted : unit_of last asks ≡ nobody → granted last asks ≡ no_grant last asks
  not_granted u =
      same_or (highest asks) 0
      (λ e. sym (none_granted (highest asks) refl e))
      (λ e.
      let t = turn_unit (highest asks) refl e in
      let v : turn last asks (highest asks) ≡ nobody = ap (λ x. x.unit) (is_granted e) ∙ u in
      absurd (omega arith))

  -- the unit granted is the one whose turn it is, and its request is at the highest priority
  its_turn : Grants last asks → turn last asks (highest asks) ≡ unit_of last asks
  its_turn g = ap (λ x. x.unit) (is_granted (some_top g))

  its_top : Grants last asks → get_or asks (unit_of last asks) 0 ≡ highest asks
  its_top g = ap (λ n. get_or asks n 0) (sym (its_turn g)) ∙ (turn_first (highest asks) refl (some_top g)).asks

  pub granted_asks : Grants last asks → Asks asks (unit_of last asks)
  granted_asks g =
      let z = some_top g in
      let t = turn_unit (highest asks) refl z in
      let i = its_turn g in
      let p = its_top g in
      let m = (highest_is asks).most in
      (omega arith, omega arith, omega arith)

  pub grants_if_asked : Grants last asks ↔ ((n : ℕ) × Asks asks n)
  grants_if_asked = (
    λ g. (unit_of last asks, granted_asks g),
    λ w u.
        let l = at_top w.0 w.1 in
        let o = w.1.1 in
        let z : highest asks ≡ 0 → ⊥ = λ q. omega arith in
        let t = turn_unit (highest asks) refl z in
        let v : turn last asks (highest asks) ≡ nobody = ap (λ x. x.unit) (is_granted z) ∙ u in
        omega arith,
  )

  pub granted_highest : Grants last asks → (n : ℕ) → Asks asks n → get_or asks n 0 ≤ get_or asks (unit_of last asks) 0
  granted_highest g n w = let l = at_top n w in let p = its_top g in omega arith

  -- "the first unit in cyclic order after the last unit granted": none that asks at its priority stands before it
  pub granted_first : Grants last asks → FirstOf asks (get_or asks (unit_of last asks) 0) (cyclic (last_at last (get_or asks (unit_of last asks) 0))) (unit_of last asks)
  granted_first g =
      subst (λ p. FirstOf asks p (cyclic (last_at last p)) (unit_of last asks)) (sym (its_top g))
      (subst (λ n. FirstOf asks (highest asks) (cyclic (last_at last (highest asks))) n) (its_turn g) (turn_first (highest asks) refl (some_top g)))

  -- it clears exactly that request, and exactly that priority's last unit is new
  pub granted_changes : Grants last asks → Changed last asks (get_or asks (unit_of last asks) 0) (unit_of last asks) (granted last asks)
  granted_changes g =
      let a = granted_asks g in
      subst (λ x. Changed last asks (get_or asks (unit_of last asks) 0) (unit_of last asks) x)
      (ap₂ (λ p n. grant_to last asks p n) (its_top g) (sym (its_turn g)) ∙ is_granted (some_top g))
      (changes (get_or asks (unit_of last asks) 0) (unit_of last asks) a.1 a.2)

  -- a unit that does not ask is not granted
  pub idle_not_granted : (n : ℕ) → n < 32 → get_or asks n 0 ≡ 0 → unit_of last asks ≡ n → ⊥
  idle_not_granted n h e u =
      let a = (granted_asks (λ x. omega arith)).1 in
      let w : get_or asks (unit_of last asks) 0 ≡ get_or asks n 0 = ap (λ m. get_or asks m 0) u in
      omega arith

  -- there are as many of both as before
  pub granted_length : (length (granted last asks).last ≡ length last) × (length (granted last asks).asks ≡ length asks)
  granted_length =
      let p = highest asks in
      let u = turn last asks (highest asks) in
      same_or (highest asks) 0
      (λ e. subst (λ g. (length g.last ≡ length last) × (length g.asks ≡ length asks)) (none_granted (highest asks) refl e) (refl, refl))
      (λ e. subst (λ g. (length g.last ≡ length last) × (length g.asks ≡ length asks)) (is_granted e) (length-set last (p - 1) u, length-set asks u 0))
