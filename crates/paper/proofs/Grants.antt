-- What `arbiter` says of requests and grants is what the paper says. Assumes nothing.
use Prim.Native.Nat.{ℕ, suc, ◌+◌, ◌-◌, ◌%◌, ◌<◌, ◌≤◌}
use native.Mathlib.Omega.{arith}
use mathlib.Core.Path.{◌≡◌, refl, sym, ap, ◌∙◌}
use mathlib.Core.Logic.{◌↔◌, ◌⊎◌, inl, inr, ⊎_elim}
use mathlib.Core.Bool.{true, cond}
use mathlib.Core.List.{List}
use lib.Dec.{eqb, ltb}
use lib.ListN.{length, get_or, get_or-eq_default}
use borrow.Author.Tests.{eqb-true, eqb-false, eq-eqb, ltb-true, ltb-false, lt-ltb, le-ltb}
use Rattle.arbiter.specs.Arbitration as arbiter
use Rattle.arbiter.specs.declared.Grant as G
use Rattle.arbiter.proofs.Order.{cyclic_above, cyclic_below, cyclic_has, below_or, cyclic_length}
use Rattle.arbiter.proofs.Requests.{asks_with, asks_without, renewed_at, renewed_past}
use Rattle.arbiter.proofs.Grants.{not_granted, granted_asks, grants_if_asked, granted_highest, granted_first, granted_changes}
use Rattle.shelf.specs.Shelves as shelf
use Rattle.shelf.specs.declared.Unit as U
use Rattle.paper.specs.Grants.{Wants, Renewed, turn, last_at, GrantTo, NoGrant}
use Rattle.outlet.proofs.Truth.{decide}
use Rattle.paper.proofs.State.{besides_iff}

-- whose request is renewed
due_16 : (frame n : ℕ) → arbiter.due 16 frame n ≡ true
unfolding arbiter.due
due_16 frame n = refl

due_32 : (frame n : ℕ) → (arbiter.due 32 frame n ≡ true) ↔ (((n < 16) × (frame % 2 ≡ 0)) ⊎ ((16 ≤ n) × (frame % 2 ≡ 1)))
unfolding arbiter.due
due_32 frame n =
    decide (ltb n 16)
    (λ t.
    let low = ltb-true n 16 t in
    let is : arbiter.due 32 frame n ≡ eqb (frame % 2) 0 = rw t in
    (λ e. inl (low, eqb-true (frame % 2) 0 (sym is ∙ e)), ⊎_elim (λ h. is ∙ eq-eqb (frame % 2) 0 h.1) (λ h. absurd (omega (arith, h.0)))))
    (λ f.
    let high = ltb-false n 16 f in
    let is : arbiter.due 32 frame n ≡ eqb (frame % 2) 1 = rw f in
    (λ e. inr (high, eqb-true (frame % 2) 1 (sym is ∙ e)), ⊎_elim (λ h. absurd (omega (arith, h.0))) (λ h. is ∙ eq-eqb (frame % 2) 1 h.1)))

pub due_iff : (bus frame n : ℕ) → (bus ≡ 16) ⊎ (bus ≡ 32) → (arbiter.due bus frame n ≡ true) ↔ Renewed bus frame n
due_iff bus frame n =
    ⊎_elim
    (λ e. (λ d. inl e, λ r. ap (λ b. arbiter.due b frame n) e ∙ due_16 frame n))
    (λ e.
    let is = ap (λ b. arbiter.due b frame n) e in
    (λ d. inr ((due_32 frame n).0 (sym is ∙ d)), ⊎_elim (λ f. absurd (omega arith)) (λ r. is ∙ (due_32 frame n).1 r)))

-- a request that is renewed becomes what its unit asks now, and the others stand
module _ (bus frame : ℕ) (size : (bus ≡ 16) ⊎ (bus ≡ 32)) (now asks : List ℕ) (n : ℕ) where
  renewed_is : n < length asks → get_or (arbiter.renewed_from bus frame now 0 asks) n 0 ≡ cond (arbiter.due bus frame n) (get_or now n 0) (get_or asks n 0)
  renewed_is h =
      let z : 0 + n ≡ n = omega arith in
      renewed_at bus frame now 0 asks n h ∙ (λ i. cond (arbiter.due bus frame (z i)) (get_or now (z i) 0) (get_or asks n 0))

  pub renewed_now : n < length asks → Renewed bus frame n → get_or (arbiter.renewed_from bus frame now 0 asks) n 0 ≡ get_or now n 0
  renewed_now h r = renewed_is h ∙ ap (λ b. cond b (get_or now n 0) (get_or asks n 0)) ((due_iff bus frame n size).1 r)

  pub renewed_stand : (Renewed bus frame n → ⊥) → get_or (arbiter.renewed_from bus frame now 0 asks) n 0 ≡ get_or asks n 0
  renewed_stand r =
      below_or n (length asks)
      (λ h. renewed_is h ∙ ap (λ b. cond b (get_or now n 0) (get_or asks n 0)) (decide (arbiter.due bus frame n) (λ t. absurd (r ((due_iff bus frame n size).0 t))) (λ f. f)))
      (λ h. renewed_past bus frame now 0 asks n h ∙ sym (get_or-eq_default asks 0 {n = n} h))

-- what a unit asks
pub asks_wanting : (u : U.Unit) (granted : ℕ) → Wants granted u → arbiter.asking u.settings.priority (shelf.waiting u) (eqb u.settings.number granted) ≡ u.settings.priority
asks_wanting u granted w =
    asks_with u.settings.priority (shelf.waiting u) (eqb u.settings.number granted) ((besides_iff (shelf.waiting u) u.settings.number granted).1 (w.cell, w.besides))

pub asks_silent : (u : U.Unit) (granted : ℕ) → (Wants granted u → ⊥) → arbiter.asking u.settings.priority (shelf.waiting u) (eqb u.settings.number granted) ≡ 0
asks_silent u granted n =
    let few : arbiter.besides (shelf.waiting u) (eqb u.settings.number granted) < 1 = below_or (arbiter.besides (shelf.waiting u) (eqb u.settings.number granted)) 1 (λ h. h)
    (λ h. absurd (let b = (besides_iff (shelf.waiting u) u.settings.number granted).0 h in n (record { cell = b.0; besides = b.1 }))) in
    asks_without u.settings.priority (shelf.waiting u) (eqb u.settings.number granted) (omega arith)

-- a unit's turn is its place in the cyclic order
turn_above : (last n : ℕ) → last < 32 → last < n → turn last n ≡ n - last - 1
turn_above last n h k = rw (lt-ltb last 32 h, lt-ltb last n k)

turn_below : (last n : ℕ) → last < 32 → n ≤ last → turn last n ≡ n + 31 - last
turn_below last n h k = rw (lt-ltb last 32 h, le-ltb last n k)

turn_none : (last n : ℕ) → 32 ≤ last → turn last n ≡ n
turn_none last n h = rw (le-ltb last 32 h)

turn_at : (last k : ℕ) → k < 32 → turn last (get_or (arbiter.cyclic last) k 0) ≡ k
turn_at last k h =
    below_or last 32
    (λ low.
    below_or k (32 - suc last)
    (λ a. let e = cyclic_above last k a in turn_above last (get_or (arbiter.cyclic last) k 0) low (omega arith) ∙ omega arith)
    (λ a. let e = cyclic_below last k a h in turn_below last (get_or (arbiter.cyclic last) k 0) low (omega arith) ∙ omega arith))
    (λ high. let e = cyclic_below last k (omega arith) h in turn_none last (get_or (arbiter.cyclic last) k 0) high ∙ omega arith)

-- the grant
pub data Turns (last asks : List ℕ) (g : G.Grant) : Type 0 where
  granted : GrantTo last asks g.unit g.last g.asks → Turns last asks g
  none : NoGrant last asks g.unit g.last g.asks → Turns last asks g

module _ (last asks : List ℕ) (three : length last ≡ 3) where
  abbrev g : G.Grant
  g = arbiter.granted last asks

  first_turn : (p unit : ℕ) → arbiter.FirstOf asks p (arbiter.cyclic (last_at last p)) unit → (n : ℕ) → n < 32 → get_or asks n 0 ≡ p → turn (last_at last p) unit ≤ turn (last_at last p) n
  first_turn p unit f n h e =
      let l = last_at last p in
      let full = cyclic_length l in
      let own : turn l unit ≡ f.place = ap (turn l) (sym f.there) ∙ turn_at l f.place (omega (arith, f.inside)) in
      let at = cyclic_has l n h in
      let other : turn l n ≡ at.0 = ap (turn l) (sym at.2) ∙ turn_at l at.0 at.1 in
      below_or at.0 f.place
      (λ less. absurd (f.before at.0 less (ap (λ x. get_or asks x 0) at.2 ∙ e)))
      (λ more. omega arith)

  pub turns : Turns last asks g
  turns =
      decide (eqb g.unit 255)
      (λ t.
      let e = eqb-true g.unit 255 t in
      let is = not_granted last asks e in
      none (record { silent = λ n a. (grants_if_asked last asks).1 (n, a) e; nobody = e; lasts = ap (λ x. x.last) is; stand = ap (λ x. x.asks) is }))
      (λ f.
      let some = eqb-false g.unit 255 f in
      let c = granted_changes last asks some in
      granted
      (record {
        asked = granted_asks last asks some;
        highest = granted_highest last asks some;
        first = first_turn (get_or asks g.unit 0) g.unit (granted_first last asks some);
        cleared = c.cleared;
        stand = c.stand;
        own = c.own three;
        kept = c.kept;
      }))
