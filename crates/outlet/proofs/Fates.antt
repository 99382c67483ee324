-- What each fate of a copy says, in plain facts. Assumes nothing.
use mathlib.Core.Path.{◌≡◌, refl, ap, subst, ◌∙◌}
use mathlib.Core.Logic.{◌↔◌, ◌⊎◌, ⊎_elim}
use mathlib.Core.Bool.{Bool, true, false, ◌&&◌, cond}
use Prim.Native.Nat.{ℕ, ◌<◌}
use native.Mathlib.Nat.{mod-lt, mod-eq_of_lt}
use native.Mathlib.Omega.{arith}
use lib.Dec.{eqb, leb}
use borrow.Author.Tests.{ltb-true, leb-true, leb-false, eqb-true, lt-ltb, le-leb, lt-leb, eq-eqb, ne_eqb}
use Rattle.header.specs.declared.Link.{Link}
use Rattle.header.specs.declared.Link.TheVariants.{Uni, Nni}
use Rattle.outlet.specs.Outlets.{capacity}
use Rattle.outlet.specs.declared.Mode.{Mode}
use Rattle.outlet.specs.declared.Mode.TheVariants.{One, Four}
use Rattle.outlet.specs.declared.Limits.{Limits}
use Rattle.outlet.specs.declared.Outlet.{Outlet}
use Rattle.outlet.specs.Hearing.{queue_in, queue_of, limit_of, limit, held, bus_vpi, bus_clp, too_wide, fate_at, fate_in, fate, TooWide, FateAt, FateIn, FateOf}
use Rattle.outlet.specs.declared.Fate.{Fate}
use Rattle.outlet.specs.declared.Fate.TheVariants.{Wide, Full, Clp, Queued}

-- queues and limits in each mode
pub queue_lt : (limits : Limits) (class : ℕ) → queue_of limits class < 4
unfolding queue_of
queue_lt limits class = go limits.mode
  where
    go : (mode : Mode) → queue_in mode class < 4
    go One = omega arith
    go Four = mod-lt class (omega arith)

pub limit_in : (limits : Limits) (q : ℕ) (mode : Mode) → limits.mode ≡ mode → limit limits q ≡ limit_of mode limits.cbrlimit limits.vbrlimit (capacity limits q) q
unfolding limit
limit_in limits q mode e = ap (λ m. limit_of m limits.cbrlimit limits.vbrlimit (capacity limits q) q) e

pub one_queue : (limits : Limits) (class : ℕ) → limits.mode ≡ One → queue_of limits class ≡ 0
unfolding queue_of
one_queue limits class e = ap (λ m. queue_in m class) e

pub own_queue : (limits : Limits) (class : ℕ) → limits.mode ≡ Four → class < 4 → queue_of limits class ≡ class
unfolding queue_of
own_queue limits class e h = ap (λ m. queue_in m class) e ∙ mod-eq_of_lt h

-- "classes 0 and 3 have no limit"
pub unlimited : (limits : Limits) (q : ℕ) → limits.mode ≡ Four → (q ≡ 0) ⊎ (q ≡ 3) → limit limits q ≡ capacity limits q
unlimited limits q e w =
    limit_in limits q Four e ∙ ⊎_elim (λ z. rw (ne_eqb q 1 (λ p. omega arith), ne_eqb q 2 (λ p. omega arith))) (λ z. rw (ne_eqb q 1 (λ p. omega arith), ne_eqb q 2 (λ p. omega arith))) w

-- the fate goes by the numbers of the queue alone
pub fate_in_lem : (outlet : Outlet) (link : Link) (class header : ℕ) →
    fate outlet link class header ≡ fate_in (capacity outlet.limits (queue_of outlet.limits class)) (limit outlet.limits (queue_of outlet.limits class)) (held outlet (queue_of outlet.limits class)) link header
unfolding fate
fate_in_lem outlet link class header = refl

-- a copy that is not too wide goes by its queue
pub fate_narrow : (outlet : Outlet) (link : Link) (class header : ℕ) → too_wide link header ≡ false →
    fate outlet link class header ≡ fate_at (held outlet (queue_of outlet.limits class)) (capacity outlet.limits (queue_of outlet.limits class)) (limit outlet.limits (queue_of outlet.limits class)) (bus_clp header)
unfolding fate
fate_narrow outlet link class header e = rw e

-- the tests as facts
pub wide_iff : (link : Link) (header : ℕ) → (too_wide link header ≡ true) ↔ TooWide link header
unfolding too_wide
wide_iff Uni header = (λ e. (refl, ltb-true 255 (bus_vpi header) e), λ w. lt-ltb 255 (bus_vpi header) w.1)
wide_iff Nni header = (λ e. let z : ◌≡◌ {A = ℕ} 0 1 = cc in absurd (omega arith), λ w. let e = w.0 in let z : ◌≡◌ {A = ℕ} 0 1 = cc in absurd (omega arith))

not_wide : (link : Link) (header : ℕ) → (TooWide link header → ⊥) → too_wide link header ≡ false
not_wide link header n = go (too_wide link header) refl
  where
    go : (b : Bool) → too_wide link header ≡ b → too_wide link header ≡ false
    go true e = absurd (n ((wide_iff link header).0 e))
    go false e = e

wide_not : (link : Link) (header : ℕ) → too_wide link header ≡ false → TooWide link header → ⊥
wide_not link header e w = let t = (wide_iff link header).1 w in let z : ◌≡◌ {A = ℕ} 0 1 = cc in omega arith

module _ (held capacity limit clp : ℕ) where
  -- a fate's fact makes that fate
  pub at_from : (f : Fate) → FateAt held capacity limit clp f → fate_at held capacity limit clp ≡ f
  unfolding fate_at
  at_from Wide w = absurd w
  at_from Full w = rw (le-leb capacity held w)
  at_from Clp w = rw (lt-leb capacity held w.0, eq-eqb clp 1 w.1, le-leb limit held w.2)
  at_from Queued w = rw (lt-leb capacity held w.0) (go (eqb clp 1) refl)
    where
      go : (b : Bool) → eqb clp 1 ≡ b → cond (b && leb limit held) Clp Queued ≡ Queued
      go true e = rw (lt-leb limit held (w.1 (eqb-true clp 1 e)))
      go false e = refl

  -- the fate that it is has its fact
  pub at_holds : FateAt held capacity limit clp (fate_at held capacity limit clp)
  unfolding fate_at
  at_holds = go (leb capacity held) (eqb clp 1) (leb limit held) refl refl refl
    where
      go : (a b d : Bool) → leb capacity held ≡ a → eqb clp 1 ≡ b → leb limit held ≡ d → FateAt held capacity limit clp (cond a Full (cond (b && d) Clp Queued))
      go true b d p q r = leb-true capacity held p
      go false true true p q r = (leb-false capacity held p, eqb-true clp 1 q, leb-true limit held r)
      go false true false p q r = (leb-false capacity held p, λ _. leb-false limit held r)
      go false false d p q r = (leb-false capacity held p, λ e. let t = eq-eqb clp 1 e in let z : ◌≡◌ {A = ℕ} 0 1 = cc in absurd (omega arith))

-- and so of a copy
module _ (outlet : Outlet) (link : Link) (class header : ℕ) where
  from_queue : (f : Fate) → (TooWide link header → ⊥) × FateIn outlet (queue_of outlet.limits class) header f → fate outlet link class header ≡ f
  from_queue f w =
      let q = queue_of outlet.limits class in
      fate_narrow outlet link class header (not_wide link header w.0)
      ∙ at_from (held outlet q) (capacity outlet.limits q) (limit outlet.limits q) (bus_clp header) f w.1

  from : (f : Fate) → FateOf outlet link class header f → fate outlet link class header ≡ f
  unfolding fate
  from Wide w = rw ((wide_iff link header).1 w)
  from Full w = from_queue Full w
  from Clp w = from_queue Clp w
  from Queued w = from_queue Queued w

  joined : (TooWide link header → ⊥) → (f : Fate) → FateIn outlet (queue_of outlet.limits class) header f → FateOf outlet link class header f
  joined n Wide w = absurd w
  joined n Full w = (n, w)
  joined n Clp w = (n, w)
  joined n Queued w = (n, w)

  holds : (b : Bool) → too_wide link header ≡ b → FateOf outlet link class header (fate outlet link class header)
  holds true e = let w = (wide_iff link header).0 e in rw (from Wide w) w
  holds false e =
      let q = queue_of outlet.limits class in
      rw (fate_narrow outlet link class header e)
      (joined (wide_not link header e) (fate_at (held outlet q) (capacity outlet.limits q) (limit outlet.limits q) (bus_clp header)) (at_holds (held outlet q) (capacity outlet.limits q) (limit outlet.limits q) (bus_clp header)))

  -- the fate of a copy is this one exactly when its fact holds
  pub fate_iff : (f : Fate) → (fate outlet link class header ≡ f) ↔ FateOf outlet link class header f
  fate_iff f = (λ e. subst (λ g. FateOf outlet link class header g) e (holds (too_wide link header) refl), from f)

  -- so a queue without a limit loses no copy for its CLP
  pub never_clp : limit outlet.limits (queue_of outlet.limits class) ≡ capacity outlet.limits (queue_of outlet.limits class) → fate outlet link class header ≡ Clp → ⊥
  never_clp e f = let w = (fate_iff Clp).0 f in omega arith
