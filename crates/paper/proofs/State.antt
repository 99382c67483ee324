-- What `soundness` says of a state is what the paper says. Assumes nothing.
use Rattle.std.specs.Prelude.{None, Option, Some}
use Prim.Native.Nat.{ℕ, zero, suc, ◌+◌, ◌*◌, ◌-◌, ◌<◌, ◌≤◌}
use native.Mathlib.Omega.{arith}
use mathlib.Core.Path.{◌≡◌, refl, sym, ap, subst, ◌∙◌}
use mathlib.Core.Logic.{◌↔◌, ⊎_map}
use mathlib.Core.Bool.{true, false≢true}
use mathlib.Core.List.{List}
use lib.Dec.{eqb}
use lib.ListN.{get_or}
use borrow.Author.Tests.{eqb-true, eqb-false}
use Rattle.header.specs.declared.Link.{Link}
use Rattle.header.specs.declared.Link.TheVariants.{Uni, Nni}
use Rattle.header.specs.Fields.{highest}
use Rattle.card.specs.declared.Card.{Card}
use Rattle.outlet.specs.Outlets as outlet
use Rattle.outlet.specs.declared.Mode.{Mode}
use Rattle.outlet.specs.declared.Mode.TheVariants.{One, Four}
use Rattle.outlet.specs.declared.Limits.{Limits}
use Rattle.outlet.specs.declared.Ring.{Ring}
use Rattle.arbiter.specs.Arbitration.{besides}
use Rattle.shelf.specs.declared.Unit as U
use Rattle.shelf.specs.Shelf.{Shelf}
use Rattle.shelf.specs.Shelves.{declared, find_in, is_at}
use Rattle.shelf.proofs.Finding.{find_at, find_nothing}
use Rattle.soundness.specs.State as state
use Rattle.soundness.specs.Lanes.{formed}
use Rattle.soundness.specs.Soundings.{formed_all}
use Rattle.soundness.proofs.Facts.{sound_iff as code_sound_iff}
use Rattle.soundness.proofs.Sounding.{lanes_at, lanes_all}
use Rattle.store.specs.Rings as rings
use Rattle.store.proofs.Rounds.{tail_lt}
use Rattle.paper.specs.Outlets.{Given, GivenIn, queues_in, queues, nowhere, queue_at, ring_at, behind}
use Rattle.paper.specs.State.{units, unit_at, waiting, DeclaredAt, Declared, RingFits, UnitSound, Sound, Formed}
use Rattle.outlet.proofs.Truth.{decide, le_iff, and_iff}
use Rattle.paper.proofs.Outlets.{capacity_is, behind_is}

-- the limits of a `unit` line
pub given_iff : (limits : Limits) → outlet.Given limits ↔ Given limits
given_iff limits = by limits.mode
  where
    by : (mode : Mode) → outlet.GivenIn mode limits.cbrlength limits.cbrlimit limits.vbrlimit ↔ GivenIn mode limits.cbrlength limits.cbrlimit limits.vbrlimit
    by One = (λ x. x, λ x. x)
    by Four = (λ x. x, λ x. x)

-- a ring
ring_to : (ring : Ring) (k n : ℕ) → k ≡ n → outlet.RingFits ring k → RingFits ring n
ring_to ring k n e f = subst (RingFits ring) e (record { place = f.place; nowhere = f.nowhere; held = f.held })

ring_from : (ring : Ring) (k n : ℕ) → k ≡ n → RingFits ring n → outlet.RingFits ring k
ring_from ring k n e f = subst (outlet.RingFits ring) (sym e) (record { place = f.place; nowhere = f.nowhere; held = f.held })

-- the place behind the cells of a ring that fits
pub tail_is : (ring : Ring) (capacity : ℕ) → capacity ≤ 255 → 0 < capacity → RingFits ring capacity → rings.tail ring capacity ≡ behind ring capacity
tail_is ring capacity small some f = behind_is ring capacity (omega (arith, tail_lt capacity small ring (ring_from ring capacity capacity refl f) some))

-- a cell besides a granted one
pub besides_iff : (cells number granted : ℕ) → (1 ≤ besides cells (eqb number granted)) ↔ ((1 ≤ cells) × (number ≡ granted → 2 ≤ cells))
besides_iff cells number granted =
    decide (eqb number granted)
    (λ t.
    let k : besides cells (eqb number granted) ≡ cells - 1 = ap (λ b. besides cells b) t in
    (λ h. (omega (arith, k), λ e. omega (arith, k)), λ h. let two = h.1 (eqb-true number granted t) in omega (arith, k)))
    (λ f.
    let k : besides cells (eqb number granted) ≡ cells - 0 = ap (λ b. besides cells b) f in
    (λ h. (omega (arith, k), λ e. absurd (eqb-false number granted f e)), λ h. omega (arith, k)))

-- the top VPI
top_to : (link : Link) (top : ℕ) → top ≤ highest link → (link ≡ Uni → top ≤ 255) × (link ≡ Nni → top ≤ 4095)
top_to Uni top h = (λ e. h, λ e. omega arith)
top_to Nni top h = (λ e. absurd (let z : ◌≡◌ {A = ℕ} 0 1 = cc in omega arith), λ e. h)

top_from : (link : Link) (top : ℕ) → (link ≡ Uni → top ≤ 255) → (link ≡ Nni → top ≤ 4095) → top ≤ highest link
top_from Uni top u n = u refl
top_from Nni top u n = n refl

-- a unit
unit_to : (card : Card) (shelf : Shelf) (u : U.Unit) → state.UnitSound card shelf.bus shelf.granted shelf.arbiter.asks u → UnitSound card shelf u
unit_to card shelf u s =
    let tops = top_to u.settings.link u.settings.top s.top in
    record {
      below = s.below;
      link = s.link;
      top_uni = tops.0;
      top_nni = tops.1;
      least = s.least;
      most = s.most;
      limits = (given_iff u.outlet.limits).0 s.limits;
      inlet = ring_to u.inlet 4 4 refl s.inlet;
      queues = λ q h. ring_to (ring_at u.outlet q) (outlet.capacity u.outlet.limits q) (queue_at u.outlet q).capacity (capacity_is u.outlet.limits q) (s.queues.each q h);
      controlin = s.side.controlin;
      loopbackin = s.side.loopbackin;
      controlout = ring_to u.side.controlout 4 4 refl s.side.controlout;
      loopbackout = s.side.loopbackout;
      grant = s.grant;
      ask = ⊎_map (λ e. e) (λ e. let b = (besides_iff (waiting u) u.settings.number shelf.granted).0 e.1 in (e.0, b.0, b.1)) s.ask;
    }

unit_from : (card : Card) (shelf : Shelf) (u : U.Unit) → UnitSound card shelf u → state.UnitSound card shelf.bus shelf.granted shelf.arbiter.asks u
unit_from card shelf u s =
    record {
      below = s.below;
      link = s.link;
      top = top_from u.settings.link u.settings.top s.top_uni s.top_nni;
      least = s.least;
      most = s.most;
      limits = (given_iff u.outlet.limits).1 s.limits;
      inlet = ring_from u.inlet 4 4 refl s.inlet;
      queues =
          record { each = λ q h. ring_from (ring_at u.outlet q) (outlet.capacity u.outlet.limits q) (queue_at u.outlet q).capacity (capacity_is u.outlet.limits q) (s.queues q h) };
      side = record {
        controlout = ring_from u.side.controlout 4 4 refl s.controlout;
        controlin = s.controlin;
        loopbackin = s.loopbackin;
        loopbackout = s.loopbackout;
      };
      grant = s.grant;
      ask = ⊎_map (λ e. e) (λ e. (e.0, (besides_iff (waiting u) u.settings.number shelf.granted).1 (e.1, e.2))) s.ask;
    }

-- a declared unit
declared_to : (shelf : Shelf) (number : ℕ) → state.DeclaredIn (units shelf) number → Declared shelf number
declared_to shelf number d = (d.0, record { inside = d.1; named = d.2 })

declared_from : (shelf : Shelf) (number : ℕ) → Declared shelf number → state.DeclaredIn (units shelf) number
declared_from shelf number d = (d.0, d.1.inside, d.1.named)

-- all of it
pub sound_iff : (card : Card) (shelf : Shelf) (bytes rows : ℕ) → (state.sound_of card shelf bytes rows ≡ true) ↔ Sound card shelf bytes rows
sound_iff card shelf bytes rows = (λ e. to ((code_sound_iff card shelf bytes rows).0 e), λ s. (code_sound_iff card shelf bytes rows).1 (from s))
  where
    to : state.Sound card shelf bytes rows → Sound card shelf bytes rows
    to s =
        record {
          bus = s.bus;
          count = s.count;
          once = s.once;
          each = λ i h. unit_to card shelf (unit_at shelf i) (s.units i h);
          granted = ⊎_map (λ e. e) (declared_to shelf shelf.granted) s.granted;
          last = λ p h. ⊎_map (λ e. e) (declared_to shelf (get_or shelf.arbiter.last p 0)) (s.last p h);
          asks = λ n d. s.asks n (λ k. d (declared_to shelf n k));
          store = s.store;
          records = s.rows;
        }

    from : Sound card shelf bytes rows → state.Sound card shelf bytes rows
    from s =
        record {
          bus = s.bus;
          count = s.count;
          store = s.store;
          rows = s.records;
          once = s.once;
          units = λ i h. unit_from card shelf (unit_at shelf i) (s.each i h);
          granted = ⊎_map (λ e. e) (declared_from shelf shelf.granted) s.granted;
          last = λ p h. ⊎_map (λ e. e) (declared_from shelf (get_or shelf.arbiter.last p 0)) (s.last p h);
          asks = λ n d. s.asks n (λ k. d (declared_from shelf n k));
        }

-- no queue holds more than 123 cells
capacity_in : (mode : Mode) (l c v q : ℕ) → GivenIn mode l c v → (get_or (queues_in mode l c v) q nowhere).capacity ≤ 123
capacity_in One l c v zero g = omega arith
capacity_in One l c v (suc q) g = omega arith
capacity_in Four l c v zero g = omega arith
capacity_in Four l c v (suc zero) g = omega (arith, g.1)
capacity_in Four l c v (suc (suc zero)) g = omega arith
capacity_in Four l c v (suc (suc (suc zero))) g = omega arith
capacity_in Four l c v (suc (suc (suc (suc q)))) g = omega arith

pub capacity_most : (limits : Limits) (q : ℕ) → Given limits → (get_or (queues limits) q nowhere).capacity ≤ 123
capacity_most limits q g = capacity_in limits.mode limits.cbrlength limits.cbrlimit limits.vbrlimit q g

-- a unit is found exactly where one with its number is declared
pub found_iff : (shelf : Shelf) (unit : ℕ) → (is_at (find_in (declared shelf) unit) ≡ true) ↔ Declared shelf unit
found_iff shelf unit = by (find_in (declared shelf) unit) refl
  where
    by : (f : Option ℕ) → find_in (declared shelf) unit ≡ f → (is_at f ≡ true) ↔ Declared shelf unit
    by (Some i) e = let x = (find_at unit (declared shelf) i).0 e in (λ t. (i, record { inside = x.inside; named = x.named }), λ d. refl)
    by None e = (λ t. absurd (false≢true t), λ d. absurd ((find_nothing unit (declared shelf)).0 e d.0 d.1.inside d.1.named))

-- in a sound state the place is the one that is found
pub found_at : (card : Card) (shelf : Shelf) (bytes rows : ℕ) → Sound card shelf bytes rows → (unit place : ℕ) → DeclaredAt shelf unit place → find_in (declared shelf) unit ≡ Some place
found_at card shelf bytes rows s unit place d =
    (find_at unit (declared shelf) place).1 (record { inside = d.inside; named = d.named; first = λ j h e. s.once j place h d.inside (e ∙ sym d.named) })

-- bytes that are a state
formed_at : (b : List ℕ) (i : ℕ) → (formed (λ c. get_or b (c * 32 + i) 0) ≡ true) ↔ (((get_or b (32 + i) 0 ≤ 1) × (get_or b (160 + i) 0 ≤ 1)) × (get_or b (288 + i) 0 ≤ 1))
formed_at b i = and_iff (and_iff (le_iff (get_or b (32 + i) 0) 1) (le_iff (get_or b (160 + i) 0) 1)) (le_iff (get_or b (288 + i) 0) 1)

pub formed_iff : (state : List ℕ) → (formed_all state ≡ true) ↔ Formed state
formed_iff b = (
  λ t.
      let at : (i : ℕ) → i < 32 → i < get_or b 805 0 → ((get_or b (32 + i) 0 ≤ 1) × (get_or b (160 + i) 0 ≤ 1)) × (get_or b (288 + i) 0 ≤ 1)
      = λ i h c. (formed_at b i).0 (lanes_at _ _ 0 32 i t (omega arith) (omega arith) c) in
      record { link = λ i h c. (at i h c).0.0; mode = λ i h c. (at i h c).0.1; mark = λ i h c. (at i h c).1 },
  λ f. lanes_all _ _ 0 32 (λ i a l c. let h : i < 32 = omega arith in (formed_at b i).1 ((f.link i h c, f.mode i h c), f.mark i h c)),
)
