-- The shelf that `state` takes bytes for is the one that docs/STATE.md says, and the only one. Assumes nothing.
use Prim.Native.Nat.{ℕ, zero, suc, ◌+◌, ◌*◌, ◌/◌, ◌%◌, ◌^◌, ◌<◌, ◌≤◌}
use native.Mathlib.Nat.{zero-add}
use native.Mathlib.Omega.{arith}
use mathlib.Core.Path.{◌≡◌, refl, sym, ap, subst, ◌∙◌}
use mathlib.Core.Logic.{◌↔◌}
use mathlib.Core.Bool.{true, false}
use mathlib.Core.List.{List}
use lib.Dec.{eqb}
use lib.ListN.{length, get_or, drop, length-take, length-drop}
use lib.Seq.{get_or-take, ext_get_or}
use Rattle.octets.specs.Octets.{part}
use Rattle.header.specs.declared.Link.TheVariants.{Uni, Nni}
use Rattle.outlet.specs.declared.Mode.TheVariants.{One, Four}
use Rattle.shelf.specs.declared.Unit as U
use Rattle.state.specs.Bytes.{link_of, mode_of, unit_by, unit_in, shelf_in}
use Rattle.state.proofs.Laws.{units_length, unit_at_lem, part_at}
use Rattle.paper.specs.State.{units, blank}
use Rattle.paper.specs.Layouts.{byte, UnitLayout, Layout, LayoutOnce}

-- so many bytes from a place on
part_32 : (state : List ℕ) (k : ℕ) → k + 32 ≤ length state → length (part state k 32) ≡ 32
part_32 state k h =
    let t = length-take 32 (drop k state) in
    let d = length-drop k state in
    omega arith

-- the number that two bytes say, and four
two_are : (high low : ℕ) → high * 256 + low ≡ 256 * high + low
two_are high low = omega arith

four_are : (a b c d : ℕ) → (a * 256 + b) * 65536 + (c * 256 + d) ≡ 16777216 * a + 65536 * b + 256 * c + d
four_are a b c d = omega arith

-- a byte of the sessions says the same in both
same_bit : (a b s : ℕ) → a ≡ b → (a / 2 ^ (s % 8) % 2 ≡ 1) ↔ (b / 2 ^ (s % 8) % 2 ≡ 1)
same_bit a b s e = (λ x. sym (ap (λ n. n / 2 ^ (s % 8) % 2) e) ∙ x, λ x. ap (λ n. n / 2 ^ (s % 8) % 2) e ∙ x)

unit_layout : (state : List ℕ) (p : ℕ) → length state ≡ 2048 → p < 32 → UnitLayout state p (unit_in state p)
unfolding unit_by link_of mode_of
unit_layout state p long h =
    record {
      number = ap (byte state) (zero-add p);
      uni = λ e. ap link_of e;
      nni = λ e. ap link_of e;
      top = two_are (byte state (64 + p)) (byte state (96 + p));
      priority = refl;
      one = λ e. ap mode_of e;
      four = λ e. ap mode_of e;
      cbrlength = refl;
      cbrlimit = refl;
      vbrlimit = refl;
      no_mark = λ e. ap (λ n. eqb n 1) e;
      mark = λ e. ap (λ n. eqb n 1) e;
      place = four_are (byte state (320 + p)) (byte state (352 + p)) (byte state (384 + p)) (byte state (416 + p));
      inlet = refl;
      queues = refl;
      controlin = refl;
      loopbackin = refl;
      controlout = refl;
      loopbackout = refl;
      hears = λ s l. same_bit (get_or (part state (1024 + 32 * p) 32) (s / 8) 0) (byte state (1024 + 32 * p + s / 8)) s (part_at state (1024 + 32 * p) 32 (s / 8) (omega arith));
      sessions = λ k l. part_at state (1024 + 32 * p) 32 k l;
      sessions_32 = part_32 state (1024 + 32 * p) (omega arith);
    }

pub layout : (state : List ℕ) → length state ≡ 2048 → Layout state (shelf_in state)
layout state long =
    record {
      units_at = λ p h. subst (UnitLayout state p) (sym (unit_at_lem state p blank h)) (unit_layout state p long h);
      units_32 = units_length state 0 32;
      asks = λ number h. part_at state 768 32 number h;
      asks_32 = part_32 state 768 (omega arith);
      last = refl;
      granted = refl;
      bus = refl;
      count = refl;
      frame = two_are (byte state 806) (byte state 807);
    }

-- a byte that is 0 or 1 says one thing
either : {A : Type 0} (n : ℕ) (x y at0 at1 : A) → n ≤ 1 → (n ≡ 0 → x ≡ at0) → (n ≡ 1 → x ≡ at1) → (n ≡ 0 → y ≡ at0) → (n ≡ 1 → y ≡ at1) → x ≡ y
either zero x y at0 at1 h a b c d = a refl ∙ sym (c refl)
either (suc zero) x y at0 at1 h a b c d = b refl ∙ sym (d refl)
either (suc (suc n)) x y at0 at1 h a b c d = absurd (omega arith)

-- a unit is what its bytes say
unit_once : (state : List ℕ) (p : ℕ) (u v : U.Unit) → byte state (32 + p) ≤ 1 → byte state (160 + p) ≤ 1 → byte state (288 + p) ≤ 1 →
    UnitLayout state p u → UnitLayout state p v → u ≡ v
unit_once state p u v link mode mark a b =
    let links = either (byte state (32 + p)) u.settings.link v.settings.link Uni Nni link a.uni a.nni b.uni b.nni in
    let modes = either (byte state (160 + p)) u.outlet.limits.mode v.outlet.limits.mode One Four mode a.one a.four b.one b.four in
    let marks = either (byte state (288 + p)) u.outlet.limits.mark v.outlet.limits.mark false true mark a.no_mark a.mark b.no_mark b.mark in
    let la = a.sessions_32 in
    let lb = b.sessions_32 in
    let heard = ext_get_or 0 u.sessions v.sessions (la ∙ sym lb) (λ k h. a.sessions k (omega arith) ∙ sym (b.sessions k (omega arith))) in
    λ t. record {
      settings = record { number = (a.number ∙ sym b.number) t; link = links t; top = (a.top ∙ sym b.top) t; priority = (a.priority ∙ sym b.priority) t };
      inlet = (a.inlet ∙ sym b.inlet) t;
      outlet = record {
        limits = record {
          mode = modes t;
          cbrlength = (a.cbrlength ∙ sym b.cbrlength) t;
          cbrlimit = (a.cbrlimit ∙ sym b.cbrlimit) t;
          vbrlimit = (a.vbrlimit ∙ sym b.vbrlimit) t;
          mark = marks t;
        };
        queues = (a.queues ∙ sym b.queues) t;
      };
      side = record {
        controlin = (a.controlin ∙ sym b.controlin) t;
        loopbackin = (a.loopbackin ∙ sym b.loopbackin) t;
        controlout = (a.controlout ∙ sym b.controlout) t;
        loopbackout = (a.loopbackout ∙ sym b.loopbackout) t;
      };
      place = (a.place ∙ sym b.place) t;
      sessions = heard t;
    }

pub layout_once : LayoutOnce
layout_once state s t formed a b =
    let la = length-take s.count s.units in
    let lb = length-take t.count t.units in
    let ma = a.units_32 in
    let mb = b.units_32 in
    let ca = a.count in
    let cb = b.count in
    let aa = a.asks_32 in
    let ab = b.asks_32 in
    let asks = ext_get_or 0 s.arbiter.asks t.arbiter.asks (aa ∙ sym ab) (λ k h. a.asks k (omega arith) ∙ sym (b.asks k (omega arith))) in
    record {
      units_are = ext_get_or blank (units s) (units t) (omega arith) (λ p h. at p (omega arith) (omega arith));
      arbiter = λ i. record { last = (a.last ∙ sym b.last) i; asks = asks i };
      granted = a.granted ∙ sym b.granted;
      bus = a.bus ∙ sym b.bus;
      count = a.count ∙ sym b.count;
      frame = a.frame ∙ sym b.frame;
    }
  where
    at : (p : ℕ) → p < 32 → p < byte state 805 → get_or (units s) p blank ≡ get_or (units t) p blank
    at p h l =
        let ca = a.count in
        let cb = b.count in
        get_or-take s.count s.units p blank (omega arith)
        ∙ unit_once state p (get_or s.units p blank) (get_or t.units p blank) (formed.link p h l) (formed.mode p h l) (formed.mark p h l) (a.units_at p h) (b.units_at p h)
        ∙ sym (get_or-take t.count t.units p blank (omega arith))
