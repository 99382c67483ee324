-- Each fate is met exactly when its fact holds. Assumes nothing.
use Rattle.std.specs.Prelude.{None, Option, Some}
use Prim.Native.Nat.{ℕ, ◌<◌, ◌≤◌}
use native.Mathlib.Omega.{arith}
use mathlib.Core.Path.{◌≡◌, refl, sym, ap, subst, ◌∙◌}
use mathlib.Core.Logic.{◌↔◌, ◌⊎◌, inl, inr, ⊎_elim}
use mathlib.Core.Bool.{Bool, true, false, cond, ◌&&◌, ◌||◌}
use mathlib.Core.List.Memᴰ
use mathlib.Core.List.{List, [], ◌∷◌, ◌++◌, Memᴰ as In}
use lib.Dec.{eqb, leb, ltb}
use lib.ListN.{length, get_or}
use borrow.Author.Tests.{eqb-true, eqb-false, leb-true, leb-false, ltb-true, ltb-false, eq-eqb, ne_eqb, le-leb, lt-leb, lt-ltb, le-ltb}
use Rattle.octets.specs.Octets.{four, part}
use Rattle.header.specs.Check.{check}
use Rattle.header.specs.declared.Header as H
use Rattle.bus.specs.declared.Target as T
use Rattle.bus.specs.declared.Target.TheVariants as target
use Rattle.bus.specs.Frame.{heard}
use Rattle.bus.specs.Heard as frame
use Rattle.outlet.specs.Hearing.{bus_clp, too_wide}
use Rattle.outlet.proofs.Fates.{wide_iff}
use Rattle.line.specs.declared.Line.{Line}
use Rattle.line.specs.declared.Line.TheVariants.{Bus, Unit as L-as-Unit, Vp, Drop, Page, Vc, Mc}
use Rattle.meaning.specs.Told.{only, either, hears_by, hears_in}
use Rattle.meaning.proofs.Grown.{decide}
use Rattle.meaning.specs.Served.{Serving, by_vp, by_drop, by_vc, serves, served}
use Rattle.answer.specs.declared.Arrival as A
use Rattle.answer.specs.declared.Arrival.TheVariants as arrival
use Rattle.answer.specs.declared.Hearing as Q
use Rattle.answer.specs.declared.Hearing.TheVariants as hearing
use Rattle.answer.specs.declared.Answer.TheVariants.{Arrived, Heard}
use Rattle.document.specs.Events.{answers}
use Rattle.paper.specs.Counters.{arrival_counts, hearing_counts}
use Rattle.document.specs.Counters.{entries}
use Rattle.document.specs.Shelf.{Unit as D-as-Unit, number_of, unit_at}
use Rattle.document.specs.Arrival.{header_of, lost, way_by, way_for, way_of, arrival_by, arrival_of, arrived}
use Rattle.document.specs.Hearing.{addressed, fate_in, room_in, hearing_of, handed_in}
use Rattle.document.specs.Steps.{admitted, happens_to}
use Rattle.fates.specs.Fates.{Zeros, line_for, Routes, Goes, ArrivalIs, LineIs, Addressed, Fits, room, limit_of, held_of, HearingIs, ArrivalFateIff, HearingFateIff, FateCounted, FateIff}

-- two tests in one, as facts
both_true : (a b : Bool) → (a && b) ≡ true → (a ≡ true) × (b ≡ true)
both_true true b e = (refl, e)
both_true false b e = let z : ◌≡◌ {A = ℕ} 0 1 = cc in absurd (omega arith)

-- one of two tests
pub either_true : (a b : Bool) → (a || b) ≡ true → (a ≡ true) ⊎ (b ≡ true)
either_true true b e = inl refl
either_true false b e = inr e

-- the second of them is enough
pub right_true : (a b : Bool) → b ≡ true → (a || b) ≡ true
right_true true b e = refl
right_true false b e = e

-- a test that a fact contradicts is false
pub untrue : (b : Bool) → (b ≡ true → ⊥) → b ≡ false
untrue true f = absurd (f refl)
untrue false f = refl

-- no test is true and false
not_both : (b : Bool) → b ≡ true → b ≡ false → ⊥
not_both b t f = let z : ◌≡◌ {A = ℕ} 0 1 = cc in omega arith

-- VPI 0 with VCI 0
zeros_iff : (h : H.Header) → ((eqb h.vpi 0 && eqb h.vci 0) ≡ true) ↔ Zeros h
zeros_iff h = (
  λ e. let b = both_true (eqb h.vpi 0) (eqb h.vci 0) e in (eqb-true h.vpi 0 b.0, eqb-true h.vci 0 b.1),
  λ z. rw (eq-eqb h.vpi 0 z.0, eq-eqb h.vci 0 z.1),
)

-- 1. arrivals
module _ (lines : List Line) (u : D-as-Unit) (c : List ℕ) where
  abbrev h : H.Header
  h = header_of u.settings c

  -- the three tests of an arrival
  abbrev right : Bool
  right = eqb (check (four c 0)) (get_or c 4 0)

  abbrev zeros : Bool
  zeros = eqb h.vpi 0 && eqb h.vci 0

  abbrev above : Bool
  above = ltb u.settings.top h.vpi

  -- the fate by the three tests and the line
  abbrev by : Bool → Bool → Bool → Option Serving → A.Arrival
  by r z a o = arrival_by (cond r (cond z (lost arrival.Ignored) (cond a (lost arrival.Misrouted) (way_by o h (part c 5 48)))) (lost arrival.Hec)) u

  -- that is how the fate is found
  is_by : arrival_of lines u c ≡ by right zeros above (line_for lines u c)
  unfolding way_of way_for
  is_by = refl

  -- with a line that routes it the cell goes
  waits : Bool → A.Arrival
  waits full = cond full arrival.Inletfull arrival.Queued

  by_line : (o : Option Serving) → Routes o → by true false false o ≡ waits (leb 4 (length u.inlet))
  unfolding arrival_by way_by waits
  by_line None r = absurd r
  by_line (Some by_drop) r = absurd r
  by_line (Some (by_vp target class outvpi)) r = refl
  by_line (Some (by_vc target class outvpi outvci)) r = refl

  -- a cell that goes
  gone : Goes lines u c → arrival_of lines u c ≡ waits (leb 4 (length u.inlet))
  gone g =
      is_by
      ∙ (λ t.
      by (eq-eqb (check (four c 0)) (get_or c 4 0) g.check t) (untrue zeros (λ e. g.some ((zeros_iff h).0 e)) t) (le-ltb u.settings.top h.vpi g.top t) (line_for lines u c))
      ∙ by_line (line_for lines u c) g.line

  -- a fact makes its fate
  arrival_from : (fate : A.Arrival) → ArrivalIs lines u c fate → arrival_of lines u c ≡ fate
  unfolding arrival_by way_by waits
  arrival_from arrival.Hec f = is_by ∙ (λ t. by (ne_eqb (check (four c 0)) (get_or c 4 0) f t) zeros above (line_for lines u c))
  arrival_from arrival.Ignored f =
      let r = eq-eqb (check (four c 0)) (get_or c 4 0) f.0 in
      ⊎_elim
      (λ z. is_by ∙ (λ t. by (r t) ((zeros_iff h).1 z t) above (line_for lines u c)))
      (λ d.
      decide zeros
      (λ z. is_by ∙ (λ t. by (r t) (z t) above (line_for lines u c)))
      (λ z. is_by ∙ (λ t. by (r t) (z t) (le-ltb u.settings.top h.vpi d.0 t) (d.1 t))))
      f.1
  arrival_from arrival.Misrouted f =
      let r = eq-eqb (check (four c 0)) (get_or c 4 0) f.0 in
      let z = untrue zeros (λ e. f.1 ((zeros_iff h).0 e)) in
      ⊎_elim
      (λ a. is_by ∙ (λ t. by (r t) (z t) (lt-ltb u.settings.top h.vpi a t) (line_for lines u c)))
      (λ n. decide above (λ a. is_by ∙ (λ t. by (r t) (z t) (a t) (line_for lines u c))) (λ a. is_by ∙ (λ t. by (r t) (z t) (a t) (n t))))
      f.2
  arrival_from arrival.Inletfull f = gone f.0 ∙ ap waits (le-leb 4 (length u.inlet) f.1)
  arrival_from arrival.Queued f = gone f.0 ∙ ap waits (lt-leb 4 (length u.inlet) f.1)

  -- the fate that it is has its fact
  arrival_holds : ArrivalIs lines u c (arrival_of lines u c)
  unfolding arrival_by way_by way_of way_for waits
  arrival_holds = go right zeros above (line_for lines u c) refl refl refl refl
    where
      room_or : Goes lines u c → (full : Bool) → leb 4 (length u.inlet) ≡ full → ArrivalIs lines u c (waits full)
      room_or g true e = (g, leb-true 4 (length u.inlet) e)
      room_or g false e = (g, leb-false 4 (length u.inlet) e)

      nonzero : zeros ≡ false → Zeros h → ⊥
      nonzero e z = not_both zeros ((zeros_iff h).1 z) e

      going : right ≡ true → zeros ≡ false → above ≡ false → Routes (line_for lines u c) → ArrivalIs lines u c (waits (leb 4 (length u.inlet)))
      going er ez ea line =
          room_or (record { check = eqb-true (check (four c 0)) (get_or c 4 0) er; some = nonzero ez; top = ltb-false u.settings.top h.vpi ea; line = line }) (leb 4 (length u.inlet)) refl

      go : (r z a : Bool) (o : Option Serving) → right ≡ r → zeros ≡ z → above ≡ a → line_for lines u c ≡ o → ArrivalIs lines u c (by r z a o)
      go false z a o er ez ea eo = eqb-false (check (four c 0)) (get_or c 4 0) er
      go true true a o er ez ea eo = (eqb-true (check (four c 0)) (get_or c 4 0) er, inl ((zeros_iff h).0 ez))
      go true false true o er ez ea eo = (eqb-true (check (four c 0)) (get_or c 4 0) er, nonzero ez, inl (ltb-true u.settings.top h.vpi ea))
      go true false false None er ez ea eo = (eqb-true (check (four c 0)) (get_or c 4 0) er, nonzero ez, inr eo)
      go true false false (Some by_drop) er ez ea eo = (eqb-true (check (four c 0)) (get_or c 4 0) er, inr (ltb-false u.settings.top h.vpi ea, eo))
      go true false false (Some (by_vp target class outvpi)) er ez ea eo = going er ez ea (subst Routes (sym eo) tt)
      go true false false (Some (by_vc target class outvpi outvci)) er ez ea eo = going er ez ea (subst Routes (sym eo) tt)

-- each arrival fate exactly when its fact holds
arrival_fate_iff : ArrivalFateIff
arrival_fate_iff lines u c fate = (λ e. subst (ArrivalIs lines u c) e (arrival_holds lines u c), arrival_from lines u c fate)

-- 2. hearing: a unit hears a session exactly when there is an `mc` line for it
by_mc : (l : Line) (n s : ℕ) → (hears_by l n s ≡ true) ↔ (Mc n s ≡ l)
unfolding hears_by
by_mc (Bus bus) n s = (λ e. let z : ◌≡◌ {A = ℕ} 0 1 = cc in absurd (omega arith), λ e. cc)
by_mc (L-as-Unit settings limits) n s = (λ e. let z : ◌≡◌ {A = ℕ} 0 1 = cc in absurd (omega arith), λ e. cc)
by_mc (Vp a v target class outvpi) n s = (λ e. let z : ◌≡◌ {A = ℕ} 0 1 = cc in absurd (omega arith), λ e. cc)
by_mc (Drop a v) n s = (λ e. let z : ◌≡◌ {A = ℕ} 0 1 = cc in absurd (omega arith), λ e. cc)
by_mc (Page a v top) n s = (λ e. let z : ◌≡◌ {A = ℕ} 0 1 = cc in absurd (omega arith), λ e. cc)
by_mc (Vc a v w target class outvpi outvci) n s = (λ e. let z : ◌≡◌ {A = ℕ} 0 1 = cc in absurd (omega arith), λ e. cc)
by_mc (Mc a session) n s = (
  λ e. let b = both_true (eqb a n) (eqb session s) e in let p = eqb-true a n b.0 in let q = eqb-true session s b.1 in cc,
  λ e. let p : a ≡ n = cc in let q : session ≡ s = cc in rw (eq-eqb a n p, eq-eqb session s q),
)

-- so in all the lines
mc_iff : (lines : List Line) (n s : ℕ) → (hears_in lines n s ≡ true) ↔ In (Mc n s) lines
unfolding hears_in
mc_iff [] n s = (λ e. let z : ◌≡◌ {A = ℕ} 0 1 = cc in absurd (omega arith), λ e. absurd (Memᴰ.not-nil e))
mc_iff (l ∷ lines) n s = (
  λ e. ⊎_elim (λ t. In.head ((by_mc l n s).0 t)) (λ t. In.tail ((mc_iff lines n s).0 t)) (either_true (hears_by l n s) (hears_in lines n s) e),
  λ e. ⊎_elim (λ t. rw ((by_mc l n s).1 t)) (λ t. right_true (hears_by l n s) (hears_in lines n s) ((mc_iff lines n s).1 t)) (Memᴰ.cases_cons e),
)

-- addressed, as a fact
pub addressed_iff : (lines : List Line) (u : D-as-Unit) (t : T.Target) → (addressed lines u t ≡ true) ↔ Addressed lines u t
unfolding addressed
addressed_iff lines u (target.Unit number) = (eqb-true (number_of u) number, eq-eqb (number_of u) number)
addressed_iff lines u (target.Session session) = mc_iff lines (number_of u) session
addressed_iff lines u target.All = (λ e. tt, λ e. refl)

module _ (lines : List Line) (u : D-as-Unit) (t : T.Target) (class header : ℕ) where
  abbrev wide : Bool
  wide = too_wide u.settings.link header

  abbrev full : Bool
  full = leb (room u class) (held_of u class)

  abbrev low : Bool
  low = leb (limit_of u class) (held_of u class)

  -- the fate by the tests
  abbrev fated : Bool → Bool → Bool → Bool → Bool → Q.Hearing
  fated mine w f one l = cond mine (cond w hearing.Wide (cond f hearing.Full (cond (one && l) hearing.Clp hearing.Queued))) hearing.Other

  -- that is how the fate is found
  is_fated : hearing_of lines u (frame.Cell t class header) ≡ fated (addressed lines u t) wide full (eqb (bus_clp header) 1) low
  unfolding hearing_of fate_in
  is_fated = refl

  abbrev Is : Q.Hearing → Type 0
  Is fate = HearingIs lines u (frame.Cell t class header) fate

  -- two of the tests, of their facts
  not_wide : Fits lines u t header → wide ≡ false
  not_wide f = untrue wide (λ e. f.narrow ((wide_iff u.settings.link header).0 e))

  mine : Addressed lines u t → addressed lines u t ≡ true
  mine a = (addressed_iff lines u t).1 a

  -- a fact makes its fate
  cell_from : (fate : Q.Hearing) → Is fate → hearing_of lines u (frame.Cell t class header) ≡ fate
  cell_from hearing.Damaged f = absurd (f tt)
  cell_from hearing.Other f =
      is_fated ∙ (λ x. fated (untrue (addressed lines u t) (λ e. f ((addressed_iff lines u t).0 e)) x) wide full (eqb (bus_clp header) 1) low)
  cell_from hearing.Wide f = is_fated ∙ (λ x. fated (mine f.0 x) ((wide_iff u.settings.link header).1 f.1 x) full (eqb (bus_clp header) 1) low)
  cell_from hearing.Full f =
      is_fated ∙ (λ x. fated (mine f.0.addressed x) (not_wide f.0 x) (le-leb (room u class) (held_of u class) f.1 x) (eqb (bus_clp header) 1) low)
  cell_from hearing.Clp f =
      is_fated
      ∙ (λ x.
      fated (mine f.0.addressed x) (not_wide f.0 x) (lt-leb (room u class) (held_of u class) f.1 x) (eq-eqb (bus_clp header) 1 f.2 x)
      (le-leb (limit_of u class) (held_of u class) f.3 x))
  cell_from hearing.Queued f =
      let known = is_fated ∙ (λ x. fated (mine f.0.addressed x) (not_wide f.0 x) (lt-leb (room u class) (held_of u class) f.1 x) (eqb (bus_clp header) 1) low) in
      decide (eqb (bus_clp header) 1)
      (λ one. known ∙ (λ x. fated true false false (one x) (lt-leb (limit_of u class) (held_of u class) (f.2 (eqb-true (bus_clp header) 1 one)) x)))
      (λ one. known ∙ (λ x. fated true false false (one x) low))

  -- the fate that it is has its fact
  cell_holds : Is (hearing_of lines u (frame.Cell t class header))
  unfolding hearing_of fate_in
  cell_holds = go (addressed lines u t) wide full (eqb (bus_clp header) 1) low refl refl refl refl refl
    where
      fits : addressed lines u t ≡ true → wide ≡ false → Fits lines u t header
      fits ea ew = record { addressed = (addressed_iff lines u t).0 ea; narrow = λ w. not_both wide ((wide_iff u.settings.link header).1 w) ew }

      go : (a w f one l : Bool) → addressed lines u t ≡ a → wide ≡ w → full ≡ f → eqb (bus_clp header) 1 ≡ one → low ≡ l → Is (fated a w f one l)
      go false w f one l ea ew ef eo el = λ a. not_both (addressed lines u t) (mine a) ea
      go true true f one l ea ew ef eo el = ((addressed_iff lines u t).0 ea, (wide_iff u.settings.link header).0 ew)
      go true false true one l ea ew ef eo el = (fits ea ew, leb-true (room u class) (held_of u class) ef)
      go true false false true true ea ew ef eo el =
          (fits ea ew, leb-false (room u class) (held_of u class) ef, eqb-true (bus_clp header) 1 eo, leb-true (limit_of u class) (held_of u class) el)
      go true false false true false ea ew ef eo el = (fits ea ew, leb-false (room u class) (held_of u class) ef, λ x. leb-false (limit_of u class) (held_of u class) el)
      go true false false false l ea ew ef eo el = (fits ea ew, leb-false (room u class) (held_of u class) ef, λ x. absurd (eqb-false (bus_clp header) 1 eo x))

-- a control or a loopback cell for this unit, of which an outlet with these cells takes so many
module _ (u : D-as-Unit) (unit : ℕ) (cells : List (List ℕ)) (most : ℕ) where
  abbrev own_number : Bool
  own_number = eqb (number_of u) unit

  abbrev no_room : Bool
  no_room = leb most (length cells)

  -- the fate by the two tests, and as it is found
  abbrev placed : Bool → Bool → Q.Hearing
  placed m f = cond m (cond f hearing.Full hearing.Queued) hearing.Other

  abbrev aside : Q.Hearing
  aside = cond own_number (room_in most cells) hearing.Other

  is_placed : aside ≡ placed own_number no_room
  unfolding room_in
  is_placed = refl

  -- its facts
  AsideIs : Q.Hearing → Type 0
  AsideIs hearing.Damaged = Unit {0} → ⊥
  AsideIs hearing.Other = number_of u ≡ unit → ⊥
  AsideIs hearing.Wide = ⊥
  AsideIs hearing.Full = (number_of u ≡ unit) × (most ≤ length cells)
  AsideIs hearing.Clp = ⊥
  AsideIs hearing.Queued = (number_of u ≡ unit) × (length cells < most)

  aside_from : (fate : Q.Hearing) → AsideIs fate → aside ≡ fate
  unfolding AsideIs
  aside_from hearing.Damaged f = absurd (f tt)
  aside_from hearing.Other f = is_placed ∙ (λ t. placed (ne_eqb (number_of u) unit f t) no_room)
  aside_from hearing.Wide f = absurd f
  aside_from hearing.Full f = is_placed ∙ (λ t. placed (eq-eqb (number_of u) unit f.0 t) (le-leb most (length cells) f.1 t))
  aside_from hearing.Clp f = absurd f
  aside_from hearing.Queued f = is_placed ∙ (λ t. placed (eq-eqb (number_of u) unit f.0 t) (lt-leb most (length cells) f.1 t))

  aside_holds : AsideIs aside
  unfolding AsideIs
  aside_holds = subst AsideIs (sym is_placed) (go own_number no_room refl refl)
    where
      go : (m f : Bool) → own_number ≡ m → no_room ≡ f → AsideIs (placed m f)
      go false f em ef = eqb-false (number_of u) unit em
      go true true em ef = (eqb-true (number_of u) unit em, leb-true most (length cells) ef)
      go true false em ef = (eqb-true (number_of u) unit em, leb-false most (length cells) ef)

-- these are the facts of either kind
control_is : (lines : List Line) (u : D-as-Unit) (unit : ℕ) (fate : Q.Hearing) → AsideIs u unit u.side.controlout 4 fate ↔ HearingIs lines u (frame.Control unit) fate
unfolding AsideIs
control_is lines u unit hearing.Damaged = (λ f. f, λ f. f)
control_is lines u unit hearing.Other = (λ f. f, λ f. f)
control_is lines u unit hearing.Wide = (λ f. f, λ f. f)
control_is lines u unit hearing.Full = (λ f. f, λ f. f)
control_is lines u unit hearing.Clp = (λ f. f, λ f. f)
control_is lines u unit hearing.Queued = (λ f. f, λ f. f)

loopback_is : (lines : List Line) (u : D-as-Unit) (unit : ℕ) (fate : Q.Hearing) → AsideIs u unit u.side.loopbackout 1 fate ↔ HearingIs lines u (frame.Loopback unit) fate
unfolding AsideIs
loopback_is lines u unit hearing.Damaged = (λ f. f, λ f. f)
loopback_is lines u unit hearing.Other = (λ f. f, λ f. f)
loopback_is lines u unit hearing.Wide = (λ f. f, λ f. f)
loopback_is lines u unit hearing.Full = (λ f. f, λ f. f)
loopback_is lines u unit hearing.Clp = (λ f. f, λ f. f)
loopback_is lines u unit hearing.Queued = (λ f. f, λ f. f)

-- the same of anything heard: what is no sound frame is damaged
hearing_from : (lines : List Line) (u : D-as-Unit) (h : frame.Heard) (fate : Q.Hearing) → HearingIs lines u h fate → hearing_of lines u h ≡ fate
unfolding hearing_of
hearing_from lines u (frame.Cell t class header) fate f = cell_from lines u t class header fate f
hearing_from lines u (frame.Control unit) fate f = aside_from u unit u.side.controlout 4 fate ((control_is lines u unit fate).1 f)
hearing_from lines u (frame.Loopback unit) fate f = aside_from u unit u.side.loopbackout 1 fate ((loopback_is lines u unit fate).1 f)
hearing_from lines u frame.Length hearing.Damaged f = refl
hearing_from lines u frame.Length hearing.Other f = absurd f
hearing_from lines u frame.Length hearing.Wide f = absurd f
hearing_from lines u frame.Length hearing.Full f = absurd f
hearing_from lines u frame.Length hearing.Clp f = absurd f
hearing_from lines u frame.Length hearing.Queued f = absurd f
hearing_from lines u frame.Damaged hearing.Damaged f = refl
hearing_from lines u frame.Damaged hearing.Other f = absurd f
hearing_from lines u frame.Damaged hearing.Wide f = absurd f
hearing_from lines u frame.Damaged hearing.Full f = absurd f
hearing_from lines u frame.Damaged hearing.Clp f = absurd f
hearing_from lines u frame.Damaged hearing.Queued f = absurd f

-- and the fate that it is has its fact
hearing_holds : (lines : List Line) (u : D-as-Unit) (h : frame.Heard) → HearingIs lines u h (hearing_of lines u h)
unfolding hearing_of
hearing_holds lines u frame.Length = λ s. s
hearing_holds lines u frame.Damaged = λ s. s
hearing_holds lines u (frame.Cell t class header) = cell_holds lines u t class header
hearing_holds lines u (frame.Control unit) = (control_is lines u unit (hearing_of lines u (frame.Control unit))).0 (aside_holds u unit u.side.controlout 4)
hearing_holds lines u (frame.Loopback unit) = (loopback_is lines u unit (hearing_of lines u (frame.Loopback unit))).0 (aside_holds u unit u.side.loopbackout 1)

-- each hearing fate exactly when its fact holds
hearing_fate_iff : HearingFateIff
hearing_fate_iff lines u h fate = (λ e. subst (HearingIs lines u h) e (hearing_holds lines u h), hearing_from lines u h fate)

-- 3. what is said and counted is that fate
fate_counted : FateCounted
unfolding happens_to admitted arrived handed_in
fate_counted shelf unit place there = (
  λ c whole fate f.
      let met = arrival_from shelf.lines (unit_at shelf place) c fate f in
      let right = eq-eqb (length c) 53 whole in
      record {
        says = rw (there, right) (ap (λ x. answers (Arrived x)) met);
        counts = rw (there, right) (ap (λ x. entries (number_of (unit_at shelf place)) (arrival_counts x) ++ shelf.history) met);
      },
  λ f whole fate h.
      let met = hearing_from shelf.lines (unit_at shelf place) (heard f) fate h in
      let right = eq-eqb (length f) 57 whole in
      record {
        says = rw (there, right) (ap (λ x. answers (Heard x)) met);
        counts = rw (there, right) (ap (λ x. entries (number_of (unit_at shelf place)) (hearing_counts x) ++ shelf.history) met);
      },
)

-- 4. the line that serves a cell is in the table
module _ (u v w : ℕ) where
  own : (a b : ℕ) → (eqb u a && eqb v b) ≡ true → (u ≡ a) × (v ≡ b)
  own a b e = let t = both_true (eqb u a) (eqb v b) e in (eqb-true u a t.0, eqb-true v b t.1)

  -- what is given only if a test holds
  of_only : {X : Type 0} (b : Bool) (x y : X) → only b x ≡ Some y → (b ≡ true) × (x ≡ y)
  of_only true x y e = (refl, cc)
  of_only false x y e = let z : ◌≡◌ {A = ℕ} 0 1 = cc in absurd (omega arith)

  -- a line that serves it
  first_line : (l : Line) (lines : List Line) (s : Serving) → serves l u v w ≡ Some s → LineIs (l ∷ lines) u v w (Some s)
  unfolding serves
  first_line (Bus bus) lines s e = let z : ◌≡◌ {A = ℕ} 0 1 = cc in absurd (omega arith)
  first_line (L-as-Unit settings limits) lines s e = let z : ◌≡◌ {A = ℕ} 0 1 = cc in absurd (omega arith)
  first_line (Page a b top) lines s e = let z : ◌≡◌ {A = ℕ} 0 1 = cc in absurd (omega arith)
  first_line (Mc a session) lines s e = let z : ◌≡◌ {A = ℕ} 0 1 = cc in absurd (omega arith)
  first_line (Vp a b target class outvpi) lines s e =
      let x = of_only (eqb u a && eqb v b) (by_vp target class outvpi) s e in
      let o = own a b x.0 in
      subst (λ y. LineIs (Vp a b target class outvpi ∷ lines) u v w (Some y)) x.1 (In.head (λ t. Vp (o.0 t) (o.1 t) target class outvpi))
  first_line (Drop a b) lines s e =
      let x = of_only (eqb u a && eqb v b) by_drop s e in
      let o = own a b x.0 in
      subst (λ y. LineIs (Drop a b ∷ lines) u v w (Some y)) x.1 (In.head (λ t. Drop (o.0 t) (o.1 t)))
  first_line (Vc a b c target class outvpi outvci) lines s e =
      let x = of_only ((eqb u a && eqb v b) && eqb w c) (by_vc target class outvpi outvci) s e in
      let two = both_true (eqb u a && eqb v b) (eqb w c) x.0 in
      let o = own a b two.0 in
      let p = eqb-true w c two.1 in
      subst (λ y. LineIs (Vc a b c target class outvpi outvci ∷ lines) u v w (Some y)) x.1 (In.head (λ t. Vc (o.0 t) (o.1 t) (p t) target class outvpi outvci))

  -- a line that does not serve it changes nothing
  other_line : (l : Line) (lines : List Line) (o : Option Serving) → serves l u v w ≡ None → LineIs lines u v w o → LineIs (l ∷ lines) u v w o
  unfolding serves
  other_line l lines None e i = (
    λ target class outvpi.
        not_here (Vp u v target class outvpi) (by_vp target class outvpi) (rw (eq-eqb u u refl, eq-eqb v v refl)) (i.0 target class outvpi),
    not_here (Drop u v) by_drop (rw (eq-eqb u u refl, eq-eqb v v refl)) i.1,
    λ target class outvpi outvci.
        not_here (Vc u v w target class outvpi outvci) (by_vc target class outvpi outvci) (rw (eq-eqb u u refl, eq-eqb v v refl, eq-eqb w w refl)) (i.2 target class outvpi outvci),
  )
    where
      not_here : (m : Line) (s : Serving) → serves m u v w ≡ Some s → (In m lines → ⊥) → In m (l ∷ lines) → ⊥
      not_here m s some_is away here =
          ⊎_elim (λ q. let f = ap (λ x. serves x u v w) q ∙ e in let z : ◌≡◌ {A = ℕ} 0 1 = cc in omega arith) away (Memᴰ.cases_cons here)
  other_line l lines (Some by_drop) e i = In.tail i
  other_line l lines (Some (by_vp target class outvpi)) e i = In.tail i
  other_line l lines (Some (by_vc target class outvpi outvci)) e i = In.tail i

  -- the latest line that serves it, or none does
  line_serves : (lines : List Line) → LineIs lines u v w (served lines u v w)
  unfolding served
  line_serves [] = (λ t c o h. Memᴰ.not-nil h, λ h. Memᴰ.not-nil h, λ t c o p h. Memᴰ.not-nil h)
  line_serves (l ∷ lines) = go (serves l u v w) refl (line_serves lines)
    where
      go : (o : Option Serving) → serves l u v w ≡ o → LineIs lines u v w (served lines u v w) → LineIs (l ∷ lines) u v w (either o (served lines u v w))
      go None e i = other_line l lines (served lines u v w) e i
      go (Some s) e i = first_line l lines s e

-- all four
pub fate_iff : FateIff
fate_iff = (arrival_fate_iff, hearing_fate_iff, fate_counted, λ lines u v w. line_serves u v w lines)
