-- A cell that goes to the bus follows a line of the table. Assumes nothing.
use Rattle.std.specs.Prelude.{None, Option, Some}
use Prim.Native.Nat.{ℕ, ◌/◌, ◌^◌, ◌≤◌, ◌<◌}
use native.Mathlib.Nat.{mod-lt}
use native.Mathlib.Omega.{arith}
use mathlib.Core.Path.{◌≡◌, refl, sym, ap, subst, ◌∙◌}
use mathlib.Core.Logic.{◌⊎◌, inl, inr, ⊎_elim}
use mathlib.Core.Bool.{Bool, true, false, cond, ◌&&◌}
use mathlib.Core.List.Memᴰ
use mathlib.Core.List.{List, [], ◌∷◌, Memᴰ as In}
use lib.Dec.{eqb, ltb}
use lib.ListN.{get_or}
use borrow.Author.Tests.{eqb-true}
use Rattle.octets.specs.Octets.{four, part}
use Rattle.header.specs.Fields.{fields}
use Rattle.header.specs.Check.{check}
use Rattle.header.specs.declared.Header as H
use Rattle.header.specs.declared.Link.{Link}
use Rattle.header.specs.declared.Link.TheVariants.{Nni}
use Rattle.header.proofs.Laws.{fields_word}
use Rattle.bus.specs.declared.Target.{Target}
use Rattle.shelf.specs.declared.Settings.{Settings}
use Rattle.line.specs.declared.Line.{Line}
use Rattle.line.specs.declared.Line.TheVariants.{Bus, Unit as L-as-Unit, Vp, Drop, Page, Vc, Mc}
use Rattle.meaning.specs.Told.{only, either}
use Rattle.paper.specs.Words.{InRange, AllInRange}
use Rattle.meaning.specs.Served.{Serving, by_vp, by_drop, by_vc, serves, served}
use Rattle.answer.specs.declared.Arrival.TheVariants.{Hec, Ignored, Misrouted}
use Rattle.document.specs.Shelf.{Routed}
use Rattle.document.specs.Arrival.{Way, goes, lost, routed, way_by, way_for, way_of, header_of}
use Rattle.flow.specs.Street.{LineGives, by_path, by_circuit, Follows, LineFollowed}

-- the line that says so
abbrev line_of : ℕ → ℕ → ℕ → Serving → Line
line_of u v w (by_vp target class outvpi) = Vp u v target class outvpi
line_of u v w by_drop = Drop u v
line_of u v w (by_vc target class outvpi outvci) = Vc u v w target class outvpi outvci

-- one of two, and one that was asked for
either_some : {A : Type 0} (a b : Option A) (x : A) → either a b ≡ Some x → (a ≡ Some x) ⊎ (b ≡ Some x)
either_some None b x e = inr e
either_some (Some a) b x e = inl e

-- one that was asked for, and passed the test
only_some : {A : Type 0} (b : Bool) (a x : A) → only b a ≡ Some x → (b ≡ true) × (a ≡ x)
only_some true a x e = (refl, cc)
only_some false a x e = let z : ◌≡◌ {A = ℕ} 0 1 = cc in absurd (omega arith)

-- two tests
both : (a b : Bool) → (a && b) ≡ true → (a ≡ true) × (b ≡ true)
both true b e = (refl, e)
both false b e = let z : ◌≡◌ {A = ℕ} 0 1 = cc in absurd (omega arith)

-- a line that serves is that line
serves_line : (l : Line) (u v w : ℕ) (x : Serving) → serves l u v w ≡ Some x → line_of u v w x ≡ l
unfolding serves
serves_line (Bus bus) u v w x e = let z : ◌≡◌ {A = ℕ} 0 1 = cc in absurd (omega arith)
serves_line (L-as-Unit settings limits) u v w x e = let z : ◌≡◌ {A = ℕ} 0 1 = cc in absurd (omega arith)
serves_line (Vp a b target class outvpi) u v w x e =
    let o = only_some (eqb u a && eqb v b) (by_vp target class outvpi) x e in
    let t = both (eqb u a) (eqb v b) o.0 in
    ap (line_of u v w) (sym o.1) ∙ (λ i. Vp (eqb-true u a t.0 i) (eqb-true v b t.1 i) target class outvpi)
serves_line (Drop a b) u v w x e =
    let o = only_some (eqb u a && eqb v b) by_drop x e in
    let t = both (eqb u a) (eqb v b) o.0 in
    ap (line_of u v w) (sym o.1) ∙ (λ i. Drop (eqb-true u a t.0 i) (eqb-true v b t.1 i))
serves_line (Page a b top) u v w x e = let z : ◌≡◌ {A = ℕ} 0 1 = cc in absurd (omega arith)
serves_line (Vc a b c target class outvpi outvci) u v w x e =
    let o = only_some ((eqb u a && eqb v b) && eqb w c) (by_vc target class outvpi outvci) x e in
    let s = both (eqb u a && eqb v b) (eqb w c) o.0 in
    let t = both (eqb u a) (eqb v b) s.0 in
    ap (line_of u v w) (sym o.1) ∙ (λ i. Vc (eqb-true u a t.0 i) (eqb-true v b t.1 i) (eqb-true w c s.1 i) target class outvpi outvci)
serves_line (Mc a session) u v w x e = let z : ◌≡◌ {A = ℕ} 0 1 = cc in absurd (omega arith)

-- and it is one of the lines
served_line : (lines : List Line) (u v w : ℕ) (x : Serving) → served lines u v w ≡ Some x → In (line_of u v w x) lines
unfolding served
served_line [] u v w x e = let z : ◌≡◌ {A = ℕ} 0 1 = cc in absurd (omega arith)
served_line (l ∷ lines) u v w x e =
    ⊎_elim (λ a. In.head (serves_line l u v w x a)) (λ b. In.tail (served_line lines u v w x b))
    (either_some (serves l u v w) (served lines u v w) x e)

-- a test on the way
goes_on : (b : Bool) (x y : Way) (r : Routed) → (x ≡ goes r → ⊥) → cond b x y ≡ goes r → y ≡ goes r
goes_on true x y r ends e = absurd (ends e)
goes_on false x y r ends e = e

-- the fields of a cell that a line gives a VPI and a VCI in range, as the bus has them
on_bus : (link : Link) (w : ℕ) (vpi vci : ℕ) → vpi ≤ 4095 → vci < 2 ^ 16 → (target : Target) (class : ℕ) (payload : List ℕ) →
    fields Nni (routed target class vpi vci (fields link w) payload).cell.header ≡ record { gfc = 0; vpi = vpi; vci = vci; pt = (fields link w).pt; clp = (fields link w).clp }
unfolding fields
on_bus link w vpi vci p c target class payload =
    fields_word Nni (record { gfc = 0; vpi = vpi; vci = vci; pt = (fields link w).pt; clp = (fields link w).clp })
    (record { gfc = omega arith; vpi = omega arith; vci = c; pt = mod-lt (w / 2) (omega arith); clp = mod-lt w (omega arith) })

-- a VCI as a link reads it has sixteen bits
vci_lt : (link : Link) (w : ℕ) → (fields link w).vci < 2 ^ 16
unfolding fields
vci_lt link w = mod-lt (w / 2 ^ 4) (omega arith)

-- each of these lines is in range
each_ranged : (lines : List Line) → AllInRange lines → (l : Line) → In l lines → InRange l
each_ranged [] all l m = absurd (Memᴰ.not-nil m)
each_ranged (x ∷ lines) all l (In.head e) = subst InRange (sym e) all.0
each_ranged (x ∷ lines) all l (In.tail m) = each_ranged lines all.1 l m

-- a cell that a line gives a VPI and a VCI follows it
module _ (lines : List Line) (s : Settings) (bytes : List ℕ) where
  abbrev h : H.Header
  h = header_of s bytes

  follows : (target : Target) (class vpi vci : ℕ) → vpi ≤ 4095 → vci < 2 ^ 16 → LineGives lines s.number h target class vpi vci → (r : Routed) → routed target class vpi vci h (part bytes 5 48) ≡ r → Follows lines s bytes r
  follows target class vpi vci p c l r e =
      subst (Follows lines s bytes) e
      (record { vpi = vpi; vci = vci; line = l; header = on_bus s.link (four bytes 0) vpi vci p c target class (part bytes 5 48); payload = refl })

  -- the line that serves the cell
  by_line : AllInRange lines → (r : Routed) (o : Option Serving) → served lines s.number h.vpi h.vci ≡ o → way_by o h (part bytes 5 48) ≡ goes r → Follows lines s bytes r
  unfolding way_by
  by_line good r None t e = let z : ◌≡◌ {A = ℕ} 0 1 = cc in absurd (omega arith)
  by_line good r (Some by_drop) t e = let z : ◌≡◌ {A = ℕ} 0 1 = cc in absurd (omega arith)
  by_line good r (Some (by_vp target class outvpi)) t e =
      let m = served_line lines s.number h.vpi h.vci (by_vp target class outvpi) t in
      follows target class outvpi h.vci (each_ranged lines good _ m).4 (vci_lt s.link (four bytes 0)) (by_path m refl) r (cc)
  by_line good r (Some (by_vc target class outvpi outvci)) t e =
      let m = served_line lines s.number h.vpi h.vci (by_vc target class outvpi outvci) t in
      let n = each_ranged lines good _ m in
      follows target class outvpi outvci n.5 (omega (arith, n.6)) (by_circuit m) r (cc)

  -- a cell that goes on has passed the other tests
  goes_by : (r : Routed) → way_of lines s bytes ≡ goes r → way_by (served lines s.number h.vpi h.vci) h (part bytes 5 48) ≡ goes r
  unfolding way_of way_for
  goes_by r e = go (eqb (check (four bytes 0)) (get_or bytes 4 0)) e
    where
      go : (b : Bool) → cond b (way_for lines s h (part bytes 5 48)) (lost Hec) ≡ goes r → way_by (served lines s.number h.vpi h.vci) h (part bytes 5 48) ≡ goes r
      go true e =
          goes_on (ltb s.top h.vpi) (lost Misrouted) _ r (λ x. let z : ◌≡◌ {A = ℕ} 0 1 = cc in omega arith)
          (goes_on (eqb h.vpi 0 && eqb h.vci 0) (lost Ignored) _ r (λ x. let z : ◌≡◌ {A = ℕ} 0 1 = cc in omega arith) e)
      go false e = let z : ◌≡◌ {A = ℕ} 0 1 = cc in absurd (omega arith)

  -- and has its payload, whatever the line
  pub payload_kept : (r : Routed) → way_of lines s bytes ≡ goes r → r.cell.payload ≡ part bytes 5 48
  unfolding way_by
  payload_kept r e = go (served lines s.number h.vpi h.vci) (goes_by r e)
    where
      go : (o : Option Serving) → way_by o h (part bytes 5 48) ≡ goes r → r.cell.payload ≡ part bytes 5 48
      go None e = let z : ◌≡◌ {A = ℕ} 0 1 = cc in absurd (omega arith)
      go (Some by_drop) e = let z : ◌≡◌ {A = ℕ} 0 1 = cc in absurd (omega arith)
      go (Some (by_vp target class outvpi)) e = let same : routed target class outvpi h.vci h (part bytes 5 48) ≡ r = cc in ap (λ x. x.cell.payload) (sym same)
      go (Some (by_vc target class outvpi outvci)) e = let same : routed target class outvpi outvci h (part bytes 5 48) ≡ r = cc in ap (λ x. x.cell.payload) (sym same)

pub line_followed : LineFollowed
line_followed lines good s bytes r e = by_line lines s bytes good r (served lines s.number (header_of s bytes).vpi (header_of s bytes).vci) refl (goes_by lines s bytes r e)
