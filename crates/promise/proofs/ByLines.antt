-- On a memory that good lines made, the lookup is what the lines say. Assumes nothing.
use Rattle.std.specs.Prelude.{Option, Some}
use mathlib.Core.Path.{◌≡◌, refl, sym, ap, ap₂, ◌∙◌}
use mathlib.Core.Bool.{Bool, true, false, cond, ◌&&◌}
use mathlib.Core.List.{List, [], ◌∷◌}
use Prim.Native.Nat.{ℕ, ◌+◌, ◌*◌, ◌≤◌}
use native.Mathlib.Omega.{arith}
use lib.Dec.{eqb, ltb}
use borrow.Author.Tests.{le-ltb, ltb-false, eqb-true}
use Rattle.header.specs.Fields.{fields}
use Rattle.header.specs.declared.Header as H
use Rattle.header.specs.declared.Link.{Link}
use Rattle.bus.specs.Routing.{routing}
use Rattle.bus.specs.declared.Target.{Target}
use Rattle.card.specs.declared.Card.{Card}
use Rattle.lookup.specs.Record.{size, usable, record_at, Holds}
use Rattle.lookup.specs.declared.Record as R
use Rattle.lookup.specs.declared.Record.TheVariants.{Empty, Drop as R-as-Drop, Route, Page as R-as-Page}
use Rattle.lookup.specs.Lookup.{goes_by, by_vci, by_vpi, by_got, translated}
use Rattle.lookup.specs.declared.Looked.{Looked}
use Rattle.lookup.specs.declared.Looked.TheVariants.{Ignored, Misrouted}
use Rattle.line.specs.declared.Line.{Line}
use Rattle.line.specs.declared.Line.TheVariants.{Bus, Unit as L-as-Unit, Vp, Drop, Page, Vc, Mc}
use Rattle.meaning.specs.Told.{Whose, of_unit, of_page, same, gives, top_of, record_of, memory_of}
use Rattle.meaning.specs.Lines.{Good}
use Rattle.meaning.proofs.Regions.{start, both_left, both_right}
use Rattle.meaning.proofs.Fits.{fine_page, fine_vc}
use Rattle.meaning.proofs.Grown.{decide, grown, page_new}
use Rattle.meaning.proofs.Memory.{AllRanged, records_hold, stands_at}
use Rattle.meaning.specs.Served.{serves, served}
use Rattle.promise.specs.Served.{become, looked_up}

-- what becomes of a cell by the record of its VPI and by that of its VCI in the page
abbrev by : R.Record → R.Record → H.Header → Looked
by Empty c h = Misrouted
by R-as-Drop c h = Ignored
by (Route routing vpi vci) c h = goes_by routing vpi h.vci h
by (R-as-Page top place) c h = cond (ltb top h.vci) Misrouted (by_vci (Some c) h)

same_both : {A : Type 0} (b : Bool) (x : A) → cond b x x ≡ x
same_both true x = refl
same_both false x = refl

-- a new page: its VPI had nothing, and the page has nothing
module _ (card : Card) (room : ℕ) (told : List Line) (a b top : ℕ) (g : Good card room (Page a b top ∷ told)) (u v : ℕ) (t : (eqb u a && eqb v b) ≡ true) where
  no_record : record_of told (of_unit u) v ≡ Empty
  no_record =
      ap₂ (λ x y. record_of told (of_unit x) y) (eqb-true u a (both_left (eqb u a) (eqb v b) t)) (eqb-true v b (both_right (eqb u a) (eqb v b) t))
      ∙ (fine_page card room told a b top g.0).0.vacant

  new_page : (w : ℕ) → record_of told (of_page u v) w ≡ Empty
  new_page w =
      let p = (fine_page card room told a b top g.0).0 in
      let q = grown card room told g.1 in
      ap₂ (λ x y. record_of told (of_page x y) w) (eqb-true u a (both_left (eqb u a) (eqb v b) t)) (eqb-true v b (both_right (eqb u a) (eqb v b) t))
      ∙ q.vacant (of_page a b) w (page_new told a b top p q)

-- a circuit: its VPI has its page, and it is within
by_page : (r : R.Record) (t p : ℕ) → r ≡ R-as-Page t p → (c : R.Record) (h : H.Header) → h.vci ≤ t → by r c h ≡ by_vci (Some c) h
by_page r t p e c h w = ap (λ x. by x c h) e ∙ ap (λ b. cond b Misrouted (by_vci (Some c) h)) (le-ltb t h.vci w)

in_its_page : (card : Card) (room : ℕ) (told : List Line) (a b c : ℕ) (target : Target) (class outvpi outvci : ℕ) → Good card room (Vc a b c target class outvpi outvci ∷ told) → (u : ℕ) (h : H.Header) → ((eqb u a && eqb h.vpi b) && eqb h.vci c) ≡ true → by (record_of told (of_unit u) h.vpi) (Route (routing target class) outvpi outvci) h ≡ goes_by (routing target class) outvpi outvci h
unfolding by_vci
in_its_page card room told a b c target class outvpi outvci g u h t =
    let p = (fine_vc card room told a b c target class outvpi outvci g.0).0 in
    let both = both_left (eqb u a && eqb h.vpi b) (eqb h.vci c) t in
    let ua = eqb-true u a (both_left (eqb u a) (eqb h.vpi b) both) in
    let vb = eqb-true h.vpi b (both_right (eqb u a) (eqb h.vpi b) both) in
    let wc = eqb-true h.vci c (both_right (eqb u a && eqb h.vpi b) (eqb h.vci c) t) in
    by_page (record_of told (of_unit u) h.vpi) p.pagetop p.place (ap₂ (λ x y. record_of told (of_unit x) y) ua vb ∙ p.page)
    (Route (routing target class) outvpi outvci) h (let q = p.inpage in omega arith)

-- the records say what the serving line says
pub by_served : (card : Card) (room : ℕ) (told : List Line) → Good card room told → (u : ℕ) (h : H.Header) → by (record_of told (of_unit u) h.vpi) (record_of told (of_page u h.vpi) h.vci) h ≡ become (served told u h.vpi h.vci) h
unfolding record_of served serves gives same by_vci
by_served card room [] g u h = refl
by_served card room (Bus bus ∷ told) g u h = by_served card room told g.1 u h
by_served card room (L-as-Unit settings limits ∷ told) g u h = by_served card room told g.1 u h
by_served card room (Vp a b target class outvpi ∷ told) g u h =
    decide (eqb u a && eqb h.vpi b) (λ t. rw t) (λ t. rw t (by_served card room told g.1 u h))
by_served card room (Drop a b ∷ told) g u h = decide (eqb u a && eqb h.vpi b) (λ t. rw t) (λ t. rw t (by_served card room told g.1 u h))
by_served card room (Page a b top ∷ told) g u h =
    decide (eqb u a && eqb h.vpi b)
    (λ t. rw (t, new_page card room told a b top g u h.vpi t h.vci) (same_both (ltb top h.vci) Misrouted ∙ ap (λ r. by r (record_of told (of_page u h.vpi) h.vci) h) (sym (no_record card room told a b top g u h.vpi t)) ∙ by_served card room told g.1 u h))
    (λ t. rw t (by_served card room told g.1 u h))
by_served card room (Vc a b c target class outvpi outvci ∷ told) g u h =
    decide ((eqb u a && eqb h.vpi b) && eqb h.vci c)
    (λ t. rw t (in_its_page card room told a b c target class outvpi outvci g u h t))
    (λ t. rw t (by_served card room told g.1 u h))
by_served card room (Mc a session ∷ told) g u h = by_served card room told g.1 u h

-- what stands where the lines put it is what the lines gave
module _ (card : Card) (memory : List ℕ) (told : List Line) (g : Good card (usable memory) told) (r : AllRanged told) where
  abbrev stands : ℕ → Option R.Record
  stands = record_at card (memory_of card memory told)

  hold : (k : Whose) (i : ℕ) → Holds card (record_of told k i)
  hold = records_hold card (usable memory) told (omega arith) g r

  stands_circuit : (u v t p : ℕ) → record_of told (of_unit u) v ≡ R-as-Page t p → (c : ℕ) → c ≤ t → stands (p + size * c) ≡ Some (record_of told (of_page u v) c)
  stands_circuit u v t p e c h =
      let o = (grown card (usable memory) told g).opened u v t p e in
      ap (λ q. stands (q + size * c)) o.1 ∙ stands_at card memory told hold (of_page u v) t c o.0 h

  by_stands : (u : ℕ) (h : H.Header) (x : R.Record) → record_of told (of_unit u) h.vpi ≡ x → by_vpi stands x h ≡ by x (record_of told (of_page u h.vpi) h.vci) h
  unfolding by_vpi
  by_stands u h Empty e = refl
  by_stands u h R-as-Drop e = refl
  by_stands u h (Route routing vpi vci) e = refl
  by_stands u h (R-as-Page t p) e =
      decide (ltb t h.vci) (λ y. rw y) (λ n. rw n (ap (λ x. by_vci x h) (stands_circuit u h.vpi t p e h.vci (ltb-false t h.vci n))))

  pub lookup_lines : (link : Link) (u top header : ℕ) → top_of told (of_unit u) ≡ Some top → translated stands link top (size * start told (of_unit u)) header ≡ looked_up told link u top header
  unfolding translated looked_up by_got
  lookup_lines link u top header e =
      let h = fields link header in
      decide (eqb h.vpi 0 && eqb h.vci 0) (λ y. rw y)
      (λ n. rw n
      (decide (ltb top h.vpi) (λ y. rw y)
      (λ m. rw m
      (ap (λ x. by_got stands x h) (stands_at card memory told hold (of_unit u) top h.vpi e (ltb-false top h.vpi m))
      ∙ by_stands u h (record_of told (of_unit u) h.vpi) refl ∙ by_served card (usable memory) told g u h))))
