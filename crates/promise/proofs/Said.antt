-- What `meaning` reads off the lines is what some line before says. Assumes nothing.
use Rattle.std.specs.Prelude.{None, Option, Some}
use mathlib.Core.Path.{◌≡◌, refl, sym, ap, ap₂, ◌∙◌}
use mathlib.Core.Bool.{Bool, true, false, ◌&&◌, false≢true}
use mathlib.Core.List.Memᴰ
use mathlib.Core.List.{List, [], ◌∷◌, Memᴰ as In}
use Prim.Native.Nat.{ℕ, ◌+◌, ◌*◌}
use native.Mathlib.Omega.{arith}
use lib.Dec.{eqb}
use borrow.Author.Tests.{eqb-true, eq-eqb}
use Rattle.lookup.specs.Record.{size}
use Rattle.lookup.specs.declared.Record as R
use Rattle.lookup.specs.declared.Record.TheVariants.{Empty, Page as R-as-Page}
use Rattle.card.specs.declared.Card.{Card}
use Rattle.shelf.specs.Shelves.{find_in}
use Rattle.shelf.specs.Shelf.{Shelf}
use Rattle.line.specs.declared.Line.{Line}
use Rattle.line.specs.declared.Line.TheVariants.{Bus, Unit as L-as-Unit, Vp, Drop, Page, Vc, Mc}
use Rattle.judge.specs.Verdicts.{taken}
use Rattle.meaning.specs.Told.{of_unit, of_page, same, opens, gives, only, top_by, top_of, takes, total, given_by, record_of, declare, join_at, shelf_by, shelf_of}
use Rattle.meaning.specs.Lines.{Good}
use Rattle.meaning.proofs.Tabulate.{none_some, only_true, only_is}
use Rattle.meaning.proofs.Regions.{start, same_self, both_left, both_right}
use Rattle.meaning.proofs.Fits.{free, fine_bus}
use Rattle.meaning.proofs.Grown.{Grown}
use Rattle.meaning.proofs.Members.{top_in, in_top, given_in, in_given, first_is}
use Rattle.promise.specs.Says.{Declares, Gives, IsVc, records_by, records_of, unit_lines}
use Rattle.promise.specs.Faults.{Before}

-- A. one line
declares_top : (l : Line) (u top : ℕ) → Declares u top l → top_by (opens l) (of_unit u) ≡ Some top
unfolding opens same
declares_top (Bus bus) u top d = absurd d
declares_top (L-as-Unit settings limits) u top d = rw (eq-eqb settings.number u d.0) (ap Some d.1)
declares_top (Vp a b target class outvpi) u top d = absurd d
declares_top (Drop a b) u top d = absurd d
declares_top (Page a b topvci) u top d = absurd d
declares_top (Vc a b c target class outvpi outvci) u top d = absurd d
declares_top (Mc a session) u top d = absurd d

top_declares : (l : Line) (u top : ℕ) → top_by (opens l) (of_unit u) ≡ Some top → Declares u top l
unfolding opens same
top_declares (Bus bus) u top e = absurd (none_some e)
top_declares (L-as-Unit settings limits) u top e =
    (eqb-true settings.number u (only_true (eqb settings.number u) settings.top top e), only_is (eqb settings.number u) settings.top top e)
top_declares (Vp a b target class outvpi) u top e = absurd (none_some e)
top_declares (Drop a b) u top e = absurd (none_some e)
top_declares (Page a b topvci) u top e = absurd (none_some e)
top_declares (Vc a b c target class outvpi outvci) u top e = absurd (none_some e)
top_declares (Mc a session) u top e = absurd (none_some e)

page_top : (u v top : ℕ) → top_by (opens (Page u v top)) (of_page u v) ≡ Some top
unfolding opens
page_top u v top = rw (same_self (of_page u v))

top_page : (l : Line) (u v top : ℕ) → top_by (opens l) (of_page u v) ≡ Some top → Page u v top ≡ l
unfolding opens same
top_page (Bus bus) u v top e = absurd (none_some e)
top_page (L-as-Unit settings limits) u v top e = absurd (none_some e)
top_page (Vp a b target class outvpi) u v top e = absurd (none_some e)
top_page (Drop a b) u v top e = absurd (none_some e)
top_page (Page a b topvci) u v top e =
    let t = only_true (eqb a u && eqb b v) topvci top e in
    let x = eqb-true a u (both_left (eqb a u) (eqb b v) t) in
    let y = eqb-true b v (both_right (eqb a u) (eqb b v) t) in
    let z = only_is (eqb a u && eqb b v) topvci top e in
    sym (λ i. Page (x i) (y i) (z i))
top_page (Vc a b c target class outvpi outvci) u v top e = absurd (none_some e)
top_page (Mc a session) u v top e = absurd (none_some e)

-- two and three numbers are these
two_is : (u v a b : ℕ) → (eqb u a && eqb v b) ≡ true → (a ≡ u) × (b ≡ v)
two_is u v a b t = (sym (eqb-true u a (both_left (eqb u a) (eqb v b) t)), sym (eqb-true v b (both_right (eqb u a) (eqb v b) t)))

is_two : (u v a b : ℕ) → (a ≡ u) × (b ≡ v) → (eqb u a && eqb v b) ≡ true
is_two u v a b h = rw (eq-eqb u a (sym h.0)) (eq-eqb v b (sym h.1))

only_some : {A : Type 0} (b : Bool) (a : A) → b ≡ true → only b a ≡ None → ⊥
only_some true a t e = none_some (sym e)
only_some false a t e = false≢true t

some_only : {A : Type 0} (b : Bool) (a : A) → (only b a ≡ None → ⊥) → b ≡ true
some_only true a h = refl
some_only false a h = absurd (h refl)

gives_given : (l : Line) (u v place : ℕ) → Gives u v l → given_by (gives l place) (of_unit u) v ≡ None → ⊥
unfolding gives same
gives_given (Bus bus) u v place g = absurd g
gives_given (L-as-Unit settings limits) u v place g = absurd g
gives_given (Vp a b target class outvpi) u v place g = only_some _ _ (is_two u v a b g)
gives_given (Drop a b) u v place g = only_some _ _ (is_two u v a b g)
gives_given (Page a b topvci) u v place g = only_some _ _ (is_two u v a b g)
gives_given (Vc a b c target class outvpi outvci) u v place g = absurd g
gives_given (Mc a session) u v place g = absurd g

given_gives : (l : Line) (u v place : ℕ) → (given_by (gives l place) (of_unit u) v ≡ None → ⊥) → Gives u v l
unfolding gives same
given_gives (Bus bus) u v place h = h refl
given_gives (L-as-Unit settings limits) u v place h = h refl
given_gives (Vp a b target class outvpi) u v place h = two_is u v a b (some_only _ _ h)
given_gives (Drop a b) u v place h = two_is u v a b (some_only _ _ h)
given_gives (Page a b topvci) u v place h = two_is u v a b (some_only _ _ h)
given_gives (Vc a b c target class outvpi outvci) u v place h = h refl
given_gives (Mc a session) u v place h = h refl

vc_given : (l : Line) (u v w place : ℕ) → IsVc u v w l → given_by (gives l place) (of_page u v) w ≡ None → ⊥
unfolding gives same
vc_given (Bus bus) u v w place g = absurd g
vc_given (L-as-Unit settings limits) u v w place g = absurd g
vc_given (Vp a b target class outvpi) u v w place g = absurd g
vc_given (Drop a b) u v w place g = absurd g
vc_given (Page a b topvci) u v w place g = absurd g
vc_given (Vc a b c target class outvpi outvci) u v w place g = only_some ((eqb u a && eqb v b) && eqb w c) _ (rw (is_two u v a b (g.0, g.1)) (eq-eqb w c (sym g.2)))
vc_given (Mc a session) u v w place g = absurd g

given_vc : (l : Line) (u v w place : ℕ) → (given_by (gives l place) (of_page u v) w ≡ None → ⊥) → IsVc u v w l
unfolding gives same
given_vc (Bus bus) u v w place h = h refl
given_vc (L-as-Unit settings limits) u v w place h = h refl
given_vc (Vp a b target class outvpi) u v w place h = h refl
given_vc (Drop a b) u v w place h = h refl
given_vc (Page a b topvci) u v w place h = h refl
given_vc (Vc a b c target class outvpi outvci) u v w place h =
    let t = some_only ((eqb u a && eqb v b) && eqb w c) _ h in
    let k = two_is u v a b (both_left (eqb u a && eqb v b) (eqb w c) t) in
    (k.0, k.1, sym (eqb-true w c (both_right (eqb u a && eqb v b) (eqb w c) t)))
given_vc (Mc a session) u v w place h = h refl

-- B. the lines before
pub declared : (told : List Line) (u top : ℕ) → top_of told (of_unit u) ≡ Some top → Before told (Declares u top)
declared told u top e = let m = top_in told (of_unit u) top e in (m.0, m.1, top_declares m.0 u top m.2)

pub page_in_lem : (told : List Line) (u v top : ℕ) → top_of told (of_page u v) ≡ Some top → In (Page u v top) told
page_in_lem told u v top e = let m = top_in told (of_page u v) top e in Memᴰ.cast (top_page m.0 u v top m.2) m.1

not_taken : (r : R.Record) → r ≡ Empty → taken (Some r) ≡ false
not_taken r e = ap (λ x. taken (Some x)) e

pub given_before : (told : List Line) (u v : ℕ) → taken (Some (record_of told (of_unit u) v)) ≡ true → Before told (Gives u v)
given_before told u v t =
    let m = given_in told (of_unit u) v (λ e. false≢true (sym (not_taken (record_of told (of_unit u) v) e) ∙ t)) in
    (m.0, m.1, given_gives m.0 u v m.2.0 m.2.1)

pub before_given : (told : List Line) (u v : ℕ) → taken (Some (record_of told (of_unit u) v)) ≡ false → Before told (Gives u v) → ⊥
before_given told u v f b = in_given told b.0 b.1 (of_unit u) v (λ place. gives_given b.0 u v place b.2) (free (record_of told (of_unit u) v) f)

pub vc_before : (told : List Line) (u v w : ℕ) → taken (Some (record_of told (of_page u v) w)) ≡ true → Before told (IsVc u v w)
vc_before told u v w t =
    let m = given_in told (of_page u v) w (λ e. false≢true (sym (not_taken (record_of told (of_page u v) w) e) ∙ t)) in
    (m.0, m.1, given_vc m.0 u v w m.2.0 m.2.1)

pub before_vc : (told : List Line) (u v w : ℕ) → taken (Some (record_of told (of_page u v) w)) ≡ false → Before told (IsVc u v w) → ⊥
before_vc told u v w f b = in_given told b.0 b.1 (of_page u v) w (λ place. vc_given b.0 u v w place b.2) (free (record_of told (of_page u v) w) f)

module _ (told : List Line) (grew : Grown told) where
  pub top_is : (u top : ℕ) → Before told (Declares u top) → top_of told (of_unit u) ≡ Some top
  top_is u top b = in_top told grew.once b.0 b.1 (of_unit u) top (declares_top b.0 u top b.2)

  pub top_of_page : (u v top : ℕ) → In (Page u v top) told → top_of told (of_page u v) ≡ Some top
  top_of_page u v top m = in_top told grew.once (Page u v top) m (of_page u v) top (page_top u v top)

  pub page_stands : (u v top : ℕ) → In (Page u v top) told → record_of told (of_unit u) v ≡ R-as-Page top (size * start told (of_page u v))
  page_stands u v top m = grew.given u v top (top_of_page u v top m)

-- C. how many records and units there are
takes_by : (l : Line) → takes (opens l) ≡ records_by l
unfolding opens
takes_by (Bus bus) = refl
takes_by (L-as-Unit settings limits) = refl
takes_by (Vp a b target class outvpi) = refl
takes_by (Drop a b) = refl
takes_by (Page a b topvci) = refl
takes_by (Vc a b c target class outvpi outvci) = refl
takes_by (Mc a session) = refl

pub records_total : (told : List Line) → total told ≡ records_of told
unfolding total records_of
records_total [] = refl
records_total (l ∷ told) = ap₂ ◌+◌ (records_total told) (takes_by l)

joined_count : (shelf : Shelf) (f : Option ℕ) (session : ℕ) → (join_at shelf f session).count ≡ shelf.count
unfolding join_at
joined_count shelf (Some i) session = refl
joined_count shelf None session = refl

-- a `bus` line comes first
pub units_count : (card : Card) (room : ℕ) (told : List Line) → Good card room told → (shelf_of told).count ≡ unit_lines told
unfolding shelf_of shelf_by declare unit_lines
units_count card room [] g = refl
units_count card room (Bus bus ∷ told) g = sym (ap (λ x. unit_lines x + 0) (first_is told (fine_bus card room told bus g.0).0))
units_count card room (L-as-Unit settings limits ∷ told) g = ap (λ n. n + 1) (units_count card room told g.1)
units_count card room (Vp a b target class outvpi ∷ told) g = units_count card room told g.1 ∙ omega arith
units_count card room (Drop a b ∷ told) g = units_count card room told g.1 ∙ omega arith
units_count card room (Page a b topvci ∷ told) g = units_count card room told g.1 ∙ omega arith
units_count card room (Vc a b c target class outvpi outvci ∷ told) g = units_count card room told g.1 ∙ omega arith
units_count card room (Mc a session ∷ told) g =
    joined_count (shelf_of told) (find_in (Rattle.shelf.specs.Shelves.declared (shelf_of told)) a) session ∙ units_count card room told g.1 ∙ omega arith
