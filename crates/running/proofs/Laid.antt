-- The memory of a good table, byte by byte. Assumes nothing.
use Rattle.std.specs.Prelude.{Some, Ok, None, Option}
use Prim.Native.Nat.{ℕ, ◌+◌, ◌-◌, ◌*◌, ◌/◌, ◌%◌, ◌<◌, ◌≤◌}
use native.Mathlib.Omega.{arith}
use mathlib.Core.Path.{◌≡◌, refl, sym, ap, ap₂, subst, ◌∙◌}
use mathlib.Core.Bool.{true, ◌&&◌}
use mathlib.Core.List.{List, [], ◌∷◌, ◌++◌, append_assoc, append-nil, Memᴰ as In}
use lib.Dec.{eqb, leb}
use lib.ListN.{length, get_or, drop, replicate, length-append, length-drop, length-replicate, get_or-replicate, get_or-append}
use lib.Seq.{get_or-append-add, get_or-drop}
use borrow.Author.Tests.{eq-eqb, eqb-true, leb-true, leb-false}
use Rattle.octets.proofs.Parts.{get_at}
use Rattle.bus.specs.Routing.{routing}
use Rattle.bus.specs.declared.Target.{Target}
use Rattle.card.specs.declared.Card.{Card}
use Rattle.card.specs.declared.Card.TheVariants.{Narrow, Wide}
use Rattle.lookup.specs.Record.{size, usable, route_of, page_of, bytes_of, image}
use Rattle.lookup.specs.declared.Record as R
use Rattle.lookup.specs.declared.Record.TheVariants.{Empty, Drop as R-as-Drop, Route as R-as-Route, Page as R-as-Page}
use Rattle.lookup.proofs.RecordLaws.{bytes_length, image_length}
use Rattle.line.specs.declared.Line.{Line}
use Rattle.line.specs.declared.Line.TheVariants.{Bus, Unit as L-as-Unit, Vp, Drop, Page, Vc, Mc}
use Rattle.judge.specs.Verdicts.{fine, taken}
use Rattle.meaning.specs.Told.{Whose, of_unit, of_page, same, Opening, opens, gives, total, else, given_by, record_of, region_by, regions, records, memory_of}
use Rattle.meaning.specs.Lines.{judge, Good}
use Rattle.meaning.proofs.Tabulate.{tabulate_at, tabulate_length, some_inj, none_some, only_true, only_is}
use Rattle.meaning.proofs.Regions.{regions_length, same_is, both_left, both_right}
use Rattle.meaning.proofs.Fits.{free, fine_vp, fine_drop, fine_page, fine_vc}
use Rattle.meaning.proofs.Grown.{decide}
use Rattle.meaning.proofs.Memory.{fits_room}
use Rattle.paper.specs.Words.{TargetIn, InRange, AllInRange}
use Rattle.paper.proofs.Ranges.{sayable_iff}
use Rattle.paper.proofs.Cells.{routing_of}
use Rattle.promise.specs.Says.{Gives, IsVc, IsWide}
use Rattle.promise.specs.Faults.{Before, wide, Faultless}
use Rattle.promise.proofs.Said.{given_before, vc_before, records_total}
use Rattle.running.specs.Laid.{empty_bytes, drop_bytes, route_bytes, Route, page_bytes, VpiAt, VciAt, eight, Laid}

-- A. a line of a table gives its record, and no other line gives another
-- a line in a table stands between others
pub record Split (l : Line) (told : List Line) : Type 0 where
  pub after : List Line
  pub before : List Line
  pub all : told ≡ after ++ (l ∷ before)

pub in_split : (l : Line) (told : List Line) → In l told → Split l told
in_split l [] m = elim m [ ]
in_split l (x ∷ told) (In.head e) = record { after = []; before = told; all = ap (λ y. y ∷ told) (sym e) }
in_split l (x ∷ told) (In.tail m) =
    let s = in_split l told m in record { after = x ∷ s.after; before = s.before; all = ap (λ y. x ∷ y) s.all }

-- what a fine line gives was not given before
vacant_at : (told : List Line) (k : Whose) (i : ℕ) (h : Whose) (j : ℕ) → (same k h && eqb i j) ≡ true → record_of told h j ≡ Empty → record_of told k i ≡ Empty
vacant_at told k i h j t e =
    ap₂ (record_of told) (same_is k h (both_left (same k h) (eqb i j) t)) (eqb-true i j (both_right (same k h) (eqb i j) t)) ∙ e

route_empty : {header vpi vci : ℕ} → R-as-Route header vpi vci ≡ Empty → ⊥
route_empty e = let z : ◌≡◌ {A = ℕ} 0 1 = cc in omega arith

drop_empty : R-as-Drop ≡ Empty → ⊥
drop_empty e = let z : ◌≡◌ {A = ℕ} 0 1 = cc in omega arith

page_empty : {top place : ℕ} → R-as-Page top place ≡ Empty → ⊥
page_empty e = let z : ◌≡◌ {A = ℕ} 0 1 = cc in omega arith

module _ (k : Whose) (i : ℕ) (r : R.Record) where
  gift_some : (l : Line) (place : ℕ) → given_by (gives l place) k i ≡ Some r → r ≡ Empty → ⊥
  unfolding gives
  gift_some (Bus bus) place g z = none_some g
  gift_some (L-as-Unit settings limits) place g z = none_some g
  gift_some (Vp u v target class outvpi) place g z = route_empty (only_is (same k (of_unit u) && eqb i v) (R-as-Route (routing target class) outvpi 0) r g ∙ z)
  gift_some (Drop u v) place g z = drop_empty (only_is (same k (of_unit u) && eqb i v) R-as-Drop r g ∙ z)
  gift_some (Page u v top) place g z = page_empty (only_is (same k (of_unit u) && eqb i v) (R-as-Page top place) r g ∙ z)
  gift_some (Vc u v w target class outvpi outvci) place g z =
      route_empty (only_is (same k (of_page u v) && eqb i w) (R-as-Route (routing target class) outvpi outvci) r g ∙ z)
  gift_some (Mc u session) place g z = none_some g

  fine_vacant : (card : Card) (room : ℕ) (told : List Line) (l : Line) (place : ℕ) → judge card room told l ≡ fine → given_by (gives l place) k i ≡ Some r → record_of told k i ≡ Empty
  unfolding gives
  fine_vacant card room told (Bus bus) place e g = absurd (none_some g)
  fine_vacant card room told (L-as-Unit settings limits) place e g = absurd (none_some g)
  fine_vacant card room told (Vp u v target class outvpi) place e g =
      vacant_at told k i (of_unit u) v (only_true (same k (of_unit u) && eqb i v) (R-as-Route (routing target class) outvpi 0) r g) (fine_vp card room told u v target class outvpi e).0.vacant
  fine_vacant card room told (Drop u v) place e g = vacant_at told k i (of_unit u) v (only_true (same k (of_unit u) && eqb i v) R-as-Drop r g) (fine_drop card room told u v e).vacant
  fine_vacant card room told (Page u v top) place e g =
      vacant_at told k i (of_unit u) v (only_true (same k (of_unit u) && eqb i v) (R-as-Page top place) r g) (fine_page card room told u v top e).0.vacant
  fine_vacant card room told (Vc u v w target class outvpi outvci) place e g =
      vacant_at told k i (of_page u v) w (only_true (same k (of_page u v) && eqb i w) (R-as-Route (routing target class) outvpi outvci) r g)
      (fine_vc card room told u v w target class outvpi outvci e).0.vacant
  fine_vacant card room told (Mc u session) place e g = absurd (none_some g)

-- so the record is that of the line, wherever it stands in the table
gift_more : (card : Card) (room : ℕ) (told : List Line) (x : Line) → judge card room told x ≡ fine → (k : Whose) (i : ℕ) (r : R.Record) → (r ≡ Empty → ⊥) → record_of told k i ≡ r → record_of (x ∷ told) k i ≡ r
unfolding record_of
gift_more card room told x f k i r n e = go (given_by (gives x (size * total told)) k i) refl
  where
    go : (o : Option R.Record) → given_by (gives x (size * total told)) k i ≡ o → else o (record_of told k i) ≡ r
    go None h = e
    go (Some s) h = absurd (n (sym e ∙ fine_vacant k i s card room told x (size * total told) f h))

record_by : (card : Card) (room : ℕ) (after : List Line) (l : Line) (before : List Line) → Good card room (after ++ (l ∷ before)) → (k : Whose) (i : ℕ) (r : R.Record) →
    given_by (gives l (size * total before)) k i ≡ Some r → record_of (after ++ (l ∷ before)) k i ≡ r
unfolding record_of
record_by card room [] l before g k i r e = ap (λ x. else x (record_of before k i)) e
record_by card room (x ∷ after) l before g k i r e =
    gift_more card room (after ++ (l ∷ before)) x g.0 k i r (gift_some k i r l (size * total before) e) (record_by card room after l before g.1 k i r e)

-- the lines' own records
module _ (card : Card) (room : ℕ) (told : List Line) (good : Good card room told) where
  good_split : (l : Line) (s : Split l told) → Good card room (s.after ++ (l ∷ s.before))
  good_split l s = subst (Good card room) s.all good

  by_split : (l : Line) (s : Split l told) (k : Whose) (i : ℕ) (r : R.Record) → given_by (gives l (size * total s.before)) k i ≡ Some r → record_of told k i ≡ r
  by_split l s k i r e = ap (λ x. record_of x k i) s.all ∙ record_by card room s.after l s.before (good_split l s) k i r e

  vp_record : (u v : ℕ) (target : Target) (class outvpi : ℕ) → In (Vp u v target class outvpi) told → record_of told (of_unit u) v ≡ R-as-Route (routing target class) outvpi 0
  unfolding gives same
  vp_record u v target class outvpi m =
      by_split (Vp u v target class outvpi) (in_split (Vp u v target class outvpi) told m) (of_unit u) v (R-as-Route (routing target class) outvpi 0) (rw (eq-eqb u u refl, eq-eqb v v refl))

  drop_record : (u v : ℕ) → In (Drop u v) told → record_of told (of_unit u) v ≡ R-as-Drop
  unfolding gives same
  drop_record u v m = by_split (Drop u v) (in_split (Drop u v) told m) (of_unit u) v R-as-Drop (rw (eq-eqb u u refl, eq-eqb v v refl))

  page_record : (after : List Line) (u v top : ℕ) (before : List Line) → told ≡ after ++ (Page u v top ∷ before) → record_of told (of_unit u) v ≡ R-as-Page top (size * total before)
  unfolding gives same
  page_record after u v top before all =
      by_split (Page u v top) (record { after = after; before = before; all = all }) (of_unit u) v (R-as-Page top (size * total before)) (rw (eq-eqb u u refl, eq-eqb v v refl))

  vc_record : (u v w : ℕ) (target : Target) (class outvpi outvci : ℕ) → In (Vc u v w target class outvpi outvci) told → record_of told (of_page u v) w ≡ R-as-Route (routing target class) outvpi outvci
  unfolding gives same
  vc_record u v w target class outvpi outvci m =
      let l = Vc u v w target class outvpi outvci in
      by_split l (in_split l told m) (of_page u v) w (R-as-Route (routing target class) outvpi outvci) (rw (eq-eqb u u refl, eq-eqb v v refl, eq-eqb w w refl))

no_gift : (told : List Line) (u v : ℕ) → (Before told (Gives u v) → ⊥) → record_of told (of_unit u) v ≡ Empty
no_gift told u v n =
    decide (taken (Some (record_of told (of_unit u) v))) (λ t. absurd (n (given_before told u v t))) (λ t. free (record_of told (of_unit u) v) t)

no_vc : (told : List Line) (u v w : ℕ) → (Before told (IsVc u v w) → ⊥) → record_of told (of_page u v) w ≡ Empty
no_vc told u v w n =
    decide (taken (Some (record_of told (of_page u v) w))) (λ t. absurd (n (vc_before told u v w t))) (λ t. free (record_of told (of_page u v) w) t)

-- B. each record in its eight bytes
high : (n : ℕ) → n < 65536 → n / 256 % 256 ≡ n / 256
high n h = omega arith

route_bytes_lem : (card : Card) (header outvpi outvci : ℕ) → header < 65536 → outvpi ≤ 4095 → (card ≡ Narrow → outvpi ≤ 255) → outvci < 65536 →
    bytes_of card (R-as-Route header outvpi outvci) ≡ route_bytes card header outvpi outvci
unfolding bytes_of route_of
route_bytes_lem Narrow header outvpi outvci h v n c =
    let low : outvpi % 256 ≡ outvpi = let k = n refl in omega arith in
    λ i. 2 ∷ high header h i ∷ header % 256 ∷ low i ∷ high outvci c i ∷ outvci % 256 ∷ 0 ∷ 0 ∷ []
route_bytes_lem Wide header outvpi outvci h v n c =
    λ i. 2 ∷ high header h i ∷ header % 256 ∷ 0 ∷ high outvci c i ∷ outvci % 256 ∷ high outvpi (omega arith) i ∷ outvpi % 256 ∷ []

page_bytes_lem : (card : Card) (top place : ℕ) → top < 65536 → place ≤ 262144 → bytes_of card (R-as-Page top place) ≡ page_bytes top place
unfolding bytes_of page_of
page_bytes_lem card top place h p =
    let a : place / 65536 / 256 % 256 ≡ place / 16777216 = omega arith in
    let b : place % 65536 / 256 % 256 ≡ place / 256 % 256 = omega arith in
    let c : place % 65536 % 256 ≡ place % 256 = omega arith in
    λ i. 3 ∷ high top h i ∷ top % 256 ∷ 0 ∷ a i ∷ place / 65536 % 256 ∷ b i ∷ c i ∷ []

drop_bytes_lem : (card : Card) → bytes_of card R-as-Drop ≡ drop_bytes
unfolding bytes_of
drop_bytes_lem card = refl

empty_bytes_lem : (card : Card) → bytes_of card Empty ≡ empty_bytes
unfolding bytes_of
empty_bytes_lem card = refl

-- C. the records stand one behind the other
-- the records of a line stand behind those of the lines before it
regions_split : (f : Whose → ℕ → R.Record) (after : List Line) (l : Line) (before : List Line) →
    (more : List R.Record) × (regions f (after ++ (l ∷ before)) ≡ regions f before ++ (region_by f (opens l) ++ more))
unfolding regions
regions_split f [] l before = ([], ap (λ x. regions f before ++ x) (sym (append-nil (region_by f (opens l)))))
regions_split f (x ∷ after) l before =
    let s = regions_split f after l before in (
      s.0 ++ region_by f (opens x),
      ap (λ y. y ++ region_by f (opens x)) s.1 ∙ append_assoc (regions f before) (region_by f (opens l) ++ s.0) (region_by f (opens x))
          ∙ ap (λ y. regions f before ++ y) (append_assoc (region_by f (opens l)) s.0 (region_by f (opens x))),
    )

-- what a line opens: so many records, each the function's
opens_at : (f : Whose → ℕ → R.Record) (x : Option Opening) (o : Opening) (i : ℕ) → x ≡ Some o → i ≤ o.top → (i < length (region_by f x)) × (get_or (region_by f x) i Empty ≡ f o.whose i)
opens_at f None o i e h = absurd (none_some e)
opens_at f (Some p) o i e h =
    let s : p ≡ o = some_inj e in
    let top = ap (λ x. x.top) s in
    let n = tabulate_length (f p.whose) (p.top + 1) in
    (omega arith, tabulate_at (f p.whose) (p.top + 1) i Empty (omega arith) ∙ ap (λ x. f x.whose i) s)

module _ (f : Whose → ℕ → R.Record) (told after : List Line) (l : Line) (before : List Line) (all : told ≡ after ++ (l ∷ before)) (o : Opening) (e : opens l ≡ Some o) (i : ℕ) (h : i ≤ o.top) where
  split : regions f told ≡ regions f before ++ (region_by f (opens l) ++ (regions_split f after l before).0)
  split = ap (regions f) all ∙ (regions_split f after l before).1

  inside : total before + i < length (regions f told)
  inside =
      let a = (opens_at f (opens l) o i e h).0 in
      let n = regions_length f before in
      omega (arith, ap length split, length-append (regions f before) (region_by f (opens l) ++ (regions_split f after l before).0), length-append (region_by f (opens l)) (regions_split f after l before).0)

  at_line : get_or (regions f told) (total before + i) Empty ≡ f o.whose i
  at_line =
      let more = (regions_split f after l before).0 in
      ap₂ (λ rs n. get_or rs (n + i) Empty) split (sym (regions_length f before))
      ∙ get_or-append-add (regions f before) (region_by f (opens l) ++ more) i Empty
      ∙ get_or-append (region_by f (opens l)) more Empty i (opens_at f (opens l) o i e h).0
      ∙ (opens_at f (opens l) o i e h).1

module _ (card : Card) (memory : List ℕ) (told : List Line) (fits : size * total told ≤ usable memory) where
  -- behind the records, and behind all that a table may use
  abbrev gap : ℕ
  gap = usable memory - size * total told

  abbrev zeros : List ℕ
  zeros = replicate gap 0

  abbrev rest : List ℕ
  rest = drop (usable memory) memory

  image_long : length (image card (records told)) ≡ size * total told
  unfolding records
  image_long = image_length card (records told) ∙ ap (λ n. size * n) (regions_length (record_of told) told)

  laid_past : (at : ℕ) → size * total told ≤ at → at < usable memory → get_or (memory_of card memory told) at 0 ≡ 0
  unfolding memory_of
  laid_past at h k =
      let n : at ≡ length (image card (records told)) + (at - size * total told) = omega (arith, image_long) in
      let g : at - size * total told < gap = omega arith in
      ap (λ x. get_or (memory_of card memory told) x 0) n
      ∙ get_or-append-add (image card (records told)) (zeros ++ rest) (at - size * total told) 0
      ∙ get_or-append zeros rest 0 (at - size * total told) (omega (arith, length-replicate {A = ℕ} gap 0))
      ∙ get_or-replicate gap (at - size * total told) 0 0 g

  laid_later : (at : ℕ) → usable memory ≤ at → get_or (memory_of card memory told) at 0 ≡ get_or memory at 0
  unfolding memory_of
  laid_later at h =
      let k = at - usable memory in
      let n : at ≡ length (image card (records told)) + (length zeros + k) = omega (arith, image_long, length-replicate {A = ℕ} gap 0) in
      let m : usable memory + k ≡ at = omega arith in
      ap (λ x. get_or (memory_of card memory told) x 0) n
      ∙ get_or-append-add (image card (records told)) (zeros ++ rest) (length zeros + k) 0
      ∙ get_or-append-add zeros rest k 0
      ∙ get_or-drop (usable memory) memory k 0
      ∙ ap (λ x. get_or memory x 0) m

  laid_long : length (memory_of card memory told) ≡ length memory
  unfolding memory_of
  laid_long =
      let a = length-append (image card (records told)) (zeros ++ rest) in
      let b = length-append zeros rest in
      omega (arith, a, b, image_long, length-replicate {A = ℕ} gap 0, length-drop (usable memory) memory)

  -- the record of a line that opens some
  stands : (after : List Line) (l : Line) (before : List Line) → told ≡ after ++ (l ∷ before) → (o : Opening) → opens l ≡ Some o → (i : ℕ) → i ≤ o.top →
      eight (memory_of card memory told) (size * (total before + i)) ≡ bytes_of card (record_of told o.whose i)
  unfolding memory_of records
  stands after l before all o e i h =
      get_at size (bytes_of card) (bytes_length card) (records told) (total before + i) Empty (zeros ++ rest) (inside (record_of told) told after l before all o e i h)
      ∙ ap (bytes_of card) (at_line (record_of told) told after l before all o e i h)

  vpi_stands : (u v at : ℕ) → VpiAt told u v at → eight (memory_of card memory told) at ≡ bytes_of card (record_of told (of_unit u) v)
  unfolding opens
  vpi_stands u v at p =
      ap (eight (memory_of card memory told)) (p.place ∙ ap (λ n. 8 * (n + v)) (sym (records_total p.before)))
      ∙ stands p.after (L-as-Unit p.settings p.limits) p.before p.all (record { whose = of_unit p.settings.number; top = p.settings.top }) refl v p.within
      ∙ ap (λ n. bytes_of card (record_of told (of_unit n) v)) p.number

  vci_stands : (u v w at : ℕ) → VciAt told u v w at → eight (memory_of card memory told) at ≡ bytes_of card (record_of told (of_page u v) w)
  unfolding opens
  vci_stands u v w at p =
      ap (eight (memory_of card memory told)) (p.place ∙ ap (λ n. 8 * (n + w)) (sym (records_total p.before)))
      ∙ stands p.after (Page u v p.top) p.before p.all (record { whose = of_page u v; top = p.top }) refl w p.within

-- D. what the lines' numbers are
ranged_in : (l : Line) (told : List Line) → In l told → AllInRange told → InRange l
ranged_in l [] m r = elim m [ ]
ranged_in l (x ∷ told) (In.head e) r = subst InRange (sym e) r.0
ranged_in l (x ∷ told) (In.tail m) r = ranged_in l told m r.1

split_in : (l : Line) (after before : List Line) → In l (after ++ (l ∷ before))
split_in l [] before = In.head refl
split_in l (x ∷ after) before = In.tail (split_in l after before)

-- on the narrow card no outgoing VPI is above 255
not_wide : (card : Card) (memory : List ℕ) (l : Line) (told : List Line) → In l told → Faultless card memory told → card ≡ Narrow → IsWide l → ⊥
not_wide card memory l [] m f n w = elim m [ ]
not_wide card memory l (x ∷ told) (In.head e) f n w = f.0 5 (wide n (subst IsWide e w) refl)
not_wide card memory l (x ∷ told) (In.tail m) f n w = not_wide card memory l told m f.1 n w

good_behind : (card : Card) (room : ℕ) (after told : List Line) → Good card room (after ++ told) → Good card room told
good_behind card room [] told g = g
good_behind card room (l ∷ after) told g = good_behind card room after told g.1

-- E. the memory
module _ (card : Card) (memory : List ℕ) (told : List Line) (good : Good card (usable memory) told) (ranged : AllInRange told) (faultless : Faultless card memory told) where
  fits : size * total told ≤ usable memory
  fits = fits_room card (usable memory) told good

  -- a route, in its eight bytes
  route : (target : Target) (class outvpi outvci : ℕ) (bytes : List ℕ) → TargetIn target → class ≤ 3 → outvpi ≤ 4095 → (card ≡ Narrow → outvpi ≤ 255) → outvci < 65536 →
      bytes ≡ bytes_of card (R-as-Route (routing target class) outvpi outvci) → Route card target class outvpi outvci bytes
  route target class outvpi outvci bytes t q v n c e =
      let is = routing_of target class (omega arith) ((sayable_iff target).1 t) in
      record { routing = routing target class; is = is; all = e ∙ route_bytes_lem card (routing target class) outvpi outvci is.whole v n c }

  pub laid : Laid card memory told (memory_of card memory told)
  laid =
      record {
        by_vp = λ u v target class outvpi at m p.
            let l = Vp u v target class outvpi in
            let r = ranged_in l told m ranged in
            route target class outvpi 0 (eight (memory_of card memory told) at) r.2 r.3 r.4 (λ n. narrow l outvpi m n (λ h. h)) (omega arith)
            (vpi_stands card memory told fits u v at p ∙ ap (bytes_of card) (vp_record card (usable memory) told good u v target class outvpi m));
        by_drop = λ u v at m p. vpi_stands card memory told fits u v at p ∙ ap (bytes_of card) (drop_record card (usable memory) told good u v m) ∙ drop_bytes_lem card;
        by_page = λ after u v top before at all p.
            let r = ranged_in (Page u v top) told (subst (In (Page u v top)) (sym all) (split_in (Page u v top) after before)) ranged in
            let q = (good_behind card (usable memory) after (Page u v top ∷ before) (subst (Good card (usable memory)) all good)).1 in
            let n = fits_room card (usable memory) before q in
            vpi_stands card memory told fits u v at p ∙ ap (bytes_of card) (page_record card (usable memory) told good after u v top before all)
            ∙ page_bytes_lem card top (size * total before) (omega (arith, r.2)) (omega arith) ∙ ap (λ k. page_bytes top (8 * k)) (records_total before);
        by_none = λ u v at n p. vpi_stands card memory told fits u v at p ∙ ap (bytes_of card) (no_gift told u v n) ∙ empty_bytes_lem card;
        by_vc = λ u v w target class outvpi outvci at m p.
            let l = Vc u v w target class outvpi outvci in
            let r = ranged_in l told m ranged in
            route target class outvpi outvci (eight (memory_of card memory told) at) r.3 r.4 r.5 (λ n. narrow l outvpi m n (λ h. h)) (omega (arith, r.6))
            (vci_stands card memory told fits u v w at p ∙ ap (bytes_of card) (vc_record card (usable memory) told good u v w target class outvpi outvci m));
        by_no_vc = λ u v w at n p. vci_stands card memory told fits u v w at p ∙ ap (bytes_of card) (no_vc told u v w n) ∙ empty_bytes_lem card;
        past = λ at h k m. laid_past card memory told fits at (omega (arith, records_total told)) (omega arith);
        later = λ at h. laid_later card memory told fits at (omega arith);
        long = laid_long card memory told fits;
      }
    where
      narrow : (l : Line) (outvpi : ℕ) → In l told → card ≡ Narrow → (255 < outvpi → IsWide l) → outvpi ≤ 255
      narrow l outvpi m n w =
          decide (leb outvpi 255) (leb-true outvpi 255) (λ t. absurd (not_wide card memory l told m faultless n (w (leb-false outvpi 255 t))))
