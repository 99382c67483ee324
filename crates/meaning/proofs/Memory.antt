-- The memory of good lines: what stands at each place is what the lines gave it, and what a line does to it is the memory of one line more.
-- Assumes nothing.
use Rattle.std.specs.Prelude.{Some, None}
use mathlib.Core.Path.{◌≡◌, refl, sym, ap, ap₂, subst, ◌∙◌}
use mathlib.Core.Bool.{Bool, true, false, ◌&&◌}
use mathlib.Core.List.{List, [], ◌∷◌, ◌++◌, append_assoc, append-nil}
use Prim.Native.Nat.{ℕ, zero, suc, ◌+◌, ◌-◌, ◌*◌, ◌^◌, ◌<◌, ◌≤◌}
use native.Mathlib.Nat.{add-zero, sub-zero}
use native.Mathlib.Numerals.{add-one}
use native.Mathlib.Omega.{arith}
use lib.Dec.{eqb}
use lib.ListN.{length, get_or, set, drop, replicate, replicate-append-replicate}
use borrow.Author.Tests.{leb-true, eq-eqb}
use Rattle.bus.specs.Routing.{routing}
use Rattle.bus.specs.Routing.{Sayable}
use Rattle.bus.proofs.RoutingLaws.{routing_lt}
use Rattle.card.specs.Cards.{holds, narrow_holds}
use Rattle.card.specs.declared.Card.{Card}
use Rattle.card.specs.declared.Card.TheVariants.{Narrow, Wide}
use Rattle.card.specs.declared.Ask.TheVariants.{Out}
use Rattle.octets.specs.Octets.{cat}
use Rattle.lookup.specs.Record.{size, most, usable, record_at, written, cleared, Holds, image}
use Rattle.lookup.specs.declared.Record as R
use Rattle.lookup.specs.declared.Record.TheVariants.{Empty, Drop as R-as-Drop, Route, Page as R-as-Page}
use Rattle.lookup.proofs.RecordLaws.{image_get, image_put, image_append, image_empty}
use Rattle.outlet.specs.declared.Limits.{Limits}
use Rattle.shelf.specs.declared.Settings.{Settings}
use Rattle.line.specs.declared.Line.{Line}
use Rattle.line.specs.declared.Line.TheVariants.{Bus, Unit as L-as-Unit, Vp, Drop, Page, Vc, Mc}
use Rattle.meaning.specs.Told.{Whose, of_unit, of_page, same, Opening, opens, Giving, gives, only, else, top_of, takes, total, given_by, record_of, tabulate, region_by, regions, records, memory_of}
use Rattle.meaning.specs.Lines.{Good}
use Rattle.meaning.proofs.Regions.{same_self, start, start_lt, regions_length, regions_at, regions_put, Once}
use Rattle.meaning.proofs.Fits.{AtPath, fine_unit, fine_vp, fine_page, fine_vc}
use Rattle.meaning.proofs.Grown.{Grown}

-- the numbers of a line that the reader keeps in range
abbrev pub Ranged : Line → Type 0
Ranged (Bus bus) = Unit {0}
Ranged (L-as-Unit settings limits) = settings.number < 32
Ranged (Vp u v target class outvpi) = Sayable target × (outvpi ≤ 4095)
Ranged (Drop u v) = Unit {0}
Ranged (Page u v top) = top < 2 ^ 16
Ranged (Vc u v w target class outvpi outvci) = Sayable target × (outvpi ≤ 4095) × (outvci < 2 ^ 16)
Ranged (Mc u session) = session < 256

abbrev pub AllRanged : List Line → Type 0
AllRanged [] = Unit {0}
AllRanged (l ∷ told) = Ranged l × AllRanged told

-- the records fit the room
pub fits_room : (card : Card) (room : ℕ) (told : List Line) → Good card room told → size * total told ≤ room
unfolding total opens
fits_room card room [] g = omega arith
fits_room card room (Bus bus ∷ told) g = let h = fits_room card room told g.1 in omega arith
fits_room card room (L-as-Unit settings limits ∷ told) g = let h = (fine_unit card room told settings limits g.0).roomy in omega arith
fits_room card room (Vp u v target class outvpi ∷ told) g = let h = fits_room card room told g.1 in omega arith
fits_room card room (Drop u v ∷ told) g = let h = fits_room card room told g.1 in omega arith
fits_room card room (Page u v top ∷ told) g = let h = (fine_page card room told u v top g.0).1 in omega arith
fits_room card room (Vc u v w target class outvpi outvci ∷ told) g = let h = fits_room card room told g.1 in omega arith
fits_room card room (Mc u session ∷ told) g = let h = fits_room card room told g.1 in omega arith

-- the card holds every record
route_holds : (card : Card) (h o w : ℕ) → h < 2 ^ 16 → holds card (Out o) ≡ true → o ≤ 4095 → w < 2 ^ 16 → Holds card (Route h o w)
unfolding holds narrow_holds
route_holds Narrow h o w hh e r hw = let k = leb-true o 255 e in (hh, omega arith, hw)
route_holds Wide h o w hh e r hw = (hh, omega arith, hw)

else_holds : (card : Card) (b : Bool) (r s : R.Record) → Holds card r → Holds card s → Holds card (else (only b r) s)
else_holds card true r s hr hs = hr
else_holds card false r s hr hs = hs

page_holds : (card : Card) (top place : ℕ) → top < 2 ^ 16 → place < 2 ^ 32 → Holds card (R-as-Page top place)
page_holds Narrow top place ht hp = (ht, hp)
page_holds Wide top place ht hp = (ht, hp)

pub records_hold : (card : Card) (room : ℕ) (told : List Line) → room ≤ most → Good card room told → AllRanged told → (k : Whose) (i : ℕ) → Holds card (record_of told k i)
unfolding record_of gives
records_hold card room [] m g r k i = tt
records_hold card room (Bus bus ∷ told) m g r k i = records_hold card room told m g.1 r.1 k i
records_hold card room (L-as-Unit settings limits ∷ told) m g r k i = records_hold card room told m g.1 r.1 k i
records_hold card room (Vp u v target class outvpi ∷ told) m g r k i =
    else_holds card (same k (of_unit u) && eqb i v) (Route (routing target class) outvpi 0) (record_of told k i)
    (route_holds card (routing target class) outvpi 0 (routing_lt target class r.0.0) (fine_vp card room told u v target class outvpi g.0).1 r.0.1 (omega arith))
    (records_hold card room told m g.1 r.1 k i)
records_hold card room (Drop u v ∷ told) m g r k i =
    else_holds card (same k (of_unit u) && eqb i v) R-as-Drop (record_of told k i) tt (records_hold card room told m g.1 r.1 k i)
records_hold card room (Page u v top ∷ told) m g r k i =
    else_holds card (same k (of_unit u) && eqb i v) (R-as-Page top (size * total told)) (record_of told k i)
    (page_holds card top (size * total told) r.0 (let f = fits_room card room told g.1 in omega arith)) (records_hold card room told m g.1 r.1 k i)
records_hold card room (Vc u v w target class outvpi outvci ∷ told) m g r k i =
    else_holds card (same k (of_page u v) && eqb i w) (Route (routing target class) outvpi outvci) (record_of told k i)
    (route_holds card (routing target class) outvpi outvci (routing_lt target class r.0.0) (fine_vc card room told u v w target class outvpi outvci g.0).1 r.0.1 r.0.2)
    (records_hold card room told m g.1 r.1 k i)
records_hold card room (Mc u session ∷ told) m g r k i = records_hold card room told m g.1 r.1 k i

-- what stands at a place
rest : List ℕ → List Line → List ℕ
rest memory told = replicate (usable memory - size * total told) 0 ++ drop (usable memory) memory

record_at_lem : (told : List Line) (k : Whose) (top i : ℕ) → top_of told k ≡ Some top → i ≤ top → get_or (records told) (start told k + i) Empty ≡ record_of told k i
unfolding records
record_at_lem told k top i e h = regions_at (record_of told) told k top i Empty e h

index : (told : List Line) (k : Whose) (top i : ℕ) → top_of told k ≡ Some top → i ≤ top → start told k + i < length (records told)
unfolding records
index told k top i e h = let s = start_lt told k top e in let n = regions_length (record_of told) told in omega arith

pub stands_at : (card : Card) (memory : List ℕ) (told : List Line) → ((k : Whose) (i : ℕ) → Holds card (record_of told k i)) → (k : Whose) (top i : ℕ) → top_of told k ≡ Some top → i ≤ top → record_at card (memory_of card memory told) (size * start told k + size * i) ≡ Some (record_of told k i)
unfolding memory_of rest
stands_at card memory told hold k top i e h =
    let place : size * start told k + size * i ≡ size * (start told k + i) = omega arith in
    let r = record_at_lem told k top i e h in
    ap (record_at card (image card (records told) ++ rest memory told)) place
    ∙ image_get card (records told) (rest memory told) (start told k + i) Empty (index told k top i e h) (subst (Holds card) (sym r) (hold k i))
    ∙ ap Some r

-- what one more gift makes of the records
module _ (told : List Line) (l : Line) (g : Giving) (e : gives l (size * total told) ≡ Some g) (once : Once told) (top : ℕ) (declared : top_of told g.whose ≡ Some top) (within : g.at ≤ top) where
  gift_other : (j : Whose) (n : ℕ) → (same j g.whose && eqb n g.at) ≡ false → record_of (l ∷ told) j n ≡ record_of told j n
  unfolding record_of
  gift_other j n z = rw (e, z)

  gift_here : record_of (l ∷ told) g.whose g.at ≡ g.gift
  unfolding record_of
  gift_here = rw (e, same_self g.whose, eq-eqb g.at g.at refl)

  gifted : regions (record_of (l ∷ told)) told ≡ set (records told) (start told g.whose + g.at) g.gift
  unfolding records
  gifted = regions_put (record_of told) (record_of (l ∷ told)) g.whose g.at g.gift gift_other gift_here told once top declared within

-- opened records are empty
all_empty : (f : ℕ → R.Record) (n : ℕ) → ((i : ℕ) → f i ≡ Empty) → tabulate f n ≡ replicate n Empty
unfolding tabulate
all_empty f zero h = refl
all_empty f (suc n) h =
    ap₂ (λ l x. l ++ (x ∷ [])) (all_empty f n h) (h n) ∙ replicate-append-replicate n 1 Empty ∙ ap (λ m. replicate m Empty) (add-one n)

-- records of which the last n are empty need no writing
unwritten : (card : Card) (memory : List ℕ) (rs : List R.Record) (t n : ℕ) → size * t + size * n ≤ usable memory → image card (rs ++ replicate n Empty) ++ (replicate (usable memory - size * (t + n)) 0 ++ drop (usable memory) memory) ≡ image card rs ++ (replicate (usable memory - size * t) 0 ++ drop (usable memory) memory)
unwritten card memory rs t n h =
    let u = usable memory in
    let tail = drop u memory in
    let z : List ℕ = replicate (u - size * (t + n)) 0 in
    let e : size * n + (u - size * (t + n)) ≡ u - size * t = omega arith in
    ap (λ x. x ++ (z ++ tail)) (image_append card rs (replicate n Empty) ∙ ap (λ x. image card rs ++ x) (image_empty card n))
    ∙ append_assoc (image card rs) (replicate (size * n) 0) (z ++ tail)
    ∙ ap (λ x. image card rs ++ x)
    (sym (append_assoc (replicate (size * n) 0) z tail) ∙ ap (λ x. x ++ tail) (replicate-append-replicate (size * n) (u - size * (t + n)) 0 ∙ ap (λ m. replicate m 0) e))

-- the memory of records, of which there are t
abbrev memory_with : Card → List ℕ → List R.Record → ℕ → List ℕ
memory_with card memory rs t = image card rs ++ (replicate (usable memory - size * t) 0 ++ drop (usable memory) memory)

is_with : (card : Card) (memory : List ℕ) (told : List Line) → memory_of card memory told ≡ memory_with card memory (records told) (total told)
unfolding memory_of
is_with card memory told = refl

records_more : (l : Line) (told : List Line) → records (l ∷ told) ≡ regions (record_of (l ∷ told)) told ++ region_by (record_of (l ∷ told)) (opens l)
unfolding records regions
records_more l told = refl

total_more : (l : Line) (told : List Line) → total (l ∷ told) ≡ total told + takes (opens l)
unfolding total
total_more l told = refl

put_with : (card : Card) (memory : List ℕ) (told : List Line) (k : Whose) (top i : ℕ) (r : R.Record) → top_of told k ≡ Some top → i ≤ top → written card (memory_of card memory told) (size * start told k + size * i) r ≡ memory_with card memory (set (records told) (start told k + i) r) (total told)
put_with card memory told k top i r e h =
    let place : size * start told k + size * i ≡ size * (start told k + i) = omega arith in
    ap₂ (λ m p. written card m p r) (is_with card memory told) place
    ∙ image_put card (records told) (replicate (usable memory - size * total told) 0 ++ drop (usable memory) memory) (start told k + i) r (index told k top i e h)

module _ (card : Card) (memory : List ℕ) (told : List Line) (w : Grown told) where
  -- a line that only gives: what it writes is the memory of one line more
  pub memory_gift : (l : Line) (g : Giving) → opens l ≡ None → gives l (size * total told) ≡ Some g → (top : ℕ) → top_of told g.whose ≡ Some top → g.at ≤ top → written card (memory_of card memory told) (size * start told g.whose + size * g.at) g.gift ≡ memory_of card memory (l ∷ told)
  memory_gift l g o e top declared within =
      let rs : records (l ∷ told) ≡ set (records told) (start told g.whose + g.at) g.gift =
      records_more l told ∙ ap₂ ◌++◌ (gifted told l g e w.once top declared within) (ap (region_by (record_of (l ∷ told))) o) ∙ append-nil _ in
      let t : total (l ∷ told) ≡ total told = total_more l told ∙ ap (λ x. total told + takes x) o ∙ add-zero (total told) in
      put_with card memory told g.whose top g.at g.gift declared within ∙ sym (is_with card memory (l ∷ told) ∙ ap₂ (memory_with card memory) rs t)

  -- one that does neither
  still : (l : Line) → gives l (size * total told) ≡ None → regions (record_of (l ∷ told)) told ≡ records told
  unfolding record_of records
  still l e = ap (λ x. regions (λ k i. else (given_by x k i) (record_of told k i)) told) e

  pub memory_still : (l : Line) → opens l ≡ None → gives l (size * total told) ≡ None → memory_of card memory told ≡ memory_of card memory (l ∷ told)
  memory_still l o e =
      let rs : records (l ∷ told) ≡ records told = records_more l told ∙ ap₂ ◌++◌ (still l e) (ap (region_by (record_of (l ∷ told))) o) ∙ append-nil _ in
      let t : total (l ∷ told) ≡ total told = total_more l told ∙ ap (λ x. total told + takes x) o ∙ add-zero (total told) in
      is_with card memory told ∙ sym (is_with card memory (l ∷ told) ∙ ap₂ (memory_with card memory) rs t)

  -- one that opens: its records are empty, and stand there already
  opened : (l : Line) (o : Opening) (rs : List R.Record) → opens l ≡ Some o → top_of told o.whose ≡ None → ((i : ℕ) → record_of (l ∷ told) o.whose i ≡ record_of told o.whose i) → regions (record_of (l ∷ told)) told ≡ rs → size * total told + size * (o.top + 1) ≤ usable memory → memory_with card memory rs (total told) ≡ memory_of card memory (l ∷ told)
  opened l o rs e new same regions_are room =
      let more : region_by (record_of (l ∷ told)) (opens l) ≡ replicate (o.top + 1) Empty =
      ap (region_by (record_of (l ∷ told))) e ∙ all_empty (record_of (l ∷ told) o.whose) (o.top + 1) (λ i. same i ∙ w.vacant o.whose i new) in
      let t : total (l ∷ told) ≡ total told + (o.top + 1) = total_more l told ∙ ap (λ x. total told + takes x) e in
      sym
      (is_with card memory (l ∷ told) ∙ ap₂ (memory_with card memory) (records_more l told ∙ ap₂ ◌++◌ regions_are more) t
      ∙ unwritten card memory rs (total told) (o.top + 1) room)

  pub memory_unit : (settings : Settings) (limits : Limits) → top_of told (of_unit settings.number) ≡ None → size * total told + size * (settings.top + 1) ≤ usable memory → memory_of card memory told ≡ memory_of card memory (L-as-Unit settings limits ∷ told)
  unfolding opens gives record_of
  memory_unit settings limits new room =
      is_with card memory told
      ∙ opened (L-as-Unit settings limits) (record { whose = of_unit settings.number; top = settings.top }) (records told) refl new (λ i. refl) (still (L-as-Unit settings limits) refl) room

  pub memory_page : (u v top : ℕ) → (p : AtPath told u v) → top_of told (of_page u v) ≡ None → size * total told + size * (top + 1) ≤ usable memory → written card (memory_of card memory told) (size * start told (of_unit u) + size * v) (R-as-Page top (size * total told)) ≡ memory_of card memory (Page u v top ∷ told)
  unfolding opens gives record_of same
  memory_page u v top p new room =
      put_with card memory told (of_unit u) p.top v (R-as-Page top (size * total told)) p.declared p.within
      ∙ opened (Page u v top) (record { whose = of_page u v; top = top }) (set (records told) (start told (of_unit u) + v) (R-as-Page top (size * total told))) refl new (λ i. refl)
      (gifted told (Page u v top) (record { whose = of_unit u; at = v; gift = R-as-Page top (size * total told) }) refl w.once p.top p.declared p.within) room

-- before the first line
pub memory_none : (card : Card) (memory : List ℕ) → memory_of card memory [] ≡ cleared memory
unfolding memory_of records regions total cleared cat
memory_none card memory = ap (λ n. replicate n 0 ++ drop (usable memory) memory) (sub-zero (usable memory))
