-- Where the records of a unit or of a page stand, and what one more gift makes of them. Assumes nothing.
use Rattle.std.specs.Prelude.{None, Option, Some}
use mathlib.Core.Path.{◌≡◌, refl, sym, ap, ap₂, ◌∙◌}
use mathlib.Core.Bool.{Bool, true, false, ◌&&◌, false≢true}
use mathlib.Core.List.{List, [], ◌∷◌, ◌++◌}
use Prim.Native.Nat.{ℕ, ◌+◌, ◌<◌, ◌≤◌}
use native.Mathlib.Omega.{arith}
use lib.Dec.{eqb}
use lib.ListN.{length, get_or, set, length-append, get_or-append}
use lib.Seq.{set-append_left, get_or-append-add}
use borrow.Author.Tests.{eqb-true, eq-eqb}
use Rattle.lookup.specs.declared.Record as R
use Rattle.line.specs.declared.Line.{Line}
use Rattle.meaning.specs.Told.{Whose, of_unit, of_page, same, Opening, opens, either, top_by, top_of, takes, total, region_by, regions}
use Rattle.meaning.proofs.Tabulate.{some_inj, none_some, only_true, only_is, only_false, either_left, either_right, set_behind, tabulate_length, tabulate_at, tabulate_same, tabulate_put}

-- the same owner
pub same_self : (k : Whose) → same k k ≡ true
unfolding same
same_self (of_unit u) = eq-eqb u u refl
same_self (of_page u v) = rw (eq-eqb u u refl) (eq-eqb v v refl)

pub both_left : (a b : Bool) → (a && b) ≡ true → a ≡ true
both_left true b e = refl
both_left false b e = e

pub both_right : (a b : Bool) → (a && b) ≡ true → b ≡ true
both_right true b e = e
both_right false b e = absurd (false≢true e)

pub same_is : (k j : Whose) → same k j ≡ true → k ≡ j
unfolding same
same_is (of_unit a) (of_unit u) e = ap of_unit (eqb-true a u e)
same_is (of_unit a) (of_page u v) e = absurd (false≢true e)
same_is (of_page a b) (of_unit u) e = absurd (false≢true e)
same_is (of_page a b) (of_page u v) e = ap₂ of_page (eqb-true a u (both_left (eqb a u) (eqb b v) e)) (eqb-true b v (both_right (eqb a u) (eqb b v) e))

-- the first record of a unit or a page
abbrev pub first_of : Option ℕ → ℕ → ℕ → ℕ
first_of (Some top) here before = here
first_of None here before = before

unfoldable pub start : List Line → Whose → ℕ
start [] k = 0
start (l ∷ told) k = first_of (top_by (opens l) k) (total told) (start told k)

region_length : (f : Whose → ℕ → R.Record) (o : Option Opening) → length (region_by f o) ≡ takes o
region_length f None = refl
region_length f (Some o) = tabulate_length (f o.whose) (o.top + 1)

pub regions_length : (f : Whose → ℕ → R.Record) (told : List Line) → length (regions f told) ≡ total told
unfolding regions total
regions_length f [] = refl
regions_length f (l ∷ told) = length-append (regions f told) (region_by f (opens l)) ∙ ap₂ ◌+◌ (regions_length f told) (region_length f (opens l))

-- it lies inside
start_in : (x y : Option ℕ) (here before n m top : ℕ) → either x y ≡ Some top → ((t : ℕ) → x ≡ Some t → t < m) → here ≡ n → (y ≡ Some top → before + top < n) → first_of x here before + top < n + m
start_in (Some t) y here before n m top e inside h ih =
    let k : t ≡ top = some_inj e in
    omega (arith, inside t refl)
start_in None y here before n m top e inside h ih = omega (arith, ih e)

top_in : (o : Option Opening) (k : Whose) (t : ℕ) → top_by o k ≡ Some t → t < takes o
top_in None k t e = absurd (none_some e)
top_in (Some o) k t e = let h = only_is (same o.whose k) o.top t e in omega arith

pub start_lt : (told : List Line) (k : Whose) (top : ℕ) → top_of told k ≡ Some top → start told k + top < total told
unfolding start total top_of
start_lt [] k top e = absurd (none_some e)
start_lt (l ∷ told) k top e =
    start_in (top_by (opens l) k) (top_of told k) (total told) (start told k) (total told) (takes (opens l)) top e (top_in (opens l) k) refl (start_lt told k top)

-- the records of a unit or a page are the function's
region_at : (f : Whose → ℕ → R.Record) (o : Option Opening) (k : Whose) (t i : ℕ) (d : R.Record) → top_by o k ≡ Some t → i ≤ t → get_or (region_by f o) i d ≡ f k i
region_at f None k t i d e h = absurd (none_some e)
region_at f (Some o) k t i d e h =
    let w = same_is o.whose k (only_true (same o.whose k) o.top t e) in
    let s = only_is (same o.whose k) o.top t e in
    tabulate_at (f o.whose) (o.top + 1) i d (omega arith) ∙ ap (λ j. f j i) w

at_in : (f : Whose → ℕ → R.Record) (rs more : List R.Record) (x y : Option ℕ) (before top i : ℕ) (k : Whose) (d : R.Record) → either x y ≡ Some top → i ≤ top → ((t : ℕ) → x ≡ Some t → i ≤ t → get_or more i d ≡ f k i) → (y ≡ Some top → (before + i < length rs) × (get_or rs (before + i) d ≡ f k i)) → get_or (rs ++ more) (first_of x (length rs) before + i) d ≡ f k i
at_in f rs more (Some t) y before top i k d e h here ih =
    let s : t ≡ top = some_inj e in
    get_or-append-add rs more i d ∙ here t refl (omega arith)
at_in f rs more None y before top i k d e h here ih = get_or-append rs more d (before + i) (ih e).0 ∙ (ih e).1

pub regions_at : (f : Whose → ℕ → R.Record) (told : List Line) (k : Whose) (top i : ℕ) (d : R.Record) → top_of told k ≡ Some top → i ≤ top → get_or (regions f told) (start told k + i) d ≡ f k i
unfolding regions start top_of
regions_at f [] k top i d e h = absurd (none_some e)
regions_at f (l ∷ told) k top i d e h =
    let n = regions_length f told in
    ap (λ m. get_or (regions f told ++ region_by f (opens l)) (first_of (top_by (opens l) k) m (start told k) + i) d) (sym n)
    ∙ at_in f (regions f told) (region_by f (opens l)) (top_by (opens l) k) (top_of told k) (start told k) top i k d e h
    (λ t x g. region_at f (opens l) k t i d x g)
    (λ y. let s = start_lt told k top y in (omega arith, regions_at f told k top i d y h))

-- D. one more gift
-- no unit and no page is opened twice
abbrev pub Once : List Line → Type 0
Once [] = Unit {0}
Once (l ∷ told) = ((k : Whose) (t : ℕ) → top_by (opens l) k ≡ Some t → top_of told k ≡ None) × Once told

module _ (f g : Whose → ℕ → R.Record) (k : Whose) (i : ℕ) (r : R.Record) (other : (j : Whose) (n : ℕ) → (same j k && eqb n i) ≡ false → g j n ≡ f j n) (here : g k i ≡ r) where
  -- where it is not opened, nothing changes
  region_kept : (o : Option Opening) → top_by o k ≡ None → region_by g o ≡ region_by f o
  region_kept None e = refl
  region_kept (Some o) e =
      let s = only_false (same o.whose k) o.top e in
      tabulate_same (g o.whose) (f o.whose) (o.top + 1) (λ n h. other o.whose n (rw s))

  regions_kept : (told : List Line) → top_of told k ≡ None → regions g told ≡ regions f told
  unfolding regions top_of
  regions_kept [] e = refl
  regions_kept (l ∷ told) e =
      ap₂ ◌++◌ (regions_kept told (either_right (top_by (opens l) k) (top_of told k) e))
      (region_kept (opens l) (either_left (top_by (opens l) k) (top_of told k) e))

  -- where it is opened, its record changes
  region_put : (o : Option Opening) (t : ℕ) → top_by o k ≡ Some t → i ≤ t → region_by g o ≡ set (region_by f o) i r
  region_put None t e h = absurd (none_some e)
  region_put (Some o) t e h =
      let s = only_true (same o.whose k) o.top t e in
      let w = same_is o.whose k s in
      let n = only_is (same o.whose k) o.top t e in
      tabulate_put (f o.whose) (g o.whose) (o.top + 1) i r (λ m z. other o.whose m (rw s z)) (ap (λ j. g j i) w ∙ here) (omega arith)

  put_in : (rs rs' more more' : List R.Record) (x y : Option ℕ) (before top : ℕ) → either x y ≡ Some top → i ≤ top → ((t : ℕ) → x ≡ Some t → i ≤ t → (rs' ≡ rs) × (more' ≡ set more i r)) → (x ≡ None → more' ≡ more) → (y ≡ Some top → (before + i < length rs) × (rs' ≡ set rs (before + i) r)) → rs' ++ more' ≡ set (rs ++ more) (first_of x (length rs) before + i) r
  put_in rs rs' more more' (Some t) y before top e h now kept ih =
      let s : t ≡ top = some_inj e in
      let n = now t refl (omega arith) in
      ap₂ ◌++◌ n.0 n.1 ∙ sym (set_behind rs more i r)
  put_in rs rs' more more' None y before top e h now kept ih = ap₂ ◌++◌ (ih e).1 (kept refl) ∙ sym (set-append_left rs more (before + i) r (ih e).0)

  pub regions_put : (told : List Line) → Once told → (top : ℕ) → top_of told k ≡ Some top → i ≤ top → regions g told ≡ set (regions f told) (start told k + i) r
  unfolding regions start top_of
  regions_put [] once top e h = absurd (none_some e)
  regions_put (l ∷ told) once top e h =
      let n = regions_length f told in
      put_in (regions f told) (regions g told) (region_by f (opens l)) (region_by g (opens l)) (top_by (opens l) k) (top_of told k) (start told k) top e h
      (λ t x z. (regions_kept told (once.0 k t x), region_put (opens l) t x z)) (region_kept (opens l))
      (λ y. let s = start_lt told k top y in (omega arith, regions_put told once.1 top y h))
      ∙ ap (λ m. set (regions f told ++ region_by f (opens l)) (first_of (top_by (opens l) k) m (start told k) + i) r) n
