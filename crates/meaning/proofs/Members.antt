-- What the lines so far say, as facts about the lines among them: what is opened, given, heard, and the bus. Assumes nothing.
use Rattle.std.specs.Prelude.{None, Some, Option}
use mathlib.Core.Path.{◌≡◌, refl, sym, ap, ap₂, subst, ◌∙◌}
use mathlib.Core.Bool.{Bool, true, false, ◌&&◌, ◌||◌, false≢true}
use mathlib.Core.List.Memᴰ
use mathlib.Core.List.{List, [], ◌∷◌, Memᴰ as In}
use mathlib.Core.Logic.{◌⊎◌, inl, inr, ⊎_elim}
use Prim.Native.Nat.{ℕ, ◌*◌, ◌<◌}
use native.Mathlib.Omega.{arith}
use lib.Dec.{eqb}
use borrow.Author.Tests.{eqb-true, eq-eqb}
use Rattle.card.specs.declared.Card.{Card}
use Rattle.lookup.specs.Record.{size}
use Rattle.lookup.specs.declared.Record as R
use Rattle.lookup.specs.declared.Record.TheVariants.{Empty}
use Rattle.shelf.specs.Shelf.{Shelf}
use Rattle.shelf.specs.Shelves.{declared, find_in}
use Rattle.line.specs.declared.Line.{Line}
use Rattle.line.specs.declared.Line.TheVariants.{Bus, Unit as L-as-Unit, Vp, Drop, Page, Vc, Mc}
use Rattle.meaning.specs.Told.{Whose, of_unit, same, opens, Giving, gives, only, either, else, top_by, top_of, total, given_by, record_of, hears_by, hears_in, declare, join_at, shelf_by, shelf_of}
use Rattle.meaning.specs.Lines.{is_first, judge, Good}
use Rattle.meaning.proofs.Tabulate.{some_inj, none_some, only_true, only_is}
use Rattle.meaning.proofs.Regions.{both_left, both_right, Once}
use Rattle.meaning.proofs.Fits.{begun, fine_bus, fine_unit}

-- A. a top is that of a line which opens, and of no other
either_is : {A : Type 0} (x y : Option A) (a : A) → either x y ≡ Some a → (x ≡ Some a) ⊎ (y ≡ Some a)
either_is (Some b) y a e = inl e
either_is None y a e = inr e

pub top_in : (told : List Line) (k : Whose) (t : ℕ) → top_of told k ≡ Some t → (l : Line) × In l told × (top_by (opens l) k ≡ Some t)
unfolding top_of
top_in [] k t e = absurd (none_some e)
top_in (l ∷ told) k t e =
    ⊎_elim (λ h. (l, In.head refl, h)) (λ h. let m = top_in told k t h in (m.0, In.tail m.1, m.2))
    (either_is (top_by (opens l) k) (top_of told k) t e)

either_first : {A : Type 0} (x y : Option A) (a : A) → x ≡ Some a → either x y ≡ Some a
either_first x y a e = ap (λ z. either z y) e

either_second : {A : Type 0} (x y : Option A) (a : A) → ((b : A) → x ≡ Some b → ⊥) → y ≡ Some a → either x y ≡ Some a
either_second (Some b) y a h e = absurd (h b refl)
either_second None y a h e = e

pub in_top : (told : List Line) → Once told → (l : Line) → In l told → (k : Whose) (t : ℕ) → top_by (opens l) k ≡ Some t → top_of told k ≡ Some t
unfolding top_of
in_top [] once l m k t e = absurd (Memᴰ.not-nil m)
in_top (x ∷ told) once l m k t e =
    ⊎_elim (λ h. either_first (top_by (opens x) k) (top_of told k) t (ap (λ y. top_by (opens y) k) (sym h) ∙ e))
    (λ n.
    let i = in_top told once.1 l n k t e in
    either_second (top_by (opens x) k) (top_of told k) t (λ b f. none_some (sym (once.0 k b f) ∙ i)) i)
    (Memᴰ.cases_cons m)

-- B. a record that is not empty was given by a line
abbrev pub GivenIn : List Line → Whose → ℕ → Type 0
GivenIn told k i = (l : Line) × In l told × ((place : ℕ) × (given_by (gives l place) k i ≡ None → ⊥))

pub given_in : (told : List Line) (k : Whose) (i : ℕ) → (record_of told k i ≡ Empty → ⊥) → GivenIn told k i
unfolding record_of
given_in [] k i h = absurd (h refl)
given_in (l ∷ told) k i h = go (given_in told k i) (given_by (gives l (size * total told)) k i) refl
  where
    go : ((record_of told k i ≡ Empty → ⊥) → GivenIn told k i) → (o : Option R.Record) → given_by (gives l (size * total told)) k i ≡ o → GivenIn (l ∷ told) k i
    go before None e = let m = before (λ z. h (ap (λ o. else o (record_of told k i)) e ∙ z)) in (m.0, In.tail m.1, m.2)
    go before (Some r) e = (l, In.head refl, (size * total told, λ z. none_some (sym z ∙ e)))

-- what a line gives is not an empty record
gift_full : (l : Line) (place : ℕ) (g : Giving) → gives l place ≡ Some g → g.gift ≡ Empty → ⊥
unfolding gives
gift_full (Bus bus) place g e z = none_some e
gift_full (L-as-Unit settings limits) place g e z = none_some e
gift_full (Vp u v target class outvpi) place g e z = let y = some_inj e in let x : ◌≡◌ {A = ℕ} 0 1 = cc in omega arith
gift_full (Drop u v) place g e z = let y = some_inj e in let x : ◌≡◌ {A = ℕ} 0 1 = cc in omega arith
gift_full (Page u v top) place g e z = let y = some_inj e in let x : ◌≡◌ {A = ℕ} 0 1 = cc in omega arith
gift_full (Vc u v w target class outvpi outvci) place g e z = let y = some_inj e in let x : ◌≡◌ {A = ℕ} 0 1 = cc in omega arith
gift_full (Mc u session) place g e z = none_some e

given_full : (l : Line) (place : ℕ) (k : Whose) (i : ℕ) (r : R.Record) → given_by (gives l place) k i ≡ Some r → r ≡ Empty → ⊥
given_full l place k i r e z = go (gives l place) refl e
  where
    go : (o : Option Giving) → gives l place ≡ o → given_by o k i ≡ Some r → ⊥
    go None f h = none_some h
    go (Some g) f h = gift_full l place g f (only_is (same k g.whose && eqb i g.at) g.gift r h ∙ z)

pub in_given : (told : List Line) (l : Line) → In l told → (k : Whose) (i : ℕ) → ((place : ℕ) → given_by (gives l place) k i ≡ None → ⊥) → record_of told k i ≡ Empty → ⊥
unfolding record_of
in_given [] l m k i h e = Memᴰ.not-nil m
in_given (x ∷ told) l m k i h e = go (λ n. in_given told l n k i h) (given_by (gives x (size * total told)) k i) refl
  where
    go : (In l told → record_of told k i ≡ Empty → ⊥) → (o : Option R.Record) → given_by (gives x (size * total told)) k i ≡ o → ⊥
    go before (Some r) f = given_full x (size * total told) k i r f (ap (λ o. else o (record_of told k i)) (sym f) ∙ e)
    go before None f =
        ⊎_elim (λ n. h (size * total told) (ap (λ y. given_by (gives y (size * total told)) k i) n ∙ f))
        (λ n. before n (ap (λ o. else o (record_of told k i)) (sym f) ∙ e)) (Memᴰ.cases_cons m)

-- C. a session is heard by its `mc` line
or_is : (a b : Bool) → (a || b) ≡ true → (a ≡ true) ⊎ (b ≡ true)
or_is true b e = inl refl
or_is false b e = inr e

or_second : (a b : Bool) → b ≡ true → (a || b) ≡ true
or_second true b e = refl
or_second false b e = e

heard_by_lem : (l : Line) (u s : ℕ) → hears_by l u s ≡ true → Mc u s ≡ l
unfolding hears_by
heard_by_lem (Bus bus) u s e = absurd (false≢true e)
heard_by_lem (L-as-Unit settings limits) u s e = absurd (false≢true e)
heard_by_lem (Vp a v target class outvpi) u s e = absurd (false≢true e)
heard_by_lem (Drop a v) u s e = absurd (false≢true e)
heard_by_lem (Page a v top) u s e = absurd (false≢true e)
heard_by_lem (Vc a v w target class outvpi outvci) u s e = absurd (false≢true e)
heard_by_lem (Mc a session) u s e = sym (ap₂ Mc (eqb-true a u (both_left (eqb a u) (eqb session s) e)) (eqb-true session s (both_right (eqb a u) (eqb session s) e)))

hears_self : (u s : ℕ) → hears_by (Mc u s) u s ≡ true
unfolding hears_by
hears_self u s = rw (eq-eqb u u refl) (eq-eqb s s refl)

pub heard_in : (told : List Line) (u s : ℕ) → hears_in told u s ≡ true → In (Mc u s) told
unfolding hears_in
heard_in [] u s e = absurd (false≢true e)
heard_in (l ∷ told) u s e = ⊎_elim (λ h. In.head (heard_by_lem l u s h)) (λ h. In.tail (heard_in told u s h)) (or_is (hears_by l u s) (hears_in told u s) e)

pub in_heard : (told : List Line) (u s : ℕ) → In (Mc u s) told → hears_in told u s ≡ true
unfolding hears_in
in_heard [] u s m = absurd (Memᴰ.not-nil m)
in_heard (l ∷ told) u s m =
    ⊎_elim (λ h. ap (λ x. x || hears_in told u s) (ap (λ y. hears_by y u s) (sym h) ∙ hears_self u s))
    (λ n. or_second (hears_by l u s) (hears_in told u s) (in_heard told u s n)) (Memᴰ.cases_cons m)

-- D. the bus is that of the `bus` line, and every declared unit is below its number
joined_bus : (shelf : Shelf) (f : Option ℕ) (session : ℕ) → (join_at shelf f session).bus ≡ shelf.bus
unfolding join_at
joined_bus shelf (Some i) session = refl
joined_bus shelf None session = refl

pub first_is : (told : List Line) → is_first told ≡ true → told ≡ []
first_is [] e = refl
first_is (l ∷ told) e = absurd (false≢true e)

pub bus_in : (card : Card) (room : ℕ) (told : List Line) → Good card room told → is_first told ≡ false → In (Bus (shelf_of told).bus) told
unfolding judge shelf_of shelf_by declare
bus_in card room [] g f = absurd (false≢true (sym f))
bus_in card room (Bus bus ∷ told) g f = In.head refl
bus_in card room (L-as-Unit settings limits ∷ told) g f = In.tail (bus_in card room told g.1 (begun told _ g.0).0)
bus_in card room (Vp u v target class outvpi ∷ told) g f = In.tail (bus_in card room told g.1 (begun told _ g.0).0)
bus_in card room (Drop u v ∷ told) g f = In.tail (bus_in card room told g.1 (begun told _ g.0).0)
bus_in card room (Page u v top ∷ told) g f = In.tail (bus_in card room told g.1 (begun told _ g.0).0)
bus_in card room (Vc u v w target class outvpi outvci ∷ told) g f = In.tail (bus_in card room told g.1 (begun told _ g.0).0)
bus_in card room (Mc u session ∷ told) g f =
    Memᴰ.cast (ap Bus (joined_bus (shelf_of told) (find_in (declared (shelf_of told)) u) session)) (In.tail (bus_in card room told g.1 (begun told _ g.0).0))

other_line : (n : ℕ) (l : Line) (told : List Line) → (Bus n ≡ l → ⊥) → In (Bus n) (l ∷ told) → In (Bus n) told
other_line n l told h m = ⊎_elim (λ e. absurd (h e)) (λ i. i) (Memᴰ.cases_cons m)

bus_is : {n m : ℕ} → Bus n ≡ Bus m → n ≡ m
bus_is e = cc

pub in_bus : (card : Card) (room : ℕ) (told : List Line) → Good card room told → (n : ℕ) → In (Bus n) told → (shelf_of told).bus ≡ n
unfolding shelf_of shelf_by declare
in_bus card room [] g n m = absurd (Memᴰ.not-nil m)
in_bus card room (Bus bus ∷ told) g n m =
    ⊎_elim (λ e. sym (bus_is e)) (λ i. absurd (Memᴰ.not-nil (subst (In (Bus n)) (first_is told (fine_bus card room told bus g.0).0) i)))
    (Memᴰ.cases_cons m)
in_bus card room (L-as-Unit settings limits ∷ told) g n m =
    in_bus card room told g.1 n (other_line n (L-as-Unit settings limits) told (λ e. let z : ◌≡◌ {A = ℕ} 0 1 = cc in omega arith) m)
in_bus card room (Vp u v target class outvpi ∷ told) g n m =
    in_bus card room told g.1 n (other_line n (Vp u v target class outvpi) told (λ e. let z : ◌≡◌ {A = ℕ} 0 1 = cc in omega arith) m)
in_bus card room (Drop u v ∷ told) g n m =
    in_bus card room told g.1 n (other_line n (Drop u v) told (λ e. let z : ◌≡◌ {A = ℕ} 0 1 = cc in omega arith) m)
in_bus card room (Page u v top ∷ told) g n m =
    in_bus card room told g.1 n (other_line n (Page u v top) told (λ e. let z : ◌≡◌ {A = ℕ} 0 1 = cc in omega arith) m)
in_bus card room (Vc u v w target class outvpi outvci ∷ told) g n m =
    in_bus card room told g.1 n (other_line n (Vc u v w target class outvpi outvci) told (λ e. let z : ◌≡◌ {A = ℕ} 0 1 = cc in omega arith) m)
in_bus card room (Mc u session ∷ told) g n m =
    joined_bus (shelf_of told) (find_in (declared (shelf_of told)) u) session
    ∙ in_bus card room told g.1 n (other_line n (Mc u session) told (λ e. let z : ◌≡◌ {A = ℕ} 0 1 = cc in omega arith) m)

pub below_bus : (card : Card) (room : ℕ) (told : List Line) → Good card room told → (u t : ℕ) → top_of told (of_unit u) ≡ Some t → u < (shelf_of told).bus
unfolding top_of opens same shelf_of shelf_by declare
below_bus card room [] g u t e = absurd (none_some e)
below_bus card room (Bus bus ∷ told) g u t e = absurd (none_some (ap (λ x. top_of x (of_unit u)) (sym (first_is told (fine_bus card room told bus g.0).0)) ∙ e))
below_bus card room (L-as-Unit settings limits ∷ told) g u t e =
    ⊎_elim
    (λ h.
    let n = eqb-true settings.number u (only_true (eqb settings.number u) settings.top t h) in
    let b = (fine_unit card room told settings limits g.0).below in
    omega arith)
    (below_bus card room told g.1 u t) (either_is (only (eqb settings.number u) settings.top) (top_of told (of_unit u)) t e)
below_bus card room (Vp a v target class outvpi ∷ told) g u t e = below_bus card room told g.1 u t e
below_bus card room (Drop a v ∷ told) g u t e = below_bus card room told g.1 u t e
below_bus card room (Page a v top ∷ told) g u t e = below_bus card room told g.1 u t e
below_bus card room (Vc a v w target class outvpi outvci ∷ told) g u t e = below_bus card room told g.1 u t e
below_bus card room (Mc a session ∷ told) g u t e =
    let b = below_bus card room told g.1 u t e in
    let j = joined_bus (shelf_of told) (find_in (declared (shelf_of told)) a) session in
    omega arith
