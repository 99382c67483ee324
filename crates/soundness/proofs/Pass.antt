-- The one pass over the declared units, that notes each in its number's place, and what is there in the end. Assumes nothing.
use Rattle.std.proofs.Common.{◌≡◌, ℕ, zero, suc, ◌+◌, ◌*◌, ◌<◌, ◌≤◌, Bool, true, false, cond, not, ◌&&◌, ◌||◌, eqb, leb, ◌⊎◌, ◌↔◌, List, [], ◌∷◌, length, get_or, drop, set, replicate, sym, refl, ap, ◌∙◌, ⊎_elim, add-zero, zero-add, add-one, arith, length-set, drop_of_length-le, drop-cons, get_or-set_other, get_or-set_same, eq-eqb, ne_eqb, eqb-true, le-leb}
use mathlib.Core.Bool.{false≢true}
use borrow.Author.Tests.{eqb-false}
use Rattle.outlet.proofs.Truth.{and_iff, or_iff, eq_iff, le_iff}
use Rattle.shelf.specs.Shelves.{blank, waiting, number_of, numbers}
use Rattle.shelf.specs.declared.Unit as U
use Rattle.soundness.specs.State.{among, none_repeated, roomy}
use Rattle.soundness.specs.Numbered.{note, marks, noted, how_many}

-- what a note says of a unit
abbrev pub priority_of : U.Unit → ℕ
priority_of u = u.settings.priority

abbrev pub cells_of : U.Unit → ℕ
cells_of u = waiting u

-- each unit's number has a place
pub Placed : List U.Unit → Type 0
Placed [] = Unit {0}
Placed (u ∷ us) = (number_of u < 32) × Placed us

pub all_placed : (us : List U.Unit) → ((i : ℕ) → i < length us → number_of (get_or us i blank) < 32) → Placed us
unfolding Placed
all_placed [] g = tt
all_placed (u ∷ us) g = (g 0 (omega arith), all_placed us (λ i l. g (suc i) (omega arith)))

noted_length : (granted i : ℕ) (us : List U.Unit) → length (noted granted i us) ≡ 32
unfolding noted
noted_length granted i [] = refl
noted_length granted i (u ∷ us) = length-set (noted granted (suc i) us) (number_of u) (note granted i u) ∙ noted_length granted (suc i) us

-- at first there is no note at all
none_at : (k n : ℕ) → ◌≡◌ {A = ℕ} (get_or (replicate k 0) n 0) 0
none_at zero n = refl
none_at (suc k) zero = refl
none_at (suc k) (suc n) = none_at k n

pub none_set : (k n : ℕ) → ◌≡◌ {A = List ℕ} (set (replicate k 0) n 0) (replicate k 0)
none_set zero n = refl
none_set (suc k) zero = refl
none_set (suc k) (suc n) = ap (λ l. 0 ∷ l) (none_set k n)

-- one number more has one
set_marks : (xs : List ℕ) (n p k : ℕ) → n < length xs → 128 ≤ p → (b : Bool) → eqb n k ≡ b → marks (set xs n p) k ≡ (b || marks xs k)
set_marks xs n p k h l true e = ap (λ m. marks (set xs n p) m) (sym (eqb-true n k e)) ∙ ap (leb 128) (get_or-set_same xs n p 0 h) ∙ le-leb 128 p l
set_marks xs n p k h l false e = ap (leb 128) (get_or-set_other xs n k p 0 (λ x. eqb-false n k e (sym x)))

inside : (granted i : ℕ) (us : List U.Unit) (n : ℕ) → n < 32 → n < length (noted granted i us)
inside granted i us n h = let l = noted_length granted i us in omega arith

pub marks_noted : (granted i : ℕ) (us : List U.Unit) (k : ℕ) → Placed us → marks (noted granted i us) k ≡ among (numbers us) k
unfolding among Placed noted
marks_noted granted i [] k b = ap (leb 128) (none_at 32 k)
marks_noted granted i (u ∷ us) k b =
    set_marks (noted granted (suc i) us) (number_of u) (note granted i u) k (inside granted (suc i) us (number_of u) b.0) (omega arith) (eqb (number_of u) k) refl
    ∙ ap (λ x. eqb (number_of u) k || x) (marks_noted granted (suc i) us k b.1)

-- a note more, unless one stood there: so there are as many as units exactly where no number is repeated
set_many : (xs : List ℕ) (n p : ℕ) → n < length xs → 128 ≤ p → (t : Bool) → marks xs n ≡ t → how_many (set xs n p) ≡ how_many xs + cond t 0 1
unfolding how_many
set_many [] n p h l t e = absurd (omega arith)
set_many (x ∷ xs) zero p h l true e = rw (le-leb 128 p l, e) (omega arith)
set_many (x ∷ xs) zero p h l false e = rw (le-leb 128 p l, e) (omega arith)
set_many (x ∷ xs) (suc n) p h l t e = let m = set_many xs n p (omega arith) l t e in omega arith

pub many_next : (xs : List ℕ) (i : ℕ) → i < length xs → how_many (drop i xs) ≡ cond (leb 128 (get_or xs i 0)) 1 0 + how_many (drop (i + 1) xs)
unfolding how_many
many_next xs i h = rw (add-one, drop-cons xs i 0)

pub many_end : (xs : List ℕ) (i : ℕ) → length xs ≤ i → ◌≡◌ {A = ℕ} (how_many (drop i xs)) 0
unfolding how_many
many_end xs i h = rw (drop_of_length-le xs h)

Many : ℕ → ℕ → Bool → Type 0
Many n most t = (n ≤ most) × (t ≡ true → n ≡ most) × (t ≡ false → n < most)

many_noted : (granted i : ℕ) (us : List U.Unit) → Placed us → Many (how_many (noted granted i us)) (length us) (none_repeated (numbers us))
unfolding Placed noted none_repeated how_many Many
many_noted granted i [] b = (omega arith, (λ t. refl), λ f. absurd (false≢true (sym f)))
many_noted granted i (u ∷ us) b = pick (among (numbers us) (number_of u)) (marks_noted granted (suc i) us (number_of u) b.1) (many_noted granted (suc i) us b.1)
  where
    pick : (t : Bool) → marks (noted granted (suc i) us) (number_of u) ≡ t → Many (how_many (noted granted (suc i) us)) (length us) (none_repeated (numbers us)) →
        Many (how_many (set (noted granted (suc i) us) (number_of u) (note granted i u))) (suc (length us)) (not t && none_repeated (numbers us))
    pick true e r =
        let n = set_many (noted granted (suc i) us) (number_of u) (note granted i u) (inside granted (suc i) us (number_of u) b.0) (omega arith) true e in
        let q = r.0 in
        (omega arith, (λ t. absurd (false≢true t)), λ f. omega arith)
    pick false e r =
        let n = set_many (noted granted (suc i) us) (number_of u) (note granted i u) (inside granted (suc i) us (number_of u) b.0) (omega arith) false e in
        let q = r.0 in
        (omega arith, (λ t. let w = r.1 t in omega arith), λ f. let w = r.2 f in omega arith)

pub counted : (granted : ℕ) (us : List U.Unit) → Placed us → eqb (how_many (noted granted 0 us)) (length us) ≡ none_repeated (numbers us)
unfolding Many
counted granted us b = pick (none_repeated (numbers us)) refl
  where
    pick : (t : Bool) → none_repeated (numbers us) ≡ t → eqb (how_many (noted granted 0 us)) (length us) ≡ none_repeated (numbers us)
    pick true e = eq-eqb (how_many (noted granted 0 us)) (length us) ((many_noted granted 0 us b).1 e) ∙ sym e
    pick false e = let q = (many_noted granted 0 us b).2 e in ne_eqb (how_many (noted granted 0 us)) (length us) (λ z. omega arith) ∙ sym e

-- what stands in the place of a number: nothing where none is declared, else what is noted of its unit
neither : (a b : Bool) → (a || b) ≡ false → (a ≡ false) × (b ≡ false)
neither true b e = absurd (false≢true (sym e))
neither false b e = (refl, e)

not_both : (a b : Bool) → (not a && b) ≡ true → (a ≡ false) × (b ≡ true)
not_both true b e = absurd (false≢true e)
not_both false b e = (refl, e)

pub noted_none : (granted i : ℕ) (us : List U.Unit) (n : ℕ) → among (numbers us) n ≡ false → get_or (noted granted i us) n 0 ≡ 0
unfolding among noted
noted_none granted i [] n e = none_at 32 n
noted_none granted i (u ∷ us) n e =
    let w = neither (eqb (number_of u) n) (among (numbers us) n) e in
    get_or-set_other (noted granted (suc i) us) (number_of u) n (note granted i u) 0 (λ x. eqb-false (number_of u) n w.0 (sym x)) ∙ noted_none granted (suc i) us n w.1

apart : (us : List U.Unit) (n : ℕ) → among (numbers us) n ≡ false → (j : ℕ) → j < length us → number_of (get_or us j blank) ≡ n → ⊥
unfolding among
apart [] n e j h x = omega arith
apart (u ∷ us) n e zero h x = eqb-false (number_of u) n (neither (eqb (number_of u) n) (among (numbers us) n) e).0 x
apart (u ∷ us) n e (suc j) h x = apart us n (neither (eqb (number_of u) n) (among (numbers us) n) e).1 j (omega arith) x

noted_here : (granted i : ℕ) (us : List U.Unit) (j : ℕ) → Placed us → none_repeated (numbers us) ≡ true → j < length us →
    get_or (noted granted i us) (number_of (get_or us j blank)) 0 ≡ note granted (i + j) (get_or us j blank)
unfolding none_repeated Placed noted
noted_here granted i [] j b t h = absurd (omega arith)
noted_here granted i (u ∷ us) zero b t h =
    get_or-set_same (noted granted (suc i) us) (number_of u) (note granted i u) 0 (inside granted (suc i) us (number_of u) b.0) ∙ ap (λ k. note granted k u) (sym (add-zero i))
noted_here granted i (u ∷ us) (suc j) b t h =
    let w = not_both (among (numbers us) (number_of u)) (none_repeated (numbers us)) t in
    let e : suc i + j ≡ i + suc j = omega arith in
    get_or-set_other (noted granted (suc i) us) (number_of u) (number_of (get_or us j blank)) (note granted i u) 0 (λ x. apart us (number_of u) w.0 j (omega arith) x)
    ∙ noted_here granted (suc i) us j b.1 w.1 (omega arith)
    ∙ ap (λ k. note granted k (get_or us j blank)) e

pub noted_at : (granted : ℕ) (us : List U.Unit) (i : ℕ) → Placed us → none_repeated (numbers us) ≡ true → i < length us →
    get_or (noted granted 0 us) (number_of (get_or us i blank)) 0 ≡ note granted i (get_or us i blank)
noted_at granted us i b t h = noted_here granted 0 us i b t h ∙ ap (λ k. note granted k (get_or us i blank)) (zero-add i)

pub roomy_iff : (bus count store rows : ℕ) → (roomy bus count store rows ≡ true) ↔ (((((bus ≡ 16) ⊎ (bus ≡ 32)) × (count ≤ 32)) × (8192 * count ≤ store)) × (count ≤ rows))
unfolding roomy
roomy_iff bus count store rows =
    and_iff (and_iff (and_iff (or_iff (eq_iff bus 16) (eq_iff bus 32)) (le_iff count 32)) (le_iff (8192 * count) store)) (le_iff count rows)

pub bus_most : (bus count store rows : ℕ) → roomy bus count store rows ≡ true → bus ≤ 32
bus_most bus count store rows t = ⊎_elim (λ e. omega arith) (λ e. omega arith) ((roomy_iff bus count store rows).0 t).0.0.0
