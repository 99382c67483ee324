-- The tests of the units by number are the document's of each unit and of the arbiter. Assumes nothing.
use Rattle.std.proofs.Common.{◌≡◌, ℕ, zero, suc, ◌+◌, ◌*◌, ◌/◌, ◌%◌, ◌<◌, ◌≤◌, Bool, true, false, cond, ◌&&◌, ◌||◌, eqb, leb, ◌⊎◌, ◌↔◌, List, [], ◌∷◌, length, get_or, drop, sym, refl, ap, ◌∙◌, subst, inl, inr, ⊎_elim, zero-add, add-one, arith, drop_of_length-le, drop-cons, ne_eqb, le-leb, None, Option, Some}
use mathlib.Core.Bool.{and-false, and_assoc, and-true, or-false, false≢true}
use mathlib.Core.Logic.Iff
use lib.ListN.{get_or-eq_default}
use borrow.Author.Tests.{lt-leb}
use Rattle.outlet.proofs.Truth.{same, and_iff, or_iff, eq_iff, le_iff}
use Rattle.arbiter.specs.Arbitration.{nobody, besides}
use Rattle.shelf.specs.Shelves.{blank, number_of, numbers, find_in}
use Rattle.shelf.specs.declared.Unit as U
use Rattle.shelf.proofs.Finding.{find_at, find_nothing}
use Rattle.soundness.specs.State.{every, among, none_repeated, ask_held, grant_has_cell, request_has_cell, nobody_or, lasts_known, asks_known, arbiter_known, DeclaredIn}
use Rattle.soundness.specs.Numbered.{standing, stands, note_of, place_in, marks, ask_in, asks_held, celled, grant_in, arbiter_held, noted, how_many}
use Rattle.soundness.proofs.Facts.{imp_iff, every_iff, among_iff, quiet_iff}
use Rattle.soundness.proofs.Pass.{priority_of, cells_of, Placed, noted_none, noted_at, counted, marks_noted}

-- the code's tests, of 32 numbers
pub nobody_in : (held : List ℕ) (number : ℕ) → number < 32 → marks held number ≡ nobody_or (marks held) number
nobody_in held number h = rw (ne_eqb number nobody (λ e. omega arith))

pub nobody_out : (held : List ℕ) (number : ℕ) → length held ≡ 32 → 32 ≤ number → eqb number nobody ≡ nobody_or (marks held) number
nobody_out held number l h = rw (get_or-eq_default held 0 {n = number} (omega arith)) (sym (or-false (eqb number nobody)))

module _ (cells : ℕ → ℕ) (held : List ℕ) (granted : ℕ) where
  pub grant_in_lem : granted < 32 → celled cells held granted ≡ grant_in cells held granted
  grant_in_lem h = rw (ne_eqb granted nobody (λ e. omega arith))

  pub grant_out : length held ≡ 32 → 32 ≤ granted → eqb granted nobody ≡ grant_in cells held granted
  grant_out l h = rw (get_or-eq_default held 0 {n = granted} (omega arith)) (sym (or-false (eqb granted nobody)))

module _ (held asks : List ℕ) (i : ℕ) (good : Bool) where
  pub held_next : i < length asks → (good && asks_held held i (drop i asks)) ≡ ((good && ask_in (get_or asks i 0) (get_or held i 0)) && asks_held held (i + 1) (drop (i + 1) asks))
  unfolding asks_held
  held_next h = rw (add-one, drop-cons asks i 0 h) (sym (and_assoc good (ask_in (get_or asks i 0) (get_or held i 0)) (asks_held held (suc i) (drop (suc i) asks))))

  pub held_last : length asks ≤ i → (good && asks_held held i (drop i asks)) ≡ good
  unfolding asks_held
  held_last h = rw (drop_of_length-le asks {i = i} h) (and-true good)

-- every request is held exactly when each is
held_iff : (held : List ℕ) (n : ℕ) (asks : List ℕ) → (asks_held held n asks ≡ true) ↔ ((k : ℕ) → ask_in (get_or asks k 0) (get_or held (n + k) 0) ≡ true)
unfolding asks_held
held_iff held n [] = (λ t k. refl, λ g. refl)
held_iff held n (a ∷ asks) =
    let b = and_iff (Iff.rfl {A = ask_in a (get_or held n 0) ≡ true}) (held_iff held (suc n) asks) in
    let there : (k : ℕ) → suc n + k ≡ n + suc k = λ k. omega arith in
    let none : n + 0 ≡ n = omega arith in (
      λ t k. elim k as (λ x. ask_in (get_or (a ∷ asks) x 0) (get_or held (n + x) 0) ≡ true) [
        | zero ↦ subst (λ j. ask_in a (get_or held j 0) ≡ true) (sym none) (b.0 t).0
        | suc m ↦ subst (λ j. ask_in (get_or asks m 0) (get_or held j 0) ≡ true) (there m) ((b.0 t).1 m)
      ],
      λ g. b.1 (
        subst (λ j. ask_in a (get_or held j 0) ≡ true) none (g 0),
        λ k. subst (λ j. ask_in (get_or asks k 0) (get_or held j 0) ≡ true) (sym (there k)) (g (suc k)),
      ),
    )

-- what a unit's standing says of its cells, beside 4 times its place
pub stands_most : (p c n granted : ℕ) → standing p c n granted ≤ 3
stands_most p c n granted = at (leb 1 (besides c (eqb n granted)))
  where
    at : (x : Bool) → cond x (p % 4) 0 ≤ 3
    at true = omega arith
    at false = omega arith

pub stands_ask : (p c n granted : ℕ) → 1 ≤ p → p ≤ 3 → (i ask : ℕ) → ask_in ask (128 + 4 * i + standing p c n granted) ≡ ask_held granted ask n p c
stands_ask p c n granted least most i ask = at (leb 1 (besides c (eqb n granted)))
  where
    twice : (z w : Bool) → (z || z) ≡ (z || (w && false))
    twice true w = refl
    twice false w = sym (and-false w)

    at : (x : Bool) → (eqb ask 0 || eqb ask ((128 + 4 * i + cond x (p % 4) 0) % 4)) ≡ (eqb ask 0 || (eqb ask p && x))
    at true = let m : (128 + 4 * i + p % 4) % 4 ≡ p = omega arith in (λ t. eqb ask 0 || eqb ask (m t)) ∙ ap (λ x. eqb ask 0 || x) (sym (and-true (eqb ask p)))
    at false = let m : (128 + 4 * i + 0) % 4 ≡ 0 = omega arith in (λ t. eqb ask 0 || eqb ask (m t)) ∙ twice (eqb ask 0) (eqb ask p)

-- the code's test, of the cells beside those taken
pub stands_left : (p c n granted t : ℕ) → t ≡ cond (eqb n granted) 1 0 → t < c → p % 4 ≡ standing p c n granted
stands_left p c n granted t e h = ap (λ x. cond x (p % 4) 0) (sym (le-leb 1 (besides c (eqb n granted)) (omega arith)))

pub stands_without : (p c n granted t : ℕ) → t ≡ cond (eqb n granted) 1 0 → c ≤ t → 0 ≡ standing p c n granted
stands_without p c n granted t e h = ap (λ x. cond x (p % 4) 0) (sym (lt-leb 1 (besides c (eqb n granted)) (omega arith)))

abbrev pub Ranged : List U.Unit → Type 0
Ranged us = (i : ℕ) → i < length us → (number_of (get_or us i blank) < 32) × (1 ≤ priority_of (get_or us i blank)) × (priority_of (get_or us i blank) ≤ 3)

-- the unit that is found
undeclared : (us : List U.Unit) (n : ℕ) → (DeclaredIn us n → ⊥) → (b : Bool) → among (numbers us) n ≡ b → among (numbers us) n ≡ false
undeclared us n d true e = absurd (d ((among_iff us n).0 e))
undeclared us n d false e = e

pub noted_found : (granted : ℕ) (us : List U.Unit) (n : ℕ) → Placed us → none_repeated (numbers us) ≡ true → get_or (noted granted 0 us) n 0 ≡ note_of granted us (find_in us n)
unfolding note_of
noted_found granted us n placed once = pick (find_in us n) refl
  where
    pick : (f : Option ℕ) → find_in us n ≡ f → get_or (noted granted 0 us) n 0 ≡ note_of granted us f
    pick (Some i) e = let f = (find_at n us i).0 e in ap (λ m. get_or (noted granted 0 us) m 0) (sym f.named) ∙ noted_at granted us i placed once f.inside
    pick None e = noted_none granted 0 us n (undeclared us n (λ d. (find_nothing n us).0 e d.0 d.1 d.2) (among (numbers us) n) refl)

module _ (granted : ℕ) (last asks : List ℕ) (us : List U.Unit) (placed : Placed us) (ranged : Ranged us) (few : length us ≤ 32) (cells : ℕ → ℕ) (inlets : (i : ℕ) → i < length us → cells i ≡ cells_of (get_or us i blank)) where
  abbrev hs : List ℕ
  hs = noted granted 0 us

  abbrev known : ℕ → Bool
  known = among (numbers us)

  abbrev unit : ℕ → U.Unit
  unit i = get_or us i blank

  abbrev number : ℕ → ℕ
  number i = number_of (unit i)

  module _ (once : none_repeated (numbers us) ≡ true) where
    -- an open grant
    grant_at : (i : ℕ) → i < length us → celled cells hs (number i) ≡ leb 1 (cells_of (unit i))
    grant_at i h =
        let s = stands granted (unit i) in
        let most = stands_most (priority_of (unit i)) (cells_of (unit i)) (number i) granted in
        let there : leb 128 (128 + 4 * i + s) ≡ true = le-leb 128 (128 + 4 * i + s) (omega arith) in
        let place : (128 + 4 * i + s) / 4 % 32 ≡ i = omega arith in
        ap (λ n. leb 128 n && leb 1 (cells (place_in n))) (noted_at granted us i placed once h) ∙ (λ t. there t && leb 1 (cells (place t))) ∙ ap (leb 1) (inlets i h)

    abbrev Celled : Type 0
    Celled = ((i : ℕ) → i < length us → number i ≡ granted → 1 ≤ cells_of (unit i)) × ((granted ≡ nobody) ⊎ DeclaredIn us granted)

    grants : (every (grant_has_cell granted) us && nobody_or known granted) ≡ grant_in cells hs granted
    grants =
        let e = every_iff (grant_has_cell granted) (λ u. number_of u ≡ granted → 1 ≤ cells_of u) (λ u. imp_iff (eq_iff (number_of u) granted) (le_iff 1 (cells_of u))) us in
        let l = and_iff e (or_iff (eq_iff granted nobody) (among_iff us granted)) in
        let r = or_iff (eq_iff granted nobody) (Iff.rfl {A = celled cells hs granted ≡ true}) in
        same (every (grant_has_cell granted) us && nobody_or known granted) (grant_in cells hs granted)
        (λ t. let w = l.0 t in r.1 (⊎_elim (λ x. inl x) (λ (d : DeclaredIn us granted). inr (subst (λ n. celled cells hs n ≡ true) d.2 (grant_at d.0 d.1 ∙ (le_iff 1 (cells_of (unit d.0))).1 (w.0 d.0 d.1 d.2)))) w.1))
        (λ t. l.1 (⊎_elim nobody_here somebody (r.0 t)))
      where
        nobody_here : granted ≡ nobody → Celled
        nobody_here x = (λ i h e. let p = (ranged i h).0 in absurd (omega arith), inl x)

        there : (b : Bool) → known granted ≡ b → celled cells hs granted ≡ true → DeclaredIn us granted
        there true e h = (among_iff us granted).0 e
        there false e h = absurd (false≢true (ap (λ n. leb 128 n && leb 1 (cells (place_in n))) (sym (noted_none granted 0 us granted e)) ∙ h))

        somebody : celled cells hs granted ≡ true → Celled
        somebody h = (λ i l e. (le_iff 1 (cells_of (unit i))).0 (sym (grant_at i l) ∙ ap (λ n. celled cells hs n) e ∙ h), inr (there (known granted) refl h))

    -- the requests
    abbrev held : ℕ → Type 0
    held k = ask_in (get_or asks k 0) (get_or hs k 0) ≡ true

    at_unit : (i : ℕ) → i < length us → ask_in (get_or asks (number i) 0) (get_or hs (number i) 0) ≡ request_has_cell granted asks (unit i)
    at_unit i h =
        let r = ranged i h in
        ap (ask_in (get_or asks (number i) 0)) (noted_at granted us i placed once h)
        ∙ stands_ask (priority_of (unit i)) (cells_of (unit i)) (number i) granted r.1 r.2 i (get_or asks (number i) 0)

    silent : (k : ℕ) → known k ≡ false → held k → get_or asks k 0 ≡ 0
    silent k e t =
        let z = noted_none granted 0 us k e in
        ⊎_elim (λ x. x) (λ w. w ∙ ap (λ n. n % 4) z) ((or_iff (eq_iff (get_or asks k 0) 0) (eq_iff (get_or asks k 0) (get_or hs k 0 % 4))).0 t)

    requests : (every (request_has_cell granted asks) us && asks_known known 0 asks) ≡ asks_held hs 0 asks
    requests =
        let e = every_iff (request_has_cell granted asks) (λ u. request_has_cell granted asks u ≡ true) (λ u. Iff.rfl) us in
        let l = and_iff e (quiet_iff us asks) in
        let r = held_iff hs 0 asks in
        same (every (request_has_cell granted asks) us && asks_known known 0 asks) (asks_held hs 0 asks)
        (λ t. let w = l.0 t in r.1 (λ k. rw zero-add (each w.0 w.1 k (known k) refl)))
        (λ t. let g : (k : ℕ) → held k = λ k. rw zero-add at (r.0 t k) in
        l.1 (λ i h. sym (at_unit i h) ∙ g (number i), λ n d. silent n (undeclared us n d (known n) refl) (g n)))
      where
        each : ((i : ℕ) → i < length us → request_has_cell granted asks (unit i) ≡ true) → ((n : ℕ) → (DeclaredIn us n → ⊥) → get_or asks n 0 ≡ 0) → (k : ℕ) (b : Bool) → known k ≡ b → held k
        each f g k true e = let d = (among_iff us k).0 e in subst held d.2 (at_unit d.0 d.1 ∙ f d.0 d.1)
        each f g k false e = (or_iff (eq_iff (get_or asks k 0) 0) (Iff.rfl {A = eqb (get_or asks k 0) (get_or hs k 0 % 4) ≡ true})).1 (inl (g k (λ d. false≢true (sym e ∙ (among_iff us k).1 d))))

  guarded : (b x y : Bool) → (b ≡ true → x ≡ y) → (b && x) ≡ (b && y)
  guarded true x y h = h refl
  guarded false x y h = refl

  turned : (n g r o l a : Bool) → (((n && g) && r) && ((o && l) && a)) ≡ (n && (((g && o) && l) && (r && a)))
  turned false g r o l a = refl
  turned true false r o l a = refl
  turned true true true o l a = refl
  turned true true false o l a = sym (and-false (o && l))

  -- the tests by number come to what the document says
  pub numbers_document : (none_repeated (numbers us) && every (grant_has_cell granted) us && every (request_has_cell granted asks) us && arbiter_known known granted last asks)
      ≡ (eqb (how_many hs) (length us) && arbiter_held cells hs granted last asks)
  unfolding arbiter_known arbiter_held
  numbers_document =
      let n = none_repeated (numbers us) in
      turned n (every (grant_has_cell granted) us) (every (request_has_cell granted asks) us) (nobody_or known granted) (lasts_known known last) (asks_known known 0 asks)
      ∙ guarded n
      (((every (grant_has_cell granted) us && nobody_or known granted) && lasts_known known last) && (every (request_has_cell granted asks) us && asks_known known 0 asks))
      (arbiter_held cells hs granted last asks)
      (λ t. λ z. (grants t z && lasts_known (λ k. sym (marks_noted granted 0 us k placed) z) last) && requests t z)
      ∙ (λ z. sym (counted granted us placed) z && arbiter_held cells hs granted last asks)
