-- The test of the bytes, turn by turn. Assumes nothing.
use Rattle.std.proofs.Common.{◌≡◌, ℕ, zero, suc, ◌+◌, ◌-◌, ◌*◌, ◌%◌, ◌<◌, ◌≤◌, Bool, true, false, cond, not, ◌&&◌, eqb, leb, ◌⊎◌, ◌↔◌, List, ◌∷◌, length, get_or, drop, set, sym, refl, ap, ◌∙◌, subst, inl, inr, ⊎_elim, add-zero, mod-eq_of_lt, zero-add, arith, length-set, drop_of_length-le, drop-cons, get_or-set_other, get_or-set_same, le-leb}
use mathlib.Core.Bool.{and-true, false≢true}
use mathlib.Core.Logic.Iff
use borrow.Author.Tests.{not-true, not-false, lt-leb}
use Rattle.header.specs.Fields.{highest}
use Rattle.card.specs.declared.Card.{Card}
use Rattle.card.specs.declared.Ask.TheVariants.{On}
use Rattle.card.specs.Cards.{holds}
use Rattle.outlet.proofs.Truth.{le_iff, lt_iff, and_iff, or_iff}
use Rattle.outlet.proofs.Laws.{fits_iff}
use Rattle.shelf.specs.Shelves.{declared, blank, number_of, numbers, find_in}
use Rattle.shelf.specs.declared.Unit as U
use Rattle.shelf.proofs.Finding.{declared_length, declared_at}
use Rattle.state.specs.Bytes.{col, unit_by, unit_in, shelf_in}
use Rattle.state.proofs.Laws.{units_length, unit_at_lem}
use Rattle.soundness.specs.State.{every, among, none_repeated, roomy, below_bus, settings_given, could_be_given, within_capacity, grant_has_cell, request_has_cell, arbiter_known, unit_fits, sound_of}
use Rattle.soundness.specs.Lanes.{formed, lane_good, lanes}
use Rattle.soundness.specs.Numbered.{standing, note_in, Notes, note_of, arbiter_held, none, noted, noted_by, note_from, noted_in, how_many, cells_in, held_in, numbers_held, Places}
use Rattle.soundness.specs.Soundings.{formed_all, sound_in, looked}
use Rattle.soundness.proofs.Pass.{priority_of, cells_of, Placed, all_placed, none_set, counted, roomy_iff, bus_most}
use Rattle.soundness.proofs.Facts.{every_iff, side_iff}
use Rattle.soundness.proofs.Numbered.{Ranged, noted_found, numbers_document}

split : (k i : ℕ) → k ≤ i → (k ≡ i) ⊎ (suc k ≤ i)
split zero zero h = inl refl
split zero (suc i) h = inr (omega arith)
split (suc k) zero h = absurd (omega arith)
split (suc k) (suc i) h = ⊎_elim (λ e. inl (ap suc e)) (λ e. inr (omega arith)) (split k i (omega arith))

-- a place below the count is good where all are; and all are where each is
pub lanes_at : (good : ℕ → Bool) (count k n i : ℕ) → lanes good count k n ≡ true → k ≤ i → i < k + n → i < count → good i ≡ true
unfolding lanes
lanes_at good count k zero i t h l c = absurd (omega arith)
lanes_at good count k (suc n) i t h l c =
    let w = (and_iff (or_iff (le_iff count k) (Iff.rfl {A = good k ≡ true})) (Iff.rfl {A = lanes good count (suc k) n ≡ true})).0 t in
    ⊎_elim (λ e. subst (λ j. good j ≡ true) e (⊎_elim (λ m. absurd (omega arith)) (λ g. g) w.0)) (λ m. lanes_at good count (suc k) n i w.1 m (omega arith) c) (split k i h)

pub lanes_all : (good : ℕ → Bool) (count k n : ℕ) → ((i : ℕ) → k ≤ i → i < k + n → i < count → good i ≡ true) → lanes good count k n ≡ true
unfolding lanes
lanes_all good count k zero g = refl
lanes_all good count k (suc n) g =
    (and_iff (or_iff (le_iff count k) (Iff.rfl {A = good k ≡ true})) (Iff.rfl {A = lanes good count (suc k) n ≡ true})).1
    (near (leb count k) refl, lanes_all good count (suc k) n (λ i a b c. g i (omega arith) (omega arith) c))
  where
    near : (t : Bool) → leb count k ≡ t → (count ≤ k) ⊎ (good k ≡ true)
    near true e = inl ((le_iff count k).0 e)
    near false e = inr (g k (omega arith) (omega arith) (less (apart count k) e))
      where
        apart : (a b : ℕ) → (a ≤ b) ⊎ (b < a)
        apart zero b = inl (omega arith)
        apart (suc a) zero = inr (omega arith)
        apart (suc a) (suc b) = ⊎_elim (λ h. inl (omega arith)) (λ h. inr (omega arith)) (apart a b)

        less : (count ≤ k) ⊎ (k < count) → leb count k ≡ false → k < count
        less (inl h) e = absurd (false≢true (sym e ∙ (le_iff count k).1 h))
        less (inr h) e = h

-- one place more of an array holds what it should
pub one_more : (f : ℕ → ℕ) (each : List ℕ) (i n : ℕ) → i < length each → ((j : ℕ) → j < i → get_or each j 0 ≡ f j) → n ≡ f i → (j : ℕ) → j < i + 1 → get_or (set each i n) j 0 ≡ f j
one_more f each i n l g e j h =
    ⊎_elim (λ x. subst (λ k. get_or (set each i n) k 0 ≡ f k) (sym x) (get_or-set_same each i n 0 l ∙ e)) (λ x. get_or-set_other each i j n 0 (λ y. omega arith) ∙ g j (omega arith))
    (split j i (omega arith))

-- two tests, and one of them
first : (a b : Bool) → (a && b) ≡ true → a ≡ true
first true b t = refl
first false b t = t

second : (a b : Bool) → (a && b) ≡ true → b ≡ true
second true b t = t
second false b t = absurd (false≢true t)

both_true : (a b c : Bool) → (a ≡ true → b ≡ true → c ≡ true) → c ≡ false → (a && b) ≡ false
both_true true true c f e = absurd (false≢true (sym e ∙ f refl refl))
both_true true false c f e = refl
both_true false b c f e = refl

-- what comes of all tests by number
pub unheld : (good all : Bool) (x : ℕ) → good ≡ all → not good ≡ true → 1 ≡ cond all x 1
unheld good all x e h = sym (ap (λ a. cond a x 1) (sym e ∙ not-true good h))

pub all_held : (good all : Bool) (x y : ℕ) → good ≡ all → not good ≡ false → y ≡ x → y ≡ cond all x 1
all_held good all x y e h f = f ∙ sym (ap (λ a. cond a x 1) (sym e ∙ not-false good h))

-- the document's items: those of a unit by itself, and what is left where they hold
own : (a n b c w g r k : Bool) → (a && n && b && c && w && g && r && k) ≡ true → (b ≡ true) × (c ≡ true) × (w ≡ true)
own a n b c w g r k t =
    let x = first (a && n && b && c && w) g (first (a && n && b && c && w && g) r (first (a && n && b && c && w && g && r) k t)) in
    let y = first (a && n && b && c) w x in
    (second (a && n) b (first (a && n && b) c y), second (a && n && b) c y, second (a && n && b && c) w x)

others : (a n b c w g r k : Bool) → a ≡ true → b ≡ true → c ≡ true → w ≡ true → (a && n && b && c && w && g && r && k) ≡ (n && g && r && k)
others a n b c w g r k p q s t =
    (λ z. p z && n && q z && s z && t z && g && r && k)
    ∙ ap (λ x. x && g && r && k) (and-true (n && true && true) ∙ and-true (n && true) ∙ and-true n)

each : (f : U.Unit → Bool) (us : List U.Unit) → (every f us ≡ true) ↔ ((i : ℕ) → i < length us → f (get_or us i blank) ≡ true)
each f us = every_iff f (λ u. f u ≡ true) (λ u. Iff.rfl) us

module _ (b : List ℕ) where
  abbrev us : List U.Unit
  us = declared (shelf_in b)

  abbrev count : ℕ
  count = get_or b 805 0

  module _ (most : count ≤ 32) where
    long : length us ≡ count
    long = let l = declared_length (shelf_in b) (units_length b 0 32) in omega (arith, l)

    there : (i : ℕ) → i < count → get_or us i blank ≡ unit_in b i
    there i h = declared_at (shelf_in b) i blank h ∙ unit_at_lem b i blank (omega arith)

    next : (i : ℕ) → i < count → drop i us ≡ unit_in b i ∷ drop (suc i) us
    next i h = let l = long in drop-cons us i blank (omega arith) ∙ ap (λ u. u ∷ drop (suc i) us) (there i h)

  pub by_length : (notes : ℕ → ℕ) (held : List ℕ) (i n : ℕ) → length (noted_by notes b held i n) ≡ length held
  unfolding noted_by
  by_length notes held i zero = refl
  by_length notes held i (suc n) = length-set (noted_by notes b held (suc i) n) (col b i 0 % 32) (notes i) ∙ by_length notes held (suc i) n

  -- so many places and so many before them; the same notes; no notes
  pub by_before : (notes : ℕ → ℕ) (held : List ℕ) (i n m : ℕ) → noted_by notes b (noted_by notes b held (i + n) m) i n ≡ noted_by notes b held i (n + m)
  unfolding noted_by
  by_before notes held i zero m = (λ t. noted_by notes b held (add-zero i t) (sym (zero-add m) t))
  by_before notes held i (suc n) m =
      let there : i + suc n ≡ suc i + n = omega arith in
      let more : suc (n + m) ≡ suc n + m = omega arith in
      ap (λ h. set h (col b i 0 % 32) (notes i)) (ap (λ k. noted_by notes b (noted_by notes b held k m) (suc i) n) there ∙ by_before notes held (suc i) n m)
      ∙ ap (noted_by notes b held i) more

  by_same : (f g : ℕ → ℕ) (held : List ℕ) (i n : ℕ) → ((j : ℕ) → i ≤ j → j < i + n → f j ≡ g j) → noted_by f b held i n ≡ noted_by g b held i n
  unfolding noted_by
  by_same f g held i zero e = refl
  by_same f g held i (suc n) e = (λ t. set (by_same f g held (suc i) n (λ j l h. e j (omega arith) (omega arith)) t) (col b i 0 % 32) (e i (omega arith) (omega arith) t))

  by_nothing : (f : ℕ → ℕ) (i n : ℕ) → ((j : ℕ) → i ≤ j → j < i + n → f j ≡ 0) → noted_by f b none i n ≡ none
  unfolding noted_by
  by_nothing f i zero e = refl
  by_nothing f i (suc n) e = (λ t. set (by_nothing f (suc i) n (λ j l h. e j (omega arith) (omega arith)) t) (col b i 0 % 32) (e i (omega arith) (omega arith) t)) ∙ none_set 32 (col b i 0 % 32)

  -- places past the declared units leave nothing
  pub past_nothing : (each : List ℕ) (end : ℕ) → Notes (get_or b 803 0) count b each → count ≤ end → end ≤ 32 → noted_by (note_from each) b none 0 end ≡ noted_in b
  past_nothing each end notes h l =
      let all : end ≡ count + (end - count) = omega arith in
      let past = by_nothing (note_from each) (0 + count) (end - count) (λ j m k. notes j (omega arith) ∙ ap (λ t. cond t 0 (note_in (get_or b 803 0) b j)) (le-leb count j (omega arith))) in
      ap (noted_by (note_from each) b none 0) all
      ∙ sym (by_before (note_from each) none 0 count (end - count))
      ∙ ap (λ h. noted_by (note_from each) b h 0 count) past
      ∙ by_same (note_from each) (note_in (get_or b 803 0) b) none 0 count (λ j m k. notes j (omega arith) ∙ ap (λ t. cond t 0 (note_in (get_or b 803 0) b j)) (lt-leb count j (omega arith)))

  -- where each number has a place, what is noted by 32 is what is noted
  left : Places b → (i n : ℕ) → i + n ≡ count → noted_by (note_in (get_or b 803 0) b) b none i n ≡ noted (get_or b 803 0) i (drop i us)
  unfolding noted_by noted unit_by
  left p i zero e = let l = long p.0 in sym (ap (noted (get_or b 803 0) i) (drop_of_length-le us {i = i} (omega arith)))
  left p i (suc n) e =
      let w = p.1 i (omega arith) in
      let f = col b i in
      (λ t. set (left p (suc i) n (omega arith) t) (mod-eq_of_lt w.0 t) (128 + 4 * i + standing (f 4) (mod-eq_of_lt w.1 t) (f 0) (get_or b 803 0)))
      ∙ sym (ap (noted (get_or b 803 0) i) (next p.0 i (omega arith)))

  pub all_noted : Places b → noted_in b ≡ held_in b
  all_noted p = left p 0 count (zero-add count)

module _ (card : Card) (b : List ℕ) (store rows : ℕ) where
  abbrev bus : ℕ
  bus = get_or b 804 0

  abbrev good : ℕ → Bool
  good = lane_good card bus b

  unseen : (unit : ℕ) → sound_in card b store rows ≡ false → 1 ≡ looked card b store rows unit
  unfolding looked
  unseen unit e = rw e

  pub small : (unit : ℕ) → roomy bus (count b) store rows ≡ false → 1 ≡ looked card b store rows unit
  unfolding sound_in sound_of
  small unit e = unseen unit (both_true (formed_all b) (sound_of card (shelf_in b) store rows) (sound_of card (shelf_in b) store rows) (λ p q. q) (rw e))

  module _ (t : roomy bus (count b) store rows ≡ true) where
    pub few : count b ≤ 32
    few = ((roomy_iff bus (count b) store rows).0 t).0.0.1

    pub some_bus : 0 < bus
    some_bus = ⊎_elim (λ e. omega arith) (λ e. omega arith) ((roomy_iff bus (count b) store rows).0 t).0.0.0

    fits_at : sound_of card (shelf_in b) store rows ≡ true → (i : ℕ) → i < count b → unit_fits card bus (unit_in b i) ≡ true
    unfolding sound_of unit_fits
    fits_at e i h =
        let l = long b few in
        let w =
        own (roomy bus (count b) store rows) (none_repeated (numbers (us b))) (every (below_bus bus) (us b)) (every (could_be_given card) (us b)) (every within_capacity (us b))
        (every (grant_has_cell (get_or b 803 0)) (us b)) (every (request_has_cell (get_or b 803 0) (shelf_in b).arbiter.asks) (us b))
        (arbiter_known (among (numbers (us b))) (get_or b 803 0) (shelf_in b).arbiter.last (shelf_in b).arbiter.asks) e in
        subst (λ u. unit_fits card bus u ≡ true) (there b few i h)
        ((and_iff (and_iff (Iff.rfl {A = below_bus bus (get_or (us b) i blank) ≡ true}) (Iff.rfl {A = could_be_given card (get_or (us b) i blank) ≡ true})) (Iff.rfl {A = within_capacity (get_or (us b) i blank) ≡ true})).1
        (((each (below_bus bus) (us b)).0 w.0 i (omega arith), (each (could_be_given card) (us b)).0 w.1 i (omega arith)), (each within_capacity (us b)).0 w.2 i (omega arith)))

    pub unfit : (unit : ℕ) → lanes good (count b) 0 32 ≡ false → 1 ≡ looked card b store rows unit
    unfolding sound_in
    unfit unit e =
        unseen unit (both_true (formed_all b) (sound_of card (shelf_in b) store rows) (lanes good (count b) 0 32)
        (λ p q. lanes_all good (count b) 0 32 (λ i a l c. (and_iff (Iff.rfl {A = formed (col b i) ≡ true}) (Iff.rfl {A = unit_fits card bus (unit_in b i) ≡ true})).1 (lanes_at (λ j. formed (col b j)) (count b) 0 32 i p a l c, fits_at q i c))) e)

    module _ (g : lanes good (count b) 0 32 ≡ true) where
      parts : (i : ℕ) → i < count b → (formed (col b i) ≡ true) × (unit_fits card bus (unit_in b i) ≡ true)
      parts i h = let m = few in (and_iff (Iff.rfl {A = formed (col b i) ≡ true}) (Iff.rfl {A = unit_fits card bus (unit_in b i) ≡ true})).0 (lanes_at good (count b) 0 32 i g (omega arith) (omega arith) h)

      fits : (i : ℕ) → i < length (us b) → ((below_bus bus (get_or (us b) i blank) ≡ true) × (could_be_given card (get_or (us b) i blank) ≡ true)) × (within_capacity (get_or (us b) i blank) ≡ true)
      unfolding unit_fits
      fits i h =
          let l = long b few in
          let c : i < count b = omega arith in
          (and_iff (and_iff (Iff.rfl {A = below_bus bus (get_or (us b) i blank) ≡ true}) (Iff.rfl {A = could_be_given card (get_or (us b) i blank) ≡ true})) (Iff.rfl {A = within_capacity (get_or (us b) i blank) ≡ true})).0
          (subst (λ u. unit_fits card bus u ≡ true) (sym (there b few i c)) (parts i c).1)

      ranged : Ranged (us b)
      unfolding settings_given
      ranged i h =
          let u = get_or (us b) i blank in
          let f = fits i h in
          let m = bus_most bus (count b) store rows t in
          let n = (lt_iff (number_of u) bus).0 f.0.0 in
          let p = ((and_iff (Iff.rfl {A = settings_given card u.settings ≡ true}) Iff.rfl).0 f.0.1).0 in
          let s = second (holds card (On u.settings.link) && leb u.settings.top (highest u.settings.link)) (leb 1 (priority_of u) && leb (priority_of u) 3) p in
          let q = (and_iff (le_iff 1 (priority_of u)) (le_iff (priority_of u) 3)).0 s in
          (omega (arith, n, m), q.0, q.1)

      placed : Placed (us b)
      placed = all_placed (us b) (λ i h. (ranged i h).0)

      pub places : Places b
      unfolding unit_by unit_fits
      places = (
        few,
        λ i h.
            let m = bus_most bus (count b) store rows t in
            let n = (lt_iff (col b i 0) bus).0 (first (below_bus bus (unit_in b i)) (could_be_given card (unit_in b i)) (first (below_bus bus (unit_in b i) && could_be_given card (unit_in b i)) (within_capacity (unit_in b i)) (parts i h).1)) in
            let w = (and_iff (and_iff (fits_iff (unit_in b i).inlet 4) Iff.rfl) (side_iff (unit_in b i).side)).0 (second (below_bus bus (unit_in b i) && could_be_given card (unit_in b i)) (within_capacity (unit_in b i)) (parts i h).1) in
            let s = w.1 in
            (omega (arith, n, m), omega (arith, w.0.0.held, s.controlin, s.loopbackin)),
      )

      cells : (i : ℕ) → i < length (us b) → cells_in b i ≡ cells_of (get_or (us b) i blank)
      unfolding unit_by
      cells i h = let l = long b few in let c : i < count b = omega arith in mod-eq_of_lt (places.1 i c).1 ∙ sym (ap cells_of (there b few i c))

      by_number : sound_in card b store rows ≡ numbers_held b
      unfolding sound_in sound_of
      by_number =
          let a = (shelf_in b).arbiter in
          ap (λ x. x && sound_of card (shelf_in b) store rows) (lanes_all (λ i. formed (col b i)) (count b) 0 32 (λ i p l c. (parts i c).0))
          ∙ others (roomy bus (count b) store rows) (none_repeated (numbers (us b))) (every (below_bus bus) (us b)) (every (could_be_given card) (us b)) (every within_capacity (us b))
          (every (grant_has_cell (get_or b 803 0)) (us b)) (every (request_has_cell (get_or b 803 0) a.asks) (us b)) (arbiter_known (among (numbers (us b))) (get_or b 803 0) a.last a.asks)
          t ((each (below_bus bus) (us b)).1 (λ i h. (fits i h).0.0)) ((each (could_be_given card) (us b)).1 (λ i h. (fits i h).0.1)) ((each within_capacity (us b)).1 (λ i h. (fits i h).1))
          ∙ numbers_document (get_or b 803 0) a.last a.asks (us b) placed ranged (let l = long b few in omega (arith, l, few)) (cells_in b) cells
          ∙ ap (λ n. eqb (how_many (held_in b)) n && arbiter_held (cells_in b) (held_in b) (get_or b 803 0) a.last a.asks) (long b few)

      pub begins : (unit : ℕ) → looked card b store rows unit ≡ cond (numbers_held b) (get_or (held_in b) unit 0) 1
      unfolding looked
      begins unit =
          ap (λ s. cond s (note_of (get_or b 803 0) (us b) (find_in (us b) unit)) 1) by_number
          ∙ chosen (numbers_held b) (λ t. sym (noted_found (get_or b 803 0) (us b) unit placed (sym (counted (get_or b 803 0) (us b) placed) ∙ ap (eqb (how_many (held_in b))) (long b few) ∙ first (eqb (how_many (held_in b)) (count b)) _ t)))
        where
          chosen : (s : Bool) {x y : ℕ} → (s ≡ true → x ≡ y) → cond s x 1 ≡ cond s y 1
          chosen true e = e refl
          chosen false e = refl
