-- The flat tests of the bytes are the tests of the unit. Assumes nothing.
use Rattle.std.proofs.Common.{◌≡◌, ℕ, zero, suc, max, ◌+◌, ◌-◌, ◌*◌, ◌<◌, ◌≤◌, Bool, true, false, cond, ◌&&◌, ◌||◌, eqb, ltb, leb, ◌⊎◌, List, get_or, sym, refl, ap, ◌∙◌, inl, inr, ⊎_elim, add-one, arith}
use mathlib.Core.Bool.{and-false, and-true, and_assoc}
use lib.Dec.{eqb-suc-zero}
use borrow.Author.Tests.{lt-leb}
use Rattle.outlet.proofs.Truth.{same, eq_iff, le_iff, lt_iff, and_iff, or_iff}
use Rattle.card.specs.declared.Card.{Card}
use Rattle.card.specs.declared.Card.TheVariants.{Narrow, Wide}
use Rattle.card.specs.declared.Ask.TheVariants.{On}
use Rattle.card.specs.Cards.{holds, narrow_holds}
use Rattle.header.specs.Fields.{highest}
use Rattle.outlet.specs.Outlets.{between, capacities, capacity, given, ring_fits, queue_fits, rings_fit}
use Rattle.outlet.specs.declared.Limits.{Limits}
use Rattle.outlet.specs.declared.Ring.{Ring}
use Rattle.outlet.proofs.Laws.{given_iff, fits_iff}
use Rattle.soundness.specs.State.{settings_given, side_fits, unit_fits}
use Rattle.state.specs.Bytes.{col, link_of, mode_of, limits_by, outlet_by, ring_by, side_by, unit_by}
use Rattle.soundness.specs.Lanes.{highest_link, lesser, limits_at, rings_at, fixed_at, lane_at, lane_good, lanes}

-- what is over 0 is not at most; the greater is 0 where both are, the lesser where one is
pub over_zero : (n m : ℕ) → eqb (n - m) 0 ≡ leb n m
over_zero n m =
    let a = eq_iff (n - m) 0 in let b = le_iff n m in
    same (eqb (n - m) 0) (leb n m) (λ t. let e = a.0 t in b.1 (omega arith)) (λ t. let e = b.0 t in a.1 (omega arith))

pub greater_zero : (a b : ℕ) → eqb (max a b) 0 ≡ (eqb a 0 && eqb b 0)
greater_zero a b =
    let e = eq_iff (max a b) 0 in let f = and_iff (eq_iff a 0) (eq_iff b 0) in
    same (eqb (max a b) 0) (eqb a 0 && eqb b 0) (λ t. let z = e.0 t in f.1 (omega arith, omega arith)) (λ t. let w = f.0 t in e.1 (omega arith))

-- and at most a number where both are
pub greater_most : (a b n : ℕ) → leb (max a b) n ≡ (leb a n && leb b n)
greater_most a b n =
    let e = le_iff (max a b) n in let f = and_iff (le_iff a n) (le_iff b n) in
    same (leb (max a b) n) (leb a n && leb b n) (λ t. let z = e.0 t in f.1 (omega arith, omega arith)) (λ t. let w = f.0 t in e.1 (omega arith))

pub lesser_zero : (a b : ℕ) → eqb (lesser a b) 0 ≡ (eqb a 0 || eqb b 0)
lesser_zero a b =
    let e = eq_iff (lesser a b) 0 in let f = or_iff (eq_iff a 0) (eq_iff b 0) in
    same (eqb (lesser a b) 0) (eqb a 0 || eqb b 0) (λ t. let z = e.0 t in f.1 (either a z)) (λ t. ⊎_elim (λ x. e.1 (omega arith)) (λ x. e.1 (omega arith)) (f.0 t))
  where
    either : (n : ℕ) → lesser n b ≡ 0 → (n ≡ 0) ⊎ (b ≡ 0)
    either zero z = inl refl
    either (suc n) z = inr (omega arith)

-- a ring, also of no capacity
pub ring_flat : (ring : Ring) (k : ℕ) → (leb ring.head (k - 1) && leb ring.count k) ≡ ring_fits ring k
ring_flat ring k =
    let e = and_iff (le_iff ring.head (k - 1)) (le_iff ring.count k) in let f = fits_iff ring k in
    same (leb ring.head (k - 1) && leb ring.count k) (ring_fits ring k)
    (λ t. let w = e.0 t in f.1 (record { place = λ h. omega arith; nowhere = λ h. omega arith; held = w.1 }))
    (λ t. let w = f.0 t in e.1 (below k w.place w.nowhere, w.held))
  where
    below : (n : ℕ) → (0 < n → ring.head < n) → (n ≡ 0 → ring.head ≡ 0) → ring.head ≤ n - 1
    below zero p q = let z = q refl in omega arith
    below (suc n) p q = let z = p (omega arith) in omega arith

-- a number below the bus number
below_bus : (n bus : ℕ) → 0 < bus → leb n (bus - 1) ≡ ltb n bus
below_bus n bus h =
    let a = le_iff n (bus - 1) in let b = lt_iff n bus in
    same (leb n (bus - 1)) (ltb n bus) (λ t. let e = a.0 t in b.1 (omega arith)) (λ t. let e = b.0 t in a.1 (omega arith))

-- a top VPI by its high byte, and the link: of a UNI, of an NNI on the wide card, or none
high_uni : (high low : ℕ) → low < 256 → leb high 0 ≡ leb (high * 256 + low) 255
high_uni high low h =
    let a = le_iff high 0 in let l = le_iff (high * 256 + low) 255 in
    same (leb high 0) (leb (high * 256 + low) 255) (λ t. let e = a.0 t in l.1 (omega arith)) (λ t. let e = l.0 t in a.1 (omega arith))

high_nni : (high low : ℕ) → low < 256 → leb high 15 ≡ leb (high * 256 + low) 4095
high_nni high low h =
    let a = le_iff high 15 in let l = le_iff (high * 256 + low) 4095 in
    same (leb high 15) (leb (high * 256 + low) 4095) (λ t. let e = a.0 t in l.1 (omega arith)) (λ t. let e = l.0 t in a.1 (omega arith))

past : (l k : ℕ) → k ≤ 1 → leb (suc (suc l)) k ≡ false
past l k h = lt-leb (suc (suc l)) k (omega arith)

link_by : (card : Card) (l high low : ℕ) → low < 256 →
    (leb l (highest_link card) && leb high (cond (eqb l 0) 0 15)) ≡ (leb l 1 && (holds card (On (link_of l)) && leb (high * 256 + low) (highest (link_of l))))
unfolding link_of holds narrow_holds
link_by Narrow zero high low h = high_uni high low h
link_by Wide zero high low h = high_uni high low h
link_by Narrow (suc zero) high low h = refl
link_by Wide (suc zero) high low h = high_nni high low h
link_by Narrow (suc (suc l)) high low h = rw (past l 0 (omega arith), past l 1 (omega arith))
link_by Wide (suc (suc l)) high low h = rw (past l 1 (omega arith))

-- the limits: in mode one, in mode four, or none
module _ (l c v k : ℕ) where
  abbrev limits : ℕ → Limits
  limits m = record { mode = mode_of m; cbrlength = l; cbrlimit = c; vbrlimit = v; mark = eqb k 1 }

  abbrev flat : ℕ → Bool
  flat m = between (lesser l 1) (lesser l 1) m && (between m l c && between 1 (cond (eqb m 0) 123 (89 - l)) v)

  limits_by_lem : (m : ℕ) → flat m ≡ (leb m 1 && given (limits m))
  unfolding mode_of
  limits_by_lem zero =
      let e = and_iff (and_iff (le_iff (lesser l 1) 0) (le_iff 0 (lesser l 1))) (and_iff (and_iff (le_iff 0 c) (le_iff c l)) (and_iff (le_iff 1 v) (le_iff v 123))) in
      let f = and_iff (le_iff 0 1) (given_iff (limits 0)) in
      same (flat 0) (leb 0 1 && given (limits 0))
      (λ t. let w = e.0 t in f.1 (omega arith, (omega arith, omega arith, w.1.1.0, w.1.1.1)))
      (λ t. let w = f.0 t in e.1 ((omega arith, omega arith), ((omega arith, omega arith), (w.1.2, w.1.3))))
  limits_by_lem (suc zero) =
      let e = and_iff (and_iff (le_iff (lesser l 1) 1) (le_iff 1 (lesser l 1))) (and_iff (and_iff (le_iff 1 c) (le_iff c l)) (and_iff (le_iff 1 v) (le_iff v (89 - l)))) in
      let f = and_iff (le_iff 1 1) (given_iff (limits 1)) in
      same (flat 1) (leb 1 1 && given (limits 1))
      (λ t. let w = e.0 t in f.1 (omega arith, (omega arith, omega arith, w.1.0.0, w.1.0.1, w.1.1.0, w.1.1.1)))
      (λ t. let w = f.0 t in e.1 ((omega arith, omega arith), ((w.1.2, w.1.3), (w.1.4, w.1.5))))
  limits_by_lem (suc (suc m)) =
      let e = and_iff (le_iff (lesser l 1) (suc (suc m))) (le_iff (suc (suc m)) (lesser l 1)) in
      rw (past m 1 (omega arith)) (none (between (lesser l 1) (lesser l 1) (suc (suc m))) _ (λ t. let w = e.0 t in absurd (omega arith)))
    where
      none : (a b : Bool) → (a ≡ true → ⊥) → (a && b) ≡ false
      none true b h = absurd (h refl)
      none false b h = refl

  -- in mode one there is no CBR length
  alone : (m : ℕ) → m ≡ 0 → (leb m 1 && given (limits m)) ≡ true → l ≡ 0
  unfolding mode_of
  alone zero e t = ((and_iff (le_iff 0 1) (given_iff (limits 0))).0 t).1.0
  alone (suc m) e t = absurd (omega arith)

-- the outlet's rings, in mode one and in mode four
module _ (q r u v : Ring) (l : ℕ) where
  four : (b c d e : Bool) → (b && (c && (d && e))) ≡ (((b && c) && d) && e)
  four false c d e = refl
  four true false d e = refl
  four true true d e = refl

  rings_by : (m : ℕ) → (m ≡ 0 → l ≡ 0) →
      let caps = capacities (mode_of m) l in
      (ring_fits q (cond (eqb m 0) 123 2) && (ring_fits r l && (ring_fits u (cond (eqb m 0) 0 (89 - l)) && ring_fits v (cond (eqb m 0) 0 32))))
      ≡ (ring_fits q (get_or caps 0 0) && ring_fits r (get_or caps 1 0) && ring_fits u (get_or caps 2 0) && ring_fits v (get_or caps 3 0))
  unfolding mode_of
  rings_by zero h =
      ap (λ n. ring_fits q 123 && (ring_fits r n && (ring_fits u 0 && ring_fits v 0))) (h refl)
      ∙ four (ring_fits q 123) (ring_fits r 0) (ring_fits u 0) (ring_fits v 0)
  rings_by (suc m) h = rw (eqb-suc-zero m) (four (ring_fits q 2) (ring_fits r l) (ring_fits u (89 - l)) (ring_fits v 32))

-- what has one bound in every unit: the mark, the inlet, the places beside the data queues
sorted : (k h g c d a b e : Bool) → (((h && g) && (c && d)) && ((k && a) && (b && e))) ≡ (k && ((h && c) && ((((g && d) && a) && b) && e)))
sorted false h g c d a b e = and-false ((h && g) && (c && d))
sorted true false g c d a b e = refl
sorted true true false false d a b e = refl
sorted true true true false d a b e = refl
sorted true true g true d a b e = sym (and_assoc (g && d) a (b && e)) ∙ sym (and_assoc ((g && d) && a) b e)

fixed_by : (f : ℕ → ℕ) → fixed_at f ≡ (leb (f 9) 1 && (ring_fits (ring_by f 14 15) 4 && side_fits (side_by f)))
fixed_by f =
    sorted (leb (f 9) 1) (leb (f 14) 3) (leb (f 28) 3) (leb (f 15) 4) (leb (f 29) 4) (leb (f 26) 1) (leb (f 27) 1) (leb (f 30) 1)
    ∙ (λ t. leb (f 9) 1 && (ring_flat (ring_by f 14 15) 4 t && (((ring_flat (ring_by f 28 29) 4 t && leb (f 26) 1) && leb (f 27) 1) && leb (f 30) 1)))

guarded : (b x y : Bool) → (b ≡ true → x ≡ y) → (b && x) ≡ (b && y)
guarded true x y h = h refl
guarded false x y h = refl

turned : (n l h p x : Bool) → (((n && l) && (h && p)) && x) ≡ (n && (((l && h) && p) && x))
turned false l h p x = refl
turned true true h p x = refl
turned true false h p x = refl

mix : (n l s p m g q k i w : Bool) → (n && (((l && s) && p) && ((m && g) && (q && (k && (i && w)))))) ≡ (((l && m) && k) && ((n && ((s && p) && g)) && ((i && q) && w)))
mix false l s p m g q k i w = sym (and-false ((l && m) && k))
mix true false s p m g q k i w = refl
mix true true false p m g q k i w = sym (and-false (m && k))
mix true true true false m g q k i w = sym (and-false (m && k))
mix true true true true false g q k i w = refl
mix true true true true true false q k i w = sym (and-false k)
mix true true true true true true q false i w = and-false q
mix true true true true true true q true false w = and-false q
mix true true true true true true q true true w = refl

-- all tests of a place together
pub lane_by : (card : Card) (bus : ℕ) (b : List ℕ) (i : ℕ) → 0 < bus → col b i 3 < 256 → lane_at (highest_link card) (bus - 1) (col b i) ≡ lane_good card bus b i
unfolding unit_by unit_fits settings_given rings_fit queue_fits capacity
lane_by card bus b i h low =
    let f = col b i in
    let o = holds card (On (link_of (f 1))) && leb (f 2 * 256 + f 3) (highest (link_of (f 1))) in
    let g = leb (f 5) 1 && given (limits_by f) in
    let inlet = ring_fits (ring_by f 14 15) 4 in
    turned (leb (f 0) (bus - 1)) (leb (f 1) (highest_link card)) (leb (f 2) (cond (eqb (f 1) 0) 0 15)) (between 1 3 (f 4)) (limits_at f && (rings_at f && fixed_at f))
    ∙ (λ t. below_bus (f 0) bus h t && ((link_by card (f 1) (f 2) (f 3) low t && between 1 3 (f 4)) && (limits_by_lem (f 6) (f 7) (f 8) (f 9) (f 5) t && (rings_at f && fixed_at f))))
    ∙ ap (λ x. ltb (f 0) bus && (((leb (f 1) 1 && o) && between 1 3 (f 4)) && x))
    (guarded g (rings_at f && fixed_at f) (rings_fit (outlet_by f) && (leb (f 9) 1 && (inlet && side_fits (side_by f)))) (λ t.
    let rings = rings_by (ring_by f 16 20) (ring_by f 17 21) (ring_by f 18 22) (ring_by f 19 23) (f 6) (f 5) (λ e. alone (f 6) (f 7) (f 8) (f 9) (f 5) e t) in
    (λ z. rings z && fixed_by f z)))
    ∙ mix (ltb (f 0) bus) (leb (f 1) 1) o (between 1 3 (f 4)) (leb (f 5) 1) (given (limits_by f)) (rings_fit (outlet_by f)) (leb (f 9) 1) inlet (side_fits (side_by f))

-- places judged alike
pub lanes_same : (f g : ℕ → Bool) (count i n : ℕ) → ((j : ℕ) → i ≤ j → j < i + n → f j ≡ g j) → lanes f count i n ≡ lanes g count i n
unfolding lanes
lanes_same f g count i zero e = refl
lanes_same f g count i (suc n) e =
    let r = lanes_same f g count (suc i) n (λ j a l. e j (omega arith) (omega arith)) in
    let u = e i (omega arith) (omega arith) in
    (λ t. (leb count i || u t) && r t)

-- places at or past the count are not asked
pub lanes_past : (f : ℕ → Bool) (count i n : ℕ) → ((j : ℕ) → i ≤ j → j < i + n → count ≤ j) → lanes f count i n ≡ true
unfolding lanes
lanes_past f count i zero h = refl
lanes_past f count i (suc n) h =
    let c = (le_iff count i).1 (h i (omega arith) (omega arith)) in
    let r = lanes_past f count (suc i) n (λ j a l. h j (omega arith) (omega arith)) in
    (λ t. (c t || f i) && r t)

-- all places, as the code goes through them: to begin with, one place more, and the end
module _ (links last : ℕ) (b : List ℕ) (count : ℕ) where
  abbrev pub places : ℕ → ℕ → Bool
  places i n = lanes (λ j. lane_at links last (col b j)) count i n

  pub places_step : (i worst over lane least next : ℕ) → i < 32 → eqb over 0 ≡ leb count i → eqb lane 0 ≡ lane_at links last (col b i) →
      least ≡ lesser over lane → eqb next 0 ≡ (eqb worst 0 && eqb least 0) → (eqb worst 0 && places i (32 - i)) ≡ (eqb next 0 && places (i + 1) (32 - (i + 1)))
  unfolding lanes
  places_step i worst over lane least next h o l m n =
      let here = ap (λ x. eqb x 0) m ∙ lesser_zero over lane ∙ (λ t. o t || l t) in
      let rest : 32 - i ≡ suc (32 - (i + 1)) = omega arith in
      ap (λ r. eqb worst 0 && places i r) rest
      ∙ (λ t. eqb worst 0 && (sym here t && places (sym (add-one i) t) (32 - (i + 1))))
      ∙ sym (and_assoc (eqb worst 0) (eqb least 0) (places (i + 1) (32 - (i + 1))))
      ∙ (λ t. sym n t && places (i + 1) (32 - (i + 1)))

  pub places_left : (i end : ℕ) → end ≤ i → (count ≤ end) ⊎ (end ≡ 32) → places i (32 - i) ≡ true
  places_left i end h c =
      lanes_past (λ j. lane_at links last (col b j)) count i (32 - i) (λ j a l. ⊎_elim (λ m. omega arith) (λ m. absurd (omega arith)) c)

  pub places_end : (card : Card) (bus i worst : ℕ) → 0 < bus → ((j : ℕ) → get_or b j 0 < 256) → links ≡ highest_link card → last ≡ bus - 1 → places i (32 - i) ≡ true →
      (eqb worst 0 && places i (32 - i)) ≡ places 0 32 → eqb worst 0 ≡ lanes (lane_good card bus b) count 0 32
  unfolding lanes
  places_end card bus i worst h bytes e l end t =
      sym (ap (λ p. eqb worst 0 && p) end ∙ and-true (eqb worst 0)) ∙ t
      ∙ lanes_same (λ j. lane_at links last (col b j)) (lane_good card bus b) count 0 32 (λ j a k. (λ t. lane_at (e t) (l t) (col b j)) ∙ lane_by card bus b j h (bytes (3 * 32 + j)))
