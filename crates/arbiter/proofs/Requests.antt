-- Whether a unit asks, which is the first, which priority is the highest. Assumes nothing.
use mathlib.Core.Path.{◌≡◌, refl, sym, ap, ◌∙◌}
use mathlib.Core.Bool.{Bool, true, false, ◌||◌, cond, or-true, false≢true}
use mathlib.Core.List.{List, [], ◌∷◌, ◌++◌, append-nil}
use Prim.Native.Nat.{ℕ, zero, suc, ◌+◌, ◌≤◌, ◌<◌}
use native.Mathlib.Numerals.{add-one, unary_clauses}
use native.Mathlib.Omega.{arith}
use lib.Dec.{eqb}
use lib.ListN.{length, get_or, set, take, drop, drop_of_length-le, get_or-eq_default}
use lib.Seq.{drop-cons, take_all, take-suc-set, drop-set-lt, append_snoc}
use borrow.Author.Tests.{eq-eqb, ne_eqb, eqb-true, eqb-false, le-leb, lt-leb}
use Rattle.arbiter.proofs.Order.{units_length, unit_at_lem, cyclic_length, cyclic_has}
use Rattle.std.specs.List.{list_any}
use Rattle.arbiter.specs.Arbitration.{run, besides, asking, due, renewed_from, units, cyclic, nobody, asks_at, some_asks, highest, first, FirstOf}

-- one number is another, or is not
pub same_or : {P : Type 0} (m n : ℕ) → (m ≡ n → P) → ((m ≡ n → ⊥) → P) → P
same_or {P} m n f g = pick (eqb m n) refl
  where
    pick : (b : Bool) → eqb m n ≡ b → P
    pick true t = f (eqb-true m n t)
    pick false t = g (eqb-false m n t)

module _ (asks : List ℕ) (priority : ℕ) where
  -- some unit asks exactly where one of the requests is the priority
  any_run : (n count : ℕ) → n + count ≤ length asks → list_any (λ ask. eqb ask priority) (take count (drop n asks)) ≡ some_asks asks priority (run n count)
  unfolding some_asks run
  any_run n zero h = refl
  any_run n (suc count) h = rw (drop-cons asks n 0 (omega arith)) (ap (λ t. asks_at asks priority n || t) (any_run (suc n) count (omega arith)))

  pub any_unit : length asks ≡ 32 → list_any (λ ask. eqb ask priority) asks ≡ some_asks asks priority units
  any_unit l = ap (list_any (λ ask. eqb ask priority)) (sym (take_all 32 asks (omega arith))) ∙ any_run 0 32 (omega arith)

  -- the units of the code's search, one at a time
  module _ (last k unit : ℕ) (h : k < 32) (u : unit ≡ get_or (cyclic last) k 0) where
    behind : drop k (cyclic last) ≡ unit ∷ drop (k + 1) (cyclic last)
    behind =
        let l = cyclic_length last in
        drop-cons (cyclic last) k 0 (omega arith) ∙ rw (add-one, ← u)

    pub here : get_or asks unit 0 ≡ priority → first asks priority (drop k (cyclic last)) ≡ unit
    unfolding first
    here e = rw (behind, eq-eqb (get_or asks unit 0) priority e)

    pub later : (get_or asks unit 0 ≡ priority → ⊥) → first asks priority (drop k (cyclic last)) ≡ first asks priority (drop (k + 1) (cyclic last))
    unfolding first
    later e = rw (behind, ne_eqb (get_or asks unit 0) priority e)

  pub nowhere : (last k : ℕ) → 32 ≤ k → first asks priority (drop k (cyclic last)) ≡ nobody
  unfolding first
  nowhere last k h = let l = cyclic_length last in rw (drop_of_length-le (cyclic last) {i = k} (omega arith))

  -- some of an order ask exactly where one of its places has such a unit
  pub some_there : (order : List ℕ) (j : ℕ) → j < length order → get_or asks (get_or order j 0) 0 ≡ priority → some_asks asks priority order ≡ true
  unfolding some_asks
  some_there [] j h e = absurd (omega arith)
  some_there (n ∷ ns) zero h e = rw (eq-eqb (get_or asks n 0) priority e)
  some_there (n ∷ ns) (suc j) h e = rw (some_there ns j (omega arith) e) (or-true (asks_at asks priority n))

  -- and the first of them is the first
  pub first_is : (order : List ℕ) → some_asks asks priority order ≡ true → FirstOf asks priority order (first asks priority order)
  unfolding some_asks first
  first_is [] t = absurd (false≢true t)
  first_is (n ∷ ns) t =
      same_or (get_or asks n 0) priority
      (λ e. rw (eq-eqb (get_or asks n 0) priority e) (record { place = 0; inside = omega arith; there = refl; asks = e; before = λ j h. absurd (omega arith) }))
      (λ e.
      let u : (asks_at asks priority n || some_asks asks priority ns) ≡ true = t in
      let f = first_is ns (rw (ne_eqb (get_or asks n 0) priority e) at u) in
      let w = f.inside in
      rw (ne_eqb (get_or asks n 0) priority e)
      (record {
        place = suc f.place;
        inside = omega arith;
        there = f.there;
        asks = f.asks;
        before = λ j. elim j as (λ k. k < suc f.place → get_or asks (get_or (n ∷ ns) k 0) 0 ≡ priority → ⊥) [ zero ↦ λ h x. e x | suc m ↦ λ h x. f.before m (omega arith) x ];
      }))

  -- whom the cyclic order asks, all units do
  pub some_cyclic : (last : ℕ) → some_asks asks priority units ≡ true → some_asks asks priority (cyclic last) ≡ true
  some_cyclic last t =
      let f = first_is units t in
      let l = units_length in
      let w = f.inside in
      let k = cyclic_has last f.place (omega arith) in
      let c = cyclic_length last in
      let s = k.1 in
      some_there (cyclic last) k.0 (omega arith)
      (ap (λ n. get_or asks n 0) (k.2 ∙ sym (unit_at_lem f.place (omega arith)) ∙ f.there) ∙ f.asks)

-- a priority that is the highest of those that pass
pub record Highest (passes : ℕ → Bool) (p : ℕ) : Type 0 where
  pub most : p ≤ 3
  pub one : 1 ≤ p → passes p ≡ true
  pub above : (q : ℕ) → 1 ≤ q → q ≤ 3 → passes q ≡ true → q ≤ p

module _ (passes : ℕ → Bool) where
  less : (m q : ℕ) → passes (suc m) ≡ false → q ≤ suc m → passes q ≡ true → q ≤ m
  less m q f h t = same_or q (suc m) (λ e. absurd (false≢true (sym f ∙ ap passes (sym e) ∙ t))) (λ e. omega arith)

  chain : (a b c : Bool) → passes 3 ≡ a → passes 2 ≡ b → passes 1 ≡ c → Highest passes (cond a 3 (cond b 2 (cond c 1 0)))
  chain true b c x y z = record { most = omega arith; one = λ h. x; above = λ q l h t. h }
  chain false true c x y z = record { most = omega arith; one = λ h. y; above = λ q l h t. less 2 q x h t }
  chain false false true x y z = record { most = omega arith; one = λ h. z; above = λ q l h t. less 1 q y (less 2 q x h t) t }
  chain false false false x y z = record { most = omega arith; one = λ h. absurd (omega arith); above = λ q l h t. less 0 q z (less 1 q y (less 2 q x h t) t) t }

pub highest_is : (asks : List ℕ) → Highest (λ p. some_asks asks p units) (highest asks)
unfolding highest
highest_is asks = chain (λ p. some_asks asks p units) (some_asks asks 3 units) (some_asks asks 2 units) (some_asks asks 1 units) refl refl refl

-- a unit asks at its priority exactly if it has a cell besides a granted one
pub asks_with : (priority cells : ℕ) (granted : Bool) → 1 ≤ besides cells granted → asking priority cells granted ≡ priority
unfolding asking
asks_with priority cells granted h = rw (le-leb 1 (besides cells granted) h)

pub asks_without : (priority cells : ℕ) (granted : Bool) → besides cells granted ≡ 0 → asking priority cells granted ≡ 0
unfolding asking
asks_without priority cells granted e = rw (lt-leb 1 (besides cells granted) (omega arith))

-- a request that is due becomes what the unit asks now, and the others stand
module _ (bus frame : ℕ) (now : List ℕ) where
  pub renewed_at : (start : ℕ) (asks : List ℕ) (n : ℕ) → n < length asks →
      get_or (renewed_from bus frame now start asks) n 0 ≡ cond (due bus frame (start + n)) (get_or now (start + n) 0) (get_or asks n 0)
  unfolding renewed_from
  renewed_at start [] n h = absurd (omega arith)
  renewed_at start (a ∷ rest) zero h = simp unary_clauses refl
  renewed_at start (a ∷ rest) (suc n) h = let e : start + suc n ≡ suc start + n = omega arith in rw e (renewed_at (suc start) rest n (omega arith))

  -- one request of the code's pass: as it is to be, and the rest
  pub renew_next : (asks after : List ℕ) (n : ℕ) → n < length asks →
      after ≡ set asks n (cond (due bus frame n) (get_or now n 0) (get_or asks n 0)) →
      (take n asks ++ renewed_from bus frame now n (drop n asks)) ≡ (take (n + 1) after ++ renewed_from bus frame now (n + 1) (drop (n + 1) after))
  unfolding renewed_from
  renew_next asks after n h e =
      let v = cond (due bus frame n) (get_or now n 0) (get_or asks n 0) in
      rw (e, add-one, drop-cons asks n 0 h, take-suc-set asks n v h, drop-set-lt (suc n) asks n v (omega arith)) (sym (append_snoc (take n asks) v (renewed_from bus frame now (suc n) (drop (suc n) asks))))

  pub renew_none : (asks : List ℕ) (n : ℕ) → length asks ≤ n → (take n asks ++ renewed_from bus frame now n (drop n asks)) ≡ asks
  unfolding renewed_from
  renew_none asks n h = rw (drop_of_length-le asks {i = n} h, take_all n asks h) (append-nil asks)

-- renewing keeps the number of the requests, and past them nobody asks
pub renewed_many : (bus frame : ℕ) (now : List ℕ) (start : ℕ) (asks : List ℕ) → length (renewed_from bus frame now start asks) ≡ length asks
unfolding renewed_from
renewed_many bus frame now start [] = refl
renewed_many bus frame now start (a ∷ asks) = let h = renewed_many bus frame now (suc start) asks in omega arith

pub renewed_past : (bus frame : ℕ) (now : List ℕ) (start : ℕ) (asks : List ℕ) (n : ℕ) → length asks ≤ n → get_or (renewed_from bus frame now start asks) n 0 ≡ 0
renewed_past bus frame now start asks n h = get_or-eq_default (renewed_from bus frame now start asks) 0 {n = n} (omega (arith, renewed_many bus frame now start asks))
