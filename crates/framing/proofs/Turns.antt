-- One declared unit of lent bytes at a time: what it asks, what it hears. Assumes nothing.
use Rattle.std.proofs.Common.{◌≡◌, ℕ, zero, suc, ◌+◌, ◌-◌, ◌<◌, ◌≤◌, min, Bool, List, [], ◌∷◌, get_or, take, drop, set, sym, refl, ap, ◌∙◌, add-one, arith, drop_of_length-le, drop-cons}
use Rattle.bus.specs.Heard as H
use Rattle.store.specs.Places.{Cell}
use Rattle.arbiter.specs.Arbitration.{asks_now}
use Rattle.shelf.specs.Shelves.{declared, waiting, blank}
use Rattle.shelf.specs.declared.Unit as U
use Rattle.shelf.proofs.Finding.{declared_length, declared_at}
use Rattle.state.specs.Bytes.{col, unit_by, unit_in, units_from, shelf_in}
use Rattle.state.proofs.Laws.{units_length, unit_at_lem}
use Rattle.framing.specs.Requests.{asking_of}
use Rattle.framing.specs.Scenes.{Scene, turn, turns}

-- units whose bytes are the same
pub units_same : (a b : List ℕ) (k n : ℕ) → ((j : ℕ) → k ≤ j → j < k + n → unit_in a j ≡ unit_in b j) → units_from a k n ≡ units_from b k n
unfolding units_from
units_same a b k zero e = refl
units_same a b k (suc n) e = let r = units_same a b (suc k) n (λ j h l. e j (omega arith) (omega arith)) in let u = e k (omega arith) (omega arith) in (λ t. u t ∷ r t)

-- the first so many of them
pub units_taken : (b : List ℕ) (i k n m : ℕ) → m ≡ min k n → take k (units_from b i n) ≡ units_from b i m
unfolding units_from
units_taken b i zero n zero e = refl
units_taken b i zero n (suc m) e = absurd (omega arith)
units_taken b i (suc k) zero zero e = refl
units_taken b i (suc k) zero (suc m) e = absurd (omega arith)
units_taken b i (suc k) (suc n) zero e = absurd (omega arith)
units_taken b i (suc k) (suc n) (suc m) e = ap (λ us. unit_in b i ∷ us) (units_taken b (suc i) k n m (omega arith))

pub units_declared : (b : List ℕ) → units_from b 0 (min (get_or b 805 0) 32) ≡ declared (shelf_in b)
units_declared b = sym (units_taken b 0 (get_or b 805 0) 32 (min (get_or b 805 0) 32) refl)

module _ (b : List ℕ) (i : ℕ) where
  -- no unit is left
  pub none_left : min (shelf_in b).count 32 ≤ i → drop i (declared (shelf_in b)) ≡ []
  none_left h = drop_of_length-le (declared (shelf_in b)) {i = i} (omega (arith, declared_length (shelf_in b) (units_length b 0 32)))

  module _ (less : i < min (shelf_in b).count 32) where
    -- the next of those that are left
    one_left : drop i (declared (shelf_in b)) ≡ unit_in b i ∷ drop (i + 1) (declared (shelf_in b))
    one_left =
        drop-cons (declared (shelf_in b)) i blank (omega (arith, declared_length (shelf_in b) (units_length b 0 32)))
        ∙ (λ k. (declared_at (shelf_in b) i blank (omega (arith, less)) ∙ unit_at_lem b i blank (omega (arith, less))) k ∷ drop (sym (add-one i) k) (declared (shelf_in b)))

    pub asked : (granted : ℕ) (now after : List ℕ) → after ≡ set now (col b i 0) (asks_now granted (col b i 0) (col b i 4) (waiting (unit_in b i))) →
        asking_of granted now (drop i (declared (shelf_in b))) ≡ asking_of granted after (drop (i + 1) (declared (shelf_in b)))
    unfolding asking_of unit_by
    asked granted now after e = ap (asking_of granted now) one_left ∙ ap (λ x. asking_of granted x (drop (i + 1) (declared (shelf_in b)))) (sym e)

pub asks_none : (granted : ℕ) (now : List ℕ) (us : List U.Unit) → us ≡ [] → asking_of granted now us ≡ now
unfolding asking_of
asks_none granted now us e = ap (asking_of granted now) e

-- one place more has heard
abbrev pub scene : List ℕ → List ℕ → List ℕ → ℕ → Bool → Scene
scene b store each copies addressed = record { bytes = b; store = store; tally = record { each = each; copies = copies; addressed = addressed } }

pub turns_step : (h : H.Heard) (cell : Cell) (i n : ℕ) (x y : Scene) → i < n → turn h cell i x ≡ y → turns h cell i (n - i) x ≡ turns h cell (i + 1) (n - (i + 1)) y
unfolding turns
turns_step h cell i n x y less e =
    let m : n - i ≡ suc (n - (i + 1)) = omega arith in
    ap (λ k. turns h cell i k x) m ∙ (λ t. turns h cell (sym (add-one i) t) (n - (i + 1)) (e t))

pub turns_end : (h : H.Heard) (cell : Cell) (i n : ℕ) (x : Scene) → n ≤ i → turns h cell i (n - i) x ≡ x
unfolding turns
turns_end h cell i n x e = let m : n - i ≡ 0 = omega arith in ap (λ k. turns h cell i k x) m
