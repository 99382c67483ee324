-- A table that is let through has a row for each unit. Assumes nothing.
use Prim.Native.Nat.{ℕ, ◌*◌, ◌≤◌}
use native.Mathlib.Omega.{arith}
use mathlib.Core.Path.{◌≡◌, refl}
use mathlib.Core.Bool.{Bool, true, false, cond, ◌||◌}
use mathlib.Core.List.{List}
use lib.Dec.{ltb}
use borrow.Author.Tests.{ltb-false}
use Rattle.card.specs.declared.Card.{Card}
use Rattle.lookup.specs.Record.{usable}
use Rattle.table.specs.Loading.{Loading}
use Rattle.table.specs.Load.{ran_of, too_little, loading_of, is_long, load}
use Rattle.meaning.specs.Told.{shelf_of}
use Rattle.meaning.specs.Lines.{Ran, done, stopped}

chosen : (P : Loading → Type 0) (b : Bool) {x y : Loading} → (b ≡ true → P x) → (b ≡ false → P y) → P (cond b x y)
chosen P true px py = px refl
chosen P false px py = py refl

-- neither test of Store holds
right : (a b : Bool) → (a || b) ≡ false → b ≡ false
right true b e = let z : ◌≡◌ {A = Bool} b false = cc in z
right false b e = e

ran_rows : (ran : Ran) (store rows : ℕ) → (loading_of ran store rows).shelf.count ≤ rows
unfolding loading_of
ran_rows (stopped told n verdict) store rows = omega arith
ran_rows (done told) store rows =
    chosen (λ (l : Loading). l.shelf.count ≤ rows) (too_little (shelf_of told) store rows) (λ e. omega arith)
    (λ e. ltb-false rows (shelf_of told).count (right (ltb store (8192 * (shelf_of told).count)) (ltb rows (shelf_of told).count) e))

pub load_rows : (card : Card) (text memory : List ℕ) (store rows : ℕ) → (load card text memory store rows).shelf.count ≤ rows
unfolding load
load_rows card text memory store rows =
    chosen (λ (l : Loading). l.shelf.count ≤ rows) (is_long text) (λ e. omega arith) (λ e. ran_rows (ran_of card (usable memory) text) store rows)
