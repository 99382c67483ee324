-- Sessions written one behind the other, and the place of a unit that was found. Assumes nothing.
use Rattle.std.specs.Prelude.{Some}
use mathlib.Core.Path.{◌≡◌}
use mathlib.Core.List.{List}
use Prim.Native.Nat.{ℕ, ◌+◌, ◌≤◌, ◌<◌, min}
use native.Mathlib.Numerals.{add-one}
use native.Mathlib.Omega.{arith}
use lib.ListN.{length}
use Rattle.text.specs.Writing.{Wrote}
use Rattle.text.proofs.Splices.{nothing, then}
use Rattle.shelf.specs.Shelves.{declared, find_in}
use Rattle.shelf.proofs.Finding.{declared_length, find_at}
use Rattle.state.specs.Bytes.{shelf_in}
use Rattle.state.proofs.Laws.{units_length}
use Rattle.named.specs.Named.{session_text, heard_below}

pub no_session : (b sessions : List ℕ) (k : ℕ) → Wrote b k (heard_below sessions 0) k b
unfolding heard_below
no_session b sessions k = nothing b k

-- one session more
pub next_session : (b b₁ b₂ sessions : List ℕ) (i k p q : ℕ) → Wrote b k (heard_below sessions i) p b₁ → Wrote b₁ p (session_text sessions i) q b₂ → p ≤ length b → Wrote b k (heard_below sessions (i + 1)) q b₂
unfolding heard_below
next_session b b₁ b₂ sessions i k p q w x room = rw add-one (then b b₁ b₂ (heard_below sessions i) (session_text sessions i) k p q w x room)

-- a unit that is found stands below 32
pub found_below : (b : List ℕ) (number i : ℕ) → find_in (declared (shelf_in b)) number ≡ Some i → i < 32
found_below b number i e =
    let f = ((find_at number (declared (shelf_in b)) i).0 e).inside in
    let n : length (declared (shelf_in b)) ≡ min (shelf_in b).count 32 = declared_length (shelf_in b) (units_length b 0 32) in
    omega arith
