-- What the functions of this room write and test. Assumes nothing.
use mathlib.Core.Path.{◌≡◌, refl, ap, ◌∙◌}
use mathlib.Core.List.{List, [], ◌∷◌, ◌++◌, append-nil}
use Prim.Native.Nat.{ℕ}
use native.Mathlib.Nat.{zero-add}
use native.Mathlib.Omega.{arith}
use lib.ListN.{length, get_or, take, drop, set, length-drop, drop_of_length-le}
use lib.Seq.{drop-cons, set_at}
use borrow.Author.Tests.{eq-eqb, ne_eqb}
use Rattle.octets.specs.Octets.{be2, be4, splice}
use Rattle.octets.proofs.Parts.{written}
use Rattle.bus.specs.Routing.{controlling}
use Rattle.std.specs.List.{fold}
use Rattle.std.specs.Int.Bits.{bit_xor}
use Rattle.bus.specs.Frame.{cell, exclusive_or, parity, sealed, carried, heard, returned}
use Rattle.bus.specs.Heard.{Length, Damaged}

-- what is written one after the other is the cell
pub composed : (r h : ℕ) (payload b : List ℕ) → length payload ≡ 48 → length b ≡ 56 → splice (splice (splice (splice b 0 (be2 r)) 2 (be2 0)) 4 (be4 h)) 8 payload ≡ cell r 0 h payload
unfolding cell
composed r h payload b lp lb =
    let b₂ = drop 2 b in
    let b₄ = drop 2 b₂ in
    let b₈ = drop 4 b₄ in
    let w₁ = written b [] b (be2 r) 0 refl refl in
    let w₂ = written (splice b 0 (be2 r)) (be2 r) b₂ (be2 0) 2 w₁ refl in
    let w₃ = written (splice (splice b 0 (be2 r)) 2 (be2 0)) (be2 r ++ be2 0) b₄ (be4 h) 4 w₂ refl in
    let nothing : drop (length payload) b₈ ≡ [] = drop_of_length-le b₈ {i = length payload} (simp length-drop (omega arith)) in
    written (splice (splice (splice b 0 (be2 r)) 2 (be2 0)) 4 (be4 h)) (be2 r ++ be2 0 ++ be4 h) b₈ payload 8 w₃ refl
    ∙ ap (λ l. be2 r ++ be2 0 ++ be4 h ++ payload ++ l) nothing ∙ append-nil (be2 r ++ be2 0 ++ be4 h ++ payload)

-- the exclusive-or of bytes is a fold
pub folded : (p : ℕ) (bytes : List ℕ) → fold bit_xor p bytes ≡ exclusive_or p bytes
unfolding exclusive_or
folded p [] = refl
folded p (b ∷ bytes) = folded (bit_xor p b) bytes

-- a cell and its parity, written into 57 bytes
pub sealed_by : (bytes frame : List ℕ) → length bytes ≡ 56 → length frame ≡ 57 → set (splice frame 0 bytes) 56 (parity bytes) ≡ sealed bytes
unfolding sealed
sealed_by bytes frame lb lf =
    ap (λ n. set (bytes ++ drop n frame) 56 (parity bytes)) (zero-add (length bytes) ∙ lb)
    ∙ ap (λ l. set (bytes ++ l) 56 (parity bytes)) (drop-cons frame 56 0 (omega arith))
    ∙ set_at bytes (get_or frame 56 0) (drop 57 frame) (parity bytes) 56 lb
    ∙ ap (λ l. bytes ++ parity bytes ∷ l) (drop_of_length-le frame {i = 57} (omega arith))

-- the tests of a heard frame
pub heard_length : (f : List ℕ) → (length f ≡ 57 → ⊥) → heard f ≡ Length
unfolding heard
heard_length f h = rw (ne_eqb (length f) 57 h)

pub heard_parity : (f : List ℕ) → length f ≡ 57 → (parity (take 56 f) ≡ get_or f 56 0 → ⊥) → heard f ≡ Damaged
unfolding heard
heard_parity f l h = rw (eq-eqb (length f) 57 l, ne_eqb (parity (take 56 f)) (get_or f 56 0) h)

pub heard_carried : (f : List ℕ) → length f ≡ 57 → parity (take 56 f) ≡ get_or f 56 0 → heard f ≡ carried f
unfolding heard
heard_carried f l h = rw (eq-eqb (length f) 57 l, eq-eqb (parity (take 56 f)) (get_or f 56 0) h)

-- a routing header written over a cell's own
pub turned : (c : List ℕ) → splice c 0 (be2 (controlling (get_or c 2 0))) ≡ returned c
unfolding returned
turned c = refl
