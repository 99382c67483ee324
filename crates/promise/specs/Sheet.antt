-- The check of the routing header as data sheet 004 has it: "calculated over the 12-bit word (X11-X0) .. using the following logic".
-- Assumes nothing.
use Rattle.std.specs.Prelude.{ℕ, Bool, [], ◌∷◌}
use Rattle.std.specs.Bool.{xor}
use Rattle.remainder.specs.Bits.{bit, number}

infixl 60 ◌⊕◌
abbrev ◌⊕◌ : Bool → Bool → Bool
◌⊕◌ = xor

-- X k is bit k of the word
unfoldable pub sheet : ℕ → ℕ
sheet word =
    let X : ℕ → Bool = λ k. bit k word in
    let H3 = X 7 ⊕ X 9 ⊕ X 3 ⊕ X 10 ⊕ X 8 ⊕ X 5 ⊕ X 2 in
    let H2 = X 6 ⊕ X 8 ⊕ X 2 ⊕ X 9 ⊕ X 7 ⊕ X 4 ⊕ X 1 in
    let H1 = X 5 ⊕ X 7 ⊕ X 1 ⊕ X 8 ⊕ X 6 ⊕ X 3 ⊕ X 0 in
    let H0 = X 8 ⊕ X 10 ⊕ X 11 ⊕ X 4 ⊕ X 9 ⊕ X 6 ⊕ X 3 ⊕ X 0 in
    number (H3 ∷ H2 ∷ H1 ∷ H0 ∷ [])
