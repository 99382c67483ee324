-- A number's bytes say the number, and bytes are the bytes of the number that they say. Assumes nothing.
use mathlib.Core.Path.{◌≡◌, ap₂, ◌∙◌}
use mathlib.Core.List.{List, [], ◌∷◌, ◌++◌}
use Prim.Native.Nat.{ℕ, ◌+◌, ◌*◌, ◌/◌, ◌%◌, ◌^◌, ◌<◌, ◌≤◌}
use native.Mathlib.Omega.{arith}
use lib.ListN.{length, get_or-append}
use Rattle.octets.specs.Octets.{be2, be4, two, four}

pub two_be2 : (n : ℕ) (r : List ℕ) → n < 65536 → two (be2 n ++ r) 0 ≡ n
two_be2 n r h = omega arith

pub four_be4 : (n : ℕ) (r : List ℕ) → n < 2 ^ 32 → four (be4 n ++ r) 0 ≡ n
four_be4 n r h = ap₂ (λ x y. x * 65536 + y) (two_be2 (n / 65536) [] (omega arith)) (two_be2 (n % 65536) [] (omega arith)) ∙ omega arith

pub be2_two : (a b : ℕ) → a < 256 → b < 256 → be2 (a * 256 + b) ≡ a ∷ b ∷ []
be2_two a b ha hb =
    let high : (a * 256 + b) / 256 % 256 ≡ a = omega arith in
    let low : (a * 256 + b) % 256 ≡ b = omega arith in
    ap₂ (λ x y. x ∷ y ∷ []) high low

pub two_lt : (a b : ℕ) → a < 256 → b < 256 → a * 256 + b < 65536
two_lt a b ha hb = omega arith

pub be4_four : (a b c d : ℕ) → a < 256 → b < 256 → c < 256 → d < 256 → be4 ((a * 256 + b) * 65536 + (c * 256 + d)) ≡ a ∷ b ∷ c ∷ d ∷ []
be4_four a b c d ha hb hc hd =
    let x = a * 256 + b in
    let y = c * 256 + d in
    let hy : y < 65536 = omega arith in
    let high : (x * 65536 + y) / 65536 ≡ x = omega arith in
    let low : (x * 65536 + y) % 65536 ≡ y = omega arith in
    ap₂ (λ m n. be2 m ++ be2 n) high low ∙ ap₂ ◌++◌ (be2_two a b ha hb) (be2_two c d hc hd)

-- what follows is not read
pub two_append : (b r : List ℕ) (k : ℕ) → k + 2 ≤ length b → two (b ++ r) k ≡ two b k
two_append b r k h = ap₂ (λ x y. x * 256 + y) (get_or-append b r 0 k (omega arith)) (get_or-append b r 0 (k + 1) (omega arith))

pub four_append : (b r : List ℕ) (k : ℕ) → k + 4 ≤ length b → four (b ++ r) k ≡ four b k
four_append b r k h = ap₂ (λ x y. x * 65536 + y) (two_append b r k (omega arith)) (two_append b r (k + 2) (omega arith))
