-- Laws of long division: it is linear below the digits that it strikes out, so a message of symbols as wide as the divisor's lower part is
-- worked out symbol by symbol, by a table or not. Assumes nothing.
use mathlib.Core.Path.{◌≡◌, refl, sym, ap, ap₂, ◌∙◌}
use mathlib.Core.Bool.{Bool, true, false, cond}
use mathlib.Core.List.{List, [], ◌∷◌, ◌++◌, append_assoc, append-nil}
use Prim.Native.Nat.{ℕ, zero, suc, ◌+◌, ◌-◌, ◌*◌, ◌/◌, ◌%◌, ◌^◌, ◌<◌, ◌≤◌}
use native.Mathlib.Nat.{suc-add, zero-add, le_of_suc-le-suc, not-suc-le-zero, add_comm, mul-mod_left, mod-lt, zero-div, div-eq_of_lt}
use native.Mathlib.Omega.{arith}
use lib.ListN.{length, length-append, length-replicate}
use lib.Bits.{bit_xor, xor_lt}
use lib.Dec.{eqb}
use lib.Pow.{pow_pos, shl-shr, shl_lt, shr-shr}
use Rattle.remainder.specs.Bits.{bits, number}
use Rattle.remainder.specs.Division.{less, minus, divide, zeros, remainder, residue, advance}
use Rattle.remainder.proofs.Minus.{minus_minus, minus_length, minus_append, minus_heads, minus_zeros, minus_both, minus_assoc, zeros_add, below}
use Rattle.remainder.proofs.Digits.{bits_length, bits_xor, bits_append, bits_mod, number_of, number_lt, bits_number}

pub divide_length : (g p : List Bool) (n m : ℕ) → length p ≡ n + m → length (divide g n p) ≡ m
unfolding divide
divide_length g p zero m h = h ∙ zero-add m
divide_length g [] (suc n) m h = absurd (not-suc-le-zero {n = n + m} (omega arith))
divide_length g (true ∷ p) (suc n) m h = divide_length g (minus p g) n m (minus_length p g ∙ omega arith)
divide_length g (false ∷ p) (suc n) m h = divide_length g p n m (omega arith)

divide_nil : (g : List Bool) (n : ℕ) → divide g n [] ≡ []
unfolding divide
divide_nil g zero = refl
divide_nil g (suc n) = refl

divide_add : (g : List Bool) (m n : ℕ) (p : List Bool) → divide g (m + n) p ≡ divide g n (divide g m p)
unfolding divide
divide_add g zero n p = ap (λ k. divide g k p) (zero-add n)
divide_add g (suc m) n [] = ap (λ k. divide g k []) (suc-add m n) ∙ sym (divide_nil g n)
divide_add g (suc m) n (a ∷ p) = ap (λ k. divide g k (a ∷ p)) (suc-add m n) ∙ divide_add g m n (cond a (minus p g) p)

-- what is subtracted below the digits struck out is subtracted from what is left
divide_minus : (g : List Bool) (n : ℕ) (p c : List Bool) → divide g n (minus p (zeros n ++ c)) ≡ minus (divide g n p) c
unfolding divide minus
divide_minus g zero p c = refl
divide_minus g (suc n) [] c = refl
divide_minus g (suc n) (true ∷ p) c = ap (divide g n) (minus_minus p (zeros n ++ c) g) ∙ divide_minus g n (minus p g) c
divide_minus g (suc n) (false ∷ p) c = divide_minus g n p c

-- what stands further below is not touched
divide_append : (g : List Bool) (n : ℕ) (p r : List Bool) → n + length g ≤ length p → divide g n (p ++ r) ≡ divide g n p ++ r
unfolding divide
divide_append g zero p r h = refl
divide_append g (suc n) [] r h = absurd (not-suc-le-zero {n = n + length g} (omega arith))
divide_append g (suc n) (true ∷ p) r h =
    ap (divide g n) (minus_append p g r (omega arith)) ∙ divide_append g n (minus p g) r (omega (arith, minus_length p g))
divide_append g (suc n) (false ∷ p) r h = divide_append g n p r (omega arith)

-- digits p struck out with q below them: as if there were zeros below, less q
upon : (g p q : List Bool) → divide g (length p) (p ++ q) ≡ minus (divide g (length p) (p ++ zeros (length q))) q
upon g p q = ap (divide g (length p)) (below p q) ∙ divide_minus g (length p) (p ++ zeros (length q)) q

pub remainder_length : (g p : List Bool) → length (remainder g p) ≡ length g
unfolding remainder
remainder_length g p = divide_length g (p ++ zeros (length g)) (length p) (length g) (simp (length-append, length-replicate))

-- digits more: what is left so far is h with t below it. The new ones s come below h, are struck out with it, and leave their own remainder
further : (g p s h t : List Bool) → remainder g p ≡ h ++ t → length h ≡ length s → remainder g (p ++ s) ≡ minus (remainder g (minus h s)) (t ++ zeros (length s))
unfolding remainder
further g p s h t e l =
    let n = length s in
    let z = zeros (length g) in
    let q = minus h s in
    let m : length q ≡ n = minus_length h s ∙ l in
    let w : length (t ++ zeros n) ≡ length g =
    length-append t (zeros n) ∙ ap (λ k. length t + k) (length-replicate n false ∙ sym l) ∙ add_comm (length t) (length h)
    ∙ sym (length-append h t) ∙ ap length (sym e) ∙ remainder_length g p
    in
    let so_far : divide g (length p) (p ++ (s ++ z)) ≡ q ++ (t ++ zeros n) =
    upon g p (s ++ z)
    ∙ (λ i. minus (divide g (length p) (p ++ (ap zeros (length-append s z ∙ ap (λ k. n + k) (length-replicate (length g) false) ∙ add_comm n (length g)) ∙ zeros_add (length g) n) i)) (s ++ z))
    ∙ ap (λ r. minus r (s ++ z)) (ap (divide g (length p)) (sym (append_assoc p z (zeros n))) ∙ divide_append g (length p) (p ++ z) (zeros n) (omega (arith, length-append p z, length-replicate (length g) false)) ∙ ap (λ r. r ++ zeros n) e ∙ append_assoc h t (zeros n))
    ∙ minus_heads h s (t ++ zeros n) z l ∙ ap (λ r. q ++ r) (minus_zeros (t ++ zeros n) (length g))
    in
    ap₂ (divide g) (length-append p s) (append_assoc p s z) ∙ divide_add g (length p) n (p ++ (s ++ z)) ∙ ap (divide g n) so_far
    ∙ ap (λ k. divide g k (q ++ (t ++ zeros n))) (sym m) ∙ upon g q (t ++ zeros n) ∙ ap (λ k. minus (divide g (length q) (q ++ zeros k)) (t ++ zeros n)) w

-- a remainder has as many bits as the divisor's lower part
pub residue_lt : (g : List Bool) (v n : ℕ) → residue g v n < 2 ^ length g
unfolding residue
residue_lt g v n = rw (remainder_length g (bits v n)) at (number_lt (remainder g (bits v n)))

residue_bits : (g : List Bool) (v x : ℕ) → bits (length g) (residue g v x) ≡ remainder g (bits v x)
unfolding residue
residue_bits g v x = ap (λ k. bits k (number (remainder g (bits v x)))) (sym (remainder_length g (bits v x))) ∙ bits_number (remainder g (bits v x))

-- zeros less the digits of zero, and digits with zeros below
bits_zero : (n : ℕ) → bits n 0 ≡ zeros n
unfolding bits
bits_zero zero = refl
bits_zero (suc n) = ap₂ ◌∷◌ (ap (λ k. eqb (k % 2) 1) (zero-div (2 ^ n))) (bits_zero n)

bits_raised : (d n x : ℕ) → bits (d + n) (x % 2 ^ d * 2 ^ n) ≡ bits d x ++ zeros n
bits_raised d n x =
    let y = x % 2 ^ d in
    bits_append d n (y * 2 ^ n)
    ∙ ap₂ ◌++◌ (ap (bits d) (shl-shr y n) ∙ bits_mod d x) (sym (bits_mod n (y * 2 ^ n)) ∙ ap (bits n) (mul-mod_left y (2 ^ n)) ∙ bits_zero n)

-- zeros in front do not count
remainder_ahead : (g : List Bool) (j : ℕ) (p : List Bool) → remainder g (zeros j ++ p) ≡ remainder g p
unfolding remainder divide
remainder_ahead g zero p = refl
remainder_ahead g (suc j) p = remainder_ahead g j p

pub residue_ahead : (g : List Bool) (j v n : ℕ) → n < 2 ^ v → residue g (j + v) n ≡ residue g v n
unfolding residue
residue_ahead g j v n h =
    ap (λ b. number (remainder g b)) (bits_append j v n ∙ ap (λ b. b ++ bits v n) (ap (bits j) (div-eq_of_lt h) ∙ bits_zero j))
    ∙ ap number (remainder_ahead g j (bits v n))

-- the number that two numbers' digits leave, one less the other
number_minus : (w a b : ℕ) → a < 2 ^ w → b < 2 ^ w → number (minus (bits w a) (bits w b)) ≡ bit_xor a b
number_minus w a b ha hb = ap number (sym (bits_xor w a b)) ∙ number_of w (bit_xor a b) (xor_lt w a b ha hb)

-- what is taken off both does not count
pub xor_both : (w a b k : ℕ) → a < 2 ^ w → b < 2 ^ w → k < 2 ^ w → bit_xor (bit_xor a k) (bit_xor b k) ≡ bit_xor a b
xor_both w a b k ha hb hk =
    let e = bits_length w a ∙ sym (bits_length w b) in
    sym (number_minus w (bit_xor a k) (bit_xor b k) (xor_lt w a k ha hk) (xor_lt w b k hb hk))
    ∙ ap number (ap₂ minus (bits_xor w a k) (bits_xor w b k) ∙ minus_both (bits w a) (bits w b) (bits w k) e) ∙ number_minus w a b ha hb

-- the remainder of k + n bits, from that of the k high ones
pub advances : (g : List Bool) (n d : ℕ) → length g ≡ n + d → (k m : ℕ) → residue g (k + n) m ≡ advance g n d (residue g k (m / 2 ^ n)) (m % 2 ^ n)
unfolding residue advance
advances g n d e k m =
    let r = residue g k (m / 2 ^ n) in
    let h = bit_xor (r / 2 ^ d) (m % 2 ^ n) in
    let s = bits n m in
    let so_far : remainder g (bits k (m / 2 ^ n)) ≡ bits n (r / 2 ^ d) ++ bits d r =
    sym (residue_bits g k (m / 2 ^ n)) ∙ ap (λ w. bits w r) e ∙ bits_append n d r
    in
    let struck : minus (bits n (r / 2 ^ d)) s ≡ bits n h =
    ap (minus (bits n (r / 2 ^ d))) (sym (bits_mod n m)) ∙ sym (bits_xor n (r / 2 ^ d) (m % 2 ^ n))
    in
    let left : remainder g (bits n h) ≡ bits (n + d) (residue g n h) = sym (residue_bits g n h) ∙ ap (λ w. bits w (residue g n h)) e in
    let under : bits d r ++ zeros (length s) ≡ bits (n + d) (r % 2 ^ d * 2 ^ n) =
    ap (λ l. bits d r ++ zeros l) (bits_length n m) ∙ sym (bits_raised d n r) ∙ ap (λ w. bits w (r % 2 ^ d * 2 ^ n)) (add_comm d n)
    in
    ap (λ b. number (remainder g b)) (bits_append k n m)
    ∙ ap number (further g (bits k (m / 2 ^ n)) s (bits n (r / 2 ^ d)) (bits d r) so_far (bits_length n (r / 2 ^ d) ∙ sym (bits_length n m)) ∙ ap₂ minus (ap (remainder g) struck ∙ left) under)
    ∙ number_minus (n + d) (residue g n h) (r % 2 ^ d * 2 ^ n) (rw e at (residue_lt g n h)) (rw (add_comm d n) at (shl_lt d n (mod-lt r (pow_pos d))))

-- a loop's turn from the highest of so many bits down: those from place `left` up are done, and n more are taken
pub advances_down : (g : List Bool) (n d : ℕ) → length g ≡ n + d → (many left m : ℕ) → n ≤ left → left ≤ many →
    advance g n d (residue g (many - left) (m / 2 ^ left)) (m / 2 ^ (left - n) % 2 ^ n) ≡ residue g (many - (left - n)) (m / 2 ^ (left - n))
advances_down g n d e many left m more some =
    let j = left - n in
    let above : j + n ≡ left = omega arith in
    let next : many - left + n ≡ many - j = omega arith in
    ap (λ x. advance g n d (residue g (many - left) x) (m / 2 ^ j % 2 ^ n)) (ap (λ l. m / 2 ^ l) (sym above) ∙ sym (shr-shr m j n))
    ∙ sym (advances g n d e (many - left) (m / 2 ^ j)) ∙ ap (λ k. residue g k (m / 2 ^ j)) next

-- the remainder is linear: a step on what is left of two, one less the other
step_linear : (a b : Bool) (g p q : List Bool) → length p ≡ length q → cond (less a b) (minus (minus p q) g) (minus p q) ≡ minus (cond a (minus p g) p) (cond b (minus q g) q)
step_linear true true g p q e = sym (minus_both p q g e)
step_linear true false g p q e = minus_minus p q g
step_linear false true g p q e = sym (minus_assoc p q g e)
step_linear false false g p q e = refl

stepped_length : (a : Bool) (g p : List Bool) → length (cond a (minus p g) p) ≡ length p
stepped_length true g p = minus_length p g
stepped_length false g p = refl

divide_linear : (g : List Bool) (n : ℕ) (p q : List Bool) → length p ≡ length q → divide g n (minus p q) ≡ minus (divide g n p) (divide g n q)
unfolding divide minus
divide_linear g zero p q e = refl
divide_linear g (suc n) [] q e = refl
divide_linear g (suc n) (a ∷ p) [] e = absurd (not-suc-le-zero {n = length p} (omega arith))
divide_linear g (suc n) (a ∷ p) (b ∷ q) e =
    let l : length p ≡ length q = omega arith in
    ap (divide g n) (step_linear a b g p q l)
    ∙ divide_linear g n (cond a (minus p g) p) (cond b (minus q g) q) (stepped_length a g p ∙ l ∙ sym (stepped_length b g q))

remainder_linear : (g p q : List Bool) → length p ≡ length q → remainder g (minus p q) ≡ minus (remainder g p) (remainder g q)
unfolding remainder
remainder_linear g p q e =
    let z = zeros (length g) in
    ap₂ (divide g) (minus_length p q) (ap (λ l. minus p q ++ l) (sym (minus_zeros z (length g))) ∙ sym (minus_heads p q z z e))
    ∙ divide_linear g (length p) (p ++ z) (q ++ z) (length-append p z ∙ ap (λ k. k + length z) e ∙ sym (length-append q z))
    ∙ ap (λ k. minus (divide g (length p) (p ++ z)) (divide g k (q ++ z))) e

pub residue_linear : (g : List Bool) (v a b : ℕ) → residue g v (bit_xor a b) ≡ bit_xor (residue g v a) (residue g v b)
unfolding residue
residue_linear g v a b =
    let w = length g in
    ap (λ p. number (remainder g p)) (bits_xor v a b) ∙ ap number (remainder_linear g (bits v a) (bits v b) (bits_length v a ∙ sym (bits_length v b)))
    ∙ ap₂ (λ p q. number (minus p q)) (sym (residue_bits g v a)) (sym (residue_bits g v b)) ∙ number_minus w (residue g v a) (residue g v b) (residue_lt g v a) (residue_lt g v b)
