-- Numbers without needless zeros: such digits of a number are its numeral, and there are no others. Assumes nothing.
use Prim.Native.Nat.{ℕ, zero, suc, ◌+◌, ◌-◌, ◌*◌, ◌/◌, ◌%◌, ◌^◌, ◌≤◌, ◌<◌}
use native.Mathlib.Nat.{pow-suc, le_refl}
use native.Mathlib.Omega.{arith}
use mathlib.Core.Path.{◌≡◌, refl, sym, ap, subst, ◌∙◌}
use mathlib.Core.Bool.{Bool, true, false, not}
use mathlib.Core.List.{List, [], ◌∷◌, ◌++◌, append_assoc, append-nil}
use lib.Dec.{ltb, eqb}
use lib.ListN.{length, get_or, length-append, get_or-append}
use borrow.Author.Tests.{ltb-true, ltb-false, lt-ltb, le-ltb, eqb-true, eqb-false, not-true}
use Rattle.text.specs.Digits.{digit, digits, plain, decimal_of, value}
use Rattle.text.proofs.Numbers.{first, second, within, at_least, one_digit, no_zero}
use Rattle.text.specs.Decimals.{digits_to, decimal}
use Rattle.paper.specs.Words.{numeral_to, numeral, worth, Decimal}
use Rattle.paper.specs.Reads.{NumeralIff, NumeralWritten}

pub decide : {P : Type 0} (b : Bool) → (b ≡ true → P) → (b ≡ false → P) → P
decide true y n = y refl
decide false y n = n refl

-- A. digit by digit, however many there may be
to_digit : (most n : ℕ) → n < 10 → numeral_to most n ≡ (48 + n) ∷ []
unfolding numeral_to
to_digit zero n h = refl
to_digit (suc most) n h = rw (lt-ltb n 10 h)

to_tens : (most n : ℕ) → 10 ≤ n → numeral_to (suc most) n ≡ numeral_to most (n / 10) ++ ((48 + n % 10) ∷ [])
unfolding numeral_to
to_tens most n h = rw (le-ltb n 10 h)

to_enough : (j k n : ℕ) → n ≤ j → n ≤ k → numeral_to j n ≡ numeral_to k n
to_enough zero k n h m = to_digit 0 n (omega arith) ∙ sym (to_digit k n (omega arith))
to_enough (suc j) zero n h m = to_digit (suc j) n (omega arith) ∙ sym (to_digit 0 n (omega arith))
to_enough (suc j) (suc k) n h m =
    decide (ltb n 10)
    (λ t. let s = ltb-true n 10 t in to_digit (suc j) n s ∙ sym (to_digit (suc k) n s))
    (λ t.
    let s = ltb-false n 10 t in
    to_tens j n s ∙ ap (λ x. x ++ ((48 + n % 10) ∷ [])) (to_enough j k (n / 10) (omega arith) (omega arith)) ∙ sym (to_tens k n s))

numeral_digit : (n : ℕ) → n < 10 → numeral n ≡ (48 + n) ∷ []
unfolding numeral
numeral_digit n h = to_digit n n h

numeral_tens : (n : ℕ) → 10 ≤ n → numeral n ≡ numeral (n / 10) ++ ((48 + n % 10) ∷ [])
unfolding numeral
numeral_tens zero h = absurd (omega arith)
numeral_tens (suc n) h = to_tens n (suc n) h ∙ ap (λ x. x ++ ((48 + suc n % 10) ∷ [])) (to_enough n (suc n / 10) (suc n / 10) (omega arith) (le_refl (suc n / 10)))

-- B. digits with no needless zero are the numeral of what they say
-- a digit behind a number
digit_behind : (v b : ℕ) → 1 ≤ v → digit b ≡ true → numeral v ++ (b ∷ []) ≡ numeral (v * 10 + (b - 48))
digit_behind v b h d =
    let r = at_least b d in
    let n = v * 10 + (b - 48) in
    let tens : n / 10 ≡ v = omega (arith, r) in
    let last : 48 + n % 10 ≡ b = omega (arith, r) in
    sym (numeral_tens n (omega (arith, r)) ∙ (λ i. numeral (tens i) ++ (last i ∷ [])))

digits_behind : (v : ℕ) (s : List ℕ) → 1 ≤ v → digits s ≡ true → numeral v ++ s ≡ numeral (value v s)
unfolding digits value
digits_behind v [] h d = append-nil (numeral v)
digits_behind v (b ∷ s) h d =
    sym (append_assoc (numeral v) (b ∷ []) s) ∙ ap (λ x. x ++ s) (digit_behind v b h (first (digit b) (digits s) d))
    ∙ digits_behind (v * 10 + (b - 48)) s (omega arith) (second (digit b) (digits s) d)

alone : (b : ℕ) → digit b ≡ true → b ∷ [] ≡ numeral (b - 48)
alone b d =
    let r = at_least b d in
    let back : b ≡ 48 + (b - 48) = omega (arith, r) in
    ap (λ x. x ∷ []) back ∙ sym (numeral_digit (b - 48) (omega (arith, r)))

pub decimal_numeral : (s : List ℕ) → decimal_of s ≡ true → s ≡ numeral (value 0 s)
unfolding decimal_of plain digits value
decimal_numeral [] d = absurd (let z : ◌≡◌ {A = ℕ} 0 1 = cc in omega arith)
decimal_numeral (b ∷ []) d = alone b (first (digit b) true d) ∙ ap numeral (omega arith)
decimal_numeral (b ∷ c ∷ r) d =
    let lead = eqb-false b 48 (not-true (eqb b 48) (first (not (eqb b 48)) (digits (b ∷ c ∷ r)) d)) in
    let all = second (not (eqb b 48)) (digits (b ∷ c ∷ r)) d in
    let one = first (digit b) (digits (c ∷ r)) all in
    let low = at_least b one in
    ap (λ x. x ++ (c ∷ r)) (alone b one) ∙ digits_behind (b - 48) (c ∷ r) (omega (arith, low, lead)) (second (digit b) (digits (c ∷ r)) all)
    ∙ ap (λ v. numeral (value v (c ∷ r))) (omega arith)

-- C. and the numeral is such digits
-- it is not empty, its digits say the number, and the first is no 0 but of the number 0
pub record Said (n : ℕ) (s : List ℕ) : Type 0 where
  pub some : 0 < length s
  pub digits_all : digits s ≡ true
  pub lead : 1 ≤ n → get_or s 0 0 ≡ 48 → ⊥
  pub short : n ≡ 0 → length s ≡ 1
  pub value_is : value 0 s ≡ n

digits_snoc : (s : List ℕ) (b : ℕ) → digits s ≡ true → digit b ≡ true → digits (s ++ (b ∷ [])) ≡ true
unfolding digits
digits_snoc [] b d e = rw e
digits_snoc (x ∷ s) b d e = rw (first (digit x) (digits s) d) (digits_snoc s b (second (digit x) (digits s) d) e)

value_snoc : (v : ℕ) (s : List ℕ) (b : ℕ) → value v (s ++ (b ∷ [])) ≡ value v s * 10 + (b - 48)
unfolding value
value_snoc v [] b = refl
value_snoc v (x ∷ s) b = value_snoc (v * 10 + (x - 48)) s b

said_digit : (n : ℕ) → n < 10 → Said n ((48 + n) ∷ [])
unfolding digits value
said_digit n h =
    record {
      some = omega arith;
      digits_all = rw (within (48 + n) (omega arith) (omega arith));
      lead = λ l e. omega arith;
      short = λ e. refl;
      value_is = omega arith;
    }

said_tens : (n : ℕ) (s : List ℕ) → 10 ≤ n → Said (n / 10) s → Said n (s ++ ((48 + n % 10) ∷ []))
said_tens n s h r =
    record {
      some = simp length-append (omega arith);
      digits_all = digits_snoc s (48 + n % 10) r.digits_all (within (48 + n % 10) (omega arith) (omega arith));
      lead = λ l e. r.lead (omega arith) (sym (get_or-append s ((48 + n % 10) ∷ []) 0 0 r.some) ∙ e);
      short = λ e. absurd (omega arith);
      value_is = value_snoc 0 s (48 + n % 10) ∙ ap (λ m. m * 10 + (48 + n % 10 - 48)) r.value_is ∙ omega arith;
    }

said_to : (most n : ℕ) → n ≤ most → Said n (numeral_to most n)
said_to zero n h = subst (Said n) (sym (to_digit 0 n (omega arith))) (said_digit n (omega arith))
said_to (suc most) n h =
    decide (ltb n 10)
    (λ t. let s = ltb-true n 10 t in subst (Said n) (sym (to_digit (suc most) n s)) (said_digit n s))
    (λ t. let s = ltb-false n 10 t in subst (Said n) (sym (to_tens most n s)) (said_tens n (numeral_to most (n / 10)) s (said_to most (n / 10) (omega arith))))

pub numeral_said : (n : ℕ) → Said n (numeral n)
unfolding numeral
numeral_said n = said_to n n (le_refl n)

pub numeral_decimal : (n : ℕ) → decimal_of (numeral n) ≡ true
numeral_decimal n =
    let s = numeral_said n in
    let some = s.some in
    decide (ltb 0 n)
    (λ t. sym (no_zero (numeral n) (λ e. omega arith) (s.lead (ltb-true 0 n t))) ∙ s.digits_all)
    (λ t. let h = s.short (let z = ltb-false 0 n t in omega arith) in sym (one_digit (numeral n) (λ e. omega arith) (omega arith)) ∙ s.digits_all)

pub numeral_value : (n : ℕ) → value 0 (numeral n) ≡ n
numeral_value n = (numeral_said n).value_is

-- D. the same, byte by byte
digits_each : (s : List ℕ) → digits s ≡ true → (i : ℕ) → i < length s → (48 ≤ get_or s i 0) × (get_or s i 0 ≤ 57)
unfolding digits
digits_each [] d i h = absurd (omega arith)
digits_each (b ∷ s) d zero h = at_least b (first (digit b) (digits s) d)
digits_each (b ∷ s) d (suc i) h = digits_each s (second (digit b) (digits s) d) i (omega arith)

each_digits : (s : List ℕ) → ((i : ℕ) → i < length s → (48 ≤ get_or s i 0) × (get_or s i 0 ≤ 57)) → digits s ≡ true
unfolding digits
each_digits [] h = refl
each_digits (b ∷ s) h = let r = h 0 (omega arith) in rw (within b r.0 r.1) (each_digits s (λ i k. h (suc i) (omega arith)))

value_worth : (v : ℕ) (s : List ℕ) → value v s ≡ v * 10 ^ length s + worth s
unfolding value worth
value_worth v [] = omega arith
value_worth v (b ∷ s) = value_worth (v * 10 + (b - 48)) s ∙ rw (pow-suc 10 (length s)) (regroup v (b - 48) (10 ^ length s) (worth s))
  where
    regroup : (v d p w : ℕ) → (v * 10 + d) * p + w ≡ v * (p * 10) + (d * p + w)
    regroup v d p w = omega arith

pub numeral_iff : NumeralIff
numeral_iff n text = (forth, back)
  where
    forth : text ≡ numeral n → Decimal n text
    forth e =
        let s = subst (Said n) (sym e) (numeral_said n) in
        record {
          some = s.some;
          digits = digits_each text s.digits_all;
          no_zero = λ z. decide (ltb 0 n) (λ t. absurd (s.lead (ltb-true 0 n t) z)) (λ t. let k = s.short (let m = ltb-false 0 n t in omega arith) in omega arith);
          says = sym (value_worth 0 text ∙ omega arith) ∙ s.value_is;
        }

    back : Decimal n text → text ≡ numeral n
    back d = decimal_numeral text (plain_is (eqb (get_or text 0 0) 48) refl) ∙ ap numeral (value_worth 0 text ∙ omega (arith, d.says))
      where
        all : digits text ≡ true
        all = each_digits text d.digits

        plain_is : (t : Bool) → eqb (get_or text 0 0) 48 ≡ t → decimal_of text ≡ true
        plain_is true e = sym (one_digit text (λ z. omega (arith, d.some)) (omega (arith, d.no_zero (eqb-true (get_or text 0 0) 48 e)))) ∙ all
        plain_is false e = sym (no_zero text (λ z. omega (arith, d.some)) (eqb-false (get_or text 0 0) 48 e)) ∙ all

-- E. what is written
written_digit : (k n : ℕ) → n < 10 → digits_to (suc k) n ≡ numeral n
unfolding digits_to
written_digit k n h = rw (lt-ltb n 10 h) (sym (numeral_digit n h))

written_to : (k n : ℕ) → n < 10 ^ suc k → digits_to (suc k) n ≡ numeral n
unfolding digits_to
written_to zero n h = written_digit 0 n h
written_to (suc k) n h =
    decide (ltb n 10) (λ t. written_digit (suc k) n (ltb-true n 10 t))
    (λ t.
    rw t
    (ap (λ x. x ++ ((48 + n % 10) ∷ [])) (written_to k (n / 10) (tenth (10 ^ suc k) (rw (pow-suc 10 (suc k)) at h))) ∙ sym (numeral_tens n (ltb-false n 10 t))))
  where
    tenth : (p : ℕ) → n < p * 10 → n / 10 < p
    tenth p h = omega arith

pub numeral_written : NumeralWritten
unfolding decimal
numeral_written n h = sym (written_to 19 n h)
