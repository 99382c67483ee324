-- A routing header says the target and the class that it was made of. Assumes nothing.
use mathlib.Core.Path.{◌≡◌, sym, ap, ◌∙◌}
use Prim.Native.Nat.{ℕ, ◌+◌, ◌*◌, ◌/◌, ◌%◌, ◌<◌}
use native.Mathlib.Nat.{mod-eq_of_lt}
use native.Mathlib.Omega.{arith}
use borrow.Author.Tests.{eq-eqb, ne_eqb, le-leb}
use lib.Bits.{bit_xor}
use Rattle.std.specs.Prelude.{Some, None}
use Rattle.remainder.proofs.Laws.{residue_lt, residue_linear}
use Rattle.bus.specs.Routing.{Sayable, divisor, check, upper, routing, controlling, kind_in, class_in, number_in, said, address}
use Rattle.bus.specs.declared.Target.{Target}
use Rattle.bus.specs.declared.Target.TheVariants.{Unit as U·, Session, All}
use Rattle.bus.specs.declared.Address.TheVariants.{To, Third}

-- a routing header put together of kind k, class q, number n and check c, and taken apart
module _ (k q n c : ℕ) (hk : k < 4) (hq : q < 4) (hn : n < 256) (hc : c < 16) where
  r : ℕ
  r = (k * 1024 + q * 256 + n) * 16 + c

  r_upper : r / 16 ≡ k * 1024 + q * 256 + n
  unfolding r
  r_upper = omega arith

  r_check : r % 16 ≡ c
  unfolding r
  r_check = omega arith

  r_kind : kind_in r ≡ k
  unfolding r
  r_kind = omega arith

  r_class : class_in r ≡ q
  unfolding r
  r_class = omega arith

  r_number : number_in r ≡ n
  unfolding r
  r_number = omega arith

-- a routing header whose check k is right, and one whose check is not
pub checked : (r k : ℕ) → k ≡ check (r / 16) → k ≡ r % 16 → address r ≡ said (kind_in r) (class_in r) (number_in r)
unfolding address
checked r k e h = rw (eq-eqb (check (r / 16)) (r % 16) (sym e ∙ h))

pub unchecked : (r k : ℕ) → k ≡ check (r / 16) → (k ≡ r % 16 → ⊥) → address r ≡ None
unfolding address
unchecked r k e h = rw (ne_eqb (check (r / 16)) (r % 16) (λ g. h (e ∙ g)))

said_by : (k q n : ℕ) → k < 4 → q < 4 → n < 256 → address ((k * 1024 + q * 256 + n) * 16 + check (k * 1024 + q * 256 + n)) ≡ said k q n
unfolding r check
said_by k q n hk hq hn =
    let u = k * 1024 + q * 256 + n in
    let hc = residue_lt divisor 12 u in
    checked (r k q n (check u) hk hq hn hc) (check u) (ap check (sym (r_upper k q n (check u) hk hq hn hc))) (sym (r_check k q n (check u) hk hq hn hc))
    ∙ (λ i. said (r_kind k q n (check u) hk hq hn hc i) (r_class k q n (check u) hk hq hn hc i) (r_number k q n (check u) hk hq hn hc i))

-- a routing header says what it was made of
pub address_routing : (target : Target) (class : ℕ) → Sayable target → class < 4 → address (routing target class) ≡ Some (To target class)
unfolding routing upper
address_routing (U· unit) class s h = rw (mod-eq_of_lt h) (said_by 0 class unit (omega arith) h (omega arith) ∙ rw (le-leb unit 31 s))
address_routing (Session session) class s h = rw (mod-eq_of_lt h) (said_by 1 class session (omega arith) h s)
address_routing All class s h = rw (mod-eq_of_lt h) (said_by 2 class 0 (omega arith) h (omega arith))

pub routing_lt : (target : Target) (class : ℕ) → Sayable target → routing target class < 65536
unfolding routing upper check
routing_lt (U· unit) class s = omega (arith, residue_lt divisor 12 (upper (U· unit) class))
routing_lt (Session session) class s = omega (arith, residue_lt divisor 12 (upper (Session session) class))
routing_lt All class s = omega (arith, residue_lt divisor 12 (upper All class))

-- and so does that of a control cell
pub address_controlling : (unit : ℕ) → unit < 256 → address (controlling unit) ≡ Some (Third 0 unit)
unfolding controlling
address_controlling unit h = said_by 3 0 unit (omega arith) (omega arith) h

pub controlling_lt : (unit : ℕ) → unit < 256 → controlling unit < 65536
unfolding controlling check
controlling_lt unit h = omega (arith, residue_lt divisor 12 (3 * 1024 + unit))

-- the check is linear
pub check_linear : (a b : ℕ) → check (bit_xor a b) ≡ bit_xor (check a) (check b)
unfolding check
check_linear a b = residue_linear divisor 12 a b
