-- What the code's rooms say of cells and frames is what the paper says. Assumes nothing.
use Prim.Native.Nat.{ℕ, zero, suc, ◌+◌, ◌*◌, ◌/◌, ◌%◌, ◌<◌, ◌≤◌}
use native.Mathlib.Nat.{mod-lt, add_assoc, div-div-eq-div-mul, mod-eq_of_lt}
use native.Mathlib.Omega.{arith}
use mathlib.Core.Path.{◌≡◌, refl, sym, ap, subst, ◌∙◌}
use mathlib.Core.Logic.{◌≢◌, ◌↔◌}
use mathlib.Core.Bool.{cond}
use mathlib.Core.List.{List, [], ◌∷◌, ◌++◌}
use lib.Bits.{bit_xor}
use lib.Dec.{eqb, leb}
use lib.ListN.{length, take}
use borrow.Author.Tests.{eqb-true, eqb-false, leb-true, leb-false, le-leb, ne_eqb}
use Rattle.remainder.specs.Bits.{bits, number}
use Rattle.remainder.specs.Division.{remainder, residue}
use Rattle.remainder.proofs.Meant.{remainder_is, remainder_only}
use Rattle.octets.specs.Octets as octets
use Rattle.header.specs.Fields.{fields}
use Rattle.header.specs.Check as header
use Rattle.header.specs.declared.Link.{Link}
use Rattle.header.specs.declared.Link.TheVariants.{Uni, Nni}
use Rattle.bus.specs.Routing as routing
use Rattle.bus.specs.declared.Target as T
use Rattle.bus.specs.declared.Target.TheVariants as target
use Rattle.bus.specs.Frame as bus
use Rattle.std.specs.Prelude.{Some, None}
use Rattle.bus.specs.declared.Address.TheVariants.{To}
use Rattle.bus.specs.Heard as sort
use Rattle.bus.specs.Routing.{Sayable}
use Rattle.bus.proofs.RoutingLaws.{checked, unchecked, address_routing, routing_lt}
use Rattle.bus.proofs.Laws.{heard_parity, heard_carried}
use Rattle.outlet.proofs.Truth.{decide}
use Rattle.paper.specs.Cells.{byte, two, four, four_bytes, vpi, vci, pt, clp, HeaderCheck, kind, class, address, RoutingCheck, Says, RoutingOf, bus_cell, exclusive_or, parity, Damaged, bad_parity, bad_check, unicast_above, broadcast_not, another_class, third_above, tandem_above}

pub four_is : (b : List ℕ) (k : ℕ) → octets.four b k ≡ four b k
four_is b k = rw (add_assoc k 2 1) (omega arith)

pub four_bytes_lem : (n : ℕ) → octets.be4 n ≡ four_bytes n
four_bytes_lem n = λ i. bytes_of (high i) (n / 65536 % 256) (low i) (last i)
  where
    bytes_of : ℕ → ℕ → ℕ → ℕ → List ℕ
    bytes_of a b c d = a ∷ b ∷ c ∷ d ∷ []

    high : n / 65536 / 256 % 256 ≡ n / 16777216 % 256
    high = ap (λ q. q % 256) (div-div-eq-div-mul n 65536 256)

    low : n % 65536 / 256 % 256 ≡ n / 256 % 256
    low = omega arith

    last : n % 65536 % 256 ≡ n % 256
    last = omega arith

pub vpi_is : (link : Link) (w : ℕ) → (fields link w).vpi ≡ vpi link w
unfolding fields
vpi_is Uni w = refl
vpi_is Nni w = refl

pub fields_are : (link : Link) (w : ℕ) → ((fields link w).vci ≡ vci w) × ((fields link w).pt ≡ pt w) × ((fields link w).clp ≡ clp w)
unfolding fields
fields_are link w = (refl, refl, refl)

pub check_iff : (h c : ℕ) → (header.check h ≡ c) ↔ HeaderCheck h c
unfolding header.check residue
check_iff h c = (
  λ e. record { left = remainder header.divisor (bits 32 h); remainder = remainder_is header.divisor (bits 32 h); then = sym e },
  λ k. ap (λ r. bit_xor (number r) 0x55) (sym (remainder_only header.divisor (bits 32 h) k.left k.remainder)) ∙ sym k.then,
)

pub routing_check_iff : (r : ℕ) → (routing.check (r / 16) ≡ r % 16) ↔ RoutingCheck r
unfolding routing.check residue
routing_check_iff r = (
  λ e. record { left = remainder routing.divisor (bits 12 (r / 16)); remainder = remainder_is routing.divisor (bits 12 (r / 16)); is = sym e },
  λ k. ap number (sym (remainder_only routing.divisor (bits 12 (r / 16)) k.left k.remainder)) ∙ sym k.is,
)

pub xor_is : (p : ℕ) (bytes : List ℕ) → bus.exclusive_or p bytes ≡ exclusive_or p bytes
unfolding bus.exclusive_or exclusive_or
xor_is p [] = refl
xor_is p (b ∷ bytes) = xor_is (bit_xor p b) bytes

-- kind k, class q, address n and first tandem byte t say a target, or are of a control or a loopback cell, or are bad
data BadAddress (k q n t : ℕ) : Type 0 where
  unit_above : k ≡ 0 → 31 < n → BadAddress k q n t
  all_not : k ≡ 2 → n ≢ 0 → BadAddress k q n t
  class_above : k ≡ 3 → 1 < q → BadAddress k q n t
  address_above : k ≡ 3 → 31 < n → BadAddress k q n t
  back_above : k ≡ 3 → q ≡ 1 → 31 < t → BadAddress k q n t

data Sorted (k q n t : ℕ) : Type 0 where
  bad : BadAddress k q n t → ((h : ℕ) → bus.delivered (routing.said k q n) t h ≡ sort.Damaged) → Sorted k q n t
  good : (BadAddress k q n t → ⊥) → (x : T.Target) → Says x k n → routing.said k q n ≡ Some (To x q) → Sorted k q n t
  control : (BadAddress k q n t → ⊥) → k ≡ 3 → q ≡ 0 → ((h : ℕ) → bus.delivered (routing.said k q n) t h ≡ sort.Control n) → Sorted k q n t
  loopback : (BadAddress k q n t → ⊥) → k ≡ 3 → q ≡ 1 → ((h : ℕ) → bus.delivered (routing.said k q n) t h ≡ sort.Loopback n) → Sorted k q n t

-- kinds 0 to 2
sound_unit : (q n t : ℕ) → n ≤ 31 → BadAddress 0 q n t → ⊥
sound_unit q n t h (unit_above e m) = omega arith
sound_unit q n t h (all_not e m) = omega arith
sound_unit q n t h (class_above e m) = omega arith
sound_unit q n t h (address_above e m) = omega arith
sound_unit q n t h (back_above e c m) = omega arith

sound_session : (q n t : ℕ) → BadAddress 1 q n t → ⊥
sound_session q n t (unit_above e m) = omega arith
sound_session q n t (all_not e m) = omega arith
sound_session q n t (class_above e m) = omega arith
sound_session q n t (address_above e m) = omega arith
sound_session q n t (back_above e c m) = omega arith

sound_all : (q n t : ℕ) → n ≡ 0 → BadAddress 2 q n t → ⊥
sound_all q n t h (unit_above e m) = omega arith
sound_all q n t h (all_not e m) = m h
sound_all q n t h (class_above e m) = omega arith
sound_all q n t h (address_above e m) = omega arith
sound_all q n t h (back_above e c m) = omega arith

-- kind 3
sound_third : (q n t : ℕ) → q ≤ 1 → n ≤ 31 → (q ≡ 1 → t ≤ 31) → BadAddress 3 q n t → ⊥
sound_third q n t hq hn ht (unit_above e m) = omega arith
sound_third q n t hq hn ht (all_not e m) = omega arith
sound_third q n t hq hn ht (class_above e m) = omega arith
sound_third q n t hq hn ht (address_above e m) = omega arith
sound_third q n t hq hn ht (back_above e c m) = let h = ht c in omega arith

third : (q n t : ℕ) → n ≤ 31 → Sorted 3 q n t
unfolding bus.third
third zero n t h = control (sound_third 0 n t (omega arith) h (λ e. omega arith)) refl refl (λ header. rw (le-leb n 31 h))
third (suc zero) n t h =
    decide (leb t 31)
    (λ low. loopback (sound_third 1 n t (omega arith) h (λ e. leb-true t 31 low)) refl refl (λ header. rw (le-leb n 31 h, low)))
    (λ high. bad (back_above refl refl (leb-false t 31 high)) (λ header. rw (le-leb n 31 h, high)))
third (suc (suc q)) n t h =
    bad (class_above refl (omega arith)) (λ header. rw (le-leb n 31 h, ne_eqb (suc (suc q)) 0 (λ e. omega arith), ne_eqb (suc (suc q)) 1 (λ e. omega arith)))

sorted : (k q n t : ℕ) → k < 4 → Sorted k q n t
unfolding bus.third
sorted zero q n t h =
    decide (leb n 31)
    (λ low. good (sound_unit q n t (leb-true n 31 low)) (target.Unit n) (refl, refl) (rw low))
    (λ high. bad (unit_above refl (leb-false n 31 high)) (λ header. rw high))
sorted (suc zero) q n t h = good (sound_session q n t) (target.Session n) (refl, refl) refl
sorted (suc (suc zero)) q n t h =
    decide (eqb n 0)
    (λ none. good (sound_all q n t (eqb-true n 0 none)) target.All (refl, eqb-true n 0 none) (rw none))
    (λ some. bad (all_not refl (eqb-false n 0 some)) (λ header. rw some))
sorted (suc (suc (suc zero))) q n t h =
    decide (leb n 31) (λ low. third q n t (leb-true n 31 low)) (λ high. bad (address_above refl (leb-false n 31 high)) (λ header. rw high))
sorted (suc (suc (suc (suc k)))) q n t h = absurd (omega arith)

-- what 57 bytes are heard as: damaged, a data cell, or a control or a loopback cell for a unit
pub data HeardAs (f : List ℕ) : Type 0 where
  as_damaged : Damaged f → bus.heard f ≡ sort.Damaged → HeardAs f
  as_cell : (Damaged f → ⊥) → (t : T.Target) → Says t (kind (two f 0)) (address (two f 0)) → bus.heard f ≡ sort.Cell t (class (two f 0)) (four f 4) → HeardAs f
  as_control : (Damaged f → ⊥) → kind (two f 0) ≡ 3 → class (two f 0) ≡ 0 → bus.heard f ≡ sort.Control (address (two f 0)) → HeardAs f
  as_loopback : (Damaged f → ⊥) → kind (two f 0) ≡ 3 → class (two f 0) ≡ 1 → bus.heard f ≡ sort.Loopback (address (two f 0)) → HeardAs f

module _ (f : List ℕ) (whole : length f ≡ 57) where
  abbrev k : ℕ
  k = kind (two f 0)

  abbrev q : ℕ
  q = class (two f 0)

  abbrev n : ℕ
  n = address (two f 0)

  bad_by : BadAddress k q n (byte f 2) → Damaged f
  bad_by (unit_above e h) = unicast_above e h
  bad_by (all_not e h) = broadcast_not e h
  bad_by (class_above e h) = another_class e h
  bad_by (address_above e h) = third_above e h
  bad_by (back_above e c h) = tandem_above e c h

  not_by : parity (take 56 f) ≡ byte f 56 → RoutingCheck (two f 0) → (BadAddress k q n (byte f 2) → ⊥) → Damaged f → ⊥
  not_by p c a (bad_parity h) = h p
  not_by p c a (bad_check h) = h c
  not_by p c a (unicast_above e h) = a (unit_above e h)
  not_by p c a (broadcast_not e h) = a (all_not e h)
  not_by p c a (another_class e h) = a (class_above e h)
  not_by p c a (third_above e h) = a (address_above e h)
  not_by p c a (tandem_above e g h) = a (back_above e g h)

  by_address : parity (take 56 f) ≡ byte f 56 → RoutingCheck (two f 0) → bus.heard f ≡ bus.delivered (routing.said k q n) (byte f 2) (octets.four f 4) → Sorted k q n (byte f 2) → HeardAs f
  by_address p c e (bad b d) = as_damaged (bad_by b) (e ∙ d (octets.four f 4))
  by_address p c e (good s t says d) = as_cell (not_by p c s) t says (e ∙ ap (λ a. bus.delivered a (byte f 2) (octets.four f 4)) d ∙ ap (sort.Cell t q) (four_is f 4))
  by_address p c e (control s third none d) = as_control (not_by p c s) third none (e ∙ d (octets.four f 4))
  by_address p c e (loopback s third one d) = as_loopback (not_by p c s) third one (e ∙ d (octets.four f 4))

  carried_is : bus.carried f ≡ bus.delivered (routing.address (two f 0)) (byte f 2) (octets.four f 4)
  unfolding bus.carried
  carried_is = refl

  pub heard_as : HeardAs f
  heard_as =
      let r = two f 0 in
      let parity_is = xor_is 0 (take 56 f) in
      decide (eqb (bus.parity (take 56 f)) (byte f 56))
      (λ p.
      let even = eqb-true (bus.parity (take 56 f)) (byte f 56) p in
      let heard_is = heard_carried f whole even ∙ carried_is in
      decide (eqb (routing.check (r / 16)) (r % 16))
      (λ c.
      let k = eqb-true (routing.check (r / 16)) (r % 16) c in
      by_address (sym parity_is ∙ even) ((routing_check_iff r).0 k) (heard_is ∙ ap (λ a. bus.delivered a (byte f 2) (octets.four f 4)) (checked r (routing.check (r / 16)) refl k))
      (sorted (kind r) (class r) (address r) (byte f 2) (mod-lt (r / 16384) (omega arith))))
      (λ c.
      let k = eqb-false (routing.check (r / 16)) (r % 16) c in
      as_damaged (bad_check (λ g. k ((routing_check_iff r).1 g))) (heard_is ∙ ap (λ a. bus.delivered a (byte f 2) (octets.four f 4)) (unchecked r (routing.check (r / 16)) refl k))))
      (λ p. let k = eqb-false (bus.parity (take 56 f)) (byte f 56) p in as_damaged (bad_parity (λ e. k (parity_is ∙ e))) (heard_parity f whole k))

-- the routing header of a target and a class says them, and no other does
module _ (t : T.Target) (c : ℕ) (small : c < 4) where
  said_so : (r : ℕ) → Sorted (kind r) (class r) (address r) 0 → routing.said (kind r) (class r) (address r) ≡ Some (To t c) → Says t (kind r) (address r) × (class r ≡ c)
  said_so r (bad b d) e = absurd (let f : sort.Damaged ≡ sort.Cell t c 0 = sym (d 0) ∙ ap (λ a. bus.delivered a 0 0) e in let z : ◌≡◌ {A = ℕ} 0 1 = cc in omega arith)
  said_so r (control n third none d) e = absurd (let f : sort.Control (address r) ≡ sort.Cell t c 0 = sym (d 0) ∙ ap (λ a. bus.delivered a 0 0) e in let z : ◌≡◌ {A = ℕ} 0 1 = cc in omega arith)
  said_so r (loopback n third one d) e = absurd (let f : sort.Loopback (address r) ≡ sort.Cell t c 0 = sym (d 0) ∙ ap (λ a. bus.delivered a 0 0) e in let z : ◌≡◌ {A = ℕ} 0 1 = cc in omega arith)
  said_so r (good n u says d) e =
      let same : u ≡ t = cc in
      (subst (λ x. Says x (kind r) (address r)) same says, cc)

  checks : (r : ℕ) → routing.address r ≡ Some (To t c) → routing.check (r / 16) ≡ r % 16
  unfolding routing.address
  checks r e =
      decide (eqb (routing.check (r / 16)) (r % 16))
      (eqb-true (routing.check (r / 16)) (r % 16))
      (λ n. absurd (let f : None ≡ Some (To t c) = (λ i. cond (sym n i) (routing.said (kind r) (class r) (address r)) None) ∙ e in let z : ◌≡◌ {A = ℕ} 0 1 = cc in omega arith))

  pub routing_of : Sayable t → RoutingOf t c (routing.routing t c)
  routing_of s =
      let r = routing.routing t c in
      let e = address_routing t c s small in
      let k = checks r e in
      let both = said_so r (sorted (kind r) (class r) (address r) 0 (mod-lt (r / 16384) (omega arith))) (sym (checked r (routing.check (r / 16)) refl k) ∙ e) in
      record { whole = routing_lt t c s; says = both.0; class_is = both.1; check = (routing_check_iff r).0 k }

twelve : (x : ℕ) → x < 4096 → x ≡ x / 256 / 4 % 4 * 1024 + x / 256 % 4 * 256 + x % 256
twelve x h = omega arith

-- the upper twelve bits
upper_is : (r : ℕ) → r < 65536 → r / 16 ≡ kind r * 1024 + class r * 256 + address r
upper_is r h = twelve (r / 16) (omega arith) ∙ (λ i. k i % 4 * 1024 + q i % 4 * 256 + address r)
  where
    q : r / 16 / 256 ≡ r / 4096
    q = div-div-eq-div-mul r 16 256

    k : r / 16 / 256 / 4 ≡ r / 16384
    k = ap (λ n. n / 4) q ∙ div-div-eq-div-mul r 4096 4

upper_of : (t : T.Target) (c r : ℕ) → c < 4 → Says t (kind r) (address r) → class r ≡ c → kind r * 1024 + class r * 256 + address r ≡ routing.upper t c
unfolding routing.upper
upper_of (target.Unit unit) c r w s q = rw (mod-eq_of_lt w) (λ i. s.0 i * 1024 + q i * 256 + s.1 i)
upper_of (target.Session session) c r w s q = rw (mod-eq_of_lt w) (λ i. s.0 i * 1024 + q i * 256 + s.1 i)
upper_of target.All c r w s q = rw (mod-eq_of_lt w) (λ i. s.0 i * 1024 + q i * 256 + s.1 i)

pub routing_only : (t : T.Target) (c r : ℕ) → RoutingOf t c r → r ≡ routing.routing t c
unfolding routing.routing
routing_only t c r is =
    let up = upper_is r is.whole ∙ upper_of t c r (omega (arith, is.class_is)) is.says is.class_is in
    let low = sym ((routing_check_iff r).1 is.check) ∙ ap routing.check up in
    split ∙ (λ i. up i * 16 + low i)
  where
    split : r ≡ r / 16 * 16 + r % 16
    split = omega arith

-- the 56 bytes before parity, as they are written
pub bus_cell_lem : (routing header : ℕ) (payload : List ℕ) → bus.cell routing 0 header payload ≡ bus_cell routing header payload
unfolding bus.cell
bus_cell_lem routing header payload = ap (λ b. octets.be2 routing ++ octets.be2 0 ++ b ++ payload) (four_bytes_lem header)
