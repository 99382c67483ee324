-- 01's "Cells and frames", in its own numbers. Assumes nothing.
use Rattle.std.specs.Prelude.{ℕ, ◌+◌, ◌*◌, ◌/◌, ◌%◌, ◌<◌, ◌≡◌, ◌≢◌, Bool, true, false, List, [], ◌∷◌, ◌++◌, get_or, take}
use Rattle.std.specs.Int.Bits.{bit_xor}
use Rattle.remainder.specs.Bits.{bits, number}
use Rattle.remainder.specs.Division.{IsRemainder}
use Rattle.header.specs.declared.Link.{Link}
use Rattle.header.specs.declared.Link.TheVariants.{Uni, Nni}
use Rattle.bus.specs.declared.Target as T
use Rattle.bus.specs.declared.Target.TheVariants as target

-- byte k of some bytes; "All two-byte and four-byte numbers are big-endian.": the number that the bytes from k on say, and the bytes that say a number
abbrev pub byte : List ℕ → ℕ → ℕ
byte b k = get_or b k 0

abbrev pub two : List ℕ → ℕ → ℕ
two b k = byte b k * 256 + byte b (k + 1)

abbrev pub four : List ℕ → ℕ → ℕ
four b k = byte b k * 16777216 + byte b (k + 1) * 65536 + byte b (k + 2) * 256 + byte b (k + 3)

abbrev pub two_bytes : ℕ → List ℕ
two_bytes n = n / 256 % 256 ∷ n % 256 ∷ []

abbrev pub four_bytes : ℕ → List ℕ
four_bytes n = n / 16777216 % 256 ∷ n / 65536 % 256 ∷ n / 256 % 256 ∷ n % 256 ∷ []

-- "On a UNI link the header is GFC 4 bits, VPI 8, VCI 16, PT 3, CLP 1. On an NNI link it is VPI 12, VCI 16, PT 3, CLP 1."
abbrev pub vpi : Link → ℕ → ℕ
vpi Uni header = header / 1048576 % 256
vpi Nni header = header / 1048576 % 4096

abbrev pub vci : ℕ → ℕ
vci header = header / 16 % 65536

abbrev pub pt : ℕ → ℕ
pt header = header / 2 % 8

abbrev pub clp : ℕ → ℕ
clp header = header % 2

-- a header with GFC 0 and these fields
abbrev pub header : ℕ → ℕ → ℕ → ℕ → ℕ
header v c p l = v * 1048576 + c * 16 + p * 2 + l

-- "The check is the remainder of the header times x^8 by x^8+x^2+x+1, then exclusive-or with hex 55."
pub record HeaderCheck (header check : ℕ) : Type 0 where
  pub left : List Bool
  pub remainder : IsRemainder (false ∷ false ∷ false ∷ false ∷ false ∷ true ∷ true ∷ true ∷ []) (bits 32 header) left
  pub then : check ≡ bit_xor (number left) 0x55

-- "Routing header, from the top bit: kind 2 bits .., class 2 .., address 8 .., check 4."
abbrev pub kind : ℕ → ℕ
kind routing = routing / 16384 % 4

abbrev pub class : ℕ → ℕ
class routing = routing / 4096 % 4

abbrev pub address : ℕ → ℕ
address routing = routing / 16 % 256

-- "The check is the remainder of the upper 12 bits times x^4 by x^4+x+1."
pub record RoutingCheck (routing : ℕ) : Type 0 where
  pub left : List Bool
  pub remainder : IsRemainder (false ∷ false ∷ true ∷ true ∷ []) (bits 12 (routing / 16)) left
  pub is : routing % 16 ≡ number left

-- "kind 2 bits (0 unicast, 1 multicast, 2 broadcast)", "address 8 (unit, session, or 0 for broadcast)"
abbrev pub Says : T.Target → ℕ → ℕ → Type 0
Says (target.Unit unit) kind address = (kind ≡ 0) × (address ≡ unit)
Says (target.Session session) kind address = (kind ≡ 1) × (address ≡ session)
Says target.All kind address = (kind ≡ 2) × (address ≡ 0)

-- the routing header of a target and a class
pub record RoutingOf (target : T.Target) (classed routing : ℕ) : Type 0 where
  pub whole : routing < 65536
  pub says : Says target (kind routing) (address routing)
  pub class_is : class routing ≡ classed
  pub check : RoutingCheck routing

-- "A bus frame is 57 bytes: routing header 2, tandem header 2 (written zero, heard as anything), cell header 4, payload 48, parity 1.": the 56 bytes before parity, as they are written
abbrev pub bus_cell : ℕ → ℕ → List ℕ → List ℕ
bus_cell routing header payload = two_bytes routing ++ (0 ∷ 0 ∷ four_bytes header) ++ payload

-- "Parity is the exclusive-or of the other 56 bytes."
unfoldable pub exclusive_or : ℕ → List ℕ → ℕ
exclusive_or p [] = p
exclusive_or p (b ∷ bytes) = exclusive_or (bit_xor p b) bytes

abbrev pub parity : List ℕ → ℕ
parity bytes = exclusive_or 0 bytes

-- "Bad parity, bad check, unicast above 31 or broadcast address not 0 is `damaged`." 02, W1: "Routing kind 3 now means control or loopback to one unit: class 0 is control, 1 loopback; another
-- class, or an address above 31, is `damaged`"; of a loopback cell "first tandem byte ..; a tandem byte above 31 is `damaged`": byte 2
pub data Damaged (frame : List ℕ) : Type 0 where
  bad_parity : parity (take 56 frame) ≢ byte frame 56 → Damaged frame
  bad_check : (RoutingCheck (two frame 0) → ⊥) → Damaged frame
  unicast_above : kind (two frame 0) ≡ 0 → 31 < address (two frame 0) → Damaged frame
  broadcast_not : kind (two frame 0) ≡ 2 → address (two frame 0) ≢ 0 → Damaged frame
  another_class : kind (two frame 0) ≡ 3 → 1 < class (two frame 0) → Damaged frame
  third_above : kind (two frame 0) ≡ 3 → 31 < address (two frame 0) → Damaged frame
  tandem_above : kind (two frame 0) ≡ 3 → class (two frame 0) ≡ 1 → 31 < byte frame 2 → Damaged frame
