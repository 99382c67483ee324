-- The bus frame. "A bus frame is 57 bytes: routing header 2, tandem header 2 (written zero, heard as anything), cell header 4, payload 48,
-- parity 1. The cell header on the bus always has a twelve-bit VPI." Assumes nothing.
use Rattle.std.specs.Prelude.{ℕ, cond, ◌&&◌, List, [], ◌∷◌, ◌++◌, eqb, leb, length, get_or, take, drop, Option, Some, None}
use Rattle.std.specs.Int.Bits.{bit_xor}
use Rattle.octets.specs.Octets.{be2, be4, two, four, part}
use Rattle.bus.specs.Routing.{controlling, address}
use Rattle.bus.specs.declared.Address.{Address}
use Rattle.bus.specs.declared.Address.TheVariants as said
use Rattle.bus.specs.Heard.{Heard, Length, Damaged, Cell, Control, Loopback}

-- the 56 bytes before parity, with any tandem header
unfoldable pub cell : ℕ → ℕ → ℕ → List ℕ → List ℕ
cell routing tandem header payload = be2 routing ++ be2 tandem ++ be4 header ++ payload

-- "Parity is the exclusive-or of the other 56 bytes."
unfoldable pub exclusive_or : ℕ → List ℕ → ℕ
exclusive_or p [] = p
exclusive_or p (b ∷ bytes) = exclusive_or (bit_xor p b) bytes

abbrev pub parity : List ℕ → ℕ
parity bytes = exclusive_or 0 bytes

unfoldable pub sealed : List ℕ → List ℕ
sealed bytes = bytes ++ (parity bytes ∷ [])

-- the payload of a frame
abbrev pub payload : List ℕ → List ℕ
payload frame = part frame 8 48

-- 02, W1: "Routing kind 3 now means control or loopback to one unit: class 0 is control, 1 loopback; another class, or an address above 31, is `damaged`."; of a
-- loopback cell "a tandem byte above 31 is `damaged`"
unfoldable pub third : ℕ → ℕ → ℕ → Heard
third class number tandem =
    cond (leb number 31) (cond (eqb class 0) (Control number) (cond (eqb class 1 && leb tandem 31) (Loopback number) Damaged)) Damaged

-- a cell with this address, if it has a good one, first tandem byte and header
abbrev pub delivered : Option Address → ℕ → ℕ → Heard
delivered None tandem header = Damaged
delivered (Some (said.To target class)) tandem header = Cell target class header
delivered (Some (said.Third class number)) tandem header = third class number tandem

-- what a frame of these bytes is heard as, its parity being right: with this address, and with its own
abbrev pub heard_as : Option Address → List ℕ → Heard
heard_as said bytes = delivered said (get_or bytes 2 0) (four bytes 4)

unfoldable pub carried : List ℕ → Heard
carried bytes = heard_as (address (two bytes 0)) bytes

-- "Bad parity, bad check, unicast above 31 or broadcast address not 0 is `damaged`." What has not 57 bytes is no frame
unfoldable pub heard : List ℕ → Heard
heard frame = cond (eqb (length frame) 57) (cond (eqb (parity (take 56 frame)) (get_or frame 56 0)) (carried frame) Damaged) Length

-- 02, W1: a loopback cell moves "as a control cell for the unit named in its first tandem byte"; its other bytes stay
unfoldable pub returned : List ℕ → List ℕ
returned c = be2 (controlling (get_or c 2 0)) ++ drop 2 c
