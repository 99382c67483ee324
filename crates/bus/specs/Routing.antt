-- The routing header. "Routing header, from the top bit: kind 2 bits (0 unicast, 1 multicast, 2 broadcast), class 2 (0 control data, 1 CBR,
-- 2 VBR, 3 ABR), address 8 (unit, session, or 0 for broadcast), check 4." 02, W1: "Routing kind 3 now means control or loopback to one unit". Assumes nothing.
use Rattle.std.specs.Prelude.{ℕ, ◌+◌, ◌*◌, ◌/◌, ◌%◌, ◌^◌, ◌≤◌, ◌<◌, Bool, true, false, cond, List, [], ◌∷◌, eqb, leb, Option, Some, None}
use Rattle.remainder.specs.Division.{residue}
use Rattle.bus.specs.declared.Target.{Target}
use Rattle.bus.specs.declared.Target.TheVariants.{Unit, Session, All}
use Rattle.bus.specs.declared.Address.{Address}
use Rattle.bus.specs.declared.Address.TheVariants.{To, Third}

-- "The check is the remainder of the upper 12 bits times x^4 by x^4+x+1": the coefficients of x+1 below x^4
abbrev pub divisor : List Bool
divisor = false ∷ false ∷ true ∷ true ∷ []

unfoldable pub check : ℕ → ℕ
check upper = residue divisor 12 upper

-- the kind and the address of a target
abbrev pub kind_of : Target → ℕ
kind_of (Unit unit) = 0
kind_of (Session session) = 1
kind_of All = 2

abbrev pub number_of : Target → ℕ
number_of (Unit unit) = unit
number_of (Session session) = session
number_of All = 0

-- the targets that a routing header can say: "unicast above 31 .. is `damaged`", "`m` and a session 0 to 255"
abbrev pub Sayable : Target → Type 0
Sayable (Unit unit) = unit ≤ 31
Sayable (Session session) = session < 256
Sayable All = Prim.Unit {0}

-- the upper 12 bits, a class keeping its two; and the whole
unfoldable pub upper : Target → ℕ → ℕ
upper target class = kind_of target * 2 ^ 10 + class % 4 * 2 ^ 8 + number_of target

unfoldable pub routing : Target → ℕ → ℕ
routing target class = upper target class * 2 ^ 4 + check (upper target class)

-- the routing header of a control cell for a unit: kind 3, class 0
unfoldable pub controlling : ℕ → ℕ
controlling unit = (3 * 2 ^ 10 + unit) * 2 ^ 4 + check (3 * 2 ^ 10 + unit)

-- the fields of a routing header
abbrev pub kind_in : ℕ → ℕ
kind_in r = r / 2 ^ 14 % 4

abbrev pub class_in : ℕ → ℕ
class_in r = r / 2 ^ 12 % 4

abbrev pub number_in : ℕ → ℕ
number_in r = r / 2 ^ 4 % 2 ^ 8

-- 02, W1: "Routing kind 3 now means control or loopback to one unit"; what its class and address say is judged with the frame (`Frame: third`). "unicast above 31 or broadcast address not 0 is damaged"
abbrev pub said : ℕ → ℕ → ℕ → Option Address
said kind class number =
    cond (eqb kind 0) (cond (leb number 31) (Some (To (Unit number) class)) None)
    (cond (eqb kind 1) (Some (To (Session number) class))
    (cond (eqb kind 2) (cond (eqb number 0) (Some (To All class)) None) (Some (Third class number))))

-- "bad check" is damaged too
unfoldable pub address : ℕ → Option Address
address r = cond (eqb (check (r / 2 ^ 4)) (r % 2 ^ 4)) (said (kind_in r) (class_in r) (number_in r)) None
