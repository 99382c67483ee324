-- What the loader writes into the bytes: a bus without a unit, one unit more, one session more. Assumes nothing.
use Rattle.std.specs.Prelude.{ℕ, suc, ◌+◌, ◌*◌, ◌/◌, ◌%◌, ◌^◌, Bool, cond, List, [], ◌∷◌, get_or, set, replicate}
use Rattle.std.specs.Int.Bits.{bit_or}
use Rattle.octets.specs.Octets.{splice}
use Rattle.header.specs.declared.Link.{Link}
use Rattle.header.specs.declared.Link.TheVariants.{Uni, Nni}
use Rattle.outlet.specs.Outlets.{empty}
use Rattle.outlet.specs.declared.Mode.{Mode}
use Rattle.outlet.specs.declared.Mode.TheVariants.{One, Four}
use Rattle.outlet.specs.declared.Outlet.{Outlet}
use Rattle.arbiter.specs.Arbitration.{nobody}
use Rattle.shelf.specs.declared.Settings.{Settings}
use Rattle.shelf.specs.declared.Unit as U
use Rattle.shelf.specs.Shelf.{Shelf}

-- "a fresh 16 bus with no units": nobody was granted, nothing else is there
unfoldable pub zeros : List ℕ
zeros = replicate 2048 0

unfoldable pub fresh_bytes : ℕ → List ℕ
fresh_bytes bus = set (set (set (set (set zeros 800 nobody) 801 nobody) 802 nobody) 803 nobody) 804 bus

unfoldable pub link_byte : Link → ℕ
link_byte Uni = 0
link_byte Nni = 1

unfoldable pub mode_byte : Mode → ℕ
mode_byte One = 0
mode_byte Four = 1

unfoldable pub mark_byte : Bool → ℕ
mark_byte b = cond b 1 0

abbrev pub head_of : Outlet → ℕ → ℕ
head_of o q = (get_or o.queues q empty).head

abbrev pub count_of : Outlet → ℕ → ℕ
count_of o q = (get_or o.queues q empty).count

-- the bytes of a unit with this outlet and an empty inlet, one for each column
abbrev pub columns_of : Settings → Outlet → ℕ → List ℕ
columns_of s o place =
    s.number ∷ link_byte s.link ∷ (s.top / 256) ∷ (s.top % 256) ∷ s.priority ∷ mode_byte o.limits.mode ∷ o.limits.cbrlength ∷ o.limits.cbrlimit
    ∷ o.limits.vbrlimit ∷ mark_byte o.limits.mark ∷ (place / 65536 / 256) ∷ (place / 65536 % 256) ∷ (place % 65536 / 256) ∷ (place % 65536 % 256) ∷ 0 ∷ 0
    ∷ head_of o 0 ∷ head_of o 1 ∷ head_of o 2 ∷ head_of o 3 ∷ count_of o 0 ∷ count_of o 1 ∷ count_of o 2 ∷ count_of o 3 ∷ []

-- bytes written at a place, into a column and those that follow
unfoldable pub puts : List ℕ → ℕ → ℕ → List ℕ → List ℕ
puts b i c [] = b
puts b i c (v ∷ vs) = puts (set b (c * 32 + i) v) i (suc c) vs

-- the five columns of the places beside its data queues, all empty
unfoldable pub side_emptied : List ℕ → ℕ → List ℕ
side_emptied b i = puts b i 26 (replicate 5 0)

-- at the next place: its columns, no session, and one unit more
unfoldable pub placed : List ℕ → ℕ → List ℕ → List ℕ
placed b i vs = set (splice (side_emptied (puts b i 0 vs) i) (1024 + 32 * i) (replicate 32 0)) 805 (i + 1)

abbrev pub declared_by : List ℕ → Settings → Outlet → ℕ → List ℕ
declared_by b s o place = placed b (get_or b 805 0) (columns_of s o place)

-- the same of a shelf
abbrev pub declare_in : Shelf → U.Unit → Shelf
declare_in shelf u =
    record { bus = shelf.bus; count = shelf.count + 1; units = set shelf.units shelf.count u; arbiter = shelf.arbiter; granted = shelf.granted; frame = shelf.frame }

-- a byte of a unit's sessions written
unfoldable pub sessions_set : List ℕ → ℕ → ℕ → ℕ → List ℕ
sessions_set b i k v = set b (1024 + 32 * i + k) v

-- the unit in a place hears a session more
abbrev pub joined : List ℕ → ℕ → ℕ → List ℕ
joined b i session = sessions_set b i (session / 8) (bit_or (get_or b (1024 + 32 * i + session / 8) 0) (2 ^ (session % 8)))

-- a unit with other sessions
abbrev pub sessions_put : U.Unit → List ℕ → U.Unit
sessions_put u sessions = record { settings = u.settings; inlet = u.inlet; outlet = u.outlet; side = u.side; place = u.place; sessions = sessions }
