-- A translation record in its bytes, and a memory of records. Assumes nothing.
use Rattle.std.specs.Prelude.{ℕ, ◌+◌, ◌%◌, ◌^◌, ◌<◌, min, Bool, cond, List, ◌∷◌, ◌++◌, length, get_or, drop, replicate, leb, eqb, None, Option, Some}
use Rattle.octets.specs.Octets.{be2, be4, two, four, splice, part, cat}
use Rattle.card.specs.declared.Card.{Card}
use Rattle.card.specs.declared.Card.TheVariants.{Narrow, Wide}
use Rattle.lookup.specs.declared.Record as R
use Rattle.lookup.specs.declared.Record.TheVariants.{Empty, Drop, Route, Page}

-- "8 bytes a record", and the most bytes that a table's records take
abbrev pub size : ℕ
size = 8

abbrev pub most : ℕ
most = 262144

-- "the outgoing VPI is byte 3 on the narrow card, bytes 6 and 7 on the wide one"
abbrev pub byte3 : Card → ℕ → ℕ
byte3 Narrow vpi = vpi % 256
byte3 Wide vpi = 0

abbrev pub bytes67 : Card → ℕ → List ℕ
bytes67 Narrow vpi = be2 0
bytes67 Wide vpi = be2 vpi

-- "A route has the routing header in bytes 1 and 2, and for `vc` the outgoing VCI in 4 and 5"
unfoldable pub route_of : Card → ℕ → ℕ → ℕ → List ℕ
route_of card header vpi vci = (2 ∷ be2 header) ++ (byte3 card vpi ∷ be2 vci) ++ bytes67 card vpi

-- "A page has top VCI in 1 and 2 and its first byte's place in 4 to 7."
unfoldable pub page_of : ℕ → ℕ → List ℕ
page_of top place = (3 ∷ be2 top) ++ (0 ∷ be4 place)

-- "Byte 0 is the kind: 0 empty, 1 drop, 2 route, 3 page. .. All other bytes are zero"
unfoldable pub bytes_of : Card → R.Record → List ℕ
bytes_of card Empty = replicate size 0
bytes_of card Drop = 1 ∷ replicate 7 0
bytes_of card (Route header vpi vci) = route_of card header vpi vci
bytes_of card (Page top place) = page_of top place

abbrev pub vpi_in : Card → List ℕ → ℕ
vpi_in Narrow b = get_or b 3 0
vpi_in Wide b = two b 6

-- what the bytes of a record say
unfoldable pub record_in : Card → List ℕ → Option R.Record
record_in card b =
    cond (eqb (get_or b 0 0) 0) (Some Empty)
    (cond (eqb (get_or b 0 0) 1) (Some Drop)
    (cond (eqb (get_or b 0 0) 2) (Some (Route (two b 1) (vpi_in card b) (two b 4)))
    (cond (eqb (get_or b 0 0) 3) (Some (Page (two b 1) (four b 4))) None)))

-- whether a record at a place is wholly inside a memory
abbrev pub inside : List ℕ → ℕ → Bool
inside memory at = leb (at + size) (length memory)

-- what stands at a place of a memory, and the memory with a record written there
unfoldable pub record_at : Card → List ℕ → ℕ → Option R.Record
record_at card memory at = cond (inside memory at) (record_in card (part memory at size)) None

unfoldable pub written : Card → List ℕ → ℕ → R.Record → List ℕ
written card memory at r = cond (inside memory at) (splice memory at (bytes_of card r)) memory

-- how much of a memory a table may use, and the memory with that much of it zero
abbrev pub usable : List ℕ → ℕ
usable memory = min (length memory) most

unfoldable pub cleared : List ℕ → List ℕ
cleared memory = replicate (usable memory) 0 ++ drop (usable memory) memory

-- the records that a card can hold
abbrev pub Holds : Card → R.Record → Type 0
Holds card Empty = Unit {0}
Holds card Drop = Unit {0}
Holds Narrow (Route header vpi vci) = (header < 2 ^ 16) × (vpi < 2 ^ 8) × (vci < 2 ^ 16)
Holds Wide (Route header vpi vci) = (header < 2 ^ 16) × (vpi < 2 ^ 16) × (vci < 2 ^ 16)
Holds card (Page top place) = (top < 2 ^ 16) × (place < 2 ^ 32)

-- the memory that holds a list of records
abbrev pub image : Card → List R.Record → List ℕ
image card records = cat (bytes_of card) records
