-- What a line of the bench's input says, its newline left out. Assumes nothing.
use Rattle.std.specs.Prelude.{ℕ, Bool, ◌&&◌, cond, codes, List, ◌++◌, eqb, length, get_or, Option, Some, None, Result, Ok, Err, option_map, option_and_then}
use Rattle.octets.specs.Octets.{four}
use Rattle.text.specs.Text.{fields_of, field_of, same}
use Rattle.text.specs.Hex.{is_hex, unhex}
use Rattle.text.specs.Decimals.{number_of}
use Rattle.text.specs.declared.NotNumber.{NotNumber}
use Rattle.text.specs.declared.NotNumber.TheVariants.{Above, Malformed}
use Rattle.event.specs.declared.Event.{Event}
use Rattle.event.specs.declared.Event.TheVariants.{Arrive, Frame, Take, Count}

-- any number is a unit (docs/DECISIONS.md): one above 254 is 255, which no table declares
abbrev pub unit_from : Result ℕ NotNumber → Option ℕ
unit_from (Ok n) = Some n
unit_from (Err Above) = Some 255
unit_from (Err Malformed) = None

abbrev pub unit_of : List ℕ → Option ℕ
unit_of s = unit_from (number_of 254 s)

-- whether a text is n hex digits
abbrev pub hexes : ℕ → List ℕ → Bool
hexes n s = eqb (length s) n && is_hex s

-- the header and its check, and the payload byte
abbrev pub head_of : List ℕ → List ℕ → List ℕ
head_of header byte = unhex header ++ unhex byte

-- "An `arrive` event gives unit, header with check in hex, and one payload byte repeated 48 times."
unfoldable pub arrive_of : List ℕ → List ℕ → List ℕ → Option Event
arrive_of unit header byte =
    option_and_then
    (λ u. cond (hexes 10 header && hexes 2 byte) (Some (Arrive u (four (head_of header byte) 0) (get_or (head_of header byte) 4 0) (get_or (head_of header byte) 5 0))) None)
    (unit_of unit)

-- whether a line has so many fields and starts with this word
abbrev pub says : List (List ℕ) → ℕ → List ℕ → Bool
says fs count word = eqb (length fs) count && same (field_of 1 fs) word

-- None is "a line that is no event": an unknown word, a wrong field count, a field that is not of its form
unfoldable pub event_in : List (List ℕ) → Option Event
event_in fs =
    cond (says fs 4 (codes "arrive")) (arrive_of (field_of 2 fs) (field_of 3 fs) (field_of 4 fs))
    (cond (says fs 1 (codes "frame")) (Some Frame)
    (cond (says fs 2 (codes "take")) (option_map Take (unit_of (field_of 2 fs)))
    (cond (says fs 2 (codes "count")) (option_map Count (unit_of (field_of 2 fs))) None)))

-- its fields are parted by tabs, which the listing has as blanks: "tabs shown as blanks"
abbrev pub event_of : List ℕ → Option Event
event_of text = event_in (fields_of text)
