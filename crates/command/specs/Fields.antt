-- What a field of a console line says. Assumes nothing.
use Rattle.std.specs.Prelude.{ℕ, suc, ◌-◌, ◌/◌, ◌&&◌, cond, codes, List, [], ◌∷◌, eqb, leb, length, get_or, Option, Some, None, Result, Ok, Err, option_and_then}
use Rattle.text.specs.Text.{fields_of, field_of, same}
use Rattle.text.specs.Hex.{is_hex, unhex}
use Rattle.text.specs.Decimals.{number_of}
use Rattle.text.specs.declared.NotNumber.{NotNumber}
use Rattle.event.specs.Events.{unit_of}
use Rattle.command.specs.declared.Bank.{Bank}
use Rattle.command.specs.declared.Bank.TheVariants.{Memory, Store}

-- what is read next, where something was read
infixl 10 ◌>>=◌
abbrev pub ◌>>=◌ : {A B : Type 0} → Option A → (A → Option B) → Option B
o >>= f = option_and_then f o

-- the place of a word among names, and how many there are where it is none of them
unfoldable pub place_from : ℕ → List (List ℕ) → List ℕ → ℕ
place_from k [] w = k
place_from k (n ∷ ns) w = cond (same n w) k (place_from (suc k) ns w)

abbrev pub place_in : List (List ℕ) → List ℕ → ℕ
place_in names w = place_from 0 names w

-- a number up to the most that is said
abbrev pub up_to : Result ℕ NotNumber → Option ℕ
up_to (Ok n) = Some n
up_to (Err why) = None

abbrev pub number_in : List (List ℕ) → ℕ → ℕ → Option ℕ
number_in fs f most = up_to (number_of most (field_of f fs))

-- "A UNIT is any number at all": 255, which is never declared, for all above it
abbrev pub unit_in : List (List ℕ) → ℕ → Option ℕ
unit_in fs f = unit_of (field_of f fs)

-- one byte: a hex pair
abbrev pub head_of : List ℕ → ℕ
head_of bytes = get_or bytes 0 0

unfoldable pub byte_in : List (List ℕ) → ℕ → Option ℕ
byte_in fs f = cond (eqb (length (field_of f fs)) 2 && is_hex (field_of f fs)) (Some (head_of (unhex (field_of f fs)))) None

-- bytes in hex, in field f, the last of the line: at most so many, and where the field starts
unfoldable pub span_in : List ℕ → ℕ → ℕ → Option ℕ
span_in text f most =
    cond (leb (length (field_of f (fields_of text)) / 2) most && is_hex (field_of f (fields_of text))) (Some (length text - length (field_of f (fields_of text)))) None

-- what is lent in bytes, by its word
unfoldable pub bank_of : List ℕ → Option Bank
bank_of w = cond (same w (codes "memory")) (Some Memory) (cond (same w (codes "store")) (Some Store) None)

-- `AT HEX`: what is lent ends at 300,000 or before; no line has more than 75,000 bytes
abbrev pub place_and_span : List ℕ → Option (ℕ × ℕ)
place_and_span text = do
  at ← number_in (fields_of text) 3 300000
  from ← span_in text 4 75000
  Some (at, from)

-- `UNIT HEX`: to 70,000 bytes
abbrev pub unit_and_span : List ℕ → Option (ℕ × ℕ)
unit_and_span text = do
  unit ← unit_in (fields_of text) 2
  from ← span_in text 3 70000
  Some (unit, from)

-- `UNIT LENGTH`: to 1,000
abbrev pub unit_and_length : List (List ℕ) → Option (ℕ × ℕ)
unit_and_length fs = do
  unit ← unit_in fs 2
  bytes ← number_in fs 3 1000
  Some (unit, bytes)
