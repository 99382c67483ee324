-- The declared units by their numbers: where and how each stands, 0 where none is declared. Assumes nothing.
use Rattle.std.specs.Prelude.{◌≡◌, ℕ, zero, suc, ◌+◌, ◌*◌, ◌/◌, ◌%◌, ◌^◌, ◌<◌, ◌≤◌, Bool, true, cond, ◌&&◌, ◌||◌, List, [], ◌∷◌, replicate, ◌==◌, nat_le, slice_index, slice_index_or, slice_set, None, Option, Some}
use Rattle.shelf.specs.Shelves.{declared, blank, waiting, number_of}
use Rattle.shelf.specs.declared.Unit as U
use Rattle.state.specs.Bytes.{col, shelf_in}
use Rattle.arbiter.specs.Arbitration.{besides}
use Rattle.soundness.specs.State.{nobody_or, lasts_known}

-- how a unit stands: its priority, or 0 without a cell besides a granted one; by its columns, and as a unit
abbrev pub standing : ℕ → ℕ → ℕ → ℕ → ℕ
standing priority cells number granted = cond (nat_le 1 (besides cells (number == granted))) (priority % 4) 0

abbrev pub standing_in : ℕ → (ℕ → ℕ) → ℕ
standing_in granted f = standing (f 4) ((f 15 + f 26 + f 27) % 256) (f 0) granted

abbrev pub stands : ℕ → U.Unit → ℕ
stands granted u = standing u.settings.priority (waiting u) (number_of u) granted

-- what is noted of the unit in a place: 128, 4 times the place, and how it stands; the place that was noted; of each place, 0 past the declared units; of the unit that was found
abbrev pub note : ℕ → ℕ → U.Unit → ℕ
note granted i u = 128 + 4 * i + stands granted u

abbrev pub place_in : ℕ → ℕ
place_in note = note / 4 % 32

abbrev pub note_in : ℕ → List ℕ → ℕ → ℕ
note_in granted b i = 128 + 4 * i + standing_in granted (col b i)

abbrev pub note_at : ℕ → ℕ → List ℕ → ℕ → ℕ
note_at granted count b i = cond (nat_le count i) 0 (note_in granted b i)

abbrev pub Notes : ℕ → ℕ → List ℕ → List ℕ → Type 0
Notes granted count b each = (i : ℕ) → i < 32 → slice_index each i ≡ note_at granted count b i

unfoldable pub note_of : ℕ → List U.Unit → Option ℕ → ℕ
note_of granted us (Some i) = note granted i (slice_index_or us i blank)
note_of granted us None = 0

-- whether one has this number
abbrev pub marks : List ℕ → ℕ → Bool
marks held n = nat_le 128 (slice_index held n)

-- a request is 0, or the priority of a unit with a cell for it
abbrev pub ask_in : ℕ → ℕ → Bool
ask_in ask note = ask == 0 || ask == note % 4

-- each request from number n on is held by a unit
unfoldable pub asks_held : List ℕ → ℕ → List ℕ → Bool
asks_held held n [] = true
asks_held held n (ask ∷ asks) = ask_in ask (slice_index held n) && asks_held held (suc n) asks

-- the unit with this number, by its place, has a cell
abbrev pub celled : (ℕ → ℕ) → List ℕ → ℕ → Bool
celled cells held n = marks held n && nat_le 1 (cells (place_in (slice_index held n)))

abbrev pub grant_in : (ℕ → ℕ) → List ℕ → ℕ → Bool
grant_in cells held granted = nobody_or (celled cells held) granted

unfoldable pub arbiter_held : (ℕ → ℕ) → List ℕ → ℕ → List ℕ → List ℕ → Bool
arbiter_held cells held granted last asks = grant_in cells held granted && lasts_known (marks held) last && asks_held held 0 asks

abbrev pub none : List ℕ
none = replicate 32 0

-- the units from place i on, each noted in its number's place, the last of them first
unfoldable pub noted : ℕ → ℕ → List U.Unit → List ℕ
noted granted i [] = none
noted granted i (u ∷ us) = slice_set (noted granted (suc i) us) (number_of u) (note granted i u)

-- so many places from i on, with these notes, by 32; the notes of an array; the declared units of lent bytes
unfoldable pub noted_by : (ℕ → ℕ) → List ℕ → List ℕ → ℕ → ℕ → List ℕ
noted_by notes b held i zero = held
noted_by notes b held i (suc n) = slice_set (noted_by notes b held (suc i) n) (col b i 0 % 32) (notes i)

abbrev pub note_from : List ℕ → ℕ → ℕ
note_from each i = slice_index each i

-- n notes of an array from place `at` on as one number, the first lowest
pub record Word (n : ℕ) (each : List ℕ) (at r : ℕ) : Type 0 where
  pub small : r < 2 ^ (8 * n)
  pub bytes : (k : ℕ) → k < n → r / 2 ^ (8 * k) % 256 ≡ slice_index each (at + k)

abbrev pub noted_in : List ℕ → List ℕ
noted_in b = noted_by (note_in (slice_index b 803) b) b none 0 (slice_index b 805)

-- how many numbers have a note
unfoldable pub how_many : List ℕ → ℕ
how_many [] = 0
how_many (x ∷ xs) = cond (nat_le 128 x) 1 0 + how_many xs

-- of lent bytes; there is a place for each
abbrev pub cells_in : List ℕ → ℕ → ℕ
cells_in b i = (col b i 15 + col b i 26 + col b i 27) % 256

abbrev pub held_in : List ℕ → List ℕ
held_in b = noted (slice_index b 803) 0 (declared (shelf_in b))

abbrev pub numbers_good : List ℕ → List ℕ → Bool
numbers_good b held = how_many held == slice_index b 805 && arbiter_held (cells_in b) held (slice_index b 803) (shelf_in b).arbiter.last (shelf_in b).arbiter.asks

abbrev pub numbers_held : List ℕ → Bool
numbers_held b = numbers_good b (held_in b)

abbrev pub Places : List ℕ → Type 0
Places b = (slice_index b 805 ≤ 32) × ((i : ℕ) → i < slice_index b 805 → (col b i 0 < 32) × (col b i 15 + col b i 26 + col b i 27 < 256))
