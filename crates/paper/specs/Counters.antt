-- The thirteen counters by their names, and what an event makes of the rows. Assumes nothing.
use Rattle.std.specs.Prelude.{ℕ, suc, ◌+◌, ◌%◌, ◌≤◌, ◌<◌, ◌≡◌, ◌≢◌, Bool, true, false, cond, List, [], ◌∷◌, eqb, length, get_or}
use Rattle.answer.specs.declared.Arrival as A
use Rattle.answer.specs.declared.Arrival.TheVariants as arrival
use Rattle.answer.specs.declared.Hearing as H
use Rattle.answer.specs.declared.Hearing.TheVariants as hearing
use Rattle.answer.specs.declared.Counters as C

-- "Thirteen counters a unit ..: arrived, hec, ignored, misrouted, inletfull, sent, unheard, damaged, queued (outlet), full, clp, wide, taken."
pub data Counter : Type 0 where
  arrived : Counter
  hec : Counter
  ignored : Counter
  misrouted : Counter
  inletfull : Counter
  sent : Counter
  unheard : Counter
  damaged : Counter
  queued : Counter
  full : Counter
  clp : Counter
  wide : Counter
  taken : Counter

-- its place in that list, and the number that a row has for it
abbrev pub place_of : Counter → ℕ
place_of arrived = 0
place_of hec = 1
place_of ignored = 2
place_of misrouted = 3
place_of inletfull = 4
place_of sent = 5
place_of unheard = 6
place_of damaged = 7
place_of queued = 8
place_of full = 9
place_of clp = 10
place_of wide = 11
place_of taken = 12

abbrev pub value_of : C.Counters → Counter → ℕ
value_of row arrived = row.arrived
value_of row hec = row.hec
value_of row ignored = row.ignored
value_of row misrouted = row.misrouted
value_of row inletfull = row.inletfull
value_of row sent = row.sent
value_of row unheard = row.unheard
value_of row damaged = row.damaged
value_of row queued = row.queued
value_of row full = row.full
value_of row clp = row.clp
value_of row wide = row.wide
value_of row taken = row.taken

-- an arriving cell is counted, and its fate; "queued (outlet)" counts copies, so no arrival
unfoldable pub arrival_counts : A.Arrival → List Counter
arrival_counts arrival.Hec = arrived ∷ hec ∷ []
arrival_counts arrival.Ignored = arrived ∷ ignored ∷ []
arrival_counts arrival.Misrouted = arrived ∷ misrouted ∷ []
arrival_counts arrival.Inletfull = arrived ∷ inletfull ∷ []
arrival_counts arrival.Queued = arrived ∷ []

-- "Not addressed: `other`, uncounted."
unfoldable pub hearing_counts : H.Hearing → List Counter
hearing_counts hearing.Damaged = damaged ∷ []
hearing_counts hearing.Other = []
hearing_counts hearing.Wide = wide ∷ []
hearing_counts hearing.Full = full ∷ []
hearing_counts hearing.Clp = clp ∷ []
hearing_counts hearing.Queued = queued ∷ []

-- "A sent cell addressing no declared unit also counts `unheard` at its sender"
unfoldable pub sent_counts : Bool → List Counter
sent_counts true = sent ∷ []
sent_counts false = sent ∷ unheard ∷ []

-- how often the counter with this place is in a list
unfoldable pub occurs : List Counter → ℕ → ℕ
occurs [] k = 0
occurs (c ∷ cs) k = cond (eqb (place_of c) k) (suc (occurs cs k)) (occurs cs k)

-- "each modulo 4,294,967,296": a row in which these counters have risen
abbrev pub Risen : C.Counters → List Counter → C.Counters → Type 0
Risen row cs row' = (c : Counter) → value_of row' c ≡ (value_of row c + occurs cs (place_of c)) % 4294967296

-- thirteen counters at 0
abbrev pub zero_row : C.Counters
zero_row =
    record {
      arrived = 0;
      hec = 0;
      ignored = 0;
      misrouted = 0;
      inletfull = 0;
      sent = 0;
      unheard = 0;
      damaged = 0;
      queued = 0;
      full = 0;
      clp = 0;
      wide = 0;
      taken = 0;
    }

-- the row at a place; past the last row there is none
abbrev pub row_at : List C.Counters → ℕ → C.Counters
row_at rows place = get_or rows place zero_row

-- in the row at a place these counters have risen, and nothing else has changed
pub record RisenAt (rows : List C.Counters) (place : ℕ) (cs : List Counter) (rows' : List C.Counters) : Type 0 where
  pub many : length rows' ≡ length rows
  pub own : Risen (row_at rows place) cs (row_at rows' place)
  pub others : (j : ℕ) → j ≢ place → row_at rows' j ≡ row_at rows j

-- in the first n rows those that `cs` says of each have risen, and "rows beyond the declared units are untouched"
pub record RisenIn (rows : List C.Counters) (n : ℕ) (cs : ℕ → List Counter) (rows' : List C.Counters) : Type 0 where
  pub many : length rows' ≡ length rows
  pub each : (j : ℕ) → j < n → Risen (row_at rows j) (cs j) (row_at rows' j)
  pub beyond : (j : ℕ) → n ≤ j → row_at rows' j ≡ row_at rows j
