-- An event in lent bytes is the event on the shelf that they are, and keeps every byte that it need not write. Assumes nothing.
use Rattle.std.specs.Prelude.{ℕ, ◌+◌, ◌*◌, ◌%◌, ◌<◌, ◌≤◌, ◌≡◌, ◌⊎◌, List, get_or}
use Rattle.card.specs.declared.Card.{Card}
use Rattle.answer.specs.declared.Counters as C
use Rattle.answer.specs.declared.Answer.TheVariants as answer
use Rattle.paper.specs.State.{Formed}
use Rattle.document.specs.Events.{Event, bytes_of, answers}
use Rattle.running.specs.Events.{happens}
use Rattle.running.specs.Keeping.{run, loaded}
use Rattle.running.specs.Lent.{Lent, Long, does, run_in, loaded_in, seen, shown}

-- a byte of a column: 0 to 767, and 832 to 991
abbrev pub InColumn : ℕ → Type 0
InColumn k = (k < 768) ⊎ ((832 ≤ k) × (k < 992))

-- the bytes that no event writes: every column of a place that is not declared, and of the others all but the columns of rings and places, from 14 on; 804, the bus, and 805, the count of
-- units; the free bytes and the sessions
abbrev pub Untouched : List ℕ → ℕ → Type 0
Untouched state k = (InColumn k × (get_or state 805 0 ≤ k % 32)) ⊎ ((k < 448) ⊎ (((k ≡ 804) ⊎ (k ≡ 805)) ⊎ (((808 ≤ k) × (k < 832)) ⊎ (992 ≤ k))))

-- the bytes that say nothing: "808 to 831 and 992 to 1,023 | free", and all bytes of the places that are not declared, their columns and their sessions
abbrev pub Spare : List ℕ → ℕ → Type 0
Spare state k =
    (((808 ≤ k) × (k < 832)) ⊎ ((992 ≤ k) × (k < 1024))) ⊎ ((InColumn k × (get_or state 805 0 ≤ k % 32)) ⊎ ((1024 + 32 * get_or state 805 0 ≤ k) × (k < 2048)))

-- bytes that are a state: what is said, the lent bytes and the shelf afterwards are those of the event on their shelf, and they are a state again
pub record Tied (card : Card) (l : Lent) (e : Event) : Type 0 where
  pub same : shown (does card l e) ≡ happens card (seen l) e
  pub formed : Formed (does card l e).lent.state
  pub long : Long (does card l e).lent
  pub kept : (k : ℕ) → Untouched l.state k → get_or (does card l e).lent.state k 0 ≡ get_or l.state k 0

-- bytes that are none: "8 State", and nothing changes
abbrev pub InPlace : Type 0
InPlace =
    (card : Card) (l : Lent) (e : Event) → Long l →
    (Formed l.state → Tied card l e) × ((Formed l.state → ⊥) → does card l e ≡ record { said = answers (answer.Refused 8); lent = l; bytes = bytes_of e })

-- from a load on, good table or not, over every sequence of events
pub record RunsTied (card : Card) (text memory store : List ℕ) (rows : List C.Counters) (es : List Event) : Type 0 where
  pub same : seen (run_in card (loaded_in card text memory store rows) es) ≡ run card (loaded card text memory store rows) es
  pub formed : Formed (run_in card (loaded_in card text memory store rows) es).state
  pub long : Long (run_in card (loaded_in card text memory store rows) es)
  -- load "writes all 2,048 bytes": "the free bytes and all bytes of the other places are 0", and stay so
  pub spare : (k : ℕ) → Spare (run_in card (loaded_in card text memory store rows) es).state k → get_or (run_in card (loaded_in card text memory store rows) es).state k 0 ≡ 0

abbrev pub RunsInPlace : Type 0
RunsInPlace = (card : Card) (text memory store : List ℕ) (rows : List C.Counters) (es : List Event) → RunsTied card text memory store rows es
