-- That the promises are not empty: 01's own table and events; a table, and runs in which every fate occurs; every refusal; sound shelves beyond the loaded ones. Assumes nothing.
use Rattle.std.specs.Prelude.{ℕ, ◌*◌, ◌≤◌, ◌≡◌, true, List, [], ◌∷◌, ◌++◌, map, length, set, replicate}
use Rattle.card.specs.declared.Card.{Card}
use Rattle.card.specs.declared.Card.TheVariants.{Narrow, Wide}
use Rattle.state.specs.Bytes.{shelf_in}
use Rattle.soundness.specs.State.{sound_of}
use Rattle.soundness.specs.Soundings.{sound_in}
use Rattle.answer.specs.declared.Counters as C
use Rattle.answer.specs.declared.Answer.TheVariants.{Refused}
use Rattle.promise.specs.Starred.{path}
use Rattle.document.specs.Events.{Event, Said, Back, answers}
use Rattle.document.specs.Examples.{events, printed}
use Rattle.document.specs.Cases.{arrivals, arrivals_say, refusals, refusals_say, frames, frames_say, heard, heard_say, discards, discards_say, abr, abr_say, update, update_gives, test, test_gives, last_first, last_first_gives, marking, marking_gives, busy, busy_says, crowded, crowded_says, kinds, kinds_say, standing, standing_says}
use Rattle.running.specs.Lent.{Lent, does, loaded_in}
use Rattle.paper.specs.Answers.{IsOk, IsRefused}
use Rattle.running.specs.Tables.{answer_to}
use Rattle.refining.specs.Refines.{gives}

-- 01's table as text, its tabs and newlines too
unfoldable pub listing : List ℕ
listing =
    98 ∷ 117 ∷ 115 ∷ 9 ∷ 49 ∷ 54 ∷ 10 ∷
    117 ∷ 110 ∷ 105 ∷ 116 ∷ 9 ∷ 48 ∷ 9 ∷ 117 ∷ 110 ∷ 105 ∷ 9 ∷ 53 ∷ 9 ∷ 50 ∷ 9 ∷ 111 ∷ 110 ∷ 101 ∷ 9 ∷ 48 ∷ 9 ∷ 48 ∷ 9 ∷ 49 ∷ 48 ∷ 48 ∷ 9 ∷ 48 ∷ 10 ∷
    117 ∷ 110 ∷ 105 ∷ 116 ∷ 9 ∷ 51 ∷ 9 ∷ 117 ∷ 110 ∷ 105 ∷ 9 ∷ 48 ∷ 9 ∷ 49 ∷ 9 ∷ 102 ∷ 111 ∷ 117 ∷ 114 ∷ 9 ∷ 52 ∷ 48 ∷ 9 ∷ 51 ∷ 48 ∷ 9 ∷ 50 ∷ 48 ∷ 9 ∷ 49 ∷ 10 ∷
    112 ∷ 97 ∷ 103 ∷ 101 ∷ 9 ∷ 48 ∷ 9 ∷ 53 ∷ 9 ∷ 51 ∷ 51 ∷ 10 ∷
    118 ∷ 99 ∷ 9 ∷ 48 ∷ 9 ∷ 53 ∷ 9 ∷ 51 ∷ 51 ∷ 9 ∷ 117 ∷ 51 ∷ 9 ∷ 50 ∷ 9 ∷ 57 ∷ 9 ∷ 52 ∷ 48 ∷ 10 ∷
    []

-- "This table and these events .. print": on both cards, which have no line that is too wide here, and whatever a memory for its 41 records, a store for its two units and two rows, or more
-- of each, held before. So a cell is routed, sent, heard and taken, with its bytes; then the queue is empty, and both are counted
pub record Listing (card : Card) (memory store : List ℕ) (rows : List C.Counters) : Type 0 where
  pub load : IsOk (answer_to card listing memory (length store) (length rows)) 328
  pub print : gives card (loaded_in card listing memory store rows) events ≡ printed

abbrev pub ListingPrints : Type 0
ListingPrints =
    (card : Card) (memory store : List ℕ) (rows : List C.Counters) → 328 ≤ length memory → 16384 ≤ length store → 2 ≤ length rows → Listing card memory store rows

-- the table of `document: Cases` as text
unfoldable pub text : List ℕ
text =
    98 ∷ 117 ∷ 115 ∷ 9 ∷ 49 ∷ 54 ∷ 10 ∷
    117 ∷ 110 ∷ 105 ∷ 116 ∷ 9 ∷ 48 ∷ 9 ∷ 117 ∷ 110 ∷ 105 ∷ 9 ∷ 53 ∷ 9 ∷ 50 ∷ 9 ∷ 111 ∷ 110 ∷ 101 ∷ 9 ∷ 48 ∷ 9 ∷ 48 ∷ 9 ∷ 50 ∷ 9 ∷ 49 ∷ 10 ∷
    117 ∷ 110 ∷ 105 ∷ 116 ∷ 9 ∷ 51 ∷ 9 ∷ 117 ∷ 110 ∷ 105 ∷ 9 ∷ 48 ∷ 9 ∷ 49 ∷ 9 ∷ 102 ∷ 111 ∷ 117 ∷ 114 ∷ 9 ∷ 52 ∷ 48 ∷ 9 ∷ 51 ∷ 9 ∷ 50 ∷ 9 ∷ 49 ∷ 10 ∷
    117 ∷ 110 ∷ 105 ∷ 116 ∷ 9 ∷ 55 ∷ 9 ∷ 110 ∷ 110 ∷ 105 ∷ 9 ∷ 51 ∷ 48 ∷ 48 ∷ 9 ∷ 51 ∷ 9 ∷ 102 ∷ 111 ∷ 117 ∷ 114 ∷ 9 ∷ 49 ∷ 9 ∷ 49 ∷ 9 ∷ 56 ∷ 56 ∷ 9 ∷ 48 ∷ 10 ∷
    118 ∷ 112 ∷ 9 ∷ 48 ∷ 9 ∷ 49 ∷ 9 ∷ 117 ∷ 51 ∷ 9 ∷ 49 ∷ 9 ∷ 57 ∷ 10 ∷
    100 ∷ 114 ∷ 111 ∷ 112 ∷ 9 ∷ 48 ∷ 9 ∷ 50 ∷ 10 ∷
    112 ∷ 97 ∷ 103 ∷ 101 ∷ 9 ∷ 48 ∷ 9 ∷ 53 ∷ 9 ∷ 51 ∷ 51 ∷ 10 ∷
    118 ∷ 99 ∷ 9 ∷ 48 ∷ 9 ∷ 53 ∷ 9 ∷ 51 ∷ 51 ∷ 9 ∷ 117 ∷ 51 ∷ 9 ∷ 50 ∷ 9 ∷ 57 ∷ 9 ∷ 52 ∷ 48 ∷ 10 ∷
    118 ∷ 112 ∷ 9 ∷ 48 ∷ 9 ∷ 51 ∷ 9 ∷ 109 ∷ 49 ∷ 55 ∷ 9 ∷ 48 ∷ 9 ∷ 51 ∷ 48 ∷ 48 ∷ 10 ∷
    118 ∷ 112 ∷ 9 ∷ 48 ∷ 9 ∷ 52 ∷ 9 ∷ 98 ∷ 9 ∷ 51 ∷ 9 ∷ 55 ∷ 10 ∷
    118 ∷ 112 ∷ 9 ∷ 55 ∷ 9 ∷ 50 ∷ 54 ∷ 49 ∷ 9 ∷ 117 ∷ 57 ∷ 9 ∷ 51 ∷ 9 ∷ 49 ∷ 10 ∷
    109 ∷ 99 ∷ 9 ∷ 51 ∷ 9 ∷ 49 ∷ 55 ∷ 10 ∷
    109 ∷ 99 ∷ 9 ∷ 55 ∷ 9 ∷ 49 ∷ 55 ∷ 10 ∷
    []

-- what the wide card gives to a script after loading it, and what of it is said
abbrev pub given_to : List ℕ → List ℕ → List C.Counters → List Event → List Back
given_to memory store rows es = gives Wide (loaded_in Wide text memory store rows) es

abbrev pub said_to : List ℕ → List ℕ → List C.Counters → List Event → List Said
said_to memory store rows es = map (λ b. b.said) (given_to memory store rows es)

-- every fate of an arrival (`arrivals`), every fate of a copy (`heard`, `discards`), an ABR cell taken (`abr`), Unit and Length (`refusals`), sent, heard and unheard cells (`frames`); of 02's
-- control and loopback cells, byte for byte, one handed in, sent, heard and collected (`update`), one on its way there and back (`test`), each in its turn (`last_first`), Busy (`busy`),
-- `full` at both outlets (`crowded`), `damaged` (`kinds`) and one that waits for its place (`standing`); an OAM cell that a busy unit does not mark, before a user cell that it does (`marking`):
-- whatever a memory for its 342 records, a store for its three units and three rows held before
pub record Runs (memory store : List ℕ) (rows : List C.Counters) : Type 0 where
  pub load : IsOk (answer_to Wide text memory (length store) (length rows)) 2736
  pub arrive : said_to memory store rows arrivals ≡ arrivals_say
  pub hear : said_to memory store rows heard ≡ heard_say
  pub discard : said_to memory store rows discards ≡ discards_say
  pub take : said_to memory store rows abr ≡ abr_say
  pub send : said_to memory store rows frames ≡ frames_say
  pub refuse : said_to memory store rows refusals ≡ refusals_say
  pub exchange : given_to memory store rows update ≡ update_gives
  pub return : given_to memory store rows test ≡ test_gives
  pub in_turn : given_to memory store rows last_first ≡ last_first_gives
  pub mark : given_to memory store rows marking ≡ marking_gives
  pub find_busy : said_to memory store rows busy ≡ busy_says
  pub crowd : said_to memory store rows crowded ≡ crowded_says
  pub judge : said_to memory store rows kinds ≡ kinds_say
  pub stand : said_to memory store rows standing ≡ standing_says

abbrev pub AllRun : Type 0
AllRun = (memory store : List ℕ) (rows : List C.Counters) → length memory ≡ 2736 → length store ≡ 24576 → length rows ≡ 3 → Runs memory store rows

-- "A table of the `bus` line alone is good.": on either card, whatever room there is; it uses no byte of the memory
abbrev pub bus_text : List ℕ
bus_text = 98 ∷ 117 ∷ 115 ∷ 9 ∷ 49 ∷ 54 ∷ 10 ∷ []

abbrev pub BusAlone : Type 0
BusAlone = (card : Card) (memory : List ℕ) (store rows : ℕ) → IsOk (answer_to card bus_text memory store rows) 0

-- each refusal of a table: Long; Form of the empty text; Order of a table that begins with an `mc` line; Twice; Wide on the narrow card, at the fourth line of the table above; Room;
-- Store. `path` is bus 16 / unit 0 .. / vp 0 0 b 0 with these digits
abbrev pub five : List ℕ
five = path (53 ∷ [])

pub record Refusals : Type 0 where
  pub long : IsRefused (answer_to Wide (replicate 65537 0) [] 0 0) 1 0
  pub form : IsRefused (answer_to Wide [] [] 0 0) 2 1
  pub order : IsRefused (answer_to Wide (109 ∷ 99 ∷ 9 ∷ 48 ∷ 9 ∷ 48 ∷ 10 ∷ []) [] 0 0) 3 1
  pub twice : IsRefused (answer_to Wide (five ++ (118 ∷ 112 ∷ 9 ∷ 48 ∷ 9 ∷ 48 ∷ 9 ∷ 98 ∷ 9 ∷ 48 ∷ 9 ∷ 53 ∷ 10 ∷ [])) (replicate 8 0) 8192 1) 4 4
  pub wide : IsRefused (answer_to Narrow text (replicate 2736 0) 24576 3) 5 4
  pub room : IsRefused (answer_to Wide five [] 8192 1) 6 2
  pub store : IsRefused (answer_to Wide five (replicate 8 0) 0 1) 7 0

-- a state with these values at these bytes, and zeros elsewhere
unfoldable pub bytes : List (ℕ × ℕ) → List ℕ
bytes [] = replicate 2048 0
bytes (one ∷ more) = set (bytes more) one.0 one.1

-- State: a bus of 17
abbrev pub spoiled : Lent
spoiled = record { state = bytes ((804, 17) ∷ []); memory = []; store = []; rows = [] }

abbrev pub Spoiled : Type 0
Spoiled = (card : Card) (e : Event) → (does card spoiled e).said ≡ answers (Refused 8)

-- sound states are not only those that loading leaves: a unit with two cells from the last place of its inlet on, one of them granted and the other asking, three cells in its queue, four
-- in its control outlet from the last place on, one in its loopback outlet, frame 65,535
abbrev pub columns : List (ℕ × ℕ)
columns = (0, 4) ∷ (3 * 32, 5) ∷ (4 * 32, 2) ∷ (8 * 32, 100) ∷ (14 * 32, 3) ∷ (15 * 32, 2) ∷ (16 * 32, 122) ∷ (20 * 32, 3) ∷ (28 * 32, 3) ∷ (29 * 32, 4) ∷ (30 * 32, 1) ∷ []

abbrev pub turn : List (ℕ × ℕ)
turn = (772, 2) ∷ (800, 255) ∷ (801, 4) ∷ (802, 255) ∷ (803, 4) ∷ (804, 16) ∷ (805, 1) ∷ (806, 255) ∷ (807, 255) ∷ []

abbrev pub running : List ℕ
running = bytes (columns ++ turn)

abbrev pub BeyondLoaded : Type 0
BeyondLoaded =
    (sound_in Narrow running 8192 1 ≡ true)
    × ((card : Card) (text memory store : List ℕ) (rows : List C.Counters) → (loaded_in card text memory store rows).state ≡ running → ⊥)

-- a control cell asks too: with it the same unit has a cell besides its one data cell, which is granted
abbrev pub ControlAsks : Type 0
ControlAsks = sound_in Narrow (bytes ((26 * 32, 1) ∷ (15 * 32, 1) ∷ columns ++ turn)) 8192 1 ≡ true

-- and the same with a link byte of 2 is none, though the shelf that it reads as, of an `nni` unit, is sound
abbrev pub misformed : List ℕ
misformed = bytes ((32, 2) ∷ columns ++ turn)

pub record Misformed (memory store : List ℕ) (rows : List C.Counters) (e : Event) : Type 0 where
  pub sound : sound_of Wide (shelf_in misformed) 8192 1 ≡ true
  pub refuses : (does Wide (record { state = misformed; memory = memory; store = store; rows = rows }) e).said ≡ answers (Refused 8)

abbrev pub LinkByte : Type 0
LinkByte = (memory store : List ℕ) (rows : List C.Counters) (e : Event) → Misformed memory store rows e
