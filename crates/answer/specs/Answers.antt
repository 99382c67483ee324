-- What an event answers, and which counters of which units rise by it. Assumes nothing.
use Rattle.std.specs.Prelude.{ℕ, ◌+◌, Bool, true, false, List, [], ◌∷◌, codes, replicate, slice_set, Option, Some, None}
use Rattle.shelf.specs.Shelf.{Shelf}
use Rattle.answer.specs.declared.Answer as A
use Rattle.answer.specs.declared.Answer.TheVariants.{Loaded, Unloaded, Refused, Arrived, Framed, Heard, Taken, Empty, Handed}
use Rattle.answer.specs.declared.Arrival as Ar
use Rattle.answer.specs.declared.Arrival.TheVariants as arrival
use Rattle.answer.specs.declared.Hearing as He
use Rattle.answer.specs.declared.Hearing.TheVariants as hearing
use Rattle.answer.specs.declared.Rises.{Rises}
use Rattle.answer.specs.declared.Outcome.{Outcome}
use Rattle.answer.specs.declared.Rise.{Rise}
use Rattle.answer.specs.declared.Single.{Single}
use Rattle.answer.specs.Done.{Done}

-- "Thirteen counters a unit ..: arrived, hec, ignored, misrouted, inletfull, sent, unheard, damaged, queued (outlet), full, clp, wide, taken."
-- A set of them is the sum of these
abbrev pub #arrived : ℕ
#arrived = 1

abbrev pub #hec : ℕ
#hec = 2

abbrev pub #ignored : ℕ
#ignored = 4

abbrev pub #misrouted : ℕ
#misrouted = 8

abbrev pub #inletfull : ℕ
#inletfull = 16

abbrev pub #sent : ℕ
#sent = 32

abbrev pub #unheard : ℕ
#unheard = 64

abbrev pub #damaged : ℕ
#damaged = 128

abbrev pub #queued : ℕ
#queued = 256

abbrev pub #full : ℕ
#full = 512

abbrev pub #clp : ℕ
#clp = 1024

abbrev pub #wide : ℕ
#wide = 2048

abbrev pub #taken : ℕ
#taken = 4096

-- an arriving cell is counted, and its fate, but for a queued one: `queued` counts at the outlet
unfoldable pub arrival_rises : Ar.Arrival → ℕ
arrival_rises arrival.Hec = #arrived + #hec
arrival_rises arrival.Ignored = #arrived + #ignored
arrival_rises arrival.Misrouted = #arrived + #misrouted
arrival_rises arrival.Inletfull = #arrived + #inletfull
arrival_rises arrival.Queued = #arrived

-- "Not addressed: `other`, uncounted."
unfoldable pub hearing_rises : He.Hearing → ℕ
hearing_rises hearing.Damaged = #damaged
hearing_rises hearing.Other = 0
hearing_rises hearing.Wide = #wide
hearing_rises hearing.Full = #full
hearing_rises hearing.Clp = #clp
hearing_rises hearing.Queued = #queued

-- "copies queued"
unfoldable pub queued_one : He.Hearing → ℕ
queued_one hearing.Damaged = 0
queued_one hearing.Other = 0
queued_one hearing.Wide = 0
queued_one hearing.Full = 0
queued_one hearing.Clp = 0
queued_one hearing.Queued = 1

-- "a damaged frame addresses none"
unfoldable pub is_addressed : He.Hearing → Bool
is_addressed hearing.Damaged = false
is_addressed hearing.Other = false
is_addressed hearing.Wide = true
is_addressed hearing.Full = true
is_addressed hearing.Clp = true
is_addressed hearing.Queued = true

-- 01's words for the fates, as bytes: of an arrival
unfoldable pub arrival_word : Ar.Arrival → List ℕ
arrival_word arrival.Hec = codes "hec"
arrival_word arrival.Ignored = codes "ignored"
arrival_word arrival.Misrouted = codes "misrouted"
arrival_word arrival.Inletfull = codes "inletfull"
arrival_word arrival.Queued = codes "queued"

-- of a frame that is heard
unfoldable pub hearing_word : He.Hearing → List ℕ
hearing_word hearing.Damaged = codes "damaged"
hearing_word hearing.Other = codes "other"
hearing_word hearing.Wide = codes "wide"
hearing_word hearing.Full = codes "full"
hearing_word hearing.Clp = codes "clp"
hearing_word hearing.Queued = codes "queued"

-- 01's "Numbers given back" for each answer and 02's "11 Busy", 0 where nothing is refused
unfoldable pub number_of : A.Answer → ℕ
number_of (Loaded used) = 0
number_of (Unloaded number line) = number
number_of (Refused number) = number
number_of (Arrived fate) = 0
number_of (Framed number sender granted copies) = 0
number_of (Heard fate) = 0
number_of Taken = 0
number_of Empty = 0
number_of Handed = 0

-- and what 01 gives back with it: bytes used; the line; of a frame "number, sender, unit granted, copies queued"
unfoldable pub values_of : A.Answer → List ℕ
values_of (Loaded used) = used ∷ []
values_of (Unloaded number line) = line ∷ []
values_of (Refused number) = []
values_of (Arrived fate) = []
values_of (Framed number sender granted copies) = number ∷ sender ∷ granted ∷ copies ∷ []
values_of (Heard fate) = []
values_of Taken = []
values_of Empty = []
values_of Handed = []

-- no row changes; in one row some rise
abbrev pub none : Rises
none = record { from = 0; to = 0; anew = false; each = replicate 32 0 }

abbrev pub row : ℕ → ℕ → Rises
row place counters = record { from = place; to = place + 1; anew = false; each = slice_set (replicate 32 0) place counters }

abbrev pub ends : A.Answer → Shelf → Rises → Done
ends answer shelf rises = record { reply = record { answer = answer; shelf = shelf }; rises = rises }

-- "Refusals 8 to 10 .. change nothing", and no more does 11
abbrev pub refused : Shelf → ℕ → Done
refused shelf number = ends (Refused number) shelf none

-- the same without the shelf
abbrev pub refused_with : ℕ → Outcome
refused_with number = record { answer = Refused number; rises = none }

-- an event at one unit: nothing is counted; or these counters rise in the row of a place
abbrev pub uncounted_with : A.Answer → Single
uncounted_with answer = record { answer = answer; rise = None }

abbrev pub counted_with : A.Answer → ℕ → ℕ → Single
counted_with answer place counters = record { answer = answer; rise = Some (record { place = place; counters = counters }) }

unfoldable pub spread : Option Rise → Rises
spread (Some rise) = row rise.place rise.counters
spread None = none

-- what it comes to, as of any event
abbrev pub outcome_by : Single → Outcome
outcome_by o = record { answer = o.answer; rises = spread o.rise }
