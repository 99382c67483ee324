-- The numbers of the C interface: a card, and what is given back as one number.
--     bits 0 to 7 its kind; 8 to 15 the refusal, the fate or the copies; 16 to 23 the sender; 24 to 31 the unit granted; 32 to 63 the bytes, the line, the frame's number or the
--     place of a row; all others 0
-- Assumes nothing.
use Rattle.std.specs.Prelude.{ℕ, ◌+◌, ◌*◌, ◌/◌, ◌%◌, ◌<◌, cond, ◌≡◌, eqb, Result, Ok, Err}
use Rattle.card.specs.declared.Card.{Card}
use Rattle.card.specs.declared.Card.TheVariants.{Narrow, Wide}
use Rattle.answer.specs.declared.Arrival as A
use Rattle.answer.specs.declared.Arrival.TheVariants as arrivals
use Rattle.answer.specs.declared.Hearing as H
use Rattle.answer.specs.declared.Hearing.TheVariants as hearings
use Rattle.answer.specs.declared.Answer as N
use Rattle.answer.specs.declared.Answer.TheVariants as answers

-- 1 is the wide card. A number that is no card is the one that holds less: what asks for more is refused, and never misread.
unfoldable pub card_of : ℕ → Card
card_of n = cond (eqb n 1) Wide Narrow

unfoldable pub arrival_code : A.Arrival → ℕ
arrival_code arrivals.Hec = 0
arrival_code arrivals.Ignored = 1
arrival_code arrivals.Misrouted = 2
arrival_code arrivals.Inletfull = 3
arrival_code arrivals.Queued = 4

unfoldable pub hearing_code : H.Hearing → ℕ
hearing_code hearings.Damaged = 0
hearing_code hearings.Other = 1
hearing_code hearings.Wide = 2
hearing_code hearings.Full = 3
hearing_code hearings.Clp = 4
hearing_code hearings.Queued = 5

abbrev pub pack : ℕ → ℕ → ℕ → ℕ → ℕ → ℕ
pack kind low sender granted high = kind + low * 256 + sender * 65536 + granted * 16777216 + high * 4294967296

unfoldable pub code : N.Answer → ℕ
code (answers.Loaded bytes) = pack 0 0 0 0 bytes
code (answers.Unloaded number line) = pack 1 number 0 0 line
code (answers.Refused number) = pack 2 number 0 0 0
code (answers.Arrived fate) = pack 3 (arrival_code fate) 0 0 0
code (answers.Framed number sender granted copies) = pack 4 copies sender granted number
code (answers.Heard fate) = pack 5 (hearing_code fate) 0 0 0
code answers.Taken = 6
code answers.Empty = 7
code answers.Handed = 8

-- what a count gives back: the place of the row to read, or the number of the refusal
unfoldable pub place_code : Result ℕ ℕ → ℕ
place_code (Ok place) = pack 9 0 0 0 place
place_code (Err number) = pack 2 number 0 0 0

-- the number that is given back is that of an answer that comes with what is left
abbrev pub Tells : (N.Answer → Type 0) → ℕ → Type 0
Tells leaves n = (a : N.Answer) × (leaves a × (n ≡ code a))

-- what include/plevandor.h reads off a number by shift and mask, as the answer that it was
abbrev pub arrival_by : ℕ → A.Arrival
arrival_by n = cond (eqb n 0) arrivals.Hec (cond (eqb n 1) arrivals.Ignored (cond (eqb n 2) arrivals.Misrouted (cond (eqb n 3) arrivals.Inletfull arrivals.Queued)))

abbrev pub hearing_by : ℕ → H.Hearing
hearing_by n =
    cond (eqb n 0) hearings.Damaged (cond (eqb n 1) hearings.Other (cond (eqb n 2) hearings.Wide (cond (eqb n 3) hearings.Full (cond (eqb n 4) hearings.Clp hearings.Queued))))

abbrev pub answer_by : ℕ → ℕ → ℕ → ℕ → ℕ → N.Answer
answer_by kind low sender granted high =
    cond (eqb kind 0) (answers.Loaded high)
    (cond (eqb kind 1) (answers.Unloaded low high)
    (cond (eqb kind 2) (answers.Refused low)
    (cond (eqb kind 3) (answers.Arrived (arrival_by low))
    (cond (eqb kind 4) (answers.Framed high sender granted low)
    (cond (eqb kind 5) (answers.Heard (hearing_by low))
    (cond (eqb kind 6) answers.Taken (cond (eqb kind 7) answers.Empty answers.Handed)))))))

abbrev pub read_off : ℕ → N.Answer
read_off n = answer_by (n % 256) (n / 256 % 256) (n / 65536 % 256) (n / 16777216 % 256) (n / 4294967296)

-- the numbers that an answer holds fit their bits, as those of the code do by their types
abbrev pub InBits : N.Answer → Type 0
InBits (answers.Loaded bytes) = Prim.Unit {0}
InBits (answers.Unloaded number line) = number < 256
InBits (answers.Refused number) = number < 256
InBits (answers.Arrived fate) = Prim.Unit {0}
InBits (answers.Framed number sender granted copies) = (copies < 256) × ((sender < 256) × (granted < 256))
InBits (answers.Heard fate) = Prim.Unit {0}
InBits answers.Taken = Prim.Unit {0}
InBits answers.Empty = Prim.Unit {0}
InBits answers.Handed = Prim.Unit {0}

-- what is read off is the answer that was given, so that no two answers have one number
abbrev pub ReadBack : Type 0
ReadBack = (a : N.Answer) → InBits a → read_off (code a) ≡ a
