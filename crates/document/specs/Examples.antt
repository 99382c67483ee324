-- Tables, events and what they give back, to be computed. Assumes nothing.
use Rattle.std.specs.Prelude.{ℕ, Bool, true, false, List, [], ◌∷◌, ◌++◌, replicate}
use Rattle.header.specs.declared.Link.TheVariants.{Uni}
use Rattle.bus.specs.declared.Target.TheVariants as target
use Rattle.outlet.specs.declared.Mode.TheVariants.{One, Four}
use Rattle.outlet.specs.declared.Limits.{Limits}
use Rattle.shelf.specs.declared.Settings.{Settings}
use Rattle.arbiter.specs.Arbitration.{nobody}
use Rattle.line.specs.declared.Line.{Line}
use Rattle.line.specs.declared.Line.TheVariants.{Bus, Unit as L-as-Unit, Page, Vc}
use Rattle.answer.specs.declared.Arrival.TheVariants as arrival
use Rattle.answer.specs.declared.Answer.TheVariants.{Arrived, Framed, Taken, Empty}
use Rattle.document.specs.Events.{Event, arrive, frame, take_cell, count, Said, answers, counts, Back}

abbrev pub back : Said → List ℕ → Back
back said bytes = record { said = said; bytes = bytes }

-- 01's table and events
--   bus 16 / unit 0 uni 5 2 one 0 0 100 0 / unit 3 uni 0 1 four 40 30 20 1 / page 0 5 33 / vc 0 5 33 u3 2 9 40
abbrev pub one : ℕ → Bool → Limits
one vbrlimit mark = record { mode = One; cbrlength = 0; cbrlimit = 0; vbrlimit = vbrlimit; mark = mark }

abbrev pub four : ℕ → ℕ → ℕ → Bool → Limits
four cbrlength cbrlimit vbrlimit mark = record { mode = Four; cbrlength = cbrlength; cbrlimit = cbrlimit; vbrlimit = vbrlimit; mark = mark }

abbrev pub uni : ℕ → ℕ → ℕ → Settings
uni number top priority = record { number = number; link = Uni; top = top; priority = priority }

unfoldable pub table : List Line
table = Vc 0 5 33 (target.Unit 3) 2 9 40 ∷ Page 0 5 33 ∷ L-as-Unit (uni 3 0 1) (four 40 30 20 true) ∷ L-as-Unit (uni 0 5 2) (one 100 false) ∷ Bus 16 ∷ []

-- a header with its check, and one payload byte repeated 48 times
abbrev pub repeated : List ℕ → ℕ → List ℕ
repeated header byte = header ++ replicate 48 byte

abbrev pub good : List ℕ
good = repeated (0x00 ∷ 0x50 ∷ 0x02 ∷ 0x10 ∷ 0x2b ∷ []) 0xa5

abbrev pub wrong : List ℕ
wrong = repeated (0x10 ∷ 0x50 ∷ 0x02 ∷ 0x10 ∷ 0x4f ∷ []) 0xa5

abbrev pub lent : ℕ → List ℕ
lent n = replicate n 0xee

unfoldable pub events : List Event
events = arrive 0 good ∷ arrive 0 wrong ∷ frame (lent 57) ∷ frame (lent 57) ∷ take_cell 3 (lent 53) ∷ take_cell 3 (lent 53) ∷ count 3 ∷ []

-- the frame: class 2 to unit 3 is 2038, VPI 9 and VCI 40 are 00 90 02 80; the parity is theirs, since 48 equal bytes cancel
unfoldable pub printed : List Back
printed =
    back (answers (Arrived arrival.Queued)) good ∷
    back (answers (Arrived arrival.Hec)) wrong ∷
    back (answers (Framed 0 nobody 0 0)) (lent 57) ∷
    back (answers (Framed 1 0 nobody 1)) ((0x20 ∷ 0x38 ∷ 0 ∷ 0 ∷ 0x00 ∷ 0x90 ∷ 0x02 ∷ 0x80 ∷ []) ++ replicate 48 0xa5 ++ (0x0a ∷ [])) ∷
    back (answers Taken) (repeated (0x00 ∷ 0x90 ∷ 0x02 ∷ 0x80 ∷ 0x5f ∷ []) 0xa5) ∷
    back (answers Empty) (lent 53) ∷
    back (counts (record { arrived = 0; hec = 0; ignored = 0; misrouted = 0; inletfull = 0; sent = 0; unheard = 0; damaged = 0; queued = 1; full = 0; clp = 0; wide = 0; taken = 1 })) [] ∷
    []
