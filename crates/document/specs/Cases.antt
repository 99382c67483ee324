-- Cases of documents 01 and 02 on the document's shelf, to be computed: scripts of events, and what each says. Assumes nothing.
use Rattle.std.specs.Prelude.{ℕ, ◌+◌, ◌*◌, true, false, List, [], ◌∷◌, ◌++◌, map, replicate, set}
use Rattle.octets.specs.Octets.{be4, four}
use Rattle.header.specs.Fields.{fields, word}
use Rattle.header.specs.Check.{check}
use Rattle.header.specs.declared.Link.{Link}
use Rattle.header.specs.declared.Link.TheVariants.{Uni, Nni}
use Rattle.bus.specs.Routing.{routing, check as routing_check}
use Rattle.bus.specs.declared.Target.TheVariants as target
use Rattle.bus.specs.Frame.{cell, sealed}
use Rattle.arbiter.specs.Arbitration.{nobody}
use Rattle.shelf.specs.declared.Settings.{Settings}
use Rattle.line.specs.declared.Line.{Line}
use Rattle.line.specs.declared.Line.TheVariants.{Bus, Unit as L-as-Unit, Vp, Drop, Page, Vc, Mc}
use Rattle.answer.specs.declared.Arrival as A
use Rattle.answer.specs.declared.Arrival.TheVariants as arrival
use Rattle.answer.specs.declared.Hearing as H
use Rattle.answer.specs.declared.Hearing.TheVariants as hearing
use Rattle.answer.specs.declared.Answer.TheVariants.{Refused, Arrived, Framed, Heard, Taken, Empty, Handed}
use Rattle.document.specs.Events.{Event, arrive, frame, hear, take_cell, count, hand, collect, Said, answers, counts, Back}
use Rattle.document.specs.Shelf.{Shelf, unit_at, with_queue, after, opened}
use Rattle.document.specs.Steps.{gives}
use Rattle.document.specs.Examples.{back, one, four as limits, uni, lent}

abbrev pub nni : ℕ → ℕ → ℕ → Settings
nni number top priority = record { number = number; link = Nni; top = top; priority = priority }

-- bus 16 / unit 0 uni 5 2 one 0 0 2 1 / unit 3 uni 0 1 four 40 3 2 1 / unit 7 nni 300 3 four 1 1 88 0 / vp 0 1 u3 1 9 / drop 0 2 / page 0 5 33 / vc 0 5 33 u3 2 9 40
-- vp 0 3 m17 0 300 / vp 0 4 b 3 7 / vp 7 261 u9 3 1 / mc 3 17 / mc 7 17
unfoldable pub table : List Line
table =
    Mc 7 17 ∷
    Mc 3 17 ∷
    Vp 7 261 (target.Unit 9) 3 1 ∷
    Vp 0 4 target.All 3 7 ∷
    Vp 0 3 (target.Session 17) 0 300 ∷
    Vc 0 5 33 (target.Unit 3) 2 9 40 ∷
    Page 0 5 33 ∷
    Drop 0 2 ∷
    Vp 0 1 (target.Unit 3) 1 9 ∷
    L-as-Unit (nni 7 300 3) (limits 1 1 88 false) ∷
    L-as-Unit (uni 3 0 1) (limits 40 3 2 true) ∷
    L-as-Unit (uni 0 5 2) (one 2 true) ∷
    Bus 16 ∷
    []

-- a cell with a right check; a frame with a sound parity
abbrev pub lined : Link → ℕ → ℕ → ℕ → List ℕ
lined link vpi vci pt =
    let header = word link (record { gfc = 0; vpi = vpi; vci = vci; pt = pt; clp = 0 }) in
    be4 header ++ (check header ∷ replicate 48 7)

abbrev pub good : Link → ℕ → ℕ → List ℕ
good link vpi vci = lined link vpi vci 0

abbrev pub sound : ℕ → ℕ → List ℕ
sound r header = sealed (cell r 0 header (replicate 48 7))

-- what a script says
unfoldable pub says : Shelf → List Event → List Said
says shelf es = map (λ b. b.said) (gives shelf es)

-- a shelf, a script, and what document 01 has it say
pub record Case : Type 0 where
  pub on : Shelf
  pub script : List Event
  pub says : List Said

abbrev pub case : Shelf → List Event → List Said → Case
case shelf script said = record { on = shelf; script = script; says = said }

abbrev pub arrives : List A.Arrival → List Said
arrives fates = map (λ fate. answers (Arrived fate)) fates

abbrev pub hears : List H.Hearing → List Said
hears fates = map (λ fate. answers (Heard fate)) fates

-- A. arrivals at unit 0: a wrong check; VPI 0 with VCI 0; dropped; no line for the VCI; above the page's top; above the unit's top; no line for the VPI; by `vp`; by `vc`;
-- the top nibble of a UNI header is no VPI; "cell 4 queued, cell 5 `inletfull`"
abbrev pub arrivals : List Event
arrivals =
    arrive 0 (be4 0x00500210 ++ (0x2c ∷ replicate 48 7)) ∷
    arrive 0 (good Uni 0 0) ∷
    arrive 0 (good Uni 2 9) ∷
    arrive 0 (good Uni 5 32) ∷
    arrive 0 (good Uni 5 34) ∷
    arrive 0 (good Uni 6 1) ∷
    arrive 0 (good Uni 0 7) ∷
    arrive 0 (good Uni 1 77) ∷
    arrive 0 (good Uni 5 33) ∷
    arrive 0 (be4 0x10500210 ++ (0x4c ∷ replicate 48 7)) ∷
    arrive 0 (good Uni 4 0) ∷
    arrive 0 (good Uni 4 0) ∷
    []

abbrev pub arrivals_say : List Said
arrivals_say =
    arrives
    (arrival.Hec ∷ arrival.Ignored ∷ arrival.Ignored ∷ arrival.Misrouted ∷ arrival.Misrouted ∷ arrival.Misrouted ∷ arrival.Misrouted
    ∷ arrival.Queued ∷ arrival.Queued ∷ arrival.Queued ∷ arrival.Queued ∷ arrival.Inletfull ∷ [])

-- B. refusals: Unit before Length, Length also of a frame that would be idle and of a take that would be empty
abbrev pub refusals : List Event
refusals = arrive 4 [] ∷ arrive 0 [] ∷ frame [] ∷ hear 9 [] ∷ hear 0 (lent 56) ∷ take_cell 0 [] ∷ take_cell 300 [] ∷ count 4 ∷ []

abbrev pub refusals_say : List Said
refusals_say = map (λ n. answers (Refused n)) (9 ∷ 10 ∷ 10 ∷ 9 ∷ 10 ∷ 10 ∷ 9 ∷ 9 ∷ [])

-- C. frames: 7 has priority 3 and is granted before 0, and is granted once, for a granted cell does not ask again; its cell is for unit 9, which nobody declared; then two
-- of unit 0: to the session of 3 and 7, where VPI 300 is too wide for the UNI, and to all three
abbrev pub frames : List Event
frames =
    arrive 0 (good Uni 3 1) ∷ arrive 0 (good Uni 4 1) ∷ arrive 7 (good Nni 261 1) ∷
    frame (lent 57) ∷ frame (lent 57) ∷ frame (lent 57) ∷ frame (lent 57) ∷ frame (lent 57) ∷ []

abbrev pub frames_say : List Said
frames_say =
    arrives (arrival.Queued ∷ arrival.Queued ∷ arrival.Queued ∷ []) ++
    map (λ a. answers a) (Framed 0 nobody 7 0 ∷ Framed 1 7 0 0 ∷ Framed 2 0 0 1 ∷ Framed 3 0 nobody 3 ∷ Framed 4 nobody nobody 0 ∷ [])

-- D. frames handed in: 57 zero bytes are a sound frame to unit 0, at 3 another's; bad parity; bad check; kind 3 of class 2; unicast above 31; VPI 256 at a UNI
abbrev pub heard : List Event
heard =
    hear 0 (replicate 57 0) ∷
    hear 3 (replicate 57 0) ∷
    hear 0 (set (replicate 57 0) 56 1) ∷
    hear 0 (sound 1 0) ∷
    hear 0 (sound (0xe00 * 16 + routing_check 0xe00) 0) ∷
    hear 0 (sound (routing (target.Unit 32) 0) 0) ∷
    hear 0 (sound (routing (target.Unit 0) 0) 0x10000000) ∷
    hear 7 (sound (routing (target.Unit 7) 0) 0x10000000) ∷
    hear 3 (sound (routing (target.Session 17) 0) 0) ∷
    hear 0 (sound (routing (target.Session 17) 0) 0) ∷
    []

abbrev pub heard_say : List Said
heard_say =
    hears
    (hearing.Queued ∷ hearing.Other ∷ hearing.Damaged ∷ hearing.Damaged ∷ hearing.Damaged ∷ hearing.Damaged ∷ hearing.Wide ∷ hearing.Queued ∷ hearing.Queued ∷ hearing.Other ∷ [])

-- E. a queue with n cells already; CLP 1 below and at the limit, and at capacity: "Mode `one` ..: cell 123 queued with CLP 0, cell 124 `full`", class 0 holds 2
abbrev pub filled : ℕ → ℕ → ℕ → Shelf → Shelf
filled place q n d = after d place (with_queue (unit_at d place) q (replicate n (record { header = 0; payload = [] }))) []

abbrev pub to : ℕ → ℕ → ℕ → Event
to unit class header = hear unit (sound (routing (target.Unit unit) class) header)

-- with no cell in any queue before: in mode one the third with CLP 1, in mode four the third of class 0
abbrev pub discards : List Event
discards = to 0 1 0 ∷ to 0 1 0 ∷ to 0 1 1 ∷ to 3 0 0 ∷ to 3 0 0 ∷ to 3 0 0 ∷ []

abbrev pub discards_say : List Said
discards_say = hears (hearing.Queued ∷ hearing.Queued ∷ hearing.Clp ∷ hearing.Queued ∷ hearing.Queued ∷ hearing.Full ∷ [])

-- F. 004's figures 15 and 16: PT of the cells that leave
unfoldable pub pts : Shelf → ℕ → ℕ → List ℕ
pts shelf unit n = map (λ b. (fields Uni (four b.bytes 0)).pt) (gives shelf (replicate n (take_cell unit (lent 53))))

-- a queue with cells of these PTs already
abbrev pub coded : ℕ → ℕ → List ℕ → Shelf → Shelf
coded place q ps d = after d place (with_queue (unit_at d place) q (map (λ p. record { header = p * 2; payload = [] }) ps)) []

-- a shelf, a unit, and the PTs of the cells that are taken there one after the other
pub record Figure : Type 0 where
  pub on : Shelf
  pub unit : ℕ
  pub marks : List ℕ

abbrev pub figures : List Figure
figures =
    record { on = filled 0 0 3 (opened table); unit = 0; marks = 2 ∷ 2 ∷ 0 ∷ [] }
    -- in figure 16 a class 0 cell leaves before them, marked too
    ∷ record { on = filled 1 0 1 (filled 1 1 3 (filled 1 2 2 (opened table))); unit = 3; marks = 2 ∷ 2 ∷ 2 ∷ 2 ∷ 2 ∷ 0 ∷ [] }
    -- 02: "only cells whose top PT bit is 0 are marked", each of the eight PTs at a limit; the last but one is marked, since the one behind it counts
    ∷ record { on = coded 0 0 (1 ∷ 2 ∷ 3 ∷ 5 ∷ 6 ∷ 7 ∷ 0 ∷ 4 ∷ []) (opened table); unit = 0; marks = 3 ∷ 2 ∷ 3 ∷ 5 ∷ 6 ∷ 7 ∷ 2 ∷ 4 ∷ [] }
    -- by the PT of the cell that leaves, whatever the queue at its limit has in front
    ∷ record { on = coded 1 0 (0 ∷ 4 ∷ []) (coded 1 1 (5 ∷ 1 ∷ 0 ∷ []) (opened table)); unit = 3; marks = 2 ∷ 4 ∷ 5 ∷ 1 ∷ 0 ∷ [] }
    ∷ []

-- G. bus 32 / unit 0 uni 1 1 .. / unit 16 uni 1 1 .. / unit 17 uni 1 1 .., each with vp .. 1 b 0 0
unfoldable pub wide : List Line
wide =
    Vp 17 1 target.All 0 0 ∷
    Vp 16 1 target.All 0 0 ∷
    Vp 0 1 target.All 0 0 ∷
    L-as-Unit (uni 17 1 1) (one 100 false) ∷
    L-as-Unit (uni 16 1 1) (one 100 false) ∷
    L-as-Unit (uni 0 1 1) (one 100 false) ∷
    Bus 32 ∷
    []

-- in even frames 0 asks, in odd ones 16 and 17, in cyclic order after the last one granted; what was asked stands
abbrev pub turns : List Event
turns =
    arrive 16 (good Uni 1 1) ∷ arrive 17 (good Uni 1 1) ∷ frame (lent 57) ∷ arrive 0 (good Uni 1 1) ∷
    frame (lent 57) ∷ frame (lent 57) ∷ frame (lent 57) ∷ frame (lent 57) ∷ []

abbrev pub turns_say : List Said
turns_say =
    arrives (arrival.Queued ∷ arrival.Queued ∷ []) ++
    (answers (Framed 0 nobody nobody 0) ∷ answers (Arrived arrival.Queued) ∷ answers (Framed 1 nobody 16 0) ∷ answers (Framed 2 16 17 3) ∷ answers (Framed 3 17 0 3) ∷ answers (Framed 4 0 nobody 3) ∷ [])

-- "modulo 65,536"
abbrev pub late : Shelf → Shelf
late d = record { lines = d.lines; bus = d.bus; units = d.units; arbiter = d.arbiter; granted = d.granted; frame = 65535; history = d.history }

-- H. takes: the lowest class held leaves first, ABR last; in mode one all are in one queue
abbrev pub taking : ℕ → List Event
taking unit = take_cell unit (lent 53) ∷ take_cell unit (lent 53) ∷ []

abbrev pub took : List Said
took = answers Taken ∷ answers Empty ∷ []

-- an ABR cell, handed in and taken
abbrev pub abr : List Event
abr = to 3 3 0 ∷ taking 3

abbrev pub abr_say : List Said
abr_say = hears (hearing.Queued ∷ []) ++ took

-- I. 02's control and loopback cells. A cell of 56 bytes of kind 3, of this class, for this unit and with this tandem header
abbrev pub third : ℕ → ℕ → ℕ → List ℕ
third class unit tandem =
    let upper = 0xc00 + class * 0x100 + unit in
    cell (upper * 16 + routing_check upper) tandem 0 (replicate 48 7)

-- an update: control cells from unit 0's processor to unit 3's, with whatever tandem header
abbrev pub update : List Event
update =
    hand 0 (third 0 3 0xffff) ∷ frame (lent 57) ∷ frame (lent 57) ∷ hand 0 (third 0 3 1) ∷ frame (lent 57) ∷ frame (lent 57) ∷
    collect 3 (lent 56) ∷ collect 3 (lent 56) ∷ collect 3 (lent 56) ∷ []

abbrev pub update_gives : List Back
update_gives =
    back (answers Handed) (third 0 3 0xffff) ∷ back (answers (Framed 0 nobody 0 0)) (lent 57) ∷ back (answers (Framed 1 0 nobody 1)) (sealed (third 0 3 0xffff)) ∷
    back (answers Handed) (third 0 3 1) ∷ back (answers (Framed 2 nobody 0 0)) (lent 57) ∷ back (answers (Framed 3 0 nobody 1)) (sealed (third 0 3 1)) ∷
    back (answers Taken) (third 0 3 0xffff) ∷ back (answers Taken) (third 0 3 1) ∷ back (answers Empty) (lent 56) ∷ []

-- a loopback test of unit 3 from unit 0: it comes back to unit 0, which its first tandem byte names, with its other bytes as they were
abbrev pub test : List Event
test =
    hand 0 (third 1 3 0x00a5) ∷ frame (lent 57) ∷ frame (lent 57) ∷ frame (lent 57) ∷ frame (lent 57) ∷ collect 0 (lent 56) ∷ []

abbrev pub test_gives : List Back
test_gives =
    back (answers Handed) (third 1 3 0x00a5) ∷ back (answers (Framed 0 nobody 0 0)) (lent 57) ∷ back (answers (Framed 1 0 nobody 1)) (sealed (third 1 3 0x00a5)) ∷
    back (answers (Framed 2 nobody 3 0)) (lent 57) ∷ back (answers (Framed 3 3 nobody 1)) (sealed (third 0 0 0x00a5)) ∷
    back (answers Taken) (third 0 0 0x00a5) ∷ []

-- Unit before Length, Length before Busy; the place is taken until its cell is sent; a cell of kind 0 from a processor is heard as data
abbrev pub busy : List Event
busy =
    hand 9 [] ∷ hand 0 [] ∷ hand 0 (third 0 3 0) ∷ hand 0 [] ∷ hand 0 (third 0 3 0) ∷ frame (lent 57) ∷ hand 0 (third 0 3 0) ∷ frame (lent 57) ∷
    hand 0 (cell (routing (target.Unit 3) 1) 0 0 (replicate 48 7)) ∷ frame (lent 57) ∷ frame (lent 57) ∷ take_cell 3 (lent 53) ∷ collect 9 [] ∷ collect 3 [] ∷ []

abbrev pub busy_says : List Said
busy_says =
    map (λ a. answers a)
    (Refused 9 ∷ Refused 10 ∷ Handed ∷ Refused 10 ∷ Refused 11 ∷ Framed 0 nobody 0 0 ∷ Refused 11 ∷ Framed 1 0 nobody 1
    ∷ Handed ∷ Framed 2 nobody 0 0 ∷ Framed 3 0 nobody 1 ∷ Taken ∷ Refused 9 ∷ Refused 10 ∷ [])

-- a control outlet holds four, a loopback outlet one
abbrev pub hears_third : ℕ → ℕ → ℕ → Event
hears_third class unit tandem = hear unit (sealed (third class unit tandem))

abbrev pub crowded : List Event
crowded =
    replicate 5 (hears_third 0 3 0) ++ (hears_third 1 3 0 ∷ hears_third 1 3 0 ∷ collect 3 (lent 56) ∷ hears_third 0 3 0 ∷ hears_third 0 3 0 ∷ [])

abbrev pub crowded_says : List Said
crowded_says =
    hears (replicate 4 hearing.Queued ++ (hearing.Full ∷ hearing.Queued ∷ hearing.Full ∷ [])) ++ (answers Taken ∷ hears (hearing.Queued ∷ hearing.Full ∷ []))

-- "another class, or an address above 31, is `damaged`"; "a tandem byte above 31 is `damaged`", of a loopback cell, and all eight bits of it count
abbrev pub kinds : List Event
kinds =
    hears_third 2 3 0 ∷ hears_third 3 3 0 ∷ hear 3 (sealed (third 0 32 0)) ∷ hear 3 (sealed (third 1 32 0)) ∷ hear 3 (sealed (third 0 31 0)) ∷
    hears_third 0 3 0x2000 ∷ hears_third 1 3 0x2000 ∷ hears_third 1 3 0x1fff ∷ []

abbrev pub kinds_say : List Said
kinds_say =
    hears (hearing.Damaged ∷ hearing.Damaged ∷ hearing.Damaged ∷ hearing.Damaged ∷ hearing.Other ∷ hearing.Queued ∷ hearing.Damaged ∷ hearing.Queued ∷ [])

-- "data, then control, then loopback": the last to come is the first to go
abbrev pub last_first : List Event
last_first =
    hears_third 1 0 0 ∷ frame (lent 57) ∷ hand 0 (third 0 3 0) ∷ arrive 0 (good Uni 4 1) ∷ frame (lent 57) ∷ frame (lent 57) ∷ frame (lent 57) ∷ []

abbrev pub last_first_gives : List Back
last_first_gives =
    back (answers (Heard hearing.Queued)) (sealed (third 1 0 0)) ∷ back (answers (Framed 0 nobody 0 0)) (lent 57) ∷
    back (answers Handed) (third 0 3 0) ∷ back (answers (Arrived arrival.Queued)) (good Uni 4 1) ∷
    back (answers (Framed 1 0 0 3)) (sealed (cell (routing target.All 3) 0 0x00700010 (replicate 48 7))) ∷
    back (answers (Framed 2 0 0 1)) (sealed (third 0 3 0)) ∷
    back (answers (Framed 3 0 nobody 1)) (sealed (third 0 0 0)) ∷ []

-- "once that is free": a loopback cell waits in the outlet while the inlet is taken, also in the frame in which that is sent
abbrev pub standing : List Event
standing =
    hears_third 1 3 0 ∷ frame (lent 57) ∷ hears_third 1 3 0 ∷ frame (lent 57) ∷ hears_third 1 3 0 ∷ frame (lent 57) ∷ frame (lent 57) ∷ count 3 ∷ []

abbrev pub standing_says : List Said
standing_says =
    answers (Heard hearing.Queued) ∷ answers (Framed 0 nobody 3 0) ∷ answers (Heard hearing.Queued) ∷ answers (Framed 1 3 nobody 1) ∷
    answers (Heard hearing.Full) ∷ answers (Framed 2 nobody 3 0) ∷ answers (Framed 3 3 nobody 1) ∷
    counts (record { arrived = 0; hec = 0; ignored = 0; misrouted = 0; inletfull = 0; sent = 2; unheard = 0; damaged = 0; queued = 2; full = 1; clp = 0; wide = 0; taken = 2 }) ∷ []

-- J. 02's mark: "End-to-end OAM cells with PT 101", one before two of user data, at unit 3 with VBR limit 2: it leaves as it arrived, the next is marked, the last is alone
abbrev pub marking : List Event
marking =
    arrive 0 (lined Uni 5 33 5) ∷ arrive 0 (lined Uni 5 33 0) ∷ arrive 0 (lined Uni 5 33 0) ∷ frame (lent 57) ∷ frame (lent 57) ∷ frame (lent 57) ∷ frame (lent 57) ∷
    take_cell 3 (lent 53) ∷ take_cell 3 (lent 53) ∷ take_cell 3 (lent 53) ∷ []

abbrev pub marking_gives : List Back
marking_gives =
    back (answers (Arrived arrival.Queued)) (lined Uni 5 33 5) ∷ back (answers (Arrived arrival.Queued)) (lined Uni 5 33 0) ∷ back (answers (Arrived arrival.Queued)) (lined Uni 5 33 0) ∷
    back (answers (Framed 0 nobody 0 0)) (lent 57) ∷
    back (answers (Framed 1 0 0 1)) (sound (routing (target.Unit 3) 2) 0x0090028a) ∷
    back (answers (Framed 2 0 0 1)) (sound (routing (target.Unit 3) 2) 0x00900280) ∷
    back (answers (Framed 3 0 nobody 1)) (sound (routing (target.Unit 3) 2) 0x00900280) ∷
    back (answers Taken) (lined Uni 9 40 5) ∷ back (answers Taken) (lined Uni 9 40 2) ∷ back (answers Taken) (lined Uni 9 40 0) ∷ []

-- those of which the bytes count
pub record Exchange : Type 0 where
  pub script : List Event
  pub gives : List Back

abbrev pub exchanges : List Exchange
exchanges =
    record { script = update; gives = update_gives } ∷ record { script = test; gives = test_gives } ∷ record { script = last_first; gives = last_first_gives } ∷
    record { script = marking; gives = marking_gives } ∷ []

-- all of them
abbrev pub cases : List Case
cases =
    case (opened table) arrivals arrivals_say
    ∷ case (opened table) refusals refusals_say
    ∷ case (opened table) frames frames_say
    ∷ case (opened table) heard heard_say
    ∷ case (opened table) discards discards_say
    ∷ case (opened table) abr abr_say
    -- mode one, limit 2, unit 0: below the limit, at it, and with CLP 0; cells 123 and 124
    ∷ case (filled 0 0 1 (opened table)) (to 0 1 1 ∷ to 0 2 1 ∷ to 0 3 0 ∷ []) (hears (hearing.Queued ∷ hearing.Clp ∷ hearing.Queued ∷ []))
    ∷ case (filled 0 0 122 (opened table)) (to 0 1 0 ∷ to 0 2 0 ∷ to 0 3 1 ∷ []) (hears (hearing.Queued ∷ hearing.Full ∷ hearing.Full ∷ []))
    -- mode four, unit 3 (place 1): class 0 holds 2 and has no limit, CBR 40 with limit 3, VBR 49 with limit 2, ABR 32 without
    ∷ case (filled 1 0 1 (opened table)) (to 3 0 1 ∷ to 3 0 1 ∷ []) (hears (hearing.Queued ∷ hearing.Full ∷ []))
    ∷ case (filled 1 1 2 (opened table)) (to 3 1 1 ∷ to 3 1 1 ∷ to 3 1 0 ∷ []) (hears (hearing.Queued ∷ hearing.Clp ∷ hearing.Queued ∷ []))
    ∷ case (filled 1 2 48 (opened table)) (to 3 2 1 ∷ to 3 2 0 ∷ to 3 2 0 ∷ []) (hears (hearing.Clp ∷ hearing.Queued ∷ hearing.Full ∷ []))
    ∷ case (filled 1 3 31 (opened table)) (to 3 3 1 ∷ to 3 3 0 ∷ []) (hears (hearing.Queued ∷ hearing.Full ∷ []))
    -- in even frames 0 asks, in odd ones 16 and 17
    ∷ case (opened wide) turns turns_say
    -- frames are numbered "modulo 65,536"
    ∷ case (late (opened table)) (frame (lent 57) ∷ frame (lent 57) ∷ []) (answers (Framed 65535 nobody nobody 0) ∷ answers (Framed 0 nobody nobody 0) ∷ [])
    -- a cell of each class is taken; then the queues are empty
    ∷ case (filled 1 0 1 (opened table)) (taking 3) took
    ∷ case (filled 1 1 1 (opened table)) (taking 3) took
    ∷ case (filled 1 2 1 (opened table)) (taking 3) took
    ∷ case (filled 1 3 1 (opened table)) (taking 3) took
    ∷ case (filled 0 0 1 (opened table)) (taking 0) took
    -- 02's control and loopback cells
    ∷ case (opened table) busy busy_says
    ∷ case (opened table) crowded crowded_says
    ∷ case (opened table) kinds kinds_say
    ∷ case (opened table) standing standing_says
    ∷ []
