-- The three demands: each sentence, and the statement that carries it. What is said of the shelf is said of the 2,048 lent bytes of its state: `running: Lent` has the contracts of
-- `entry` over them, `state: Bytes` the shelf that they are, `paper: Layouts` which byte of them says what. Assumes nothing.
use Rattle.std.specs.Prelude.{ℕ, ◌<◌, ◌≡◌, ◌⊎◌, List, T, length}
use Rattle.bus.specs.Routing.{check}
use Rattle.card.specs.declared.Card.{Card}
use Rattle.state.specs.Bytes.{shelf_in}
use Rattle.line.specs.declared.Line.{Line}
use Rattle.paper.specs.Layouts.{Layout, LayoutOnce}
use Rattle.paper.specs.Reads.{NumeralIff, TextsApart}
use Rattle.promise.specs.Refusals.{Accepts, Refuses}
use Rattle.promise.specs.Narrow.{NoneWide, FirstWide}
use Rattle.promise.specs.Sheet.{sheet}
use Rattle.promise.specs.Starred.{starred, all_hold}
use Rattle.running.specs.Keeping.{NeverState}
use Rattle.running.specs.InPlace.{InPlace, RunsInPlace}
use Rattle.running.specs.Tables.{TableRefusedIff, TableLoadedIff, RefusedTableZeroes, GoodLoad}
use Rattle.running.specs.EntryContracts.{EntryMeets, EntryAsksNothing, EntrySays, Steps, Determined}
use Rattle.refining.specs.Refines.{Refines, RefinesRefused, CountersAreHistory}
use Rattle.refining.specs.Cards.{TooWide, SameCard}
use Rattle.flow.specs.Lost.{NothingLost, NumbersOnce}
use Rattle.flow.specs.Order.{InOrder, TakenHanded, CollectedHanded, SentFramed, LowestFirst, SendingOrder}
use Rattle.flow.specs.Counted.{CountersTrue}
use Rattle.flow.specs.Street.{RightStreet, BytesStay, LineFollowed}
use Rattle.flow.specs.Apart.{OnceOnly}
use Rattle.flow.specs.Out.{TakenRight, LineDelivered, PtKept, SentRight, MovedLater}
use Rattle.flow.specs.Quiet.{Quiet}
use Rattle.sentences.specs.Changes.{InBytes}
use Rattle.sentences.specs.Refusals.{RefusedRule, StateKept}
use Rattle.sentences.specs.Arrival.{ArrivalRule}
use Rattle.sentences.specs.Frame.{FrameRule}
use Rattle.sentences.specs.Hearing.{HearingRule}
use Rattle.sentences.specs.Take.{TakeRule}
use Rattle.sentences.specs.Count.{CountRule}
use Rattle.sentences.specs.Hand.{HandRule}
use Rattle.sentences.specs.Collect.{CollectRule}
use Rattle.fates.specs.Fates.{FateIff}
use Rattle.fates.specs.Damage.{DamagedIff}
use Rattle.fates.specs.Held.{HeldMeansHeld}
use Rattle.fates.specs.Frames.{FramesGoOn}
use Rattle.fates.specs.Clean.{CleanTableCleanBus}
use Rattle.fates.specs.Isolation.{Isolation}
use Rattle.waiting.specs.Waiting.{at_three, WaitsAtMost, WaitsItsTurn, SameRequests, NoBoundBelow, BoundAttained}
use Rattle.witness.specs.Witness.{ListingPrints, BusAlone, AllRun, Refusals, Spoiled, LinkByte, BeyondLoaded, ControlAsks}

-- 1. "Every entry point takes every input, finishes, and does nothing undefined. A bad table, frame, cell, buffer or shelf state is refused with a fixed number. A refused table leaves
-- the translation memory zeroed, its first 262,144 bytes where it is longer; every other refusal changes nothing."
pub record Demand1 : Type 2 where
  -- "finishes, and does nothing undefined": Rattle's own theorem of the code of each of the eight
  pub entry_meets : (M : Type 1) → EntryMeets M
  -- "takes every input": none of the eight has a `requires`
  pub entry_asks_nothing : EntryAsksNothing
  -- what Rattle has as the `ensures` of each of the eight is the contract that the next two speak of
  pub entry_says : EntrySays
  -- whatever meets such a contract is the step that every promise below speaks of
  pub steps : (card : Card) → Steps card
  -- "any two results that satisfy it are shown equal"
  pub determined : (card : Card) → Determined card
  -- "A bad table .. is refused with a fixed number": each of 1 to 7, with its line, exactly when 01 says so of the text's bytes and of the lines before that one; "with 2 to 6 tried in that order on it"
  pub table_refused_iff : TableRefusedIff
  -- a table that is good has none of these faults; "`table` gives `ok` and bytes used"
  pub table_loaded_iff : TableLoadedIff
  -- "Numbers are decimal without needless zeros.": those in the bytes of a line
  pub numeral_iff : NumeralIff
  -- and a text is that of one list of lines only
  pub texts_apart : TextsApart
  -- and there is no third way
  pub either_way : (card : Card) (text memory : List ℕ) (store rows : ℕ) →
      ((told : List Line) × Accepts card text memory store rows told) ⊎ ((number : ℕ) × (line : ℕ) × Refuses card text memory store rows number line)
  -- "A refused table leaves the translation memory zeroed, its first 262,144 bytes where it is longer"
  pub refused_table_zeroes : RefusedTableZeroes
  -- "each `unit` line takes (top VPI + 1) records and each `page` line (top VCI + 1) records, in line order, 8 bytes a record, from byte 0 without gaps": the memory byte by byte, and the
  -- shelf number by number; "A good load zeroes its rows and starts with all queues empty."
  pub good_load : GoodLoad
  -- docs/STATE.md, "The state of one shelf is 2,048 bytes": "The byte of place p in column c is byte 32 c + p."; "The shelf itself"; "Sessions": which byte says what
  pub layout : (state : List ℕ) → length state ≡ 2048 → Layout state (shelf_in state)
  -- and that is all of a shelf but the places that are not declared: bytes are one shelf
  pub layout_once : LayoutOnce
  -- an event on bytes that are a state is the event on the shelf that they are: what is said, each lent byte, the shelf afterwards; they are a state again, and no byte has changed
  -- but requests, grants, the frame number and the rings and places of declared units. Bytes that are none are refused, and stay
  pub in_place : InPlace
  -- so it is from every load on, which leaves a state, all 2,048 bytes of it, whatever they were: those that say nothing are zero and stay so
  pub runs_in_place : RunsInPlace
  -- "A bad .. frame, cell, buffer or shelf state is refused with a fixed number.": each of 8 to 11, over every event on all bytes, a state or not, exactly when 01 says so, a bad state item
  -- by item, and 02: "Length for other than 56 bytes, then 11 Busy, place taken"; "every other refusal changes nothing", not one byte
  pub refused_rule : RefusedRule
  -- every event leaves a good state good
  pub state_kept : StateKept
  -- so no state that was loaded is ever refused as State
  pub never_state : NeverState

-- 2. "The shelf does what the published cell header rules, the CUBIT-Pro data sheet and document 01 say, for frames written and frames heard. Each arriving cell meets exactly one
-- fate, each copy on the bus meets exactly one fate at each unit it addresses, and the counters equal that history, modulo 4,294,967,296."
pub record Demand2 : Type 0 where
  -- "The starred cases form a single table, proved once as a whole"
  pub starred_hold : T (all_hold starred)
  -- "the CUBIT-Pro data sheet": its equations for the check of the routing header are 01's remainder
  pub check_sheet : (word : ℕ) → word < 4096 → check word ≡ sheet word
  -- 01's "What an event does", each sentence in its own numbers, on all bytes that are a sound state, in any memory and any store: which fate a cell meets by the record's bytes, what is said, what is
  -- held where, which counters rise in which rows, and that nothing else changes. "**Arrival** at a unit."
  pub arrival_rule : InBytes ArrivalRule
  -- "**Frame**, numbered from 0 modulo 65,536."
  pub frame_rule : InBytes FrameRule
  -- "**Hearing**": "one handed in by the unit named with it"; "Capacities"
  pub hearing_rule : InBytes HearingRule
  -- "**Take** gives the oldest cell"
  pub take_rule : InBytes TakeRule
  -- "`count` lists the thirteen"
  pub count_rule : InBytes CountRule
  -- 02, W1: "The processor hands in .. the 56 bytes before parity"
  pub hand_rule : InBytes HandRule
  -- "and takes from the control outlet (or `empty`)"; "leaving either outlet is `taken`"
  pub collect_rule : InBytes CollectRule
  -- "The shelf does what .. document 01 say, for frames written and frames heard.": every answer and every lent byte, from a good load on; what follows of the document's shelf is so of ours
  pub refines : Refines
  -- and from a refused one on: "a fresh 16 bus with no units"
  pub refines_refused : RefinesRefused
  -- "Each arriving cell meets exactly one fate, each copy on the bus meets exactly one fate at each unit it addresses"
  pub fate_iff : FateIff
  -- "Bad parity, bad check, kind 3, unicast above 31 or broadcast address not 0 is `damaged`.", kind 3 as 02 has it: "another class, or an address above 31, is `damaged`"; "a tandem byte above
  -- 31 is `damaged`"
  pub damaged_iff : DamagedIff
  -- "one that says `queued` and holds nothing" is none of ours
  pub held_means_held : HeldMeansHeld
  -- "Each arriving cell meets exactly one fate": after every sequence of events it, or one handed in or moved, was lost and counted so, was sent or waits, and each copy queued was taken or is there
  pub nothing_lost : NothingLost
  -- "and the counters equal that history, modulo 4,294,967,296"
  pub counters_are_history : CountersAreHistory
  -- "counters made up" are none of ours: the history is what came
  pub counters_true : CountersTrue
  -- no number is declared twice, so that the history of a number is one unit's
  pub numbers_once : NumbersOnce
  -- "a frame that sends once and then only numbers frames" is none of ours
  pub frames_go_on : FramesGoOn
  -- 02, W10: "from the frame in which a priority 3 unit's request is taken up, it is granted by the end of the n-th frame, that frame counted as first, n being the number of declared units at
  -- priority 3. It holds on both buses, with any arrivals, and while no table is loaded.": in what our shelf gives back, on either card, whatever comes between the frames but a load
  pub waits_at_most : WaitsAtMost at_three
  -- and sharper: only those count that stand in cyclic order after the last one granted at 3, up to the unit itself
  pub waits_its_turn : WaitsItsTurn at_three
  -- the requests and the last units granted that both go by are those of our state's bytes
  pub same_requests : SameRequests
  -- "Show too, on a 16 bus, that no such number holds for priority 1 beside a busy priority 3.": one table for every number, and the wait begins in frame 0
  pub no_bound_below : NoBoundBelow
  -- no frame of a cell that arrived is damaged; "A sent cell addressing no declared unit also counts `unheard` at its sender"
  pub clean_table_clean_bus : CleanTableCleanBus
  -- cells leave an inlet and a queue in the order in which they came
  pub in_order : InOrder
  -- a take hands out the cell that it takes, or "`empty` with the buffer unchanged"
  pub taken_handed : TakenHanded
  -- a collect hands out the cell that it takes, byte for byte, or the buffer is unchanged
  pub collected_handed : CollectedHanded
  -- "Then the unit granted in the frame before sends its oldest cell.": the frame is that cell's
  pub sent_framed : SentFramed
  -- "the oldest cell of the lowest class held (mode `four`)"
  pub lowest_first : LowestFirst
  -- "Sending order is document 001's default: data, then control, then loopback."
  pub sending_order : SendingOrder
  -- "moves at the start of the next frame .. to the loopback inlet": it is sent in a later one
  pub moved_later : MovedLater
  -- every cell held or taken was meant for that unit, and every cell that waits or is sent arrived there, was handed in there or had moved there
  pub right_street : RightStreet
  -- "as a control cell for the unit named in its first tandem byte": what a processor collects is a control cell for its unit, and its other bytes are those of a cell handed in or heard
  pub bytes_stay : BytesStay
  -- and without such cells all is as document 01 has it
  pub quiet : Quiet
  -- "route, VCI kept; page, the VCI's record"; "PT and CLP are kept.": target, class, outgoing VPI and VCI are those of a line of the table; that the lines are in range is part of `Accepts`
  pub line_followed : LineFollowed
  -- no cell goes out twice: of those that meet any test no more are sent than arrived and were routed, or were handed in, and no more are taken, collected or moved
  -- than came in frames meant for the unit
  pub once_only : OnceOnly
  -- the bytes that a take hands out are those of a cell meant for that unit, marked exactly when 01 says so of the unit's queues and 02 of the cell: "only cells whose top PT bit is 0 are marked"
  pub taken_right : TakenRight
  -- and their VPI and VCI are the line's, payload and CLP the arrival's, PT but for that mark: "A UNI unit writes GFC 0. The check is new."
  pub line_delivered : LineDelivered
  -- "End-to-end OAM cells with PT 101 left a busy cabinet as 111.": a PT of 4 or more leaves as it arrived, from arrival to take, whatever the queues hold; at a unit with mark 0 every PT does
  pub pt_kept : PtKept
  -- those of a frame after a grant are the oldest cell of the unit granted, which arrived there, was handed in there, "sent as they are", or had moved there
  pub sent_right : SentRight
  -- an event at a unit leaves every other unit, row and part of the store alone, and of the state's bytes all but that unit's rings and places
  pub isolation : Isolation

-- 3. "Take a route table that the twelve-bit card accepts, and lend both cards equal room. The eight-bit card refuses it as too wide .. Otherwise .. it gives the same answers, cells and
-- counters as the twelve-bit card, and both are those of demand 2."
pub record Demand3 : Type 0 where
  -- "The eight-bit card refuses it as too wide, naming the first line that asks for an NNI link, an outgoing path above 255 or the 32-unit bus, exactly when there is such a line."
  pub too_wide : TooWide
  -- there is a first such line, or none: one of the two always speaks
  pub wide_or_not : (told : List Line) → NoneWide told ⊎ ((line : ℕ) × FirstWide told line)
  -- "Otherwise, over every sequence of events after loading .. it gives the same answers, cells and counters as the twelve-bit card, and both are those of demand 2."; the two states are
  -- equal byte for byte
  pub same_card : SameCard

-- none of it is empty
pub record Witnessed : Type 0 where
  -- "This table and these events": on both cards, with the bytes of the cell taken
  pub listing_prints : ListingPrints
  -- "A table of the `bus` line alone is good."
  pub bus_alone : BusAlone
  -- every fate of an arrival and of a copy, an ABR cell taken, Unit, Length and Busy; control and loopback cells handed in, heard, returned and collected, byte for byte; of 02's
  -- mark, a PT of 101 that leaves a busy unit as it arrived
  pub all_run : AllRun
  -- of three units at priority 3 one waits for the third frame: no lower number holds
  pub bound_attained : BoundAttained
  -- each refusal of a table
  pub refusals : Refusals
  -- State
  pub spoiled : Spoiled
  -- a link byte that no `unit` line gives
  pub link_byte : LinkByte
  -- a sound state that no load leaves
  pub beyond_loaded : BeyondLoaded
  -- and one in which a control cell asks
  pub control_asks : ControlAsks
