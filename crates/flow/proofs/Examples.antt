-- Computed: of document 01's own table and events, one cell goes into queue 2 of unit 3, in the second place, and is taken there; a loopback test of document 02. Assumes nothing.
use mathlib.Core.Path.{◌≡◌, refl}
use mathlib.Core.List.{[], ◌∷◌}
use lib.ListN.{replicate}
use Rattle.remainder.specs.Bits.{bits, number}
use Rattle.remainder.specs.Division.{minus, divide, remainder, residue}
use Rattle.header.specs.Fields.{fields, top_of, word}
use Rattle.header.specs.Check.{check as header_check}
use Rattle.bus.specs.Routing.{check as routing_check, upper, routing, controlling, address}
use Rattle.bus.specs.Frame.{cell, exclusive_or, sealed, third as third_kind, carried, heard, returned}
use Rattle.outlet.specs.Outlets.{capacity}
use Rattle.outlet.specs.Hearing.{queue_of, limit, too_wide}
use Rattle.outlet.specs.Taking.{lowest, marked, outgoing}
use Rattle.arbiter.specs.Arbitration.{asking, due, renewed_from, run, cyclic, next, some_asks, highest, first, granted}
use Rattle.shelf.specs.Shelves.{place_from}
use Rattle.meaning.specs.Told.{hears_by, hears_in}
use Rattle.meaning.specs.Served.{serves, served}
use Rattle.document.specs.Take.{line_cell}
use Rattle.answer.specs.Answers.{queued_one, is_addressed}
use Rattle.paper.specs.Counters.{arrival_counts, hearing_counts, sent_counts}
use Rattle.document.specs.Counters.{times}
use Rattle.document.specs.Shelf.{Cell, units_of, bus_of, opened}
use Rattle.document.specs.Arrival.{way_by, way_for, way_of, arrival_by, inlet_by, arrived}
use Rattle.document.specs.Hearing.{addressed, fate_in, room_in, hearing_of, placing, keeping, handed_in}
use Rattle.document.specs.Frame.{moving_from, moved_by, moved_entries, asking_of, copies, some_addressed, heard_entries, sending_from, sends_one, sends}
use Rattle.document.specs.Take.{congested, takes_from, takes_by}
use Rattle.document.specs.Processor.{hands_into, collects_from}
use Rattle.document.specs.Steps.{admitted, happens_to}
use Rattle.document.specs.Examples.{table, events}
use Rattle.document.specs.Cases.{table as cases_table, third, test}
use Rattle.flow.specs.Parts.{chosen, cell_of, without, only_at, sending, sending_by, part_of, handed_by, moved_from, out_by, of_out, control_in, loopback_in, copy_in, queued_by, control_copy, controls_by, loopback_copy, loopbacks_by, oldest_in, taken_by, collected_by}
use Rattle.flow.specs.Order.{over, queued_all, taken_all, control_sent, moved_all, loopback_sent, collected_all}

-- VPI 9, VCI 40
abbrev printed : Cell
printed = record { header = 0x00900280; payload = replicate 48 0xa5 }

pub listed : (queued_all (opened table) events 1 2 ≡ printed ∷ []) × (taken_all (opened table) events 1 2 ≡ printed ∷ [])
unfolding bits number minus divide remainder residue fields top_of word header_check routing_check upper routing controlling third_kind address cell exclusive_or sealed carried heard returned capacity queue_of limit too_wide lowest marked outgoing asking due renewed_from run cyclic next some_asks highest first granted place_from hears_by hears_in serves served line_cell times arrival_counts hearing_counts sent_counts units_of bus_of way_by way_for way_of arrival_by inlet_by arrived addressed fate_in room_in hearing_of placing keeping handed_in moving_from moved_by moved_entries asking_of queued_one is_addressed copies some_addressed heard_entries sending_from sends_one sends congested takes_from takes_by hands_into collects_from admitted happens_to table events chosen cell_of without only_at sending sending_by part_of copy_in queued_by oldest_in taken_by over
listed = (refl, refl)

-- 02's loopback test of unit 3 from unit 0: the cell handed in is sent, moves at unit 3, is sent from there as a control cell for unit 0, and is collected
pub tested : (control_sent (opened cases_table) test 0 ≡ third 1 3 0x00a5 ∷ []) × (moved_all (opened cases_table) test 1 ≡ third 1 3 0x00a5 ∷ []) × (loopback_sent (opened cases_table) test 1 ≡ third 0 0 0x00a5 ∷ []) × (collected_all (opened cases_table) test 0 ≡ third 0 0 0x00a5 ∷ [])
unfolding bits number minus divide remainder residue fields top_of word header_check routing_check upper routing controlling third_kind address cell exclusive_or sealed carried heard returned capacity queue_of limit too_wide lowest marked outgoing asking due renewed_from run cyclic next some_asks highest first granted place_from hears_by hears_in serves served line_cell times arrival_counts hearing_counts sent_counts units_of bus_of way_by way_for way_of arrival_by inlet_by arrived addressed fate_in room_in hearing_of placing keeping handed_in moving_from moved_by moved_entries asking_of queued_one is_addressed copies some_addressed heard_entries sending_from sends_one sends congested takes_from takes_by hands_into collects_from admitted happens_to cases_table chosen cell_of without only_at sending sending_by part_of copy_in queued_by oldest_in taken_by over handed_by moved_from out_by of_out control_in loopback_in control_copy controls_by loopback_copy loopbacks_by collected_by
tested = (refl, refl, refl, refl)
