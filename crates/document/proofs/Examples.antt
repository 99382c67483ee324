-- The examples, computed. Assumes nothing.
use mathlib.Core.Path.{◌≡◌, refl}
use Rattle.remainder.specs.Bits.{bits, number}
use Rattle.remainder.specs.Division.{minus, divide, remainder, residue}
use Rattle.header.specs.Fields.{fields, top_of, word}
use Rattle.header.specs.Check.{check as header_check}
use Rattle.bus.specs.Routing.{check as routing_check, upper, routing, controlling, address}
use Rattle.bus.specs.Frame.{cell, exclusive_or, sealed, third, carried, heard, returned}
use Rattle.outlet.specs.Outlets.{capacity}
use Rattle.outlet.specs.Hearing.{queue_of, limit, too_wide}
use Rattle.outlet.specs.Taking.{lowest, marked, outgoing}
use Rattle.arbiter.specs.Arbitration.{asking, due, renewed_from, run, cyclic, next, some_asks, highest, first, granted}
use Rattle.shelf.specs.Shelves.{place_from}
use Rattle.meaning.specs.Told.{hears_by, hears_in}
use Rattle.meaning.specs.Served.{serves, served}
use Rattle.answer.specs.Answers.{queued_one, is_addressed}
use Rattle.paper.specs.Counters.{arrival_counts, hearing_counts, sent_counts}
use Rattle.document.specs.Counters.{times}
use Rattle.document.specs.Shelf.{units_of, bus_of, opened}
use Rattle.document.specs.Arrival.{way_by, way_for, way_of, arrival_by, inlet_by, arrived}
use Rattle.document.specs.Hearing.{addressed, fate_in, room_in, hearing_of, placing, keeping, handed_in}
use Rattle.document.specs.Frame.{moving_from, moved_by, moved_entries, asking_of, copies, some_addressed, heard_entries, sending_from, sends_one, sends}
use Rattle.document.specs.Take.{line_cell, congested, takes_from, takes_by}
use Rattle.document.specs.Processor.{hands_into, collects_from}
use Rattle.document.specs.Steps.{admitted, happens_to, gives}
use Rattle.document.specs.Examples.{table, events, printed}

-- 01's listing
pub listing : gives (opened table) events ≡ printed
unfolding bits number minus divide remainder residue fields top_of word header_check routing_check upper routing controlling third address cell exclusive_or sealed carried heard returned capacity queue_of limit too_wide lowest marked outgoing asking due renewed_from run cyclic next some_asks highest first granted place_from hears_by hears_in serves served line_cell times arrival_counts hearing_counts sent_counts units_of bus_of way_by way_for way_of arrival_by inlet_by arrived addressed fate_in room_in hearing_of placing keeping handed_in moving_from moved_by moved_entries asking_of queued_one is_addressed copies some_addressed heard_entries sending_from sends_one sends congested takes_from takes_by hands_into collects_from admitted happens_to gives table events printed
listing = refl
