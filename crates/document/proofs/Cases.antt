-- The cases, computed. Assumes nothing.
use mathlib.Core.Path.{◌≡◌, refl, ap}
use mathlib.Core.List.{[], map}
use lib.ListN.{length, get_or}
use Rattle.remainder.specs.Bits.{bits, number}
use Rattle.remainder.specs.Division.{minus, divide, remainder, residue}
use Rattle.header.specs.Fields.{fields, top_of, word}
use Rattle.header.specs.Check.{check as header_check}
use Rattle.bus.specs.Routing.{check as routing_check, upper, routing, controlling, address}
use Rattle.bus.specs.Frame.{cell, exclusive_or, sealed, third, carried, heard, returned}
use Rattle.outlet.specs.Outlets.{capacity}
use Rattle.outlet.specs.Hearing.{queue_of, limit, too_wide}
use Rattle.outlet.specs.Taking.{lowest, marked, outgoing}
use Rattle.arbiter.specs.Arbitration.{asking, due, renewed_from, run, cyclic, next, some_asks, highest, first, granted}
use Rattle.shelf.specs.Shelves.{place_from}
use Rattle.meaning.specs.Told.{hears_by, hears_in}
use Rattle.meaning.specs.Served.{serves, served}
use Rattle.answer.specs.Answers.{queued_one, is_addressed}
use Rattle.paper.specs.Counters.{arrival_counts, hearing_counts, sent_counts}
use Rattle.document.specs.Counters.{times}
use Rattle.document.specs.Shelf.{units_of, bus_of, opened}
use Rattle.document.specs.Arrival.{way_by, way_for, way_of, arrival_by, inlet_by, arrived}
use Rattle.document.specs.Hearing.{addressed, fate_in, room_in, hearing_of, placing, keeping, handed_in}
use Rattle.document.specs.Frame.{moving_from, moved_by, moved_entries, asking_of, copies, some_addressed, heard_entries, sending_from, sends_one, sends}
use Rattle.document.specs.Take.{line_cell, congested, takes_from, takes_by}
use Rattle.document.specs.Processor.{hands_into, collects_from}
use Rattle.document.specs.Steps.{admitted, happens_to, gives}
use Rattle.document.specs.Cases.{table, says, cases, exchanges, figures, pts, wide, arrivals, arrivals_say, refusals, refusals_say, frames, frames_say, heard as handed, heard_say, discards, discards_say, abr, abr_say}

pub cases_hold : map (λ c. says c.on c.script) cases ≡ map (λ c. c.says) cases
unfolding bits number minus divide remainder residue fields top_of word header_check routing_check upper routing controlling third address cell exclusive_or sealed carried heard returned capacity queue_of limit too_wide lowest marked outgoing asking due renewed_from run cyclic next some_asks highest first granted place_from hears_by hears_in serves served line_cell times arrival_counts hearing_counts sent_counts units_of bus_of way_by way_for way_of arrival_by inlet_by arrived addressed fate_in room_in hearing_of placing keeping handed_in moving_from moved_by moved_entries asking_of queued_one is_addressed copies some_addressed heard_entries sending_from sends_one sends congested takes_from takes_by hands_into collects_from admitted happens_to gives table wide says pts
cases_hold = refl

pub figures_hold : map (λ f. pts f.on f.unit (length f.marks)) figures ≡ map (λ f. f.marks) figures
unfolding bits number minus divide remainder residue fields top_of word header_check routing_check upper routing controlling third address cell exclusive_or sealed carried heard returned capacity queue_of limit too_wide lowest marked outgoing asking due renewed_from run cyclic next some_asks highest first granted place_from hears_by hears_in serves served line_cell times arrival_counts hearing_counts sent_counts units_of bus_of way_by way_for way_of arrival_by inlet_by arrived addressed fate_in room_in hearing_of placing keeping handed_in moving_from moved_by moved_entries asking_of queued_one is_addressed copies some_addressed heard_entries sending_from sends_one sends congested takes_from takes_by hands_into collects_from admitted happens_to gives table wide says pts
figures_hold = refl

pub exchanges_hold : map (λ x. gives (opened table) x.script) exchanges ≡ map (λ x. x.gives) exchanges
unfolding bits number minus divide remainder residue fields top_of word header_check routing_check upper routing controlling third address cell exclusive_or sealed carried heard returned capacity queue_of limit too_wide lowest marked outgoing asking due renewed_from run cyclic next some_asks highest first granted place_from hears_by hears_in serves served line_cell times arrival_counts hearing_counts sent_counts units_of bus_of way_by way_for way_of arrival_by inlet_by arrived addressed fate_in room_in hearing_of placing keeping handed_in moving_from moved_by moved_entries asking_of queued_one is_addressed copies some_addressed heard_entries sending_from sends_one sends congested takes_from takes_by hands_into collects_from admitted happens_to gives table wide says pts
exchanges_hold = refl

-- those that are run on the real shelf too
pub arrivals_hold : says (opened table) arrivals ≡ arrivals_say
arrivals_hold = ap (λ l. get_or l 0 []) cases_hold

pub refusals_hold : says (opened table) refusals ≡ refusals_say
refusals_hold = ap (λ l. get_or l 1 []) cases_hold

pub frames_hold : says (opened table) frames ≡ frames_say
frames_hold = ap (λ l. get_or l 2 []) cases_hold

pub heard_holds : says (opened table) handed ≡ heard_say
heard_holds = ap (λ l. get_or l 3 []) cases_hold

pub discards_hold : says (opened table) discards ≡ discards_say
discards_hold = ap (λ l. get_or l 4 []) cases_hold

pub abr_holds : says (opened table) abr ≡ abr_say
abr_holds = ap (λ l. get_or l 5 []) cases_hold
