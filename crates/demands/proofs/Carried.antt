-- The three demands are met. Assumes nothing.
use Rattle.paper.proofs.Layouts.{layout, layout_once}
use Rattle.paper.proofs.Numerals.{numeral_iff}
use Rattle.paper.proofs.Texts.{texts_apart}
use Rattle.promise.proofs.Refusals.{either_way}
use Rattle.promise.proofs.Cards.{wide_or_not}
use Rattle.promise.proofs.Values.{starred_hold}
use Rattle.promise.proofs.Sheets.{check_sheet}
use Rattle.running.proofs.Kept.{never_state}
use Rattle.running.proofs.InPlace.{in_place, runs_in_place}
use Rattle.running.proofs.Tables.{table_refused_iff, table_loaded_iff, refused_table_zeroes, good_load}
use Rattle.running.proofs.Contracts.{entry_meets, entry_asks_nothing, entry_says, steps, determined}
use Rattle.refining.proofs.Refined.{refines, counters_are_history, too_wide, same_card}
use Rattle.refining.proofs.Bare.{refines_refused}
use Rattle.flow.proofs.Kept.{nothing_lost, in_order, counters_true}
use Rattle.flow.proofs.Once.{numbers_once}
use Rattle.flow.proofs.Bytes.{taken_handed, collected_handed, sent_framed, lowest_first, sending_order}
use Rattle.flow.proofs.Senders.{moved_later}
use Rattle.flow.proofs.Silent.{quiet}
use Rattle.flow.proofs.Streets.{right_street, bytes_stay}
use Rattle.flow.proofs.Follows.{line_followed}
use Rattle.flow.proofs.Apart.{once_only}
use Rattle.flow.proofs.Out.{taken_right, line_delivered, pt_kept, sent_right}
use Rattle.sentences.specs.Arrival.{ArrivalRule}
use Rattle.sentences.specs.Frame.{FrameRule}
use Rattle.sentences.specs.Hearing.{HearingRule}
use Rattle.sentences.specs.Take.{TakeRule}
use Rattle.sentences.specs.Count.{CountRule}
use Rattle.sentences.specs.Hand.{HandRule}
use Rattle.sentences.specs.Collect.{CollectRule}
use Rattle.sentences.proofs.InPlace.{in_bytes}
use Rattle.sentences.proofs.Refused.{refused as refused_rule, state_kept}
use Rattle.sentences.proofs.Arrives.{arrival_rule}
use Rattle.sentences.proofs.Frames.{frame_rule}
use Rattle.sentences.proofs.Hears.{hearing_rule}
use Rattle.sentences.proofs.Takes.{take_rule, count_rule}
use Rattle.sentences.proofs.Hands.{hand_rule, collect_rule}
use Rattle.fates.proofs.Fated.{fate_iff}
use Rattle.fates.proofs.Damages.{damaged_iff}
use Rattle.fates.proofs.Holding.{held_means_held}
use Rattle.fates.proofs.Going.{frames_go_on}
use Rattle.fates.proofs.Cleaned.{clean_table_clean_bus}
use Rattle.fates.proofs.Isolated.{isolation}
use Rattle.waiting.proofs.Requests.{same_requests}
use Rattle.waiting.proofs.Bound.{waits_at_most, waits_its_turn}
use Rattle.waiting.proofs.Starving.{no_bound_below, bound_attained}
use Rattle.witness.proofs.Witnessed.{listing_prints, bus_alone, all_run, refusals, spoiled_state, link_byte, beyond_loaded, control_asks}
use Rattle.demands.specs.Demands.{Demand1, Demand2, Demand3, Witnessed}

pub demand_1 : Demand1
demand_1 =
    record {
      entry_meets = entry_meets;
      entry_asks_nothing = entry_asks_nothing;
      entry_says = entry_says;
      steps = steps;
      determined = determined;
      table_refused_iff = table_refused_iff;
      table_loaded_iff = table_loaded_iff;
      numeral_iff = numeral_iff;
      texts_apart = texts_apart;
      either_way = either_way;
      refused_table_zeroes = refused_table_zeroes;
      good_load = good_load;
      layout = layout;
      layout_once = layout_once;
      in_place = in_place;
      runs_in_place = runs_in_place;
      refused_rule = refused_rule;
      state_kept = state_kept;
      never_state = never_state;
    }

pub demand_2 : Demand2
demand_2 =
    record {
      starred_hold = starred_hold;
      check_sheet = check_sheet;
      arrival_rule = in_bytes ArrivalRule arrival_rule;
      frame_rule = in_bytes FrameRule frame_rule;
      hearing_rule = in_bytes HearingRule hearing_rule;
      take_rule = in_bytes TakeRule take_rule;
      count_rule = in_bytes CountRule count_rule;
      hand_rule = in_bytes HandRule hand_rule;
      collect_rule = in_bytes CollectRule collect_rule;
      refines = refines;
      refines_refused = refines_refused;
      fate_iff = fate_iff;
      damaged_iff = damaged_iff;
      held_means_held = held_means_held;
      nothing_lost = nothing_lost;
      counters_are_history = counters_are_history;
      counters_true = counters_true;
      numbers_once = numbers_once;
      frames_go_on = frames_go_on;
      waits_at_most = waits_at_most;
      waits_its_turn = waits_its_turn;
      same_requests = same_requests;
      no_bound_below = no_bound_below;
      clean_table_clean_bus = clean_table_clean_bus;
      in_order = in_order;
      taken_handed = taken_handed;
      collected_handed = collected_handed;
      sent_framed = sent_framed;
      lowest_first = lowest_first;
      sending_order = sending_order;
      moved_later = moved_later;
      right_street = right_street;
      bytes_stay = bytes_stay;
      quiet = quiet;
      line_followed = line_followed;
      once_only = once_only;
      taken_right = taken_right;
      line_delivered = line_delivered;
      pt_kept = pt_kept;
      sent_right = sent_right;
      isolation = isolation;
    }

pub demand_3 : Demand3
demand_3 = record { too_wide = too_wide; wide_or_not = wide_or_not; same_card = same_card }

pub witnessed : Witnessed
witnessed = record { listing_prints = listing_prints; bus_alone = bus_alone; all_run = all_run; bound_attained = bound_attained; refusals = refusals; spoiled = spoiled_state; link_byte = link_byte; beyond_loaded = beyond_loaded; control_asks = control_asks }
