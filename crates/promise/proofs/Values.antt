-- The starred values hold: one test over the whole table. Assumes nothing.
use lib.Dec.{T}
use Rattle.remainder.specs.Bits.{bits, number}
use Rattle.remainder.specs.Division.{minus, divide, remainder, residue}
use Rattle.header.specs.Fields.{fields}
use Rattle.header.specs.Check.{check as header_check}
use Rattle.bus.specs.Routing.{check as routing_check, upper, routing}
use Rattle.card.specs.Cards.{holds as card_holds, narrow_holds}
use Rattle.text.specs.Text.{split, same as same_word}
use Rattle.text.specs.Digits.{digit, digits, plain, decimal_of, value}
use Rattle.line.specs.Ranged.{ranged, aim_of}
use Rattle.line.specs.Units.{settings_on, settings_of, limits_in, limits_of}
use Rattle.line.specs.Lines.{bus_line, unit_line, key_of, way_of, vp_line, line_of, word_of, spoken, reading_of}
use Rattle.judge.specs.Judge.{judge_bus, judge_unit, judge_vp}
use Rattle.meaning.specs.Told.{same as same_whose, opens, gives, top_of, total, record_of, declare, shelf_by, shelf_of}
use Rattle.meaning.specs.Lines.{judge, run}
use Rattle.table.specs.Load.{readings_of, ran_of, loading_of, load}
use Rattle.promise.specs.Starred.{same, path, holds, all_hold, starred}

pub starred_hold : T (all_hold starred)
unfolding holds all_hold starred same path bits number minus divide remainder residue fields header_check routing_check upper routing card_holds narrow_holds split same_word digit digits plain decimal_of value ranged aim_of bus_line settings_on settings_of limits_in limits_of unit_line key_of way_of vp_line line_of word_of spoken reading_of judge_bus judge_unit judge_vp same_whose opens gives top_of total record_of declare shelf_by shelf_of judge run readings_of ran_of loading_of load
starred_hold = tt
