-- The lines of docs/CONSOLE.md that call for an event. Assumes nothing.
use Rattle.std.specs.Prelude.{ℕ, List, Option, option_map}
use Rattle.command.specs.declared.Command.{Command}
use Rattle.command.specs.declared.Command.TheVariants.{Load, Arrive, Hear, Frame, Take, Hand, Collect, Count}
use Rattle.command.specs.Fields.{number_in, unit_in, span_in, unit_and_span, unit_and_length}

-- `load HEX`, `arrive UNIT HEX`, `hear UNIT HEX`, `hand UNIT HEX`: to 70,000 bytes
unfoldable pub load_line : List ℕ → Option Command
load_line text = option_map Load (span_in text 2 70000)

unfoldable pub arrive_line : List ℕ → Option Command
arrive_line text = option_map (λ read. Arrive read.0 read.1) (unit_and_span text)

unfoldable pub hear_line : List ℕ → Option Command
hear_line text = option_map (λ read. Hear read.0 read.1) (unit_and_span text)

unfoldable pub hand_line : List ℕ → Option Command
hand_line text = option_map (λ read. Hand read.0 read.1) (unit_and_span text)

-- `frame LENGTH`, `take UNIT LENGTH`, `collect UNIT LENGTH`: to 1,000; `count UNIT`
unfoldable pub frame_line : List (List ℕ) → Option Command
frame_line fs = option_map Frame (number_in fs 2 1000)

unfoldable pub take_line : List (List ℕ) → Option Command
take_line fs = option_map (λ read. Take read.0 read.1) (unit_and_length fs)

unfoldable pub collect_line : List (List ℕ) → Option Command
collect_line fs = option_map (λ read. Collect read.0 read.1) (unit_and_length fs)

unfoldable pub count_line : List (List ℕ) → Option Command
count_line fs = option_map Count (unit_in fs 2)
