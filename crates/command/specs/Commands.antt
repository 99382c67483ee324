-- A line of docs/CONSOLE.md by its first word and how many fields it has. Assumes nothing.
use Rattle.std.specs.Prelude.{ℕ, ◌&&◌, cond, codes, List, eqb, leb, length, Option, Some, None}
use Rattle.text.specs.Text.{fields_of, field_of, same}
use Rattle.command.specs.declared.Command.{Command}
use Rattle.command.specs.declared.Command.TheVariants.{Help}
use Rattle.command.specs.SetUpLines.{card_line, lend_line, poke_line, show_lent, show_unit}
use Rattle.command.specs.EventLines.{load_line, arrive_line, hear_line, frame_line, take_line, hand_line, collect_line, count_line}

-- a line that calls for an event
unfoldable pub event_line : List ℕ → List ℕ → ℕ → Option Command
event_line text word fields =
    cond (eqb fields 2 && same word (codes "load")) (load_line text)
    (cond (eqb fields 3 && same word (codes "arrive")) (arrive_line text)
    (cond (eqb fields 3 && same word (codes "hear")) (hear_line text)
    (cond (eqb fields 2 && same word (codes "frame")) (frame_line (fields_of text))
    (cond (eqb fields 3 && same word (codes "take")) (take_line (fields_of text))
    (cond (eqb fields 3 && same word (codes "hand")) (hand_line text)
    (cond (eqb fields 3 && same word (codes "collect")) (collect_line (fields_of text))
    (cond (eqb fields 2 && same word (codes "count")) (count_line (fields_of text)) None)))))))

-- any line
unfoldable pub spoken : List ℕ → List ℕ → ℕ → Option Command
spoken text word fields =
    cond (eqb fields 2 && same word (codes "card")) (card_line (fields_of text))
    (cond (eqb fields 4 && same word (codes "lend")) (lend_line (fields_of text))
    (cond (eqb fields 4 && same word (codes "poke")) (poke_line text)
    (cond (eqb fields 1 && same word (codes "help")) (Some Help)
    (cond (eqb fields 2 && same word (codes "show")) (show_lent (fields_of text))
    (cond (eqb fields 3 && same word (codes "show")) (show_unit (fields_of text)) (event_line text word fields))))))

-- "What is no command, a number outside what is said here, an odd number of hex digits, or a line above 150,000 bytes answers `bad`"
unfoldable pub reading_of : List ℕ → Option Command
reading_of text = cond (leb (length text) 150000) (spoken text (field_of 1 (fields_of text)) (length (fields_of text))) None
