-- The answer lines of docs/CONSOLE.md up to their newline, as bytes. Assumes nothing.
use Rattle.std.specs.Prelude.{ℕ, List, [], ◌∷◌, ◌++◌, length, codes}
use Rattle.octets.specs.Octets.{be4, cat}
use Rattle.text.specs.Decimals.{number_field, number_fields}
use Rattle.text.specs.Hex.{hex_of}
use Rattle.answer.specs.declared.Answer as A
use Rattle.answer.specs.declared.Answer.TheVariants.{Loaded, Unloaded, Refused, Arrived, Framed, Heard, Taken, Empty, Handed}
use Rattle.replies.specs.LineFields.{tabbed, who}
use Rattle.answer.specs.Answers.{arrival_word, hearing_word}
use Rattle.answer.specs.declared.Counters.{Counters}
use Rattle.answer.specs.Counting.{listed}

-- the words; a blank in a comment is a tab
-- `load ok`
abbrev pub t_load_ok : List ℕ
t_load_ok = codes "load\tok"

-- `load refused`
abbrev pub t_load_refused : List ℕ
t_load_refused = codes "load\trefused"

-- ` refused`
abbrev pub t_refused : List ℕ
t_refused = codes "\trefused"

-- `arrive`
abbrev pub t_arrive : List ℕ
t_arrive = codes "arrive"

-- `hear`
abbrev pub t_hear : List ℕ
t_hear = codes "hear"

-- `frame`
abbrev pub t_frame : List ℕ
t_frame = codes "frame"

-- `hand`
abbrev pub t_hand : List ℕ
t_hand = codes "hand"

-- ` cell`
abbrev pub t_cell : List ℕ
t_cell = codes "\tcell"

-- ` empty`
abbrev pub t_empty : List ℕ
t_empty = codes "\tempty"

-- ` ok`
abbrev pub t_ok : List ℕ
t_ok = codes "\tok"

-- `count`
abbrev pub t_count : List ℕ
t_count = codes "count"

-- `show rows`
abbrev pub t_show_rows : List ℕ
t_show_rows = codes "show\trows"

-- `show state`
abbrev pub t_show_state : List ℕ
t_show_state = codes "show\tstate"

-- `frame NUMBER SENDER GRANTED COPIES`: "SENDER and GRANTED are `-` where there is none"
abbrev pub frame_text : ℕ → ℕ → ℕ → ℕ → List ℕ
frame_text number sender granted copies = (((t_frame ++ number_field number) ++ tabbed (who sender)) ++ tabbed (who granted)) ++ number_field copies

-- what an event answers, but for its buffer; the word is that of an event that is refused, or of one that took a cell or found none
unfoldable pub said_text : List ℕ → ℕ → A.Answer → List ℕ
said_text word unit (Loaded used) = t_load_ok ++ number_field used
said_text word unit (Unloaded number line) = (t_load_refused ++ number_field number) ++ number_field line
said_text word unit (Refused number) = word ++ (t_refused ++ number_field number)
said_text word unit (Arrived fate) = (t_arrive ++ number_field unit) ++ tabbed (arrival_word fate)
said_text word unit (Framed number sender granted copies) = frame_text number sender granted copies
said_text word unit (Heard fate) = (t_hear ++ number_field unit) ++ tabbed (hearing_word fate)
said_text word unit Taken = (word ++ number_field unit) ++ t_cell
said_text word unit Empty = (word ++ number_field unit) ++ t_empty
said_text word unit Handed = (t_hand ++ number_field unit) ++ t_ok

-- `count UNIT` and the thirteen
abbrev pub count_text : ℕ → Counters → List ℕ
count_text unit c = (t_count ++ number_field unit) ++ number_fields (listed c)

-- `show memory LENGTH SUM`: eight hex digits
abbrev pub sum_text : List ℕ → ℕ → ℕ → List ℕ
sum_text text count sum = (text ++ number_field count) ++ (9 ∷ hex_of (be4 sum))

-- `show state HEX`
abbrev pub state_text : List ℕ → List ℕ
state_text bytes = t_show_state ++ (9 ∷ hex_of bytes)

-- `show rows COUNT` and, row by row, the thirteen counters
abbrev pub row_fields : Counters → List ℕ
row_fields c = number_fields (listed c)

abbrev pub rows_text : List Counters → List ℕ
rows_text rows = (t_show_rows ++ number_field (length rows)) ++ cat row_fields rows
