-- The lines that the bench prints. Assumes nothing.
use Rattle.std.specs.Prelude.{ℕ, cond, codes, List, [], ◌∷◌, ◌++◌, leb, length, Option, Some, None}
use Rattle.text.specs.Decimals.{number_fields}
use Rattle.event.specs.declared.Event.{Event}
use Rattle.event.specs.declared.Event.TheVariants.{Arrive, Frame, Take, Count}
use Rattle.answer.specs.declared.Answer.{Answer}
use Rattle.replies.specs.LineFields.{fields}
use Rattle.replies.specs.Answers.{answer_fields}
use Rattle.replies.specs.declared.Outcome.{Outcome}
use Rattle.replies.specs.declared.Outcome.TheVariants.{Answered, Counted}
use Rattle.answer.specs.Counting.{listed}

-- what is said of an event: nothing, what was answered, the counters; "`count` lists the thirteen in order, later ones after."
unfoldable pub outcome_text : ℕ → Option Outcome → List ℕ → List ℕ
outcome_text unit None cell = []
outcome_text unit (Some (Answered answer)) cell = fields (answer_fields unit answer cell)
outcome_text unit (Some (Counted c)) cell = number_fields (unit ∷ listed c)

-- the word of an event, and the unit that it names; "a line that is no event prints `bad`"
unfoldable pub word_of : Option Event → List ℕ
word_of (Some (Arrive unit header check byte)) = codes "arrive"
word_of (Some Frame) = codes "frame"
word_of (Some (Take unit)) = codes "take"
word_of (Some (Count unit)) = codes "count"
word_of None = codes "bad"

unfoldable pub unit_of : Option Event → ℕ
unit_of (Some (Arrive unit header check byte)) = unit
unit_of (Some Frame) = 0
unit_of (Some (Take unit)) = unit
unit_of (Some (Count unit)) = unit
unit_of None = 0

-- a line: its word, its fields, a newline
abbrev pub line_of : List ℕ → List ℕ → List ℕ
line_of word rest = word ++ rest ++ 10 ∷ []

abbrev pub table_line : Answer → List ℕ
table_line answer = line_of (codes "table") (fields (answer_fields 0 answer []))

abbrev pub event_line : Option Event → Option Outcome → List ℕ → List ℕ
event_line event outcome cell = line_of (word_of event) (outcome_text (unit_of event) outcome cell)

-- "a line that is no event prints `bad`"
abbrev pub bad_line : List ℕ
bad_line = codes "bad" ++ 10 ∷ []

-- no line is longer than 512 bytes: into a smaller buffer nothing is written
unfoldable pub fitting : List ℕ → List ℕ → List ℕ
fitting out text = cond (leb 512 (length out)) text []
