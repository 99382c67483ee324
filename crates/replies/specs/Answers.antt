-- What is answered, field by field. Assumes nothing.
use Rattle.std.specs.Prelude.{ℕ, List, [], ◌∷◌, get_or, codes}
use Rattle.text.specs.Hex.{hex_of}
use Rattle.text.specs.Decimals.{decimal}
use Rattle.answer.specs.Answers.{arrival_word, hearing_word}
use Rattle.answer.specs.declared.Answer as An
use Rattle.answer.specs.declared.Answer.TheVariants.{Loaded, Unloaded, Refused, Arrived, Framed, Heard, Taken, Empty, Handed}
use Rattle.replies.specs.LineFields.{who}

abbrev pub w_ok : List ℕ
w_ok = codes "ok"

abbrev pub w_refused : List ℕ
w_refused = codes "refused"

abbrev pub w_empty : List ℕ
w_empty = codes "empty"

-- the byte at a place of a cell, 0 past its end; the header and its check
abbrev pub byte_at : List ℕ → ℕ → ℕ
byte_at cell k = get_or cell k 0

abbrev pub header_bytes : List ℕ → List ℕ
header_bytes cell = byte_at cell 0 ∷ byte_at cell 1 ∷ byte_at cell 2 ∷ byte_at cell 3 ∷ byte_at cell 4 ∷ []

-- "`table` gives `ok` and bytes used, or `refused`, number and line"; "A refused event prints its word, `refused` and the number";
-- "`frame` gives number, sender, unit granted, copies queued. `take` gives header and first payload byte."
unfoldable pub answer_fields : ℕ → An.Answer → List ℕ → List (List ℕ)
answer_fields unit (Loaded used) cell = w_ok ∷ decimal used ∷ []
answer_fields unit (Unloaded number line) cell = w_refused ∷ decimal number ∷ decimal line ∷ []
answer_fields unit (Refused number) cell = w_refused ∷ decimal number ∷ []
answer_fields unit (Arrived fate) cell = decimal unit ∷ arrival_word fate ∷ []
answer_fields unit (Framed number sender granted copies) cell = decimal number ∷ who sender ∷ who granted ∷ decimal copies ∷ []
answer_fields unit (Heard fate) cell = decimal unit ∷ hearing_word fate ∷ []
answer_fields unit Taken cell = decimal unit ∷ hex_of (header_bytes cell) ∷ hex_of (byte_at cell 5 ∷ []) ∷ []
answer_fields unit Empty cell = decimal unit ∷ w_empty ∷ []
-- the bench has no event that answers this
answer_fields unit Handed cell = decimal unit ∷ w_ok ∷ []
