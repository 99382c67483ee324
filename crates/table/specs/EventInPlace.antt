-- Loading as an event, of lent bytes. Assumes nothing.
use Rattle.std.specs.Prelude.{ℕ, min, true, List, replicate}
use Rattle.card.specs.declared.Card.{Card}
use Rattle.answer.specs.declared.Outcome.{Outcome}
use Rattle.answer.specs.Done.{outcome_of}
use Rattle.table.specs.InPlace.{state_loaded}
use Rattle.table.specs.Loads.{answer_of, load_done}
use Rattle.table.specs.Loading.{LoadOutcome}

-- what a table comes to that declares so many units
abbrev pub outcome_by : LoadOutcome → ℕ → Outcome
outcome_by outcome units = record { answer = answer_of outcome; rises = record { from = 0; to = min units 32; anew = true; each = replicate 32 0 } }

abbrev pub load_out : Card → List ℕ → List ℕ → ℕ → ℕ → Outcome
load_out card text memory store rows = outcome_of (load_done card text memory store rows)

-- every byte of the state afterwards: after a good table its units; after a refusal "a fresh 16 bus with no units"
abbrev pub load_state : Card → List ℕ → List ℕ → ℕ → ℕ → List ℕ
load_state card text memory store rows = state_loaded card text memory store rows
