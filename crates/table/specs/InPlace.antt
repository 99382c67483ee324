-- The state's bytes as lines are read, and as loading leaves them. Assumes nothing.
use Rattle.line.specs.Lines.{Reading}
use Rattle.std.specs.Prelude.{ℕ, ◌*◌, cond, List, [], ◌∷◌, Err, Ok}
use Rattle.card.specs.declared.Card.{Card}
use Rattle.lookup.specs.Record.{size, usable}
use Rattle.state.specs.Placing.{fresh_bytes}
use Rattle.line.specs.declared.Line.{Line}
use Rattle.judge.specs.Verdicts.{Verdict, is_fine}
use Rattle.meaning.specs.Told.{total, shelf_of}
use Rattle.meaning.specs.Lines.{Ran, done, stopped}
use Rattle.table.specs.GivenInPlace.{state_by}
use Rattle.table.specs.Load.{ran_of, too_little, is_long}
use Rattle.table.specs.declared.Progress.{Progress}

-- one line more, if it is fine
abbrev pub state_read : Reading → ℕ → List ℕ → List ℕ
state_read (Ok l) used b = state_by l used b
state_read (Err wrong) used b = b

abbrev pub state_after : List ℕ → Verdict → Progress → Reading → List ℕ
state_after b verdict p reading = cond (is_fine verdict) (state_read reading p.used b) b

-- after these lines, the latest first
unfoldable pub state_of : List Line → List ℕ
state_of [] = fresh_bytes 16
state_of (l ∷ told) = state_by l (size * total told) (state_of told)

-- "Refusals 1 to 7 .. give back a fresh 16 bus with no units."
unfoldable pub state_ran : Ran → ℕ → ℕ → List ℕ
state_ran (stopped told n verdict) store rows = fresh_bytes 16
state_ran (done told) store rows = cond (too_little (shelf_of told) store rows) (fresh_bytes 16) (state_of told)

unfoldable pub state_loaded : Card → List ℕ → List ℕ → ℕ → ℕ → List ℕ
state_loaded card text memory store rows = cond (is_long text) (fresh_bytes 16) (state_ran (ran_of card (usable memory) text) store rows)
