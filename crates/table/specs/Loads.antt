-- Loading as an event. Assumes nothing.
use Rattle.std.specs.Prelude.{ℕ, min, true, List, replicate, Ok, Err}
use Rattle.card.specs.declared.Card.{Card}
use Rattle.answer.specs.declared.Answer as A
use Rattle.answer.specs.declared.Answer.TheVariants.{Loaded, Unloaded}
use Rattle.answer.specs.Done.{Done}
use Rattle.answer.specs.Answers.{ends}
use Rattle.table.specs.Loading.{Loading, LoadOutcome}
use Rattle.table.specs.Load.{load, loaded}

-- "`ok` and bytes used, or `refused`, number and line"
unfoldable pub answer_of : LoadOutcome → A.Answer
answer_of (Ok used) = Loaded used
answer_of (Err refusal) = Unloaded refusal.number refusal.line

-- "A good load zeroes its rows"; "Refusals 1 to 7 .. touch neither store nor counter rows and give back a fresh 16 bus with no units"
abbrev pub done_of : Loading → Done
done_of loading =
    ends (answer_of loading.outcome) loading.shelf (record { from = 0; to = min loading.shelf.count 32; anew = true; each = replicate 32 0 })

abbrev pub load_done : Card → List ℕ → List ℕ → ℕ → ℕ → Done
load_done card text memory store rows = done_of (load card text memory store rows)

abbrev pub load_memory : Card → List ℕ → List ℕ → ℕ → ℕ → List ℕ
load_memory card text memory store rows = loaded card text memory store rows
