-- Soundness is kept: "a good load gives a sound shelf, and every event keeps it sound". Assumes nothing.
use Rattle.std.specs.Prelude.{ℕ, ◌≡◌, Bool, true, List, [], ◌∷◌, length}
use Rattle.card.specs.declared.Card.{Card}
use Rattle.soundness.specs.State.{sound_of}
use Rattle.answer.specs.Counting.{settled}
use Rattle.answer.specs.declared.Counters as C
use Rattle.table.specs.Loads.{load_done, load_memory}
use Rattle.document.specs.Events.{Event, number_said}
use Rattle.running.specs.Events.{World, happens}
use Rattle.running.specs.Lent.{does, run_in, loaded_in}

-- whether no event on this world is refused as State
abbrev pub sound_in : Card → World → Bool
sound_in card w = sound_of card w.shelf (length w.store) (length w.rows)

-- every event, with every argument, leaves a sound world sound
abbrev pub SoundnessKept : Type 0
SoundnessKept = (card : Card) (w : World) (e : Event) → sound_in card w ≡ true → sound_in card (happens card w e).world ≡ true

-- one event after the other
unfoldable pub run : Card → World → List Event → World
run card w [] = w
run card w (e ∷ es) = run card (happens card w e).world es

-- the world after a load, good table or not
abbrev pub loaded : Card → List ℕ → List ℕ → List ℕ → List C.Counters → World
loaded card text memory store rows =
    let d = load_done card text memory (length store) (length rows) in
    record { shelf = d.reply.shelf; memory = load_memory card text memory (length store) (length rows); store = store; rows = settled rows d.rises }

-- from any load on, over every sequence of events, none is refused as State
abbrev pub NeverState : Type 0
NeverState =
    (card : Card) (text memory store : List ℕ) (rows : List C.Counters) (es : List Event) (e : Event) →
    number_said (does card (run_in card (loaded_in card text memory store rows) es) e).said ≡ 8 → ⊥
