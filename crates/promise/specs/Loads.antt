-- What loading gives back is sound. Assumes nothing.
use Rattle.std.specs.Prelude.{ℕ, ◌≡◌, true, List}
use Rattle.card.specs.declared.Card.{Card}
use Rattle.soundness.specs.State.{sound_of}
use Rattle.table.specs.Load.{load}

-- "A good load .. starts with all queues empty", a refusal gives "back a fresh 16 bus with no units": for each card, text, memory, store and
-- rows, no event on that shelf with that store and those rows is refused as State
abbrev pub LoadSound : Type 0
LoadSound = (card : Card) (text memory : List ℕ) (store rows : ℕ) → sound_of card (load card text memory store rows).shelf store rows ≡ true
