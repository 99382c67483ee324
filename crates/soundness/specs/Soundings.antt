-- State, of lent bytes: as of the shelf that they are, and each byte of a declared unit that says a link, a mode or a mark is one. Assumes nothing.
use Rattle.std.specs.Prelude.{ℕ, Bool, cond, ◌&&◌, List, slice_index}
use Rattle.card.specs.declared.Card.{Card}
use Rattle.shelf.specs.Shelves.{declared, find_in}
use Rattle.soundness.specs.State.{sound_of}
use Rattle.state.specs.Bytes.{col, shelf_in}
use Rattle.soundness.specs.Lanes.{formed, lanes}
use Rattle.soundness.specs.Numbered.{note_of}

abbrev pub formed_all : List ℕ → Bool
formed_all b = lanes (λ i. formed (col b i)) (slice_index b 805) 0 32

unfoldable pub sound_in : Card → List ℕ → ℕ → ℕ → Bool
sound_in card b store rows = formed_all b && sound_of card (shelf_in b) store rows

-- and, of a sound state, what is noted of the unit with this number
unfoldable pub looked : Card → List ℕ → ℕ → ℕ → ℕ → ℕ
looked card b store rows unit =
    cond (sound_in card b store rows) (note_of (slice_index b 803) (declared (shelf_in b)) (find_in (declared (shelf_in b)) unit)) 1
