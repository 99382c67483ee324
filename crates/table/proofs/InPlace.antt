-- The bytes that loading leaves are the shelf that it gives back, and well formed. Assumes nothing.
use mathlib.Core.Path.{◌≡◌}
use mathlib.Core.List.{List}
use Prim.Native.Nat.{ℕ}
use Rattle.card.specs.declared.Card.{Card}
use Rattle.lookup.specs.Record.{usable}
use Rattle.state.specs.Bytes.{shelf_in}
use Rattle.state.proofs.Afresh.{fresh_shelf}
use Rattle.meaning.specs.Told.{shelf_of}
use Rattle.meaning.specs.Lines.{Ran, done, stopped}
use Rattle.meaning.proofs.Grown.{decide}
use Rattle.table.proofs.GivenInPlace.{Well, fresh_well}
use Rattle.table.specs.Load.{ran_of, too_little, loading_of, is_long, load}
use Rattle.table.specs.InPlace.{state_ran, state_loaded}
use Rattle.table.proofs.Standing.{stands}
use Rattle.table.proofs.Cleared.{Sound, ran_sound}

ran_stands : (card : Card) (room : ℕ) (ran : Ran) (store rows : ℕ) → Sound card room ran → Well (state_ran ran store rows) × (shelf_in (state_ran ran store rows) ≡ (loading_of ran store rows).shelf)
unfolding state_ran loading_of
ran_stands card room (stopped told n verdict) store rows s = (fresh_well 16, fresh_shelf 16)
ran_stands card room (done told) store rows s =
    decide (too_little (shelf_of told) store rows) (λ t. rw t (fresh_well 16, fresh_shelf 16)) (λ t. rw t (stands card room told s.good s.ranges))

pub load_stands : (card : Card) (text memory : List ℕ) (store rows : ℕ) → Well (state_loaded card text memory store rows) × (shelf_in (state_loaded card text memory store rows) ≡ (load card text memory store rows).shelf)
unfolding state_loaded load
load_stands card text memory store rows =
    decide (is_long text) (λ t. rw t (fresh_well 16, fresh_shelf 16))
    (λ t. rw t (ran_stands card (usable memory) (ran_of card (usable memory) text) store rows (ran_sound card (usable memory) text)))
