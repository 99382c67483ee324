-- The bytes that loading leaves: the shelf that it gives back, as many as there are, well formed, and those that say nothing zero. Assumes nothing.
use Prim.Native.Nat.{ℕ}
use mathlib.Core.Path.{◌≡◌}
use mathlib.Core.Bool.{true}
use mathlib.Core.List.{List}
use lib.ListN.{length, get_or}
use Rattle.card.specs.declared.Card.{Card}
use Rattle.state.specs.Bytes.{shelf_in}
use Rattle.soundness.specs.Soundings.{formed_all}
use Rattle.table.proofs.GivenInPlace.{Spare}
use Rattle.table.proofs.InPlace.{load_stands}
use Rattle.table.specs.Loads.{load_done}
use Rattle.table.specs.EventInPlace.{load_state}

module _ (card : Card) (text memory : List ℕ) (store rows : ℕ) where
  pub load_decodes : shelf_in (load_state card text memory store rows) ≡ (load_done card text memory store rows).reply.shelf
  load_decodes = (load_stands card text memory store rows).1

  pub load_formed : formed_all (load_state card text memory store rows) ≡ true
  load_formed = (load_stands card text memory store rows).0.formed

  pub load_long : length (load_state card text memory store rows) ≡ 2048
  load_long = (load_stands card text memory store rows).0.long

  pub load_spare : (k : ℕ) → Spare (load_state card text memory store rows) k → get_or (load_state card text memory store rows) k 0 ≡ 0
  load_spare = (load_stands card text memory store rows).0.spare
