-- Hand. 02, W1: "The processor hands in .. the 56 bytes before parity"; "Refusals: Length for other than 56 bytes, then 11 Busy, place taken." Assumes nothing.
use Rattle.std.specs.Prelude.{ℕ, Bool, cond, List, eqb, leb, length, Result}
use Rattle.card.specs.declared.Card.{Card}
use Rattle.store.specs.Places.{Cell, control_in_slot, put_at}
use Rattle.shelf.specs.Shelves.{control_in_put}
use Rattle.shelf.specs.declared.Unit as U
use Rattle.shelf.specs.Shelf.{Shelf}
use Rattle.answer.specs.declared.Answer.TheVariants.{Handed}
use Rattle.answer.specs.Done.{Done}
use Rattle.answer.specs.Answers.{none, ends, refused}
use Rattle.soundness.specs.Admission.{admitted, decided, unit_at, with_unit, with_side}

-- "place taken", granted or not
abbrev pub busy : U.Unit → Bool
busy u = leb 1 u.side.controlin

-- the unit with a control cell in its inlet
abbrev pub handed_to : U.Unit → U.Unit
handed_to u = with_side u (control_in_put u.side 1)

-- at the unit in a place: nothing is counted
abbrev pub hand_at : Shelf → ℕ → Done
hand_at shelf place =
    cond (busy (unit_at shelf place)) (refused shelf 11) (ends Handed (with_unit shelf place (handed_to (unit_at shelf place))) none)

abbrev pub hand_store_at : Shelf → ℕ → List ℕ → Cell → List ℕ
hand_store_at shelf place store cell = cond (busy (unit_at shelf place)) store (put_at store place control_in_slot cell)

-- at the unit with a number, if it is let in
abbrev pub let_in : Card → Shelf → ℕ → ℕ → ℕ → ℕ → Result ℕ ℕ
let_in card shelf store rows unit long = admitted card shelf store rows unit (eqb long 56)

abbrev pub hand_done : Card → Shelf → ℕ → ℕ → ℕ → ℕ → Done
hand_done card shelf store rows unit long = decided (let_in card shelf store rows unit long) (hand_at shelf) (refused shelf)

abbrev pub hand_store : Card → Shelf → List ℕ → ℕ → ℕ → Cell → List ℕ
hand_store card shelf store rows unit cell =
    decided (let_in card shelf (length store) rows unit (length cell)) (λ place. hand_store_at shelf place store cell) (λ number. store)
