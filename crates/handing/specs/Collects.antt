-- Collect. 02, W1: "The processor .. takes from the control outlet (or `empty`), the 56 bytes before parity"; "leaving either outlet is `taken`". Assumes nothing.
use Rattle.std.specs.Prelude.{ℕ, Bool, cond, List, eqb, length, Result}
use Rattle.card.specs.declared.Card.{Card}
use Rattle.store.specs.Rings.{popped}
use Rattle.store.specs.Places.{control_out_slot, cell_at}
use Rattle.shelf.specs.Shelves.{control_out_put}
use Rattle.shelf.specs.declared.Unit as U
use Rattle.shelf.specs.Shelf.{Shelf}
use Rattle.answer.specs.declared.Answer.TheVariants.{Taken, Empty}
use Rattle.answer.specs.Done.{Done}
use Rattle.answer.specs.Answers.{#taken, none, row, ends, refused}
use Rattle.soundness.specs.Admission.{admitted, decided, unit_at, with_unit, with_side}

-- no cell stands there
abbrev pub bare : U.Unit → Bool
bare u = eqb u.side.controlout.count 0

-- the unit without the oldest cell of its control outlet
abbrev pub collected_from : U.Unit → U.Unit
collected_from u = with_side u (control_out_put u.side (popped u.side.controlout 4))

-- at the unit in a place; `empty` leaves the buffer unchanged
abbrev pub collect_at : Shelf → ℕ → Done
collect_at shelf place =
    cond (bare (unit_at shelf place)) (ends Empty shelf none) (ends Taken (with_unit shelf place (collected_from (unit_at shelf place))) (row place #taken))

abbrev pub collect_buffer_at : Shelf → ℕ → List ℕ → List ℕ → List ℕ
collect_buffer_at shelf place store buffer =
    cond (bare (unit_at shelf place)) buffer (cell_at store place (control_out_slot (unit_at shelf place).side.controlout.head))

-- at the unit with a number, if it is let in
abbrev pub let_in : Card → Shelf → ℕ → ℕ → ℕ → ℕ → Result ℕ ℕ
let_in card shelf store rows unit lent = admitted card shelf store rows unit (eqb lent 56)

abbrev pub collect_done : Card → Shelf → ℕ → ℕ → ℕ → ℕ → Done
collect_done card shelf store rows unit lent = decided (let_in card shelf store rows unit lent) (collect_at shelf) (refused shelf)

abbrev pub collect_buffer : Card → Shelf → List ℕ → ℕ → ℕ → List ℕ → List ℕ
collect_buffer card shelf store rows unit buffer =
    decided (let_in card shelf (length store) rows unit (length buffer)) (λ place. collect_buffer_at shelf place store buffer) (λ number. buffer)
