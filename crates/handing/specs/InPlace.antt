-- Hand and collect, of a state in lent bytes: what is answered, the bytes, the store and the buffer afterwards. Assumes nothing.
use Rattle.std.specs.Prelude.{ℕ, cond, List, eqb, Result}
use Rattle.card.specs.declared.Card.{Card}
use Rattle.store.specs.Rings.{popped}
use Rattle.store.specs.Places.{Cell}
use Rattle.state.specs.Bytes.{unit_in, shelf_in, with_ring, with_byte}
use Rattle.answer.specs.Answers.{refused_with}
use Rattle.answer.specs.Done.{outcome_of}
use Rattle.answer.specs.declared.Outcome.{Outcome}
use Rattle.soundness.specs.Admission.{admitted_in, formed_or, decided}
use Rattle.handing.specs.Hands.{busy, hand_done, hand_store}
use Rattle.handing.specs.Collects.{bare, collect_done, collect_buffer}

-- at the unit with a number, if it is let in with 56 bytes
abbrev pub comes_in : Card → List ℕ → ℕ → ℕ → ℕ → ℕ → Result ℕ ℕ
comes_in card b store rows unit long = admitted_in card b store rows unit (eqb long 56)

-- a cell is handed in at the unit in a place
abbrev pub hand_state_at : List ℕ → ℕ → List ℕ
hand_state_at b place = cond (busy (unit_in b place)) b (with_byte b 26 place 1)

abbrev pub hand_out : Card → List ℕ → ℕ → ℕ → ℕ → ℕ → Outcome
hand_out card b store rows unit long = formed_or b (outcome_of (hand_done card (shelf_in b) store rows unit long)) (refused_with 8)

abbrev pub hand_state : Card → List ℕ → ℕ → ℕ → ℕ → ℕ → List ℕ
hand_state card b store rows unit long = decided (comes_in card b store rows unit long) (hand_state_at b) (λ number. b)

abbrev pub hand_store_in : Card → List ℕ → List ℕ → ℕ → ℕ → Cell → List ℕ
hand_store_in card b store rows unit cell = formed_or b (hand_store card (shelf_in b) store rows unit cell) store

-- a cell leaves the control outlet of the unit in a place
abbrev pub collect_state_at : List ℕ → ℕ → List ℕ
collect_state_at b place = cond (bare (unit_in b place)) b (with_ring b 28 29 place (popped (unit_in b place).side.controlout 4))

abbrev pub collect_out : Card → List ℕ → ℕ → ℕ → ℕ → ℕ → Outcome
collect_out card b store rows unit lent = formed_or b (outcome_of (collect_done card (shelf_in b) store rows unit lent)) (refused_with 8)

abbrev pub collect_state : Card → List ℕ → ℕ → ℕ → ℕ → ℕ → List ℕ
collect_state card b store rows unit lent = decided (comes_in card b store rows unit lent) (collect_state_at b) (λ number. b)

abbrev pub collect_buffer_in : Card → List ℕ → List ℕ → ℕ → ℕ → List ℕ → List ℕ
collect_buffer_in card b store rows unit buffer = formed_or b (collect_buffer card (shelf_in b) store rows unit buffer) buffer
