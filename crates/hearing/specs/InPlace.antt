-- Hearing, of a state in lent bytes: what is answered and stored goes by the shelf that the bytes are, and a queued copy is one more in its ring. Assumes nothing.
use Rattle.std.specs.Prelude.{ℕ, ◌+◌, List, eqb, length, Result}
use Rattle.bus.specs.Frame.{heard}
use Rattle.card.specs.declared.Card.{Card}
use Rattle.outlet.specs.Outlets.{queue}
use Rattle.store.specs.Rings.{pushed}
use Rattle.state.specs.Bytes.{unit_in, shelf_in, with_ring, with_byte}
use Rattle.answer.specs.declared.Hearing as A
use Rattle.answer.specs.declared.Answer.TheVariants.{Heard}
use Rattle.answer.specs.declared.Outcome.{Outcome}
use Rattle.answer.specs.Done.{outcome_of}
use Rattle.answer.specs.Answers.{hearing_rises, row, refused_with}
use Rattle.soundness.specs.Admission.{admitted_in, decided, formed_or}
use Rattle.hearing.specs.Hearings.{Plan, Queue, ToControl, ToLoopback, Lost, plan_of, hear_done, hear_store}

-- the state after the unit in a place has heard a frame with this plan
unfoldable pub state_by : Plan → List ℕ → ℕ → List ℕ
state_by (Queue q) b place = with_ring b (16 + q) (20 + q) place (pushed (queue (unit_in b place).outlet q))
state_by ToControl b place = with_ring b 28 29 place (pushed (unit_in b place).side.controlout)
state_by ToLoopback b place = with_byte b 30 place 1
state_by (Lost fate) b place = b

abbrev pub state_at : List ℕ → ℕ → List ℕ → List ℕ
state_at b place f = state_by (plan_of (unit_in b place) (heard f)) b place

-- what is given back where a unit has heard a frame with this fate
abbrev pub outcome_at : ℕ → A.Hearing → Outcome
outcome_at place fate = record { answer = Heard fate; rises = row place (hearing_rises fate) }

-- by the unit with a number, if it is let in
abbrev pub let_in_place : Card → List ℕ → ℕ → ℕ → ℕ → List ℕ → Result ℕ ℕ
let_in_place card b store rows unit f = admitted_in card b store rows unit (eqb (length f) 57)

abbrev pub hear_out : Card → List ℕ → ℕ → ℕ → ℕ → List ℕ → Outcome
hear_out card b store rows unit f = formed_or b (outcome_of (hear_done card (shelf_in b) store rows unit f)) (refused_with 8)

abbrev pub hear_state : Card → List ℕ → ℕ → ℕ → ℕ → List ℕ → List ℕ
hear_state card b store rows unit f = decided (let_in_place card b store rows unit f) (λ place. state_at b place f) (λ number. b)

abbrev pub hear_store_in : Card → List ℕ → List ℕ → ℕ → ℕ → List ℕ → List ℕ
hear_store_in card b store rows unit f = formed_or b (hear_store card (shelf_in b) store rows unit f) store
