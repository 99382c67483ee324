-- Frame, of a state in lent bytes: what is answered, stored and sent goes by the shelf that the bytes are; written are the places of
-- loopback cells that move, the sender's inlet, the queues of those that hear it, then the arbiter, the grant and the frame number. Assumes nothing.
use Rattle.std.specs.Prelude.{ℕ, ◌+◌, ◌%◌, ◌^◌, false, cond, List, length, take, replicate, nat_le, None, Option, Some}
use Rattle.bus.specs.Frame.{heard}
use Rattle.card.specs.declared.Card.{Card}
use Rattle.store.specs.Rings.{popped}
use Rattle.state.specs.Bytes.{unit_in, shelf_in, with_ring, with_byte, with_turn}
use Rattle.soundness.specs.Soundings.{sound_in}
use Rattle.answer.specs.declared.Outcome.{Outcome}
use Rattle.answer.specs.Done.{outcome_of}
use Rattle.answer.specs.Answers.{refused_with}
use Rattle.soundness.specs.Admission.{formed_or}
use Rattle.framing.specs.declared.Framed as D
use Rattle.framing.specs.Moves.{moved_in}
use Rattle.framing.specs.Sending.{sent_frame}
use Rattle.framing.specs.Frames.{sender, granted, checked, frame_done, frame_store, frame_buffer}
use Rattle.framing.specs.Scenes.{heeded_by}

-- the state without the cell that the unit in a place sends
unfoldable pub out_state : List ℕ → ℕ → List ℕ
out_state b place =
    let u = unit_in b place in
    cond (nat_le 1 u.inlet.count) (with_ring b 14 15 place (popped u.inlet 4))
    (cond (nat_le 1 u.side.controlin) (with_byte b 26 place 0) (with_byte b 27 place 0))

-- after that unit has sent it and all have heard it; the counters are no matter here
unfoldable pub sent_state : List ℕ → ℕ → List ℕ → List ℕ
sent_state b place store =
    (heeded_by (heard (sent_frame (shelf_in b) place store)) (take 56 (sent_frame (shelf_in b) place store)) (out_state b place) store (replicate 32 0)).bytes

unfoldable pub state_by : Option ℕ → List ℕ → List ℕ → List ℕ
state_by (Some place) b store = sent_state b place store
state_by None b store = b

-- and after the grant
abbrev pub turn_state : List ℕ → List ℕ → List ℕ
turn_state b store = with_turn (state_by (sender (shelf_in b)) b store) (granted (shelf_in b)).arbiter (granted (shelf_in b)).unit (((shelf_in b).frame + 1) % 2 ^ 16)

-- a whole frame: the moves first
abbrev pub state_at : List ℕ → List ℕ → List ℕ
state_at b store = turn_state (moved_in b store).bytes (moved_in b store).store

-- what a frame comes to, of what was answered and of the counters written beside it
abbrev pub framed_by : D.Framed → List ℕ → Outcome
framed_by r each = record { answer = r.answer; rises = record { from = 0; to = r.to; anew = false; each = each } }

abbrev pub frame_out : Card → List ℕ → List ℕ → ℕ → ℕ → Outcome
frame_out card b store rows lent = formed_or b (outcome_of (frame_done card (shelf_in b) store rows lent)) (refused_with 8)

abbrev pub frame_state : Card → List ℕ → List ℕ → ℕ → ℕ → List ℕ
frame_state card b store rows lent = checked (sound_in card b (length store) rows) lent b b (state_at b store)

abbrev pub frame_store_in : Card → List ℕ → List ℕ → ℕ → ℕ → List ℕ
frame_store_in card b store rows lent = formed_or b (frame_store card (shelf_in b) store rows lent) store

abbrev pub frame_buffer_in : Card → List ℕ → List ℕ → ℕ → List ℕ → List ℕ
frame_buffer_in card b store rows buffer = formed_or b (frame_buffer card (shelf_in b) store rows buffer) buffer
