-- Frame. Assumes nothing.
use Rattle.std.specs.Prelude.{ℕ, ◌+◌, ◌%◌, ◌^◌, Bool, false, cond, List, length, ◌==◌, None, Option, Some}
use Rattle.card.specs.declared.Card.{Card}
use Rattle.arbiter.specs.Arbitration.{granted_by}
use Rattle.arbiter.specs.declared.Granted.{Granted}
use Rattle.shelf.specs.Shelves.{declared, find_in}
use Rattle.shelf.specs.Shelf.{Shelf}
use Rattle.soundness.specs.State.{sound_of}
use Rattle.answer.specs.declared.Answer.TheVariants.{Framed}
use Rattle.answer.specs.Done.{Done}
use Rattle.answer.specs.Answers.{ends, refused}
use Rattle.framing.specs.Moves.{moved, moved_each, moved_stores}
use Rattle.framing.specs.Requests.{requests}
use Rattle.framing.specs.Sending.{Listened, silence, sent_by, sent_store, sent_frame}

-- "Then the unit granted in the frame before sends its oldest cell." "An idle frame has no bytes and leaves the frame buffer unchanged."
abbrev pub sender : Shelf → Option ℕ
sender shelf = find_in (declared shelf) shelf.granted

unfoldable pub listened_by : Option ℕ → Shelf → List ℕ → List ℕ → Listened
listened_by (Some place) shelf store each = sent_by shelf place store each
listened_by None shelf store each = silence shelf each

unfoldable pub store_by : Option ℕ → Shelf → List ℕ → List ℕ
store_by (Some place) shelf store = sent_store shelf place store
store_by None shelf store = store

unfoldable pub buffer_by : Option ℕ → Shelf → List ℕ → List ℕ → List ℕ
buffer_by (Some place) shelf store buffer = sent_frame shelf place store
buffer_by None shelf store buffer = buffer

abbrev pub listened_of : Shelf → List ℕ → List ℕ → Listened
listened_of shelf store each = listened_by (sender shelf) shelf store each

abbrev pub turn_store : Shelf → List ℕ → List ℕ
turn_store shelf store = store_by (sender shelf) shelf store

abbrev pub turn_buffer : Shelf → List ℕ → List ℕ → List ℕ
turn_buffer shelf store buffer = buffer_by (sender shelf) shelf store buffer

-- "Then the grant", of the requests as they were renewed first; "numbered from 0 modulo 65,536"
abbrev pub granted : Shelf → Granted
granted shelf = granted_by (requests shelf)

abbrev pub ended : Shelf → Granted → Listened → Done
ended shelf grant l =
    ends (Framed shelf.frame shelf.granted grant.unit l.copies)
    (record {
      bus = l.shelf.bus;
      count = l.shelf.count;
      units = l.shelf.units;
      arbiter = grant.arbiter;
      granted = grant.unit;
      frame = (shelf.frame + 1) % 2 ^ 16;
    })
    (record { from = 0; to = shelf.count; anew = false; each = l.each })

-- requests, sending and grant, where the moves counted this at each unit
abbrev pub turn_done : Shelf → List ℕ → List ℕ → Done
turn_done shelf store each = ended shelf (granted shelf) (listened_of shelf store each)

-- a whole frame: the moves first
abbrev pub done_at : Shelf → List ℕ → Done
done_at shelf store = turn_done (moved shelf) (moved_stores shelf store) (moved_each shelf)

abbrev pub store_at : Shelf → List ℕ → List ℕ
store_at shelf store = turn_store (moved shelf) (moved_stores shelf store)

abbrev pub buffer_at : Shelf → List ℕ → List ℕ → List ℕ
buffer_at shelf store buffer = turn_buffer (moved shelf) (moved_stores shelf store) buffer

-- State, then Length
unfoldable pub checked : {A : Type 0} → Bool → ℕ → A → A → A → A
checked sound lent unsound misfit good = cond sound (cond (lent == 57) good misfit) unsound

abbrev pub frame_done : Card → Shelf → List ℕ → ℕ → ℕ → Done
frame_done card shelf store rows buffer =
    checked (sound_of card shelf (length store) rows) buffer (refused shelf 8) (refused shelf 10) (done_at shelf store)

abbrev pub frame_store : Card → Shelf → List ℕ → ℕ → ℕ → List ℕ
frame_store card shelf store rows buffer = checked (sound_of card shelf (length store) rows) buffer store store (store_at shelf store)

abbrev pub frame_buffer : Card → Shelf → List ℕ → ℕ → List ℕ → List ℕ
frame_buffer card shelf store rows buffer =
    checked (sound_of card shelf (length store) rows) (length buffer) buffer buffer (buffer_at shelf store buffer)
