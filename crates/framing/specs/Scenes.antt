-- Hearing by several units, of a state in lent bytes: what is written one place after the other. Assumes nothing.
use Rattle.std.specs.Prelude.{ℕ, zero, suc, ◌+◌, ◌<◌, min, Bool, false, ◌||◌, List, bit_or, slice_index, slice_set}
use Rattle.bus.specs.Heard as H
use Rattle.store.specs.Places.{Cell}
use Rattle.state.specs.Bytes.{unit_in}
use Rattle.answer.specs.declared.Hearing as A
use Rattle.answer.specs.Answers.{hearing_rises, queued_one, is_addressed}
use Rattle.soundness.specs.Admission.{Housed}
use Rattle.hearing.specs.Hearings.{plan_of, fate_by, store_of}
use Rattle.hearing.specs.InPlace.{state_by}
use Rattle.framing.specs.declared.Heeded.{Heeded}
use Rattle.framing.specs.Sending.{Listened}

-- what is counted: the counters that rise at each declared unit, how many copies were queued, whether some unit was addressed
pub record Tally : Type 0 where
  pub each : List ℕ
  pub copies : ℕ
  pub addressed : Bool

-- the same of what was answered and of the counters written beside it
abbrev pub tallied_by : Heeded → List ℕ → Tally
tallied_by r each = record { each = each; copies = r.copies; addressed = r.addressed }

-- as far as no unit has heard; after one in a place has, with this fate
abbrev pub unheeded : List ℕ → Tally
unheeded each = record { each = each; copies = 0; addressed = false }

abbrev pub noted : ℕ → A.Hearing → Tally → Tally
noted i fate t = record { each = slice_set t.each i (bit_or (slice_index t.each i) (hearing_rises fate)); copies = t.copies + queued_one fate; addressed = t.addressed || is_addressed fate }

-- the same of what was listened to, without the shelf
abbrev pub heeded_of : Listened → Tally
heeded_of l = record { each = l.each; copies = l.copies; addressed = l.addressed }

-- all that changes where units hear
pub record Scene : Type 0 where
  pub bytes : List ℕ
  pub store : List ℕ
  pub tally : Tally

abbrev pub turn : H.Heard → Cell → ℕ → Scene → Scene
turn h cell i x =
    record {
      bytes = state_by (plan_of (unit_in x.bytes i) h) x.bytes i;
      store = store_of (unit_in x.bytes i) h i x.store cell;
      tally = noted i (fate_by (plan_of (unit_in x.bytes i) h)) x.tally;
    }

-- so many places from one on
unfoldable pub turns : H.Heard → Cell → ℕ → ℕ → Scene → Scene
turns h cell i zero x = x
turns h cell i (suc n) x = turns h cell (suc i) n (turn h cell i x)

-- every declared unit
abbrev pub heeded_by : H.Heard → Cell → List ℕ → List ℕ → List ℕ → Scene
heeded_by h cell b store each = turns h cell 0 (min (slice_index b 805) 32) (record { bytes = b; store = store; tally = unheeded each })

-- each declared unit has its part of a store of so many bytes
abbrev pub AllHousedIn : List ℕ → ℕ → Type 0
AllHousedIn b bytes = (i : ℕ) → i < min (slice_index b 805) 32 → Housed i (unit_in b i) bytes
