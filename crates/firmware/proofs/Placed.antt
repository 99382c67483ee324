-- What a count gives back is what `entry` counts: the row at the place, or the refusal. Assumes nothing.
use mathlib.Core.Path.{◌≡◌, refl, ap}
use mathlib.Core.List.{List}
use Prim.Native.Nat.{ℕ, ◌<◌}
use lib.ListN.{length, get_or}
use native.Mathlib.Omega.{arith}
use Rattle.std.specs.Prelude.{Result, Ok, Err}
use Rattle.card.specs.declared.Card.{Card}
use Rattle.answer.specs.Counting.{zeros}
use Rattle.answer.specs.declared.Counters as C
use Rattle.soundness.specs.Admission.{counted_in}
use Rattle.soundness.proofs.InPlace.{row_there}
use Rattle.entry.specs.Counts.{count_of}
use Rattle.entry.specs.Outcomes.{counts_of}
use Rattle.firmware.specs.Codes.{pack, place_code}

-- a place is told by its number
module _ (at : ℕ) where
  pub place_told : pack 9 0 0 0 at ≡ place_code (Ok at)
  unfolding place_code
  place_told = refl

-- a place told is that of the row that `entry` counts, and the row is there; a refusal told is that refusal
module _ (card : Card) (b store : List ℕ) (rows : List C.Counters) (unit : ℕ) where
  abbrev place : Result ℕ ℕ
  place = counted_in card b (length store) (length rows) unit

  pub count_row : (p : ℕ) → place_code place ≡ pack 9 0 0 0 p → (counts_of card b store rows (length rows) unit ≡ Ok (get_or rows p zeros)) × (p < length rows)
  unfolding place_code count_of
  count_row p e = pick place refl e
    where
      pick : (a : Result ℕ ℕ) → place ≡ a → place_code a ≡ pack 9 0 0 0 p → (count_of place rows ≡ Ok (get_or rows p zeros)) × (p < length rows)
      pick (Ok i) h e =
          let there = row_there card b (length store) (length rows) unit i h in
          let at : i ≡ p = omega arith in
          (rw h (ap (λ k. Ok (get_or rows k zeros)) at), omega arith)
      pick (Err n) h e = absurd (omega arith)

  pub count_refused : (n : ℕ) → place_code place ≡ pack 2 n 0 0 0 → counts_of card b store rows (length rows) unit ≡ Err n
  unfolding place_code count_of
  count_refused n e = pick place refl e
    where
      pick : (a : Result ℕ ℕ) → place ≡ a → place_code a ≡ pack 2 n 0 0 0 → count_of place rows ≡ Err n
      pick (Ok i) h e = absurd (omega arith)
      pick (Err m) h e = let at : m ≡ n = omega arith in rw h (ap Err at)
