-- The lines of a text that ask for too much, by their places in it. Assumes nothing.
use Rattle.std.specs.Prelude.{ℕ, zero, suc, ◌+◌, ◌≤◌, ◌<◌, Bool, true, false, List, [], ◌∷◌, length, drop, Option, Some, None}
use Rattle.card.specs.declared.Ask.{Ask}
use Rattle.text.specs.Text.{split}
use Rattle.line.specs.Lines.{reading_of}
use Rattle.toowide.specs.Asks.{asked}
use Rattle.toowide.specs.declared.Next.{Next}

-- "each line ended by a newline": one that something follows
unfoldable pub ended : List (List ℕ) → Bool
ended [] = false
ended (p ∷ ps) = true

-- of each line in turn what it asks, its number, where it starts and where it ends
unfoldable pub over : {R : Type 0} → (Option Ask → ℕ → ℕ → ℕ → R → R) → R → ℕ → ℕ → List (List ℕ) → R
over each none n start [] = none
over each none n start (p ∷ ps) = each (asked (reading_of p (ended ps))) n start (start + length p) (over each none (n + 1) (start + length p + 1) ps)

-- the first that asks for too much, and how many stand before it
unfoldable pub found_at : Option Ask → ℕ → ℕ → ℕ → Option Next → Option Next
found_at (Some ask) before start end rest = Some (record { before = before; start = start; end = end; ask = ask })
found_at None before start end rest = rest

abbrev pub next_in : ℕ → ℕ → List (List ℕ) → Option Next
next_in before start ps = over found_at None before start ps

-- the next one from a line's start on
abbrev pub next_wide : List ℕ → ℕ → Option Next
next_wide text from = next_in 0 from (split 10 (drop from text))

-- it stands in the text, and a newline ends it
abbrev pub Inside : Option Next → ℕ → List ℕ → Type 0
Inside (Some next) from text = (from + next.before ≤ next.start) × (next.start ≤ next.end) × (next.end < length text)
Inside None from text = Unit {0}

-- a line that asks for too much: its number, counted from 1, its first place and the place behind its last, and what it asks
pub record Wide : Type 0 where
  pub number : ℕ
  pub start : ℕ
  pub end : ℕ
  pub ask : Ask

-- all of them, in order
unfoldable pub list_at : Option Ask → ℕ → ℕ → ℕ → List Wide → List Wide
list_at (Some ask) number start end rest = record { number = number; start = start; end = end; ask = ask } ∷ rest
list_at None number start end rest = rest

abbrev pub list_in : ℕ → ℕ → List (List ℕ) → List Wide
list_in number start ps = over list_at [] number start ps

abbrev pub wide_lines : List ℕ → List Wide
wide_lines text = list_in 1 0 (split 10 text)

-- what comes of asking for the next one until there is none, at most so often; so many lines stand before this place
unfoldable pub onward : Option Next → ℕ → (ℕ → ℕ → List Wide) → List Wide
onward (Some next) lines rest =
    record { number = lines + next.before + 1; start = next.start; end = next.end; ask = next.ask } ∷ rest (next.end + 1) (lines + next.before + 1)
onward None lines rest = []

unfoldable pub following : ℕ → List ℕ → ℕ → ℕ → List Wide
following zero text from lines = []
following (suc k) text from lines = onward (next_wide text from) lines (following k text)
