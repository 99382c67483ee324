-- What a writer does. Assumes nothing.
use Rattle.std.specs.Prelude.{ℕ, ◌+◌, ◌≡◌, List, length}
use Rattle.octets.specs.Octets.{splice}

-- a text is written into out from one place up to another, and nothing else
abbrev pub Wrote : List ℕ → ℕ → List ℕ → ℕ → List ℕ → Type 0
Wrote out from text to after = (to ≡ from + length text) × (after ≡ splice out from text)
