-- Which lines the narrow card cannot hold. Assumes nothing.
use Rattle.std.specs.Prelude.{ℕ, ◌+◌, ◌≡◌, List, [], ◌∷◌, ◌++◌, length}
use Rattle.line.specs.declared.Line.{Line}
use Rattle.promise.specs.Says.{IsWide}

-- none of these lines asks for "an NNI link, an outgoing path above 255 or the 32-unit bus"
abbrev pub NoneWide : List Line → Type 0
NoneWide [] = Unit {0}
NoneWide (l ∷ told) = (IsWide l → ⊥) × NoneWide told

-- the first line that does, counted from 1; a list of lines has the latest first
pub record FirstWide (told : List Line) (line : ℕ) : Type 0 where
  pub before : List Line
  pub it : Line
  pub after : List Line
  pub all : told ≡ after ++ (it ∷ before)
  pub none_before : NoneWide before
  pub wide : IsWide it
  pub counted : line ≡ length before + 1
