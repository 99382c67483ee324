-- A line's bytes shown one behind the other. Assumes nothing.
use mathlib.Core.Path.{◌≡◌}
use mathlib.Core.List.{List, [], ◌++◌}
use Prim.Native.Nat.{ℕ, ◌+◌, ◌<◌}
use native.Mathlib.Numerals.{add-one}
use lib.ListN.{length, get_or, take}
use lib.Seq.{take-suc}
use Rattle.octets.specs.Octets.{cat}
use Rattle.text.specs.Writing.{Wrote}
use Rattle.text.proofs.Splices.{nothing, cat_snoc}
use Rattle.report.specs.Messages.{one_shown}

pub none_shown : (b : List ℕ) (k : ℕ) → Wrote b k (cat one_shown []) k b
unfolding cat
none_shown b k = nothing b k

pub one_shown_lem : (line : List ℕ) (i : ℕ) → i < length line → cat one_shown (take (i + 1) line) ≡ cat one_shown (take i line) ++ one_shown (get_or line i 0)
one_shown_lem line i h = rw (add-one, take-suc line i 0) (cat_snoc one_shown (take i line) (get_or line i 0))
