-- A line is written whole, or not at all. Assumes nothing.
use mathlib.Core.Path.{◌≡◌}
use mathlib.Core.List.{List, [], ◌++◌}
use Prim.Native.Nat.{ℕ, ◌≤◌, ◌<◌}
use lib.ListN.{length}
use borrow.Author.Tests.{le-leb, lt-leb}
use Rattle.text.specs.Writing.{Wrote}
use Rattle.text.proofs.Splices.{then, nothing}
use Rattle.replies.specs.Lines.{fitting}

-- a word, what is said, a newline
pub three : (b b₁ b₂ b₃ t v x : List ℕ) (p q r : ℕ) → Wrote b 0 t p b₁ → Wrote b₁ p v q b₂ → Wrote b₂ q x r b₃ → p ≤ length b → q ≤ length b → Wrote b 0 ((t ++ v) ++ x) r b₃
three b b₁ b₂ b₃ t v x p q r w₁ w₂ w₃ h k = then b b₂ b₃ (t ++ v) x 0 q r (then b b₁ b₂ t v 0 p q w₁ w₂ h) w₃ k

-- there is room for a line, or none is written
pub fits : (out text : List ℕ) → 512 ≤ length out → fitting out text ≡ text
unfolding fitting
fits out text h = simp (le-leb 512 (length out) h)

pub fits_not : (out text : List ℕ) → length out < 512 → fitting out text ≡ []
unfolding fitting
fits_not out text h = simp (lt-leb 512 (length out) h)

pub no_line : (out text : List ℕ) → length out < 512 → Wrote out 0 (fitting out text) 0 out
no_line out text h = rw (fits_not out text h) (nothing out 0)
