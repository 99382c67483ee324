-- Rows written one behind the other. Assumes nothing.
use mathlib.Core.Path.{◌≡◌}
use mathlib.Core.List.{List, [], ◌++◌}
use Prim.Native.Nat.{ℕ, ◌+◌, ◌≤◌, ◌<◌}
use native.Mathlib.Numerals.{add-one}
use lib.ListN.{length, get_or, take}
use lib.Seq.{take-suc}
use Rattle.octets.specs.Octets.{cat}
use Rattle.text.specs.Writing.{Wrote}
use Rattle.text.proofs.Splices.{nothing, then, cat_snoc}
use Rattle.answer.specs.declared.Counters.{Counters}
use Rattle.replies.specs.ConsoleLines.{row_fields}

pub no_rows : (b : List ℕ) (k : ℕ) → Wrote b k (cat row_fields []) k b
unfolding cat
no_rows b k = nothing b k

-- one row more
pub next_row : (b b₁ b₂ : List ℕ) (rows : List Counters) (i : ℕ) (d : Counters) (k p q : ℕ) → i < length rows → Wrote b k (cat row_fields (take i rows)) p b₁ → Wrote b₁ p (row_fields (get_or rows i d)) q b₂ → p ≤ length b → Wrote b k (cat row_fields (take (i + 1) rows)) q b₂
next_row b b₁ b₂ rows i d k p q h w x room =
    let t : cat row_fields (take (i + 1) rows) ≡ cat row_fields (take i rows) ++ row_fields (get_or rows i d) = rw (add-one, take-suc rows i d) (cat_snoc row_fields (take i rows) (get_or rows i d)) in
    rw t (then b b₁ b₂ (cat row_fields (take i rows)) (row_fields (get_or rows i d)) k p q w x room)
