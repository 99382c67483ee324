-- The lines of a text from a place on: this one, and those from the next on. Assumes nothing.
use Rattle.std.specs.Prelude.{Option, Some, None}
use mathlib.Core.Path.{◌≡◌, refl, sym, ap, ap₂, ◌∙◌}
use mathlib.Core.Bool.{Bool, true, false}
use mathlib.Core.List.{List, [], ◌∷◌}
use Prim.Native.Nat.{ℕ, ◌+◌, ◌-◌, ◌<◌, ◌≤◌}
use native.Mathlib.Omega.{arith}
use lib.Dec.{ltb}
use lib.ListN.{length, take, drop}
use borrow.Author.Tests.{ltb-true, ltb-false}
use Rattle.card.specs.declared.Ask.{Ask}
use Rattle.text.specs.Text.{split, at}
use Rattle.text.proofs.Split.{field_is, split_some, split_end, split_more, split_last}
use Rattle.line.specs.Lines.{reading_of}
use Rattle.meaning.proofs.Grown.{decide}
use Rattle.toowide.specs.Asks.{asked}
use Rattle.toowide.specs.Listing.{ended, over, found_at}
use Rattle.toowide.specs.declared.Next.{Next}

some_ended : (ps : List (List ℕ)) → 0 < length ps → ended ps ≡ true
unfolding ended
some_ended [] h = absurd (omega arith)
some_ended (p ∷ ps) h = refl

-- a line that no newline ended asks nothing
pub open_nothing : (p : List ℕ) → asked (reading_of p false) ≡ None
unfolding asked reading_of
open_nothing p = refl

pub asks_ended : (p : List ℕ) (b : Bool) (ask : Ask) → asked (reading_of p b) ≡ Some ask → b ≡ true
asks_ended p true ask e = refl
asks_ended p false ask e = let z : ◌≡◌ {A = ℕ} 0 1 = cc (open_nothing p) in absurd (omega arith)

module _ {R : Type 0} (each : Option Ask → ℕ → ℕ → ℕ → R → R) (none : R) (skip : (n start end : ℕ) (rest : R) → each None n start end rest ≡ rest) where
  one : (n from e : ℕ) (p : List ℕ) (ps : List (List ℕ)) (b : Bool) → ended ps ≡ b → from + length p ≡ e → over each none n from (p ∷ ps) ≡ each (asked (reading_of p b)) n from e (over each none (n + 1) (e + 1) ps)
  unfolding over
  one n from e p ps b h k = ap₂ (λ b e. each (asked (reading_of p b)) n from e (over each none (n + 1) (e + 1) ps)) h k

  -- behind the last newline
  nothing_left : (n from : ℕ) → over each none n from ([] ∷ []) ≡ none
  unfolding over ended
  nothing_left n from = ap (λ a. each a n from (from + 0) none) (open_nothing []) ∙ skip n from (from + 0) none

  pub no_line : (text : List ℕ) (n from : ℕ) → length text ≤ from → over each none n from (split 10 (drop from text)) ≡ none
  no_line text n from h = ap (over each none n from) (split_end 10 text from h) ∙ nothing_left n from

  module _ (text : List ℕ) (from e : ℕ) (q : e ≡ from + length (at (split 10 (drop from text)) 0)) (n : ℕ) where
    abbrev line : List ℕ
    line = take (e - from) (drop from text)

    abbrev onwards : R
    onwards = over each none (n + 1) (e + 1) (split 10 (drop (e + 1) text))

    ends : from + length line ≡ e
    ends = ap (λ x. from + length x) (field_is 10 text from e q) ∙ sym q

    pub step : over each none n from (split 10 (drop from text)) ≡ each (asked (reading_of line (ltb e (length text)))) n from e onwards
    unfolding over ended
    step =
        decide (ltb e (length text))
        (λ t. ap (over each none n from) (split_more 10 text from e q (ltb-true e (length text) t)) ∙ one n from e line (split 10 (drop (e + 1) text)) (ltb e (length text)) (some_ended (split 10 (drop (e + 1) text)) (split_some 10 (drop (e + 1) text)) ∙ sym t) ends)
        (λ t.
        let past : length text ≤ e + 1 = omega (arith, ltb-false e (length text) t) in
        ap (over each none n from) (split_last 10 text from e q (ltb-false e (length text) t)) ∙ one n from e line [] (ltb e (length text)) (sym t) ends
        ∙ ap (each (asked (reading_of line (ltb e (length text)))) n from e) (sym (no_line text (n + 1) (e + 1) past)))

pub found_skip : (n start end : ℕ) (rest : Option Next) → found_at None n start end rest ≡ rest
unfolding found_at
found_skip n start end rest = refl
