-- One line more, over plain values. Assumes nothing.
use Rattle.line.specs.Lines.{Reading}
use Rattle.std.specs.Prelude.{is_err, Err, Ok}
use mathlib.Core.Path.{◌≡◌, refl, sym, ap, ◌∙◌}
use mathlib.Core.Bool.{true, false, false≢true}
use mathlib.Core.List.{List}
use Prim.Native.Nat.{ℕ, ◌+◌}
use Rattle.card.specs.declared.Card.{Card}
use Rattle.shelf.specs.Shelf.{Shelf}
use Rattle.judge.specs.Verdicts.{fine, Verdict, is_fine}
use Rattle.meaning.specs.Enact.{used_in, memory_in}
use Rattle.table.specs.Load.{progress_by, memory_after}
use Rattle.table.specs.InPlace.{state_read, state_after}
use Rattle.table.specs.declared.Progress.{Progress}

-- one line more, fine or not
abbrev pub progress : ℕ → ℕ → Verdict → Progress
progress used lines verdict = record { used = used; lines = lines; verdict = verdict }

module _ (card : Card) (memory s : List ℕ) (shelf : Shelf) (p : Progress) (reading : Reading) (v w : Verdict) (e : v ≡ w) where
  pub step_stopped : is_fine v ≡ false → progress p.used (p.lines + 1) v ≡ progress_by w p reading
  unfolding progress_by
  step_stopped f = ap (progress p.used (p.lines + 1)) e ∙ rw (sym (ap is_fine e) ∙ f)

  pub memory_kept : is_fine v ≡ false → memory ≡ memory_after card memory shelf w p reading
  memory_kept f = rw (sym (ap is_fine e) ∙ f)

  pub state_kept : is_fine v ≡ false → s ≡ state_after s w p reading
  state_kept f = rw (sym (ap is_fine e) ∙ f)

  pub step_fine : (used : ℕ) → is_fine v ≡ true → used ≡ used_in reading p.used → progress used (p.lines + 1) v ≡ progress_by w p reading
  unfolding progress_by
  step_fine used f u = (λ i. progress (u i) (p.lines + 1) (e i)) ∙ rw (sym (ap is_fine e) ∙ f)

  pub memory_enacted : (memory' : List ℕ) → is_fine v ≡ true → memory' ≡ memory_in card memory shelf p.used reading → memory' ≡ memory_after card memory shelf w p reading
  memory_enacted memory' f m = rw (sym (ap is_fine e) ∙ f) m

  pub state_enacted : (s' : List ℕ) → is_fine v ≡ true → s' ≡ state_read reading p.used s → s' ≡ state_after s w p reading
  state_enacted s' f m = rw (sym (ap is_fine e) ∙ f) m

pub fine_is : (v : Verdict) → is_fine v ≡ true → v ≡ fine
fine_is (Ok x) e = refl
fine_is (Err fault) e = absurd (false≢true e)

-- what a verdict is, by the test of the code
pub failed : (v : Verdict) → is_err v ≡ true → is_fine v ≡ false
failed (Ok x) e = absurd (false≢true e)
failed (Err fault) e = refl

pub passed : (v : Verdict) → is_err v ≡ false → is_fine v ≡ true
passed (Ok x) e = refl
passed (Err fault) e = absurd (false≢true (sym e))
