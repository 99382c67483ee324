-- Which frames are damaged, by their bytes. Assumes nothing.
use mathlib.Core.Path.{◌≡◌, sym, ap, ◌∙◌}
use mathlib.Core.Logic.{◌↔◌}
use Rattle.bus.specs.Frame.{heard}
use Rattle.bus.specs.Heard as sort
use Rattle.answer.specs.declared.Hearing.TheVariants as hearing
use Rattle.paper.specs.Cells.{two, four, class, address, Damaged}
use Rattle.paper.proofs.Cells.{HeardAs, as_damaged, as_cell, as_control, as_loopback, heard_as}
use Rattle.document.specs.Hearing.{hearing_of}
use Rattle.fates.specs.Damage.{DamagedIff}
use Rattle.fates.proofs.Fated.{fate_iff}

pub damaged_iff : DamagedIff
unfolding hearing_of
damaged_iff lines u f whole = by (heard_as f whole)
  where
    by : HeardAs f → (hearing_of lines u (heard f) ≡ hearing.Damaged) ↔ Damaged f
    by (as_damaged d e) = (λ q. d, λ b. ap (hearing_of lines u) e)
    by (as_cell n t s e) = (
      λ q. absurd ((fate_iff.1 lines u (sort.Cell t (class (two f 0)) (four f 4)) hearing.Damaged).0 (ap (hearing_of lines u) (sym e) ∙ q) tt),
      λ b. absurd (n b),
    )
    by (as_control n k c e) = (
      λ q. absurd ((fate_iff.1 lines u (sort.Control (address (two f 0))) hearing.Damaged).0 (ap (hearing_of lines u) (sym e) ∙ q) tt),
      λ b. absurd (n b),
    )
    by (as_loopback n k c e) = (
      λ q. absurd ((fate_iff.1 lines u (sort.Loopback (address (two f 0))) hearing.Damaged).0 (ap (hearing_of lines u) (sym e) ∙ q) tt),
      λ b. absurd (n b),
    )
