use Rattle.std.proofs.Common.{◌≡◌, ℕ, Bool, true, false, cond, ◌||◌, eqb, refl, ap, ◌∙◌}
use Rattle.soundness.proofs.unheld.Goals as goal

either : (t : Bool) (n : ℕ) → eqb (cond t 0 n) 0 ≡ (t || eqb n 0)
either true n = refl
either false n = refl

pub returns : goal.returns
returns c =
    let ask = c.args.ask in
    ap (λ n. eqb n 0) c.by.ensures ∙ either (eqb ask 0) c.unlike.result ∙ ap (λ t. eqb ask 0 || t) c.unlike.ensures
