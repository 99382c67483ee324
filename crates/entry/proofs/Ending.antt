-- What the walks over an entry point share, in `owned` and in `firmware`: what arguments own and what a contract binds of them; from the walk to its contract.
--     meets, exits     from a walk whose parameters' machine values are written out to `Meets`; and how it ends, with what the callee says of the last values
-- Assumes `Logic`.
use mathlib.Core.List.{List, [], ◌∷◌}
use lib.ListN.{length}
use seplogic.Ra.Ura.{Ura}
use mir.Syntax.{Ty}
use mir.Val.{Val}
use base.Logic.{SProp, ent, emp, sep, wand, via, comm∗, mono_l, wand_i, apply∗}
use base.Fml.{Fml, Lft, Share}
use types.Logic.{Logic, sem}
use contract.Lifetimes.{Lfts, Shares, AllOutlive, toks}
use contract.Monad.{Fun, fact, fact_i}
use types.Kit.{‵, raw, mean, ◌$◌, ◌∵◌, !, qed, by, use0, use1, move, join, show, frame, updating, now as at_once, ⋆}
use denote.RattleType.{Denots, Valss, flat}
use denote.Laws.{Are, Ises, Spells, Tellss, valss as spelled}
use denote.Signature.{Signature, type_at, types_at}
use denote.Steps.{said}
use denote.Triple.Entry.{Args, Vals, Res, alive, on_entry}
use denote.Triple.Spec.{Back, Meets}
use denote.Triple.Clauses.{Ended, Clauses, Lasts, at_exit, lasts, ensured, closing}
use Rattle.card.specs.contracts.Card as C
use Rattle.card.proofs.Card.TheLaws as C'
use Rattle.answer.proofs.Answer.TheLaws as N'
use Rattle.answer.proofs.Calls.{Of}
use Rattle.entry.proofs.Arguments.{Got, Arg, kinds, args, valss, tokens_of, lifetimes, shares}
use Rattle.entry.proofs.Entering.{each, tokens}

abbrev pub GotCard : Type 0
GotCard = Got C.the_row

abbrev pub card_mir : Ty
card_mir = C'.mir

abbrev pub answer_mir : Ty
answer_mir = N'.mir

-- what arguments own, each by itself; what a contract binds of them; tokens as a signature asks them
abbrev pub owning : List Arg → List Fml
owning xs = each (kinds 0 xs) (args 0 xs) (valss 0 xs)

abbrev pub binding : (xs : List Arg) → (Lfts (length (tokens_of xs)) × Shares (length (tokens_of xs)) × Unit {0} × Denots (kinds 0 xs) × Valss (kinds 0 xs)) × Unit {0}
binding xs = ((lifetimes (tokens_of xs), shares (tokens_of xs), tt, args 0 xs, valss 0 xs), tt)

abbrev pub tokened : {M : Type 1} {𝓤 : Ura M} (𝓛 : Logic 𝓤) → List (Lft × Share) → SProp 𝓤
tokened 𝓛 ts = toks 𝓛 (length ts) (lifetimes ts) (shares ts)

module _ {M : Type 1} {𝓤 : Ura M} (𝓛 : Logic 𝓤) (T : Ended) (c : Clauses 𝓤 T) where
  abbrev S : Signature
  S = T.signature

  -- it ends with the tokens and what is said of the last values; the result owns nothing, and the `ensures` is a fact
  pub exits : (y : (Of 𝓛 T c).Ghost) (v : Val) (r : Res S y.0.0) (ws : Lasts T y.0.0 y.0.3) (ts : List (Lft × Share)) (φ : Type 0)
      → ent 𝓤 (mean 𝓛 (tokens ts)) (alive 𝓛 S y.0.0 y.0.1) → ent 𝓤 (emp 𝓤) (sem 𝓛 ((type_at S.result y.0.0).own_val r (v ∷ [])))
      → ent 𝓤 (fact 𝓤 φ) ((c y.0.0 y.0.3).ensures y.1 r (at_exit T y.0.0 y.0.3 ws)) → φ → ent 𝓤 (⋆ 𝓛 (tokens ts ∷ ‵ (lasts T y.0.0 y.0.3 ws) ∷ [])) ((Of 𝓛 T c).post y v)
  exits y v r ws ts φ live own says x =
      qed 𝓛 (tokens ts ∷ ‵ (lasts T y.0.0 y.0.3 ws) ∷ []) ∵ updating ! $ at_once ! $ show ! (λ (r' : Res S y.0.0). sep 𝓤 (Back 𝓛 S y.0 v r') (ensured 𝓛 T c y.0.0 y.0.3 y.1 r')) r $
      use0 𝓛 (‵ ((type_at S.result y.0.0).own_val r (v ∷ []))) own $ move ! (1 ∷ []) $ use1 𝓛 (raw (alive 𝓛 S y.0.0 y.0.1)) live $ join ! $ frame ! $
      show ! (λ (us : Lasts T y.0.0 y.0.3). sep 𝓤 (sem 𝓛 (lasts T y.0.0 y.0.3 us)) ((c y.0.0 y.0.3).ensures y.1 r (at_exit T y.0.0 y.0.3 us))) ws $ frame ! $ by ! (via 𝓤 (fact 𝓤 φ) (fact_i 𝓤 φ (emp 𝓤) x) says)

  pub meets : (run : Fun 𝓤) (sp : (κs : Lfts S.lifetimes) → Spells (types_at S.params κs)) → ((κs : Lfts S.lifetimes) → Tellss (types_at S.params κs) (Ises (types_at S.params κs)) (sp κs))
      → ((κs : Lfts S.lifetimes) (qs : Shares S.lifetimes) (bounds : AllOutlive S.lifetimes S.outlives κs) (a : Args S κs) (g : (c κs a).ghost)
      → Are (types_at S.params κs) (Ises (types_at S.params κs)) a (spelled (types_at S.params κs) (sp κs) a)
      → ent 𝓤 (sep 𝓤 (on_entry 𝓛 S κs qs a (spelled (types_at S.params κs) (sp κs) a)) ((c κs a).requires g))
      (run (flat (types_at S.params κs) (spelled (types_at S.params κs) (sp κs) a)) ((Of 𝓛 T c).post ((κs, qs, bounds, a, spelled (types_at S.params κs) (sp κs) a), g))))
      → Meets 𝓛 S run (closing 𝓛 T c)
  meets run sp tl k y =
      let P : SProp 𝓤 = (c y.0.0 y.0.3).requires y.1 in
      let Q : Vals S y.0.0 → SProp 𝓤 = λ us. run (flat (types_at S.params y.0.0) us) ((Of 𝓛 T c).post ((y.0.0, y.0.1, y.0.2, y.0.3, us), y.1)) in
      via 𝓤 (sep 𝓤 P (wand 𝓤 P (Q y.0.4)))
      (via 𝓤 (sep 𝓤 (wand 𝓤 P (Q y.0.4)) P)
      (mono_l 𝓤 P (said 𝓛 S y.0.0 y.0.1 (sp y.0.0) (tl y.0.0) y.0.3 (λ us. wand 𝓤 P (Q us)) y.0.4 (λ are. wand_i 𝓤 _ P _ (k y.0.0 y.0.1 y.0.2 y.0.3 y.1 are))))
      (comm∗ 𝓤 (wand 𝓤 P (Q y.0.4)) P))
      (apply∗ 𝓤 P (Q y.0.4))
