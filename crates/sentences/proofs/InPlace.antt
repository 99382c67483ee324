-- What a sentence says of a shelf as a value it says of lent bytes. Assumes nothing.
use Prim.Native.Nat.{ℕ}
use native.Mathlib.Omega.{arith}
use mathlib.Core.Path.{◌≡◌, refl, sym, subst, ◌∙◌}
use mathlib.Core.List.{List}
use lib.ListN.{length, drop, length-take, length-drop}
use Rattle.card.specs.declared.Card.{Card}
use Rattle.state.specs.Bytes.{shelf_in}
use Rattle.state.proofs.Laws.{units_length}
use Rattle.paper.specs.State.{Whole}
use Rattle.paper.proofs.State.{formed_iff}
use Rattle.document.specs.Events.{Event}
use Rattle.running.specs.Events.{World, Outcome, happens}
use Rattle.running.specs.Lent.{does, seen, shown}
use Rattle.running.proofs.InPlace.{same}
use Rattle.sentences.specs.Changes.{OnShelves, InBytes}

whole : (b : List ℕ) → length b ≡ 2048 → Whole (shelf_in b)
whole b long = record { units_32 = units_length b 0 32; asks_32 = length-take 32 (drop 768 b) ∙ omega (arith, length-drop 768 b); last_3 = refl }

pub in_bytes : (Rule : Card → World → (Event → Outcome) → Type 0) → OnShelves Rule → InBytes Rule
in_bytes Rule holds card l long good =
    let tie : ◌≡◌ {A = Event → Outcome} (λ e. shown (does card l e)) (happens card (seen l)) = λ t e. same card l long ((formed_iff l.state).1 good.formed) e t in
    subst (Rule card (seen l)) (sym tie) (holds card (seen l) (record { whole = whole l.state long; sound = good.sound }))
