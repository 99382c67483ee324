-- Each entry point's contract is the step that `does` speaks of. Assumes nothing.
use Rattle.std.specs.Prelude.{Err, Ok, Result}
use Prim.Native.Nat.{ℕ}
use mathlib.Core.Path.{◌≡◌, refl, sym, ◌∙◌}
use mathlib.Core.Bool.{Bool, true, false, cond}
use mathlib.Core.List.{List, []}
use lib.Dec.{eqb}
use lib.ListN.{length}
use Rattle.card.specs.declared.Card.{Card}
use Rattle.state.specs.Bytes.{shelf_in}
use Rattle.soundness.specs.Soundings.{formed_all}
use Rattle.soundness.specs.Admission.{admitted, decided, unit_at, with_unit}
use Rattle.answer.specs.Answers.{none, ends, refused, refused_with}
use Rattle.answer.specs.Done.{Done, outcome_of}
use Rattle.answer.specs.Counting.{settled, settled_to}
use Rattle.answer.specs.declared.Counters as C
use Rattle.answer.specs.declared.Answer.TheVariants.{Handed}
use Rattle.handing.specs.Hands.{busy, handed_to, hand_at}
use Rattle.handing.specs.InPlace.{hand_out}
use Rattle.document.specs.Events.{answers}
use Rattle.entry.proofs.arrive.Met as code_arrive
use Rattle.entry.proofs.frame.Met as code_frame
use Rattle.entry.proofs.hear.Met as code_hear
use Rattle.entry.proofs.take.Met as code_take
use Rattle.entry.proofs.hand.Met as code_hand
use Rattle.entry.proofs.collect.Met as code_collect
use Rattle.entry.proofs.count.Met as code_count
use Rattle.entry.proofs.load.Met as code_load
use Rattle.running.specs.Events.{count_said}
use Rattle.running.specs.Lent.{does}
use Rattle.running.specs.EntryContracts.{EntrySays, EntryAsksNothing, EntryMeets, Steps, Only, Determined}

-- by computing, each entry point's `ensures` is what `running: EntryContracts` writes out
pub entry_says : EntrySays
entry_says M 𝓤 𝓛 mem run =
    record {
      arrives = λ κs a r e. refl;
      frames = λ m κs a r e. refl;
      hears = λ m κs a r e. refl;
      takes = λ m κs a r e. refl;
      hands = λ m κs a r e. refl;
      collects = λ m κs a r e. refl;
      counts = λ m κs a r e. refl;
      loads = λ κs a r e. refl;
    }

pub entry_asks_nothing : EntryAsksNothing
entry_asks_nothing M 𝓤 𝓛 mem run =
    record {
      arrives = λ κs a. refl;
      frames = λ κs a. refl;
      hears = λ κs a. refl;
      takes = λ κs a. refl;
      hands = λ κs a. refl;
      collects = λ κs a. refl;
      counts = λ κs a. refl;
      loads = λ κs a. refl;
    }

pub entry_meets : (M : Type 1) → EntryMeets M
entry_meets M = record { arrives = code_arrive.met; frames = code_frame.met; hears = code_hear.met; takes = code_take.met; hands = code_hand.met; collects = code_collect.met; counts = code_count.met; loads = code_load.met }

-- a hand-in counts nothing
hand_rows : (card : Card) (b : List ℕ) (store records unit long : ℕ) (rows : List C.Counters) → settled rows (hand_out card b store records unit long).rises ≡ rows
unfolding settled_to decided
hand_rows card b store records unit long rows = by (formed_all b) (admitted card (shelf_in b) store records unit (eqb long 56))
  where
    inside : ℕ → Done
    inside = hand_at (shelf_in b)

    none_there : (place : ℕ) (t : Bool) → settled rows (cond t (refused (shelf_in b) 11) (ends Handed (with_unit (shelf_in b) place (handed_to (unit_at (shelf_in b) place))) none)).rises ≡ rows
    none_there place true = refl
    none_there place false = refl

    by : (f : Bool) (d : Result ℕ ℕ) → settled rows (cond f (outcome_of (decided d inside (refused (shelf_in b)))) (refused_with 8)).rises ≡ rows
    by true (Ok place) = none_there place (busy (unit_at (shelf_in b) place))
    by true (Err number) = refl
    by false d = refl

-- whatever meets it is the step
pub steps : (card : Card) → Steps card
unfolding does
steps card =
    record {
      arrives = λ l unit cell r state store rows e t.
          record { said = answers (e.0 t); lent = record { state = e.1.0 t; memory = l.memory; store = e.1.1.0 t; rows = e.1.1.1 t }; bytes = cell };
      frames = λ l buffer r state store rows bytes e t.
          record { said = answers (e.0 t); lent = record { state = e.1.0 t; memory = l.memory; store = e.1.1.0 t; rows = e.1.1.1.1 t }; bytes = e.1.1.1.0 t };
      hears = λ l unit heard r state store rows e t.
          record { said = answers (e.0 t); lent = record { state = e.1.0 t; memory = l.memory; store = e.1.1.0 t; rows = e.1.1.1 t }; bytes = heard };
      takes = λ l unit buffer r state rows bytes e t.
          record { said = answers (e.0 t); lent = record { state = e.1.0 t; memory = l.memory; store = l.store; rows = e.1.1.1 t }; bytes = e.1.1.0 t };
      hands = λ l unit cell r state store e t.
          record { said = answers (e.0 t); lent = record { state = e.1.0 t; memory = l.memory; store = e.1.1 t; rows = sym (hand_rows card l.state (length l.store) (length l.rows) unit (length cell) l.rows) t }; bytes = cell };
      collects = λ l unit buffer r state rows bytes e t.
          record { said = answers (e.0 t); lent = record { state = e.1.0 t; memory = l.memory; store = l.store; rows = e.1.1.1 t }; bytes = e.1.1.0 t };
      counts = λ l unit r e t. record { said = count_said (e t); lent = l; bytes = [] };
      loads = λ text memory store rows r memory' state' rows' e t. record { state = e.1.1.0 t; memory = e.1.0 t; store = store; rows = e.1.1.1 t };
    }

-- where a contract says what a result is, there is one
only_one : {X : Type 0} (P : X → Type 0) (z : X) → ((x : X) → P x → x ≡ z) → Only P
only_one P z is x y p q = is x p ∙ sym (is y q)

pub determined : (card : Card) → Determined card
determined card =
    record {
      arrives = λ l unit cell. only_one _ _ (λ x e t. (e.0 t, e.1.0 t, e.1.1.0 t, e.1.1.1 t));
      frames = λ l buffer. only_one _ _ (λ x e t. (e.0 t, e.1.0 t, e.1.1.0 t, e.1.1.1.1 t, e.1.1.1.0 t));
      hears = λ l unit heard. only_one _ _ (λ x e t. (e.0 t, e.1.0 t, e.1.1.0 t, e.1.1.1 t));
      takes = λ l unit buffer. only_one _ _ (λ x e t. (e.0 t, e.1.0 t, e.1.1.1 t, e.1.1.0 t));
      hands = λ l unit cell. only_one _ _ (λ x e t. (e.0 t, e.1.0 t, e.1.1 t));
      collects = λ l unit buffer. only_one _ _ (λ x e t. (e.0 t, e.1.0 t, e.1.1.1 t, e.1.1.0 t));
      counts = λ l unit. only_one _ _ (λ x e. e);
      loads = λ text memory store rows. only_one _ _ (λ x e t. (e.0 t, e.1.0 t, e.1.1.0 t, e.1.1.1 t));
    }
