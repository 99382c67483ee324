-- The requests of a frame. Assumes nothing.
use Prim.Native.Nat.{ℕ, zero, suc, ◌<◌}
use native.Mathlib.Omega.{arith}
use mathlib.Core.Path.{◌≡◌, refl, sym, subst, ◌∙◌}
use mathlib.Core.Logic.{◌≢◌, ◌⊎◌}
use mathlib.Core.List.{List, [], ◌∷◌}
use lib.ListN.{length, get_or, set, replicate, length-set}
use lib.Seq.{get_or-set_same, get_or-set_other}
use Rattle.card.specs.declared.Card.{Card}
use Rattle.arbiter.proofs.Order.{below_or}
use Rattle.shelf.specs.Shelves.{waiting, number_of}
use Rattle.shelf.specs.declared.Unit as U
use Rattle.shelf.specs.Shelf.{Shelf}
use Rattle.arbiter.specs.Arbitration.{asks_now}
use Rattle.framing.specs.Requests.{asking_of, asking_now, requests}
use Rattle.running.proofs.Asking.{stranger_asks}
use Rattle.soundness.proofs.Facts.{sound_iff as code_sound_iff}
use Rattle.paper.specs.State.{units, unit_at, number_at, blank, Sound, Whole}
use Rattle.paper.specs.Grants.{Renewed}
use Rattle.paper.proofs.State.{sound_iff}
use Rattle.paper.proofs.Grants.{renewed_now, renewed_stand, asks_wanting, asks_silent}
use Rattle.sentences.specs.Frame.{Requests}

-- what these units ask now: of one that no other has the number of
module _ (granted : ℕ) where
  untouched : (now : List ℕ) (us : List U.Unit) (n : ℕ) → ((i : ℕ) → i < length us → number_of (get_or us i blank) ≢ n) → get_or (asking_of granted now us) n 0 ≡ get_or now n 0
  unfolding asking_of
  untouched now [] n f = refl
  untouched now (u ∷ us) n f =
      untouched (set now (number_of u) (asks_now granted (number_of u) u.settings.priority (waiting u))) us n (λ i h. f (suc i) (omega arith))
      ∙ get_or-set_other now (number_of u) n (asks_now granted (number_of u) u.settings.priority (waiting u)) 0 (λ e. f 0 (omega arith) (sym e))

  asked : (now : List ℕ) (us : List U.Unit) (j : ℕ) → j < length us → ((i : ℕ) → i < length us → number_of (get_or us i blank) ≡ number_of (get_or us j blank) → i ≡ j) → number_of (get_or us j blank) < length now →
      get_or (asking_of granted now us) (number_of (get_or us j blank)) 0 ≡ asks_now granted (number_of (get_or us j blank)) (get_or us j blank).settings.priority (waiting (get_or us j blank))
  unfolding asking_of
  asked now [] j h once few = absurd (omega arith)
  asked now (u ∷ us) zero h once few =
      untouched (set now (number_of u) (asks_now granted (number_of u) u.settings.priority (waiting u))) us (number_of u) (λ i k e. absurd (let z = once (suc i) (omega arith) e in omega arith))
      ∙ get_or-set_same now (number_of u) (asks_now granted (number_of u) u.settings.priority (waiting u)) 0 few
  asked now (u ∷ us) (suc j) h once few =
      asked (set now (number_of u) (asks_now granted (number_of u) u.settings.priority (waiting u))) us j (omega arith) (λ i k e. let z = once (suc i) (omega arith) e in omega arith)
      (subst (λ n. number_of (get_or us j blank) < n) (sym (length-set now (number_of u) (asks_now granted (number_of u) u.settings.priority (waiting u)))) few)

-- the requests of a sound shelf
module _ (card : Card) (shelf : Shelf) (whole : Whole shelf) (bytes rows : ℕ) (s : Sound card shelf bytes rows) where
  abbrev asks : List ℕ
  asks = (requests shelf).asks

  pub below_32 : (i : ℕ) → i < length (units shelf) → number_at shelf i < 32
  below_32 i h = let b = (s.each i h).below in mathlib.Core.Logic.⊎_elim (λ e. omega arith) (λ e. omega arith) s.bus

  now_is : (i : ℕ) → i < length (units shelf) → get_or (asking_now shelf) (number_at shelf i) 0 ≡ asks_now shelf.granted (number_of (unit_at shelf i)) (unit_at shelf i).settings.priority (waiting (unit_at shelf i))
  now_is i h =
      asked shelf.granted (replicate 32 0) (units shelf) i h
      (λ j k e. below_or j i (λ l. absurd (s.once j i l h e)) (λ l. below_or i j (λ m. absurd (s.once i j m k (sym e))) (λ m. omega arith)))
      (below_32 i h)

  due_now : (i : ℕ) → i < length (units shelf) → Renewed shelf.bus shelf.frame (number_at shelf i) → get_or asks (number_at shelf i) 0 ≡ asks_now shelf.granted (number_of (unit_at shelf i)) (unit_at shelf i).settings.priority (waiting (unit_at shelf i))
  due_now i h r =
      renewed_now shelf.bus shelf.frame s.bus (asking_now shelf) shelf.arbiter.asks (number_at shelf i) (omega (arith, below_32 i h, whole.asks_32)) r
      ∙ now_is i h

  pub requests_are : Requests shelf asks
  requests_are =
      record {
        asking = λ i h r w. due_now i h r ∙ asks_wanting (unit_at shelf i) shelf.granted w;
        silent = λ i h r n. due_now i h r ∙ asks_silent (unit_at shelf i) shelf.granted n;
        stand = renewed_stand shelf.bus shelf.frame s.bus (asking_now shelf) shelf.arbiter.asks;
        undeclared = λ n d. stranger_asks card shelf bytes rows ((code_sound_iff card shelf bytes rows).0 ((sound_iff card shelf bytes rows).1 s)) n (λ k. d (k.0, record { inside = k.1; named = k.2 }));
      }
