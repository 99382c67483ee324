-- What soundness notes of the units of a sound state is what they ask. Assumes nothing.
use Rattle.std.proofs.Common.{◌≡◌, ℕ, zero, suc, ◌+◌, ◌*◌, ◌%◌, ◌<◌, ◌≤◌, Bool, true, false, cond, eqb, leb, List, [], ◌∷◌, map, length, get_or, set, replicate, sym, refl, ap, ◌∙◌, arith}
use Rattle.card.specs.declared.Card.{Card}
use Rattle.arbiter.specs.Arbitration.{besides, asking, asks_now}
use Rattle.shelf.specs.Shelves.{declared, blank, waiting, number_of}
use Rattle.shelf.specs.declared.Unit as U
use Rattle.state.specs.Bytes.{shelf_in}
use Rattle.soundness.specs.Numbered.{note, noted, held_in}
use Rattle.soundness.specs.Soundings.{sound_in}
use Rattle.soundness.proofs.Facts.{sound_iff}
use Rattle.soundness.proofs.InPlace.{sound_in_lem}
use Rattle.framing.specs.Requests.{asking_of, asking_now, asked_in, asked_by}

map_set : (f : ℕ → ℕ) (l : List ℕ) (i x : ℕ) → map f (set l i x) ≡ set (map f l) i (f x)
map_set f [] i x = refl
map_set f (y ∷ l) zero x = refl
map_set f (y ∷ l) (suc i) x = ap (λ m. f y ∷ m) (map_set f l i x)

-- two places that are apart are written in either order
set_apart : (l : List ℕ) (i j x y : ℕ) → (i ≡ j → ⊥) → set (set l i x) j y ≡ set (set l j y) i x
set_apart [] i j x y h = refl
set_apart (z ∷ l) zero zero x y h = absurd (h refl)
set_apart (z ∷ l) zero (suc j) x y h = refl
set_apart (z ∷ l) (suc i) zero x y h = refl
set_apart (z ∷ l) (suc i) (suc j) x y h = ap (λ m. z ∷ m) (set_apart l i j x y (λ e. h (ap suc e)))

-- no unit has this number
abbrev Without : List U.Unit → ℕ → Type 0
Without us n = (j : ℕ) → j < length us → number_of (get_or us j blank) ≡ n → ⊥

asking_apart : (granted : ℕ) (now : List ℕ) (us : List U.Unit) (n x : ℕ) → Without us n → asking_of granted (set now n x) us ≡ set (asking_of granted now us) n x
unfolding asking_of
asking_apart granted now [] n x h = refl
asking_apart granted now (u ∷ us) n x h =
    let asks = asks_now granted (number_of u) u.settings.priority (waiting u) in
    ap (λ m. asking_of granted m us) (set_apart now n (number_of u) x asks (λ e. h 0 (omega arith) (sym e)))
    ∙ asking_apart granted (set now (number_of u) asks) us n x (λ j l. h (suc j) (omega arith))

-- a unit's priority is 1 to 3
abbrev Ranked : U.Unit → Type 0
Ranked u = (1 ≤ u.settings.priority) × (u.settings.priority ≤ 3)

note_asks : (granted i : ℕ) (u : U.Unit) → Ranked u → asked_in (note granted i u) ≡ asks_now granted (number_of u) u.settings.priority (waiting u)
unfolding asking
note_asks granted i u ranked = by (leb 1 (besides (waiting u) (eqb (number_of u) granted)))
  where
    by : (t : Bool) → (128 + 4 * i + cond t (u.settings.priority % 4) 0) % 4 ≡ cond t u.settings.priority 0
    by true = omega (arith, ranked.0, ranked.1)
    by false = omega arith

notes_ask : (granted i : ℕ) (us : List U.Unit) → ((j : ℕ) → j < length us → Ranked (get_or us j blank)) →
    ((j k : ℕ) → j < k → k < length us → number_of (get_or us j blank) ≡ number_of (get_or us k blank) → ⊥) → asked_by (noted granted i us) ≡ asking_of granted (replicate 32 0) us
unfolding noted asking_of
notes_ask granted i [] ranked once = refl
notes_ask granted i (u ∷ us) ranked once =
    let asks = asks_now granted (number_of u) u.settings.priority (waiting u) in
    let others = notes_ask granted (suc i) us (λ j h. ranked (suc j) (omega arith)) (λ j k h l. once (suc j) (suc k) (omega arith) (omega arith)) in
    map_set asked_in (noted granted (suc i) us) (number_of u) (note granted i u)
    ∙ (λ t. set (others t) (number_of u) (note_asks granted i u (ranked 0 (omega arith)) t))
    ∙ sym (asking_apart granted (replicate 32 0) us (number_of u) asks (λ j h e. once 0 (suc j) (omega arith) (omega arith) (sym e)))

pub sound_asks : (card : Card) (b : List ℕ) (store rows : ℕ) → sound_in card b store rows ≡ true → asked_by (held_in b) ≡ asking_now (shelf_in b)
sound_asks card b store rows s =
    let w = (sound_iff card (shelf_in b) store rows).0 (sound_in_lem card b store rows s).1 in
    notes_ask (get_or b 803 0) 0 (declared (shelf_in b)) (λ j h. let u = w.units j h in (u.least, u.most)) w.once
