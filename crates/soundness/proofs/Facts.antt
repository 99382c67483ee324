-- The test of the state, item by item as facts. Assumes nothing.
use Rattle.std.proofs.Common.{◌≡◌, ℕ, zero, suc, ◌+◌, ◌<◌, ◌≤◌, Bool, true, false, not, ◌||◌, eqb, ◌⊎◌, ◌↔◌, List, [], ◌∷◌, length, get_or, sym, refl, ◌∙◌, subst, inl, inr, ⊎_elim, not-suc-le-zero, add-zero, zero-add, arith, Some}
use mathlib.Core.Bool.{false≢true}
use mathlib.Core.Logic.Iff
use Rattle.header.specs.Fields.{highest}
use Rattle.header.specs.declared.Link.{Link}
use Rattle.header.specs.declared.Link.TheVariants.{Uni, Nni}
use Rattle.card.specs.declared.Card.{Card}
use Rattle.card.specs.declared.Card.TheVariants.{Narrow, Wide}
use Rattle.card.specs.declared.Ask.TheVariants.{On}
use Rattle.card.specs.Cards.{narrow_holds, holds}
use Rattle.outlet.specs.Outlets.{Given, RingFits, RingsFit}
use Rattle.outlet.proofs.Truth.{le_iff, lt_iff, eq_iff, and_iff, or_iff}
use Rattle.outlet.proofs.Laws.{given_iff, fits_iff, rings_iff}
use Rattle.arbiter.specs.Arbitration.{nobody, besides}
use Rattle.shelf.specs.Shelves.{declared, blank, fresh, waiting, number_of, numbers, find_in}
use Rattle.shelf.specs.declared.Side.{Side}
use Rattle.shelf.specs.declared.Unit as U
use Rattle.shelf.specs.Shelf.{Shelf}
use Rattle.shelf.proofs.Finding.{find_at}
use Rattle.soundness.specs.State.{every, among, none_repeated, settings_given, below_bus, could_be_given, side_fits, within_capacity, grant_has_cell, request_has_cell, nobody_or, asks_known, arbiter_known, sound_of, SideFits, UnitSound, DeclaredIn, Sound}
use Rattle.soundness.proofs.Pass.{roomy_iff}

-- a test that does not hold, and one that holds where another does
not_iff : {a : Bool} {P : Type 0} → (a ≡ true) ↔ P → (not a ≡ true) ↔ (P → ⊥)
not_iff {a = true} p = (λ e. absurd (false≢true e), λ f. absurd (f (p.0 refl)))
not_iff {a = false} p = (λ e x. false≢true (p.1 x), λ f. refl)

pub imp_iff : {a b : Bool} {P Q : Type 0} → (a ≡ true) ↔ P → (b ≡ true) ↔ Q → ((not a || b) ≡ true) ↔ (P → Q)
imp_iff {a = true} p q = (λ e x. q.0 e, λ f. q.1 (f (p.0 refl)))
imp_iff {a = false} p q = (λ e x. absurd (false≢true (p.1 x)), λ f. refl)

-- every unit
pub every_iff : (f : U.Unit → Bool) (P : U.Unit → Type 0) → ((u : U.Unit) → (f u ≡ true) ↔ P u) → (us : List U.Unit) → (every f us ≡ true) ↔ ((i : ℕ) → i < length us → P (get_or us i blank))
unfolding every
every_iff f P e [] = (λ t i h. absurd (not-suc-le-zero h), λ g. refl)
every_iff f P e (u ∷ us) =
    let b = and_iff (e u) (every_iff f P e us) in (
      λ t i. elim i as (λ k. k < suc (length us) → P (get_or (u ∷ us) k blank)) [ zero ↦ λ h. (b.0 t).0 | suc j ↦ λ h. (b.0 t).1 j (omega arith) ],
      λ g. b.1 (g 0 (omega arith), λ i h. g (suc i) (omega arith)),
    )

-- a declared number, and none repeated
pub among_iff : (us : List U.Unit) (n : ℕ) → (among (numbers us) n ≡ true) ↔ DeclaredIn us n
unfolding among
among_iff [] n = (λ e. absurd (false≢true e), λ w. absurd (not-suc-le-zero w.1))
among_iff (u ∷ us) n =
    let b = or_iff (eq_iff (number_of u) n) (among_iff us n) in
    let back : (i : ℕ) → i < suc (length us) → number_of (get_or (u ∷ us) i blank) ≡ n → (number_of u ≡ n) ⊎ DeclaredIn us n =
    λ i. elim i as (λ k. k < suc (length us) → number_of (get_or (u ∷ us) k blank) ≡ n → (number_of u ≡ n) ⊎ DeclaredIn us n) [ zero ↦ λ h e. inl e | suc j ↦ λ h e. inr (j, omega arith, e) ] in
    (λ t. ⊎_elim (λ e. (0, omega arith, e)) (λ w. let h = w.1 in (suc w.0, omega arith, w.2)) (b.0 t), λ w. b.1 (back w.0 w.1 w.2))

Once : List U.Unit → Type 0
Once us = (i j : ℕ) → i < j → j < length us → number_of (get_or us i blank) ≡ number_of (get_or us j blank) → ⊥

once_iff : (us : List U.Unit) → (none_repeated (numbers us) ≡ true) ↔ Once us
unfolding none_repeated Once
once_iff [] = (λ t i j h k. absurd (not-suc-le-zero k), λ g. refl)
once_iff (u ∷ us) =
    let b = and_iff (not_iff (among_iff us (number_of u))) (once_iff us) in (
      λ t i j. elim j as (λ y. i < y → y < suc (length us) → number_of (get_or (u ∷ us) i blank) ≡ number_of (get_or (u ∷ us) y blank) → ⊥) [
        | zero ↦ λ h. absurd (not-suc-le-zero h)
        | suc m ↦ elim i as (λ x. x < suc m → suc m < suc (length us) → number_of (get_or (u ∷ us) x blank) ≡ number_of (get_or us m blank) → ⊥) [ zero ↦ λ h k e. (b.0 t).0 (m, omega arith, sym e) | suc l ↦ λ h k e. (b.0 t).1 l m (omega arith) (omega arith) e ]
      ],
      λ g. b.1 (λ w. let h = w.1 in g 0 (suc w.0) (omega arith) (omega arith) (sym w.2), λ i j h k e. g (suc i) (suc j) (omega arith) (omega arith) e),
    )

-- the settings
pub link_iff : (card : Card) (link : Link) → (holds card (On link) ≡ true) ↔ (link ≡ Nni → card ≡ Wide)
unfolding holds narrow_holds
link_iff Wide link = (λ t e. refl, λ f. refl)
link_iff Narrow Uni = (λ t e. let z : ◌≡◌ {A = ℕ} 0 1 = cc in absurd (omega arith), λ f. refl)
link_iff Narrow Nni = (λ t. absurd (false≢true t), λ f. let e = f refl in let z : ◌≡◌ {A = ℕ} 0 1 = cc in absurd (omega arith))

SettingsGiven : Card → U.Unit → Type 0
SettingsGiven card u =
    (((u.settings.link ≡ Nni → card ≡ Wide) × (u.settings.top ≤ highest u.settings.link)) × ((1 ≤ u.settings.priority) × (u.settings.priority ≤ 3)))
    × Given u.outlet.limits

given_unit_iff : (card : Card) (u : U.Unit) → (could_be_given card u ≡ true) ↔ SettingsGiven card u
unfolding settings_given SettingsGiven
given_unit_iff card u =
    and_iff
    (and_iff (and_iff (link_iff card u.settings.link) (le_iff u.settings.top (highest u.settings.link)))
    (and_iff (le_iff 1 u.settings.priority) (le_iff u.settings.priority 3)))
    (given_iff u.outlet.limits)

-- the places beside the data queues
pub side_iff : (s : Side) → (side_fits s ≡ true) ↔ SideFits s
side_iff s =
    let e = and_iff (and_iff (and_iff (fits_iff s.controlout 4) (le_iff s.controlin 1)) (le_iff s.loopbackin 1)) (le_iff s.loopbackout 1) in (
      λ t. let w = e.0 t in record { controlout = w.0.0.0; controlin = w.0.0.1; loopbackin = w.0.1; loopbackout = w.1 },
      λ w. e.1 (((w.controlout, w.controlin), w.loopbackin), w.loopbackout),
    )

-- requests of declared units alone
asks_iff : (known : ℕ → Bool) (n : ℕ) (asks : List ℕ) → (asks_known known n asks ≡ true) ↔ ((k : ℕ) → (get_or asks k 0 ≡ 0) ⊎ (known (n + k) ≡ true))
unfolding asks_known
asks_iff known n [] = (λ t k. inl refl, λ g. refl)
asks_iff known n (a ∷ asks) =
    let b = and_iff (or_iff (eq_iff a 0) (Iff.rfl {A = known n ≡ true})) (asks_iff known (suc n) asks) in
    let there : (k : ℕ) → suc n + k ≡ n + suc k = λ k. omega arith in (
      λ t k. elim k as (λ x. (get_or (a ∷ asks) x 0 ≡ 0) ⊎ (known (n + x) ≡ true)) [
        | zero ↦ rw add-zero (b.0 t).0
        | suc m ↦ subst (λ j. (get_or asks m 0 ≡ 0) ⊎ (known j ≡ true)) (there m) ((b.0 t).1 m)
      ],
      λ g. b.1 (rw add-zero at (g 0), λ k. subst (λ j. (get_or asks k 0 ≡ 0) ⊎ (known j ≡ true)) (sym (there k)) (g (suc k))),
    )

pub quiet_iff : (us : List U.Unit) (asks : List ℕ) → (asks_known (among (numbers us)) 0 asks ≡ true) ↔ ((n : ℕ) → (DeclaredIn us n → ⊥) → get_or asks n 0 ≡ 0)
quiet_iff us asks =
    let b = asks_iff (among (numbers us)) 0 asks in
    let at : (g : (n : ℕ) → (DeclaredIn us n → ⊥) → get_or asks n 0 ≡ 0) (k : ℕ) (t : Bool) → among (numbers us) k ≡ t → (get_or asks k 0 ≡ 0) ⊎ (among (numbers us) k ≡ true) =
    λ g k t. elim t as (λ x. among (numbers us) k ≡ x → (get_or asks k 0 ≡ 0) ⊎ (among (numbers us) k ≡ true)) [ true ↦ λ e. inr e | false ↦ λ e. inl (g k (λ w. false≢true (sym e ∙ (among_iff us k).1 w))) ] in (
      λ t n h. ⊎_elim (λ e. e) (λ e. absurd (h ((among_iff us n).0 (rw zero-add at e)))) (b.0 t n),
      λ g. b.1 (λ k. rw zero-add (at g k (among (numbers us) k) refl)),
    )

-- State is refused exactly when an item does not hold
pub sound_iff : (card : Card) (shelf : Shelf) (store rows : ℕ) → (sound_of card shelf store rows ≡ true) ↔ Sound card shelf store rows
unfolding sound_of arbiter_known SettingsGiven Once
sound_iff card shelf store rows =
    let us = declared shelf in
    let asks = shelf.arbiter.asks in
    let last = shelf.arbiter.last in
    let nobody_or_iff : (n : ℕ) → (nobody_or (among (numbers us)) n ≡ true) ↔ ((n ≡ nobody) ⊎ DeclaredIn us n) = λ n. or_iff (eq_iff n nobody) (among_iff us n) in
    let e =
    and_iff
    (and_iff
    (and_iff
    (and_iff
    (and_iff
    (and_iff (and_iff (roomy_iff shelf.bus shelf.count store rows) (once_iff us))
    (every_iff (below_bus shelf.bus) (λ u. number_of u < shelf.bus) (λ u. lt_iff (number_of u) shelf.bus) us))
    (every_iff (could_be_given card) (SettingsGiven card) (given_unit_iff card) us))
    (every_iff within_capacity (λ u. (RingFits u.inlet 4 × RingsFit u.outlet) × SideFits u.side) (λ u. and_iff (and_iff (fits_iff u.inlet 4) (rings_iff u.outlet)) (side_iff u.side)) us))
    (every_iff (grant_has_cell shelf.granted) (λ u. number_of u ≡ shelf.granted → 1 ≤ waiting u)
    (λ u. imp_iff (eq_iff (number_of u) shelf.granted) (le_iff 1 (waiting u))) us))
    (every_iff (request_has_cell shelf.granted asks)
    (λ u. (get_or asks (number_of u) 0 ≡ 0) ⊎ ((get_or asks (number_of u) 0 ≡ u.settings.priority) × (1 ≤ besides (waiting u) (eqb (number_of u) shelf.granted))))
    (λ u. or_iff (eq_iff (get_or asks (number_of u) 0) 0)
    (and_iff (eq_iff (get_or asks (number_of u) 0) u.settings.priority) (le_iff 1 (besides (waiting u) (eqb (number_of u) shelf.granted))))) us))
    (and_iff
    (and_iff (nobody_or_iff shelf.granted) (and_iff (and_iff (nobody_or_iff (get_or last 0 0)) (nobody_or_iff (get_or last 1 0))) (nobody_or_iff (get_or last 2 0))))
    (quiet_iff us asks)) in (
      λ t. let w = e.0 t in
          let frame = w.0.0.0.0.0.0.0 in
          let lasts = w.1.0.1 in
          record {
            bus = frame.0.0.0;
            count = frame.0.0.1;
            store = frame.0.1;
            rows = frame.1;
            once = w.0.0.0.0.0.0.1;
            units = λ i h. let s = w.0.0.0.0.1 i h in let k = w.0.0.0.1 i h in
                record {
                  below = w.0.0.0.0.0.1 i h;
                  link = s.0.0.0;
                  top = s.0.0.1;
                  least = s.0.1.0;
                  most = s.0.1.1;
                  limits = s.1;
                  inlet = k.0.0;
                  queues = k.0.1;
                  side = k.1;
                  grant = w.0.0.1 i h;
                  ask = w.0.1 i h;
                };
            granted = w.1.0.0;
            last = λ p. elim p as (λ x. x < 3 → (get_or last x 0 ≡ nobody) ⊎ DeclaredIn us (get_or last x 0)) [ zero ↦ λ h. lasts.0.0 | suc zero ↦ λ h. lasts.0.1 | suc (suc zero) ↦ λ h. lasts.1 | suc (suc (suc n)) ↦ λ h. absurd (omega arith) ];
            asks = w.1.1;
          },
      λ s.
          let at : (i : ℕ) → i < length us → UnitSound card shelf.bus shelf.granted asks (get_or us i blank) = s.units in
          e.1 (
            (
              (
                (
                  (
                    (((((s.bus, s.count), s.store), s.rows), s.once), λ i h. (at i h).below),
                    λ i h. let u = at i h in (((u.link, u.top), (u.least, u.most)), u.limits),
                  ),
                  λ i h. let u = at i h in ((u.inlet, u.queues), u.side),
                ),
                λ i h. (at i h).grant,
              ),
              λ i h. (at i h).ask,
            ),
            ((s.granted, ((s.last 0 (omega arith), s.last 1 (omega arith)), s.last 2 (omega arith))), s.asks),
          ),
    )

-- what later rooms take from it: a declared unit is as its facts say, and is found where it stands
module _ (card : Card) (shelf : Shelf) (store rows : ℕ) (sound : sound_of card shelf store rows ≡ true) (i : ℕ) (inside : i < length (declared shelf)) where
  pub sound_unit : UnitSound card shelf.bus shelf.granted shelf.arbiter.asks (get_or (declared shelf) i blank)
  sound_unit = ((sound_iff card shelf store rows).0 sound).units i inside

  pub sound_find : find_in (declared shelf) (number_of (get_or (declared shelf) i blank)) ≡ Some i
  sound_find =
      (find_at (number_of (get_or (declared shelf) i blank)) (declared shelf) i).1
      (record { inside = inside; named = refl; first = λ j h e. ((sound_iff card shelf store rows).0 sound).once j i h inside e })

-- a bus without a unit is sound with any store and any rows
pub fresh_sound : (card : Card) (bus store rows : ℕ) → (bus ≡ 16) ⊎ (bus ≡ 32) → sound_of card (fresh bus) store rows ≡ true
unfolding sound_of every none_repeated asks_known arbiter_known among
fresh_sound card bus store rows e = rw ((roomy_iff bus 0 store rows).1 (((e, omega arith), omega arith), omega arith))
