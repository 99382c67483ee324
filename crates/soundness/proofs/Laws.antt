-- What an event that is let in may count on. Assumes nothing.
use Rattle.std.proofs.Common.{◌≡◌, ℕ, ◌+◌, ◌<◌, ◌≤◌, Bool, true, false, cond, List, [], length, get_or, drop, refl, ap, ◌∙◌, subst, arith, length-drop, length-take, None, Option, Some, Err, Ok, Result}
use Rattle.octets.specs.Octets.{part}
use Rattle.octets.proofs.Parts.{get_d_any}
use Rattle.header.specs.declared.Link.TheVariants.{Uni}
use Rattle.outlet.specs.declared.Mode.TheVariants.{One}
use Rattle.card.specs.declared.Card.{Card}
use Rattle.shelf.specs.Shelves.{declared, blank, empty_side, find_in}
use Rattle.shelf.specs.declared.Unit as U
use Rattle.shelf.specs.Shelf.{Shelf}
use Rattle.shelf.proofs.Finding.{declared_at, find_at}
use Rattle.store.proofs.Slots.{part_inside}
use Rattle.soundness.proofs.Facts.{sound_iff}
use Rattle.soundness.specs.State.{sound_of}
use Rattle.soundness.specs.Admission.{at_unit, admitted, decided, unit_at, Housed}

-- the four ways through, in 01's order
module _ (card : Card) (shelf : Shelf) (store rows unit : ℕ) (right : Bool) where
  pub unsound : sound_of card shelf store rows ≡ false → admitted card shelf store rows unit right ≡ Err 8
  unfolding admitted
  unsound e = rw e

  pub stranger : sound_of card shelf store rows ≡ true → find_in (declared shelf) unit ≡ None → admitted card shelf store rows unit right ≡ Err 9
  unfolding admitted at_unit
  stranger e f = rw (e, f)

  pub misfit : (i : ℕ) → sound_of card shelf store rows ≡ true → find_in (declared shelf) unit ≡ Some i → right ≡ false → admitted card shelf store rows unit right ≡ Err 10
  unfolding admitted at_unit
  misfit i e f r = rw (e, f, r)

  pub let_in : (i : ℕ) → sound_of card shelf store rows ≡ true → find_in (declared shelf) unit ≡ Some i → right ≡ true → admitted card shelf store rows unit right ≡ Ok i
  unfolding admitted at_unit
  let_in i e f r = rw (e, f, r)

-- an event's outcome is that of its way in
module _ {X : Type 0} (inside outside : ℕ → X) (d : Result ℕ ℕ) where
  pub decided_at : (i : ℕ) → d ≡ Ok i → inside i ≡ decided d inside outside
  unfolding decided
  decided_at i e = rw e

  pub decided_refused : (n : ℕ) → d ≡ Err n → outside n ≡ decided d inside outside
  unfolding decided
  decided_refused n e = rw e

-- what holds of it either way; and of two outcomes of one way in
pub decided_all : {X : Type 0} (P : X → Type 0) (inside outside : ℕ → X) (d : Result ℕ ℕ) → ((i : ℕ) → d ≡ Ok i → P (inside i)) → ((n : ℕ) → P (outside n)) → P (decided d inside outside)
unfolding decided
decided_all P inside outside (Ok i) p q = p i refl
decided_all P inside outside (Err n) p q = q n

pub decided_both : {X Y Z : Type 0} (f : X → Z) (g : Y → Z) (inside outside : ℕ → X) (within without : ℕ → Y) (d : Result ℕ ℕ) → ((i : ℕ) → d ≡ Ok i → f (inside i) ≡ g (within i)) → ((n : ℕ) → f (outside n) ≡ g (without n)) → f (decided d inside outside) ≡ g (decided d within without)
unfolding decided
decided_both f g inside outside within without (Ok i) p q = p i refl
decided_both f g inside outside within without (Err n) p q = q n

-- a unit that a sound shelf has
module _ (card : Card) (shelf : Shelf) (store rows : ℕ) where
  pub sound_housed : sound_of card shelf store rows ≡ true → (i : ℕ) → i < length (declared shelf) → Housed i (unit_at shelf i) store × (i < rows)
  sound_housed e i h =
      let s = (sound_iff card shelf store rows).0 e in
      let k : i < shelf.count = omega (arith, length-take shelf.count shelf.units, h) in
      let u = s.units i h in
      let m : Housed i (get_or (declared shelf) i blank) store =
      record {
        below = omega (arith, s.count);
        inside = part_inside i shelf.count store k s.store;
        limits = u.limits;
        queues = u.queues;
        inlet = u.inlet;
        side = u.side;
      } in
      (subst (λ x. Housed i x store) (declared_at shelf i blank k) m, omega (arith, s.rows))

-- an event that is let in: the state is sound, the unit is declared and stands in the place, the slice has its length
pub record LetIn (card : Card) (shelf : Shelf) (store rows unit : ℕ) (right : Bool) (i : ℕ) : Type 0 where
  pub sound : sound_of card shelf store rows ≡ true
  pub found : find_in (declared shelf) unit ≡ Some i
  pub fits : right ≡ true

module _ (card : Card) (shelf : Shelf) (store rows unit : ℕ) (right : Bool) (i : ℕ) where
  pub at_let_in : admitted card shelf store rows unit right ≡ Ok i → LetIn card shelf store rows unit right i
  unfolding admitted at_unit
  at_let_in e = pick (sound_of card shelf store rows) refl (find_in (declared shelf) unit) refl right refl e
    where
      pick : (s : Bool) → sound_of card shelf store rows ≡ s → (f : Option ℕ) → find_in (declared shelf) unit ≡ f → (r : Bool) → right ≡ r → cond s (at_unit f r) (Err 8) ≡ Ok i → LetIn card shelf store rows unit right i
      pick true es (Some j) ef true er h = let q : j ≡ i = cc in record { sound = es; found = ef ∙ ap Some q; fits = er }
      pick true es (Some j) ef false er h = let z : ◌≡◌ {A = ℕ} 0 1 = cc in absurd (omega arith)
      pick true es None ef r er h = let z : ◌≡◌ {A = ℕ} 0 1 = cc in absurd (omega arith)
      pick false es f ef r er h = let z : ◌≡◌ {A = ℕ} 0 1 = cc in absurd (omega arith)

  pub let_in_housed : LetIn card shelf store rows unit right i → Housed i (unit_at shelf i) store × (i < rows)
  let_in_housed l = sound_housed card shelf store rows l.sound i ((find_at unit (declared shelf) i).0 l.found).inside

-- what rattle reads where there is no place
abbrev pub nowhere : U.Unit
nowhere =
    record {
      settings = record { number = 0; link = Uni; top = 0; priority = 0 };
      outlet = record { limits = record { mode = One; cbrlength = 0; cbrlimit = 0; vbrlimit = 0; mark = false }; queues = [] };
      inlet = record { head = 0; count = 0 };
      side = empty_side;
      place = 0;
      sessions = [];
    }

-- the unit that was copied out is the one in its place
pub copied : (shelf : Shelf) (place : ℕ) → length shelf.units ≡ 32 → place < 32 → get_or shelf.units place nowhere ≡ unit_at shelf place
copied shelf place long h = get_d_any shelf.units place nowhere blank (omega arith)

-- a cell has 56 bytes
pub cell_length : (store : List ℕ) (at : ℕ) (cell : List ℕ) → at + 56 ≤ length store → cell ≡ part store at 56 → length cell ≡ 56
cell_length store at cell h e = ap length e ∙ omega (arith, length-take 56 (drop at store), length-drop at store)
