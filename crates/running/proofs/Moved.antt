-- The loopback cells of a sound shelf move: it is sound as before, and the store as long. Assumes nothing.
use Prim.Native.Nat.{ℕ, suc, ◌+◌, ◌<◌, ◌≤◌, min}
use native.Mathlib.Omega.{arith}
use mathlib.Core.Path.{◌≡◌, sym, ap, subst, ◌∙◌}
use mathlib.Core.Bool.{Bool, true, false, cond}
use mathlib.Core.List.{List, [], ◌∷◌}
use lib.ListN.{length, length-set, length-take, get_or}
use lib.Seq.{get_or-set_other}
use Rattle.card.specs.declared.Card.{Card}
use Rattle.shelf.specs.Shelves.{declared, blank}
use Rattle.shelf.specs.declared.Unit as U
use Rattle.shelf.specs.Shelf.{Shelf}
use Rattle.shelf.proofs.Finding.{declared_at}
use Rattle.soundness.specs.State.{sound_of, Sound}
use Rattle.soundness.proofs.Facts.{sound_iff}
use Rattle.soundness.specs.Admission.{unit_at, with_unit, with_side, Housed}
use Rattle.soundness.proofs.Laws.{sound_housed}
use Rattle.framing.specs.Moves.{moves, moved_unit, moved_from, moved, moved_stores}
use Rattle.framing.proofs.Moving.{stores_long}
use Rattle.running.proofs.UnitKept.{side_changed}

-- one unit: its loopback cell waits in the inlet now, or nothing changes
module _ (card : Card) (shelf : Shelf) (bytes records i : ℕ) (here : i < length (declared shelf)) (sound : Sound card shelf bytes records) where
  abbrev v : U.Unit
  v = unit_at shelf i

  one_moved : Sound card (with_unit shelf i (moved_unit v)) bytes records
  unfolding moved_unit
  one_moved = pick (moves v)
    where
      housed : Housed i v bytes
      housed = (sound_housed card shelf bytes records ((sound_iff card shelf bytes records).1 sound) i here).0

      pick : (b : Bool) → Sound card (with_unit shelf i (cond b (with_side v (record { controlin = v.side.controlin; loopbackin = 1; controlout = v.side.controlout; loopbackout = 0 })) v)) bytes records
      pick true =
          let most = housed.side.loopbackin in
          side_changed card shelf bytes records i here sound housed (record { controlin = v.side.controlin; loopbackin = 1; controlout = v.side.controlout; loopbackout = 0 })
          (record { controlout = housed.side.controlout; controlin = housed.side.controlin; loopbackin = omega arith; loopbackout = omega arith }) (omega arith)
      pick false = side_changed card shelf bytes records i here sound housed v.side housed.side (omega arith)

-- one after the other
all_moved : (card : Card) (bytes records i : ℕ) (us : List U.Unit) (shelf : Shelf) → i + length us ≤ length (declared shelf) → ((k : ℕ) → k < length us → get_or us k blank ≡ unit_at shelf (i + k)) →
    Sound card shelf bytes records → Sound card (moved_from i us shelf) bytes records
unfolding moved_from
all_moved card bytes records i [] shelf few same s = s
all_moved card bytes records i (u ∷ us) shelf few same s =
    let z : i + 0 ≡ i = omega arith in
    let e : u ≡ unit_at shelf i = same 0 (omega arith) ∙ ap (unit_at shelf) z in
    let as_many : length (declared (with_unit shelf i (moved_unit u))) ≡ length (declared shelf)
    = length-take shelf.count (with_unit shelf i (moved_unit u)).units ∙ ap (min shelf.count) (length-set shelf.units i (moved_unit u)) ∙ sym (length-take shelf.count shelf.units) in
    all_moved card bytes records (suc i) us (with_unit shelf i (moved_unit u)) (omega (arith, as_many, few))
    (λ k h. let on : i + suc k ≡ suc i + k = omega arith in
    same (suc k) (omega arith) ∙ ap (unit_at shelf) on ∙ sym (get_or-set_other shelf.units i (suc i + k) (moved_unit u) blank (λ q. omega arith)))
    (subst (λ x. Sound card (with_unit shelf i (moved_unit x)) bytes records) (sym e) (one_moved card shelf bytes records i (omega arith) s))

-- all declared units
module _ (card : Card) (shelf : Shelf) (store : List ℕ) (records : ℕ) (sound : sound_of card shelf (length store) records ≡ true) where
  unit_is : (k : ℕ) → k < length (declared shelf) → get_or (declared shelf) k blank ≡ unit_at shelf (0 + k)
  unit_is k h = let z : k ≡ 0 + k = omega arith in declared_at shelf k blank (omega (arith, length-take shelf.count shelf.units, h)) ∙ ap (unit_at shelf) z

  pub stores_moved : length (moved_stores shelf store) ≡ length store
  stores_moved = stores_long shelf store (λ k h. (sound_housed card shelf (length store) records sound k h).0.inside)

  pub moves_sound : sound_of card (moved shelf) (length (moved_stores shelf store)) records ≡ true
  moves_sound =
      ap (λ n. sound_of card (moved shelf) n records) stores_moved
      ∙ (sound_iff card (moved shelf) (length store) records).1 (all_moved card (length store) records 0 (declared shelf) shelf (omega arith) unit_is ((sound_iff card shelf (length store) records).0 sound))
