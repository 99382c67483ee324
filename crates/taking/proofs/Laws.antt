-- What is written, and where the cell that leaves lies. Assumes nothing.
use Rattle.std.specs.Prelude.{Some}
use Prim.Native.Nat.{ℕ, ◌+◌, ◌≤◌, ◌<◌}
use native.Mathlib.Omega.{arith}
use mathlib.Core.Path.{◌≡◌, refl, ap, ◌∙◌}
use mathlib.Core.List.{List, [], ◌∷◌, ◌++◌, append-nil}
use lib.ListN.{length, get_or, drop, set, length-drop, drop_of_length-le}
use lib.Seq.{drop-cons, set_at}
use Rattle.octets.specs.Octets.{be4, splice}
use Rattle.octets.proofs.Parts.{written}
use Rattle.header.specs.Check.{check}
use Rattle.outlet.specs.Outlets.{capacity, queue}
use Rattle.outlet.specs.declared.Mode.{Mode}
use Rattle.outlet.specs.declared.Mode.TheVariants.{One, Four}
use Rattle.outlet.specs.Taking.{leaving, queues}
use Rattle.outlet.proofs.Leaves.{leaving_iff}
use Rattle.store.specs.Places.{slot_at, outlet_slot}
use Rattle.store.proofs.Slots.{start_inside, slot_inside}
use Rattle.shelf.specs.declared.Unit as U
use Rattle.soundness.specs.Admission.{Housed}
use Rattle.taking.specs.Takes.{line_cell}

-- what is written one after the other is the line cell
pub cell_written : (h : ℕ) (payload b : List ℕ) → length payload ≡ 48 → length b ≡ 53 → splice (set (splice b 0 (be4 h)) 4 (check h)) 5 payload ≡ line_cell h payload
unfolding line_cell
cell_written h payload b lp lb =
    let b₅ = drop 5 b in
    let s = set (splice b 0 (be4 h)) 4 (check h) in
    let w₁ = written b [] b (be4 h) 0 refl refl in
    let w₂ : s ≡ be4 h ++ (check h ∷ b₅) =
    ap (λ l. set l 4 (check h)) (w₁ ∙ ap (λ l. be4 h ++ l) (drop-cons b 4 0 (omega arith))) ∙ set_at (be4 h) (get_or b 4 0) b₅ (check h) 4 refl in
    let nothing : drop (length payload) b₅ ≡ [] = drop_of_length-le b₅ {i = length payload} (simp length-drop (omega arith)) in
    written s (be4 h ++ (check h ∷ [])) b₅ payload 5 w₂ refl
    ∙ ap (λ l. be4 h ++ (check h ∷ payload ++ l)) nothing ∙ append-nil (be4 h ++ (check h ∷ payload))

-- the queue that a cell leaves is one of the four, and its oldest cell lies in the store
queues_most : (mode : Mode) → queues mode ≤ 4
queues_most One = omega arith
queues_most Four = omega arith

module _ (u : U.Unit) (q : ℕ) (e : leaving u.outlet ≡ Some q) where
  pub leaving_few : q < 4
  leaving_few = let w = (leaving_iff u.outlet (Some q)).0 e in omega (arith, w.0, queues_most u.outlet.limits.mode)

  pub oldest_inside : (place bytes : ℕ) → Housed place u bytes → slot_at place (outlet_slot u.outlet.limits q (queue u.outlet q).head) + 56 ≤ bytes
  oldest_inside place bytes h =
      let w = (leaving_iff u.outlet (Some q)).0 e in
      let cap = capacity u.outlet.limits q in
      let fits = h.queues.each q leaving_few in
      let some : 0 < cap = omega (arith, w.1, fits.held) in
      let slot : outlet_slot u.outlet.limits q (queue u.outlet q).head < 146 =
      omega (arith, start_inside u.outlet.limits q h.limits leaving_few, fits.place some) in
      omega (arith, (slot_inside place (outlet_slot u.outlet.limits q (queue u.outlet q).head) slot).1, h.inside)
