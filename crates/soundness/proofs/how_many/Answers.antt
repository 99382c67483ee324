use Rattle.std.proofs.Common.{◌≡◌, ℕ, ◌/◌, ◌<◌, Bool, true, false, cond, leb, get_or, refl, arith, leb-false, leb-true, rules}
use Rattle.soundness.proofs.Pass.{many_next, many_end}
use Rattle.soundness.proofs.how_many.Goals as goal

halved : (x : ℕ) → x < 256 → x / 128 ≡ cond (leb 128 x) 1 0
halved x h = pick (leb 128 x) refl
  where
    pick : (t : Bool) → leb 128 x ≡ t → x / 128 ≡ cond t 1 0
    pick true e = let l = leb-true 128 x e in omega arith
    pick false e = let l = leb-false 128 x e in omega arith

pub loop-note-preserved : goal.loop-note-preserved
loop-note-preserved c =
    let held = c.args.held.now in
    let i = c.loop-note.note-index in
    let x : get_or held i 0 < 256 = search rules in
    let m = many_next held i (omega arith) in
    let n = halved (get_or held i 0) (omega (arith, x)) in
    (omega arith, omega arith)

pub returns : goal.returns
returns c =
    let held = c.args.held.now in
    let z = many_end held c.loop-note.note-index (omega arith) in
    omega arith
