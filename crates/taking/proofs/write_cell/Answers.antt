use native.Mathlib.Omega.{arith}
use mathlib.Core.Path.{◌≡◌, refl, sym, ap, ◌∙◌}
use lib.ListN.{length, replicate, set, length-set}
use lib.Seq.{length-take-le}
use Rattle.octets.specs.Octets.{splice}
use Rattle.octets.proofs.Parts.{copied}
use Rattle.taking.proofs.Laws.{cell_written}
use Rattle.taking.proofs.write_cell.Goals as goal
use Rattle.taking.proofs.write_cell.Goals.{After-copy}

pub slice_bounds-copy-end : goal.slice_bounds-copy-end
slice_bounds-copy-end c = let s = c in sym (length-take-le 48 s.args.payload.now (omega (arith, s.requires.0)))

pub copy-requires : goal.copy-requires
copy-requires c = let s = c in let e = length-take-le 48 s.args.payload.now (omega (arith, s.requires.0)) in omega (arith, e)

payload : (c : After-copy) → c.copy.new.b ≡ c.args.payload.now
payload c = let s = c in c.copy.ensures ∙ copied 48 (replicate 48 0) s.args.payload.now refl s.requires.0

pub copy-requires-2 : goal.copy-requires-2
copy-requires-2 c =
    let p = c.requires in
    let e = ap length (payload (goal.at.copy-requires-2 c).After-copy) in
    rw length-set (omega (arith, e, p.0, p.1))

pub returns : goal.returns
returns c =
    let s = c in
    c.copy-2.ensures
    ∙ (λ i. splice (set (c.put_four.ensures i) 4 (c.check.ensures i)) 5 (payload (goal.at.returns c).After-copy i))
    ∙ cell_written s.args.header s.args.payload.now s.args.buffer.now s.requires.0 s.requires.1
