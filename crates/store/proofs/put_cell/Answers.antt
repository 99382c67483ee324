use native.Mathlib.Omega.{arith}
use mathlib.Core.Path.{refl, sym, ap, ◌∙◌}
use lib.ListN.{replicate}
use lib.Seq.{length-take-le}
use Rattle.octets.specs.Octets.{splice}
use Rattle.octets.proofs.Parts.{copied}
use Rattle.store.proofs.put_cell.Goals as goal

pub slice_bounds-copy-end : goal.slice_bounds-copy-end
slice_bounds-copy-end c = let s = c in sym (length-take-le 56 s.args.cell.now (omega (arith, s.requires.0)))

pub copy-requires : goal.copy-requires
copy-requires c = let s = c in let e = length-take-le 56 s.args.cell.now (omega (arith, s.requires.0)) in omega (arith, e)

pub returns : goal.returns
returns c = let s = c in c.copy-2.ensures ∙ ap (splice s.args.store.now s.args.at) (c.copy.ensures ∙ copied 56 (replicate 56 0) s.args.cell.now refl s.requires.0)
