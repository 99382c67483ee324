use native.Mathlib.Omega.{arith}
use mathlib.Core.Path.{refl, sym, ap, ◌∙◌}
use lib.ListN.{replicate, set}
use lib.Seq.{length-take-le}
use Rattle.octets.specs.Octets.{splice}
use Rattle.octets.proofs.Parts.{copied}
use Rattle.bus.proofs.Laws.{sealed_by}
use Rattle.bus.proofs.seal.Goals as goal

pub slice_bounds-copy-end : goal.slice_bounds-copy-end
slice_bounds-copy-end c = let s = c in sym (length-take-le 56 s.args.bytes.now (omega (arith, s.requires.0)))

pub copy-requires : goal.copy-requires
copy-requires c = let s = c in let e = length-take-le 56 s.args.bytes.now (omega (arith, s.requires.0)) in omega (arith, e)

pub returns : goal.returns
returns c =
    let s = c in
    let e = c.copy-2.ensures ∙ ap (splice s.args.frame.now 0) (c.copy.ensures ∙ copied 56 (replicate 56 0) s.args.bytes.now refl s.requires.0) in
    (λ i. set (e i) 56 (c.parity.ensures i)) ∙ sealed_by s.args.bytes.now s.args.frame.now s.requires.0 s.requires.1
