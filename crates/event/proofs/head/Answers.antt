use mathlib.Core.Path.{refl, ap, ◌∙◌}
use native.Mathlib.Omega.{arith}
use Rattle.octets.specs.Octets.{splice}
use Rattle.text.specs.Hex.{unhex as unhexed}
use Rattle.event.proofs.Heads.{room, hexes_hex, head_filled}
use Rattle.event.proofs.head.Goals as goal

pub unhex-requires : goal.unhex-requires
unhex-requires c =
    let p = c.requires in
    (hexes_hex 10 _ p.0, room 0 10 6 c.args.header.now p.0 (omega arith))

pub unhex-requires-2 : goal.unhex-requires-2
unhex-requires-2 c =
    let p = c.requires in
    let r = room 5 2 6 c.args.byte.now p.1 (omega arith) in
    (hexes_hex 2 _ p.1, omega arith)

pub returns : goal.returns
returns c =
    let s = c in
    c.unhex-2.ensures ∙ ap (λ x. splice x 5 (unhexed s.args.byte.now)) c.unhex.ensures ∙ head_filled _ _ _ refl s.requires.0 s.requires.1
