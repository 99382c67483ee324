use Rattle.std.proofs.Common.{◌≡◌, ◌/◌, ◌%◌, Bool, true, false, [], ◌∷◌, get_or, refl, ap, ◌∙◌, arith}
use mir.Val.{bool_byte}
use Rattle.state.specs.Placing.{mark_byte, head_of, count_of}
use Rattle.state.proofs.columns_of.Goals as goal

marked : (b : Bool) → bool_byte b ≡ mark_byte b
unfolding mark_byte
marked true = refl
marked false = refl

pub returns : goal.returns
returns c =
    let s = c.args.settings in
    let o = c.args.outlet in
    let place = c.args.place in
    let top0 : get_or c.to_be_bytes-top.result 0 0 ≡ s.top / 256 = rw c.to_be_bytes-top.ensures (omega arith) in
    let top1 = ap (λ l. get_or l 1 0) c.to_be_bytes-top.ensures in
    let place0 : get_or c.to_be_bytes-place.result 0 0 ≡ place / 65536 / 256 = rw c.to_be_bytes-place.ensures (omega arith) in
    let place1 : get_or c.to_be_bytes-place.result 1 0 ≡ place / 65536 % 256 = rw c.to_be_bytes-place.ensures (omega arith) in
    let place2 : get_or c.to_be_bytes-place.result 2 0 ≡ place % 65536 / 256 = rw c.to_be_bytes-place.ensures (omega arith) in
    let place3 : get_or c.to_be_bytes-place.result 3 0 ≡ place % 65536 % 256 = rw c.to_be_bytes-place.ensures (omega arith) in
    let mark = c.from.ensures ∙ marked o.limits.mark in
    λ t. s.number ∷ c.link_byte.ensures t ∷ top0 t ∷ top1 t ∷ s.priority ∷ c.mode_byte.ensures t ∷ o.limits.cbrlength
    ∷ o.limits.cbrlimit ∷ o.limits.vbrlimit ∷ mark t ∷ place0 t ∷ place1 t ∷ place2 t ∷ place3 t ∷ 0 ∷ 0
    ∷ head_of o 0 ∷ head_of o 1 ∷ head_of o 2 ∷ head_of o 3 ∷ count_of o 0 ∷ count_of o 1 ∷ count_of o 2 ∷ count_of o 3 ∷ []
