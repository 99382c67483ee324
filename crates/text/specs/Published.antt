-- FNV's published sums, computed: of nothing, of `a`, of `foobar`. Assumes nothing.
use Rattle.std.specs.Prelude.{◌≡◌, refl, [], ◌∷◌}
use Rattle.text.specs.Fnv.{step, sum_from, sum}

nothing : sum [] ≡ 0x811C9DC5
unfolding sum_from
nothing = refl

a : sum (97 ∷ []) ≡ 0xE40C292C
unfolding sum_from step
a = refl

foobar : sum (102 ∷ 111 ∷ 111 ∷ 98 ∷ 97 ∷ 114 ∷ []) ≡ 0xBF9CF968
unfolding sum_from step
foobar = refl
