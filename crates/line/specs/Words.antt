-- The words of a table. Assumes nothing.
use Rattle.std.specs.Prelude.{ℕ, List, codes}

abbrev pub w_bus : List ℕ
w_bus = codes "bus"

abbrev pub w_unit : List ℕ
w_unit = codes "unit"

abbrev pub w_vp : List ℕ
w_vp = codes "vp"

abbrev pub w_drop : List ℕ
w_drop = codes "drop"

abbrev pub w_page : List ℕ
w_page = codes "page"

abbrev pub w_vc : List ℕ
w_vc = codes "vc"

abbrev pub w_mc : List ℕ
w_mc = codes "mc"

abbrev pub w_uni : List ℕ
w_uni = codes "uni"

abbrev pub w_nni : List ℕ
w_nni = codes "nni"

abbrev pub w_one : List ℕ
w_one = codes "one"

abbrev pub w_four : List ℕ
w_four = codes "four"

abbrev pub w_b : List ℕ
w_b = codes "b"
