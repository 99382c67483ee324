-- What a `unit` line says of its unit. Assumes nothing.
use Rattle.std.specs.Prelude.{ℕ, ◌-◌, cond, List, eqb, Result, Ok, Err}
use Rattle.header.specs.Fields.{highest}
use Rattle.header.specs.declared.Link.{Link}
use Rattle.header.specs.declared.Link.TheVariants.{Uni, Nni}
use Rattle.outlet.specs.declared.Mode.{Mode}
use Rattle.outlet.specs.declared.Mode.TheVariants.{One, Four}
use Rattle.line.specs.declared.Wrong.{Wrong}
use Rattle.line.specs.declared.Wrong.TheVariants.{Range}
use Rattle.text.specs.Text.{field_of, same}
use Rattle.line.specs.Words.{w_uni, w_nni, w_one, w_four}
use Rattle.line.specs.Ranged.{◌>>=◌, number_in}
use Rattle.outlet.specs.declared.Limits.{Limits}
use Rattle.shelf.specs.declared.Settings.{Settings}

-- "`unit` number, `uni` or `nni`, top VPI, priority 1 to 3, mode, CBR length, CBR limit, VBR limit, mark 0 or 1."
-- "Top VPI is at most 255 for uni, 4,095 for nni."
-- its settings after the link
unfoldable pub settings_on : List (List ℕ) → ℕ → Link → Result Settings Wrong
settings_on fs number link = do
  top ← number_in fs 4 0 (highest link)
  priority ← number_in fs 5 1 3
  Ok (record { number = number; link = link; top = top; priority = priority })

-- its settings
unfoldable pub settings_of : List (List ℕ) → Result Settings Wrong
settings_of fs = do
  number ← number_in fs 2 0 31
  cond (same (field_of 3 fs) w_uni) (settings_on fs number Uni) (cond (same (field_of 3 fs) w_nni) (settings_on fs number Nni) (Err (Range 3)))

-- "Mode `one`: CBR length and limit 0, VBR limit 1 to 123. Mode `four`: CBR length 1 to 88, CBR limit 1 to that length, VBR limit 1 to
-- 89 less that length."
abbrev pub least : Mode → ℕ
least One = 0
least Four = 1

abbrev pub most_length : Mode → ℕ
most_length One = 0
most_length Four = 88

abbrev pub most_limit : Mode → ℕ → ℕ
most_limit One cbrlength = 0
most_limit Four cbrlength = cbrlength

abbrev pub most_vbr : Mode → ℕ → ℕ
most_vbr One cbrlength = 123
most_vbr Four cbrlength = 89 - cbrlength

-- its limits after the CBR limit, and after the mode
abbrev pub limits_after : List (List ℕ) → Mode → ℕ → ℕ → Result Limits Wrong
limits_after fs mode cbrlength cbrlimit = do
  vbrlimit ← number_in fs 9 1 (most_vbr mode cbrlength)
  mark ← number_in fs 10 0 1
  Ok (record { mode = mode; cbrlength = cbrlength; cbrlimit = cbrlimit; vbrlimit = vbrlimit; mark = eqb mark 1 })

unfoldable pub limits_in : List (List ℕ) → Mode → Result Limits Wrong
limits_in fs mode = do
  cbrlength ← number_in fs 7 (least mode) (most_length mode)
  cbrlimit ← number_in fs 8 (least mode) (most_limit mode cbrlength)
  limits_after fs mode cbrlength cbrlimit

-- its limits: the mode is `one` or `four`
unfoldable pub limits_of : List (List ℕ) → Result Limits Wrong
limits_of fs =
    cond (same (field_of 6 fs) w_one) (limits_in fs One)
    (cond (same (field_of 6 fs) w_four) (limits_in fs Four) (Err (Range 6)))
