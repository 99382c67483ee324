-- What an arriving header meets. Assumes nothing.
use Rattle.std.specs.Prelude.{ℕ, ◌+◌, ◌*◌, Bool, cond, ◌&&◌, eqb, ltb, None, Option, Some}
use Rattle.header.specs.Fields.{fields, word}
use Rattle.header.specs.Check.{check}
use Rattle.header.specs.declared.Header as H
use Rattle.header.specs.declared.Link.{Link}
use Rattle.header.specs.declared.Link.TheVariants.{Nni}
use Rattle.lookup.specs.Record.{size}
use Rattle.lookup.specs.declared.Record as R
use Rattle.lookup.specs.declared.Record.TheVariants.{Empty, Drop, Route, Page}
use Rattle.lookup.specs.declared.Looked.{Looked}
use Rattle.lookup.specs.declared.Looked.TheVariants.{Ignored, Misrouted, Goes}

-- "Wrong header check: `hec`." is when this is false
unfoldable pub sound_header : ℕ → ℕ → Bool
sound_header header fifth = eqb (check header) fifth

-- "PT and CLP are kept." "a wide VPI above 4,095 is `misrouted`"; the narrow card's record cannot say one
unfoldable pub goes_by : ℕ → ℕ → ℕ → H.Header → Looked
goes_by routing vpi vci h =
    cond (ltb 4095 vpi) Misrouted (Goes routing (word Nni (record { gfc = 0; vpi = vpi; vci = vci; pt = h.pt; clp = h.clp })))

-- "page, the VCI's record, and `misrouted` where it is .. not a route"
unfoldable pub by_vci : Option R.Record → H.Header → Looked
by_vci (Some Empty) h = Misrouted
by_vci (Some Drop) h = Misrouted
by_vci (Some (Route routing vpi vci)) h = goes_by routing vpi vci h
by_vci (Some (Page top place)) h = Misrouted
by_vci None h = Misrouted

-- "kind 0, `misrouted`; drop, `ignored`; route, VCI kept; page, the VCI's record, and `misrouted` where it is above the top". What stands at
-- a place is a function, which card and memory make
unfoldable pub by_vpi : (ℕ → Option R.Record) → R.Record → H.Header → Looked
by_vpi stands Empty h = Misrouted
by_vpi stands Drop h = Ignored
by_vpi stands (Route routing vpi vci) h = goes_by routing vpi h.vci h
by_vpi stands (Page top place) h = cond (ltb top h.vci) Misrouted (by_vci (stands (place + size * h.vci)) h)

-- "A record not wholly inside the memory, an unknown kind .. is `misrouted`."
unfoldable pub by_got : (ℕ → Option R.Record) → Option R.Record → H.Header → Looked
by_got stands (Some r) h = by_vpi stands r h
by_got stands None h = Misrouted

-- "VPI 0 with VCI 0: `ignored`. Then the record for the VPI as that link reads it: above the top .., `misrouted`"
abbrev pub by_fields : (ℕ → Option R.Record) → ℕ → ℕ → H.Header → Looked
by_fields stands top place h =
    cond (eqb h.vpi 0 && eqb h.vci 0) Ignored
    (cond (ltb top h.vpi) Misrouted (by_got stands (stands (place + size * h.vpi)) h))

unfoldable pub translated : (ℕ → Option R.Record) → Link → ℕ → ℕ → ℕ → Looked
translated stands link top place header = by_fields stands top place (fields link header)
