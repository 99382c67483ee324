-- The fields of a cell header, which is the number that its four bytes say. Assumes nothing.
use Rattle.std.specs.Prelude.{ℕ, ◌+◌, ◌-◌, ◌*◌, ◌/◌, ◌%◌, ◌^◌}
use Rattle.header.specs.declared.Link.{Link}
use Rattle.header.specs.declared.Link.TheVariants.{Uni, Nni}
use Rattle.header.specs.declared.Header.{Header}

-- "On a UNI link the header is GFC 4 bits, VPI 8, VCI 16, PT 3, CLP 1. On an NNI link it is VPI 12, VCI 16, PT 3, CLP 1."
-- So many paths can a link name; what is left of the twelve bits above the VCI is the GFC, at an NNI no bit
abbrev pub paths_of : Link → ℕ
paths_of Uni = 2 ^ 8
paths_of Nni = 2 ^ 12

-- "Top VPI is at most 255 for uni, 4,095 for nni."
abbrev pub highest : Link → ℕ
highest link = paths_of link - 1

unfoldable pub fields : Link → ℕ → Header
fields link w =
    record {
      gfc = w / 2 ^ 20 / paths_of link % 16;
      vpi = w / 2 ^ 20 % paths_of link;
      vci = w / 2 ^ 4 % 2 ^ 16;
      pt = w / 2 % 2 ^ 3;
      clp = w % 2;
    }

-- the twelve bits above the VCI, and the header with these fields. A field too large for its bits keeps its low ones
unfoldable pub top_of : Link → ℕ → ℕ → ℕ
top_of link gfc vpi = (gfc * paths_of link + vpi % paths_of link) % 2 ^ 12

unfoldable pub word : Link → Header → ℕ
word link h = top_of link h.gfc h.vpi * 2 ^ 20 + h.vci * 2 ^ 4 + h.pt % 2 ^ 3 * 2 + h.clp % 2
