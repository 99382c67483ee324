-- The parts that a message of the planner's tool is made of. Assumes nothing.
use Rattle.std.specs.Prelude.{ℕ, List, codes}

abbrev pub w_narrow : List ℕ
w_narrow = codes "narrow"

abbrev pub w_wide : List ℕ
w_wide = codes "wide"

abbrev pub t_ok : List ℕ
t_ok = codes " ok, "

abbrev pub t_bytes : List ℕ
t_bytes = codes " bytes of memory, "

abbrev pub t_unit : List ℕ
t_unit = codes " unit"

abbrev pub t_units : List ℕ
t_units = codes " units"

abbrev pub t_colon : List ℕ
t_colon = codes ": "

abbrev pub t_refused : List ℕ
t_refused = codes " refused "

abbrev pub t_cut : List ℕ
t_cut = codes " .."

abbrev pub t_path : List ℕ
t_path = codes "outgoing path "

abbrev pub t_above : List ℕ
t_above = codes " is above 255"

abbrev pub t_bus : List ℕ
t_bus = codes "a bus of 32 units needs the wide card"

abbrev pub t_nni : List ℕ
t_nni = codes "an nni link needs the wide card"

abbrev pub t_long : List ℕ
t_long = codes "the text is above 65,536 bytes"

abbrev pub t_empty : List ℕ
t_empty = codes "the text is empty"

abbrev pub t_form : List ℕ
t_form = codes "unknown word, wrong field count, field outside its range, or no newline at its end"

abbrev pub t_blanks : List ℕ
t_blanks = codes "fields are parted by one tab, and this line has blanks"

abbrev pub t_return : List ℕ
t_return = codes "the line ends in a carriage return"

abbrev pub t_both : List ℕ
t_both = codes "fields are parted by one tab, and this line has blanks and ends in a carriage return"

abbrev pub t_order : List ℕ
t_order = codes "bus not first or again, unit off the bus or not declared, VPI or VCI above its top, or vc without page"

abbrev pub t_twice : List ℕ
t_twice = codes "this unit, path, channel or session is given twice"

abbrev pub t_asks : List ℕ
t_asks = codes "bus 32, nni or an outgoing path above 255"

abbrev pub t_room : List ℕ
t_room = codes "with this line the records exceed 262,144 bytes"

abbrev pub t_store : List ℕ
t_store = codes "cell store or counter rows too small"
