-- The words of `show unit`, byte by byte; a blank in a comment is a tab. Assumes nothing.
use Rattle.std.specs.Prelude.{ℕ, List, [], ◌∷◌, codes}

-- `show unit`
abbrev pub t_show_unit : List ℕ
t_show_unit = codes "show\tunit"

-- ` link`
abbrev pub t_link : List ℕ
t_link = codes "\tlink"

-- ` uni`
abbrev pub t_uni : List ℕ
t_uni = codes "\tuni"

-- ` nni`
abbrev pub t_nni : List ℕ
t_nni = codes "\tnni"

-- ` top`
abbrev pub t_top : List ℕ
t_top = codes "\ttop"

-- ` priority`
abbrev pub t_priority : List ℕ
t_priority = codes "\tpriority"

-- ` mode`
abbrev pub t_mode : List ℕ
t_mode = codes "\tmode"

-- ` one`
abbrev pub t_one : List ℕ
t_one = codes "\tone"

-- ` four`
abbrev pub t_four : List ℕ
t_four = codes "\tfour"

-- ` cbrlength`
abbrev pub t_cbrlength : List ℕ
t_cbrlength = codes "\tcbrlength"

-- ` cbrlimit`
abbrev pub t_cbrlimit : List ℕ
t_cbrlimit = codes "\tcbrlimit"

-- ` vbrlimit`
abbrev pub t_vbrlimit : List ℕ
t_vbrlimit = codes "\tvbrlimit"

-- ` mark`
abbrev pub t_mark : List ℕ
t_mark = codes "\tmark"

-- ` place`
abbrev pub t_place : List ℕ
t_place = codes "\tplace"

-- ` inlethead`
abbrev pub t_inlethead : List ℕ
t_inlethead = codes "\tinlethead"

-- ` inletcount`
abbrev pub t_inletcount : List ℕ
t_inletcount = codes "\tinletcount"

-- ` queueheads`
abbrev pub t_queueheads : List ℕ
t_queueheads = codes "\tqueueheads"

-- ` queuecounts`
abbrev pub t_queuecounts : List ℕ
t_queuecounts = codes "\tqueuecounts"

-- ` controlin`
abbrev pub t_controlin : List ℕ
t_controlin = codes "\tcontrolin"

-- ` loopbackin`
abbrev pub t_loopbackin : List ℕ
t_loopbackin = codes "\tloopbackin"

-- ` controlhead`
abbrev pub t_controlhead : List ℕ
t_controlhead = codes "\tcontrolhead"

-- ` controlcount`
abbrev pub t_controlcount : List ℕ
t_controlcount = codes "\tcontrolcount"

-- ` loopbackout`
abbrev pub t_loopbackout : List ℕ
t_loopbackout = codes "\tloopbackout"

-- ` sessions`
abbrev pub t_sessions : List ℕ
t_sessions = codes "\tsessions"

-- `show unit refused 9`
abbrev pub t_no_unit : List ℕ
t_no_unit = codes "show\tunit\trefused\t9"
