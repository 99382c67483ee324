-- What is wrong with a line, tried as Order, Twice, Wide, Room. The judges take what stands where, as values. Assumes nothing.
use Rattle.std.specs.Prelude.{ℕ, ◌+◌, Bool, cond, leb, ltb, Option, Some, None, Err}
use Rattle.header.specs.declared.Link.{Link}
use Rattle.bus.specs.declared.Target.{Target}
use Rattle.card.specs.declared.Card.{Card}
use Rattle.card.specs.declared.Ask.TheVariants.{Bus as A-as-Bus, On, Out}
use Rattle.judge.specs.declared.Paged.{Paged}
use Rattle.judge.specs.declared.Fault.TheVariants.{Order, Twice}
use Rattle.judge.specs.Verdicts.{Verdict, fine, asked, room_for, off_bus, taken, page_in}
use Rattle.lookup.specs.declared.Record as R

-- "`bus` again"
unfoldable pub judge_bus : Card → Bool → ℕ → Verdict
judge_bus card first bus = cond first (asked card (A-as-Bus bus) fine) (Err (Order 1))

-- "unit .. not below the bus number"; "unit declared again"
unfoldable pub judge_unit : Card → ℕ → Bool → ℕ → ℕ → ℕ → Link → ℕ → Verdict
judge_unit card bus declared room used number link top =
    cond (leb bus number) (Err (Order 2)) (cond declared (Err (Twice 2)) (asked card (On link) (room_for room used (top + 1))))

-- "VPI above that unit's top"; "unit and VPI given again by `vp`, `drop` or `page`"
unfoldable pub judge_vp : Card → ℕ → ℕ → ℕ → Option R.Record → Target → ℕ → Verdict
judge_vp card bus top vpi got target outvpi =
    cond (ltb top vpi) (Err (Order 3)) (cond (off_bus bus target) (Err (Order 4)) (cond (taken got) (Err (Twice 3)) (asked card (Out outvpi) fine)))

unfoldable pub judge_drop : ℕ → ℕ → Option R.Record → Verdict
judge_drop top vpi got = cond (ltb top vpi) (Err (Order 3)) (cond (taken got) (Err (Twice 3)) fine)

unfoldable pub judge_page : ℕ → ℕ → ℕ → ℕ → Option R.Record → ℕ → Verdict
judge_page room used top vpi got topvci = cond (ltb top vpi) (Err (Order 3)) (cond (taken got) (Err (Twice 3)) (room_for room used (topvci + 1)))

-- "`vc` without its page before it or above its top VCI"; "same `vc`": got is the VPI's record, and got₂ the VCI's in its page
abbrev pub in_page : Option Paged → ℕ → Verdict → Verdict
in_page (Some page) vci rest = cond (ltb page.top vci) (Err (Order 4)) rest
in_page None vci rest = Err (Order 3)

unfoldable pub judge_vc : Card → ℕ → ℕ → ℕ → Option R.Record → ℕ → Option R.Record → Target → ℕ → Verdict
judge_vc card bus top vpi got vci got₂ target outvpi =
    cond (ltb top vpi) (Err (Order 3))
    (in_page (page_in got) vci (cond (off_bus bus target) (Err (Order 5)) (cond (taken got₂) (Err (Twice 4)) (asked card (Out outvpi) fine))))

-- "same `mc`"
unfoldable pub judge_mc : Bool → Verdict
judge_mc heard = cond heard (Err (Twice 3)) fine
