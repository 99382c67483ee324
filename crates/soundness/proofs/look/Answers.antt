use Rattle.std.proofs.Common.{◌≡◌, true, not, length, get_or, sym, refl, ap, ◌∙◌, arith}
use lib.ListN.{get_or-eq_default}
use Rattle.soundness.specs.State.{roomy}
use Rattle.soundness.specs.Lanes.{lane_good, lanes}
use Rattle.soundness.specs.Numbered.{none, note_in, held_in, numbers_good, numbers_held}
use Rattle.soundness.proofs.Sounding.{small, few, some_bus, unfit, places, by_length, all_noted, begins, unheld, all_held}
use Rattle.soundness.proofs.look.Goals as goal
use Rattle.soundness.proofs.look.Goals.{After-numbers_good}

pub returns-then-not-roomy : goal.returns-then-not-roomy
returns-then-not-roomy c =
    let a = c.args in
    record { value = small a.card a.s.now a.store a.rows a.unit (sym c.roomy.ensures ∙ c.if-not-roomy.true); noted = λ some. absurd (some refl) }

pub note_all-requires : goal.note_all-requires
note_all-requires c =
    let p = c in
    let a = p.args in
    (few a.card a.s.now a.store a.rows (sym c.roomy.ensures ∙ c.if-not-roomy.false), p.requires)

pub units_good-requires : goal.units_good-requires
units_good-requires c =
    let p = c in
    let a = p.args in
    some_bus a.card a.s.now a.store a.rows (sym c.roomy.ensures ∙ c.if-not-roomy.false)

pub returns-then-not-units_good : goal.returns-then-not-units_good
returns-then-not-units_good c =
    let a = c.args in
    let t = sym c.roomy.ensures ∙ c.if-not-roomy.false in
    record { value = unfit a.card a.s.now a.store a.rows t a.unit (sym c.units_good.ensures ∙ c.if-not-units_good.true); noted = λ some. absurd (some refl) }

roomed : (d : After-numbers_good) → let a = d.args in roomy (get_or a.s.now 804 0) (get_or a.s.now 805 0) a.store a.rows ≡ true
roomed d = sym d.roomy.ensures ∙ d.if-not-roomy.false

fit : (d : After-numbers_good) → let a = d.args in lanes (lane_good a.card (get_or a.s.now 804 0) a.s.now) (get_or a.s.now 805 0) 0 32 ≡ true
fit d = sym d.units_good.ensures ∙ d.if-not-units_good.false

noted : (d : After-numbers_good) → d.note_all.new.held ≡ held_in d.args.s.now
noted d = let a = d.args in d.note_all.ensures ∙ all_noted a.s.now (places a.card a.s.now a.store a.rows (roomed d) (fit d))

told : (d : After-numbers_good) → d.numbers_good.result ≡ numbers_held d.args.s.now
told d = d.numbers_good.ensures ∙ ap (numbers_good d.args.s.now) (noted d)

pub returns-then-not-numbers_good : goal.returns-then-not-numbers_good
returns-then-not-numbers_good c =
    let d = (goal.at.returns-then-not-numbers_good c).After-numbers_good in
    let a = d.args in
    record { value = unheld _ _ _ (told d) (ap not c.if-not-numbers_good.true) ∙ sym (begins a.card a.s.now a.store a.rows (roomed d) (fit d) a.unit); noted = λ some. absurd (some refl) }

pub returns-then-unit-lt32 : goal.returns-then-unit-lt32
returns-then-unit-lt32 c =
    let d = (goal.at.returns-then-unit-lt32 c).After-numbers_good in
    let a = d.args in record {
      value = all_held _ _ _ _ (told d) (ap not c.if-not-numbers_good.false) (λ t. get_or (noted d t) a.unit 0)
          ∙ sym (begins a.card a.s.now a.store a.rows (roomed d) (fit d) a.unit);
      noted = λ some. noted d;
    }

pub returns-else-unit-lt32 : goal.returns-else-unit-lt32
returns-else-unit-lt32 c =
    let d = (goal.at.returns-else-unit-lt32 c).After-numbers_good in
    let a = d.args in
    let b = a.s.now in
    let held = d.note_all.new.held in
    let e : length held ≡ 32 = ap length d.note_all.ensures ∙ by_length b (note_in (get_or b 803 0) b) none 0 (get_or b 805 0) in record {
      value = all_held _ _ _ _ (told d) (ap not c.if-not-numbers_good.false) (sym (get_or-eq_default held 0 {n = a.unit} (omega arith)) ∙ (λ t. get_or (noted d t) a.unit 0))
          ∙ sym (begins a.card b a.store a.rows (roomed d) (fit d) a.unit);
      noted = λ some. noted d;
    }
