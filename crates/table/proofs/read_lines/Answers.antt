use mathlib.Core.Path.{◌≡◌, refl, sym, ap, subst, subst₂, ◌∙◌}
use mathlib.Core.List.{[]}
use Prim.Native.Nat.{◌+◌}
use lib.ListN.{length}
use borrow.Author.Tests.{eq-eqb}
use Rattle.text.specs.Text.{fields_of}
use Rattle.text.proofs.Split.{field_is}
use Rattle.lookup.specs.Record.{usable}
use Rattle.state.specs.Bytes.{shelf_in}
use Rattle.judge.specs.Verdicts.{fine, is_fine}
use Rattle.meaning.specs.Told.{total, memory_of}
use Rattle.meaning.specs.Enact.{Places}
use Rattle.meaning.proofs.Memory.{memory_none}
use Rattle.table.specs.Load.{progress_by, memory_after, verdict_in, progress_of, told_in, ran_of}
use Rattle.table.specs.InPlace.{state_after, state_of}
use Rattle.table.proofs.Turns.{Between, at_start, at_end, used_most, lines_most, step_places, stop_progress, stop_memory, stop_state, on}
use native.Mathlib.Omega.{arith}
use Rattle.table.proofs.Leaves.{failed, passed}
use Rattle.table.proofs.read_lines.Goals as goal

pub returns-then-text-eq0 : goal.returns-then-text-eq0
unfolding ran_of total state_of
returns-then-text-eq0 c =
    let a = c.args in
    let z = eq-eqb (length a.text.now) 0 c.if-text-eq0.true in
    let p = c.requires in
    record { value = rw z; memory_after = p.1 ∙ sym (memory_none a.card a.memory.now) ∙ rw z; s_after = p.2 ∙ rw z }

pub loop-from-init : goal.loop-from-init
loop-from-init c =
    let a = c.args in
    let p = c.requires in
    ([], subst₂ (λ q s. Between a.card a.memory.now a.text.now [] 0 q a.memory.now s) (sym c.begin-p.ensures) (sym p.2) (at_start a.card a.memory.now a.text.now p.1 c.if-text-eq0.false), refl)

pub line_at-stretch-requires : goal.line_at-stretch-requires
line_at-stretch-requires c = c.loop-from.invariant.1.inside

pub slice_bounds-read-start : goal.slice_bounds-read-start
slice_bounds-read-start c = omega (arith, c.line_at-stretch.ensures.0)

pub slice_bounds-read-end : goal.slice_bounds-read-end
slice_bounds-read-end c = omega (arith, c.line_at-stretch.ensures.1)

pub read-reading-requires : goal.read-reading-requires
read-reading-requires c =
    let t = c.args.text.now in
    let e = c.line_at-stretch in
    e.ensures.2 ∙ ap (λ l. length (fields_of l)) (sym (field_is 10 t c.loop-from.from e.result.end e.ensures.0))

pub step-p-requires : goal.step-p-requires
step-p-requires c =
    let a = c.args in
    let l = c.loop-from in
    let told = l.invariant.0 in
    let b = l.invariant.1 in
    let e = c.line_at-stretch.result.end in
    let q = c.line_at-stretch.ensures.0 in
    let h = c.loop-from-test.true in
    let r = c.read-reading.result in
    let k = c.read-reading.ensures in
    let room = c.usable-room.ensures in
    let m = a.memory.now in
    let t = a.text.now in
    let w = shelf_in l.s in record { bounded = (used_most a.card m t told l.from l.p l.memory l.s b, lines_most a.card m t told l.from l.p l.memory l.s b c.requires.0); places = subst (λ n. verdict_in a.card n l.memory w l.p r ≡ fine → Places w r) (sym room) (step_places a.card m t told l.from l.p l.memory l.s b e q h r k) }

pub shape_of-memory-then-is_err : goal.shape_of-memory-then-is_err
shape_of-memory-then-is_err c = c.step-p.auto.memory ∙ c.loop-from.invariant.2

pub returns-then-is_err : goal.returns-then-is_err
unfolding progress_by
returns-then-is_err c =
    let a = c.args in
    let l = c.loop-from in
    let told = l.invariant.0 in
    let b = l.invariant.1 in
    let e = c.line_at-stretch.result.end in
    let q = c.line_at-stretch.ensures.0 in
    let h = c.loop-from-test.true in
    let r = c.read-reading.result in
    let k = c.read-reading.ensures in
    let room = c.usable-room.ensures in
    let m = a.memory.now in
    let t = a.text.now in
    let w = shelf_in l.s in
    let s = c.step-p in
    let s₁ = subst (λ n. s.result ≡ progress_by (verdict_in a.card n l.memory w l.p r) l.p r) room s.ensures.value in
    let s₂ = subst (λ n. s.new.memory ≡ memory_after a.card l.memory w (verdict_in a.card n l.memory w l.p r) l.p r) room s.ensures.memory_after in
    let s₃ = subst (λ n. s.new.s ≡ state_after l.s (verdict_in a.card n l.memory w l.p r) l.p r) room s.ensures.s_after in
    let f = sym (ap is_fine (ap (λ p. p.verdict) s₁)) ∙ failed _ (sym c.is_err.ensures.value ∙ c.if-is_err.true) in record { value = s₁ ∙ stop_progress a.card m t told l.from l.p l.memory l.s b e q h r k f; memory_after = s₂ ∙ stop_memory a.card m t told l.from l.p l.memory l.s b e q h r k f; s_after = s₃ ∙ stop_state a.card m t told l.from l.p l.memory l.s b e q h r k f }

pub overflow_add-from : goal.overflow_add-from
overflow_add-from c = omega (arith, c.line_at-stretch.ensures.1)

pub loop-from-smaller : goal.loop-from-smaller
loop-from-smaller c = omega (arith, c.line_at-stretch.ensures.0)

pub loop-from-preserved : goal.loop-from-preserved
unfolding progress_by
loop-from-preserved c =
    let a = c.args in
    let l = c.loop-from in
    let told = l.invariant.0 in
    let b = l.invariant.1 in
    let e = c.line_at-stretch.result.end in
    let q = c.line_at-stretch.ensures.0 in
    let h = c.loop-from-test.true in
    let r = c.read-reading.result in
    let k = c.read-reading.ensures in
    let room = c.usable-room.ensures in
    let m = a.memory.now in
    let t = a.text.now in
    let w = shelf_in l.s in
    let s = c.step-p in
    let s₁ = subst (λ n. s.result ≡ progress_by (verdict_in a.card n l.memory w l.p r) l.p r) room s.ensures.value in
    let s₂ = subst (λ n. s.new.memory ≡ memory_after a.card l.memory w (verdict_in a.card n l.memory w l.p r) l.p r) room s.ensures.memory_after in
    let s₃ = subst (λ n. s.new.s ≡ state_after l.s (verdict_in a.card n l.memory w l.p r) l.p r) room s.ensures.s_after in
    let f = sym (ap is_fine (ap (λ p. p.verdict) s₁)) ∙ passed _ (sym c.is_err.ensures.value ∙ c.if-is_err.false) in
    let o = on a.card m t told l.from l.p l.memory l.s b e q h r k f in (
      o.0,
      subst (λ x. Between a.card m t o.0 (e + 1) s.result s.new.memory x) (sym s₃) (subst₂ (λ p y. Between a.card m t o.0 (e + 1) p y (state_after l.s (verdict_in a.card (usable m) l.memory w l.p r) l.p r)) (sym s₁) (sym s₂) o.1),
      s.auto.memory ∙ l.invariant.2,
    )

pub shape_of-memory : goal.shape_of-memory
shape_of-memory c = c.loop-from.invariant.2

pub returns : goal.returns
returns c =
    let a = c.args in
    let l = c.loop-from in
    let told = l.invariant.0 in
    let b = l.invariant.1 in
    let d = at_end a.card a.memory.now a.text.now told l.from l.p l.memory l.s b c.loop-from-test.false in
    record { value = b.come ∙ ap progress_of (sym d); memory_after = b.holding ∙ ap (λ x. memory_of a.card a.memory.now (told_in x)) (sym d); s_after = b.standing ∙ ap (λ x. state_of (told_in x)) (sym d) }
