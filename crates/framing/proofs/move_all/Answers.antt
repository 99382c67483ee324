use Rattle.std.proofs.Common.{◌≡◌, ◌-◌, ◌<◌, min, length, get_or, set, sym, refl, ◌∙◌, subst, arith, rules}
use Rattle.store.specs.Places.{Inside}
use Rattle.framing.specs.Moves.{move_from}
use Rattle.framing.proofs.Moves.{moves_step, moves_end}
use Rattle.framing.proofs.move_all.Invariants.{among}
use Rattle.framing.proofs.move_all.Goals as goal

pub loop-i-init : goal.loop-i-init
loop-i-init c =
    let s = c in
    let a = s.args in
    let e = c.declared_count-end.ensures in
    let n : min (get_or a.s.now 805 0) 32 ≡ c.declared_count-end.result - 0 = omega arith in (
      omega arith,
      omega arith,
      refl,
      (λ t. move_from 0 (n t) (among a.s.now a.store.now (sym s.requires.1 t))),
    )

pub move_one-requires : goal.move_one-requires
move_one-requires c =
    let l = c.loop-i in
    let e = c.declared_count-end.ensures in
    (omega arith, subst (λ n. Inside l.i n) (sym l.invariant.2) (c.requires.0 l.i (omega (arith, e))).inside)

pub loop-i-preserved : goal.loop-i-preserved
loop-i-preserved c =
    let l = c.loop-i in
    let w = c.move_one in
    let n = c.declared_count-end.result in
    let es = w.ensures.kept.0 in
    let et = w.ensures.kept.1 in
    let long : length w.new.store ≡ length l.store = search rules in
    let less : l.i < n = search rules in (
      omega arith,
      l.invariant.1,
      long ∙ l.invariant.2,
      l.invariant.3 ∙ moves_step l.i n _ _ less (λ t. among (sym es t) (sym et t) (set l.each l.i (sym w.ensures.value t))),
    )

pub shape_of-store : goal.shape_of-store
shape_of-store c = c.loop-i.invariant.2

pub returns : goal.returns
returns c =
    let l = c.loop-i in
    let e = sym (l.invariant.3 ∙ moves_end l.i _ (among l.s l.store l.each) (omega arith)) in
    (λ t. (e t).bytes, (λ t. (e t).store, λ t. (e t).each))
