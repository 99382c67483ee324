use Rattle.std.proofs.Common.{get_or, sym, ap, ◌∙◌, arith}
use Rattle.shelf.specs.Shelves.{declared}
use Rattle.shelf.proofs.Finding.{find_at, declared_length}
use Rattle.state.specs.Bytes.{shelf_in}
use Rattle.state.proofs.Laws.{units_length}
use Rattle.framing.specs.Frames.{listened_by, store_by, buffer_by}
use Rattle.framing.specs.Scenes.{heeded_of}
use Rattle.framing.specs.InPlace.{state_by}
use Rattle.framing.proofs.send_granted.Goals as goal

pub send-requires : goal.send-requires
send-requires c =
    let s = c in
    let b = s.args.s.now in
    let e = sym c.find.ensures ∙ c.in-Some.is in
    let w = ((find_at (get_or b 803 0) (declared (shelf_in b)) _).0 e).inside in
    (s.requires.0, omega (arith, w, declared_length (shelf_in b) (units_length b 0 32)), s.requires.1)

pub returns-in-Some : goal.returns-in-Some
unfolding listened_by store_by buffer_by state_by
returns-in-Some c =
    let a = c.args in
    let b = a.s.now in
    let e = sym (sym c.find.ensures ∙ c.in-Some.is) in
    let w = c.send.ensures in record {
      each_after = w.each_after ∙ ap (λ x. heeded_of (listened_by x (shelf_in b) a.store.now a.each.now)) e;
      kept = (
        w.kept.0 ∙ ap (λ x. state_by x b a.store.now) e,
        (w.kept.1.0 ∙ ap (λ x. store_by x (shelf_in b) a.store.now) e, w.kept.1.1 ∙ ap (λ x. buffer_by x (shelf_in b) a.store.now a.buffer.now) e),
      );
    }

pub returns-in-None : goal.returns-in-None
unfolding listened_by store_by buffer_by state_by
returns-in-None c =
    let s = c in
    let a = s.args in
    let b = a.s.now in
    let e = sym (sym c.find.ensures ∙ c.in-None.is) in record {
      each_after = c.silence.ensures a.each.now ∙ ap (λ x. heeded_of (listened_by x (shelf_in b) a.store.now a.each.now)) e;
      kept = (
        ap (λ x. state_by x b a.store.now) e,
        (ap (λ x. store_by x (shelf_in b) a.store.now) e, ap (λ x. buffer_by x (shelf_in b) a.store.now a.buffer.now) e),
      );
    }
