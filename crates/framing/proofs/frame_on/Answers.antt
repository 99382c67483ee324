use Rattle.std.proofs.Common.{◌≡◌, length, sym, ap, ◌∙◌, subst, rules}
use Rattle.state.specs.Bytes.{shelf_in}
use Rattle.answer.specs.Done.{outcome_of}
use Rattle.framing.specs.Requests.{asking_now}
use Rattle.framing.specs.Frames.{turn_store, turn_buffer, turn_done}
use Rattle.framing.specs.Scenes.{AllHousedIn}
use Rattle.framing.specs.InPlace.{turn_state}
use Rattle.framing.proofs.Moves.{moves_decode, moves_each, moves_store, moves_housed}
use Rattle.framing.proofs.frame_on.Goals as goal

pub turn_on-requires : goal.turn_on-requires
turn_on-requires c =
    let s = c in
    let a = s.args in
    let b = a.s.now in
    let store = a.store.now in
    let w = c.settle-asks in
    let same : length w.new.store ≡ length store = search rules in (
      s.requires.0,
      subst (λ x. AllHousedIn x (length w.new.store)) (sym w.ensures.kept.0) (moves_housed b store s.told-s (length w.new.store) (subst (λ n. AllHousedIn b n) (sym same) s.requires.1)),
      w.ensures.value ∙ ap (λ x. asking_now (shelf_in x)) (sym w.ensures.kept.0),
    )

pub returns : goal.returns
returns c =
    let s = c in
    let a = s.args in
    let b = a.s.now in
    let store = a.store.now in
    let w = c.settle-asks in
    let r = c.turn_on.ensures in
    let shelf = ap shelf_in w.ensures.kept.0 ∙ moves_decode b store s.told-s in
    let stored = w.ensures.kept.1.0 ∙ moves_store b store s.told-s in
    let each = w.ensures.kept.1.1 ∙ moves_each b store s.told-s in record {
      each_after = r.each_after ∙ (λ t. outcome_of (turn_done (shelf t) (stored t) (each t)));
      kept = (
        r.kept.0 ∙ (λ t. turn_state (w.ensures.kept.0 t) (w.ensures.kept.1.0 t)),
        (r.kept.1.0 ∙ (λ t. turn_store (shelf t) (stored t)), r.kept.1.1 ∙ (λ t. turn_buffer (shelf t) (stored t) a.buffer.now)),
      );
    }
