use Rattle.std.proofs.Common.{◌≤◌, length, sym, ap, ◌∙◌, subst, arith}
use Rattle.state.specs.Bytes.{shelf_in}
use Rattle.soundness.specs.Soundings.{sound_in}
use Rattle.soundness.proofs.Facts.{sound_iff}
use Rattle.answer.specs.declared.Outcome.{Outcome}
use Rattle.answer.specs.Done.{outcome_of}
use Rattle.answer.specs.Answers.{refused}
use Rattle.soundness.proofs.Laws.{sound_housed}
use Rattle.soundness.proofs.InPlace.{sound_in_lem}
use Rattle.framing.specs.Requests.{asked_by}
use Rattle.framing.specs.Frames.{done_at, store_at, buffer_at}
use Rattle.framing.specs.InPlace.{state_at, framed_by}
use Rattle.framing.proofs.Moves.{moved_count}
use Rattle.framing.proofs.Notes.{sound_asks}
use Rattle.framing.proofs.Sends.{housed_in, checked_unsound, checked_misfit, checked_good}
use Rattle.framing.proofs.InPlace.{in_unsound, in_misfit, in_good}
use Rattle.framing.proofs.frame.Goals as goal

pub returns-then-not-sound : goal.returns-then-not-sound
returns-then-not-sound c =
    let a = c.args in
    let b = a.s.now in
    let store = a.store.now in
    let buffer = a.buffer.now in
    let n = length buffer in
    let s = sym c.sound.ensures.value ∙ c.if-not-sound.true in
    let w = ap (framed_by c.refused.result) c.requires ∙ c.refused.ensures in record {
      each_after = (
        w ∙ in_unsound a.card b (length store) a.rows n outcome_of (refused (shelf_in b) 8) (refused (shelf_in b) 10) (done_at (shelf_in b) store) s,
        (
          checked_unsound (sound_in a.card b (length store) a.rows) n b b (state_at b store) s,
          (
            in_unsound a.card b (length store) a.rows n (λ x. x) store store (store_at (shelf_in b) store) s,
            in_unsound a.card b (length store) a.rows n (λ x. x) buffer buffer (buffer_at (shelf_in b) store buffer) s,
          ),
        ),
      );
      fits = subst (λ (x : Outcome). (x.rises.to ≤ 32) × (x.rises.to ≤ a.rows)) (sym w) (omega arith, omega arith);
    }

pub returns-then-buffer-ne57 : goal.returns-then-buffer-ne57
returns-then-buffer-ne57 c =
    let a = c.args in
    let b = a.s.now in
    let store = a.store.now in
    let buffer = a.buffer.now in
    let n = length buffer in
    let s = sym c.sound.ensures.value ∙ c.if-not-sound.false in
    let m = c.if-buffer-ne57.true in
    let w = ap (framed_by c.refused-then-buffer-ne57.result) c.requires ∙ c.refused-then-buffer-ne57.ensures in record {
      each_after = (
        w ∙ in_misfit a.card b (length store) a.rows n outcome_of (refused (shelf_in b) 8) (refused (shelf_in b) 10) (done_at (shelf_in b) store) s m,
        (
          checked_misfit (sound_in a.card b (length store) a.rows) n b b (state_at b store) s m,
          (
            in_misfit a.card b (length store) a.rows n (λ x. x) store store (store_at (shelf_in b) store) s m,
            in_misfit a.card b (length store) a.rows n (λ x. x) buffer buffer (buffer_at (shelf_in b) store buffer) s m,
          ),
        ),
      );
      fits = subst (λ (x : Outcome). (x.rises.to ≤ 32) × (x.rises.to ≤ a.rows)) (sym w) (omega arith, omega arith);
    }

pub frame_on-requires : goal.frame_on-requires
frame_on-requires c =
    let a = c.args in
    let b = a.s.now in
    let good = c.if-not-sound.false in
    let s = sym c.sound.ensures.value ∙ good in
    let w = sound_in_lem a.card b (length a.store.now) a.rows s in (
      c.if-buffer-ne57.false,
      housed_in b (length a.store.now) (λ i h. (sound_housed a.card (shelf_in b) (length a.store.now) a.rows w.1 i h).0),
      c.requires,
      ap asked_by (c.sound.ensures.noted good) ∙ sound_asks a.card b (length a.store.now) a.rows s,
    )

pub returns : goal.returns
returns c =
    let a = c.args in
    let b = a.s.now in
    let store = a.store.now in
    let buffer = a.buffer.now in
    let n = length buffer in
    let s = sym c.sound.ensures.value ∙ c.if-not-sound.false in
    let m = c.if-buffer-ne57.false in
    let w = c.frame_on.ensures in
    let same = moved_count (shelf_in b) in
    let g = (sound_iff a.card (shelf_in b) (length store) a.rows).0 (sound_in_lem a.card b (length store) a.rows s).1 in record {
      each_after = (
        w.each_after ∙ in_good a.card b (length store) a.rows n outcome_of (refused (shelf_in b) 8) (refused (shelf_in b) 10) (done_at (shelf_in b) store) s m,
        (
          w.kept.0 ∙ checked_good (sound_in a.card b (length store) a.rows) n b b (state_at b store) s m,
          (
            w.kept.1.0 ∙ in_good a.card b (length store) a.rows n (λ x. x) store store (store_at (shelf_in b) store) s m,
            w.kept.1.1 ∙ in_good a.card b (length store) a.rows n (λ x. x) buffer buffer (buffer_at (shelf_in b) store buffer) s m,
          ),
        ),
      );
      fits = subst (λ (x : Outcome). (x.rises.to ≤ 32) × (x.rises.to ≤ a.rows)) (sym w.each_after) (omega (arith, same, g.count), omega (arith, same, g.rows));
    }
