use Rattle.std.proofs.Common.{◌+◌, ◌%◌, ◌^◌, false, get_or, ap, ◌∙◌}
use Rattle.arbiter.specs.Arbitration.{granted_by}
use Rattle.state.specs.Bytes.{with_turn}
use Rattle.answer.specs.declared.Answer.TheVariants.{Framed}
use Rattle.framing.proofs.turn_on.Goals as goal

pub returns : goal.returns
returns c =
    let b = c.args.s.now in
    let n = c.frame_at-number.ensures in
    let g = c.grant-grant.ensures ∙ ap granted_by c.renew_all-requests.ensures in
    let w = c.send_granted-heeded.ensures in
    let next = ap (λ k. (k + 1) % 2 ^ 16) n in record {
      each_after = (λ i.
          record {
            answer = Framed (n i) (get_or b 803 0) (g i).unit (w.each_after i).copies;
            rises = record { from = 0; to = get_or b 805 0; anew = false; each = (w.each_after i).each };
          });
      kept = (c.put_turn.ensures ∙ (λ i. with_turn (w.kept.0 i) (g i).arbiter (g i).unit (next i)), w.kept.1);
    }
