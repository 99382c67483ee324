-- `answer::Counters::raised` meets its contract. Assumes nothing.
use Rattle.answer.specs.Counting.{raised}
use Rattle.answer.proofs.Counters.raised.Goals as goal

pub returns : goal.returns
unfolding raised
returns c =
    λ i. record {
      arrived = c.tick.ensures i;
      hec = c.tick-2.ensures i;
      ignored = c.tick-3.ensures i;
      misrouted = c.tick-4.ensures i;
      inletfull = c.tick-5.ensures i;
      sent = c.tick-6.ensures i;
      unheard = c.tick-7.ensures i;
      damaged = c.tick-8.ensures i;
      queued = c.tick-9.ensures i;
      full = c.tick-10.ensures i;
      clp = c.tick-11.ensures i;
      wide = c.tick-12.ensures i;
      taken = c.tick-13.ensures i;
    }
