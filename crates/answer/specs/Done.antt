-- What an event makes of a shelf: what it answers, the shelf afterwards, and the counters that rise. The code has the shelf in lent bytes and gives back the rest. Assumes nothing.
use Rattle.shelf.specs.Shelf.{Shelf}
use Rattle.answer.specs.declared.Answer as A
use Rattle.answer.specs.declared.Rises.{Rises}
use Rattle.answer.specs.declared.Outcome.{Outcome}

pub record Reply : Type 0 where
  pub answer : A.Answer
  pub shelf : Shelf

pub record Done : Type 0 where
  pub reply : Reply
  pub rises : Rises

-- all of it but the shelf
abbrev pub outcome_of : Done → Outcome
outcome_of done = record { answer = done.reply.answer; rises = done.rises }
