-- What was done is the answer's; what was written of its line is a front of it, and all of it but for a fault or a want of memory.
use Rattle.cov_answers.proofs.WriteLaws.{told_of}
use Rattle.cov_program.proofs.MeantLaws.{meant, complete}
use Rattle.cov_program.proofs.command.perform.Goals as goal

pub returns-clause-performs : goal.returns-clause-performs
returns-clause-performs g c = record {
  acts = c.answer-end.ensures.acts;
  meant = meant _ _ _ _ c.answer-end.ensures.acts.answers;
  complete = complete _ _ _ _ c.answer-end.ensures.acts.answers;
  line = told_of _ _ _ _ _ _ c.tell.ensures.cause.risen c.tell.ensures.want.risen c.tell.ensures.line;
  error_faults = record { later = c.tell.ensures.cause.later; stays = c.tell.ensures.cause.stays; risen = λ h. absurd h };
  error_wants = record { later = c.tell.ensures.want.later; stays = c.tell.ensures.want.stays; risen = λ h. absurd h };
}

pub returns-clause-stands : goal.returns-clause-stands
returns-clause-stands g c = record { leaves = c.answer-end.ensures.leaves; silent = c.tell.ensures.silent }
