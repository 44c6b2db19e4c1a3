-- The status is that of the answer of the top call, or of the answer that says why there are no words.
use Rattle.std.proofs.Common.{refl}
use Rattle.cov_answers.proofs.WriteLaws.{told_of}
use Rattle.cov.proofs.finish.Goals as goal

pub returns-in-Ok : goal.returns-in-Ok
returns-in-Ok g c =
    rw (c.in-Ok.is, ← c.deref.ensures.value)
    (c.perform-end.result, c.status_of.ensures, c.perform-end.ensures.performs, c.perform-end.ensures.stands)

pub returns-in-Err : goal.returns-in-Err
returns-in-Err g c =
    rw c.in-Err.is (
      c.status_of-in-Err.ensures,
      record {
        line = told_of _ _ _ _ _ _ c.tell.ensures.cause.risen c.tell.ensures.want.risen c.tell.ensures.line;
        input_stands = refl;
        output_stands = refl;
        folder_stands = refl;
      },
    )
