-- What was written of the words, or of them and the digits.
use Rattle.std.proofs.lemmas.Result.{err_from_is_err_and}
use Rattle.cov_answers.specs.Answers.{digits_of}
use Rattle.cov_answers.proofs.WriteLaws.{cut_first, both}
use Rattle.cov_answers.proofs.complaints.write_part.Goals as goal

pub returns-in_err-write_all-clause-part : goal.returns-in_err-write_all-clause-part
returns-in_err-write_all-clause-part g c =
    let p = err_from_is_err_and c.from_residual.result c.from_residual.ensures.1 in
    rw (p.1, p.2) (cut_first _ _ _ c.args.words.now (digits_of c.args.number) c.in_err-write_all.ensures.writes)

pub returns-clause-part : goal.returns-clause-part
returns-clause-part g c =
    both _ _ _ _ _ c.args.words.now (digits_of c.args.number) c.in_ok-write_all.ensures.writes c.write_digits.ensures.digits
