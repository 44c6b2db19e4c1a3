-- Where memory ran out behind a read, some bytes were taken.
use Rattle.std.proofs.lemmas.Result.{err_from_is_err_and}
use Rattle.cov_outside.proofs.ReadSoFar.{ReadSoFar-more, ReadAll-wanting}
use Rattle.cov_outside.proofs.reading.read_all.Goals as goal

pub returns-in_err-extend_from_slice-clause-reads : goal.returns-in_err-extend_from_slice-clause-reads
returns-in_err-extend_from_slice-clause-reads g c =
    let p = err_from_is_err_and c.from_residual-in_err-extend_from_slice.result c.from_residual-in_err-extend_from_slice.ensures.1 in
    rw (p.1, p.2) (ReadAll-wanting _ _ _ c.args.limit
    (ReadSoFar-more _ _ _ _ _ _ _ c.loop-piece.invariant.0 c.in_ok-count.ensures.reads))
