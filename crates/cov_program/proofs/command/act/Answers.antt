-- What each command does.
use Rattle.std.proofs.Common.{refl, inl}
use Rattle.cov_answers.proofs.WriteLaws.{no_cause}
use Rattle.cov_program.proofs.ReadLaws.{cover_reads_nothing, merge_reads_nothing, merge_writes_nothing, report_reads_nothing}
use Rattle.cov_program.proofs.command.act.Goals as goal

pub returns-in-Report-clause-acts : goal.returns-in-Report-clause-acts
returns-in-Report-clause-acts g c =
    let e = c.report.ensures in
    rw (c.in-Report.is) (record {
      answers = inl (rw (← c.deref-in-Report.ensures) e.writes, e.files);
      read_fault = no_cause _ _ (report_reads_nothing _ _ _ _ _ e.writes);
      write_fault = e.write_cause;
      folder_fault = e.folder_cause;
      output_wants = e.wants;
    })

pub returns-in-Merge-clause-acts : goal.returns-in-Merge-clause-acts
returns-in-Merge-clause-acts g c =
    let e = c.merge_files.ensures in
    rw (c.in-Merge.is) (record {
      answers = inl (rw (← c.deref-in-Merge.ensures, ← c.deref-in-Merge-2.ensures, ← c.deref-in-Merge-3.ensures) e.replaces, refl);
      read_fault = no_cause _ _ (merge_reads_nothing _ _ _ _ _ _ _ e.replaces);
      write_fault = no_cause _ _ (merge_writes_nothing _ _ _ _ _ _ _ e.replaces);
      folder_fault = e.cause;
      output_wants = no_cause _ _ (λ h. h);
    })

pub returns-in-Cover-clause-acts : goal.returns-in-Cover-clause-acts
returns-in-Cover-clause-acts g c =
    let e = c.cover.ensures in
    rw (c.in-Cover.is) (record {
      answers = inl (rw (← c.deref.ensures, ← c.deref-in-Cover-2.ensures.value) e.writes, e.files);
      read_fault = no_cause _ _ (cover_reads_nothing _ _ _ _ _ _ _ _ e.writes);
      write_fault = e.write_cause;
      folder_fault = e.folder_cause;
      output_wants = e.wants;
    })
