use Rattle.file_commands.proofs.Complete as laws
use Rattle.file_commands.proofs.laws.complete.Goals as goal

pub returns-clause-merge : goal.returns-clause-merge
returns-clause-merge c = laws.merge_succeeds

pub returns-clause-report : goal.returns-clause-report
returns-clause-report c = laws.report_succeeds
