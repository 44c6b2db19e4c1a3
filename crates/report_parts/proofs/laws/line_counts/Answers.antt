use Rattle.report_parts.proofs.PassageLaws.{lines_are_passages}
use Rattle.report_parts.proofs.laws.line_counts.Goals as goal

pub returns : goal.returns
returns c = lines_are_passages
