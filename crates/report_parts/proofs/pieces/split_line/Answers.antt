use Rattle.report_parts.proofs.LinesLaws.{lines_in-found, lines_in-none}
use Rattle.report_parts.proofs.pieces.split_line.Goals as goal

-- where a newline is found, the line ends there
pub returns-in-Some-clause-lines : goal.returns-in-Some-clause-lines
returns-in-Some-clause-lines c = lines_in-found c.args.text.now c.in-Some.end c.in-Some.ensures

-- where none is found, the whole text is the line
pub returns-in-None-clause-lines : goal.returns-in-None-clause-lines
returns-in-None-clause-lines c = lines_in-none c.args.text.now c.in-None.ensures c.requires
