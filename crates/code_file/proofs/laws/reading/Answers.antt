use Rattle.code_file.proofs.Outcomes.{bytes_from}
use Rattle.code_file.proofs.FileLaws.{file_spelled, file_laid, front_short, none_front, short_end, more_extra, extra_more}
use Rattle.code_file.proofs.AgainFile.{file_again}
use Rattle.code_file.proofs.laws.reading.Goals as goal

pub returns : goal.returns
returns c = record {
  spelled = λ bytes are code h. file_spelled bytes (bytes_from bytes are) code h;
  laid = file_laid;
  short = front_short;
  none = none_front;
  ends = short_end;
  extra = more_extra;
  more = extra_more;
  whole = file_again;
}
