use Rattle.std.proofs.Common.{map, string_bytes}
use Rattle.cov_words.proofs.ReadingLaws.{answered, refused_by}
use Rattle.cov_words.proofs.reader.read_as.Goals as goal

pub returns-in-Ok : goal.returns-in-Ok
returns-in-Ok c = answered c.args.name (map string_bytes c.args.words.now) c.in-Ok.matches c.command_of.result
    c.in-Ok.ensures c.command_of.ensures

pub returns-in-Err : goal.returns-in-Err
returns-in-Err c = refused_by c.args.name (map string_bytes c.args.words.now) c.in-Err.refusal c.in-Err.ensures
