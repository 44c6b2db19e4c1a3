use Rattle.std.proofs.Common.{map, string_bytes}
use Rattle.clap.specs.Words.{app_of}
use Rattle.cov_words.specs.Syntax.{app_for}
use Rattle.cov_words.proofs.SyntaxLaws.{all_simple}
use Rattle.cov_words.proofs.ReadingLaws.{matched, refused_kind}
use Rattle.cov_words.proofs.reader.matches_of.Goals as goal

pub returns-in-Ok : goal.returns-in-Ok
returns-in-Ok c = matched (app_for c.args.name) (app_of c.in_ok-syntax_of.field-0) (map string_bytes c.args.words.now)
    c.in-Ok.matches c.in_ok-syntax_of.ensures (all_simple c.args.name) c.in-Ok.ensures.matches c.in-Ok.ensures.kinds

pub returns-in-Err : goal.returns-in-Err
returns-in-Err c = refused_kind (app_for c.args.name) (app_of c.in_ok-syntax_of.field-0) (map string_bytes c.args.words.now)
    c.in-Err.error c.kind.result c.refusal_of.result c.in_ok-syntax_of.ensures (all_simple c.args.name) c.kind.ensures
    c.refusal_of.ensures c.in-Err.ensures.kinds
