-- The line of an answer is its pieces in turn; a silent one has none.
use Rattle.std.proofs.Common.{sym, ◌∙◌}
use Rattle.cov_answers.proofs.WriteLaws.{line_loud, line_silent, nothing_written}
use Rattle.cov_answers.proofs.complaints.tell.Goals as goal

pub returns-then-is_silent-clause-line : goal.returns-then-is_silent-clause-line
returns-then-is_silent-clause-line g c =
    rw (line_silent c.args.end.now (sym c.is_silent.ensures ∙ c.if-is_silent.true)) (nothing_written _ _)

pub returns-clause-line : goal.returns-clause-line
returns-clause-line g c =
    rw (line_loud c.args.end.now (sym c.is_silent.ensures ∙ c.if-is_silent.false))
    (rw (
      c.words_of.ensures,
      c.name_of.ensures,
      c.link_of.ensures,
      c.number_of.ensures,
      c.second_link_of.ensures,
      c.second_number_of.ensures,
    ) at c.write_line.ensures.line)
