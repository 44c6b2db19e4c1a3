use Rattle.std.proofs.Common.{sym, ap, ◌∙◌, Err}
use Rattle.gcov_items.specs.Items.{ReaderValue, left}
use Rattle.gcov_records.specs.declared.fault.FileFault.TheVariants as fault
use Rattle.gcno_format.proofs.TextLaws.{no_byte}
use Rattle.gcno_format.proofs.heads.take_byte.Goals as goal

pub returns-in-Err : goal.returns-in-Err
returns-in-Err c =
    no_byte (left c.args.reader.now) c.args.reader.now.at c.in-Err.ensures.0
    ∙ ap (λ n. Err (fault.Short n)) (sym (c.place.ensures ∙ ap (λ (r : ReaderValue). r.at) c.in-Err.ensures.1))
