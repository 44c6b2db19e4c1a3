use Rattle.gcno_format.proofs.PutLaws.{record_put}
use Rattle.gcno_format.proofs.writing.put_record.Goals as goal

pub returns : goal.returns
returns c =
    record_put c.args.block c.args.lines.now c.args.out.now.items c.put_header.new.out.items c.put_word.new.out.items
    c.put_words.new.out.items c.in_ok-put_header.ensures c.in_ok-put_word.ensures c.in_ok-put_words.ensures
