use Rattle.gcno_format.proofs.PutLaws.{head_put}
use Rattle.gcno_format.proofs.writing.put_head.Goals as goal

pub returns : goal.returns
returns c =
    head_put c.args.number c.args.checksum c.args.line c.args.name.now c.args.out.now.items c.put_header.new.out.items
    c.put_word.new.out.items c.put_word-2.new.out.items c.put_string.new.out.items c.put_word-3.new.out.items
    c.in_ok-put_header.ensures c.in_ok-put_word.ensures c.in_ok-put_word-2.ensures c.in_ok-put_string.ensures
    c.in_ok-put_word-3.ensures
