use Rattle.gcno_format.proofs.PutLaws.{leaving_put}
use Rattle.gcno_format.proofs.arcs.put_leaving.Goals as goal

pub returns : goal.returns
returns c =
    leaving_put c.args.arcs.now c.first_block.result c.args.out.now.items c.put_header.new.out.items
    c.put_word.new.out.items c.put_ways.new.out.items c.in_ok-put_header.ensures c.in_ok-put_word.ensures
    c.first_block.ensures c.in_ok-put_ways.ensures
