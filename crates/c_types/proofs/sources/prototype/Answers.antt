use Rattle.c_tree.specs.TreeView.{head_view}
use Rattle.c_types.proofs.SourceLaws.{prototype_made}
use Rattle.c_types.proofs.sources.prototype.Goals as goal

pub leave-requires : goal.leave-requires
leave-requires c = c.in_ok-enter.ensures.within

pub returns : goal.returns
returns c =
    prototype_made c.args.functions.now c.args.names.now c.declare_head.new.names c.enter.new.names c.leave.new.self
    (head_view c.args.head.now) c.next-next.result c.in_ok-declare_head.ensures c.in_ok-agreeing.ensures
    c.in_ok-enter.ensures.moves c.next-next.ensures c.leave.ensures
