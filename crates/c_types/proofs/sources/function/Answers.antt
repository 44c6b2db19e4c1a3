use Rattle.std.proofs.Common.{ap, ◌∙◌, map}
use Rattle.c_tree.specs.TreeView.{param_view, stmt_view, stmts_of, head_view}
use Rattle.c_typing.specs.TypedForms.{number_type}
use Rattle.c_types.specs.StmtChecks.{typed_stmts_seen}
use Rattle.c_types.proofs.ScopeLaws.{all_open}
use Rattle.c_types.proofs.SourceLaws.{function_made}
use Rattle.c_types.proofs.sources.function.Goals as goal

pub leave-requires : goal.leave-requires
leave-requires c =
    all_open c.enter.new.names c.stmts.new.names (stmts_of (map stmt_view c.args.body.now)) c.in_ok-body.ensures.2
    c.in_ok-enter.ensures.within

pub returns : goal.returns
returns c =
    function_made c.args.functions.now c.args.names.now c.declare_head.new.names c.enter.new.names c.stmts.new.names
    c.leave.new.self (head_view c.args.head.now) (stmts_of (map stmt_view c.args.body.now)) c.args.made c.next-next.result
    c.next-cells.result c.in_ok-name.name c.in_ok-params.params c.outermost.result (typed_stmts_seen c.in_ok-body.body)
    c.in_ok-declare_head.ensures c.in_ok-defining.ensures c.in_ok-enter.ensures.moves c.outermost.ensures
    c.in_ok-body.ensures (c.in_ok-name.ensures ∙ c.bytes.ensures)
    (c.in_ok-params.ensures ∙ ap (λ ps. map number_type (map (λ p. p.base) (map param_view ps))) c.as_slice.ensures)
    c.next-cells.ensures c.next-next.ensures c.leave.ensures
