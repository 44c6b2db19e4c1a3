use Rattle.std.proofs.Common.{option_map, refl}
use Rattle.c_parser.proofs.Exits.{first_read}
use Rattle.c_tree.specs.TreeView.{other_of, stmt_view}
use Rattle.c_parser.proofs.for_heads.read_first.Goals as goal

pub returns-then-type_at : goal.returns-then-type_at
returns-then-type_at c =
    first_read c.args.text.now (λ s. other_of
    (option_map stmt_view s)) c.args.tokens.now c.args.room c.read_first_variables.result
    c.if-type_at.ensures refl (c.read_first_variables.ensures)

pub returns-then-next_is : goal.returns-then-next_is
returns-then-next_is c =
    first_read c.args.text.now (λ s. other_of
    (option_map stmt_view s)) c.args.tokens.now c.args.room c.read_no_first.result
    c.if-type_at.ensures c.if-next_is.ensures (c.read_no_first.ensures c.args.room)

pub returns-else-next_is : goal.returns-else-next_is
returns-else-next_is c =
    first_read c.args.text.now (λ s. other_of
    (option_map stmt_view s)) c.args.tokens.now c.args.room c.read_first_value.result
    c.if-type_at.ensures c.if-next_is.ensures (c.read_first_value.ensures)
