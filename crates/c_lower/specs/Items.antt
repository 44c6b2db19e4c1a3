-- The code of a function as one list of items in the order of the text: a block begins, an operation is done, a block
-- ends. Blocks have names until they are numbered.
use Rattle.std.specs.Prelude.{
  ℕ,
  zero,
  suc,
  ◌+◌,
  ◌-◌,
  ◌==◌,
  Bool,
  true,
  false,
  cond,
  ℤ,
  pos,
  negsuc,
  List,
  [],
  ◌∷◌,
  Option,
  Some,
  None,
}
use Rattle.int_ops.specs.declared.types.IntType.{IntType}
use Rattle.int_ops.specs.declared.types.IntType.TheVariants as type
use Rattle.int_ops.specs.declared.operators.BinOp.{BinOp}
use Rattle.int_ops.specs.declared.operators.BinOp.TheVariants as bin_op
use Rattle.int_ops.specs.Codes.{type_code}
use Rattle.int_ops.specs.Common.{common_type}
use Rattle.c_tree.specs.declared.expr.Base.{Base}
use Rattle.c_tree.specs.declared.expr.Base.TheVariants as base
use Rattle.c_tree.specs.declared.typed_expr.CellAt.{CellAt}
use Rattle.c_tree.specs.declared.typed_expr.CellAt.TheVariants as cell
use Rattle.c_tree.specs.declared.typed_expr.Callee.{Callee}
use Rattle.c_tree.specs.declared.typed_expr.Callee.TheVariants as callee
use Rattle.c_tree.specs.TypedExpr.{TypedExpr, TypedKind, TypedExprs}
use Rattle.c_tree.specs.TypedStmt.{
  TypedInit,
  TypedVar,
  TypedStmt,
  OtherTyped,
  TypedForHead,
  TypedStmts,
  TypedItem,
  TypedItems,
}
use Rattle.c_tree.specs.Typed.{TypedFunction}
use Rattle.c_tree.specs.TypedParts.{class, base_of, size}
use Rattle.c_meaning.specs.Operands.{type_in, changing}
use Rattle.stack_ops.specs.declared.operation.Op.{Op}
use Rattle.stack_ops.specs.declared.operation.Op.TheVariants as op

-- the name of a block: the number of a node of the function's tree, in the order of the text, and which part of the
-- node the block is
pub record Name : Type 0 where
  pub node : ℕ
  pub part : ℕ

-- how a block ends, with names
pub data Close : Type 0 where
  Jump : Name → Close
  Back : Name → Close
  Branch : Name → Name → Close
  Select : List (ℤ × Name) → Name → Close
  CallTo : ℕ → ℕ → Name → Close
  Leave : Close
  Quit : Close

-- An item, with the line of the source that it adds to its block, if it adds one.
pub data Item : Type 0 where
  Begin : Name → Option ℕ → Item
  Do : Op → Option ℕ → Item
  End : Close → Option ℕ → Item

-- how an expression is put before what follows: for its value, or as a condition with the blocks for nonzero and for
-- zero
pub record Ways : Type 0 where
  pub value : List Item → List Item
  pub test : Name → Name → List Item → List Item

-- The block of a node that is this part of it: the legend of the parts.
abbrev pub at : ℕ → ℕ → Name
at node part = record { node = node; part = part }

-- the first substatement of an `if`, and the body of a loop
abbrev pub body_of : ℕ → Name
body_of node = at node 0

-- the second substatement of an `if`
abbrev pub else_of : ℕ → Name
else_of node = at node 1

-- the test of a `do`
abbrev pub test_of : ℕ → Name
test_of node = at node 2

-- where a condition that is taken as a value is zero
abbrev pub false_of : ℕ → Name
false_of node = at node 3

-- the way back of a `do`
abbrev pub again_of : ℕ → Name
again_of node = at node 4

-- the start of a `while` or a `for`
abbrev pub head_of : ℕ → Name
head_of node = at node 5

-- where the ways through an expression meet
abbrev pub join_of : ℕ → Name
join_of node = at node 6

-- a group of labels of a `switch`, by its first label
abbrev pub label_of : ℕ → Name
label_of node = at node 7

-- the right operand of `&&` or `||`
abbrev pub right_of : ℕ → Name
right_of node = at node 8

-- what follows a call
abbrev pub next_of : ℕ → Name
next_of node = at node 9

-- where a condition that is taken as a value isn't zero
abbrev pub true_of : ℕ → Name
true_of node = at node 10

-- the step of a `for`
abbrev pub step_of : ℕ → Name
step_of node = at node 11

-- the second and the third operand of `?:`
abbrev pub second_of : ℕ → Name
second_of node = at node 12

-- the third operand of `?:`
abbrev pub third_of : ℕ → Name
third_of node = at node 13

-- what follows a statement
abbrev pub end_of : ℕ → Name
end_of node = at node 14

-- ---- operations

-- the operation that loads a cell
abbrev pub load_op : CellAt → Op
load_op (cell.Local c) = op.LoadLocal c
load_op (cell.Global c) = op.LoadGlobal c

-- the operation that stores into a cell
abbrev pub store_op : CellAt → Op
store_op (cell.Local c) = op.StoreLocal c
store_op (cell.Global c) = op.StoreGlobal c

-- the operation that loads an element of an array of this length
abbrev pub load_at : CellAt → ℕ → Op
load_at (cell.Local c) n = op.LoadLocalAt c n
load_at (cell.Global c) n = op.LoadGlobalAt c n

-- the operation that stores into an element of an array of this length
abbrev pub store_at : CellAt → ℕ → Op
store_at (cell.Local c) n = op.StoreLocalAt c n
store_at (cell.Global c) n = op.StoreGlobalAt c n

-- the operation of an operator with two operands, whose trap stands at the line
abbrev pub operator : BinOp → IntType → ℕ → Op
operator bin_op.Mul t line = op.Mul t line
operator bin_op.Div t line = op.Div t line
operator bin_op.Rem t line = op.Rem t line
operator bin_op.Add t line = op.Add t line
operator bin_op.Sub t line = op.Sub t line
operator bin_op.Shl t line = op.Shl t line
operator bin_op.Shr t line = op.Shr t line
operator bin_op.Less t line = op.Less t line
operator bin_op.Greater t line = op.Greater t line
operator bin_op.LessEqual t line = op.LessEqual t line
operator bin_op.GreaterEqual t line = op.GreaterEqual t line
operator bin_op.Equal t line = op.Equal t line
operator bin_op.NotEqual t line = op.NotEqual t line
operator bin_op.And t line = op.And t line
operator bin_op.Xor t line = op.Xor t line
operator bin_op.Or t line = op.Or t line

-- an operation without a line of its own
abbrev pub plainly : Op → List Item → List Item
plainly o rest = Do o None ∷ rest

-- a conversion stands only where two types differ
abbrev pub converted : IntType → IntType → List Item → List Item
converted from to rest = cond (type_code from == type_code to) rest (plainly (op.Convert to) rest)

-- a value that nothing uses is dropped
abbrev pub dropped : Base → List Item → List Item
dropped (base.Int t) rest = plainly op.Drop rest
dropped base.Void rest = rest

-- a cast: to void it drops a value
abbrev pub cast : Base → Base → List Item → List Item
cast from base.Void rest = dropped from rest
cast from (base.Int t) rest = converted (type_in from) t rest

-- ---- expressions

-- as a condition, a value other than `!`, `&&` and `||` is branched on
abbrev pub plain : (List Item → List Item) → Ways
plain v = record { value = v; test = λ t f rest. v (End (Branch t f) None ∷ rest) }

-- as a value, a condition gives 1 or 0 in blocks of its operator's line
abbrev pub logic : ℕ → ℕ → (Name → Name → List Item → List Item) → Ways
logic node line test_to = record {
  value = λ rest. test_to (true_of node) (false_of node)
      (Begin (true_of node) (Some line) ∷ Do (op.Push (pos 1)) None ∷ End (Jump (join_of node)) None
      ∷ Begin (false_of node) (Some line) ∷ Do (op.Push (pos 0)) None ∷ Begin (join_of node) (Some line) ∷ rest);
  test = test_to;
}

-- how many nodes an expression has
abbrev mutual
  -- how many nodes an expression has
  pub nodes : TypedExpr → ℕ
  nodes (TypedExpr.At kind b place line) = suc (kind_nodes kind)

  -- how many nodes its parts have
  pub kind_nodes : TypedKind → ℕ
  kind_nodes (TypedKind.Name c) = 0
  kind_nodes (TypedKind.Number n t) = 0
  kind_nodes TypedKind.EofName = 0
  kind_nodes (TypedKind.Call f args) = all_nodes args
  kind_nodes (TypedKind.Index c n place line e) = nodes e
  kind_nodes (TypedKind.Convert e) = nodes e
  kind_nodes (TypedKind.Plus e) = nodes e
  kind_nodes (TypedKind.Minus e) = nodes e
  kind_nodes (TypedKind.Complement e) = nodes e
  kind_nodes (TypedKind.Not e) = nodes e
  kind_nodes (TypedKind.Cast b e) = nodes e
  kind_nodes (TypedKind.Binary o a b) = nodes a + nodes b
  kind_nodes (TypedKind.AndAlso a b) = nodes a + nodes b
  kind_nodes (TypedKind.OrElse a b) = nodes a + nodes b
  kind_nodes (TypedKind.Choose c a b) = nodes c + nodes a + nodes b
  kind_nodes (TypedKind.Assign o a b) = nodes a + nodes b
  kind_nodes (TypedKind.Before o e) = nodes e
  kind_nodes (TypedKind.After o e) = nodes e
  kind_nodes (TypedKind.Comma a b) = nodes a + nodes b

  -- how many nodes expressions have together
  pub all_nodes : TypedExprs → ℕ
  all_nodes TypedExprs.End = 0
  all_nodes (TypedExprs.More e es) = nodes e + all_nodes es

-- the call of a function, whose arguments stand before it
abbrev pub called : Callee → ℕ → ℕ → List Item → List Item
called (callee.Function f) line node rest =
    End (CallTo f line (next_of node)) (Some line) ∷ Begin (next_of node) (Some line) ∷ rest
called callee.GetChar line node rest = Do op.GetChar (Some line) ∷ rest
called callee.PutChar line node rest = Do (op.PutChar line) (Some line) ∷ rest
called callee.Exit line node rest = End Quit (Some line) ∷ Begin (next_of node) (Some line) ∷ rest

abbrev mutual
  -- an expression, which is the node of this number
  pub ways : TypedExpr → ℕ → Ways
  ways (TypedExpr.At kind result place line) node = kind_ways kind result line node

  -- a form with its type and line
  pub kind_ways : TypedKind → Base → ℕ → ℕ → Ways
  kind_ways (TypedKind.Name c) result line node = plain (λ rest. Do (load_op c) (Some line) ∷ rest)
  kind_ways (TypedKind.Number n t) result line node = plain (λ rest. Do (op.Push n) (Some line) ∷ rest)
  kind_ways TypedKind.EofName result line node = plain (λ rest. Do (op.Push (negsuc 0)) (Some line) ∷ rest)
  kind_ways (TypedKind.Call f args) result line node =
      plain (λ rest. all_values args (suc node) (called f line node rest))
  kind_ways (TypedKind.Index c n place named e) result line node =
      plain (λ rest. (ways e (suc node)).value (plainly (op.CheckIndex n line) (Do (load_at c n) (Some named) ∷ rest)))
  kind_ways (TypedKind.Convert e) result line node =
      plain (λ rest. (ways e (suc node)).value (converted (type_in (base_of e)) (type_in result) rest))
  kind_ways (TypedKind.Plus e) result line node = plain (λ rest. (ways e (suc node)).value rest)
  kind_ways (TypedKind.Minus e) result line node =
      plain (λ rest. (ways e (suc node)).value (plainly (op.Minus (type_in result) line) rest))
  kind_ways (TypedKind.Complement e) result line node =
      plain (λ rest. (ways e (suc node)).value (plainly (op.Complement (type_in result) line) rest))
  kind_ways (TypedKind.Not e) result line node = record {
    value = λ rest. (ways e (suc node)).value (plainly op.Not rest);
    test = λ t f rest. (ways e (suc node)).test f t rest;
  }
  kind_ways (TypedKind.Cast to e) result line node =
      plain (λ rest. (ways e (suc node)).value (cast (base_of e) to rest))
  kind_ways (TypedKind.Binary o l r) result line node =
      plain (λ rest. (ways l (suc node)).value ((ways r (suc node + nodes l)).value
      (plainly (operator o (type_in (base_of l)) line) rest)))
  kind_ways (TypedKind.AndAlso l r) result line node =
      logic node line (λ t f rest. (ways l (suc node)).test (right_of node) f
      (Begin (right_of node) (Some line) ∷ (ways r (suc node + nodes l)).test t f rest))
  kind_ways (TypedKind.OrElse l r) result line node =
      logic node line (λ t f rest. (ways l (suc node)).test t (right_of node)
      (Begin (right_of node) (Some line) ∷ (ways r (suc node + nodes l)).test t f rest))
  kind_ways (TypedKind.Choose c x y) result line node =
      plain (λ rest. (ways c (suc node)).test (second_of node) (third_of node) (Begin (second_of node) (Some line)
      ∷ (ways x (suc node + nodes c)).value (End (Jump (join_of node)) None ∷ Begin (third_of node) (Some line)
      ∷ (ways y (suc node + nodes c + nodes x)).value (Begin (join_of node) (Some line) ∷ rest))))
  kind_ways (TypedKind.Assign None target e) result line node =
      plain (λ rest. index_of target (suc node) ((ways e (suc node + nodes target)).value
      (Do (stores target) (Some (named_on target)) ∷ rest)))
  kind_ways (TypedKind.Assign (Some o) target e) result line node =
      plain (λ rest. let t = type_in result in let c = changing (class o) t (type_in (base_of e)) in
      index_of target (suc node) (kept target (Do (loads target) (Some (named_on target)) ∷ converted t c
      ((ways e (suc node + nodes target)).value (plainly (operator o c line)
      (converted c t (plainly (stores target) rest)))))))
  kind_ways (TypedKind.Before o target) result line node =
      plain (λ rest. let t = type_in result in let c = common_type t type.Int in
      index_of target (suc node) (kept target (Do (loads target) (Some (named_on target)) ∷ converted t c
      (plainly (op.Push (pos 1)) (plainly (operator o c line) (converted c t (plainly (stores target) rest)))))))
  kind_ways (TypedKind.After o target) result line node =
      plain (λ rest. let t = type_in result in let c = common_type t type.Int in
      index_of target (suc node) (kept target (Do (loads target) (Some (named_on target)) ∷ doubled target
      (converted t c
      (plainly (op.Push (pos 1)) (plainly (operator o c line)
      (converted c t (plainly (stores target) (plainly op.Drop rest)))))))))
  kind_ways (TypedKind.Comma l r) result line node =
      plain (λ rest. (ways l (suc node)).value (dropped (base_of l) ((ways r (suc node + nodes l)).value rest)))

  -- the index of what is assigned to, checked; a name has none
  pub index_of : TypedExpr → ℕ → List Item → List Item
  index_of (TypedExpr.At (TypedKind.Index c n place named e) result p line) node rest =
      (ways e (suc node)).value (plainly (op.CheckIndex n line) rest)
  index_of (TypedExpr.At kind result p line) node rest = rest

  -- values from left to right
  pub all_values : TypedExprs → ℕ → List Item → List Item
  all_values TypedExprs.End node rest = rest
  all_values (TypedExprs.More e es) node rest = (ways e node).value (all_values es (node + nodes e) rest)

  -- what loads and stores a name or an element, and the line of the name
  pub loads : TypedExpr → Op
  loads (TypedExpr.At (TypedKind.Index c n place named e) result p line) = load_at c n
  loads (TypedExpr.At (TypedKind.Name c) result p line) = load_op c
  loads (TypedExpr.At kind result p line) = op.Drop

  -- what stores into a name or an element
  pub stores : TypedExpr → Op
  stores (TypedExpr.At (TypedKind.Index c n place named e) result p line) = store_at c n
  stores (TypedExpr.At (TypedKind.Name c) result p line) = store_op c
  stores (TypedExpr.At kind result p line) = op.Drop

  -- the line of the name
  pub named_on : TypedExpr → ℕ
  named_on (TypedExpr.At (TypedKind.Index c n place named e) result p line) = named
  named_on (TypedExpr.At kind result p line) = line

  -- an index is kept for the store behind the load
  pub kept : TypedExpr → List Item → List Item
  kept (TypedExpr.At (TypedKind.Index c n place named e) result p line) rest = plainly op.Dup rest
  kept (TypedExpr.At kind result p line) rest = rest

  -- the old value stays below what is computed; that of an element goes below its index too
  pub doubled : TypedExpr → List Item → List Item
  doubled (TypedExpr.At (TypedKind.Index c n place named e) result p line) rest = plainly op.Swap (plainly op.Over rest)
  doubled (TypedExpr.At kind result p line) rest = plainly op.Dup rest

-- ---- statements

-- how many nodes an expression has that may be left out
abbrev pub nodes_if : Option TypedExpr → ℕ
nodes_if None = 0
nodes_if (Some e) = nodes e

-- how many nodes expressions have together
abbrev pub sum : List TypedExpr → ℕ
sum [] = 0
sum (e ∷ es) = nodes e + sum es

-- how many nodes an initialiser has
abbrev pub init_nodes : TypedInit → ℕ
init_nodes TypedInit.Absent = 0
init_nodes (TypedInit.One e) = nodes e
init_nodes (TypedInit.Several es) = sum es

-- how many nodes the initialisers of variables have together
abbrev pub vars_nodes : List TypedVar → ℕ
vars_nodes [] = 0
vars_nodes (v ∷ vs) = init_nodes v.init + vars_nodes vs

-- how many nodes a statement has
abbrev mutual
  -- how many nodes a statement has
  pub stmt_nodes : TypedStmt → ℕ
  stmt_nodes (TypedStmt.Vars vars) = suc (vars_nodes vars)
  stmt_nodes (TypedStmt.Block ss) = suc (stmts_nodes ss)
  stmt_nodes TypedStmt.Empty = 1
  stmt_nodes (TypedStmt.Value e) = suc (nodes e)
  stmt_nodes (TypedStmt.If c s other) = suc (nodes c + stmt_nodes s + other_nodes other)
  stmt_nodes (TypedStmt.While c s) = suc (nodes c + stmt_nodes s)
  stmt_nodes (TypedStmt.DoWhile s c line) = suc (stmt_nodes s + nodes c)
  stmt_nodes (TypedStmt.For (TypedForHead.Head first test step) s) =
      suc (other_nodes first + nodes_if test + stmt_nodes s + nodes_if step)
  stmt_nodes (TypedStmt.Switch e is) = suc (nodes e + items_nodes is)
  stmt_nodes (TypedStmt.Break place line) = 1
  stmt_nodes (TypedStmt.Continue place line) = 1
  stmt_nodes (TypedStmt.Return e place line) = suc (nodes_if e)

  -- of a statement that may be left out
  pub other_nodes : OtherTyped → ℕ
  other_nodes OtherTyped.Nothing = 0
  other_nodes (OtherTyped.There s) = stmt_nodes s

  -- of statements together
  pub stmts_nodes : TypedStmts → ℕ
  stmts_nodes TypedStmts.End = 0
  stmts_nodes (TypedStmts.More s ss) = stmt_nodes s + stmts_nodes ss

  -- of a label or an item of a `switch`
  pub item_nodes : TypedItem → ℕ
  item_nodes (TypedItem.Case n place) = 1
  item_nodes (TypedItem.Default place) = 1
  item_nodes (TypedItem.Item s) = stmt_nodes s

  -- of labels and items together
  pub items_nodes : TypedItems → ℕ
  items_nodes TypedItems.Last = 0
  items_nodes (TypedItems.Further i is) = item_nodes i + items_nodes is

-- The elements of an array from one index on are set, by its initialisers and then by so many zeros; the first has the
-- line of the name.
abbrev pub zeros : ℕ → ℕ → ℕ → ℕ → Option ℕ → List Item → List Item
zeros zero first count index line rest = rest
zeros (suc more) first count index line rest =
    plainly (op.Push (pos index)) (plainly (op.Push (pos 0)) (Do (op.StoreLocalAt first count) line
    ∷ plainly op.Drop (zeros more first count (suc index) None rest)))

-- the elements of an array from one index on are set by these initialisers, and the rest to 0 (C17 6.7.9 paragraph 21)
abbrev pub elements : List TypedExpr → ℕ → ℕ → ℕ → ℕ → Option ℕ → List Item → List Item
elements [] node first count index line rest = zeros (count - index) first count index line rest
elements (value ∷ values) node first count index line rest =
    plainly (op.Push (pos index)) ((ways value node).value (Do (op.StoreLocalAt first count) line
    ∷ plainly op.Drop (elements values (node + nodes value) first count (suc index) None rest)))

-- a variable with an initialiser is set
abbrev pub initialised : TypedVar → TypedInit → ℕ → List Item → List Item
initialised var TypedInit.Absent node rest = rest
initialised var (TypedInit.One value) node rest =
    (ways value node).value (Do (op.StoreLocal var.cell) (Some var.line) ∷ plainly op.Drop rest)
initialised var (TypedInit.Several values) node rest = elements values node var.cell (size var) 0 (Some var.line) rest

-- the variables of a declaration, one after another
abbrev pub declarations : List TypedVar → ℕ → List Item → List Item
declarations [] node rest = rest
declarations (var ∷ vars) node rest =
    initialised var var.init node (declarations vars (node + init_nodes var.init) rest)

-- ---- labels of a switch

-- the group that a label belongs to: that of the label before it, where one stands there, or a group of its own
abbrev pub group_at : Option Name → ℕ → Name
group_at None node = label_of node
group_at (Some group) node = group

-- the blocks of the cases; the name is that of the group of the last item, where that is a label
abbrev pub cases_of : TypedItems → ℕ → Option Name → List (ℤ × Name)
cases_of TypedItems.Last node group = []
cases_of (TypedItems.Further (TypedItem.Case n place) items) node group =
    (n, group_at group node) ∷ cases_of items (suc node) (Some (group_at group node))
cases_of (TypedItems.Further (TypedItem.Default place) items) node group =
    cases_of items (suc node) (Some (group_at group node))
cases_of (TypedItems.Further (TypedItem.Item stmt) items) node group = cases_of items (node + stmt_nodes stmt) None

-- the block of the default, or the end of the switch
abbrev pub default_of : TypedItems → ℕ → Option Name → Name → Name
default_of TypedItems.Last node group end = end
default_of (TypedItems.Further (TypedItem.Case n place) items) node group end =
    default_of items (suc node) (Some (group_at group node)) end
default_of (TypedItems.Further (TypedItem.Default place) items) node group end = group_at group node
default_of (TypedItems.Further (TypedItem.Item stmt) items) node group end =
    default_of items (node + stmt_nodes stmt) None end

-- the first label of a group begins its block
abbrev pub labelled : Option Name → ℕ → List Item → List Item
labelled None node rest = Begin (label_of node) None ∷ rest
labelled (Some group) node rest = rest

-- ---- statements

-- the value of a `return`, before it ends the function
abbrev pub value_if : Option TypedExpr → ℕ → List Item → List Item
value_if None node rest = rest
value_if (Some value) node rest = (ways value node).value rest

-- the test of a `for`, where it has one
abbrev pub tested : Option TypedExpr → ℕ → Name → Name → List Item → List Item
tested None node body end rest = rest
tested (Some test) node body end rest = (ways test node).test body end (Begin body None ∷ rest)

-- the step of a `for`, where it has one
abbrev pub stepped : Option TypedExpr → ℕ → Name → List Item → List Item
stepped None node step rest = rest
stepped (Some value) node step rest = Begin step None ∷ (ways value node).value (dropped (base_of value) rest)

-- where `continue` goes in a `for`: to the step, or back to the head where there is none
abbrev pub continues_to : Option TypedExpr → Name → Name → Close
continues_to None step head = Back head
continues_to (Some value) step head = Jump step

abbrev mutual
  -- a statement, which is the node of this number, with where `break` and `continue` go
  pub code : TypedStmt → ℕ → Close → Close → List Item → List Item
  code (TypedStmt.Vars vars) node on_break on_continue rest = declarations vars (suc node) rest
  code (TypedStmt.Block stmts) node on_break on_continue rest = codes_of stmts (suc node) on_break on_continue rest
  code TypedStmt.Empty node on_break on_continue rest = rest
  code (TypedStmt.Value value) node on_break on_continue rest =
      (ways value (suc node)).value (dropped (base_of value) rest)
  code (TypedStmt.If test stmt OtherTyped.Nothing) node on_break on_continue rest =
      (ways test (suc node)).test (body_of node) (end_of node)
      (Begin (body_of node) None ∷ code stmt (suc node + nodes test) on_break on_continue
      (Begin (end_of node) None ∷ rest))
  code (TypedStmt.If test stmt (OtherTyped.There second)) node on_break on_continue rest =
      (ways test (suc node)).test (body_of node) (else_of node)
      (Begin (body_of node) None ∷ code stmt (suc node + nodes test) on_break on_continue
      (End (Jump (end_of node)) None
      ∷ Begin (else_of node) None ∷ code second (suc node + nodes test + stmt_nodes stmt) on_break on_continue
      (Begin (end_of node) None ∷ rest)))
  code (TypedStmt.While test stmt) node on_break on_continue rest =
      Begin (head_of node) None ∷ (ways test (suc node)).test (body_of node) (end_of node)
      (Begin (body_of node) None
      ∷ code stmt (suc node + nodes test) (Jump (end_of node)) (Back (head_of node))
      (End (Back (head_of node)) None ∷ Begin (end_of node) None ∷ rest))
  code (TypedStmt.DoWhile stmt test line) node on_break on_continue rest =
      Begin (body_of node) None ∷ code stmt (suc node) (Jump (end_of node)) (Jump (test_of node))
      (Begin (test_of node) None ∷ (ways test (suc node + stmt_nodes stmt)).test (again_of node) (end_of node)
      (Begin (again_of node) (Some line) ∷ End (Back (body_of node)) None ∷ Begin (end_of node) None ∷ rest))
  code (TypedStmt.For (TypedForHead.Head first test step) stmt) node on_break on_continue rest =
      code_other first (suc node) on_break on_continue
      (Begin (head_of node) None ∷ tested test (suc node + other_nodes first) (body_of node) (end_of node)
      (code stmt (suc node + other_nodes first + nodes_if test) (Jump (end_of node))
      (continues_to step (step_of node) (head_of node))
      (stepped step (suc node + other_nodes first + nodes_if test + stmt_nodes stmt) (step_of node)
      (End (Back (head_of node)) None ∷ Begin (end_of node) None ∷ rest))))
  code (TypedStmt.Switch value items) node on_break on_continue rest =
      (ways value (suc node)).value
      (End (Select (cases_of items (suc node + nodes value) None)
      (default_of items (suc node + nodes value) None (end_of node))) None
      ∷ code_items items (suc node + nodes value) None (Jump (end_of node)) on_continue
      (Begin (end_of node) None ∷ rest))
  code (TypedStmt.Break place line) node on_break on_continue rest = End on_break (Some line) ∷ rest
  code (TypedStmt.Continue place line) node on_break on_continue rest = End on_continue (Some line) ∷ rest
  code (TypedStmt.Return value place line) node on_break on_continue rest =
      value_if value (suc node) (End Leave (Some line) ∷ rest)

  -- a statement that may be left out
  pub code_other : OtherTyped → ℕ → Close → Close → List Item → List Item
  code_other OtherTyped.Nothing node on_break on_continue rest = rest
  code_other (OtherTyped.There stmt) node on_break on_continue rest = code stmt node on_break on_continue rest

  -- statements one after another
  pub codes_of : TypedStmts → ℕ → Close → Close → List Item → List Item
  codes_of TypedStmts.End node on_break on_continue rest = rest
  codes_of (TypedStmts.More stmt stmts) node on_break on_continue rest =
      code stmt node on_break on_continue (codes_of stmts (node + stmt_nodes stmt) on_break on_continue rest)

  -- the items of a switch; the name is that of the group of the item before, where that is a label
  pub code_items : TypedItems → ℕ → Option Name → Close → Close → List Item → List Item
  code_items TypedItems.Last node group on_break on_continue rest = rest
  code_items (TypedItems.Further (TypedItem.Case number place) items) node group on_break on_continue rest =
      labelled group node (code_items items (suc node) (Some (group_at group node)) on_break on_continue rest)
  code_items (TypedItems.Further (TypedItem.Default place) items) node group on_break on_continue rest =
      labelled group node (code_items items (suc node) (Some (group_at group node)) on_break on_continue rest)
  code_items (TypedItems.Further (TypedItem.Item stmt) items) node group on_break on_continue rest =
      code stmt node on_break on_continue (code_items items (node + stmt_nodes stmt) None on_break on_continue rest)

-- a function has a result
abbrev pub gives_number : Base → Bool
gives_number (base.Int t) = true
gives_number base.Void = false

-- The items of a function. A `break` or `continue` outside a loop, which no sound source has, would return.
abbrev pub items_of : TypedFunction → List Item
items_of f = codes_of f.body 0 Leave Leave []
