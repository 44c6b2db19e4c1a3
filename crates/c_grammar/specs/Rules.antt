-- The rules of the grammar, and what each gives.
use Rattle.std.specs.Prelude.{ℕ, List, Option}
use Rattle.c_tokens.specs.declared.token.Punct.{Punct}
use Rattle.c_tokens.specs.declared.token.Token.{Token}
use Rattle.c_tokens.specs.declared.token.TokenKind.{TokenKind}
use Rattle.c_tree.specs.declared.expr.Base.{Base}
use Rattle.c_tree.specs.Expr.{Expr}
use Rattle.c_tree.specs.Stmt.{Size, Init, Var, Stmt, OtherStmt, ForHead, SwitchItem}
use Rattle.c_tree.specs.Tree.{Param, Head, Outer}

-- What lists are of (C17 6.5.2, 6.7, 6.8.2, 6.9).
pub data Listed : Type 0 where
  arguments : Listed
  values : Listed
  variables : Base → Listed
  parameters : Listed
  items : Listed
  switch_items : Listed
  outers : Listed

-- a member of a list
abbrev pub Member : Listed → Type 0
Member Listed.arguments = Expr
Member Listed.values = Expr
Member (Listed.variables base) = Var
Member Listed.parameters = Param
Member Listed.items = Stmt
Member Listed.switch_items = SwitchItem
Member Listed.outers = Outer

-- The rules. Those that go on with what stands before them have its tree and its levels (own).
pub data Rule : Type 0 where
  -- any token, one of a kind, and the words of a type
  any : Rule
  token : TokenKind → Rule
  type_name : Rule
  -- expressions (C17 6.5)
  operand : Rule
  postfix : Rule
  increments : Expr → ℕ → Rule
  unary : Rule
  cast : Rule
  precedence : ℕ → Rule
  operators : ℕ → Expr → ℕ → Rule
  conditional : Rule
  assignment : Rule
  expression : Rule
  commas : Expr → ℕ → Rule
  -- an expression and a mark behind it, the same with the expression left out or not, and the arguments of a call
  closed : Punct → Rule
  ended : Punct → Rule
  arguments : Rule
  -- a list with a member at least, and what may follow a member
  list : Listed → Rule
  more : Listed → Rule
  -- declarations (C17 6.7)
  declaration : Rule
  variable : Base → Rule
  size : Rule
  length : Rule
  initialiser : Rule
  given : Rule
  -- statements (C17 6.8)
  statement : Rule
  condition : Rule
  branches : Rule
  until : Rule
  first : Rule
  controls : Rule
  for_head : Rule
  cases : Rule
  item : Rule
  switch_item : Rule
  -- sources (C17 6.9)
  outer : Rule
  function_head : Rule
  body : Head → Rule
  parameters : Rule
  parameter : Rule

-- what a rule gives
abbrev pub Result : Rule → Type 0
Result Rule.any = Token
Result (Rule.token kind) = Token
Result Rule.type_name = Base
Result (Rule.ended m) = Option Expr
Result Rule.arguments = List Expr
Result (Rule.list l) = List (Member l)
Result (Rule.more l) = List (Member l)
Result Rule.declaration = List Var
Result (Rule.variable base) = Var
Result Rule.size = Size
Result Rule.length = Size
Result Rule.initialiser = Init
Result Rule.given = Init
Result Rule.statement = Stmt
Result Rule.branches = Stmt × OtherStmt
Result Rule.until = Expr × ℕ
Result Rule.first = OtherStmt
Result Rule.controls = Option Expr × Option Expr
Result Rule.for_head = ForHead
Result Rule.cases = List SwitchItem
Result Rule.item = Stmt
Result Rule.switch_item = SwitchItem
Result Rule.outer = Outer
Result Rule.function_head = Head
Result (Rule.body head) = Outer
Result Rule.parameters = List Param
Result Rule.parameter = Param
Result _ = Expr
