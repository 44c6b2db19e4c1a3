-- The grammar (C17 6.5 to 6.9). A rule's form is read from left to right; what the next tokens begin chooses between
-- alternatives.
use Rattle.std.specs.Prelude.{ℕ, zero, suc, ◌+◌, max, Bool, true, false, not, List, [], ◌∷◌, Option, Some, None}
use Rattle.int_ops.specs.declared.operators.BinOp.{BinOp}
use Rattle.c_tokens.specs.declared.token.Keyword.TheVariants as key
use Rattle.c_tokens.specs.declared.token.Punct.{Punct}
use Rattle.c_tokens.specs.declared.token.Punct.TheVariants as mark
use Rattle.c_tokens.specs.declared.token.Token.{Token}
use Rattle.c_tokens.specs.declared.token.TokenKind.{TokenKind}
use Rattle.c_tokens.specs.declared.token.TokenKind.TheVariants as kind
use Rattle.c_tree.specs.declared.expr.Base.{Base}
use Rattle.c_tree.specs.Expr.{Expr, Kind}
use Rattle.c_tree.specs.Stmt.{Size, Init, Stmt, OtherStmt, ForHead, SwitchItem}
use Rattle.c_tree.specs.Tree.{Param, Head, Outer}
use Rattle.c_tree.specs.TreeView.{exprs_of, stmts_of, items_of}
use Rattle.c_grammar.specs.declared.begins.Operand.{Operand}
use Rattle.c_grammar.specs.declared.begins.Operand.TheVariants as first
use Rattle.c_grammar.specs.declared.begins.Prefix.{Prefix}
use Rattle.c_grammar.specs.declared.begins.Prefix.TheVariants as prefix
use Rattle.c_grammar.specs.declared.begins.BinaryOperator.{BinaryOperator}
use Rattle.c_grammar.specs.declared.begins.StmtForm.{StmtForm}
use Rattle.c_grammar.specs.declared.begins.StmtForm.TheVariants as form
use Rattle.c_grammar.specs.declared.begins.ItemForm.{ItemForm}
use Rattle.c_grammar.specs.declared.begins.ItemForm.TheVariants as label
use Rattle.c_grammar.specs.declared.begins.ParamsForm.{ParamsForm}
use Rattle.c_grammar.specs.declared.begins.ParamsForm.TheVariants as params
use Rattle.c_grammar.specs.Words.{name_of, next_is, type_at, name_at}
use Rattle.c_grammar.specs.Operators.{
  operand_at,
  increment_at,
  prefix_at,
  signed,
  cast_at,
  operator_at,
  joined,
  assignment_at,
  is_unary,
  at,
}
use Rattle.c_grammar.specs.Forms.{
  further_at,
  variable_at,
  form_at,
  else_at,
  item_at,
  value_of,
  none_at,
  function_at,
  params_at,
  all_named,
  head_at,
  named_param,
  nameless_param,
  first_start,
}
use Rattle.c_grammar.specs.Rules.{Listed, Member, Rule, Result}

-- The form of a rule that gives a value: what stands for it, from left to right (own).
pub data Grammar (A : Type 0) : Type 0 where
  -- nothing stands for it
  none : Grammar A
  -- no token, and this value
  gives : A → Grammar A
  -- a token, a token of this kind, or the words of a type
  any : (Token → A) → Grammar A
  token : TokenKind → (Token → A) → Grammar A
  words : (Base → A) → Grammar A
  -- a part by a rule, so many levels below the whole, and then what its value and its levels ask for
  part : ℕ → (r : Rule) → (Result r → ℕ → Grammar A) → Grammar A
  -- the same form, at least so many levels deep
  deep : ℕ → Grammar A → Grammar A
  -- what the next tokens choose
  look : (List Token → Grammar A) → Grammar A

-- a part at the level of the whole, then a form that doesn't ask for its levels (own)
abbrev pub first_ : {A : Type 0} → (r : Rule) → (Result r → Grammar A) → Grammar A
first_ r next = Grammar.part 0 r (λ x n. next x)

-- a part a level below the whole (own)
abbrev pub inside : {A : Type 0} → (r : Rule) → (Result r → Grammar A) → Grammar A
inside r next = Grammar.part 1 r (λ x n. next x)

-- a token, then a form (own)
abbrev pub behind_any : {A : Type 0} → (Token → Grammar A) → Grammar A
behind_any next = Grammar.part 0 Rule.any (λ t n. next t)

-- this mark, then a form (own)
abbrev pub behind_mark : {A : Type 0} → Punct → Grammar A → Grammar A
behind_mark m next = Grammar.part 0 (Rule.token (kind.Mark m)) (λ t n. next)

-- what stands for a rule (own)
abbrev pub by_rule : (r : Rule) → Grammar (Result r)
by_rule r = Grammar.part 0 r (λ x n. Grammar.gives x)

-- an operand (C17 6.5.1, 6.5.2): a name, a number, `EOF`, `( expr )`, a name with arguments, or a name with an index;
-- an index stands at its `[`
abbrev pub operand_as : List ℕ → Operand → Grammar Expr
operand_as text first.Name = behind_any (λ t. Grammar.deep 1 (Grammar.gives (at t (Kind.Name (name_of text t)))))
operand_as text (first.Number n type) = behind_any (λ t. Grammar.deep 1 (Grammar.gives (at t (Kind.Number n type))))
operand_as text first.EofName = behind_any (λ t. Grammar.deep 1 (Grammar.gives (at t Kind.EofName)))
operand_as text first.Paren =
    behind_any (λ t. inside (Rule.closed mark.CloseParen) (λ e. Grammar.gives (at t (Kind.Paren e))))
operand_as text first.Call =
    behind_any (λ t. behind_any (λ o. inside Rule.arguments
    (λ es. behind_mark mark.CloseParen (Grammar.gives (at t (Kind.Call (name_of text t) (exprs_of es)))))))
operand_as text first.Index =
    behind_any (λ t. behind_any (λ o. inside (Rule.closed mark.CloseBracket)
    (λ e. Grammar.gives (at o (Kind.Index (name_of text t) t.start t.line e)))))
operand_as text first.Absent = Grammar.none

-- `++` or `--` behind an expression, and what may follow it (C17 6.5.2)
abbrev pub increments_as : Expr → ℕ → Option BinOp → Grammar Expr
increments_as e n None = Grammar.gives e
increments_as e n (Some o) = behind_any (λ t. by_rule (Rule.increments (at t (Kind.After o e)) (n + 1)))

-- `++` or `--` before a unary expression, a unary operator before a cast expression, or neither (C17 6.5.3)
abbrev pub unary_as : Prefix → Grammar Expr
unary_as (prefix.Increment o) = behind_any (λ t. inside Rule.unary (λ e. Grammar.gives (at t (Kind.Before o e))))
unary_as (prefix.Operator o) = behind_any (λ t. inside Rule.cast (λ e. Grammar.gives (at t (signed o e))))
unary_as prefix.Absent = by_rule Rule.postfix

-- `( type )` before a cast expression, or a unary expression (C17 6.5.4)
abbrev pub cast_as : Bool → Grammar Expr
cast_as true = behind_any (λ t. first_ Rule.type_name (λ base. behind_mark mark.CloseParen
    (inside Rule.cast (λ e. Grammar.gives (at t (Kind.Cast base e))))))
cast_as false = by_rule Rule.unary

-- an operator of the precedence above `m`, its right side, and what may follow it: it joins to the left (C17 6.5.5 to
-- 6.5.14)
abbrev pub operators_as : ℕ → Expr → ℕ → Option BinaryOperator → Grammar Expr
operators_as m left n None = Grammar.gives left
operators_as m left n (Some o) =
    behind_any (λ t. Grammar.part 1 (Rule.precedence m)
    (λ right k. by_rule (Rule.operators m (at t (joined o left right)) (1 + max n k))))

-- `?`, an expression, `:` and a conditional expression behind an expression, or nothing (C17 6.5.15)
abbrev pub choice_as : Expr → ℕ → Bool → Grammar Expr
choice_as e n true =
    behind_any (λ t. inside (Rule.closed mark.Colon) (λ a. inside Rule.conditional
    (λ b. Grammar.deep (n + 1) (Grammar.gives (at t (Kind.Choose e a b))))))
choice_as e n false = Grammar.gives e

-- what may follow an expression of so many levels (C17 6.5.15)
abbrev pub choice : Expr → ℕ → Grammar Expr
choice e n = Grammar.deep n (Grammar.look (λ ts. choice_as e n (next_is mark.Question ts)))

-- the value that is assigned to an expression, if that is a unary one (C17 6.5.16)
abbrev pub target : Expr → ℕ → Option BinOp → Bool → Grammar Expr
target left n o false = Grammar.none
target left n o true = behind_any (λ t. inside Rule.assignment
    (λ right. Grammar.deep (n + 1) (Grammar.gives (at t (Kind.Assign o left right)))))

-- an assignment operator and a value behind an expression, or nothing (C17 6.5.16)
abbrev pub assigned_as : Expr → ℕ → Option (Option BinOp) → Grammar Expr
assigned_as left n None = Grammar.gives left
assigned_as left n (Some o) = target left n o (is_unary left)

-- what may follow an expression of so many levels (C17 6.5.16)
abbrev pub assigned : Expr → ℕ → Grammar Expr
assigned left n = Grammar.deep n (Grammar.look (λ ts. assigned_as left n (assignment_at ts)))

-- a comma and its right side, which join to the left, and what may follow them, or nothing (C17 6.5.17)
abbrev pub commas_as : Expr → ℕ → Bool → Grammar Expr
commas_as left n true =
    behind_any (λ t. Grammar.part 1 Rule.assignment (λ right k. by_rule
    (Rule.commas (at t (Kind.Comma left right)) (1 + max n k))))
commas_as left n false = Grammar.gives left

-- precedence 0 is a cast expression; any other one goes on from the next tighter (C17 6.5.5 to 6.5.14)
abbrev pub precedence_of : ℕ → Grammar Expr
precedence_of zero = by_rule Rule.cast
precedence_of (suc m) = Grammar.part 0 (Rule.precedence m) (λ e n. by_rule (Rule.operators m e n))

-- an expression and a mark, or the mark alone (C17 6.8.3, 6.8.5, 6.8.6)
abbrev pub ended_as : Punct → Bool → Grammar (Option Expr)
ended_as m true = behind_mark m (Grammar.gives None)
ended_as m false = first_ (Rule.closed m) (λ e. Grammar.gives (Some e))

-- no arguments before `)`, or some (C17 6.5.2)
abbrev pub arguments_as : Bool → Grammar (List Expr)
arguments_as true = Grammar.gives []
arguments_as false = by_rule (Rule.list Listed.arguments)

-- the rule of a list's member (own)
abbrev pub member : Listed → Rule
member Listed.arguments = Rule.assignment
member Listed.values = Rule.assignment
member (Listed.variables base) = Rule.variable base
member Listed.parameters = Rule.parameter
member Listed.items = Rule.item
member Listed.switch_items = Rule.switch_item
member Listed.outers = Rule.outer

-- what that rule gives is a member (own)
abbrev pub as_member : (l : Listed) → Result (member l) → Member l
as_member Listed.arguments e = e
as_member Listed.values e = e
as_member (Listed.variables base) v = v
as_member Listed.parameters p = p
as_member Listed.items s = s
as_member Listed.switch_items i = i
as_member Listed.outers o = o

-- a further member follows: a comma is next, for values one that no `}` follows, or items go on up to `}`, or a source
-- up to its end (C17 6.5.2, 6.7, 6.7.9, 6.8.2, 6.9)
abbrev pub goes_on : Listed → List Token → Bool
goes_on Listed.arguments ts = next_is mark.Comma ts
goes_on Listed.values ts = further_at ts
goes_on (Listed.variables base) ts = next_is mark.Comma ts
goes_on Listed.parameters ts = next_is mark.Comma ts
goes_on Listed.items ts = not (next_is mark.CloseBrace ts)
goes_on Listed.switch_items ts = not (next_is mark.CloseBrace ts)
goes_on Listed.outers ts = not (none_at ts)

-- the list has commas between its members (own)
abbrev pub has_commas : Listed → Bool
has_commas Listed.items = false
has_commas Listed.switch_items = false
has_commas Listed.outers = false
has_commas _ = true

-- behind a comma or at once, a list (own)
abbrev pub further : (l : Listed) → Bool → Grammar (List (Member l))
further l true = behind_any (λ t. by_rule (Rule.list l))
further l false = by_rule (Rule.list l)

-- a further list, or none (own)
abbrev pub more_as : (l : Listed) → Bool → Grammar (List (Member l))
more_as l true = further l (has_commas l)
more_as l false = Grammar.gives []

-- `[`, a length or none, and `]`, or nothing (C17 6.7.6)
abbrev pub size_as : Bool → Grammar Size
size_as true = behind_any (λ t. by_rule Rule.length)
size_as false = Grammar.gives Size.Scalar

-- a length and `]`, or `]` alone (C17 6.7.6.2)
abbrev pub length_as : Bool → Grammar Size
length_as true = behind_any (λ t. Grammar.gives Size.Unsized)
length_as false = first_ Rule.conditional (λ e. behind_mark mark.CloseBracket (Grammar.gives (Size.Len e)))

-- `=` and an initialiser, or nothing (C17 6.7)
abbrev pub initialiser_as : Bool → Grammar Init
initialiser_as true = behind_any (λ t. by_rule Rule.given)
initialiser_as false = Grammar.gives Init.Absent

-- a comma or none, and `}` (C17 6.7.9)
abbrev pub braced : List Expr → Bool → Grammar Init
braced es true = behind_any (λ t. behind_mark mark.CloseBrace (Grammar.gives (Init.Several es)))
braced es false = behind_mark mark.CloseBrace (Grammar.gives (Init.Several es))

-- values in braces, with a comma behind the last or without it, or an assignment (C17 6.7.9)
abbrev pub given_as : Bool → Grammar Init
given_as true =
    behind_any (λ t. first_ (Rule.list Listed.values) (λ es. Grammar.look (λ ts. braced es (next_is mark.Comma ts))))
given_as false = first_ Rule.assignment (λ e. Grammar.gives (Init.One e))

-- a statement of this form (C17 6.8)
abbrev pub statement_as : StmtForm → Grammar Stmt
statement_as form.Block =
    behind_any (λ t. inside (Rule.more Listed.items) (λ ss. behind_mark mark.CloseBrace
    (Grammar.gives (Stmt.Block (stmts_of ss)))))
statement_as form.Value = inside (Rule.ended mark.Semicolon) (λ e. Grammar.gives (value_of e))
statement_as form.If =
    behind_any (λ t. inside Rule.condition (λ e. inside Rule.branches (λ b. Grammar.gives (Stmt.If e b.0 b.1))))
statement_as form.While =
    behind_any (λ t. inside Rule.condition (λ e. inside Rule.statement (λ s. Grammar.gives (Stmt.While e s))))
statement_as form.Do =
    behind_any (λ t. inside Rule.statement (λ s. inside Rule.until (λ u. Grammar.gives (Stmt.DoWhile s u.0 u.1))))
statement_as form.For =
    behind_any (λ t. inside Rule.for_head (λ h. inside Rule.statement (λ s. Grammar.gives (Stmt.For h s))))
statement_as form.Switch =
    behind_any (λ t. inside Rule.condition (λ e. inside Rule.cases (λ is. Grammar.gives (Stmt.Switch e (items_of is)))))
statement_as form.Break =
    behind_any (λ t. behind_mark mark.Semicolon (Grammar.deep 1 (Grammar.gives (Stmt.Break t.start t.line))))
statement_as form.Continue =
    behind_any (λ t. behind_mark mark.Semicolon (Grammar.deep 1 (Grammar.gives (Stmt.Continue t.start t.line))))
statement_as form.Return =
    behind_any (λ t. inside (Rule.ended mark.Semicolon) (λ e. Grammar.gives (Stmt.Return e t.start t.line)))

-- what `else` adds joins the nearest `if` (C17 6.8.4.1 paragraph 3)
abbrev pub alternative_as : Stmt → Bool → Grammar (Stmt × OtherStmt)
alternative_as s true = behind_any (λ t. first_ Rule.statement (λ o. Grammar.gives (s, OtherStmt.There o)))
alternative_as s false = Grammar.gives (s, OtherStmt.Nothing)

-- the first part of a `for`: a declaration, or an expression or none and `;` (C17 6.8.5)
abbrev pub first_as : Bool → Bool → Grammar OtherStmt
first_as true absent = inside Rule.declaration (λ vs. Grammar.gives (OtherStmt.There (Stmt.Vars vs)))
first_as false true = behind_mark mark.Semicolon (Grammar.gives OtherStmt.Nothing)
first_as false false = inside (Rule.closed mark.Semicolon) (λ e. Grammar.gives (OtherStmt.There (Stmt.Value e)))

-- a declaration or a statement (C17 6.8.2)
abbrev pub item_as : Bool → Grammar Stmt
item_as true = inside Rule.declaration (λ vs. Grammar.gives (Stmt.Vars vs))
item_as false = by_rule Rule.statement

-- a label of a `switch`, or an item (C17 6.8.1)
abbrev pub switch_item_as : ItemForm → Grammar SwitchItem
switch_item_as label.Case =
    behind_any (λ t. first_ Rule.conditional (λ e. behind_mark mark.Colon (Grammar.gives (SwitchItem.Case e t.start))))
switch_item_as label.Default = behind_any (λ t. behind_mark mark.Colon (Grammar.gives (SwitchItem.Default t.start)))
switch_item_as label.Item = first_ Rule.item (λ s. Grammar.gives (SwitchItem.Item s))

-- a function, or a declaration of variables (C17 6.9)
abbrev pub outer_as : Bool → Grammar Outer
outer_as true = first_ Rule.function_head (λ h. first_ (Rule.body h) (λ o. Grammar.gives o))
outer_as false = first_ Rule.declaration (λ vs. Grammar.gives (Outer.Vars vs))

-- the items of a definition in braces, if its parameters have names (C17 6.9.1)
abbrev pub definition : Head → Bool → Grammar Outer
definition h false = Grammar.none
definition h true =
    behind_mark mark.OpenBrace (first_ (Rule.more Listed.items)
    (λ ss. behind_mark mark.CloseBrace (Grammar.gives (Outer.Function h (stmts_of ss)))))

-- `;` behind a head, or the body of a definition (C17 6.7, 6.9.1)
abbrev pub body_as : Head → Bool → Grammar Outer
body_as h true = behind_any (λ t. Grammar.gives (Outer.Prototype h))
body_as h false = definition h (all_named h.params)

-- nothing, `void`, or parameters with commas between them (C17 6.7.6.3)
abbrev pub parameters_as : ParamsForm → Grammar (List Param)
parameters_as params.Empty = Grammar.gives []
parameters_as params.OnlyVoid = behind_any (λ t. Grammar.gives [])
parameters_as params.Listed = by_rule (Rule.list Listed.parameters)

-- a name behind the type of a parameter, or none (C17 6.7.6)
abbrev pub named_as : List ℕ → Base → ℕ → Bool → Grammar Param
named_as text base place true = behind_any (λ t. Grammar.gives (named_param text base t))
named_as text base place false = Grammar.gives (nameless_param base place)

-- the form of each rule (C17 6.5 to 6.9)
abbrev pub form_of : List ℕ → (r : Rule) → Grammar (Result r)
form_of text Rule.any = Grammar.any (λ t. t)
form_of text (Rule.token kind) = Grammar.token kind (λ t. t)
form_of text Rule.type_name = Grammar.words (λ base. base)
form_of text Rule.operand = Grammar.look (λ ts. operand_as text (operand_at ts))
form_of text Rule.postfix = Grammar.part 0 Rule.operand (λ e n. by_rule (Rule.increments e n))
form_of text (Rule.increments e n) = Grammar.deep n (Grammar.look (λ ts. increments_as e n (increment_at ts)))
form_of text Rule.unary = Grammar.look (λ ts. unary_as (prefix_at ts))
form_of text Rule.cast = Grammar.look (λ ts. cast_as (cast_at ts))
form_of text (Rule.precedence m) = precedence_of m
form_of text (Rule.operators m left n) =
    Grammar.deep n (Grammar.look (λ ts. operators_as m left n (operator_at (m + 1) ts)))
form_of text Rule.conditional = Grammar.part 0 (Rule.precedence 10) (λ e n. choice e n)
form_of text Rule.assignment = Grammar.part 0 Rule.conditional (λ e n. assigned e n)
form_of text Rule.expression = Grammar.part 0 Rule.assignment (λ e n. by_rule (Rule.commas e n))
form_of text (Rule.commas left n) = Grammar.deep n (Grammar.look (λ ts. commas_as left n (next_is mark.Comma ts)))
form_of text (Rule.closed m) = first_ Rule.expression (λ e. behind_mark m (Grammar.gives e))
form_of text (Rule.ended m) = Grammar.look (λ ts. ended_as m (next_is m ts))
form_of text Rule.arguments = Grammar.look (λ ts. arguments_as (next_is mark.CloseParen ts))
form_of text (Rule.list l) = first_ (member l) (λ x. first_ (Rule.more l) (λ xs. Grammar.gives (as_member l x ∷ xs)))
form_of text (Rule.more l) = Grammar.look (λ ts. more_as l (goes_on l ts))
form_of text Rule.declaration =
    first_ Rule.type_name (λ base. first_ (Rule.list (Listed.variables base))
    (λ vs. behind_mark mark.Semicolon (Grammar.gives vs)))
form_of text (Rule.variable base) =
    first_ (Rule.token kind.Name) (λ t. first_ Rule.size
    (λ s. first_ Rule.initialiser (λ i. Grammar.gives (variable_at text base t s i))))
form_of text Rule.size = Grammar.look (λ ts. size_as (next_is mark.OpenBracket ts))
form_of text Rule.length = Grammar.look (λ ts. length_as (next_is mark.CloseBracket ts))
form_of text Rule.initialiser = Grammar.look (λ ts. initialiser_as (next_is mark.Assign ts))
form_of text Rule.given = Grammar.look (λ ts. given_as (next_is mark.OpenBrace ts))
form_of text Rule.statement = Grammar.look (λ ts. statement_as (form_at ts))
form_of text Rule.condition = behind_mark mark.OpenParen (by_rule (Rule.closed mark.CloseParen))
form_of text Rule.branches = first_ Rule.statement (λ s. Grammar.look (λ ts. alternative_as s (else_at ts)))
form_of text Rule.until =
    first_ (Rule.token (kind.Key key.While)) (λ t. first_ Rule.condition
    (λ e. behind_mark mark.Semicolon (Grammar.gives (e, t.line))))
form_of text Rule.first = Grammar.look (λ ts. first_as (type_at ts) (next_is mark.Semicolon ts))
form_of text Rule.controls =
    first_ (Rule.ended mark.Semicolon) (λ test. first_ (Rule.ended mark.CloseParen)
    (λ step. Grammar.gives (test, step)))
form_of text Rule.for_head =
    behind_mark mark.OpenParen (first_ Rule.first (λ f. first_ Rule.controls
    (λ c. Grammar.gives (ForHead.Head f c.0 c.1))))
form_of text Rule.cases =
    behind_mark mark.OpenBrace (first_ (Rule.more Listed.switch_items)
    (λ is. behind_mark mark.CloseBrace (Grammar.gives is)))
form_of text Rule.item = Grammar.look (λ ts. item_as (type_at ts))
form_of text Rule.switch_item = Grammar.look (λ ts. switch_item_as (item_at ts))
form_of text Rule.outer = Grammar.look (λ ts. outer_as (function_at ts))
form_of text Rule.function_head =
    first_ Rule.type_name (λ base. first_ (Rule.token kind.Name) (λ t. behind_mark mark.OpenParen
    (first_ Rule.parameters (λ ps. behind_mark mark.CloseParen (Grammar.gives (head_at text base t ps))))))
form_of text (Rule.body h) = Grammar.look (λ ts. body_as h (next_is mark.Semicolon ts))
form_of text Rule.parameters = Grammar.look (λ ts. parameters_as (params_at ts))
form_of text Rule.parameter =
    Grammar.look (λ ts. first_ Rule.type_name (λ base. Grammar.look
    (λ us. named_as text base (first_start ts) (name_at us))))
