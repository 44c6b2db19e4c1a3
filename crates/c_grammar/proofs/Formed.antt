-- What the tokens of a text derive is formed: each value that a rule gives is, where the tokens are those of a source.
use Rattle.std.proofs.Common.{
  ◌≡◌,
  ℕ,
  zero,
  suc,
  ◌+◌,
  ◌≤◌,
  Bool,
  true,
  false,
  cond,
  ◌||◌,
  List,
  [],
  ◌∷◌,
  length,
  Option,
  Some,
  None,
  refl,
  arith,
}
use Rattle.std.specs.Prelude.{◌==◌}
use Rattle.std.specs.Int.{is_in_range}
use Rattle.std.proofs.lemmas.Bool.{true≢false, false≢true}
use Rattle.int_ops.specs.declared.operators.BinOp.{BinOp}
use Rattle.int_ops.specs.Ranges.{Range}
use Rattle.cov_base.specs.Limits.{source_limit}
use Rattle.c_tokens.specs.declared.bytes.ByteClass.TheVariants as byte
use Rattle.c_tokens.specs.declared.token.Punct.{Punct}
use Rattle.c_tokens.specs.declared.token.Punct.TheVariants as mark
use Rattle.c_tokens.specs.declared.token.Token.{Token}
use Rattle.c_tokens.specs.declared.token.TokenKind.{TokenKind}
use Rattle.c_tokens.specs.declared.token.TokenKind.TheVariants as kind
use Rattle.c_tokens.specs.Bytes.{is_in}
use Rattle.c_tokens.specs.Names.{AreWordBytes, IsName as HasNameBytes, HaveNames}
use Rattle.c_tokens.specs.Spans.{HasNumber, StandInOrder}
use Rattle.c_tokens.specs.Tokens.{Splits}
use Rattle.c_tokens.proofs.SpanLaws.{fills-in_order}
use Rattle.c_tokens.proofs.NameLaws.{split_names}
use Rattle.c_tree.specs.declared.expr.Base.{Base}
use Rattle.c_tree.specs.Expr.{Expr, Kind}
use Rattle.c_tree.specs.Stmt.{Stmt, OtherStmt, SwitchItem}
use Rattle.c_tree.specs.Tree.{Head, Tree}
use Rattle.c_tree.specs.TreeView.{exprs_of, stmts_of, items_of}
use Rattle.c_tree.specs.Sound.{IsLine, IsName, IsStep, Each}
use Rattle.c_tree.specs.Formed.{
  Assigns,
  FormedExpr,
  FormedExprs,
  FormedIf,
  FormedSize,
  FormedInit,
  FormedVar,
  FormedVars,
  IsFirstPart,
  FormedStmt,
  FormedOther,
  FormedForHead,
  FormedStmts,
  FormedItem,
  FormedItems,
  FormedHead,
  FormedOuter,
  Formed,
}
use Rattle.c_grammar.specs.declared.begins.Operand.{Operand}
use Rattle.c_grammar.specs.declared.begins.Operand.TheVariants as first
use Rattle.c_grammar.specs.declared.begins.UnaryOperator.{UnaryOperator}
use Rattle.c_grammar.specs.declared.begins.UnaryOperator.TheVariants as unary
use Rattle.c_grammar.specs.declared.begins.Prefix.{Prefix}
use Rattle.c_grammar.specs.declared.begins.Prefix.TheVariants as prefix
use Rattle.c_grammar.specs.declared.begins.BinaryOperator.{BinaryOperator}
use Rattle.c_grammar.specs.declared.begins.BinaryOperator.TheVariants as binary
use Rattle.c_grammar.specs.declared.begins.StmtForm.{StmtForm}
use Rattle.c_grammar.specs.declared.begins.StmtForm.TheVariants as form
use Rattle.c_grammar.specs.declared.begins.ItemForm.{ItemForm}
use Rattle.c_grammar.specs.declared.begins.ItemForm.TheVariants as label
use Rattle.c_grammar.specs.declared.begins.ParamsForm.{ParamsForm}
use Rattle.c_grammar.specs.declared.begins.ParamsForm.TheVariants as params
use Rattle.c_grammar.specs.Words.{
  name_of,
  next_kind,
  behind,
  mark_at,
  key_of,
  is_type_word,
  behind_words,
  next_is,
  type_at,
  name_at,
}
use Rattle.c_grammar.specs.Operators.{
  operand_of,
  operand_at,
  increment_of,
  increment_at,
  prefix_of,
  prefix_at,
  signed,
  cast_at,
  operator_at,
  joined,
  assignment_of,
  assignment_at,
  is_unary,
  at,
}
use Rattle.c_grammar.specs.Forms.{form_at, else_at, item_at, function_at, params_at, all_named, value_of, first_start}
use Rattle.c_grammar.specs.Rules.{Listed, Member, Rule, Result}
use Rattle.c_grammar.specs.Grammar as grammar
use Rattle.c_grammar.specs.Grammar.{Grammar, form_of, goes_on}
use Rattle.c_grammar.specs.Derivations.{By, Front, Derives}

-- A token of a source: its line is one of the source, a number is one of its type, and a name has the bytes of one.
pub record Sourced (text : List ℕ) (t : Token) : Type 0 where
  pub line : IsLine t.line
  pub number : HasNumber t.kind
  pub name : t.kind ≡ kind.Name → IsName (name_of text t)

-- a list's member
abbrev pub WellMember : (l : Listed) → Member l → Type 0
WellMember Listed.arguments = FormedExpr
WellMember Listed.values = FormedExpr
WellMember (Listed.variables base) = FormedVar
WellMember Listed.parameters = λ p. Unit {0}
WellMember Listed.items = FormedStmt
WellMember Listed.switch_items = FormedItem
WellMember Listed.outers = FormedOuter

-- what a rule gives
abbrev pub Well : List ℕ → (r : Rule) → Result r → Type 0
Well text Rule.any = Sourced text
Well text (Rule.token kind) = λ t. Sourced text t × (t.kind ≡ kind)
Well text Rule.type_name = λ b. Unit {0}
Well text Rule.operand = FormedExpr
Well text Rule.postfix = FormedExpr
Well text (Rule.increments e n) = FormedExpr
Well text Rule.unary = FormedExpr
Well text Rule.cast = FormedExpr
Well text (Rule.precedence m) = FormedExpr
Well text (Rule.operators m e n) = FormedExpr
Well text Rule.conditional = FormedExpr
Well text Rule.assignment = FormedExpr
Well text Rule.expression = FormedExpr
Well text (Rule.commas e n) = FormedExpr
Well text (Rule.closed m) = FormedExpr
Well text (Rule.ended m) = FormedIf
Well text Rule.arguments = Each FormedExpr
Well text (Rule.list l) = λ xs. (1 ≤ length xs) × Each (WellMember l) xs
Well text (Rule.more l) = Each (WellMember l)
Well text Rule.declaration = FormedVars
Well text (Rule.variable base) = FormedVar
Well text Rule.size = FormedSize
Well text Rule.length = FormedSize
Well text Rule.initialiser = FormedInit
Well text Rule.given = FormedInit
Well text Rule.statement = FormedStmt
Well text Rule.condition = FormedExpr
Well text Rule.branches = λ b. FormedStmt b.0 × FormedOther b.1
Well text Rule.until = λ u. FormedExpr u.0 × IsLine u.1
Well text Rule.first = λ f. IsFirstPart f × FormedOther f
Well text Rule.controls = λ c. FormedIf c.0 × FormedIf c.1
Well text Rule.for_head = FormedForHead
Well text Rule.cases = Each FormedItem
Well text Rule.item = FormedStmt
Well text Rule.switch_item = FormedItem
Well text Rule.outer = FormedOuter
Well text Rule.function_head = FormedHead
Well text (Rule.body h) = FormedOuter
Well text Rule.parameters = λ ps. Unit {0}
Well text Rule.parameter = λ p. Unit {0}

-- what a rule goes on with
abbrev pub Before : Rule → Type 0
Before (Rule.increments e n) = FormedExpr e
Before (Rule.operators m e n) = FormedExpr e
Before (Rule.commas e n) = FormedExpr e
Before (Rule.body h) = FormedHead h
Before _ = Unit {0}

-- each way through a form gives what is formed
abbrev pub Keeps : List ℕ → (r : Rule) → Grammar (Result r) → Type 0
Keeps text r Grammar.none = Unit {0}
Keeps text r (Grammar.gives x) = Well text r x
Keeps text r (Grammar.any f) = (t : Token) → Sourced text t → Well text r (f t)
Keeps text r (Grammar.token kind f) = (t : Token) → Sourced text t → t.kind ≡ kind → Well text r (f t)
Keeps text r (Grammar.words f) = (b : Base) → Well text r (f b)
Keeps text r (Grammar.part d q next) =
    Before q × ((y : Result q) (n : ℕ) → Well text q y → Keeps text r (next y n))
Keeps text r (Grammar.deep d g) = Keeps text r g
Keeps text r (Grammar.look next) = (ts : List Token) → Each (Sourced text) ts → Keeps text r (next ts)

all_exprs : (es : List Expr) → Each FormedExpr es → FormedExprs (exprs_of es)
all_exprs [] h = tt
all_exprs (e ∷ es) h = (h.0, all_exprs es h.1)

all_stmts : (ss : List Stmt) → Each FormedStmt ss → FormedStmts (stmts_of ss)
all_stmts [] h = tt
all_stmts (s ∷ ss) h = (h.0, all_stmts ss h.1)

all_items : (is : List SwitchItem) → Each FormedItem is → FormedItems (items_of is)
all_items [] h = tt
all_items (i ∷ is) h = (h.0, all_items is h.1)

-- an operand that is a number holds one of its type
abbrev NumberIn : Operand → Type 0
NumberIn (first.Number n type) = Range type n
NumberIn _ = Unit {0}

-- the kind of the next token, where there is one, holds a number of its type
abbrev NumberNext : Option TokenKind → Type 0
NumberNext None = Unit {0}
NumberNext (Some k) = HasNumber k

operand_number : (k : Option TokenKind) (m : Option Punct) → NumberNext k → NumberIn (operand_of k m)
operand_number (Some kind.Name) (Some mark.OpenParen) h = tt
operand_number (Some kind.Name) (Some mark.OpenBracket) h = tt
operand_number (Some kind.Name) _ h = tt
operand_number (Some (kind.Number number type)) _ h = h
operand_number (Some kind.EofName) _ h = tt
operand_number (Some (kind.Mark mark.OpenParen)) _ h = tt
operand_number _ _ h = tt

number_next : (text : List ℕ) (ts : List Token) → Each (Sourced text) ts → NumberNext (next_kind ts)
number_next text [] h = tt
number_next text (t ∷ ts) h = h.0.number

operand_kept : (text : List ℕ) (o : Operand) → NumberIn o → Keeps text Rule.operand (grammar.operand_as text o)
operand_kept text first.Name h = (tt, λ t n w. (w.line, tt))
operand_kept text (first.Number k type) h = (tt, λ t n w. (w.line, h))
operand_kept text first.EofName h = (tt, λ t n w. (w.line, tt))
operand_kept text first.Paren h = (tt, λ t n w. (tt, λ e n f. (w.line, f)))
operand_kept text first.Call h =
    (tt, λ t n w. (tt, λ o n v. (tt, λ es n f. (tt, λ c n u. (w.line, all_exprs es f)))))
operand_kept text first.Index h = (tt, λ t n w. (tt, λ o n v. (tt, λ e n f. (v.line, (w.line, f)))))
operand_kept text first.Absent h = tt

-- a step is by `+` or `-`
abbrev StepIf : Option BinOp → Type 0
StepIf None = Unit {0}
StepIf (Some o) = IsStep o

increment_step : (m : Option Punct) → StepIf (increment_of m)
increment_step (Some mark.PlusPlus) = tt
increment_step (Some mark.MinusMinus) = tt
increment_step _ = tt

increments_kept : (text : List ℕ) (e : Expr) (n : ℕ) (o : Option BinOp) → StepIf o → FormedExpr e
    → Keeps text (Rule.increments e n) (grammar.increments_as e n o)
increments_kept text e n None s f = f
increments_kept text e n (Some o) s f = (tt, λ t k w. ((w.line, (s, f)), λ y k g. g))

abbrev PrefixStep : Prefix → Type 0
PrefixStep (prefix.Increment o) = IsStep o
PrefixStep _ = Unit {0}

prefix_step : (m : Option Punct) → PrefixStep (prefix_of m)
prefix_step (Some mark.PlusPlus) = tt
prefix_step (Some mark.MinusMinus) = tt
prefix_step (Some mark.Plus) = tt
prefix_step (Some mark.Minus) = tt
prefix_step (Some mark.Tilde) = tt
prefix_step (Some mark.Not) = tt
prefix_step _ = tt

signed_formed : (t : Token) (o : UnaryOperator) (e : Expr) → IsLine t.line → FormedExpr e → FormedExpr
    (at t (signed o e))
signed_formed t unary.Plus e l f = (l, f)
signed_formed t unary.Minus e l f = (l, f)
signed_formed t unary.Complement e l f = (l, f)
signed_formed t unary.Not e l f = (l, f)

unary_kept : (text : List ℕ) (p : Prefix) → PrefixStep p → Keeps text Rule.unary (grammar.unary_as p)
unary_kept text (prefix.Increment o) s = (tt, λ t n w. (tt, λ e n f. (w.line, (s, f))))
unary_kept text (prefix.Operator o) s = (tt, λ t n w. (tt, λ e n f. signed_formed t o e w.line f))
unary_kept text prefix.Absent s = (tt, λ e n f. f)

cast_kept : (text : List ℕ) (b : Bool) → Keeps text Rule.cast (grammar.cast_as b)
cast_kept text true = (tt, λ t n w. (tt, λ b n u. (tt, λ c n v. (tt, λ e n f. (w.line, f)))))
cast_kept text false = (tt, λ e n f. f)

joined_formed : (t : Token) (o : BinaryOperator) (a b : Expr) → IsLine t.line → FormedExpr a → FormedExpr b
    → FormedExpr (at t (joined o a b))
joined_formed t (binary.Plain o) a b l f g = (l, (f, g))
joined_formed t binary.LogicalAnd a b l f g = (l, (f, g))
joined_formed t binary.LogicalOr a b l f g = (l, (f, g))

operators_kept : (text : List ℕ) (m : ℕ) (e : Expr) (n : ℕ) (o : Option BinaryOperator) → FormedExpr e
    → Keeps text (Rule.operators m e n) (grammar.operators_as m e n o)
operators_kept text m e n None f = f
operators_kept text m e n (Some o) f =
    (tt, λ t k w. (tt, λ right k g. (joined_formed t o e right w.line f g, λ y k h. h)))

choice_kept : (text : List ℕ) (e : Expr) (n : ℕ) (b : Bool) → FormedExpr e → Keeps text Rule.conditional
    (grammar.choice_as e n b)
choice_kept text e n true f = (tt, λ t k w. (tt, λ a k g. (tt, λ b k h. (w.line, (f, g, h)))))
choice_kept text e n false f = f

-- an operator that is joined to `=` doesn't compare
abbrev AssignsIf : Option (Option BinOp) → Type 0
AssignsIf None = Unit {0}
AssignsIf (Some o) = Assigns o

assignment_assigns : (m : Option Punct) → AssignsIf (assignment_of m)
assignment_assigns (Some mark.Assign) = tt
assignment_assigns (Some mark.StarAssign) = tt
assignment_assigns (Some mark.SlashAssign) = tt
assignment_assigns (Some mark.PercentAssign) = tt
assignment_assigns (Some mark.PlusAssign) = tt
assignment_assigns (Some mark.MinusAssign) = tt
assignment_assigns (Some mark.ShiftLeftAssign) = tt
assignment_assigns (Some mark.ShiftRightAssign) = tt
assignment_assigns (Some mark.AndAssign) = tt
assignment_assigns (Some mark.CaretAssign) = tt
assignment_assigns (Some mark.OrAssign) = tt
assignment_assigns _ = tt

target_kept : (text : List ℕ) (e : Expr) (n : ℕ) (o : Option BinOp) (b : Bool) → Assigns o → FormedExpr e
    → Keeps text Rule.assignment (grammar.target e n o b)
target_kept text e n o true a f = (tt, λ t k w. (tt, λ right k g. (w.line, (a, f, g))))
target_kept text e n o false a f = tt

assigned_kept : (text : List ℕ) (e : Expr) (n : ℕ) (o : Option (Option BinOp)) → AssignsIf o → FormedExpr e
    → Keeps text Rule.assignment (grammar.assigned_as e n o)
assigned_kept text e n (Some o) a f = target_kept text e n o (is_unary e) a f
assigned_kept text e n None a f = f

commas_kept : (text : List ℕ) (e : Expr) (n : ℕ) (b : Bool) → FormedExpr e → Keeps text (Rule.commas e n)
    (grammar.commas_as e n b)
commas_kept text e n true f = (tt, λ t k w. (tt, λ right k g. ((w.line, (f, g)), λ y k h. h)))
commas_kept text e n false f = f

precedence_kept : (text : List ℕ) (m : ℕ) → Keeps text (Rule.precedence m) (grammar.precedence_of m)
precedence_kept text zero = (tt, λ e n f. f)
precedence_kept text (suc m) = (tt, λ e n f. (f, λ y k g. g))

ended_kept : (text : List ℕ) (m : Punct) (b : Bool) → Keeps text (Rule.ended m) (grammar.ended_as m b)
ended_kept text m true = (tt, λ t n w. tt)
ended_kept text m false = (tt, λ e n f. f)

arguments_kept : (text : List ℕ) (b : Bool) → Keeps text Rule.arguments (grammar.arguments_as b)
arguments_kept text true = tt
arguments_kept text false = (tt, λ es n f. f.1)

list_kept : (text : List ℕ) (l : Listed) → Keeps text (Rule.list l) (form_of text (Rule.list l))
list_kept text Listed.arguments = (tt, λ x n f. (tt, λ xs n g. (omega arith, (f, g))))
list_kept text Listed.values = (tt, λ x n f. (tt, λ xs n g. (omega arith, (f, g))))
list_kept text (Listed.variables base) = (tt, λ x n f. (tt, λ xs n g. (omega arith, (f, g))))
list_kept text Listed.parameters = (tt, λ x n f. (tt, λ xs n g. (omega arith, (tt, g))))
list_kept text Listed.items = (tt, λ x n f. (tt, λ xs n g. (omega arith, (f, g))))
list_kept text Listed.switch_items = (tt, λ x n f. (tt, λ xs n g. (omega arith, (f, g))))
list_kept text Listed.outers = (tt, λ x n f. (tt, λ xs n g. (omega arith, (f, g))))

further_kept : (text : List ℕ) (l : Listed) (b : Bool) → Keeps text (Rule.more l) (grammar.further l b)
further_kept text l true = (tt, λ t n w. (tt, λ xs n f. f.1))
further_kept text l false = (tt, λ xs n f. f.1)

more_kept : (text : List ℕ) (l : Listed) (b : Bool) → Keeps text (Rule.more l) (grammar.more_as l b)
more_kept text l true = further_kept text l (grammar.has_commas l)
more_kept text l false = tt

size_kept : (text : List ℕ) (b : Bool) → Keeps text Rule.size (grammar.size_as b)
size_kept text true = (tt, λ t n w. (tt, λ s n f. f))
size_kept text false = tt

length_kept : (text : List ℕ) (b : Bool) → Keeps text Rule.length (grammar.length_as b)
length_kept text true = (tt, λ t n w. tt)
length_kept text false = (tt, λ e n f. (tt, λ t n w. f))

initialiser_kept : (text : List ℕ) (b : Bool) → Keeps text Rule.initialiser (grammar.initialiser_as b)
initialiser_kept text true = (tt, λ t n w. (tt, λ i n f. f))
initialiser_kept text false = tt

braced_kept : (text : List ℕ) (es : List Expr) (b : Bool) → (1 ≤ length es) × Each FormedExpr es
    → Keeps text Rule.given (grammar.braced es b)
braced_kept text es true f = (tt, λ t n w. (tt, λ t n w. f))
braced_kept text es false f = (tt, λ t n w. f)

given_kept : (text : List ℕ) (b : Bool) → Keeps text Rule.given (grammar.given_as b)
given_kept text true = (tt, λ t n w. (tt, λ es n f ts s. braced_kept text es (next_is mark.Comma ts) f))
given_kept text false = (tt, λ e n f. f)

value_formed : (e : Option Expr) → FormedIf e → FormedStmt (value_of e)
value_formed None f = tt
value_formed (Some e) f = f

statement_kept : (text : List ℕ) (f : StmtForm) → Keeps text Rule.statement (grammar.statement_as f)
statement_kept text form.Block = (tt, λ t n w. (tt, λ ss n f. (tt, λ c n u. all_stmts ss f)))
statement_kept text form.Value = (tt, λ e n f. value_formed e f)
statement_kept text form.If = (tt, λ t n w. (tt, λ e n f. (tt, λ b n g. (f, g.0, g.1))))
statement_kept text form.While = (tt, λ t n w. (tt, λ e n f. (tt, λ s n g. (f, g))))
statement_kept text form.Do = (tt, λ t n w. (tt, λ s n f. (tt, λ u n g. (f, g.0, g.1))))
statement_kept text form.For = (tt, λ t n w. (tt, λ h n f. (tt, λ s n g. (f, g))))
statement_kept text form.Switch = (tt, λ t n w. (tt, λ e n f. (tt, λ is n g. (f, all_items is g))))
statement_kept text form.Break = (tt, λ t n w. (tt, λ c n u. w.line))
statement_kept text form.Continue = (tt, λ t n w. (tt, λ c n u. w.line))
statement_kept text form.Return = (tt, λ t n w. (tt, λ e n f. (w.line, f)))

alternative_kept : (text : List ℕ) (s : Stmt) (b : Bool) → FormedStmt s → Keeps text Rule.branches
    (grammar.alternative_as s b)
alternative_kept text s true f = (tt, λ t n w. (tt, λ o n g. (f, g)))
alternative_kept text s false f = (f, tt)

first_kept : (text : List ℕ) (b c : Bool) → Keeps text Rule.first (grammar.first_as b c)
first_kept text true c = (tt, λ vs n f. (tt, f))
first_kept text false true = (tt, λ t n w. (tt, tt))
first_kept text false false = (tt, λ e n f. (tt, f))

item_kept : (text : List ℕ) (b : Bool) → Keeps text Rule.item (grammar.item_as b)
item_kept text true = (tt, λ vs n f. f)
item_kept text false = (tt, λ s n f. f)

switch_item_kept : (text : List ℕ) (f : ItemForm) → Keeps text Rule.switch_item (grammar.switch_item_as f)
switch_item_kept text label.Case = (tt, λ t n w. (tt, λ e n f. (tt, λ c n u. f)))
switch_item_kept text label.Default = (tt, λ t n w. (tt, λ c n u. tt))
switch_item_kept text label.Item = (tt, λ s n f. f)

outer_kept : (text : List ℕ) (b : Bool) → Keeps text Rule.outer (grammar.outer_as b)
outer_kept text true = (tt, λ h n f. (f, λ o n g. g))
outer_kept text false = (tt, λ vs n f. f)

definition_kept : (text : List ℕ) (h : Head) (b : Bool) → FormedHead h → Keeps text (Rule.body h)
    (grammar.definition h b)
definition_kept text h true f = (tt, λ t n w. (tt, λ ss n g. (tt, λ c n u. (f, all_stmts ss g))))
definition_kept text h false f = tt

body_kept : (text : List ℕ) (h : Head) (b : Bool) → FormedHead h → Keeps text (Rule.body h) (grammar.body_as h b)
body_kept text h true f = (tt, λ t n w. f)
body_kept text h false f = definition_kept text h (all_named h.params) f

parameters_kept : (text : List ℕ) (f : ParamsForm) → Keeps text Rule.parameters (grammar.parameters_as f)
parameters_kept text params.Empty = tt
parameters_kept text params.OnlyVoid = (tt, λ t n w. tt)
parameters_kept text params.Listed = (tt, λ ps n f. tt)

named_kept : (text : List ℕ) (base : Base) (place : ℕ) (b : Bool) → Keeps text Rule.parameter
    (grammar.named_as text base place b)
named_kept text base place true = (tt, λ t n w. tt)
named_kept text base place false = tt

-- each rule gives what is formed
kept : (text : List ℕ) (r : Rule) → Before r → Keeps text r (form_of text r)
kept text Rule.any f = λ t s. s
kept text (Rule.token kind) f = λ t s k. (s, k)
kept text Rule.type_name f = λ b. tt
kept text Rule.operand f =
    λ ts s. operand_kept text (operand_at ts) (operand_number (next_kind ts) (mark_at (behind ts))
    (number_next text ts s))
kept text Rule.postfix f = (tt, λ e n g. (g, λ y k h. h))
kept text (Rule.increments e n) f =
    λ ts s. increments_kept text e n (increment_at ts) (increment_step (mark_at ts)) f
kept text Rule.unary f = λ ts s. unary_kept text (prefix_at ts) (prefix_step (mark_at ts))
kept text Rule.cast f = λ ts s. cast_kept text (cast_at ts)
kept text (Rule.precedence m) f = precedence_kept text m
kept text (Rule.operators m e n) f = λ ts s. operators_kept text m e n (operator_at (m + 1) ts) f
kept text Rule.conditional f = (tt, λ e n g ts s. choice_kept text e n (next_is mark.Question ts) g)
kept text Rule.assignment f =
    (tt, λ e n g ts s. assigned_kept text e n (assignment_at ts) (assignment_assigns (mark_at ts)) g)
kept text Rule.expression f = (tt, λ e n g. (g, λ y k h. h))
kept text (Rule.commas e n) f = λ ts s. commas_kept text e n (next_is mark.Comma ts) f
kept text (Rule.closed m) f = (tt, λ e n g. (tt, λ t n w. g))
kept text (Rule.ended m) f = λ ts s. ended_kept text m (next_is m ts)
kept text Rule.arguments f = λ ts s. arguments_kept text (next_is mark.CloseParen ts)
kept text (Rule.list l) f = list_kept text l
kept text (Rule.more l) f = λ ts s. more_kept text l (goes_on l ts)
kept text Rule.declaration f = (tt, λ b n u. (tt, λ vs n g. (tt, λ c n w. g)))
kept text (Rule.variable base) f =
    (tt, λ t n w. (tt, λ z n g. (tt, λ i n h. record { line = w.0.line; size = g; init = h })))
kept text Rule.size f = λ ts s. size_kept text (next_is mark.OpenBracket ts)
kept text Rule.length f = λ ts s. length_kept text (next_is mark.CloseBracket ts)
kept text Rule.initialiser f = λ ts s. initialiser_kept text (next_is mark.Assign ts)
kept text Rule.given f = λ ts s. given_kept text (next_is mark.OpenBrace ts)
kept text Rule.statement f = λ ts s. statement_kept text (form_at ts)
kept text Rule.condition f = (tt, λ t n w. (tt, λ e n g. g))
kept text Rule.branches f = (tt, λ z n g ts s. alternative_kept text z (else_at ts) g)
kept text Rule.until f = (tt, λ t n w. (tt, λ e n g. (tt, λ c n u. (g, w.0.line))))
kept text Rule.first f = λ ts s. first_kept text (type_at ts) (next_is mark.Semicolon ts)
kept text Rule.controls f = (tt, λ a n g. (tt, λ b n h. (g, h)))
kept text Rule.for_head f = (tt, λ t n w. (tt, λ a n g. (tt, λ c n h. (g.0, g.1, h.0, h.1))))
kept text Rule.cases f = (tt, λ t n w. (tt, λ is n g. (tt, λ c n u. g)))
kept text Rule.item f = λ ts s. item_kept text (type_at ts)
kept text Rule.switch_item f = λ ts s. switch_item_kept text (item_at ts)
kept text Rule.outer f = λ ts s. outer_kept text (function_at ts)
kept text Rule.function_head f = (
  tt,
  λ b n u. (
    tt,
    λ t n w. (
      tt,
      λ o n v. (
        tt,
        λ ps n g. (
          tt,
          λ c n z.
              record { name = w.0.name w.1; line = w.0.line },
        ),
      ),
    ),
  ),
)
kept text (Rule.body h) f = λ ts s. body_kept text h (next_is mark.Semicolon ts) f
kept text Rule.parameters f = λ ts s. parameters_kept text (params_at ts)
kept text Rule.parameter f = λ ts s. (tt, λ base n u us v. named_kept text base (first_start ts) (name_at us))

each_behind : (P : Token → Type 0) (ts : List Token) → Each P ts → Each P (behind_words ts)
each_behind P [] h = tt
each_behind P (t ∷ ts) h = go (is_type_word (key_of (Some t.kind))) (behind_words ts) (t ∷ ts) (each_behind P ts h.1) h
  where
    go : (b : Bool) (us vs : List Token) → Each P us → Each P vs → Each P (cond b us vs)
    go true us vs u v = u
    go false us vs u v = v

-- what a front gives is formed, and so are the tokens behind it
well : (text : List ℕ) {r : Rule} {g : Grammar (Result r)} {ts rest : List Token} {x : Result r} {n : ℕ}
    → By text r g ts x n rest → Keeps text r g → Each (Sourced text) ts → Well text r x × Each (Sourced text) rest
well text By.gives k s = (k, s)
well text (By.any {t = t}) k s = (k t s.0, s.1)
well text (By.token {t = t} h) k s = (k t s.0 h, s.1)
well text (By.words {base = b} {ts = ts} h) k s = (k b, each_behind (Sourced text) ts s)
well text (By.part {q = q} {m = m} {y = y} p e) k s =
    let h = well text p (kept text q k.0) s in
    well text e (k.1 y m h.0) h.1
well text (By.deep e) k s = well text e k s
well text (By.look {ts = ts} e) k s = well text e (k ts s) s

-- a byte of words is a letter, a digit or `_`; one that is no digit is a letter or `_`
letter : (digit upper lower under : Bool) → (((digit || upper) || lower) || under) ≡ true → digit ≡ false
    → (upper || lower || under) ≡ true
letter true upper lower under h d = absurd (true≢false d)
letter false true lower under h d = refl
letter false false true under h d = refl
letter false false false under h d = h

either : (digit upper lower under : Bool) → (((digit || upper) || lower) || under) ≡ true
    → ((upper || lower || under) || digit) ≡ true
either digit true lower under h = refl
either digit false true under h = refl
either digit false false true h = refl
either true false false false h = refl
either false false false false h = h

name_bytes : (bs : List ℕ) → AreWordBytes bs
    → Each (λ b. ((is_in_range 65 90 b || is_in_range 97 122 b || b == 95) || is_in_range 48 57 b) ≡ true) bs
name_bytes [] h = tt
name_bytes (b ∷ bs) h =
    (either (is_in_range 48 57 b) (is_in_range 65 90 b) (is_in_range 97 122 b) (b == 95) h.0, name_bytes bs h.1)

as_name : (bs : List ℕ) → HasNameBytes bs → IsName bs
as_name [] h = h
as_name (b ∷ bs) h =
    (letter (is_in_range 48 57 b) (is_in_range 65 90 b) (is_in_range 97 122 b) (b == 95) h.0 h.1, name_bytes bs h.2)

-- the tokens of a source
sourced : (text : List ℕ) (from to : ℕ) (ts : List Token) → StandInOrder from to ts → HaveNames text ts
    → to ≤ source_limit → Each (Sourced text) ts
sourced text from to [] o h l = tt
sourced text from to (t ∷ ts) o h l = (
  record {
    line = record { first = o.0.line; last = omega (arith, o.0.lines, l) };
    number = o.0.number;
    name = λ k. as_name (name_of text t) (h.0 k);
  },
  sourced text t.end to ts o.1 h.1 l,
)

-- the tree of a source's tokens is formed
pub derived_formed : {text : List ℕ} {tokens : List Token} {tree : Tree} → Splits text tokens
    → length text ≤ source_limit → Derives text tokens tree → Formed tree
derived_formed {text = text} {tokens = tokens} s l d =
    (well text d.whole (kept text (Rule.more Listed.outers) tt)
    (sourced text 0 (0 + length text) tokens (fills-in_order s) (split_names s) (omega (arith, l)))).0
