-- A front has as many levels as its value, and no more than its tokens allow.
use Rattle.std.proofs.Common.{
  ◌≡◌,
  ℕ,
  zero,
  suc,
  ◌+◌,
  ◌-◌,
  ◌≤◌,
  max,
  Bool,
  true,
  false,
  List,
  [],
  ◌∷◌,
  length,
  Option,
  Some,
  None,
  refl,
  sym,
  ap,
  subst,
  arith,
}
use Rattle.int_ops.specs.declared.operators.BinOp.{BinOp}
use Rattle.c_tokens.specs.declared.token.Punct.{Punct}
use Rattle.c_tokens.specs.declared.token.Punct.TheVariants as mark
use Rattle.c_tokens.specs.declared.token.Token.{Token}
use Rattle.c_tree.specs.declared.expr.Base.{Base}
use Rattle.c_tree.specs.Expr.{Expr}
use Rattle.c_tree.specs.Stmt.{Stmt, SwitchItem}
use Rattle.c_tree.specs.Tree.{Head}
use Rattle.c_tree.specs.Levels.{
  levels,
  levels_if,
  args_levels,
  most,
  size_levels,
  init_levels,
  var_levels,
  stmt_levels,
  other_levels,
  head_levels,
  stmts_levels,
  item_levels,
  items_levels,
  outer_levels,
}
use Rattle.c_tree.specs.TreeView.{exprs_of, stmts_of, items_of}
use Rattle.c_grammar.specs.declared.begins.Operand.{Operand}
use Rattle.c_grammar.specs.declared.begins.Operand.TheVariants as first
use Rattle.c_grammar.specs.declared.begins.UnaryOperator.{UnaryOperator}
use Rattle.c_grammar.specs.declared.begins.UnaryOperator.TheVariants as unary
use Rattle.c_grammar.specs.declared.begins.Prefix.{Prefix}
use Rattle.c_grammar.specs.declared.begins.Prefix.TheVariants as prefix
use Rattle.c_grammar.specs.declared.begins.BinaryOperator.{BinaryOperator}
use Rattle.c_grammar.specs.declared.begins.BinaryOperator.TheVariants as binary
use Rattle.c_grammar.specs.declared.begins.StmtForm.{StmtForm}
use Rattle.c_grammar.specs.declared.begins.StmtForm.TheVariants as form
use Rattle.c_grammar.specs.declared.begins.ItemForm.{ItemForm}
use Rattle.c_grammar.specs.declared.begins.ItemForm.TheVariants as label
use Rattle.c_grammar.specs.declared.begins.ParamsForm.{ParamsForm}
use Rattle.c_grammar.specs.declared.begins.ParamsForm.TheVariants as params
use Rattle.c_grammar.specs.Words.{next_is, type_at, name_at}
use Rattle.c_grammar.specs.Operators.{
  operand_at,
  increment_at,
  prefix_at,
  signed,
  cast_at,
  operator_at,
  joined,
  assignment_at,
  is_unary,
  at,
}
use Rattle.c_grammar.specs.Forms.{form_at, else_at, item_at, function_at, params_at, all_named, value_of, first_start}
use Rattle.c_grammar.specs.Rules.{Listed, Member, Rule, Result}
use Rattle.c_grammar.specs.Grammar as grammar
use Rattle.c_grammar.specs.Grammar.{Grammar, form_of, goes_on}
use Rattle.c_grammar.specs.Derivations.{By, Front}
use Rattle.c_grammar.proofs.Words.{words_shorter}

-- the levels of a list's member
abbrev pub member_levels : (l : Listed) → Member l → ℕ
member_levels Listed.arguments = levels
member_levels Listed.values = levels
member_levels (Listed.variables base) = var_levels
member_levels Listed.parameters = λ p. 0
member_levels Listed.items = stmt_levels
member_levels Listed.switch_items = item_levels
member_levels Listed.outers = outer_levels

-- the levels of what a rule gives
abbrev pub depth : (r : Rule) → Result r → ℕ
depth Rule.any = λ t. 0
depth (Rule.token kind) = λ t. 0
depth Rule.type_name = λ b. 0
depth Rule.operand = levels
depth Rule.postfix = levels
depth (Rule.increments e n) = levels
depth Rule.unary = levels
depth Rule.cast = levels
depth (Rule.precedence m) = levels
depth (Rule.operators m e n) = levels
depth Rule.conditional = levels
depth Rule.assignment = levels
depth Rule.expression = levels
depth (Rule.commas e n) = levels
depth (Rule.closed m) = levels
depth (Rule.ended m) = levels_if
depth Rule.arguments = most levels
depth (Rule.list l) = most (member_levels l)
depth (Rule.more l) = most (member_levels l)
depth Rule.declaration = most var_levels
depth (Rule.variable base) = var_levels
depth Rule.size = size_levels
depth Rule.length = size_levels
depth Rule.initialiser = init_levels
depth Rule.given = init_levels
depth Rule.statement = stmt_levels
depth Rule.condition = levels
depth Rule.branches = λ b. max (stmt_levels b.0) (other_levels b.1)
depth Rule.until = λ u. levels u.0
depth Rule.first = other_levels
depth Rule.controls = λ c. max (levels_if c.0) (levels_if c.1)
depth Rule.for_head = head_levels
depth Rule.cases = most item_levels
depth Rule.item = stmt_levels
depth Rule.switch_item = item_levels
depth Rule.outer = outer_levels
depth Rule.function_head = λ h. 0
depth (Rule.body h) = outer_levels
depth Rule.parameters = λ ps. 0
depth Rule.parameter = λ p. 0

-- the levels of what a rule goes on with
abbrev pub floor : Rule → ℕ
floor (Rule.increments e n) = n
floor (Rule.operators m e n) = n
floor (Rule.commas e n) = n
floor _ = 0

-- they are those of its tree
abbrev pub Fair : Rule → Type 0
Fair (Rule.increments e n) = n ≡ levels e
Fair (Rule.operators m e n) = n ≡ levels e
Fair (Rule.commas e n) = n ≡ levels e
Fair _ = Unit {0}

-- a token that no level needs
abbrev pub spare : Rule → ℕ
spare Rule.any = 1
spare (Rule.token kind) = 1
spare (Rule.closed m) = 1
spare (Rule.ended m) = 1
spare Rule.declaration = 1
spare _ = 0

-- What stands before the end of a form measures its value: so many levels, and at least so many tokens.
pub record Ends (r : Rule) (x : Result r) (low spent : ℕ) : Type 0 where
  pub counted : low ≡ depth r x
  pub above : floor r ≤ low
  pub within : low + spare r ≤ floor r + spent

-- each way through a form measures its value
abbrev pub Measures : (r : Rule) → Grammar (Result r) → ℕ → ℕ → Type 0
Measures r Grammar.none low spent = Unit {0}
Measures r (Grammar.gives x) low spent = Ends r x low spent
Measures r (Grammar.any f) low spent = (t : Token) → Ends r (f t) low (spent + 1)
Measures r (Grammar.token kind f) low spent = (t : Token) → Ends r (f t) low (spent + 1)
Measures r (Grammar.words f) low spent = (b : Base) → Ends r (f b) low spent
Measures r (Grammar.part d q next) low spent =
    Fair q × ((y : Result q) → floor q ≤ depth q y → Measures r (next y (depth q y)) (max low (depth q y + d))
    (spent + (depth q y + spare q - floor q)))
Measures r (Grammar.deep d g) low spent = Measures r g (max low d) spent
Measures r (Grammar.look next) low spent = (ts : List Token) → Measures r (next ts) low spent

args_most : (es : List Expr) → args_levels (exprs_of es) ≡ most levels es
args_most [] = refl
args_most (e ∷ es) = ap (max (levels e)) (args_most es)

stmts_most : (ss : List Stmt) → stmts_levels (stmts_of ss) ≡ most stmt_levels ss
stmts_most [] = refl
stmts_most (s ∷ ss) = ap (max (stmt_levels s)) (stmts_most ss)

items_most : (is : List SwitchItem) → items_levels (items_of is) ≡ most item_levels is
items_most [] = refl
items_most (i ∷ is) = ap (max (item_levels i)) (items_most is)

none_most : {A : Type 0} (xs : List A) → most (λ x. 0) xs ≡ 0
none_most [] = refl
none_most (x ∷ xs) = omega (arith, none_most xs)

signed_levels : (t : Token) (o : UnaryOperator) (e : Expr) → levels (at t (signed o e)) ≡ 1 + levels e
signed_levels t unary.Plus e = refl
signed_levels t unary.Minus e = refl
signed_levels t unary.Complement e = refl
signed_levels t unary.Not e = refl

joined_levels : (t : Token) (o : BinaryOperator) (a b : Expr) → levels (at t (joined o a b)) ≡ 1 + max (levels a)
    (levels b)
joined_levels t (binary.Plain o) a b = refl
joined_levels t binary.LogicalAnd a b = refl
joined_levels t binary.LogicalOr a b = refl

value_levels : (e : Option Expr) → stmt_levels (value_of e) ≡ 1 + levels_if e
value_levels None = refl
value_levels (Some e) = refl

ended : {r : Rule} {x : Result r} {low spent : ℕ} → low ≡ depth r x → floor r ≤ low → low + spare r ≤ floor r + spent →
    Ends r x low spent
ended a b c = record { counted = a; above = b; within = c }

operand_measured : (text : List ℕ) (o : Operand) → Measures Rule.operand (grammar.operand_as text o) 0 0
operand_measured text first.Name = (tt, λ t l. ended (omega arith) (omega arith) (omega arith))
operand_measured text (first.Number n type) = (tt, λ t l. ended (omega arith) (omega arith) (omega arith))
operand_measured text first.EofName = (tt, λ t l. ended (omega arith) (omega arith) (omega arith))
operand_measured text first.Paren = (tt, λ t l. (tt, λ e l. ended (omega arith) (omega arith) (omega arith)))
operand_measured text first.Call =
    (tt, λ t l. (tt, λ o l. (tt, λ es l. (tt, λ c l. ended (omega (arith, args_most es)) (omega arith) (omega arith)))))
operand_measured text first.Index =
    (tt, λ t l. (tt, λ o l. (tt, λ e l. ended (omega arith) (omega arith) (omega arith))))
operand_measured text first.Absent = tt

increments_measured : (e : Expr) (n : ℕ) (o : Option BinOp) → n ≡ levels e → Measures (Rule.increments e n)
    (grammar.increments_as e n o) (max 0 n) 0
increments_measured e n None h = ended (omega (arith, h)) (omega arith) (omega arith)
increments_measured e n (Some o) h =
    (tt, λ t l. (omega (arith, h), λ y l. ended (omega (arith, l)) (omega (arith, l)) (omega (arith, l))))

unary_measured : (p : Prefix) → Measures Rule.unary (grammar.unary_as p) 0 0
unary_measured (prefix.Increment o) = (tt, λ t l. (tt, λ e l. ended (omega arith) (omega arith) (omega arith)))
unary_measured (prefix.Operator o) =
    (tt, λ t l. (tt, λ e l. ended (omega (arith, signed_levels t o e)) (omega arith) (omega arith)))
unary_measured prefix.Absent = (tt, λ e l. ended (omega arith) (omega arith) (omega arith))

cast_measured : (b : Bool) → Measures Rule.cast (grammar.cast_as b) 0 0
cast_measured true = (tt, λ t l. (tt, λ b l. (tt, λ c l. (tt, λ e l. ended (omega arith) (omega arith) (omega arith)))))
cast_measured false = (tt, λ e l. ended (omega arith) (omega arith) (omega arith))

operators_measured : (m : ℕ) (left : Expr) (n : ℕ) (o : Option BinaryOperator) → n ≡ levels left
    → Measures (Rule.operators m left n) (grammar.operators_as m left n o) (max 0 n) 0
operators_measured m left n None h = ended (omega (arith, h)) (omega arith) (omega arith)
operators_measured m left n (Some o) h = (
  tt,
  λ t l. (
    tt,
    λ right l. (
      omega (arith, h, joined_levels t o left right),
      λ y l. ended (omega (arith, l))
          (omega (arith, l)) (omega (arith, l)),
    ),
  ),
)

choice_measured : (e : Expr) (b : Bool) (low spent : ℕ) → low ≡ levels e → levels e ≤ spent → Measures Rule.conditional
    (grammar.choice_as e (levels e) b) low spent
choice_measured e true low spent h k =
    (tt, λ t l. (tt, λ a l. (tt, λ b l. ended (omega (arith, h)) (omega arith) (omega (arith, h, k)))))
choice_measured e false low spent h k = ended h (omega arith) (omega (arith, h, k))

target_measured : (e : Expr) (o : Option BinOp) (b : Bool) (low spent : ℕ) → low ≡ levels e → levels e ≤ spent →
    Measures Rule.assignment (grammar.target e (levels e) o b) low spent
target_measured e o true low spent h k =
    (tt, λ t l. (tt, λ right l. ended (omega (arith, h)) (omega arith) (omega (arith, h, k))))
target_measured e o false low spent h k = tt

assigned_measured : (e : Expr) (o : Option (Option BinOp)) (low spent : ℕ) → low ≡ levels e → levels e ≤ spent →
    Measures Rule.assignment (grammar.assigned_as e (levels e) o) low spent
assigned_measured e (Some o) low spent h k = target_measured e o (is_unary e) low spent h k
assigned_measured e None low spent h k = ended h (omega arith) (omega (arith, h, k))

commas_measured : (e : Expr) (n : ℕ) (b : Bool) → n ≡ levels e → Measures (Rule.commas e n) (grammar.commas_as e n b)
    (max 0 n) 0
commas_measured e n false h = ended (omega (arith, h)) (omega arith) (omega arith)
commas_measured e n true h = (
  tt,
  λ t l. (
    tt,
    λ right l. (
      omega (arith, h),
      λ y l. ended (omega (arith, l)) (omega (arith, l))
          (omega (arith, l)),
    ),
  ),
)

precedence_measured : (m : ℕ) → Measures (Rule.precedence m) (grammar.precedence_of m) 0 0
precedence_measured zero = (tt, λ e l. ended (omega arith) (omega arith) (omega arith))
precedence_measured (suc m) = (tt, λ e l. (refl, λ y l. ended (omega (arith, l)) (omega (arith, l)) (omega (arith, l))))

ended_measured : (m : Punct) (b : Bool) → Measures (Rule.ended m) (grammar.ended_as m b) 0 0
ended_measured m true = (tt, λ t l. ended (omega arith) (omega arith) (omega arith))
ended_measured m false = (tt, λ e l. ended (omega arith) (omega arith) (omega arith))

arguments_measured : (b : Bool) → Measures Rule.arguments (grammar.arguments_as b) 0 0
arguments_measured true = ended (omega arith) (omega arith) (omega arith)
arguments_measured false = (tt, λ es l. ended (omega arith) (omega arith) (omega arith))

list_measured : (text : List ℕ) (l : Listed) → Measures (Rule.list l) (form_of text (Rule.list l)) 0 0
list_measured text Listed.arguments = (tt, λ x l. (tt, λ xs l. ended (omega arith) (omega arith) (omega arith)))
list_measured text Listed.values = (tt, λ x l. (tt, λ xs l. ended (omega arith) (omega arith) (omega arith)))
list_measured text (Listed.variables base) = (tt, λ x l. (tt, λ xs l. ended (omega arith) (omega arith) (omega arith)))
list_measured text Listed.parameters = (tt, λ x l. (tt, λ xs l. ended (omega arith) (omega arith) (omega arith)))
list_measured text Listed.items = (tt, λ x l. (tt, λ xs l. ended (omega arith) (omega arith) (omega arith)))
list_measured text Listed.switch_items = (tt, λ x l. (tt, λ xs l. ended (omega arith) (omega arith) (omega arith)))
list_measured text Listed.outers = (tt, λ x l. (tt, λ xs l. ended (omega arith) (omega arith) (omega arith)))

further_measured : (l : Listed) (b : Bool) → Measures (Rule.more l) (grammar.further l b) 0 0
further_measured l true = (tt, λ t h. (tt, λ xs h. ended (omega arith) (omega arith) (omega arith)))
further_measured l false = (tt, λ xs h. ended (omega arith) (omega arith) (omega arith))

more_measured : (l : Listed) (b : Bool) → Measures (Rule.more l) (grammar.more_as l b) 0 0
more_measured l true = further_measured l (grammar.has_commas l)
more_measured l false = ended (omega arith) (omega arith) (omega arith)

size_measured : (b : Bool) → Measures Rule.size (grammar.size_as b) 0 0
size_measured true = (tt, λ t l. (tt, λ s l. ended (omega arith) (omega arith) (omega arith)))
size_measured false = ended (omega arith) (omega arith) (omega arith)

length_measured : (b : Bool) → Measures Rule.length (grammar.length_as b) 0 0
length_measured true = (tt, λ t l. ended (omega arith) (omega arith) (omega arith))
length_measured false = (tt, λ e l. (tt, λ t l. ended (omega arith) (omega arith) (omega arith)))

initialiser_measured : (b : Bool) → Measures Rule.initialiser (grammar.initialiser_as b) 0 0
initialiser_measured true = (tt, λ t l. (tt, λ i l. ended (omega arith) (omega arith) (omega arith)))
initialiser_measured false = ended (omega arith) (omega arith) (omega arith)

braced_measured : (es : List Expr) (b : Bool) (spent : ℕ) → most levels es ≤ spent → Measures Rule.given
    (grammar.braced es b) (max 0 (most levels es + 0)) spent
braced_measured es true spent h = (tt, λ t l. (tt, λ t l. ended (omega arith) (omega arith) (omega (arith, h))))
braced_measured es false spent h = (tt, λ t l. ended (omega arith) (omega arith) (omega (arith, h)))

given_measured : (b : Bool) → Measures Rule.given (grammar.given_as b) 0 0
given_measured true = (tt, λ t l. (tt, λ es l ts. braced_measured es (next_is mark.Comma ts) _ (omega arith)))
given_measured false = (tt, λ e l. ended (omega arith) (omega arith) (omega arith))

statement_measured : (f : StmtForm) → Measures Rule.statement (grammar.statement_as f) 0 0
statement_measured form.Block =
    (tt, λ t l. (tt, λ ss l. (tt, λ t l. ended (omega (arith, stmts_most ss)) (omega arith) (omega arith))))
statement_measured form.Value = (tt, λ e l. ended (omega (arith, value_levels e)) (omega arith) (omega arith))
statement_measured form.If = (tt, λ t l. (tt, λ e l. (tt, λ b l. ended (omega arith) (omega arith) (omega arith))))
statement_measured form.While = (tt, λ t l. (tt, λ e l. (tt, λ s l. ended (omega arith) (omega arith) (omega arith))))
statement_measured form.Do = (tt, λ t l. (tt, λ s l. (tt, λ u l. ended (omega arith) (omega arith) (omega arith))))
statement_measured form.For = (tt, λ t l. (tt, λ h l. (tt, λ s l. ended (omega arith) (omega arith) (omega arith))))
statement_measured form.Switch =
    (tt, λ t l. (tt, λ e l. (tt, λ is l. ended (omega (arith, items_most is)) (omega arith) (omega arith))))
statement_measured form.Break = (tt, λ t l. (tt, λ t l. ended (omega arith) (omega arith) (omega arith)))
statement_measured form.Continue = (tt, λ t l. (tt, λ t l. ended (omega arith) (omega arith) (omega arith)))
statement_measured form.Return = (tt, λ t l. (tt, λ e l. ended (omega arith) (omega arith) (omega arith)))

alternative_measured : (s : Stmt) (b : Bool) (spent : ℕ) → stmt_levels s ≤ spent
    → Measures Rule.branches (grammar.alternative_as s b) (max 0 (stmt_levels s + 0)) spent
alternative_measured s true spent h = (tt, λ t l. (tt, λ o l. ended (omega arith) (omega arith) (omega (arith, h))))
alternative_measured s false spent h = ended (omega arith) (omega arith) (omega (arith, h))

first_measured : (b c : Bool) → Measures Rule.first (grammar.first_as b c) 0 0
first_measured true c = (tt, λ vs l. ended (omega arith) (omega arith) (omega arith))
first_measured false true = (tt, λ t l. ended (omega arith) (omega arith) (omega arith))
first_measured false false = (tt, λ e l. ended (omega arith) (omega arith) (omega arith))

item_measured : (b : Bool) → Measures Rule.item (grammar.item_as b) 0 0
item_measured true = (tt, λ vs l. ended (omega arith) (omega arith) (omega arith))
item_measured false = (tt, λ s l. ended (omega arith) (omega arith) (omega arith))

switch_item_measured : (f : ItemForm) → Measures Rule.switch_item (grammar.switch_item_as f) 0 0
switch_item_measured label.Case = (tt, λ t l. (tt, λ e l. (tt, λ t l. ended (omega arith) (omega arith) (omega arith))))
switch_item_measured label.Default = (tt, λ t l. (tt, λ t l. ended (omega arith) (omega arith) (omega arith)))
switch_item_measured label.Item = (tt, λ s l. ended (omega arith) (omega arith) (omega arith))

outer_measured : (b : Bool) → Measures Rule.outer (grammar.outer_as b) 0 0
outer_measured true = (tt, λ h l. (tt, λ o l. ended (omega arith) (omega arith) (omega arith)))
outer_measured false = (tt, λ vs l. ended (omega arith) (omega arith) (omega arith))

definition_measured : (h : Head) (b : Bool) → Measures (Rule.body h) (grammar.definition h b) 0 0
definition_measured h true =
    (tt, λ t l. (tt, λ ss l. (tt, λ t l. ended (omega (arith, stmts_most ss)) (omega arith) (omega arith))))
definition_measured h false = tt

body_measured : (h : Head) (b : Bool) → Measures (Rule.body h) (grammar.body_as h b) 0 0
body_measured h true = (tt, λ t l. ended (omega arith) (omega arith) (omega arith))
body_measured h false = definition_measured h (all_named h.params)

parameters_measured : (f : ParamsForm) → Measures Rule.parameters (grammar.parameters_as f) 0 0
parameters_measured params.Empty = ended (omega arith) (omega arith) (omega arith)
parameters_measured params.OnlyVoid = (tt, λ t l. ended (omega arith) (omega arith) (omega arith))
parameters_measured params.Listed = (tt, λ ps l. ended (omega (arith, none_most ps)) (omega arith) (omega arith))

named_measured : (text : List ℕ) (base : Base) (place : ℕ) (b : Bool) → Measures Rule.parameter
    (grammar.named_as text base place b) 0 0
named_measured text base place true = (tt, λ t l. ended (omega arith) (omega arith) (omega arith))
named_measured text base place false = ended (omega arith) (omega arith) (omega arith)

-- each rule measures its value
measures : (text : List ℕ) (r : Rule) → Fair r → Measures r (form_of text r) 0 0
measures text Rule.any f = λ t. ended (omega arith) (omega arith) (omega arith)
measures text (Rule.token kind) f = λ t. ended (omega arith) (omega arith) (omega arith)
measures text Rule.type_name f = λ b. ended (omega arith) (omega arith) (omega arith)
measures text Rule.operand f = λ ts. operand_measured text (operand_at ts)
measures text Rule.postfix f =
    (tt, λ e l. (refl, λ y l. ended (omega (arith, l)) (omega (arith, l)) (omega (arith, l))))
measures text (Rule.increments e n) f = λ ts. increments_measured e n (increment_at ts) f
measures text Rule.unary f = λ ts. unary_measured (prefix_at ts)
measures text Rule.cast f = λ ts. cast_measured (cast_at ts)
measures text (Rule.precedence m) f = precedence_measured m
measures text (Rule.operators m left n) f = λ ts. operators_measured m left n (operator_at (m + 1) ts) f
measures text Rule.conditional f =
    (tt, λ e l ts. choice_measured e (next_is mark.Question ts) _ _ (omega arith) (omega arith))
measures text Rule.assignment f = (tt, λ e l ts. assigned_measured e (assignment_at ts) _ _ (omega arith) (omega arith))
measures text Rule.expression f =
    (tt, λ e l. (refl, λ y l. ended (omega (arith, l)) (omega (arith, l)) (omega (arith, l))))
measures text (Rule.commas left n) f = λ ts. commas_measured left n (next_is mark.Comma ts) f
measures text (Rule.closed m) f = (tt, λ e l. (tt, λ t l. ended (omega arith) (omega arith) (omega arith)))
measures text (Rule.ended m) f = λ ts. ended_measured m (next_is m ts)
measures text Rule.arguments f = λ ts. arguments_measured (next_is mark.CloseParen ts)
measures text (Rule.list l) f = list_measured text l
measures text (Rule.more l) f = λ ts. more_measured l (goes_on l ts)
measures text Rule.declaration f =
    (tt, λ b l. (tt, λ vs l. (tt, λ t l. ended (omega arith) (omega arith) (omega arith))))
measures text (Rule.variable base) f =
    (tt, λ t l. (tt, λ s l. (tt, λ i l. ended (omega arith) (omega arith) (omega arith))))
measures text Rule.size f = λ ts. size_measured (next_is mark.OpenBracket ts)
measures text Rule.length f = λ ts. length_measured (next_is mark.CloseBracket ts)
measures text Rule.initialiser f = λ ts. initialiser_measured (next_is mark.Assign ts)
measures text Rule.given f = λ ts. given_measured (next_is mark.OpenBrace ts)
measures text Rule.statement f = λ ts. statement_measured (form_at ts)
measures text Rule.condition f = (tt, λ t l. (tt, λ e l. ended (omega arith) (omega arith) (omega arith)))
measures text Rule.branches f = (tt, λ s l ts. alternative_measured s (else_at ts) _ (omega arith))
measures text Rule.until f = (tt, λ t l. (tt, λ e l. (tt, λ t l. ended (omega arith) (omega arith) (omega arith))))
measures text Rule.first f = λ ts. first_measured (type_at ts) (next_is mark.Semicolon ts)
measures text Rule.controls f = (tt, λ a l. (tt, λ b l. ended (omega arith) (omega arith) (omega arith)))
measures text Rule.for_head f = (tt, λ t l. (tt, λ a l. (tt, λ c l. ended (omega arith) (omega arith) (omega arith))))
measures text Rule.cases f = (tt, λ t l. (tt, λ is l. (tt, λ t l. ended (omega arith) (omega arith) (omega arith))))
measures text Rule.item f = λ ts. item_measured (type_at ts)
measures text Rule.switch_item f = λ ts. switch_item_measured (item_at ts)
measures text Rule.outer f = λ ts. outer_measured (function_at ts)
measures text Rule.function_head f =
    (tt, λ b l. (tt, λ t l. (tt, λ t l. (tt, λ ps l. (tt, λ t l. ended (omega arith) (omega arith) (omega arith))))))
measures text (Rule.body h) f = λ ts. body_measured h (next_is mark.Semicolon ts)
measures text Rule.parameters f = λ ts. parameters_measured (params_at ts)
measures text Rule.parameter f = λ ts. (tt, λ base l us. named_measured text base (first_start ts) (name_at us))

-- What a front says of its levels and its tokens.
pub record Sized (r : Rule) (x : Result r) (n : ℕ) (ts rest : List Token) : Type 0 where
  pub counted : n ≡ depth r x
  pub above : floor r ≤ n
  pub within : n + spare r + length rest ≤ floor r + length ts

-- what stands before and what follows together
record Both (r : Rule) (x : Result r) (low spent n : ℕ) (ts rest : List Token) : Type 0 where
  counted : max low n ≡ depth r x
  above : floor r ≤ max low n
  within : max low n + spare r + length rest ≤ floor r + spent + length ts

both : (text : List ℕ) {r : Rule} {g : Grammar (Result r)} {ts rest : List Token} {x : Result r} {n : ℕ} (low spent : ℕ)
    → By text r g ts x n rest → Measures r g low spent → Both r x low spent n ts rest
both text low spent By.gives m =
    record { counted = omega (arith, m.counted); above = omega (arith, m.above); within = omega (arith, m.within) }
both text low spent (By.any {t = t}) m =
    let e = m t in record {
      counted = omega (arith, e.counted);
      above = omega (arith, e.above);
      within = omega
          (arith, e.within);
    }
both text low spent (By.token {t = t} k) m =
    let e = m t in record {
      counted = omega (arith, e.counted);
      above = omega (arith, e.above);
      within = omega
          (arith, e.within);
    }
both text low spent (By.words {base = b} {ts = ts} k) m =
    let e = m b in
    record {
      counted =
          omega (arith, e.counted);
      above = omega (arith, e.above);
      within = omega (arith, e.within, words_shorter ts);
    }
both text {r =
    r} low spent (By.part {q = q} {d = d} {m = k} {n = n} {next = next} {y = y} {x = x} {us = us} {rest = rest} p e) m =
    let a = both text 0 0 p (measures text q m.0) in
    let c : k ≡ depth q y = omega (arith, a.counted) in
    let l : floor q ≤ depth q y = omega (arith, a.above, a.counted) in
    let b = both text (max low (depth q y + d)) (spent + (depth q y + spare q - floor q)) e
    (subst (λ j. Measures r (next y j) (max low (depth q y + d)) (spent + (depth q y + spare q - floor q))) (sym c)
    (m.1 y l)) in
    record {
      counted = omega (arith, c, b.counted);
      above = omega (arith, c, b.above);
      within = omega (arith, c, l, b.within, a.within);
    }
both text low spent (By.deep {d = d} e) m =
    let b = both text (max low d) spent e m in
    record { counted = omega (arith, b.counted); above = omega (arith, b.above); within = omega (arith, b.within) }
both text low spent (By.look {ts = ts} e) m = both text low spent e (m ts)

pub sized : {text : List ℕ} {r : Rule} {ts rest : List Token} {x : Result r} {n : ℕ} → Fair r → Front text r ts x n
    rest → Sized r x n ts rest
sized {text = text} {r = r} f d =
    let b = both text 0 0 d (measures text r f) in
    record { counted = omega (arith, b.counted); above = omega (arith, b.above); within = omega (arith, b.within) }
