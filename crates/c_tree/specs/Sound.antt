-- What holds of a typed source that a check of types gives: its functions, cells, lengths, arguments, numbers and types
-- fit each other, and each variable is named where it is in scope.
use Rattle.std.specs.Prelude.{
  ◌≡◌,
  ◌≢◌,
  ◌⊎◌,
  ℕ,
  ◌+◌,
  ◌<◌,
  ◌≤◌,
  ◌==◌,
  ℤ,
  Bool,
  true,
  false,
  ◌||◌,
  List,
  [],
  ◌∷◌,
  ◌++◌,
  length,
  map,
  replicate,
  sum,
  Contains,
  slice_get,
  codes,
  Option,
  Some,
  None,
}
use Rattle.std.specs.Int.{is_in_range}
use Rattle.int_ops.specs.declared.types.IntType.{IntType}
use Rattle.int_ops.specs.declared.types.IntType.TheVariants as type
use Rattle.int_ops.specs.declared.operators.BinOp.{BinOp}
use Rattle.int_ops.specs.declared.operators.BinOp.TheVariants as op
use Rattle.int_ops.specs.Ranges.{Range}
use Rattle.int_ops.specs.Common.{promoted, common_type}
use Rattle.c_tree.specs.declared.expr.Base.{Base}
use Rattle.c_tree.specs.declared.expr.Base.TheVariants as base
use Rattle.c_tree.specs.declared.typed_expr.CellAt.{CellAt}
use Rattle.c_tree.specs.declared.typed_expr.CellAt.TheVariants as cell
use Rattle.c_tree.specs.declared.typed_expr.Callee.{Callee}
use Rattle.c_tree.specs.declared.typed_expr.Callee.TheVariants as callee
use Rattle.c_tree.specs.TypedExpr.{TypedExpr, TypedKind, TypedExprs}
use Rattle.c_tree.specs.TypedStmt.{
  TypedInit,
  TypedVar,
  TypedStmt,
  OtherTyped,
  TypedForHead,
  TypedStmts,
  TypedItem,
  TypedItems,
}
use Rattle.c_tree.specs.Typed.{TypedFunction, Typed}
use Rattle.c_tree.specs.Levels.{source_levels}
use Rattle.c_tree.specs.TypedParts.{
  base_of,
  place_of,
  line_of,
  Class,
  compares,
  shifts,
  computes,
  class,
  cells_of,
  size,
}
use Rattle.cov_base.specs.Limits.{array_limit, level_limit, line_limit, parameter_limit}

-- A variable: its first cell, and its length where it is an array.
pub record Variable : Type 0 where
  pub first : CellAt
  pub length : Option ℕ

-- What a part of a function may name: the functions, the variables in scope, the types of the global and the local
-- cells and how many there are, and the function's own result.
pub record Scope : Type 0 where
  pub functions : List TypedFunction
  pub variables : List Variable
  pub global_types : ℕ → IntType
  pub globals : ℕ
  pub local_types : ℕ → IntType
  pub cells : ℕ
  pub result : Base

-- A line of a source has at most as many before it as a source has bytes.
pub record IsLine (line : ℕ) : Type 0 where
  pub first : 1 ≤ line
  pub last : line ≤ line_limit

-- each element of a list is so
abbrev pub Each : {A : Type 0} → (A → Type 0) → List A → Type 0
Each P [] = Unit {0}
Each P (x ∷ xs) = P x × Each P xs

-- it is an integer type, so that there is a value
abbrev pub HasValue : Base → Type 0
HasValue b = (t : IntType) × (b ≡ base.Int t)

-- it is an integer type that a promotion leaves as it is
abbrev pub IsPromoted : Base → Type 0
IsPromoted b = (t : IntType) × (b ≡ base.Int t) × (promoted t ≡ t)

-- so many cells from one on are there, and have this type
abbrev pub HasCells : Scope → CellAt → ℕ → IntType → Type 0
HasCells s (cell.Local first) count t =
    (first + count ≤ s.cells) × ((k : ℕ) → k < count → s.local_types (first + k) ≡ t)
HasCells s (cell.Global first) count t =
    (first + count ≤ s.globals) × ((k : ℕ) → k < count → s.global_types (first + k) ≡ t)

-- a variable of this length is in scope at this cell, and has this type
abbrev pub IsVariable : Scope → CellAt → Option ℕ → Base → Type 0
IsVariable s c n b = Contains s.variables (record { first = c; length = n }) ×
    ((t : IntType) × (b ≡ base.Int t) × HasCells s c (cells_of n) t)

-- the number is one that an array may have as its length
pub record IsLength (n : ℕ) : Type 0 where
  pub some : 1 ≤ n
  pub most : n ≤ array_limit

-- the types of a list of expressions
abbrev pub bases_of : TypedExprs → List Base
bases_of TypedExprs.End = []
bases_of (TypedExprs.More e es) = base_of e ∷ bases_of es

-- integer types as the types of expressions
abbrev pub ints : List IntType → List Base
ints [] = []
ints (t ∷ ts) = base.Int t ∷ ints ts

-- The called function is there, takes arguments of these types and gives this type.
abbrev pub Calls : Scope → Callee → List Base → Base → Type 0
Calls s (callee.Function f) args b =
    (function : TypedFunction) × (slice_get s.functions f ≡ Some function) × (args ≡ ints function.params) ×
    (b ≡ function.result)
Calls s callee.GetChar args b = (args ≡ []) × (b ≡ base.Int type.Int)
Calls s callee.PutChar args b = (args ≡ base.Int type.Int ∷ []) × (b ≡ base.Int type.Int)
Calls s callee.Exit args b = (args ≡ base.Int type.Int ∷ []) × (b ≡ base.Void)

-- the types of two operands and of the result
abbrev pub Operates : Class → Base → Base → Base → Type 0
Operates compares left right b = (left ≡ right) × IsPromoted left × (b ≡ base.Int type.Int)
Operates shifts left right b = (left ≡ b) × IsPromoted b × IsPromoted right
Operates computes left right b = (left ≡ b) × (right ≡ b) × IsPromoted b

-- The types of what an operator changes and of the value: an operator that computes takes the value in the type that
-- both have in common, and a shift takes it promoted.
abbrev pub Changes : Class → Base → Base → Type 0
Changes compares target value = ⊥
Changes shifts target value = IsPromoted value
Changes computes target value = (t u : IntType) × (target ≡ base.Int t) × (value ≡ base.Int u) × (common_type t u ≡ u)

-- the types of what is assigned to and of the value
abbrev pub Suits : Option BinOp → Base → Base → Type 0
Suits None target value = target ≡ value
Suits (Some o) target value = Changes (class o) target value

-- the operator is `+` or `-`
abbrev pub IsStep : BinOp → Type 0
IsStep op.Add = Unit {0}
IsStep op.Sub = Unit {0}
IsStep _ = ⊥

-- the form names a cell, so that it can be assigned to
abbrev pub NamesCell : TypedExpr → Type 0
NamesCell (TypedExpr.At (TypedKind.Name c) base place line) = Unit {0}
NamesCell (TypedExpr.At (TypedKind.Index c n p l e) base place line) = Unit {0}
NamesCell _ = ⊥

-- the form stands in the source: it is no conversion that the source doesn't write
abbrev pub IsWritten : TypedExpr → Type 0
IsWritten (TypedExpr.At (TypedKind.Convert e) base place line) = ⊥
IsWritten _ = Unit {0}

-- a conversion that the source doesn't write has the place and line of what it converts
abbrev pub StandsAt : TypedKind → ℕ → ℕ → Type 0
StandsAt (TypedKind.Convert e) place line = (place ≡ place_of e) × (line ≡ line_of e)
StandsAt _ place line = Unit {0}

abbrev mutual
  -- an expression, whose line is one of a source
  pub SoundExpr : Scope → TypedExpr → Type 0
  SoundExpr s (TypedExpr.At kind base place line) = IsLine line × StandsAt kind place line × SoundKind s kind base

  -- Its form, for its type. Where the source's rules convert nothing, the part is written: in an index, a cast, `!`,
  -- `&&`, `||`, a comma and the condition of `?:`, and under a conversion.
  pub SoundKind : Scope → TypedKind → Base → Type 0
  SoundKind s (TypedKind.Name c) b = IsVariable s c None b
  SoundKind s (TypedKind.Number n t) b = (b ≡ base.Int t) × Range t n
  SoundKind s TypedKind.EofName b = b ≡ base.Int type.Int
  SoundKind s (TypedKind.Call f args) b = Calls s f (bases_of args) b × SoundExprs s args
  SoundKind s (TypedKind.Index c n place line e) b =
      IsLine line × IsLength n × IsVariable s c (Some n) b × HasValue (base_of e) × IsWritten e × SoundExpr s e
  SoundKind s (TypedKind.Convert e) b =
      HasValue b × HasValue (base_of e) × (b ≢ base_of e) × IsWritten e × SoundExpr s e
  SoundKind s (TypedKind.Plus e) b = IsPromoted b × (base_of e ≡ b) × SoundExpr s e
  SoundKind s (TypedKind.Minus e) b = IsPromoted b × (base_of e ≡ b) × SoundExpr s e
  SoundKind s (TypedKind.Complement e) b = IsPromoted b × (base_of e ≡ b) × SoundExpr s e
  SoundKind s (TypedKind.Not e) b = (b ≡ base.Int type.Int) × HasValue (base_of e) × IsWritten e × SoundExpr s e
  SoundKind s (TypedKind.Cast to e) b =
      (b ≡ to) × ((to ≡ base.Void) ⊎ HasValue (base_of e)) × IsWritten e × SoundExpr s e
  SoundKind s (TypedKind.Binary o l r) b = Operates (class o) (base_of l) (base_of r) b × SoundExpr s l × SoundExpr s r
  SoundKind s (TypedKind.AndAlso l r) b =
      (b ≡ base.Int type.Int) × HasValue (base_of l) × HasValue (base_of r) × IsWritten l × IsWritten r × SoundExpr s l
      × SoundExpr s r
  SoundKind s (TypedKind.OrElse l r) b =
      (b ≡ base.Int type.Int) × HasValue (base_of l) × HasValue (base_of r) × IsWritten l × IsWritten r × SoundExpr s l
      × SoundExpr s r
  SoundKind s (TypedKind.Choose c x y) b =
      HasValue (base_of c) × ((b ≡ base.Void) ⊎ IsPromoted b) × (base_of x ≡ b) × (base_of y ≡ b)
      × IsWritten c × SoundExpr s c × SoundExpr s x × SoundExpr s y
  SoundKind s (TypedKind.Assign o target value) b =
      NamesCell target × (base_of target ≡ b) × Suits o b (base_of value) × SoundExpr s target × SoundExpr s value
  SoundKind s (TypedKind.Before o target) b = IsStep o × NamesCell target × (base_of target ≡ b) × SoundExpr s target
  SoundKind s (TypedKind.After o target) b = IsStep o × NamesCell target × (base_of target ≡ b) × SoundExpr s target
  SoundKind s (TypedKind.Comma l r) b = (base_of r ≡ b) × IsWritten l × IsWritten r × SoundExpr s l × SoundExpr s r

  -- each of the expressions is sound
  pub SoundExprs : Scope → TypedExprs → Type 0
  SoundExprs s TypedExprs.End = Unit {0}
  SoundExprs s (TypedExprs.More e es) = SoundExpr s e × SoundExprs s es

-- an expression that stands alone, whose value is let go
abbrev pub SoundAlone : Scope → TypedExpr → Type 0
SoundAlone s e = IsWritten e × SoundExpr s e

-- an expression with a value, as a condition
abbrev pub SoundValue : Scope → TypedExpr → Type 0
SoundValue s e = HasValue (base_of e) × IsWritten e × SoundExpr s e

-- an expression whose value nothing uses, where it is there
abbrev pub SoundIf : Scope → Option TypedExpr → Type 0
SoundIf s None = Unit {0}
SoundIf s (Some e) = SoundAlone s e

-- a condition, where it is there
abbrev pub SoundTest : Scope → Option TypedExpr → Type 0
SoundTest s None = Unit {0}
SoundTest s (Some e) = SoundValue s e

-- an expression of this type
abbrev pub SoundAt : Scope → IntType → TypedExpr → Type 0
SoundAt s t e = (base_of e ≡ base.Int t) × SoundExpr s e

-- The initialiser of a variable: one for a scalar, a list that isn't empty and no longer than the array for an array.
abbrev pub SoundInit : Scope → IntType → Option ℕ → TypedInit → Type 0
SoundInit s t n TypedInit.Absent = Unit {0}
SoundInit s t None (TypedInit.One e) = SoundAt s t e
SoundInit s t (Some n) (TypedInit.Several es) = (1 ≤ length es) × (length es ≤ n) × Each (SoundAt s t) es
SoundInit s t n _ = ⊥

-- a local variable: its cells are there and have its type, and its initialiser fits it
pub record SoundVar (s : Scope) (v : TypedVar) : Type 0 where
  pub line : IsLine v.line
  pub long : IsLength (size v)
  pub cells : HasCells s (cell.Local v.cell) (size v) v.number_type
  pub init : SoundInit s v.number_type v.length v.init

-- with this variable in scope too
abbrev pub with_one : Scope → TypedVar → Scope
with_one s v = record s { variables = record { first = cell.Local v.cell; length = v.length } ∷ s.variables }

-- Variables that are declared one behind another: each is in scope from its own initialiser on.
abbrev pub SoundVars : Scope → List TypedVar → Type 0
SoundVars s [] = Unit {0}
SoundVars s (v ∷ vs) = SoundVar (with_one s v) v × SoundVars (with_one s v) vs

-- what is in scope behind them
abbrev pub with_all : Scope → List TypedVar → Scope
with_all s [] = s
with_all s (v ∷ vs) = with_all (with_one s v) vs

-- What is in scope behind a statement: a declaration's variables stay so to the end of the list that it stands in.
abbrev pub behind : Scope → TypedStmt → Scope
behind s (TypedStmt.Vars vars) = with_all s vars
behind s _ = s

-- what is in scope behind an item of a `switch`
abbrev pub behind_item : Scope → TypedItem → Scope
behind_item s (TypedItem.Item a) = behind s a
behind_item s _ = s

-- what is in scope in the other parts of a `for`
abbrev pub behind_first : Scope → OtherTyped → Scope
behind_first s OtherTyped.Nothing = s
behind_first s (OtherTyped.There a) = behind s a

-- what is in scope in the body of a `for` (C17 6.8.5 paragraph 5)
abbrev pub behind_head : Scope → TypedForHead → Scope
behind_head s (TypedForHead.Head first test step) = behind_first s first

-- The statement stands in a loop or a switch, so that `break` has where to go; or in a loop, so that `continue` has.
pub record Inside : Type 0 where
  pub breaks : Bool
  pub continues : Bool

-- the values of the cases of a switch, and how many defaults it has
abbrev pub cases : TypedItems → List ℤ
cases TypedItems.Last = []
cases (TypedItems.Further (TypedItem.Case n place) is) = n ∷ cases is
cases (TypedItems.Further _ is) = cases is

-- how many default labels there are
abbrev pub defaults : TypedItems → ℕ
defaults TypedItems.Last = 0
defaults (TypedItems.Further (TypedItem.Default place) is) = 1 + defaults is
defaults (TypedItems.Further _ is) = defaults is

-- no element stands twice
abbrev pub AllDiffer : {A : Type 0} → List A → Type 0
AllDiffer [] = Unit {0}
AllDiffer (x ∷ xs) = Each (λ y. x ≢ y) xs × AllDiffer xs

-- what a function gives back at a `return`
abbrev pub SoundReturn : Scope → Option TypedExpr → Type 0
SoundReturn s None = s.result ≡ base.Void
SoundReturn s (Some e) = HasValue s.result × (base_of e ≡ s.result) × SoundExpr s e

-- the first part of a `for` is a declaration or an expression
abbrev pub IsFirst : OtherTyped → Type 0
IsFirst OtherTyped.Nothing = Unit {0}
IsFirst (OtherTyped.There (TypedStmt.Vars vars)) = Unit {0}
IsFirst (OtherTyped.There (TypedStmt.Value e)) = Unit {0}
IsFirst _ = ⊥

-- inside a loop
abbrev pub looped : Inside
looped = record { breaks = true; continues = true }

abbrev mutual
  -- a statement that stands so
  pub SoundStmt : Scope → Inside → TypedStmt → Type 0
  SoundStmt s i (TypedStmt.Vars vars) = (1 ≤ length vars) × SoundVars s vars
  SoundStmt s i (TypedStmt.Block ss) = SoundStmts s i ss
  SoundStmt s i TypedStmt.Empty = Unit {0}
  SoundStmt s i (TypedStmt.Value e) = SoundAlone s e
  SoundStmt s i (TypedStmt.If c a other) = SoundValue s c × SoundStmt s i a × SoundOther s i other
  SoundStmt s i (TypedStmt.While c a) = SoundValue s c × SoundStmt s looped a
  SoundStmt s i (TypedStmt.DoWhile a c line) = SoundStmt s looped a × SoundValue s c × IsLine line
  SoundStmt s i (TypedStmt.For head a) = SoundHead s i head × SoundStmt (behind_head s head) looped a
  SoundStmt s i (TypedStmt.Switch e is) =
      IsPromoted (base_of e) × SoundExpr s e × AllDiffer (cases is) × (defaults is ≤ 1)
      × SoundItems s (record { breaks = true; continues = i.continues }) (base_of e) is
  SoundStmt s i (TypedStmt.Break place line) = (i.breaks ≡ true) × IsLine line
  SoundStmt s i (TypedStmt.Continue place line) = (i.continues ≡ true) × IsLine line
  SoundStmt s i (TypedStmt.Return e place line) = IsLine line × SoundReturn s e

  -- a statement that may be left out is sound
  pub SoundOther : Scope → Inside → OtherTyped → Type 0
  SoundOther s i OtherTyped.Nothing = Unit {0}
  SoundOther s i (OtherTyped.There a) = SoundStmt s i a

  -- the parentheses of a `for` are sound
  pub SoundHead : Scope → Inside → TypedForHead → Type 0
  SoundHead s i (TypedForHead.Head first test step) =
      IsFirst first × SoundOther s i first × SoundTest (behind_first s first) test × SoundIf (behind_first s first) step

  -- statements are sound, each with what is in scope behind the one before
  pub SoundStmts : Scope → Inside → TypedStmts → Type 0
  SoundStmts s i TypedStmts.End = Unit {0}
  SoundStmts s i (TypedStmts.More a rest) = SoundStmt s i a × SoundStmts (behind s a) i rest

  -- an item of a switch over a value of this type, to which the values of the cases are converted
  pub SoundItem : Scope → Inside → Base → TypedItem → Type 0
  SoundItem s i b (TypedItem.Case n place) = (t : IntType) × (b ≡ base.Int t) × Range t n
  SoundItem s i b (TypedItem.Default place) = Unit {0}
  SoundItem s i b (TypedItem.Item a) = SoundStmt s i a

  -- labels and items of a `switch` are sound
  pub SoundItems : Scope → Inside → Base → TypedItems → Type 0
  SoundItems s i b TypedItems.Last = Unit {0}
  SoundItems s i b (TypedItems.Further item is) = SoundItem s i b item × SoundItems (behind_item s item) i b is

-- the variables of a declaration that may be left out, or of a list of statements, in the order of the text
abbrev mutual
  -- the variables that a statement declares, in the order of the text
  pub declared : TypedStmt → List TypedVar
  declared (TypedStmt.Vars vars) = vars
  declared (TypedStmt.Block ss) = declared_in ss
  declared (TypedStmt.If c a other) = declared a ++ declared_other other
  declared (TypedStmt.While c a) = declared a
  declared (TypedStmt.DoWhile a c line) = declared a
  declared (TypedStmt.For head a) = declared_head head ++ declared a
  declared (TypedStmt.Switch e is) = declared_items is
  declared _ = []

  -- of a statement that may be left out
  pub declared_other : OtherTyped → List TypedVar
  declared_other OtherTyped.Nothing = []
  declared_other (OtherTyped.There a) = declared a

  -- of the parentheses of a `for`
  pub declared_head : TypedForHead → List TypedVar
  declared_head (TypedForHead.Head first test step) = declared_other first

  -- of statements
  pub declared_in : TypedStmts → List TypedVar
  declared_in TypedStmts.End = []
  declared_in (TypedStmts.More a rest) = declared a ++ declared_in rest

  -- of a label or an item of a `switch`
  pub declared_item : TypedItem → List TypedVar
  declared_item (TypedItem.Case n place) = []
  declared_item (TypedItem.Default place) = []
  declared_item (TypedItem.Item a) = declared a

  -- of labels and items
  pub declared_items : TypedItems → List TypedVar
  declared_items TypedItems.Last = []
  declared_items (TypedItems.Further item is) = declared_item item ++ declared_items is

-- Each variable's first cell stands behind the cells before it; behind all of them stands the last.
abbrev pub Numbered : ℕ → List TypedVar → ℕ → Type 0
Numbered next [] last = next ≡ last
Numbered next (v ∷ vs) last = (v.cell ≡ next) × Numbered (next + size v) vs last

-- a byte that may stand in a name, and one that may begin it
abbrev pub is_letter : ℕ → Bool
is_letter c = is_in_range 65 90 c || is_in_range 97 122 c || c == 95

-- the byte is a digit (C17 6.4.2.1 paragraph 1)
abbrev pub is_digit : ℕ → Bool
is_digit c = is_in_range 48 57 c

-- the bytes are a name: a letter or `_`, and then letters, digits and `_` (C17 6.4.2.1 paragraphs 1 and 2)
abbrev pub IsName : List ℕ → Type 0
IsName [] = ⊥
IsName (c ∷ cs) = (is_letter c ≡ true) × Each (λ b. (is_letter b || is_digit b) ≡ true) cs

-- the variables of these lengths whose cells stand behind one another, from a number on
abbrev pub standing : (ℕ → CellAt) → ℕ → List (Option ℕ) → List Variable
standing at next [] = []
standing at next (n ∷ ns) = record { first = at next; length = n } ∷ standing at (next + cells_of n) ns

-- what a function's body may name from its start on: its parameters, each in a cell of its own, and the globals
abbrev pub at_start : TypedFunction → List Variable → List Variable
at_start f globals = standing cell.Local 0 (replicate (length f.params) None) ++ globals

-- A function, for the functions and the globals of its source.
pub record SoundFunction (functions : List TypedFunction) (variables : List Variable) (global_types : ℕ → IntType)
    (globals : ℕ) (f : TypedFunction) : Type 0 where
  pub name : IsName f.name
  pub line : IsLine f.line
  pub params : length f.params ≤ parameter_limit
  pub local_types : ℕ → IntType
  pub param_types : (k : ℕ) (t : IntType) → slice_get f.params k ≡ Some t → local_types k ≡ t
  pub cells : Numbered (length f.params) (declared_in f.body) f.cells
  pub body : SoundStmts (record {
    functions = functions;
    variables = at_start f variables;
    global_types = global_types;
    globals = globals;
    local_types = local_types;
    cells = f.cells;
    result = f.result;
  })
      (record { breaks = false; continues = false }) f.body

-- the functions' names, behind those of the functions that are there before the text
abbrev pub names : List TypedFunction → List (List ℕ)
names functions = codes "getchar" ∷ codes "putchar" ∷ codes "exit" ∷ map (λ f. f.name) functions

-- `int main(void)`
pub record IsMain (f : TypedFunction) : Type 0 where
  pub name : f.name ≡ codes "main"
  pub result : f.result ≡ base.Int type.Int
  pub params : f.params ≡ []

-- A typed source is sound. The tree holds no declarations of globals: there are lengths of variables that, one behind
-- another, take up its globals, and there is a type for each of these cells.
pub record Sound (t : Typed) : Type 0 where
  pub global_lengths : List (Option ℕ)
  pub long : Each (λ n. IsLength (cells_of n)) global_lengths
  pub filled : sum (map cells_of global_lengths) ≡ length t.globals
  pub global_types : ℕ → IntType
  pub globals : (k : ℕ) (n : ℤ) → slice_get t.globals k ≡ Some n → Range (global_types k) n
  pub functions : Each (SoundFunction t.functions (standing cell.Global 0 global_lengths) global_types
      (length t.globals)) t.functions
  pub names : AllDiffer (names t.functions)
  pub main : (f : TypedFunction) × (slice_get t.functions t.main ≡ Some f) × IsMain f
  pub levels : source_levels t ≤ level_limit
