-- The grammar of C17 6.5 to 6.9, as far as the language goes: which tokens are what, one case for each production. No
-- case looks at tokens behind its own.
use Rattle.std.specs.Prelude.{◌≡◌, ℕ, suc, ℤ, Bool, true, false, List, [], ◌∷◌, ◌++◌, Option, Some, None}
use Rattle.int_ops.specs.declared.operators.BinOp.{BinOp}
use Rattle.int_ops.specs.declared.operators.BinOp.TheVariants as op
use Rattle.int_ops.specs.declared.types.IntType.{IntType}
use Rattle.c_tokens.specs.declared.token.Keyword.{Keyword}
use Rattle.c_tokens.specs.declared.token.Keyword.TheVariants as key
use Rattle.c_tokens.specs.declared.token.Punct.{Punct}
use Rattle.c_tokens.specs.declared.token.Punct.TheVariants as mark
use Rattle.c_tokens.specs.declared.token.Token.{Token}
use Rattle.c_tokens.specs.declared.token.TokenKind.TheVariants as kind
use Rattle.c_tree.specs.declared.expr.Base.{Base}
use Rattle.c_tree.specs.Expr.{Expr, Kind}
use Rattle.c_tree.specs.Stmt.{Size, Init, Var, Stmt, OtherStmt, ForHead, SwitchItem}
use Rattle.c_tree.specs.Tree.{Param, Head, Outer, Tree}
use Rattle.c_tree.specs.TreeView.{exprs_of, stmts_of, items_of}
use Rattle.c_grammar.specs.declared.begins.UnaryOperator.{UnaryOperator}
use Rattle.c_grammar.specs.declared.begins.UnaryOperator.TheVariants as unary
use Rattle.c_grammar.specs.declared.begins.BinaryOperator.{BinaryOperator}
use Rattle.c_grammar.specs.declared.begins.BinaryOperator.TheVariants as binary
use Rattle.c_grammar.specs.Words.{name_of, is_type_word, key_of, base_at}
use Rattle.c_grammar.specs.Operators.{at, signed, joined, operator_precedence}
use Rattle.c_grammar.specs.Forms.{variable_at, head_at, named_param, nameless_param, all_named, first_start}
use Rattle.c_grammar.specs.Rules.{Listed, Member}
use Rattle.c_grammar.specs.Derivations.{end_from}

-- The token is this mark (own).
pub record IsMark (m : Punct) (t : Token) : Type 0 where
  pub is : t.kind ≡ kind.Mark m

-- The token is this keyword (own).
pub record IsKey (k : Keyword) (t : Token) : Type 0 where
  pub is : t.kind ≡ kind.Key k

-- The token is a name (own).
pub record IsName (t : Token) : Type 0 where
  pub is : t.kind ≡ kind.Name

-- each of the tokens is a word of a type (C17 6.7.2 paragraph 1)
abbrev pub AreTypeWords : List Token → Type 0
AreTypeWords [] = Unit {0}
AreTypeWords (t ∷ ts) = (is_type_word (key_of (Some t.kind)) ≡ true) × AreTypeWords ts

-- The tokens are the words of this type, in any order (C17 6.7.2 paragraph 2).
pub record IsType (tokens : List Token) (base : Base) : Type 0 where
  pub words : AreTypeWords tokens
  pub names : base_at tokens ≡ Some base

-- `++` adds, `--` subtracts (C17 6.5.2.4 paragraph 2, 6.5.3.1 paragraph 2).
pub data Increments : BinOp → Token → Type 0 where
  plus_plus : {t : Token} → IsMark mark.PlusPlus t → Increments op.Add t
  minus_minus : {t : Token} → IsMark mark.MinusMinus t → Increments op.Sub t

-- The marks of unary operators (C17 6.5.3 paragraph 1).
pub data Signs : UnaryOperator → Token → Type 0 where
  plus : {t : Token} → IsMark mark.Plus t → Signs unary.Plus t
  minus : {t : Token} → IsMark mark.Minus t → Signs unary.Minus t
  complement : {t : Token} → IsMark mark.Tilde t → Signs unary.Complement t
  not : {t : Token} → IsMark mark.Not t → Signs unary.Not t

-- The marks of binary operators (C17 6.5.5 to 6.5.14).
pub data Operates : BinaryOperator → Token → Type 0 where
  multiplies : {t : Token} → IsMark mark.Star t → Operates (binary.Plain op.Mul) t
  divides : {t : Token} → IsMark mark.Slash t → Operates (binary.Plain op.Div) t
  takes_rest : {t : Token} → IsMark mark.Percent t → Operates (binary.Plain op.Rem) t
  adds : {t : Token} → IsMark mark.Plus t → Operates (binary.Plain op.Add) t
  subtracts : {t : Token} → IsMark mark.Minus t → Operates (binary.Plain op.Sub) t
  shifts_left : {t : Token} → IsMark mark.ShiftLeft t → Operates (binary.Plain op.Shl) t
  shifts_right : {t : Token} → IsMark mark.ShiftRight t → Operates (binary.Plain op.Shr) t
  is_less : {t : Token} → IsMark mark.Less t → Operates (binary.Plain op.Less) t
  is_greater : {t : Token} → IsMark mark.Greater t → Operates (binary.Plain op.Greater) t
  is_at_most : {t : Token} → IsMark mark.LessEqual t → Operates (binary.Plain op.LessEqual) t
  is_at_least : {t : Token} → IsMark mark.GreaterEqual t → Operates (binary.Plain op.GreaterEqual) t
  is_equal : {t : Token} → IsMark mark.EqualEqual t → Operates (binary.Plain op.Equal) t
  differs : {t : Token} → IsMark mark.NotEqual t → Operates (binary.Plain op.NotEqual) t
  has_both : {t : Token} → IsMark mark.And t → Operates (binary.Plain op.And) t
  has_one : {t : Token} → IsMark mark.Caret t → Operates (binary.Plain op.Xor) t
  has_any : {t : Token} → IsMark mark.Or t → Operates (binary.Plain op.Or) t
  both : {t : Token} → IsMark mark.AndAnd t → Operates binary.LogicalAnd t
  either : {t : Token} → IsMark mark.OrOr t → Operates binary.LogicalOr t

-- The marks of assignments; `=` has no operator (C17 6.5.16 paragraph 1).
pub data Assigns : Option BinOp → Token → Type 0 where
  gives_it : {t : Token} → IsMark mark.Assign t → Assigns None t
  multiplies_it : {t : Token} → IsMark mark.StarAssign t → Assigns (Some op.Mul) t
  divides_it : {t : Token} → IsMark mark.SlashAssign t → Assigns (Some op.Div) t
  rests_it : {t : Token} → IsMark mark.PercentAssign t → Assigns (Some op.Rem) t
  adds_to_it : {t : Token} → IsMark mark.PlusAssign t → Assigns (Some op.Add) t
  subtracts_from_it : {t : Token} → IsMark mark.MinusAssign t → Assigns (Some op.Sub) t
  shifts_it_left : {t : Token} → IsMark mark.ShiftLeftAssign t → Assigns (Some op.Shl) t
  shifts_it_right : {t : Token} → IsMark mark.ShiftRightAssign t → Assigns (Some op.Shr) t
  meets_it : {t : Token} → IsMark mark.AndAssign t → Assigns (Some op.And) t
  flips_it : {t : Token} → IsMark mark.CaretAssign t → Assigns (Some op.Xor) t
  joins_it : {t : Token} → IsMark mark.OrAssign t → Assigns (Some op.Or) t

-- A statement that ends in an `if` without `else`: an `else` behind it would belong to that `if` (C17 6.8.4.1
-- paragraph 3).
abbrev mutual
  pub takes_else : Stmt → Bool
  takes_else (Stmt.If e s other) = other_takes_else other
  takes_else (Stmt.While e s) = takes_else s
  takes_else (Stmt.For head s) = takes_else s
  takes_else _ = false

  -- no second substatement takes it, and else the second one may
  pub other_takes_else : OtherStmt → Bool
  other_takes_else OtherStmt.Nothing = true
  other_takes_else (OtherStmt.There s) = takes_else s

-- What the grammar tells apart (C17 6.5 to 6.9).
pub data Symbol : Type 0 where
  primary : Symbol
  postfix : Symbol
  unary_expression : Symbol
  cast : Symbol
  binary_expression : ℕ → Symbol
  conditional : Symbol
  assignment : Symbol
  expression : Symbol
  arguments : Symbol
  -- a list with commas between its members, of which it has one at least, and one of members that follow one another
  separated : Listed → Symbol
  following : Listed → Symbol
  declaration : Symbol
  variable : Base → Symbol
  size : Symbol
  initialiser : Symbol
  statement : Symbol
  for_first : Symbol
  left_out : Punct → Symbol
  item : Symbol
  switch_item : Symbol
  outer : Symbol
  function_head : Symbol
  parameters : Symbol
  parameter : Symbol

-- what a symbol's tokens are
abbrev pub Value : Symbol → Type 0
Value arguments = List Expr
Value (separated l) = List (Member l)
Value (following l) = List (Member l)
Value declaration = List Var
Value (variable base) = Var
Value size = Size
Value initialiser = Init
Value statement = Stmt
Value for_first = OtherStmt
Value (left_out m) = Option Expr
Value item = Stmt
Value switch_item = SwitchItem
Value outer = Outer
Value function_head = Head
Value parameters = List Param
Value parameter = Param
Value _ = Expr

-- the symbol of a list's members
abbrev pub symbol_of : Listed → Symbol
symbol_of Listed.arguments = assignment
symbol_of Listed.values = assignment
symbol_of (Listed.variables base) = variable base
symbol_of Listed.parameters = parameter
symbol_of Listed.items = item
symbol_of Listed.switch_items = switch_item
symbol_of Listed.outers = outer

-- what that symbol's tokens are is a member
abbrev pub member_of : (l : Listed) → Value (symbol_of l) → Member l
member_of Listed.arguments e = e
member_of Listed.values e = e
member_of (Listed.variables base) v = v
member_of Listed.parameters p = p
member_of Listed.items s = s
member_of Listed.switch_items i = i
member_of Listed.outers o = o

-- These tokens of the text are what the symbol stands for, and they are this value.
pub data Is (text : List ℕ) : (s : Symbol) → List Token → Value s → Type 0 where
  -- primary expressions (C17 6.5.1)
  name : {t : Token} → IsName t → Is text primary (t ∷ []) (at t (Kind.Name (name_of text t)))
  number : {t : Token} {n : ℤ} {type : IntType} → t.kind ≡ kind.Number n type
      → Is text primary (t ∷ []) (at t (Kind.Number n type))
  eof_name : {t : Token} → t.kind ≡ kind.EofName → Is text primary (t ∷ []) (at t Kind.EofName)
  paren : {o c : Token} {ts : List Token} {e : Expr} → IsMark mark.OpenParen o → Is text expression ts e
      → IsMark mark.CloseParen c → Is text primary (o ∷ ts ++ c ∷ []) (at o (Kind.Paren e))
  -- postfix expressions (C17 6.5.2): a name is called or indexed
  only_primary : {ts : List Token} {e : Expr} → Is text primary ts e → Is text postfix ts e
  call : {t o c : Token} {ts : List Token} {es : List Expr} → IsName t → IsMark mark.OpenParen o
      → Is text arguments ts es → IsMark mark.CloseParen c
      → Is text postfix (t ∷ o ∷ ts ++ c ∷ []) (at t (Kind.Call (name_of text t) (exprs_of es)))
  index : {t o c : Token} {ts : List Token} {e : Expr} → IsName t → IsMark mark.OpenBracket o
      → Is text expression ts e → IsMark mark.CloseBracket c
      → Is text postfix (t ∷ o ∷ ts ++ c ∷ []) (at o (Kind.Index (name_of text t) t.start t.line e))
  incremented : {t : Token} {ts : List Token} {e : Expr} {j : BinOp} → Is text postfix ts e → Increments j t
      → Is text postfix (ts ++ t ∷ []) (at t (Kind.After j e))
  no_arguments : Is text arguments [] []
  some_arguments : {ts : List Token} {es : List Expr} → Is text (separated Listed.arguments) ts es
      → Is text arguments ts es
  -- unary and cast expressions (C17 6.5.3, 6.5.4)
  only_postfix : {ts : List Token} {e : Expr} → Is text postfix ts e → Is text unary_expression ts e
  increments : {t : Token} {ts : List Token} {e : Expr} {j : BinOp} → Increments j t → Is text unary_expression ts e
      → Is text unary_expression (t ∷ ts) (at t (Kind.Before j e))
  has_sign : {t : Token} {ts : List Token} {e : Expr} {j : UnaryOperator} → Signs j t → Is text cast ts e
      → Is text unary_expression (t ∷ ts) (at t (signed j e))
  only_unary : {ts : List Token} {e : Expr} → Is text unary_expression ts e → Is text cast ts e
  converted : {o c : Token} {ws ts : List Token} {base : Base} {e : Expr} → IsMark mark.OpenParen o → IsType ws base
      → IsMark mark.CloseParen c → Is text cast ts e
      → Is text cast (o ∷ ws ++ c ∷ ts) (at o (Kind.Cast base e))
  -- binary expressions of ten precedences, the tightest first; each operator joins to the left (C17 6.5.5 to 6.5.14)
  only_cast : {ts : List Token} {e : Expr} → Is text cast ts e → Is text (binary_expression 0) ts e
  only_tighter : {ts : List Token} {e : Expr} {n : ℕ} → Is text (binary_expression n) ts e
      → Is text (binary_expression (suc n)) ts e
  operates : {t : Token} {ts us : List Token} {l r : Expr} {j : BinaryOperator} {n : ℕ}
      → Is text (binary_expression (suc n)) ts l → Operates j t → operator_precedence j ≡ suc n
      → Is text (binary_expression n) us r → Is text (binary_expression (suc n)) (ts ++ t ∷ us) (at t (joined j l r))
  -- conditional, assignment and comma expressions (C17 6.5.15 to 6.5.17)
  only_binary : {ts : List Token} {e : Expr} → Is text (binary_expression 10) ts e → Is text conditional ts e
  chooses : {q c : Token} {ts us vs : List Token} {e a b : Expr} → Is text (binary_expression 10) ts e
      → IsMark mark.Question q → Is text expression us a → IsMark mark.Colon c → Is text conditional vs b
      → Is text conditional (ts ++ (q ∷ us ++ c ∷ vs)) (at q (Kind.Choose e a b))
  only_conditional : {ts : List Token} {e : Expr} → Is text conditional ts e → Is text assignment ts e
  assigns : {t : Token} {ts us : List Token} {l r : Expr} {o : Option BinOp} → Is text unary_expression ts l
      → Assigns o t → Is text assignment us r → Is text assignment (ts ++ t ∷ us) (at t (Kind.Assign o l r))
  only_assignment : {ts : List Token} {e : Expr} → Is text assignment ts e → Is text expression ts e
  comma : {t : Token} {ts us : List Token} {l r : Expr} → Is text expression ts l → IsMark mark.Comma t
      → Is text assignment us r → Is text expression (ts ++ t ∷ us) (at t (Kind.Comma l r))
  -- lists (C17 6.5.2, 6.7, 6.7.6, 6.7.9, 6.8.2, 6.9)
  last_member : {l : Listed} {ts : List Token} {x : Value (symbol_of l)} → Is text (symbol_of l) ts x
      → Is text (separated l) ts (member_of l x ∷ [])
  member : {l : Listed} {t : Token} {ts us : List Token} {x : Value (symbol_of l)} {xs : List (Member l)}
      → Is text (symbol_of l) ts x → IsMark mark.Comma t → Is text (separated l) us xs
      → Is text (separated l) (ts ++ t ∷ us) (member_of l x ∷ xs)
  no_members : {l : Listed} → Is text (following l) [] []
  next_member : {l : Listed} {ts us : List Token} {x : Value (symbol_of l)} {xs : List (Member l)}
      → Is text (symbol_of l) ts x → Is text (following l) us xs
      → Is text (following l) (ts ++ us) (member_of l x ∷ xs)
  -- declarations (C17 6.7)
  declares : {t : Token} {ws ts : List Token} {base : Base} {vs : List Var} → IsType ws base
      → Is text (separated (Listed.variables base)) ts vs → IsMark mark.Semicolon t
      → Is text declaration (ws ++ (ts ++ t ∷ [])) vs
  declared : {t : Token} {ts us : List Token} {base : Base} {s : Size} {i : Init} → IsName t → Is text size ts s
      → Is text initialiser us i → Is text (variable base) (t ∷ ts ++ us) (variable_at text base t s i)
  scalar : Is text size [] Size.Scalar
  unsized : {o c : Token} → IsMark mark.OpenBracket o → IsMark mark.CloseBracket c
      → Is text size (o ∷ c ∷ []) Size.Unsized
  sized : {o c : Token} {ts : List Token} {e : Expr} → IsMark mark.OpenBracket o → Is text conditional ts e
      → IsMark mark.CloseBracket c → Is text size (o ∷ ts ++ c ∷ []) (Size.Len e)
  absent : Is text initialiser [] Init.Absent
  one : {t : Token} {ts : List Token} {e : Expr} → IsMark mark.Assign t → Is text assignment ts e
      → Is text initialiser (t ∷ ts) (Init.One e)
  several : {t o c : Token} {ts : List Token} {es : List Expr} → IsMark mark.Assign t → IsMark mark.OpenBrace o
      → Is text (separated Listed.values) ts es → IsMark mark.CloseBrace c
      → Is text initialiser (t ∷ o ∷ ts ++ c ∷ []) (Init.Several es)
  several_comma : {t o m c : Token} {ts : List Token} {es : List Expr} → IsMark mark.Assign t
      → IsMark mark.OpenBrace o → Is text (separated Listed.values) ts es → IsMark mark.Comma m
      → IsMark mark.CloseBrace c → Is text initialiser (t ∷ o ∷ ts ++ m ∷ c ∷ []) (Init.Several es)
  -- statements (C17 6.8)
  block : {o c : Token} {ts : List Token} {ss : List Stmt} → IsMark mark.OpenBrace o
      → Is text (following Listed.items) ts ss → IsMark mark.CloseBrace c
      → Is text statement (o ∷ ts ++ c ∷ []) (Stmt.Block (stmts_of ss))
  empty : {t : Token} → IsMark mark.Semicolon t → Is text statement (t ∷ []) Stmt.Empty
  value : {t : Token} {ts : List Token} {e : Expr} → Is text expression ts e → IsMark mark.Semicolon t
      → Is text statement (ts ++ t ∷ []) (Stmt.Value e)
  if_alone : {t o c : Token} {ts us : List Token} {e : Expr} {s : Stmt} → IsKey key.If t → IsMark mark.OpenParen o
      → Is text expression ts e → IsMark mark.CloseParen c → Is text statement us s
      → Is text statement (t ∷ o ∷ ts ++ c ∷ us) (Stmt.If e s OtherStmt.Nothing)
  if_else : {t o c k : Token} {ts us vs : List Token} {e : Expr} {s other : Stmt} → IsKey key.If t
      → IsMark mark.OpenParen o → Is text expression ts e → IsMark mark.CloseParen c → Is text statement us s
      → takes_else s ≡ false → IsKey key.Else k → Is text statement vs other
      → Is text statement (t ∷ o ∷ ts ++ (c ∷ us ++ k ∷ vs)) (Stmt.If e s (OtherStmt.There other))
  while_ : {t o c : Token} {ts us : List Token} {e : Expr} {s : Stmt} → IsKey key.While t → IsMark mark.OpenParen o
      → Is text expression ts e → IsMark mark.CloseParen c → Is text statement us s
      → Is text statement (t ∷ o ∷ ts ++ c ∷ us) (Stmt.While e s)
  do_while : {t w o c m : Token} {ts us : List Token} {e : Expr} {s : Stmt} → IsKey key.Do t → Is text statement ts s
      → IsKey key.While w → IsMark mark.OpenParen o → Is text expression us e → IsMark mark.CloseParen c
      → IsMark mark.Semicolon m
      → Is text statement (t ∷ ts ++ (w ∷ o ∷ us ++ c ∷ m ∷ [])) (Stmt.DoWhile s e w.line)
  for_ : {t o : Token} {ts us vs ws : List Token} {first : OtherStmt} {test step : Option Expr} {s : Stmt}
      → IsKey key.For t → IsMark mark.OpenParen o → Is text for_first ts first
      → Is text (left_out mark.Semicolon) us test → Is text (left_out mark.CloseParen) vs step
      → Is text statement ws s
      → Is text statement (t ∷ o ∷ ts ++ (us ++ (vs ++ ws))) (Stmt.For (ForHead.Head first test step) s)
  switch : {t o c b d : Token} {ts us : List Token} {e : Expr} {is : List SwitchItem} → IsKey key.Switch t
      → IsMark mark.OpenParen o → Is text expression ts e → IsMark mark.CloseParen c → IsMark mark.OpenBrace b
      → Is text (following Listed.switch_items) us is → IsMark mark.CloseBrace d
      → Is text statement (t ∷ o ∷ ts ++ (c ∷ b ∷ us ++ d ∷ [])) (Stmt.Switch e (items_of is))
  break : {t m : Token} → IsKey key.Break t → IsMark mark.Semicolon m
      → Is text statement (t ∷ m ∷ []) (Stmt.Break t.start t.line)
  continue : {t m : Token} → IsKey key.Continue t → IsMark mark.Semicolon m
      → Is text statement (t ∷ m ∷ []) (Stmt.Continue t.start t.line)
  return : {t : Token} {ts : List Token} {e : Option Expr} → IsKey key.Return t
      → Is text (left_out mark.Semicolon) ts e → Is text statement (t ∷ ts) (Stmt.Return e t.start t.line)
  -- an expression that may be left out, and the mark behind it
  nothing : {t : Token} {m : Punct} → IsMark m t → Is text (left_out m) (t ∷ []) None
  something : {t : Token} {ts : List Token} {m : Punct} {e : Expr} → Is text expression ts e → IsMark m t
      → Is text (left_out m) (ts ++ t ∷ []) (Some e)
  -- the first part of a `for` (C17 6.8.5)
  first_declares : {ts : List Token} {vs : List Var} → Is text declaration ts vs
      → Is text for_first ts (OtherStmt.There (Stmt.Vars vs))
  first_empty : {t : Token} → IsMark mark.Semicolon t → Is text for_first (t ∷ []) OtherStmt.Nothing
  first_value : {t : Token} {ts : List Token} {e : Expr} → Is text expression ts e → IsMark mark.Semicolon t
      → Is text for_first (ts ++ t ∷ []) (OtherStmt.There (Stmt.Value e))
  -- items of a block (C17 6.8.2), and of a `switch`, with its labels (C17 6.8.1)
  item_declares : {ts : List Token} {vs : List Var} → Is text declaration ts vs → Is text item ts (Stmt.Vars vs)
  item_does : {ts : List Token} {s : Stmt} → Is text statement ts s → Is text item ts s
  case : {t c : Token} {ts : List Token} {e : Expr} → IsKey key.Case t → Is text conditional ts e
      → IsMark mark.Colon c → Is text switch_item (t ∷ ts ++ c ∷ []) (SwitchItem.Case e t.start)
  default : {t c : Token} → IsKey key.Default t → IsMark mark.Colon c
      → Is text switch_item (t ∷ c ∷ []) (SwitchItem.Default t.start)
  does : {ts : List Token} {s : Stmt} → Is text item ts s → Is text switch_item ts (SwitchItem.Item s)
  -- sources (C17 6.9): declarations, prototypes, and definitions, whose parameters have names
  outer_declares : {ts : List Token} {vs : List Var} → Is text declaration ts vs → Is text outer ts (Outer.Vars vs)
  prototype : {t : Token} {ts : List Token} {h : Head} → Is text function_head ts h → IsMark mark.Semicolon t
      → Is text outer (ts ++ t ∷ []) (Outer.Prototype h)
  defines : {o c : Token} {ts us : List Token} {h : Head} {ss : List Stmt} → Is text function_head ts h
      → all_named h.params ≡ true → IsMark mark.OpenBrace o → Is text (following Listed.items) us ss
      → IsMark mark.CloseBrace c → Is text outer (ts ++ (o ∷ us ++ c ∷ [])) (Outer.Function h (stmts_of ss))
  heads : {t o c : Token} {ws ts : List Token} {base : Base} {ps : List Param} → IsType ws base → IsName t
      → IsMark mark.OpenParen o → Is text parameters ts ps → IsMark mark.CloseParen c
      → Is text function_head (ws ++ (t ∷ o ∷ ts ++ c ∷ [])) (head_at text base t ps)
  no_parameters : Is text parameters [] []
  only_void : {t : Token} → IsKey key.Void t → Is text parameters (t ∷ []) []
  some_parameters : {ts : List Token} {ps : List Param} → Is text (separated Listed.parameters) ts ps
      → Is text parameters ts ps
  named : {t : Token} {ws : List Token} {base : Base} → IsType ws base → IsName t
      → Is text parameter (ws ++ t ∷ []) (named_param text base t)
  nameless : {ws : List Token} {base : Base} → IsType ws base
      → Is text parameter ws (nameless_param base (first_start ws))

-- The tokens of a text are a source with this tree, whose end is that of the last token, or 0 (C17 6.9).
pub record IsSource (text : List ℕ) (tokens : List Token) (tree : Tree) : Type 0 where
  pub outers : Is text (following Listed.outers) tokens tree.outers
  pub end : tree.end ≡ end_from 0 tokens
