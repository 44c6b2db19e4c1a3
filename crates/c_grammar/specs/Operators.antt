-- What the grammar of expressions asks of the next tokens: which operand, prefix or operator they begin.
use Rattle.std.specs.Prelude.{ℕ, ◌==◌, Bool, true, false, cond, List, Option, Some, None}
use Rattle.int_ops.specs.declared.operators.BinOp.{BinOp}
use Rattle.int_ops.specs.declared.operators.BinOp.TheVariants as op
use Rattle.c_tokens.specs.declared.token.Punct.{Punct}
use Rattle.c_tokens.specs.declared.token.Punct.TheVariants as mark
use Rattle.c_tokens.specs.declared.token.Token.{Token}
use Rattle.c_tokens.specs.declared.token.TokenKind.{TokenKind}
use Rattle.c_tokens.specs.declared.token.TokenKind.TheVariants as kind
use Rattle.c_tree.specs.Expr.{Expr, Kind}
use Rattle.c_grammar.specs.declared.begins.Operand.{Operand}
use Rattle.c_grammar.specs.declared.begins.Operand.TheVariants as first
use Rattle.c_grammar.specs.declared.begins.UnaryOperator.{UnaryOperator}
use Rattle.c_grammar.specs.declared.begins.UnaryOperator.TheVariants as unary
use Rattle.c_grammar.specs.declared.begins.Prefix.{Prefix}
use Rattle.c_grammar.specs.declared.begins.Prefix.TheVariants as prefix
use Rattle.c_grammar.specs.declared.begins.BinaryOperator.{BinaryOperator}
use Rattle.c_grammar.specs.declared.begins.BinaryOperator.TheVariants as binary
use Rattle.c_grammar.specs.Words.{next_kind, behind, mark_at, next_is, type_at}

-- the operand of a token's kind; the mark behind the token tells a call or an index from a mere name (C17 6.5.2
-- paragraph 1)
abbrev pub operand_of : Option TokenKind → Option Punct → Operand
operand_of (Some kind.Name) (Some mark.OpenParen) = first.Call
operand_of (Some kind.Name) (Some mark.OpenBracket) = first.Index
operand_of (Some kind.Name) _ = first.Name
operand_of (Some (kind.Number number type)) _ = first.Number number type
operand_of (Some kind.EofName) _ = first.EofName
operand_of (Some (kind.Mark mark.OpenParen)) _ = first.Paren
operand_of _ _ = first.Absent

-- the operand that the next tokens begin (C17 6.5.1 paragraph 1, 6.5.2 paragraph 1)
abbrev pub operand_at : List Token → Operand
operand_at tokens = operand_of (next_kind tokens) (mark_at (behind tokens))

-- what `++` and `--` add or subtract by (C17 6.5.2.4 paragraph 2, 6.5.3.1 paragraph 2)
abbrev pub increment_of : Option Punct → Option BinOp
increment_of (Some mark.PlusPlus) = Some op.Add
increment_of (Some mark.MinusMinus) = Some op.Sub
increment_of _ = None

-- the increment or decrement that the next token is (C17 6.5.2 paragraph 1)
abbrev pub increment_at : List Token → Option BinOp
increment_at tokens = increment_of (mark_at tokens)

-- the form of a unary operator and its operand (C17 6.5.3.3)
abbrev pub signed : UnaryOperator → Expr → Kind
signed unary.Plus e = Kind.Plus e
signed unary.Minus e = Kind.Minus e
signed unary.Complement e = Kind.Complement e
signed unary.Not e = Kind.Not e

-- the prefix that a mark is (C17 6.5.3 paragraph 1)
abbrev pub prefix_of : Option Punct → Prefix
prefix_of (Some mark.PlusPlus) = prefix.Increment op.Add
prefix_of (Some mark.MinusMinus) = prefix.Increment op.Sub
prefix_of (Some mark.Plus) = prefix.Operator unary.Plus
prefix_of (Some mark.Minus) = prefix.Operator unary.Minus
prefix_of (Some mark.Tilde) = prefix.Operator unary.Complement
prefix_of (Some mark.Not) = prefix.Operator unary.Not
prefix_of _ = prefix.Absent

-- the prefix that the next token is (C17 6.5.3 paragraph 1)
abbrev pub prefix_at : List Token → Prefix
prefix_at tokens = prefix_of (mark_at tokens)

-- the next tokens are `(` and a type word, so that a cast stands here (C17 6.5.4 paragraph 1)
abbrev pub cast_at : List Token → Bool
cast_at tokens = cond (next_is mark.OpenParen tokens) (type_at (behind tokens)) false

-- the binary operator that a mark is (C17 6.5.5 to 6.5.14)
abbrev pub operator_of : Punct → Option BinaryOperator
operator_of mark.Star = Some (binary.Plain op.Mul)
operator_of mark.Slash = Some (binary.Plain op.Div)
operator_of mark.Percent = Some (binary.Plain op.Rem)
operator_of mark.Plus = Some (binary.Plain op.Add)
operator_of mark.Minus = Some (binary.Plain op.Sub)
operator_of mark.ShiftLeft = Some (binary.Plain op.Shl)
operator_of mark.ShiftRight = Some (binary.Plain op.Shr)
operator_of mark.Less = Some (binary.Plain op.Less)
operator_of mark.Greater = Some (binary.Plain op.Greater)
operator_of mark.LessEqual = Some (binary.Plain op.LessEqual)
operator_of mark.GreaterEqual = Some (binary.Plain op.GreaterEqual)
operator_of mark.EqualEqual = Some (binary.Plain op.Equal)
operator_of mark.NotEqual = Some (binary.Plain op.NotEqual)
operator_of mark.And = Some (binary.Plain op.And)
operator_of mark.Caret = Some (binary.Plain op.Xor)
operator_of mark.Or = Some (binary.Plain op.Or)
operator_of mark.AndAnd = Some binary.LogicalAnd
operator_of mark.OrOr = Some binary.LogicalOr
operator_of _ = None

-- the precedence of an operator, from the tightest (C17 6.5.5 to 6.5.12)
abbrev pub precedence_of : BinOp → ℕ
precedence_of op.Mul = 1
precedence_of op.Div = 1
precedence_of op.Rem = 1
precedence_of op.Add = 2
precedence_of op.Sub = 2
precedence_of op.Shl = 3
precedence_of op.Shr = 3
precedence_of op.Less = 4
precedence_of op.Greater = 4
precedence_of op.LessEqual = 4
precedence_of op.GreaterEqual = 4
precedence_of op.Equal = 5
precedence_of op.NotEqual = 5
precedence_of op.And = 6
precedence_of op.Xor = 7
precedence_of op.Or = 8

-- the precedence of a binary operator, from the tightest, 1, to the loosest, 10 (C17 6.5.5 to 6.5.14)
abbrev pub operator_precedence : BinaryOperator → ℕ
operator_precedence (binary.Plain o) = precedence_of o
operator_precedence binary.LogicalAnd = 9
operator_precedence binary.LogicalOr = 10

-- the operator where it has this precedence (own)
abbrev pub with_precedence : ℕ → Option BinaryOperator → Option BinaryOperator
with_precedence n None = None
with_precedence n (Some j) = cond (operator_precedence j == n) (Some j) None

-- the binary operator that a mark is, where there is a mark (own)
abbrev pub operator_if : Option Punct → Option BinaryOperator
operator_if None = None
operator_if (Some m) = operator_of m

-- the operator of this precedence that the next token is (C17 6.5.5 to 6.5.14)
abbrev pub operator_at : ℕ → List Token → Option BinaryOperator
operator_at n tokens = with_precedence n (operator_if (mark_at tokens))

-- the form of an operator and its operands (C17 6.5.5 to 6.5.14)
abbrev pub joined : BinaryOperator → Expr → Expr → Kind
joined (binary.Plain o) a b = Kind.Binary o a b
joined binary.LogicalAnd a b = Kind.AndAlso a b
joined binary.LogicalOr a b = Kind.OrElse a b

-- the operator of an assignment that a mark is; `=` has none (C17 6.5.16 paragraph 1)
abbrev pub assignment_of : Option Punct → Option (Option BinOp)
assignment_of (Some mark.Assign) = Some None
assignment_of (Some mark.StarAssign) = Some (Some op.Mul)
assignment_of (Some mark.SlashAssign) = Some (Some op.Div)
assignment_of (Some mark.PercentAssign) = Some (Some op.Rem)
assignment_of (Some mark.PlusAssign) = Some (Some op.Add)
assignment_of (Some mark.MinusAssign) = Some (Some op.Sub)
assignment_of (Some mark.ShiftLeftAssign) = Some (Some op.Shl)
assignment_of (Some mark.ShiftRightAssign) = Some (Some op.Shr)
assignment_of (Some mark.AndAssign) = Some (Some op.And)
assignment_of (Some mark.CaretAssign) = Some (Some op.Xor)
assignment_of (Some mark.OrAssign) = Some (Some op.Or)
assignment_of _ = None

-- the assignment that the next token is (C17 6.5.16 paragraph 1)
abbrev pub assignment_at : List Token → Option (Option BinOp)
assignment_at tokens = assignment_of (mark_at tokens)

-- a form that a unary expression has (C17 6.5.3 paragraph 1, 6.5.16 paragraph 1)
abbrev pub unary_kind : Kind → Bool
unary_kind (Kind.Cast base e) = false
unary_kind (Kind.Binary o a b) = false
unary_kind (Kind.AndAlso a b) = false
unary_kind (Kind.OrElse a b) = false
unary_kind (Kind.Choose c a b) = false
unary_kind (Kind.Assign o a b) = false
unary_kind (Kind.Comma a b) = false
unary_kind _ = true

-- a tree that a unary expression has (C17 6.5.16 paragraph 1)
abbrev pub is_unary : Expr → Bool
is_unary (Expr.At kind place line) = unary_kind kind

-- a form with the place and line of a token (own)
abbrev pub at : Token → Kind → Expr
at t kind = Expr.At kind t.start t.line
