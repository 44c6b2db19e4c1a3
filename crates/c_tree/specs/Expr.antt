-- Expressions as plain data: a form, and the place and line of the operator, or of the only token.
use Rattle.std.specs.Prelude.{ℕ, ℤ, List, Option}
use Rattle.int_ops.specs.declared.types.IntType.{IntType}
use Rattle.int_ops.specs.declared.operators.BinOp.{BinOp}
use Rattle.c_tree.specs.declared.expr.Base.{Base}

mutual
  -- A form with a place and a line.
  pub data Expr : Type 0 where
    At : Kind → ℕ → ℕ → Expr

  -- the form of an expression
  pub data Kind : Type 0 where
    Name : List ℕ → Kind
    Number : ℤ → IntType → Kind
    EofName : Kind
    Paren : Expr → Kind
    Call : List ℕ → Exprs → Kind
    -- an array's name with its place and line, and the index
    Index : List ℕ → ℕ → ℕ → Expr → Kind
    Plus : Expr → Kind
    Minus : Expr → Kind
    Complement : Expr → Kind
    Not : Expr → Kind
    Cast : Base → Expr → Kind
    Binary : BinOp → Expr → Expr → Kind
    AndAlso : Expr → Expr → Kind
    OrElse : Expr → Expr → Kind
    Choose : Expr → Expr → Expr → Kind
    Assign : Option BinOp → Expr → Expr → Kind
    Before : BinOp → Expr → Kind
    After : BinOp → Expr → Kind
    Comma : Expr → Expr → Kind

  -- A list of expressions.
  pub data Exprs : Type 0 where
    End : Exprs
    More : Expr → Exprs → Exprs
