-- Expressions with their types, as plain data.
use Rattle.std.specs.Prelude.{ℕ, ℤ, Option}
use Rattle.int_ops.specs.declared.types.IntType.{IntType}
use Rattle.int_ops.specs.declared.operators.BinOp.{BinOp}
use Rattle.c_tree.specs.declared.expr.Base.{Base}
use Rattle.c_tree.specs.declared.typed_expr.CellAt.{CellAt}
use Rattle.c_tree.specs.declared.typed_expr.Callee.{Callee}

mutual
  -- A form with its type, and the place and line of its operator, or of its only token.
  pub data TypedExpr : Type 0 where
    At : TypedKind → Base → ℕ → ℕ → TypedExpr

  -- the form of an expression
  pub data TypedKind : Type 0 where
    Name : CellAt → TypedKind
    Number : ℤ → IntType → TypedKind
    EofName : TypedKind
    Call : Callee → TypedExprs → TypedKind
    -- the array's first cell, its length, the place and line of its name, and the index
    Index : CellAt → ℕ → ℕ → ℕ → TypedExpr → TypedKind
    -- a conversion that the source doesn't write
    Convert : TypedExpr → TypedKind
    Plus : TypedExpr → TypedKind
    Minus : TypedExpr → TypedKind
    Complement : TypedExpr → TypedKind
    Not : TypedExpr → TypedKind
    Cast : Base → TypedExpr → TypedKind
    Binary : BinOp → TypedExpr → TypedExpr → TypedKind
    AndAlso : TypedExpr → TypedExpr → TypedKind
    OrElse : TypedExpr → TypedExpr → TypedKind
    Choose : TypedExpr → TypedExpr → TypedExpr → TypedKind
    Assign : Option BinOp → TypedExpr → TypedExpr → TypedKind
    Before : BinOp → TypedExpr → TypedKind
    After : BinOp → TypedExpr → TypedKind
    Comma : TypedExpr → TypedExpr → TypedKind

  -- A list of expressions.
  pub data TypedExprs : Type 0 where
    End : TypedExprs
    More : TypedExpr → TypedExprs → TypedExprs
