-- What stands behind an expression of so many levels, up to the end of its right side.
use Rattle.std.specs.Prelude.{◌≡◌, ℕ, ◌+◌, max, List}
use Rattle.c_tokens.specs.declared.token.Punct.TheVariants as mark
use Rattle.c_tokens.specs.declared.token.Token.{Token}
use Rattle.c_tree.specs.Expr.{Expr}
use Rattle.c_tree.specs.TreeView.{expr_view}
use Rattle.c_tree.specs.declared.expr.Expr.{Expr as ExprHeld}
use Rattle.c_grammar.specs.Rules.{Rule}
use Rattle.c_grammar.specs.Derivations.{Front}

-- the next token, and a level more than the expression has (own)
abbrev pub Deeper : List ℕ → ℕ → List Token → Token → ℕ → List Token → Type 0
Deeper text n ts t k rest = Front text Rule.any ts t 0 rest × (k ≡ n + 1)

-- A token and a part of this kind, a level above both sides (own).
pub record Side {A : Type 0} (text : List ℕ) (inner : List Token → A → ℕ → List Token → Type 0) (n : ℕ)
    (ts : List Token) (side : Token × A) (k : ℕ) (rest : List Token) : Type 0
  where
    pub middle : List Token
    pub levels : ℕ
    pub token : Front text Rule.any ts side.0 0 middle
    pub right : inner middle side.1 levels rest
    pub most : k ≡ max (n + 1) (levels + 1)

-- what the program holds of it (own)
abbrev pub side_view : Token × ExprHeld → Token × Expr
side_view s = (s.0, expr_view s.1)

-- A token, an expression, `:` and a conditional expression, a level above all three (own).
pub record Sides (text : List ℕ) (n : ℕ) (ts : List Token) (sides : Token × Expr × Expr) (k : ℕ) (rest : List Token)
    : Type 0
  where
    pub middle : List Token
    pub second : List Token
    pub levels : ℕ
    pub others : ℕ
    pub token : Front text Rule.any ts sides.0 0 middle
    pub first : Front text (Rule.closed mark.Colon) middle sides.1 levels second
    pub last : Front text Rule.conditional second sides.2 others rest
    pub most : k ≡ max (n + 1) (max levels others + 1)

-- what the program holds of it (own)
abbrev pub sides_view : Token × ExprHeld × ExprHeld → Token × Expr × Expr
sides_view s = (s.0, expr_view s.1, expr_view s.2)
