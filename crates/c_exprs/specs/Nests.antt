-- What stands inside an expression, and a function value that reads it.
use Rattle.std.specs.Prelude.{ℕ, ◌-◌, ◌<◌, List, Result}
use Rattle.std.specs.declared.alloc.Global.{Global}
use denote.Ref.{Bor}
use Rattle.cov_base.specs.declared.refusal.Refusal.{Refusal}
use Rattle.c_tokens.specs.declared.token.Token.{Token}
use Rattle.c_tree.specs.Expr.{Expr}
use Rattle.c_tree.specs.declared.expr.Expr.{Expr as ExprHeld}
use Rattle.c_tree.specs.TreeView.{expr_view}
use Rattle.c_grammar.specs.declared.fault.ParseFault.{ParseFault}
use Rattle.c_grammar.specs.declared.found.Found.{Found}
use Rattle.c_grammar.specs.Rules.{Rule}
use Rattle.c_grammar.specs.Derivations.{Front}
use Rattle.c_grammar.specs.Reads.{Reads}
use Rattle.c_exprs.specs.declared.nested.Nest.{Nest}
use Rattle.c_exprs.specs.declared.nested.Nest.TheVariants as nest

-- the tokens have such an expression in front (own)
abbrev pub Inner : List ℕ → Nest → List Token → Expr → ℕ → List Token → Type 0
Inner text nest.Unary = Front text Rule.unary
Inner text nest.Cast = Front text Rule.cast
Inner text (nest.Precedence m) = Front text (Rule.precedence m)
Inner text nest.Conditional = Front text Rule.conditional
Inner text nest.Assignment = Front text Rule.assignment
Inner text nest.Expression = Front text Rule.expression

-- There is room for a level, and a function value reads what stands inside with one less (own).
pub record Nests (room : ℕ) (pre : Global → Bor (List ℕ) → Bor (List Token) → Nest → ℕ → Type 0)
    (post : Global → Bor (List ℕ) → Bor (List Token) → Nest → ℕ → Result (Found ExprHeld) (Refusal ParseFault) → Type 0)
    : Type 0
  where
    pub some : 0 < room
    pub callable : (alloc : Global) (text : Bor (List ℕ)) (tokens : Bor (List Token)) (nest : Nest)
        → pre alloc text tokens nest (room - 1)
    pub reads : (alloc : Global) (text : Bor (List ℕ)) (tokens : Bor (List Token)) (nest : Nest)
        (result : Result (Found ExprHeld) (Refusal ParseFault)) → post alloc text tokens nest (room - 1) result
        → Reads expr_view (Inner text.now nest tokens.now) (room - 1) result
