-- Each expression has a level at least.
use Rattle.std.proofs.Common.{◌≡◌, ℕ, ◌<◌, List, arith}
use Rattle.c_tokens.specs.declared.token.Token.{Token}
use Rattle.c_tree.specs.Expr.{Expr}
use Rattle.c_tree.specs.Levels.{levels}
use Rattle.c_grammar.proofs.Depth.{sized}
use Rattle.c_exprs.specs.declared.nested.Nest.{Nest}
use Rattle.c_exprs.specs.declared.nested.Nest.TheVariants as nest
use Rattle.c_exprs.specs.Nests.{Inner}

has_level : (e : Expr) {n : ℕ} → n ≡ levels e → 0 < n
has_level (Expr.At kind place line) h = omega (arith, h)

pub has_room : (text : List ℕ) (kind : Nest) (ts : List Token) (x : Expr) (n : ℕ) (rest : List Token)
    → Inner text kind ts x n rest → 0 < n
has_room text nest.Unary ts x n rest p = has_level x (sized tt p).counted
has_room text nest.Cast ts x n rest p = has_level x (sized tt p).counted
has_room text (nest.Precedence m) ts x n rest p = has_level x (sized tt p).counted
has_room text nest.Conditional ts x n rest p = has_level x (sized tt p).counted
has_room text nest.Assignment ts x n rest p = has_level x (sized tt p).counted
has_room text nest.Expression ts x n rest p = has_level x (sized tt p).counted
