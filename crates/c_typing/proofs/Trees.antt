-- Short words for the trees of sources on one line, in which the rows are written.
use Rattle.std.specs.Prelude.{ℕ, List, Option}
use Rattle.c_tree.specs.declared.expr.Base.{Base}
use Rattle.c_tree.specs.Expr.{Expr, Kind}
use Rattle.c_tree.specs.Stmt.{Size, Init, Var}
use Rattle.c_tree.specs.Tree.{Param, Head, Outer, Tree}

abbrev pub at : Kind → ℕ → Expr
at kind place = Expr.At kind place 1

abbrev pub variable_on : Base → List ℕ → Size → Init → ℕ → ℕ → Var
variable_on b name size init place line =
    record { base = b; name = name; size = size; init = init; place = place; line = line }

abbrev pub variable : Base → List ℕ → Size → Init → ℕ → Var
variable b name size init place = variable_on b name size init place 1

abbrev pub parameter : Base → Option (List ℕ) → ℕ → Param
parameter b name place = record { base = b; name = name; place = place }

abbrev pub function_on : Base → List ℕ → List Param → ℕ → ℕ → Head
function_on b name params place line = record { base = b; name = name; params = params; place = place; line = line }

abbrev pub function : Base → List ℕ → List Param → ℕ → Head
function b name params place = function_on b name params place 1

abbrev pub source : List Outer → ℕ → Tree
source outers end = record { outers = outers; end = end }
