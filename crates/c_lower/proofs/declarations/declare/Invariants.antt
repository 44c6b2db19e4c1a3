use Rattle.std.proofs.Common.{◌≡◌, ◌+◌, Bool, List, map, drop}
use Rattle.c_tree.specs.TypedView.{typed_var_view}
use Rattle.c_lower.specs.Items.{Item, declarations, vars_nodes}
use Rattle.c_lower.specs.Building.{made}
use Rattle.c_lower.proofs.declarations.declare.Given as goal

abbrev pub invariant-loop-var : goal.invariant-loop-var
invariant-loop-var l = record {
  code : (gives : Bool) (rest : List Item)
      → made gives l.out (declarations (map typed_var_view (drop l.var-index l.vars)) l.next rest)
      ≡ made gives l.fn.out (declarations (map typed_var_view l.vars) l.fn.next rest);
  next : l.next + vars_nodes (map typed_var_view (drop l.var-index l.vars)) ≡ l.fn.next + vars_nodes
      (map typed_var_view l.vars);
}
