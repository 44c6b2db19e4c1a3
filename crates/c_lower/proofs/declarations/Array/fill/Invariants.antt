use Rattle.std.proofs.Common.{◌≡◌, ◌+◌, Bool, List, map, drop, Some}
use Rattle.c_tree.specs.TypedView.{typed_expr_view}
use Rattle.c_lower.specs.Items.{Item, elements, sum}
use Rattle.c_lower.specs.Building.{made}
use Rattle.c_lower.proofs.declarations.Array.fill.Given as goal

abbrev pub invariant-loop-e : goal.invariant-loop-e
invariant-loop-e l = record {
  code : (gives : Bool) (rest : List Item)
      → made gives l.out (elements (map typed_expr_view (drop l.e-index l.es)) l.next l.self.first l.self.count
      l.index l.line rest)
      ≡ made gives l.fn.out (elements (map typed_expr_view l.es) l.fn.next l.self.first l.self.count 0
      (Some l.fn.line) rest);
  next : l.next + sum (map typed_expr_view (drop l.e-index l.es)) ≡ l.fn.next + sum (map typed_expr_view l.es);
  index : l.index ≡ l.e-index;
}
