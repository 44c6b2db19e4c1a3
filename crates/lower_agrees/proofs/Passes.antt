-- What holds of items, and with items of those behind the first, holds of what an expression or a statement is put
-- before.
use Rattle.std.proofs.Common.{ℕ, zero, suc, ◌+◌, ◌-◌, ◌==◌, Bool, true, false, cond, List, [], ◌∷◌, Option, Some, None}
use Rattle.int_ops.specs.declared.types.IntType.{IntType}
use Rattle.int_ops.specs.Codes.{type_code}
use Rattle.c_tree.specs.declared.expr.Base.{Base}
use Rattle.c_tree.specs.declared.expr.Base.TheVariants as base
use Rattle.c_tree.specs.declared.typed_expr.Callee.{Callee}
use Rattle.c_tree.specs.declared.typed_expr.Callee.TheVariants as callee
use Rattle.c_tree.specs.TypedExpr.{TypedExpr, TypedKind, TypedExprs}
use Rattle.c_tree.specs.TypedStmt.{TypedInit, TypedVar, TypedStmt, OtherTyped, TypedForHead, TypedStmts, TypedItem}
use Rattle.c_tree.specs.TypedStmt.{TypedItems}
use Rattle.c_tree.specs.TypedParts.{base_of, size}
use Rattle.stack_ops.specs.declared.operation.Op.TheVariants as operation
use Rattle.c_lower.specs.Items.{Name, Close, Item, Ways, plain, logic, converted, dropped, cast, nodes, called, ways}
use Rattle.c_lower.specs.Items.{kind_ways, index_of, all_values, kept, doubled, init_nodes, nodes_if, stmt_nodes}
use Rattle.c_lower.specs.Items.{other_nodes, zeros, elements, initialised, declarations, group_at, labelled}
use Rattle.c_lower.specs.Items.{value_if, tested, stepped, code, code_other, codes_of, code_items}

module _ (P : List Item → Type 0) (tail : (i : Item) (is : List Item) → P (i ∷ is) → P is) where
  -- what is put before items passes on to them
  record Pass (w : Ways) : Type 0 where
    pub value : (rest : List Item) → P (w.value rest) → P rest
    pub test : (t f : Name) (rest : List Item) → P (w.test t f rest) → P rest

  pass_plain : (v : List Item → List Item) → ((rest : List Item) → P (v rest) → P rest) → Pass (plain v)
  pass_plain v h = record { value = h; test = λ t f rest p. tail _ _ (h (Item.End (Close.Branch t f) None ∷ rest) p) }

  pass_logic : (m line : ℕ) (k : Name → Name → List Item → List Item)
      → ((t f : Name) (rest : List Item) → P (k t f rest) → P rest) → Pass (logic m line k)
  pass_logic m line k h = record {
    value = λ rest p. tail _ _ (tail _ _ (tail _ _ (tail _ _ (tail _ _ (tail _ _ (h _ _ _ p))))));
    test = h;
  }

  pub past_converted : (from to : IntType) (rest : List Item) → P (converted from to rest) → P rest
  past_converted from to rest p = go (type_code from == type_code to) p
    where
      go : (same : Bool) → P (cond same rest (Item.Do (operation.Convert to) None ∷ rest)) → P rest
      go true p = p
      go false p = tail _ _ p

  pub past_dropped : (b : Base) (rest : List Item) → P (dropped b rest) → P rest
  past_dropped (base.Int t) rest p = tail _ _ p
  past_dropped base.Void rest p = p

  pub past_cast : (from to : Base) (rest : List Item) → P (cast from to rest) → P rest
  past_cast from base.Void rest p = past_dropped from rest p
  past_cast from (base.Int t) rest p = past_converted _ t rest p

  pub past_kept : (e : TypedExpr) (rest : List Item) → P (kept e rest) → P rest
  past_kept (TypedExpr.At (TypedKind.Index c k place named e) b q line) rest p = tail _ _ p
  past_kept (TypedExpr.At kind b q line) rest p = p

  pub past_doubled : (e : TypedExpr) (rest : List Item) → P (doubled e rest) → P rest
  past_doubled (TypedExpr.At (TypedKind.Index c k place named e) b q line) rest p = tail _ _ (tail _ _ p)
  past_doubled (TypedExpr.At kind b q line) rest p = tail _ _ p

  pub past_called : (f : Callee) (line m : ℕ) (rest : List Item) → P (called f line m rest) → P rest
  past_called (callee.Function f) line m rest p = tail _ _ (tail _ _ p)
  past_called callee.GetChar line m rest p = tail _ _ p
  past_called callee.PutChar line m rest p = tail _ _ p
  past_called callee.Exit line m rest p = tail _ _ (tail _ _ p)

  mutual
    -- an expression
    pass : (e : TypedExpr) (m : ℕ) → Pass (ways e m)
    pass (TypedExpr.At kind b place line) m = pass_kind kind b line m

    pass_kind : (kind : TypedKind) (b : Base) (line m : ℕ) → Pass (kind_ways kind b line m)
    pass_kind (TypedKind.Name c) b line m = pass_plain _ (λ rest p. tail _ _ p)
    pass_kind (TypedKind.Number k t) b line m = pass_plain _ (λ rest p. tail _ _ p)
    pass_kind TypedKind.EofName b line m = pass_plain _ (λ rest p. tail _ _ p)
    pass_kind (TypedKind.Call f args) b line m = pass_plain _
        (λ rest p. past_called f line m rest (pass_all args (suc m) _ p))
    pass_kind (TypedKind.Index c k place named x) b line m = pass_plain _
        (λ rest p. tail _ _ (tail _ _ ((pass x (suc m)).value _ p)))
    pass_kind (TypedKind.Convert x) b line m = pass_plain _ (λ rest p. past_converted _ _ rest
        ((pass x (suc m)).value _ p))
    pass_kind (TypedKind.Plus x) b line m = pass_plain _ (λ rest p. (pass x (suc m)).value _ p)
    pass_kind (TypedKind.Minus x) b line m = pass_plain _ (λ rest p. tail _ _ ((pass x (suc m)).value _ p))
    pass_kind (TypedKind.Complement x) b line m = pass_plain _ (λ rest p. tail _ _ ((pass x (suc m)).value _ p))
    pass_kind (TypedKind.Not x) b line m = record {
      value = λ rest p. tail _ _ ((pass x (suc m)).value _ p);
      test = λ t f rest p. (pass x (suc m)).test f t rest p;
    }
    pass_kind (TypedKind.Cast to x) b line m = pass_plain _ (λ rest p. past_cast _ to rest ((pass x (suc m)).value _ p))
    pass_kind (TypedKind.Binary o x y) b line m =
        pass_plain _ (λ rest p. tail _ _ ((pass y (suc m + nodes x)).value _ ((pass x (suc m)).value _ p)))
    pass_kind (TypedKind.AndAlso x y) b line m =
        pass_logic m line _ (λ t f rest p. (pass y (suc m + nodes x)).test t f rest
        (tail _ _ ((pass x (suc m)).test _ _ _ p)))
    pass_kind (TypedKind.OrElse x y) b line m =
        pass_logic m line _ (λ t f rest p. (pass y (suc m + nodes x)).test t f rest
        (tail _ _ ((pass x (suc m)).test _ _ _ p)))
    pass_kind (TypedKind.Choose c x y) b line m =
        pass_plain _ (λ rest p. tail _ _ ((pass y (suc m + nodes c + nodes x)).value _ (tail _ _ (tail _ _
        ((pass x (suc m + nodes c)).value _ (tail _ _ ((pass c (suc m)).test _ _ _ p)))))))
    pass_kind (TypedKind.Assign None target x) b line m =
        pass_plain _ (λ rest p. tail _ _ ((pass x (suc m + nodes target)).value _ (pass_index target (suc m) _ p)))
    pass_kind (TypedKind.Assign (Some o) target x) b line m =
        pass_plain _ (λ rest p. tail _ _ (past_converted _ _ _ (tail _ _ ((pass x (suc m + nodes target)).value _
        (past_converted _ _ _ (tail _ _ (past_kept target _ (pass_index target (suc m) _ p))))))))
    pass_kind (TypedKind.Before o target) b line m =
        pass_plain _ (λ rest p. tail _ _ (past_converted _ _ _ (tail _ _ (tail _ _
        (past_converted _ _ _ (tail _ _ (past_kept target _ (pass_index target (suc m) _ p))))))))
    pass_kind (TypedKind.After o target) b line m =
        pass_plain _ (λ rest p. tail _ _ (tail _ _ (past_converted _ _ _ (tail _ _ (tail _ _
        (past_converted _ _ _ (past_doubled target _ (tail _ _
        (past_kept target _ (pass_index target (suc m) _ p))))))))))
    pass_kind (TypedKind.Comma x y) b line m =
        pass_plain _ (λ rest p. (pass y (suc m + nodes x)).value _
        (past_dropped (base_of x) _ ((pass x (suc m)).value _ p)))

    -- what is assigned to
    pass_index : (target : TypedExpr) (m : ℕ) (rest : List Item) → P (index_of target m rest) → P rest
    pass_index (TypedExpr.At (TypedKind.Index c k place named x) b q line) m rest p = tail _ _
        ((pass x (suc m)).value _ p)
    pass_index (TypedExpr.At kind b q line) m rest p = p

    -- values from left to right
    pass_all : (es : TypedExprs) (m : ℕ) (rest : List Item) → P (all_values es m rest) → P rest
    pass_all TypedExprs.End m rest p = p
    pass_all (TypedExprs.More x es) m rest p = pass_all es (m + nodes x) rest ((pass x m).value _ p)

  -- an expression's value, test and the like
  pub past_value : (e : TypedExpr) (m : ℕ) (rest : List Item) → P ((ways e m).value rest) → P rest
  past_value e m rest p = (pass e m).value rest p

  pub past_test : (e : TypedExpr) (m : ℕ) (t f : Name) (rest : List Item) → P ((ways e m).test t f rest) → P rest
  past_test e m t f rest p = (pass e m).test t f rest p

  pub past_index : (target : TypedExpr) (m : ℕ) (rest : List Item) → P (index_of target m rest) → P rest
  past_index target m rest p = pass_index target m rest p

  pub past_all : (es : TypedExprs) (m : ℕ) (rest : List Item) → P (all_values es m rest) → P rest
  past_all es m rest p = pass_all es m rest p

  -- ---- statements

  past_zeros : (some c n k : ℕ) (line : Option ℕ) (rest : List Item) → P (zeros some c n k line rest) → P rest
  past_zeros zero c n k line rest p = p
  past_zeros (suc some) c n k line rest p = past_zeros some c n (suc k) None rest
      (tail _ _ (tail _ _ (tail _ _ (tail _ _ p))))

  pub past_elements : (es : List TypedExpr) (m c n k : ℕ) (line : Option ℕ) (rest : List Item)
      → P (elements es m c n k line rest) → P rest
  past_elements [] m c n k line rest p = past_zeros (n - k) c n k line rest p
  past_elements (e ∷ es) m c n k line rest p =
      past_elements es (m + nodes e) c n (suc k) None rest (tail _ _ (tail _ _ (past_value e m _ (tail _ _ p))))

  pub past_init : (v : TypedVar) (init : TypedInit) (m : ℕ) (rest : List Item) → P (initialised v init m rest) → P rest
  past_init v TypedInit.Absent m rest p = p
  past_init v (TypedInit.One e) m rest p = tail _ _ (tail _ _ (past_value e m _ p))
  past_init v (TypedInit.Several es) m rest p = past_elements es m v.cell (size v) 0 (Some v.line) rest p

  pub past_vars : (vs : List TypedVar) (m : ℕ) (rest : List Item) → P (declarations vs m rest) → P rest
  past_vars [] m rest p = p
  past_vars (v ∷ vs) m rest p = past_vars vs (m + init_nodes v.init) rest (past_init v v.init m _ p)

  pub past_value_if : (e : Option TypedExpr) (m : ℕ) (rest : List Item) → P (value_if e m rest) → P rest
  past_value_if None m rest p = p
  past_value_if (Some e) m rest p = past_value e m rest p

  pub past_tested : (e : Option TypedExpr) (m : ℕ) (a z : Name) (rest : List Item) → P (tested e m a z rest) → P rest
  past_tested None m a z rest p = p
  past_tested (Some e) m a z rest p = tail _ _ (past_test e m a z _ p)

  pub past_stepped : (e : Option TypedExpr) (m : ℕ) (u : Name) (rest : List Item) → P (stepped e m u rest) → P rest
  past_stepped None m u rest p = p
  past_stepped (Some e) m u rest p = past_dropped (base_of e) rest (past_value e m _ (tail _ _ p))

  pub past_label : (g : Option Name) (m : ℕ) (rest : List Item) → P (labelled g m rest) → P rest
  past_label None m rest p = tail _ _ p
  past_label (Some g) m rest p = p

  mutual
    -- a statement
    pub past_code : (s : TypedStmt) (m : ℕ) (b k : Close) (rest : List Item) → P (code s m b k rest) → P rest
    past_code (TypedStmt.Vars vars) m b k rest p = past_vars vars (suc m) rest p
    past_code (TypedStmt.Block ss) m b k rest p = past_codes ss (suc m) b k rest p
    past_code TypedStmt.Empty m b k rest p = p
    past_code (TypedStmt.Value e) m b k rest p = past_dropped (base_of e) rest (past_value e (suc m) _ p)
    past_code (TypedStmt.If c s OtherTyped.Nothing) m b k rest p =
        tail _ _ (past_code s (suc m + nodes c) b k _ (tail _ _ (past_test c (suc m) _ _ _ p)))
    past_code (TypedStmt.If c s (OtherTyped.There t)) m b k rest p =
        tail _ _ (past_code t (suc m + nodes c + stmt_nodes s) b k _ (tail _ _ (tail _ _
        (past_code s (suc m + nodes c) b k _ (tail _ _ (past_test c (suc m) _ _ _ p))))))
    past_code (TypedStmt.While c s) m b k rest p =
        tail _ _ (tail _ _ (past_code s (suc m + nodes c) _ _ _ (tail _ _ (past_test c (suc m) _ _ _ (tail _ _ p)))))
    past_code (TypedStmt.DoWhile s c line) m b k rest p =
        tail _ _ (tail _ _ (tail _ _ (past_test c (suc m + stmt_nodes s) _ _ _
        (tail _ _ (past_code s (suc m) _ _ _ (tail _ _ p))))))
    past_code (TypedStmt.For (TypedForHead.Head first test step) s) m b k rest p =
        tail _ _ (tail _ _ (past_stepped step (suc m + other_nodes first + nodes_if test + stmt_nodes s) _ _
        (past_code s (suc m + other_nodes first + nodes_if test) _ _ _
        (past_tested test (suc m + other_nodes first) _ _ _ (tail _ _ (past_other first (suc m) b k _ p))))))
    past_code (TypedStmt.Switch e is) m b k rest p =
        tail _ _ (past_items is (suc m + nodes e) None _ k _ (tail _ _ (past_value e (suc m) _ p)))
    past_code (TypedStmt.Break place line) m b k rest p = tail _ _ p
    past_code (TypedStmt.Continue place line) m b k rest p = tail _ _ p
    past_code (TypedStmt.Return e place line) m b k rest p = tail _ _ (past_value_if e (suc m) _ p)

    pub past_other : (s : OtherTyped) (m : ℕ) (b k : Close) (rest : List Item) → P (code_other s m b k rest) → P rest
    past_other OtherTyped.Nothing m b k rest p = p
    past_other (OtherTyped.There s) m b k rest p = past_code s m b k rest p

    pub past_codes : (ss : TypedStmts) (m : ℕ) (b k : Close) (rest : List Item) → P (codes_of ss m b k rest) → P rest
    past_codes TypedStmts.End m b k rest p = p
    past_codes (TypedStmts.More s ss) m b k rest p = past_codes ss (m + stmt_nodes s) b k rest (past_code s m b k _ p)

    pub past_items : (is : TypedItems) (m : ℕ) (g : Option Name) (b k : Close) (rest : List Item)
        → P (code_items is m g b k rest) → P rest
    past_items TypedItems.Last m g b k rest p = p
    past_items (TypedItems.Further (TypedItem.Case n place) is) m g b k rest p =
        past_items is (suc m) (Some (group_at g m)) b k rest (past_label g m _ p)
    past_items (TypedItems.Further (TypedItem.Default place) is) m g b k rest p =
        past_items is (suc m) (Some (group_at g m)) b k rest (past_label g m _ p)
    past_items (TypedItems.Further (TypedItem.Item s) is) m g b k rest p = past_items is (m + stmt_nodes s) None b k
        rest (past_code s m b k _ p)
