-- The blocks that a statement begins have the numbers of its own nodes in their names, and no two of them have one
-- name.
use Rattle.std.proofs.Common.{arith, ◌≡◌, refl, ℕ, suc, ◌+◌, ◌-◌, List, [], ◌∷◌, Option, Some, None, zero}
use Rattle.c_tree.specs.TypedExpr.{TypedExpr}
use Rattle.c_tree.specs.TypedStmt.{
  TypedInit,
  TypedVar,
  TypedStmt,
  OtherTyped,
  TypedForHead,
  TypedStmts,
  TypedItem,
  TypedItems,
}
use Rattle.c_tree.specs.TypedParts.{base_of, size}
use Rattle.c_lower.specs.Items.{
  Name,
  Close,
  Item,
  body_of,
  step_of,
  nodes_if,
  sum,
  init_nodes,
  vars_nodes,
  stmt_nodes,
  other_nodes,
  stmts_nodes,
  items_nodes,
  zeros,
  elements,
  initialised,
  declarations,
  group_at,
  labelled,
  value_if,
  tested,
  stepped,
  code,
  code_other,
  codes_of,
  code_items,
}
use Rattle.c_lower.proofs.NameRanges.{Adds, here, still, passed, then, named, op, end, more, node, drops, puts}

module _ {l : Name} where
  -- ---- declarations

  puts_zeros : (some c n k : ℕ) (line : Option ℕ) {m : ℕ} (rest : List Item) → Adds l m m 0 rest
      (zeros some c n k line rest)
  puts_zeros zero c n k line rest = still
  puts_zeros (suc some) c n k line rest = op (op (op (op (puts_zeros some c n (suc k) None rest))))

  puts_elements : (es : List TypedExpr) (m stop c n k : ℕ) (line : Option ℕ) → stop ≡ m + sum es
      → (rest : List Item) → Adds l m stop 0 rest (elements es m c n k line rest)
  puts_elements [] m stop c n k line e rest = then (passed (omega arith)) (puts_zeros (n - k) c n k line rest)
  puts_elements (x ∷ es) m stop c n k line e rest =
      op (then ((puts x m _ refl).value _) (op (op (puts_elements es _ stop c n (suc k) None (omega arith) rest))))

  puts_init : (v : TypedVar) (init : TypedInit) (m n : ℕ) → n ≡ m + init_nodes init → (rest : List Item) → Adds l m n 0
      rest (initialised v init m rest)
  puts_init v TypedInit.Absent m n e rest = passed (omega arith)
  puts_init v (TypedInit.One x) m n e rest = then ((puts x m n e).value _) (op (op still))
  puts_init v (TypedInit.Several es) m n e rest = puts_elements es m n v.cell (size v) 0 (Some v.line) e rest

  puts_vars : (vs : List TypedVar) (m n : ℕ) → n ≡ m + vars_nodes vs → (rest : List Item) → Adds l m n 0 rest
      (declarations vs m rest)
  puts_vars [] m n e rest = passed (omega arith)
  puts_vars (v ∷ vs) m n e rest = then (puts_init v v.init m _ refl _) (puts_vars vs _ n (omega arith) rest)

  -- ---- parts of statements

  puts_value : (x : Option TypedExpr) (m n : ℕ) → n ≡ m + nodes_if x → (rest : List Item) → Adds l m n 0 rest
      (value_if x m rest)
  puts_value None m n e rest = passed (omega arith)
  puts_value (Some x) m n e rest = (puts x m n e).value rest

  puts_test : (x : Option TypedExpr) (m n : ℕ) (a z : Name) → n ≡ m + nodes_if x → (rest : List Item) → Adds l m n
      (here l a) rest (tested x m a z rest)
  puts_test None m n a z e rest = more (passed (omega arith)) (omega arith)
  puts_test (Some x) m n a z e rest = more (then ((puts x m n e).test a z _) (named still)) (omega arith)

  puts_step : (x : Option TypedExpr) (m n : ℕ) (u : Name) → n ≡ m + nodes_if x → (rest : List Item) → Adds l m n
      (here l u) rest (stepped x m u rest)
  puts_step None m n u e rest = more (passed (omega arith)) (omega arith)
  puts_step (Some x) m n u e rest = more (named (then ((puts x m n e).value _) (drops (base_of x) still))) (omega arith)

  -- a label, which is a node of its own
  puts_label : (g : Option Name) (m : ℕ) (rest : List Item) → Adds l m (suc m) 0 rest (labelled g m rest)
  puts_label None m rest = node m (7 ∷ []) (omega arith) (named still) (omega arith)
  puts_label (Some g) m rest = passed (omega arith)

  -- ---- statements

  mutual
    -- the names of a statement's blocks are of its own nodes, each once
    pub puts_stmt : (s : TypedStmt) (m n : ℕ) (b k : Close) → n ≡ m + stmt_nodes s → (rest : List Item) → Adds l m n 0
        rest (code s m b k rest)
    puts_stmt (TypedStmt.Vars vars) m n b k e rest =
        node m [] tt (puts_vars vars (suc m) n (omega arith) rest) (omega arith)
    puts_stmt (TypedStmt.Block ss) m n b k e rest =
        node m [] tt (puts_stmts ss (suc m) n b k (omega arith) rest) (omega arith)
    puts_stmt TypedStmt.Empty m n b k e rest = passed (omega arith)
    puts_stmt (TypedStmt.Value x) m n b k e rest =
        node m [] tt (then ((puts x (suc m) n (omega arith)).value _) (drops (base_of x) still)) (omega arith)
    puts_stmt (TypedStmt.If c s OtherTyped.Nothing) m n b k e rest =
        node m (0 ∷ 14 ∷ []) (omega arith)
        (then ((puts c (suc m) _ refl).test _ _ _) (named (then (puts_stmt s _ n b k (omega arith) _) (named still))))
        (omega arith)
    puts_stmt (TypedStmt.If c s (OtherTyped.There t)) m n b k e rest =
        node m (0 ∷ 1 ∷ 14 ∷ []) (omega arith)
        (then ((puts c (suc m) _ refl).test _ _ _) (named (then (puts_stmt s _ _ b k refl _)
        (end (named (then (puts_stmt t _ n b k (omega arith) _) (named still))))))) (omega arith)
    puts_stmt (TypedStmt.While c s) m n b k e rest =
        node m (0 ∷ 5 ∷ 14 ∷ []) (omega arith)
        (named (then ((puts c (suc m) _ refl).test _ _ _)
        (named (then (puts_stmt s _ n _ _ (omega arith) _) (end (named still)))))) (omega arith)
    puts_stmt (TypedStmt.DoWhile s c line) m n b k e rest =
        node m (0 ∷ 2 ∷ 4 ∷ 14 ∷ []) (omega arith)
        (named (then (puts_stmt s (suc m) _ _ _ refl _)
        (named (then ((puts c _ n (omega arith)).test _ _ _) (named (end (named still))))))) (omega arith)
    puts_stmt (TypedStmt.For (TypedForHead.Head first test step) s) m n b k e rest =
        node m (0 ∷ 5 ∷ 11 ∷ 14 ∷ []) (omega arith)
        (then (puts_other first (suc m) _ b k refl _) (named (then (puts_test test _ _ (body_of m) _ refl _)
        (then (puts_stmt s _ _ _ _ refl _) (then (puts_step step _ n (step_of m) (omega arith) _)
        (end (named still))))))) (omega arith)
    puts_stmt (TypedStmt.Switch x is) m n b k e rest =
        node m (14 ∷ []) (omega arith)
        (then ((puts x (suc m) _ refl).value _) (end (then (puts_items is _ n None _ k (omega arith) _)
        (named still)))) (omega arith)
    puts_stmt (TypedStmt.Break place line) m n b k e rest = end (passed (omega arith))
    puts_stmt (TypedStmt.Continue place line) m n b k e rest = end (passed (omega arith))
    puts_stmt (TypedStmt.Return x place line) m n b k e rest =
        node m [] tt (then (puts_value x (suc m) n (omega arith) _) (end still)) (omega arith)

    -- a statement that may be left out
    puts_other : (s : OtherTyped) (m n : ℕ) (b k : Close) → n ≡ m + other_nodes s → (rest : List Item) → Adds l m n 0
        rest (code_other s m b k rest)
    puts_other OtherTyped.Nothing m n b k e rest = passed (omega arith)
    puts_other (OtherTyped.There s) m n b k e rest = puts_stmt s m n b k e rest

    -- statements
    pub puts_stmts : (ss : TypedStmts) (m n : ℕ) (b k : Close) → n ≡ m + stmts_nodes ss → (rest : List Item) → Adds l m
        n 0 rest (codes_of ss m b k rest)
    puts_stmts TypedStmts.End m n b k e rest = passed (omega arith)
    puts_stmts (TypedStmts.More s ss) m n b k e rest =
        then (puts_stmt s m _ b k refl _) (puts_stmts ss _ n b k (omega arith) rest)

    -- the items of a switch
    puts_items : (is : TypedItems) (m n : ℕ) (g : Option Name) (b k : Close) → n ≡ m + items_nodes is
        → (rest : List Item) → Adds l m n 0 rest (code_items is m g b k rest)
    puts_items TypedItems.Last m n g b k e rest = passed (omega arith)
    puts_items (TypedItems.Further (TypedItem.Case v place) is) m n g b k e rest =
        then (puts_label g m _) (puts_items is (suc m) n (Some (group_at g m)) b k (omega arith) rest)
    puts_items (TypedItems.Further (TypedItem.Default place) is) m n g b k e rest =
        then (puts_label g m _) (puts_items is (suc m) n (Some (group_at g m)) b k (omega arith) rest)
    puts_items (TypedItems.Further (TypedItem.Item s) is) m n g b k e rest =
        then (puts_stmt s m _ b k refl _) (puts_items is _ n None b k (omega arith) rest)
