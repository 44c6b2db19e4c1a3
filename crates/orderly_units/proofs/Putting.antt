-- What holds of items holds of those that an expression, or a part of a statement without a loop, puts before them,
-- where each operation, each beginning of a block of its own and each ending that goes on keeps it.
use Rattle.std.proofs.Common.{◌≡◌, refl, ℕ, zero, suc, ◌+◌, ◌-◌, ◌<◌, ◌≤◌, ◌==◌, Bool, true, false, cond, arith}
use Rattle.std.proofs.Common.{List, [], ◌∷◌, Option, Some, None}
use Rattle.int_ops.specs.declared.types.IntType.{IntType}
use Rattle.int_ops.specs.Codes.{type_code}
use Rattle.c_tree.specs.declared.expr.Base.{Base}
use Rattle.c_tree.specs.declared.expr.Base.TheVariants as base
use Rattle.c_tree.specs.declared.typed_expr.Callee.{Callee}
use Rattle.c_tree.specs.declared.typed_expr.Callee.TheVariants as callee
use Rattle.c_tree.specs.TypedExpr.{TypedExpr, TypedKind, TypedExprs}
use Rattle.c_tree.specs.TypedStmt.{TypedInit, TypedVar}
use Rattle.c_tree.specs.TypedParts.{base_of, size}
use Rattle.stack_ops.specs.declared.operation.Op.{Op}
use Rattle.stack_ops.specs.declared.operation.Op.TheVariants as operation
use Rattle.c_lower.specs.Items.{Name, Close, Item, Ways, at, plain, logic, converted, dropped, cast, nodes}
use Rattle.c_lower.specs.Items.{kind_nodes, all_nodes, called, ways, kind_ways, index_of, all_values, kept, doubled}
use Rattle.c_lower.specs.Items.{nodes_if, sum, init_nodes, vars_nodes, zeros, elements, initialised, declarations}
use Rattle.c_lower.specs.Items.{value_if, tested, stepped}

-- an ending of an expression: each name in it is so
abbrev pub GoesOn : (Name → Type 0) → Close → Type 0
GoesOn B (Close.Jump l) = B l
GoesOn B (Close.Back l) = ⊥
GoesOn B (Close.Branch t f) = B t × B f
GoesOn B (Close.Select cases default) = ⊥
GoesOn B (Close.CallTo f line l) = B l
GoesOn B Close.Leave = ⊥
GoesOn B Close.Quit = Unit {0}

-- A is what is to be shown of items, and B what is so of names.
module _ (A : List Item → Type 0) (B : Name → Type 0)
    (begin : (l : Name) (line : Option ℕ) (is : List Item) → B l → A is → A (Item.Begin l line ∷ is))
    (act : (o : Op) (line : Option ℕ) (is : List Item) → A is → A (Item.Do o line ∷ is))
    (finish : (c : Close) (line : Option ℕ) (is : List Item) → GoesOn B c → A is → A (Item.End c line ∷ is)) where
  -- the names of these nodes are so
  abbrev Own : ℕ → ℕ → Type 0
  Own m n = (l : Name) → m ≤ l.node → l.node < n → B l

  -- it holds of what an expression puts before items, for its value or as a condition
  record Puts (w : Ways) : Type 0 where
    pub value : (rest : List Item) → A rest → A (w.value rest)
    pub test : (t f : Name) (rest : List Item) → B t → B f → A rest → A (w.test t f rest)

  puts_plain : (v : List Item → List Item) → ((rest : List Item) → A rest → A (v rest)) → Puts (plain v)
  puts_plain v h = record {
    value = h;
    test = λ t f rest bt bf a. h (Item.End (Close.Branch t f) None ∷ rest)
        (finish (Close.Branch t f) None rest (bt, bf) a);
  }

  puts_logic : (m line : ℕ) (k : Name → Name → List Item → List Item) → ((part : ℕ) → B (at m part))
      → ((t f : Name) (rest : List Item) → B t → B f → A rest → A (k t f rest)) → Puts (logic m line k)
  puts_logic m line k own h = record {
    value = λ rest a. h (at m 10) (at m 3) _ (own 10) (own 3) (begin _ _ _ (own 10) (act _ _ _
        (finish (Close.Jump (at m 6)) None _ (own 6) (begin _ _ _ (own 3) (act _ _ _ (begin _ _ _ (own 6) a))))));
    test = h;
  }

  puts_converted : (from to : IntType) (rest : List Item) → A rest → A (converted from to rest)
  puts_converted from to rest a = go (type_code from == type_code to)
    where
      go : (same : Bool) → A (cond same rest (Item.Do (operation.Convert to) None ∷ rest))
      go true = a
      go false = act _ _ _ a

  pub puts_dropped : (b : Base) (rest : List Item) → A rest → A (dropped b rest)
  puts_dropped (base.Int t) rest a = act _ _ _ a
  puts_dropped base.Void rest a = a

  puts_cast : (from to : Base) (rest : List Item) → A rest → A (cast from to rest)
  puts_cast from base.Void rest a = puts_dropped from rest a
  puts_cast from (base.Int t) rest a = puts_converted _ t rest a

  puts_kept : (e : TypedExpr) (rest : List Item) → A rest → A (kept e rest)
  puts_kept (TypedExpr.At (TypedKind.Index c k place named e) b q line) rest a = act _ _ _ a
  puts_kept (TypedExpr.At kind b q line) rest a = a

  puts_doubled : (e : TypedExpr) (rest : List Item) → A rest → A (doubled e rest)
  puts_doubled (TypedExpr.At (TypedKind.Index c k place named e) b q line) rest a = act _ _ _ (act _ _ _ a)
  puts_doubled (TypedExpr.At kind b q line) rest a = act _ _ _ a

  puts_called : (f : Callee) (line m : ℕ) (rest : List Item) → B (at m 9) → A rest → A (called f line m rest)
  puts_called (callee.Function f) line m rest own a =
      finish (Close.CallTo f line (at m 9)) _ _ own (begin _ _ _ own a)
  puts_called callee.GetChar line m rest own a = act _ _ _ a
  puts_called callee.PutChar line m rest own a = act _ _ _ a
  puts_called callee.Exit line m rest own a = finish Close.Quit _ _ tt (begin _ _ _ own a)

  -- the names of one node
  of_node : (m n : ℕ) → Own m n → m < n → (part : ℕ) → B (at m part)
  of_node m n own lt part = own (at m part) (omega arith) lt

  -- fewer nodes
  part : (m n k i : ℕ) → Own m n → m ≤ k → i ≤ n → Own k i
  part m n k i own low high l from to = own l (omega (arith, low, from)) (omega (arith, high, to))

  -- it holds of an expression, from whatever node on
  abbrev Known : TypedExpr → Type 0
  Known x = (i j : ℕ) → j ≡ i + nodes x → Own i j → Puts (ways x i)

  -- the only part of a node, and the first and the second of two
  under : (x : TypedExpr) → Known x → (m n : ℕ) → n ≡ suc m + nodes x → Own m n → Puts (ways x (suc m))
  under x known m n e own = known (suc m) n e (part m n (suc m) n own (omega arith) (omega arith))

  first : (x y : TypedExpr) → Known x → (m n : ℕ) → n ≡ suc m + (nodes x + nodes y) → Own m n
      → Puts (ways x (suc m))
  first x y known m n e own =
      known (suc m) (suc m + nodes x) refl (part m n (suc m) (suc m + nodes x) own (omega arith) (omega (arith, e)))

  second : (x y : TypedExpr) → Known y → (m n : ℕ) → n ≡ suc m + (nodes x + nodes y) → Own m n
      → Puts (ways y (suc m + nodes x))
  second x y known m n e own =
      known (suc m + nodes x) n (omega (arith, e)) (part m n (suc m + nodes x) n own (omega arith) (omega arith))

  mutual
    puts : (e : TypedExpr) (m n : ℕ) → n ≡ m + nodes e → Own m n → Puts (ways e m)
    puts (TypedExpr.At kind b place line) m n e own = puts_kind kind b line m n (omega (arith, e)) own

    puts_kind : (kind : TypedKind) (b : Base) (line m n : ℕ) → n ≡ suc m + kind_nodes kind → Own m n
        → Puts (kind_ways kind b line m)
    puts_kind (TypedKind.Name c) b line m n e own = puts_plain _ (λ rest a. act _ _ _ a)
    puts_kind (TypedKind.Number k t) b line m n e own = puts_plain _ (λ rest a. act _ _ _ a)
    puts_kind TypedKind.EofName b line m n e own = puts_plain _ (λ rest a. act _ _ _ a)
    puts_kind (TypedKind.Call f args) b line m n e own =
        puts_plain _ (λ rest a. puts_all args (suc m) n e (part m n (suc m) n own (omega arith) (omega arith)) _
        (puts_called f line m rest (of_node m n own (omega (arith, e)) 9) a))
    puts_kind (TypedKind.Index c k place named x) b line m n e own =
        puts_plain _ (λ rest a. (under x (puts x) m n e own).value _ (act _ _ _ (act _ _ _ a)))
    puts_kind (TypedKind.Convert x) b line m n e own =
        puts_plain _ (λ rest a. (under x (puts x) m n e own).value _ (puts_converted _ _ rest a))
    puts_kind (TypedKind.Plus x) b line m n e own = puts_plain _ (λ rest a. (under x (puts x) m n e own).value _ a)
    puts_kind (TypedKind.Minus x) b line m n e own =
        puts_plain _ (λ rest a. (under x (puts x) m n e own).value _ (act _ _ _ a))
    puts_kind (TypedKind.Complement x) b line m n e own =
        puts_plain _ (λ rest a. (under x (puts x) m n e own).value _ (act _ _ _ a))
    puts_kind (TypedKind.Not x) b line m n e own = record {
      value = λ rest a. (under x (puts x) m n e own).value _ (act _ _ _ a);
      test = λ t f rest bt bf a. (under x (puts x) m n e own).test f t rest bf bt a;
    }
    puts_kind (TypedKind.Cast to x) b line m n e own =
        puts_plain _ (λ rest a. (under x (puts x) m n e own).value _ (puts_cast _ to rest a))
    puts_kind (TypedKind.Binary o x y) b line m n e own =
        puts_plain _ (λ rest a. (first x y (puts x) m n e own).value _
        ((second x y (puts y) m n e own).value _ (act _ _ _ a)))
    puts_kind (TypedKind.AndAlso x y) b line m n e own =
        puts_logic m line _ (of_node m n own (omega (arith, e))) (λ t f rest bt bf a.
        (first x y (puts x) m n e own).test (at m 8) f _ (of_node m n own (omega (arith, e)) 8) bf
        (begin _ _ _ (of_node m n own (omega (arith, e)) 8) ((second x y (puts y) m n e own).test t f rest bt bf a)))
    puts_kind (TypedKind.OrElse x y) b line m n e own =
        puts_logic m line _ (of_node m n own (omega (arith, e))) (λ t f rest bt bf a.
        (first x y (puts x) m n e own).test t (at m 8) _ bt (of_node m n own (omega (arith, e)) 8)
        (begin _ _ _ (of_node m n own (omega (arith, e)) 8) ((second x y (puts y) m n e own).test t f rest bt bf a)))
    puts_kind (TypedKind.Choose c x y) b line m n e own =
        puts_plain _ (λ rest a.
        let mine : (part : ℕ) → B (at m part) = of_node m n own (omega (arith, e)) in
        let i : ℕ = suc m + nodes c in
        let j : ℕ = i + nodes x in
        (puts c (suc m) i refl (part m n (suc m) i own (omega arith) (omega (arith, e)))).test (at m 12) (at m 13) _
        (mine 12) (mine 13) (begin _ _ _ (mine 12)
        ((puts x i j refl (part m n i j own (omega arith) (omega (arith, e)))).value _
        (finish (Close.Jump (at m 6)) None _ (mine 6) (begin _ _ _ (mine 13)
        ((puts y j n (omega (arith, e)) (part m n j n own (omega arith) (omega arith))).value _
        (begin _ _ _ (mine 6) a)))))))
    puts_kind (TypedKind.Assign None target x) b line m n e own =
        let i : ℕ = suc m + nodes target in
        puts_plain _ (λ rest a. puts_index target (suc m) i refl
        (part m n (suc m) i own (omega arith) (omega (arith, e))) _
        ((second target x (puts x) m n e own).value _ (act _ _ _ a)))
    puts_kind (TypedKind.Assign (Some o) target x) b line m n e own =
        let i : ℕ = suc m + nodes target in
        puts_plain _ (λ rest a. puts_index target (suc m) i refl
        (part m n (suc m) i own (omega arith) (omega (arith, e))) _ (puts_kept target _ (act _ _ _
        (puts_converted _ _ _ ((second target x (puts x) m n e own).value _
        (act _ _ _ (puts_converted _ _ _ (act _ _ _ a))))))))
    puts_kind (TypedKind.Before o target) b line m n e own =
        puts_plain _ (λ rest a. puts_index target (suc m) n e (part m n (suc m) n own (omega arith) (omega arith)) _
        (puts_kept target _ (act _ _ _ (puts_converted _ _ _
        (act _ _ _ (act _ _ _ (puts_converted _ _ _ (act _ _ _ a))))))))
    puts_kind (TypedKind.After o target) b line m n e own =
        puts_plain _ (λ rest a. puts_index target (suc m) n e (part m n (suc m) n own (omega arith) (omega arith)) _
        (puts_kept target _ (act _ _ _ (puts_doubled target _ (puts_converted _ _ _
        (act _ _ _ (act _ _ _ (puts_converted _ _ _ (act _ _ _ (act _ _ _ a))))))))))
    puts_kind (TypedKind.Comma x y) b line m n e own =
        puts_plain _ (λ rest a. (first x y (puts x) m n e own).value _
        (puts_dropped (base_of x) _ ((second x y (puts y) m n e own).value _ a)))

    puts_index : (target : TypedExpr) (m n : ℕ) → n ≡ m + nodes target → Own m n → (rest : List Item) → A rest
        → A (index_of target m rest)
    puts_index (TypedExpr.At (TypedKind.Index c k place named x) b q line) m n e own rest a =
        (puts x (suc m) n (omega (arith, e)) (part m n (suc m) n own (omega arith) (omega arith))).value _ (act _ _ _ a)
    puts_index (TypedExpr.At kind b q line) m n e own rest a = a

    puts_all : (es : TypedExprs) (m n : ℕ) → n ≡ m + all_nodes es → Own m n → (rest : List Item) → A rest
        → A (all_values es m rest)
    puts_all TypedExprs.End m n e own rest a = a
    puts_all (TypedExprs.More x es) m n e own rest a =
        let i : ℕ = m + nodes x in
        (puts x m i refl (part m n m i own (omega arith) (omega (arith, e)))).value _
        (puts_all es i n (omega (arith, e)) (part m n i n own (omega arith) (omega arith)) rest a)

  pub puts_value : (e : TypedExpr) (m n : ℕ) → m + nodes e ≤ n → Own m n → (rest : List Item) → A rest
      → A ((ways e m).value rest)
  puts_value e m n le own rest a =
      (puts e m (m + nodes e) refl (part m n m (m + nodes e) own (omega arith) le)).value rest a

  pub puts_test : (e : TypedExpr) (m n : ℕ) → m + nodes e ≤ n → Own m n → (t f : Name) (rest : List Item) → B t → B f
      → A rest → A ((ways e m).test t f rest)
  puts_test e m n le own t f rest bt bf a =
      (puts e m (m + nodes e) refl (part m n m (m + nodes e) own (omega arith) le)).test t f rest bt bf a

  -- ---- parts of statements

  puts_zeros : (some c n k : ℕ) (line : Option ℕ) (rest : List Item) → A rest → A (zeros some c n k line rest)
  puts_zeros zero c n k line rest a = a
  puts_zeros (suc some) c n k line rest a =
      act _ _ _ (act _ _ _ (act _ _ _ (act _ _ _ (puts_zeros some c n (suc k) None rest a))))

  puts_elements : (es : List TypedExpr) (m n c count k : ℕ) (line : Option ℕ) → m + sum es ≤ n → Own m n
      → (rest : List Item) → A rest → A (elements es m c count k line rest)
  puts_elements [] m n c count k line le own rest a = puts_zeros (count - k) c count k line rest a
  puts_elements (e ∷ es) m n c count k line le own rest a =
      act _ _ _ (puts_value e m n (omega (arith, le)) own _ (act _ _ _ (act _ _ _
      (puts_elements es (m + nodes e) n c count (suc k) None (omega (arith, le))
      (part m n (m + nodes e) n own (omega arith) (omega arith)) rest a))))

  puts_init : (v : TypedVar) (init : TypedInit) (m n : ℕ) → m + init_nodes init ≤ n → Own m n → (rest : List Item)
      → A rest → A (initialised v init m rest)
  puts_init v TypedInit.Absent m n le own rest a = a
  puts_init v (TypedInit.One e) m n le own rest a = puts_value e m n le own _ (act _ _ _ (act _ _ _ a))
  puts_init v (TypedInit.Several es) m n le own rest a =
      puts_elements es m n v.cell (size v) 0 (Some v.line) le own rest a

  pub puts_vars : (vs : List TypedVar) (m n : ℕ) → m + vars_nodes vs ≤ n → Own m n → (rest : List Item) → A rest
      → A (declarations vs m rest)
  puts_vars [] m n le own rest a = a
  puts_vars (v ∷ vs) m n le own rest a =
      puts_init v v.init m n (omega (arith, le)) own _
      (puts_vars vs (m + init_nodes v.init) n (omega (arith, le))
      (part m n (m + init_nodes v.init) n own (omega arith) (omega arith)) rest a)

  pub puts_value_if : (e : Option TypedExpr) (m n : ℕ) → m + nodes_if e ≤ n → Own m n → (rest : List Item) → A rest
      → A (value_if e m rest)
  puts_value_if None m n le own rest a = a
  puts_value_if (Some e) m n le own rest a = puts_value e m n le own rest a

  pub puts_tested : (e : Option TypedExpr) (m n : ℕ) → m + nodes_if e ≤ n → Own m n → (t f : Name) (rest : List Item)
      → B t → B f → A rest → A (tested e m t f rest)
  puts_tested None m n le own t f rest bt bf a = a
  puts_tested (Some e) m n le own t f rest bt bf a = puts_test e m n le own t f _ bt bf (begin _ _ _ bt a)

  pub puts_stepped : (e : Option TypedExpr) (m n : ℕ) → m + nodes_if e ≤ n → Own m n → (u : Name) (rest : List Item)
      → B u → A rest → A (stepped e m u rest)
  puts_stepped None m n le own u rest bu a = a
  puts_stepped (Some e) m n le own u rest bu a =
      begin _ _ _ bu (puts_value e m n le own _ (puts_dropped (base_of e) rest a))
