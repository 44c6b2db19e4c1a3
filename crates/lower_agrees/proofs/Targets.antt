-- Each name in an ending is the name of a block of the graph, and of a later one where the ending isn't an arc back.
use Rattle.std.proofs.Common.{
  ◌≡◌,
  refl,
  sym,
  ap,
  subst,
  ◌∙◌,
  ◌++◌,
  length-append,
  ◌<◌,
  ◌≤◌,
  arith,
  length,
  nat_lt,
  slice_get,
  ℕ,
  zero,
  suc,
  ◌+◌,
  ◌-◌,
}
use Rattle.std.proofs.Common.{◌==◌, ◌||◌, Bool, true, false}
use Rattle.std.proofs.Common.{cond, List, [], ◌∷◌, map, Option, Some, None, ◌⊎◌, inl, inr, eqb-true}
use Rattle.std.proofs.lemmas.Bool.{or_cases, or_left, or_right}
use Rattle.std.proofs.lemmas.Option.{same_Some, none-some}
use Rattle.int_ops.specs.declared.types.IntType.{IntType}
use Rattle.int_ops.specs.Codes.{type_code}
use Rattle.c_tree.specs.declared.expr.Base.{Base}
use Rattle.c_tree.specs.declared.expr.Base.TheVariants as base
use Rattle.c_tree.specs.declared.typed_expr.Callee.{Callee}
use Rattle.c_tree.specs.declared.typed_expr.Callee.TheVariants as callee
use Rattle.c_tree.specs.TypedExpr.{TypedExpr, TypedKind, TypedExprs}
use Rattle.c_tree.specs.TypedStmt.{TypedInit, TypedVar, TypedStmt, OtherTyped, TypedForHead, TypedStmts, TypedItem}
use Rattle.c_tree.specs.TypedStmt.{TypedItems}
use Rattle.c_tree.specs.Sound.{Each}
use Rattle.c_tree.specs.TypedParts.{base_of, size}
use Rattle.stack_ops.specs.declared.operation.Op.{Op}
use Rattle.stack_ops.specs.declared.operation.Op.TheVariants as operation
use Rattle.c_tree.specs.Typed.{Typed}
use Rattle.std.specs.Prelude.{ℤ}
use Rattle.flow_graph.specs.Graph.{Ending, Block, Graph}
use Rattle.c_lower.specs.Items.{
  Name,
  Close,
  Item,
  Ways,
  join_of,
  step_of,
  head_of,
  end_of,
  else_of,
  body_of,
  test_of,
  again_of,
  plain,
  logic,
  converted,
  dropped,
  cast,
}
use Rattle.c_lower.specs.Items.{nodes, called, ways, kind_ways, index_of, all_values, kept, doubled, init_nodes}
use Rattle.c_lower.specs.Items.{nodes_if, stmt_nodes, other_nodes, zeros, elements, initialised, declarations}
use Rattle.c_lower.specs.Items.{group_at, labelled, cases_of, default_of, value_if, tested, stepped, continues_to}
use Rattle.c_lower.specs.Items.{code, code_other, codes_of, code_items, items_of, gives_number}
use Rattle.c_lower.specs.Lowered.{Named, is_name, number_from, opened, shut, left_out, numbered, block_of}
use Rattle.flow_graph.specs.Ascending.{inserted}
use Rattle.c_lower.specs.Lowered.{named_blocks}
use Rattle.c_lower.specs.Lowered.{graph_of}
use Rattle.flow_graph.specs.Nets.{targets, among}
use Rattle.flow_graph.specs.WalkRun.{block_at}
use Rattle.c_lower.proofs.NameLaws.{in_order_of}
use Rattle.lower_agrees.specs.Agreement.{IsBlockOf, EndsWell, is_back}
use Rattle.lower_agrees.proofs.Calls.{graph_found, text_found}
use Rattle.lower_agrees.proofs.Runs.{Site, Placed, Stands, number, graph_at}
use Rattle.lower_agrees.proofs.Finds.{all_placed, one_more}
use Rattle.lower_agrees.proofs.Passes.{past_value, past_test, past_index, past_all, past_kept, past_converted}
use Rattle.lower_agrees.proofs.Passes.{past_dropped, past_init, past_tested, past_stepped, past_label, past_code}
use Rattle.lower_agrees.proofs.Passes.{past_other, past_codes, past_items}
use Rattle.lower_agrees.proofs.Straight.{placed_tail}

-- each name in an ending is so, and that of an arc back is so
abbrev pub Targets : (Name → Type 0) → (Name → Type 0) → Close → Type 0
Targets B C (Close.Jump l) = B l
Targets B C (Close.Back l) = C l
Targets B C (Close.Branch t f) = B t × B f
Targets B C (Close.Select cases default) = Each (λ c. B c.1) cases × B default
Targets B C (Close.CallTo f line l) = B l
Targets B C Close.Leave = Unit {0}
Targets B C Close.Quit = Unit {0}

each_target : (B D : Name → Type 0) → ((l : Name) → B l → D l) → (cases : List (ℤ × Name)) → Each (λ c. B c.1) cases
    → Each (λ c. D c.1) cases
each_target B D more [] h = tt
each_target B D more (c ∷ cases) h = (more c.1 h.0, each_target B D more cases h.1)

-- what is so of names is so of those in an ending
targets_more : (B D C E : Name → Type 0) → ((l : Name) → B l → D l) → ((l : Name) → C l → E l) → (c : Close)
    → Targets B C c → Targets D E c
targets_more B D C E more back (Close.Jump l) h = more l h
targets_more B D C E more back (Close.Back l) h = back l h
targets_more B D C E more back (Close.Branch t f) h = (more t h.0, more f h.1)
targets_more B D C E more back (Close.Select cases default) h = (each_target B D more cases h.0, more default h.1)
targets_more B D C E more back (Close.CallTo f line l) h = more l h
targets_more B D C E more back Close.Leave h = tt
targets_more B D C E more back Close.Quit h = tt

-- P is what tells of the blocks that begin, A what is to be shown of the endings; B is what is so of a name whose block
-- begins among items, and C of one whose block has begun.
module _ (P A : List Item → Type 0) (B : Name → List Item → Type 0) (C : Name → Type 0)
    (tail : (i : Item) (is : List Item) → P (i ∷ is) → P is)
    (grow : (l : Name) (i : Item) (is : List Item) → B l is → B l (i ∷ is))
    (block : (l : Name) (line : Option ℕ) (is : List Item) → P (Item.Begin l line ∷ is) → B l (Item.Begin l line ∷ is))
    (anchor : (l : Name) (line : Option ℕ) (is : List Item) → P (Item.Begin l line ∷ is) → C l)
    (begin : (l : Name) (line : Option ℕ) (is : List Item) → A is → A (Item.Begin l line ∷ is))
    (act : (o : Op) (line : Option ℕ) (is : List Item) → A is → A (Item.Do o line ∷ is))
    (finish : (c : Close) (line : Option ℕ) (is : List Item) → Targets (λ l. B l is) C c → A is
    → A (Item.End c line ∷ is)) where
  -- a block that begins among items begins among those that are put before them
  up_value : (l : Name) (e : TypedExpr) (m : ℕ) (rest : List Item) → B l rest → B l ((ways e m).value rest)
  up_value l e m rest b =
      past_value (λ is. B l is → B l ((ways e m).value rest)) (λ i is h b. h (grow l i is b)) e m rest
      (λ b. b) b

  up_test : (l : Name) (e : TypedExpr) (m : ℕ) (t f : Name) (rest : List Item) → B l rest
      → B l ((ways e m).test t f rest)
  up_test l e m t f rest b = past_test (λ is. B l is → B l ((ways e m).test t f rest)) (λ i is h b. h (grow l i is b))
      e m t f rest (λ b. b) b

  up_tested : (l : Name) (e : Option TypedExpr) (m : ℕ) (t f : Name) (rest : List Item) → B l rest
      → B l (tested e m t f rest)
  up_tested l e m t f rest b = past_tested (λ is. B l is → B l (tested e m t f rest)) (λ i is h b. h (grow l i is b))
      e m t f rest (λ b. b) b

  up_stepped : (l : Name) (e : Option TypedExpr) (m : ℕ) (u : Name) (rest : List Item) → B l rest
      → B l (stepped e m u rest)
  up_stepped l e m u rest b = past_stepped (λ is. B l is → B l (stepped e m u rest)) (λ i is h b. h (grow l i is b))
      e m u rest (λ b. b) b

  up_label : (l : Name) (g : Option Name) (m : ℕ) (rest : List Item) → B l rest → B l (labelled g m rest)
  up_label l g m rest b = past_label (λ is. B l is → B l (labelled g m rest)) (λ i is h b. h (grow l i is b)) g m rest
      (λ b. b) b

  up_code : (l : Name) (s : TypedStmt) (m : ℕ) (b k : Close) (rest : List Item) → B l rest → B l (code s m b k rest)
  up_code l s m b k rest h = past_code (λ is. B l is → B l (code s m b k rest)) (λ i is h b. h (grow l i is b))
      s m b k rest (λ b. b) h

  up_codes : (l : Name) (ss : TypedStmts) (m : ℕ) (b k : Close) (rest : List Item) → B l rest
      → B l (codes_of ss m b k rest)
  up_codes l ss m b k rest h = past_codes (λ is. B l is → B l (codes_of ss m b k rest)) (λ i is h b. h (grow l i is b))
      ss m b k rest (λ b. b) h

  up_items : (l : Name) (is : TypedItems) (m : ℕ) (g : Option Name) (b k : Close) (rest : List Item) → B l rest
      → B l (code_items is m g b k rest)
  up_items l is m g b k rest h = past_items (λ list. B l list → B l (code_items is m g b k rest))
      (λ i list h b. h (grow l i list b)) is m g b k rest (λ b. b) h

  -- an ending's blocks begin among these items
  abbrev Aim : List Item → Close → Type 0
  Aim rest c = Targets (λ l. B l rest) C c

  aim_more : (rest longer : List Item) → ((l : Name) → B l rest → B l longer) → (c : Close) → Aim rest c → Aim longer c
  aim_more rest longer more c h = targets_more (λ l. B l rest) (λ l. B l longer) C C more (λ l h. h) c h

  -- an expression's endings go to blocks that begin
  record Aims (w : Ways) : Type 0 where
    pub value : (rest : List Item) → P (w.value rest) → A rest → A (w.value rest)
    pub test : (t f : Name) (rest : List Item) → B t rest → B f rest → P (w.test t f rest) → A rest
        → A (w.test t f rest)

  aims_plain : (v : List Item → List Item) → ((rest : List Item) → P (v rest) → A rest → A (v rest)) → Aims (plain v)
  aims_plain v h = record {
    value = h;
    test = λ t f rest bt bf p a. h (Item.End (Close.Branch t f) None ∷ rest) p
        (finish (Close.Branch t f) None rest (bt, bf) a);
  }

  aims_logic : (m line : ℕ) (k : Name → Name → List Item → List Item)
      → ((t f : Name) (rest : List Item) → P (k t f rest) → P rest)
      → ((t f : Name) (rest : List Item) → B t rest → B f rest → P (k t f rest) → A rest → A (k t f rest))
      → Aims (logic m line k)
  aims_logic m line k past h = record {
    value = λ rest p a. let q = past _ _ _ p in let r = tail _ _ (tail _ _ (tail _ _ q)) in let j = tail _ _
        (tail _ _ r) in
        h _ _ _ (block _ _ _ q) (grow _ _ _ (grow _ _ _ (grow _ _ _ (block _ _ _ r)))) p
        (begin _ _ _ (act _ _ _ (finish _ _ _ (grow _ _ _ (grow _ _ _ (block (join_of m) (Some line) rest j)))
        (begin _ _ _ (act _ _ _ (begin _ _ _ a))))));
    test = h;
  }

  aim_converted : (from to : IntType) (rest : List Item) → A rest → A (converted from to rest)
  aim_converted from to rest a = go (type_code from == type_code to)
    where
      go : (same : Bool) → A (cond same rest (Item.Do (operation.Convert to) None ∷ rest))
      go true = a
      go false = act _ _ _ a

  aim_dropped : (b : Base) (rest : List Item) → A rest → A (dropped b rest)
  aim_dropped (base.Int t) rest a = act _ _ _ a
  aim_dropped base.Void rest a = a

  aim_cast : (from to : Base) (rest : List Item) → A rest → A (cast from to rest)
  aim_cast from base.Void rest a = aim_dropped from rest a
  aim_cast from (base.Int t) rest a = aim_converted _ t rest a

  aim_kept : (e : TypedExpr) (rest : List Item) → A rest → A (kept e rest)
  aim_kept (TypedExpr.At (TypedKind.Index c k place named e) b q line) rest a = act _ _ _ a
  aim_kept (TypedExpr.At kind b q line) rest a = a

  aim_doubled : (e : TypedExpr) (rest : List Item) → A rest → A (doubled e rest)
  aim_doubled (TypedExpr.At (TypedKind.Index c k place named e) b q line) rest a = act _ _ _ (act _ _ _ a)
  aim_doubled (TypedExpr.At kind b q line) rest a = act _ _ _ a

  aim_called : (f : Callee) (line m : ℕ) (rest : List Item) → P (called f line m rest) → A rest
      → A (called f line m rest)
  aim_called (callee.Function f) line m rest p a = finish _ _ _ (block _ _ _ (tail _ _ p)) (begin _ _ _ a)
  aim_called callee.GetChar line m rest p a = act _ _ _ a
  aim_called callee.PutChar line m rest p a = act _ _ _ a
  aim_called callee.Exit line m rest p a = finish _ _ _ tt (begin _ _ _ a)

  mutual
    aims : (e : TypedExpr) (m : ℕ) → Aims (ways e m)
    aims (TypedExpr.At kind b place line) m = aims_kind kind b line m

    aims_kind : (kind : TypedKind) (b : Base) (line m : ℕ) → Aims (kind_ways kind b line m)
    aims_kind (TypedKind.Name c) b line m = aims_plain _ (λ rest p a. act _ _ _ a)
    aims_kind (TypedKind.Number k t) b line m = aims_plain _ (λ rest p a. act _ _ _ a)
    aims_kind TypedKind.EofName b line m = aims_plain _ (λ rest p a. act _ _ _ a)
    aims_kind (TypedKind.Call f args) b line m =
        aims_plain _ (λ rest p a. aim_all args (suc m) _ p (aim_called f line m rest (past_all P tail args (suc m) _ p)
        a))
    aims_kind (TypedKind.Index c k place named x) b line m = aims_plain _
        (λ rest p a. (aims x (suc m)).value _ p (act _ _ _ (act _ _ _ a)))
    aims_kind (TypedKind.Convert x) b line m = aims_plain _ (λ rest p a. (aims x (suc m)).value _ p
        (aim_converted _ _ rest a))
    aims_kind (TypedKind.Plus x) b line m = aims_plain _ (λ rest p a. (aims x (suc m)).value _ p a)
    aims_kind (TypedKind.Minus x) b line m = aims_plain _ (λ rest p a. (aims x (suc m)).value _ p (act _ _ _ a))
    aims_kind (TypedKind.Complement x) b line m = aims_plain _ (λ rest p a. (aims x (suc m)).value _ p (act _ _ _ a))
    aims_kind (TypedKind.Not x) b line m = record {
      value = λ rest p a. (aims x (suc m)).value _ p (act _ _ _ a);
      test = λ t f rest bt bf p a. (aims x (suc m)).test f t rest bf bt p a;
    }
    aims_kind (TypedKind.Cast to x) b line m = aims_plain _ (λ rest p a. (aims x (suc m)).value _ p
        (aim_cast _ to rest a))
    aims_kind (TypedKind.Binary o x y) b line m =
        aims_plain _ (λ rest p a. (aims x (suc m)).value _ p ((aims y (suc m + nodes x)).value _
        (past_value P tail x (suc m) _ p) (act _ _ _ a)))
    aims_kind (TypedKind.AndAlso x y) b line m =
        aims_logic m line _ (λ t f rest p. past_test P tail y (suc m + nodes x) t f rest
        (tail _ _ (past_test P tail x (suc m) _ _ _ p)))
        (λ t f rest bt bf p a. let q = past_test P tail x (suc m) _ _ _ p in
        (aims x (suc m)).test _ _ _ (block _ _ _ q)
        (grow _ _ _ (up_test f y (suc m + nodes x) t f rest bf)) p (begin _ _ _
        ((aims y (suc m + nodes x)).test t f rest bt bf (tail _ _ q) a)))
    aims_kind (TypedKind.OrElse x y) b line m =
        aims_logic m line _ (λ t f rest p. past_test P tail y (suc m + nodes x) t f rest
        (tail _ _ (past_test P tail x (suc m) _ _ _ p)))
        (λ t f rest bt bf p a. let q = past_test P tail x (suc m) _ _ _ p in
        (aims x (suc m)).test _ _ _ (grow _ _ _ (up_test t y (suc m + nodes x) t f rest bt))
        (block _ _ _ q) p (begin _ _ _
        ((aims y (suc m + nodes x)).test t f rest bt bf (tail _ _ q) a)))
    aims_kind (TypedKind.Choose c x y) b line m =
        aims_plain _ (λ rest p a.
        let q = past_test P tail c (suc m) _ _ _ p in
        let r = tail _ _ (past_value P tail x (suc m + nodes c) _ (tail _ _ q)) in
        let j = past_value P tail y (suc m + nodes c + nodes x) _ (tail _ _ r) in
        let third = up_value _ x (suc m + nodes c) _ (grow _ _ _ (block _ _ _ r)) in
        let meet = up_value _ y (suc m + nodes c + nodes x) _ (block (join_of m) (Some line) rest j) in
        (aims c (suc m)).test _ _ _ (block _ _ _ q) (grow _ _ _ third) p
        (begin _ _ _ ((aims x (suc m + nodes c)).value _ (tail _ _ q)
        (finish _ _ _ (grow _ _ _ meet) (begin _ _ _
        ((aims y (suc m + nodes c + nodes x)).value _ (tail _ _ r) (begin _ _ _ a)))))))
    aims_kind (TypedKind.Assign None target x) b line m =
        aims_plain _ (λ rest p a. aim_index target (suc m) _ p
        ((aims x (suc m + nodes target)).value _ (past_index P tail target (suc m) _ p) (act _ _ _ a)))
    aims_kind (TypedKind.Assign (Some o) target x) b line m =
        aims_plain _ (λ rest p a. aim_index target (suc m) _ p
        (aim_kept target _ (act _ _ _ (aim_converted _ _ _ ((aims x (suc m + nodes target)).value _
        (past_converted P tail _ _ _ (tail _ _ (past_kept P tail target _ (past_index P tail target (suc m) _ p))))
        (act _ _ _ (aim_converted _ _ _ (act _ _ _ a))))))))
    aims_kind (TypedKind.Before o target) b line m =
        aims_plain _ (λ rest p a. aim_index target (suc m) _ p
        (aim_kept target _ (act _ _ _ (aim_converted _ _ _
        (act _ _ _ (act _ _ _ (aim_converted _ _ _ (act _ _ _ a))))))))
    aims_kind (TypedKind.After o target) b line m =
        aims_plain _ (λ rest p a. aim_index target (suc m) _ p
        (aim_kept target _ (act _ _ _ (aim_doubled target _ (aim_converted _ _ _
        (act _ _ _ (act _ _ _ (aim_converted _ _ _ (act _ _ _ (act _ _ _ a))))))))))
    aims_kind (TypedKind.Comma x y) b line m =
        aims_plain _ (λ rest p a. (aims x (suc m)).value _ p (aim_dropped (base_of x) _
        ((aims y (suc m + nodes x)).value _
        (past_dropped P tail (base_of x) _ (past_value P tail x (suc m) _ p)) a)))

    aim_index : (target : TypedExpr) (m : ℕ) (rest : List Item) → P (index_of target m rest) → A rest
        → A (index_of target m rest)
    aim_index (TypedExpr.At (TypedKind.Index c k place named x) b q line) m rest p a = (aims x (suc m)).value _ p
        (act _ _ _ a)
    aim_index (TypedExpr.At kind b q line) m rest p a = a

    aim_all : (es : TypedExprs) (m : ℕ) (rest : List Item) → P (all_values es m rest) → A rest
        → A (all_values es m rest)
    aim_all TypedExprs.End m rest p a = a
    aim_all (TypedExprs.More x es) m rest p a = (aims x m).value _ p
        (aim_all es (m + nodes x) rest (past_value P tail x m _ p) a)

  aim_value : (e : TypedExpr) (m : ℕ) (rest : List Item) → P ((ways e m).value rest) → A rest
      → A ((ways e m).value rest)
  aim_value e m rest p a = (aims e m).value rest p a

  aim_test : (e : TypedExpr) (m : ℕ) (t f : Name) (rest : List Item) → B t rest → B f rest
      → P ((ways e m).test t f rest) → A rest → A ((ways e m).test t f rest)
  aim_test e m t f rest bt bf p a = (aims e m).test t f rest bt bf p a

  -- ---- statements

  aim_zeros : (some c n k : ℕ) (line : Option ℕ) (rest : List Item) → A rest → A (zeros some c n k line rest)
  aim_zeros zero c n k line rest a = a
  aim_zeros (suc some) c n k line rest a = act _ _ _ (act _ _ _
      (act _ _ _ (act _ _ _ (aim_zeros some c n (suc k) None rest a))))

  aim_elements : (es : List TypedExpr) (m c n k : ℕ) (line : Option ℕ) (rest : List Item)
      → P (elements es m c n k line rest) → A rest → A (elements es m c n k line rest)
  aim_elements [] m c n k line rest p a = aim_zeros (n - k) c n k line rest a
  aim_elements (e ∷ es) m c n k line rest p a =
      act _ _ _ (aim_value e m _ (tail _ _ p) (act _ _ _ (act _ _ _
      (aim_elements es (m + nodes e) c n (suc k) None rest (tail _ _ (tail _ _ (past_value P tail e m _ (tail _ _ p))))
      a))))

  aim_init : (v : TypedVar) (init : TypedInit) (m : ℕ) (rest : List Item) → P (initialised v init m rest) → A rest
      → A (initialised v init m rest)
  aim_init v TypedInit.Absent m rest p a = a
  aim_init v (TypedInit.One e) m rest p a = aim_value e m _ p (act _ _ _ (act _ _ _ a))
  aim_init v (TypedInit.Several es) m rest p a = aim_elements es m v.cell (size v) 0 (Some v.line) rest p a

  aim_vars : (vs : List TypedVar) (m : ℕ) (rest : List Item) → P (declarations vs m rest) → A rest
      → A (declarations vs m rest)
  aim_vars [] m rest p a = a
  aim_vars (v ∷ vs) m rest p a = aim_init v v.init m _ p (aim_vars vs (m + init_nodes v.init) rest
      (past_init P tail v v.init m _ p) a)

  aim_value_if : (e : Option TypedExpr) (m : ℕ) (rest : List Item) → P (value_if e m rest) → A rest
      → A (value_if e m rest)
  aim_value_if None m rest p a = a
  aim_value_if (Some e) m rest p a = aim_value e m rest p a

  aim_tested : (e : Option TypedExpr) (m : ℕ) (t f : Name) (rest : List Item) → B f rest → P (tested e m t f rest) → A
      rest
      → A (tested e m t f rest)
  aim_tested None m t f rest bf p a = a
  aim_tested (Some e) m t f rest bf p a = aim_test e m t f _ (block _ _ _ (past_test P tail e m t f _ p))
      (grow _ _ _ bf) p
      (begin _ _ _ a)

  aim_stepped : (e : Option TypedExpr) (m : ℕ) (u : Name) (rest : List Item) → P (stepped e m u rest) → A rest
      → A (stepped e m u rest)
  aim_stepped None m u rest p a = a
  aim_stepped (Some e) m u rest p a = begin _ _ _ (aim_value e m _ (tail _ _ p) (aim_dropped (base_of e) rest a))

  -- `continue` in a `for`
  continues_aimed : (e : Option TypedExpr) (m : ℕ) (u h : Name) (rest : List Item) → C h → P (stepped e m u rest)
      → Aim (stepped e m u rest) (continues_to e u h)
  continues_aimed None m u h rest bh p = bh
  continues_aimed (Some e) m u h rest bh p = block _ _ _ p

  aim_label : (g : Option Name) (m : ℕ) (rest : List Item) → A rest → A (labelled g m rest)
  aim_label None m rest a = begin _ _ _ a
  aim_label (Some g) m rest a = a

  -- the group of the item before has a block, where that is a label
  abbrev Grouped : List Item → Option Name → Type 0
  Grouped whole None = Unit {0}
  Grouped whole (Some g) = B g whole

  grouped : (whole : List Item) (g : Option Name) (m : ℕ) (rest : List Item)
      → ((l : Name) → B l (labelled g m rest) → B l whole) → Grouped whole g → P (labelled g m rest)
      → B (group_at g m) whole
  grouped whole None m rest lift h p = lift _ (block _ _ _ p)
  grouped whole (Some g) m rest lift h p = h

  -- the blocks of a switch begin among its items
  cases_aimed : (whole : List Item) (is : TypedItems) (m : ℕ) (g : Option Name) (b k : Close) (rest : List Item)
      → ((l : Name) → B l (code_items is m g b k rest) → B l whole) → Grouped whole g → P (code_items is m g b k rest)
      → Each (λ c. B c.1 whole) (cases_of is m g)
  cases_aimed whole TypedItems.Last m g b k rest lift h p = tt
  cases_aimed whole (TypedItems.Further (TypedItem.Case n place) is) m g b k rest lift h p =
      let own = grouped whole g m _ lift h p in (
        own,
        cases_aimed whole is (suc m) (Some (group_at g m)) b k rest (λ l b. lift l (up_label l g m _ b)) own
            (past_label P tail g m _ p),
      )
  cases_aimed whole (TypedItems.Further (TypedItem.Default place) is) m g b k rest lift h p =
      cases_aimed whole is (suc m) (Some (group_at g m)) b k rest (λ l b. lift l (up_label l g m _ b))
      (grouped whole g m _ lift h p) (past_label P tail g m _ p)
  cases_aimed whole (TypedItems.Further (TypedItem.Item s) is) m g b k rest lift h p =
      cases_aimed whole is (m + stmt_nodes s) None b k rest (λ l h. lift l (up_code l s m b k _ h)) tt
      (past_code P tail s m b k _ p)

  default_aimed : (whole : List Item) (is : TypedItems) (m : ℕ) (g : Option Name) (end : Name) (b k : Close)
      (rest : List Item) → ((l : Name) → B l (code_items is m g b k rest) → B l whole) → B end whole → Grouped whole g
      → P (code_items is m g b k rest) → B (default_of is m g end) whole
  default_aimed whole TypedItems.Last m g end b k rest lift be h p = be
  default_aimed whole (TypedItems.Further (TypedItem.Case n place) is) m g end b k rest lift be h p =
      default_aimed whole is (suc m) (Some (group_at g m)) end b k rest (λ l b. lift l (up_label l g m _ b)) be
      (grouped whole g m _ lift h p) (past_label P tail g m _ p)
  default_aimed whole (TypedItems.Further (TypedItem.Default place) is) m g end b k rest lift be h p =
      grouped whole g m _ lift h p
  default_aimed whole (TypedItems.Further (TypedItem.Item s) is) m g end b k rest lift be h p =
      default_aimed whole is (m + stmt_nodes s) None end b k rest (λ l h. lift l (up_code l s m b k _ h)) be tt
      (past_code P tail s m b k _ p)

  mutual
    aim_code : (s : TypedStmt) (m : ℕ) (b k : Close) (rest : List Item) → Aim rest b → Aim rest k
        → P (code s m b k rest) → A rest → A (code s m b k rest)
    aim_code (TypedStmt.Vars vars) m b k rest tb tk p a = aim_vars vars (suc m) rest p a
    aim_code (TypedStmt.Block ss) m b k rest tb tk p a = aim_codes ss (suc m) b k rest tb tk p a
    aim_code TypedStmt.Empty m b k rest tb tk p a = a
    aim_code (TypedStmt.Value e) m b k rest tb tk p a = aim_value e (suc m) _ p (aim_dropped (base_of e) rest a)
    aim_code (TypedStmt.If c s OtherTyped.Nothing) m b k rest tb tk p a =
        let over : List Item = Item.Begin (end_of m) None ∷ rest in
        let lift : (l : Name) → B l rest → B l over = λ l b. grow l _ rest b in
        let q = past_test P tail c (suc m) _ _ _ p in
        let z = block _ _ _ (past_code P tail s (suc m + nodes c) b k over (tail _ _ q)) in
        aim_test c (suc m) _ _ _ (block _ _ _ q) (grow _ _ _ (up_code _ s (suc m + nodes c) b k over z)) p
        (begin _ _ _ (aim_code s (suc m + nodes c) b k over (aim_more rest over lift b tb)
        (aim_more rest over lift k tk)
        (tail _ _ q) (begin _ _ _ a)))
    aim_code (TypedStmt.If c s (OtherTyped.There t)) m b k rest tb tk p a =
        let n : ℕ = suc m + nodes c + stmt_nodes s in
        let over : List Item = Item.Begin (end_of m) None ∷ rest in
        let second : List Item = Item.Begin (else_of m) None ∷ code t n b k over in
        let first : List Item = Item.End (Close.Jump (end_of m)) None ∷ second in
        let lift : (l : Name) → B l rest → B l over = λ l b. grow l _ rest b in
        let far : (l : Name) → B l rest → B l first = λ l h. grow l _ second
        (grow l _ _ (up_code l t n b k over (lift l h))) in
        let q = past_test P tail c (suc m) _ _ _ p in
        let r = tail _ _ (past_code P tail s (suc m + nodes c) b k first (tail _ _ q)) in
        let z = block _ _ _ (past_code P tail t n b k over (tail _ _ r)) in
        let other = up_code _ s (suc m + nodes c) b k first (grow _ _ second (block _ _ _ r)) in
        aim_test c (suc m) _ _ _ (block _ _ _ q) (grow _ _ _ other) p
        (begin _ _ _ (aim_code s (suc m + nodes c) b k first (aim_more rest first far b tb)
        (aim_more rest first far k tk)
        (tail _ _ q)
        (finish _ _ second (grow _ _ _ (up_code _ t n b k over z)) (begin _ _ _
        (aim_code t n b k over (aim_more rest over lift b tb) (aim_more rest over lift k tk) (tail _ _ r)
        (begin _ _ _ a))))))
    aim_code (TypedStmt.While c s) m b k rest tb tk p a =
        let over : List Item = Item.Begin (end_of m) None ∷ rest in
        let last : List Item = Item.End (Close.Back (head_of m)) None ∷ over in
        let h = anchor _ _ _ p in
        let q = past_test P tail c (suc m) _ _ _ (tail _ _ p) in
        let z = block _ _ _ (tail _ _ (past_code P tail s (suc m + nodes c) _ _ last (tail _ _ q))) in
        let out = grow _ _ over z in
        begin _ _ _ (aim_test c (suc m) _ _ _ (block _ _ _ q) (grow _ _ _ (up_code _ s (suc m + nodes c) _ _ last out))
        (tail _ _ p) (begin _ _ _ (aim_code s (suc m + nodes c) _ _ last out h (tail _ _ q)
        (finish _ _ over h (begin _ _ _ a)))))
    aim_code (TypedStmt.DoWhile s c line) m b k rest tb tk p a =
        let n : ℕ = suc m + stmt_nodes s in
        let over : List Item = Item.Begin (end_of m) None ∷ rest in
        let again : List Item = Item.Begin (again_of m) (Some line) ∷ Item.End (Close.Back (body_of m)) None ∷ over in
        let tests : List Item = Item.Begin (test_of m) None ∷ (ways c n).test (again_of m) (end_of m) again in
        let h = anchor _ _ _ p in
        let q = past_code P tail s (suc m) _ _ tests (tail _ _ p) in
        let r = past_test P tail c n _ _ again (tail _ _ q) in
        let z = grow _ _ _ (grow _ _ over (block _ _ _ (tail _ _ (tail _ _ r)))) in
        begin _ _ _ (aim_code s (suc m) _ _ tests (grow _ _ _ (up_test _ c n _ _ again z)) (block _ _ _ q) (tail _ _ p)
        (begin _ _ _ (aim_test c n _ _ again (block _ _ _ r) z (tail _ _ q)
        (begin _ _ _ (finish _ _ over h (begin _ _ _ a))))))
    aim_code (TypedStmt.For (TypedForHead.Head first test step) s) m b k rest tb tk p a =
        let n : ℕ = suc m + other_nodes first in
        let over : List Item = Item.Begin (end_of m) None ∷ rest in
        let last : List Item = Item.End (Close.Back (head_of m)) None ∷ over in
        let steps : List Item = stepped step (n + nodes_if test + stmt_nodes s) (step_of m) last in
        let next : Close = continues_to step (step_of m) (head_of m) in
        let body : List Item = code s (n + nodes_if test) (Close.Jump (end_of m)) next steps in
        let round : List Item = Item.Begin (head_of m) None ∷ tested test n (body_of m) (end_of m) body in
        let far : (l : Name) → B l rest → B l round = λ l h. grow l _ _ (up_tested l test n _ _ body
        (up_code l s (n + nodes_if test) _ next steps (up_stepped l step (n + nodes_if test + stmt_nodes s) _ last
        (grow l _ over (grow l _ rest h))))) in
        let q = past_other P tail first (suc m) b k round p in
        let h = anchor _ _ _ q in
        let r = past_tested P tail test n _ _ body (tail _ _ q) in
        let t = past_code P tail s (n + nodes_if test) _ next steps r in
        let z = block _ _ _ (tail _ _ (past_stepped P tail step (n + nodes_if test + stmt_nodes s) _ last t)) in
        let out = up_stepped _ step (n + nodes_if test + stmt_nodes s) (step_of m) last (grow _ _ over z) in
        aim_other first (suc m) b k round (aim_more rest round far b tb) (aim_more rest round far k tk) p
        (begin _ _ _ (aim_tested test n _ _ body (up_code _ s (n + nodes_if test) _ next steps out) (tail _ _ q)
        (aim_code s (n + nodes_if test) _ next steps out
        (continues_aimed step (n + nodes_if test + stmt_nodes s) (step_of m) (head_of m) last h t) r
        (aim_stepped step (n + nodes_if test + stmt_nodes s) _ last t (finish _ _ over h (begin _ _ _ a))))))
    aim_code (TypedStmt.Switch e is) m b k rest tb tk p a =
        let n : ℕ = suc m + nodes e in
        let over : List Item = Item.Begin (end_of m) None ∷ rest in
        let lift : (l : Name) → B l rest → B l over = λ l b. grow l _ rest b in
        let whole : List Item = code_items is n None (Close.Jump (end_of m)) k over in
        let q = tail _ _ (past_value P tail e (suc m) _ p) in
        let z = block _ _ _ (past_items P tail is n None _ k over q) in
        aim_value e (suc m) _ p (finish _ _ whole (
          cases_aimed whole is n None _ k over (λ l b. b) tt q,
          default_aimed whole is n None _ _ k over (λ l b. b) (up_items _ is n None _ k over z) tt q,
        )
        (aim_items is n None _ k over z (aim_more rest over lift k tk) q (begin _ _ _ a)))
    aim_code (TypedStmt.Break place line) m b k rest tb tk p a = finish _ _ _ tb a
    aim_code (TypedStmt.Continue place line) m b k rest tb tk p a = finish _ _ _ tk a
    aim_code (TypedStmt.Return e place line) m b k rest tb tk p a = aim_value_if e (suc m) _ p (finish _ _ _ tt a)

    aim_other : (s : OtherTyped) (m : ℕ) (b k : Close) (rest : List Item) → Aim rest b → Aim rest k
        → P (code_other s m b k rest) → A rest → A (code_other s m b k rest)
    aim_other OtherTyped.Nothing m b k rest tb tk p a = a
    aim_other (OtherTyped.There s) m b k rest tb tk p a = aim_code s m b k rest tb tk p a

    pub aim_codes : (ss : TypedStmts) (m : ℕ) (b k : Close) (rest : List Item) → Aim rest b → Aim rest k
        → P (codes_of ss m b k rest) → A rest → A (codes_of ss m b k rest)
    aim_codes TypedStmts.End m b k rest tb tk p a = a
    aim_codes (TypedStmts.More s ss) m b k rest tb tk p a =
        let n : ℕ = m + stmt_nodes s in
        let others : List Item = codes_of ss n b k rest in
        let far : (l : Name) → B l rest → B l others = λ l h. up_codes l ss n b k rest h in
        aim_code s m b k others (aim_more rest others far b tb) (aim_more rest others far k tk) p
        (aim_codes ss n b k rest tb tk (past_code P tail s m b k others p) a)

    aim_items : (is : TypedItems) (m : ℕ) (g : Option Name) (b k : Close) (rest : List Item) → Aim rest b → Aim rest k
        → P (code_items is m g b k rest) → A rest → A (code_items is m g b k rest)
    aim_items TypedItems.Last m g b k rest tb tk p a = a
    aim_items (TypedItems.Further (TypedItem.Case n place) is) m g b k rest tb tk p a =
        aim_label g m _ (aim_items is (suc m) (Some (group_at g m)) b k rest tb tk (past_label P tail g m _ p) a)
    aim_items (TypedItems.Further (TypedItem.Default place) is) m g b k rest tb tk p a =
        aim_label g m _ (aim_items is (suc m) (Some (group_at g m)) b k rest tb tk (past_label P tail g m _ p) a)
    aim_items (TypedItems.Further (TypedItem.Item s) is) m g b k rest tb tk p a =
        let n : ℕ = m + stmt_nodes s in
        let others : List Item = code_items is n None b k rest in
        let far : (l : Name) → B l rest → B l others = λ l h. up_items l is n None b k rest h in
        aim_code s m b k others (aim_more rest others far b tb) (aim_more rest others far k tk) p
        (aim_items is n None b k rest tb tk (past_code P tail s m b k others p) a)

-- ---- the graph

-- the graph has a block of this number
abbrev pub HasNumber : Site → ℕ → Type 0
HasNumber x t = (b : Block) × (block_at (graph_at x) t ≡ Some b)

-- the graph has a block at the number of this name
abbrev pub HasBlock : Site → Name → Type 0
HasBlock x l = HasNumber x (number x l)

-- the block of this name begins among the items
abbrev pub Later : Name → List Item → Type 0
Later l [] = ⊥
Later l (Item.Begin n line ∷ is) = (l ≡ n) ⊎ Later l is
Later l (Item.Do o line ∷ is) = Later l is
Later l (Item.End c line ∷ is) = Later l is

pub later_still : (l : Name) (i : Item) (is : List Item) → Later l is → Later l (i ∷ is)
later_still l (Item.Begin n line) is h = inr h
later_still l (Item.Do o line) is h = h
later_still l (Item.End c line) is h = h

-- each name in an ending among the items is so, and its block begins behind the ending where that isn't an arc back
abbrev pub Aimed : Site → List Item → Type 0
Aimed x [] = Unit {0}
Aimed x (Item.Begin l line ∷ is) = Aimed x is
Aimed x (Item.Do o line ∷ is) = Aimed x is
Aimed x (Item.End c line ∷ is) = Targets (λ l. HasBlock x l × Later l is) (HasBlock x) c × Aimed x is

-- Each name in an ending among a function's items is the name of a block of its graph.
pub all_aimed : (x : Site) → Stands x → Aimed x (items_of x.text)
all_aimed x stands =
    aim_codes (Placed x) (Aimed x) (λ l is. HasBlock x l × Later l is) (HasBlock x) (placed_tail x)
    (λ l i is h. (h.0, later_still l i is h.1)) (λ l line is p. ((_, p.0), inl refl)) (λ l line is p. (_, p.0))
    (λ l line is a. a) (λ o line is a. a) (λ c line is h a. (h, a))
    x.text.body 0 Close.Leave Close.Leave [] tt tt (all_placed x stands) tt

-- one of the blocks has this name
abbrev pub Behind : Name → List Named → Type 0
Behind l [] = ⊥
Behind l (b ∷ bs) = (b.name ≡ Some l) ⊎ Behind l bs

behind_left : (l : Name) (c : Close) (line : Option ℕ) (later : List Named) → Behind l later
    → Behind l (left_out c line later)
behind_left l (Close.Jump n) line later h = h
behind_left l (Close.Back n) line later h = h
behind_left l (Close.Branch t f) line later h = inr h
behind_left l (Close.Select cases default) line later h = inr h
behind_left l (Close.CallTo f at n) line later h = inr h
behind_left l Close.Leave line later h = inr h
behind_left l Close.Quit line later h = inr h

mutual
  -- a block that begins among the items is one of those that are made of them
  pub behind_opened : (l : Name) (gives : Bool) (is : List Item) → Later l is → Behind l (opened gives is).later
  behind_opened l gives [] h = absurd h
  behind_opened l gives (Item.Begin n line ∷ is) (inl e) = inl (ap (λ (k : Name). Some k) (sym e))
  behind_opened l gives (Item.Begin n line ∷ is) (inr h) = inr (behind_opened l gives is h)
  behind_opened l gives (Item.Do o line ∷ is) h = behind_opened l gives is h
  behind_opened l gives (Item.End c line ∷ is) h = behind_shut l gives is h

  pub behind_shut : (l : Name) (gives : Bool) (is : List Item) → Later l is → Behind l (shut gives is)
  behind_shut l gives [] h = absurd h
  behind_shut l gives (Item.Begin n line ∷ is) (inl e) = inl (ap (λ (k : Name). Some k) (sym e))
  behind_shut l gives (Item.Begin n line ∷ is) (inr h) = inr (behind_opened l gives is h)
  behind_shut l gives (Item.Do o line ∷ is) h = inr (behind_opened l gives is h)
  behind_shut l gives (Item.End c line ∷ is) h = behind_left l c line (shut gives is) (behind_shut l gives is h)

-- the endings of blocks go to blocks, and those that aren't arcs back to blocks behind
abbrev pub BlocksAimed : Site → List Named → Type 0
BlocksAimed x [] = Unit {0}
BlocksAimed x (b ∷ bs) = Targets (λ l. HasBlock x l × Behind l bs) (HasBlock x) b.close × BlocksAimed x bs

module _ (x : Site) where
  left_aimed : (c : Close) (line : Option ℕ) (later : List Named)
      → Targets (λ l. HasBlock x l × Behind l later) (HasBlock x) c → BlocksAimed x later
      → BlocksAimed x (left_out c line later)
  left_aimed (Close.Jump l) line later h a = a
  left_aimed (Close.Back l) line later h a = a
  left_aimed (Close.Branch t f) line later h a = (h, a)
  left_aimed (Close.Select cases default) line later h a = (h, a)
  left_aimed (Close.CallTo f at l) line later h a = (h, a)
  left_aimed Close.Leave line later h a = (h, a)
  left_aimed Close.Quit line later h a = (h, a)

  closed_aimed : (gives : Bool) (is : List Item) (c : Close) → Targets (λ l. HasBlock x l × Later l is) (HasBlock x) c
      → Targets (λ l. HasBlock x l × Behind l (shut gives is)) (HasBlock x) c
  closed_aimed gives is c h =
      targets_more (λ l. HasBlock x l × Later l is) (λ l. HasBlock x l × Behind l (shut gives is)) (HasBlock x)
      (HasBlock x) (λ l h. (h.0, behind_shut l gives is h.1)) (λ l h. h) c h

  mutual
    opened_aimed : (gives : Bool) (is : List Item) → Placed x is → Aimed x is
        → Targets (λ l. HasBlock x l × Behind l (opened gives is).later) (HasBlock x) (opened gives is).close
        × BlocksAimed x (opened gives is).later
    opened_aimed true [] p a = (tt, tt)
    opened_aimed false [] p a = (tt, tt)
    opened_aimed gives (Item.Begin l line ∷ is) p a = (((_, p.0), inl refl), opened_aimed gives is p.1 a)
    opened_aimed gives (Item.Do o line ∷ is) p a = opened_aimed gives is p a
    opened_aimed gives (Item.End c line ∷ is) p a = (closed_aimed gives is c a.0, shut_aimed gives is p a.1)

    shut_aimed : (gives : Bool) (is : List Item) → Placed x is → Aimed x is → BlocksAimed x (shut gives is)
    shut_aimed gives [] p a = tt
    shut_aimed gives (Item.Begin l line ∷ is) p a = opened_aimed gives is p.1 a
    shut_aimed gives (Item.Do o line ∷ is) p a = opened_aimed gives is p a
    shut_aimed gives (Item.End c line ∷ is) p a =
        left_aimed c line (shut gives is) (closed_aimed gives is c a.0) (shut_aimed gives is p a.1)

-- Each name in the ending of a block of a function is the name of a block of its graph, so that no ending has a number
-- without a block.
pub blocks_aimed : (x : Site) → Stands x → BlocksAimed x (named_blocks x.text)
blocks_aimed x stands = opened_aimed x (gives_number x.text.result) (items_of x.text) (all_placed x stands)
    (all_aimed x stands)

-- ---- numbers

-- the graph has a block of this number, behind its first
abbrev pub IsBlock : Site → ℕ → Type 0
IsBlock x t = (2 < t) × HasNumber x t

-- no name is that of a block before the first of those that are numbered
number_least : (n : ℕ) (bs : List Named) (l : Name) → n ≤ number_from n bs l
number_least n [] l = omega arith
number_least n (b ∷ bs) l = go (is_name l b.name) (number_least (suc n) bs l)
  where
    go : (same : Bool) → suc n ≤ number_from (suc n) bs l → n ≤ cond same n (number_from (suc n) bs l)
    go true more = omega arith
    go false more = omega (arith, more)

-- a number among ascending ones is the one that was put in, or another of them
among_cases : (n t : ℕ) (ls : List ℕ) → among t (inserted n ls) ≡ true → (t ≡ n) ⊎ (among t ls ≡ true)
among_cases n t [] h = elim (or_cases (t == n) false h) [ inl e ↦ inl (eqb-true t n e) | inr never ↦ absurd (cc) ]
among_cases n t (l ∷ ls) h = go (nat_lt n l) (n == l) (λ h. among_cases n t ls h) h
  where
    go : (x y : Bool) → (among t (inserted n ls) ≡ true → (t ≡ n) ⊎ (among t ls ≡ true))
        → among t (cond x (n ∷ l ∷ ls) (cond y (l ∷ ls) (l ∷ inserted n ls))) ≡ true
        → (t ≡ n) ⊎ ((t == l || among t ls) ≡ true)
    go true y more h = elim (or_cases (t == n) (t == l || among t ls) h)
        [ inl e ↦ inl (eqb-true t n e) | inr other ↦ inr other ]
    go false true more h = inr h
    go false false more h = elim (or_cases (t == l) (among t (inserted n ls)) h) [
      | inl e ↦ inr (or_left _ _ e)
      | inr later ↦ elim (more later) [ inl e ↦ inl e | inr other ↦ inr (or_right _ _ other) ]
    ]

-- a block that is there is no further than there are blocks
pub in_length : {A : Type 0} (xs : List A) (k : ℕ) (a : A) → slice_get xs k ≡ Some a → k < length xs
in_length [] k a e = absurd (none-some a e)
in_length (x ∷ xs) zero a e = omega arith
in_length (x ∷ xs) (suc k) a e = let h = in_length xs k a e in omega (arith, h)

-- An ending that leads to blocks of the graph, and to later ones where it isn't an arc back.
record Reaches (x : Site) (own : ℕ) (end : Ending) : Type 0 where
  pub there : (t : ℕ) → among t (targets end) ≡ true → IsBlock x t
  pub up : is_back end ≡ false → (t : ℕ) → among t (targets end) ≡ true → own < t

module _ (x : Site) where
  -- the numbers of an ending
  module _ (Q : ℕ → Type 0) where
    one_target : (l : Name) (t : ℕ) → Q (number x l) → among t (number x l ∷ []) ≡ true → Q t
    one_target l t has h = elim (or_cases (t == number x l) false h) [
      | inl e ↦ subst Q (sym (eqb-true t (number x l) e)) has
      | inr never ↦ absurd (cc)
    ]

    abbrev Numbers : Close → Type 0
    Numbers c = Targets (λ l. Q (number x l)) (λ l. Q (number x l)) c

    each_number : (c : Close) → Numbers c → (t : ℕ) → among t (targets (numbered (number x) c)) ≡ true → Q t
    each_number (Close.Jump l) has t h = one_target l t has h
    each_number (Close.Back l) has t h = one_target l t has h
    each_number (Close.Branch a b) has t h =
        elim (among_cases (number x a) t (number x b ∷ []) h) [
          | inl e ↦ subst Q (sym e) has.0
          | inr other ↦ one_target b t has.1 other
        ]
    each_number (Close.Select [] default) has t h = one_target default t has.1 h
    each_number (Close.Select (c ∷ cases) default) has t h =
        elim (among_cases (number x c.1) t (targets (numbered (number x) (Close.Select cases default))) h) [
          | inl e ↦ subst Q (sym e) has.0.0
          | inr other ↦ each_number (Close.Select cases default) (has.0.1, has.1) t other
        ]
    each_number (Close.CallTo g line l) has t h = one_target l t has h
    each_number Close.Leave has t h = absurd (cc)
    each_number Close.Quit has t h = absurd (cc)

    -- where the ending is no arc back, nothing is asked of arcs back
    forward : (C : Name → Type 0) (c : Close) → is_back (numbered (number x) c) ≡ false
        → Targets (λ l. Q (number x l)) C c → Numbers c
    forward C (Close.Jump l) e h = h
    forward C (Close.Back l) e h = absurd (let never : true ≡ false = e in cc)
    forward C (Close.Branch t f) e h = h
    forward C (Close.Select cases default) e h = h
    forward C (Close.CallTo f line l) e h = h
    forward C Close.Leave e h = tt
    forward C Close.Quit e h = tt

  block_behind : (l : Name) → HasBlock x l → IsBlock x (number x l)
  block_behind l has = (number_least 3 (opened (gives_number x.text.result) (items_of x.text)).later l, has)

  -- the blocks behind others have numbers above them
  number_behind : (front bs : List Named) (l : Name) → named_blocks x.text ≡ front ++ bs → Behind l bs
      → 2 + length front ≤ number x l
  number_behind front [] l e h = absurd h
  number_behind front (b ∷ bs) l e (inl named) = let own = in_order_of x.text front b bs l e named in omega (arith, own)
  number_behind front (b ∷ bs) l e (inr h) =
      let more = number_behind (front ++ b ∷ []) bs l (e ∙ one_more front b bs) h in
      let long = length-append front (b ∷ []) in omega (arith, more, long)

  reaches : (front : List Named) (b : Named) (bs : List Named) → named_blocks x.text ≡ front ++ b ∷ bs
      → Targets (λ l. HasBlock x l × Behind l bs) (HasBlock x) b.close
      → Reaches x (2 + length front) (numbered (number x) b.close)
  reaches front b bs e h = record {
    there =
        each_number (IsBlock x) b.close (targets_more (λ l. HasBlock x l × Behind l bs) (λ l. IsBlock x (number x l))
        (HasBlock x) (λ l. IsBlock x (number x l)) (λ l h. block_behind l h.0) block_behind b.close h);
    up = λ forth. each_number (λ t. 2 + length front < t) b.close
        (forward (λ t. 2 + length front < t) (HasBlock x) b.close forth
        (targets_more (λ l. HasBlock x l × Behind l bs) (λ l. 2 + length front < number x l) (HasBlock x) (HasBlock x)
        (λ l h. above l h.1) (λ l h. h) b.close h));
  }
    where
      above : (l : Name) → Behind l bs → 2 + length front < number x l
      above l h =
          let more = number_behind (front ++ b ∷ []) bs l (e ∙ one_more front b bs) h in
          let long = length-append front (b ∷ []) in omega (arith, more, long)

  -- the same of the blocks of a list, by their places
  each_there : (front bs : List Named) → named_blocks x.text ≡ front ++ bs → BlocksAimed x bs → (k : ℕ) (b : Block)
      → slice_get (map (block_of (number x)) bs) k ≡ Some b → Reaches x (2 + length front + k) b.end
  each_there front [] e has k b is = absurd (none-some b is)
  each_there front (n ∷ bs) e has zero b is =
      let same = same_Some (block_of (number x) n) b is in
      let own : 2 + length front ≡ 2 + length front + 0 = omega arith in
      subst (λ (j : ℕ). Reaches x j b.end) own
      (subst (λ (b : Block). Reaches x (2 + length front) b.end) same (reaches front n bs e has.0))
  each_there front (n ∷ bs) e has (suc k) b is =
      let long = length-append front (n ∷ []) in
      let own : 2 + length (front ++ n ∷ []) + k ≡ 2 + length front + suc k = omega (arith, long) in
      subst (λ (j : ℕ). Reaches x j b.end) own
      (each_there (front ++ n ∷ []) bs (e ∙ one_more front n bs) has.1 k b is)

-- Each number in the ending of a block of a source's graph is that of a block of the graph behind its first, and that
-- of a block behind its own where the ending isn't an arc back.
pub targets_stand : (source : Typed) (g : Graph) (b : Block) (at : IsBlockOf source g b) → EndsWell g at.place b.end
targets_stand source g b at =
    let found = text_found source.functions at.function g at.graph in
    let x : Site = record { source = source; function = at.function; text = found.0; callers = [] } in
    let stands : Stands x = graph_found source.functions at.function found.0 found.1 in
    let same : graph_of found.0 ≡ g = same_Some (graph_of found.0) g (sym stands ∙ at.graph) in
    let own : slice_get (graph_of found.0).blocks at.place ≡ Some b =
    subst (λ (g : Graph). slice_get g.blocks at.place ≡ Some b) (sym same) at.block in
    let ends = each_there x [] (named_blocks found.0) refl (blocks_aimed x stands) at.place b own in
    record {
      stands = λ t h.
          let there = ends.there t h in
          let short = in_length g.blocks (t - 2) there.1.0
          (subst (λ (o : Option Graph). block_at o t ≡ Some there.1.0) at.graph there.1.1) in
          record { above = there.0; below = let up = there.0 in omega (arith, short, up) };
      up = λ forth t h. let more = ends.up forth t h in omega (arith, more);
    }
