-- The blocks that an expression begins have the numbers of its own nodes in their names, and no two of them have one
-- name.
use Rattle.std.proofs.Common.{
  arith,
  ◌≡◌,
  ◌≢◌,
  refl,
  ℕ,
  suc,
  ◌+◌,
  ◌<◌,
  ◌≤◌,
  ◌==◌,
  Bool,
  true,
  false,
  cond,
  List,
  [],
  ◌∷◌,
  Option,
  Some,
  None,
}
use Rattle.std.specs.Prelude.{nat_lt}
use Rattle.std.proofs.lemmas.Bool.Decides.{nat_tests}
use Rattle.int_ops.specs.declared.types.IntType.{IntType}
use Rattle.int_ops.specs.Codes.{type_code}
use Rattle.c_tree.specs.declared.expr.Base.{Base}
use Rattle.c_tree.specs.declared.expr.Base.TheVariants as base
use Rattle.c_tree.specs.declared.typed_expr.Callee.{Callee}
use Rattle.c_tree.specs.declared.typed_expr.Callee.TheVariants as callee
use Rattle.c_tree.specs.TypedExpr.{TypedExpr, TypedKind, TypedExprs}
use Rattle.c_tree.specs.TypedParts.{base_of}
use Rattle.stack_ops.specs.declared.operation.Op.{Op}
use Rattle.stack_ops.specs.declared.operation.Op.TheVariants as operation
use Rattle.c_meaning.specs.Operands.{type_in}
use Rattle.c_lower.specs.Items.{
  Name,
  Close,
  Item,
  Ways,
  at,
  right_of,
  nodes,
  kind_nodes,
  all_nodes,
  converted,
  dropped,
  cast,
  called,
  plain,
  logic,
  ways,
  kind_ways,
  index_of,
  all_values,
  kept,
  doubled,
}
use Rattle.c_lower.specs.Lowered.{is_name}

-- one where this is the name, else none
unfoldable pub here : Name → Name → ℕ
here l n = cond (is_name l (Some n)) 1 0

-- how many items begin a block of this name
abbrev pub begins : Name → List Item → ℕ
begins l [] = 0
begins l (Item.Begin n line ∷ is) = here l n + begins l is
begins l (Item.Do o line ∷ is) = begins l is
begins l (Item.End c line ∷ is) = begins l is

-- one where the name's node has a number below this, else none
unfoldable pub below : Name → ℕ → ℕ
below l n = cond (nat_lt l.node n) 1 0

-- how many of the names of a node, by their parts, are this name
abbrev pub of_node : Name → ℕ → List ℕ → ℕ
of_node l m [] = 0
of_node l m (c ∷ cs) = here l (at m c) + of_node l m cs

-- parts from one on, ascending
abbrev pub Ascend : ℕ → List ℕ → Type 0
Ascend b [] = Unit {0}
Ascend b (c ∷ cs) = (b ≤ c) × Ascend (suc c) cs

-- What is put in front of items makes the number of those that begin a block of this name at most so much greater: by
-- one where the name's node stands from m on below n, and by some more.
pub record Adds (l : Name) (m n more : ℕ) (rest whole : List Item) : Type 0 where
  pub most : begins l whole + below l m ≤ more + (below l n + begins l rest)

-- the same of what an expression puts in front
pub record Puts (l : Name) (w : Ways) (m n : ℕ) : Type 0 where
  pub value : (rest : List Item) → Adds l m n 0 rest (w.value rest)
  pub test : (t f : Name) (rest : List Item) → Adds l m n 0 rest (w.test t f rest)

pub below_most : (l : Name) (n : ℕ) → below l n ≤ 1
unfolding below
below_most l n = grind (arith, nat_tests)

below_grows : (l : Name) (m n : ℕ) → m ≤ n → below l m ≤ below l n
unfolding below
below_grows l m n le = grind (arith, nat_tests)

pub below_first : (l : Name) → below l 0 ≡ 0
unfolding below
below_first l = grind (arith, nat_tests)

here_most : (l n : Name) → here l n ≤ 1
unfolding here
here_most l n = grind (arith, nat_tests)

other_node : (l : Name) (m c : ℕ) → l.node ≢ m → here l (at m c) ≡ 0
unfolding here
other_node l m c other = grind (arith, nat_tests)

other_part : (l : Name) (m c : ℕ) → l.part ≢ c → here l (at m c) ≡ 0
unfolding here
other_part l m c other = grind (arith, nat_tests)

-- parts from one on above this name's
none_later : (l : Name) (m b : ℕ) (cs : List ℕ) → l.part < b → Ascend b cs → of_node l m cs ≡ 0
none_later l m b [] lt up = refl
none_later l m b (c ∷ cs) lt up =
    let now = other_part l m c (omega arith) in let later = none_later l m (suc c) cs (omega arith) up.1 in omega arith

-- at most one of a node's names is this one
one_of_node : (l : Name) (m b : ℕ) (cs : List ℕ) → Ascend b cs → of_node l m cs ≤ 1
one_of_node l m b [] up = omega arith
one_of_node l m b (c ∷ cs) up = go (c == l.part) refl (one_of_node l m (suc c) cs up.1)
  where
    go : (same : Bool) → (c == l.part) ≡ same → of_node l m cs ≤ 1 → here l (at m c) + of_node l m cs ≤ 1
    go true e later =
        let is : c ≡ l.part = grind (arith, nat_tests) in
        let now = here_most l (at m c) in let none = none_later l m (suc c) cs (omega arith) up.1 in omega arith
    go false e later =
        let other : l.part ≢ c = grind (arith, nat_tests) in let now = other_part l m c other in omega arith

-- and none where this name is one of another node
none_elsewhere : (l : Name) (m : ℕ) (cs : List ℕ) → l.node ≢ m → of_node l m cs ≡ 0
none_elsewhere l m [] other = refl
none_elsewhere l m (c ∷ cs) other =
    let now = other_node l m c other in let later = none_elsewhere l m cs other in omega arith

below_here : (l : Name) (m : ℕ) → l.node ≡ m → (below l m ≡ 0) × (below l (suc m) ≡ 1)
unfolding below
below_here l m e = (grind (arith, nat_tests), grind (arith, nat_tests))

-- The names of one node, whose parts differ, lie in its range.
node_names : (l : Name) (m : ℕ) (cs : List ℕ) → Ascend 0 cs → of_node l m cs + below l m ≤ below l (suc m)
node_names l m cs up = go (l.node == m) refl
  where
    go : (same : Bool) → (l.node == m) ≡ same → of_node l m cs + below l m ≤ below l (suc m)
    go true e =
        let is : l.node ≡ m = grind (arith, nat_tests) in
        let b = below_here l m is in let one = one_of_node l m 0 cs up in omega arith
    go false e =
        let other : l.node ≢ m = grind (arith, nat_tests) in
        let none = none_elsewhere l m cs other in let grows = below_grows l m (suc m) (omega arith) in omega arith

module _ {l : Name} where
  -- nothing is put in front
  pub still : {n : ℕ} {rest : List Item} → Adds l n n 0 rest rest
  still = record { most = omega arith }

  -- nodes that begin no block
  pub passed : {m n : ℕ} {rest : List Item} → m ≤ n → Adds l m n 0 rest rest
  passed {m = m} {n = n} le = record { most = let grows = below_grows l m n le in omega arith }

  -- one behind another
  pub then : {m k n o p : ℕ} {rest middle whole : List Item} → Adds l m k o middle whole → Adds l k n p rest middle →
      Adds l m n (o + p) rest whole
  then first second = record { most = let f = first.most in let s = second.most in omega arith }

  -- a block that begins
  pub named : {m n o : ℕ} {rest whole : List Item} {x : Name} {line : Option ℕ}
      → Adds l m n o rest whole → Adds l m n (here l x + o) rest (Item.Begin x line ∷ whole)
  named h = record { most = let h = h.most in omega arith }

  -- an operation
  pub op : {m n o : ℕ} {rest whole : List Item} {x : Op} {line : Option ℕ} → Adds l m n o rest whole → Adds l m n o
      rest (Item.Do x line ∷ whole)
  op h = record { most = h.most }

  -- the end of a block
  pub end : {m n o : ℕ} {rest whole : List Item} {c : Close} {line : Option ℕ} → Adds l m n o rest whole → Adds l m n o
      rest (Item.End c line ∷ whole)
  end h = record { most = h.most }

  -- no more than so much
  pub more : {m n o p : ℕ} {rest whole : List Item} → Adds l m n o rest whole → o ≤ p → Adds l m n p rest whole
  more h le = record { most = let h = h.most in omega arith }

  -- the parts of a node, and blocks by names of its own
  pub node : (m : ℕ) (cs : List ℕ) {n o : ℕ} {rest whole : List Item}
      → Ascend 0 cs → Adds l (suc m) n o rest whole → o ≤ of_node l m cs → Adds l m n 0 rest whole
  node m cs up h le = record { most = let own = node_names l m cs up in let h = h.most in omega arith }

  -- ---- operations that may be left out

  converts : (from to : IntType) {m n o : ℕ} {rest whole : List Item} → Adds l m n o rest whole → Adds l m n o rest
      (converted from to whole)
  converts from to {m} {n} {o} {rest} {whole} h = go (type_code from == type_code to)
    where
      go : (same : Bool) → Adds l m n o rest (cond same whole (Item.Do (operation.Convert to) None ∷ whole))
      go true = h
      go false = op h

  pub drops : (b : Base) {m n o : ℕ} {rest whole : List Item} → Adds l m n o rest whole → Adds l m n o rest
      (dropped b whole)
  drops (base.Int t) h = op h
  drops base.Void h = h

  casts : (from to : Base) {m n o : ℕ} {rest whole : List Item} → Adds l m n o rest whole → Adds l m n o rest
      (cast from to whole)
  casts from base.Void h = drops from h
  casts from (base.Int t) h = converts (type_in from) t h

  keeps : (e : TypedExpr) {m n o : ℕ} {rest whole : List Item} → Adds l m n o rest whole → Adds l m n o rest
      (kept e whole)
  keeps (TypedExpr.At (TypedKind.Index c k place named e) b p line) h = op h
  keeps (TypedExpr.At kind b p line) h = h

  doubles : (e : TypedExpr) {m n o : ℕ} {rest whole : List Item} → Adds l m n o rest whole → Adds l m n o rest
      (doubled e whole)
  doubles (TypedExpr.At (TypedKind.Index c k place named e) b p line) h = op (op h)
  doubles (TypedExpr.At kind b p line) h = op h

  -- ---- expressions

  -- a value that is branched on
  plain_puts : {m n : ℕ} (v : List Item → List Item) → ((rest : List Item) → Adds l m n 0 rest (v rest)) → Puts l
      (plain v) m n
  plain_puts v h = record {
    value = h;
    test = λ t f rest. more
        (then (h (Item.End (Close.Branch t f) None ∷ rest)) (end still)) (omega arith);
  }

  -- a condition whose node begins the block between its sides
  logic_puts : {m n : ℕ} (line : ℕ) (k : Name → Name → List Item → List Item)
      → ((t f : Name) (rest : List Item) → Adds l (suc m) n (here l (right_of m)) rest (k t f rest)) → Puts l
      (logic m line k) m n
  logic_puts {m = m} line k h = record {
    value = λ rest. node m (3 ∷ 6 ∷ 8 ∷ 10 ∷ []) (omega arith)
        (then (h _ _ _) (named (op (end (named (op (named still)))))))
        (omega arith);
    test = λ t f rest. node m (8 ∷ []) (omega arith) (h t f rest) (omega arith);
  }

  calls : (f : Callee) (line m n : ℕ) (rest : List Item) → Adds l n n (of_node l m (9 ∷ [])) rest
      (called f line m rest)
  calls (callee.Function f) line m n rest = more (end (named still)) (omega arith)
  calls callee.GetChar line m n rest = more (op still) (omega arith)
  calls callee.PutChar line m n rest = more (op still) (omega arith)
  calls callee.Exit line m n rest = more (end (named still)) (omega arith)

  mutual
    -- the names of an expression's blocks are of its own nodes, each once
    pub puts : (e : TypedExpr) (m n : ℕ) → n ≡ m + nodes e → Puts l (ways e m) m n
    puts (TypedExpr.At kind b place line) m n e = puts_kind kind b line m n (omega arith)

    puts_kind : (kind : TypedKind) (b : Base) (line m n : ℕ) → n ≡ suc m + kind_nodes kind → Puts l
        (kind_ways kind b line m) m n
    puts_kind (TypedKind.Name c) b line m n e = plain_puts _ (λ rest. op (passed (omega arith)))
    puts_kind (TypedKind.Number k t) b line m n e = plain_puts _ (λ rest. op (passed (omega arith)))
    puts_kind TypedKind.EofName b line m n e = plain_puts _ (λ rest. op (passed (omega arith)))
    puts_kind (TypedKind.Call f args) b line m n e =
        plain_puts _ (λ rest. node m (9 ∷ []) (omega arith)
        (then (puts_all args (suc m) n e _) (calls f line m n rest)) (omega arith))
    puts_kind (TypedKind.Index c k place named x) b line m n e =
        plain_puts _ (λ rest. node m [] tt (then ((puts x (suc m) n e).value _) (op (op still))) (omega arith))
    puts_kind (TypedKind.Convert x) b line m n e =
        plain_puts _ (λ rest. node m [] tt (then ((puts x (suc m) n e).value _) (converts _ _ still)) (omega arith))
    puts_kind (TypedKind.Plus x) b line m n e =
        plain_puts _ (λ rest. node m [] tt ((puts x (suc m) n e).value _) (omega arith))
    puts_kind (TypedKind.Minus x) b line m n e =
        plain_puts _ (λ rest. node m [] tt (then ((puts x (suc m) n e).value _) (op still)) (omega arith))
    puts_kind (TypedKind.Complement x) b line m n e =
        plain_puts _ (λ rest. node m [] tt (then ((puts x (suc m) n e).value _) (op still)) (omega arith))
    puts_kind (TypedKind.Not x) b line m n e = record {
      value = λ rest. node m [] tt (then ((puts x (suc m) n e).value _) (op still)) (omega arith);
      test = λ t f rest. node m [] tt ((puts x (suc m) n e).test f t rest) (omega arith);
    }
    puts_kind (TypedKind.Cast to x) b line m n e =
        plain_puts _ (λ rest. node m [] tt (then ((puts x (suc m) n e).value _) (casts _ to still)) (omega arith))
    puts_kind (TypedKind.Binary o x y) b line m n e =
        plain_puts _ (λ rest. node m [] tt (then ((puts x (suc m) _ refl).value _)
        (then ((puts y _ n (omega arith)).value _) (op still))) (omega arith))
    puts_kind (TypedKind.AndAlso x y) b line m n e =
        logic_puts line _ (λ t f rest. more (then ((puts x (suc m) _ refl).test _ _ _)
        (named ((puts y _ n (omega arith)).test t f rest))) (omega arith))
    puts_kind (TypedKind.OrElse x y) b line m n e =
        logic_puts line _ (λ t f rest. more (then ((puts x (suc m) _ refl).test _ _ _)
        (named ((puts y _ n (omega arith)).test t f rest))) (omega arith))
    puts_kind (TypedKind.Choose c x y) b line m n e =
        plain_puts _ (λ rest. node m (6 ∷ 12 ∷ 13 ∷ []) (omega arith)
        (then ((puts c (suc m) _ refl).test _ _ _) (named
        (then ((puts x _ _ refl).value _) (end (named (then ((puts y _ n (omega arith)).value _) (named still)))))))
        (omega arith))
    puts_kind (TypedKind.Assign None target x) b line m n e =
        plain_puts _ (λ rest. node m [] tt (then (puts_index target (suc m) _ refl _)
        (then ((puts x _ n (omega arith)).value _) (op still))) (omega arith))
    puts_kind (TypedKind.Assign (Some o) target x) b line m n e =
        plain_puts _ (λ rest. node m [] tt (then (puts_index target (suc m) _ refl _) (keeps target (op (converts _ _
        (then ((puts x _ n (omega arith)).value _) (op (converts _ _ (op still)))))))) (omega arith))
    puts_kind (TypedKind.Before o target) b line m n e =
        plain_puts _ (λ rest. node m [] tt (then (puts_index target (suc m) n e _)
        (keeps target (op (converts _ _ (op (op (converts _ _ (op still)))))))) (omega arith))
    puts_kind (TypedKind.After o target) b line m n e =
        plain_puts _ (λ rest. node m [] tt (then (puts_index target (suc m) n e _)
        (keeps target (op (doubles target (converts _ _ (op (op (converts _ _ (op (op still)))))))))) (omega arith))
    puts_kind (TypedKind.Comma x y) b line m n e =
        plain_puts _ (λ rest. node m [] tt (then ((puts x (suc m) _ refl).value _)
        (drops (base_of x) ((puts y _ n (omega arith)).value rest))) (omega arith))

    -- what is assigned to
    puts_index : (target : TypedExpr) (m n : ℕ) → n ≡ m + nodes target → (rest : List Item) → Adds l m n 0 rest
        (index_of target m rest)
    puts_index (TypedExpr.At (TypedKind.Index c k place named x) b p line) m n e rest =
        node m [] tt (then ((puts x (suc m) n (omega arith)).value _) (op still)) (omega arith)
    puts_index (TypedExpr.At kind b p line) m n e rest = passed (omega arith)

    -- values from left to right
    puts_all : (es : TypedExprs) (m n : ℕ) → n ≡ m + all_nodes es → (rest : List Item) → Adds l m n 0 rest
        (all_values es m rest)
    puts_all TypedExprs.End m n e rest = passed (omega arith)
    puts_all (TypedExprs.More x es) m n e rest = then ((puts x m _ refl).value _) (puts_all es _ n (omega arith) rest)
