-- The items of an expression find the operands that they take, where so many stand below it.
use Rattle.std.proofs.Common.{◌≡◌, refl, sym, ap, subst, ◌∙◌, ℕ, zero, suc, ◌+◌, ◌-◌, ◌*◌, ◌<◌, ◌≤◌, ◌==◌, Bool, true, false}
use Rattle.std.proofs.Common.{cond, max, List, [], ◌∷◌, ◌++◌, length, Option, Some, None, slice_get, ◌⊎◌, inl, inr, arith}
use Rattle.std.specs.Prelude.{ℤ, pos, negsuc}
use Rattle.std.proofs.lemmas.Int.{ints}
use Rattle.int_ops.specs.declared.types.IntType.{IntType}
use Rattle.int_ops.specs.declared.types.IntType.TheVariants as type
use Rattle.int_ops.specs.declared.operators.BinOp.{BinOp}
use Rattle.int_ops.specs.declared.operators.BinOp.TheVariants as binary
use Rattle.int_ops.specs.Codes.{type_code}
use Rattle.int_ops.specs.Common.{common_type}
use Rattle.int_ops.specs.Ranges.{Range, IsNumber}
use Rattle.c_tree.specs.declared.expr.Base.{Base}
use Rattle.c_tree.specs.declared.expr.Base.TheVariants as base
use Rattle.c_tree.specs.declared.typed_expr.CellAt.{CellAt}
use Rattle.c_tree.specs.declared.typed_expr.CellAt.TheVariants as cell
use Rattle.c_tree.specs.declared.typed_expr.Callee.{Callee}
use Rattle.c_tree.specs.declared.typed_expr.Callee.TheVariants as callee
use Rattle.c_tree.specs.TypedExpr.{TypedExpr, TypedKind, TypedExprs}
use Rattle.c_tree.specs.Typed.{TypedFunction}
use Rattle.c_tree.specs.TypedParts.{base_of, Class, compares, shifts, computes, class, cells_of}
use Rattle.c_tree.specs.Levels.{typed_levels, typed_kind_levels, typed_args_levels}
use Rattle.c_tree.specs.Sound.{Scope, Each, HasValue, IsPromoted, HasCells, IsVariable, bases_of, ints as typed_ints, Calls}
use Rattle.c_tree.specs.Sound.{Operates, Changes, Suits, NamesCell, SoundExpr, SoundKind, SoundExprs}
use Rattle.c_meaning.specs.Operands.{type_in, changing}
use Rattle.stack_ops.specs.declared.operation.Op.{Op}
use Rattle.stack_ops.specs.declared.operation.Op.TheVariants as op
use Rattle.stack_ops.specs.Shapes.{takes, gives, is_step, HasNumber}
use Rattle.stack_ops.specs.Shapes.{HasCells as OpCells}
use Rattle.c_lower.specs.Items.{
  Name,
  Close,
  Item,
  Ways,
  true_of,
  false_of,
  join_of,
  right_of,
  second_of,
  third_of,
  next_of,
  load_op,
  store_op,
  load_at,
  store_at,
  operator,
  plain,
  logic,
  converted,
  dropped,
  cast,
  nodes,
  called,
  ways,
  kind_ways,
  index_of,
  all_values,
  loads,
  stores,
  named_on,
  kept,
  doubled,
}
use Rattle.operand_depths.specs.Depths.{depth_limit, given, Finds}
use Rattle.operand_depths.proofs.Tables.{Row, pushed, indexed, below, rows, kind_rows, all_rows, long, begun_at, at_row}
use Rattle.operand_depths.proofs.Tables.{From, from_left, from_right, append_long}

number_of : (t : IntType) (n : ℤ) → Range t n → IsNumber n
number_of type.Bool n h = (omega (arith, ints, h), omega (arith, ints, h))
number_of type.Char n h = (omega (arith, ints, h), omega (arith, ints, h))
number_of type.SignedChar n h = (omega (arith, ints, h), omega (arith, ints, h))
number_of type.UnsignedChar n h = (omega (arith, ints, h), omega (arith, ints, h))
number_of type.Short n h = (omega (arith, ints, h), omega (arith, ints, h))
number_of type.UnsignedShort n h = (omega (arith, ints, h), omega (arith, ints, h))
number_of type.Int n h = (omega (arith, ints, h), omega (arith, ints, h))
number_of type.UnsignedInt n h = (omega (arith, ints, h), omega (arith, ints, h))
number_of type.Long n h = (omega (arith, ints, h), omega (arith, ints, h))
number_of type.UnsignedLong n h = (omega (arith, ints, h), omega (arith, ints, h))

-- how many operands a function gives
abbrev pub result_of : TypedFunction → ℕ
result_of f = pushed f.result

module _ (table : List Row) (functions : List TypedFunction) (globals cells own : ℕ)
    (few : (f : ℕ) (g : TypedFunction) → slice_get functions f ≡ Some g → length g.params ≤ 64) where
  -- the operands where the block of a name begins
  abbrev pub At : Name → ℕ
  At l = begun_at table l

  abbrev pub Cases : List (ℤ × Name) → ℕ → Type 0
  Cases cases d = Each (λ c. At c.1 ≡ d) cases

  -- an ending finds what it takes
  abbrev pub Ends : ℕ → Close → Type 0
  Ends d (Close.Jump l) = At l ≡ d
  Ends d (Close.Back l) = At l ≡ d
  Ends d (Close.Branch t f) = (1 ≤ d) × (At t ≡ d - 1) × (At f ≡ d - 1)
  Ends d (Close.Select cases l) = (1 ≤ d) × Cases cases (d - 1) × (At l ≡ d - 1)
  Ends d (Close.CallTo f line l) = (g : TypedFunction) × (slice_get functions f ≡ Some g) × (length g.params ≤ d)
      × (At l ≡ d - length g.params + result_of g)
  Ends d Close.Leave = d ≡ own
  Ends d Close.Quit = 1 ≤ d

  -- Items find their operands, where a block is open with so many, and behind a closed block, where none stand in a
  -- block that nothing enters.
  abbrev mutual
    pub Open : ℕ → List Item → Type 0
    Open d [] = d ≡ 0
    Open d (Item.Begin l line ∷ is) = (At l ≡ d) × (d ≤ depth_limit) × Open d is
    Open d (Item.Do o line ∷ is) = Finds globals cells d o × Open (d - takes o + gives o) is
    Open d (Item.End c line ∷ is) = Ends d c × Shut is

    pub Shut : List Item → Type 0
    Shut [] = Unit {0}
    Shut (Item.Begin l line ∷ is) = (At l ≤ depth_limit) × Open (At l) is
    Shut (Item.Do o line ∷ is) = Finds globals cells 0 o × Open (0 - takes o + gives o) is
    Shut (Item.End c line ∷ is) = Ends 0 c × Shut is

  -- the scope is one of the function
  pub record Fixed (s : Scope) : Type 0 where
    pub functions_are : s.functions ≡ functions
    pub cells_are : s.cells ≡ cells
    pub globals_are : s.globals ≡ globals
    pub result_is : pushed s.result ≡ own

  pub same_depth : (is : List Item) (a b : ℕ) → a ≡ b → Open a is → Open b is
  same_depth is a b e h = subst (λ (n : ℕ). Open n is) e h

  -- an operation that names no cell and gives no number of its own
  pub finds : (d : ℕ) (o : Op) → is_step o ≡ true → takes o ≤ d → d - takes o + gives o ≤ depth_limit
      → ((locals outer : List ℤ) → length locals ≡ cells → length outer ≡ globals → OpCells o locals outer)
      → HasNumber o → Finds globals cells d o
  finds d o s t r c n = record { step = s; operands = t; room = r; cells_are = c; number = n }

  -- an operation, then items
  pub act : (d after : ℕ) (o : Op) (line : Option ℕ) (is : List Item) → Finds globals cells d o
      → after ≡ d - takes o + gives o → Open after is → Open d (Item.Do o line ∷ is)
  act d after o line is f e h = (f, same_depth is after (d - takes o + gives o) e h)

  pub push : (d : ℕ) (n : ℤ) (line : Option ℕ) (is : List Item) → IsNumber n → d + 1 ≤ depth_limit → Open (d + 1) is
      → Open d (Item.Do (op.Push n) line ∷ is)
  push d n line is i r h = act d (d + 1) (op.Push n) line is
      (finds d (op.Push n) refl (omega arith) (omega (arith, r)) (λ a b e f. tt) i) (omega arith) h

  pub drop : (d : ℕ) (line : Option ℕ) (is : List Item) → d ≤ depth_limit → Open d is
      → Open (d + 1) (Item.Do op.Drop line ∷ is)
  drop d line is r h = act (d + 1) d op.Drop line is
      (finds (d + 1) op.Drop refl (omega arith) (omega (arith, r)) (λ a b e f. tt) tt) (omega arith) h

  -- an operation that takes two operands and gives one
  two : (o : Op) (d : ℕ) (is : List Item) → is_step o ≡ true → takes o ≡ 2 → gives o ≡ 1
      → ((locals outer : List ℤ) → length locals ≡ cells → length outer ≡ globals → OpCells o locals outer) → HasNumber o
      → d + 1 ≤ depth_limit → Open (d + 1) is → Open (d + 2) (Item.Do o None ∷ is)
  two o d is step taken given_ has number r h =
      act (d + 2) (d + 1) o None is (finds (d + 2) o step (omega (arith, taken)) (omega (arith, taken, given_, r)) has
      number) (omega (arith, taken, given_)) h

  operate : (o : BinOp) (t : IntType) (line d : ℕ) (is : List Item) → d + 1 ≤ depth_limit → Open (d + 1) is
      → Open (d + 2) (Item.Do (operator o t line) None ∷ is)
  operate binary.Mul t line d is r h = two (op.Mul t line) d is refl refl refl (λ a b e f. tt) tt r h
  operate binary.Div t line d is r h = two (op.Div t line) d is refl refl refl (λ a b e f. tt) tt r h
  operate binary.Rem t line d is r h = two (op.Rem t line) d is refl refl refl (λ a b e f. tt) tt r h
  operate binary.Add t line d is r h = two (op.Add t line) d is refl refl refl (λ a b e f. tt) tt r h
  operate binary.Sub t line d is r h = two (op.Sub t line) d is refl refl refl (λ a b e f. tt) tt r h
  operate binary.Shl t line d is r h = two (op.Shl t line) d is refl refl refl (λ a b e f. tt) tt r h
  operate binary.Shr t line d is r h = two (op.Shr t line) d is refl refl refl (λ a b e f. tt) tt r h
  operate binary.Less t line d is r h = two (op.Less t line) d is refl refl refl (λ a b e f. tt) tt r h
  operate binary.Greater t line d is r h = two (op.Greater t line) d is refl refl refl (λ a b e f. tt) tt r h
  operate binary.LessEqual t line d is r h = two (op.LessEqual t line) d is refl refl refl (λ a b e f. tt) tt r h
  operate binary.GreaterEqual t line d is r h = two (op.GreaterEqual t line) d is refl refl refl (λ a b e f. tt) tt r h
  operate binary.Equal t line d is r h = two (op.Equal t line) d is refl refl refl (λ a b e f. tt) tt r h
  operate binary.NotEqual t line d is r h = two (op.NotEqual t line) d is refl refl refl (λ a b e f. tt) tt r h
  operate binary.And t line d is r h = two (op.And t line) d is refl refl refl (λ a b e f. tt) tt r h
  operate binary.Xor t line d is r h = two (op.Xor t line) d is refl refl refl (λ a b e f. tt) tt r h
  operate binary.Or t line d is r h = two (op.Or t line) d is refl refl refl (λ a b e f. tt) tt r h

  converts : (from to : IntType) (d : ℕ) (is : List Item) → d + 1 ≤ depth_limit → Open (d + 1) is
      → Open (d + 1) (converted from to is)
  converts from to d is r h = go (type_code from == type_code to)
    where
      go : (same : Bool) → Open (d + 1) (cond same is (Item.Do (op.Convert to) None ∷ is))
      go true = h
      go false = act (d + 1) (d + 1) (op.Convert to) None is
          (finds (d + 1) (op.Convert to) refl (omega arith) (omega (arith, r)) (λ a b e f. tt) tt) (omega arith) h

  pub drops : (b : Base) (d : ℕ) (is : List Item) → d ≤ depth_limit → Open d is → Open (d + pushed b) (dropped b is)
  drops (base.Int t) d is r h = drop d None is r h
  drops base.Void d is r h = same_depth is d (d + 0) (omega arith) h

  casts : (from to : Base) (d : ℕ) (is : List Item) → (to ≡ base.Void) ⊎ HasValue from → d + 1 ≤ depth_limit
      → Open (d + pushed to) is → Open (d + pushed from) (cast from to is)
  casts from base.Void d is v r h = drops from d is (omega (arith, r)) (same_depth is (d + 0) d (omega arith) h)
  casts from (base.Int t) d is (inl e) r h = absurd (cc)
  casts from (base.Int t) d is (inr v) r h =
      subst (λ (b : Base). Open (d + pushed b) (converted (type_in b) t is)) (sym v.1)
      (converts v.0 t d is r h)

  -- ---- cells

  pub local_stands : (s : Scope) → Fixed s → (c n : ℕ) (t : IntType) → HasCells s (cell.Local c) n t → c + n ≤ cells
  local_stands s fixed c n t h = let e = fixed.cells_are in let k = h.0 in omega (arith, e, k)

  global_stands : (s : Scope) → Fixed s → (c n : ℕ) (t : IntType) → HasCells s (cell.Global c) n t → c + n ≤ globals
  global_stands s fixed c n t h = let e = fixed.globals_are in let k = h.0 in omega (arith, e, k)

  load : (s : Scope) → Fixed s → (c : CellAt) (t : IntType) → HasCells s c 1 t → (d : ℕ) (line : Option ℕ)
      (is : List Item) → d + 1 ≤ depth_limit → Open (d + 1) is → Open d (Item.Do (load_op c) line ∷ is)
  load s fixed (cell.Local c) t has d line is r h = act d (d + 1) (op.LoadLocal c) line is
      (finds d (op.LoadLocal c) refl (omega arith) (omega (arith, r))
      (λ a b e f. let k = local_stands s fixed c 1 t has in omega (arith, e, k)) tt) (omega arith) h
  load s fixed (cell.Global c) t has d line is r h = act d (d + 1) (op.LoadGlobal c) line is
      (finds d (op.LoadGlobal c) refl (omega arith) (omega (arith, r))
      (λ a b e f. let k = global_stands s fixed c 1 t has in omega (arith, f, k)) tt) (omega arith) h

  store : (s : Scope) → Fixed s → (c : CellAt) (t : IntType) → HasCells s c 1 t → (d : ℕ) (line : Option ℕ)
      (is : List Item) → d + 1 ≤ depth_limit → Open (d + 1) is → Open (d + 1) (Item.Do (store_op c) line ∷ is)
  store s fixed (cell.Local c) t has d line is r h = act (d + 1) (d + 1) (op.StoreLocal c) line is
      (finds (d + 1) (op.StoreLocal c) refl (omega arith) (omega (arith, r))
      (λ a b e f. let k = local_stands s fixed c 1 t has in omega (arith, e, k)) tt) (omega arith) h
  store s fixed (cell.Global c) t has d line is r h = act (d + 1) (d + 1) (op.StoreGlobal c) line is
      (finds (d + 1) (op.StoreGlobal c) refl (omega arith) (omega (arith, r))
      (λ a b e f. let k = global_stands s fixed c 1 t has in omega (arith, f, k)) tt) (omega arith) h

  load_element : (s : Scope) → Fixed s → (c : CellAt) (n : ℕ) (t : IntType) → HasCells s c n t → (d : ℕ)
      (line : Option ℕ) (is : List Item) → d + 1 ≤ depth_limit → Open (d + 1) is
      → Open (d + 1) (Item.Do (load_at c n) line ∷ is)
  load_element s fixed (cell.Local c) n t has d line is r h = act (d + 1) (d + 1) (op.LoadLocalAt c n) line is
      (finds (d + 1) (op.LoadLocalAt c n) refl (omega arith) (omega (arith, r))
      (λ a b e f. let k = local_stands s fixed c n t has in omega (arith, e, k)) tt) (omega arith) h
  load_element s fixed (cell.Global c) n t has d line is r h = act (d + 1) (d + 1) (op.LoadGlobalAt c n) line is
      (finds (d + 1) (op.LoadGlobalAt c n) refl (omega arith) (omega (arith, r))
      (λ a b e f. let k = global_stands s fixed c n t has in omega (arith, f, k)) tt) (omega arith) h

  store_element : (s : Scope) → Fixed s → (c : CellAt) (n : ℕ) (t : IntType) → HasCells s c n t → (d : ℕ)
      (line : Option ℕ) (is : List Item) → d + 1 ≤ depth_limit → Open (d + 1) is
      → Open (d + 2) (Item.Do (store_at c n) line ∷ is)
  store_element s fixed (cell.Local c) n t has d line is r h = act (d + 2) (d + 1) (op.StoreLocalAt c n) line is
      (finds (d + 2) (op.StoreLocalAt c n) refl (omega arith) (omega (arith, r))
      (λ a b e f. let k = local_stands s fixed c n t has in omega (arith, e, k)) tt) (omega arith) h
  store_element s fixed (cell.Global c) n t has d line is r h = act (d + 2) (d + 1) (op.StoreGlobalAt c n) line is
      (finds (d + 2) (op.StoreGlobalAt c n) refl (omega arith) (omega (arith, r))
      (λ a b e f. let k = global_stands s fixed c n t has in omega (arith, f, k)) tt) (omega arith) h

  check : (n line d : ℕ) (is : List Item) → d + 1 ≤ depth_limit → Open (d + 1) is
      → Open (d + 1) (Item.Do (op.CheckIndex n line) None ∷ is)
  check n line d is r h = act (d + 1) (d + 1) (op.CheckIndex n line) None is
      (finds (d + 1) (op.CheckIndex n line) refl (omega arith) (omega (arith, r)) (λ a b e f. tt) tt) (omega arith) h

  double : (d : ℕ) (is : List Item) → d + 2 ≤ depth_limit → Open (d + 2) is
      → Open (d + 1) (Item.Do op.Dup None ∷ is)
  double d is r h = act (d + 1) (d + 2) op.Dup None is
      (finds (d + 1) op.Dup refl (omega arith) (omega (arith, r)) (λ a b e f. tt) tt) (omega arith) h

  -- ---- blocks

  pub begin : (d : ℕ) (l : Name) (line : Option ℕ) (is : List Item) → At l ≡ d → d ≤ depth_limit → Open d is
      → Open d (Item.Begin l line ∷ is)
  begin d l line is e r h = (e, r, h)

  pub enter : (d : ℕ) (l : Name) (line : Option ℕ) (is : List Item) → At l ≡ d → d ≤ depth_limit → Open d is
      → Shut (Item.Begin l line ∷ is)
  enter d l line is e r h = (let a = e in omega (arith, a, r), same_depth is d (At l) (sym e) h)

  -- what is so where a block is open without operands is so behind a closed block
  pub shut_of : (is : List Item) → Open 0 is → Shut is
  shut_of [] h = tt
  shut_of (Item.Begin l line ∷ is) h = enter 0 l line is h.0 h.1 h.2
  shut_of (Item.Do o line ∷ is) h = h
  shut_of (Item.End c line ∷ is) h = h

  -- ---- expressions

  -- an expression that stands above so many operands gives so many
  pub record Holds (w : Ways) (d n : ℕ) : Type 0 where
    pub value : (rest : List Item) → Open (d + n) rest → Open d (w.value rest)
    pub test : (t f : Name) (rest : List Item) → n ≡ 1 → At t ≡ d → At f ≡ d → Shut rest → Open d (w.test t f rest)

  holds_plain : (v : List Item → List Item) (d n : ℕ) → ((rest : List Item) → Open (d + n) rest → Open d (v rest))
      → Holds (plain v) d n
  holds_plain v d n h = record {
    value = h;
    test = λ t f rest one a b k. h (Item.End (Close.Branch t f) None ∷ rest)
        ((omega (arith, one), (omega (arith, one, a)), (omega (arith, one, b))), k);
  }

  pub at_part : (m part : ℕ) (row : Row) → slice_get table m ≡ Some row
      → At (record { node = m; part = part }) ≡ at_row (Some row) part
  at_part m part row h = ap (λ (o : Option Row). at_row o part) h

  holds_logic : (m line d : ℕ) (k : Name → Name → List Item → List Item) → slice_get table m ≡ Some (d, 1)
      → d + 1 ≤ depth_limit
      → ((t f : Name) (rest : List Item) → At t ≡ d → At f ≡ d → Shut rest → Open d (k t f rest))
      → Holds (logic m line k) d 1
  holds_logic m line d k row r h = record {
    value = λ rest s.
        let t : At (true_of m) ≡ d = at_part m 10 (d, 1) row in
        let f : At (false_of m) ≡ d = at_part m 3 (d, 1) row in
        let j : At (join_of m) ≡ d + 1 = at_part m 6 (d, 1) row in
        let join : List Item = Item.Begin (join_of m) (Some line) ∷ rest in
        let second : List Item =
        Item.Begin (false_of m) (Some line) ∷ Item.Do (op.Push (pos 0)) None ∷ join in
        let whole : List Item =
        Item.Begin (true_of m) (Some line) ∷ Item.Do (op.Push (pos 1)) None ∷ Item.End (Close.Jump (join_of m)) None ∷ second in
        h (true_of m) (false_of m) whole t f
        (enter d (true_of m) (Some line) (Item.Do (op.Push (pos 1)) None ∷ Item.End (Close.Jump (join_of m)) None ∷ second) t
        (omega (arith, r))
        (push d (pos 1) None (Item.End (Close.Jump (join_of m)) None ∷ second) (omega (arith, ints), omega (arith, ints)) r (
          j,
          enter d (false_of m) (Some line) (Item.Do (op.Push (pos 0)) None ∷ join) f (omega (arith, r))
              (push d (pos 0) None join (omega (arith, ints), omega (arith, ints)) r
              (begin (d + 1) (join_of m) (Some line) rest j r s)),
        )));
    test = λ x y rest one a b s. h x y rest a b s;
  }

  -- room for as many operands as a call has arguments, at each level
  abbrev pub Room : ℕ → ℕ → Type 0
  Room d levels = d + 64 * levels ≤ depth_limit

  pub pushed_value : (b : Base) → HasValue b → pushed b ≡ 1
  pushed_value b v = ap pushed v.1

  pub promoted_value : (b : Base) → IsPromoted b → pushed b ≡ 1
  promoted_value b v = ap pushed v.1

  operands_one : (c : Class) (l r b : Base) → Operates c l r b → (pushed l ≡ 1) × (pushed r ≡ 1) × (pushed b ≡ 1)
  operands_one compares l r b h =
      (promoted_value l h.1, ap pushed (sym h.0) ∙ promoted_value l h.1, ap pushed h.2)
  operands_one shifts l r b h = (ap pushed h.0 ∙ promoted_value b h.1, promoted_value r h.2, promoted_value b h.1)
  operands_one computes l r b h =
      (ap pushed h.0 ∙ promoted_value b h.2, ap pushed h.1 ∙ promoted_value b h.2, promoted_value b h.2)

  -- ---- what is assigned to

  names_value : (s : Scope) (e : TypedExpr) → NamesCell e → SoundExpr s e → pushed (base_of e) ≡ 1
  names_value s (TypedExpr.At (TypedKind.Name c) b place line) names sound = ap pushed sound.2.1.1
  names_value s (TypedExpr.At (TypedKind.Index c n p named x) b place line) names sound = ap pushed sound.2.2.1.1
  names_value s _ names sound = absurd names

  suits_value : (o : Option BinOp) (target value : Base) → Suits o target value → pushed target ≡ 1
      → pushed value ≡ 1
  suits_value None target value h one = ap pushed (sym h) ∙ one
  suits_value (Some o) target value h one = go (class o) h
    where
      go : (c : Class) → Changes c target value → pushed value ≡ 1
      go compares h = absurd h
      go shifts h = promoted_value value h
      go computes h = ap pushed h.3

  loads_it : (s : Scope) → Fixed s → (e : TypedExpr) → NamesCell e → SoundExpr s e → (d : ℕ) (line : Option ℕ)
      (is : List Item) → d + 1 ≤ depth_limit → Open (d + 1) is → Open (d + indexed e) (Item.Do (loads e) line ∷ is)
  loads_it s fixed (TypedExpr.At (TypedKind.Name c) b place at) names sound d line is r h =
      same_depth (Item.Do (load_op c) line ∷ is) d (d + 0) (omega arith)
      (load s fixed c sound.2.1.0 sound.2.1.2 d line is r h)
  loads_it s fixed (TypedExpr.At (TypedKind.Index c n p named x) b place at) names sound d line is r h =
      load_element s fixed c n sound.2.2.1.0 sound.2.2.1.2 d line is r h
  loads_it s fixed _ names sound d line is r h = absurd names

  stores_it : (s : Scope) → Fixed s → (e : TypedExpr) → NamesCell e → SoundExpr s e → (d : ℕ) (line : Option ℕ)
      (is : List Item) → d + 1 ≤ depth_limit → Open (d + 1) is
      → Open (d + indexed e + 1) (Item.Do (stores e) line ∷ is)
  stores_it s fixed (TypedExpr.At (TypedKind.Name c) b place at) names sound d line is r h =
      same_depth (Item.Do (store_op c) line ∷ is) (d + 1) (d + 0 + 1) (omega arith)
      (store s fixed c sound.2.1.0 sound.2.1.2 d line is r h)
  stores_it s fixed (TypedExpr.At (TypedKind.Index c n p named x) b place at) names sound d line is r h =
      same_depth (Item.Do (store_at c n) line ∷ is) (d + 2) (d + 1 + 1) (omega arith)
      (store_element s fixed c n sound.2.2.1.0 sound.2.2.1.2 d line is r h)
  stores_it s fixed _ names sound d line is r h = absurd names

  keeps_it : (e : TypedExpr) → NamesCell e → (d : ℕ) (is : List Item) → d + 2 ≤ depth_limit
      → Open (d + indexed e + indexed e) is → Open (d + indexed e) (kept e is)
  keeps_it (TypedExpr.At (TypedKind.Name c) b place at) names d is r h =
      same_depth is (d + 0 + 0) (d + 0) (omega arith) h
  keeps_it (TypedExpr.At (TypedKind.Index c n p named x) b place at) names d is r h =
      double d is r (same_depth is (d + 1 + 1) (d + 2) (omega arith) h)
  keeps_it _ names d is r h = absurd names

  doubles_it : (e : TypedExpr) → NamesCell e → (d : ℕ) (is : List Item) → d + 3 ≤ depth_limit
      → Open (d + indexed e + 2) is → Open (d + indexed e + 1) (doubled e is)
  doubles_it (TypedExpr.At (TypedKind.Name c) b place at) names d is r h =
      same_depth (Item.Do op.Dup None ∷ is) (d + 1) (d + 0 + 1) (omega arith)
      (double d is (omega (arith, r)) (same_depth is (d + 0 + 2) (d + 2) (omega arith) h))
  doubles_it (TypedExpr.At (TypedKind.Index c n p named x) b place at) names d is r h =
      act (d + 1 + 1) (d + 2) op.Swap None (Item.Do op.Over None ∷ is)
      (finds (d + 1 + 1) op.Swap refl (omega arith) (omega (arith, r)) (λ a b e f. tt) tt) (omega arith)
      (act (d + 2) (d + 3) op.Over None is
      (finds (d + 2) op.Over refl (omega arith) (omega (arith, r)) (λ a b e f. tt) tt) (omega arith)
      (same_depth is (d + 1 + 2) (d + 3) (omega arith) h))
  doubles_it _ names d is r h = absurd names

  most_one : (b : Base) → pushed b ≤ 1
  most_one (base.Int t) = omega arith
  most_one base.Void = omega arith

  most_index : (e : TypedExpr) → indexed e ≤ 1
  most_index (TypedExpr.At (TypedKind.Index c n p named x) b place line) = omega arith
  most_index (TypedExpr.At _ b place line) = omega arith

  -- an expression has a level at least
  some_levels : (e : TypedExpr) → 1 ≤ typed_levels e
  some_levels (TypedExpr.At (TypedKind.Convert e) b place line) = some_levels e
  some_levels (TypedExpr.At _ b place line) = omega arith

  -- the call of a function, whose arguments give their values
  calls : (s : Scope) → Fixed s → (f : Callee) (args : TypedExprs) (b : Base) (line m d : ℕ) (rest : List Item)
      → Calls s f (bases_of args) b → slice_get table m ≡ Some (d, pushed b) → d + 64 ≤ depth_limit
      → ((ts : List IntType) (rest : List Item) → bases_of args ≡ typed_ints ts → length ts ≤ 64
      → Open (d + length ts) rest → Open d (all_values args (suc m) rest))
      → Open (d + pushed b) rest → Open d (all_values args (suc m) (called f line m rest))
  calls s fixed (callee.Function f) args b line m d rest sound row room values k =
      let g : TypedFunction = sound.0 in
      let found : slice_get functions f ≡ Some g =
      subst (λ (l : List TypedFunction). slice_get l f ≡ Some g) fixed.functions_are sound.1 in
      let most : length g.params ≤ 64 = few f g found in
      let same : pushed b ≡ pushed g.result = ap pushed sound.3 in
      let next : At (next_of m) ≡ d + pushed b = at_part m 9 (d, pushed b) row in
      let less : pushed b ≤ 1 = most_one b in
      let on : List Item = Item.Begin (next_of m) (Some line) ∷ rest in
      values g.params (Item.End (Close.CallTo f line (next_of m)) (Some line) ∷ on) sound.2 most (
        (g, found, (omega arith), (omega (arith, next, same))),
        enter (d + pushed b) (next_of m) (Some line) rest next (omega (arith, room, less)) k,
      )
  calls s fixed callee.GetChar args b line m d rest sound row room values k =
      let one : pushed b ≡ 1 = ap pushed sound.1 in
      values [] (Item.Do op.GetChar (Some line) ∷ rest) sound.0 (omega arith)
      (act (d + 0) (d + pushed b) op.GetChar (Some line) rest
      (finds (d + 0) op.GetChar refl (omega arith) (omega (arith, room)) (λ a b e f. tt) tt) (omega (arith, one)) k)
  calls s fixed callee.PutChar args b line m d rest sound row room values k =
      let one : pushed b ≡ 1 = ap pushed sound.1 in
      values (type.Int ∷ []) (Item.Do (op.PutChar line) (Some line) ∷ rest) sound.0 (omega arith)
      (act (d + 1) (d + pushed b) (op.PutChar line) (Some line) rest
      (finds (d + 1) (op.PutChar line) refl (omega arith) (omega (arith, room)) (λ a b e f. tt) tt)
      (omega (arith, one)) k)
  calls s fixed callee.Exit args b line m d rest sound row room values k =
      let next : At (next_of m) ≡ d + pushed b = at_part m 9 (d, pushed b) row in
      let less : pushed b ≤ 1 = most_one b in
      let on : List Item = Item.Begin (next_of m) (Some line) ∷ rest in
      values (type.Int ∷ []) (Item.End Close.Quit (Some line) ∷ on) sound.0 (omega arith)
      ((omega arith), enter (d + pushed b) (next_of m) (Some line) rest next (omega (arith, room, less)) k)

  mutual
    pub deep : (s : Scope) → Fixed s → (e : TypedExpr) (m d : ℕ) → SoundExpr s e → From table m (rows e d)
        → Room d (typed_levels e) → Holds (ways e m) d (pushed (base_of e))
    deep s fixed (TypedExpr.At kind b place line) m d sound there room =
        kinds s fixed kind b line m d sound.2 there.0 there.1 room

    kinds : (s : Scope) → Fixed s → (kind : TypedKind) (b : Base) (line m d : ℕ) → SoundKind s kind b
        → slice_get table m ≡ Some (d, pushed b) → From table (suc m) (kind_rows kind d)
        → Room d (typed_kind_levels kind) → Holds (kind_ways kind b line m) d (pushed b)
    kinds s fixed (TypedKind.Name c) b line m d sound row there room =
        let one : pushed b ≡ 1 = ap pushed sound.1.1 in
        holds_plain (λ rest. Item.Do (load_op c) (Some line) ∷ rest) d (pushed b) (λ rest k.
        load s fixed c sound.1.0 sound.1.2 d (Some line) rest (omega (arith, room))
        (same_depth rest (d + pushed b) (d + 1) (omega (arith, one)) k))
    kinds s fixed (TypedKind.Number n t) b line m d sound row there room =
        let one : pushed b ≡ 1 = ap pushed sound.0 in
        holds_plain (λ rest. Item.Do (op.Push n) (Some line) ∷ rest) d (pushed b) (λ rest k.
        push d n (Some line) rest (number_of t n sound.1) (omega (arith, room))
        (same_depth rest (d + pushed b) (d + 1) (omega (arith, one)) k))
    kinds s fixed TypedKind.EofName b line m d sound row there room =
        let one : pushed b ≡ 1 = ap pushed sound in
        holds_plain (λ rest. Item.Do (op.Push (negsuc 0)) (Some line) ∷ rest) d (pushed b) (λ rest k.
        push d (negsuc 0) (Some line) rest (omega (arith, ints), omega (arith, ints)) (omega (arith, room))
        (same_depth rest (d + pushed b) (d + 1) (omega (arith, one)) k))
    kinds s fixed (TypedKind.Call f args) b line m d sound row there room =
        holds_plain _ d (pushed b) (λ rest k. calls s fixed f args b line m d rest sound.0 row (omega (arith, room))
        (λ ts after same most k. alls s fixed args ts (suc m) d after same sound.1 there (omega (arith, room, most)) k) k)
    kinds s fixed (TypedKind.Index c n place named e) b line m d sound row there room =
        let one : pushed b ≡ 1 = ap pushed sound.2.1.1 in
        let v : pushed (base_of e) ≡ 1 = pushed_value (base_of e) sound.3 in
        let r : d + 1 ≤ depth_limit = omega (arith, room) in
        holds_plain _ d (pushed b) (λ rest k.
        let loaded : List Item = Item.Do (load_at c n) (Some named) ∷ rest in
        let checked : List Item = Item.Do (op.CheckIndex n line) None ∷ loaded in
        (deep s fixed e (suc m) d sound.5 there (omega (arith, room))).value checked
        (same_depth checked (d + 1) (d + pushed (base_of e)) (omega (arith, v))
        (check n line d loaded r (load_element s fixed c n sound.2.1.0 sound.2.1.2 d (Some named) rest r
        (same_depth rest (d + pushed b) (d + 1) (omega (arith, one)) k)))))
    kinds s fixed (TypedKind.Convert e) b line m d sound row there room =
        let one : pushed b ≡ 1 = pushed_value b sound.0 in
        let v : pushed (base_of e) ≡ 1 = pushed_value (base_of e) sound.1 in
        let some : 1 ≤ typed_levels e = some_levels e in
        holds_plain _ d (pushed b) (λ rest k.
        let after : List Item = converted (type_in (base_of e)) (type_in b) rest in
        (deep s fixed e (suc m) d sound.4 there room).value after
        (same_depth after (d + 1) (d + pushed (base_of e)) (omega (arith, v))
        (converts (type_in (base_of e)) (type_in b) d rest (omega (arith, room, some))
        (same_depth rest (d + pushed b) (d + 1) (omega (arith, one)) k))))
    kinds s fixed (TypedKind.Plus e) b line m d sound row there room =
        holds_plain _ d (pushed b) (λ rest k.
        (deep s fixed e (suc m) d sound.2 there (omega (arith, room))).value rest
        (same_depth rest (d + pushed b) (d + pushed (base_of e)) (ap (λ (a : Base). d + pushed a) (sym sound.1)) k))
    kinds s fixed (TypedKind.Minus e) b line m d sound row there room =
        let one : pushed b ≡ 1 = promoted_value b sound.0 in
        let same : pushed (base_of e) ≡ pushed b = ap pushed sound.1 in
        holds_plain _ d (pushed b) (λ rest k.
        let after : List Item = Item.Do (op.Minus (type_in b) line) None ∷ rest in
        (deep s fixed e (suc m) d sound.2 there (omega (arith, room))).value after
        (act (d + pushed (base_of e)) (d + pushed b) (op.Minus (type_in b) line) None rest
        (finds (d + pushed (base_of e)) (op.Minus (type_in b) line) refl (omega (arith, one, same))
        (omega (arith, one, same, room)) (λ a b e f. tt) tt) (omega (arith, one, same)) k))
    kinds s fixed (TypedKind.Complement e) b line m d sound row there room =
        let one : pushed b ≡ 1 = promoted_value b sound.0 in
        let same : pushed (base_of e) ≡ pushed b = ap pushed sound.1 in
        holds_plain _ d (pushed b) (λ rest k.
        let after : List Item = Item.Do (op.Complement (type_in b) line) None ∷ rest in
        (deep s fixed e (suc m) d sound.2 there (omega (arith, room))).value after
        (act (d + pushed (base_of e)) (d + pushed b) (op.Complement (type_in b) line) None rest
        (finds (d + pushed (base_of e)) (op.Complement (type_in b) line) refl (omega (arith, one, same))
        (omega (arith, one, same, room)) (λ a b e f. tt) tt) (omega (arith, one, same)) k))
    kinds s fixed (TypedKind.Not e) b line m d sound row there room =
        let one : pushed b ≡ 1 = ap pushed sound.0 in
        let v : pushed (base_of e) ≡ 1 = pushed_value (base_of e) sound.1 in
        let part : Holds (ways e (suc m)) d (pushed (base_of e)) =
        deep s fixed e (suc m) d sound.3 there (omega (arith, room)) in
        record {
          value = λ rest k. part.value (Item.Do op.Not None ∷ rest)
              (act (d + pushed (base_of e)) (d + pushed b) op.Not None rest
              (finds (d + pushed (base_of e)) op.Not refl (omega (arith, v)) (omega (arith, v, room)) (λ a b e f. tt) tt)
              (omega (arith, one, v)) k);
          test = λ t f rest one a b k. part.test f t rest v b a k;
        }
    kinds s fixed (TypedKind.Cast to e) b line m d sound row there room =
        holds_plain _ d (pushed b) (λ rest k.
        let after : List Item = cast (base_of e) to rest in
        (deep s fixed e (suc m) d sound.3 there (omega (arith, room))).value after
        (casts (base_of e) to d rest sound.1 (omega (arith, room))
        (same_depth rest (d + pushed b) (d + pushed to) (ap (λ (a : Base). d + pushed a) sound.0) k)))
    kinds s fixed (TypedKind.Binary o l r) b line m d sound row there room =
        let ones = operands_one (class o) (base_of l) (base_of r) b sound.0 in
        let e0 : pushed (base_of l) ≡ 1 = ones.0 in let e1 : pushed (base_of r) ≡ 1 = ones.1 in
        let e2 : pushed b ≡ 1 = ones.2 in
        let first = deep s fixed l (suc m) d sound.1 (from_left table (rows l d) (rows r (suc d)) (suc m) there)
        (omega (arith, room)) in
        let second = deep s fixed r (suc m + nodes l) (suc d) sound.2
        (from_right table (rows l d) (rows r (suc d)) (suc m) (nodes l) (long l d) there) (omega (arith, room)) in
        holds_plain _ d (pushed b) (λ rest k.
        let tail : List Item = Item.Do (operator o (type_in (base_of l)) line) None ∷ rest in
        let right : List Item = (ways r (suc m + nodes l)).value tail in
        first.value right (same_depth right (suc d) (d + pushed (base_of l)) (omega (arith, e0))
        (second.value tail (same_depth tail (d + 2) (suc d + pushed (base_of r)) (omega (arith, e1))
        (operate o (type_in (base_of l)) line d rest (omega (arith, room))
        (same_depth rest (d + pushed b) (d + 1) (omega (arith, e2)) k))))))
    kinds s fixed (TypedKind.AndAlso l r) b line m d sound row there room =
        let e : pushed b ≡ 1 = ap pushed sound.0 in
        let v : pushed (base_of l) ≡ 1 = pushed_value (base_of l) sound.1 in
        let w : pushed (base_of r) ≡ 1 = pushed_value (base_of r) sound.2 in
        let row_one : slice_get table m ≡ Some (d, 1) = row ∙ ap (λ (n : ℕ). Some (d, n)) e in
        let first = deep s fixed l (suc m) d sound.5 (from_left table (rows l d) (rows r d) (suc m) there)
        (omega (arith, room)) in
        let second = deep s fixed r (suc m + nodes l) d sound.6
        (from_right table (rows l d) (rows r d) (suc m) (nodes l) (long l d) there) (omega (arith, room)) in
        subst (λ n. Holds (kind_ways (TypedKind.AndAlso l r) b line m) d n) (sym e)
        (holds_logic m line d _ row_one (omega (arith, room)) (λ t f rest at_t at_f k.
        let go : At (right_of m) ≡ d = at_part m 8 (d, pushed b) row in
        let other : List Item = (ways r (suc m + nodes l)).test t f rest in
        first.test (right_of m) f (Item.Begin (right_of m) (Some line) ∷ other) v go at_f
        (enter d (right_of m) (Some line) other go (omega (arith, room)) (second.test t f rest w at_t at_f k))))
    kinds s fixed (TypedKind.OrElse l r) b line m d sound row there room =
        let e : pushed b ≡ 1 = ap pushed sound.0 in
        let v : pushed (base_of l) ≡ 1 = pushed_value (base_of l) sound.1 in
        let w : pushed (base_of r) ≡ 1 = pushed_value (base_of r) sound.2 in
        let row_one : slice_get table m ≡ Some (d, 1) = row ∙ ap (λ (n : ℕ). Some (d, n)) e in
        let first = deep s fixed l (suc m) d sound.5 (from_left table (rows l d) (rows r d) (suc m) there)
        (omega (arith, room)) in
        let second = deep s fixed r (suc m + nodes l) d sound.6
        (from_right table (rows l d) (rows r d) (suc m) (nodes l) (long l d) there) (omega (arith, room)) in
        subst (λ n. Holds (kind_ways (TypedKind.OrElse l r) b line m) d n) (sym e)
        (holds_logic m line d _ row_one (omega (arith, room)) (λ t f rest at_t at_f k.
        let go : At (right_of m) ≡ d = at_part m 8 (d, pushed b) row in
        let other : List Item = (ways r (suc m + nodes l)).test t f rest in
        first.test t (right_of m) (Item.Begin (right_of m) (Some line) ∷ other) v at_t go
        (enter d (right_of m) (Some line) other go (omega (arith, room)) (second.test t f rest w at_t at_f k))))
    kinds s fixed (TypedKind.Choose c x y) b line m d sound row there room =
        let v : pushed (base_of c) ≡ 1 = pushed_value (base_of c) sound.0 in
        let ex : pushed (base_of x) ≡ pushed b = ap pushed sound.2 in
        let ey : pushed (base_of y) ≡ pushed b = ap pushed sound.3 in
        let less : pushed b ≤ 1 = most_one b in
        let near = from_left table (rows c d ++ rows x d) (rows y d) (suc m) there in
        let test = deep s fixed c (suc m) d sound.5 (from_left table (rows c d) (rows x d) (suc m) near)
        (omega (arith, room)) in
        let one = deep s fixed x (suc m + nodes c) d sound.6
        (from_right table (rows c d) (rows x d) (suc m) (nodes c) (long c d) near) (omega (arith, room)) in
        let both : length (rows c d ++ rows x d) ≡ nodes c + nodes x =
        append_long (rows c d) (rows x d) (nodes c) (nodes x) (long c d) (long x d) in
        let far : From table (suc m + nodes c + nodes x) (rows y d) =
        subst (λ (n : ℕ). From table n (rows y d)) (omega arith)
        (from_right table (rows c d ++ rows x d) (rows y d) (suc m) (nodes c + nodes x) both there) in
        let other = deep s fixed y (suc m + nodes c + nodes x) d sound.7 far (omega (arith, room)) in
        let to_x : At (second_of m) ≡ d = at_part m 12 (d, pushed b) row in
        let to_y : At (third_of m) ≡ d = at_part m 13 (d, pushed b) row in
        let to_join : At (join_of m) ≡ d + pushed b = at_part m 6 (d, pushed b) row in
        holds_plain _ d (pushed b) (λ rest k.
        let join : List Item = Item.Begin (join_of m) (Some line) ∷ rest in
        let third : List Item = (ways y (suc m + nodes c + nodes x)).value join in
        let jump : List Item = Item.End (Close.Jump (join_of m)) None ∷ Item.Begin (third_of m) (Some line) ∷ third in
        let second : List Item = (ways x (suc m + nodes c)).value jump in
        let meets : Open (d + pushed b) join =
        begin (d + pushed b) (join_of m) (Some line) rest to_join (omega (arith, room, less)) k in
        let then_y : Open d third = other.value join
        (same_depth join (d + pushed b) (d + pushed (base_of y)) (omega (arith, ey)) meets) in
        let jumps : Open (d + pushed b) jump =
        (to_join, enter d (third_of m) (Some line) third to_y (omega (arith, room)) then_y) in
        test.test (second_of m) (third_of m) (Item.Begin (second_of m) (Some line) ∷ second) v to_x to_y
        (enter d (second_of m) (Some line) second to_x (omega (arith, room))
        (one.value jump (same_depth jump (d + pushed b) (d + pushed (base_of x)) (omega (arith, ex)) jumps))))
    kinds s fixed (TypedKind.Assign None target e) b line m d sound row there room =
        let names = sound.0 in let fine = sound.3 in
        let one : pushed b ≡ 1 = ap pushed (sym sound.1) ∙ names_value s target names fine in
        let v : pushed (base_of e) ≡ 1 = suits_value None b (base_of e) sound.2 one in
        let i : ℕ = indexed target in
        let little : i ≤ 1 = most_index target in
        let near = from_left table (rows target d) (rows e (d + i)) (suc m) there in
        let part = deep s fixed e (suc m + nodes target) (d + i) sound.4
        (from_right table (rows target d) (rows e (d + i)) (suc m) (nodes target) (long target d) there)
        (omega (arith, room, little)) in
        holds_plain _ d (pushed b) (λ rest k.
        let stored : List Item = Item.Do (stores target) (Some (named_on target)) ∷ rest in
        index s fixed target (suc m) d ((ways e (suc m + nodes target)).value stored) names fine near
        (omega (arith, room))
        (part.value stored (same_depth stored (d + i + 1) (d + i + pushed (base_of e)) (omega (arith, v))
        (stores_it s fixed target names fine d (Some (named_on target)) rest (omega (arith, room))
        (same_depth rest (d + pushed b) (d + 1) (omega (arith, one)) k)))))
    kinds s fixed (TypedKind.Assign (Some o) target e) b line m d sound row there room =
        let names = sound.0 in let fine = sound.3 in
        let one : pushed b ≡ 1 = ap pushed (sym sound.1) ∙ names_value s target names fine in
        let v : pushed (base_of e) ≡ 1 = suits_value (Some o) b (base_of e) sound.2 one in
        let t : IntType = type_in b in let c : IntType = changing (class o) t (type_in (base_of e)) in
        let i : ℕ = indexed target in
        let little : i ≤ 1 = most_index target in
        let near = from_left table (rows target d) (rows e (d + suc i)) (suc m) there in
        let part = deep s fixed e (suc m + nodes target) (d + suc i) sound.4
        (from_right table (rows target d) (rows e (d + suc i)) (suc m) (nodes target) (long target d) there)
        (omega (arith, room, little)) in
        holds_plain _ d (pushed b) (λ rest k.
        let stored : List Item = Item.Do (stores target) None ∷ rest in
        let back : List Item = converted c t stored in
        let done : List Item = Item.Do (operator o c line) None ∷ back in
        let right : List Item = (ways e (suc m + nodes target)).value done in
        let there_from : List Item = converted t c right in
        let loaded : List Item = Item.Do (loads target) (Some (named_on target)) ∷ there_from in
        index s fixed target (suc m) d (kept target loaded) names fine near (omega (arith, room))
        (keeps_it target names d loaded (omega (arith, room))
        (loads_it s fixed target names fine (d + i) (Some (named_on target)) there_from (omega (arith, room, little))
        (converts t c (d + i) right (omega (arith, room, little))
        (same_depth right (d + suc i) (d + i + 1) (omega arith)
        (part.value done (same_depth done (d + i + 2) (d + suc i + pushed (base_of e)) (omega (arith, v))
        (operate o c line (d + i) back (omega (arith, room, little))
        (converts c t (d + i) stored (omega (arith, room, little))
        (stores_it s fixed target names fine d None rest (omega (arith, room))
        (same_depth rest (d + pushed b) (d + 1) (omega (arith, one)) k)))))))))))
    kinds s fixed (TypedKind.Before o target) b line m d sound row there room =
        let names = sound.1 in let fine = sound.3 in
        let one : pushed b ≡ 1 = ap pushed (sym sound.2) ∙ names_value s target names fine in
        holds_plain _ d (pushed b) (λ rest k.
        let t : IntType = type_in b in let c : IntType = common_type t type.Int in
        let i : ℕ = indexed target in
        let little : i ≤ 1 = most_index target in
        let stored : List Item = Item.Do (stores target) None ∷ rest in
        let back : List Item = converted c t stored in
        let added : List Item = Item.Do (operator o c line) None ∷ back in
        let one_more : List Item = Item.Do (op.Push (pos 1)) None ∷ added in
        let there_from : List Item = converted t c one_more in
        let loaded : List Item = Item.Do (loads target) (Some (named_on target)) ∷ there_from in
        let last : Open (d + i + 1) stored =
        stores_it s fixed target names fine d None rest (omega (arith, room))
        (same_depth rest (d + pushed b) (d + 1) (omega (arith, one)) k) in
        index s fixed target (suc m) d (kept target loaded) names fine there (omega (arith, room))
        (keeps_it target names d loaded (omega (arith, room))
        (loads_it s fixed target names fine (d + i) (Some (named_on target)) there_from (omega (arith, room, little))
        (converts t c (d + i) one_more (omega (arith, room, little))
        (push (d + i + 1) (pos 1) None added (omega (arith, ints), omega (arith, ints)) (omega (arith, room, little))
        (same_depth added (d + i + 2) (d + i + 1 + 1) (omega arith)
        (operate o c line (d + i) back (omega (arith, room, little))
        (converts c t (d + i) stored (omega (arith, room, little)) last))))))))
    kinds s fixed (TypedKind.After o target) b line m d sound row there room =
        let names = sound.1 in let fine = sound.3 in
        let one : pushed b ≡ 1 = ap pushed (sym sound.2) ∙ names_value s target names fine in
        holds_plain _ d (pushed b) (λ rest k.
        let t : IntType = type_in b in let c : IntType = common_type t type.Int in
        let i : ℕ = indexed target in
        let little : i ≤ 1 = most_index target in
        let let_go : List Item = Item.Do op.Drop None ∷ rest in
        let stored : List Item = Item.Do (stores target) None ∷ let_go in
        let back : List Item = converted c t stored in
        let added : List Item = Item.Do (operator o c line) None ∷ back in
        let one_more : List Item = Item.Do (op.Push (pos 1)) None ∷ added in
        let there_from : List Item = converted t c one_more in
        let loaded : List Item = Item.Do (loads target) (Some (named_on target)) ∷ doubled target there_from in
        let last : Open (d + 1 + i + 1) stored =
        stores_it s fixed target names fine (d + 1) None let_go (omega (arith, room))
        (drop (d + 1) None rest (omega (arith, room))
        (same_depth rest (d + pushed b) (d + 1) (omega (arith, one)) k)) in
        index s fixed target (suc m) d (kept target loaded) names fine there (omega (arith, room))
        (keeps_it target names d loaded (omega (arith, room))
        (loads_it s fixed target names fine (d + i) (Some (named_on target)) (doubled target there_from)
        (omega (arith, room, little))
        (doubles_it target names d there_from (omega (arith, room))
        (same_depth there_from (d + i + 1 + 1) (d + i + 2) (omega arith)
        (converts t c (d + i + 1) one_more (omega (arith, room, little))
        (push (d + i + 1 + 1) (pos 1) None added (omega (arith, ints), omega (arith, ints))
        (omega (arith, room, little))
        (same_depth added (d + i + 1 + 2) (d + i + 1 + 1 + 1) (omega arith)
        (operate o c line (d + i + 1) back (omega (arith, room, little))
        (converts c t (d + i + 1) stored (omega (arith, room, little))
        (same_depth stored (d + 1 + i + 1) (d + i + 1 + 1) (omega arith) last)))))))))))
    kinds s fixed (TypedKind.Comma l r) b line m d sound row there room =
        let first = deep s fixed l (suc m) d sound.3 (from_left table (rows l d) (rows r d) (suc m) there)
        (omega (arith, room)) in
        let second = deep s fixed r (suc m + nodes l) d sound.4
        (from_right table (rows l d) (rows r d) (suc m) (nodes l) (long l d) there) (omega (arith, room)) in
        holds_plain _ d (pushed b) (λ rest k.
        let right : List Item = (ways r (suc m + nodes l)).value rest in
        first.value (dropped (base_of l) right) (drops (base_of l) d right (omega (arith, room))
        (second.value rest
        (same_depth rest (d + pushed b) (d + pushed (base_of r)) (ap (λ (a : Base). d + pushed a) (sym sound.0)) k))))

    -- the index of what is assigned to
    index : (s : Scope) → Fixed s → (e : TypedExpr) (m d : ℕ) (rest : List Item) → NamesCell e → SoundExpr s e
        → From table m (rows e d) → Room d (typed_levels e) → Open (d + indexed e) rest → Open d (index_of e m rest)
    index s fixed (TypedExpr.At (TypedKind.Name c) b place line) m d rest names sound there room k =
        same_depth rest (d + 0) d (omega arith) k
    index s fixed (TypedExpr.At (TypedKind.Index c n p named x) b place line) m d rest names sound there room k =
        let v : pushed (base_of x) ≡ 1 = pushed_value (base_of x) sound.2.3 in
        let checked : List Item = Item.Do (op.CheckIndex n line) None ∷ rest in
        (deep s fixed x (suc m) d sound.2.5 there.1 (omega (arith, room))).value checked
        (same_depth checked (d + 1) (d + pushed (base_of x)) (omega (arith, v))
        (check n line d rest (omega (arith, room)) k))
    index s fixed _ m d rest names sound there room k = absurd names

    -- values from left to right
    alls : (s : Scope) → Fixed s → (es : TypedExprs) (ts : List IntType) (m d : ℕ) (rest : List Item)
        → bases_of es ≡ typed_ints ts → SoundExprs s es → From table m (all_rows es d)
        → d + length ts + 64 * typed_args_levels es ≤ depth_limit → Open (d + length ts) rest
        → Open d (all_values es m rest)
    alls s fixed TypedExprs.End [] m d rest same sound there room k = same_depth rest (d + 0) d (omega arith) k
    alls s fixed TypedExprs.End (t ∷ ts) m d rest same sound there room k = absurd (cc)
    alls s fixed (TypedExprs.More e es) [] m d rest same sound there room k = absurd (cc)
    alls s fixed (TypedExprs.More e es) (t ∷ ts) m d rest same sound there room k =
        let first : base_of e ≡ base.Int t = cc in
        let others : bases_of es ≡ typed_ints ts = cc in
        let v : pushed (base_of e) ≡ 1 = ap pushed first in
        let after : List Item = all_values es (m + nodes e) rest in
        (deep s fixed e m d sound.0 (from_left table (rows e d) (all_rows es (suc d)) m there)
        (omega (arith, room))).value after
        (same_depth after (suc d) (d + pushed (base_of e)) (omega (arith, v))
        (alls s fixed es ts (m + nodes e) (suc d) rest others sound.1
        (from_right table (rows e d) (all_rows es (suc d)) m (nodes e) (long e d) there) (omega (arith, room))
        (same_depth rest (d + suc (length ts)) (suc d + length ts) (omega arith) k)))
