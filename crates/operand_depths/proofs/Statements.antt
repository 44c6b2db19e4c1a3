-- The items of statements find the operands that they take; none stand below a statement.
use Rattle.std.proofs.Common.{◌≡◌, refl, sym, ap, subst, ◌∙◌, ℕ, zero, suc, ◌+◌, ◌-◌, ◌*◌, ◌<◌, ◌≤◌, Bool, true, false}
use Rattle.std.proofs.Common.{max, List, [], ◌∷◌, ◌++◌, length, Option, Some, None, slice_get, arith}
use Rattle.std.specs.Prelude.{ℤ, pos}
use Rattle.std.proofs.lemmas.Int.{ints}
use Rattle.int_ops.specs.declared.types.IntType.{IntType}
use Rattle.c_tree.specs.declared.expr.Base.{Base}
use Rattle.c_tree.specs.declared.expr.Base.TheVariants as base
use Rattle.c_tree.specs.declared.typed_expr.CellAt.TheVariants as cell
use Rattle.c_tree.specs.TypedExpr.{TypedExpr}
use Rattle.c_tree.specs.TypedStmt.{
  TypedInit,
  TypedVar,
  TypedStmt,
  OtherTyped,
  TypedForHead,
  TypedStmts,
  TypedItem,
  TypedItems,
}
use Rattle.c_tree.specs.Typed.{TypedFunction}
use Rattle.c_tree.specs.TypedParts.{base_of, size, cells_of}
use Rattle.c_tree.specs.Levels.{typed_levels, typed_levels_if, typed_init_levels, typed_stmt_levels, other_typed_levels}
use Rattle.c_tree.specs.Levels.{typed_stmts_levels, typed_items_levels, most}
use Rattle.c_tree.specs.Sound.{Scope, Inside, Each, SoundExpr, SoundAt, SoundInit, SoundVar, SoundVars, SoundReturn}
use Rattle.c_tree.specs.Sound.{SoundTest, SoundIf, SoundStmt, SoundOther, SoundStmts, SoundItems, with_one, with_all}
use Rattle.c_tree.specs.Sound.{behind, behind_item, behind_first, looped, IsLength}
use Rattle.stack_ops.specs.declared.operation.Op.TheVariants as op
use Rattle.c_lower.specs.Items.{
  Name,
  Close,
  Item,
  body_of,
  else_of,
  test_of,
  again_of,
  head_of,
  label_of,
  step_of,
  end_of,
  nodes,
  nodes_if,
  init_nodes,
  stmt_nodes,
  other_nodes,
  ways,
  dropped,
  zeros,
  elements,
  initialised,
  declarations,
  group_at,
  cases_of,
  default_of,
  labelled,
  value_if,
  tested,
  stepped,
  continues_to,
  code,
  code_other,
  codes_of,
  code_items,
}
use Rattle.operand_depths.specs.Depths.{depth_limit, Finds}
use Rattle.operand_depths.proofs.Tables.{Row, pushed, at_row, rows, plain_row, rows_if, element_rows, init_rows, vars_rows}
use Rattle.operand_depths.proofs.Tables.{stmt_rows, other_rows, stmts_rows, item_rows, items_rows, From, from_left}
use Rattle.operand_depths.proofs.Tables.{from_right, append_long, long, long_if, init_long, stmt_long, other_long, item_long}
use Rattle.operand_depths.proofs.Steadily as steadily

module _ (table : List Row) (functions : List TypedFunction) (globals cells own : ℕ)
    (few : (f : ℕ) (g : TypedFunction) → slice_get functions f ≡ Some g → length g.params ≤ 64) where
  abbrev At : Name → ℕ
  At l = steadily.At table functions globals cells own few l

  abbrev Ends : ℕ → Close → Type 0
  Ends d c = steadily.Ends table functions globals cells own few d c

  abbrev Open : ℕ → List Item → Type 0
  Open d is = steadily.Open table functions globals cells own few d is

  abbrev Shut : List Item → Type 0
  Shut is = steadily.Shut table functions globals cells own few is

  abbrev Fixed : Scope → Type 0
  Fixed s = steadily.Fixed table functions globals cells own few s

  abbrev Room : ℕ → ℕ → Type 0
  Room d levels = d + 64 * levels ≤ depth_limit

  fixed_one : (s : Scope) (v : TypedVar) → Fixed s → Fixed (with_one s v)
  fixed_one s v h = record
      { functions_are = h.functions_are; cells_are = h.cells_are; globals_are = h.globals_are; result_is = h.result_is }

  fixed_all : (vs : List TypedVar) (s : Scope) → Fixed s → Fixed (with_all s vs)
  fixed_all [] s h = h
  fixed_all (v ∷ vs) s h = fixed_all vs (with_one s v) (fixed_one s v h)

  -- what is declared changes nothing of this
  fixed_behind : (s : Scope) (a : TypedStmt) → Fixed s → Fixed (behind s a)
  fixed_behind s (TypedStmt.Vars vars) h = fixed_all vars s h
  fixed_behind s _ h = h

  fixed_item : (s : Scope) (a : TypedItem) → Fixed s → Fixed (behind_item s a)
  fixed_item s (TypedItem.Item a) h = fixed_behind s a h
  fixed_item s _ h = h

  fixed_first : (s : Scope) (a : OtherTyped) → Fixed s → Fixed (behind_first s a)
  fixed_first s OtherTyped.Nothing h = h
  fixed_first s (OtherTyped.There a) h = fixed_behind s a h

  at_part : (m part : ℕ) (row : Row) → slice_get table m ≡ Some row → At (record { node = m; part = part }) ≡ at_row (Some row) part
  at_part m part row h = steadily.at_part table functions globals cells own few m part row h

  same_depth : (is : List Item) (a b : ℕ) → a ≡ b → Open a is → Open b is
  same_depth is a b e h = steadily.same_depth table functions globals cells own few is a b e h

  begin : (l : Name) (line : Option ℕ) (is : List Item) → At l ≡ 0 → Open 0 is → Open 0 (Item.Begin l line ∷ is)
  begin l line is e h = steadily.begin table functions globals cells own few 0 l line is e (omega arith) h

  enter : (l : Name) (line : Option ℕ) (is : List Item) → At l ≡ 0 → Open 0 is → Shut (Item.Begin l line ∷ is)
  enter l line is e h = steadily.enter table functions globals cells own few 0 l line is e (omega arith) h

  shut_of : (is : List Item) → Open 0 is → Shut is
  shut_of is h = steadily.shut_of table functions globals cells own few is h

  -- ---- expressions in statements

  value : (s : Scope) → Fixed s → (e : TypedExpr) (m d : ℕ) (rest : List Item) → SoundExpr s e
      → From table m (rows e d) → Room d (typed_levels e) → Open (d + pushed (base_of e)) rest
      → Open d ((ways e m).value rest)
  value s fixed e m d rest sound there room k =
      (steadily.deep table functions globals cells own few s fixed e m d sound there room).value rest k

  test : (s : Scope) → Fixed s → (e : TypedExpr) (m : ℕ) (t f : Name) (rest : List Item) → pushed (base_of e) ≡ 1
      → SoundExpr s e → From table m (rows e 0) → Room 0 (typed_levels e) → At t ≡ 0 → At f ≡ 0 → Shut rest
      → Open 0 ((ways e m).test t f rest)
  test s fixed e m t f rest one sound there room a b k =
      (steadily.deep table functions globals cells own few s fixed e m 0 sound there room).test t f rest one a b k

  -- a value that nothing uses
  value_alone : (s : Scope) → Fixed s → (e : TypedExpr) (m : ℕ) (rest : List Item) → SoundExpr s e
      → From table m (rows e 0) → Room 0 (typed_levels e) → Open 0 rest
      → Open 0 ((ways e m).value (dropped (base_of e) rest))
  value_alone s fixed e m rest sound there room k =
      value s fixed e m 0 (dropped (base_of e) rest) sound there room
      (steadily.drops table functions globals cells own few (base_of e) 0 rest (omega arith) k)

  -- ---- declarations

  -- an element of an array in the function's cells is set, and its value let go
  element_set : (first count : ℕ) (line : Option ℕ) (is : List Item) → first + count ≤ cells → Open 0 is
      → Open 2 (Item.Do (op.StoreLocalAt first count) line ∷ Item.Do op.Drop None ∷ is)
  element_set first count line is fits h =
      steadily.act table functions globals cells own few 2 1 (op.StoreLocalAt first count) line
      (Item.Do op.Drop None ∷ is)
      (steadily.finds table functions globals cells own few 2 (op.StoreLocalAt first count) refl (omega arith)
      (omega arith) (λ a b e f. omega (arith, e, fits)) tt) (omega arith)
      (steadily.drop table functions globals cells own few 0 None is (omega arith) h)

  push : (d : ℕ) (n : ℕ) (is : List Item) → n ≤ 1048576 → d + 1 ≤ depth_limit → Open (d + 1) is
      → Open d (Item.Do (op.Push (pos n)) None ∷ is)
  push d n is small room h =
      steadily.push table functions globals cells own few d (pos n) None is
      (omega (arith, ints, small), omega (arith, ints, small)) room h

  zeros_set : (more first count index : ℕ) (line : Option ℕ) (rest : List Item) → first + count ≤ cells
      → index + more ≤ 1048576 → Open 0 rest → Open 0 (zeros more first count index line rest)
  zeros_set zero first count index line rest fits small h = h
  zeros_set (suc more) first count index line rest fits small h =
      let others : List Item = zeros more first count (suc index) None rest in
      let set : List Item = Item.Do (op.StoreLocalAt first count) line ∷ Item.Do op.Drop None ∷ others in
      push 0 index (Item.Do (op.Push (pos 0)) None ∷ set) (omega (arith, small)) (omega arith)
      (push 1 0 set (omega arith) (omega arith)
      (element_set first count line others fits
      (zeros_set more first count (suc index) None rest fits (omega (arith, small)) h)))

  elements_set : (s : Scope) → Fixed s → (t : IntType) (es : List TypedExpr) (m first count index : ℕ)
      (line : Option ℕ) (rest : List Item) → Each (SoundAt s t) es → From table m (element_rows es)
      → Room 1 (most typed_levels es) → first + count ≤ cells → index + length es ≤ count → count ≤ 1048576
      → Open 0 rest → Open 0 (elements es m first count index line rest)
  elements_set s fixed t [] m first count index line rest sound there room fits most_ small h =
      zeros_set (count - index) first count index line rest fits (omega (arith, most_, small)) h
  elements_set s fixed t (e ∷ es) m first count index line rest sound there room fits most_ small h =
      let one : pushed (base_of e) ≡ 1 = ap pushed sound.0.0 in
      let others : List Item = elements es (m + nodes e) first count (suc index) None rest in
      let set : List Item = Item.Do (op.StoreLocalAt first count) line ∷ Item.Do op.Drop None ∷ others in
      push 0 index ((ways e m).value set) (omega (arith, most_, small)) (omega arith)
      (value s fixed e m 1 set sound.0.1 (from_left table (rows e 1) (element_rows es) m there) (omega (arith, room))
      (same_depth set 2 (1 + pushed (base_of e)) (omega (arith, one))
      (element_set first count line others fits
      (elements_set s fixed t es (m + nodes e) first count (suc index) None rest sound.1
      (from_right table (rows e 1) (element_rows es) m (nodes e) (long e 1) there) (omega (arith, room)) fits
      (omega (arith, most_)) small h))))

  init_set : (s : Scope) → Fixed s → (v : TypedVar) (n : Option ℕ) (i : TypedInit) (m : ℕ) (rest : List Item)
      → v.length ≡ n → SoundInit s v.number_type n i → IsLength (size v) → v.cell + size v ≤ cells
      → From table m (init_rows i) → Room 1 (typed_init_levels i) → Open 0 rest → Open 0 (initialised v i m rest)
  init_set s fixed v n TypedInit.Absent m rest same sound long fits there room h = h
  init_set s fixed v None (TypedInit.One e) m rest same sound is_long fits there room h =
      let one : pushed (base_of e) ≡ 1 = ap pushed sound.0 in
      let some : 1 ≤ size v = is_long.some in
      let after : List Item = Item.Do op.Drop None ∷ rest in
      let stored : List Item = Item.Do (op.StoreLocal v.cell) (Some v.line) ∷ after in
      value s fixed e m 0 stored sound.1 there (omega (arith, room))
      (same_depth stored 1 (0 + pushed (base_of e)) (omega (arith, one))
      (steadily.act table functions globals cells own few 1 1 (op.StoreLocal v.cell) (Some v.line) after
      (steadily.finds table functions globals cells own few 1 (op.StoreLocal v.cell) refl (omega arith) (omega arith)
      (λ a b e f. omega (arith, e, fits, some)) tt) (omega arith)
      (steadily.drop table functions globals cells own few 0 None rest (omega arith) h)))
  init_set s fixed v (Some n) (TypedInit.One e) m rest same sound long fits there room h = absurd sound
  init_set s fixed v None (TypedInit.Several es) m rest same sound long fits there room h = absurd sound
  init_set s fixed v (Some n) (TypedInit.Several es) m rest same sound is_long fits there room h =
      let count : size v ≡ n = ap cells_of same in
      let small : size v ≤ 1048576 = is_long.most in
      let few_ : length es ≤ n = sound.1 in
      elements_set s fixed v.number_type es m v.cell (size v) 0 (Some v.line) rest sound.2 there room fits
      (omega (arith, count, few_)) small h

  vars_set : (s : Scope) → Fixed s → (vs : List TypedVar) (m : ℕ) (rest : List Item) → SoundVars s vs
      → From table m (vars_rows vs) → Room 1 (most (λ v. typed_init_levels v.init) vs) → Open 0 rest
      → Open 0 (declarations vs m rest)
  vars_set s fixed [] m rest sound there room h = h
  vars_set s fixed (v ∷ vs) m rest sound there room h =
      let near : Fixed (with_one s v) = fixed_one s v fixed in
      let e = near.cells_are in let k = sound.0.cells.0 in
      init_set (with_one s v) near v v.length v.init m (declarations vs (m + init_nodes v.init) rest) refl
      sound.0.init sound.0.long (omega (arith, e, k))
      (from_left table (init_rows v.init) (vars_rows vs) m there) (omega (arith, room))
      (vars_set (with_one s v) near vs (m + init_nodes v.init) rest sound.1
      (from_right table (init_rows v.init) (vars_rows vs) m (init_nodes v.init) (init_long v.init) there)
      (omega (arith, room)) h)

  -- ---- parts of statements

  value_returned : (s : Scope) → Fixed s → (e : Option TypedExpr) (m : ℕ) (line : Option ℕ) (rest : List Item)
      → SoundReturn s e → From table m (rows_if e) → Room 0 (typed_levels_if e) → Open 0 rest
      → Open 0 (value_if e m (Item.End Close.Leave line ∷ rest))
  value_returned s fixed None m line rest sound there room h =
      (sym (ap pushed sound) ∙ fixed.result_is, shut_of rest h)
  value_returned s fixed (Some e) m line rest sound there room h =
      let same : pushed (base_of e) ≡ own = ap pushed sound.1 ∙ fixed.result_is in
      value s fixed e m 0 (Item.End Close.Leave line ∷ rest) sound.2 there room (omega (arith, same), shut_of rest h)

  tested_holds : (s : Scope) → Fixed s → (e : Option TypedExpr) (m : ℕ) (body end : Name) (rest : List Item)
      → SoundTest s e → From table m (rows_if e) → Room 0 (typed_levels_if e) → At body ≡ 0 → At end ≡ 0
      → Open 0 rest → Open 0 (tested e m body end rest)
  tested_holds s fixed None m body end rest sound there room a b h = h
  tested_holds s fixed (Some e) m body end rest sound there room a b h =
      test s fixed e m body end (Item.Begin body None ∷ rest) (ap pushed sound.0.1) sound.2 there room a b
      (enter body None rest a h)

  stepped_holds : (s : Scope) → Fixed s → (e : Option TypedExpr) (m : ℕ) (step : Name) (rest : List Item)
      → SoundIf s e → From table m (rows_if e) → Room 0 (typed_levels_if e) → At step ≡ 0 → Open 0 rest
      → Open 0 (stepped e m step rest)
  stepped_holds s fixed None m step rest sound there room a h = h
  stepped_holds s fixed (Some e) m step rest sound there room a h =
      begin step None ((ways e m).value (dropped (base_of e) rest)) a
      (value_alone s fixed e m rest sound.1 there room h)

  continues_well : (e : Option TypedExpr) (step head : Name) → At step ≡ 0 → At head ≡ 0
      → Ends 0 (continues_to e step head)
  continues_well None step head a b = b
  continues_well (Some e) step head a b = a

  -- ---- labels of a switch

  abbrev Grouped : Option Name → Type 0
  Grouped None = Unit {0}
  Grouped (Some g) = At g ≡ 0

  grouped : (g : Option Name) (m : ℕ) → Grouped g → slice_get table m ≡ Some plain_row → At (group_at g m) ≡ 0
  grouped None m h row = at_part m 7 plain_row row
  grouped (Some g) m h row = h

  labelled_holds : (g : Option Name) (m : ℕ) (rest : List Item) → slice_get table m ≡ Some plain_row → Open 0 rest
      → Open 0 (labelled g m rest)
  labelled_holds None m rest row h = begin (label_of m) None rest (at_part m 7 plain_row row) h
  labelled_holds (Some g) m rest row h = h

  cases_well : (is : TypedItems) (m : ℕ) (g : Option Name) → Grouped g → From table m (items_rows is)
      → Each (λ c. At c.1 ≡ 0) (cases_of is m g)
  cases_well TypedItems.Last m g h there = tt
  cases_well (TypedItems.Further (TypedItem.Case n place) is) m g h there =
      let own : At (group_at g m) ≡ 0 = grouped g m h there.0 in
      (own, cases_well is (suc m) (Some (group_at g m)) own there.1)
  cases_well (TypedItems.Further (TypedItem.Default place) is) m g h there =
      cases_well is (suc m) (Some (group_at g m)) (grouped g m h there.0) there.1
  cases_well (TypedItems.Further (TypedItem.Item s) is) m g h there =
      cases_well is (m + stmt_nodes s) None tt
      (from_right table (stmt_rows s) (items_rows is) m (stmt_nodes s) (stmt_long s) there)

  default_well : (is : TypedItems) (m : ℕ) (g : Option Name) (end : Name) → Grouped g → At end ≡ 0
      → From table m (items_rows is) → At (default_of is m g end) ≡ 0
  default_well TypedItems.Last m g end h e there = e
  default_well (TypedItems.Further (TypedItem.Case n place) is) m g end h e there =
      default_well is (suc m) (Some (group_at g m)) end (grouped g m h there.0) e there.1
  default_well (TypedItems.Further (TypedItem.Default place) is) m g end h e there = grouped g m h there.0
  default_well (TypedItems.Further (TypedItem.Item s) is) m g end h e there =
      default_well is (m + stmt_nodes s) None end tt e
      (from_right table (stmt_rows s) (items_rows is) m (stmt_nodes s) (stmt_long s) there)

  -- ---- statements

  mutual
    stmt : (s : Scope) → Fixed s → (i : Inside) (a : TypedStmt) (m : ℕ) (b k : Close) (rest : List Item)
        → SoundStmt s i a → From table m (stmt_rows a) → Room 0 (typed_stmt_levels a)
        → (i.breaks ≡ true → Ends 0 b) → (i.continues ≡ true → Ends 0 k) → Open 0 rest → Open 0 (code a m b k rest)
    stmt s fixed i (TypedStmt.Vars vars) m b k rest sound there room eb ek h =
        vars_set s fixed vars (suc m) rest sound.1 there.1 (omega (arith, room)) h
    stmt s fixed i (TypedStmt.Block ss) m b k rest sound there room eb ek h =
        stmts s fixed i ss (suc m) b k rest sound there.1 (omega (arith, room)) eb ek h
    stmt s fixed i TypedStmt.Empty m b k rest sound there room eb ek h = h
    stmt s fixed i (TypedStmt.Value e) m b k rest sound there room eb ek h =
        value_alone s fixed e (suc m) rest sound.1 there.1 (omega (arith, room)) h
    stmt s fixed i (TypedStmt.If c a OtherTyped.Nothing) m b k rest sound there room eb ek h =
        let near = from_left table (rows c 0 ++ stmt_rows a) [] (suc m) there.1 in
        let to_body : At (body_of m) ≡ 0 = at_part m 0 plain_row there.0 in
        let to_end : At (end_of m) ≡ 0 = at_part m 14 plain_row there.0 in
        let over : List Item = Item.Begin (end_of m) None ∷ rest in
        let body : List Item = code a (suc m + nodes c) b k over in
        test s fixed c (suc m) (body_of m) (end_of m) (Item.Begin (body_of m) None ∷ body) (ap pushed sound.0.0.1)
        sound.0.2 (from_left table (rows c 0) (stmt_rows a) (suc m) near) (omega (arith, room)) to_body to_end
        (enter (body_of m) None body to_body
        (stmt s fixed i a (suc m + nodes c) b k over sound.1
        (from_right table (rows c 0) (stmt_rows a) (suc m) (nodes c) (long c 0) near) (omega (arith, room)) eb ek
        (begin (end_of m) None rest to_end h)))
    stmt s fixed i (TypedStmt.If c a (OtherTyped.There t)) m b k rest sound there room eb ek h =
        let near = from_left table (rows c 0 ++ stmt_rows a) (stmt_rows t) (suc m) there.1 in
        let to_body : At (body_of m) ≡ 0 = at_part m 0 plain_row there.0 in
        let to_else : At (else_of m) ≡ 0 = at_part m 1 plain_row there.0 in
        let to_end : At (end_of m) ≡ 0 = at_part m 14 plain_row there.0 in
        let n : ℕ = suc m + nodes c + stmt_nodes a in
        let far : From table n (stmt_rows t) = subst (λ (j : ℕ). From table j (stmt_rows t)) (omega arith)
        (from_right table (rows c 0 ++ stmt_rows a) (stmt_rows t) (suc m) (nodes c + stmt_nodes a)
        (append_long (rows c 0) (stmt_rows a) (nodes c) (stmt_nodes a) (long c 0) (stmt_long a)) there.1) in
        let over : List Item = Item.Begin (end_of m) None ∷ rest in
        let second : List Item = code t n b k over in
        let jump : List Item = Item.End (Close.Jump (end_of m)) None ∷ Item.Begin (else_of m) None ∷ second in
        let body : List Item = code a (suc m + nodes c) b k jump in
        test s fixed c (suc m) (body_of m) (else_of m) (Item.Begin (body_of m) None ∷ body) (ap pushed sound.0.0.1)
        sound.0.2 (from_left table (rows c 0) (stmt_rows a) (suc m) near) (omega (arith, room)) to_body to_else
        (enter (body_of m) None body to_body
        (stmt s fixed i a (suc m + nodes c) b k jump sound.1
        (from_right table (rows c 0) (stmt_rows a) (suc m) (nodes c) (long c 0) near) (omega (arith, room)) eb ek (
          to_end,
          enter (else_of m) None second to_else
              (stmt s fixed i t n b k over sound.2 far (omega (arith, room)) eb ek (begin (end_of m) None rest to_end h)),
        )))
    stmt s fixed i (TypedStmt.While c a) m b k rest sound there room eb ek h =
        let to_body : At (body_of m) ≡ 0 = at_part m 0 plain_row there.0 in
        let to_head : At (head_of m) ≡ 0 = at_part m 5 plain_row there.0 in
        let to_end : At (end_of m) ≡ 0 = at_part m 14 plain_row there.0 in
        let over : List Item = Item.Begin (end_of m) None ∷ rest in
        let last : List Item = Item.End (Close.Back (head_of m)) None ∷ over in
        let body : List Item = code a (suc m + nodes c) (Close.Jump (end_of m)) (Close.Back (head_of m)) last in
        begin (head_of m) None ((ways c (suc m)).test (body_of m) (end_of m) (Item.Begin (body_of m) None ∷ body)) to_head
        (test s fixed c (suc m) (body_of m) (end_of m) (Item.Begin (body_of m) None ∷ body) (ap pushed sound.0.0.1)
        sound.0.2 (from_left table (rows c 0) (stmt_rows a) (suc m) there.1) (omega (arith, room)) to_body to_end
        (enter (body_of m) None body to_body
        (stmt s fixed looped a (suc m + nodes c) (Close.Jump (end_of m)) (Close.Back (head_of m)) last sound.1
        (from_right table (rows c 0) (stmt_rows a) (suc m) (nodes c) (long c 0) there.1) (omega (arith, room))
        (λ e. to_end) (λ e. to_head) (to_head, enter (end_of m) None rest to_end h))))
    stmt s fixed i (TypedStmt.DoWhile a c line) m b k rest sound there room eb ek h =
        let n : ℕ = suc m + stmt_nodes a in
        let to_body : At (body_of m) ≡ 0 = at_part m 0 plain_row there.0 in
        let to_test : At (test_of m) ≡ 0 = at_part m 2 plain_row there.0 in
        let to_again : At (again_of m) ≡ 0 = at_part m 4 plain_row there.0 in
        let to_end : At (end_of m) ≡ 0 = at_part m 14 plain_row there.0 in
        let over : List Item = Item.Begin (end_of m) None ∷ rest in
        let back : List Item = Item.End (Close.Back (body_of m)) None ∷ over in
        let again : List Item = Item.Begin (again_of m) (Some line) ∷ back in
        let tests : List Item = (ways c n).test (again_of m) (end_of m) again in
        begin (body_of m) None
        (code a (suc m) (Close.Jump (end_of m)) (Close.Jump (test_of m)) (Item.Begin (test_of m) None ∷ tests)) to_body
        (stmt s fixed looped a (suc m) (Close.Jump (end_of m)) (Close.Jump (test_of m))
        (Item.Begin (test_of m) None ∷ tests) sound.0 (from_left table (stmt_rows a) (rows c 0) (suc m) there.1)
        (omega (arith, room)) (λ e. to_end) (λ e. to_test)
        (begin (test_of m) None tests to_test
        (test s fixed c n (again_of m) (end_of m) again (ap pushed sound.1.0.1) sound.1.2
        (from_right table (stmt_rows a) (rows c 0) (suc m) (stmt_nodes a) (stmt_long a) there.1) (omega (arith, room))
        to_again to_end
        (enter (again_of m) (Some line) back to_again (to_body, enter (end_of m) None rest to_end h)))))
    stmt s fixed i (TypedStmt.For (TypedForHead.Head first c step) a) m b k rest sound there room eb ek h =
        let inner : Scope = behind_first s first in
        let same : Fixed inner = fixed_first s first fixed in
        let n : ℕ = suc m + other_nodes first in
        let to_body : At (body_of m) ≡ 0 = at_part m 0 plain_row there.0 in
        let to_head : At (head_of m) ≡ 0 = at_part m 5 plain_row there.0 in
        let to_step : At (step_of m) ≡ 0 = at_part m 11 plain_row there.0 in
        let to_end : At (end_of m) ≡ 0 = at_part m 14 plain_row there.0 in
        let three = from_left table ((other_rows first ++ rows_if c) ++ stmt_rows a) (rows_if step) (suc m) there.1 in
        let two = from_left table (other_rows first ++ rows_if c) (stmt_rows a) (suc m) three in
        let two_long : length (other_rows first ++ rows_if c) ≡ other_nodes first + nodes_if c =
        append_long (other_rows first) (rows_if c) (other_nodes first) (nodes_if c) (other_long first) (long_if c) in
        let three_long : length ((other_rows first ++ rows_if c) ++ stmt_rows a)
        ≡ other_nodes first + nodes_if c + stmt_nodes a =
        append_long (other_rows first ++ rows_if c) (stmt_rows a) (other_nodes first + nodes_if c) (stmt_nodes a)
        two_long (stmt_long a) in
        let from_test : From table n (rows_if c) =
        from_right table (other_rows first) (rows_if c) (suc m) (other_nodes first) (other_long first) two in
        let from_body : From table (n + nodes_if c) (stmt_rows a) =
        subst (λ (j : ℕ). From table j (stmt_rows a)) (omega arith)
        (from_right table (other_rows first ++ rows_if c) (stmt_rows a) (suc m) (other_nodes first + nodes_if c)
        two_long three) in
        let from_step : From table (n + nodes_if c + stmt_nodes a) (rows_if step) =
        subst (λ (j : ℕ). From table j (rows_if step)) (omega arith)
        (from_right table ((other_rows first ++ rows_if c) ++ stmt_rows a) (rows_if step) (suc m)
        (other_nodes first + nodes_if c + stmt_nodes a) three_long there.1) in
        let over : List Item = Item.Begin (end_of m) None ∷ rest in
        let last : List Item = Item.End (Close.Back (head_of m)) None ∷ over in
        let steps : List Item = stepped step (n + nodes_if c + stmt_nodes a) (step_of m) last in
        let next : Close = continues_to step (step_of m) (head_of m) in
        let body : List Item = code a (n + nodes_if c) (Close.Jump (end_of m)) next steps in
        let round : List Item = tested c n (body_of m) (end_of m) body in
        other s fixed i first (suc m) b k (Item.Begin (head_of m) None ∷ round) sound.0.1
        (from_left table (other_rows first) (rows_if c) (suc m) two) (omega (arith, room)) eb ek
        (begin (head_of m) None round to_head
        (tested_holds inner same c n (body_of m) (end_of m) body sound.0.2 from_test (omega (arith, room)) to_body to_end
        (stmt inner same looped a (n + nodes_if c) (Close.Jump (end_of m)) next steps sound.1 from_body
        (omega (arith, room)) (λ e. to_end) (λ e. continues_well step (step_of m) (head_of m) to_step to_head)
        (stepped_holds inner same step (n + nodes_if c + stmt_nodes a) (step_of m) last sound.0.3 from_step
        (omega (arith, room)) to_step (to_head, enter (end_of m) None rest to_end h)))))
    stmt s fixed i (TypedStmt.Switch e is) m b k rest sound there room eb ek h =
        let one : pushed (base_of e) ≡ 1 = ap pushed sound.0.1 in
        let n : ℕ = suc m + nodes e in
        let to_end : At (end_of m) ≡ 0 = at_part m 14 plain_row there.0 in
        let over : List Item = Item.Begin (end_of m) None ∷ rest in
        let from_items = from_right table (rows e 0) (items_rows is) (suc m) (nodes e) (long e 0) there.1 in
        let all : List Item = code_items is n None (Close.Jump (end_of m)) k over in
        let chooses : Close = Close.Select (cases_of is n None) (default_of is n None (end_of m)) in
        let whole : List Item = Item.End chooses None ∷ all in
        value s fixed e (suc m) 0 whole sound.1 (from_left table (rows e 0) (items_rows is) (suc m) there.1)
        (omega (arith, room))
        (same_depth whole 1 (0 + pushed (base_of e)) (omega (arith, one)) (
          (omega arith, cases_well is n None tt from_items, default_well is n None (end_of m) tt to_end from_items),
          shut_of all (items s fixed (record { breaks = true; continues = i.continues }) (base_of e) is n None
              (Close.Jump (end_of m)) k over sound.4 from_items (omega (arith, room)) (λ e. to_end) ek
              (begin (end_of m) None rest to_end h)),
        ))
    stmt s fixed i (TypedStmt.Break place line) m b k rest sound there room eb ek h =
        (eb sound.0, shut_of rest h)
    stmt s fixed i (TypedStmt.Continue place line) m b k rest sound there room eb ek h =
        (ek sound.0, shut_of rest h)
    stmt s fixed i (TypedStmt.Return e place line) m b k rest sound there room eb ek h =
        value_returned s fixed e (suc m) (Some line) rest sound.1 there.1 (omega (arith, room)) h

    other : (s : Scope) → Fixed s → (i : Inside) (a : OtherTyped) (m : ℕ) (b k : Close) (rest : List Item)
        → SoundOther s i a → From table m (other_rows a) → Room 0 (other_typed_levels a)
        → (i.breaks ≡ true → Ends 0 b) → (i.continues ≡ true → Ends 0 k) → Open 0 rest
        → Open 0 (code_other a m b k rest)
    other s fixed i OtherTyped.Nothing m b k rest sound there room eb ek h = h
    other s fixed i (OtherTyped.There a) m b k rest sound there room eb ek h =
        stmt s fixed i a m b k rest sound there room eb ek h

    pub stmts : (s : Scope) → Fixed s → (i : Inside) (ss : TypedStmts) (m : ℕ) (b k : Close) (rest : List Item)
        → SoundStmts s i ss → From table m (stmts_rows ss) → Room 0 (typed_stmts_levels ss)
        → (i.breaks ≡ true → Ends 0 b) → (i.continues ≡ true → Ends 0 k) → Open 0 rest
        → Open 0 (codes_of ss m b k rest)
    stmts s fixed i TypedStmts.End m b k rest sound there room eb ek h = h
    stmts s fixed i (TypedStmts.More a ss) m b k rest sound there room eb ek h =
        stmt s fixed i a m b k (codes_of ss (m + stmt_nodes a) b k rest) sound.0
        (from_left table (stmt_rows a) (stmts_rows ss) m there) (omega (arith, room)) eb ek
        (stmts (behind s a) (fixed_behind s a fixed) i ss (m + stmt_nodes a) b k rest sound.1
        (from_right table (stmt_rows a) (stmts_rows ss) m (stmt_nodes a) (stmt_long a) there) (omega (arith, room)) eb ek
        h)

    items : (s : Scope) → Fixed s → (i : Inside) (t : Base) (is : TypedItems) (m : ℕ) (g : Option Name) (b k : Close)
        (rest : List Item) → SoundItems s i t is → From table m (items_rows is) → Room 0 (typed_items_levels is)
        → (i.breaks ≡ true → Ends 0 b) → (i.continues ≡ true → Ends 0 k) → Open 0 rest
        → Open 0 (code_items is m g b k rest)
    items s fixed i t TypedItems.Last m g b k rest sound there room eb ek h = h
    items s fixed i t (TypedItems.Further (TypedItem.Case n place) is) m g b k rest sound there room eb ek h =
        labelled_holds g m (code_items is (suc m) (Some (group_at g m)) b k rest) there.0
        (items s fixed i t is (suc m) (Some (group_at g m)) b k rest sound.1 there.1 (omega (arith, room)) eb ek h)
    items s fixed i t (TypedItems.Further (TypedItem.Default place) is) m g b k rest sound there room eb ek h =
        labelled_holds g m (code_items is (suc m) (Some (group_at g m)) b k rest) there.0
        (items s fixed i t is (suc m) (Some (group_at g m)) b k rest sound.1 there.1 (omega (arith, room)) eb ek h)
    items s fixed i t (TypedItems.Further (TypedItem.Item a) is) m g b k rest sound there room eb ek h =
        stmt s fixed i a m b k (code_items is (m + stmt_nodes a) None b k rest) sound.0
        (from_left table (stmt_rows a) (items_rows is) m there) (omega (arith, room)) eb ek
        (items (behind s a) (fixed_behind s a fixed) i t is (m + stmt_nodes a) None b k rest sound.1
        (from_right table (stmt_rows a) (items_rows is) m (stmt_nodes a) (stmt_long a) there) (omega (arith, room)) eb ek
        h)
