-- Typed trees that no source has. None of them is sound.
use Rattle.std.proofs.Common.{arith, ◌≡◌, refl, sym, ap, ℕ, ◌≤◌, pos, List, [], ◌∷◌, Option, Some, None}
use Rattle.std.specs.Prelude.{Contains}
use Rattle.int_ops.specs.declared.types.IntType.TheVariants as type
use Rattle.c_tree.specs.declared.typed_expr.CellAt.TheVariants as cell
use Rattle.c_tree.specs.TypedExpr.{TypedExpr, TypedKind}
use Rattle.c_tree.specs.TypedStmt.{TypedInit, TypedStmt, TypedStmts}
use Rattle.c_tree.specs.Sound.{Sound, Variable, standing}
use Rattle.c_tree.proofs.Rows.{int, at, char_at, number, local, var, source_over, source_with}
use Rattle.c_tree.proofs.ScopeLaws.{absent, is_local, one_global}

-- a local variable with its length
abbrev known : ℕ → Option ℕ → Variable
known c n = record { first = cell.Local c; length = n }

other_cell : (c d : ℕ) (m n : Option ℕ) → (c ≡ d → ⊥) → known c m ≡ known d n → ⊥
other_cell c d m n apart e =
    let first : cell.Local c ≡ cell.Local d = ap (λ v. v.first) e in
    apart (cc)

other_length : (v w : Variable) → (v.length ≡ w.length → ⊥) → v ≡ w → ⊥
other_length v w apart e = apart (ap (λ x. x.length) e)

no_length : (n : ℕ) → ◌≡◌ {A = Option ℕ} None (Some n) → ⊥
no_length n e = cc

two_lengths : (m n : ℕ) → (m ≡ n → ⊥) → ◌≡◌ {A = Option ℕ} (Some m) (Some n) → ⊥
two_lengths m n apart e = apart (cc)

abbrev two : TypedStmt → TypedStmt → TypedStmts
two a b = TypedStmts.More a (TypedStmts.More b TypedStmts.End)

abbrev gives : TypedExpr → TypedStmt
gives e = TypedStmt.Return (Some e) 0 1

-- `char c; return c;`, where the conversion stands at this place and line
abbrev converts : ℕ → ℕ → TypedStmts
converts place line =
    two (TypedStmt.Vars (var 0 type.Char None TypedInit.Absent 1 ∷ [])) (gives (TypedExpr.At (TypedKind.Convert (char_at (TypedKind.Name (cell.Local 0)) 1)) int place line))

-- a conversion stands at another place than its part
at_another_place : Sound (source_with (converts 9 1) 1) → ⊥
at_another_place s =
    let same : ◌≡◌ {A = ℕ} 9 0 = s.functions.0.body.1.0.1.2.1.0 in omega arith

-- or on another line
on_another_line : Sound (source_with (converts 0 2) 1) → ⊥
on_another_line s =
    let same : ◌≡◌ {A = ℕ} 2 1 = s.functions.0.body.1.0.1.2.1.1 in omega arith

-- a conversion stands on a conversion
converted_twice : Sound (source_with (TypedStmts.More (gives (at (TypedKind.Convert (char_at (TypedKind.Convert (number 0 1)) 1)) 1)) TypedStmts.End) 0) → ⊥
converted_twice s = s.functions.0.body.0.1.2.2.3

-- on what a cast converts itself
cast_of_a_conversion : Sound (source_with (TypedStmts.More (gives (at (TypedKind.Cast int (char_at (TypedKind.Convert (number 0 1)) 1)) 1)) TypedStmts.End) 0) → ⊥
cast_of_a_conversion s = s.functions.0.body.0.1.2.2.2

-- on a condition
converted_condition : Sound (source_with (TypedStmts.More (TypedStmt.While (char_at (TypedKind.Convert (number 0 1)) 1) TypedStmt.Empty) TypedStmts.End) 0) → ⊥
converted_condition s = s.functions.0.body.0.0.1

-- `int a[2], b;`, and then this value is given back
abbrev after_array : TypedExpr → TypedStmts
after_array e = two (TypedStmt.Vars (var 0 type.Int (Some 2) TypedInit.Absent 1 ∷ var 2 type.Int None TypedInit.Absent 1 ∷ [])) (gives e)

-- the array's first cell isn't that of a variable with another length
not_array : (globals : List (Option ℕ)) (n : Option ℕ) → (◌≡◌ {A = Option ℕ} (Some 2) n → ⊥) → Contains (known 2 None ∷ known 0 (Some 2) ∷ standing cell.Global 0 globals) (known 0 n) → ⊥
not_array globals n apart h = absent (known 2 None ∷ known 0 (Some 2) ∷ []) (known 0 n)
    (other_cell 2 0 None n (λ e. omega arith), (other_length _ _ apart, tt))
    (is_local (known 2 None ∷ known 0 (Some 2) ∷ []) globals 0 n h)

-- `a[0]`, where the tree says that a has the length 3
of_another_length : Sound (source_with (after_array (at (TypedKind.Index (cell.Local 0) 3 0 1 (number 0 1)) 1)) 3) → ⊥
of_another_length s = not_array s.global_lengths (Some 3) (two_lengths 2 3 (λ e. omega arith)) s.functions.0.body.1.0.1.2.2.2.0

-- `a`, as a value
array_as_value : Sound (source_with (after_array (local 0 1)) 3) → ⊥
array_as_value s = not_array s.global_lengths None (λ e. no_length 2 (sym e)) s.functions.0.body.1.0.1.2.2.0

-- `a[1]`, as if it were a variable of its own
element_as_value : Sound (source_with (after_array (local 1 1)) 3) → ⊥
element_as_value s = absent (known 2 None ∷ known 0 (Some 2) ∷ []) (known 1 None)
    (other_cell 2 1 None None (λ e. omega arith), (other_cell 0 1 (Some 2) None (λ e. omega arith), tt))
    (is_local (known 2 None ∷ known 0 (Some 2) ∷ []) s.global_lengths 1 None s.functions.0.body.1.0.1.2.2.0)

-- a global array that has the length 2, and that has the length 1
abbrev global : ℕ → TypedExpr
global n = at (TypedKind.Index (cell.Global 0) n 0 1 (number 0 1)) 1

of_two_lengths : Sound (source_over (pos 0 ∷ pos 0 ∷ []) (two (TypedStmt.Value (global 2)) (gives (global 1))) 0) → ⊥
of_two_lengths s =
    let same = one_global s.global_lengths (record { first = cell.Global 0; length = Some 2 }) (record { first = cell.Global 0; length = Some 1 }) s.long
    s.functions.0.body.0.1.2.2.0 s.functions.0.body.1.0.1.2.2.2.0 refl in
    two_lengths 2 1 (λ e. omega arith) (ap (λ x. x.length) same)

-- `n = 1;`
abbrev sets : TypedStmt
sets = TypedStmt.Value (at (TypedKind.Assign None (local 0 1) (number 1 1)) 1)

abbrev declares : TypedStmt
declares = TypedStmt.Vars (var 0 type.Int None TypedInit.Absent 1 ∷ [])

-- `n = 1; int n;`
named_before : Sound (source_with (two sets declares) 1) → ⊥
named_before s = absent [] (known 0 None) tt (is_local [] s.global_lengths 0 None s.functions.0.body.0.1.2.3.2.0)

-- `{ int n; } n = 1;`
named_outside : Sound (source_with (two (TypedStmt.Block (TypedStmts.More declares TypedStmts.End)) sets) 1) → ⊥
named_outside s = absent [] (known 0 None) tt (is_local [] s.global_lengths 0 None s.functions.0.body.1.0.1.2.3.2.0)

-- `int m = n, n;`
named_too_early : Sound (source_with (TypedStmts.More (TypedStmt.Vars (var 0 type.Int None (TypedInit.One (local 1 1)) 1 ∷ var 1 type.Int None TypedInit.Absent 1 ∷ [])) TypedStmts.End) 2) → ⊥
named_too_early s = absent (known 0 None ∷ []) (known 1 None) (other_cell 0 1 None None (λ e. omega arith), tt)
    (is_local (known 0 None ∷ []) s.global_lengths 1 None s.functions.0.body.0.1.0.init.1.2.0)

-- `int a[2] = {};`
empty_list : Sound (source_with (TypedStmts.More (TypedStmt.Vars (var 0 type.Int (Some 2) (TypedInit.Several []) 1 ∷ [])) TypedStmts.End) 2) → ⊥
empty_list s =
    let some : 1 ≤ 0 = s.functions.0.body.0.1.0.init.0 in omega arith

-- `int ;`
empty_declaration : Sound (source_with (TypedStmts.More (TypedStmt.Vars []) TypedStmts.End) 0) → ⊥
empty_declaration s =
    let some : 1 ≤ 0 = s.functions.0.body.0.0 in omega arith
