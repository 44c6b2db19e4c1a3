-- The cells of local variables: they are numbered in the order of the text, and each has one type.
use Rattle.std.proofs.Common.{
  arith,
  ◌≡◌,
  refl,
  sym,
  subst,
  ℕ,
  ◌+◌,
  ◌<◌,
  ◌≤◌,
  nat_lt,
  Bool,
  true,
  false,
  cond,
  List,
  [],
  ◌∷◌,
  ◌++◌,
}
use Rattle.std.proofs.lemmas.Bool.Decides.{Decides-ltb}
use Rattle.int_ops.specs.declared.types.IntType.{IntType}
use Rattle.int_ops.specs.declared.types.IntType.TheVariants as type
use Rattle.c_tree.specs.declared.expr.Base.{Base}
use Rattle.c_tree.specs.declared.typed_expr.CellAt.TheVariants as cell
use Rattle.c_tree.specs.Stmt.{Var, Stmt, OtherStmt, ForHead, Stmts, SwitchItem, SwitchItems}
use Rattle.c_tree.specs.TypedStmt.{TypedVar}
use Rattle.c_tree.specs.Sound.{Each, Numbered, declared, declared_other, declared_head, declared_in, declared_items}
use Rattle.c_tree.specs.TypedParts.{size}
use Rattle.c_typing.specs.Names.{Here, inner, leaving}
use Rattle.c_typing.specs.Declarations.{declare_var, declare_vars, typed_vars}
use Rattle.c_typing.specs.Statements.{
  after,
  after_other,
  after_head,
  after_all,
  after_items,
  typed_stmt,
  typed_other,
  typed_head,
  typed_stmts,
  typed_items,
}
use Rattle.c_typing.proofs.StmtSound.{each_kept}

numbered_on : (xs ys : List TypedVar) (a b c : ℕ) → Numbered a xs b → Numbered b ys c → Numbered a (xs ++ ys) c
numbered_on [] ys a b c is h = subst (λ n. Numbered n ys c) (sym is) h
numbered_on (x ∷ xs) ys a b c is h = (is.0, numbered_on xs ys (a + size x) b c is.1 h)

vars_numbered : (vs : List Var) (h : Here) → Numbered h.next (typed_vars h vs) (declare_vars cell.Local h vs).next
vars_numbered [] h = refl
vars_numbered (v ∷ vs) h = (refl, vars_numbered vs (declare_var cell.Local h v))

mutual
  numbered : (a : Stmt) (result : Base) (h : Here) → Numbered h.next (declared (typed_stmt result h a)) (after h a).next
  numbered (Stmt.Vars vars) result h = vars_numbered vars h
  numbered (Stmt.Block ss) result h = all_numbered ss result (inner h)
  numbered Stmt.Empty result h = refl
  numbered (Stmt.Value e) result h = refl
  numbered (Stmt.If e a other) result h =
      numbered_on (declared (typed_stmt result (inner h) a))
      (declared_other (typed_other result (inner (leaving h (after (inner h) a))) other))
      h.next (after (inner h) a).next (after_other (inner (leaving h (after (inner h) a))) other).next
      (numbered a result (inner h))
      (other_numbered other result (inner (leaving h (after (inner h) a))))
  numbered (Stmt.While e a) result h = numbered a result (inner h)
  numbered (Stmt.DoWhile a e line) result h = numbered a result (inner h)
  numbered (Stmt.For head a) result h =
      numbered_on (declared_head (typed_head result (inner h) head))
      (declared (typed_stmt result (after_head (inner h) head) a)) h.next
      (after_head (inner h) head).next (after (after_head (inner h) head) a).next
      (head_numbered head result (inner h)) (numbered a result (after_head (inner h) head))
  numbered (Stmt.Switch e is) result h = items_numbered is result (inner h) _
  numbered (Stmt.Break place line) result h = refl
  numbered (Stmt.Continue place line) result h = refl
  numbered (Stmt.Return e place line) result h = refl

  other_numbered : (a : OtherStmt) (result : Base) (h : Here) → Numbered h.next
      (declared_other (typed_other result h a)) (after_other h a).next
  other_numbered OtherStmt.Nothing result h = refl
  other_numbered (OtherStmt.There a) result h = numbered a result h

  head_numbered : (head : ForHead) (result : Base) (h : Here) → Numbered h.next
      (declared_head (typed_head result h head)) (after_head h head).next
  head_numbered (ForHead.Head first test step) result h = other_numbered first result h

  -- the cells of a list of statements are those between the points before and behind it
  pub all_numbered : (ss : Stmts) (result : Base) (h : Here) → Numbered h.next (declared_in (typed_stmts result h ss))
      (after_all h ss).next
  all_numbered Stmts.End result h = refl
  all_numbered (Stmts.More a ss) result h =
      numbered_on (declared (typed_stmt result h a)) (declared_in (typed_stmts result (after h a) ss)) h.next
      (after h a).next (after_all (after h a) ss).next
      (numbered a result h) (all_numbered ss result (after h a))

  items_numbered : (is : SwitchItems) (result : Base) (h : Here) (b : Base) → Numbered h.next
      (declared_items (typed_items result h b is)) (after_items h is).next
  items_numbered SwitchItems.Last result h b = refl
  items_numbered (SwitchItems.Further (SwitchItem.Case e place) is) result h b = items_numbered is result h b
  items_numbered (SwitchItems.Further (SwitchItem.Default place) is) result h b = items_numbered is result h b
  items_numbered (SwitchItems.Further (SwitchItem.Item a) is) result h b =
      numbered_on (declared (typed_stmt result h a)) (declared_items (typed_items result (after h a) b is)) h.next
      (after h a).next (after_items (after h a) is).next
      (numbered a result h) (items_numbered is result (after h a) b)

-- the type of a cell: that of the first variable whose cells end behind it
abbrev pub cell_type : List TypedVar → ℕ → IntType
cell_type [] k = type.Int
cell_type (v ∷ vs) k = cond (nat_lt k (v.cell + size v)) v.number_type (cell_type vs k)

pub is_less : (a b : ℕ) → a < b → nat_lt a b ≡ true
is_less a b less = (Decides-ltb a b).1 less

pub not_less : (a b : ℕ) → b ≤ a → nat_lt a b ≡ false
not_less a b more = by (nat_lt a b) refl
  where
    by : (r : Bool) → nat_lt a b ≡ r → r ≡ false
    by true e = (let less : a < b = (Decides-ltb a b).0 e in absurd (omega arith))
    by false e = refl

pub ends : (vs : List TypedVar) (next last : ℕ) → Numbered next vs last → next ≤ last
ends [] next last h = omega (arith, h)
ends (v ∷ vs) next last h = (let rest : next + size v ≤ last = ends vs (next + size v) last h.1 in omega arith)

-- a variable's cells lie in a range
abbrev pub LiesIn : ℕ → ℕ → TypedVar → Type 0
LiesIn next last v = (next ≤ v.cell) × (v.cell + size v ≤ last)

pub each_within : (vs : List TypedVar) (next last : ℕ) → Numbered next vs last → Each (LiesIn next last) vs
each_within [] next last h = tt
each_within (v ∷ vs) next last h =
    let rest : next + size v ≤ last = ends vs (next + size v) last h.1 in
    let at : v.cell ≡ next = h.0 in (
      (omega arith, omega arith),
      each_kept (LiesIn (next + size v) last) (LiesIn next last) (λ w l. (omega (arith, l.0), l.1)) vs
          (each_within vs (next + size v) last h.1),
    )

-- these types give a variable's cells its type
abbrev pub HasType : (ℕ → IntType) → TypedVar → Type 0
HasType types v = (k : ℕ) → k < size v → types (v.cell + k) ≡ v.number_type

pub each_typed : (vs : List TypedVar) (next last : ℕ) → Numbered next vs last → Each (HasType (cell_type vs)) vs
each_typed [] next last h = tt
each_typed (v ∷ vs) next last h = (
  (λ k less. rw (is_less (v.cell + k) (v.cell + size v) (omega (arith, less))) refl),
  later vs (each_within vs (next + size v) last h.1) (each_typed vs (next + size v) last h.1),
)
  where
    at : v.cell ≡ next
    at = h.0

    later : (ws : List TypedVar) → Each (LiesIn (next + size v) last) ws → Each (HasType (cell_type vs)) ws → Each
        (HasType (cell_type (v ∷ vs))) ws
    later [] lies is = tt
    later (w ∷ ws) lies is = (
      (λ k less. rw (not_less (w.cell + k) (v.cell + size v) (omega (arith, at, lies.0.0))) (is.0 k less)),
      later ws
          lies.1 is.1,
    )
