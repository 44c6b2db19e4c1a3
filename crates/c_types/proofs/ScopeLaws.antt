-- Scopes as the check keeps them.
use Rattle.std.proofs.Common.{
  arith,
  ◌≡◌,
  refl,
  sym,
  ap,
  ◌∙◌,
  subst,
  ℕ,
  ◌≤◌,
  Bool,
  true,
  false,
  cond,
  List,
  [],
  ◌∷◌,
  ◌++◌,
  length,
  drop,
  is_some,
  Option,
  Some,
  None,
  bytes_eq,
}
use Rattle.indexmap.specs.IndexMap.{insert_entry}
use Rattle.c_tree.specs.declared.typed_expr.CellAt.{CellAt}
use Rattle.c_tree.specs.declared.typed_expr.CellAt.TheVariants as cell
use Rattle.c_tree.specs.Stmt.{Var, Stmt, OtherStmt, ForHead, Stmts, SwitchItem, SwitchItems}
use Rattle.c_typing.specs.declared.names.Meaning.{Meaning}
use Rattle.c_typing.specs.declared.names.Meaning.TheVariants as meant
use Rattle.c_typing.specs.Names.{Scope, Here, found, is_declared, declare, inner, leaving}
use Rattle.c_typing.specs.TypedForms.{number_type}
use Rattle.c_typing.specs.Declarations.{var_length, declare_var, declare_vars}
use Rattle.c_tree.specs.declared.expr.Base.{Base}
use Rattle.c_tree.specs.Tree.{Param}
use Rattle.c_typing.specs.Sources.{declare_param, declare_params, in_function}
use Rattle.c_typing.specs.Statements.{after, after_other, after_head, after_all, after_item, after_items}

-- a part of the text changes the innermost scope alone
record Keeps (before now : List Scope) : Type 0 where
  outer : drop 1 now ≡ drop 1 before
  long : length before ≤ length now

same : (n : List Scope) → Keeps n n
same n = record { outer = refl; long = omega arith }

then : (a b c : List Scope) → Keeps a b → Keeps b c → Keeps a c
then a b c first next =
    record { outer = next.outer ∙ first.outer; long = (let x = first.long in let y = next.long in omega (arith, x, y)) }

declare_keeps : (n : List Scope) (name : List ℕ) (m : Meaning) → Keeps n (declare name m n)
declare_keeps [] name m = record { outer = refl; long = omega arith }
declare_keeps (scope ∷ outer) name m = record { outer = refl; long = omega arith }

vars_keep : (vs : List Var) (at : ℕ → CellAt) (h : Here) → Keeps h.scopes (declare_vars at h vs).scopes
vars_keep [] at h = same h.scopes
vars_keep (v ∷ vs) at h =
    then h.scopes (declare_var at h v).scopes (declare_vars at (declare_var at h v) vs).scopes
    (declare_keeps h.scopes v.name (meant.Variable (at h.next) (var_length h.scopes v) (number_type v.base)))
    (vars_keep vs at (declare_var at h v))

stmt_keeps : (s : Stmt) (h : Here) → Keeps h.scopes (after h s).scopes
stmt_keeps (Stmt.Vars vars) h = vars_keep vars cell.Local h
stmt_keeps (Stmt.Block ss) h = same h.scopes
stmt_keeps Stmt.Empty h = same h.scopes
stmt_keeps (Stmt.Value e) h = same h.scopes
stmt_keeps (Stmt.If e s other) h = same h.scopes
stmt_keeps (Stmt.While e s) h = same h.scopes
stmt_keeps (Stmt.DoWhile s e line) h = same h.scopes
stmt_keeps (Stmt.For head s) h = same h.scopes
stmt_keeps (Stmt.Switch e is) h = same h.scopes
stmt_keeps (Stmt.Break place line) h = same h.scopes
stmt_keeps (Stmt.Continue place line) h = same h.scopes
stmt_keeps (Stmt.Return e place line) h = same h.scopes

other_keeps : (s : OtherStmt) (h : Here) → Keeps h.scopes (after_other h s).scopes
other_keeps OtherStmt.Nothing h = same h.scopes
other_keeps (OtherStmt.There s) h = stmt_keeps s h

head_keeps : (head : ForHead) (h : Here) → Keeps h.scopes (after_head h head).scopes
head_keeps (ForHead.Head first test step) h = other_keeps first h

all_keep : (ss : Stmts) (h : Here) → Keeps h.scopes (after_all h ss).scopes
all_keep Stmts.End h = same h.scopes
all_keep (Stmts.More s ss) h =
    then h.scopes (after h s).scopes (after_all (after h s) ss).scopes (stmt_keeps s h) (all_keep ss (after h s))

item_keeps : (i : SwitchItem) (h : Here) → Keeps h.scopes (after_item h i).scopes
item_keeps (SwitchItem.Case e place) h = same h.scopes
item_keeps (SwitchItem.Default place) h = same h.scopes
item_keeps (SwitchItem.Item s) h = stmt_keeps s h

items_keep : (is : SwitchItems) (h : Here) → Keeps h.scopes (after_items h is).scopes
items_keep SwitchItems.Last h = same h.scopes
items_keep (SwitchItems.Further i is) h =
    then h.scopes (after_item h i).scopes (after_items (after_item h i) is).scopes (item_keeps i h)
    (items_keep is (after_item h i))

-- a scope that was opened and is closed again
closed : (h now : Here) → Keeps (inner h).scopes now.scopes → record {
  scopes =
      drop 1 now.scopes;
  next = now.next;
} ≡ leaving h now
closed h now keeps = ap (λ n. leaving (record { scopes = n; next = h.next }) now) keeps.outer

opened : (h now : Here) → Keeps (inner h).scopes now.scopes → 2 ≤ length (inner h).scopes → 2 ≤ length now.scopes
opened h now keeps two = (let x = keeps.long in omega (arith, x, two))

pub stmt_closed : (h : Here) (s : Stmt) → record {
  scopes =
      drop 1 (after (inner h) s).scopes;
  next = (after (inner h) s).next;
} ≡ leaving h (after (inner h) s)
stmt_closed h s = closed h (after (inner h) s) (stmt_keeps s (inner h))

pub all_closed : (h : Here) (ss : Stmts) → record {
  scopes =
      drop 1 (after_all (inner h) ss).scopes;
  next = (after_all (inner h) ss).next;
} ≡ leaving h (after_all (inner h) ss)
all_closed h ss = closed h (after_all (inner h) ss) (all_keep ss (inner h))

pub items_closed : (h : Here) (is : SwitchItems) → record
    { scopes = drop 1 (after_items (inner h) is).scopes; next = (after_items (inner h) is).next } ≡ leaving h
    (after_items (inner h) is)
items_closed h is = closed h (after_items (inner h) is) (items_keep is (inner h))

pub for_closed : (h : Here) (head : ForHead) (s : Stmt)
    → record {
      scopes = drop 1 (after (after_head (inner h) head) s).scopes;
      next =
          (after (after_head (inner h) head) s).next;
    } ≡ leaving h (after (after_head (inner h) head) s)
for_closed h head s =
    closed h (after (after_head (inner h) head) s)
    (then (inner h).scopes (after_head (inner h) head).scopes (after (after_head (inner h) head) s).scopes
    (head_keeps head (inner h)) (stmt_keeps s (after_head (inner h) head)))

pub stmt_opened : (h : Here) (s : Stmt) → 2 ≤ length (inner h).scopes → 2 ≤ length (after (inner h) s).scopes
stmt_opened h s two = opened h (after (inner h) s) (stmt_keeps s (inner h)) two

pub all_opened : (h : Here) (ss : Stmts) → 2 ≤ length (inner h).scopes → 2 ≤ length (after_all (inner h) ss).scopes
all_opened h ss two = opened h (after_all (inner h) ss) (all_keep ss (inner h)) two

pub items_opened : (h : Here) (is : SwitchItems) → 2 ≤ length (inner h).scopes → 2 ≤ length
    (after_items (inner h) is).scopes
items_opened h is two = opened h (after_items (inner h) is) (items_keep is (inner h)) two

pub for_opened : (h : Here) (head : ForHead) (s : Stmt) → 2 ≤ length (inner h).scopes → 2 ≤ length
    (after (after_head (inner h) head) s).scopes
for_opened h head s two =
    opened h (after (after_head (inner h) head) s)
    (then (inner h).scopes (after_head (inner h) head).scopes (after (after_head (inner h) head) s).scopes
    (head_keeps head (inner h)) (stmt_keeps s (after_head (inner h) head))) two

-- the point behind what was opened, where it is closed
abbrev pub shut : Here → Here
shut h = record { scopes = drop 1 h.scopes; next = h.next }

-- a statement leaves as many scopes open
pub stmt_open : (mid now : Here) (s : Stmt) → now ≡ after mid s → 2 ≤ length mid.scopes → 2 ≤ length now.scopes
stmt_open mid now s is two =
    subst (λ h. 2 ≤ length h.scopes) (sym is) (let x = (stmt_keeps s mid).long in omega (arith, x, two))

pub all_open : (mid now : Here) (ss : Stmts) → now ≡ after_all mid ss → 2 ≤ length mid.scopes → 2 ≤ length now.scopes
all_open mid now ss is two =
    subst (λ h. 2 ≤ length h.scopes) (sym is) (let x = (all_keep ss mid).long in omega (arith, x, two))

pub head_open : (mid now : Here) (head : ForHead) → now ≡ after_head mid head → 2 ≤ length mid.scopes
    → 2 ≤ length now.scopes
head_open mid now head is two =
    subst (λ h. 2 ≤ length h.scopes) (sym is) (let x = (head_keeps head mid).long in omega (arith, x, two))

pub items_open : (mid now : Here) (is : SwitchItems) → now ≡ after_items mid is → 2 ≤ length mid.scopes
    → 2 ≤ length now.scopes
items_open mid now items is two =
    subst (λ h. 2 ≤ length h.scopes) (sym is) (let x = (items_keep items mid).long in omega (arith, x, two))

param_keeps : (h : Here) (name : Option (List ℕ)) (b : Base) → Keeps h.scopes (declare_param h name b).scopes
param_keeps h None b = same h.scopes
param_keeps h (Some name) b =
    declare_keeps h.scopes name (meant.Variable (cell.Local h.next) None (number_type b))

params_keep : (ps : List Param) (h : Here) → Keeps h.scopes (declare_params h ps).scopes
params_keep [] h = same h.scopes
params_keep (p ∷ ps) h =
    then h.scopes (declare_param h p.name p.base).scopes (declare_params (declare_param h p.name p.base) ps).scopes
    (param_keeps h p.name p.base) (params_keep ps (declare_param h p.name p.base))

body_keeps : (h : Here) (ps : List Param) (ss : Stmts) → Keeps (in_function h).scopes
    (after_all (declare_params (in_function h) ps) ss).scopes
body_keeps h ps ss =
    then (in_function h).scopes (declare_params (in_function h) ps).scopes
    (after_all (declare_params (in_function h) ps) ss).scopes (params_keep ps (in_function h))
    (all_keep ss (declare_params (in_function h) ps))

-- behind a function the scopes are those before it
pub function_left : (h now end : Here) (ps : List Param) (ss : Stmts) (next : ℕ) → next ≡ h.next
    → now ≡ after_all (declare_params (in_function h) ps) ss
    → end ≡ record { scopes = drop 1 now.scopes; next = next } → end ≡ h
function_left h now end ps ss next first is closed =
    closed ∙ (ap (λ n. at (drop 1 n.scopes) next) is ∙ (ap (λ n. at n next) (body_keeps h ps ss).outer
    ∙ ap (λ k. at h.scopes k) first))
  where
    at : List Scope → ℕ → Here
    at n k = record { scopes = n; next = k }

pub params_open : (mid now : Here) (ps : List Param) → now ≡ declare_params mid ps → 2 ≤ length mid.scopes
    → 2 ≤ length now.scopes
params_open mid now ps is two =
    subst (λ h. 2 ≤ length h.scopes) (sym is) (let x = (params_keep ps mid).long in omega (arith, x, two))
