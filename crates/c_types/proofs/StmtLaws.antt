-- Statements, labels and items that are checked one behind another.
use Rattle.std.proofs.Common.{◌≡◌, refl, sym, ap, subst, ◌∙◌, ℕ, ◌<◌, ◌≤◌, true, List, [], ◌∷◌, ◌++◌, length, map}
use Rattle.std.specs.Prelude.{get_or}
use Rattle.std.proofs.lemmas.List.Recursion.{max_bounds}
use Rattle.c_tree.specs.declared.expr.Base.{Base}
use Rattle.c_tree.specs.declared.stmt.Stmt.{Stmt as StmtHeld}
use Rattle.c_tree.specs.declared.stmt.SwitchItem.{SwitchItem as ItemHeld}
use Rattle.cov_base.specs.declared.refusal.Refusal.{Refusal}
use Rattle.c_tree.specs.Expr.{Expr}
use Rattle.c_tree.specs.Stmt.{Stmt, ForHead}
use Rattle.c_tree.specs.TypedExpr.{TypedExpr}
use Rattle.c_tree.specs.TypedParts.{base_of}
use Rattle.c_tree.specs.TypedStmt.{TypedStmt, TypedForHead, TypedStmts, TypedItem, TypedItems}
use Rattle.c_tree.specs.TreeView.{stmt_view, stmts_of, items_of}
use Rattle.c_tree.specs.TypedView.{typed_stmts_of, typed_items_of}
use Rattle.c_tree.specs.Levels.{stmt_levels, stmts_levels, item_levels, items_levels}
use Rattle.c_tree.specs.Sound.{Inside, looped}
use Rattle.c_typing.specs.declared.fault.TypeFault.{TypeFault}
use Rattle.c_typing.specs.Names.{Here, inner, leaving}
use Rattle.c_typing.specs.TypedForms.{typed, converted, number_type, promoted_base}
use Rattle.c_typing.specs.ExprFaults.{at, faults, value_faults}
use Rattle.c_typing.specs.Statements.{
  after,
  after_all,
  after_head,
  after_item,
  after_items,
  switched,
  typed_head,
  typed_stmt,
  typed_stmts,
  typed_item,
  typed_items,
}
use Rattle.c_typing.specs.StmtFaults.{
  Labels,
  labelled,
  no_labels,
  switch_type,
  switching,
  head_faults,
  stmt_faults,
  stmts_faults,
  item_faults,
  items_faults,
}
use Rattle.c_typing.proofs.TypeLaws.{wanted_none}
use Rattle.c_types.specs.declared.statements.Context.{Context}
use Rattle.c_values.specs.Checks.{Stands}
use Rattle.c_types.specs.StmtChecks.{inside_of, item_seen}
use Rattle.c_values.proofs.CheckLaws.{in_right}
use Rattle.c_types.proofs.ScopeLaws.{shut, stmt_closed, all_closed, items_closed, for_closed}
use Rattle.c_values.proofs.ListLaws.{Walk, faults_in, seen_in, behind}

-- statements in a function with this result
abbrev pub statements : Base → Inside → Walk StmtHeld TypedStmt Here
statements result i = record {
  faults = λ h s. stmt_faults result i h (stmt_view s);
  seen = λ h s. typed_stmt result h (stmt_view s) ∷ [];
  next = λ h s. after h (stmt_view s);
}

pub stmts_faults_are : (result : Base) (i : Inside) (h : Here) (ss : List StmtHeld)
    → faults_in (statements result i) h ss ≡ stmts_faults result i h (stmts_of (map stmt_view ss))
stmts_faults_are result i h [] = refl
stmts_faults_are result i h (s ∷ ss) =
    ap (λ fs. stmt_faults result i h (stmt_view s) ++ fs) (stmts_faults_are result i (after h (stmt_view s)) ss)

pub stmts_are : (result : Base) (i : Inside) (h : Here) (ss : List StmtHeld)
    → typed_stmts_of (seen_in (statements result i) h ss) ≡ typed_stmts result h (stmts_of (map stmt_view ss))
stmts_are result i h [] = refl
stmts_are result i h (s ∷ ss) =
    ap (λ xs. TypedStmts.More (typed_stmt result h (stmt_view s)) xs) (stmts_are result i (after h (stmt_view s)) ss)

pub stmts_end : (result : Base) (i : Inside) (h : Here) (ss : List StmtHeld)
    → behind (statements result i) h ss ≡ after_all h (stmts_of (map stmt_view ss))
stmts_end result i h [] = refl
stmts_end result i h (s ∷ ss) = stmts_end result i (after h (stmt_view s)) ss

-- where the check stands in a `switch`, and the labels behind it
pub record Among : Type 0 where
  pub here : Here
  pub labels : Labels

-- labels and items of a `switch` over a type
abbrev pub switched_items : Base → Inside → Base → Walk ItemHeld TypedItem Among
switched_items result i to = record {
  faults = λ at x. item_faults result i at.here (number_type to) at.labels (item_seen x);
  seen = λ at x. typed_item result at.here to (item_seen x) ∷ [];
  next = λ at x. record {
    here = after_item at.here (item_seen x);
    labels = labelled (number_type to) at.here.scopes at.labels (item_seen x);
  };
}

pub items_faults_are : (result : Base) (i : Inside) (to : Base) (at : Among) (is : List ItemHeld)
    → faults_in (switched_items result i to) at is
    ≡ items_faults result i at.here (number_type to) at.labels (items_of (map item_seen is))
items_faults_are result i to at [] = refl
items_faults_are result i to at (x ∷ is) =
    ap (λ fs. item_faults result i at.here (number_type to) at.labels (item_seen x) ++ fs)
    (items_faults_are result i to (record {
      here = after_item at.here (item_seen x);
      labels = labelled (number_type to) at.here.scopes at.labels (item_seen x);
    }) is)

pub items_are : (result : Base) (i : Inside) (to : Base) (at : Among) (is : List ItemHeld)
    → typed_items_of (seen_in (switched_items result i to) at is)
    ≡ typed_items result at.here to (items_of (map item_seen is))
items_are result i to at [] = refl
items_are result i to at (x ∷ is) =
    ap (λ xs. TypedItems.Further (typed_item result at.here to (item_seen x)) xs)
    (items_are result i to (record {
      here = after_item at.here (item_seen x);
      labels = labelled (number_type to) at.here.scopes at.labels (item_seen x);
    }) is)

pub items_end : (result : Base) (i : Inside) (to : Base) (at : Among) (is : List ItemHeld)
    → (behind (switched_items result i to) at is).here ≡ after_items at.here (items_of (map item_seen is))
items_end result i to at [] = refl
items_end result i to at (x ∷ is) =
    items_end result i to (record {
      here = after_item at.here (item_seen x);
      labels = labelled (number_type to) at.here.scopes at.labels (item_seen x);
    }) is

-- a statement has no more levels than all of them
pub one_stmt_levels : (ss : List StmtHeld) (i : ℕ) (s : StmtHeld) → i < length ss → s ≡ get_or ss i s
    → stmt_levels (stmt_view s) ≤ stmts_levels (stmts_of (map stmt_view ss))
one_stmt_levels ss i s lt is =
    subst (λ x. stmt_levels (stmt_view x) ≤ stmts_levels (stmts_of (map stmt_view ss))) (sym is)
    (max_bounds (λ xs. stmts_levels (stmts_of (map stmt_view xs))) (λ x. stmt_levels (stmt_view x)) refl (λ x xs. refl)
    ss i s lt)

pub one_item_levels : (is : List ItemHeld) (i : ℕ) (x : ItemHeld) → i < length is → x ≡ get_or is i x
    → item_levels (item_seen x) ≤ items_levels (items_of (map item_seen is))
one_item_levels is i x lt at =
    subst (λ y. item_levels (item_seen y) ≤ items_levels (items_of (map item_seen is))) (sym at)
    (max_bounds (λ xs. items_levels (items_of (map item_seen xs))) (λ y. item_levels (item_seen y)) refl
    (λ y xs. refl) is i x lt)

-- a statement in a scope of its own
pub nested_made : (result : Base) (i : Inside) (h mid now end : Here) (s : Stmt) (v : TypedStmt) → mid ≡ inner h
    → (stmt_faults result i mid s ≡ []) × (v ≡ typed_stmt result mid s) × (now ≡ after mid s) → end ≡ shut now
    → (stmt_faults result i (inner h) s ≡ []) × (v ≡ typed_stmt result (inner h) s)
    × (end ≡ leaving h (after (inner h) s))
nested_made result i h mid now end s v is e closed = (
  sym (ap (λ m. stmt_faults result i m s) is) ∙ e.0,
  e.1 ∙ ap (λ m. typed_stmt result m s) is,
  closed ∙ (ap shut (e.2 ∙ ap (λ m. after m s) is) ∙ stmt_closed h s),
)

-- a block
pub block_made : (result : Base) (i : Inside) (h mid now end : Here) (xs ss : List StmtHeld) (v : TypedStmts) (b : TypedStmt)
    → xs ≡ ss → mid ≡ inner h
    → (stmts_faults result i mid (stmts_of (map stmt_view xs)) ≡ [])
    × (v ≡ typed_stmts result mid (stmts_of (map stmt_view xs))) × (now ≡ after_all mid (stmts_of (map stmt_view xs)))
    → end ≡ shut now → b ≡ TypedStmt.Block v
    → (stmts_faults result i (inner h) (stmts_of (map stmt_view ss)) ≡ [])
    × (b ≡ TypedStmt.Block (typed_stmts result (inner h) (stmts_of (map stmt_view ss))))
    × (end ≡ leaving h (after_all (inner h) (stmts_of (map stmt_view ss))))
block_made result i h mid now end xs ss v b same is e closed made =
    let list = ap (λ ys. stmts_of (map stmt_view ys)) same in (
      sym (ap (λ m. stmts_faults result i m (stmts_of (map stmt_view xs))) is
          ∙ ap (λ l. stmts_faults result i (inner h) l) list) ∙ e.0,
      made ∙ ap (λ l. TypedStmt.Block l) (e.1 ∙ (ap (λ m. typed_stmts result m (stmts_of (map stmt_view xs))) is
          ∙ ap (λ l. typed_stmts result (inner h) l) list)),
      closed ∙ (ap shut (e.2 ∙ (ap (λ m. after_all m (stmts_of (map stmt_view xs))) is
          ∙ ap (λ l. after_all (inner h) l) list)) ∙ all_closed h (stmts_of (map stmt_view ss))),
    )

-- a `for`
pub for_made : (c body : Context) (h mid behind now end : Here) (head : ForHead) (s : Stmt) (v : TypedForHead)
    (w made : TypedStmt) → mid ≡ inner h
    → (head_faults c.result (inside_of c) mid head ≡ []) × (v ≡ typed_head c.result mid head)
    × (behind ≡ after_head mid head) → body ≡ record { result = c.result; breaks = true; continues = true }
    → (stmt_faults body.result (inside_of body) behind s ≡ []) × (w ≡ typed_stmt body.result behind s)
    × (now ≡ after behind s) → end ≡ shut now → made ≡ TypedStmt.For v w
    → (stmt_faults c.result (inside_of c) h (Stmt.For head s) ≡ [])
    × (made ≡ typed_stmt c.result h (Stmt.For head s)) × (end ≡ after h (Stmt.For head s))
for_made c body h mid behind now end head s v w made is e looping f closed form =
    let at = e.2 ∙ ap (λ m. after_head m head) is in (
      ap (λ fs. fs ++ stmt_faults c.result looped (after_head (inner h) head) s)
          (sym (ap (λ m. head_faults c.result (inside_of c) m head) is) ∙ e.0)
          ∙ (sym (ap (λ (b : Context). stmt_faults b.result (inside_of b) behind s) looping
          ∙ ap (λ m. stmt_faults c.result looped m s) at) ∙ f.0),
      form ∙ (ap (λ x. TypedStmt.For x w) (e.1 ∙ ap (λ m. typed_head c.result m head) is)
          ∙ ap (λ x. TypedStmt.For (typed_head c.result (inner h) head) x)
          (f.1 ∙ (ap (λ (b : Context). typed_stmt b.result behind s) looping ∙ ap (λ m. typed_stmt c.result m s) at))),
      closed ∙ (ap shut (f.2 ∙ ap (λ m. after m s) at) ∙ for_closed h head s),
    )

-- the labels and items of a `switch` without faults in what it is over
record Braces (c body : Context) (h mid : Here) (e : Expr) (to : Base) (xs is : List ItemHeld) : Type 0 where
  valued : value_faults h.scopes e ≡ []
  over : to ≡ promoted_base (base_of (typed h.scopes e))
  within : body ≡ record { result = c.result; breaks = true; continues = c.continues }
  opened : mid ≡ inner h
  same : xs ≡ is

braces_faults : (c body : Context) (h mid : Here) (e : Expr) (to : Base) (xs is : List ItemHeld)
    → Braces c body h mid e to xs is
    → items_faults body.result (inside_of body) mid (number_type to) no_labels (items_of (map item_seen xs))
    ≡ items_faults c.result (switching (inside_of c)) (inner h)
    (switch_type (faults h.scopes e) (base_of (typed h.scopes e))) no_labels (items_of (map item_seen is))
braces_faults c body h mid e to xs is b =
    ap (λ (d : Context). items_faults d.result (inside_of d) mid (number_type to) no_labels (items_of (map item_seen xs)))
    b.within
    ∙ (ap (λ m. items_faults c.result (switching (inside_of c)) m (number_type to) no_labels
    (items_of (map item_seen xs))) b.opened
    ∙ (ap (λ t. items_faults c.result (switching (inside_of c)) (inner h) (number_type t) no_labels
    (items_of (map item_seen xs))) b.over
    ∙ (ap (λ fs. items_faults c.result (switching (inside_of c)) (inner h)
    (switch_type fs (base_of (typed h.scopes e))) no_labels (items_of (map item_seen xs)))
    (sym (wanted_none (faults h.scopes e) (base_of (typed h.scopes e)) (at e) b.valued).0)
    ∙ ap (λ ys. items_faults c.result (switching (inside_of c)) (inner h)
    (switch_type (faults h.scopes e) (base_of (typed h.scopes e))) no_labels (items_of (map item_seen ys))) b.same)))

pub switch_refused : (c body : Context) (h mid : Here) (e : Expr) (t : TypedExpr) (to : Base) (xs is : List ItemHeld)
    (r : Refusal TypeFault) → (value_faults h.scopes e ≡ []) × (t ≡ typed h.scopes e) → to ≡ promoted_base (base_of t)
    → body ≡ record { result = c.result; breaks = true; continues = c.continues } → mid ≡ inner h → xs ≡ is
    → Stands (items_faults body.result (inside_of body) mid (number_type to) no_labels (items_of (map item_seen xs))) r
    → Stands (stmt_faults c.result (inside_of c) h (Stmt.Switch e (items_of (map item_seen is)))) r
switch_refused c body h mid e t to xs is r valued over within opened same stands =
    in_right (value_faults h.scopes e) (items_faults c.result (switching (inside_of c)) (inner h)
    (switch_type (faults h.scopes e) (base_of (typed h.scopes e))) no_labels (items_of (map item_seen is))) r
    (subst (λ fs. Stands fs r) (braces_faults c body h mid e to xs is (record {
      valued = valued.0;
      over = over ∙ ap (λ x. promoted_base (base_of x)) valued.1;
      within = within;
      opened = opened;
      same = same;
    })) stands)

pub switch_made : (c body : Context) (h mid now end : Here) (e : Expr) (t u : TypedExpr) (to : Base)
    (xs is : List ItemHeld) (v : TypedItems) (made : TypedStmt) → (value_faults h.scopes e ≡ []) × (t ≡ typed h.scopes e)
    → to ≡ promoted_base (base_of t) → u ≡ converted t to
    → body ≡ record { result = c.result; breaks = true; continues = c.continues } → mid ≡ inner h → xs ≡ is
    → (items_faults body.result (inside_of body) mid (number_type to) no_labels (items_of (map item_seen xs)) ≡ [])
    × (v ≡ typed_items body.result mid to (items_of (map item_seen xs)))
    × (now ≡ after_items mid (items_of (map item_seen xs))) → end ≡ shut now → made ≡ TypedStmt.Switch u v
    → (stmt_faults c.result (inside_of c) h (Stmt.Switch e (items_of (map item_seen is))) ≡ [])
    × (made ≡ typed_stmt c.result h (Stmt.Switch e (items_of (map item_seen is))))
    × (end ≡ after h (Stmt.Switch e (items_of (map item_seen is))))
switch_made c body h mid now end e t u to xs is v made valued over changed within opened same f closed form =
    let over = over ∙ ap (λ x. promoted_base (base_of x)) valued.1 in (
      ap (λ fs. fs ++ items_faults c.result (switching (inside_of c)) (inner h)
          (switch_type (faults h.scopes e) (base_of (typed h.scopes e))) no_labels (items_of (map item_seen is))) valued.0
          ∙ (sym (braces_faults c body h mid e to xs is (record {
            valued = valued.0;
            over = over;
            within = within;
            opened = opened;
            same = same;
          })) ∙ f.0),
      form ∙ (ap (λ x. TypedStmt.Switch x v) (changed ∙ (ap (λ x. converted x to) valued.1
          ∙ ap (λ b. converted (typed h.scopes e) b) over))
          ∙ ap (λ x. TypedStmt.Switch (switched (typed h.scopes e)) x)
          (f.1 ∙ (ap (λ (d : Context). typed_items d.result mid to (items_of (map item_seen xs))) within
          ∙ (ap (λ m. typed_items c.result m to (items_of (map item_seen xs))) opened
          ∙ (ap (λ b. typed_items c.result (inner h) b (items_of (map item_seen xs))) over
          ∙ ap (λ ys. typed_items c.result (inner h) (promoted_base (base_of (typed h.scopes e)))
          (items_of (map item_seen ys))) same))))),
      closed ∙ (ap shut (f.2 ∙ (ap (λ m. after_items m (items_of (map item_seen xs))) opened
          ∙ ap (λ ys. after_items (inner h) (items_of (map item_seen ys))) same))
          ∙ items_closed h (items_of (map item_seen is))),
    )
