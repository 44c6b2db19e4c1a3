-- Statements without faults have sound typed forms.
use Rattle.std.proofs.Common.{
  arith,
  ◌≡◌,
  ◌≢◌,
  refl,
  sym,
  ◌∙◌,
  subst,
  ℕ,
  ◌≤◌,
  Bool,
  true,
  false,
  cond,
  ◌||◌,
  ℤ,
  pos,
  List,
  [],
  ◌∷◌,
  ◌++◌,
  length,
  Option,
  Some,
  None,
  unwrap_or,
  option_map,
  int_eq,
}
use Rattle.std.proofs.lemmas.Bool.Decides.{Decides-int_eq}
use Rattle.int_ops.specs.declared.types.IntType.{IntType}
use Rattle.int_ops.specs.Conversion.{convert}
use Rattle.int_ops.specs.Common.{promoted}
use Rattle.int_ops.proofs.TypeLaws.{conv_range}
use Rattle.c_tree.specs.declared.expr.Base.{Base}
use Rattle.c_tree.specs.declared.expr.Base.TheVariants as base
use Rattle.c_tree.specs.Expr.{Expr}
use Rattle.c_tree.specs.Stmt.{Var, Stmt, OtherStmt, ForHead, Stmts, SwitchItem, SwitchItems}
use Rattle.c_tree.specs.Formed.{FormedIf, IsFirstPart, FormedStmt, FormedOther, FormedForHead, FormedStmts, FormedItems}
use Rattle.c_tree.specs.TypedStmt.{TypedVar, TypedStmt, OtherTyped, TypedItem, TypedItems}
use Rattle.c_tree.specs.Sound.{
  Scope,
  Each,
  IsPromoted,
  HasValue,
  SoundIf,
  SoundTest,
  with_one,
  with_all,
  behind,
  behind_first,
  behind_head,
  Inside,
  cases,
  defaults,
  AllDiffer,
  SoundReturn,
  IsFirst,
  looped,
  SoundStmt,
  SoundOther,
  SoundHead,
  SoundStmts,
  SoundItems,
  declared,
  declared_other,
  declared_head,
  declared_in,
  declared_items,
}
use Rattle.c_tree.specs.TypedParts.{base_of}
use Rattle.c_typing.specs.declared.fault.TypeFault.TheVariants as fault
use Rattle.c_typing.specs.Names.{Scope as Names, Here, inner, leaving}
use Rattle.c_typing.specs.TypedForms.{typed, number_type, promoted_base}
use Rattle.c_typing.specs.Constants.{constant}
use Rattle.c_typing.specs.ExprFaults.{faults, value_faults}
use Rattle.c_typing.specs.Declarations.{typed_vars}
use Rattle.c_typing.specs.Statements.{
  after,
  after_other,
  after_head,
  returned,
  typed_stmt,
  typed_other,
  typed_head,
  typed_stmts,
  typed_items,
}
use Rattle.c_typing.specs.StmtFaults.{
  Labels,
  is_among,
  no_labels,
  case_faults,
  with_case,
  faults_if,
  test_faults,
  return_faults,
  jump_faults,
  switch_type,
  switching,
  stmt_faults,
  other_faults,
  head_faults,
  stmts_faults,
  item_faults,
  items_faults,
}
use Rattle.c_typing.proofs.TypeLaws.{not_none, none_left, none_right, wanted_none}
use Rattle.c_typing.proofs.ExprSound.{Knows, lifted, sound, sound_value, promoted_sound}
use Rattle.c_typing.proofs.DeclSound.{HasVar, knows_inner, vars_sound}

-- lists of which each element is so
pub each_left : {A : Type 0} (P : A → Type 0) (xs ys : List A) → Each P (xs ++ ys) → Each P xs
each_left P [] ys h = tt
each_left P (x ∷ xs) ys h = (h.0, each_left P xs ys h.1)

pub each_right : {A : Type 0} (P : A → Type 0) (xs ys : List A) → Each P (xs ++ ys) → Each P ys
each_right P [] ys h = h
each_right P (x ∷ xs) ys h = each_right P xs ys h.1

pub each_kept : {A : Type 0} (P Q : A → Type 0) → ((x : A) → P x → Q x) → (xs : List A) → Each P xs → Each Q xs
each_kept P Q f [] h = tt
each_kept P Q f (x ∷ xs) h = (f x h.0, each_kept P Q f xs h.1)

-- a statement changes neither the function's result nor the cells
vars_result : (vs : List TypedVar) (s : Scope) → (with_all s vs).result ≡ s.result
vars_result [] s = refl
vars_result (v ∷ vs) s = vars_result vs (with_one s v)

vars_cells : (vs : List TypedVar) (s : Scope) (v : TypedVar) → HasVar s v → HasVar (with_all s vs) v
vars_cells [] s v h = h
vars_cells (w ∷ vs) s v h = vars_cells vs (with_one s w) v h

keeps_result : (a : TypedStmt) (s : Scope) → (behind s a).result ≡ s.result
keeps_result (TypedStmt.Vars vars) s = vars_result vars s
keeps_result (TypedStmt.Block ss) s = refl
keeps_result TypedStmt.Empty s = refl
keeps_result (TypedStmt.Value e) s = refl
keeps_result (TypedStmt.If e a other) s = refl
keeps_result (TypedStmt.While e a) s = refl
keeps_result (TypedStmt.DoWhile a e line) s = refl
keeps_result (TypedStmt.For head a) s = refl
keeps_result (TypedStmt.Switch e is) s = refl
keeps_result (TypedStmt.Break place line) s = refl
keeps_result (TypedStmt.Continue place line) s = refl
keeps_result (TypedStmt.Return e place line) s = refl

keeps_var : (a : TypedStmt) (s : Scope) (v : TypedVar) → HasVar s v → HasVar (behind s a) v
keeps_var (TypedStmt.Vars vars) s v h = vars_cells vars s v h
keeps_var (TypedStmt.Block ss) s v h = h
keeps_var TypedStmt.Empty s v h = h
keeps_var (TypedStmt.Value e) s v h = h
keeps_var (TypedStmt.If e a other) s v h = h
keeps_var (TypedStmt.While e a) s v h = h
keeps_var (TypedStmt.DoWhile a e line) s v h = h
keeps_var (TypedStmt.For head a) s v h = h
keeps_var (TypedStmt.Switch e is) s v h = h
keeps_var (TypedStmt.Break place line) s v h = h
keeps_var (TypedStmt.Continue place line) s v h = h
keeps_var (TypedStmt.Return e place line) s v h = h

keeps_result_of : (first : OtherTyped) (s : Scope) → (behind_first s first).result ≡ s.result
keeps_result_of OtherTyped.Nothing s = refl
keeps_result_of (OtherTyped.There a) s = keeps_result a s

keeps_var_of : (first : OtherTyped) (s : Scope) (v : TypedVar) → HasVar s v → HasVar (behind_first s first) v
keeps_var_of OtherTyped.Nothing s v h = h
keeps_var_of (OtherTyped.There a) s v h = keeps_var a s v h

some_typed : (vs : List Var) (h : Here) → 1 ≤ length vs → 1 ≤ length (typed_vars h vs)
some_typed [] h some = some
some_typed (v ∷ vs) h some = omega arith

-- where no jump's fault stands it is inside
inside : (b : Bool) (place : ℕ) → jump_faults b place ≡ [] → b ≡ true
inside true place none = refl
inside false place none = absurd (not_none _ _ none)

returned_sound : (result : Base) (e : Option Expr) (s : Scope) (n : List Names) (place : ℕ) → Knows s n → s.result ≡
    result → FormedIf e
    → return_faults result n e place ≡ [] → SoundReturn s (returned result n e)
returned_sound base.Void None s n place known is formed none = is
returned_sound base.Void (Some e) s n place known is formed none = absurd (not_none _ _ none)
returned_sound (base.Int t) None s n place known is formed none = absurd (not_none _ _ none)
returned_sound (base.Int t) (Some e) s n place known is formed none =
    let x = lifted s (typed n e) (base.Int t) (t, refl) (sound_value e s n known formed none) in
    (subst HasValue (sym is) (t, refl), x.0 ∙ sym is, x.1)

test_sound : (e : Option Expr) (s : Scope) (n : List Names) → Knows s n → FormedIf e → test_faults n e ≡ []
    → SoundTest s (option_map (typed n) e)
test_sound None s n known formed none = tt
test_sound (Some e) s n known formed none = sound_value e s n known formed none

step_sound : (e : Option Expr) (s : Scope) (n : List Names) → Knows s n → FormedIf e → faults_if n e ≡ []
    → SoundIf s (option_map (typed n) e)
step_sound None s n known formed none = tt
step_sound (Some e) s n known formed none = sound e s n known formed none

first_typed : (first : OtherStmt) (result : Base) (h : Here) → IsFirstPart first → IsFirst (typed_other result h first)
first_typed OtherStmt.Nothing result h is = tt
first_typed (OtherStmt.There (Stmt.Vars vars)) result h is = tt
first_typed (OtherStmt.There (Stmt.Value e)) result h is = tt
first_typed (OtherStmt.There (Stmt.Block ss)) result h is = absurd is
first_typed (OtherStmt.There Stmt.Empty) result h is = absurd is
first_typed (OtherStmt.There (Stmt.If e a other)) result h is = absurd is
first_typed (OtherStmt.There (Stmt.While e a)) result h is = absurd is
first_typed (OtherStmt.There (Stmt.DoWhile a e line)) result h is = absurd is
first_typed (OtherStmt.There (Stmt.For head a)) result h is = absurd is
first_typed (OtherStmt.There (Stmt.Switch e is2)) result h is = absurd is
first_typed (OtherStmt.There (Stmt.Break place line)) result h is = absurd is
first_typed (OtherStmt.There (Stmt.Continue place line)) result h is = absurd is
first_typed (OtherStmt.There (Stmt.Return e place line)) result h is = absurd is

-- what is not among numbers
abbrev IsNew : List ℤ → ℤ → Type 0
IsNew values n = is_among n values ≡ false

new_by : (b r : Bool) (rest : Bool) → (rest ≡ false → r ≡ false) → (b || rest) ≡ false → (b || r) ≡ false
new_by true r rest f e = e
new_by false r rest f e = f e

apart_by : (b r : Bool) → (b || r) ≡ false → b ≡ false
apart_by true r e = e
apart_by false r e = refl

either_rest : (b r : Bool) → (b || r) ≡ false → r ≡ false
either_rest true r e = (let h : ◌≡◌ {A = Bool} true false = e in absurd (cc))
either_rest false r e = e

apart : (n m : ℤ) → int_eq n m ≡ false → m ≡ n → ⊥
apart n m e same =
    let h : ◌≡◌ {A = Bool} true false = sym ((Decides-int_eq n m).1 (sym same)) ∙ e in cc

was_new : (values : List ℤ) (m n : ℤ) → IsNew (values ++ m ∷ []) n → IsNew values n
was_new [] m n e = refl
was_new (v ∷ values) m n e =
    new_by (int_eq n v) (is_among n values) (is_among n (values ++ m ∷ [])) (was_new values m n) e

other_than : (values : List ℤ) (m n : ℤ) → IsNew (values ++ m ∷ []) n → m ≢ n
other_than [] m n e = apart n m (apart_by (int_eq n m) false e)
other_than (v ∷ values) m n e = other_than values m n (either_rest (int_eq n v) (is_among n (values ++ m ∷ [])) e)

-- how many defaults may still come
abbrev Allows : Bool → ℕ → Type 0
Allows true n = n ≡ 0
Allows false n = n ≤ 1

-- The items of a `switch` are sound; the numbers of their cases differ, and are new behind these labels; and there is
-- one default at most.
abbrev GoodItems : Scope → Inside → IntType → Labels → TypedItems → Type 0
GoodItems s i t labels is =
    SoundItems s i (base.Int t) is × AllDiffer (cases is) × Each (IsNew labels.values) (cases is) × Allows
    labels.default (defaults is)

-- behind a case
case_good : (o : Option ℤ) (s : Scope) (i : Inside) (t : IntType) (labels : Labels) (place : ℕ) (is : TypedItems) →
    case_faults t labels o place ≡ []
    → GoodItems s i t (with_case t labels o) is
    → GoodItems s i t labels (TypedItems.Further (TypedItem.Case (convert t (unwrap_or o (pos 0))) place) is)
case_good None s i t labels place is none good = absurd (not_none _ _ none)
case_good (Some n) s i t labels place is none good = (
  ((t, refl, conv_range t n), good.0),
  (
    each_kept (IsNew (labels.values ++ convert t n ∷ [])) (λ y. convert t n ≢ y)
        (other_than labels.values (convert t n)) (cases is) good.2,
    good.1,
  ),
  (
    new_here (is_among (convert t n) labels.values) none,
    each_kept (IsNew (labels.values ++ convert t n ∷ []))
        (IsNew labels.values) (was_new labels.values (convert t n)) (cases is) good.2,
  ),
  good.3,
)
  where
    new_here : (b : Bool) → cond b (fault.TwiceCase place ∷ []) [] ≡ [] → b ≡ false
    new_here true none = absurd (not_none _ _ none)
    new_here false none = refl

-- behind a default
default_good : (values : List ℤ) (b : Bool) (s : Scope) (i : Inside) (t : IntType) (place : ℕ) (is : TypedItems) → cond
    b (fault.TwiceCase place ∷ []) [] ≡ []
    → GoodItems s i t (record { values = values; default = true }) is
    → GoodItems s i t (record { values = values; default = b }) (TypedItems.Further (TypedItem.Default place) is)
default_good values true s i t place is none good = absurd (not_none _ _ none)
default_good values false s i t place is none good = ((tt, good.0), good.1, good.2, omega (arith, good.3))

mutual
  -- a statement, and what is known behind it
  pub stmt_sound : (a : Stmt) (result : Base) (i : Inside) (s : Scope) (h : Here) → Knows s h.scopes → s.result ≡
      result → FormedStmt a
      → stmt_faults result i h a ≡ [] → Each (HasVar s) (declared (typed_stmt result h a))
      → SoundStmt s i (typed_stmt result h a) × Knows (behind s (typed_stmt result h a)) (after h a).scopes
  stmt_sound (Stmt.Vars vars) result i s h known is formed none has =
      let v = vars_sound vars s h known formed.1 none has in
      ((some_typed vars h formed.0, v.0), v.1)
  stmt_sound (Stmt.Block ss) result i s h known is formed none has =
      (stmts_sound ss result i s (inner h) (knows_inner s h.scopes known) is formed none has, known)
  stmt_sound Stmt.Empty result i s h known is formed none has = (tt, known)
  stmt_sound (Stmt.Value e) result i s h known is formed none has = (sound e s h.scopes known formed none, known)
  stmt_sound (Stmt.If e a other) result i s h known is formed none has =
      let rest = none_right (value_faults h.scopes e) _ none in (
        (
          sound_value e s h.scopes known formed.0 (none_left _ _ none),
          (stmt_sound a result i s (inner h) (knows_inner s h.scopes known) is formed.1 (none_left _ _ rest)
              (each_left (HasVar s) (declared (typed_stmt result (inner h) a)) _ has)).0,
          (other_sound other result i s (inner (leaving h (after (inner h) a))) (knows_inner s h.scopes known) is
              formed.2 (none_right (stmt_faults result i (inner h) a) _ rest)
              (each_right (HasVar s) (declared (typed_stmt result (inner h) a)) _ has)).0,
        ),
        known,
      )
  stmt_sound (Stmt.While e a) result i s h known is formed none has = (
    (
      sound_value e s h.scopes known formed.0 (none_left _ _ none),
      (stmt_sound a result looped s (inner h) (knows_inner s h.scopes known) is formed.1
          (none_right (value_faults h.scopes e) _ none) has).0,
    ),
    known,
  )
  stmt_sound (Stmt.DoWhile a e line) result i s h known is formed none has = (
    (
      (stmt_sound a result looped s (inner h) (knows_inner s h.scopes known) is formed.0 (none_left _ _ none) has).0,
      sound_value e s h.scopes known formed.1 (none_right (stmt_faults result looped (inner h) a) _ none),
      formed.2,
    ),
    known,
  )
  stmt_sound (Stmt.For head a) result i s h known is formed none has =
      let x = head_sound head result i s (inner h) (knows_inner s h.scopes known) is formed.0 (none_left _ _ none)
      (each_left (HasVar s) (declared_head (typed_head result (inner h) head)) _ has) in (
        (
          x.0,
          (stmt_sound a result looped (behind_head s (typed_head result (inner h) head)) (after_head (inner h) head) x.1
              (x.2 ∙ is) formed.1
              (none_right (head_faults result i (inner h) head) _ none)
              (each_kept (HasVar s) (HasVar (behind_head s (typed_head result (inner h) head))) x.3
              (declared (typed_stmt result (after_head (inner h) head) a))
              (each_right (HasVar s) (declared_head (typed_head result (inner h) head)) _ has))).0,
        ),
        known,
      )
  stmt_sound (Stmt.Switch e is) result i s h known is_result formed none has =
      let v = sound_value e s h.scopes known formed.0 (none_left _ _ none) in
      let clean = (wanted_none (faults h.scopes e) (base_of (typed h.scopes e)) _ (none_left _ _ none)).0 in
      let p = promoted_sound s (typed h.scopes e) v in
      let good = items_sound is result (switching i) s (inner h) (promoted (number_type (base_of (typed h.scopes e))))
      no_labels
      (knows_inner s h.scopes known) is_result formed.1
      (subst (λ fs. items_faults result (switching i) (inner h) (switch_type fs (base_of (typed h.scopes e)))
      no_labels is ≡ []) clean
      (none_right (value_faults h.scopes e) _ none)) has in (
        (
          subst IsPromoted (sym p.1) p.0,
          p.2,
          good.1,
          good.3,
          subst (λ b. SoundItems s (switching i) b (typed_items result (inner h)
              (promoted_base (base_of (typed h.scopes e))) is)) (sym p.1) good.0,
        ),
        known,
      )
  stmt_sound (Stmt.Break place line) result i s h known is formed none has =
      ((inside i.breaks place none, formed), known)
  stmt_sound (Stmt.Continue place line) result i s h known is formed none has =
      ((inside i.continues place none, formed), known)
  stmt_sound (Stmt.Return e place line) result i s h known is formed none has =
      ((formed.0, returned_sound result e s h.scopes place known is formed.1 none), known)

  -- a statement that may be left out
  other_sound : (a : OtherStmt) (result : Base) (i : Inside) (s : Scope) (h : Here) → Knows s h.scopes → s.result ≡
      result → FormedOther a
      → other_faults result i h a ≡ [] → Each (HasVar s) (declared_other (typed_other result h a))
      → SoundOther s i (typed_other result h a) × Knows (behind_first s (typed_other result h a))
      (after_other h a).scopes
  other_sound OtherStmt.Nothing result i s h known is formed none has = (tt, known)
  other_sound (OtherStmt.There a) result i s h known is formed none has =
      stmt_sound a result i s h known is formed none has

  -- the parentheses of a `for`, with what is kept behind them
  head_sound : (head : ForHead) (result : Base) (i : Inside) (s : Scope) (h : Here) → Knows s h.scopes → s.result ≡
      result → FormedForHead head
      → head_faults result i h head ≡ [] → Each (HasVar s) (declared_head (typed_head result h head))
      → SoundHead s i (typed_head result h head) × Knows (behind_head s (typed_head result h head))
      (after_head h head).scopes
      × ((behind_head s (typed_head result h head)).result ≡ s.result)
      × ((v : TypedVar) → HasVar s v → HasVar (behind_head s (typed_head result h head)) v)
  head_sound (ForHead.Head first test step) result i s h known is formed none has =
      let x = other_sound first result i s h known is formed.1 (none_left _ _ none) has in
      let rest = none_right (other_faults result i h first) _ none in (
        (
          first_typed first result h formed.0,
          x.0,
          test_sound test (behind_first s (typed_other result h first)) (after_other h first).scopes x.1 formed.2
              (none_left _ _ rest),
          step_sound step (behind_first s (typed_other result h first)) (after_other h first).scopes x.1 formed.3
              (none_right (test_faults (after_other h first).scopes test) _ rest),
        ),
        x.1,
        keeps_result_of (typed_other result h first) s,
        keeps_var_of (typed_other result h first) s,
      )

  -- a list of statements
  pub stmts_sound : (ss : Stmts) (result : Base) (i : Inside) (s : Scope) (h : Here) → Knows s h.scopes → s.result ≡
      result → FormedStmts ss
      → stmts_faults result i h ss ≡ [] → Each (HasVar s) (declared_in (typed_stmts result h ss)) → SoundStmts s i
      (typed_stmts result h ss)
  stmts_sound Stmts.End result i s h known is formed none has = tt
  stmts_sound (Stmts.More a ss) result i s h known is formed none has =
      let x = stmt_sound a result i s h known is formed.0 (none_left _ _ none)
      (each_left (HasVar s) (declared (typed_stmt result h a)) _ has) in (
        x.0,
        stmts_sound ss result i (behind s (typed_stmt result h a)) (after h a) x.1
            (keeps_result (typed_stmt result h a) s ∙ is) formed.1
            (none_right (stmt_faults result i h a) _ none)
            (each_kept (HasVar s) (HasVar (behind s (typed_stmt result h a))) (keeps_var (typed_stmt result h a) s)
            (declared_in (typed_stmts result (after h a) ss))
            (each_right (HasVar s) (declared (typed_stmt result h a)) _ has)),
      )

  -- the labels and items of a `switch` over a type
  items_sound : (is : SwitchItems) (result : Base) (i : Inside) (s : Scope) (h : Here) (t : IntType) (labels : Labels)
      → Knows s h.scopes → s.result ≡ result
      → FormedItems is → items_faults result i h t labels is ≡ [] → Each (HasVar s)
      (declared_items (typed_items result h (base.Int t) is))
      → GoodItems s i t labels (typed_items result h (base.Int t) is)
  items_sound SwitchItems.Last result i s h t labels known is_result formed none has =
      (tt, tt, tt, nothing labels.default)
    where
      nothing : (b : Bool) → Allows b 0
      nothing true = refl
      nothing false = omega arith
  items_sound (SwitchItems.Further (SwitchItem.Case e place) is) result i s h t labels known is_result formed none has =
      case_good (constant (typed h.scopes e)) s i t labels place (typed_items result h (base.Int t) is)
      (none_right (value_faults h.scopes e) _ (none_left _ _ none))
      (items_sound is result i s h t (with_case t labels (constant (typed h.scopes e))) known is_result formed.1
      (none_right (item_faults result i h t labels (SwitchItem.Case e place)) _ none) has)
  items_sound (SwitchItems.Further (SwitchItem.Default place) is) result i s h t labels known is_result formed none has
      =
      default_good labels.values labels.default s i t place (typed_items result h (base.Int t) is) (none_left _ _ none)
      (items_sound is result i s h t (record { values = labels.values; default = true }) known is_result formed.1
      (none_right (item_faults result i h t labels (SwitchItem.Default place)) _ none) has)
  items_sound (SwitchItems.Further (SwitchItem.Item a) is) result i s h t labels known is_result formed none has =
      let x = stmt_sound a result i s h known is_result formed.0 (none_left _ _ none)
      (each_left (HasVar s) (declared (typed_stmt result h a)) _ has) in
      let rest = items_sound is result i (behind s (typed_stmt result h a)) (after h a) t labels x.1
      (keeps_result (typed_stmt result h a) s ∙ is_result)
      formed.1 (none_right (stmt_faults result i h a) _ none)
      (each_kept (HasVar s) (HasVar (behind s (typed_stmt result h a))) (keeps_var (typed_stmt result h a) s)
      (declared_items (typed_items result (after h a) (base.Int t) is))
      (each_right (HasVar s) (declared (typed_stmt result h a)) _ has)) in
      ((x.0, rest.0), rest.1, rest.2, rest.3)
