-- The lines of a sound source's blocks are lines of the source.
use Rattle.std.proofs.Common.{
  ◌≡◌,
  refl,
  sym,
  subst,
  ◌∙◌,
  ℕ,
  zero,
  suc,
  ◌+◌,
  ◌-◌,
  ◌==◌,
  Bool,
  true,
  false,
  cond,
  List,
  [],
  ◌∷◌,
}
use Rattle.std.proofs.Common.{length, map, Option, Some, None}
use Rattle.std.specs.Prelude.{slice_get}
use Rattle.std.proofs.lemmas.Option.{same_Some, none-some}
use Rattle.int_ops.specs.declared.types.IntType.{IntType}
use Rattle.int_ops.specs.Codes.{type_code}
use Rattle.c_tree.specs.declared.expr.Base.{Base}
use Rattle.c_tree.specs.declared.expr.Base.TheVariants as base
use Rattle.c_tree.specs.declared.typed_expr.Callee.{Callee}
use Rattle.c_tree.specs.declared.typed_expr.Callee.TheVariants as callee
use Rattle.c_tree.specs.TypedExpr.{TypedExpr, TypedKind, TypedExprs}
use Rattle.c_tree.specs.TypedStmt.{TypedInit, TypedVar, TypedStmt, OtherTyped, TypedForHead, TypedStmts, TypedItem}
use Rattle.c_tree.specs.TypedStmt.{TypedItems}
use Rattle.c_tree.specs.Typed.{TypedFunction, Typed}
use Rattle.c_tree.specs.TypedParts.{base_of, size}
use Rattle.c_tree.specs.Sound.{
  Scope,
  Inside,
  Each,
  IsLine,
  SoundExpr,
  SoundKind,
  SoundExprs,
  SoundIf,
  SoundTest,
  SoundAt,
}
use Rattle.c_tree.specs.Sound.{
  SoundInit,
  SoundVars,
  SoundReturn,
  SoundStmt,
  SoundOther,
  SoundStmts,
  SoundItems,
  with_one,
}
use Rattle.c_tree.specs.Sound.{behind, behind_first, looped, Sound, SoundFunction, standing}
use Rattle.c_tree.specs.declared.typed_expr.CellAt.TheVariants as cell
use Rattle.stack_ops.specs.declared.operation.Op.{Op}
use Rattle.stack_ops.specs.declared.operation.Op.TheVariants as operation
use Rattle.flow_graph.specs.Graph.{Block, Graph}
use Rattle.flow_graph.proofs.LineLaws.{each_with, ascends-with}
use Rattle.c_lower.specs.Items.{Name, Close, Item, Ways, plain, logic, converted, dropped, cast, nodes, called, ways}
use Rattle.c_lower.specs.Items.{
  kind_ways,
  index_of,
  all_values,
  kept,
  doubled,
  named_on,
  init_nodes,
  nodes_if,
  stmt_nodes,
}
use Rattle.c_lower.specs.Items.{other_nodes, zeros, elements, initialised, declarations, group_at, labelled, value_if}
use Rattle.c_lower.specs.Items.{tested, stepped, code, code_other, codes_of, code_items, items_of, gives_number}
use Rattle.c_lower.specs.Lowered.{
  Named,
  add_line,
  opened,
  shut,
  left_out,
  block_of,
  named_blocks,
  number_from,
  graph_of,
}
use Rattle.lower_agrees.proofs.Whole.{each_at}
use Rattle.lower_agrees.specs.Agreement.{IsBlockOf, HasLines}
use Rattle.lower_agrees.proofs.Calls.{graph_found, text_found}

-- a line that is added is one of a source
abbrev Adds : Option ℕ → Type 0
Adds None = Unit {0}
Adds (Some n) = IsLine n

-- each line that the items add is one
abbrev Lined : List Item → Type 0
Lined [] = Unit {0}
Lined (Item.Begin l line ∷ is) = Adds line × Lined is
Lined (Item.Do o line ∷ is) = Adds line × Lined is
Lined (Item.End c line ∷ is) = Adds line × Lined is

-- A is what is to be shown of items that add lines of a source
module _ (A : List Item → Type 0)
    (begin : (l : Name) (line : Option ℕ) (is : List Item) → Adds line → A is → A (Item.Begin l line ∷ is))
    (act : (o : Op) (line : Option ℕ) (is : List Item) → Adds line → A is → A (Item.Do o line ∷ is))
    (finish : (c : Close) (line : Option ℕ) (is : List Item) → Adds line → A is → A (Item.End c line ∷ is)) where
  -- what is put before items whose lines are lines of a source
  record Adding (w : Ways) : Type 0 where
    pub value : (rest : List Item) → A rest → A (w.value rest)
    pub test : (t f : Name) (rest : List Item) → A rest → A (w.test t f rest)

  adding_plain : (v : List Item → List Item) → ((rest : List Item) → A rest → A (v rest)) → Adding (plain v)
  adding_plain v h =
      record { value = h; test = λ t f rest a. h (Item.End (Close.Branch t f) None ∷ rest) (finish _ _ _ tt a) }

  adding_logic : (m line : ℕ) (k : Name → Name → List Item → List Item) → IsLine line
      → ((t f : Name) (rest : List Item) → A rest → A (k t f rest)) → Adding (logic m line k)
  adding_logic m line k l h = record {
    value = λ rest a. h _ _ _ (begin _ _ _ l (act _ _ _ tt
        (finish _ _ _ tt (begin _ _ _ l (act _ _ _ tt (begin _ _ _ l a))))));
    test = h;
  }

  lined_converted : (from to : IntType) (rest : List Item) → A rest → A (converted from to rest)
  lined_converted from to rest a = go (type_code from == type_code to)
    where
      go : (same : Bool) → A (cond same rest (Item.Do (operation.Convert to) None ∷ rest))
      go true = a
      go false = act _ _ _ tt a

  lined_dropped : (b : Base) (rest : List Item) → A rest → A (dropped b rest)
  lined_dropped (base.Int t) rest a = act _ _ _ tt a
  lined_dropped base.Void rest a = a

  lined_cast : (from to : Base) (rest : List Item) → A rest → A (cast from to rest)
  lined_cast from base.Void rest a = lined_dropped from rest a
  lined_cast from (base.Int t) rest a = lined_converted _ t rest a

  lined_kept : (e : TypedExpr) (rest : List Item) → A rest → A (kept e rest)
  lined_kept (TypedExpr.At (TypedKind.Index c k place named e) b q line) rest a = act _ _ _ tt a
  lined_kept (TypedExpr.At kind b q line) rest a = a

  lined_doubled : (e : TypedExpr) (rest : List Item) → A rest → A (doubled e rest)
  lined_doubled (TypedExpr.At (TypedKind.Index c k place named e) b q line) rest a = act _ _ _ tt (act _ _ _ tt a)
  lined_doubled (TypedExpr.At kind b q line) rest a = act _ _ _ tt a

  lined_called : (f : Callee) (line m : ℕ) (rest : List Item) → IsLine line → A rest → A (called f line m rest)
  lined_called (callee.Function f) line m rest l a = finish _ _ _ l (begin _ _ _ l a)
  lined_called callee.GetChar line m rest l a = act _ _ _ l a
  lined_called callee.PutChar line m rest l a = act _ _ _ l a
  lined_called callee.Exit line m rest l a = finish _ _ _ l (begin _ _ _ l a)

  line_named : (s : Scope) (e : TypedExpr) → SoundExpr s e → IsLine (named_on e)
  line_named s (TypedExpr.At (TypedKind.Index c k place named e) b q line) h = h.2.0
  line_named s (TypedExpr.At kind b q line) h = h.0

  mutual
    -- an expression adds lines of the source
    lined : (s : Scope) (e : TypedExpr) (m : ℕ) → SoundExpr s e → Adding (ways e m)
    lined s (TypedExpr.At kind b place line) m h = lined_kind s kind b line m h.0 h.2

    lined_kind : (s : Scope) (kind : TypedKind) (b : Base) (line m : ℕ) → IsLine line → SoundKind s kind b
        → Adding (kind_ways kind b line m)
    lined_kind s (TypedKind.Name c) b line m l h = adding_plain _ (λ rest a. act _ _ _ l a)
    lined_kind s (TypedKind.Number k t) b line m l h = adding_plain _ (λ rest a. act _ _ _ l a)
    lined_kind s TypedKind.EofName b line m l h = adding_plain _ (λ rest a. act _ _ _ l a)
    lined_kind s (TypedKind.Call f args) b line m l h =
        adding_plain _ (λ rest a. lined_all s args (suc m) _ h.1 (lined_called f line m rest l a))
    lined_kind s (TypedKind.Index c k place named x) b line m l h =
        adding_plain _ (λ rest a. (lined s x (suc m) h.5).value _ (act _ _ _ tt (act _ _ _ h.0 a)))
    lined_kind s (TypedKind.Convert x) b line m l h =
        adding_plain _ (λ rest a. (lined s x (suc m) h.4).value _ (lined_converted _ _ rest a))
    lined_kind s (TypedKind.Plus x) b line m l h = adding_plain _ (λ rest a. (lined s x (suc m) h.2).value _ a)
    lined_kind s (TypedKind.Minus x) b line m l h =
        adding_plain _ (λ rest a. (lined s x (suc m) h.2).value _ (act _ _ _ tt a))
    lined_kind s (TypedKind.Complement x) b line m l h =
        adding_plain _ (λ rest a. (lined s x (suc m) h.2).value _ (act _ _ _ tt a))
    lined_kind s (TypedKind.Not x) b line m l h = record {
      value = λ rest a. (lined s x (suc m) h.3).value _ (act _ _ _ tt a);
      test = λ t f rest a. (lined s x (suc m) h.3).test f t rest a;
    }
    lined_kind s (TypedKind.Cast to x) b line m l h =
        adding_plain _ (λ rest a. (lined s x (suc m) h.3).value _ (lined_cast _ to rest a))
    lined_kind s (TypedKind.Binary o x y) b line m l h =
        adding_plain _ (λ rest a. (lined s x (suc m) h.1).value _
        ((lined s y (suc m + nodes x) h.2).value _ (act _ _ _ tt a)))
    lined_kind s (TypedKind.AndAlso x y) b line m l h =
        adding_logic m line _ l (λ t f rest a. (lined s x (suc m) h.5).test _ _ _
        (begin _ _ _ l ((lined s y (suc m + nodes x) h.6).test t f rest a)))
    lined_kind s (TypedKind.OrElse x y) b line m l h =
        adding_logic m line _ l (λ t f rest a. (lined s x (suc m) h.5).test _ _ _
        (begin _ _ _ l ((lined s y (suc m + nodes x) h.6).test t f rest a)))
    lined_kind s (TypedKind.Choose c x y) b line m l h =
        adding_plain _ (λ rest a. (lined s c (suc m) h.5).test _ _ _
        (begin _ _ _ l ((lined s x (suc m + nodes c) h.6).value _
        (finish _ _ _ tt (begin _ _ _ l ((lined s y (suc m + nodes c + nodes x) h.7).value _ (begin _ _ _ l a)))))))
    lined_kind s (TypedKind.Assign None target x) b line m l h =
        adding_plain _ (λ rest a. lined_index s target (suc m) _ h.3
        ((lined s x (suc m + nodes target) h.4).value _ (act _ _ _ (line_named s target h.3) a)))
    lined_kind s (TypedKind.Assign (Some o) target x) b line m l h =
        adding_plain _ (λ rest a. lined_index s target (suc m) _ h.3
        (lined_kept target _ (act _ _ _ (line_named s target h.3)
        (lined_converted _ _ _ ((lined s x (suc m + nodes target) h.4).value _
        (act _ _ _ tt (lined_converted _ _ _ (act _ _ _ tt a))))))))
    lined_kind s (TypedKind.Before o target) b line m l h =
        adding_plain _ (λ rest a. lined_index s target (suc m) _ h.3
        (lined_kept target _ (act _ _ _ (line_named s target h.3)
        (lined_converted _ _ _ (act _ _ _ tt (act _ _ _ tt (lined_converted _ _ _ (act _ _ _ tt a))))))))
    lined_kind s (TypedKind.After o target) b line m l h =
        adding_plain _ (λ rest a. lined_index s target (suc m) _ h.3
        (lined_kept target _ (act _ _ _ (line_named s target h.3)
        (lined_doubled target _ (lined_converted _ _ _ (act _ _ _ tt
        (act _ _ _ tt (lined_converted _ _ _ (act _ _ _ tt (act _ _ _ tt a))))))))))
    lined_kind s (TypedKind.Comma x y) b line m l h =
        adding_plain _ (λ rest a. (lined s x (suc m) h.3).value _ (lined_dropped (base_of x) _
        ((lined s y (suc m + nodes x) h.4).value _ a)))

    lined_index : (s : Scope) (target : TypedExpr) (m : ℕ) (rest : List Item) → SoundExpr s target → A rest
        → A (index_of target m rest)
    lined_index s (TypedExpr.At (TypedKind.Index c k place named x) b q line) m rest h a =
        (lined s x (suc m) h.2.5).value _ (act _ _ _ tt a)
    lined_index s (TypedExpr.At kind b q line) m rest h a = a

    lined_all : (s : Scope) (es : TypedExprs) (m : ℕ) (rest : List Item) → SoundExprs s es → A rest
        → A (all_values es m rest)
    lined_all s TypedExprs.End m rest h a = a
    lined_all s (TypedExprs.More x es) m rest h a = (lined s x m h.0).value _ (lined_all s es (m + nodes x) rest h.1 a)

  -- ---- statements

  lined_zeros : (some c n k : ℕ) (line : Option ℕ) (rest : List Item) → Adds line → A rest
      → A (zeros some c n k line rest)
  lined_zeros zero c n k line rest l a = a
  lined_zeros (suc some) c n k line rest l a =
      act _ _ _ tt (act _ _ _ tt (act _ _ _ l (act _ _ _ tt (lined_zeros some c n (suc k) None rest tt a))))

  lined_elements : (s : Scope) (t : IntType) (es : List TypedExpr) (m c n k : ℕ) (line : Option ℕ) (rest : List Item)
      → Each (SoundAt s t) es → Adds line → A rest → A (elements es m c n k line rest)
  lined_elements s t [] m c n k line rest h l a = lined_zeros (n - k) c n k line rest l a
  lined_elements s t (e ∷ es) m c n k line rest h l a =
      act _ _ _ tt ((lined s e m h.0.1).value _ (act _ _ _ l (act _ _ _ tt
      (lined_elements s t es (m + nodes e) c n (suc k) None rest h.1 tt a))))

  lined_init : (s : Scope) (v : TypedVar) (t : IntType) (n : Option ℕ) (init : TypedInit) (m : ℕ) (rest : List Item)
      → SoundInit s t n init → IsLine v.line → A rest → A (initialised v init m rest)
  lined_init s v t n TypedInit.Absent m rest h l a = a
  lined_init s v t None (TypedInit.One e) m rest h l a = (lined s e m h.1).value _ (act _ _ _ l (act _ _ _ tt a))
  lined_init s v t (Some n) (TypedInit.One e) m rest h l a = absurd h
  lined_init s v t None (TypedInit.Several es) m rest h l a = absurd h
  lined_init s v t (Some n) (TypedInit.Several es) m rest h l a =
      lined_elements s t es m v.cell (size v) 0 (Some v.line) rest h.2 l a

  lined_vars : (s : Scope) (vs : List TypedVar) (m : ℕ) (rest : List Item) → SoundVars s vs → A rest
      → A (declarations vs m rest)
  lined_vars s [] m rest h a = a
  lined_vars s (v ∷ vs) m rest h a =
      lined_init (with_one s v) v v.number_type v.length v.init m _ h.0.init h.0.line
      (lined_vars (with_one s v) vs (m + init_nodes v.init) rest h.1 a)

  lined_value_if : (s : Scope) (e : Option TypedExpr) (m : ℕ) (rest : List Item) → SoundReturn s e → A rest
      → A (value_if e m rest)
  lined_value_if s None m rest h a = a
  lined_value_if s (Some e) m rest h a = (lined s e m h.2).value rest a

  lined_tested : (s : Scope) (e : Option TypedExpr) (m : ℕ) (t f : Name) (rest : List Item) → SoundTest s e → A rest
      → A (tested e m t f rest)
  lined_tested s None m t f rest h a = a
  lined_tested s (Some e) m t f rest h a = (lined s e m h.2).test t f _ (begin _ _ _ tt a)

  lined_stepped : (s : Scope) (e : Option TypedExpr) (m : ℕ) (u : Name) (rest : List Item) → SoundIf s e → A rest
      → A (stepped e m u rest)
  lined_stepped s None m u rest h a = a
  lined_stepped s (Some e) m u rest h a = begin _ _ _ tt ((lined s e m h.1).value _ (lined_dropped (base_of e) rest a))

  lined_label : (g : Option Name) (m : ℕ) (rest : List Item) → A rest → A (labelled g m rest)
  lined_label None m rest a = begin _ _ _ tt a
  lined_label (Some g) m rest a = a

  mutual
    -- a statement adds lines of the source
    lined_code : (s : Scope) (i : Inside) (t : TypedStmt) (m : ℕ) (b k : Close) (rest : List Item) → SoundStmt s i t
        → A rest → A (code t m b k rest)
    lined_code s i (TypedStmt.Vars vars) m b k rest h a = lined_vars s vars (suc m) rest h.1 a
    lined_code s i (TypedStmt.Block ss) m b k rest h a = lined_codes s i ss (suc m) b k rest h a
    lined_code s i TypedStmt.Empty m b k rest h a = a
    lined_code s i (TypedStmt.Value e) m b k rest h a =
        (lined s e (suc m) h.1).value _ (lined_dropped (base_of e) rest a)
    lined_code s i (TypedStmt.If c t OtherTyped.Nothing) m b k rest h a =
        (lined s c (suc m) h.0.2).test _ _ _ (begin _ _ _ tt
        (lined_code s i t (suc m + nodes c) b k _ h.1 (begin _ _ _ tt a)))
    lined_code s i (TypedStmt.If c t (OtherTyped.There u)) m b k rest h a =
        (lined s c (suc m) h.0.2).test _ _ _ (begin _ _ _ tt (lined_code s i t (suc m + nodes c) b k _ h.1
        (finish _ _ _ tt (begin _ _ _ tt (lined_code s i u (suc m + nodes c + stmt_nodes t) b k _ h.2
        (begin _ _ _ tt a))))))
    lined_code s i (TypedStmt.While c t) m b k rest h a =
        begin _ _ _ tt ((lined s c (suc m) h.0.2).test _ _ _
        (begin _ _ _ tt (lined_code s looped t (suc m + nodes c) _ _ _ h.1 (finish _ _ _ tt (begin _ _ _ tt a)))))
    lined_code s i (TypedStmt.DoWhile t c line) m b k rest h a =
        begin _ _ _ tt (lined_code s looped t (suc m) _ _ _ h.0
        (begin _ _ _ tt ((lined s c (suc m + stmt_nodes t) h.1.2).test _ _ _
        (begin _ _ _ h.2 (finish _ _ _ tt (begin _ _ _ tt a))))))
    lined_code s i (TypedStmt.For (TypedForHead.Head first test step) t) m b k rest h a =
        let n : ℕ = suc m + other_nodes first in
        let over : Scope = behind_first s first in
        lined_other s i first (suc m) b k _ h.0.1 (begin _ _ _ tt (lined_tested over test n _ _ _ h.0.2
        (lined_code over looped t (n + nodes_if test) _ _ _ h.1
        (lined_stepped over step (n + nodes_if test + stmt_nodes t) _ _ h.0.3 (finish _ _ _ tt (begin _ _ _ tt a))))))
    lined_code s i (TypedStmt.Switch e is) m b k rest h a =
        (lined s e (suc m) h.1).value _ (finish _ _ _ tt (lined_items s (record {
          breaks =
              true;
          continues = i.continues;
        }) (base_of e)
        is (suc m + nodes e) None _ k _ h.4 (begin _ _ _ tt a)))
    lined_code s i (TypedStmt.Break place line) m b k rest h a = finish _ _ _ h.1 a
    lined_code s i (TypedStmt.Continue place line) m b k rest h a = finish _ _ _ h.1 a
    lined_code s i (TypedStmt.Return e place line) m b k rest h a =
        lined_value_if s e (suc m) _ h.1 (finish _ _ _ h.0 a)

    lined_other : (s : Scope) (i : Inside) (t : OtherTyped) (m : ℕ) (b k : Close) (rest : List Item) → SoundOther s i t
        → A rest → A (code_other t m b k rest)
    lined_other s i OtherTyped.Nothing m b k rest h a = a
    lined_other s i (OtherTyped.There t) m b k rest h a = lined_code s i t m b k rest h a

    lined_codes : (s : Scope) (i : Inside) (ss : TypedStmts) (m : ℕ) (b k : Close) (rest : List Item) → SoundStmts s i
        ss
        → A rest → A (codes_of ss m b k rest)
    lined_codes s i TypedStmts.End m b k rest h a = a
    lined_codes s i (TypedStmts.More t ss) m b k rest h a =
        lined_code s i t m b k _ h.0 (lined_codes (behind s t) i ss (m + stmt_nodes t) b k rest h.1 a)

    lined_items : (s : Scope) (i : Inside) (ty : Base) (is : TypedItems) (m : ℕ) (g : Option Name) (b k : Close)
        (rest : List Item) → SoundItems s i ty is → A rest → A (code_items is m g b k rest)
    lined_items s i ty TypedItems.Last m g b k rest h a = a
    lined_items s i ty (TypedItems.Further (TypedItem.Case n place) is) m g b k rest h a =
        lined_label g m _ (lined_items s i ty is (suc m) (Some (group_at g m)) b k rest h.1 a)
    lined_items s i ty (TypedItems.Further (TypedItem.Default place) is) m g b k rest h a =
        lined_label g m _ (lined_items s i ty is (suc m) (Some (group_at g m)) b k rest h.1 a)
    lined_items s i ty (TypedItems.Further (TypedItem.Item t) is) m g b k rest h a =
        lined_code s i t m b k _ h.0 (lined_items (behind s t) i ty is (m + stmt_nodes t) None b k rest h.1 a)

-- ---- blocks

-- each block's lines ascend, and are lines of a source
abbrev BlocksLined : List Named → Type 0
BlocksLined bs = Each (λ b. HasLines b.lines) bs

with_added : (line : Option ℕ) (ls : List ℕ) → Adds line → HasLines ls → HasLines (add_line line ls)
with_added None ls l h = h
with_added (Some n) ls l h =
    record { ascend = ascends-with n ls h.ascend; are_lines = each_with IsLine n ls l h.are_lines }

no_lines : HasLines []
no_lines = record { ascend = tt; are_lines = tt }

left_lined : (c : Close) (line : Option ℕ) (later : List Named) → Adds line → BlocksLined later
    → BlocksLined (left_out c line later)
left_lined (Close.Jump l) line later added h = h
left_lined (Close.Back l) line later added h = h
left_lined (Close.Branch t f) line later added h = (with_added line [] added no_lines, h)
left_lined (Close.Select cases default) line later added h = (with_added line [] added no_lines, h)
left_lined (Close.CallTo f at l) line later added h = (with_added line [] added no_lines, h)
left_lined Close.Leave line later added h = (with_added line [] added no_lines, h)
left_lined Close.Quit line later added h = (with_added line [] added no_lines, h)

mutual
  opened_lined : (gives : Bool) (is : List Item) → Lined is
      → HasLines (opened gives is).lines × BlocksLined (opened gives is).later
  opened_lined true [] h = (no_lines, tt)
  opened_lined false [] h = (no_lines, tt)
  opened_lined gives (Item.Begin l line ∷ is) h =
      let more = opened_lined gives is h.1 in (no_lines, (with_added line _ h.0 more.0, more.1))
  opened_lined gives (Item.Do o line ∷ is) h =
      let more = opened_lined gives is h.1 in (with_added line _ h.0 more.0, more.1)
  opened_lined gives (Item.End c line ∷ is) h = (with_added line [] h.0 no_lines, shut_lined gives is h.1)

  shut_lined : (gives : Bool) (is : List Item) → Lined is → BlocksLined (shut gives is)
  shut_lined gives [] h = tt
  shut_lined gives (Item.Begin l line ∷ is) h =
      let more = opened_lined gives is h.1 in (with_added line _ h.0 more.0, more.1)
  shut_lined gives (Item.Do o line ∷ is) h =
      let more = opened_lined gives is h.1 in (with_added line _ h.0 more.0, more.1)
  shut_lined gives (Item.End c line ∷ is) h = left_lined c line (shut gives is) h.0 (shut_lined gives is h.1)

-- what is so of each of a list is so of one
one_lined : (f : Named → Block) → ((b : Named) → (f b).lines ≡ b.lines) → (bs : List Named) (k : ℕ) (b : Block)
    → BlocksLined bs → slice_get (map f bs) k ≡ Some b → HasLines b.lines
one_lined f keeps [] k b h e = absurd (none-some b e)
one_lined f keeps (n ∷ bs) zero b h e =
    subst (λ (b : Block). HasLines b.lines) (same_Some (f n) b e) (subst HasLines (sym (keeps n)) h.0)
one_lined f keeps (n ∷ bs) (suc k) b h e = one_lined f keeps bs k b h.1 e

-- The lines of each block of a sound source's graphs ascend, and are lines of the source.
pub lines_stand : (source : Typed) → Sound source → (g : Graph) (b : Block) → IsBlockOf source g b → HasLines b.lines
lines_stand source sound g b at =
    let found = text_found source.functions at.function g at.graph in
    let same : graph_of found.0 ≡ g =
    same_Some (graph_of found.0) g (sym (graph_found source.functions at.function found.0 found.1) ∙ at.graph) in
    let own : slice_get (graph_of found.0).blocks at.place ≡ Some b =
    subst (λ (g : Graph). slice_get g.blocks at.place ≡ Some b) (sym same) at.block in
    let text : TypedFunction = found.0 in
    let whole = each_at (SoundFunction source.functions (standing cell.Global 0 sound.global_lengths)
    sound.global_types (length source.globals)) source.functions at.function text sound.functions found.1 in
    let made = opened_lined (gives_number text.result) (items_of text)
    (lined_codes Lined (λ l line is added a. (added, a))
    (λ o line is added a. (added, a)) (λ c line is added a. (added, a)) _ _ text.body 0 Close.Leave Close.Leave []
    whole.body tt) in
    one_lined (block_of (number_from 2 (named_blocks text))) (λ b. refl) (named_blocks text) at.place b
    (with_added (Some text.line) _ whole.line made.0, made.1) own
