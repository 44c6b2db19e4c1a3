-- Where nothing is alive, and nothing was seen that begins in a statement, all goes well in it.
use Rattle.std.proofs.Common.{◌≡◌, refl, ℕ, suc, ◌+◌, ◌<◌, ◌≤◌, Bool, false, List, ◌∷◌, Option, Some, None, arith}
use Rattle.std.proofs.Common.{◌⊎◌, inl, inr}
use Rattle.c_tree.specs.declared.expr.Base.{Base}
use Rattle.c_tree.specs.TypedExpr.{TypedExpr}
use Rattle.c_tree.specs.TypedStmt.{TypedStmt, OtherTyped, TypedForHead, TypedStmts, TypedItem, TypedItems}
use Rattle.c_tree.specs.TypedParts.{base_of}
use Rattle.c_tree.specs.Sound.{Scope, Inside, SoundStmt, SoundOther, SoundStmts, SoundItems, behind}
use Rattle.c_tree.specs.Sound.{behind_first, looped}
use Rattle.c_lower.specs.Items.{Name, Close, Item, at, body_of, else_of, test_of, again_of, head_of, label_of}
use Rattle.c_lower.specs.Items.{step_of, end_of, nodes, nodes_if, stmt_nodes, other_nodes, stmts_nodes, items_nodes}
use Rattle.c_lower.specs.Items.{ways, dropped, group_at, cases_of, default_of, labelled, tested, stepped}
use Rattle.c_lower.specs.Items.{continues_to, code, code_other, codes_of, code_items}
use Rattle.orderly_units.proofs.Putting.{GoesOn, puts_value, puts_test, puts_dropped, puts_vars, puts_value_if}
use Rattle.orderly_units.proofs.Putting.{puts_tested, puts_stepped}
use Rattle.orderly_units.proofs.CaseNumbers.{cases_numbers}
use Rattle.orderly_units.proofs.Alive.{OnBack, HaveNumbers, Dead, dead_begin, dead_head, dead_act, dead_end, dead_more}
use Rattle.orderly_units.proofs.Alive.{on_targets, on_numbers, back_target}

module _ (seen : Name → Bool) where
  abbrev Unseen : Name → Type 0
  Unseen l = seen l ≡ false

  -- no name of these nodes was seen
  abbrev Own : ℕ → ℕ → Type 0
  Own m n = (l : Name) → m ≤ l.node → l.node < n → seen l ≡ false

  behind_node : (m n k : ℕ) → Own m n → m ≤ k → Own k n
  behind_node m n k own le l low high = own l (omega (arith, le, low)) high

  -- where `break` and `continue` go
  abbrev Fine : (Name → Type 0) → Close → Type 0
  Fine W c = OnBack W c × HaveNumbers c

  module _ (W : Name → Type 0) where
    goes_on : (c : Close) (line : Option ℕ) (is : List Item) → GoesOn Unseen c → Dead seen W is
        → Dead seen W (Item.End c line ∷ is)
    goes_on c line is h a =
        dead_end seen W c line is (back_target Unseen W c (on_targets Unseen W c h)) (on_numbers Unseen c h) a

    dead_value : (e : TypedExpr) (m n : ℕ) → m + nodes e ≤ n → Own m n → (rest : List Item) → Dead seen W rest
        → Dead seen W ((ways e m).value rest)
    dead_value e m n le own rest a =
        puts_value (Dead seen W) Unseen (dead_begin seen W) (dead_act seen W) goes_on e m n le own rest a

    dead_test : (e : TypedExpr) (m n : ℕ) → m + nodes e ≤ n → Own m n → (t f : Name) (rest : List Item) → Unseen t
        → Unseen f → Dead seen W rest → Dead seen W ((ways e m).test t f rest)
    dead_test e m n le own t f rest bt bf a =
        puts_test (Dead seen W) Unseen (dead_begin seen W) (dead_act seen W) goes_on e m n le own t f rest bt bf a

    dead_dropped : (b : Base) (rest : List Item) → Dead seen W rest → Dead seen W (dropped b rest)
    dead_dropped b rest a =
        puts_dropped (Dead seen W) Unseen (dead_begin seen W) (dead_act seen W) goes_on b rest a

    dead_tested : (e : Option TypedExpr) (m n : ℕ) → m + nodes_if e ≤ n → Own m n → (t f : Name) (rest : List Item)
        → Unseen t → Unseen f → Dead seen W rest → Dead seen W (tested e m t f rest)
    dead_tested e m n le own t f rest bt bf a =
        puts_tested (Dead seen W) Unseen (dead_begin seen W) (dead_act seen W) goes_on e m n le own t f rest bt bf a

    dead_stepped : (e : Option TypedExpr) (m n : ℕ) → m + nodes_if e ≤ n → Own m n → (u : Name) (rest : List Item)
        → Unseen u → Dead seen W rest → Dead seen W (stepped e m u rest)
    dead_stepped e m n le own u rest bu a =
        puts_stepped (Dead seen W) Unseen (dead_begin seen W) (dead_act seen W) goes_on e m n le own u rest bu a

    dead_label : (g : Option Name) (m : ℕ) (rest : List Item) → Unseen (label_of m) → Dead seen W rest
        → Dead seen W (labelled g m rest)
    dead_label None m rest own a = dead_begin seen W (label_of m) None rest own a
    dead_label (Some g) m rest own a = a

  -- where `continue` goes in a `for`
  continues_fine : (W : Name → Type 0) (step : Option TypedExpr) (u h : Name) → W h → Fine W (continues_to step u h)
  continues_fine W None u h w = (w, tt)
  continues_fine W (Some e) u h w = (tt, tt)

  -- what follows the first part of a `for`, where all goes well in its body
  from_head : (W : Name → Type 0) (test step : Option TypedExpr) (s : TypedStmt) (m j n : ℕ) (rest : List Item)
      → j + nodes_if test + stmt_nodes s + nodes_if step ≤ n → ((part : ℕ) → Unseen (at m part)) → Own j n
      → ((after : List Item) → Dead seen (λ l. W l ⊎ (l ≡ head_of m)) after
      → Dead seen (λ l. W l ⊎ (l ≡ head_of m)) (code s (j + nodes_if test) (Close.Jump (end_of m))
      (continues_to step (step_of m) (head_of m)) after))
      → Dead seen W rest
      → Dead seen W (Item.Begin (head_of m) None ∷ tested test j (body_of m) (end_of m)
      (code s (j + nodes_if test) (Close.Jump (end_of m)) (continues_to step (step_of m) (head_of m))
      (stepped step (j + nodes_if test + stmt_nodes s) (step_of m)
      (Item.End (Close.Back (head_of m)) None ∷ Item.Begin (end_of m) None ∷ rest))))
  from_head W test step s m j n rest le mine own body a =
      let V : Name → Type 0 = λ l. W l ⊎ (l ≡ head_of m) in
      let q : ℕ = j + nodes_if test + stmt_nodes s in
      dead_head seen W (head_of m) None _ (mine 5)
      (dead_tested V test j n (omega (arith, le)) own (body_of m) (end_of m) _ (mine 0) (mine 14)
      (body _ (dead_stepped V step q n le (behind_node j n q own (omega arith)) (step_of m) _ (mine 11)
      (dead_end seen V (Close.Back (head_of m)) None _ (inr refl) tt (dead_begin seen V (end_of m) None rest (mine 14)
      (dead_more seen W V rest (λ l w. inl w) a))))))

  mutual
    pub dead_code : (sc : Scope) (i : Inside) (W : Name → Type 0) (s : TypedStmt) (m n : ℕ) (b k : Close)
        (rest : List Item) → SoundStmt sc i s → m + stmt_nodes s ≤ n → Own m n → Fine W b → Fine W k
        → Dead seen W rest → Dead seen W (code s m b k rest)
    dead_code sc i W (TypedStmt.Vars vars) m n b k rest sound le own fb fk a =
        puts_vars (Dead seen W) Unseen (dead_begin seen W) (dead_act seen W) (goes_on W) vars (suc m) n
        (omega (arith, le)) (behind_node m n (suc m) own (omega arith)) rest a
    dead_code sc i W (TypedStmt.Block ss) m n b k rest sound le own fb fk a =
        dead_codes sc i W ss (suc m) n b k rest sound (omega (arith, le)) (behind_node m n (suc m) own (omega arith))
        fb fk a
    dead_code sc i W TypedStmt.Empty m n b k rest sound le own fb fk a = a
    dead_code sc i W (TypedStmt.Value e) m n b k rest sound le own fb fk a =
        dead_value W e (suc m) n (omega (arith, le)) (behind_node m n (suc m) own (omega arith)) _
        (dead_dropped W (base_of e) rest a)
    dead_code sc i W (TypedStmt.If c s OtherTyped.Nothing) m n b k rest sound le own fb fk a =
        let body : Unseen (body_of m) = own (body_of m) (omega arith) (omega (arith, le)) in
        let end : Unseen (end_of m) = own (end_of m) (omega arith) (omega (arith, le)) in
        dead_test W c (suc m) n (omega (arith, le)) (behind_node m n (suc m) own (omega arith)) (body_of m)
        (end_of m) _ body end (dead_begin seen W (body_of m) None _ body
        (dead_code sc i W s (suc m + nodes c) n b k _ sound.1 (omega (arith, le))
        (behind_node m n (suc m + nodes c) own (omega arith)) fb fk (dead_begin seen W (end_of m) None rest end a)))
    dead_code sc i W (TypedStmt.If c s (OtherTyped.There t)) m n b k rest sound le own fb fk a =
        let body : Unseen (body_of m) = own (body_of m) (omega arith) (omega (arith, le)) in
        let other : Unseen (else_of m) = own (else_of m) (omega arith) (omega (arith, le)) in
        let end : Unseen (end_of m) = own (end_of m) (omega arith) (omega (arith, le)) in
        let j : ℕ = suc m + nodes c in
        let p : ℕ = suc m + nodes c + stmt_nodes s in
        dead_test W c (suc m) n (omega (arith, le)) (behind_node m n (suc m) own (omega arith)) (body_of m)
        (else_of m) _ body other (dead_begin seen W (body_of m) None _ body
        (dead_code sc i W s j n b k _ sound.1 (omega (arith, le)) (behind_node m n j own (omega arith)) fb fk
        (dead_end seen W (Close.Jump (end_of m)) None _ tt tt (dead_begin seen W (else_of m) None _ other
        (dead_code sc i W t p n b k _ sound.2 (omega (arith, le)) (behind_node m n p own (omega arith)) fb fk
        (dead_begin seen W (end_of m) None rest end a))))))
    dead_code sc i W (TypedStmt.While c s) m n b k rest sound le own fb fk a =
        let V : Name → Type 0 = λ l. W l ⊎ (l ≡ head_of m) in
        let head : Unseen (head_of m) = own (head_of m) (omega arith) (omega (arith, le)) in
        let body : Unseen (body_of m) = own (body_of m) (omega arith) (omega (arith, le)) in
        let end : Unseen (end_of m) = own (end_of m) (omega arith) (omega (arith, le)) in
        let j : ℕ = suc m + nodes c in
        dead_head seen W (head_of m) None _ head
        (dead_test V c (suc m) n (omega (arith, le)) (behind_node m n (suc m) own (omega arith)) (body_of m)
        (end_of m) _ body end (dead_begin seen V (body_of m) None _ body
        (dead_code sc looped V s j n (Close.Jump (end_of m)) (Close.Back (head_of m)) _ sound.1 (omega (arith, le))
        (behind_node m n j own (omega arith)) (tt, tt) (inr refl, tt)
        (dead_end seen V (Close.Back (head_of m)) None _ (inr refl) tt (dead_begin seen V (end_of m) None rest end
        (dead_more seen W V rest (λ l w. inl w) a))))))
    dead_code sc i W (TypedStmt.DoWhile s c line) m n b k rest sound le own fb fk a =
        let V : Name → Type 0 = λ l. W l ⊎ (l ≡ body_of m) in
        let body : Unseen (body_of m) = own (body_of m) (omega arith) (omega (arith, le)) in
        let test : Unseen (test_of m) = own (test_of m) (omega arith) (omega (arith, le)) in
        let again : Unseen (again_of m) = own (again_of m) (omega arith) (omega (arith, le)) in
        let end : Unseen (end_of m) = own (end_of m) (omega arith) (omega (arith, le)) in
        let j : ℕ = suc m + stmt_nodes s in
        dead_head seen W (body_of m) None _ body
        (dead_code sc looped V s (suc m) n (Close.Jump (end_of m)) (Close.Jump (test_of m)) _ sound.0
        (omega (arith, le)) (behind_node m n (suc m) own (omega arith)) (tt, tt) (tt, tt)
        (dead_begin seen V (test_of m) None _ test
        (dead_test V c j n (omega (arith, le)) (behind_node m n j own (omega arith)) (again_of m) (end_of m) _ again end
        (dead_begin seen V (again_of m) (Some line) _ again
        (dead_end seen V (Close.Back (body_of m)) None _ (inr refl) tt (dead_begin seen V (end_of m) None rest end
        (dead_more seen W V rest (λ l w. inl w) a)))))))
    dead_code sc i W (TypedStmt.For (TypedForHead.Head first test step) s) m n b k rest sound le own fb fk a =
        let V : Name → Type 0 = λ l. W l ⊎ (l ≡ head_of m) in
        let j : ℕ = suc m + other_nodes first in
        let p : ℕ = j + nodes_if test in
        dead_other sc i W first (suc m) n b k _ sound.0.1 (omega (arith, le))
        (behind_node m n (suc m) own (omega arith)) fb fk
        (from_head W test step s m j n rest (omega (arith, le))
        (λ part. own (at m part) (omega arith) (omega (arith, le))) (behind_node m n j own (omega arith))
        (λ after h. dead_code (behind_first sc first) looped V s p n
        (Close.Jump (end_of m)) (continues_to step (step_of m) (head_of m)) after sound.1 (omega (arith, le))
        (behind_node m n p own (omega arith)) (tt, tt) (continues_fine V step (step_of m) (head_of m) (inr refl)) h) a)
    dead_code sc i W (TypedStmt.Switch e is) m n b k rest sound le own fb fk a =
        let end : Unseen (end_of m) = own (end_of m) (omega arith) (omega (arith, le)) in
        let j : ℕ = suc m + nodes e in
        dead_value W e (suc m) n (omega (arith, le)) (behind_node m n (suc m) own (omega arith)) _
        (dead_end seen W (Close.Select (cases_of is j None) (default_of is j None (end_of m))) None _ tt
        (cases_numbers sc _ (base_of e) is j None sound.4)
        (dead_items sc _ W (base_of e) is j n None (Close.Jump (end_of m)) k _ sound.4 (omega (arith, le))
        (behind_node m n j own (omega arith)) (tt, tt) fk (dead_begin seen W (end_of m) None rest end a)))
    dead_code sc i W (TypedStmt.Break place line) m n b k rest sound le own fb fk a =
        dead_end seen W b (Some line) rest fb.0 fb.1 a
    dead_code sc i W (TypedStmt.Continue place line) m n b k rest sound le own fb fk a =
        dead_end seen W k (Some line) rest fk.0 fk.1 a
    dead_code sc i W (TypedStmt.Return e place line) m n b k rest sound le own fb fk a =
        puts_value_if (Dead seen W) Unseen (dead_begin seen W) (dead_act seen W) (goes_on W) e (suc m) n
        (omega (arith, le)) (behind_node m n (suc m) own (omega arith)) _
        (dead_end seen W Close.Leave (Some line) rest tt tt a)

    dead_other : (sc : Scope) (i : Inside) (W : Name → Type 0) (s : OtherTyped) (m n : ℕ) (b k : Close)
        (rest : List Item) → SoundOther sc i s → m + other_nodes s ≤ n → Own m n → Fine W b → Fine W k
        → Dead seen W rest → Dead seen W (code_other s m b k rest)
    dead_other sc i W OtherTyped.Nothing m n b k rest sound le own fb fk a = a
    dead_other sc i W (OtherTyped.There s) m n b k rest sound le own fb fk a =
        dead_code sc i W s m n b k rest sound le own fb fk a

    dead_codes : (sc : Scope) (i : Inside) (W : Name → Type 0) (ss : TypedStmts) (m n : ℕ) (b k : Close)
        (rest : List Item) → SoundStmts sc i ss → m + stmts_nodes ss ≤ n → Own m n → Fine W b → Fine W k
        → Dead seen W rest → Dead seen W (codes_of ss m b k rest)
    dead_codes sc i W TypedStmts.End m n b k rest sound le own fb fk a = a
    dead_codes sc i W (TypedStmts.More s ss) m n b k rest sound le own fb fk a =
        dead_code sc i W s m n b k _ sound.0 (omega (arith, le)) own fb fk
        (dead_codes (behind sc s) i W ss (m + stmt_nodes s) n b k rest sound.1 (omega (arith, le))
        (behind_node m n (m + stmt_nodes s) own (omega arith)) fb fk a)

    dead_items : (sc : Scope) (i : Inside) (W : Name → Type 0) (t : Base) (is : TypedItems) (m n : ℕ)
        (g : Option Name) (b k : Close) (rest : List Item) → SoundItems sc i t is → m + items_nodes is ≤ n → Own m n
        → Fine W b → Fine W k → Dead seen W rest → Dead seen W (code_items is m g b k rest)
    dead_items sc i W t TypedItems.Last m n g b k rest sound le own fb fk a = a
    dead_items sc i W t (TypedItems.Further (TypedItem.Case v place) is) m n g b k rest sound le own fb fk a =
        dead_label W g m _ (own (label_of m) (omega arith) (omega (arith, le)))
        (dead_items sc i W t is (suc m) n (Some (group_at g m)) b k rest sound.1 (omega (arith, le))
        (behind_node m n (suc m) own (omega arith)) fb fk a)
    dead_items sc i W t (TypedItems.Further (TypedItem.Default place) is) m n g b k rest sound le own fb fk a =
        dead_label W g m _ (own (label_of m) (omega arith) (omega (arith, le)))
        (dead_items sc i W t is (suc m) n (Some (group_at g m)) b k rest sound.1 (omega (arith, le))
        (behind_node m n (suc m) own (omega arith)) fb fk a)
    dead_items sc i W t (TypedItems.Further (TypedItem.Item s) is) m n g b k rest sound le own fb fk a =
        dead_code sc i W s m n b k _ sound.0 (omega (arith, le)) own fb fk
        (dead_items (behind sc s) i W t is (m + stmt_nodes s) n None b k rest sound.1 (omega (arith, le))
        (behind_node m n (m + stmt_nodes s) own (omega arith)) fb fk a)

  -- all goes well in what follows the first part of a `for`
  pub dead_round : (sc : Scope) (W : Name → Type 0) (test step : Option TypedExpr) (s : TypedStmt) (m j n : ℕ)
      (rest : List Item) → SoundStmt sc looped s → j + nodes_if test + stmt_nodes s + nodes_if step ≤ n
      → ((part : ℕ) → Unseen (at m part)) → Own j n → Dead seen W rest
      → Dead seen W (Item.Begin (head_of m) None ∷ tested test j (body_of m) (end_of m)
      (code s (j + nodes_if test) (Close.Jump (end_of m)) (continues_to step (step_of m) (head_of m))
      (stepped step (j + nodes_if test + stmt_nodes s) (step_of m)
      (Item.End (Close.Back (head_of m)) None ∷ Item.Begin (end_of m) None ∷ rest))))
  dead_round sc W test step s m j n rest sound le mine own a =
      let V : Name → Type 0 = λ l. W l ⊎ (l ≡ head_of m) in
      let p : ℕ = j + nodes_if test in
      from_head W test step s m j n rest le mine own (λ after h. dead_code sc looped V s p n (Close.Jump (end_of m))
      (continues_to step (step_of m) (head_of m)) after sound (omega (arith, le)) (behind_node j n p own (omega arith))
      (tt, tt) (continues_fine V step (step_of m) (head_of m) (inr refl)) h) a
