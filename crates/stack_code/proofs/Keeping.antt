-- The code of an ending keeps the rules.
use Rattle.std.proofs.Common.{◌≡◌, refl, sym, ap, subst, ◌∙◌, ℕ, suc, ◌+◌, ◌-◌, ◌<◌, ◌≤◌, ◌==◌, ◌⊎◌, inl, inr}
use Rattle.std.proofs.Common.{Bool, true, false, cond, List, [], ◌∷◌, ◌++◌, length, Some, arith}
use Rattle.std.proofs.Common.{length-append, eqb-true, eq-eqb}
use Rattle.std.specs.Prelude.{ℤ, ◌||◌, slice_get}
use Rattle.std.proofs.lemmas.Bool.{cases_lt}
use Rattle.stack_ops.specs.declared.operation.Op.{Op}
use Rattle.stack_ops.specs.declared.operation.Op.TheVariants as op
use Rattle.stack_ops.specs.Code.{FunctionValue, CodeValue}
use Rattle.c_tree.specs.Sound.{Each}
use Rattle.flow_graph.proofs.LineLaws.{each_with}
use Rattle.flow_graph.specs.Graph.{Ending}
use Rattle.flow_graph.specs.Nets.{among}
use Rattle.stack_code.specs.Checked.{Marks}
use Rattle.stack_code.specs.Laying.{is_bare, tail, stub, land, goals, stubs, stub_at, tests, branch}
use Rattle.stack_code.proofs.Aims.{Aims, each_among}
use Rattle.stack_code.proofs.Every.{Every, every_join}
use Rattle.stack_code.proofs.LaidLaws.{AllIn, goals_all, stub_size, size_tests}
use Rattle.stack_code.proofs.Suiting.{Kept_at, mark_kept, jump_kept, zero_kept, case_kept, drop_kept}

-- instructions from a place on have so many operands
abbrev pub Level : List ℕ → ℕ → ℕ → ℕ → Type 0
Level ds at n d = (i : ℕ) → i < n → slice_get ds (at + i) ≡ Some d

pub level_part : (ds : List ℕ) (at n d from m : ℕ) → from + m ≤ n → Level ds at n d → Level ds (at + from) m d
level_part ds at n d from m le h i lt =
    let e : at + (from + i) ≡ at + from + i = omega arith in
    subst (λ x. slice_get ds x ≡ Some d) e (h (from + i) (omega (arith, lt, le)))

pub level_first : (ds : List ℕ) (at n d : ℕ) → 0 < n → Level ds at n d → slice_get ds at ≡ Some d
level_first ds at n d lt h = let e : at + 0 ≡ at = omega arith in subst (λ x. slice_get ds x ≡ Some d) e (h 0 lt)

pub level_moved : (ds : List ℕ) (at to n m d : ℕ) → at ≡ to → n ≡ m → Level ds at n d → Level ds to m d
level_moved ds at to n m d e k h i lt =
    let same : at + i ≡ to + i = omega (arith, e) in
    subst (λ x. slice_get ds x ≡ Some d) same (h i (omega (arith, lt, k)))

-- a block's place has so many operands, and lies behind all of an ending
pub record Ahead (ds : List ℕ) (s : ℕ → ℕ) (end d t : ℕ) : Type 0 where
  pub at : slice_get ds (s t) ≡ Some d
  pub ahead : end ≤ s t

pub goals_have : (T : ℕ → Type 0) (cases : List (ℤ × ℕ)) (d : ℕ) → Aims T (Ending.Switch cases d) → Each T (goals cases)
goals_have T [] d h = tt
goals_have T (c ∷ cases) d h = each_with T c.1 (goals cases) h.0 (goals_have T cases d h.1)

pub default_has : (T : ℕ → Type 0) (cases : List (ℤ × ℕ)) (d : ℕ) → Aims T (Ending.Switch cases d) → T d
default_has T [] d h = h
default_has T (c ∷ cases) d h = default_has T cases d h.1

module _ (c : CodeValue) (f : FunctionValue) (ds : List ℕ) (m : ℕ → List Op) (s : ℕ → ℕ) (next : ℕ)
    (marked : (t : ℕ) → Marks f (m t)) where
  K : ℕ → Op → Type 0
  K = Kept_at c f ds

  pub marks_kept : (ms : List Op) (at d : ℕ) → Marks f ms → d ≤ f.depth → Level ds at (suc (length ms)) d
      → Every (Kept_at c f ds) at ms
  marks_kept [] at d ks deep h = tt
  marks_kept (o ∷ os) at d ks deep h =
      let one : at + 1 ≡ suc at = omega arith in (
        mark_kept c f ds at o d ks.0 deep (level_first ds at (suc (suc (length os))) d (omega arith) h)
            (subst (λ x. slice_get ds x ≡ Some d) one (h 1 (omega arith))),
        marks_kept os (suc at) d ks.1 deep
            (level_moved ds (at + 1) (suc at) (suc (length os)) (suc (length os)) d one refl
            (level_part ds at (suc (suc (length os))) d 1 (suc (length os)) (omega arith) h)),
      )

  -- the marks of an arc and a jump
  pub away_kept : (t at d : ℕ) → d ≤ f.depth → Level ds at (length (m t) + 1) d → slice_get ds (s t) ≡ Some d
      → at + length (m t) < s t → Every (Kept_at c f ds) at (m t ++ op.Jump (s t) ∷ [])
  away_kept t at d deep h to lt =
      every_join (Kept_at c f ds) at (m t) (op.Jump (s t) ∷ [])
      (marks_kept (m t) at d (marked t) deep
      (level_moved ds at at (length (m t) + 1) (suc (length (m t))) d refl (omega arith) h))
      (jump_kept c f ds (at + length (m t)) (s t) d lt deep (h (length (m t)) (omega arith)) to, tt)

  -- from the arc to a block on, up to the block where it is the next
  tail_level : (t at d : ℕ) → Level ds at (length (tail next (m t) t (s t))) d → slice_get ds (s t) ≡ Some d
      → (t ≡ next → at + length (m t) ≡ s t) → Level ds at (suc (length (m t))) d
  tail_level t at d h to falls i lt = by (t == next) refl h (cases_lt i (length (m t)))
    where
      by : (z : Bool) → (t == next) ≡ z → Level ds at (length (m t ++ cond z [] (op.Jump (s t) ∷ []))) d
          → (i < length (m t)) ⊎ (length (m t) ≤ i) → slice_get ds (at + i) ≡ Some d
      by z is h (inl less) =
          let n : length (m t ++ cond z [] (op.Jump (s t) ∷ [])) ≡ length (m t) + length
          (cond z [] (op.Jump (s t) ∷ [])) =
          length-append (m t) (cond z [] (op.Jump (s t) ∷ [])) in
          h i (omega (arith, less, n))
      by true is h (inr le) =
          let e : at + length (m t) ≡ s t = falls (eqb-true t next is) in
          let same : s t ≡ at + i = omega (arith, e, le, lt) in
          subst (λ x. slice_get ds x ≡ Some d) same to
      by false is h (inr le) =
          let n : length (m t ++ op.Jump (s t) ∷ []) ≡ length (m t) + 1 = length-append (m t) (op.Jump (s t) ∷ []) in
          h i (omega (arith, le, lt, n))

  pub tail_entry : (t at d : ℕ) → Level ds at (length (tail next (m t) t (s t))) d → slice_get ds (s t) ≡ Some d
      → (t ≡ next → at + length (m t) ≡ s t) → slice_get ds at ≡ Some d
  tail_entry t at d h to falls = level_first ds at (suc (length (m t))) d (omega arith) (tail_level t at d h to falls)

  pub tail_kept : (t at d : ℕ) → d ≤ f.depth → Level ds at (length (tail next (m t) t (s t))) d
      → slice_get ds (s t) ≡ Some d → (t ≡ next → at + length (m t) ≡ s t)
      → at + length (tail next (m t) t (s t)) ≤ s t → Every (Kept_at c f ds) at (tail next (m t) t (s t))
  tail_kept t at d deep h to falls ends =
      every_join (Kept_at c f ds) at (m t) (cond (t == next) [] (op.Jump (s t) ∷ []))
      (marks_kept (m t) at d (marked t) deep (tail_level t at d h to falls)) (by (t == next) h ends)
    where
      by : (z : Bool) → Level ds at (length (m t ++ cond z [] (op.Jump (s t) ∷ []))) d
          → at + length (m t ++ cond z [] (op.Jump (s t) ∷ [])) ≤ s t
          → Every (Kept_at c f ds) (at + length (m t)) (cond z [] (op.Jump (s t) ∷ []))
      by true h ends = tt
      by false h ends =
          let n : length (m t ++ op.Jump (s t) ∷ []) ≡ length (m t) + 1 = length-append (m t) (op.Jump (s t) ∷ []) in (
            jump_kept c f ds (at + length (m t)) (s t) d (omega (arith, ends, n)) deep
                (h (length (m t)) (omega (arith, n))) to,
            tt,
          )

  -- the stubs of a switch
  stub_kept : (t at d : ℕ) → d ≤ f.depth → (ms : List Op) → m t ≡ ms → Level ds at (length (stub ms (s t))) d
      → slice_get ds (s t) ≡ Some d → at + length (stub ms (s t)) ≤ s t → Every (Kept_at c f ds) at (stub ms (s t))
  stub_kept t at d deep [] is h to lt = tt
  stub_kept t at d deep (o ∷ os) is h to lt =
      let n : length ((o ∷ os) ++ op.Jump (s t) ∷ []) ≡ length (o ∷ os) + 1 =
      length-append (o ∷ os) (op.Jump (s t) ∷ []) in
      let k : length (o ∷ os) ≡ length (m t) = ap length (sym is) in
      subst (λ l. Every (Kept_at c f ds) at (l ++ op.Jump (s t) ∷ [])) is
      (away_kept t at d deep
      (level_moved ds at at (length ((o ∷ os) ++ op.Jump (s t) ∷ [])) (length (m t) + 1) d refl (omega (arith, n, k)) h)
      to (omega (arith, lt, n, k)))

  stubs_kept : (ts : List ℕ) (at d end : ℕ) → d ≤ f.depth → Each (Ahead ds s end d) ts
      → Level ds at (length (stubs m s ts)) d → at + length (stubs m s ts) ≤ end
      → Every (Kept_at c f ds) at (stubs m s ts)
  stubs_kept [] at d end deep all h le = tt
  stubs_kept (t ∷ ts) at d end deep all h le =
      let one : ℕ = length (stub (m t) (s t)) in
      let n : length (stub (m t) (s t) ++ stubs m s ts) ≡ one + length (stubs m s ts) =
      length-append (stub (m t) (s t)) (stubs m s ts) in
      let far : end ≤ s t = all.0.ahead in
      every_join (Kept_at c f ds) at (stub (m t) (s t)) (stubs m s ts)
      (stub_kept t at d deep (m t) refl
      (λ i lt. h i (omega (arith, lt, n))) all.0.at (omega (arith, far, le, n)))
      (stubs_kept ts (at + one) d end deep all.1
      (level_part ds at (length (stub (m t) (s t) ++ stubs m s ts)) d one (length (stubs m s ts)) (omega (arith, n)) h)
      (omega (arith, le, n)))

  -- where a case goes to
  record Landing (q d : ℕ) (t way : ℕ) : Type 0 where
    at : slice_get ds way ≡ Some d
    behind_q : q ≤ way

  stub_level : (ts : List ℕ) (q d t : ℕ) → among t ts ≡ true → 0 < length (stub (m t) 0)
      → Level ds q (length (stubs m s ts)) d → Landing q d t (stub_at m q ts t)
  stub_level [] q d t there some h = absurd (cc)
  stub_level (x ∷ ts) q d t there some h = by (t == x) refl there
      (λ a. stub_level ts (q + one) d t a some
      (λ i lt. (let e : q + (one + i) ≡ q + one + i = omega arith in
      subst (λ y. slice_get ds y ≡ Some d) e (h (one + i) (omega (arith, lt, n, same))))))
    where
      one : ℕ
      one = length (stub (m x) 0)

      same : length (stub (m x) 0) ≡ length (stub (m x) (s x))
      same = stub_size (m x) 0 (s x)

      n : length (stub (m x) (s x) ++ stubs m s ts) ≡ length (stub (m x) (s x)) + length (stubs m s ts)
      n = length-append (stub (m x) (s x)) (stubs m s ts)

      by : (z : Bool) → (t == x) ≡ z → (z || among t ts) ≡ true
          → (among t ts ≡ true → Landing (q + one) d t (stub_at m (q + one) ts t))
          → Landing q d t (cond z q (stub_at m (q + one) ts t))
      by true is a later =
          let e : t ≡ x = eqb-true t x is in
          let here : 0 < length (stub (m x) 0) = subst (λ y. 0 < length (stub (m y) 0)) e some in
          record {
            at = level_first ds q (length (stub (m x) (s x) ++ stubs m s ts)) d (omega (arith, here, n, same)) h;
            behind_q = omega arith;
          }
      by false is a later = let k = later a in let le : q + one ≤ stub_at m (q + one) ts t = k.behind_q in
          record { at = k.at; behind_q = omega (arith, le) }

  lands_at : (ts : List ℕ) (q d end t : ℕ) → among t ts ≡ true → Each (Ahead ds s end d) ts → q ≤ end
      → Level ds q (length (stubs m s ts)) d → Landing q d t (land (m t) (s t) (stub_at m q ts t))
  lands_at ts q d end t there all le h = by (m t) refl
    where
      by : (ms : List Op) → m t ≡ ms → Landing q d t (land ms (s t) (stub_at m q ts t))
      by [] is = let a : Ahead ds s end d t = each_among (Ahead ds s end d) ts t all there in
          let far : end ≤ s t = a.ahead in record { at = a.at; behind_q = omega (arith, far, le) }
      by (o ∷ os) is = stub_level ts q d t there
          (subst (λ l. 0 < length (stub l 0)) (sym is)
          (let n : length ((o ∷ os) ++ op.Jump 0 ∷ []) ≡ length (o ∷ os) + 1 =
          length-append (o ∷ os) (op.Jump 0 ∷ []) in
          omega (arith, n))) h

  tests_kept : (ts : List ℕ) (q e end : ℕ) → e ≤ f.depth → 1 ≤ e → Each (Ahead ds s end (e - 1)) ts → q ≤ end
      → Level ds q (length (stubs m s ts)) (e - 1) → (cases : List (ℤ × ℕ)) (at : ℕ) → AllIn ts cases
      → at + length cases < q → Level ds at (suc (length cases)) e → Every (Kept_at c f ds) at (tests m s q ts cases)
  tests_kept ts q e end deep one all le h [] at is lt here = tt
  tests_kept ts q e end deep one all le h (x ∷ cases) at is lt here =
      let l : Landing q (e - 1) x.1 (land (m x.1) (s x.1) (stub_at m q ts x.1)) =
      lands_at ts q (e - 1) end x.1 is.0 all le h in
      let far : q ≤ land (m x.1) (s x.1) (stub_at m q ts x.1) = l.behind_q in
      let k : at + 1 ≡ suc at = omega arith in (
        case_kept c f ds at (land (m x.1) (s x.1) (stub_at m q ts x.1)) e x.0 (omega (arith, far, lt)) one deep
            (level_first ds at (suc (suc (length cases))) e (omega arith) here) l.at
            (subst (λ y. slice_get ds y ≡ Some e) k (here 1 (omega arith))),
        tests_kept ts q e end deep one all le h cases (suc at) is.1 (omega (arith, lt))
            (level_moved ds (at + 1) (suc at) (suc (length cases)) (suc (length cases)) e k refl
            (level_part ds at (suc (suc (length cases))) e 1 (suc (length cases)) (omega arith) here)),
      )

  pub switch_kept : (cases : List (ℤ × ℕ)) (t at e end : ℕ) → e ≤ f.depth → 1 ≤ e
      → Aims (Ahead ds s end (e - 1)) (Ending.Switch cases t)
      → Level ds at (length cases + 1) e
      → Level ds (at + length cases + 1) (length (m t) + 1 + length (stubs m s (goals cases))) (e - 1)
      → at + length cases + 1 + (length (m t) + 1 + length (stubs m s (goals cases))) ≤ end
      → Every (Kept_at c f ds) at
      (tests m s (at + length cases + 1 + (length (m t) + 1)) (goals cases) cases
      ++ ((op.Drop ∷ (m t ++ op.Jump (s t) ∷ [])) ++ stubs m s (goals cases)))
  switch_kept cases t at e end deep one aims here there le =
      let ts : List ℕ = goals cases in
      let q : ℕ = at + length cases + 1 + (length (m t) + 1) in
      let rest : ℕ = length (stubs m s ts) in
      let all : Each (Ahead ds s end (e - 1)) ts = goals_have (Ahead ds s end (e - 1)) cases t aims in
      let d : Ahead ds s end (e - 1) t = default_has (Ahead ds s end (e - 1)) cases t aims in
      let far : end ≤ s t = d.ahead in
      let low : e - 1 ≤ f.depth = omega (arith, deep) in
      let sl : Level ds q rest (e - 1) =
      level_part ds (at + length cases + 1) (length (m t) + 1 + rest) (e - 1) (length (m t) + 1) rest
      (omega arith) there in
      let a : ℕ = at + length cases in
      let len : length (tests m s q ts cases) ≡ length cases = size_tests m s q ts cases in
      let drop_at : slice_get ds a ≡ Some e = here (length cases) (omega arith) in
      let k : a + 1 ≡ suc a = omega arith in
      let dl : Level ds (suc a) (length (m t) + 1) (e - 1) =
      (λ i lt. (let same : a + 1 + i ≡ suc a + i = omega arith in
      subst (λ y. slice_get ds y ≡ Some (e - 1)) same (there i (omega (arith, lt))))) in
      let first : slice_get ds (suc a) ≡ Some (e - 1) =
      level_first ds (suc a) (length (m t) + 1) (e - 1) (omega arith) dl in
      let default : Every (Kept_at c f ds) a (op.Drop ∷ (m t ++ op.Jump (s t) ∷ [])) = (
        drop_kept c f ds a e one deep drop_at first,
        away_kept t (suc a) (e - 1) low dl d.at (omega (arith, far, le)),
      ) in
      let size : length (m t ++ op.Jump (s t) ∷ []) ≡ length (m t) + 1 = length-append (m t) (op.Jump (s t) ∷ []) in
      let stub_place : q ≡ a + suc (length (m t ++ op.Jump (s t) ∷ [])) = omega (arith, size) in
      let behind_default : Every (Kept_at c f ds) a ((op.Drop ∷ (m t ++ op.Jump (s t) ∷ [])) ++ stubs m s ts) =
      every_join (Kept_at c f ds) a (op.Drop ∷ (m t ++ op.Jump (s t) ∷ [])) (stubs m s ts) default
      (subst (λ n. Every (Kept_at c f ds) n (stubs m s ts)) stub_place
      (stubs_kept ts q (e - 1) end low all sl (omega (arith, le)))) in
      every_join (Kept_at c f ds) at (tests m s q ts cases) ((op.Drop ∷ (m t ++ op.Jump (s t) ∷ [])) ++ stubs m s ts)
      (tests_kept ts q e end deep one all (omega (arith, le)) sl cases at (goals_all cases) (omega arith)
      (level_moved ds at at (length cases + 1) (suc (length cases)) e refl (omega arith) here))
      (subst (λ n. Every (Kept_at c f ds) n ((op.Drop ∷ (m t ++ op.Jump (s t) ∷ [])) ++ stubs m s ts))
      (ap (λ n. at + n) (sym len)) behind_default)

  pub tail_falls : (t at : ℕ) → t ≡ next → at + length (tail next (m t) t (s t)) ≡ s next → at + length (m t) ≡ s t
  tail_falls t at is e =
      let k : at + length (m t ++ []) ≡ s next = rw (eq-eqb t next is) at e in
      let j : length (m t ++ []) ≡ length (m t) = length-append (m t) [] ∙ omega arith in
      let r : at + length (m t) ≡ s next = omega (arith, k, j) in
      r ∙ ap s (sym is)

  pub branch_kept : (z : Bool) (t o at e end : ℕ) → e ≤ f.depth → 1 ≤ e
      → Ahead ds s end (e - 1) t → Ahead ds s end (e - 1) o → (is_bare (m o) ≡ z)
      → slice_get ds at ≡ Some e → Level ds (suc at) (length (branch z m next s at t o) - 1) (e - 1)
      → at + length (branch z m next s at t o) ≡ s next → end ≡ s next
      → Every (Kept_at c f ds) at (branch z m next s at t o)
  branch_kept true t o at e end deep one a b bare here there size is =
      let far : end ≤ s t = a.ahead in let far_o : end ≤ s o = b.ahead in
      let low : e - 1 ≤ f.depth = omega (arith, deep) in
      let n : at + suc (length (tail next (m t) t (s t))) ≡ s next = size in
      let falls : t ≡ next → suc at + length (m t) ≡ s t =
      (λ same. tail_falls t (suc at) same (omega (arith, n))) in
      let level : Level ds (suc at) (length (tail next (m t) t (s t))) (e - 1) =
      (λ i lt. there i (omega (arith, lt))) in (
        zero_kept c f ds at (s o) e (omega (arith, n, is, far_o)) one deep here b.at
            (tail_entry t (suc at) (e - 1) level a.at falls),
        tail_kept t (suc at) (e - 1) low level a.at falls (omega (arith, n, is, far)),
      )
  branch_kept false t o at e end deep one a b bare here there size is =
      let first : List Op = m t ++ op.Jump (s t) ∷ [] in
      let second : List Op = tail next (m o) o (s o) in
      let way : ℕ = suc at + (length (m t) + 1) in
      let n : length first ≡ length (m t) + 1 = length-append (m t) (op.Jump (s t) ∷ []) in
      let all : length (first ++ second) ≡ length first + length second = length-append first second in
      let far : end ≤ s t = a.ahead in let far_o : end ≤ s o = b.ahead in
      let low : e - 1 ≤ f.depth = omega (arith, deep) in
      let total : ℕ = suc (length (first ++ second)) - 1 in
      let one_level : Level ds (suc at) (length (m t) + 1) (e - 1) = (λ i lt. there i (omega (arith, lt, n, all))) in
      let two_level : Level ds way (length second) (e - 1) =
      level_part ds (suc at) total (e - 1) (length (m t) + 1) (length second) (omega (arith, n, all)) there in
      let falls : o ≡ next → way + length (m o) ≡ s o =
      (λ same. tail_falls o way same (omega (arith, size, n, all))) in
      let place : way ≡ suc at + length first = omega (arith, n) in (
        zero_kept c f ds at way e (omega arith) one deep here (tail_entry o way (e - 1) two_level b.at falls)
            (level_first ds (suc at) (length (m t) + 1) (e - 1) (omega arith) one_level),
        every_join (Kept_at c f ds) (suc at) first second
            (away_kept t (suc at) (e - 1) low one_level a.at (omega (arith, size, is, n, all, far)))
            (subst (λ x. Every (Kept_at c f ds) x second) place
            (tail_kept o way (e - 1) low two_level b.at falls (omega (arith, size, is, n, all, far_o)))),
      )
