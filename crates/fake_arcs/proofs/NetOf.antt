-- The net of a tidy graph is a net.
use Rattle.std.proofs.Common.{◌≡◌, refl, sym, ap, subst, ◌∙◌, ℕ, zero, suc, ◌+◌, ◌-◌, ◌≤◌, ◌<◌, ◌==◌, List}
use Rattle.std.proofs.Common.{[], ◌∷◌, ◌++◌, length, Bool, true, false, cond, ◌⊎◌, inl, inr, arith, eq-eqb, eqb-true}
use Rattle.std.specs.Prelude.{map, Some, None, slice_get, nat_lt}
use Rattle.std.specs.List.{All}
use Rattle.std.proofs.lemmas.Bool.{both_ways, or_cases, or_left, or_right, or_from, and_parts, and_from}
use Rattle.std.proofs.lemmas.Bool.{cond-false, cases_eq, cases_lt, lt-ltb, lt-leb, ltb-true, ne_eqb}
use Rattle.std.proofs.lemmas.List.{length-map}
use Rattle.std.proofs.lemmas.List.Elements.{All-nil, All-cons, All-append, All-weaker, All-map, All-head, All-tail}
use Rattle.std.proofs.lemmas.List.Folds.{list_any-append}
use Rattle.cov_base.specs.declared.net.FlowArc.{FlowArc}
use Rattle.std.specs.Prelude.{Result, Err}
use Rattle.cov_base.specs.declared.net.NetFault.{NetFault}
use Rattle.cov_base.specs.declared.refusal.Refusal.{Refusal}
use Rattle.cov_base.specs.declared.refusal.Refusal.TheVariants as refusal
use Rattle.cov_base.specs.Net.{Makes, NetValue, is_outside, is_above, has_arc, joins, is_wrong_entry, is_misplaced}
use Rattle.cov_base.specs.Net.{ascends, Leads, IsReached, IsNet}
use Rattle.cov_base.proofs.NetLaws.{AscendAfter, IsNet-from_shape, Suit-from_ascend}
use Rattle.cov_base.proofs.NetLaws.{no_fault-from_IsNet}
use Rattle.flow_graph.specs.Graph.{Ending, Block, Graph}
use Rattle.flow_graph.specs.Ascending.{inserted}
use Rattle.flow_graph.specs.Nets.{targets, among, real, call_exit, arcs_out, arcs_from, net_of}
use Rattle.fake_arcs.specs.Tidy.{Way, IsTidy}
use Rattle.fake_arcs.proofs.Lockstep.{among_line, itself}

-- ---- ascending lists

-- a number above the bound among ascending ones above it
pub ascends_line : (low n : ℕ) (ls : List ℕ) → low < n → ascends low ls ≡ true → ascends low (inserted n ls) ≡ true
ascends_line low n [] above h = and_from _ _ (lt-ltb low n above) refl
ascends_line low n (l ∷ ls) above h =
    go (nat_lt n l) refl (n == l) refl (λ below. ascends_line l n ls below (and_parts _ _ h).1)
  where
    go : (x : Bool) → nat_lt n l ≡ x → (y : Bool) → (n == l) ≡ y → (l < n → ascends l (inserted n ls) ≡ true)
        → ascends low (cond x (n ∷ l ∷ ls) (cond y (l ∷ ls) (l ∷ inserted n ls))) ≡ true
    go true ex y ey rec = and_from _ _ (lt-ltb low n above) (and_from _ _ ex (and_parts _ _ h).1)
    go false ex true ey rec = h
    go false ex false ey rec =
        and_from _ _ (and_parts _ _ h).0 (rec (between (cases_lt n l) (cases_eq n l)))
      where
        between : (n < l) ⊎ (l ≤ n) → (n ≡ l) ⊎ (n ≡ l → ⊥) → l < n
        between (inl lt) same = absurd (both_ways _ ex (lt-ltb n l lt))
        between (inr le) (inl same) = absurd (both_ways _ ey (eq-eqb n l same))
        between (inr le) (inr other) = omega (arith, le, other)

-- targets ascend
targets_ascend : (low : ℕ) (e : Ending) → ((t : ℕ) → among t (targets e) ≡ true → low < t)
    → ascends low (targets e) ≡ true
targets_ascend low (Ending.Jump t) h = and_from _ _ (lt-ltb low t (h t (itself t []))) refl
targets_ascend low (Ending.Back t) h = and_from _ _ (lt-ltb low t (h t (itself t []))) refl
targets_ascend low (Ending.Branch t f) h =
    ascends_line low t (f ∷ []) (h t (among_line t t (f ∷ []) (itself t (f ∷ []))))
    (and_from _ _ (lt-ltb low f (h f (among_line t f (f ∷ []) (or_right _ _ (itself f []))))) refl)
targets_ascend low (Ending.Switch [] default) h = and_from _ _ (lt-ltb low default (h default (itself default []))) refl
targets_ascend low (Ending.Switch (c ∷ cases) default) h =
    ascends_line low c.1 (targets (Ending.Switch cases default))
    (h c.1 (among_line c.1 c.1 _ (itself c.1 (targets (Ending.Switch cases default)))))
    (targets_ascend low (Ending.Switch cases default) (λ t m. h t (among_line c.1 t _ (or_right _ _ m))))
targets_ascend low (Ending.Call f line next) h = and_from _ _ (lt-ltb low next (h next (itself next []))) refl
targets_ascend low Ending.Return h = refl
targets_ascend low Ending.Exit h = refl

-- ---- arcs out of a block

-- an arc of a net of so many blocks that leaves this block
record ArcFits (n blocks : ℕ) (arc : FlowArc) : Type 0 where
  pub from : arc.from ≡ n
  pub to : (arc.to ≡ 1) ⊎ (2 < arc.to)
  pub below : arc.to < blocks
  pub placed : is_misplaced arc ≡ false

real_fits : (n blocks : ℕ) (ts : List ℕ) → ((t : ℕ) → among t ts ≡ true → (2 < t) × (t < blocks))
    → All (ArcFits n blocks) (map (real n) ts)
real_fits n blocks [] h = All-nil (ArcFits n blocks)
real_fits n blocks (t ∷ ts) h =
    All-cons (ArcFits n blocks) (real n t) (map (real n) ts)
    (let i = h t (itself t ts) in record { from = refl; to = inr i.0; below = i.1; placed = refl })
    (real_fits n blocks ts (λ t m. h t (or_right _ _ m)))

exit_fits : (n blocks : ℕ) → 1 < blocks → ArcFits n blocks (call_exit n)
exit_fits n blocks some = record { from = refl; to = inl refl; below = some; placed = refl }

out_fits : (n blocks : ℕ) (e : Ending) → 1 < blocks → ((t : ℕ) → among t (targets e) ≡ true → (2 < t) × (t < blocks))
    → All (ArcFits n blocks) (arcs_out n e)
out_fits n blocks (Ending.Jump t) some h = real_fits n blocks (targets (Ending.Jump t)) h
out_fits n blocks (Ending.Back t) some h = real_fits n blocks (targets (Ending.Back t)) h
out_fits n blocks (Ending.Branch t f) some h = real_fits n blocks (targets (Ending.Branch t f)) h
out_fits n blocks (Ending.Switch cases default) some h = real_fits n blocks (targets (Ending.Switch cases default)) h
out_fits n blocks (Ending.Call f line next) some h =
    All-cons (ArcFits n blocks) (call_exit n) (real n next ∷ []) (exit_fits n blocks some)
    (real_fits n blocks (next ∷ []) h)
out_fits n blocks Ending.Return some h =
    All-cons (ArcFits n blocks) (real n 1) [] (record { from = refl; to = inl refl; below = some; placed = refl })
    (All-nil (ArcFits n blocks))
out_fits n blocks Ending.Exit some h = All-cons (ArcFits n blocks) (call_exit n) [] (exit_fits n blocks some)
    (All-nil (ArcFits n blocks))

-- an arc of some block from n up
record ArcFrom (n blocks : ℕ) (arc : FlowArc) : Type 0 where
  pub from : n ≤ arc.from
  pub within : arc.from < blocks
  pub to : (arc.to ≡ 1) ⊎ (2 < arc.to)
  pub below : arc.to < blocks
  pub placed : is_misplaced arc ≡ false

abbrev Aimed : ℕ → List Block → Type 0
Aimed blocks bs = (k t : ℕ) (b : Block) → slice_get bs k ≡ Some b → among t (targets b.end) ≡ true
    → (2 < t) × (t < blocks)

arcs_fit : (n blocks : ℕ) (bs : List Block) → 1 < blocks → n + length bs ≤ blocks → Aimed blocks bs
    → All (ArcFrom n blocks) (arcs_from n bs)
arcs_fit n blocks [] some room aims = All-nil (ArcFrom n blocks)
arcs_fit n blocks (b ∷ bs) some room aims =
    All-append (ArcFrom n blocks) (arcs_out n b.end) (arcs_from (suc n) bs)
    (All-weaker (ArcFits n blocks) (ArcFrom n blocks)
    (λ arc f. record {
      from = omega (arith, f.from);
      within = omega (arith, f.from, room);
      to = f.to;
      below =
          f.below;
      placed = f.placed;
    })
    (arcs_out n b.end) (out_fits n blocks b.end some (λ t m. aims zero t b refl m)))
    (All-weaker (ArcFrom (suc n) blocks) (ArcFrom n blocks)
    (λ arc f. record {
      from = omega (arith, f.from);
      within = f.within;
      to = f.to;
      below = f.below;
      placed =
          f.placed;
    })
    (arcs_from (suc n) bs) (arcs_fit (suc n) blocks bs some (omega (arith, room))
    (λ k t b at m. aims (suc k) t b at m)))

-- ---- order

above_from : (arc before : FlowArc) → before.from < arc.from → is_above arc before ≡ true
above_from arc before l = or_left _ _ (lt-ltb before.from arc.from l)

above_to : (n a b : ℕ) (arc before : FlowArc) → arc.from ≡ n → before.from ≡ n → before.to < arc.to
    → is_above arc before ≡ true
above_to n a b arc before x y l =
    or_right _ _ (and_from _ _ (eq-eqb before.from arc.from (y ∙ sym x)) (lt-ltb before.to arc.to l))

-- arcs of one block behind one of the same block
real_after : (n t : ℕ) (ts : List ℕ) → ascends t ts ≡ true → AscendAfter (real n t) (map (real n) ts)
real_after n t [] h = tt
real_after n t (s ∷ ts) h = (
  above_to n 0 0 (real n s) (real n t) refl refl (ltb-true _ _ (and_parts _ _ h).0),
  real_after n s ts (and_parts _ _ h).1,
)

real_ascend : (n low : ℕ) (before : FlowArc) (ts : List ℕ) → before.from < n → ascends low ts ≡ true
    → AscendAfter before (map (real n) ts)
real_ascend n low before [] l h = tt
real_ascend n low before (t ∷ ts) l h = (above_from (real n t) before l, real_after n t ts (and_parts _ _ h).1)

out_ascend : (n : ℕ) (before : FlowArc) (e : Ending) → before.from < n → ((t : ℕ) → among t (targets e) ≡ true → 2 < t)
    → AscendAfter before (arcs_out n e)
out_ascend n before (Ending.Jump t) l h = real_ascend n 2 before (targets (Ending.Jump t)) l
    (targets_ascend 2 (Ending.Jump t) h)
out_ascend n before (Ending.Back t) l h = real_ascend n 2 before (targets (Ending.Back t)) l
    (targets_ascend 2 (Ending.Back t) h)
out_ascend n before (Ending.Branch t f) l h = real_ascend n 2 before (targets (Ending.Branch t f)) l
    (targets_ascend 2 (Ending.Branch t f) h)
out_ascend n before (Ending.Switch cases default) l h = real_ascend n 2 before (targets (Ending.Switch cases default))
    l (targets_ascend 2 (Ending.Switch cases default) h)
out_ascend n before (Ending.Call f line next) l h = (
  above_from (call_exit n) before l,
  (above_to n 0 0 (real n next) (call_exit n) refl refl (let i = h next (itself next []) in omega (arith, i)), tt),
)
out_ascend n before Ending.Return l h = (above_from (real n 1) before l, tt)
out_ascend n before Ending.Exit l h = (above_from (call_exit n) before l, tt)

ascend_append : (n : ℕ) (before : FlowArc) (xs ys : List FlowArc) → before.from ≤ n → All (λ arc. arc.from ≡ n) xs
    → AscendAfter before xs
    → ((last : FlowArc) → last.from ≤ n → AscendAfter last ys) → AscendAfter before (xs ++ ys)
ascend_append n before [] ys l same h behind = behind before l
ascend_append n before (x ∷ xs) ys l same h behind = (
  h.0,
  ascend_append n x xs ys (let e = All-head (λ arc. arc.from ≡ n) x xs same in omega (arith, e))
      (All-tail (λ arc. arc.from ≡ n) x xs same) h.1 behind,
)

arcs_ascend : (n blocks : ℕ) (before : FlowArc) (bs : List Block) → before.from < n → 1 < blocks → Aimed blocks bs
    → AscendAfter before (arcs_from n bs)
arcs_ascend n blocks before [] l some aims = tt
arcs_ascend n blocks before (b ∷ bs) l some aims =
    ascend_append n before (arcs_out n b.end) (arcs_from (suc n) bs) (omega (arith, l))
    (All-weaker (ArcFits n blocks) (λ arc. arc.from ≡ n) (λ arc f. f.from) (arcs_out n b.end)
    (out_fits n blocks b.end some (λ t m. aims zero t b refl m)))
    (out_ascend n before b.end l (λ t m. (aims zero t b refl m).0))
    (λ last le. arcs_ascend (suc n) blocks last bs (omega (arith, le)) some (λ k t b at m. aims (suc k) t b at m))

-- ---- ways

has_real : (n t : ℕ) (ts : List ℕ) → among t ts ≡ true → has_arc (map (real n) ts) n t ≡ true
has_real n t [] m = m
has_real n t (s ∷ ts) m =
    elim (or_cases (t == s) (among t ts) m) [
      | inl e ↦ or_left _ _ (and_from _ _ (eq-eqb n n refl) (eq-eqb s t (sym (eqb-true t s e))))
      | inr l ↦ or_right _ _ (has_real n t ts l)
    ]

has_out : (n t : ℕ) (e : Ending) → among t (targets e) ≡ true → has_arc (arcs_out n e) n t ≡ true
has_out n t (Ending.Jump s) m = has_real n t (s ∷ []) m
has_out n t (Ending.Back s) m = has_real n t (s ∷ []) m
has_out n t (Ending.Branch s f) m = has_real n t (targets (Ending.Branch s f)) m
has_out n t (Ending.Switch cases default) m = has_real n t (targets (Ending.Switch cases default)) m
has_out n t (Ending.Call f line next) m = or_right _ _ (has_real n t (next ∷ []) m)
has_out n t Ending.Return m = absurd (cc)
has_out n t Ending.Exit m = absurd (cc)

has_from : (n k t : ℕ) (bs : List Block) (b : Block) → slice_get bs k ≡ Some b → among t (targets b.end) ≡ true
    → has_arc (arcs_from n bs) (n + k) t ≡ true
has_from n k t [] b at m = absurd (let never : None ≡ Some b = at in cc)
has_from n zero t (x ∷ bs) b at m =
    let same : x ≡ b = (let e : Some x ≡ Some b = at in cc) in
    list_any-append (joins (n + zero) t) (arcs_out n x.end) (arcs_from (suc n) bs)
    ∙ or_left _ _ (subst (λ i. has_arc (arcs_out n x.end) i t ≡ true) (omega arith)
    (has_out n t x.end (subst (λ (y : Block). among t (targets y.end) ≡ true) (sym same) m)))
has_from n (suc k) t (x ∷ bs) b at m =
    list_any-append (joins (n + suc k) t) (arcs_out n x.end) (arcs_from (suc n) bs)
    ∙ or_right _ _ (subst (λ i. has_arc (arcs_from (suc n) bs) i t ≡ true) (omega arith)
    (has_from (suc n) k t bs b at m))

leads : (bs : List Block) (n b : ℕ) → Way bs n b → Leads (real 0 2 ∷ arcs_from 2 bs) b n
leads bs zero b way = way
leads bs (suc n) b (a, k, block, way, same, at, t) = (
  a,
  leads bs n a way,
  or_right _ _
      (subst (λ i. has_arc (arcs_from 2 bs) i b ≡ true) (sym same) (has_from 2 k b bs block at t)),
)

-- ---- the net

inside_of : (blocks : ℕ) (arc : FlowArc) → ArcFrom 2 blocks arc → is_outside blocks arc ≡ false
inside_of blocks arc f =
    or_from _ _ (or_from _ _ (or_from _ _ (lt-leb blocks arc.from f.within) (lt-leb blocks arc.to f.below))
    (ne_eqb arc.to 0 (λ e. some f.to e)))
    (ne_eqb arc.from 1 (λ e. let l = f.from in omega (arith, l, e)))
  where
    some : (arc.to ≡ 1) ⊎ (2 < arc.to) → arc.to ≡ 0 → ⊥
    some (inl x) e = omega (arith, x, e)
    some (inr l) e = omega (arith, l, e)

right_of : (blocks : ℕ) (arc : FlowArc) → ArcFrom 2 blocks arc → is_wrong_entry arc ≡ false
right_of blocks arc f =
    cond-false _ _ _ (ne_eqb arc.from 0 (λ e. let l = f.from in omega (arith, l, e)))
    ∙ ne_eqb arc.to 2 (λ e. other f.to e)
  where
    other : (arc.to ≡ 1) ⊎ (2 < arc.to) → arc.to ≡ 2 → ⊥
    other (inl x) e = omega (arith, x, e)
    other (inr l) e = omega (arith, l, e)

-- What is made of a tidy graph is a net.
pub net_of_tidy : (g : Graph) → IsTidy g → IsNet (net_of g)
net_of_tidy g h =
    let blocks : ℕ = 2 + length g.blocks in
    let fits : All (ArcFrom 2 (2 + length g.blocks)) (arcs_from 2 g.blocks) = arcs_fit 2 (2 + length g.blocks) g.blocks
    (omega arith) (omega arith) h.made.aims in
    IsNet-from_shape (net_of g) (record {
      least = (let s = h.made.some in omega (arith, s));
      most = h.few;
      few = h.arcs;
      inside = All-cons (λ arc. is_outside (2 + length g.blocks) arc ≡ false) (real 0 2) (arcs_from 2 g.blocks)
          (or_from _ _
          (or_from _ _ (or_from _ _ (lt-leb (2 + length g.blocks) 0 (omega arith))
          (lt-leb (2 + length g.blocks) 2 (let s = h.made.some in omega (arith, s)))) refl) refl)
          (All-weaker (ArcFrom 2 (2 + length g.blocks)) (λ arc. is_outside (2 + length g.blocks) arc ≡ false)
          (inside_of (2 + length g.blocks)) (arcs_from 2 g.blocks) fits);
      ascend = arcs_ascend 2 (2 + length g.blocks) (real 0 2) g.blocks (omega arith) (omega arith) h.made.aims;
      entry = refl;
      entries = All-cons (λ arc. is_wrong_entry arc ≡ false) (real 0 2) (arcs_from 2 g.blocks) refl
          (All-weaker (ArcFrom 2 (2 + length g.blocks)) (λ arc. is_wrong_entry arc ≡ false)
          (right_of (2 + length g.blocks)) (arcs_from 2 g.blocks) fits);
      exits = All-cons (λ arc. is_misplaced arc ≡ false) (real 0 2) (arcs_from 2 g.blocks) refl
          (All-weaker (ArcFrom 2 (2 + length g.blocks)) (λ arc. is_misplaced arc ≡ false) (λ arc f. f.placed)
          (arcs_from 2 g.blocks) fits);
      lists = (let e = length-map g.blocks (λ b. b.lines) in omega (arith, e));
      suit = (
        refl,
        (
          refl,
          Suit-from_ascend 2 (map (λ b. b.lines) g.blocks) (omega arith)
              (All-map (λ list. ascends 0 list ≡ true) (λ b. b.lines) g.blocks h.made.lines),
        ),
      );
    })
    (λ block low high. go block low (h.ways (block - 2) (omega (arith, low, high))))
  where
    go : (block : ℕ) → 2 ≤ block → (n : ℕ) × Way g.blocks n (2 + (block - 2))
        → IsReached (real 0 2 ∷ arcs_from 2 g.blocks) block
    go block low (n, way) = (n, leads g.blocks n block (subst (Way g.blocks n) (omega (arith, low)) way))

-- Net::new refuses no tidy graph
pub no_refusal : (g : Graph) (net : NetValue) (result : Result NetValue (Refusal NetFault)) (found : NetFault)
    → IsTidy g → net.blocks ≡ 2 + length g.blocks → net.arcs ≡ (net_of g).arcs → net.lines ≡ (net_of g).lines
    → Makes net result → result ≡ Err (refusal.Refused found) → ⊥
no_refusal g net result found tidy b a l makes e =
    let same : net ≡ net_of g =
    ap (λ (n : ℕ). record { blocks = n; arcs = net.arcs; lines = net.lines }) b
    ∙ ap (λ (n : List FlowArc). record { blocks = 2 + length g.blocks; arcs = n; lines = net.lines }) a
    ∙ ap (λ (n : List (List ℕ)). record { blocks = 2 + length g.blocks; arcs = (net_of g).arcs; lines = n }) l in
    no_fault-from_IsNet net found (subst IsNet (sym same) (net_of_tidy g tidy)) (subst (Makes net) e makes)
