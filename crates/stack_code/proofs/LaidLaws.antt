-- The code of a graph is laid out as the graph is.
use Rattle.std.proofs.Common.{◌≡◌, refl, sym, ap, subst, ◌∙◌, ℕ, zero, suc, ◌+◌, ◌≤◌, ◌==◌, inl, inr}
use Rattle.std.proofs.Common.{Bool, true, false, cond, List, [], ◌∷◌, ◌++◌, length, Some, arith}
use Rattle.std.proofs.Common.{length-append, append_assoc, eqb-true, eq-eqb}
use Rattle.std.specs.Prelude.{ℤ, ◌||◌, slice_get}
use Rattle.std.proofs.lemmas.Option.{same_Some, none-some}
use Rattle.stack_ops.specs.declared.operation.Op.{Op}
use Rattle.stack_ops.specs.declared.operation.Op.TheVariants as op
use Rattle.flow_graph.specs.Ascending.{inserted}
use Rattle.flow_graph.specs.Graph.{Ending, Block, Graph}
use Rattle.flow_graph.specs.Nets.{among}
use Rattle.stack_code.specs.Emits.{Has, Lands, Closes, Stands, LaidOut}
use Rattle.stack_code.specs.Laying.{is_bare, tail, stub, land, goals, stubs, stub_at, tests, branch, end_code}
use Rattle.stack_code.specs.Laying.{block_code, block_size, start_of, codes, starts, graph_code}
use Rattle.stack_code.proofs.Aims.{among_new, among_still}
use Rattle.stack_code.proofs.Places.{has_join, has_within}

-- cases lead to some of these blocks
abbrev pub AllIn : List ℕ → List (ℤ × ℕ) → Type 0
AllIn ts [] = Unit {0}
AllIn ts (c ∷ cases) = (among c.1 ts ≡ true) × AllIn ts cases

in_more : (n : ℕ) (ts : List ℕ) (cases : List (ℤ × ℕ)) → AllIn ts cases → AllIn (inserted n ts) cases
in_more n ts [] h = tt
in_more n ts (c ∷ cases) h = (among_still n c.1 ts h.0, in_more n ts cases h.1)

pub goals_all : (cases : List (ℤ × ℕ)) → AllIn (goals cases) cases
goals_all [] = tt
goals_all (c ∷ cases) = (among_new c.1 (goals cases), in_more c.1 (goals cases) cases (goals_all cases))

pub stub_size : (ms : List Op) (a b : ℕ) → length (stub ms a) ≡ length (stub ms b)
stub_size [] a b = refl
stub_size (o ∷ os) a b = rw (length-append (o ∷ os) (op.Jump a ∷ []), length-append (o ∷ os) (op.Jump b ∷ [])) refl

module _ (ops : List Op) (m : ℕ → List Op) (start : ℕ → ℕ) (next : ℕ) where
  tail_lands : (t at : ℕ) → (t ≡ next → at + length (m t) ≡ start t) → Has ops at (tail next (m t) t (start t))
      → Lands ops at (m t) (start t)
  tail_lands t at falls h = let k = has_join ops at (m t) _ h in by (t == next) refl k.0 k.1
    where
      by : (z : Bool) → (t == next) ≡ z → Has ops at (m t)
          → Has ops (at + length (m t)) (cond z [] (op.Jump (start t) ∷ [])) → Lands ops at (m t) (start t)
      by true is a b = record { marked = a; goes = inl (falls (eqb-true t next is)) }
      by false is a b = record { marked = a; goes = inr b.0 }

  jump_lands : (t at : ℕ) → Has ops at (m t ++ op.Jump (start t) ∷ []) → Lands ops at (m t) (start t)
  jump_lands t at h =
      let k = has_join ops at (m t) (op.Jump (start t) ∷ []) h in record { marked = k.0; goes = inr k.1.0 }

  land_lands : (ms : List Op) (place q : ℕ) → Has ops q (stub ms place) → Lands ops (land ms place q) ms place
  land_lands [] place q h = record { marked = tt; goes = inl (omega arith) }
  land_lands (o ∷ os) place q h =
      let k = has_join ops q (o ∷ os) (op.Jump place ∷ []) h in record { marked = k.0; goes = inr k.1.0 }

  stub_lands : (ts : List ℕ) (q t : ℕ) → among t ts ≡ true → Has ops q (stubs m start ts)
      → Lands ops (land (m t) (start t) (stub_at m q ts t)) (m t) (start t)
  stub_lands [] q t there h = absurd (cc)
  stub_lands (x ∷ ts) q t there h =
      let k = has_join ops q (stub (m x) (start x)) (stubs m start ts) h in
      let rest : Has ops (q + length (stub (m x) 0)) (stubs m start ts) = rw (stub_size (m x) 0 (start x)) k.1 in
      by (t == x) refl there k.0 (λ a. stub_lands ts (q + length (stub (m x) 0)) t a rest)
    where
      by : (z : Bool) → (t == x) ≡ z → (z || among t ts) ≡ true → Has ops q (stub (m x) (start x))
          → (among t ts ≡ true
          → Lands ops (land (m t) (start t) (stub_at m (q + length (stub (m x) 0)) ts t)) (m t) (start t))
          → Lands ops (land (m t) (start t) (cond z q (stub_at m (q + length (stub (m x) 0)) ts t))) (m t) (start t)
      by true is there here later = let same : t ≡ x = eqb-true t x is in
          subst (λ y. Lands ops (land (m y) (start y) q) (m y) (start y)) (sym same) (land_lands (m x) (start x) q here)
      by false is there here later = later there

  cases_close : (ts : List ℕ) (q : ℕ) → Has ops q (stubs m start ts) → (cases : List (ℤ × ℕ)) (d at : ℕ)
      → AllIn ts cases → Has ops at (tests m start q ts cases)
      → Has ops (at + length cases) (op.Drop ∷ (m d ++ op.Jump (start d) ∷ []))
      → Closes ops start m at (Ending.Switch cases d)
  cases_close ts q s [] d at all h drop =
      let k : Has ops at (op.Drop ∷ (m d ++ op.Jump (start d) ∷ [])) =
      subst (λ n. Has ops n (op.Drop ∷ (m d ++ op.Jump (start d) ∷ []))) (omega arith) drop in
      (k.0, jump_lands d (suc at) k.1)
  cases_close ts q s (c ∷ cases) d at all h drop = record {
    way = land (m c.1) (start c.1) (stub_at m q ts c.1);
    test = h.0;
    goes = stub_lands ts q c.1 all.0 s;
    on = cases_close ts q s cases d (suc at) all.1 h.1
        (subst (λ n. Has ops n (op.Drop ∷ (m d ++ op.Jump (start d) ∷ []))) (omega arith) drop);
  }

  tail_end : (t at : ℕ) → t ≡ next → at + length (tail next (m t) t (start t)) ≡ start next
      → at + length (m t) ≡ start t
  tail_end t at is e =
      let k : at + length (m t ++ []) ≡ start next = rw (eq-eqb t next is) at e in
      let j : length (m t ++ []) ≡ length (m t) = length-append (m t) [] ∙ omega arith in
      let r : at + length (m t) ≡ start next = omega (arith, k, j) in
      r ∙ ap start (sym is)

  bare_lands : (ms : List Op) (place : ℕ) → is_bare ms ≡ true → Lands ops place ms place
  bare_lands [] place is = record { marked = tt; goes = inl (omega arith) }
  bare_lands (o ∷ os) place is = absurd (cc)

  branch_closes : (z : Bool) (t f at : ℕ) → is_bare (m f) ≡ z
      → at + length (branch z m next start at t f) ≡ start next
      → Has ops at (branch z m next start at t f) → Closes ops start m at (Ending.Branch t f)
  branch_closes true t f at is e h = inl record {
    way = start f;
    test = h.0;
    goes = bare_lands (m f) (start f) is;
    on = tail_lands t (suc at) (λ same. tail_end t (suc at) same (omega (arith, e))) h.1;
  }
  branch_closes false t f at is e h =
      let first : List Op = m t ++ op.Jump (start t) ∷ [] in
      let second : List Op = tail next (m f) f (start f) in
      let k = has_join ops (suc at) first second h.1 in
      let size : length first ≡ length (m t) + 1 = length-append (m t) (op.Jump (start t) ∷ []) in
      let all : length (first ++ second) ≡ length first + length second = length-append first second in
      inl record {
        way = suc at + (length (m t) + 1);
        test = h.0;
        goes = tail_lands f (suc at + (length (m t) + 1))
            (λ same. tail_end f (suc at + (length (m t) + 1)) same (omega (arith, e, size, all)))
            (subst (λ n. Has ops n second) (omega (arith, size)) k.1);
        on = jump_lands t (suc at) k.0;
      }

  closes : (end : Ending) (at : ℕ) → at + length (end_code m next start at end) ≡ start next
      → Has ops at (end_code m next start at end) → Closes ops start m at end
  closes (Ending.Jump t) at e h = tail_lands t at (λ is. tail_end t at is e) h
  closes (Ending.Back t) at e h = let k = has_join ops at (m t) (op.Back (start t) ∷ []) h in (k.0, k.1.0)
  closes (Ending.Branch t f) at e h = branch_closes (is_bare (m f)) t f at refl e h
  closes (Ending.Switch cases d) at e h =
      let q : ℕ = at + length cases + 1 + (length (m d) + 1) in
      let ts : List ℕ = goals cases in
      let first : List Op = tests m start q ts cases in
      let default : List Op = op.Drop ∷ (m d ++ op.Jump (start d) ∷ []) in
      let k = has_join ops at first (default ++ stubs m start ts) h in
      let on : Has ops (at + length cases) (default ++ stubs m start ts) = rw (size_tests q ts cases) at k.1 in
      let j = has_join ops (at + length cases) default (stubs m start ts) on in
      let s : Has ops q (stubs m start ts) = subst (λ n. Has ops n (stubs m start ts))
      (rw (length-append (m d) (op.Jump (start d) ∷ [])) (omega arith)) j.1 in
      cases_close ts q s cases d at (goals_all cases) k.0 j.0
    where
      size_tests : (q : ℕ) (ts : List ℕ) (cases : List (ℤ × ℕ)) → length (tests m start q ts cases) ≡ length cases
      size_tests q ts [] = refl
      size_tests q ts (c ∷ cases) = ap suc (size_tests q ts cases)
  closes (Ending.Call f line n) at e h =
      (h.0, tail_lands n (suc at) (λ is. tail_end n (suc at) is (omega (arith, e))) h.1)
  closes Ending.Return at e h = h.0
  closes Ending.Exit at e h = h.0

-- the length of a block's code hangs on no place
size_tail : (next : ℕ) (ms : List Op) (t a b : ℕ) → length (tail next ms t a) ≡ length (tail next ms t b)
size_tail next ms t a b = by (t == next)
  where
    by : (z : Bool) → length (ms ++ cond z [] (op.Jump a ∷ [])) ≡ length (ms ++ cond z [] (op.Jump b ∷ []))
    by true = refl
    by false = rw (length-append ms (op.Jump a ∷ []), length-append ms (op.Jump b ∷ [])) refl

pub size_stubs : (m : ℕ → List Op) (s r : ℕ → ℕ) (ts : List ℕ) → length (stubs m s ts) ≡ length (stubs m r ts)
size_stubs m s r [] = refl
size_stubs m s r (t ∷ ts) =
    rw (
      length-append (stub (m t) (s t)) (stubs m s ts),
      length-append (stub (m t) (r t)) (stubs m r ts),
      stub_size (m t) (s t) (r t),
      size_stubs m s r ts,
    ) refl

pub size_tests : (m : ℕ → List Op) (s : ℕ → ℕ) (q : ℕ) (ts : List ℕ) (cases : List (ℤ × ℕ))
    → length (tests m s q ts cases) ≡ length cases
size_tests m s q ts [] = refl
size_tests m s q ts (c ∷ cases) = ap suc (size_tests m s q ts cases)

size_branch : (z : Bool) (m : ℕ → List Op) (next : ℕ) (s r : ℕ → ℕ) (at to t f : ℕ)
    → length (branch z m next s at t f) ≡ length (branch z m next r to t f)
size_branch true m next s r at to t f = ap suc (size_tail next (m t) t (s t) (r t))
size_branch false m next s r at to t f =
    ap suc (rw (
      length-append (m t ++ op.Jump (s t) ∷ []) (tail next (m f) f (s f)),
      length-append (m t ++ op.Jump (r t) ∷ []) (tail next (m f) f (r f)),
      length-append (m t) (op.Jump (s t) ∷ []),
      length-append (m t) (op.Jump (r t) ∷ []),
      size_tail next (m f) f (s f) (r f),
    ) refl)

-- how long the code of a switch is, without its stubs
pub switch_size : (m : ℕ → List Op) (s : ℕ → ℕ) (q : ℕ) (cases : List (ℤ × ℕ)) (d : ℕ)
    → length (tests m s q (goals cases) cases ++ ((op.Drop ∷ (m d ++ op.Jump (s d) ∷ [])) ++ stubs m s (goals cases)))
    ≡ length cases + suc (length (m d) + 1 + length (stubs m s (goals cases)))
switch_size m s q cases d =
    length-append (tests m s q (goals cases) cases) ((op.Drop ∷ (m d ++ op.Jump (s d) ∷ [])) ++ stubs m s (goals cases))
    ∙ (rw (
      size_tests m s q (goals cases) cases,
      length-append (m d ++ op.Jump (s d) ∷ []) (stubs m s (goals cases)),
      length-append (m d) (op.Jump (s d) ∷ []),
    ) refl)

pub size_end : (m : ℕ → List Op) (next : ℕ) (s r : ℕ → ℕ) (at to : ℕ) (end : Ending)
    → length (end_code m next s at end) ≡ length (end_code m next r to end)
size_end m next s r at to (Ending.Jump t) = size_tail next (m t) t (s t) (r t)
size_end m next s r at to (Ending.Back t) =
    rw (length-append (m t) (op.Back (s t) ∷ []), length-append (m t) (op.Back (r t) ∷ [])) refl
size_end m next s r at to (Ending.Branch t f) = size_branch (is_bare (m f)) m next s r at to t f
size_end m next s r at to (Ending.Switch cases d) =
    switch_size m s (at + length cases + 1 + (length (m d) + 1)) cases d
    ∙ (ap (λ k. length cases + suc (length (m d) + 1 + k)) (size_stubs m s r (goals cases))
    ∙ sym (switch_size m r (to + length cases + 1 + (length (m d) + 1)) cases d))
size_end m next s r at to (Ending.Call f line n) = ap suc (size_tail next (m n) n (s n) (r n))
size_end m next s r at to Ending.Return = refl
size_end m next s r at to Ending.Exit = refl

pub size_block : (m : ℕ → List Op) (next : ℕ) (s : ℕ → ℕ) (at : ℕ) (b : Block)
    → length (block_code m next s at b) ≡ block_size m next b
size_block m next s at b =
    rw (
      length-append b.ops (end_code m next s (at + length b.ops) b.end),
      length-append b.ops (end_code m next (λ x. 0) (0 + length b.ops) b.end),
      size_end m next s (λ x. 0) (at + length b.ops) (0 + length b.ops) b.end,
    ) refl

pub start_low : (m : ℕ → ℕ → List Op) (a p : ℕ) (b : Block) (bs : List Block) → start_of m a p (b ∷ bs) a ≡ p
start_low m a p b bs = rw (eq-eqb a a refl) refl

pub start_high : (m : ℕ → ℕ → List Op) (a p x : ℕ) (b : Block) (bs : List Block) → suc a ≤ x
    → start_of m a p (b ∷ bs) x ≡ start_of m (suc a) (p + block_size (m a) (suc a) b) bs x
start_high m a p x b bs lt = by (x == a) refl
  where
    by : (z : Bool) → (x == a) ≡ z
        → cond z p (start_of m (suc a) (p + block_size (m a) (suc a) b) bs x)
        ≡ start_of m (suc a) (p + block_size (m a) (suc a) b) bs x
    by true is = let same : x ≡ a = eqb-true x a is in absurd (omega (arith, same, lt))
    by false is = refl

-- where the first of some blocks begins, and where the block behind them does
pub start_end : (m : ℕ → ℕ → List Op) (a p : ℕ) (bs : List Block) → start_of m a p bs a ≡ p
start_end m a p [] = refl
start_end m a p (b ∷ bs) = start_low m a p b bs

-- one piece for each of these blocks, of which the first has the number a and begins at p
abbrev pub joined : {A : Type 0} → (ℕ → ℕ → Block → List A) → (ℕ → ℕ → List Op) → ℕ → ℕ → List Block → List A
joined piece m a p [] = []
joined piece m a p (b ∷ bs) = piece a p b ++ joined piece m (suc a) (p + block_size (m a) (suc a) b) bs

-- pieces are as long as the code of their blocks
abbrev pub AreLong : {A : Type 0} → (ℕ → ℕ → Block → List A) → (ℕ → ℕ → List Op) → Type 0
AreLong piece m = (a p : ℕ) (b : Block) → length (piece a p b) ≡ block_size (m a) (suc a) b

-- each piece stands where its block begins
pub pieces_stand : {A : Type 0} (piece : ℕ → ℕ → Block → List A) (m : ℕ → ℕ → List Op) → AreLong piece m
    → (s : ℕ → ℕ) (a p : ℕ) (bs : List Block) (xs pre : List A)
    → xs ≡ pre ++ joined piece m a p bs → length pre ≡ p → ((x : ℕ) → a ≤ x → s x ≡ start_of m a p bs x)
    → (i : ℕ) (b : Block) → slice_get bs i ≡ Some b → Has xs (s (a + i)) (piece (a + i) (s (a + i)) b)
pieces_stand piece m long s a p [] xs pre is size starts i b at = absurd (none-some b at)
pieces_stand piece m long s a p (c ∷ bs) xs pre is size starts zero b at =
    let here : p ≡ s a = sym (starts a (omega arith) ∙ start_low m a p c bs) in
    let has : Has xs p (piece a p c) = subst (λ n. Has xs n (piece a p c)) size
    (subst (λ l. Has l (length pre) (piece a p c)) (sym is)
    (has_within pre (piece a p c) (joined piece m (suc a) (p + block_size (m a) (suc a) c) bs))) in
    let n : a ≡ a + 0 = omega arith in
    subst (λ k. Has xs (s k) (piece k (s k) b)) n (subst (λ d. Has xs (s a) (piece a (s a) d)) (same_Some c b at)
    (subst (λ k. Has xs k (piece a k c)) here has))
pieces_stand piece m long s a p (c ∷ bs) xs pre is size starts (suc i) b at =
    let n : suc a + i ≡ a + suc i = omega arith in
    subst (λ k. Has xs (s k) (piece k (s k) b)) n
    (pieces_stand piece m long s (suc a) (p + block_size (m a) (suc a) c) bs xs (pre ++ piece a p c)
    (is ∙ sym (append_assoc pre (piece a p c) (joined piece m (suc a) (p + block_size (m a) (suc a) c) bs)))
    (length-append pre (piece a p c) ∙ (rw (size, long a p c) refl))
    (λ x le. starts x (omega (arith, le)) ∙ start_high m a p x c bs le) i b at)

-- the next block begins behind a block
pub start_next : (m : ℕ → ℕ → List Op) (s : ℕ → ℕ) (a p : ℕ) (bs : List Block)
    → ((x : ℕ) → a ≤ x → s x ≡ start_of m a p bs x) → (i : ℕ) (b : Block) → slice_get bs i ≡ Some b
    → s (suc (a + i)) ≡ s (a + i) + block_size (m (a + i)) (suc (a + i)) b
start_next m s a p [] starts i b at = absurd (none-some b at)
start_next m s a p (c ∷ bs) starts zero b at =
    let size : ℕ = block_size (m a) (suc a) c in
    let here : s a ≡ p = starts a (omega arith) ∙ start_low m a p c bs in
    let after : s (suc a) ≡ p + size = starts (suc a) (omega arith)
    ∙ (start_high m a p (suc a) c bs (omega arith) ∙ start_end m (suc a) (p + size) bs) in
    let n : a ≡ a + 0 = omega arith in
    subst (λ k. s (suc k) ≡ s k + block_size (m k) (suc k) b) n
    (subst (λ d. s (suc a) ≡ s a + block_size (m a) (suc a) d) (same_Some c b at) (omega (arith, here, after)))
start_next m s a p (c ∷ bs) starts (suc i) b at =
    let n : suc a + i ≡ a + suc i = omega arith in
    subst (λ k. s (suc k) ≡ s k + block_size (m k) (suc k) b) n
    (start_next m s (suc a) (p + block_size (m a) (suc a) c) bs
    (λ x le. starts x (omega (arith, le)) ∙ start_high m a p x c bs le) i b at)

-- the code of a block with this number, at this place
abbrev pub code_piece : (ℕ → ℕ → List Op) → (ℕ → ℕ) → ℕ → ℕ → Block → List Op
code_piece m s a p b = block_code (m a) (suc a) s p b

pub codes_joined : (m : ℕ → ℕ → List Op) (s : ℕ → ℕ) (a p : ℕ) (bs : List Block)
    → codes m s a p bs ≡ joined (code_piece m s) m a p bs
codes_joined m s a p [] = refl
codes_joined m s a p (b ∷ bs) =
    ap (λ (l : List Op). block_code (m a) (suc a) s p b ++ l)
    (codes_joined m s (suc a) (p + block_size (m a) (suc a) b) bs)

-- the code of each block of a graph stands where the block begins
pub code_stands : (m : ℕ → ℕ → List Op) (g : Graph) (k : ℕ) (b : Block) → slice_get g.blocks k ≡ Some b
    → Has (graph_code m g) (starts m g (2 + k))
    (block_code (m (2 + k)) (suc (2 + k)) (starts m g) (starts m g (2 + k)) b)
code_stands m g k b at =
    pieces_stand (code_piece m (starts m g)) m (λ a p b. size_block (m a) (suc a) (starts m g) p b) (starts m g) 2
    (length (m 0 2)) g.blocks (graph_code m g) (m 0 2)
    (ap (λ (l : List Op). m 0 2 ++ l) (codes_joined m (starts m g) 2 (length (m 0 2)) g.blocks)) refl
    (λ x le. refl) k b at

pub next_stands : (m : ℕ → ℕ → List Op) (g : Graph) (k : ℕ) (b : Block) → slice_get g.blocks k ≡ Some b
    → starts m g (suc (2 + k)) ≡ starts m g (2 + k) + block_size (m (2 + k)) (suc (2 + k)) b
next_stands m g k b at = start_next m (starts m g) 2 (length (m 0 2)) g.blocks (λ x le. refl) k b at

block_stands : (m : ℕ → ℕ → List Op) (g : Graph) (k : ℕ) (b : Block) → slice_get g.blocks k ≡ Some b
    → Stands (graph_code m g) (starts m g) (m (2 + k)) (starts m g (2 + k)) b
block_stands m g k b at =
    let s : ℕ → ℕ = starts m g in
    let end : List Op = end_code (m (2 + k)) (suc (2 + k)) s (s (2 + k) + length b.ops) b.end in
    let parts = has_join (graph_code m g) (s (2 + k)) b.ops end (code_stands m g k b at) in
    let after : s (suc (2 + k)) ≡ s (2 + k) + block_size (m (2 + k)) (suc (2 + k)) b = next_stands m g k b at in
    let len : length (b.ops ++ end) ≡ length b.ops + length end = length-append b.ops end in
    let same : length (b.ops ++ end) ≡ block_size (m (2 + k)) (suc (2 + k)) b =
    size_block (m (2 + k)) (suc (2 + k)) s (s (2 + k)) b in
    record {
      does = parts.0;
      ends = closes (graph_code m g) (m (2 + k)) s (suc (2 + k)) b.end (s (2 + k) + length b.ops)
          (omega (arith, after, len, same)) parts.1;
    }

-- The code of a graph is laid out so.
pub laid_out : (m : ℕ → ℕ → List Op) (g : Graph) → LaidOut (starts m g) m g (graph_code m g)
laid_out m g = record {
  first = record {
    marked = has_within [] (m 0 2) (codes m (starts m g) 2 (length (m 0 2)) g.blocks);
    goes = inl (omega (arith, (start_end m 2 (length (m 0 2)) g.blocks)));
  };
  each = block_stands m g;
}
