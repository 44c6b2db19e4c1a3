-- Instructions that are put one behind another.
use Rattle.std.proofs.Common.{◌≡◌, ◌≢◌, sym, ap, ap₂, ◌∙◌, ℕ, suc, ◌+◌, ◌<◌, ◌≤◌}
use Rattle.std.proofs.Common.{List, [], ◌∷◌, ◌++◌, length, drop, get_or, arith, length-append, append_assoc}
use Rattle.std.proofs.Common.{append-nil, eq-eqb}
use Rattle.std.proofs.lemmas.Bool.{ne_eqb}
use Rattle.std.proofs.lemmas.List.{drop_more, drop_all}
use Rattle.stack_ops.specs.declared.operation.Op.{Op}
use Rattle.stack_ops.specs.declared.operation.Op.TheVariants as op
use Rattle.flow_graph.specs.Graph.{Block}
use Rattle.stack_code.specs.Laying.{is_bare, tail, branch, block_code, block_size, codes}
use Rattle.stack_code.proofs.LaidLaws.{size_block}
use Rattle.stack_code.proofs.StartLaws.{bare, not_bare}

pub tail_near_put : (next : ℕ) (ms : List Op) (t place : ℕ) (old new : List Op) → t ≡ next → new ≡ old ++ ms
    → new ≡ old ++ tail next ms t place
tail_near_put next ms t place old new e h =
    rw (eq-eqb t next e) (h ∙ ap (λ (l : List Op). old ++ l) (sym (append-nil ms)))

pub tail_far_put : (next : ℕ) (ms : List Op) (t place : ℕ) (old mid new : List Op) → t ≢ next → mid ≡ old ++ ms
    → new ≡ mid ++ op.Jump place ∷ [] → new ≡ old ++ tail next ms t place
tail_far_put next ms t place old mid new e h k =
    rw (ne_eqb t next e)
    (k ∙ ap (λ (l : List Op). l ++ op.Jump place ∷ []) h ∙ append_assoc old ms (op.Jump place ∷ []))

pub jump_put : (ms : List Op) (place : ℕ) (old mid new : List Op) → mid ≡ old ++ ms
    → new ≡ mid ++ op.Jump place ∷ [] → new ≡ old ++ (ms ++ op.Jump place ∷ [])
jump_put ms place old mid new h k =
    k ∙ ap (λ (l : List Op). l ++ op.Jump place ∷ []) h ∙ append_assoc old ms (op.Jump place ∷ [])

-- one operation and then others
pub behind_put : (o : Op) (rest old mid new : List Op) → mid ≡ old ++ o ∷ [] → new ≡ mid ++ rest
    → new ≡ old ++ o ∷ rest
behind_put o rest old mid new h k =
    k ∙ ap (λ (l : List Op). l ++ rest) h ∙ append_assoc old (o ∷ []) rest

pub branch_near_put : (m : ℕ → List Op) (next : ℕ) (start : ℕ → ℕ) (at t f : ℕ) (old mid new : List Op)
    → length (m f) ≡ 0 → mid ≡ old ++ op.IfZero (start f) ∷ [] → new ≡ mid ++ tail next (m t) t (start t)
    → new ≡ old ++ branch (is_bare (m f)) m next start at t f
branch_near_put m next start at t f old mid new e h k =
    rw (bare (m f) e) (behind_put (op.IfZero (start f)) (tail next (m t) t (start t)) old mid new h k)

pub branch_far_put : (m : ℕ → List Op) (next : ℕ) (start : ℕ → ℕ) (far t f : ℕ) (old one two new : List Op)
    → length (m f) ≢ 0 → far ≡ suc (length old) + (length (m t) + 1) → one ≡ old ++ op.IfZero far ∷ []
    → two ≡ one ++ (m t ++ op.Jump (start t) ∷ []) → new ≡ two ++ tail next (m f) f (start f)
    → new ≡ old ++ branch (is_bare (m f)) m next start (length old) t f
branch_far_put m next start far t f old one two new e n h k l =
    let first : List Op = m t ++ op.Jump (start t) ∷ [] in
    let second : List Op = tail next (m f) f (start f) in
    rw (not_bare (m f) e)
    (l ∙ ap (λ (x : List Op). x ++ second) k ∙ append_assoc one first second
    ∙ ap (λ (x : List Op). x ++ (first ++ second)) h ∙ append_assoc old (op.IfZero far ∷ []) (first ++ second)
    ∙ ap (λ (i : ℕ). old ++ op.IfZero i ∷ (first ++ second)) n)

-- how long a branch is at least
pub branch_long : (m : ℕ → List Op) (next : ℕ) (start : ℕ → ℕ) (at t f : ℕ) → length (m f) ≢ 0
    → length (m t) + 2 ≤ length (branch (is_bare (m f)) m next start at t f)
branch_long m next start at t f e =
    let first : List Op = m t ++ op.Jump (start t) ∷ [] in
    let second : List Op = tail next (m f) f (start f) in
    let i = length-append first second in
    let j = length-append (m t) (op.Jump (start t) ∷ []) in
    rw (not_bare (m f) e) (omega (arith, i, j))

pub switch_put : (tests rest stubs old one two three new : List Op) → one ≡ old ++ tests → two ≡ one ++ op.Drop ∷ []
    → three ≡ two ++ rest → new ≡ three ++ stubs → new ≡ old ++ (tests ++ ((op.Drop ∷ rest) ++ stubs))
switch_put tests rest stubs old one two three new h k l n =
    n ∙ ap (λ (x : List Op). x ++ stubs) l ∙ append_assoc two rest stubs
    ∙ ap (λ (x : List Op). x ++ (rest ++ stubs)) k ∙ append_assoc one (op.Drop ∷ []) (rest ++ stubs)
    ∙ ap (λ (x : List Op). x ++ op.Drop ∷ (rest ++ stubs)) h
    ∙ append_assoc old tests (op.Drop ∷ (rest ++ stubs))

-- a block and its ending
pub block_put : (ops end old mid new : List Op) → mid ≡ old ++ ops → new ≡ mid ++ end → new ≡ old ++ (ops ++ end)
block_put ops end old mid new h k = k ∙ ap (λ (x : List Op). x ++ end) h ∙ append_assoc old ops end

-- ---- the loop over blocks

pub codes_step : (m : ℕ → ℕ → List Op) (s : ℕ → ℕ) (bs : List Block) (d : Block) (k a n : ℕ) (old new whole : List Op)
    → k < length bs → n ≡ suc a
    → new ≡ old ++ block_code (m a) (suc a) s (length old) (get_or bs k d)
    → old ++ codes m s a (length old) (drop k bs) ≡ whole
    → new ++ codes m s n (length new) (drop (k + 1) bs) ≡ whole
codes_step m s bs d k a n old new whole l e h whole_is =
    let b : Block = get_or bs k d in
    let code : List Op = block_code (m a) (suc a) s (length old) b in
    let size : length new ≡ length old + block_size (m a) (suc a) b =
    ap (λ (x : List Op). length x) h ∙ (length-append old code
    ∙ ap (λ (i : ℕ). length old + i) (size_block (m a) (suc a) s (length old) b)) in
    ap₂ (λ (x : List Op) (i : ℕ). x ++ codes m s i (length new) (drop (k + 1) bs)) h e
    ∙ ap (λ (p : ℕ). (old ++ code) ++ codes m s (suc a) p (drop (k + 1) bs)) size
    ∙ append_assoc old code (codes m s (suc a) (length old + block_size (m a) (suc a) b) (drop (k + 1) bs))
    ∙ ap (λ (rest : List Block). old ++ codes m s a (length old) rest) (sym (drop_more bs k d l)) ∙ whole_is

pub codes_end : (m : ℕ → ℕ → List Op) (s : ℕ → ℕ) (bs : List Block) (k a : ℕ) (old whole : List Op) → length bs ≤ k
    → old ++ codes m s a (length old) (drop k bs) ≡ whole → old ≡ whole
codes_end m s bs k a old whole l h =
    sym (append-nil old)
    ∙ ap (λ (rest : List Block). old ++ codes m s a (length old) rest) (sym (drop_all k bs l)) ∙ h

-- the next block has room
pub codes_room : (m : ℕ → ℕ → List Op) (s : ℕ → ℕ) (bs : List Block) (d : Block) (k a : ℕ) (old whole : List Op)
    → k < length bs → old ++ codes m s a (length old) (drop k bs) ≡ whole
    → length old + length (block_code (m a) (suc a) s (length old) (get_or bs k d)) ≤ length whole
codes_room m s bs d k a old whole l h =
    let b : Block = get_or bs k d in
    let code : List Op = block_code (m a) (suc a) s (length old) b in
    let rest : List Op = codes m s (suc a) (length old + block_size (m a) (suc a) b) (drop (k + 1) bs) in
    let all : old ++ (code ++ rest) ≡ whole =
    ap (λ (rest : List Block). old ++ codes m s a (length old) rest) (sym (drop_more bs k d l)) ∙ h in
    let i = length-append old (code ++ rest) in
    let j = length-append code rest in
    let n = ap (λ (x : List Op). length x) all in
    omega (arith, i, j, n)
