-- The table of what leads to instructions holds what the list of jumps gives.
use Rattle.std.proofs.Common.{◌≡◌, ◌≢◌, refl, sym, ap, subst, ◌∙◌, ℕ, zero, suc, ◌+◌, ◌<◌, ◌≤◌, ◌==◌, ◌&&◌, Bool, true}
use Rattle.std.proofs.Common.{false, cond, List, [], ◌∷◌, ◌++◌, length, map, take, replicate, get_or, Option, Some, None}
use Rattle.std.proofs.Common.{arith, eqb-true, eq-eqb, drop, drop-cons}
use Rattle.std.specs.Prelude.{nat_lt, IfSome}
use Rattle.std.proofs.Math.ListN.{set, length-set}
use Rattle.std.proofs.lemmas.List.{map-append, get_or-set_same, get_or-set_other}
use Rattle.std.proofs.Math.Seq.{take-set-le, take-suc-set}
use Rattle.std.proofs.lemmas.Bool.{ltb-true, leb-true}
use Rattle.stack_ops.specs.declared.operation.Op.{Op}
use Rattle.stack_ops.specs.Code.{FunctionValue, CodeValue}
use Rattle.code_runs.specs.Checks.{Rule, Led, later, earlier, left_by, behind, goes_later, goes_earlier, ends_well}
use Rattle.code_runs.specs.Checks.{led_too, led, add_jump, jumps_on, before_next, unless, depth_kept}
use Rattle.code_runs.specs.Checks.{by_depth, broken_at, depth_of, or_later, broken_from, broken}
use Rattle.code_runs.proofs.CheckLaws.{or-none, and-both}
use Rattle.code_checks.specs.DepthTable.{depths_to, with_before, noted, led_here, with_here, rule_by, Goes}

-- ---- the order of ways doesn't matter

either_first : (a b : ℕ) → cond (a == b) (Led.By a) Led.Clash ≡ cond (b == a) (Led.By b) Led.Clash
either_first a b = go (a == b) (b == a) refl refl
  where
    go : (y z : Bool) → (a == b) ≡ y → (b == a) ≡ z → cond y (Led.By a) Led.Clash ≡ cond z (Led.By b) Led.Clash
    go true true p q = ap Led.By (eqb-true a b p)
    go false false p q = refl
    go true false p q = let e = eq-eqb b a (sym (eqb-true a b p)) in absurd (cc)
    go false true p q = let e = eq-eqb a b (sym (eqb-true b a q)) in absurd (cc)

turned : (a b : ℕ) (l : Led) → led_too a (led_too b l) ≡ led_too b (led_too a l)
turned a b Led.Nothing = either_first a b
turned a b Led.Clash = refl
turned a b (Led.By e) = go (b == e) (a == e) refl refl
  where
    go : (y z : Bool) → (b == e) ≡ y → (a == e) ≡ z
        → led_too a (cond y (Led.By b) Led.Clash) ≡ led_too b (cond z (Led.By a) Led.Clash)
    go true true p q = either_first a b
    go false false p q = refl
    go true false p q =
        let same : b ≡ e = eqb-true b e p in
        subst (λ n. cond (a == n) (Led.By a) Led.Clash ≡ Led.Clash) (sym same) (rw q refl)
    go false true p q =
        let same : a ≡ e = eqb-true a e q in
        subst (λ n. Led.Clash ≡ cond (b == n) (Led.By b) Led.Clash) (sym same) (rw p refl)

-- what leads to an instruction is what jumps there and what comes from the one before
led_apart : (i : ℕ) (before : Option ℕ) (jumps : List (ℕ × ℕ))
    → led i before jumps ≡ with_before before (led i None jumps)
led_apart i None jumps = refl
led_apart i (Some b) [] = refl
led_apart i (Some b) (j ∷ jumps) =
    subst (λ (l : Led). cond (j.0 == i) (led_too j.1 l) l
    ≡ led_too b (cond (j.0 == i) (led_too j.1 (led i None jumps)) (led i None jumps)))
    (sym (led_apart i (Some b) jumps)) (go (j.0 == i) (led i None jumps))
  where
    go : (z : Bool) (l : Led)
        → cond z (led_too j.1 (led_too b l)) (led_too b l) ≡ led_too b (cond z (led_too j.1 l) l)
    go true l = turned j.1 b l
    go false l = refl

-- ---- the table

-- the table holds the operands at the instructions that were tested, and the jumps to those that weren't
pub record Agrees (i : ℕ) (depths : List ℕ) (jumps : List (ℕ × ℕ)) (table : List Led) : Type 0 where
  pub done : depths_to i table ≡ depths
  pub ahead : (k : ℕ) → i ≤ k → k < length table → get_or table k Led.Nothing ≡ led k None jumps

here : (i : ℕ) (depths : List ℕ) (before : Option ℕ) (jumps : List (ℕ × ℕ)) (table : List Led)
    → Agrees i depths jumps table → i < length table → led_here i before table ≡ led i before jumps
here i depths before jumps table h lt =
    ap (with_before before) (h.ahead i (omega arith) lt) ∙ sym (led_apart i before jumps)

tested : (i : ℕ) (table : List Led) (l : Led) → i < length table
    → depths_to (suc i) (set table i l) ≡ depths_to i table ++ depth_of l ∷ []
tested i table l lt =
    ap (map depth_of) (take-suc-set table i l lt) ∙ map-append depth_of (take i table) (l ∷ [])

past : (i k : ℕ) (jumps : List (ℕ × ℕ)) (table : List Led) (l : Led) → suc i ≤ k
    → get_or table k Led.Nothing ≡ led k None jumps
    → get_or (set table i l) k Led.Nothing ≡ led k None jumps
past i k jumps table l le h =
    let other : k ≢ i = omega (arith, le) in get_or-set_other table i k l Led.Nothing other ∙ h

-- a jump to a later instruction leaves the operands at those that were tested
noted-done : (n : ℕ) (to : Option ℕ) (x : ℕ) (table : List Led) → IfSome to (λ w. n ≤ w)
    → depths_to n (noted to x table) ≡ depths_to n table
noted-done n None x table h = refl
noted-done n (Some w) x table h =
    ap (map depth_of) (take-set-le n table w (led_too x (get_or table w Led.Nothing)) h)

noted-ahead : (k : ℕ) (to : Option ℕ) (x : ℕ) (jumps : List (ℕ × ℕ)) (table : List Led) → k < length table
    → get_or table k Led.Nothing ≡ led k None jumps
    → get_or (noted to x table) k Led.Nothing ≡ led k None (add_jump to x jumps)
noted-ahead k None x jumps table lt h = h
noted-ahead k (Some w) x jumps table lt h = go (w == k) refl
  where
    go : (z : Bool) → (w == k) ≡ z
        → get_or (set table w (led_too x (get_or table w Led.Nothing))) k Led.Nothing
        ≡ cond z (led_too x (led k None jumps)) (led k None jumps)
    go true e =
        let same : w ≡ k = eqb-true w k e in
        subst (λ n. get_or (set table n (led_too x (get_or table n Led.Nothing))) k Led.Nothing
        ≡ led_too x (led k None jumps)) (sym same)
        (get_or-set_same table k (led_too x (get_or table k Led.Nothing)) Led.Nothing lt ∙ ap (led_too x) h)
    go false e =
        get_or-set_other table w k (led_too x (get_or table w Led.Nothing)) Led.Nothing (apart e) ∙ h
      where
        apart : (w == k) ≡ false → k ≢ w
        apart e same = let t = eq-eqb w k (sym same) in cc

noted-long : (to : Option ℕ) (x : ℕ) (table : List Led) → length (noted to x table) ≡ length table
noted-long None x table = refl
noted-long (Some w) x table = length-set table w (led_too x (get_or table w Led.Nothing))

-- ---- what is known of an instruction that breaks no rule

unless-kept : (b : Bool) (r : Rule) → unless b r ≡ None → b ≡ true
unless-kept true r h = refl
unless-kept false r h = absurd (cc)

jump_kept : (c : CodeValue) (f : FunctionValue) (i : ℕ) (o : Op) (depths : List ℕ) (l : Led)
    → broken_at c f i o depths l ≡ None → goes_later i (length f.ops) (later o) ≡ true
jump_kept c f i o depths l h =
    (and-both _ _ (unless-kept (goes_later i (length f.ops) (later o) && ends_well i (length f.ops) o) Rule.Jump
    (or-none (unless (goes_later i (length f.ops) (later o) && ends_well i (length f.ops) o) Rule.Jump) _ h).0)).0

goes-between : (i size : ℕ) (to : Option ℕ) → goes_later i size to ≡ true → IfSome to (λ w. (i < w) × (w < size))
goes-between i size None h = tt
goes-between i size (Some w) h =
    let k = and-both (nat_lt i w) (nat_lt w size) h in (ltb-true i w k.0, ltb-true w size k.1)

pub later-between : (c : CodeValue) (f : FunctionValue) (i : ℕ) (o : Op) (depths : List ℕ) (l : Led)
    → broken_at c f i o depths l ≡ None → IfSome (later o) (λ w. (i < w) × (w < length f.ops))
later-between c f i o depths l h =
    goes-between i (length f.ops) (later o) (jump_kept c f i o depths l h)

depth_rule : (c : CodeValue) (f : FunctionValue) (i : ℕ) (o : Op) (depths : List ℕ) (l : Led)
    → broken_at c f i o depths l ≡ None → by_depth c f depths o l ≡ None
depth_rule c f i o depths l h =
    (or-none (by_depth c f depths o l) _
    (or-none (unless (goes_earlier i (earlier o)) Rule.BackJump) _
    (or-none (unless (goes_later i (length f.ops) (later o) && ends_well i (length f.ops) o) Rule.Jump) _ h).1).1).0

behind_room : (c : CodeValue) (f : FunctionValue) (o : Op) (depths : List ℕ) (l : Led)
    → by_depth c f depths o l ≡ None → behind c.functions f o (depth_of l) ≤ f.depth
behind_room c f o depths Led.Nothing h = absurd (cc)
behind_room c f o depths Led.Clash h = absurd (cc)
behind_room c f o depths (Led.By d) h =
    let all = and-both _ _ (unless-kept (depth_kept c f depths o d) Rule.Depth h) in
    leb-true (behind c.functions f o d) f.depth (and-both _ _ (and-both _ _ all.1).1).0

pub behind-within : (c : CodeValue) (f : FunctionValue) (i : ℕ) (o : Op) (depths : List ℕ) (l : Led)
    → broken_at c f i o depths l ≡ None → behind c.functions f o (depth_of l) ≤ f.depth
behind-within c f i o depths l h = behind_room c f o depths l (depth_rule c f i o depths l h)

-- ---- the loop over the instructions

-- the instructions from i on break what the function does
pub record Holds (c : CodeValue) (f : FunctionValue) (i : ℕ) (before : Option ℕ) (os : List Op) (table : List Led) :
    Type 0 where
  pub depths : List ℕ
  pub jumps : List (ℕ × ℕ)
  pub agrees : Agrees i depths jumps table
  pub long : length table ≡ i + length os
  pub size : length table ≡ length f.ops
  pub told : broken_from c f i depths before jumps os ≡ broken c f

none_there : (n k : ℕ) → get_or (replicate n Led.Nothing) k Led.Nothing ≡ Led.Nothing
none_there zero k = refl
none_there (suc n) zero = refl
none_there (suc n) (suc k) = none_there n k

long_copies : (n : ℕ) → length (replicate n Led.Nothing) ≡ n
long_copies zero = refl
long_copies (suc n) = ap suc (long_copies n)

pub holds-start : (c : CodeValue) (f : FunctionValue) (table : List Led)
    → table ≡ replicate (length f.ops) Led.Nothing → Holds c f 0 (Some 0) f.ops table
holds-start c f table e = record {
  depths = [];
  jumps = [];
  agrees = record {
    done = refl;
    ahead = λ k le lt. rw e (none_there (length f.ops) k);
  };
  long = rw e (long_copies (length f.ops) ∙ omega arith);
  size = rw e (long_copies (length f.ops));
  told = refl;
}

-- the first rule of these instructions where the first of them breaks one
later-some : (i : ℕ) (a : Option Rule) (r : Rule) (rest : Option (ℕ × Rule)) → a ≡ Some r
    → or_later i a rest ≡ Some (i, r)
later-some i a r rest e = rw e refl

later-on : (i : ℕ) (a : Option Rule) (rest : Option (ℕ × Rule)) → a ≡ None → or_later i a rest ≡ rest
later-on i a rest e = rw e refl

-- the rule by the table is the rule by the lists
same_rule : (c : CodeValue) (f : FunctionValue) (i : ℕ) (before : Option ℕ) (o : Op) (os : List Op)
    (table : List Led) (h : Holds c f i before (o ∷ os) table)
    → rule_by c f i o before table
    ≡ broken_at c f i o (h.depths ++ depth_of (led i before h.jumps) ∷ []) (led i before h.jumps)
same_rule c f i before o os table h =
    let lt : i < length table = let e = h.long in omega (arith, e) in
    let l : led_here i before table ≡ led i before h.jumps = here i h.depths before h.jumps table h.agrees lt in
    let next : suc i ≡ i + 1 = omega arith in
    let d : depths_to (i + 1) (with_here i before table) ≡ h.depths ++ depth_of (led i before h.jumps) ∷ [] =
    subst (λ n. depths_to n (with_here i before table) ≡ h.depths ++ depth_of (led i before h.jumps) ∷ []) next
    (tested i table (led_here i before table) lt
    ∙ (ap (λ (ds : List ℕ). ds ++ depth_of (led_here i before table) ∷ []) h.agrees.done
    ∙ ap (λ (m : Led). h.depths ++ depth_of m ∷ []) l)) in
    ap (λ (ds : List ℕ). broken_at c f i o ds (led_here i before table)) d
    ∙ ap (broken_at c f i o (h.depths ++ depth_of (led i before h.jumps) ∷ [])) l

pub holds-broken : (c : CodeValue) (f : FunctionValue) (i : ℕ) (before : Option ℕ) (o : Op) (os : List Op)
    (table : List Led) (r : Rule) → Holds c f i before (o ∷ os) table → rule_by c f i o before table ≡ Some r
    → Some (i, r) ≡ broken c f
holds-broken c f i before o os table r h e =
    sym (later-some i (broken_at c f i o (h.depths ++ depth_of (led i before h.jumps) ∷ []) (led i before h.jumps)) r _
    (sym (same_rule c f i before o os table h) ∙ e)) ∙ h.told

pub holds-end : (c : CodeValue) (f : FunctionValue) (i : ℕ) (before : Option ℕ) (table : List Led)
    → Holds c f i before [] table → None ≡ broken c f
holds-end c f i before table h = h.told

pub holds-on : (c : CodeValue) (f : FunctionValue) (i : ℕ) (before : Option ℕ) (o : Op) (os : List Op)
    (table new : List Led) (next : Option ℕ) → Holds c f i before (o ∷ os) table
    → Goes c f i o before table new next → Holds c f (suc i) next os new
holds-on c f i before o os table new next h g =
    let lt : i < length table = let e = h.long in omega (arith, e) in
    let l : led_here i before table ≡ led i before h.jumps = here i h.depths before h.jumps table h.agrees lt in
    let d : ℕ = depth_of (led i before h.jumps) in
    let x : ℕ = left_by o d in
    let t : List Led = set table i (led i before h.jumps) in
    let kept : broken_at c f i o (h.depths ++ d ∷ []) (led i before h.jumps) ≡ None =
    sym (same_rule c f i before o os table h) ∙ g.kept in
    let between : IfSome (later o) (λ w. (i < w) × (w < length f.ops)) =
    later-between c f i o (h.depths ++ d ∷ []) (led i before h.jumps) kept in
    let put : new ≡ noted (later o) x t =
    g.table ∙ ap (λ (m : Led). noted (later o) (left_by o (depth_of m)) (set table i m)) l in
    let long : length new ≡ length table =
    ap length put ∙ (noted-long (later o) x t ∙ length-set table i (led i before h.jumps)) in
    record {
      depths = h.depths ++ d ∷ [];
      jumps = jumps_on o d h.jumps;
      agrees = record {
        done = ap (depths_to (suc i)) put
            ∙ (noted-done (suc i) (later o) x t (above (later o) between)
            ∙ (tested i table (led i before h.jumps) lt ∙ ap (λ (ds : List ℕ). ds ++ d ∷ []) h.agrees.done));
        ahead = λ k le kt.
            (let kt' : k < length table = omega (arith, kt, long) in
            ap (λ (m : List Led). get_or m k Led.Nothing) put
            ∙ noted-ahead k (later o) x h.jumps t (subst (λ n. k < n)
            (sym (length-set table i (led i before h.jumps))) kt')
            (past i k h.jumps table (led i before h.jumps) le (h.agrees.ahead k (omega (arith, le)) kt')));
      };
      long = (let e = h.long in omega (arith, e, long));
      size = long ∙ h.size;
      told = subst (λ b. broken_from c f (suc i) (h.depths ++ d ∷ []) b (jumps_on o d h.jumps) os ≡ broken c f)
          (sym (g.on ∙ ap (λ (m : Led). before_next c.functions f o (depth_of m)) l))
          (sym (later-on i (broken_at c f i o (h.depths ++ d ∷ []) (led i before h.jumps)) _ kept) ∙ h.told);
    }
  where
    above : (to : Option ℕ) → IfSome to (λ w. (i < w) × (w < length f.ops)) → IfSome to (λ w. suc i ≤ w)
    above None b = tt
    above (Some w) b = b.0

-- ---- the same over all instructions of a function

pub broken-here : (c : CodeValue) (f : FunctionValue) (i : ℕ) (before : Option ℕ) (ops : List Op) (d : Op)
    (table : List Led) (r : Rule) → i < length ops → Holds c f i before (drop i ops) table
    → rule_by c f i (get_or ops i d) before table ≡ Some r → Some (i, r) ≡ broken c f
broken-here c f i before ops d table r lt h e =
    holds-broken c f i before (get_or ops i d) (drop (suc i) ops) table r
    (subst (λ (os : List Op). Holds c f i before os table) (drop-cons ops i d lt) h) e

pub goes-here : (c : CodeValue) (f : FunctionValue) (i : ℕ) (before : Option ℕ) (ops : List Op) (d : Op)
    (table new : List Led) (next : Option ℕ) → i < length ops → Holds c f i before (drop i ops) table
    → Goes c f i (get_or ops i d) before table new next → Holds c f (i + 1) next (drop (i + 1) ops) new
goes-here c f i before ops d table new next lt h g =
    let one : suc i ≡ i + 1 = omega arith in
    subst (λ n. Holds c f n next (drop n ops) new) one
    (holds-on c f i before (get_or ops i d) (drop (suc i) ops) table new next
    (subst (λ (os : List Op). Holds c f i before os table) (drop-cons ops i d lt) h) g)
