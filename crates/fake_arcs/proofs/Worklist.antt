-- Marks that a worklist spreads are those of the kept blocks.
use Rattle.std.proofs.Common.{◌≡◌, refl, sym, ap, subst, ◌∙◌, ℕ, zero, suc, ◌+◌, ◌-◌, ◌≤◌, ◌<◌, ◌||◌, ◌&&◌, ◌==◌, List}
use Rattle.std.proofs.Common.{[], ◌∷◌, ◌++◌, map, length, get_or, set, Bool, true, false, not, cond, ◌⊎◌, inl, inr}
use Rattle.std.proofs.Common.{arith, eq-eqb, eqb-true, get_or-set_other, get_or-set_same, length-set, length-append}
use Rattle.std.specs.Prelude.{ℤ, Some, slice_get, nat_lt, nat_le, replicate}
use Rattle.std.specs.List.{count_by}
use Rattle.std.proofs.lemmas.Bool.{both_ways, or_cases, or_left, or_right, and_parts}
use Rattle.std.proofs.lemmas.Bool.{and_cases, cases_eq, cases_lt, ltb-true}
use Rattle.std.proofs.lemmas.Bool.{leb-true, lt-ltb, le-leb, not-true, not-false}
use Rattle.std.proofs.lemmas.Option.{slice_get_within, slice_get-get_or}
use Rattle.std.proofs.lemmas.List.{get_or_past, length-replicate, get_or-replicate}
use Rattle.std.proofs.lemmas.List.Sums.{sum_by-set}
use Rattle.flow_graph.specs.Graph.{Ending, Block}
use Rattle.flow_graph.specs.Nets.{targets, among, reached}
use Rattle.fake_arcs.specs.Tidy.{Way}
use Rattle.fake_arcs.specs.Marking.{MarkingValue, goals_of, is_new, with_mark, with_marks, first_marked, AreReached}
use Rattle.fake_arcs.proofs.Reaching.{reached_two, reached_closed, reached_way}
use Rattle.fake_arcs.proofs.Lockstep.{among_line, itself}
use Rattle.fake_arcs.proofs.Tidied.{among_cases}

-- ---- lists

among_append : (b : ℕ) (xs ys : List ℕ) → among b (xs ++ ys) ≡ (among b xs || among b ys)
among_append b [] ys = refl
among_append b (x ∷ xs) ys = go (b == x) (among_append b xs ys)
  where
    go : (c : Bool) → among b (xs ++ ys) ≡ (among b xs || among b ys)
        → (c || among b (xs ++ ys)) ≡ ((c || among b xs) || among b ys)
    go true e = refl
    go false e = e

among_left : (b : ℕ) (xs ys : List ℕ) → among b xs ≡ true → among b (xs ++ ys) ≡ true
among_left b xs ys h = among_append b xs ys ∙ or_left _ _ h

among_right : (b : ℕ) (xs ys : List ℕ) → among b ys ≡ true → among b (xs ++ ys) ≡ true
among_right b xs ys h = among_append b xs ys ∙ or_right _ _ h

among_one : (b x : ℕ) → among b (x ∷ []) ≡ true → b ≡ x
among_one b x h = elim (or_cases (b == x) false h) [ inl e ↦ eqb-true b x e | inr never ↦ absurd (cc) ]

-- the targets are what stands in an ending
pub goals_target : (e : Ending) (t : ℕ) → among t (goals_of e) ≡ true → among t (targets e) ≡ true
goals_target (Ending.Jump s) t h = h
goals_target (Ending.Back s) t h = h
goals_target (Ending.Branch a b) t h = among_line a t (b ∷ []) h
goals_target (Ending.Switch [] default) t h = h
goals_target (Ending.Switch (c ∷ cases) default) t h =
    among_line c.1 t (targets (Ending.Switch cases default))
    (elim (or_cases (t == c.1) (among t (map (λ c. c.1) cases ++ default ∷ [])) h) [
      | inl e ↦ or_left _ _ e
      | inr l ↦ or_right _ _ (goals_target (Ending.Switch cases default) t l)
    ])
goals_target (Ending.Call f line next) t h = h
goals_target Ending.Return t h = h
goals_target Ending.Exit t h = h

pub target_goals : (e : Ending) (t : ℕ) → among t (targets e) ≡ true → among t (goals_of e) ≡ true
target_goals (Ending.Jump s) t h = h
target_goals (Ending.Back s) t h = h
target_goals (Ending.Branch a b) t h =
    elim (among_cases a t (b ∷ []) h) [ inl e ↦ or_left _ _ e | inr l ↦ or_right _ _ l ]
target_goals (Ending.Switch [] default) t h = h
target_goals (Ending.Switch (c ∷ cases) default) t h =
    elim (among_cases c.1 t (targets (Ending.Switch cases default)) h) [
      | inl e ↦ or_left _ _ e
      | inr l ↦ or_right _ _ (target_goals (Ending.Switch cases default) t l)
    ]
target_goals (Ending.Call f line next) t h = h
target_goals Ending.Return t h = h
target_goals Ending.Exit t h = h

-- ---- one mark more

abbrev pub is_marked : MarkingValue → ℕ → Bool
is_marked m k = get_or m.marks k false

marked_within : (m : MarkingValue) (k : ℕ) → is_marked m k ≡ true → k < length m.marks
marked_within m k h = elim (cases_lt k (length m.marks))
    [ inl l ↦ l | inr past ↦ absurd (both_ways _ (get_or_past m.marks k false past) h) ]

-- what holds of a marking and of what it becomes by these targets
record Spreads (ts : List ℕ) (old new : MarkingValue) : Type 0 where
  pub long : length new.marks ≡ length old.marks
  pub keeps : (k : ℕ) → is_marked old k ≡ true → is_marked new k ≡ true
  pub still : (k : ℕ) → among k old.todo ≡ true → among k new.todo ≡ true
  pub only : (k : ℕ) → is_marked new k ≡ true → (is_marked old k ≡ true)
      ⊎ ((among (2 + k) ts ≡ true) × (among k new.todo ≡ true))
  pub all : (t : ℕ) → among t ts ≡ true → 2 ≤ t → t < 2 + length old.marks → is_marked new (t - 2) ≡ true
  pub todo : (k : ℕ) → among k new.todo ≡ true → (among k old.todo ≡ true) ⊎ (is_marked new k ≡ true)
  pub weight : count_by not new.marks + length new.todo ≡ count_by not old.marks + length old.todo

fewer : (marks : List Bool) (i : ℕ) → i < length marks → get_or marks i false ≡ false
    → suc (count_by not (set marks i true)) ≡ count_by not marks
fewer marks i l h =
    let e : count_by not (set marks i true) + cond (not (get_or marks i false)) 1 0 ≡ count_by not marks + 0 =
    sum_by-set (λ b. cond (not b) 1 0) marks i true false l in
    let one : cond {A = ℕ} (not (get_or marks i false)) 1 0 ≡ cond {A = ℕ} (not false) 1 0 =
    ap (λ (b : Bool). cond {A = ℕ} (not b) 1 0) h in
    omega (arith, e, one)

mark_spreads : (t : ℕ) (m : MarkingValue) → Spreads (t ∷ []) m (with_mark t m)
mark_spreads t m = go (is_new m.marks t) refl
  where
    marked : MarkingValue
    marked = record { marks = set m.marks (t - 2) true; todo = m.todo ++ (t - 2) ∷ [] }

    go : (x : Bool) → is_new m.marks t ≡ x → Spreads (t ∷ []) m (cond x marked m)
    go false e = record {
      long = refl;
      keeps = λ k h. h;
      still = λ k h. h;
      only = λ k h. inl h;
      all = λ s h low high. old s (among_one s t h) low high;
      todo = λ k h. inl h;
      weight = refl;
    }
      where
        old : (s : ℕ) → s ≡ t → 2 ≤ s → s < 2 + length m.marks → is_marked m (s - 2) ≡ true
        old s same low high =
            subst (λ r. is_marked m (r - 2) ≡ true) (sym same)
            (elim (and_cases (nat_le 2 t) (nat_lt (t - 2) (length m.marks) && not (get_or m.marks (t - 2) false)) e) [
              | inl f ↦ absurd (both_ways _ f (le-leb 2 t (omega (arith, same, low))))
              | inr g ↦ elim (and_cases (nat_lt (t - 2) (length m.marks)) (not (get_or m.marks (t - 2) false)) g) [
                | inl f ↦ absurd (both_ways _ f (lt-ltb (t - 2) (length m.marks) (omega (arith, same, high, low))))
                | inr f ↦ not-false _ f
              ]
            ])
    go true e = record {
      long = length-set m.marks (t - 2) true;
      keeps = λ k h. kept k h (cases_eq k (t - 2));
      still = λ k h. among_left k m.todo ((t - 2) ∷ []) h;
      only = λ k h. elim (cases_eq k (t - 2)) [
        | inl same ↦ inr (
          or_left _ _ (eq-eqb (2 + k) t (omega (arith, same, low))),
          among_right k m.todo ((t - 2) ∷ []) (or_left _ _ (eq-eqb k (t - 2) same)),
        )
        | inr other ↦ inl (sym (get_or-set_other m.marks (t - 2) k true false other) ∙ h)
      ];
      all = λ s h l u. subst (λ r. is_marked marked (r - 2) ≡ true) (sym (among_one s t h)) mine;
      todo =
          λ k h. elim (or_cases (among k m.todo) (among k ((t - 2) ∷ []))
          (sym (among_append k m.todo ((t - 2) ∷ [])) ∙ h)) [
            | inl l ↦ inl l
            | inr r ↦ inr (subst (λ r. is_marked marked r ≡ true) (sym (among_one k (t - 2) r)) mine)
          ];
      weight = (let a = length-append m.todo ((t - 2) ∷ []) in let b = fewer m.marks (t - 2) within unmarked in
          omega (arith, a, b));
    }
      where
        low : 2 ≤ t
        low =
            leb-true 2 t
            (and_parts (nat_le 2 t) (nat_lt (t - 2) (length m.marks) && not (get_or m.marks (t - 2) false)) e).0

        within : t - 2 < length m.marks
        within = ltb-true (t - 2) (length m.marks)
            (and_parts (nat_lt (t - 2) (length m.marks)) (not (get_or m.marks (t - 2) false))
            (and_parts (nat_le 2 t) (nat_lt (t - 2) (length m.marks) && not (get_or m.marks (t - 2) false)) e).1).0

        unmarked : get_or m.marks (t - 2) false ≡ false
        unmarked = not-true _ (and_parts (nat_lt (t - 2) (length m.marks)) (not (get_or m.marks (t - 2) false))
            (and_parts (nat_le 2 t) (nat_lt (t - 2) (length m.marks) && not (get_or m.marks (t - 2) false)) e).1).1

        mine : is_marked marked (t - 2) ≡ true
        mine = get_or-set_same m.marks (t - 2) true false within

        kept : (k : ℕ) → is_marked m k ≡ true → (k ≡ t - 2) ⊎ (k ≡ t - 2 → ⊥) → is_marked marked k ≡ true
        kept k h (inl same) = subst (λ r. is_marked marked r ≡ true) (sym same) mine
        kept k h (inr other) = get_or-set_other m.marks (t - 2) k true false other ∙ h

marks_spread : (ts : List ℕ) (m : MarkingValue) → Spreads ts m (with_marks ts m)
marks_spread [] m = record {
  long = refl;
  keeps = λ k h. h;
  still = λ k h. h;
  only = λ k h. inl h;
  all =
      λ t h low high. absurd (cc);
  todo = λ k h. inl h;
  weight = refl;
}
marks_spread (t ∷ ts) m =
    let a = mark_spreads t m in
    let b = marks_spread ts (with_mark t m) in
    record {
      long = b.long ∙ a.long;
      keeps = λ k h. b.keeps k (a.keeps k h);
      still = λ k h. b.still k (a.still k h);
      only = λ k h. elim (b.only k h) [
        | inl old ↦ elim (a.only k old) [
          | inl older ↦ inl older
          | inr new ↦ inr (or_left _ _ (eq-eqb (2 + k) t (among_one (2 + k) t new.0)), b.still k new.1)
        ]
        | inr new ↦ inr (or_right _ _ new.0, new.1)
      ];
      all = λ s h low high. elim (or_cases (s == t) (among s ts) h) [
        | inl e ↦ b.keeps (s - 2) (a.all s (or_left _ _ e) low high)
        | inr l ↦ b.all s l low (let e = a.long in omega (arith, high, e))
      ];
      todo = λ k h. elim (b.todo k h) [
        | inl old ↦ elim (a.todo k old) [ inl older ↦ inl older | inr marked ↦ inr (b.keeps k marked) ]
        | inr marked ↦ inr marked
      ];
      weight = b.weight ∙ a.weight;
    }

-- ---- the worklist

-- what holds of a marking at each moment
pub record Marked (blocks : List Block) (m : MarkingValue) : Type 0 where
  pub long : length m.marks ≡ length blocks
  pub sound : (k : ℕ) → is_marked m k ≡ true → among (2 + k) (reached blocks) ≡ true
  pub closed : (k t : ℕ) (block : Block) → is_marked m k ≡ true → slice_get blocks k ≡ Some block
      → among t (targets block.end) ≡ true → 2 ≤ t → t < 2 + length blocks
      → (among k m.todo ≡ true) ⊎ (is_marked m (t - 2) ≡ true)
  pub todo : (k : ℕ) → among k m.todo ≡ true → is_marked m k ≡ true
  pub first : 0 < length blocks → is_marked m 0 ≡ true

-- a block of the worklist is taken and its targets marked
pub marked_step : (blocks : List Block) (old : MarkingValue) (rest : List ℕ) (k : ℕ) (block : Block)
    → Marked blocks old → old.todo ≡ rest ++ k ∷ [] → slice_get blocks k ≡ Some block
    → Marked blocks (with_marks (goals_of block.end) (record { marks = old.marks; todo = rest }))
marked_step blocks old rest k block h e at = record {
  long = s.long ∙ h.long;
  sound = λ j l. elim (s.only j l) [
    | inl was ↦ h.sound j was
    | inr new ↦ reached_closed blocks k (2 + j) block at (h.sound k mine) (goals_target block.end (2 + j) new.0)
        (omega arith)
        (let w = marked_within (with_marks (goals_of block.end) mid) j l in let a = s.long in let b = h.long in
        omega (arith, w, a, b))
  ];
  closed = λ j t other l there target low high. elim (s.only j l) [
    | inl was ↦ elim (h.closed j t other was there target low high) [
      | inl waits ↦
          elim (or_cases (among j rest) (among j (k ∷ []))
          (sym (among_append j rest (k ∷ [])) ∙ subst (λ l. among j l ≡ true) e waits)) [
            | inl r ↦ inl (s.still j r)
            | inr this ↦ inr (s.all t (target_goals block.end t
                (let same : Some other ≡ Some block = sym there ∙ ap (slice_get blocks) (among_one j k this) ∙ at in
                let other_is : other ≡ block = cc in subst (λ (x : Block). among t (targets x.end) ≡ true) other_is
                target)) low (let b = h.long in omega (arith, high, b)))
          ]
      | inr marked ↦ inr (s.keeps (t - 2) marked)
    ]
    | inr new ↦ inl new.1
  ];
  todo = λ j l. elim (s.todo j l) [
    | inl was ↦ s.keeps j (h.todo j (subst (λ l. among j l ≡ true) (sym e) (among_left j rest (k ∷ []) was)))
    | inr marked ↦ marked
  ];
  first = λ some. s.keeps 0 (h.first some);
}
  where
    mid : MarkingValue
    mid = record { marks = old.marks; todo = rest }

    s : Spreads (goals_of block.end) mid (with_marks (goals_of block.end) mid)
    s = marks_spread (goals_of block.end) mid

    mine : is_marked old k ≡ true
    mine = h.todo k (subst (λ l. among k l ≡ true) (sym e) (among_right k rest (k ∷ []) (itself k [])))

pub step_weight : (ts : List ℕ) (marks : List Bool) (rest : List ℕ)
    → count_by not (with_marks ts (record { marks = marks; todo = rest })).marks + length
    (with_marks ts (record { marks = marks; todo = rest })).todo ≡ count_by not marks + length rest
step_weight ts marks rest = (marks_spread ts (record { marks = marks; todo = rest })).weight

way_marked : (blocks : List Block) (m : MarkingValue) → Marked blocks m → m.todo ≡ [] → 0 < length blocks → (n k : ℕ)
    → k < length blocks → Way blocks n (2 + k) → is_marked m k ≡ true
way_marked blocks m h e some zero k l way = subst (λ i. is_marked m i ≡ true) (omega (arith, way)) (h.first some)
way_marked blocks m h e some (suc n) k l (a, j, block, way, same, at, t) =
    let within = slice_get_within blocks j block at in
    let before = way_marked blocks m h e some n j within (subst (Way blocks n) same way) in
    elim (h.closed j (2 + k) block before at t (omega arith) (omega (arith, l))) [
      | inl waits ↦ absurd (let never : among j [] ≡ true = subst (λ l. among j l ≡ true) e waits in
          both_ways _ refl never)
      | inr marked ↦ subst (λ i. is_marked m i ≡ true) (omega arith) marked
    ]

-- where nothing waits, the marks are those of the kept blocks
pub marked_all : (blocks : List Block) (m : MarkingValue) → Marked blocks m → m.todo ≡ [] → AreReached blocks m.marks
marked_all blocks m h e = record {
  long = h.long;
  each = λ k l. go k l (is_marked m k) refl (among (2 + k) (reached blocks)) refl;
}
  where
    go : (k : ℕ) → k < length blocks → (x : Bool) → is_marked m k ≡ x → (y : Bool) → among (2 + k) (reached blocks) ≡ y
        → x ≡ y
    go k l true ex true ey = refl
    go k l true ex false ey = absurd (both_ways _ ey (h.sound k ex))
    go k l false ex true ey = absurd
        (both_ways _ ex (let w = reached_way blocks (2 + k) ey in
        way_marked blocks m h e (omega (arith, l)) w.0 k l w.1))
    go k l false ex false ey = refl

none_marked : (n k : ℕ) → get_or (replicate n false) k false ≡ false
none_marked n k = elim (cases_lt k n) [
  | inl l ↦ get_or-replicate n k false false l
  | inr past ↦ get_or_past (replicate n false) k false (let e = length-replicate n false in omega (arith, e, past))
]

pub marked_first : (blocks : List Block) → Marked blocks (first_marked (length blocks))
marked_first blocks = record {
  long = s.long ∙ length-replicate (length blocks) false;
  sound = λ k l. elim (s.only k l) [
    | inl was ↦ absurd (both_ways _ (none_marked (length blocks) k) was)
    | inr new ↦ subst (λ i. among i (reached blocks) ≡ true) (sym (among_one (2 + k) 2 new.0)) (reached_two blocks)
  ];
  closed = λ k t block l at target low high. elim (s.only k l) [
    | inl was ↦ absurd (both_ways _ (none_marked (length blocks) k) was)
    | inr new ↦ inl new.1
  ];
  todo = λ k l. elim (s.todo k l) [ inl was ↦ absurd (cc) | inr marked ↦ marked ];
  first = λ some. s.all 2 refl (omega arith) (let e = length-replicate (length blocks) false in omega (arith, e, some));
}
  where
    none : MarkingValue
    none = record { marks = replicate (length blocks) false; todo = [] }

    s : Spreads (2 ∷ []) none (first_marked (length blocks))
    s = mark_spreads 2 none

-- the cases' targets and then the default's
pub cases_marks : (cases : List (ℤ × ℕ)) (default : ℕ) (m : MarkingValue)
    → with_mark default (with_marks (map (λ c. c.1) cases) m)
    ≡ with_marks (goals_of (Ending.Switch (map (λ c. (c.0, c.1)) cases) default)) m
cases_marks [] default m = refl
cases_marks (c ∷ cases) default m = cases_marks cases default (with_mark c.1 m)

pub taken_within : (blocks : List Block) (old : MarkingValue) (rest : List ℕ) (k : ℕ) → Marked blocks old
    → old.todo ≡ rest ++ k ∷ [] → k < length blocks
taken_within blocks old rest k h e =
    let w =
    marked_within old k
    (h.todo k (subst (λ l. among k l ≡ true) (sym e) (among_right k rest (k ∷ []) (itself k [])))) in
    let long = h.long in
    omega (arith, w, long)

-- one of those that wait is taken, and its targets are marked
pub taken_step : (blocks : List Block) (old mid new : MarkingValue) (k : ℕ) (block : Block) → Marked blocks old
    → mid.marks ≡ old.marks → old.todo ≡ mid.todo ++ k ∷ [] → block ≡ get_or blocks k block
    → new ≡ with_marks (goals_of block.end) mid
    → Marked blocks new × (count_by not new.marks + length new.todo < count_by not old.marks + length old.todo)
taken_step blocks old mid new k block h marks todo is e =
    let at : slice_get blocks k ≡ Some block =
    slice_get-get_or blocks k block (taken_within blocks old mid.todo k h todo) ∙ ap Some (sym is) in
    let same : new ≡ with_marks (goals_of block.end) (record { marks = old.marks; todo = mid.todo }) = e
    ∙ ap (λ (m : List Bool). with_marks (goals_of block.end) (record { marks = m; todo = mid.todo })) marks in (
      subst (Marked blocks) (sym same) (marked_step blocks old mid.todo k block h todo at),
      (let w = step_weight (goals_of block.end) old.marks mid.todo in
          let a : count_by not new.marks
          ≡ count_by not (with_marks (goals_of block.end) (record { marks = old.marks; todo = mid.todo })).marks =
          ap (λ (m : MarkingValue). count_by not m.marks) same in
          let b : length new.todo ≡ length
          (with_marks (goals_of block.end) (record { marks = old.marks; todo = mid.todo })).todo =
          ap (λ (m : MarkingValue). length m.todo) same in
          let c : length old.todo ≡ length (mid.todo ++ k ∷ []) = ap length todo in
          let d = length-append mid.todo (k ∷ []) in
          omega (arith, w, a, b, c, d)),
    )
