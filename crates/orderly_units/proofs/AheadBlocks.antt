-- The blocks of a graph to which a way leads without an arc back: an arc back leads from one of them to one of them.
use Rattle.std.proofs.Common.{◌≡◌, refl, sym, ap, subst, ◌∙◌, ℕ, zero, suc, ◌+◌, ◌-◌, ◌<◌, ◌≤◌, ◌&&◌, Bool, true, false}
use Rattle.std.proofs.Common.{List, [], ◌∷◌, ◌++◌, length, length-append, map, Option, Some, None, slice_get, ◌⊎◌}
use Rattle.std.proofs.Common.{inl, inr}
use Rattle.std.proofs.Common.{arith, option_map, eqb-true, ◌==◌}
use Rattle.std.proofs.lemmas.Bool.{and_parts, and_from, or_cases, or_left, or_right, eqb-false}
use Rattle.std.proofs.lemmas.Option.{same_Some, none-some, slice_get-map}
use Rattle.flow_graph.specs.Graph.{Block}
use Rattle.flow_graph.specs.Nets.{targets, among}
use Rattle.c_lower.specs.Items.{Name, Close, items_of, gives_number}
use Rattle.c_lower.specs.Lowered.{Named, is_name, add_line, opened, numbered, block_of, named_blocks, graph_of}
use Rattle.c_lower.proofs.NameLaws.{in_order_of}
use Rattle.c_lower.proofs.OrderLaws.{its_own}
use Rattle.lower_agrees.specs.Agreement.{EndsWell, is_back}
use Rattle.lower_agrees.proofs.Finds.{one_more}
use Rattle.lower_agrees.proofs.Runs.{Site, Stands, number}
use Rattle.lower_agrees.proofs.Targets.{HasBlock, Behind, BlocksAimed, blocks_aimed, targets_stand}
use Rattle.operand_depths.proofs.Tables.{there}
use Rattle.stack_code.proofs.Aims.{Aims, aims_of, aims_in}
use Rattle.stack_code.proofs.Levels.{aims_both}
use Rattle.orderly_units.proofs.Alive.{leads, ahead, begun, OnBack, HaveNumbers, Ended, on_back_more, same_name}
use Rattle.orderly_units.proofs.Alive.{leads_in}
use Rattle.orderly_units.proofs.NamedBlocks.{is_alive, AllKept, FirstKept, none}

-- so many arcs, none of them back, lead from the first block to the block at this place
abbrev pub Ahead : List Block → ℕ → ℕ → Type 0
Ahead blocks zero k = k ≡ 0
Ahead blocks (suc n) k = (i : ℕ) × (b : Block) × Ahead blocks n i × (slice_get blocks i ≡ Some b)
    × (is_back b.end ≡ false) × (among (2 + k) (targets b.end) ≡ true)

-- some do
abbrev pub IsAhead : List Block → ℕ → Type 0
IsAhead blocks k = (n : ℕ) × Ahead blocks n k

-- what stands in a list that is made of another is made of what stands there
pub made_of : {A B : Type 0} (f : A → B) (xs : List A) (k : ℕ) (y : B) → slice_get (map f xs) k ≡ Some y
    → (x : A) × (slice_get xs k ≡ Some x) × (f x ≡ y)
made_of f [] k y e = absurd (none-some y e)
made_of f (x ∷ xs) zero y e = (x, refl, same_Some (f x) y e)
made_of f (x ∷ xs) (suc k) y e = made_of f xs k y e

-- what stands at equal places is equal
same_place : {A : Type 0} (xs : List A) (i j : ℕ) (x y : A) → i ≡ j → slice_get xs i ≡ Some x
    → slice_get xs j ≡ Some y → x ≡ y
same_place xs i j x y e there here = same_Some x y (sym there ∙ ap (λ (k : ℕ). slice_get xs k) e ∙ here)

-- ---- names and numbers in an ending

module _ (f : Name → ℕ) where
  leads_forth : (l : Name) (c : Close) → leads l c ≡ true → is_back (numbered f c) ≡ false
  leads_forth l (Close.Jump n) h = refl
  leads_forth l (Close.Back n) h = absurd (let never : false ≡ true = h in cc)
  leads_forth l (Close.Branch a b) h = refl
  leads_forth l (Close.Select cases default) h = refl
  leads_forth l (Close.CallTo g line n) h = refl
  leads_forth l Close.Leave h = refl
  leads_forth l Close.Quit h = refl

  -- what an ending goes to by numbers, it leads on to by names
  aims_lead : (P : ℕ → Type 0) (l : Name) (c : Close) → Aims P (numbered f c) → leads l c ≡ true → P (f l)
  aims_lead P l (Close.Jump n) a h = subst (λ (k : Name). P (f k)) (sym (same_name l n h)) a
  aims_lead P l (Close.Back n) a h = absurd (let never : false ≡ true = h in cc)
  aims_lead P l (Close.Branch x y) a h = elim (or_cases (is_name l (Some x)) (is_name l (Some y)) h) [
    | inl e ↦ subst (λ (k : Name). P (f k)) (sym (same_name l x e)) a.0
    | inr e ↦ subst (λ (k : Name). P (f k)) (sym (same_name l y e)) a.1
  ]
  aims_lead P l (Close.Select [] default) a h = subst (λ (k : Name). P (f k)) (sym (same_name l default h)) a
  aims_lead P l (Close.Select (c ∷ cases) default) a h =
      elim (or_cases (is_name l (Some c.1)) (leads l (Close.Select cases default)) h) [
        | inl e ↦ subst (λ (k : Name). P (f k)) (sym (same_name l c.1 e)) a.0
        | inr e ↦ aims_lead P l (Close.Select cases default) a.1 e
      ]
  aims_lead P l (Close.CallTo g line n) a h = subst (λ (k : Name). P (f k)) (sym (same_name l n h)) a
  aims_lead P l Close.Leave a h = absurd (let never : false ≡ true = h in cc)
  aims_lead P l Close.Quit a h = absurd (let never : false ≡ true = h in cc)

  -- the number is that of a name to which the ending leads on
  abbrev Meant : Close → ℕ → Type 0
  Meant c t = (l : Name) × (leads l c ≡ true) × (f l ≡ t)

  lead_aims : (c : Close) → is_back (numbered f c) ≡ false → Aims (Meant c) (numbered f c)
  lead_aims (Close.Jump l) forth = (l, its_own l, refl)
  lead_aims (Close.Back l) forth = absurd (let never : true ≡ false = forth in cc)
  lead_aims (Close.Branch x y) forth = (
    (x, or_left (is_name x (Some x)) (is_name x (Some y)) (its_own x), refl),
    (y, or_right (is_name y (Some x)) (is_name y (Some y)) (its_own y), refl),
  )
  lead_aims (Close.Select [] default) forth = (default, its_own default, refl)
  lead_aims (Close.Select (c ∷ cases) default) forth = (
    (c.1, or_left (is_name c.1 (Some c.1)) (leads c.1 (Close.Select cases default)) (its_own c.1), refl),
    (let rest = lead_aims (Close.Select cases default) refl in
        aims_both (Meant (Close.Select cases default)) (Meant (Close.Select cases default))
        (Meant (Close.Select (c ∷ cases) default))
        (λ t m also. (m.0, or_right (is_name m.0 (Some c.1)) (leads m.0 (Close.Select cases default)) m.1, m.2))
        (numbered f (Close.Select cases default)) rest rest),
  )
  lead_aims (Close.CallTo g line l) forth = (l, its_own l, refl)
  lead_aims Close.Leave forth = tt
  lead_aims Close.Quit forth = tt

  leads_among : (l : Name) (c : Close) → leads l c ≡ true → among (f l) (targets (numbered f c)) ≡ true
  leads_among l c h =
      aims_lead (λ t. among t (targets (numbered f c)) ≡ true) l c
      (aims_of (λ t. among t (targets (numbered f c)) ≡ true) (numbered f c) (λ t a. a)) h

module _ (x : Site) (stands : Stands x) where
  abbrev all : List Named
  all = named_blocks x.text

  abbrev blocks : List Block
  blocks = (graph_of x.text).blocks

  block_there : (i : ℕ) (c : Named) → slice_get all i ≡ Some c → slice_get blocks i ≡ Some (block_of (number x) c)
  block_there i c e =
      slice_get-map (block_of (number x)) all i ∙ ap (λ (o : Option Named). option_map (block_of (number x)) o) e

  pub ends_well : (i : ℕ) (b : Block) → slice_get blocks i ≡ Some b → EndsWell (graph_of x.text) i b.end
  ends_well i b e = targets_stand x.source (graph_of x.text) b
      (record { function = x.function; graph = stands; place = i; block = e })

  -- a block before this one, to which a way leads without arcs back, leads on to the name
  record Led (l : Name) (j : ℕ) : Type 0 where
    pub from : ℕ
    pub block : Named
    pub lower : from < j
    pub there_is : slice_get all from ≡ Some block
    pub is_ahead : IsAhead blocks from
    pub leads_on : leads l block.close ≡ true

  led_later : (l : Name) (j : ℕ) → Led l j → Led l (suc j)
  led_later l j h = record {
    from = h.from;
    block = h.block;
    lower = (let lt = h.lower in omega (arith, lt));
    there_is = h.there_is;
    is_ahead = h.is_ahead;
    leads_on = h.leads_on;
  }

  led_ahead : (l : Name) (j k : ℕ) → Led l j → number x l ≡ 2 + k → IsAhead blocks k
  led_ahead l j k h e = (
    suc h.is_ahead.0,
    (
      h.from,
      block_of (number x) h.block,
      h.is_ahead.1,
      block_there h.from h.block h.there_is,
      leads_forth (number x) l h.block.close h.leads_on,
      subst (λ (t : ℕ). among t (targets (numbered (number x) h.block.close)) ≡ true) e
          (leads_among (number x) l h.block.close h.leads_on),
    ),
  )

  -- the block of a name to which a way leads without arcs back
  abbrev pub NameAhead : Name → Type 0
  NameAhead l = (k : ℕ) × (number x l ≡ 2 + k) × IsAhead blocks k

  led_number : (l : Name) (j : ℕ) → Led l j → NameAhead l
  led_number l j h =
      let well = ends_well h.from (block_of (number x) h.block) (block_there h.from h.block h.there_is) in
      let later = well.stands (number x l) (leads_among (number x) l h.block.close h.leads_on) in
      let up = later.above in
      let e : number x l ≡ 2 + (number x l - 2) = omega (arith, up) in
      (number x l - 2, e, led_ahead l j (number x l - 2) h e)

  -- what is known of the names that were seen and have begun, in front of the block at this place
  record Knows (j : ℕ) (seen names : Name → Bool) : Type 0 where
    pub led : (l : Name) → seen l ≡ true → Led l j
    pub seen_all : (l : Name) → Led l j → seen l ≡ true
    pub before : (l : Name) → names l ≡ true → number x l < 2 + j

  -- ---- where a name's block stands

  -- the block of this name stands at its number
  abbrev Placed : Name → Type 0
  Placed l = (j : ℕ) × (b : Named) × (slice_get all j ≡ Some b) × (b.name ≡ Some l) × (number x l ≡ 2 + j)

  at_length : (front : List Named) (b : Named) (rest : List Named) → all ≡ front ++ b ∷ rest
      → slice_get all (length front) ≡ Some b
  at_length front b rest e =
      subst (λ (bs : List Named). slice_get bs (length front) ≡ Some b) (sym e) (there front b rest)

  behind_placed : (front rest : List Named) (l : Name) → all ≡ front ++ rest → Behind l rest → Placed l
  behind_placed front [] l e h = absurd h
  behind_placed front (b ∷ rest) l e (inl named) =
      (length front, b, at_length front b rest e, named, in_order_of x.text front b rest l e named)
  behind_placed front (b ∷ rest) l e (inr h) = behind_placed (front ++ b ∷ []) rest l (e ∙ one_more front b rest) h

  leads_placed : (front rest : List Named) → all ≡ front ++ rest → BlocksAimed x rest → (k : ℕ) (c : Named)
      → slice_get rest k ≡ Some c → (l : Name) → leads l c.close ≡ true → Placed l
  leads_placed front [] e aimed k c at l h = absurd (none-some c at)
  leads_placed front (b ∷ rest) e aimed zero c at l h =
      let same : b ≡ c = same_Some b c at in
      let meant = leads_in (λ l. HasBlock x l × Behind l rest) (HasBlock x) b.close l aimed.0
      (subst (λ (d : Named). leads l d.close ≡ true) (sym same) h) in
      behind_placed (front ++ b ∷ []) rest l (e ∙ one_more front b rest) meant.1
  leads_placed front (b ∷ rest) e aimed (suc k) c at l h =
      leads_placed (front ++ b ∷ []) rest (e ∙ one_more front b rest) aimed.1 k c at l h

  named_here : (l : Name) (j : ℕ) (b : Named) → slice_get all j ≡ Some b → number x l ≡ 2 + j → Placed l
      → b.name ≡ Some l
  named_here l j b at e (k, c, there_, named, place) =
      subst (λ (d : Named). d.name ≡ Some l) (same_place all k j c b (omega (arith, e, place)) there_ at) named

  -- ---- one block after another

  -- from a block to which a way leads an arc back leads to one to which a way leads, and to its own or one before it
  pub record Right (j : ℕ) (c : Close) : Type 0 where
    pub on : IsAhead blocks j → OnBack NameAhead c
    pub back : OnBack (λ l. number x l ≤ 2 + j) c
    pub numbers : HaveNumbers c

  right_of : (j : ℕ) (seen names : Name → Bool) (alive : Bool) (c : Close) → Ended seen names alive c
      → (IsAhead blocks j → alive ≡ true) → ((l : Name) → seen l ≡ true → Led l j)
      → ((l : Name) → names l ≡ true → number x l ≤ 2 + j) → Right j c
  right_of j seen names alive c ended to led before = record {
    on = λ h. on_back_more (λ l. seen l ≡ true) NameAhead (λ l s. led_number l j (led l s)) c (ended.on (to h));
    back = on_back_more (λ l. names l ≡ true) (λ l. number x l ≤ 2 + j) before c ended.back;
    numbers = ended.numbers;
  }

  name_before : (j : ℕ) (b : Named) (names : Name → Bool) → ((l : Name) → b.name ≡ Some l → number x l ≡ 2 + j)
      → ((l : Name) → names l ≡ true → number x l < 2 + j) → (l : Name) → begun b.name names l ≡ true
      → number x l ≤ 2 + j
  name_before j b names own before l h = by b.name refl (or_cases (is_name l b.name) (names l) h)
    where
      by : (o : Option Name) → b.name ≡ o → (is_name l o ≡ true) ⊎ (names l ≡ true) → number x l ≤ 2 + j
      by None e (inl h) = absurd (let never : false ≡ true = h in cc)
      by (Some n) e (inl h) =
          let same : number x n ≡ 2 + j = own n e in
          let equal : number x l ≡ number x n = ap (number x) (same_name l n h) in omega (arith, same, equal)
      by o e (inr h) = let lt = before l h in omega (arith, lt)

  knows_next : (j : ℕ) (b : Named) (seen names : Name → Bool) (alive : Bool) → slice_get all j ≡ Some b
      → (alive ≡ true → IsAhead blocks j) → (IsAhead blocks j → alive ≡ true)
      → ((l : Name) → b.name ≡ Some l → number x l ≡ 2 + j) → Knows j seen names
      → Knows (suc j) (ahead alive b.close seen) (begun b.name names)
  knows_next j b seen names alive at from to own k = record {
    led = λ l h. elim (or_cases (alive && leads l b.close) (seen l) h) [
      | inl new ↦ (let both = and_parts alive (leads l b.close) new in record {
        from = j;
        block = b;
        lower = omega arith;
        there_is = at;
        is_ahead = from both.0;
        leads_on = both.1;
      })
      | inr old ↦ led_later l j (k.led l old)
    ];
    seen_all = λ l h. by l h (h.from == j) refl;
    before = λ l h. let le = name_before j b names own k.before l h in omega (arith, le);
  }
    where
      by : (l : Name) (h : Led l (suc j)) (same : Bool) → (h.from == j) ≡ same → ahead alive b.close seen l ≡ true
      by l h true e =
          let is : h.from ≡ j = eqb-true h.from j e in
          let block_is : h.block ≡ b = same_place all h.from j h.block b is h.there_is at in
          or_left (alive && leads l b.close) (seen l) (and_from alive (leads l b.close)
          (to (subst (IsAhead blocks) is h.is_ahead))
          (subst (λ (c : Named). leads l c.close ≡ true) block_is h.leads_on))
      by l h false e =
          let other = eqb-false h.from j e in let lt = h.lower in
          or_right (alive && leads l b.close) (seen l) (k.seen_all l (record {
            from = h.from;
            block = h.block;
            lower = omega (arith, lt, other);
            there_is = h.there_is;
            is_ahead = h.is_ahead;
            leads_on = h.leads_on;
          }))

  -- a block is alive where a way leads to it
  alive_ahead : (front : List Named) (b : Named) (rest : List Named) (seen names : Name → Bool)
      → all ≡ front ++ b ∷ rest → Knows (length front) seen names → is_alive seen b.name ≡ true
      → IsAhead blocks (length front)
  alive_ahead front b rest seen names e k h = by b.name refl h
    where
      by : (o : Option Name) → b.name ≡ o → is_alive seen o ≡ true → IsAhead blocks (length front)
      by None named h = absurd (let never : false ≡ true = h in cc)
      by (Some l) named h =
          led_ahead l (length front) (length front) (k.led l h) (in_order_of x.text front b rest l e named)

  ahead_alive : (j : ℕ) (b : Named) (seen names : Name → Bool) → slice_get all j ≡ Some b → 0 < j
      → Knows j seen names → IsAhead blocks j → is_alive seen b.name ≡ true
  ahead_alive j b seen names at some k (zero, first) = absurd (omega (arith, some, first))
  ahead_alive j b seen names at some k (suc n, (i, block, way, here, forth, t)) =
      let c = made_of (block_of (number x)) all i block here in
      let up = (ends_well i block here).up forth (2 + j) t in
      let forth_ : is_back (numbered (number x) c.0.close) ≡ false =
      subst (λ (d : Block). is_back d.end ≡ false) (sym c.2) forth in
      let aims = subst (λ (d : Block). Aims (Meant (number x) c.0.close) d.end) c.2
      (lead_aims (number x) c.0.close forth_) in
      let meant = aims_in (Meant (number x) c.0.close) block.end (2 + j) aims t in
      let named = named_here meant.0 j b at meant.2
      (leads_placed [] all refl (blocks_aimed x stands) i c.0 c.1 meant.0 meant.1) in
      subst (λ (o : Option Name). is_alive seen o ≡ true) (sym named) (k.seen_all meant.0 (record {
        from = i;
        block = c.0;
        lower = omega (arith, up);
        there_is = c.1;
        is_ahead = (n, way);
        leads_on = meant.1;
      }))

  all_right : (front rest : List Named) (seen names : Name → Bool) → all ≡ front ++ rest → 0 < length front
      → Knows (length front) seen names → AllKept seen names rest → (k : ℕ) (b : Named) → slice_get rest k ≡ Some b
      → Right (length front + k) b.close
  all_right front [] seen names e some knows kept k b at = absurd (none-some b at)
  all_right front (c ∷ rest) seen names e some knows kept zero b at =
      let here = at_length front c rest e in
      let own : length front ≡ length front + 0 = omega arith in
      subst (λ (d : Named). Right (length front + 0) d.close) (same_Some c b at)
      (subst (λ (j : ℕ). Right j c.close) own
      (right_of (length front) seen (begun c.name names) (is_alive seen c.name) c.close kept.0
      (ahead_alive (length front) c seen names here some knows) knows.led
      (name_before (length front) c names (λ l named. in_order_of x.text front c rest l e named) knows.before)))
  all_right front (c ∷ rest) seen names e some knows kept (suc k) b at =
      let here = at_length front c rest e in
      let long = length-append front (c ∷ []) in
      let one : suc (length front) ≡ length (front ++ c ∷ []) = omega (arith, long) in
      let own : length (front ++ c ∷ []) + k ≡ length front + suc k = omega (arith, long) in
      subst (λ (j : ℕ). Right j b.close) own
      (all_right (front ++ c ∷ []) rest (ahead (is_alive seen c.name) c.close seen) (begun c.name names)
      (e ∙ one_more front c rest) (omega (arith, long))
      (subst (λ (j : ℕ). Knows j (ahead (is_alive seen c.name) c.close seen) (begun c.name names)) one
      (knows_next (length front) c seen names (is_alive seen c.name) here
      (alive_ahead front c rest seen names e knows) (ahead_alive (length front) c seen names here some knows)
      (λ l named. in_order_of x.text front c rest l e named) knows)) kept.1 k b at)

  -- nothing is known in front of the first block
  knows_nothing : Knows 0 none none
  knows_nothing = record {
    led = λ l h. absurd (let never : false ≡ true = h in cc);
    seen_all = λ l h. absurd (let lt = h.lower in omega (arith, lt));
    before = λ l h. absurd (let never : false ≡ true = h in cc);
  }

  abbrev first_block : Named
  first_block =
      let o = opened (gives_number x.text.result) (items_of x.text) in
      record { name = None; ops = o.ops; close = o.close; lines = add_line (Some x.text.line) o.lines }

  pub first_right : FirstKept (gives_number x.text.result) (items_of x.text) → (k : ℕ) (b : Named)
      → slice_get all k ≡ Some b → Right k b.close
  first_right kept zero b at =
      subst (λ (d : Named). Right 0 d.close) (same_Some first_block b at)
      (right_of 0 none none true (opened (gives_number x.text.result) (items_of x.text)).close kept.first (λ h. refl)
      knows_nothing.led (λ l h. absurd (let never : false ≡ true = h in cc)))
  first_right kept (suc k) b at =
      let o = opened (gives_number x.text.result) (items_of x.text) in
      let one : 1 + k ≡ suc k = omega arith in
      subst (λ (j : ℕ). Right j b.close) one
      (all_right (first_block ∷ []) o.later (ahead true o.close none) none refl (omega arith)
      (knows_next 0 first_block none none true refl (λ h. (zero, refl)) (λ h. refl)
      (λ l named. absurd (let never : None ≡ Some l = named in cc)) knows_nothing) kept.later k b at)
