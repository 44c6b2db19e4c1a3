-- Numbers by node are the numbers of the blocks.
use Rattle.std.proofs.Common.{◌≡◌, ◌∙◌, refl, sym, ap, ℕ, zero, suc, ◌+◌, ◌==◌, ◌&&◌, cond, Bool, true, false, List, [], ◌∷◌, ◌++◌, length, get_or, slice_set, Some, map, arith, ◌<◌, ◌≢◌, ◌⊎◌, inl, inr, ℤ}
use Rattle.std.proofs.lemmas.Bool.Decides.{eqb_tells}
use Rattle.std.proofs.lemmas.Grind.{get_or-set_at}
use Rattle.std.proofs.lemmas.List.{get_or-set_other, map-set, get_or-map, map-id}
use Rattle.flow_graph.specs.Graph.{Block, Ending}
use Rattle.c_lower.specs.declared.numbers.Entry.{Entry}
use Rattle.c_lower.specs.Items.{Name, Close}
use Rattle.c_lower.specs.Lowered.{Named, is_name, number_from, numbered, block_of}
use Rattle.c_lower.specs.Numbers.{number_in, number_at, number_or}

-- a part that is added behind a row
pub number_in-push : (row : List Entry) (e : Entry) (part other : ℕ)
    → number_in (row ++ e ∷ []) part other ≡ number_in row part (cond (part == e.part) e.number other)
number_in-push [] e part other = refl
number_in-push (x ∷ row) e part other =
    ap (λ (n : ℕ). cond (part == x.part) x.number n) (number_in-push row e part other)

-- A row has one more part behind its others: that part's name has the number, unless it has one.
pub number_added : (rows new : List (List Entry)) (m : Name) (e : Entry) → m.node < length rows → e.part ≡ m.part
    → new ≡ slice_set rows m.node (get_or rows m.node [] ++ e ∷ [])
    → (l : Name) (other : ℕ) → number_at new l other ≡ number_at rows l (cond (is_name l (Some m)) e.number other)
number_added rows new m e less part is l other =
    ap (λ (rs : List (List Entry)). number_at rs l other) is ∙ by (eqb_tells l.node m.node)
  where
    row : List Entry
    row = get_or rows m.node [] ++ e ∷ []

    with_test : Bool → ℕ
    with_test b = number_at rows l (cond (b && (l.part == m.part)) e.number other)

    by : (((l.node == m.node) ≡ true) × (l.node ≡ m.node)) ⊎ (((l.node == m.node) ≡ false) × (l.node ≢ m.node))
        → number_at (slice_set rows m.node row) l other ≡ with_test (l.node == m.node)
    by (inl h) =
        ap (λ (r : List Entry). number_in r l.part other) (get_or-set_at rows m.node l.node row [] h.1 less)
        ∙ number_in-push (get_or rows m.node []) e l.part other
        ∙ ap (λ (p : ℕ). number_in (get_or rows m.node []) l.part (cond (l.part == p) e.number other)) part
        ∙ ap (λ (n : ℕ). number_in (get_or rows n []) l.part (cond (l.part == m.part) e.number other)) (sym h.1)
        ∙ ap with_test (sym h.0)
    by (inr h) =
        ap (λ (r : List Entry). number_in r l.part other) (get_or-set_other rows m.node l.node row [] h.1)
        ∙ ap with_test (sym h.0)

-- rows that are added are empty
pub same_rows : (rows : List (List Entry)) (n : ℕ) → get_or (rows ++ [] ∷ []) n [] ≡ get_or rows n []
same_rows [] zero = refl
same_rows [] (suc n) = refl
same_rows (row ∷ rows) zero = refl
same_rows (row ∷ rows) (suc n) = same_rows rows n

-- what two ways of reaching rows leave as it was, and the row of a name's node with a part more
pub number_reached : (rows old : List (List Entry)) → ((n : ℕ) → get_or rows n [] ≡ get_or old n [])
    → (l : Name) (other : ℕ) → number_at rows l other ≡ number_at old l other
number_reached rows old same l other = ap (λ (r : List Entry). number_in r l.part other) (same l.node)

-- behind the last block stands the number of a name that none has
pub number_or-behind : (n : ℕ) (bs : List Named) (l : Name) → number_or n bs l (n + length bs) ≡ number_from n bs l
number_or-behind n [] l = omega arith
number_or-behind n (b ∷ bs) l =
    let shift : n + length (b ∷ bs) ≡ suc n + length bs = omega arith in
    ap (λ (m : ℕ). cond (is_name l b.name) n m)
    (ap (number_or (suc n) bs l) shift ∙ number_or-behind (suc n) bs l)

-- cases with numbers in place of names
abbrev pub renumbered : (Name → ℕ) → List (ℤ × Name) → List (ℤ × ℕ)
renumbered f cases = map {B = ℤ × ℕ} (λ (c : ℤ × Name). (c.0, f c.1)) cases

-- an ending that selects, and its cases as the program holds them
pub switch_numbered : (f : Name → ℕ) (held : List (ℤ × Name)) (given : List (ℤ × ℕ)) (default : Name) (d : ℕ)
    → given ≡ renumbered f held → d ≡ f default
    → Ending.Switch (map {B = ℤ × ℕ} (λ (c : ℤ × ℕ). (c.0, c.1)) given) d
    ≡ numbered f (Close.Select (map {B = ℤ × Name} (λ (c : ℤ × Name). (c.0, c.1)) held) default)
switch_numbered f held given default d e g =
    ap (λ (l : List (ℤ × ℕ)). Ending.Switch l d) (map-id given ∙ e ∙ ap (renumbered f) (sym (map-id held)))
    ∙ ap (λ (n : ℕ). Ending.Switch (renumbered f (map {B = ℤ × Name} (λ (c : ℤ × Name). (c.0, c.1)) held)) n) g

-- a row of rows has one more part
pub row_pushed : {X : Type 0} (f : X → List Entry) (rows : List X) (i : ℕ) (old new : X) (e : Entry) → i < length rows
    → old ≡ get_or rows i old → f new ≡ f old ++ e ∷ []
    → map f (slice_set rows i new) ≡ slice_set (map f rows) i (get_or (map f rows) i [] ++ e ∷ [])
row_pushed f rows i old new e less was is =
    map-set f rows i new
    ∙ ap (slice_set (map f rows) i) (is ∙ ap (λ (r : List Entry). r ++ e ∷ []) (ap f was
    ∙ sym (get_or-map f rows i old [] less)))

module _ (f g : Name → ℕ) (same : (l : Name) → f l ≡ g l) where
  same_cases : (cases : List (ℤ × Name)) → renumbered f cases ≡ renumbered g cases
  same_cases [] = refl
  same_cases (c ∷ cs) =
      ap (λ (n : ℕ). (c.0, n) ∷ renumbered f cs) (same c.1)
      ∙ ap (λ (ns : List (ℤ × ℕ)). (c.0, g c.1) ∷ ns) (same_cases cs)

  same_ending : (c : Close) → numbered f c ≡ numbered g c
  same_ending (Close.Jump l) = ap Ending.Jump (same l)
  same_ending (Close.Back l) = ap Ending.Back (same l)
  same_ending (Close.Branch t e) = ap (λ (n : ℕ). Ending.Branch n (f e)) (same t) ∙ ap (Ending.Branch (g t)) (same e)
  same_ending (Close.Select cases default) =
      ap (λ (ns : List (ℤ × ℕ)). Ending.Switch ns (f default)) (same_cases cases)
      ∙ ap (λ (n : ℕ). Ending.Switch (renumbered g cases) n) (same default)
  same_ending (Close.CallTo h line l) = ap (Ending.Call h line) (same l)
  same_ending Close.Leave = refl
  same_ending Close.Quit = refl

  -- blocks are the same where the numbers of all names are
  pub same_blocks : (bs : List Named) → map (block_of f) bs ≡ map (block_of g) bs
  same_blocks [] = refl
  same_blocks (b ∷ bs) =
      ap (λ (e : Ending). record { ops = b.ops; end = e; lines = b.lines } ∷ map (block_of f) bs) (same_ending b.close)
      ∙ ap (λ (xs : List Block). block_of g b ∷ xs) (same_blocks bs)
