-- Each block of a sound source's graphs begins with one number of operands.
use Rattle.std.proofs.Common.{◌≡◌, refl, sym, ap, subst, ◌∙◌, ℕ, zero, suc, ◌+◌, ◌-◌, ◌*◌, ◌<◌, ◌≤◌, Bool, true, false}
use Rattle.std.proofs.Common.{max, List, [], ◌∷◌, ◌++◌, length, map, Option, Some, None, slice_get, ◌⊎◌, inl, inr, arith}
use Rattle.std.proofs.lemmas.Option.{same_Some, none-some}
use Rattle.std.specs.Prelude.{ℤ, pos}
use Rattle.std.proofs.lemmas.Int.{ints}
use Rattle.c_tree.specs.declared.expr.Base.{Base}
use Rattle.c_tree.specs.declared.expr.Base.TheVariants as base
use Rattle.c_tree.specs.declared.typed_expr.CellAt.TheVariants as cell
use Rattle.c_tree.specs.Typed.{TypedFunction, Typed}
use Rattle.c_tree.specs.Levels.{typed_stmts_levels, source_levels, most}
use Rattle.c_tree.specs.Sound.{Scope, Inside, Each, SoundFunction, SoundStmts, Sound, standing, at_start}
use Rattle.stack_ops.specs.declared.operation.Op.{Op}
use Rattle.stack_ops.specs.declared.operation.Op.TheVariants as op
use Rattle.stack_ops.specs.Shapes.{takes, gives}
use Rattle.flow_graph.specs.Graph.{Ending, Block, Graph, GraphUnit}
use Rattle.c_lower.specs.Items.{Name, Close, Item, items_of, gives_number}
use Rattle.c_lower.specs.Lowered.{Named, Opened, opened, shut, left_out, begun, closed, numbered, number_from, block_of}
use Rattle.c_lower.specs.Lowered.{named_blocks, graph_of, unit_of}
use Rattle.c_lower.proofs.NameLaws.{in_order_of}
use Rattle.lower_agrees.proofs.Calls.{graph_found, text_found}
use Rattle.lower_agrees.proofs.Finds.{one_more}
use Rattle.lower_agrees.proofs.Targets.{Targets, Later, later_still, Behind, behind_opened, aim_codes}
use Rattle.lower_agrees.proofs.Whole.{each_at}
use Rattle.operand_depths.specs.Depths.{depth_limit, given, Finds, Leaves, Leads, Runs, Steady}
use Rattle.operand_depths.specs.Laws.{IsGraphOf}
use Rattle.operand_depths.proofs.Tables.{Row, pushed, stmts_rows, From, all_from, there}
use Rattle.operand_depths.proofs.Steadily as steadily
use Rattle.operand_depths.proofs.Statements as statements

-- each name in an ending among items is that of a block that begins among the whole
abbrev Aimed : List Item → List Item → Type 0
Aimed whole [] = Unit {0}
Aimed whole (Item.Begin l line ∷ is) = Aimed whole is
Aimed whole (Item.Do o line ∷ is) = Aimed whole is
Aimed whole (Item.End c line ∷ is) = Targets (λ l. Later l whole) (λ l. Later l whole) c × Aimed whole is

-- what begins among the items begins among the whole
abbrev Part : List Item → List Item → Type 0
Part whole is = (l : Name) → Later l is → Later l whole

all_aimed : (f : TypedFunction) → Aimed (items_of f) (items_of f)
all_aimed f =
    aim_codes (Part (items_of f)) (Aimed (items_of f)) (λ l is. Later l (items_of f)) (λ l. Later l (items_of f))
    (λ i is p l h. p l (later_still l i is h)) (λ l i is b. b) (λ l line is p. p l (inl refl))
    (λ l line is p. p l (inl refl)) (λ l line is a. a) (λ o line is a. a) (λ c line is t a. (t, a))
    f.body 0 Close.Leave Close.Leave [] tt tt (λ l h. h) tt

given_is : (b : Base) → pushed b ≡ given (gives_number b)
given_is (base.Int t) = refl
given_is base.Void = refl

most_at : {A : Type 0} (f : A → ℕ) (xs : List A) (k : ℕ) (x : A) → slice_get xs k ≡ Some x → f x ≤ most f xs
most_at f [] k x e = absurd (none-some x e)
most_at f (y ∷ xs) zero x e = let same : f y ≡ f x = ap f (same_Some y x e) in omega (arith, same)
most_at f (y ∷ xs) (suc k) x e = let h = most_at f xs k x e in omega (arith, h)

module _ (table : List Row) (functions : List TypedFunction) (globals cells : ℕ) (f : TypedFunction)
    (few : (n : ℕ) (g : TypedFunction) → slice_get functions n ≡ Some g → length g.params ≤ 64) where
  abbrev own : ℕ
  own = pushed f.result

  abbrev At : Name → ℕ
  At l = steadily.At table functions globals cells own few l

  abbrev Ends : ℕ → Close → Type 0
  Ends d c = steadily.Ends table functions globals cells own few d c

  abbrev Open : ℕ → List Item → Type 0
  Open d is = steadily.Open table functions globals cells own few d is

  abbrev Shut : List Item → Type 0
  Shut is = steadily.Shut table functions globals cells own few is

  -- a block that nothing enters begins without operands
  abbrev start : Option Name → ℕ
  start None = 0
  start (Some l) = At l

  abbrev Begun : Close → Type 0
  Begun c = Targets (λ l. Later l (items_of f)) (λ l. Later l (items_of f)) c

  -- from so many operands, operations and an ending find theirs
  record Parts (d : ℕ) (ops : List Op) (c : Close) : Type 0 where
    pub room : d ≤ depth_limit
    pub after : ℕ
    pub operations : Leaves globals cells d ops after
    pub ending : Ends after c
    pub begun_names : Begun c

  abbrev AllParts : List Named → Type 0
  AllParts [] = Unit {0}
  AllParts (b ∷ bs) = Parts (start b.name) b.ops b.close × AllParts bs

  more : (d : ℕ) (o : Op) (ops : List Op) (c : Close) → d ≤ depth_limit → Finds globals cells d o
      → Parts (d - takes o + gives o) ops c → Parts d (o ∷ ops) c
  more d o ops c room finds parts = record {
    room = room;
    after = parts.after;
    operations = (finds, parts.operations);
    ending = parts.ending;
    begun_names = parts.begun_names;
  }

  left : (c : Close) (line : Option ℕ) (later : List Named) → Ends 0 c → Begun c → AllParts later
      → AllParts (left_out c line later)
  left (Close.Jump l) line later e t a = a
  left (Close.Back l) line later e t a = a
  left (Close.Branch x y) line later e t a =
      (record { room = omega arith; after = 0; operations = refl; ending = e; begun_names = t }, a)
  left (Close.Select cases default) line later e t a =
      (record { room = omega arith; after = 0; operations = refl; ending = e; begun_names = t }, a)
  left (Close.CallTo g at l) line later e t a =
      (record { room = omega arith; after = 0; operations = refl; ending = e; begun_names = t }, a)
  left Close.Leave line later e t a =
      (record { room = omega arith; after = 0; operations = refl; ending = e; begun_names = t }, a)
  left Close.Quit line later e t a =
      (record { room = omega arith; after = 0; operations = refl; ending = e; begun_names = t }, a)

  ends_body : (b : Base) (d : ℕ) → pushed b ≡ own → d ≡ 0
      → Parts d ((opened (gives_number b) []).ops) (opened (gives_number b) []).close
  ends_body (base.Int t) d same e = record {
    room = omega (arith, e);
    after = d + 1;
    operations = (
      record {
        step = refl;
        operands = omega arith;
        room = omega (arith, e);
        cells_are = λ a b x y. tt;
        number = (omega (arith, ints), omega (arith, ints));
      },
      omega arith,
    );
    ending = omega (arith, e, same);
    begun_names = tt;
  }
  ends_body base.Void d same e = record {
    room = omega (arith, e);
    after = d;
    operations = refl;
    ending = omega (arith, e, same);
    begun_names = tt;
  }

  ends_nothing : (b : Base) → AllParts (opened (gives_number b) []).later
  ends_nothing (base.Int t) = tt
  ends_nothing base.Void = tt

  mutual
    opened_parts : (is : List Item) (d : ℕ) → Part (items_of f) is → Aimed (items_of f) is → Open d is
        → d ≤ depth_limit
        → Parts d (opened (gives_number f.result) is).ops (opened (gives_number f.result) is).close
        × AllParts (opened (gives_number f.result) is).later
    opened_parts [] d p a h r = (ends_body f.result d refl h, ends_nothing f.result)
    opened_parts (Item.Begin l line ∷ is) d p a h r =
        let behind = opened_parts is (At l) (λ n k. p n (inr k)) a
        (steadily.same_depth table functions globals cells own few is d (At l) (sym h.0) h.2)
        (let e = h.0 in omega (arith, e, r)) in (
          record { room = r; after = d; operations = refl; ending = h.0; begun_names = p l (inl refl) },
          behind,
        )
    opened_parts (Item.Do o line ∷ is) d p a h r =
        let behind = opened_parts is (d - takes o + gives o) p a h.1 h.0.room in (
          more d o (opened (gives_number f.result) is).ops (opened (gives_number f.result) is).close r h.0 behind.0,
          behind.1,
        )
    opened_parts (Item.End c line ∷ is) d p a h r = (
      record { room = r; after = d; operations = refl; ending = h.0; begun_names = a.0 },
      shut_parts is p a.1 h.1,
    )

    shut_parts : (is : List Item) → Part (items_of f) is → Aimed (items_of f) is → Shut is
        → AllParts (shut (gives_number f.result) is)
    shut_parts [] p a h = tt
    shut_parts (Item.Begin l line ∷ is) p a h = opened_parts is (At l) (λ n k. p n (inr k)) a h.1 h.0
    shut_parts (Item.Do o line ∷ is) p a h =
        let behind = opened_parts is (0 - takes o + gives o) p a h.1 h.0.room in (
          more 0 o (opened (gives_number f.result) is).ops (opened (gives_number f.result) is).close (omega arith) h.0
              behind.0,
          behind.1,
        )
    shut_parts (Item.End c line ∷ is) p a h =
        left c line (shut (gives_number f.result) is) h.0 a.0 (shut_parts is p a.1 h.1)

  -- ---- numbers

  abbrev number : Name → ℕ
  number l = number_from 2 (named_blocks f) l

  abbrev start_at : Option Named → ℕ
  start_at None = 0
  start_at (Some b) = start b.name

  -- the operands where the block of a number begins
  abbrev depths : ℕ → ℕ
  depths n = start_at (slice_get (named_blocks f) (n - 2))

  depth_of : (front : List Named) (b : Named) (rest : List Named) (l : Name) → named_blocks f ≡ front ++ b ∷ rest
      → b.name ≡ Some l → depths (number l) ≡ At l
  depth_of front b rest l e named =
      let place : number l - 2 ≡ length front = let at = in_order_of f front b rest l e named in omega (arith, at) in
      let own_ : slice_get (named_blocks f) (length front) ≡ Some b =
      subst (λ (bs : List Named). slice_get bs (length front) ≡ Some b) (sym e) (there front b rest) in
      ap (λ (n : ℕ). start_at (slice_get (named_blocks f) n)) place ∙ ap start_at own_ ∙ ap start named

  depth_behind : (front bs : List Named) (l : Name) → named_blocks f ≡ front ++ bs → Behind l bs
      → depths (number l) ≡ At l
  depth_behind front [] l e h = absurd h
  depth_behind front (b ∷ bs) l e (inl named) = depth_of front b bs l e named
  depth_behind front (b ∷ bs) l e (inr h) = depth_behind (front ++ b ∷ []) bs l (e ∙ one_more front b bs) h

  depth_begun : (l : Name) → Later l (items_of f) → depths (number l) ≡ At l
  depth_begun l h =
      depth_behind [] (named_blocks f) l refl (inr (behind_opened l (gives_number f.result) (items_of f) h))

  cases_lead : (cases : List (ℤ × Name)) (d : ℕ) → Each (λ c. At c.1 ≡ d) cases
      → Each (λ c. Later c.1 (items_of f)) cases
      → Each (λ (c : ℤ × ℕ). depths c.1 ≡ d) (map (λ (c : ℤ × Name). (c.0, number c.1)) cases)
  cases_lead [] d e t = tt
  cases_lead (c ∷ cases) d e t = (depth_begun c.1 t.0 ∙ e.0, cases_lead cases d e.1 t.1)

  leads : (c : Close) (d : ℕ) → Ends d c → Begun c
      → Leads (map graph_of functions) (gives_number f.result) depths d (numbered number c)
  leads (Close.Jump l) d e t = depth_begun l t ∙ e
  leads (Close.Back l) d e t = depth_begun l t ∙ e
  leads (Close.Branch x y) d e t = (e.0, depth_begun x t.0 ∙ e.1, depth_begun y t.1 ∙ e.2)
  leads (Close.Select cases default) d e t = (e.0, cases_lead cases (d - 1) e.1 t.0, depth_begun default t.1 ∙ e.2)
  leads (Close.CallTo n line l) d e t = (
    graph_of e.0,
    graph_found functions n e.0 e.1,
    e.2,
    depth_begun l t ∙ e.3 ∙ ap (λ (k : ℕ). d - length e.0.params + k) (given_is e.0.result),
  )
  leads Close.Leave d e t = e ∙ given_is f.result
  leads Close.Quit d e t = e

  -- a block of the graph is one of the named ones
  block_named : (bs : List Named) (k : ℕ) (b : Block) → slice_get (map (block_of number) bs) k ≡ Some b → AllParts bs
      → (n : Named) × (slice_get bs k ≡ Some n) × (block_of number n ≡ b) × Parts (start n.name) n.ops n.close
  block_named [] k b e parts = absurd (none-some b e)
  block_named (n ∷ bs) zero b e parts = (n, refl, same_Some (block_of number n) b e, parts.0)
  block_named (n ∷ bs) (suc k) b e parts = block_named bs k b e parts.1

  block_runs : (u : GraphUnit) → u.graphs ≡ map graph_of functions → length u.globals ≡ globals → f.cells ≡ cells
      → AllParts (named_blocks f) → (k : ℕ) (b : Block) → slice_get (graph_of f).blocks k ≡ Some b
      → Runs u (graph_of f) depths (depths (2 + k)) b
  block_runs u graphs outer inner parts k b e =
      let found = block_named (named_blocks f) k b e parts in
      let back : 2 + k - 2 ≡ k = omega arith in
      let begins : depths (2 + k) ≡ start found.0.name =
      ap (λ (n : ℕ). start_at (slice_get (named_blocks f) n)) back ∙ ap start_at found.1 in
      let runs = found.3 in
      subst (λ (b : Block). Runs u (graph_of f) depths (depths (2 + k)) b) found.2 (record {
        room = let r = runs.room in omega (arith, begins, r);
        after = runs.after;
        operations =
            subst (λ (d : ℕ). Leaves (length u.globals) f.cells d found.0.ops runs.after) (sym begins)
            (subst (λ (n : ℕ). Leaves n f.cells (start found.0.name) found.0.ops runs.after) (sym outer)
            (subst (λ (n : ℕ). Leaves globals n (start found.0.name) found.0.ops runs.after) (sym inner)
            runs.operations));
        ending =
            subst (λ (gs : List Graph). Leads gs (gives_number f.result) depths runs.after (numbered number found.0.close))
            (sym graphs) (leads found.0.close runs.after runs.ending runs.begun_names);
      })

-- each function of a sound source has a steady graph
function_steady : (source : Typed) → Sound source → (k : ℕ) (f : TypedFunction)
    → slice_get source.functions k ≡ Some f → Steady (unit_of source) (graph_of f)
function_steady source sound k f at = record {
  depths = depths table source.functions (length source.globals) f.cells f few;
  first = refl;
  blocks = block_runs table source.functions (length source.globals) f.cells f few (unit_of source) refl refl refl
      (opened_parts table source.functions (length source.globals) f.cells f few (items_of f) 0 (λ l h. h) (all_aimed f)
      opens (omega arith));
}
  where
    table : List Row
    table = stmts_rows f.body

    sounds : (n : ℕ) (g : TypedFunction) → slice_get source.functions n ≡ Some g
        → SoundFunction source.functions (standing cell.Global 0 sound.global_lengths) sound.global_types
        (length source.globals) g
    sounds n g e =
        each_at (SoundFunction source.functions (standing cell.Global 0 sound.global_lengths) sound.global_types
        (length source.globals)) source.functions n g sound.functions e

    few : (n : ℕ) (g : TypedFunction) → slice_get source.functions n ≡ Some g → length g.params ≤ 64
    few n g e = (sounds n g e).params

    own_ : ℕ
    own_ = pushed f.result

    low : typed_stmts_levels f.body ≤ 256
    low =
        let one = most_at (λ (f : TypedFunction). typed_stmts_levels f.body) source.functions k f at in
        let all = sound.levels in omega (arith, one, all)

    opens : steadily.Open table source.functions (length source.globals) f.cells own_ few 0 (items_of f)
    opens =
        let h = sounds k f at in
        statements.stmts table source.functions (length source.globals) f.cells own_ few _
        (record { functions_are = refl; cells_are = refl; globals_are = refl; result_is = refl }) _ f.body 0 Close.Leave
        Close.Leave [] h.body (all_from (stmts_rows f.body)) (omega (arith, low))
        (λ e. absurd (let never : false ≡ true = e in cc)) (λ e. absurd (let never : false ≡ true = e in cc)) refl

-- Each graph of a sound source is steady.
pub graphs_steady : (source : Typed) → Sound source → (g : Graph) → IsGraphOf (unit_of source) g
    → Steady (unit_of source) g
graphs_steady source sound g at =
    let found = text_found source.functions at.function g at.there in
    let same : graph_of found.0 ≡ g =
    same_Some (graph_of found.0) g (sym (graph_found source.functions at.function found.0 found.1) ∙ at.there) in
    subst (λ (g : Graph). Steady (unit_of source) g) same (function_steady source sound at.function found.0 found.1)
