-- The code of an orderly unit within the limits breaks no rule.
use Rattle.std.proofs.Common.{◌≡◌, refl, sym, ap, subst, ◌∙◌, ℕ, zero, suc, ◌+◌, ◌<◌, ◌≤◌, ◌==◌, Bool, true, false}
use Rattle.std.proofs.Common.{List, [], ◌∷◌, length, Option, Some, None, arith, eq-eqb}
use Rattle.std.specs.Prelude.{◌||◌, nat_lt, nat_le, slice_get}
use Rattle.std.proofs.lemmas.Bool.{and_from, le-leb, lt-ltb}
use Rattle.std.proofs.lemmas.Option.{same_Some, none-some, slice_get_within}
use Rattle.c_tree.specs.Sound.{Each}
use Rattle.stack_ops.specs.Code.{FunctionValue, CodeValue}
use Rattle.code_runs.specs.Checks.{Rule, broken}
use Rattle.code_runs.specs.CodeChecks.{unless_at, limits_kept, counts_nothing, numbers_in, fields_kept, of_table}
use Rattle.code_runs.specs.CodeChecks.{function_items, functions_items, items_fault, main_kept, counted_from, row_fault}
use Rattle.code_runs.specs.CodeChecks.{function_values, functions_values, values_fault, code_fault, numbers_fault}
use Rattle.code_runs.specs.CodeChecks.{globals_fault}
use Rattle.code_runs.specs.Counts.{sizes}
use Rattle.code_runs.specs.Sound.{Sound, Kept}
use Rattle.code_runs.specs.Tables.{layout_fault, table_word}
use Rattle.flow_graph.specs.Graph.{Graph, GraphUnit}
use Rattle.flow_graph.specs.Nets.{size_of}
use Rattle.stack_code.specs.Checked.{IsUnitCode, Marks}
use Rattle.stack_code.specs.Fitting.{FitsCode}
use Rattle.stack_code.specs.Laws.{AreArcMarks, SuitsUnit, IsCounted, AreShapesOf, PlainCodePasses}
use Rattle.stack_code.specs.Laying.{graph_code}
use Rattle.stack_code.specs.Modes.{ShapeValue, IsShape, shape_of, shape_marks, unit_marks}
use Rattle.stack_code.specs.Orderly.{IsOrderly, IsOrderlyUnit}
use Rattle.stack_code.specs.UnitCode.{counts_by, function_code, functions_from, unit_code, total}
use Rattle.stack_code.proofs.ArcMarks.{marks_there, modes_mark}
use Rattle.stack_code.proofs.Deep.{counted_enough}
use Rattle.stack_code.proofs.Followed.{laid_passes}
use Rattle.stack_code.proofs.Levels.{there_is}
use Rattle.stack_code.proofs.NumberLaws.{IsFit, leaves_fit, graph_fits, no_number_fault, no_global_fault, both, unless}
use Rattle.stack_code.proofs.Sizes.{laid_short}
use Rattle.stack_code.proofs.Sounding.{laid_sound}

-- ---- the functions of a code

-- what is right about the items of a function
pub record ItemsFit (c : CodeValue) (f : FunctionValue) : Type 0 where
  pub limits : limits_kept f ≡ true
  pub counts : (c.covered || counts_nothing f) ≡ true
  pub numbers : Each IsFit f.ops
  pub layout : layout_fault f.paths f.passes f.table ≡ None

-- what is right about its instructions and the words of its table
pub record ValuesFit (c : CodeValue) (f : FunctionValue) : Type 0 where
  pub whole : broken c f ≡ None
  pub words : table_word f.paths f.passes f.table ≡ None

-- what a shape counts is within the limits of a function, and its rows are laid out as a table
pub record CountsFit (o : Option ShapeValue) : Type 0 where
  pub counters : (counts_by o).counters ≤ 4096
  pub paths : (counts_by o).paths ≤ 65536
  pub passes : (counts_by o).passes ≤ 4096
  pub none : (nat_lt 0 (counts_by o).paths || ((counts_by o).passes == 0)) ≡ true
  pub layout : layout_fault (counts_by o).paths (counts_by o).passes (counts_by o).table ≡ None
  pub words : table_word (counts_by o).paths (counts_by o).passes (counts_by o).table ≡ None

pub record TablesFit (shapes : ℕ → Option ShapeValue) : Type 0 where
  pub few : (i : ℕ) → CountsFit (shapes i)

items_none : (c : CodeValue) (k numbers start : ℕ) (fs : List FunctionValue) → Each (ItemsFit c) fs
    → numbers + total fs ≤ 4194304 → start + sizes fs ≤ 1048576 → functions_items c k numbers start fs ≡ None
items_none c k numbers start [] h few short = refl
items_none c k numbers start (f ∷ fs) h few short =
    let fields : fields_kept c numbers start f ≡ true =
    and_from (limits_kept f) _ h.0.limits
    (and_from (c.covered || counts_nothing f) _ h.0.counts
    (and_from (nat_le (numbers + numbers_in f) 4194304) (nat_le (start + length f.ops) 1048576)
    (le-leb (numbers + numbers_in f) 4194304 (omega (arith, few)))
    (le-leb (start + length f.ops) 1048576 (omega (arith, short))))) in
    both (function_items c k numbers start f) _
    (both (unless_at (fields_kept c numbers start f) k Rule.Field) _
    (unless (fields_kept c numbers start f) k Rule.Field fields)
    (both (numbers_fault start f.ops) _ (no_number_fault start f.ops h.0.numbers) (ap of_table h.0.layout)))
    (items_none c (suc k) (numbers + numbers_in f) (start + length f.ops) fs h.1 (omega (arith, few))
    (omega (arith, short)))

values_none : (c : CodeValue) (start : ℕ) (fs : List FunctionValue) → Each (ValuesFit c) fs
    → functions_values c start fs ≡ None
values_none c start [] h = refl
values_none c start (f ∷ fs) h =
    both (function_values c start f) _
    (both (counted_from start (broken c f)) _ (ap (counted_from start) h.0.whole) (ap row_fault h.0.words))
    (values_none c (start + length f.ops) fs h.1)

-- ---- the functions of a unit's code

many : (covered : Bool) (graphs : List Graph) (shapes : List ShapeValue) (n : ℕ) (gs : List Graph)
    → length (functions_from covered graphs shapes n gs) ≡ length gs
many covered graphs shapes n [] = refl
many covered graphs shapes n (g ∷ gs) = ap suc (many covered graphs shapes (suc n) gs)

function_at : (covered : Bool) (graphs : List Graph) (shapes : List ShapeValue) (n : ℕ) (gs : List Graph) (i : ℕ)
    (g : Graph) → slice_get gs i ≡ Some g
    → slice_get (functions_from covered graphs shapes n gs) i
    ≡ Some (function_code graphs g (shape_of covered shapes (n + i)))
function_at covered graphs shapes n [] i g at = absurd (none-some g at)
function_at covered graphs shapes n (h ∷ gs) zero g at =
    let e : n ≡ n + 0 = omega arith in
    ap (λ (x : Graph). Some (function_code graphs x (shape_of covered shapes n))) (same_Some h g at)
    ∙ ap (λ k. Some (function_code graphs g (shape_of covered shapes k))) e
function_at covered graphs shapes n (h ∷ gs) (suc i) g at =
    let e : suc n + i ≡ n + suc i = omega arith in
    function_at covered graphs shapes (suc n) gs i g at
    ∙ ap (λ k. Some (function_code graphs g (shape_of covered shapes k))) e

each_function : (P : FunctionValue → Type 0) (covered : Bool) (graphs : List Graph) (shapes : List ShapeValue) (n : ℕ)
    (gs : List Graph)
    → ((i : ℕ) (g : Graph) → slice_get gs i ≡ Some g → P (function_code graphs g (shape_of covered shapes (n + i))))
    → Each P (functions_from covered graphs shapes n gs)
each_function P covered graphs shapes n [] h = tt
each_function P covered graphs shapes n (g ∷ gs) h =
    let e : n + 0 ≡ n = omega arith in (
      subst (λ k. P (function_code graphs g (shape_of covered shapes k))) e (h 0 g refl),
      each_function P covered graphs shapes (suc n) gs
          (λ i x at. (let s : n + suc i ≡ suc n + i = omega arith in
          subst (λ k. P (function_code graphs x (shape_of covered shapes k))) s (h (suc i) x at))),
    )

module _ (covered : Bool) (u : GraphUnit) (shapes : List ShapeValue) (stamp : ℕ) where
  abbrev code : CodeValue
  code = unit_code covered u shapes stamp

  here : (i : ℕ) (g : Graph) → slice_get u.graphs i ≡ Some g
      → slice_get code.functions i ≡ Some (function_code u.graphs g (shape_of covered shapes i))
  here i g at =
      let e : 0 + i ≡ i = omega arith in
      function_at covered u.graphs shapes 0 u.graphs i g at
      ∙ ap (λ k. Some (function_code u.graphs g (shape_of covered shapes k))) e

  -- the code of a unit is laid out as the unit is
  pub unit_is : IsUnitCode (unit_marks covered shapes) u (unit_code covered u shapes stamp)
  unit_is = record {
    main = refl;
    globals = refl;
    count = many covered u.graphs shapes 0 u.graphs;
    functions = λ i g at. (
      function_code u.graphs g (shape_of covered shapes i),
      here i g at,
      record { params = refl; cells = refl; gives = refl; ops = refl },
    );
  }

  module _ (shaped : AreShapesOf covered shapes) where
    code_marks : (o : Option ShapeValue) (g : Graph) → ((s : ShapeValue) → o ≡ Some s → IsShape s) → (a b : ℕ)
        → Marks (function_code u.graphs g o) (shape_marks o a b)
    code_marks None g is a b = tt
    code_marks (Some s) g is a b =
        marks_there s (function_code u.graphs g (Some s)) (is s refl)
        (record { counters = refl; paths = refl; passes = refl }) a b

    marked : (i : ℕ) (g : Graph) (a b : ℕ)
        → Marks (function_code u.graphs g (shape_of covered shapes i)) (unit_marks covered shapes i a b)
    marked i g a b = code_marks (shape_of covered shapes i) g (λ s at. shaped i s at) a b

    -- which function of the code it is
    named : (i : ℕ) (f : FunctionValue) → slice_get code.functions i ≡ Some f
        → (g : Graph) × (slice_get u.graphs i ≡ Some g) × (function_code u.graphs g (shape_of covered shapes i) ≡ f)
    named i f at =
        let lt : i < length code.functions = slice_get_within code.functions i f at in
        let n = many covered u.graphs shapes 0 u.graphs in
        let g = there_is u.graphs i (omega (arith, lt, n)) in
        (g.0, g.1, same_Some _ f (sym (here i g.0 g.1) ∙ at))

    pub unit_suits : SuitsUnit (unit_marks covered shapes) u (unit_code covered u shapes stamp)
    unit_suits = record {
      marked = λ i f at a b. (let n = named i f at in
          subst (λ x. Marks x (unit_marks covered shapes i a b)) n.2 (marked i n.0 a b));
      depth = λ i g f there at. sym (ap (λ (x : FunctionValue). x.depth) (same_Some _ f (sym (here i g there) ∙ at)));
    }

    pub unit_only_marks : AreArcMarks (unit_marks covered shapes)
    unit_only_marks = modes_mark covered shapes shaped

    module _ (orderly : IsOrderlyUnit u) (fits : FitsCode u) where
      sound : Sound (unit_code covered u shapes stamp)
      sound = laid_sound (unit_marks covered shapes) u code unit_is orderly unit_suits

      ops_fit : (i : ℕ) (g : Graph) → slice_get u.graphs i ≡ Some g
          → Each IsFit (graph_code (unit_marks covered shapes i) g)
      ops_fit i g at =
          graph_fits (unit_marks covered shapes i) g (λ a b. unit_only_marks.are_marks i a b) (λ k b there.
          (let runs = (orderly.each i g at).steady.blocks k b there in (
            leaves_fit (length u.globals) g.cells ((orderly.each i g at).steady.depths (2 + k)) b.ops runs.after
                runs.operations,
            (fits.graphs i g at).cases k b there,
          )))

      -- the function has an instruction
      some : (f : FunctionValue) → Kept code f → 0 < length f.ops
      some f kept =
          let lt = slice_get_within kept.depths 0 0 kept.typed.start in let e = kept.typed.size in omega (arith, lt, e)

      whole : (i : ℕ) (g : Graph) → slice_get u.graphs i ≡ Some g
          → broken code (function_code u.graphs g (shape_of covered shapes i)) ≡ None
      whole i g at =
          let o : IsOrderly u g = orderly.each i g at in
          let e : IsCounted u g o = counted_enough u g o in
          laid_passes (unit_marks covered shapes) u code unit_is i g
          (function_code u.graphs g (shape_of covered shapes i)) at (here i g at) o (marked i g) e.enough

      -- what a shape counts is within the limits
      module _ (tables : TablesFit (shape_of covered shapes)) where
        limits : (i : ℕ) (g : Graph) → slice_get u.graphs i ≡ Some g
            → limits_kept (function_code u.graphs g (shape_of covered shapes i)) ≡ true
        limits i g at =
            let f : FunctionValue = function_code u.graphs g (shape_of covered shapes i) in
            let o : IsOrderly u g = orderly.each i g at in
            let e : IsCounted u g o = counted_enough u g o in
            let own = fits.graphs i g at in
            let n = tables.few i in
            let kept : Kept code f = sound.each i f (here i g at) in
            and_from (nat_le f.params f.cells) _ (le-leb f.params f.cells (orderly.params i g at))
            (and_from (nat_lt 0 (length f.ops)) _ (lt-ltb 0 (length f.ops) (some f kept))
            (and_from (nat_le f.params 64) _ (le-leb f.params 64 own.params)
            (and_from (nat_le f.cells 4096) _ (le-leb f.cells 4096 own.cells)
            (and_from (nat_le f.depth 16384) _ (le-leb f.depth 16384 e.low)
            (and_from (nat_le f.counters 4096) _ (le-leb f.counters 4096 n.counters)
            (and_from (nat_le f.paths 65536) _ (le-leb f.paths 65536 n.paths)
            (and_from (nat_le f.passes 4096) _ (le-leb f.passes 4096 n.passes) n.none)))))))

        items : (i : ℕ) (g : Graph) → slice_get u.graphs i ≡ Some g
            → ItemsFit code (function_code u.graphs g (shape_of covered shapes i))
        items i g at = record {
          limits = limits i g at;
          counts = counted_or covered i;
          numbers = ops_fit i g at;
          layout = (tables.few i).layout;
        }
          where
            counted_or : (z : Bool) (i : ℕ)
                → (z || counts_nothing (function_code u.graphs g (shape_of z shapes i))) ≡ true
            counted_or false i = refl
            counted_or true i = refl

        pub passes : total (functions_from covered u.graphs shapes 0 u.graphs) ≤ 4194304
            → code_fault (unit_code covered u shapes stamp) ≡ None
        passes few =
            let short : sizes code.functions ≤ size_of u =
            laid_short (unit_marks covered shapes) u code unit_is unit_only_marks in
            let size = fits.size in
            let fs : List FunctionValue = functions_from covered u.graphs shapes 0 u.graphs in
            let main : main_kept (slice_get code.functions u.main) ≡ true =
            subst (λ (o : Option FunctionValue). main_kept o ≡ true) (sym (here u.main orderly.main orderly.there))
            (and_from (orderly.main.params == 0) orderly.main.gives (eq-eqb orderly.main.params 0 orderly.bare)
            orderly.gives) in
            both (items_fault code) (values_fault code)
            (both (unless_at (nat_le (length u.globals) 1048576) 0 Rule.Field) _
            (unless (nat_le (length u.globals) 1048576) 0 Rule.Field (le-leb (length u.globals) 1048576 fits.globals))
            (both (globals_fault u.globals) _ (no_global_fault u.globals fits.numbers)
            (items_none code 0 0 0 fs
            (each_function (ItemsFit code) covered u.graphs shapes 0 u.graphs
            (λ i g at. (let e : i ≡ 0 + i = omega arith in
            subst (λ k. ItemsFit code (function_code u.graphs g (shape_of covered shapes k))) e (items i g at))))
            (omega (arith, few)) (omega (arith, short, size)))))
            (both (unless_at (main_kept (slice_get code.functions u.main)) 0 Rule.Field) _
            (unless (main_kept (slice_get code.functions u.main)) 0 Rule.Field main)
            (values_none code 0 fs
            (each_function (ValuesFit code) covered u.graphs shapes 0 u.graphs
            (λ i g at. (let e : i ≡ 0 + i = omega arith in
            subst (λ k. ValuesFit code (function_code u.graphs g (shape_of covered shapes k))) e
            (record { whole = whole i g at; words = (tables.few i).words }))))))

-- a function that counts nothing
pub nothing_counts : CountsFit None
nothing_counts = record {
  counters = omega arith;
  paths = omega arith;
  passes = omega arith;
  none = refl;
  layout = refl;
  words = refl;
}

no_numbers : (graphs : List Graph) (shapes : List ShapeValue) (n : ℕ) (gs : List Graph)
    → total (functions_from false graphs shapes n gs) ≡ 0
no_numbers graphs shapes n [] = refl
no_numbers graphs shapes n (g ∷ gs) = let rest = no_numbers graphs shapes (suc n) gs in omega (arith, rest)

pub plain_passes : PlainCodePasses
plain_passes u shapes stamp orderly fits =
    let none = no_numbers u.graphs shapes 0 u.graphs in
    passes false u shapes stamp (λ i s at. absurd (none-some s at)) orderly fits (record { few = λ i. nothing_counts })
    (omega (arith, none))
