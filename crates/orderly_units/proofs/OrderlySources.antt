-- The pruned graphs of a sound source are an orderly unit.
use Rattle.std.proofs.Common.{◌≡◌, ap, subst, ◌∙◌, ℕ, ◌+◌, ◌≤◌, List, [], ◌∷◌, map, length, Option, Some}
use Rattle.std.proofs.Common.{slice_get, option_map, arith}
use Rattle.std.proofs.lemmas.Option.{slice_get-map}
use Rattle.c_tree.specs.declared.typed_expr.CellAt.TheVariants as cell
use Rattle.c_tree.specs.Typed.{TypedFunction, Typed}
use Rattle.c_tree.specs.TypedStmt.{TypedVar}
use Rattle.c_tree.specs.TypedParts.{size}
use Rattle.c_tree.specs.Sound.{SoundFunction, Sound, Numbered, standing}
use Rattle.flow_graph.specs.Graph.{Graph}
use Rattle.flow_graph.specs.Nets.{pruned_graph, pruned}
use Rattle.c_lower.specs.Items.{gives_number}
use Rattle.c_lower.specs.Lowered.{graph_of, unit_of}
use Rattle.fake_arcs.proofs.Tidied.{pruned_made}
use Rattle.lower_agrees.proofs.Calls.{graph_found}
use Rattle.lower_agrees.proofs.Whole.{each_at}
use Rattle.prune_agrees.proofs.Made.{function_made}
use Rattle.operand_depths.specs.Laws.{IsGraphOf}
use Rattle.operand_depths.proofs.Pruned.{pruned_steady}
use Rattle.stack_code.specs.Orderly.{IsOrderly, IsOrderlyUnit}
use Rattle.orderly_units.specs.Laws.{GoesWell}
use Rattle.orderly_units.proofs.AheadBlocks.{made_of}
use Rattle.orderly_units.proofs.ReachedBlocks.{blocks_well}
use Rattle.orderly_units.proofs.PrunedGraphs.{pruned_on, pruned_entered}

-- the cells of variables go up
cells_up : (vs : List TypedVar) (next last : ℕ) → Numbered next vs last → next ≤ last
cells_up [] next last h = omega (arith, h)
cells_up (v ∷ vs) next last h = let up = cells_up vs (next + size v) last h.1 in omega (arith, up)

module _ (source : Typed) (sound : Sound source) where
  -- the function that a pruned graph is of
  pub record Of (i : ℕ) (g : Graph) : Type 0 where
    pub text : TypedFunction
    pub there : slice_get source.functions i ≡ Some text
    pub same : pruned_graph (graph_of text) ≡ g

  pub of_function : (i : ℕ) (g : Graph) → slice_get (pruned (unit_of source)).graphs i ≡ Some g → Of i g
  of_function i g at =
      let old = made_of pruned_graph (map graph_of source.functions) i g at in
      let text = made_of graph_of source.functions i old.0 old.1 in
      record { text = text.0; there = text.1; same = ap pruned_graph text.2 ∙ old.2 }

  pub sound_function : (i : ℕ) (f : TypedFunction) → slice_get source.functions i ≡ Some f
      → SoundFunction source.functions (standing cell.Global 0 sound.global_lengths) sound.global_types
      (length source.globals) f
  sound_function i f at =
      each_at (SoundFunction source.functions (standing cell.Global 0 sound.global_lengths) sound.global_types
      (length source.globals)) source.functions i f sound.functions at

  pub well : (i : ℕ) (f : TypedFunction) → slice_get source.functions i ≡ Some f → GoesWell (graph_of f)
  well i f at = blocks_well source sound i f at

  graph_orderly : (i : ℕ) (f : TypedFunction) → slice_get source.functions i ≡ Some f
      → IsOrderly (pruned (unit_of source)) (pruned_graph (graph_of f))
  graph_orderly i f at =
      let made = function_made source sound i f at in
      let good = well i f at in record {
        made = pruned_made (graph_of f) made;
        steady = pruned_steady source sound (graph_of f)
            (record { function = i; there = graph_found source.functions i f at });
        on = pruned_on (graph_of f) made good;
        entered = pruned_entered (graph_of f) made good;
      }

  pub source_orderly : IsOrderlyUnit (pruned (unit_of source))
  source_orderly =
      let main = sound.main in record {
        main = pruned_graph (graph_of main.0);
        there = slice_get-map pruned_graph (map graph_of source.functions) source.main
            ∙ ap (λ (o : Option Graph). option_map pruned_graph o)
            (graph_found source.functions source.main main.0 main.1);
        bare = ap (λ (l : List _). length l) main.2.params;
        gives = ap gives_number main.2.result;
        params = λ i g at.
            let f = of_function i g at in
            subst (λ (g : Graph). g.params ≤ g.cells) f.same
            (cells_up _ (length f.text.params) f.text.cells (sound_function i f.text f.there).cells);
        each = λ i g at.
            let f = of_function i g at in
            subst (λ (g : Graph). IsOrderly (pruned (unit_of source)) g) f.same (graph_orderly i f.text f.there);
      }

-- Each graph of a sound source goes well.
pub graphs_well : (source : Typed) → Sound source → (g : Graph) → IsGraphOf (unit_of source) g → GoesWell g
graphs_well source sound g at =
    let text = made_of graph_of source.functions at.function g at.there in
    subst (λ (g : Graph). GoesWell g) text.2 (blocks_well source sound at.function text.0 text.1)
