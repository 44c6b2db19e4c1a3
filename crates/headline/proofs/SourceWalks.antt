-- The walks of runs of a source that returned or exited go through the nets of its functions, so that data of them
-- have the tally of these walks.
use Rattle.std.proofs.Common.{◌≡◌, refl, subst, ℕ, Bool, true, false, cond}
use Rattle.std.proofs.Common.{List, [], ◌∷◌, map, Some, None}
use Rattle.std.specs.Prelude.{Option, slice_get}
use Rattle.std.proofs.lemmas.List.Elements.{All-nil}
use Rattle.std.proofs.lemmas.Option.{slice_get-map}
use Rattle.cov_base.specs.Net.{IsNet}
use Rattle.cov_base.specs.Walks.{Walk}
use Rattle.c_tree.specs.Sound.{Sound}
use Rattle.c_tree.specs.Typed.{Typed}
use Rattle.c_lower.specs.Lowered.{unit_of}
use Rattle.flow_graph.specs.Graph.{Graph, GraphUnit}
use Rattle.flow_graph.specs.Nets.{pruned}
use Rattle.flow_graph.specs.WalkRun.{Walked}
use Rattle.gcno_format.specs.Notes.{FunctionNotesValue, NotesValue}
use Rattle.orderly_units.proofs.OrderlySources.{source_orderly}
use Rattle.covered_code.specs.UnitNotes.{function_of}
use Rattle.run_counts.specs.Texts.{is_closed}
use Rattle.walk_counts.specs.WalkTallies.{GoThroughNets}
use Rattle.walk_counts.specs.WholeWalks.{AllGoThrough, GoesThrough}
use Rattle.walk_counts.proofs.Adding.{go_together}
use Rattle.walk_counts.proofs.Circulating.{closed_go_through}
use Rattle.headline.specs.SourceRuns.{Asked, AreWalked, IsWalked, closed_walks, notes_for}
use Rattle.headline.proofs.CountedRuns.{closed_so}

-- the graph that has these notes
record GraphAt (gs : List Graph) (i : ℕ) (f : FunctionNotesValue) : Type 0 where
  graph : Graph
  at : slice_get gs i ≡ Some graph
  is : function_of graph ≡ f

graph_at : (gs : List Graph) (i : ℕ) (f : FunctionNotesValue) → slice_get (map function_of gs) i ≡ Some f
    → GraphAt gs i f
graph_at gs i f at = by (slice_get gs i) refl
  where
    by : (o : Option Graph) → slice_get gs i ≡ o → GraphAt gs i f
    by None e = absurd (let n = slice_get-map function_of gs i in let a = at in cc)
    by (Some g) e = record {
      graph = g;
      at = e;
      is = (let n = slice_get-map function_of gs i in let a = at in cc);
    }

-- each function of these notes has a net
abbrev pub HaveNets : NotesValue → Type 0
HaveNets notes = (i : ℕ) (f : FunctionNotesValue) → slice_get notes.functions i ≡ Some f → IsNet f.net

module _ (limit : ℕ) (text : List ℕ) (source : Typed) (sound : Sound source)
    (nets : HaveNets (notes_for limit text source)) where
  abbrev u : GraphUnit
  u = pruned (unit_of source)

  none_go : GoThroughNets (notes_for limit text source) []
  none_go = record {
    nets = nets;
    through = λ i f at. All-nil (λ (w : Walk). w.function ≡ i → GoesThrough f.net w.blocks);
  }

  one_goes : (asked : Asked) (walked : Walked) → IsWalked source asked walked
      → GoThroughNets (notes_for limit text source) (cond (is_closed walked.ending) walked.walks [])
  one_goes asked walked run = by (is_closed walked.ending) refl
    where
      by : (z : Bool) → is_closed walked.ending ≡ z
          → GoThroughNets (notes_for limit text source) (cond z walked.walks [])
      by true e = record {
        nets = nets;
        through = λ i f at.
            (let g = graph_at u.graphs i f at in
            subst (λ (x : FunctionNotesValue). AllGoThrough x.net i walked.walks) g.is
            (closed_go_through u (λ k h there. ((source_orderly source sound).each k h there).made) asked.input
            asked.turns walked run (closed_so walked.ending e) i g.graph g.at));
      }
      by false e = none_go

  pub all_go : (asked : List Asked) (walked : List Walked) → AreWalked source asked walked
      → GoThroughNets (notes_for limit text source) (closed_walks walked)
  all_go [] [] h = none_go
  all_go [] (w ∷ others) h = absurd h
  all_go (a ∷ asked) [] h = absurd h
  all_go (a ∷ asked) (w ∷ others) h =
      go_together (notes_for limit text source) (cond (is_closed w.ending) w.walks []) (closed_walks others)
      (one_goes a w h.0) (all_go asked others h.1)
