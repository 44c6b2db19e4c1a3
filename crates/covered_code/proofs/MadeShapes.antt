-- Shapes made one after another.
use Rattle.std.proofs.Common.{◌≡◌, refl, sym, ap, subst, ◌∙◌, ℕ, zero, suc, ◌+◌, ◌<◌, ◌≤◌, List, [], ◌∷◌, ◌++◌, length}
use Rattle.std.proofs.Common.{take, get_or, Some}
use Rattle.std.specs.Prelude.{slice_get}
use Rattle.std.specs.List.{All}
use Rattle.std.proofs.lemmas.Option.{same_Some, none-some, slice_get_within, get_or_from_slice_get}
use Rattle.std.proofs.lemmas.List.{take_more, take_all}
use Rattle.cov_base.specs.Net.{NetValue, IsNet}
use Rattle.flow_graph.specs.Graph.{Graph, GraphUnit}
use Rattle.flow_graph.specs.Nets.{net_of}
use Rattle.fake_arcs.specs.Tidy.{IsTidy}
use Rattle.fake_arcs.proofs.NetOf.{net_of_tidy}
use Rattle.span_tree.specs.Tree.{off}
use Rattle.stack_code.specs.Modes.{ShapeValue, IsShape, HasRows}
use Rattle.covered_runs.specs.CoveredWalks.{HasShapes}
use Rattle.covered_runs.specs.CoveredWalks.{ListsPrimes}
use Rattle.covered_code.specs.Shapes.{IsMade, AreMade}
use Rattle.covered_code.proofs.ListedRows.{has_rows, lists_primes}

-- a graph more gets a shape more
pub made_more : (limit : ℕ) (gs : List Graph) (shapes : List ShapeValue) (g : Graph) (s : ShapeValue)
    → AreMade limit gs shapes → IsMade limit g s → AreMade limit (gs ++ g ∷ []) (shapes ++ s ∷ [])
made_more limit [] [] g s h own = (own, tt)
made_more limit [] (t ∷ shapes) g s h own = absurd h
made_more limit (x ∷ gs) [] g s h own = absurd h
made_more limit (x ∷ gs) (t ∷ shapes) g s h own = (h.0, made_more limit gs shapes g s h.1 own)

-- a step of making them
pub made_step : (limit : ℕ) (gs : List Graph) (k : ℕ) (old new : List ShapeValue) (s : ShapeValue) (g : Graph)
    → k < length gs → AreMade limit (take k gs) old → g ≡ get_or gs k g → IsMade limit g s → new ≡ old ++ s ∷ []
    → AreMade limit (take (k + 1) gs) new
made_step limit gs k old new s g lt h at own e =
    subst (λ (l : List ShapeValue). AreMade limit (take (k + 1) gs) l) (sym e)
    (subst (λ (l : List Graph). AreMade limit l (old ++ s ∷ [])) (sym (take_more gs k g lt))
    (made_more limit (take k gs) old (get_or gs k g) s h (subst (λ (x : Graph). IsMade limit x s) at own)))

-- all of them are made
pub made_all : (limit : ℕ) (gs : List Graph) (k : ℕ) (shapes : List ShapeValue) → length gs ≤ k
    → AreMade limit (take k gs) shapes → AreMade limit gs shapes
made_all limit gs k shapes le h = subst (λ (l : List Graph). AreMade limit l shapes) (take_all k gs le) h

-- the shape of a graph
pub made_at : (limit : ℕ) (gs : List Graph) (shapes : List ShapeValue) → AreMade limit gs shapes → (i : ℕ) (g : Graph)
    → slice_get gs i ≡ Some g → (s : ShapeValue) × (slice_get shapes i ≡ Some s) × IsMade limit g s
made_at limit [] shapes h i g at = absurd (none-some g at)
made_at limit (x ∷ gs) [] h i g at = absurd h
made_at limit (x ∷ gs) (s ∷ shapes) h zero g at =
    (s, refl, subst (λ (y : Graph). IsMade limit y s) (same_Some x g at) h.0)
made_at limit (x ∷ gs) (s ∷ shapes) h (suc i) g at = made_at limit gs shapes h.1 i g at

-- the graph of a shape
graph_at : (limit : ℕ) (gs : List Graph) (shapes : List ShapeValue) → AreMade limit gs shapes → (i : ℕ)
    (s : ShapeValue) → slice_get shapes i ≡ Some s → (g : Graph) × (slice_get gs i ≡ Some g)
graph_at limit [] [] h i s at = absurd (none-some s at)
graph_at limit [] (t ∷ shapes) h i s at = absurd h
graph_at limit (x ∷ gs) [] h i s at = absurd h
graph_at limit (x ∷ gs) (t ∷ shapes) h zero s at = (x, refl)
graph_at limit (x ∷ gs) (t ∷ shapes) h (suc i) s at = graph_at limit gs shapes h.1 i s at

-- what is made is a shape of its net
made_shape : (limit : ℕ) (g : Graph) (s : ShapeValue) → limit ≤ 65536 → IsTidy g → IsMade limit g s → IsShape s
made_shape limit g s few tidy made = record {
  net = subst IsNet (sym made.net) (net_of_tidy g tidy);
  plan = made.plan ∙ ap (λ (n : NetValue). off n) (sym made.net);
  rows = subst (λ (n : NetValue). HasRows n s.paths s.rows) (sym made.net)
      (has_rows (net_of g) limit made.rows.paths s.rows s.paths few made.rows.by);
}

-- a shape, with the graph that it is of
record ShapeAt (limit : ℕ) (gs : List Graph) (i : ℕ) (s : ShapeValue) : Type 0 where
  graph : Graph
  at : slice_get gs i ≡ Some graph
  made : IsMade limit graph s

shape_at : (limit : ℕ) (gs : List Graph) (shapes : List ShapeValue) → AreMade limit gs shapes → (i : ℕ)
    (s : ShapeValue) → slice_get shapes i ≡ Some s → ShapeAt limit gs i s
shape_at limit gs shapes h i s there =
    let g = graph_at limit gs shapes h i s there in
    let m = made_at limit gs shapes h i g.0 g.1 in
    record {
      graph = g.0;
      at = g.1;
      made = subst (λ (t : ShapeValue). IsMade limit g.0 t) (same_Some m.0 s (sym m.1 ∙ there)) m.2;
    }

pub tidy_at : (gs : List Graph) → All IsTidy gs → (i : ℕ) (g : Graph) → slice_get gs i ≡ Some g → IsTidy g
tidy_at gs all i g at = subst IsTidy (get_or_from_slice_get gs i g g at) (all i g (slice_get_within gs i g at))

-- The shapes that are made are shapes of the nets of the unit's graphs.
pub has_shapes : (limit : ℕ) (u : GraphUnit) (shapes : List ShapeValue) → limit ≤ 65536 → All IsTidy u.graphs
    → AreMade limit u.graphs shapes → HasShapes u shapes
has_shapes limit u shapes few tidy h = record {
  are = λ i s there. (let a = shape_at limit u.graphs shapes h i s there in
      made_shape limit a.graph s few (tidy_at u.graphs tidy i a.graph a.at) a.made);
  nets = λ i g at. (let m = made_at limit u.graphs shapes h i g at in (m.0, m.1, m.2.net));
}

-- Their rows are those of prime paths.
pub primes_listed : (limit : ℕ) (gs : List Graph) (shapes : List ShapeValue) → AreMade limit gs shapes → (i : ℕ)
    (s : ShapeValue) → slice_get shapes i ≡ Some s → ListsPrimes s s.rows
primes_listed limit gs shapes h i s there =
    let a = shape_at limit gs shapes h i s there in
    lists_primes s (net_of a.graph) limit a.made.rows.paths s.rows s.paths (sym a.made.net) a.made.rows.primes
    a.made.rows.by
