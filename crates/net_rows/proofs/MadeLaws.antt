-- What passes the test has what the nets of pruned graphs rest on.
use Rattle.std.proofs.Common.{◌≡◌, sym, ap, subst, ◌∙◌, ℕ, zero, suc, ◌+◌, ◌<◌, ◌==◌, List, [], ◌∷◌, length, get_or}
use Rattle.std.proofs.Common.{Bool, true}
use Rattle.std.proofs.Common.{eqb-true, inl, inr}
use Rattle.std.specs.Prelude.{Some, slice_get}
use Rattle.std.specs.List.{All, list_all}
use Rattle.std.proofs.lemmas.Bool.{or_cases, and_parts, ltb-true}
use Rattle.std.proofs.lemmas.Option.{none-some, same_Some}
use Rattle.std.proofs.lemmas.List.Elements.{All-nil, All-cons}
use Rattle.cov_base.specs.Net.{ascends}
use Rattle.flow_graph.specs.Graph.{Block, Graph}
use Rattle.flow_graph.specs.Nets.{targets, among}
use Rattle.fake_arcs.specs.Tidy.{IsWellMade, IsTidy}
use Rattle.net_rows.specs.WellMade.{is_later, block_made, graph_made}

among_all : (p : ℕ → Bool) (ts : List ℕ) (t : ℕ) → list_all p ts ≡ true → among t ts ≡ true → p t ≡ true
among_all p [] t all m = absurd (cc)
among_all p (x ∷ ts) t all m = elim (or_cases (t == x) (among t ts) m) [
  | inl here ↦ subst (λ y. p y ≡ true) (sym (eqb-true t x here)) (and_parts _ _ all).0
  | inr later ↦ among_all p ts t (and_parts _ _ all).1 later
]

at_all : {X : Type 0} (p : X → Bool) (xs : List X) (k : ℕ) (x : X) → list_all p xs ≡ true → slice_get xs k ≡ Some x
    → p x ≡ true
at_all p [] k x all at = absurd (none-some x at)
at_all p (y ∷ ys) zero x all at = subst (λ z. p z ≡ true) (same_Some y x at) (and_parts _ _ all).0
at_all p (y ∷ ys) (suc k) x all at = at_all p ys k x (and_parts _ _ all).1 at

lines_ascend : (count : ℕ) (bs : List Block) → list_all (block_made count) bs ≡ true
    → All (λ b. ascends 0 b.lines ≡ true) bs
lines_ascend count [] all = All-nil (λ b. ascends 0 b.lines ≡ true)
lines_ascend count (b ∷ bs) all =
    All-cons (λ b. ascends 0 b.lines ≡ true) b bs (and_parts _ _ (and_parts _ _ all).0).1
    (lines_ascend count bs (and_parts _ _ all).1)

graph_is_made : (g : Graph) → graph_made g ≡ true → IsWellMade g
graph_is_made g made = record {
  some = ltb-true 0 (length g.blocks) (and_parts _ _ made).0;
  aims = λ k t b at m.
      let block = at_all (block_made (length g.blocks)) g.blocks k b (and_parts _ _ made).1 at in
      let later = among_all (is_later (length g.blocks)) (targets b.end) t (and_parts _ _ block).0 m in
      (ltb-true 2 t (and_parts _ _ later).0, ltb-true t (2 + length g.blocks) (and_parts _ _ later).1);
  lines = lines_ascend (length g.blocks) g.blocks (and_parts _ _ made).1;
}

pub graphs_are_made : (gs : List Graph) → list_all graph_made gs ≡ true → All IsWellMade gs
graphs_are_made [] all = All-nil IsWellMade
graphs_are_made (g ∷ gs) all =
    All-cons IsWellMade g gs (graph_is_made g (and_parts _ _ all).0) (graphs_are_made gs (and_parts _ _ all).1)

pub tidy_at : (graphs seen : List Graph) (k : ℕ) (g : Graph) → All IsTidy graphs → seen ≡ graphs → k < length seen
    → g ≡ get_or seen k g → IsTidy g
tidy_at graphs seen k g all same within at =
    subst IsTidy (sym (at ∙ ap (λ (l : List Graph). get_or l k g) same))
    (all k g (subst (λ (l : List Graph). k < length l) same within))
