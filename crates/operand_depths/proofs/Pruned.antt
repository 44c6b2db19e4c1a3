-- Pruning keeps how many operands stand where a block begins.
use Rattle.std.proofs.Common.{◌≡◌, refl, sym, ap, subst, ◌∙◌, ℕ, zero, suc, ◌+◌, ◌-◌, ◌<◌, ◌≤◌, ◌==◌, ◌||◌, Bool, true}
use Rattle.std.proofs.Common.{false, cond, List, [], ◌∷◌, length, map, Option, Some, None, slice_get, ◌⊎◌, inl, inr, arith}
use Rattle.std.proofs.Common.{eqb-true, option_map}
use Rattle.std.specs.Prelude.{ℤ}
use Rattle.std.proofs.lemmas.Bool.{or_cases, or_left, or_right}
use Rattle.std.proofs.lemmas.Option.{same_Some, none-some, slice_get-map}
use Rattle.c_tree.specs.Typed.{TypedFunction, Typed}
use Rattle.c_tree.specs.Sound.{Each, Sound}
use Rattle.flow_graph.specs.Graph.{Ending, Block, Graph, GraphUnit}
use Rattle.flow_graph.specs.Nets.{targets, among, reached, rank_from, new_number, renamed, pruned_graph, pruned}
use Rattle.c_lower.specs.Lowered.{graph_of, unit_of}
use Rattle.fake_arcs.specs.Tidy.{IsWellMade}
use Rattle.fake_arcs.proofs.Lockstep.{number_two, number_inside, among_line, itself}
use Rattle.fake_arcs.proofs.Ranks.{with_numbers, rank_low, kept_same}
use Rattle.fake_arcs.proofs.Reaching.{reached_two, reached_closed}
use Rattle.fake_arcs.proofs.Tidied.{Origin, origin}
use Rattle.lower_agrees.proofs.Calls.{graph_found, text_found}
use Rattle.prune_agrees.proofs.Made.{function_made}
use Rattle.operand_depths.specs.Depths.{Leads, Runs, Steady}
use Rattle.operand_depths.specs.Laws.{IsGraphOf}
use Rattle.operand_depths.proofs.Blocks.{graphs_steady}

-- a kept number stands at its rank among the kept ones
rank_found : (r : ℕ) (ks : List ℕ) (b : ℕ) → among b ks ≡ true → slice_get ks (rank_from r ks b - r) ≡ Some b
rank_found r [] b m = absurd (let never : false ≡ true = m in cc)
rank_found r (k ∷ ks) b m = go (k == b) refl (λ h. rank_found (suc r) ks b h)
  where
    go : (same : Bool) → (k == b) ≡ same
        → (among b ks ≡ true → slice_get ks (rank_from (suc r) ks b - suc r) ≡ Some b)
        → slice_get (k ∷ ks) (cond same r (rank_from (suc r) ks b) - r) ≡ Some b
    go true e rec =
        let none : r - r ≡ 0 = omega arith in
        ap (λ (i : ℕ). slice_get (k ∷ ks) i) none ∙ ap (λ (n : ℕ). Some n) (eqb-true k b e)
    go false e rec =
        let low : suc r ≤ rank_from (suc r) ks b = rank_low (suc r) ks b in
        let less : rank_from (suc r) ks b - r ≡ suc (rank_from (suc r) ks b - suc r) = omega (arith, low) in
        ap (λ (i : ℕ). slice_get (k ∷ ks) i) less ∙ rec (elim (or_cases (b == k) (among b ks) m) [
          | inl same ↦
              let equal : b ≡ k = eqb-true b k same in
              absurd (let never : (b == b) ≡ false = subst (λ (n : ℕ). (n == b) ≡ false) (sym equal) e in
              let own : among b (b ∷ []) ≡ true = itself b [] in grind (arith, never, own))
          | inr other ↦ other
        ])

module _ (u : GraphUnit) (g : Graph) (made : IsWellMade g) (steady : Steady u g) where
  abbrev kept : List ℕ
  kept = reached g.blocks

  abbrev old_depth : Option ℕ → ℕ
  old_depth None = 0
  old_depth (Some b) = steady.depths b

  abbrev depths : ℕ → ℕ
  depths n = old_depth (slice_get kept (n - 2))

  depth_kept : (t : ℕ) → 2 ≤ t → among t kept ≡ true → depths (new_number kept t) ≡ steady.depths t
  depth_kept t low m =
      ap depths (number_inside kept t low) ∙ ap old_depth (rank_found 2 kept t m)

  cases_kept : (graphs : List Graph) (cases : List (ℤ × ℕ)) (d default : ℕ)
      → ((t : ℕ) → among t (targets (Ending.Switch cases default)) ≡ true
      → depths (new_number kept t) ≡ steady.depths t)
      → Each (λ c. steady.depths c.1 ≡ d) cases
      → Each (λ (c : ℤ × ℕ). depths c.1 ≡ d) (map (λ (c : ℤ × ℕ). (c.0, new_number kept c.1)) cases)
      × (depths (new_number kept default) ≡ steady.depths default)
  cases_kept graphs [] d default each e = (tt, each default (itself default []))
  cases_kept graphs (c ∷ cases) d default each e =
      let more = cases_kept graphs cases d default
      (λ t m. each t (among_line c.1 t (targets (Ending.Switch cases default)) (or_right _ _ m))) e.1 in (
        (each c.1 (among_line c.1 c.1 (targets (Ending.Switch cases default)) (itself c.1 _)) ∙ e.0, more.0),
        more.1,
      )

  leads_kept : (end : Ending) (own : Bool) (d : ℕ)
      → ((t : ℕ) → among t (targets end) ≡ true → depths (new_number kept t) ≡ steady.depths t)
      → Leads u.graphs own steady.depths d end
      → Leads (pruned u).graphs own depths d (renamed (new_number kept) end)
  leads_kept (Ending.Jump t) own d each e = each t (itself t []) ∙ e
  leads_kept (Ending.Back t) own d each e = each t (itself t []) ∙ e
  leads_kept (Ending.Branch t f) own d each e = (
    e.0,
    each t (among_line t t (f ∷ []) (itself t (f ∷ []))) ∙ e.1,
    each f (among_line t f (f ∷ []) (or_right _ _ (itself f []))) ∙ e.2,
  )
  leads_kept (Ending.Switch cases default) own d each e =
      let more = cases_kept u.graphs cases (d - 1) default each e.1 in (e.0, more.0, more.1 ∙ e.2)
  leads_kept (Ending.Call n line next) own d each e = (
    pruned_graph e.0,
    slice_get-map pruned_graph u.graphs n ∙ ap (λ (o : Option Graph). option_map pruned_graph o) e.1,
    e.2,
    each next (itself next []) ∙ e.3,
  )
  leads_kept Ending.Return own d each e = e
  leads_kept Ending.Exit own d each e = e

  -- a pruned graph's block comes from one of the graph
  block_kept : (k : ℕ) (b : Block) → Origin kept 2 2 g.blocks k b
      → Runs (pruned u) (pruned_graph g) depths (depths (2 + k)) b
  block_kept k b o =
      let some : 0 < length g.blocks = made.some in
      let rank : rank_from 2 kept (2 + o.at) ≡ 2 + k =
      subst (λ (l : List ℕ). rank_from 2 l (2 + o.at) ≡ 2 + k) (kept_same g.blocks some) o.rank in
      let begins : depths (2 + k) ≡ steady.depths (2 + o.at) =
      ap depths (sym rank) ∙ ap old_depth (rank_found 2 kept (2 + o.at) o.kept_there) in
      let runs = steady.blocks o.at o.old o.there in
      subst (λ (b : Block). Runs (pruned u) (pruned_graph g) depths (depths (2 + k)) b) (sym o.same)
      (subst (λ (d : ℕ). Runs (pruned u) (pruned_graph g) depths d (with_numbers kept o.old)) (sym begins) (record {
        room = runs.room;
        after = runs.after;
        operations = runs.operations;
        ending = leads_kept o.old.end g.gives runs.after (λ t m.
            let inside = made.aims o.at t o.old o.there m in
            let low : 2 ≤ t = let h = inside.0 in omega (arith, h) in
            depth_kept t low (reached_closed g.blocks o.at t o.old o.there o.kept_there m low inside.1)) runs.ending;
      }))

  -- A pruned graph is steady where the graph is.
  pub graph_kept : Steady (pruned u) (pruned_graph g)
  graph_kept = record {
    depths = depths;
    first =
        subst (λ (n : ℕ). depths n ≡ 0) (number_two (Some g))
        (depth_kept 2 (omega arith) (reached_two g.blocks) ∙ steady.first);
    blocks = λ k b at. block_kept k b (origin kept 2 2 g.blocks k b at);
  }

pub pruning_keeps : (u : GraphUnit) (g : Graph) → IsWellMade g → Steady u g → Steady (pruned u) (pruned_graph g)
pruning_keeps u g made steady = graph_kept u g made steady

-- Each pruned graph of a sound source is steady.
pub pruned_steady : (source : Typed) → Sound source → (g : Graph) → IsGraphOf (unit_of source) g
    → Steady (pruned (unit_of source)) (pruned_graph g)
pruned_steady source sound g at =
    let found = text_found source.functions at.function g at.there in
    let same : graph_of found.0 ≡ g =
    same_Some (graph_of found.0) g (sym (graph_found source.functions at.function found.0 found.1) ∙ at.there) in
    let made : IsWellMade g =
    subst (λ (g : Graph). IsWellMade g) same (function_made source sound at.function found.0 found.1) in
    pruning_keeps (unit_of source) g made (graphs_steady source sound g at)
