-- The run of a sound source's pruned graphs is its meaning.
use Rattle.std.proofs.Common.{◌≡◌, ◌∙◌, ap, ℕ, List}
use Rattle.c_tree.specs.Typed.{Typed}
use Rattle.c_tree.specs.Sound.{Sound}
use Rattle.flow_graph.specs.Graph.{GraphUnit}
use Rattle.c_lower.specs.Lowered.{unit_of}
use Rattle.flow_graph.specs.Nets.{pruned}
use Rattle.fake_arcs.specs.Runs.{renamed_walked}
use Rattle.fake_arcs.proofs.Lockstep.{keeps_runs, run_there, run_back}
use Rattle.lower_agrees.specs.Agreement.{Agrees}
use Rattle.lower_agrees.proofs.Whole.{agree}
use Rattle.prune_agrees.specs.Joined.{PrunedAgrees}

-- what agrees with its graphs agrees with its pruned graphs
pub agrees_pruned : (source : Typed) (input : List ℕ) (turns : ℕ) → Agrees source input turns
    → PrunedAgrees source input turns
agrees_pruned source input turns a = record {
  walked = renamed_walked u a.walked;
  comes = run_there u (pruned u) (keeps_runs u) input turns a.walked a.comes;
  alone = λ other run.
      let old = run_back u (pruned u) (keeps_runs u) input turns other run in
      old.2 ∙ ap (renamed_walked u) (a.alone old.0 old.1);
  output = a.output;
  ending = a.ending;
}
  where
    u : GraphUnit
    u = unit_of source

-- Each sound source agrees with its pruned graphs.
pub pruned_agrees : (source : Typed) → Sound source → (input : List ℕ) (turns : ℕ) → PrunedAgrees source input turns
pruned_agrees source sound input turns = agrees_pruned source input turns (agree source sound input turns)
