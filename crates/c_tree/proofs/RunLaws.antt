-- Runs that stand one behind another.
use Rattle.std.proofs.Common.{◌≡◌, sym, ap, ◌∙◌, List, [], ◌∷◌, ◌++◌, length, ◌+◌}
use Rattle.std.specs.Prelude.{replicate}
use Rattle.std.proofs.lemmas.List.{append_assoc, append-nil, length-append, length-replicate}
use Rattle.c_tree.specs.declared.globals.NumberRun.{NumberRun}
use Rattle.c_tree.specs.Runs.{all_of}

pub one_more : (runs : List NumberRun) (run : NumberRun) → all_of (runs ++ run ∷ []) ≡ all_of runs ++ replicate run.count run.number
one_more [] run = append-nil (replicate run.count run.number)
one_more (first ∷ runs) run = ap (λ xs. replicate first.count first.number ++ xs) (one_more runs run) ∙ sym (append_assoc (replicate first.count first.number) (all_of runs) (replicate run.count run.number))

pub longer : (runs : List NumberRun) (run : NumberRun) → length (all_of (runs ++ run ∷ [])) ≡ length (all_of runs) + run.count
longer runs run = ap length (one_more runs run) ∙ (length-append (all_of runs) (replicate run.count run.number) ∙ ap (λ n. length (all_of runs) + n) (length-replicate run.count run.number))
