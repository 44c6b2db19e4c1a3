-- Lists of numbers as runs of equal ones.
use Rattle.std.specs.Prelude.{ℤ, List, [], ◌∷◌, ◌++◌, replicate}
use Rattle.c_tree.specs.declared.globals.NumberRun.{NumberRun}

-- the numbers of runs that stand one behind another
abbrev pub all_of : List NumberRun → List ℤ
all_of [] = []
all_of (run ∷ runs) = replicate run.count run.number ++ all_of runs
