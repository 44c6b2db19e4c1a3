-- What the parts of a source give.
use Rattle.std.specs.Prelude.{ℕ, ℤ, List, [], ◌∷◌}
use Rattle.c_tree.specs.Tree.{Outer}
use Rattle.c_tree.specs.Typed.{TypedFunction}
use Rattle.c_typing.specs.Declarations.{all_numbers}
use Rattle.c_typing.specs.Sources.{File, declare_head, typed_function}

-- the typed function that a part of a source defines
abbrev pub functions_of : List (List ℕ) → File → Outer → List TypedFunction
functions_of names file (Outer.Function head body) =
    typed_function (declare_head names file.here head) head body ∷ []
functions_of names file _ = []

-- the numbers that the cells of the globals begin with which it declares
abbrev pub numbers_of : File → Outer → List ℤ
numbers_of file (Outer.Vars vars) = all_numbers file.here vars
numbers_of file _ = []
