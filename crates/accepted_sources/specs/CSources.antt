-- The C sources of the language, as C17 and the limits have them.
use Rattle.std.specs.Prelude.{◌≡◌, ◌≤◌, ℕ, List, [], length, None}
use Rattle.cov_base.specs.Limits.{source_limit, level_limit}
use Rattle.c_tokens.specs.declared.token.Token.{Token}
use Rattle.c_tokens.specs.Tokens.{Splits}
use Rattle.c_tree.specs.Tree.{Tree}
use Rattle.c_tree.specs.Levels.{tree_levels}
use Rattle.c_syntax.specs.Syntax.{IsSource}
use Rattle.c_derivable.specs.Laws.{HoldNoVoid}
use Rattle.c_typing.specs.Sources.{type_faults, typed_of}
use Rattle.c_lower.specs.Lowered.{unit_of}
use Rattle.c_lower.specs.Refusals.{lower_fault}
use Rattle.fake_arcs.specs.Size.{size_fault}

-- The text is a C source of the language, within its limits: it has at most 1,048,576 bytes, its tokens (C17 6.4) are a
-- source by the grammar (C17 6.5 to 6.9) with a tree of at most 256 levels, in which `(void)` is no parameter, and in which
-- no fault of names and types stands; and its cells and graphs are within their limits.
pub record IsCSource (text : List ℕ) : Type 0 where
  pub short : length text ≤ source_limit
  pub tokens : List Token
  pub splits : Splits text tokens
  pub tree : Tree
  pub is_source : IsSource text tokens tree
  pub no_void : HoldNoVoid tree.outers
  pub levels : tree_levels tree ≤ level_limit
  pub fine : type_faults tree ≡ []
  pub cells : lower_fault (typed_of tree) ≡ None
  pub graphs : size_fault (unit_of (typed_of tree)) ≡ None
