-- What is said of the grammar: which trees it gives.
use Rattle.std.specs.Prelude.{ℕ, List}
use Rattle.c_tokens.specs.declared.token.Token.{Token}
use Rattle.c_tree.specs.Tree.{Tree}
use Rattle.c_grammar.specs.Derivations.{Derives}
use Rattle.c_syntax.specs.Syntax.{IsSource}

-- Tokens are a source with whatever tree they derive by the rules that look ahead.
abbrev pub DerivedTreesAreSources : Type 0
DerivedTreesAreSources =
    (text : List ℕ) (tokens : List Token) (tree : Tree) → Derives text tokens tree → IsSource text tokens tree
