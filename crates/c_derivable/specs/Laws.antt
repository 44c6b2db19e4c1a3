-- What is said of the two grammars: the rules that look ahead miss no source, and each source has one tree.
use Rattle.std.specs.Prelude.{◌≡◌, ◌↔◌, ℕ, Bool, true, false, List, [], ◌∷◌, Option, None}
use Rattle.c_tokens.specs.declared.token.Token.{Token}
use Rattle.c_tree.specs.declared.expr.Base.{Base}
use Rattle.c_tree.specs.declared.expr.Base.TheVariants as base
use Rattle.c_tree.specs.Tree.{Param, Outer, Tree}
use Rattle.c_grammar.specs.Derivations.{Derives}
use Rattle.c_syntax.specs.Syntax.{IsSource}

-- a parameter of this type and name is `void` alone (own)
abbrev pub is_void_alone : Base → Option (List ℕ) → Bool
is_void_alone base.Void None = true
is_void_alone b name = false

-- the list is one parameter `void` without a name, which stands for no parameters (C17 6.7.6.3 paragraph 10)
abbrev pub stands_for_none : List Param → Bool
stands_for_none (p ∷ []) = is_void_alone p.base p.name
stands_for_none ps = false

-- No such list is held as a parameter (own).
abbrev pub HoldsNoVoid : Outer → Type 0
HoldsNoVoid (Outer.Vars vs) = Unit {0}
HoldsNoVoid (Outer.Prototype head) = stands_for_none head.params ≡ false
HoldsNoVoid (Outer.Function head body) = stands_for_none head.params ≡ false

-- nor in any of these (own)
abbrev pub HoldNoVoid : List Outer → Type 0
HoldNoVoid [] = Unit {0}
HoldNoVoid (o ∷ os) = HoldsNoVoid o × HoldNoVoid os

-- Tokens derive a tree by the rules that look ahead exactly where they are a source with it by the grammar of C17, and
-- `(void)` is none of its parameters.
abbrev pub DerivesExactlySources : Type 0
DerivesExactlySources =
    (text : List ℕ) (tokens : List Token) (tree : Tree)
    → Derives text tokens tree ↔ (IsSource text tokens tree × HoldNoVoid tree.outers)

-- By the grammar of C17 tokens are a source with one tree at most in which `(void)` is no parameter.
abbrev pub EachSourceHasOneTree : Type 0
EachSourceHasOneTree =
    (text : List ℕ) (tokens : List Token) (tree other : Tree) → IsSource text tokens tree → HoldNoVoid tree.outers
    → IsSource text tokens other → HoldNoVoid other.outers → tree ≡ other
