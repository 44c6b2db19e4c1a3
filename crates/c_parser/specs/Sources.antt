-- What `parse` does.
use Rattle.std.specs.Prelude.{◌≡◌, ℕ, ◌<◌, ◌≤◌, ◌+◌, nat_lt, cond, List, [], ◌∷◌}
use Rattle.cov_base.specs.Limits.{level_limit}
use Rattle.cov_base.specs.declared.refusal.Refusal.{Refusal}
use Rattle.cov_base.specs.declared.refusal.Refusal.TheVariants as refusal
use Rattle.c_tokens.specs.declared.token.Token.{Token}
use Rattle.c_tree.specs.Tree.{Tree}
use Rattle.c_tree.specs.Levels.{tree_levels}
use Rattle.c_grammar.specs.declared.fault.ParseFault.{ParseFault}
use Rattle.c_grammar.specs.declared.fault.ParseFault.TheVariants as fault
use Rattle.c_grammar.specs.Derivations.{Derives}

-- how many tokens begin before a place (own)
abbrev pub begun_before : ℕ → List Token → ℕ
begun_before place [] = 0
begun_before place (t ∷ ts) = cond (nat_lt t.start place) 1 0 + begun_before place ts

-- The tokens derive this tree and no other, and it has at most 256 levels (C17 6.9; the levels are own).
pub record Parses (text : List ℕ) (tokens : List Token) (tree : Tree) : Type 0 where
  pub derives : Derives text tokens tree
  pub levels : tree_levels tree ≤ level_limit
  pub only : (other : Tree) → Derives text tokens other → other ≡ tree

-- No tree derives the tokens; or none of at most 256 levels does, and more than 256 tokens begin before the place; or
-- memory ran out (own).
pub data ParseRefuses (text : List ℕ) (tokens : List Token) : Refusal ParseFault → Type 0 where
  syntax_ : {place : ℕ} → ((tree : Tree) → Derives text tokens tree → ⊥) → ParseRefuses text tokens
      (refusal.Refused (fault.Syntax place))
  too_deep : {place : ℕ} → ((tree : Tree) → Derives text tokens tree → level_limit < tree_levels tree)
      → level_limit < begun_before place tokens
      → ParseRefuses text tokens (refusal.Refused (fault.TooDeep place))
  no_memory : ParseRefuses text tokens refusal.NoMemory
