-- What is said of accepted texts.
use Rattle.std.specs.Prelude.{◌≡◌, ◌↔◌, ℕ, List}
use Rattle.cov_base.specs.declared.refusal.Refusal.{Refusal}
use Rattle.cov_base.specs.declared.refusal.Refusal.TheVariants as refusal
use Rattle.c_tokens.specs.declared.token.Token.{Token}
use Rattle.c_tree.specs.Tree.{Tree}
use Rattle.c_grammar.specs.declared.fault.ParseFault.TheVariants as fault
use Rattle.c_syntax.specs.Syntax.{IsSource}
use Rattle.c_derivable.specs.Laws.{HoldNoVoid}
use Rattle.c_parser.specs.Sources.{ParseRefuses}
use Rattle.source_graphs.specs.declared.graphs.SourceFault.{SourceFault}
use Rattle.source_graphs.specs.SourceGraphs.{RefusesSource}
use Rattle.source_graphs.specs.Accepted.{IsAccepted}
use Rattle.accepted_sources.specs.CSources.{IsCSource}

-- Exactly the C sources of the language are accepted.
abbrev pub AcceptedAreCSources : Type 0
AcceptedAreCSources = (text : List ℕ) → IsAccepted text ↔ IsCSource text

-- A C source is refused only for want of memory.
abbrev pub CSourcesAreNotRefused : Type 0
CSourcesAreNotRefused =
    (text : List ℕ) (e : Refusal SourceFault) → IsCSource text → RefusesSource text e → e ≡ refusal.NoMemory

-- Tokens that are refused as bad syntax are no source by the grammar of C17.
abbrev pub SyntaxIsNoSource : Type 0
SyntaxIsNoSource =
    (text : List ℕ) (tokens : List Token) (place : ℕ)
    → ParseRefuses text tokens (refusal.Refused (fault.Syntax place)) → (tree : Tree) → IsSource text tokens tree
    → HoldNoVoid tree.outers → ⊥
