-- The graphs of a text: what it is as a C source, and why it has none.
use Rattle.std.specs.Prelude.{◌≡◌, ℕ, List, [], Contains, Some, None, Result, Ok, Err}
use Rattle.cov_base.specs.declared.refusal.Refusal.{Refusal}
use Rattle.cov_base.specs.declared.refusal.Refusal.TheVariants as refusal
use Rattle.c_tokens.specs.declared.token.LexFault.{LexFault}
use Rattle.c_tokens.specs.declared.token.Token.{Token}
use Rattle.c_tokens.specs.Tokens.{Splits, LexFaultAt}
use Rattle.c_tree.specs.Formed.{Formed}
use Rattle.c_tree.specs.Tree.{Tree}
use Rattle.c_tree.specs.Typed.{Typed}
use Rattle.c_tree.specs.Sound.{Sound}
use Rattle.c_grammar.specs.declared.fault.ParseFault.{ParseFault}
use Rattle.c_syntax.specs.Syntax.{IsSource}
use Rattle.c_parser.specs.Sources.{Parses, ParseRefuses}
use Rattle.c_typing.specs.declared.fault.TypeFault.{TypeFault}
use Rattle.c_typing.specs.Sources.{type_faults, typed_of}
use Rattle.c_lower.specs.declared.lowering.LowerFault.{LowerFault}
use Rattle.c_lower.specs.Lowered.{unit_of}
use Rattle.c_lower.specs.Refusals.{lower_fault}
use Rattle.c_meaning.specs.Meaning.{meaning}
use Rattle.flow_graph.specs.Graph.{GraphUnit}
use Rattle.flow_graph.specs.Nets.{pruned}
use Rattle.flow_graph.specs.WalkRun.{Walked, WalkRun}
use Rattle.fake_arcs.specs.declared.pruning.SizeFault.{SizeFault}
use Rattle.fake_arcs.specs.Size.{size_fault}
use Rattle.source_graphs.specs.declared.graphs.SourceFault.{SourceFault}
use Rattle.source_graphs.specs.declared.graphs.SourceFault.TheVariants as fault

-- The tokens that split the text derive this tree and no other, it has at most 256 levels, and by the grammar of C17
-- the tokens are a source with it.
pub record IsTreeOf (text : List ℕ) (tree : Tree) : Type 0 where
  pub tokens : List Token
  pub splits : Splits text tokens
  pub parses : Parses text tokens tree
  pub source : IsSource text tokens tree
  pub formed : Formed tree

-- The text has a tree without faults of names and types, and this is its typed form.
pub record IsSourceOf (text : List ℕ) (source : Typed) : Type 0 where
  pub tree : Tree
  pub is_tree : IsTreeOf text tree
  pub fine : type_faults tree ≡ []
  pub is : source ≡ typed_of tree
  pub sound : Sound source

-- On this input and with so many turns, the run of the graphs comes to exactly one outcome, and its output and ending
-- are those of the source's meaning.
pub record Means (source : Typed) (unit : GraphUnit) (input : List ℕ) (turns : ℕ) : Type 0 where
  pub walked : Walked
  pub comes : WalkRun unit input turns walked
  pub alone : (other : Walked) → WalkRun unit input turns other → other ≡ walked
  pub output : walked.output ≡ (meaning source input turns).output
  pub ending : walked.ending ≡ (meaning source input turns).ending

-- These are the pruned graphs of the text's source, within their limits, and on every input and with every number of
-- turns they do what the source means.
pub record AreGraphsOf (text : List ℕ) (unit : GraphUnit) : Type 0 where
  pub source : Typed
  pub is_source : IsSourceOf text source
  pub pruned_are : unit ≡ pruned (unit_of source)
  pub lowers : lower_fault source ≡ None
  pub fits : size_fault (unit_of source) ≡ None
  pub means : (input : List ℕ) (turns : ℕ) → Means source unit input turns

-- Why a text has no graphs: a fault stands in it, its tokens have no tree, its tree has a fault of names or types, or
-- its source is too large; or memory ran out.
pub data RefusesSource (text : List ℕ) : Refusal SourceFault → Type 0 where
  no_tokens : {found : LexFault} → LexFaultAt text found → RefusesSource text (refusal.Refused (fault.Lex found))
  no_tree : {tokens : List Token} {found : ParseFault} → Splits text tokens
      → ParseRefuses text tokens (refusal.Refused found) → RefusesSource text (refusal.Refused (fault.Parse found))
  no_types : {tree : Tree} {found : TypeFault} → IsTreeOf text tree → Contains (type_faults tree) found
      → RefusesSource text (refusal.Refused (fault.Types found))
  too_large : {source : Typed} {found : LowerFault} → IsSourceOf text source → lower_fault source ≡ Some found
      → RefusesSource text (refusal.Refused (fault.Lower found))
  no_room : {source : Typed} {found : SizeFault} → IsSourceOf text source → lower_fault source ≡ None
      → size_fault (unit_of source) ≡ Some found → RefusesSource text (refusal.Refused (fault.Size found))
  no_memory : RefusesSource text refusal.NoMemory

-- the answer for a text
abbrev pub GraphsOf : List ℕ → Result GraphUnit (Refusal SourceFault) → Type 0
GraphsOf text (Ok unit) = AreGraphsOf text unit
GraphsOf text (Err e) = RefusesSource text e
