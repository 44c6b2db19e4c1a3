-- What each step says of the text.
use Rattle.std.proofs.Common.{◌≡◌, ℕ, List, Some, None, sym, subst, ap, ◌∙◌}
use Rattle.cov_base.specs.declared.refusal.Refusal.{Refusal}
use Rattle.cov_base.specs.declared.refusal.Refusal.TheVariants as refusal
use Rattle.c_tokens.specs.declared.token.LexFault.{LexFault}
use Rattle.c_tokens.specs.declared.token.Token.{Token}
use Rattle.c_tokens.specs.Scans.{HasTokens, HasFault}
use Rattle.c_tokens.specs.Tokens.{Splits}
use Rattle.c_tree.specs.Tree.{Tree}
use Rattle.c_tree.specs.Typed.{Typed}
use Rattle.c_grammar.specs.declared.fault.ParseFault.{ParseFault}
use Rattle.c_parser.specs.Sources.{ParseRefuses}
use Rattle.c_typing.specs.declared.fault.TypeFault.{TypeFault}
use Rattle.c_typing.specs.Sources.{type_faults}
use Rattle.c_values.specs.Checks.{Stands}
use Rattle.c_lower.specs.declared.lowering.LowerFault.{LowerFault}
use Rattle.c_lower.specs.Lowered.{unit_of}
use Rattle.c_lower.specs.Refusals.{lower_fault, Refuses}
use Rattle.flow_graph.specs.Graph.{GraphUnit}
use Rattle.flow_graph.specs.Nets.{pruned}
use Rattle.fake_arcs.specs.declared.pruning.SizeFault.{SizeFault}
use Rattle.fake_arcs.specs.Size.{size_fault}
use Rattle.prune_agrees.specs.Joined.{EachSourceAgrees, PrunedAgrees}
use Rattle.source_graphs.specs.declared.graphs.SourceFault.TheVariants as fault
use Rattle.source_graphs.specs.SourceGraphs.{IsTreeOf, IsSourceOf, Means, AreGraphsOf, RefusesSource}

-- memory ran out
pub memory : {text : List ℕ} → RefusesSource text refusal.NoMemory
memory = RefusesSource.no_memory

-- a fault stands in the text
pub not_split : {text : List ℕ} {found : LexFault} → HasFault text found
    → RefusesSource text (refusal.Refused (fault.Lex found))
not_split h = RefusesSource.no_tokens h.stands

-- the tokens have no tree
pub not_parsed : {text : List ℕ} {list tokens : List Token} {e : Refusal ParseFault} {found : ParseFault}
    → HasTokens text list → tokens ≡ list → e ≡ refusal.Refused found → ParseRefuses text tokens e
    → RefusesSource text (refusal.Refused (fault.Parse found))
not_parsed {text = text} {tokens = tokens} h t f r =
    RefusesSource.no_tree (subst (λ ts. Splits text ts) (sym t) h.splits)
    (subst (λ x. ParseRefuses text tokens x) f r)

-- a fault of names or types stands in the tree
pub not_typed : {text : List ℕ} {tree : Tree} {e : Refusal TypeFault} {found : TypeFault} → IsTreeOf text tree
    → e ≡ refusal.Refused found → Stands (type_faults tree) e
    → RefusesSource text (refusal.Refused (fault.Types found))
not_typed {tree = tree} is f s = RefusesSource.no_types is (subst (λ x. Stands (type_faults tree) x) f s)

-- the globals or a frame are too large
pub not_lowered : {text : List ℕ} {source : Typed} {e : Refusal LowerFault} {found : LowerFault}
    → IsSourceOf text source → e ≡ refusal.Refused found → Refuses (lower_fault source) e
    → RefusesSource text (refusal.Refused (fault.Lower found))
not_lowered {source = source} is f r = RefusesSource.too_large is (subst (λ x. Refuses (lower_fault source) x) f r)

-- the graphs are too large
pub not_pruned : {text : List ℕ} {source : Typed} {unit : GraphUnit} {found : SizeFault} → IsSourceOf text source
    → (unit ≡ unit_of source) × (lower_fault source ≡ None) → size_fault unit ≡ Some found
    → RefusesSource text (refusal.Refused (fault.Size found))
not_pruned is l s = RefusesSource.no_room is l.1 (ap size_fault (sym l.0) ∙ s)

-- the pruned graphs do what the source means
pub are_graphs : {text : List ℕ} {source : Typed} {unit new : GraphUnit} → EachSourceAgrees → IsSourceOf text source
    → (unit ≡ unit_of source) × (lower_fault source ≡ None) → (new ≡ pruned unit) × (size_fault unit ≡ None)
    → AreGraphsOf text new
are_graphs {source = source} {unit = unit} {new = new} agrees is l p =
    let same : new ≡ pruned (unit_of source) = p.0 ∙ ap pruned l.0 in
    record {
      source = source;
      is_source = is;
      pruned_are = same;
      lowers = l.1;
      fits = ap size_fault (sym l.0) ∙ p.1;
      means = λ input turns.
          subst (λ u. Means source u input turns) (sym same)
          (let a : PrunedAgrees source input turns = agrees source is.sound input turns in record {
            walked = a.walked;
            comes = a.comes;
            alone = a.alone;
            output = a.output;
            ending = a.ending;
          });
    }
