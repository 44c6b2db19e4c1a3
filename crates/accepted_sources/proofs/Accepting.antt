-- Exactly the C sources of the language are accepted.
use Rattle.std.proofs.Common.{refl, sym, ap, ◌∙◌, ℕ, List}
use Rattle.c_tree.specs.Typed.{Typed}
use Rattle.c_lower.specs.Lowered.{unit_of}
use Rattle.c_lower.specs.Refusals.{lower_fault}
use Rattle.fake_arcs.specs.Size.{size_fault}
use Rattle.c_grammar.specs.Derivations.{Derives}
use Rattle.c_grammar.proofs.Formed.{derived_formed}
use Rattle.c_derivable.proofs.Exactly.{exactly, one_derived}
use Rattle.c_parser.specs.Sources.{ParseRefuses}
use Rattle.c_typing.proofs.SourceSound.{typed_sound}
use Rattle.source_graphs.specs.SourceGraphs.{IsTreeOf}
use Rattle.source_graphs.specs.Accepted.{IsAccepted}
use Rattle.source_graphs.proofs.Acceptance.{refused_for_memory}
use Rattle.accepted_sources.specs.CSources.{IsCSource}
use Rattle.accepted_sources.specs.Laws.{AcceptedAreCSources, CSourcesAreNotRefused, SyntaxIsNoSource}

tree_of : {text : List ℕ} (s : IsCSource text) → IsTreeOf text s.tree
tree_of {text = text} s =
    let d : Derives text s.tokens s.tree = (exactly text s.tokens s.tree).1 (s.is_source, s.no_void) in record {
      tokens = s.tokens;
      splits = s.splits;
      parses = record {
        derives = d;
        levels = s.levels;
        only = λ other e. one_derived e d;
      };
      source = s.is_source;
      formed = derived_formed s.splits s.short d;
    }

source_of : {text : List ℕ} (s : IsCSource text) → IsAccepted text
source_of {text = text} s =
    let is = tree_of s in record {
      source = _;
      fits = s.short;
      is_source = record {
        tree = s.tree;
        is_tree = is;
        fine = s.fine;
        is = refl;
        sound = typed_sound s.tree (record { formed = is.formed; levels = s.levels }) s.fine;
      };
      lowers = s.cells;
      sized = s.graphs;
    }

c_source_of : {text : List ℕ} → IsAccepted text → IsCSource text
c_source_of {text = text} a =
    let is = a.is_source in
    let tree = is.is_tree in record {
      short = a.fits;
      tokens = tree.tokens;
      splits = tree.splits;
      tree = is.tree;
      is_source = tree.source;
      no_void = ((exactly text tree.tokens is.tree).0 tree.parses.derives).1;
      levels = tree.parses.levels;
      fine = is.fine;
      cells = ap lower_fault (sym is.is) ∙ a.lowers;
      graphs = ap (λ (source : Typed). size_fault (unit_of source)) (sym is.is) ∙ a.sized;
    }

pub accepted : AcceptedAreCSources
accepted text = (c_source_of, source_of)

pub refused : CSourcesAreNotRefused
refused text e s = refused_for_memory text e (source_of s)

pub syntax_ : SyntaxIsNoSource
syntax_ text tokens place (ParseRefuses.syntax_ none) tree is h = none tree ((exactly text tokens tree).1 (is, h))
