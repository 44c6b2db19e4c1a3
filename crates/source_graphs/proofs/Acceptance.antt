-- No fault stands in a text that is accepted.
use Rattle.std.proofs.Common.{◌≡◌, ℕ, List, [], refl, sym, subst, ap, ◌∙◌, arith}
use Rattle.std.specs.Prelude.{Contains}
use Rattle.cov_base.specs.declared.refusal.Refusal.{Refusal}
use Rattle.cov_base.specs.declared.refusal.Refusal.TheVariants as refusal
use Rattle.c_tokens.specs.declared.token.Token.{Token}
use Rattle.c_tokens.specs.Tokens.{Splits}
use Rattle.c_tokens.proofs.TextLaws.{one_list, list_no_fault}
use Rattle.c_tree.specs.Tree.{Tree}
use Rattle.c_tree.specs.Typed.{Typed}
use Rattle.c_grammar.specs.declared.fault.ParseFault.{ParseFault}
use Rattle.c_grammar.specs.Derivations.{Derives}
use Rattle.c_parser.specs.Sources.{ParseRefuses}
use Rattle.c_typing.specs.declared.fault.TypeFault.{TypeFault}
use Rattle.c_typing.specs.Sources.{type_faults, typed_of}
use Rattle.c_lower.specs.Lowered.{unit_of}
use Rattle.c_lower.specs.Refusals.{lower_fault}
use Rattle.fake_arcs.specs.Size.{size_fault}
use Rattle.source_graphs.specs.declared.graphs.SourceFault.{SourceFault}
use Rattle.source_graphs.specs.SourceGraphs.{IsTreeOf, IsSourceOf, RefusesSource}
use Rattle.source_graphs.specs.Accepted.{IsAccepted, AcceptedIsNotRefused}

-- a text has one tree
one_tree : {text : List ℕ} {a b : Tree} → IsTreeOf text a → IsTreeOf text b → b ≡ a
one_tree {text = text} {b = b} p q =
    p.parses.only b (subst (λ tokens. Derives text tokens b) (one_list q.splits p.splits) q.parses.derives)

-- a text is one source
one_source : {text : List ℕ} {a b : Typed} → IsSourceOf text a → IsSourceOf text b → b ≡ a
one_source p q = q.is ∙ (ap typed_of (one_tree p.is_tree q.is_tree) ∙ sym p.is)

-- tokens that have a tree aren't refused
not_unparsed : {text : List ℕ} {tree : Tree} {tokens : List Token} {e : Refusal ParseFault} → IsTreeOf text tree
    → Splits text tokens → ParseRefuses text tokens e → e ≡ refusal.NoMemory
not_unparsed {text = text} {tree = tree} p splits (ParseRefuses.syntax_ none) =
    absurd (none tree (subst (λ ts. Derives text ts tree) (one_list p.splits splits) p.parses.derives))
not_unparsed {text = text} {tree = tree} p splits (ParseRefuses.too_deep deep more) =
    let d = deep tree (subst (λ ts. Derives text ts tree) (one_list p.splits splits) p.parses.derives) in
    absurd (omega (arith, d, p.parses.levels))
not_unparsed p splits ParseRefuses.no_memory = refl

-- nothing is in an empty list of faults
nothing : (faults : List TypeFault) (found : TypeFault) → faults ≡ [] → Contains faults found → ⊥
nothing faults found e h = let n = subst (λ xs. Contains xs found) e h in absurd (omega (arith, n.1))

-- an accepted text is refused only for want of memory
for_memory : {text : List ℕ} {e : Refusal SourceFault} → IsAccepted text → RefusesSource text e
    → e ≡ refusal.NoMemory
for_memory acc (RefusesSource.no_tokens at) = absurd (list_no_fault acc.is_source.is_tree.splits at)
for_memory acc (RefusesSource.no_tree splits refuses) =
    let e = not_unparsed acc.is_source.is_tree splits refuses in absurd (cc)
for_memory acc (RefusesSource.no_types {tree = tree} {found = found} is has) =
    absurd (nothing (type_faults tree) found
    (ap type_faults (one_tree acc.is_source.is_tree is) ∙ acc.is_source.fine) has)
for_memory acc (RefusesSource.too_large is stands) =
    let e = sym (ap lower_fault (one_source acc.is_source is)) ∙ stands in
    let f = sym acc.lowers ∙ e in absurd (cc)
for_memory acc (RefusesSource.no_room is lowers stands) =
    let e = sym (ap (λ source. size_fault (unit_of source)) (one_source acc.is_source is)) ∙ stands in
    let f = sym acc.sized ∙ e in absurd (cc)
for_memory acc RefusesSource.no_memory = refl

pub refused_for_memory : AcceptedIsNotRefused
refused_for_memory text e accepted refuses = for_memory accepted refuses
