-- The rules that look ahead derive exactly the sources of C17's grammar, each with one tree.
use Rattle.std.proofs.Common.{◌≡◌, sym, ap, ◌∙◌, ℕ, List}
use Rattle.c_tokens.specs.declared.token.Token.{Token}
use Rattle.c_tree.specs.Tree.{Outer, Tree}
use Rattle.c_grammar.specs.Derivations.{Derives}
use Rattle.c_grammar.proofs.Laws.{one}
use Rattle.c_syntax.proofs.Closed.{sources}
use Rattle.c_derivable.specs.Laws.{DerivesExactlySources, EachSourceHasOneTree}
use Rattle.c_derivable.proofs.Derived.{source_derived}
use Rattle.c_derivable.proofs.NoVoid.{derived_hold_no_void}

pub exactly : DerivesExactlySources
exactly text tokens tree = (
  λ d. (sources text tokens tree d, derived_hold_no_void text tokens tree d),
  λ h. source_derived text tokens tree h.0 h.1,
)

tree_same : {a b : Tree} → a.outers ≡ b.outers → a.end ≡ b.end → a ≡ b
tree_same {a = a} {b = b} o e =
    ap (λ (xs : List Outer). let t : Tree = record { outers = xs; end = a.end } in t) o
    ∙ ap (λ (n : ℕ). let t : Tree = record { outers = b.outers; end = n } in t) e

-- tokens derive one tree
pub one_derived : {text : List ℕ} {tokens : List Token} {a b : Tree} → Derives text tokens a → Derives text tokens b → a ≡ b
one_derived d e = tree_same (one d.whole e.whole).value (d.end ∙ sym e.end)

pub one_tree : EachSourceHasOneTree
one_tree text tokens tree other s h t k =
    one_derived (source_derived text tokens tree s h) (source_derived text tokens other t k)
