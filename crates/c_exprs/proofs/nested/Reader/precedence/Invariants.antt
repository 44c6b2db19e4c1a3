use Rattle.c_tree.specs.TreeView.{expr_view}
use Rattle.c_grammar.specs.Rules.{Rule}
use Rattle.c_grammar.specs.Derivations.{Front}
use Rattle.c_grammar.specs.Reads.{Fits}
use Rattle.c_exprs.proofs.nested.Reader.precedence.Given as goal

-- an expression of this precedence was read
abbrev pub invariant-loop-tighter : goal.invariant-loop-tighter
invariant-loop-tighter g l =
    Fits (Front l.self.text.now (Rule.precedence l.tighter) l.tokens) l.self.room (expr_view l.whole.tree)
    l.whole.levels l.whole.rest.now
