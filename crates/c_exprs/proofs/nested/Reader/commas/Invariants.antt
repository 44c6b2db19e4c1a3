use Rattle.std.proofs.Common.{◌≤◌, length}
use Rattle.c_tree.specs.TreeView.{expr_view}
use Rattle.c_grammar.specs.Rules.{Rule}
use Rattle.c_grammar.specs.Derivations.{Front}
use Rattle.c_grammar.specs.Reads.{Leads}
use Rattle.c_exprs.proofs.nested.Reader.commas.Given as goal

-- what was joined is the same expression
abbrev pub invariant-loop-whole : goal.invariant-loop-whole
invariant-loop-whole g l =
    Leads
    (Front l.self.text.now (Rule.commas (expr_view l.fn.left.tree) l.fn.left.levels) l.fn.left.rest.now)
    (Front l.self.text.now (Rule.commas (expr_view l.whole.tree) l.whole.levels) l.whole.rest.now)
    × (l.whole.levels ≤ l.self.room)

-- what is left gets shorter
abbrev pub decreases-loop-whole : goal.decreases-loop-whole
decreases-loop-whole g l = length l.whole.rest.now
