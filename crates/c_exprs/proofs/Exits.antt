-- What a `?` gives back where memory ran out or the first token is lacking.
use Rattle.std.proofs.Common.{◌≡◌, ℕ, List}
use Rattle.std.specs.Prelude.{Result as Outcome, IsErrAnd}
use Rattle.cov_base.specs.declared.refusal.Refusal.{Refusal}
use Rattle.cov_base.specs.declared.refusal.Refusal.TheVariants as refusal
use Rattle.c_tokens.specs.declared.token.Token.{Token}
use Rattle.c_tree.specs.Expr.{Expr}
use Rattle.c_tree.specs.declared.expr.Expr.{Expr as ExprHeld}
use Rattle.c_tree.specs.TreeView.{expr_view}
use Rattle.c_grammar.specs.declared.fault.ParseFault.{ParseFault}
use Rattle.c_grammar.specs.declared.found.Found.{Found}
use Rattle.c_grammar.specs.Rules.{Rule, Result}
use Rattle.c_grammar.specs.Grammar.{Grammar, behind_any}
use Rattle.c_grammar.specs.Derivations.{By, Front}
use Rattle.c_grammar.specs.Reads.{Refuses, Lacks, Reads, Joins, Leads}
use Rattle.c_grammar.proofs.Laws.{refused_lacking}
use Rattle.c_grammar.proofs.Lists.{leads_refused}
use Rattle.c_grammar.proofs.Steps.{passed}
use Rattle.c_exprs.proofs.SideLaws.{passed_on}

pub memory : (P : Expr → ℕ → List Token → Type 0) (room : ℕ) (r : Outcome (Found ExprHeld) (Refusal ParseFault))
    → IsErrAnd r (λ y. y ≡ refusal.NoMemory) → Reads expr_view P room r
memory P room r h = passed expr_view r h Refuses.no_memory

pub first_exit : (text : List ℕ) (r : Rule) (view : ExprHeld → Result r) (next : Token → Grammar (Result r)) (ts : List Token)
    (room : ℕ) (e : Refusal ParseFault) (result : Outcome (Found ExprHeld) (Refusal ParseFault))
    → IsErrAnd result (λ y. y ≡ e) → Lacks (Front text Rule.any ts) e
    → Reads view (By text r (behind_any next) ts) room result
first_exit text r view next ts room e result h l = passed view result h (refused_lacking r Rule.any l)

pub memory_on : (P : Expr → ℕ → List Token → Expr → ℕ → List Token → Type 0) (room : ℕ) (x : Expr) (n : ℕ) (ts : List Token)
    (r : Outcome (Found ExprHeld) (Refusal ParseFault)) → IsErrAnd r (λ y. y ≡ refusal.NoMemory)
    → Joins expr_view P room x n ts r
memory_on P room x n ts r h = passed_on expr_view P r h Refuses.no_memory

pub chain_exit : (P Q : Expr → ℕ → List Token → Type 0) (room : ℕ) (e : Refusal ParseFault)
    (r : Outcome (Found ExprHeld) (Refusal ParseFault)) → IsErrAnd r (λ y. y ≡ e) → Leads P Q → Refuses Q room e
    → Reads expr_view P room r
chain_exit P Q room e r h l f = passed expr_view r h (leads_refused l f)
