-- A function value that reads the statements inside a statement.
use Rattle.std.specs.Prelude.{ℕ, List, Result}
use Rattle.std.specs.declared.alloc.Global.{Global}
use denote.Ref.{Bor}
use Rattle.cov_base.specs.declared.refusal.Refusal.{Refusal}
use Rattle.c_tokens.specs.declared.token.Token.{Token}
use Rattle.c_tree.specs.declared.stmt.Stmt.{Stmt}
use Rattle.c_tree.specs.TreeView.{stmt_view}
use Rattle.c_grammar.specs.declared.fault.ParseFault.{ParseFault}
use Rattle.c_grammar.specs.declared.found.Found.{Found}
use Rattle.c_grammar.specs.Rules.{Rule}
use Rattle.c_grammar.specs.Derivations.{Front}
use Rattle.c_grammar.specs.Reads.{Reads}

-- It may be called, and reads a statement of at most so many levels (own).
pub record Nests (room : ℕ) (pre : Global → Bor (List ℕ) → Bor (List Token) → ℕ → Type 0)
    (post : Global → Bor (List ℕ) → Bor (List Token) → ℕ → Result (Found Stmt) (Refusal ParseFault) → Type 0)
    : Type 0 where
  pub callable : (alloc : Global) (text : Bor (List ℕ)) (tokens : Bor (List Token)) → pre alloc text tokens room
  pub reads : (alloc : Global) (text : Bor (List ℕ)) (tokens : Bor (List Token))
      (r : Result (Found Stmt) (Refusal ParseFault)) → post alloc text tokens room r
      → Reads stmt_view (Front text.now Rule.statement tokens.now) room r
