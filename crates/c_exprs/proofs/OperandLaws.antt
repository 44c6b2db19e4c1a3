-- Operands and arguments.
use Rattle.std.proofs.Common.{◌≡◌, ℕ, true, false, List, [], map, refl, arith}
use Rattle.std.specs.Prelude.{Result as Outcome}
use Rattle.cov_base.specs.declared.refusal.Refusal.{Refusal}
use Rattle.c_tokens.specs.declared.token.Punct.TheVariants as mark
use Rattle.c_tokens.specs.declared.token.Token.{Token}
use Rattle.c_tree.specs.declared.expr.Expr.{Expr as ExprHeld}
use Rattle.c_tree.specs.TreeView.{expr_view}
use Rattle.c_grammar.specs.declared.fault.ParseFault.{ParseFault}
use Rattle.c_grammar.specs.declared.found.Found.{Found}
use Rattle.c_grammar.specs.Words.{next_is}
use Rattle.c_grammar.specs.Rules.{Listed, Rule}
use Rattle.c_grammar.specs.Grammar.{arguments_as, operand_as}
use Rattle.c_grammar.specs.Operators.{operand_at}
use Rattle.c_grammar.specs.declared.begins.Operand.TheVariants as first
use Rattle.c_grammar.specs.declared.fault.ParseFault.TheVariants as fault
use Rattle.cov_base.specs.declared.refusal.Refusal.TheVariants as refusal
use Rattle.c_grammar.specs.Derivations.{By, Front}
use Rattle.c_grammar.specs.Reads.{Refuses, Fits, Reads}
use Rattle.c_grammar.proofs.Laws.{by_look, by_rule_read, refused_look, refused_none}
use Rattle.c_grammar.proofs.Moves.{moved1}

pub no_arguments : {text : List ℕ} (ts : List Token) {room : ℕ} {es : List ExprHeld} → next_is mark.CloseParen ts ≡ true
    → es ≡ [] → Fits (Front text Rule.arguments ts) room (map expr_view es) 0 ts
no_arguments {text = text} ts {es = es} e s = record {
  front = By.look (moved1 (λ b. By text Rule.arguments (arguments_as b) ts (map expr_view es) 0 ts) e
      (moved1 (λ es. By text Rule.arguments (arguments_as true) ts (map expr_view es) 0 ts) s By.gives));
  fits = omega arith;
}

pub some_arguments : (text : List ℕ) (ts : List Token) (room : ℕ) → next_is mark.CloseParen ts ≡ false
    → (result : Outcome (Found (List ExprHeld)) (Refusal ParseFault))
    → Reads (map expr_view) (Front text (Rule.list Listed.arguments) ts) room result
    → Reads (map expr_view) (Front text Rule.arguments ts) room result
some_arguments text ts room e result f =
    by_look text Rule.arguments (map expr_view) arguments_as (next_is mark.CloseParen) ts room e result
    (by_rule_read text Rule.arguments (Rule.list Listed.arguments) (λ es. es) (map expr_view)
    (map expr_view) ts room room
    (λ x. refl) (omega arith) (omega arith) result f)

pub no_operand : (text : List ℕ) (ts : List Token) (room place : ℕ) → operand_at ts ≡ first.Absent
    → Refuses (Front text Rule.operand ts) room (refusal.Refused (fault.Syntax place))
no_operand text ts room place e =
    refused_look {r = Rule.operand}
    (moved1 (λ o. Refuses (By text Rule.operand (operand_as text o) ts) room (refusal.Refused (fault.Syntax place))) e
    (refused_none {text = text} {r = Rule.operand} {room = room} {place = place} {ts = ts}))
