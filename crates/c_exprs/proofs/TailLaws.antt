-- What may follow an expression once: a choice or a value that is assigned.
use Rattle.std.proofs.Common.{◌≡◌, ℕ, ◌≤◌, Bool, true, false, List, Option, Some, None, subst, arith}
use Rattle.std.specs.Prelude.{Result as Outcome}
use Rattle.int_ops.specs.declared.operators.BinOp.{BinOp}
use Rattle.cov_base.specs.declared.refusal.Refusal.{Refusal}
use Rattle.cov_base.specs.declared.refusal.Refusal.TheVariants as refusal
use Rattle.c_tokens.specs.declared.token.Punct.TheVariants as mark
use Rattle.c_tokens.specs.declared.token.Token.{Token}
use Rattle.c_tree.specs.Expr.{Expr, Kind}
use Rattle.c_tree.specs.TreeView.{expr_view}
use Rattle.c_tree.specs.declared.expr.Expr.{Expr as ExprHeld}
use Rattle.c_grammar.specs.declared.fault.ParseFault.{ParseFault}
use Rattle.c_grammar.specs.declared.fault.ParseFault.TheVariants as fault
use Rattle.c_grammar.specs.declared.found.Found.{Found}
use Rattle.c_grammar.specs.Words.{next_is}
use Rattle.c_grammar.specs.Operators.{at, assignment_at, is_unary}
use Rattle.c_grammar.specs.Rules.{Rule}
use Rattle.c_grammar.specs.Grammar.{Grammar, choice_as, choice, assigned_as, assigned, target}
use Rattle.c_grammar.specs.Derivations.{By, Front}
use Rattle.c_grammar.specs.Reads.{Refuses, Fits, Reads}
use Rattle.c_grammar.proofs.Laws.{parted, chosen, levelled, valued, by_look, refused_none}
use Rattle.c_grammar.proofs.Moves.{moved1}
use Rattle.c_grammar.proofs.Steps.{deep_most, deep_reads}
use Rattle.c_exprs.specs.Sides.{Side}
use Rattle.c_exprs.proofs.SideLaws.{side_refused}

choice_most : {text : List ℕ} {x y : Expr} {n j : ℕ} {ts rest : List Token}
    → By text Rule.conditional (choice_as x n true) ts
    y j rest → n ≤ j
choice_most p =
    let d = parted p in
    let a = parted d.then in
    let b = parted a.then in
    omega (arith, d.most, a.most, b.most, deep_most b.then)

pub choice_read : (text : List ℕ) (x : Expr) (n room : ℕ) (ts : List Token) → next_is mark.Question ts ≡ true
    → (result : Outcome (Found ExprHeld) (Refusal ParseFault))
    → Reads expr_view (By text Rule.conditional (choice_as x n true) ts) room result
    → Reads expr_view (By text Rule.conditional (choice x n) ts) room result
choice_read text x n room ts e result h =
    deep_reads text Rule.conditional expr_view n (Grammar.look (λ ts. choice_as x n (next_is mark.Question ts))) ts room
    (λ y j rest p. choice_most (subst (λ b. By text Rule.conditional (choice_as x n b) ts y j rest) e (chosen p)))
    result (by_look text Rule.conditional expr_view (choice_as x n) (next_is mark.Question) ts room e result h)

pub choice_ended : {text : List ℕ} {x : Expr} {n room : ℕ} {ts : List Token} → next_is mark.Question ts ≡ false
    → n ≤ room
    → Fits (By text Rule.conditional (choice x n) ts) room x n ts
choice_ended {text = text} {x = x} {n = n} {ts = ts} e l = record {
  front = levelled
      (By.deep (By.look (moved1 (λ b. By text Rule.conditional (choice_as x n b) ts x 0 ts) e By.gives))) (omega arith);
  fits = l;
}

pub not_unary : (text : List ℕ) (x : Expr) (n room : ℕ) (ts : List Token) (o : Option BinOp) (place : ℕ)
    → is_unary x ≡ false
    → Refuses (By text Rule.assignment (assigned_as x n (Some o)) ts) room (refusal.Refused (fault.Syntax place))
not_unary text x n room ts o place e =
    moved1 (λ b. Refuses (By text Rule.assignment (target x n o b) ts) room (refusal.Refused (fault.Syntax place))) e
    (refused_none {text = text} {r = Rule.assignment} {room = room} {place = place} {ts = ts})

pub target_refused : (text : List ℕ) (x : Expr) (n room : ℕ) (ts : List Token)
    (o : Option BinOp) {e : Refusal ParseFault}
    → is_unary x ≡ true → Refuses (Side text (Front text Rule.assignment) n ts) room e
    → Refuses (By text Rule.assignment (assigned_as x n (Some o)) ts) room e
target_refused text x n room ts o {e = e} h f =
    moved1 (λ b. Refuses (By text Rule.assignment (target x n o b) ts) room e) h
    (side_refused Rule.assignment Rule.assignment n (λ t y k x j us rest p. deep_most p) f)

pub target_found : {text : List ℕ} {x y : Expr} {n k room : ℕ} {o : Option BinOp} {s : Token × Expr} {ts rest : List
    Token}
    → is_unary x ≡ true → Fits (Side text (Front text Rule.assignment) n ts) room s k rest
    → y ≡ at s.0 (Kind.Assign o x s.1) → Fits (By text Rule.assignment (assigned_as x n (Some o)) ts) room y k rest
target_found {text = text} {x = x} {y = y} {n = n} {k = k} {o = o} {ts = ts} {rest = rest} h f e = record {
  front = moved1 (λ b. By text Rule.assignment (target x n o b) ts y k rest) h
      (levelled (By.part f.front.token (By.part f.front.right (By.deep (valued By.gives e))))
      (omega (arith, f.front.most)));
  fits = f.fits;
}

target_most : {text : List ℕ} (x : Expr) {y : Expr} (n : ℕ) {j : ℕ} (o : Option BinOp) (b : Bool) {ts rest : List Token}
    → By text Rule.assignment (target x n o b) ts y j rest → n ≤ j
target_most x n o true p =
    let d = parted p in
    let a = parted d.then in
    omega (arith, d.most, a.most, deep_most a.then)
target_most x n o false p = elim p [ ]

pub assigned_read : (text : List ℕ) (x : Expr) (n room : ℕ) (ts : List Token) (o : Option BinOp)
    → assignment_at ts ≡ Some o
    → (result : Outcome (Found ExprHeld) (Refusal ParseFault))
    → Reads expr_view (By text Rule.assignment (assigned_as x n (Some o)) ts) room result
    → Reads expr_view (By text Rule.assignment (assigned x n) ts) room result
assigned_read text x n room ts o e result h =
    deep_reads text Rule.assignment expr_view n (Grammar.look (λ ts. assigned_as x n (assignment_at ts))) ts room
    (λ y j rest p. target_most x n o (is_unary x)
    (subst (λ c. By text Rule.assignment (assigned_as x n c) ts y j rest) e (chosen p)))
    result (by_look text Rule.assignment expr_view (assigned_as x n) assignment_at ts room e result h)

pub assigned_ended : {text : List ℕ} {x : Expr} {n room : ℕ} {ts : List Token} → assignment_at ts ≡ None → n ≤ room
    → Fits (By text Rule.assignment (assigned x n) ts) room x n ts
assigned_ended {text = text} {x = x} {n = n} {ts = ts} e l = record {
  front = levelled
      (By.deep (By.look (moved1 (λ c. By text Rule.assignment (assigned_as x n c) ts x 0 ts) e By.gives)))
      (omega arith);
  fits = l;
}
