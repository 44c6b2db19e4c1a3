-- What a reader gives where it ends, by the part or the choice where it does.
use Rattle.std.proofs.Common.{◌≡◌, ℕ, ◌+◌, ◌<◌, ◌≤◌, max, Bool, List, sym, ap, ◌∙◌, arith}
use Rattle.std.specs.Prelude.{Result as Outcome}
use Rattle.cov_base.specs.declared.refusal.Refusal.{Refusal}
use Rattle.cov_base.specs.declared.refusal.Refusal.TheVariants as refusal
use Rattle.c_tokens.specs.declared.token.Punct.TheVariants as mark
use Rattle.c_tokens.specs.declared.token.Token.{Token}
use Rattle.c_tree.specs.Stmt.{Stmt, OtherStmt}
use Rattle.c_tree.specs.Levels.{stmt_levels}
use Rattle.c_grammar.specs.declared.fault.ParseFault.{ParseFault}
use Rattle.c_grammar.specs.declared.fault.ParseFault.TheVariants as fault
use Rattle.c_grammar.specs.declared.found.Found.{Found}
use Rattle.c_grammar.specs.Rules.{Rule, Result}
use Rattle.c_grammar.specs.Words.{next_is, type_at}
use Rattle.c_grammar.specs.Grammar.{Grammar, first_as}
use Rattle.c_grammar.specs.Derivations.{By, Front}
use Rattle.c_grammar.specs.Reads.{Refuses, Fits, Reads}
use Rattle.c_grammar.proofs.Laws.{parted, by_look}
use Rattle.c_grammar.proofs.Depth.{depth, Fair, sized}

-- what is found by the form that the next tokens choose
pub next_read : {text : List ℕ} {r : Rule} {room n : ℕ} {next : List Token → Grammar (Result r)}
    {ts rest : List Token} {x : Result r} → Fits (By text r (next ts) ts) room x n rest
    → Fits (By text r (Grammar.look next) ts) room x n rest
next_read f = record { front = By.look f.front; fits = f.fits }

-- a part that stands deeper than there is room for
pub no_level : {text : List ℕ} (r q : Rule) {d room place : ℕ} {next : Result q → ℕ → Grammar (Result r)}
    {ts : List Token} → room < d
    → Refuses (By text r (Grammar.part d q next) ts) room (refusal.Refused (fault.TooDeep place))
no_level r q l = Refuses.too_deep (λ x n rest f. omega (arith, l, (parted f).most))

-- a rule whose values have no levels is refused in any room
pub refused_level_free : {text : List ℕ} (r : Rule) {room : ℕ} {ts : List Token} {e : Refusal ParseFault} → Fair r
    → ((x : Result r) → depth r x ≡ 0) → Refuses (Front text r ts) 0 e → Refuses (Front text r ts) room e
refused_level_free r f d (Refuses.no_tree h) = Refuses.no_tree h
refused_level_free r f d (Refuses.too_deep h) =
    Refuses.too_deep (λ x n rest p. absurd (let no : ⊥ = omega (arith, h x n rest p, (sized f p).counted, d x) in no))
refused_level_free r f d Refuses.no_memory = Refuses.no_memory

statement_levels : (s : Stmt) → 1 ≤ stmt_levels s
statement_levels (Stmt.Vars vars) = omega arith
statement_levels (Stmt.Block ss) = omega arith
statement_levels Stmt.Empty = omega arith
statement_levels (Stmt.Value e) = omega arith
statement_levels (Stmt.If e s other) = omega arith
statement_levels (Stmt.While e s) = omega arith
statement_levels (Stmt.DoWhile s e line) = omega arith
statement_levels (Stmt.For head s) = omega arith
statement_levels (Stmt.Switch e is) = omega arith
statement_levels (Stmt.Break place line) = omega arith
statement_levels (Stmt.Continue place line) = omega arith
statement_levels (Stmt.Return e place line) = omega arith

-- a statement has a level
pub no_statement : {text : List ℕ} {ts : List Token} {room place : ℕ} → room ≡ 0
    → Refuses (Front text Rule.statement ts) room (refusal.Refused (fault.TooDeep place))
no_statement z =
    Refuses.too_deep (λ x n rest f. omega (arith, z, (sized {r = Rule.statement} tt f).counted, statement_levels x))

both_same : {typed absent b c : Bool} → typed ≡ b → absent ≡ c
    → ◌≡◌ {A = Bool × Bool} (b, c) (typed, absent)
both_same {typed = typed} {c = c} e d =
    ap (λ x. let t : Bool × Bool = (x, c) in t) (sym e) ∙ ap (λ y. let t : Bool × Bool = (typed, y) in t) (sym d)

-- the first part of a `for`, by what the next tokens are
pub first_read : {H : Type 0} (text : List ℕ) (view : H → OtherStmt) (ts : List Token) (room : ℕ)
    (result : Outcome (Found H) (Refusal ParseFault)) {typed absent : Bool} → typed ≡ type_at ts
    → absent ≡ next_is mark.Semicolon ts
    → Reads view (By text Rule.first (first_as typed absent) ts) room result
    → Reads view (Front text Rule.first ts) room result
first_read text view ts room result e d f =
    by_look text Rule.first view (λ b. first_as b.0 b.1) (λ us. (type_at us, next_is mark.Semicolon us)) ts room
    (both_same e d) result f
