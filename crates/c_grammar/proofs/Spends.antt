-- A member of a list has a token.
use Rattle.std.proofs.Common.{
  ◌≡◌,
  ℕ,
  zero,
  suc,
  ◌==◌,
  cond,
  refl,
  sym,
  ◌<◌,
  ◌≤◌,
  Bool,
  true,
  false,
  List,
  [],
  ◌∷◌,
  length,
  Option,
  Some,
  None,
  Ok,
  Err,
  arith,
}
use Rattle.std.specs.Prelude.{Result as Outcome, IfOk}
use Rattle.std.proofs.lemmas.Bool.{false≢true}
use Rattle.cov_base.specs.declared.refusal.Refusal.{Refusal}
use Rattle.c_tokens.specs.declared.token.Keyword.{Keyword}
use Rattle.c_tokens.specs.declared.token.Token.{Token}
use Rattle.c_tree.specs.declared.expr.Base.{Base}
use Rattle.c_tree.specs.Tree.{Head}
use Rattle.c_tokens.specs.declared.token.Punct.{Punct}
use Rattle.c_tokens.specs.declared.token.Punct.TheVariants as mark
use Rattle.c_grammar.specs.declared.begins.Operand.{Operand}
use Rattle.c_grammar.specs.declared.begins.Operand.TheVariants as first
use Rattle.c_grammar.specs.declared.begins.Prefix.{Prefix}
use Rattle.c_grammar.specs.declared.begins.Prefix.TheVariants as prefix
use Rattle.c_grammar.specs.declared.begins.StmtForm.{StmtForm}
use Rattle.c_grammar.specs.declared.begins.StmtForm.TheVariants as form
use Rattle.c_grammar.specs.declared.begins.ItemForm.{ItemForm}
use Rattle.c_grammar.specs.declared.begins.ItemForm.TheVariants as label
use Rattle.c_grammar.specs.Operators.{operand_at, prefix_at, cast_at}
use Rattle.c_grammar.specs.Forms.{form_at, item_at, function_at, all_named}
use Rattle.c_grammar.specs.Grammar as grammar
use Rattle.std.proofs.lemmas.Option.{none-some}
use Rattle.c_grammar.specs.declared.fault.ParseFault.{ParseFault}
use Rattle.c_grammar.specs.declared.found.Found.{Found}
use Rattle.c_grammar.specs.Words.{
  key_of,
  is_type_word,
  words_with,
  base_at,
  behind_words,
  type_lists,
  named_by,
  type_words,
  word_number,
  next_is,
  type_at,
}
use Rattle.c_grammar.specs.Rules.{Listed, Rule, Result}
use Rattle.c_grammar.specs.Grammar.{Grammar, form_of, member}
use Rattle.c_grammar.specs.Derivations.{By, Front}
use Rattle.c_grammar.specs.Reads.{Reads}
use Rattle.c_grammar.proofs.Words.{words_shorter}

-- the rule has a token at least
abbrev pub opens : Rule → Bool
opens (Rule.increments e n) = false
opens (Rule.operators m e n) = false
opens (Rule.commas e n) = false
opens Rule.arguments = false
opens (Rule.more l) = false
opens Rule.size = false
opens Rule.initialiser = false
opens Rule.parameters = false
opens _ = true

-- this is so, or the other is
abbrev or_else : Bool → Type 0 → Type 0
or_else true P = Unit {0}
or_else false P = P

-- each way through a form takes a token
abbrev Opens : {A : Type 0} → Grammar A → Type 0
Opens Grammar.none = Unit {0}
Opens (Grammar.gives x) = ⊥
Opens (Grammar.any f) = Unit {0}
Opens (Grammar.token kind f) = Unit {0}
Opens (Grammar.words f) = Unit {0}
Opens (Grammar.part d q next) = or_else (opens q) ((y : Result q) (m : ℕ) → Opens (next y m))
Opens (Grammar.deep d g) = Opens g
Opens (Grammar.look next) = (ts : List Token) → Opens (next ts)

operand_opens : (text : List ℕ) (o : Operand) → Opens (grammar.operand_as text o)
operand_opens text first.Name = tt
operand_opens text (first.Number n type) = tt
operand_opens text first.EofName = tt
operand_opens text first.Paren = tt
operand_opens text first.Call = tt
operand_opens text first.Index = tt
operand_opens text first.Absent = tt

unary_opens : (p : Prefix) → Opens (grammar.unary_as p)
unary_opens (prefix.Increment o) = tt
unary_opens (prefix.Operator o) = tt
unary_opens prefix.Absent = tt

cast_opens : (b : Bool) → Opens (grammar.cast_as b)
cast_opens true = tt
cast_opens false = tt

precedence_opens : (m : ℕ) → Opens (grammar.precedence_of m)
precedence_opens zero = tt
precedence_opens (suc m) = tt

ended_opens : (m : Punct) (b : Bool) → Opens (grammar.ended_as m b)
ended_opens m true = tt
ended_opens m false = tt

length_opens : (b : Bool) → Opens (grammar.length_as b)
length_opens true = tt
length_opens false = tt

given_opens : (b : Bool) → Opens (grammar.given_as b)
given_opens true = tt
given_opens false = tt

statement_opens : (f : StmtForm) → Opens (grammar.statement_as f)
statement_opens form.Block = tt
statement_opens form.If = tt
statement_opens form.While = tt
statement_opens form.Do = tt
statement_opens form.For = tt
statement_opens form.Switch = tt
statement_opens form.Break = tt
statement_opens form.Continue = tt
statement_opens form.Return = tt
statement_opens form.Value = tt

first_opens : (b c : Bool) → Opens (grammar.first_as b c)
first_opens true c = tt
first_opens false true = tt
first_opens false false = tt

item_opens : (b : Bool) → Opens (grammar.item_as b)
item_opens true = tt
item_opens false = tt

switch_item_opens : (f : ItemForm) → Opens (grammar.switch_item_as f)
switch_item_opens label.Case = tt
switch_item_opens label.Default = tt
switch_item_opens label.Item = tt

outer_opens : (b : Bool) → Opens (grammar.outer_as b)
outer_opens true = tt
outer_opens false = tt

definition_opens : (h : Head) (b : Bool) → Opens (grammar.definition h b)
definition_opens h true = tt
definition_opens h false = tt

body_opens : (h : Head) (b : Bool) → Opens (grammar.body_as h b)
body_opens h true = tt
body_opens h false = definition_opens h (all_named h.params)

list_opens : (text : List ℕ) (l : Listed) → Opens (form_of text (Rule.list l))
list_opens text Listed.arguments = tt
list_opens text Listed.values = tt
list_opens text (Listed.variables base) = tt
list_opens text Listed.parameters = tt
list_opens text Listed.items = tt
list_opens text Listed.switch_items = tt
list_opens text Listed.outers = tt

rule_opens : (text : List ℕ) (r : Rule) → opens r ≡ true → Opens (form_of text r)
rule_opens text Rule.any h = tt
rule_opens text (Rule.token kind) h = tt
rule_opens text Rule.type_name h = tt
rule_opens text Rule.operand h = λ ts. operand_opens text (operand_at ts)
rule_opens text Rule.postfix h = tt
rule_opens text (Rule.increments e n) h = elim (false≢true h) [ ]
rule_opens text Rule.unary h = λ ts. unary_opens (prefix_at ts)
rule_opens text Rule.cast h = λ ts. cast_opens (cast_at ts)
rule_opens text (Rule.precedence m) h = precedence_opens m
rule_opens text (Rule.operators m e n) h = elim (false≢true h) [ ]
rule_opens text Rule.conditional h = tt
rule_opens text Rule.assignment h = tt
rule_opens text Rule.expression h = tt
rule_opens text (Rule.commas e n) h = elim (false≢true h) [ ]
rule_opens text (Rule.closed m) h = tt
rule_opens text (Rule.ended m) h = λ ts. ended_opens m (next_is m ts)
rule_opens text Rule.arguments h = elim (false≢true h) [ ]
rule_opens text (Rule.list l) h = list_opens text l
rule_opens text (Rule.more l) h = elim (false≢true h) [ ]
rule_opens text Rule.declaration h = tt
rule_opens text (Rule.variable base) h = tt
rule_opens text Rule.size h = elim (false≢true h) [ ]
rule_opens text Rule.length h = λ ts. length_opens (next_is mark.CloseBracket ts)
rule_opens text Rule.initialiser h = elim (false≢true h) [ ]
rule_opens text Rule.given h = λ ts. given_opens (next_is mark.OpenBrace ts)
rule_opens text Rule.statement h = λ ts. statement_opens (form_at ts)
rule_opens text Rule.condition h = tt
rule_opens text Rule.branches h = tt
rule_opens text Rule.until h = tt
rule_opens text Rule.first h = λ ts. first_opens (type_at ts) (next_is mark.Semicolon ts)
rule_opens text Rule.controls h = tt
rule_opens text Rule.for_head h = tt
rule_opens text Rule.cases h = tt
rule_opens text Rule.item h = λ ts. item_opens (type_at ts)
rule_opens text Rule.switch_item h = λ ts. switch_item_opens (item_at ts)
rule_opens text Rule.outer h = λ ts. outer_opens (function_at ts)
rule_opens text Rule.function_head h = tt
rule_opens text (Rule.body head) h = λ ts. body_opens head (next_is mark.Semicolon ts)
rule_opens text Rule.parameters h = elim (false≢true h) [ ]
rule_opens text Rule.parameter h = λ ts. tt

-- no words name no type
unnamed : {base : Base} → named_by type_lists [] ≡ Some base → ⊥
unfolding type_lists
unnamed {base = base} h = none-some base h

words_spent : {base : Base} (ts : List Token) → base_at ts ≡ Some base → length (behind_words ts) < length ts
words_spent [] h = absurd (unnamed h)
words_spent {base =
    base} (t ∷ ts) h = go (key_of (Some t.kind)) (type_words ts) (behind_words ts) t ts h (words_shorter ts)
  where
    pick : {base : Base} (b : Bool) (words : List ℕ) (us : List Token) (t : Token) (ts : List Token)
        → named_by type_lists (cond b [] words) ≡ Some base → length us ≤ length ts
        → length (cond (cond b false true) us (t ∷ ts)) < length (t ∷ ts)
    pick true words us t ts h l = absurd (unnamed h)
    pick false words us t ts h l = omega (arith, l)

    go : {base : Base} (k : Option Keyword) (words : List ℕ) (us : List Token) (t : Token) (ts : List Token)
        → named_by type_lists (words_with k words) ≡ Some base → length us ≤ length ts
        → length (cond (is_type_word k) us (t ∷ ts)) < length (t ∷ ts)
    go None words us t ts h l = absurd (unnamed h)
    go (Some k) words us t ts h l = pick (word_number k == 0) (word_number k ∷ words) us t ts h l

-- no tokens are put before the others
pub shorter : {text : List ℕ} {r : Rule} {g : Grammar (Result r)} {ts rest : List Token} {x : Result r} {n : ℕ}
    → By text r g ts x n rest → length rest ≤ length ts
shorter By.gives = omega arith
shorter By.any = omega arith
shorter (By.token k) = omega arith
shorter (By.words {ts = ts} b) = words_shorter ts
shorter (By.part p e) = omega (arith, shorter p, shorter e)
shorter (By.deep e) = shorter e
shorter (By.look e) = shorter e

spent : (text : List ℕ) {r : Rule} {g : Grammar (Result r)} {ts rest : List Token} {x : Result r} {n : ℕ}
    → By text r g ts x n rest → Opens g → length rest < length ts
spent text By.gives o = absurd o
spent text By.any o = omega arith
spent text (By.token k) o = omega arith
spent text (By.words {ts = ts} b) o = words_spent ts b
spent text (By.part {q = q} {m = m} {next = next} {y = y} p e) o =
    go (opens q) refl (λ h. omega (arith, shorter e, spent text p (rule_opens text q h)))
    (λ h. omega (arith, shorter p, spent text e (either (opens q) h o y m)))
  where
    go : {P : Type 0} (b : Bool) → opens q ≡ b → (opens q ≡ true → P) → (opens q ≡ false → P) → P
    go true h f g = f h
    go false h f g = g h

    either : {P : Type 0} (b : Bool) → b ≡ false → or_else b P → P
    either true h o = elim (false≢true (sym h)) [ ]
    either false h o = o
spent text (By.deep e) o = spent text e o
spent text (By.look {ts = ts} e) o = spent text e (o ts)

-- a front by such a rule has a token
pub front_spends : (text : List ℕ) (r : Rule) {ts rest : List Token} {x : Result r} {n : ℕ} → opens r ≡ true
    → Front text r ts x n rest → length rest < length ts
front_spends text r h f = spent text f (rule_opens text r h)

-- and so what its reader finds leaves fewer tokens
pub reader_spends : {H : Type 0} (text : List ℕ) (r : Rule) (view : H → Result r) (ts : List Token) (room : ℕ)
    (found : Outcome (Found H) (Refusal ParseFault)) → opens r ≡ true → Reads view (Front text r ts) room found
    → IfOk found (λ f. length f.rest.now < length ts)
reader_spends text r view ts room (Ok found) h f = front_spends text r h f.front
reader_spends text r view ts room (Err e) h f = tt
