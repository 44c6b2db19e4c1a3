-- How statements of C17's grammar are derived.
use Rattle.std.proofs.Common.{◌≡◌, refl, sym, ap, ◌∙◌, ℕ, ◌<◌, Bool, true, false, not, arith}
use Rattle.std.proofs.Common.{List, [], ◌∷◌, ◌++◌, Option, Some, None}
use Rattle.c_tokens.specs.declared.token.Keyword.{Keyword}
use Rattle.c_tokens.specs.declared.token.Keyword.TheVariants as key
use Rattle.c_tokens.specs.declared.token.Punct.{Punct}
use Rattle.c_tokens.specs.declared.token.Punct.TheVariants as mark
use Rattle.c_tokens.specs.declared.token.Token.{Token}
use Rattle.c_tokens.specs.declared.token.TokenKind.{TokenKind}
use Rattle.c_tokens.specs.declared.token.TokenKind.TheVariants as kind
use Rattle.c_tree.specs.Expr.{Expr}
use Rattle.c_tree.specs.Stmt.{Var, Stmt, OtherStmt, ForHead, SwitchItem}
use Rattle.c_tree.specs.TreeView.{stmts_of, items_of}
use Rattle.c_grammar.specs.declared.begins.StmtForm.{StmtForm}
use Rattle.c_grammar.specs.declared.begins.StmtForm.TheVariants as form
use Rattle.c_grammar.specs.declared.begins.ItemForm.TheVariants as label
use Rattle.c_grammar.specs.Words.{mark_of, is_mark, next_is, key_of, is_type_word, type_at}
use Rattle.c_grammar.specs.Forms.{form_of, form_at, is_else, else_at, item_of, item_at}
use Rattle.c_grammar.specs.Rules.{Listed, Rule, Result}
use Rattle.c_grammar.specs.Grammar as grammar
use Rattle.c_syntax.specs.Syntax.{IsMark, IsKey, takes_else}
use Rattle.c_derivable.proofs.Marks.{looseness}
use Rattle.c_derivable.proofs.Begins.{
  Begins,
  closes,
  Closing,
  starts_expression,
  starts_statement,
  starts_type,
  starts_item,
  no_type,
  value_form,
  statement_is_no_type,
  item_is_no_label,
  seen,
}
use Rattle.c_derivable.proofs.Forms.{append_assoc}
use Rattle.c_derivable.proofs.Forms as forms
use Rattle.c_derivable.proofs.Expressions.{is_next, ends_at}
use Rattle.c_derivable.proofs.Expressions as expressions
use Rattle.c_derivable.proofs.Declarations.{is_not, mark_is_no_type}
use Rattle.c_derivable.proofs.Declarations as declarations

form_begun : (t : Token) (ts : List Token) (k : TokenKind) → t.kind ≡ k → form_at (t ∷ ts) ≡ form_of (Some k)
form_begun t ts k e = ap (λ (k : TokenKind). form_of (Some k)) e

key_is_no_else : (w : Keyword) (t : Token) (ts : List Token) → IsKey w t → is_else (Some w) ≡ false → else_at (t ∷ ts) ≡ false
key_is_no_else w t ts k e = ap (λ (k : TokenKind). is_else (key_of (Some k))) k.is ∙ e

type_begins : (ts us : List Token) → Begins starts_type ts → type_at (ts ++ us) ≡ true
type_begins ts us h =
    seen starts_type (λ k. is_type_word (key_of k)) true (λ k e. e) ts us h type_at (λ t us. refl)

module _ (text : List ℕ) where
  abbrev D : (r : Rule) → List Token → Result r → List Token → Type 0
  D r ts x rest = forms.Derived text r ts x rest

  abbrev Alone : (r : Rule) → ℕ → List Token → Result r → Type 0
  Alone r g ts x = expressions.Alone text r g ts x

  abbrev OfExpression : List Token → Expr → Type 0
  OfExpression ts x = expressions.OfExpression text ts x

  -- where an `else` behind it would belong to it, none stands there
  abbrev pub OfStatement : (r : Rule) → List Token → Result r → Bool → Type 0
  OfStatement r ts x dangles = (rest : List Token) → (dangles ≡ true → else_at rest ≡ false) → D r (ts ++ rest) x rest

  -- whatever stands behind it
  abbrev pub Anyway : (r : Rule) → List Token → Result r → Type 0
  Anyway r ts x = (rest : List Token) → D r (ts ++ rest) x rest

  abbrev pub OfLeftOut : Punct → List Token → Option Expr → Type 0
  OfLeftOut m ts e = Closing m → 13 < looseness (Some m) → Anyway (Rule.ended m) ts e

  -- ---- an expression that may be left out

  pub of_nothing : {t : Token} (m : Punct) → IsMark m t → OfLeftOut m (t ∷ []) None
  of_nothing {t = t} m k none l rest =
      forms.look text (Rule.ended m) (grammar.ended_as m) (next_is m) true (is_next m t rest k)
      (forms.mark text (Rule.ended m) k (forms.done text (Rule.ended m)))

  pub of_something : {t : Token} (ts : List Token) (m : Punct) {e : Expr} → Begins starts_expression ts → OfExpression ts e
      → IsMark m t → OfLeftOut m (ts ++ t ∷ []) (Some e)
  of_something {t = t} ts m b h k none l rest =
      forms.moved text (Rule.ended m) _ (append_assoc ts (t ∷ []) rest)
      (forms.look text (Rule.ended m) (grammar.ended_as m) (next_is m) false
      (seen starts_expression (λ k. is_mark m (mark_of k)) false none ts (t ∷ rest) b (next_is m) (λ t us. refl))
      (forms.part text (Rule.ended m) (Rule.closed m) (expressions.closed text m ts rest l k h)
      (λ n. forms.done text (Rule.ended m))))

  -- ---- statements

  -- a statement of this form
  formed : (f : StmtForm) {ts rest : List Token} {s : Stmt} → form_at ts ≡ f
      → forms.Formed text Rule.statement (grammar.statement_as f) ts s rest → D Rule.statement ts s rest
  formed f e h = forms.look text Rule.statement grammar.statement_as form_at f e h

  condition_read : {o c : Token} (ts us rest : List Token) {e : Expr} → IsMark mark.OpenParen o → OfExpression ts e
      → IsMark mark.CloseParen c → D Rule.condition (o ∷ (ts ++ c ∷ us) ++ rest) e (us ++ rest)
  condition_read {o = o} {c = c} ts us rest k h d =
      forms.mark text Rule.condition k
      (forms.moved text Rule.condition _ (append_assoc ts (c ∷ us) rest)
      (forms.part text Rule.condition (Rule.closed mark.CloseParen)
      (expressions.closed text mark.CloseParen ts (us ++ rest) (omega arith) d h)
      (λ n. forms.done text Rule.condition)))

  pub of_block : {o c : Token} (ts : List Token) {ss : List Stmt} → IsMark mark.OpenBrace o
      → declarations.OfFollowing text Listed.items ts ss → IsMark mark.CloseBrace c
      → Anyway Rule.statement (o ∷ ts ++ c ∷ []) (Stmt.Block (stmts_of ss))
  of_block {o = o} {c = c} ts k h d rest =
      formed form.Block (form_begun o ((ts ++ c ∷ []) ++ rest) (kind.Mark mark.OpenBrace) k.is)
      (forms.token text Rule.statement
      (forms.moved text Rule.statement _ (append_assoc ts (c ∷ []) rest)
      (forms.part text Rule.statement (Rule.more Listed.items)
      (h (c ∷ rest) (ap not (is_next mark.CloseBrace c rest d)))
      (λ n. forms.mark text Rule.statement d (forms.done text Rule.statement)))))

  pub of_empty : {t : Token} → IsMark mark.Semicolon t → Anyway Rule.statement (t ∷ []) Stmt.Empty
  of_empty {t = t} k rest =
      formed form.Value (form_begun t rest (kind.Mark mark.Semicolon) k.is)
      (forms.part text Rule.statement (Rule.ended mark.Semicolon)
      (of_nothing mark.Semicolon k (closes mark.Semicolon refl) (omega arith) rest) (λ n. forms.done text Rule.statement))

  pub of_value : {t : Token} (ts : List Token) {e : Expr} → Begins starts_expression ts → OfExpression ts e
      → IsMark mark.Semicolon t → Anyway Rule.statement (ts ++ t ∷ []) (Stmt.Value e)
  of_value {t = t} ts b h k rest =
      formed form.Value
      (ap form_at (append_assoc ts (t ∷ []) rest)
      ∙ seen starts_expression form_of form.Value value_form ts (t ∷ rest) b form_at (λ t us. refl))
      (forms.part text Rule.statement (Rule.ended mark.Semicolon)
      (of_something ts mark.Semicolon b h k (closes mark.Semicolon refl) (omega arith) rest) (λ n. forms.done text Rule.statement))

  pub of_if_alone : {t o c : Token} (ts us : List Token) {e : Expr} {s : Stmt} → IsKey key.If t
      → IsMark mark.OpenParen o → OfExpression ts e → IsMark mark.CloseParen c
      → OfStatement Rule.statement us s (takes_else s)
      → OfStatement Rule.statement (t ∷ o ∷ ts ++ c ∷ us) (Stmt.If e s OtherStmt.Nothing) true
  of_if_alone {t = t} {o = o} {c = c} ts us {s = s} k p h d hs rest dangles =
      formed form.If (form_begun t (o ∷ (ts ++ c ∷ us) ++ rest) (kind.Key key.If) k.is)
      (forms.token text Rule.statement
      (forms.part text Rule.statement Rule.condition (condition_read ts us rest p h d)
      (λ n. forms.part text Rule.statement Rule.branches
      (forms.part text Rule.branches Rule.statement (hs rest (λ _. dangles refl))
      (λ m. forms.look text Rule.branches (grammar.alternative_as s) else_at false (dangles refl) (forms.done text Rule.branches)))
      (λ m. forms.done text Rule.statement))))

  pub of_if_else : {t o c k : Token} (ts us vs : List Token) {e : Expr} {s other : Stmt} → IsKey key.If t
      → IsMark mark.OpenParen o → OfExpression ts e → IsMark mark.CloseParen c
      → OfStatement Rule.statement us s (takes_else s) → takes_else s ≡ false → IsKey key.Else k
      → OfStatement Rule.statement vs other (takes_else other)
      → OfStatement Rule.statement (t ∷ o ∷ ts ++ (c ∷ us ++ k ∷ vs)) (Stmt.If e s (OtherStmt.There other)) (takes_else other)
  of_if_else {t = t} {o = o} {c = c} {k = k} ts us vs {s = s} w p h d hs n we ho rest dangles =
      formed form.If (form_begun t (o ∷ (ts ++ (c ∷ us ++ k ∷ vs)) ++ rest) (kind.Key key.If) w.is)
      (forms.token text Rule.statement
      (forms.part text Rule.statement Rule.condition (condition_read ts (us ++ k ∷ vs) rest p h d)
      (λ q. forms.part text Rule.statement Rule.branches
      (forms.moved text Rule.branches _ (append_assoc us (k ∷ vs) rest)
      (forms.part text Rule.branches Rule.statement
      (hs (k ∷ vs ++ rest) (λ y. absurd (let never : true ≡ false = sym y ∙ n in cc)))
      (λ m. forms.look text Rule.branches (grammar.alternative_as s) else_at true
      (ap (λ (k : TokenKind). is_else (key_of (Some k))) we.is)
      (forms.token text Rule.branches
      (forms.part text Rule.branches Rule.statement (ho rest dangles) (λ i. forms.done text Rule.branches))))))
      (λ m. forms.done text Rule.statement))))

  pub of_while : {t o c : Token} (ts us : List Token) {e : Expr} {s : Stmt} → IsKey key.While t
      → IsMark mark.OpenParen o → OfExpression ts e → IsMark mark.CloseParen c
      → OfStatement Rule.statement us s (takes_else s)
      → OfStatement Rule.statement (t ∷ o ∷ ts ++ c ∷ us) (Stmt.While e s) (takes_else s)
  of_while {t = t} {o = o} {c = c} ts us k p h d hs rest dangles =
      formed form.While (form_begun t (o ∷ (ts ++ c ∷ us) ++ rest) (kind.Key key.While) k.is)
      (forms.token text Rule.statement
      (forms.part text Rule.statement Rule.condition (condition_read ts us rest p h d)
      (λ n. forms.part text Rule.statement Rule.statement (hs rest dangles) (λ m. forms.done text Rule.statement))))

  pub of_do_while : {t w o c m : Token} (ts us : List Token) {e : Expr} {s : Stmt} → IsKey key.Do t
      → OfStatement Rule.statement ts s (takes_else s) → IsKey key.While w → IsMark mark.OpenParen o → OfExpression us e
      → IsMark mark.CloseParen c → IsMark mark.Semicolon m
      → Anyway Rule.statement (t ∷ ts ++ (w ∷ o ∷ us ++ c ∷ m ∷ [])) (Stmt.DoWhile s e w.line)
  of_do_while {t = t} {w = w} {o = o} {c = c} {m = m} ts us k hs kw p h d q rest =
      formed form.Do (form_begun t ((ts ++ (w ∷ o ∷ us ++ c ∷ m ∷ [])) ++ rest) (kind.Key key.Do) k.is)
      (forms.token text Rule.statement
      (forms.moved text Rule.statement _ (append_assoc ts (w ∷ o ∷ us ++ c ∷ m ∷ []) rest)
      (forms.part text Rule.statement Rule.statement
      (hs (w ∷ o ∷ (us ++ c ∷ m ∷ []) ++ rest) (λ y. key_is_no_else key.While w (o ∷ (us ++ c ∷ m ∷ []) ++ rest) kw refl))
      (λ n. forms.part text Rule.statement Rule.until
      (forms.of_kind text Rule.until (kind.Key key.While) kw.is
      (forms.part text Rule.until Rule.condition (condition_read us (m ∷ []) rest p h d)
      (λ i. forms.mark text Rule.until q (forms.done text Rule.until))))
      (λ i. forms.done text Rule.statement)))))

  pub of_for : {t o : Token} (ts us vs ws : List Token) {first : OtherStmt} {test step : Option Expr} {s : Stmt}
      → IsKey key.For t → IsMark mark.OpenParen o → Anyway Rule.first ts first → OfLeftOut mark.Semicolon us test
      → OfLeftOut mark.CloseParen vs step → OfStatement Rule.statement ws s (takes_else s)
      → OfStatement Rule.statement (t ∷ o ∷ ts ++ (us ++ (vs ++ ws))) (Stmt.For (ForHead.Head first test step) s) (takes_else s)
  of_for {t = t} {o = o} ts us vs ws {first = first} {test = test} {step = step} k p hf ht hp hs rest dangles =
      formed form.For (form_begun t (o ∷ (ts ++ (us ++ (vs ++ ws))) ++ rest) (kind.Key key.For) k.is)
      (forms.token text Rule.statement
      (forms.part text Rule.statement Rule.for_head
      (forms.mark text Rule.for_head p
      (forms.moved text Rule.for_head _
      (append_assoc ts (us ++ (vs ++ ws)) rest
      ∙ ap (λ (l : List Token). ts ++ l)
      (append_assoc us (vs ++ ws) rest ∙ ap (λ (l : List Token). us ++ l) (append_assoc vs ws rest)))
      (forms.part text Rule.for_head Rule.first (hf (us ++ (vs ++ (ws ++ rest))))
      (λ n. forms.part text Rule.for_head Rule.controls
      (forms.part text Rule.controls (Rule.ended mark.Semicolon)
      (ht (closes mark.Semicolon refl) (omega arith) (vs ++ (ws ++ rest)))
      (λ m. forms.part text Rule.controls (Rule.ended mark.CloseParen) (hp (closes mark.CloseParen refl) (omega arith) (ws ++ rest))
      (λ i. forms.done text Rule.controls)))
      (λ m. forms.done text Rule.for_head)))))
      (λ n. forms.part text Rule.statement Rule.statement (hs rest dangles) (λ m. forms.done text Rule.statement))))

  pub of_switch : {t o c b d : Token} (ts us : List Token) {e : Expr} {is : List SwitchItem} → IsKey key.Switch t
      → IsMark mark.OpenParen o → OfExpression ts e → IsMark mark.CloseParen c → IsMark mark.OpenBrace b
      → declarations.OfFollowing text Listed.switch_items us is → IsMark mark.CloseBrace d
      → Anyway Rule.statement (t ∷ o ∷ ts ++ (c ∷ b ∷ us ++ d ∷ [])) (Stmt.Switch e (items_of is))
  of_switch {t = t} {o = o} {c = c} {b = b} {d = d} ts us k p h q kb hi kd rest =
      formed form.Switch (form_begun t (o ∷ (ts ++ (c ∷ b ∷ us ++ d ∷ [])) ++ rest) (kind.Key key.Switch) k.is)
      (forms.token text Rule.statement
      (forms.part text Rule.statement Rule.condition (condition_read ts (b ∷ us ++ d ∷ []) rest p h q)
      (λ n. forms.part text Rule.statement Rule.cases
      (forms.mark text Rule.cases kb
      (forms.moved text Rule.cases _ (append_assoc us (d ∷ []) rest)
      (forms.part text Rule.cases (Rule.more Listed.switch_items)
      (hi (d ∷ rest) (ap not (is_next mark.CloseBrace d rest kd)))
      (λ m. forms.mark text Rule.cases kd (forms.done text Rule.cases)))))
      (λ m. forms.done text Rule.statement))))

  pub of_break : {t m : Token} → IsKey key.Break t → IsMark mark.Semicolon m
      → Anyway Rule.statement (t ∷ m ∷ []) (Stmt.Break t.start t.line)
  of_break {t = t} {m = m} k d rest =
      formed form.Break (form_begun t (m ∷ rest) (kind.Key key.Break) k.is)
      (forms.token text Rule.statement
      (forms.mark text Rule.statement d (forms.deep text Rule.statement (forms.done text Rule.statement))))

  pub of_continue : {t m : Token} → IsKey key.Continue t → IsMark mark.Semicolon m
      → Anyway Rule.statement (t ∷ m ∷ []) (Stmt.Continue t.start t.line)
  of_continue {t = t} {m = m} k d rest =
      formed form.Continue (form_begun t (m ∷ rest) (kind.Key key.Continue) k.is)
      (forms.token text Rule.statement
      (forms.mark text Rule.statement d (forms.deep text Rule.statement (forms.done text Rule.statement))))

  pub of_return : {t : Token} (ts : List Token) {e : Option Expr} → IsKey key.Return t → OfLeftOut mark.Semicolon ts e
      → Anyway Rule.statement (t ∷ ts) (Stmt.Return e t.start t.line)
  of_return {t = t} ts k h rest =
      formed form.Return (form_begun t (ts ++ rest) (kind.Key key.Return) k.is)
      (forms.token text Rule.statement
      (forms.part text Rule.statement (Rule.ended mark.Semicolon) (h (closes mark.Semicolon refl) (omega arith) rest)
      (λ n. forms.done text Rule.statement)))

  -- ---- the first part of a `for`

  first_look : (a b : Bool) {ts rest : List Token} {f : OtherStmt} → type_at ts ≡ a → next_is mark.Semicolon ts ≡ b
      → forms.Formed text Rule.first (grammar.first_as a b) ts f rest → D Rule.first ts f rest
  first_look a b {ts = ts} e f h =
      forms.look text Rule.first {X = Bool × Bool} (λ p. grammar.first_as p.0 p.1) (λ us. (type_at us, next_is mark.Semicolon us)) (a, b)
      (ap (λ (c : Bool). (c, next_is mark.Semicolon ts)) e ∙ ap (λ (c : Bool). (a, c)) f) h

  pub of_first_declares : (ts : List Token) {vs : List Var} → Begins starts_type ts → Anyway Rule.declaration ts vs
      → Anyway Rule.first ts (OtherStmt.There (Stmt.Vars vs))
  of_first_declares ts b h rest =
      first_look true (next_is mark.Semicolon (ts ++ rest)) (type_begins ts rest b) refl
      (forms.part text Rule.first Rule.declaration (h rest) (λ n. forms.done text Rule.first))

  pub of_first_empty : {t : Token} → IsMark mark.Semicolon t → Anyway Rule.first (t ∷ []) OtherStmt.Nothing
  of_first_empty {t = t} k rest =
      first_look false true (mark_is_no_type mark.Semicolon t rest k) (is_next mark.Semicolon t rest k)
      (forms.mark text Rule.first k (forms.done text Rule.first))

  pub of_first_value : {t : Token} (ts : List Token) {e : Expr} → Begins starts_expression ts → OfExpression ts e
      → IsMark mark.Semicolon t → Anyway Rule.first (ts ++ t ∷ []) (OtherStmt.There (Stmt.Value e))
  of_first_value {t = t} ts b h k rest =
      forms.moved text Rule.first _ (append_assoc ts (t ∷ []) rest)
      (first_look false false
      (seen starts_expression (λ k. is_type_word (key_of k)) false no_type ts (t ∷ rest) b type_at (λ t us. refl))
      (seen starts_expression (λ k. is_mark mark.Semicolon (mark_of k)) false (closes mark.Semicolon refl) ts (t ∷ rest) b
      (next_is mark.Semicolon) (λ t us. refl))
      (forms.part text Rule.first (Rule.closed mark.Semicolon)
      (expressions.closed text mark.Semicolon ts rest (omega arith) k h) (λ n. forms.done text Rule.first)))

  -- ---- items

  pub of_item_declares : (ts : List Token) {vs : List Var} → Begins starts_type ts → Anyway Rule.declaration ts vs
      → Anyway Rule.item ts (Stmt.Vars vs)
  of_item_declares ts b h rest =
      forms.look text Rule.item grammar.item_as type_at true (type_begins ts rest b)
      (forms.part text Rule.item Rule.declaration (h rest) (λ n. forms.done text Rule.item))

  pub of_item_does : (ts : List Token) {s : Stmt} → Begins starts_statement ts
      → OfStatement Rule.statement ts s (takes_else s) → OfStatement Rule.item ts s (takes_else s)
  of_item_does ts b h rest dangles =
      forms.look text Rule.item grammar.item_as type_at false
      (seen starts_statement (λ k. is_type_word (key_of k)) false statement_is_no_type ts rest b type_at (λ t us. refl))
      (forms.part text Rule.item Rule.statement (h rest dangles) (λ n. forms.done text Rule.item))

  pub of_case : {t c : Token} (ts : List Token) {e : Expr} → IsKey key.Case t → Alone Rule.conditional 11 ts e
      → IsMark mark.Colon c → Anyway Rule.switch_item (t ∷ ts ++ c ∷ []) (SwitchItem.Case e t.start)
  of_case {t = t} {c = c} ts k h d rest =
      forms.look text Rule.switch_item grammar.switch_item_as item_at label.Case
      (ap (λ (k : TokenKind). item_of (key_of (Some k))) k.is)
      (forms.token text Rule.switch_item
      (forms.moved text Rule.switch_item _ (append_assoc ts (c ∷ []) rest)
      (forms.part text Rule.switch_item Rule.conditional (h (c ∷ rest) (ends_at 11 mark.Colon c rest d (omega arith)))
      (λ n. forms.mark text Rule.switch_item d (forms.done text Rule.switch_item)))))

  pub of_default : {t c : Token} → IsKey key.Default t → IsMark mark.Colon c
      → Anyway Rule.switch_item (t ∷ c ∷ []) (SwitchItem.Default t.start)
  of_default {t = t} {c = c} k d rest =
      forms.look text Rule.switch_item grammar.switch_item_as item_at label.Default
      (ap (λ (k : TokenKind). item_of (key_of (Some k))) k.is)
      (forms.token text Rule.switch_item (forms.mark text Rule.switch_item d (forms.done text Rule.switch_item)))

  pub of_does : (ts : List Token) {s : Stmt} (dangles : Bool) → Begins starts_item ts → OfStatement Rule.item ts s dangles
      → OfStatement Rule.switch_item ts (SwitchItem.Item s) dangles
  of_does ts dangles b h rest e =
      forms.look text Rule.switch_item grammar.switch_item_as item_at label.Item
      (seen starts_item (λ k. item_of (key_of k)) label.Item item_is_no_label ts rest b item_at (λ t us. refl))
      (forms.part text Rule.switch_item Rule.item (h rest e) (λ n. forms.done text Rule.switch_item))
