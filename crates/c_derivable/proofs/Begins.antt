-- Which tokens the symbols of C17's grammar begin with, and what the rules that look ahead see there.
use Rattle.std.proofs.Common.{sym, ◌≡◌, refl, ap, ◌∙◌, ℕ, Bool, true, false, cond}
use Rattle.std.proofs.Common.{List, [], ◌∷◌, ◌++◌, Option, Some, None}
use Rattle.c_tokens.specs.declared.token.Keyword.TheVariants as key
use Rattle.c_tokens.specs.declared.token.Punct.{Punct}
use Rattle.c_tokens.specs.declared.token.Punct.TheVariants as mark
use Rattle.c_tokens.specs.contracts.token.Punct.{the_type as the_mark}
use denote.Enum.Bare.{same_true}
use Rattle.c_tokens.specs.declared.token.Token.{Token}
use Rattle.c_tokens.specs.declared.token.TokenKind.{TokenKind}
use Rattle.c_tokens.specs.declared.token.TokenKind.TheVariants as kind
use Rattle.int_ops.specs.declared.operators.BinOp.{BinOp}
use Rattle.c_tree.specs.declared.expr.Base.{Base}
use Rattle.c_tree.specs.Expr.{Expr}
use Rattle.c_grammar.specs.declared.begins.UnaryOperator.{UnaryOperator}
use Rattle.c_grammar.specs.declared.begins.Prefix.TheVariants as prefix
use Rattle.c_grammar.specs.declared.begins.StmtForm.TheVariants as form
use Rattle.c_grammar.specs.declared.begins.ItemForm.TheVariants as label
use Rattle.c_grammar.specs.Words.{mark_of, is_mark, next_is, key_of, is_name, is_type_word, type_at, base_at, type_lists}
use Rattle.c_grammar.specs.Operators.{prefix_of, cast_at}
use Rattle.c_grammar.specs.Forms.{form_of, is_else, item_of}
use Rattle.c_grammar.specs.Rules.{Listed}
use Rattle.c_syntax.specs.Syntax.{IsType, Increments, Signs, Symbol, Value, symbol_of, Is}
use Rattle.c_derivable.proofs.Forms.{append_assoc}

-- ---- kinds of tokens

abbrev pub starts_operand : TokenKind → Bool
starts_operand kind.Name = true
starts_operand (kind.Number n t) = true
starts_operand kind.EofName = true
starts_operand (kind.Mark mark.OpenParen) = true
starts_operand _ = false

abbrev pub starts_expression : TokenKind → Bool
starts_expression (kind.Mark mark.PlusPlus) = true
starts_expression (kind.Mark mark.MinusMinus) = true
starts_expression (kind.Mark mark.Plus) = true
starts_expression (kind.Mark mark.Minus) = true
starts_expression (kind.Mark mark.Tilde) = true
starts_expression (kind.Mark mark.Not) = true
starts_expression k = starts_operand k

abbrev pub starts_statement : TokenKind → Bool
starts_statement (kind.Mark mark.OpenBrace) = true
starts_statement (kind.Mark mark.Semicolon) = true
starts_statement (kind.Key key.If) = true
starts_statement (kind.Key key.While) = true
starts_statement (kind.Key key.Do) = true
starts_statement (kind.Key key.For) = true
starts_statement (kind.Key key.Switch) = true
starts_statement (kind.Key key.Break) = true
starts_statement (kind.Key key.Continue) = true
starts_statement (kind.Key key.Return) = true
starts_statement k = starts_expression k

abbrev pub starts_type : TokenKind → Bool
starts_type k = is_type_word (key_of (Some k))

abbrev pub starts_item : TokenKind → Bool
starts_item k = cond (starts_type k) true (starts_statement k)

abbrev pub starts_switch_item : TokenKind → Bool
starts_switch_item (kind.Key key.Case) = true
starts_switch_item (kind.Key key.Default) = true
starts_switch_item k = starts_item k

abbrev pub is_name_kind : TokenKind → Bool
is_name_kind k = is_name (Some k)

-- ---- what is seen at them

pub operand_starts_expression : (k : TokenKind) → starts_operand k ≡ true → starts_expression k ≡ true
operand_starts_expression (kind.Mark mark.PlusPlus) e = refl
operand_starts_expression (kind.Mark mark.MinusMinus) e = refl
operand_starts_expression (kind.Mark mark.Plus) e = refl
operand_starts_expression (kind.Mark mark.Minus) e = refl
operand_starts_expression (kind.Mark mark.Tilde) e = refl
operand_starts_expression (kind.Mark mark.Not) e = refl
operand_starts_expression _ e = e

pub expression_starts_statement : (k : TokenKind) → starts_expression k ≡ true → starts_statement k ≡ true
expression_starts_statement (kind.Mark mark.OpenBrace) e = refl
expression_starts_statement (kind.Mark mark.Semicolon) e = refl
expression_starts_statement (kind.Key w) e = absurd (let never : false ≡ true = e in cc)
expression_starts_statement _ e = e

pub statement_starts_item : (k : TokenKind) → starts_statement k ≡ true → starts_item k ≡ true
statement_starts_item k e = go (starts_type k)
  where
    go : (b : Bool) → cond b true (starts_statement k) ≡ true
    go true = refl
    go false = e

pub type_starts_item : (k : TokenKind) → starts_type k ≡ true → starts_item k ≡ true
type_starts_item k e = ap (λ b. cond b true (starts_statement k)) e

pub item_starts_switch_item : (k : TokenKind) → starts_item k ≡ true → starts_switch_item k ≡ true
item_starts_switch_item (kind.Key key.Case) e = refl
item_starts_switch_item (kind.Key key.Default) e = refl
item_starts_switch_item _ e = e

pub no_prefix : (k : TokenKind) → starts_operand k ≡ true → prefix_of (mark_of (Some k)) ≡ prefix.Absent
no_prefix (kind.Mark mark.PlusPlus) e = absurd (let never : false ≡ true = e in cc)
no_prefix (kind.Mark mark.MinusMinus) e = absurd (let never : false ≡ true = e in cc)
no_prefix (kind.Mark mark.Plus) e = absurd (let never : false ≡ true = e in cc)
no_prefix (kind.Mark mark.Minus) e = absurd (let never : false ≡ true = e in cc)
no_prefix (kind.Mark mark.Tilde) e = absurd (let never : false ≡ true = e in cc)
no_prefix (kind.Mark mark.Not) e = absurd (let never : false ≡ true = e in cc)
no_prefix _ e = refl

pub no_type : (k : TokenKind) → starts_expression k ≡ true → is_type_word (key_of (Some k)) ≡ false
no_type (kind.Key w) e = absurd (let never : false ≡ true = e in cc)
no_type _ e = refl

-- no expression begins with this mark
abbrev pub Closing : Punct → Type 0
Closing m = (k : TokenKind) → starts_expression k ≡ true → is_mark m (mark_of (Some k)) ≡ false

pub closes : (m : Punct) → starts_expression (kind.Mark m) ≡ false → Closing m
closes m never (kind.Mark n) e = go (is_mark m (Some n)) refl
  where
    go : (b : Bool) → is_mark m (Some n) ≡ b → b ≡ false
    go false f = refl
    go true f =
        let same = ap (λ (n : Punct). starts_expression (kind.Mark n)) (same_true the_mark tt n m f) in
        absurd (let wrong : false ≡ true = sym never ∙ (sym same ∙ e) in cc)
closes m never _ e = refl

pub value_form : (k : TokenKind) → starts_expression k ≡ true → form_of (Some k) ≡ form.Value
value_form (kind.Mark mark.OpenBrace) e = absurd (let never : false ≡ true = e in cc)
value_form (kind.Key w) e = absurd (let never : false ≡ true = e in cc)
value_form _ e = refl

pub statement_is_no_type : (k : TokenKind) → starts_statement k ≡ true → is_type_word (key_of (Some k)) ≡ false
statement_is_no_type (kind.Key key.Void) e = absurd (let never : false ≡ true = e in cc)
statement_is_no_type (kind.Key key.Bool) e = absurd (let never : false ≡ true = e in cc)
statement_is_no_type (kind.Key key.Char) e = absurd (let never : false ≡ true = e in cc)
statement_is_no_type (kind.Key key.Short) e = absurd (let never : false ≡ true = e in cc)
statement_is_no_type (kind.Key key.Int) e = absurd (let never : false ≡ true = e in cc)
statement_is_no_type (kind.Key key.Long) e = absurd (let never : false ≡ true = e in cc)
statement_is_no_type (kind.Key key.Signed) e = absurd (let never : false ≡ true = e in cc)
statement_is_no_type (kind.Key key.Unsigned) e = absurd (let never : false ≡ true = e in cc)
statement_is_no_type _ e = refl

pub item_is_no_label : (k : TokenKind) → starts_item k ≡ true → item_of (key_of (Some k)) ≡ label.Item
item_is_no_label (kind.Key key.Case) e = absurd (let never : false ≡ true = e in cc)
item_is_no_label (kind.Key key.Default) e = absurd (let never : false ≡ true = e in cc)
item_is_no_label _ e = refl

pub item_is_no_else : (k : TokenKind) → starts_switch_item k ≡ true → is_else (key_of (Some k)) ≡ false
item_is_no_else (kind.Key key.Else) e = absurd (let never : false ≡ true = e in cc)
item_is_no_else _ e = refl

pub item_closes_nothing : (k : TokenKind) → starts_switch_item k ≡ true → is_mark mark.CloseBrace (mark_of (Some k)) ≡ false
item_closes_nothing (kind.Mark mark.CloseBrace) e = absurd (let never : false ≡ true = e in cc)
item_closes_nothing _ e = refl

-- ---- fronts of tokens

-- the tokens begin with one of such a kind
abbrev pub Begins : (TokenKind → Bool) → List Token → Type 0
Begins p [] = ⊥
Begins p (t ∷ ts) = p t.kind ≡ true

pub begins_before : (p : TokenKind → Bool) (ts us : List Token) → Begins p ts → Begins p (ts ++ us)
begins_before p [] us h = absurd h
begins_before p (t ∷ ts) us h = h

pub begins_too : (p q : TokenKind → Bool) → ((k : TokenKind) → p k ≡ true → q k ≡ true) → (ts : List Token)
    → Begins p ts → Begins q ts
begins_too p q f [] h = h
begins_too p q f (t ∷ ts) h = f t.kind h

-- what is seen of a first token of such a kind
pub seen : {X : Type 0} (p : TokenKind → Bool) (see : Option TokenKind → X) (x : X)
    → ((k : TokenKind) → p k ≡ true → see (Some k) ≡ x) → (ts us : List Token) → Begins p ts
    → (look : List Token → X) → ((t : Token) (rest : List Token) → look (t ∷ rest) ≡ see (Some t.kind))
    → look (ts ++ us) ≡ x
seen p see x f [] us h look l = absurd h
seen p see x f (t ∷ ts) us h look l = l t (ts ++ us) ∙ f t.kind h

-- ---- symbols

abbrev pub OpensMember : Listed → List Token → Type 0
OpensMember Listed.arguments = Begins starts_expression
OpensMember Listed.values = Begins starts_expression
OpensMember (Listed.variables base) = Begins is_name_kind
OpensMember Listed.parameters = Begins starts_type
OpensMember Listed.items = Begins starts_item
OpensMember Listed.switch_items = Begins starts_switch_item
OpensMember Listed.outers = Begins starts_type

-- what the tokens of a symbol begin with
abbrev pub Opens : Symbol → List Token → Type 0
Opens Symbol.primary ts = Begins starts_operand ts
Opens Symbol.postfix ts = Begins starts_operand ts
Opens Symbol.unary_expression ts = Begins starts_expression ts
Opens Symbol.cast ts = Begins starts_expression ts
Opens (Symbol.binary_expression n) ts = Begins starts_expression ts
Opens Symbol.conditional ts = Begins starts_expression ts
Opens Symbol.assignment ts = Begins starts_expression ts
Opens Symbol.expression ts = Begins starts_expression ts
Opens (Symbol.separated l) ts = OpensMember l ts
Opens Symbol.declaration ts = Begins starts_type ts
Opens (Symbol.variable base) ts = Begins is_name_kind ts
Opens Symbol.statement ts = Begins starts_statement ts
Opens Symbol.item ts = Begins starts_item ts
Opens Symbol.switch_item ts = Begins starts_switch_item ts
Opens Symbol.outer ts = Begins starts_type ts
Opens Symbol.function_head ts = Begins starts_type ts
Opens Symbol.parameter ts = Begins starts_type ts
Opens _ ts = Unit {0}

pub opens_member : (l : Listed) (ts : List Token) → Opens (symbol_of l) ts → OpensMember l ts
opens_member Listed.arguments ts h = h
opens_member Listed.values ts h = h
opens_member (Listed.variables base) ts h = h
opens_member Listed.parameters ts h = h
opens_member Listed.items ts h = h
opens_member Listed.switch_items ts h = h
opens_member Listed.outers ts h = h

member_before : (l : Listed) (ts us : List Token) → OpensMember l ts → OpensMember l (ts ++ us)
member_before Listed.arguments ts us h = begins_before starts_expression ts us h
member_before Listed.values ts us h = begins_before starts_expression ts us h
member_before (Listed.variables base) ts us h = begins_before is_name_kind ts us h
member_before Listed.parameters ts us h = begins_before starts_type ts us h
member_before Listed.items ts us h = begins_before starts_item ts us h
member_before Listed.switch_items ts us h = begins_before starts_switch_item ts us h
member_before Listed.outers ts us h = begins_before starts_type ts us h

-- no words name no type
no_words : (base : Base) → base_at [] ≡ Some base → ⊥
unfolding type_lists
no_words base e = (let never : None ≡ Some base = e in cc)

pub type_opens : (ws : List Token) (base : Base) → IsType ws base → Begins starts_type ws
type_opens [] base h = no_words base h.names
type_opens (w ∷ ws) base h = h.words.0

increment_opens : {j : BinOp} {t : Token} → Increments j t → starts_expression t.kind ≡ true
increment_opens (Increments.plus_plus k) = ap starts_expression k.is
increment_opens (Increments.minus_minus k) = ap starts_expression k.is

sign_opens : {j : UnaryOperator} {t : Token} → Signs j t → starts_expression t.kind ≡ true
sign_opens (Signs.plus k) = ap starts_expression k.is
sign_opens (Signs.minus k) = ap starts_expression k.is
sign_opens (Signs.complement k) = ap starts_expression k.is
sign_opens (Signs.not k) = ap starts_expression k.is

module _ (text : List ℕ) where
  pub opens : {s : Symbol} {ts : List Token} {x : Value s} → Is text s ts x → Opens s ts
  opens (Is.name k) = ap starts_operand k.is
  opens (Is.number k) = ap starts_operand k
  opens (Is.eof_name k) = ap starts_operand k
  opens (Is.paren o h c) = ap starts_operand o.is
  opens (Is.only_primary h) = opens h
  opens (Is.call t o h c) = ap starts_operand t.is
  opens (Is.index t o h c) = ap starts_operand t.is
  opens (Is.incremented {ts = ts} h i) = begins_before starts_operand ts _ (opens h)
  opens Is.no_arguments = tt
  opens (Is.some_arguments h) = tt
  opens (Is.only_postfix {ts = ts} h) = begins_too starts_operand starts_expression operand_starts_expression ts (opens h)
  opens (Is.increments i h) = increment_opens i
  opens (Is.has_sign i h) = sign_opens i
  opens (Is.only_unary h) = opens h
  opens (Is.converted o ws c h) = ap starts_expression o.is
  opens (Is.only_cast h) = opens h
  opens (Is.only_tighter h) = opens h
  opens (Is.operates {ts = ts} l o p r) = begins_before starts_expression ts _ (opens l)
  opens (Is.only_binary h) = opens h
  opens (Is.chooses {ts = ts} h q a c b) = begins_before starts_expression ts _ (opens h)
  opens (Is.only_conditional h) = opens h
  opens (Is.assigns {ts = ts} l o r) = begins_before starts_expression ts _ (opens l)
  opens (Is.only_assignment h) = opens h
  opens (Is.comma {ts = ts} l m r) = begins_before starts_expression ts _ (opens l)
  opens (Is.last_member {l = l} {ts = ts} h) = opens_member l ts (opens h)
  opens (Is.member {l = l} {ts = ts} h m more) = member_before l ts _ (opens_member l ts (opens h))
  opens Is.no_members = tt
  opens (Is.next_member h more) = tt
  opens (Is.declares {ws = ws} {base = base} t vs m) = begins_before starts_type ws _ (type_opens ws base t)
  opens (Is.declared t s i) = ap is_name_kind t.is
  opens Is.scalar = tt
  opens (Is.unsized o c) = tt
  opens (Is.sized o h c) = tt
  opens Is.absent = tt
  opens (Is.one t h) = tt
  opens (Is.several t o h c) = tt
  opens (Is.several_comma t o h m c) = tt
  opens (Is.block o h c) = ap starts_statement o.is
  opens (Is.empty t) = ap starts_statement t.is
  opens (Is.value {ts = ts} h m) =
      begins_before starts_statement ts _ (begins_too starts_expression starts_statement expression_starts_statement ts (opens h))
  opens (Is.if_alone t o e c s) = ap starts_statement t.is
  opens (Is.if_else t o e c s n k other) = ap starts_statement t.is
  opens (Is.while_ t o e c s) = ap starts_statement t.is
  opens (Is.do_while t s w o e c m) = ap starts_statement t.is
  opens (Is.for_ t o f test step s) = ap starts_statement t.is
  opens (Is.switch t o e c b is d) = ap starts_statement t.is
  opens (Is.break t m) = ap starts_statement t.is
  opens (Is.continue t m) = ap starts_statement t.is
  opens (Is.return t e) = ap starts_statement t.is
  opens (Is.nothing t) = tt
  opens (Is.something h t) = tt
  opens (Is.first_declares h) = tt
  opens (Is.first_empty t) = tt
  opens (Is.first_value h t) = tt
  opens (Is.item_declares {ts = ts} h) = begins_too starts_type starts_item type_starts_item ts (opens h)
  opens (Is.item_does {ts = ts} h) = begins_too starts_statement starts_item statement_starts_item ts (opens h)
  opens (Is.case t h c) = ap starts_switch_item t.is
  opens (Is.default t c) = ap starts_switch_item t.is
  opens (Is.does {ts = ts} h) = begins_too starts_item starts_switch_item item_starts_switch_item ts (opens h)
  opens (Is.outer_declares h) = opens h
  opens (Is.prototype {ts = ts} h m) = begins_before starts_type ts _ (opens h)
  opens (Is.defines {ts = ts} h n o ss c) = begins_before starts_type ts _ (opens h)
  opens (Is.heads {ws = ws} {base = base} t n o ps c) = begins_before starts_type ws _ (type_opens ws base t)
  opens Is.no_parameters = tt
  opens (Is.only_void t) = tt
  opens (Is.some_parameters h) = tt
  opens (Is.named {ws = ws} {base = base} t n) = begins_before starts_type ws _ (type_opens ws base t)
  opens (Is.nameless {ws = ws} {base = base} t) = type_opens ws base t

  -- ---- no cast stands where none is written

  no_cast_before : (t : Token) (ts : List Token) → type_at ts ≡ false → cast_at (t ∷ ts) ≡ false
  no_cast_before t ts e = go (next_is mark.OpenParen (t ∷ ts))
    where
      go : (b : Bool) → cond b (type_at ts) false ≡ false
      go true = e
      go false = refl

  no_cast_at : (t : Token) (ts : List Token) → is_mark mark.OpenParen (mark_of (Some t.kind)) ≡ false
      → cast_at (t ∷ ts) ≡ false
  no_cast_at t ts e = ap (λ (b : Bool). cond b (type_at ts) false) e

  pub expression_is_no_type : (ts us : List Token) → Begins starts_expression ts → type_at (ts ++ us) ≡ false
  expression_is_no_type ts us h =
      seen starts_expression (λ k. is_type_word (key_of k)) false no_type ts us h type_at (λ t rest. refl)

  primary_is_no_cast : {ts : List Token} {x : Expr} → Is text Symbol.primary ts x → (us : List Token)
      → cast_at (ts ++ us) ≡ false
  primary_is_no_cast (Is.name {t = t} k) us =
      no_cast_at t us (ap (λ (k : TokenKind). is_mark mark.OpenParen (mark_of (Some k))) k.is)
  primary_is_no_cast (Is.number {t = t} k) us =
      no_cast_at t us (ap (λ (k : TokenKind). is_mark mark.OpenParen (mark_of (Some k))) k)
  primary_is_no_cast (Is.eof_name {t = t} k) us =
      no_cast_at t us (ap (λ (k : TokenKind). is_mark mark.OpenParen (mark_of (Some k))) k)
  primary_is_no_cast (Is.paren {o = o} {c = c} {ts = ts} k h d) us =
      no_cast_before o ((ts ++ c ∷ []) ++ us)
      (expression_is_no_type (ts ++ c ∷ []) us (begins_before starts_expression ts (c ∷ []) (opens h)))

  pub postfix_is_no_cast : {ts : List Token} {x : Expr} → Is text Symbol.postfix ts x → (us : List Token)
      → cast_at (ts ++ us) ≡ false
  postfix_is_no_cast (Is.only_primary h) us = primary_is_no_cast h us
  postfix_is_no_cast (Is.call {t = t} {o = o} {c = c} {ts = ts} k p h d) us =
      no_cast_at t (o ∷ (ts ++ c ∷ []) ++ us) (ap (λ (k : TokenKind). is_mark mark.OpenParen (mark_of (Some k))) k.is)
  postfix_is_no_cast (Is.index {t = t} {o = o} {c = c} {ts = ts} k p h d) us =
      no_cast_at t (o ∷ (ts ++ c ∷ []) ++ us) (ap (λ (k : TokenKind). is_mark mark.OpenParen (mark_of (Some k))) k.is)
  postfix_is_no_cast (Is.incremented {t = t} {ts = ts} h i) us =
      ap cast_at (append_assoc ts (t ∷ []) us) ∙ postfix_is_no_cast h (t ∷ us)

  sign_is_no_paren : {j : UnaryOperator} {t : Token} → Signs j t → is_mark mark.OpenParen (mark_of (Some t.kind)) ≡ false
  sign_is_no_paren (Signs.plus k) = ap (λ (k : TokenKind). is_mark mark.OpenParen (mark_of (Some k))) k.is
  sign_is_no_paren (Signs.minus k) = ap (λ (k : TokenKind). is_mark mark.OpenParen (mark_of (Some k))) k.is
  sign_is_no_paren (Signs.complement k) = ap (λ (k : TokenKind). is_mark mark.OpenParen (mark_of (Some k))) k.is
  sign_is_no_paren (Signs.not k) = ap (λ (k : TokenKind). is_mark mark.OpenParen (mark_of (Some k))) k.is

  increment_is_no_paren : {j : BinOp} {t : Token} → Increments j t → is_mark mark.OpenParen (mark_of (Some t.kind)) ≡ false
  increment_is_no_paren (Increments.plus_plus k) = ap (λ (k : TokenKind). is_mark mark.OpenParen (mark_of (Some k))) k.is
  increment_is_no_paren (Increments.minus_minus k) = ap (λ (k : TokenKind). is_mark mark.OpenParen (mark_of (Some k))) k.is

  pub unary_is_no_cast : {ts : List Token} {x : Expr} → Is text Symbol.unary_expression ts x → (us : List Token)
      → cast_at (ts ++ us) ≡ false
  unary_is_no_cast (Is.only_postfix h) us = postfix_is_no_cast h us
  unary_is_no_cast (Is.increments {t = t} {ts = ts} i h) us = no_cast_at t (ts ++ us) (increment_is_no_paren i)
  unary_is_no_cast (Is.has_sign {t = t} {ts = ts} i h) us = no_cast_at t (ts ++ us) (sign_is_no_paren i)
