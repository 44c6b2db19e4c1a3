-- How lists and declarations of C17's grammar are derived.
use Rattle.std.proofs.Common.{◌≡◌, refl, sym, ap, subst, ◌∙◌, ℕ, ◌==◌, Bool, true, false, cond, not, arith}
use Rattle.std.proofs.Common.{List, [], ◌∷◌, ◌++◌, Option, Some, None}
use Rattle.c_tokens.specs.declared.token.Keyword.{Keyword}
use Rattle.c_tokens.specs.declared.token.Punct.{Punct}
use Rattle.c_tokens.specs.declared.token.Punct.TheVariants as mark
use Rattle.c_tokens.specs.declared.token.Token.{Token}
use Rattle.c_tokens.specs.declared.token.TokenKind.{TokenKind}
use Rattle.c_tokens.specs.declared.token.TokenKind.TheVariants as kind
use Rattle.c_tree.specs.declared.expr.Base.{Base}
use Rattle.c_tree.specs.Expr.{Expr}
use Rattle.c_tree.specs.Stmt.{Size, Init, Var}
use Rattle.c_grammar.specs.Words.{mark_of, mark_at, is_mark, next_is, key_of, is_name, name_at, is_type_word, type_at, type_words, words_with, word_number, behind_words, named_by, type_lists}
use Rattle.c_grammar.specs.Forms.{is_else, else_at, none_at, variable_at}
use Rattle.c_grammar.specs.Rules.{Listed, Member, Rule, Result}
use Rattle.c_grammar.specs.Grammar as grammar
use Rattle.c_grammar.specs.Derivations.{By}
use Rattle.c_grammar.proofs.Leaves.{marked}
use Rattle.c_syntax.specs.Syntax.{IsMark, IsName, AreTypeWords, IsType, Symbol, Value, symbol_of, member_of, Is}
use Rattle.c_derivable.proofs.Marks.{Ends, no_bracket, no_initialiser}
use Rattle.c_derivable.proofs.Begins.{
  Begins,
  closes,
  OpensMember,
  opens_member,
  starts_expression,
  starts_type,
  starts_item,
  starts_switch_item,
  is_name_kind,
  item_starts_switch_item,
  begins_too,
  item_is_no_else,
  item_closes_nothing,
  opens,
  seen,
}
use Rattle.c_derivable.proofs.Forms.{append_assoc}
use Rattle.c_derivable.proofs.Forms as forms
use Rattle.c_derivable.proofs.Expressions.{is_next, ends_at}
use Rattle.c_derivable.proofs.Expressions as expressions

-- a token that is another mark, or a name
pub is_not : (m n : Punct) (t : Token) (ts : List Token) → IsMark n t → is_mark m (Some n) ≡ false → next_is m (t ∷ ts) ≡ false
is_not m n t ts k e = ap (λ (k : TokenKind). is_mark m (mark_of (Some k))) k.is ∙ e

pub mark_is_no_type : (m : Punct) (t : Token) (ts : List Token) → IsMark m t → type_at (t ∷ ts) ≡ false
mark_is_no_type m t ts k = ap (λ (k : TokenKind). is_type_word (key_of (Some k))) k.is

pub mark_is_no_name : (m : Punct) (t : Token) (ts : List Token) → IsMark m t → name_at (t ∷ ts) ≡ false
mark_is_no_name m t ts k = ap (λ (k : TokenKind). is_name (Some k)) k.is

pub name_is_no_type : (k : TokenKind) → is_name_kind k ≡ true → is_type_word (key_of (Some k)) ≡ false
name_is_no_type (kind.Key w) e = absurd (let never : false ≡ true = e in cc)
name_is_no_type _ e = refl

pub type_is_no_mark : (m : Punct) (k : TokenKind) → starts_type k ≡ true → is_mark m (mark_of (Some k)) ≡ false
type_is_no_mark m (kind.Mark n) e = absurd (let never : false ≡ true = e in cc)
type_is_no_mark m _ e = refl

-- ---- words of a type before what is no such word

words_end : (us : List Token) → type_at us ≡ false → type_words us ≡ []
words_end [] e = refl
words_end (u ∷ us) e = go (key_of (Some u.kind)) e
  where
    go : (k : Option Keyword) → is_type_word k ≡ false → words_with k (type_words us) ≡ []
    go None e = refl
    go (Some w) e = at (word_number w == 0) e
      where
        at : (b : Bool) → cond b false true ≡ false → cond b [] (word_number w ∷ type_words us) ≡ []
        at true e = refl
        at false e = absurd (let never : true ≡ false = e in cc)

pub behind_end : (us : List Token) → type_at us ≡ false → behind_words us ≡ us
behind_end [] e = refl
behind_end (u ∷ us) e = ap (λ (b : Bool). cond b (behind_words us) (u ∷ us)) e

type_words_front : (ws us : List Token) → type_at us ≡ false → type_words (ws ++ us) ≡ type_words ws
type_words_front [] us e = words_end us e
type_words_front (w ∷ ws) us e = ap (words_with (key_of (Some w.kind))) (type_words_front ws us e)

pub behind_front : (ws us : List Token) → AreTypeWords ws → type_at us ≡ false → behind_words (ws ++ us) ≡ us
behind_front [] us h e = behind_end us e
behind_front (w ∷ ws) us h e =
    ap (λ (b : Bool). cond b (behind_words (ws ++ us)) (w ∷ (ws ++ us))) h.0 ∙ behind_front ws us h.1 e

-- ---- what may follow a member of a list

abbrev pub MemberEnds : Listed → List Token → Type 0
MemberEnds Listed.arguments rest = Ends 12 rest
MemberEnds Listed.values rest = Ends 12 rest
MemberEnds (Listed.variables base) rest = Ends 12 rest
MemberEnds Listed.parameters rest = (name_at rest ≡ false) × (type_at rest ≡ false)
MemberEnds Listed.items rest = else_at rest ≡ false
MemberEnds Listed.switch_items rest = else_at rest ≡ false
MemberEnds Listed.outers rest = Unit {0}

comma_ends : (l : Listed) (t : Token) (ts : List Token) → grammar.has_commas l ≡ true → IsMark mark.Comma t
    → MemberEnds l (t ∷ ts)
comma_ends Listed.arguments t ts c k = ends_at 12 mark.Comma t ts k (omega arith)
comma_ends Listed.values t ts c k = ends_at 12 mark.Comma t ts k (omega arith)
comma_ends (Listed.variables base) t ts c k = ends_at 12 mark.Comma t ts k (omega arith)
comma_ends Listed.parameters t ts c k = (mark_is_no_name mark.Comma t ts k, mark_is_no_type mark.Comma t ts k)
comma_ends Listed.items t ts c k = absurd (let never : false ≡ true = c in cc)
comma_ends Listed.switch_items t ts c k = absurd (let never : false ≡ true = c in cc)
comma_ends Listed.outers t ts c k = absurd (let never : false ≡ true = c in cc)

goes_on_at_comma : (l : Listed) (t : Token) (us rest : List Token) → grammar.has_commas l ≡ true → IsMark mark.Comma t
    → OpensMember l us → grammar.goes_on l (t ∷ us ++ rest) ≡ true
goes_on_at_comma Listed.arguments t us rest c k h = is_next mark.Comma t (us ++ rest) k
goes_on_at_comma Listed.values t us rest c k h =
    ap (λ (b : Bool). cond b (cond (next_is mark.CloseBrace (us ++ rest)) false true) false) (is_next mark.Comma t (us ++ rest) k)
    ∙ ap (λ (b : Bool). cond b false true)
    (seen starts_expression (λ k. is_mark mark.CloseBrace (mark_of k)) false (closes mark.CloseBrace refl) us rest h (next_is mark.CloseBrace)
    (λ t us. refl))
goes_on_at_comma (Listed.variables base) t us rest c k h = is_next mark.Comma t (us ++ rest) k
goes_on_at_comma Listed.parameters t us rest c k h = is_next mark.Comma t (us ++ rest) k
goes_on_at_comma Listed.items t us rest c k h = absurd (let never : false ≡ true = c in cc)
goes_on_at_comma Listed.switch_items t us rest c k h = absurd (let never : false ≡ true = c in cc)
goes_on_at_comma Listed.outers t us rest c k h = absurd (let never : false ≡ true = c in cc)

goes_on_at_member : (l : Listed) (ts rest : List Token) → grammar.has_commas l ≡ false → OpensMember l ts
    → grammar.goes_on l (ts ++ rest) ≡ true
goes_on_at_member Listed.arguments ts rest c h = absurd (let never : true ≡ false = c in cc)
goes_on_at_member Listed.values ts rest c h = absurd (let never : true ≡ false = c in cc)
goes_on_at_member (Listed.variables base) ts rest c h = absurd (let never : true ≡ false = c in cc)
goes_on_at_member Listed.parameters ts rest c h = absurd (let never : true ≡ false = c in cc)
goes_on_at_member Listed.items ts rest c h =
    ap not (seen starts_switch_item (λ k. is_mark mark.CloseBrace (mark_of k)) false item_closes_nothing ts rest
    (begins_too starts_item starts_switch_item item_starts_switch_item ts h) (next_is mark.CloseBrace) (λ t us. refl))
goes_on_at_member Listed.switch_items ts rest c h =
    ap not (seen starts_switch_item (λ k. is_mark mark.CloseBrace (mark_of k)) false item_closes_nothing ts rest h
    (next_is mark.CloseBrace) (λ t us. refl))
goes_on_at_member Listed.outers ts rest c h =
    ap not (seen starts_type (λ k. false) false (λ k e. refl) ts rest h none_at (λ t us. refl))

-- a member may stand before the first of others, or before the end of the list
member_ends_before : (l : Listed) (ts rest : List Token) → grammar.has_commas l ≡ false → OpensMember l ts
    → MemberEnds l (ts ++ rest)
member_ends_before Listed.arguments ts rest c h = absurd (let never : true ≡ false = c in cc)
member_ends_before Listed.values ts rest c h = absurd (let never : true ≡ false = c in cc)
member_ends_before (Listed.variables base) ts rest c h = absurd (let never : true ≡ false = c in cc)
member_ends_before Listed.parameters ts rest c h = absurd (let never : true ≡ false = c in cc)
member_ends_before Listed.items ts rest c h =
    seen starts_switch_item (λ k. is_else (key_of k)) false item_is_no_else ts rest
    (begins_too starts_item starts_switch_item item_starts_switch_item ts h) else_at (λ t us. refl)
member_ends_before Listed.switch_items ts rest c h =
    seen starts_switch_item (λ k. is_else (key_of k)) false item_is_no_else ts rest h else_at (λ t us. refl)
member_ends_before Listed.outers ts rest c h = tt

brace_is_no_else : (rest : List Token) → not (next_is mark.CloseBrace rest) ≡ false → else_at rest ≡ false
brace_is_no_else [] e = refl
brace_is_no_else (t ∷ ts) e = go (next_is mark.CloseBrace (t ∷ ts)) refl e
  where
    go : (b : Bool) → next_is mark.CloseBrace (t ∷ ts) ≡ b → not b ≡ false → else_at (t ∷ ts) ≡ false
    go true f e = ap (λ (k : TokenKind). is_else (key_of (Some k))) (marked mark.CloseBrace (t ∷ ts) f)
    go false f e = absurd (let never : true ≡ false = e in cc)

member_ends_last : (l : Listed) (rest : List Token) → grammar.has_commas l ≡ false → grammar.goes_on l rest ≡ false
    → MemberEnds l rest
member_ends_last Listed.arguments rest c e = absurd (let never : true ≡ false = c in cc)
member_ends_last Listed.values rest c e = absurd (let never : true ≡ false = c in cc)
member_ends_last (Listed.variables base) rest c e = absurd (let never : true ≡ false = c in cc)
member_ends_last Listed.parameters rest c e = absurd (let never : true ≡ false = c in cc)
member_ends_last Listed.items rest c e = brace_is_no_else rest e
member_ends_last Listed.switch_items rest c e = brace_is_no_else rest e
member_ends_last Listed.outers rest c e = tt

module _ (text : List ℕ) where
  abbrev D : (r : Rule) → List Token → Result r → List Token → Type 0
  D r ts x rest = forms.Derived text r ts x rest

  abbrev Alone : (r : Rule) → ℕ → List Token → Result r → Type 0
  Alone r g ts x = expressions.Alone text r g ts x

  pub type_read : (ws us : List Token) (base : Base) → IsType ws base → type_at us ≡ false
      → D Rule.type_name (ws ++ us) base us
  type_read ws us base h e = (
    0,
    subst (λ (l : List Token). By text Rule.type_name (grammar.form_of text Rule.type_name) (ws ++ us) base 0 l)
        (behind_front ws us h.words e)
        (By.words (ap (named_by type_lists) (type_words_front ws us e) ∙ h.names)),
  )

  -- ---- lists

  -- a member's symbol and its rule have the same values
  abbrev pub given_in : (l : Listed) → Value (symbol_of l) → Result (grammar.member l)
  given_in Listed.arguments e = e
  given_in Listed.values e = e
  given_in (Listed.variables base) v = v
  given_in Listed.parameters p = p
  given_in Listed.items s = s
  given_in Listed.switch_items i = i
  given_in Listed.outers o = o

  same_member : (l : Listed) (x : Value (symbol_of l)) → grammar.as_member l (given_in l x) ≡ member_of l x
  same_member Listed.arguments e = refl
  same_member Listed.values e = refl
  same_member (Listed.variables base) v = refl
  same_member Listed.parameters p = refl
  same_member Listed.items s = refl
  same_member Listed.switch_items i = refl
  same_member Listed.outers o = refl

  abbrev pub OfMember : (l : Listed) → List Token → Value (symbol_of l) → Type 0
  OfMember l ts x = (rest : List Token) → MemberEnds l rest → D (grammar.member l) (ts ++ rest) (given_in l x) rest

  abbrev pub OfSeparated : (l : Listed) → List Token → List (Member l) → Type 0
  OfSeparated l ts xs = (rest : List Token) → MemberEnds l rest → grammar.goes_on l rest ≡ false
      → D (Rule.list l) (ts ++ rest) xs rest

  abbrev pub OfFollowing : (l : Listed) → List Token → List (Member l) → Type 0
  OfFollowing l ts xs = (rest : List Token) → grammar.goes_on l rest ≡ false → D (Rule.more l) (ts ++ rest) xs rest

  -- a member and what follows it
  listed : (l : Listed) (ts us rest : List Token) (x : Value (symbol_of l)) (xs : List (Member l)) → OfMember l ts x
      → MemberEnds l us → D (Rule.more l) us xs rest → D (Rule.list l) (ts ++ us) (member_of l x ∷ xs) rest
  listed l ts us rest x xs h e more =
      subst (λ (y : Member l). D (Rule.list l) (ts ++ us) (y ∷ xs) rest) (same_member l x)
      (forms.part text (Rule.list l) (grammar.member l) (h us e)
      (λ m. forms.part text (Rule.list l) (Rule.more l) more (λ n. forms.done text (Rule.list l))))

  none_more : (l : Listed) (rest : List Token) → grammar.goes_on l rest ≡ false → D (Rule.more l) rest [] rest
  none_more l rest g =
      forms.look text (Rule.more l) (grammar.more_as l) (grammar.goes_on l) false g (forms.done text (Rule.more l))

  pub of_last : (l : Listed) (ts : List Token) (x : Value (symbol_of l)) → OfMember l ts x → OfSeparated l ts (member_of l x ∷ [])
  of_last l ts x h rest e g = listed l ts rest rest x [] h e (none_more l rest g)

  pub of_member : (l : Listed) (t : Token) (ts us : List Token) (x : Value (symbol_of l)) (xs : List (Member l))
      → grammar.has_commas l ≡ true → OfMember l ts x → IsMark mark.Comma t → OpensMember l us → OfSeparated l us xs
      → OfSeparated l (ts ++ t ∷ us) (member_of l x ∷ xs)
  of_member l t ts us x xs c h k o more rest e g =
      forms.moved text (Rule.list l) _ (append_assoc ts (t ∷ us) rest)
      (listed l ts (t ∷ us ++ rest) rest x xs h (comma_ends l t (us ++ rest) c k)
      (forms.look text (Rule.more l) (grammar.more_as l) (grammar.goes_on l) true (goes_on_at_comma l t us rest c k o)
      (subst (λ (b : Bool). forms.Formed text (Rule.more l) (grammar.further l b) (t ∷ us ++ rest) xs rest) (sym c)
      (forms.token text (Rule.more l)
      (forms.part text (Rule.more l) (Rule.list l) (more rest e g) (λ n. forms.done text (Rule.more l)))))))

  pub of_none : (l : Listed) → OfFollowing l [] []
  of_none l rest g = none_more l rest g

  pub of_next : (l : Listed) (ts us : List Token) (x : Value (symbol_of l)) (xs : List (Member l))
      → grammar.has_commas l ≡ false → OfMember l ts x → OpensMember l ts → Is text (Symbol.following l) us xs
      → OfFollowing l us xs → OfFollowing l (ts ++ us) (member_of l x ∷ xs)
  of_next l ts us x xs c h o is more rest g =
      forms.moved text (Rule.more l) _ (append_assoc ts us rest)
      (forms.look text (Rule.more l) (grammar.more_as l) (grammar.goes_on l) true (goes_on_at_member l ts (us ++ rest) c o)
      (subst (λ (b : Bool). forms.Formed text (Rule.more l) (grammar.further l b) (ts ++ (us ++ rest)) (member_of l x ∷ xs) rest)
      (sym c)
      (forms.part text (Rule.more l) (Rule.list l)
      (listed l ts (us ++ rest) rest x xs h (ends us xs is) (more rest g)) (λ n. forms.done text (Rule.more l)))))
    where
      ends : (us : List Token) (xs : List (Member l)) → Is text (Symbol.following l) us xs → MemberEnds l (us ++ rest)
      ends _ _ Is.no_members = member_ends_last l rest c g
      ends _ _ (Is.next_member {ts = vs} {us = ws} y others) =
          subst (λ (us : List Token). MemberEnds l us) (sym (append_assoc vs ws rest))
          (member_ends_before l vs (ws ++ rest) c (opens_member l vs (opens text y)))

  -- ---- declarations

  pub of_declares : {t : Token} (ws ts : List Token) (base : Base) {vs : List Var} → IsType ws base
      → Begins is_name_kind ts → OfSeparated (Listed.variables base) ts vs → IsMark mark.Semicolon t
      → (rest : List Token) → D Rule.declaration ((ws ++ (ts ++ t ∷ [])) ++ rest) vs rest
  of_declares {t = t} ws ts base type o h k rest =
      forms.moved text Rule.declaration _
      (append_assoc ws (ts ++ t ∷ []) rest ∙ ap (λ (l : List Token). ws ++ l) (append_assoc ts (t ∷ []) rest))
      (forms.part text Rule.declaration Rule.type_name
      (type_read ws (ts ++ t ∷ rest) base type
      (seen is_name_kind (λ k. is_type_word (key_of k)) false name_is_no_type ts (t ∷ rest) o type_at (λ t us. refl)))
      (λ n. forms.part text Rule.declaration (Rule.list (Listed.variables base))
      (h (t ∷ rest) (ends_at 12 mark.Semicolon t rest k (omega arith)) (is_not mark.Comma mark.Semicolon t rest k refl))
      (λ m. forms.mark text Rule.declaration k (forms.done text Rule.declaration))))

  abbrev pub OfSize : List Token → Size → Type 0
  OfSize ts s = (rest : List Token) → next_is mark.OpenBracket rest ≡ false → D Rule.size (ts ++ rest) s rest

  no_bracket_before : {us : List Token} {i : Init} → Is text Symbol.initialiser us i → (rest : List Token) → Ends 12 rest
      → next_is mark.OpenBracket (us ++ rest) ≡ false
  no_bracket_before Is.absent rest l = no_bracket (mark_at rest) l
  no_bracket_before (Is.one {t = t} {ts = ts} k h) rest l = is_not mark.OpenBracket mark.Assign t (ts ++ rest) k refl
  no_bracket_before (Is.several {t = t} {o = o} {c = c} {ts = ts} k p h d) rest l =
      is_not mark.OpenBracket mark.Assign t (o ∷ (ts ++ c ∷ []) ++ rest) k refl
  no_bracket_before (Is.several_comma {t = t} {o = o} {m = m} {c = c} {ts = ts} k p h q d) rest l =
      is_not mark.OpenBracket mark.Assign t (o ∷ (ts ++ m ∷ c ∷ []) ++ rest) k refl

  pub of_declared : {t : Token} (ts us : List Token) (base : Base) {s : Size} {i : Init} → IsName t → OfSize ts s
      → Is text Symbol.initialiser us i → Alone Rule.initialiser 12 us i
      → Alone (Rule.variable base) 12 (t ∷ ts ++ us) (variable_at text base t s i)
  of_declared ts us base k hs is hi rest l =
      forms.of_kind text (Rule.variable base) kind.Name k.is
      (forms.moved text (Rule.variable base) _ (append_assoc ts us rest)
      (forms.part text (Rule.variable base) Rule.size (hs (us ++ rest) (no_bracket_before is rest l))
      (λ n. forms.part text (Rule.variable base) Rule.initialiser (hi rest l) (λ m. forms.done text (Rule.variable base)))))

  pub of_scalar : OfSize [] Size.Scalar
  of_scalar rest e =
      forms.look text Rule.size grammar.size_as (next_is mark.OpenBracket) false e (forms.done text Rule.size)

  pub of_unsized : {o c : Token} → IsMark mark.OpenBracket o → IsMark mark.CloseBracket c → OfSize (o ∷ c ∷ []) Size.Unsized
  of_unsized {o = o} {c = c} k d rest e =
      forms.look text Rule.size grammar.size_as (next_is mark.OpenBracket) true (is_next mark.OpenBracket o (c ∷ rest) k)
      (forms.token text Rule.size
      (forms.part text Rule.size Rule.length
      (forms.look text Rule.length grammar.length_as (next_is mark.CloseBracket) true (is_next mark.CloseBracket c rest d)
      (forms.token text Rule.length (forms.done text Rule.length)))
      (λ n. forms.done text Rule.size)))

  pub of_sized : {o c : Token} (ts : List Token) {e : Expr} → IsMark mark.OpenBracket o → Begins starts_expression ts
      → Alone Rule.conditional 11 ts e → IsMark mark.CloseBracket c → OfSize (o ∷ ts ++ c ∷ []) (Size.Len e)
  of_sized {o = o} {c = c} ts k b h d rest e =
      forms.look text Rule.size grammar.size_as (next_is mark.OpenBracket) true
      (is_next mark.OpenBracket o ((ts ++ c ∷ []) ++ rest) k)
      (forms.token text Rule.size
      (forms.moved text Rule.size _ (append_assoc ts (c ∷ []) rest)
      (forms.part text Rule.size Rule.length
      (forms.look text Rule.length grammar.length_as (next_is mark.CloseBracket) false
      (seen starts_expression (λ k. is_mark mark.CloseBracket (mark_of k)) false (closes mark.CloseBracket refl) ts (c ∷ rest) b
      (next_is mark.CloseBracket) (λ t us. refl))
      (forms.part text Rule.length Rule.conditional (h (c ∷ rest) (ends_at 11 mark.CloseBracket c rest d (omega arith)))
      (λ n. forms.mark text Rule.length d (forms.done text Rule.length))))
      (λ n. forms.done text Rule.size))))

  pub of_absent : Alone Rule.initialiser 12 [] Init.Absent
  of_absent rest l =
      forms.look text Rule.initialiser grammar.initialiser_as (next_is mark.Assign) false (no_initialiser (mark_at rest) l)
      (forms.done text Rule.initialiser)

  -- `=` and what is given
  given : {t : Token} (ts rest : List Token) {i : Init} → IsMark mark.Assign t → D Rule.given ts i rest
      → D Rule.initialiser (t ∷ ts) i rest
  given {t = t} ts rest k h =
      forms.look text Rule.initialiser grammar.initialiser_as (next_is mark.Assign) true (is_next mark.Assign t ts k)
      (forms.token text Rule.initialiser
      (forms.part text Rule.initialiser Rule.given h (λ n. forms.done text Rule.initialiser)))

  pub of_one : {t : Token} (ts : List Token) {e : Expr} → IsMark mark.Assign t → Begins starts_expression ts
      → Alone Rule.assignment 12 ts e → Alone Rule.initialiser 12 (t ∷ ts) (Init.One e)
  of_one ts k b h rest l =
      given (ts ++ rest) rest k
      (forms.look text Rule.given grammar.given_as (next_is mark.OpenBrace) false
      (seen starts_expression (λ k. is_mark mark.OpenBrace (mark_of k)) false (closes mark.OpenBrace refl) ts rest b (next_is mark.OpenBrace)
      (λ t us. refl))
      (forms.part text Rule.given Rule.assignment (h rest l) (λ n. forms.done text Rule.given)))

  pub of_several : {t o c : Token} (ts : List Token) {es : List Expr} → IsMark mark.Assign t → IsMark mark.OpenBrace o
      → OfSeparated Listed.values ts es → IsMark mark.CloseBrace c
      → Alone Rule.initialiser 12 (t ∷ o ∷ ts ++ c ∷ []) (Init.Several es)
  of_several {o = o} {c = c} ts {es = es} k p h d rest l =
      given (o ∷ (ts ++ c ∷ []) ++ rest) rest k
      (forms.look text Rule.given grammar.given_as (next_is mark.OpenBrace) true
      (is_next mark.OpenBrace o ((ts ++ c ∷ []) ++ rest) p)
      (forms.token text Rule.given
      (forms.moved text Rule.given _ (append_assoc ts (c ∷ []) rest)
      (forms.part text Rule.given (Rule.list Listed.values)
      (h (c ∷ rest) (ends_at 12 mark.CloseBrace c rest d (omega arith))
      (ap (λ (b : Bool). cond b (cond (next_is mark.CloseBrace rest) false true) false)
      (is_not mark.Comma mark.CloseBrace c rest d refl)))
      (λ n. forms.look text Rule.given (grammar.braced es) (next_is mark.Comma) false
      (is_not mark.Comma mark.CloseBrace c rest d refl)
      (forms.mark text Rule.given d (forms.done text Rule.given)))))))

  pub of_several_comma : {t o m c : Token} (ts : List Token) {es : List Expr} → IsMark mark.Assign t
      → IsMark mark.OpenBrace o → OfSeparated Listed.values ts es → IsMark mark.Comma m → IsMark mark.CloseBrace c
      → Alone Rule.initialiser 12 (t ∷ o ∷ ts ++ m ∷ c ∷ []) (Init.Several es)
  of_several_comma {o = o} {m = m} {c = c} ts {es = es} k p h q d rest l =
      given (o ∷ (ts ++ m ∷ c ∷ []) ++ rest) rest k
      (forms.look text Rule.given grammar.given_as (next_is mark.OpenBrace) true
      (is_next mark.OpenBrace o ((ts ++ m ∷ c ∷ []) ++ rest) p)
      (forms.token text Rule.given
      (forms.moved text Rule.given _ (append_assoc ts (m ∷ c ∷ []) rest)
      (forms.part text Rule.given (Rule.list Listed.values)
      (h (m ∷ c ∷ rest) (ends_at 12 mark.Comma m (c ∷ rest) q (omega arith))
      (ap (λ (b : Bool). cond b (cond (next_is mark.CloseBrace (c ∷ rest)) false true) false)
      (is_next mark.Comma m (c ∷ rest) q)
      ∙ ap (λ (b : Bool). cond b false true) (is_next mark.CloseBrace c rest d)))
      (λ n. forms.look text Rule.given (grammar.braced es) (next_is mark.Comma) true (is_next mark.Comma m (c ∷ rest) q)
      (forms.token text Rule.given (forms.mark text Rule.given d (forms.done text Rule.given))))))))
