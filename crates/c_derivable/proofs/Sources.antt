-- How parameters, heads and the parts of a source of C17's grammar are derived.
use Rattle.std.proofs.Common.{◌≡◌, refl, sym, ap, subst, ◌∙◌, ℕ, Bool, true, false, cond, not}
use Rattle.std.proofs.Common.{List, [], ◌∷◌, ◌++◌, Option, Some, None}
use Rattle.c_tokens.specs.declared.token.Keyword.{Keyword}
use Rattle.c_tokens.specs.declared.token.Keyword.TheVariants as key
use Rattle.c_tokens.specs.declared.token.Punct.{Punct}
use Rattle.c_tokens.specs.declared.token.Punct.TheVariants as mark
use Rattle.c_tokens.specs.declared.token.Token.{Token}
use Rattle.c_tokens.specs.declared.token.TokenKind.{TokenKind}
use Rattle.c_tokens.specs.declared.token.TokenKind.TheVariants as kind
use Rattle.c_tree.specs.declared.expr.Base.{Base}
use Rattle.c_tree.specs.declared.expr.Base.TheVariants as base_of
use Rattle.c_tree.specs.Stmt.{Var, Stmt}
use Rattle.c_tree.specs.Tree.{Param, Head, Outer}
use Rattle.c_tree.specs.TreeView.{stmts_of}
use Rattle.c_grammar.specs.declared.begins.ParamsForm.TheVariants as params
use Rattle.c_grammar.specs.Words.{mark_of, is_mark, next_is, key_of, key_at, is_name, name_at, is_type_word, type_at, words_with, behind_words, behind, named_by, type_lists}
use Rattle.c_grammar.specs.Forms.{function_at, is_void, params_at, all_named, head_at, named_param, nameless_param, first_start}
use Rattle.c_grammar.specs.Rules.{Listed, Rule, Result}
use Rattle.c_grammar.specs.Grammar as grammar
use Rattle.c_syntax.specs.Syntax.{IsMark, IsKey, IsName, IsType, Symbol, Is}
use Rattle.c_derivable.specs.Laws.{is_void_alone, stands_for_none}
use Rattle.c_derivable.proofs.Begins.{starts_type, is_name_kind, type_opens, opens, seen}
use Rattle.c_derivable.proofs.Forms.{append_assoc}
use Rattle.c_derivable.proofs.Forms as forms
use Rattle.c_derivable.proofs.Expressions.{is_next}
use Rattle.c_derivable.proofs.Declarations.{is_not, mark_is_no_type, mark_is_no_name, name_is_no_type, type_is_no_mark, behind_front}
use Rattle.c_derivable.proofs.Declarations as declarations
use Rattle.c_derivable.proofs.Statements as statements

name_is_no_mark : (m : Punct) (t : Token) (ts : List Token) → IsName t → next_is m (t ∷ ts) ≡ false
name_is_no_mark m t ts k = ap (λ (k : TokenKind). is_mark m (mark_of (Some k))) k.is

is_named : (t : Token) (ts : List Token) → IsName t → name_at (t ∷ ts) ≡ true
is_named t ts k = ap (λ (k : TokenKind). is_name (Some k)) k.is

named_no_type : (t : Token) (ts : List Token) → IsName t → type_at (t ∷ ts) ≡ false
named_no_type t ts k = ap (λ (k : TokenKind). is_type_word (key_of (Some k))) k.is

-- behind the first word of a type stands no `)`, where none stands behind the type
no_paren_second : (ws us : List Token) (base : Base) → IsType ws base → next_is mark.CloseParen us ≡ false
    → next_is mark.CloseParen (behind (ws ++ us)) ≡ false
no_paren_second [] us base type e = absurd (type_opens [] base type)
no_paren_second (w ∷ []) us base type e = e
no_paren_second (w ∷ v ∷ ws) us base type e = type_is_no_mark mark.CloseParen v.kind type.words.1.0

-- one word `void` names the type of no value
void_is_void : (w : Token) (base : Base) → is_void (key_of (Some w.kind)) ≡ true → IsType (w ∷ []) base → base ≡ base_of.Void
unfolding type_lists
void_is_void w base v type = go (key_of (Some w.kind)) v type.names
  where
    go : (k : Option Keyword) → is_void k ≡ true → named_by type_lists (words_with k []) ≡ Some base → base ≡ base_of.Void
    go (Some key.Void) v n = (let same : Some base_of.Void ≡ Some base = n in cc)
    go _ v n = absurd (let never : false ≡ true = v in cc)

module _ (text : List ℕ) where
  abbrev D : (r : Rule) → List Token → Result r → List Token → Type 0
  D r ts x rest = forms.Derived text r ts x rest

  abbrev Anyway : (r : Rule) → List Token → Result r → Type 0
  Anyway r ts x = statements.Anyway text r ts x

  -- ---- parameters

  abbrev pub OfParameter : List Token → Param → Type 0
  OfParameter ts p = declarations.OfMember text Listed.parameters ts p

  parameter_look : (ws us rest : List Token) (base : Base) {p : Param} → IsType ws base → type_at us ≡ false
      → (b : Bool) → name_at us ≡ b
      → forms.Formed text Rule.parameter (grammar.named_as text base (first_start ws) b) us p rest
      → D Rule.parameter (ws ++ us) p rest
  parameter_look [] us rest base type e b n h = absurd (type_opens [] base type)
  parameter_look (w ∷ ws) us rest base {p = p} type e b n h =
      let inner =
      forms.part text Rule.parameter Rule.type_name {d = 0}
      {next = λ base m. grammar.Grammar.look (λ us. grammar.named_as text base w.start (name_at us))}
      (declarations.type_read text (w ∷ ws) us base type e)
      (λ m. forms.look text Rule.parameter (grammar.named_as text base w.start) name_at b n h) in
      forms.look text Rule.parameter
      (λ (place : ℕ). grammar.first_ Rule.type_name
      (λ base. grammar.Grammar.look (λ us. grammar.named_as text base place (name_at us)))) first_start w.start refl inner

  pub of_named : {t : Token} (ws : List Token) (base : Base) → IsType ws base → IsName t
      → OfParameter (ws ++ t ∷ []) (named_param text base t)
  of_named {t = t} ws base type k rest e =
      forms.moved text Rule.parameter _ (append_assoc ws (t ∷ []) rest)
      (parameter_look ws (t ∷ rest) rest base type (named_no_type t rest k) true (is_named t rest k)
      (forms.token text Rule.parameter (forms.done text Rule.parameter)))

  pub of_nameless : (ws : List Token) (base : Base) → IsType ws base → OfParameter ws (nameless_param base (first_start ws))
  of_nameless ws base type rest e =
      parameter_look ws rest rest base type e.1 false e.0 (forms.done text Rule.parameter)

  abbrev pub OfParameters : List Token → List Param → Type 0
  OfParameters ts ps = stands_for_none ps ≡ false → (c : Token) (rest : List Token) → IsMark mark.CloseParen c
      → D Rule.parameters (ts ++ c ∷ rest) ps (c ∷ rest)

  pub of_no_parameters : OfParameters [] []
  of_no_parameters e c rest k =
      forms.look text Rule.parameters grammar.parameters_as params_at params.Empty
      (ap (λ (b : Bool). cond b params.Empty (cond (is_void (key_at (c ∷ rest)))
      (cond (next_is mark.CloseParen rest) params.OnlyVoid params.Listed) params.Listed)) (is_next mark.CloseParen c rest k))
      (forms.done text Rule.parameters)

  pub of_only_void : {t : Token} → IsKey key.Void t → OfParameters (t ∷ []) []
  of_only_void {t = t} v e c rest k =
      forms.look text Rule.parameters grammar.parameters_as params_at params.OnlyVoid
      (ap (λ (k : TokenKind). cond (is_mark mark.CloseParen (mark_of (Some k))) params.Empty (cond (is_void (key_of (Some k)))
      (cond (next_is mark.CloseParen (c ∷ rest)) params.OnlyVoid params.Listed) params.Listed)) v.is
      ∙ ap (λ (b : Bool). cond b params.OnlyVoid params.Listed) (is_next mark.CloseParen c rest k))
      (forms.token text Rule.parameters (forms.done text Rule.parameters))

  -- where `void` comes first, no `)` is second
  second : {ts : List Token} {ps : List Param} → Is text (Symbol.separated Listed.parameters) ts ps
      → stands_for_none ps ≡ false → (c : Token) (rest : List Token) → is_void (key_at (ts ++ c ∷ rest)) ≡ true
      → next_is mark.CloseParen (behind (ts ++ c ∷ rest)) ≡ false
  second (Is.last_member (Is.named {t = t} {ws = ws} {base = base} type n)) e c rest v =
      ap (λ (l : List Token). next_is mark.CloseParen (behind l)) (append_assoc ws (t ∷ []) (c ∷ rest))
      ∙ no_paren_second ws (t ∷ c ∷ rest) base type (name_is_no_mark mark.CloseParen t (c ∷ rest) n)
  second (Is.last_member (Is.nameless {ws = []} {base = base} type)) e c rest v = absurd (type_opens [] base type)
  second (Is.last_member (Is.nameless {ws = w ∷ []} {base = base} type)) e c rest v =
      absurd (let never : true ≡ false = ap (λ (b : Base). is_void_alone b None) (sym (void_is_void w base v type)) ∙ e in cc)
  second (Is.last_member (Is.nameless {ws = w ∷ u ∷ ws} type)) e c rest v =
      type_is_no_mark mark.CloseParen u.kind type.words.1.0
  second (Is.member {t = m} {us = us} (Is.named {t = t} {ws = ws} {base = base} type n) comma more) e c rest v =
      ap (λ (l : List Token). next_is mark.CloseParen (behind l))
      (append_assoc (ws ++ t ∷ []) (m ∷ us) (c ∷ rest) ∙ append_assoc ws (t ∷ []) (m ∷ us ++ c ∷ rest))
      ∙ no_paren_second ws (t ∷ m ∷ us ++ c ∷ rest) base type (name_is_no_mark mark.CloseParen t (m ∷ us ++ c ∷ rest) n)
  second (Is.member {t = m} {us = us} (Is.nameless {ws = ws} {base = base} type) comma more) e c rest v =
      ap (λ (l : List Token). next_is mark.CloseParen (behind l)) (append_assoc ws (m ∷ us) (c ∷ rest))
      ∙ no_paren_second ws (m ∷ us ++ c ∷ rest) base type (is_not mark.CloseParen mark.Comma m (us ++ c ∷ rest) comma refl)

  pub of_some_parameters : (ts : List Token) {ps : List Param} → Is text (Symbol.separated Listed.parameters) ts ps
      → declarations.OfSeparated text Listed.parameters ts ps → OfParameters ts ps
  of_some_parameters ts is h e c rest k =
      forms.look text Rule.parameters grammar.parameters_as params_at params.Listed
      (ap (λ (b : Bool). cond b params.Empty (cond (is_void (key_at (ts ++ c ∷ rest)))
      (cond (next_is mark.CloseParen (behind (ts ++ c ∷ rest))) params.OnlyVoid params.Listed) params.Listed))
      (seen starts_type (λ k. is_mark mark.CloseParen (mark_of k)) false (type_is_no_mark mark.CloseParen) ts (c ∷ rest)
      (opens text is) (next_is mark.CloseParen) (λ t us. refl))
      ∙ go (is_void (key_at (ts ++ c ∷ rest))) (second is e c rest))
      (forms.part text Rule.parameters (Rule.list Listed.parameters)
      (h (c ∷ rest) (mark_is_no_name mark.CloseParen c rest k, mark_is_no_type mark.CloseParen c rest k)
      (is_not mark.Comma mark.CloseParen c rest k refl))
      (λ n. forms.done text Rule.parameters))
    where
      go : (b : Bool) → (b ≡ true → next_is mark.CloseParen (behind (ts ++ c ∷ rest)) ≡ false)
          → cond b (cond (next_is mark.CloseParen (behind (ts ++ c ∷ rest))) params.OnlyVoid params.Listed) params.Listed
          ≡ params.Listed
      go true f = ap (λ (b : Bool). cond b params.OnlyVoid params.Listed) (f refl)
      go false f = refl

  -- ---- heads

  abbrev pub OfHead : List Token → Head → Type 0
  OfHead ts h = stands_for_none h.params ≡ false → Anyway Rule.function_head ts h

  pub of_heads : {t o c : Token} (ws ts : List Token) (base : Base) {ps : List Param} → IsType ws base → IsName t
      → IsMark mark.OpenParen o → OfParameters ts ps → IsMark mark.CloseParen c
      → OfHead (ws ++ (t ∷ o ∷ ts ++ c ∷ [])) (head_at text base t ps)
  of_heads {t = t} {o = o} {c = c} ws ts base type n p h k e rest =
      forms.moved text Rule.function_head _
      (append_assoc ws (t ∷ o ∷ ts ++ c ∷ []) rest
      ∙ ap (λ (l : List Token). ws ++ t ∷ o ∷ l) (append_assoc ts (c ∷ []) rest))
      (forms.part text Rule.function_head Rule.type_name
      (declarations.type_read text ws (t ∷ o ∷ ts ++ c ∷ rest) base type (named_no_type t (o ∷ ts ++ c ∷ rest) n))
      (λ m. forms.of_kind text Rule.function_head kind.Name n.is
      (forms.mark text Rule.function_head p
      (forms.part text Rule.function_head Rule.parameters (h e c rest k)
      (λ i. forms.mark text Rule.function_head k (forms.done text Rule.function_head))))))

  -- a function stands where a head does
  function_here : {ts : List Token} {h : Head} → Is text Symbol.function_head ts h → (rest : List Token)
      → function_at (ts ++ rest) ≡ true
  function_here (Is.heads {t = t} {o = o} {c = c} {ws = ws} {ts = ts} type n p ps k) rest =
      ap (λ (l : List Token). cond (name_at l) (next_is mark.OpenParen (behind l)) false)
      (ap behind_words (append_assoc ws (t ∷ o ∷ ts ++ c ∷ []) rest)
      ∙ behind_front ws (t ∷ o ∷ (ts ++ c ∷ []) ++ rest) type.words (named_no_type t (o ∷ (ts ++ c ∷ []) ++ rest) n))
      ∙ ap (λ (b : Bool). cond b (next_is mark.OpenParen (o ∷ (ts ++ c ∷ []) ++ rest)) false)
      (is_named t (o ∷ (ts ++ c ∷ []) ++ rest) n)
      ∙ is_next mark.OpenParen o ((ts ++ c ∷ []) ++ rest) p

  -- ---- parts of a source

  size_before : {ts : List Token} {base : Base} {v : Var} → Is text (Symbol.variable base) ts v → (rest : List Token)
      → next_is mark.OpenParen rest ≡ false → next_is mark.OpenParen (behind (ts ++ rest)) ≡ false
  size_before (Is.declared k Is.scalar Is.absent) rest e = e
  size_before (Is.declared k Is.scalar (Is.one {t = t} {ts = ts} a h)) rest e =
      is_not mark.OpenParen mark.Assign t (ts ++ rest) a refl
  size_before (Is.declared k Is.scalar (Is.several {t = t} {o = o} {c = c} {ts = ts} a p h d)) rest e =
      is_not mark.OpenParen mark.Assign t (o ∷ (ts ++ c ∷ []) ++ rest) a refl
  size_before (Is.declared k Is.scalar (Is.several_comma {t = t} {o = o} {m = m} {c = c} {ts = ts} a p h q d)) rest e =
      is_not mark.OpenParen mark.Assign t (o ∷ (ts ++ m ∷ c ∷ []) ++ rest) a refl
  size_before (Is.declared {us = us} k (Is.unsized {o = o} {c = c} p d) i) rest e =
      is_not mark.OpenParen mark.OpenBracket o (c ∷ us ++ rest) p refl
  size_before (Is.declared {us = us} k (Is.sized {o = o} {c = c} {ts = ts} p h d) i) rest e =
      is_not mark.OpenParen mark.OpenBracket o (((ts ++ c ∷ []) ++ us) ++ rest) p refl

  no_paren_behind : {ts : List Token} {base : Base} {vs : List Var} → Is text (Symbol.separated (Listed.variables base)) ts vs
      → (rest : List Token) → next_is mark.OpenParen rest ≡ false → next_is mark.OpenParen (behind (ts ++ rest)) ≡ false
  no_paren_behind (Is.last_member h) rest e = size_before h rest e
  no_paren_behind (Is.member {t = t} {ts = ts} {us = us} h comma more) rest e =
      ap (λ (l : List Token). next_is mark.OpenParen (behind l)) (append_assoc ts (t ∷ us) rest)
      ∙ size_before h (t ∷ us ++ rest) (is_not mark.OpenParen mark.Comma t (us ++ rest) comma refl)

  no_function_here : {ts : List Token} {vs : List Var} → Is text Symbol.declaration ts vs → (rest : List Token)
      → function_at (ts ++ rest) ≡ false
  no_function_here (Is.declares {t = t} {ws = ws} {ts = ts} {base = base} type h k) rest =
      ap (λ (l : List Token). cond (name_at l) (next_is mark.OpenParen (behind l)) false)
      (ap behind_words (append_assoc ws (ts ++ t ∷ []) rest ∙ ap (λ (l : List Token). ws ++ l) (append_assoc ts (t ∷ []) rest))
      ∙ behind_front ws (ts ++ t ∷ rest) type.words
      (seen is_name_kind (λ k. is_type_word (key_of k)) false name_is_no_type ts (t ∷ rest) (opens text h) type_at (λ t us. refl)))
      ∙ go (name_at (ts ++ t ∷ rest))
      (no_paren_behind h (t ∷ rest) (is_not mark.OpenParen mark.Semicolon t rest k refl))
    where
      go : (b : Bool) → next_is mark.OpenParen (behind (ts ++ t ∷ rest)) ≡ false
          → cond b (next_is mark.OpenParen (behind (ts ++ t ∷ rest))) false ≡ false
      go true e = e
      go false e = refl

  pub of_outer_declares : (ts : List Token) {vs : List Var} → Is text Symbol.declaration ts vs → Anyway Rule.declaration ts vs
      → Anyway Rule.outer ts (Outer.Vars vs)
  of_outer_declares ts is h rest =
      forms.look text Rule.outer grammar.outer_as function_at false (no_function_here is rest)
      (forms.part text Rule.outer Rule.declaration (h rest) (λ n. forms.done text Rule.outer))

  -- a head and what stands behind it
  function_read : (ts us rest : List Token) {h : Head} {o : Outer} → Is text Symbol.function_head ts h → OfHead ts h
      → stands_for_none h.params ≡ false → D (Rule.body h) us o rest → D Rule.outer (ts ++ us) o rest
  function_read ts us rest {h = h} is head e body =
      forms.look text Rule.outer grammar.outer_as function_at true (function_here is us)
      (forms.part text Rule.outer Rule.function_head (head e us)
      (λ n. forms.part text Rule.outer (Rule.body h) body (λ m. forms.done text Rule.outer)))

  pub of_prototype : {t : Token} (ts : List Token) {h : Head} → Is text Symbol.function_head ts h → OfHead ts h
      → stands_for_none h.params ≡ false → IsMark mark.Semicolon t → Anyway Rule.outer (ts ++ t ∷ []) (Outer.Prototype h)
  of_prototype {t = t} ts {h = h} is head e k rest =
      forms.moved text Rule.outer _ (append_assoc ts (t ∷ []) rest)
      (function_read ts (t ∷ rest) rest is head e
      (forms.look text (Rule.body h) (grammar.body_as h) (next_is mark.Semicolon) true (is_next mark.Semicolon t rest k)
      (forms.token text (Rule.body h) (forms.done text (Rule.body h)))))

  pub of_defines : {o c : Token} (ts us : List Token) {h : Head} {ss : List Stmt} → Is text Symbol.function_head ts h
      → OfHead ts h → stands_for_none h.params ≡ false → all_named h.params ≡ true → IsMark mark.OpenBrace o
      → declarations.OfFollowing text Listed.items us ss → IsMark mark.CloseBrace c
      → Anyway Rule.outer (ts ++ (o ∷ us ++ c ∷ [])) (Outer.Function h (stmts_of ss))
  of_defines {o = o} {c = c} ts us {h = h} {ss = ss} is head e named k items d rest =
      forms.moved text Rule.outer _
      (append_assoc ts (o ∷ us ++ c ∷ []) rest ∙ ap (λ (l : List Token). ts ++ o ∷ l) (append_assoc us (c ∷ []) rest))
      (function_read ts (o ∷ us ++ c ∷ rest) rest is head e
      (forms.look text (Rule.body h) (grammar.body_as h) (next_is mark.Semicolon) false
      (is_not mark.Semicolon mark.OpenBrace o (us ++ c ∷ rest) k refl)
      (subst (λ (b : Bool). forms.Formed text (Rule.body h) (grammar.definition h b) (o ∷ us ++ c ∷ rest)
      (Outer.Function h (stmts_of ss)) rest) (sym named)
      (forms.mark text (Rule.body h) k
      (forms.part text (Rule.body h) (Rule.more Listed.items)
      (items (c ∷ rest) (ap not (is_next mark.CloseBrace c rest d)))
      (λ n. forms.mark text (Rule.body h) d (forms.done text (Rule.body h))))))))
