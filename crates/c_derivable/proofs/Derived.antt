-- Each source of C17's grammar is derived by the rules that look ahead.
use Rattle.std.proofs.Common.{◌≡◌, refl, ap, subst, ◌∙◌, ℕ, Bool, true, false, cond, arith}
use Rattle.std.proofs.Common.{List, [], ◌∷◌, ◌++◌}
use Rattle.c_tokens.specs.declared.token.Punct.TheVariants as mark
use Rattle.c_tokens.specs.declared.token.Token.{Token}
use Rattle.c_tree.specs.declared.expr.Base.{Base}
use Rattle.c_tree.specs.Expr.{Expr, Kind}
use Rattle.c_tree.specs.Tree.{Tree}
use Rattle.c_grammar.specs.Words.{mark_of, is_mark, next_is, key_of, is_type_word, type_at}
use Rattle.c_grammar.specs.Operators.{cast_at, at}
use Rattle.c_grammar.specs.Rules.{Listed, Member, Rule, Result}
use Rattle.c_grammar.specs.Grammar as grammar
use Rattle.c_grammar.specs.Derivations.{Front, Derives}
use Rattle.c_syntax.specs.Syntax.{IsMark, IsType, Symbol, Value, symbol_of, member_of, takes_else, Is, IsSource}
use Rattle.c_derivable.specs.Laws.{HoldsNoVoid, HoldNoVoid}
use Rattle.c_derivable.proofs.Begins.{closes, starts_expression, starts_type, type_opens, opens_member, opens, seen}
use Rattle.c_derivable.proofs.Forms.{append_assoc}
use Rattle.c_derivable.proofs.Forms as forms
use Rattle.c_derivable.proofs.Expressions.{is_next, ends_at}
use Rattle.c_derivable.proofs.Expressions as expressions
use Rattle.c_derivable.proofs.Declarations as declarations
use Rattle.c_derivable.proofs.Statements as statements
use Rattle.c_derivable.proofs.Sources as sources

append_none : (ts : List Token) → ts ++ [] ≡ ts
append_none [] = refl
append_none (t ∷ ts) = ap (λ (l : List Token). t ∷ l) (append_none ts)

-- a member, and members, that hold no parameter `void`
abbrev MemberTold : (l : Listed) → Member l → Type 0
MemberTold Listed.outers o = HoldsNoVoid o
MemberTold _ x = Unit {0}

abbrev MembersTold : (l : Listed) → List (Member l) → Type 0
MembersTold Listed.outers os = HoldNoVoid os
MembersTold _ xs = Unit {0}

first_told : (l : Listed) (x : Member l) (xs : List (Member l)) → MembersTold l (x ∷ xs) → MemberTold l x × MembersTold l xs
first_told Listed.arguments x xs h = (tt, tt)
first_told Listed.values x xs h = (tt, tt)
first_told (Listed.variables base) x xs h = (tt, tt)
first_told Listed.parameters x xs h = (tt, tt)
first_told Listed.items x xs h = (tt, tt)
first_told Listed.switch_items x xs h = (tt, tt)
first_told Listed.outers x xs h = h

module _ (text : List ℕ) where
  abbrev D : (r : Rule) → List Token → Result r → List Token → Type 0
  D r ts x rest = forms.Derived text r ts x rest

  -- What is shown of the tokens of a symbol.
  abbrev Holds : (s : Symbol) → List Token → Value s → Type 0
  Holds Symbol.primary ts e = expressions.OfPrimary text ts e
  Holds Symbol.postfix ts e = expressions.OfPostfix text ts e
  Holds Symbol.unary_expression ts e = expressions.Alone text Rule.unary 0 ts e
  Holds Symbol.cast ts e = expressions.Alone text Rule.cast 0 ts e
  Holds (Symbol.binary_expression n) ts e = expressions.OfBinary text n ts e
  Holds Symbol.conditional ts e = expressions.Alone text Rule.conditional 11 ts e
  Holds Symbol.assignment ts e = expressions.Alone text Rule.assignment 12 ts e
  Holds Symbol.expression ts e = expressions.OfExpression text ts e
  Holds Symbol.arguments ts es =
      (c : Token) → IsMark mark.CloseParen c → (rest : List Token) → D Rule.arguments (ts ++ c ∷ rest) es (c ∷ rest)
  Holds (Symbol.separated l) ts xs = grammar.has_commas l ≡ true → declarations.OfSeparated text l ts xs
  Holds (Symbol.following l) ts xs =
      grammar.has_commas l ≡ false → MembersTold l xs → declarations.OfFollowing text l ts xs
  Holds Symbol.declaration ts vs = statements.Anyway text Rule.declaration ts vs
  Holds (Symbol.variable base) ts v = expressions.Alone text (Rule.variable base) 12 ts v
  Holds Symbol.size ts s = declarations.OfSize text ts s
  Holds Symbol.initialiser ts i = expressions.Alone text Rule.initialiser 12 ts i
  Holds Symbol.statement ts s = statements.OfStatement text Rule.statement ts s (takes_else s)
  Holds Symbol.for_first ts f = statements.Anyway text Rule.first ts f
  Holds (Symbol.left_out m) ts e = statements.OfLeftOut text m ts e
  Holds Symbol.item ts s = statements.OfStatement text Rule.item ts s (takes_else s)
  Holds Symbol.switch_item ts i = statements.OfStatement text Rule.switch_item ts i true
  Holds Symbol.outer ts o = HoldsNoVoid o → statements.Anyway text Rule.outer ts o
  Holds Symbol.function_head ts h = sources.OfHead text ts h
  Holds Symbol.parameters ts ps = sources.OfParameters text ts ps
  Holds Symbol.parameter ts p = sources.OfParameter text ts p

  member_holds : (l : Listed) (ts : List Token) (x : Value (symbol_of l)) → Holds (symbol_of l) ts x
      → MemberTold l (member_of l x) → declarations.OfMember text l ts x
  member_holds Listed.arguments ts x h told = h
  member_holds Listed.values ts x h told = h
  member_holds (Listed.variables base) ts x h told = h
  member_holds Listed.parameters ts x h told = h
  member_holds Listed.items ts x h told = λ rest e. h rest (λ _. e)
  member_holds Listed.switch_items ts x h told = λ rest e. h rest (λ _. e)
  member_holds Listed.outers ts x h told = λ rest e. h told rest

  -- lists with commas hold no functions
  with_comma : (l : Listed) (x : Member l) → grammar.has_commas l ≡ true → MemberTold l x
  with_comma Listed.arguments x c = tt
  with_comma Listed.values x c = tt
  with_comma (Listed.variables base) x c = tt
  with_comma Listed.parameters x c = tt
  with_comma Listed.items x c = tt
  with_comma Listed.switch_items x c = tt
  with_comma Listed.outers x c = absurd (let never : false ≡ true = c in cc)

  no_arguments : Holds Symbol.arguments [] []
  no_arguments c k rest =
      forms.look text Rule.arguments grammar.arguments_as (next_is mark.CloseParen) true (is_next mark.CloseParen c rest k)
      (forms.done text Rule.arguments)

  some_arguments : (ts : List Token) (es : List Expr) → Is text (Symbol.separated Listed.arguments) ts es
      → declarations.OfSeparated text Listed.arguments ts es → Holds Symbol.arguments ts es
  some_arguments ts es is h c k rest =
      forms.look text Rule.arguments grammar.arguments_as (next_is mark.CloseParen) false
      (seen starts_expression (λ k. is_mark mark.CloseParen (mark_of k)) false (closes mark.CloseParen refl) ts (c ∷ rest) (opens text is)
      (next_is mark.CloseParen) (λ t us. refl))
      (forms.part text Rule.arguments (Rule.list Listed.arguments)
      (h (c ∷ rest) (ends_at 12 mark.CloseParen c rest k (omega arith))
      (declarations.is_not mark.Comma mark.CloseParen c rest k refl))
      (λ n. forms.done text Rule.arguments))

  converted : {o c : Token} (ws ts : List Token) (base : Base) {e : Expr} → IsMark mark.OpenParen o → IsType ws base
      → IsMark mark.CloseParen c → expressions.Alone text Rule.cast 0 ts e
      → expressions.Alone text Rule.cast 0 (o ∷ ws ++ c ∷ ts) (at o (Kind.Cast base e))
  converted {o = o} {c = c} ws ts base {e = e} k type d h rest l =
      forms.look text Rule.cast grammar.cast_as cast_at true
      (ap (λ (b : Bool). cond b (type_at ((ws ++ c ∷ ts) ++ rest)) false) (is_next mark.OpenParen o ((ws ++ c ∷ ts) ++ rest) k)
      ∙ ap type_at (append_assoc ws (c ∷ ts) rest)
      ∙ seen starts_type (λ k. is_type_word (key_of k)) true (λ k e. e) ws (c ∷ ts ++ rest) (type_opens ws base type) type_at
      (λ t us. refl))
      (forms.token text Rule.cast
      (forms.moved text Rule.cast _ (append_assoc ws (c ∷ ts) rest)
      (forms.part text Rule.cast Rule.type_name
      (declarations.type_read text ws (c ∷ ts ++ rest) base type (declarations.mark_is_no_type mark.CloseParen c (ts ++ rest) d))
      (λ n. forms.mark text Rule.cast d
      (forms.part text Rule.cast Rule.cast (h rest l) (λ m. forms.done text Rule.cast))))))

  derived : {s : Symbol} {ts : List Token} {x : Value s} → Is text s ts x → Holds s ts x
  derived (Is.name k) = expressions.of_name text k
  derived (Is.number k) = expressions.of_number text k
  derived (Is.eof_name k) = expressions.of_eof_name text k
  derived (Is.paren {ts = ts} o h c) = expressions.of_paren text ts o (derived h) c
  derived (Is.only_primary {ts = ts} h) = expressions.operand_goes_on text ts (derived h)
  derived (Is.call {t = t} {o = o} {c = c} {ts = ts} k p h d) =
      expressions.operand_goes_on text (t ∷ o ∷ ts ++ c ∷ [])
      (expressions.of_call text ts k p (derived h c d) d)
  derived (Is.index {t = t} {o = o} {c = c} {ts = ts} k p h d) =
      expressions.operand_goes_on text (t ∷ o ∷ ts ++ c ∷ []) (expressions.of_index text ts k p (derived h) d)
  derived (Is.incremented {ts = ts} h i) = expressions.of_incremented text ts (derived h) i
  derived Is.no_arguments = no_arguments
  derived (Is.some_arguments {ts = ts} {es = es} h) = some_arguments ts es h (derived h refl)
  derived (Is.only_postfix {ts = ts} h) = expressions.of_postfix text ts h (derived h)
  derived (Is.increments {ts = ts} i h) = expressions.of_increments text ts i (derived h)
  derived (Is.has_sign {ts = ts} i h) = expressions.of_sign text ts i (derived h)
  derived (Is.only_unary {ts = ts} h) = expressions.of_unary text ts h (derived h)
  derived (Is.converted {ws = ws} {ts = ts} {base = base} o w c h) = converted ws ts base o w c (derived h)
  derived (Is.only_cast {ts = ts} h) = expressions.of_cast text ts (derived h)
  derived (Is.only_tighter {ts = ts} {n = n} h) = expressions.of_tighter text n ts (derived h)
  derived (Is.operates {ts = ts} {us = us} {l = l} {r = r} {n = n} a o p b) =
      expressions.of_operates text n ts us l r (derived a) o p (derived b)
  derived (Is.only_binary {ts = ts} h) = expressions.of_binary text ts (derived h)
  derived (Is.chooses {ts = ts} {us = us} {vs = vs} h q a c b) =
      expressions.of_chooses text ts us vs (derived h) q (derived a) c (derived b)
  derived (Is.only_conditional {ts = ts} h) = expressions.of_conditional text ts (derived h)
  derived (Is.assigns {ts = ts} {us = us} l o r) = expressions.of_assigns text ts us l (derived l) o (derived r)
  derived (Is.only_assignment {ts = ts} h) = expressions.of_assignment text ts (derived h)
  derived (Is.comma {ts = ts} {us = us} l m r) = expressions.of_comma text ts us (derived l) m (derived r)
  derived (Is.last_member {l = l} {ts = ts} {x = x} h) = λ c.
      declarations.of_last text l ts x (member_holds l ts x (derived h) (with_comma l (member_of l x) c))
  derived (Is.member {l = l} {t = t} {ts = ts} {us = us} {x = x} {xs = xs} h m more) = λ c.
      declarations.of_member text l t ts us x xs c (member_holds l ts x (derived h) (with_comma l (member_of l x) c)) m
      (opens text more) (derived more c)
  derived (Is.no_members {l = l}) = λ c told. declarations.of_none text l
  derived (Is.next_member {l = l} {ts = ts} {us = us} {x = x} {xs = xs} h more) = λ c told.
      let both = first_told l (member_of l x) xs told in
      declarations.of_next text l ts us x xs c (member_holds l ts x (derived h) both.0) (opens_member l ts (opens text h))
      more (derived more c both.1)
  derived (Is.declares {ws = ws} {ts = ts} {base = base} type h k) =
      declarations.of_declares text ws ts base type (opens text h) (derived h refl) k
  derived (Is.declared {ts = ts} {us = us} {base = base} k s i) =
      declarations.of_declared text ts us base k (derived s) i (derived i)
  derived Is.scalar = declarations.of_scalar text
  derived (Is.unsized o c) = declarations.of_unsized text o c
  derived (Is.sized {ts = ts} o h c) = declarations.of_sized text ts o (opens text h) (derived h) c
  derived Is.absent = declarations.of_absent text
  derived (Is.one {ts = ts} t h) = declarations.of_one text ts t (opens text h) (derived h)
  derived (Is.several {ts = ts} t o h c) = declarations.of_several text ts t o (derived h refl) c
  derived (Is.several_comma {ts = ts} t o h m c) = declarations.of_several_comma text ts t o (derived h refl) m c
  derived (Is.block {ts = ts} o h c) = λ rest _. statements.of_block text ts o (derived h refl tt) c rest
  derived (Is.empty t) = λ rest _. statements.of_empty text t rest
  derived (Is.value {ts = ts} h m) = λ rest _. statements.of_value text ts (opens text h) (derived h) m rest
  derived (Is.if_alone {ts = ts} {us = us} t o e c s) = statements.of_if_alone text ts us t o (derived e) c (derived s)
  derived (Is.if_else {ts = ts} {us = us} {vs = vs} t o e c s n k other) =
      statements.of_if_else text ts us vs t o (derived e) c (derived s) n k (derived other)
  derived (Is.while_ {ts = ts} {us = us} t o e c s) = statements.of_while text ts us t o (derived e) c (derived s)
  derived (Is.do_while {ts = ts} {us = us} t s w o e c m) = λ rest _.
      statements.of_do_while text ts us t (derived s) w o (derived e) c m rest
  derived (Is.for_ {ts = ts} {us = us} {vs = vs} {ws = ws} t o f test step s) =
      statements.of_for text ts us vs ws t o (derived f) (derived test) (derived step) (derived s)
  derived (Is.switch {ts = ts} {us = us} t o e c b is d) = λ rest _.
      statements.of_switch text ts us t o (derived e) c b (derived is refl tt) d rest
  derived (Is.break t m) = λ rest _. statements.of_break text t m rest
  derived (Is.continue t m) = λ rest _. statements.of_continue text t m rest
  derived (Is.return {ts = ts} t e) = λ rest _. statements.of_return text ts t (derived e) rest
  derived (Is.nothing {m = m} t) = statements.of_nothing text m t
  derived (Is.something {ts = ts} {m = m} h t) = statements.of_something text ts m (opens text h) (derived h) t
  derived (Is.first_declares {ts = ts} h) = statements.of_first_declares text ts (opens text h) (derived h)
  derived (Is.first_empty t) = statements.of_first_empty text t
  derived (Is.first_value {ts = ts} h t) = statements.of_first_value text ts (opens text h) (derived h) t
  derived (Is.item_declares {ts = ts} h) = λ rest _. statements.of_item_declares text ts (opens text h) (derived h) rest
  derived (Is.item_does {ts = ts} h) = statements.of_item_does text ts (opens text h) (derived h)
  derived (Is.case {ts = ts} t h c) = λ rest _. statements.of_case text ts t (derived h) c rest
  derived (Is.default t c) = λ rest _. statements.of_default text t c rest
  derived (Is.does {ts = ts} {s = s} h) = λ rest e.
      statements.of_does text ts (takes_else s) (opens text h) (derived h) rest (λ _. e refl)
  derived (Is.outer_declares {ts = ts} h) = λ told. sources.of_outer_declares text ts h (derived h)
  derived (Is.prototype {ts = ts} h m) = λ told. sources.of_prototype text ts h (derived h) told m
  derived (Is.defines {ts = ts} {us = us} h n o ss c) = λ told.
      sources.of_defines text ts us h (derived h) told n o (derived ss refl tt) c
  derived (Is.heads {ws = ws} {ts = ts} {base = base} type n o ps c) =
      sources.of_heads text ws ts base type n o (derived ps) c
  derived Is.no_parameters = sources.of_no_parameters text
  derived (Is.only_void t) = sources.of_only_void text t
  derived (Is.some_parameters {ts = ts} h) = sources.of_some_parameters text ts h (derived h refl)
  derived (Is.named {ws = ws} {base = base} type n) = sources.of_named text ws base type n
  derived (Is.nameless {ws = ws} {base = base} type) = sources.of_nameless text ws base type

  pub source_derived : (tokens : List Token) (tree : Tree) → IsSource text tokens tree → HoldNoVoid tree.outers
      → Derives text tokens tree
  source_derived tokens tree h told =
      let front = derived h.outers refl told [] refl in record {
        levels = front.0;
        whole = subst (λ (l : List Token). Front text (Rule.more Listed.outers) l tree.outers front.0 []) (append_none tokens) front.1;
        end = h.end;
      }
