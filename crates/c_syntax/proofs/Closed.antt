-- What the forms of lists, declarations, statements and sources mean, and so that of each rule.
use Rattle.std.proofs.Common.{◌≡◌, refl, sym, ap, subst, ◌∙◌, ℕ, zero, suc, ◌+◌, ◌==◌, Bool, true, false, cond}
use Rattle.std.proofs.Common.{List, [], ◌∷◌, ◌++◌, Option, Some, None, not, eqb-true, arith}
use Rattle.std.specs.Prelude.{ℤ}
use Rattle.int_ops.specs.declared.types.IntType.{IntType}
use Rattle.int_ops.specs.declared.operators.BinOp.{BinOp}
use Rattle.int_ops.specs.declared.operators.BinOp.TheVariants as op
use Rattle.c_tokens.specs.declared.token.Keyword.{Keyword}
use Rattle.c_tokens.specs.declared.token.Keyword.TheVariants as key
use Rattle.c_tokens.specs.declared.token.Punct.{Punct}
use Rattle.c_tokens.specs.declared.token.Punct.TheVariants as mark
use Rattle.c_tokens.specs.declared.token.Token.{Token}
use Rattle.c_tokens.specs.declared.token.TokenKind.{TokenKind}
use Rattle.c_tokens.specs.declared.token.TokenKind.TheVariants as kind
use Rattle.c_tree.specs.declared.expr.Base.{Base}
use Rattle.c_tree.specs.Expr.{Expr, Kind}
use Rattle.c_tree.specs.Stmt.{Size, Init, Var, Stmt, OtherStmt, ForHead, SwitchItem}
use Rattle.c_tree.specs.Tree.{Param, Head, Outer, Tree}
use Rattle.c_tree.specs.TreeView.{stmts_of, items_of}
use Rattle.c_grammar.specs.declared.begins.Operand.{Operand}
use Rattle.c_grammar.specs.declared.begins.Operand.TheVariants as first
use Rattle.c_grammar.specs.declared.begins.UnaryOperator.{UnaryOperator}
use Rattle.c_grammar.specs.declared.begins.UnaryOperator.TheVariants as unary
use Rattle.c_grammar.specs.declared.begins.Prefix.{Prefix}
use Rattle.c_grammar.specs.declared.begins.Prefix.TheVariants as prefix
use Rattle.c_grammar.specs.declared.begins.BinaryOperator.{BinaryOperator}
use Rattle.c_grammar.specs.declared.begins.BinaryOperator.TheVariants as binary
use Rattle.c_grammar.specs.declared.begins.StmtForm.{StmtForm}
use Rattle.c_grammar.specs.declared.begins.StmtForm.TheVariants as form
use Rattle.c_grammar.specs.declared.begins.ItemForm.{ItemForm}
use Rattle.c_grammar.specs.declared.begins.ItemForm.TheVariants as label
use Rattle.c_grammar.specs.declared.begins.ParamsForm.{ParamsForm}
use Rattle.c_grammar.specs.declared.begins.ParamsForm.TheVariants as params
use Rattle.c_grammar.specs.Words.{base_at, type_lists, name_of, next_kind, behind, mark_of, mark_at, is_mark, next_is, key_of, key_at, is_name, name_at, type_at}
use Rattle.c_grammar.specs.Operators.{
  operand_of,
  operand_at,
  increment_of,
  increment_at,
  signed,
  prefix_of,
  prefix_at,
  cast_at,
  operator_of,
  operator_if,
  operator_precedence,
  with_precedence,
  operator_at,
  joined,
  assignment_of,
  assignment_at,
  is_unary,
  at,
}
use Rattle.c_grammar.specs.Forms.{form_of as stmt_form_of, form_at, is_else, else_at, item_of, item_at, is_void, params_at}
use Rattle.c_grammar.specs.Derivations.{Derives}
use Rattle.c_grammar.specs.Forms.{first_start, named_param, nameless_param, all_named, further_at, none_at, function_at, value_of}
use Rattle.c_grammar.specs.Rules.{Listed, Member, Rule, Result}
use Rattle.c_grammar.specs.Grammar as grammar
use Rattle.c_grammar.proofs.Leaves.{marked, named as is_named, worded}
use Rattle.c_syntax.specs.Syntax.{IsMark, IsKey, IsName, IsType, takes_else, other_takes_else, Symbol, Value, symbol_of}
use Rattle.c_syntax.specs.Syntax.{member_of, Is, IsSource, Increments, Signs, Operates, Assigns}
use Rattle.c_syntax.proofs.Meant.{One, OfKind}
use Rattle.c_syntax.proofs.Meant as meant
use Rattle.c_syntax.proofs.Closing as closing
use Rattle.c_syntax.proofs.Closing.{mark_is, next_mark, next_key, form_told, label_told, ElseIs, else_is, void_next}

-- no words name no type
no_words : (base : Base) → base_at [] ≡ Some base → ⊥
unfolding type_lists
no_words base e = (let never : None ≡ Some base = e in cc)

-- a list with commas goes on with one
comma_next : (l : Listed) (t : Token) (ts : List Token) → grammar.has_commas l ≡ true
    → grammar.goes_on l (t ∷ ts) ≡ true → IsMark mark.Comma t
comma_next Listed.arguments t ts c e = next_mark t ts mark.Comma e
comma_next Listed.values t ts c e = next_mark t ts mark.Comma (closing.and_left _ _ e)
comma_next (Listed.variables base) t ts c e = next_mark t ts mark.Comma e
comma_next Listed.parameters t ts c e = next_mark t ts mark.Comma e
comma_next Listed.items t ts c e = absurd (let never : false ≡ true = c in cc)
comma_next Listed.switch_items t ts c e = absurd (let never : false ≡ true = c in cc)
comma_next Listed.outers t ts c e = absurd (let never : false ≡ true = c in cc)

module _ (text : List ℕ) where
  abbrev S : (r : Rule) → grammar.Grammar (Result r) → List Token → List Token → Result r → Type 0
  S r g ts rest x = meant.Seen text r g ts rest x

  abbrev Means : (r : Rule) → List Token → List Token → Result r → Type 0
  Means r ts rest x = meant.Means text r ts rest x

  tail : (s : Symbol) (x : Value s) (k : List Token → List Token) (ts : List Token) → Is text s (k ts) x
      → Is text s (k (ts ++ [])) x
  tail s x k ts h = closing.tail text s x k ts h

  past : (s : Symbol) (x : Value s) (k : List Token → List Token) (ts : List Token) (c : Token) (us : List Token)
      → Is text s (k (ts ++ c ∷ us)) x → Is text s (k ((ts ++ c ∷ []) ++ us)) x
  past s x k ts c us h = closing.past text s x k ts c us h

  -- ---- lists

  -- what a member's rule gives, as what its symbol's tokens are
  abbrev value_in : (l : Listed) → Result (grammar.member l) → Value (symbol_of l)
  value_in Listed.arguments e = e
  value_in Listed.values e = e
  value_in (Listed.variables base) v = v
  value_in Listed.parameters p = p
  value_in Listed.items s = s
  value_in Listed.switch_items i = i
  value_in Listed.outers o = o

  same_member : (l : Listed) (x : Result (grammar.member l)) → member_of l (value_in l x) ≡ grammar.as_member l x
  same_member Listed.arguments e = refl
  same_member Listed.values e = refl
  same_member (Listed.variables base) v = refl
  same_member Listed.parameters p = refl
  same_member Listed.items s = refl
  same_member Listed.switch_items i = refl
  same_member Listed.outers o = refl

  member_is : (l : Listed) (ts rest : List Token) (x : Result (grammar.member l)) → Means (grammar.member l) ts rest x
      → Is text (symbol_of l) ts (value_in l x)
  member_is Listed.arguments ts rest x h = h
  member_is Listed.values ts rest x h = h
  member_is (Listed.variables base) ts rest x h = h
  member_is Listed.parameters ts rest x h = h
  member_is Listed.items ts rest x h = h
  member_is Listed.switch_items ts rest x h = h
  member_is Listed.outers ts rest x h = h

  put_before : (b : Bool) (l : Listed) (ts us : List Token) (x : Value (symbol_of l)) (xs : List (Member l))
      → Is text (symbol_of l) ts x → meant.MeantMore text b l us xs
      → meant.MeantList text b l (ts ++ (us ++ [])) (member_of l x ∷ xs)
  put_before true l ts _ x _ h meant.Further.ends =
      tail (Symbol.separated l) (member_of l x ∷ []) (λ us. us) ts (Is.last_member h)
  put_before true l ts _ x xs h (meant.Further.goes {c = c} {ts = us} comma more) =
      tail (Symbol.separated l) (member_of l x ∷ xs) (λ vs. ts ++ c ∷ vs) us (Is.member h comma more)
  put_before false l ts us x xs h more =
      tail (Symbol.following l) (member_of l x ∷ xs) (λ vs. ts ++ vs) us (Is.next_member h more)

  lists : (l : Listed) (ts rest : List Token) (xs : List (Member l))
      → S (Rule.list l) (grammar.form_of text (Rule.list l)) ts rest xs
      → meant.MeantList text (grammar.has_commas l) l ts xs
  lists l _ rest _ (meant.Seen.part i x ts _ one (meant.Seen.part j xs us _ more meant.Seen.gives)) =
      subst (λ (y : Member l). meant.MeantList text (grammar.has_commas l) l (ts ++ (us ++ [])) (y ∷ xs))
      (same_member l x) (put_before (grammar.has_commas l) l ts us (value_in l x) xs
      (member_is l ts ((us ++ []) ++ rest) x one) more)

  furthers : (c : Bool) (l : Listed) (ts rest : List Token) (xs : List (Member l)) → grammar.has_commas l ≡ c
      → grammar.goes_on l (ts ++ rest) ≡ true → S (Rule.more l) (grammar.further l c) ts rest xs
      → meant.MeantMore text c l ts xs
  furthers true l _ rest xs c e
      (meant.Seen.part i y _ _ (One.one {t = t}) (meant.Seen.part j zs us _ more meant.Seen.gives)) =
      subst (λ (vs : List Token). meant.Further text l (t ∷ vs) xs) (sym (closing.append_nil text us))
      (meant.Further.goes (comma_next l t ((us ++ []) ++ rest) c e)
      (subst (λ (b : Bool). meant.MeantList text b l us xs) c more))
  furthers false l _ rest xs c e (meant.Seen.part j zs us _ more meant.Seen.gives) =
      tail (Symbol.following l) xs (λ vs. vs) us (subst (λ (b : Bool). meant.MeantList text b l us xs) c more)

  nothing_more : (c : Bool) (l : Listed) → meant.MeantMore text c l [] []
  nothing_more true l = meant.Further.ends
  nothing_more false l = Is.no_members

  mores : (b : Bool) (l : Listed) (ts rest : List Token) (xs : List (Member l)) → grammar.goes_on l (ts ++ rest) ≡ b
      → S (Rule.more l) (grammar.more_as l b) ts rest xs → meant.MeantMore text (grammar.has_commas l) l ts xs
  mores true l ts rest xs e s = furthers (grammar.has_commas l) l ts rest xs refl e s
  mores false l _ rest _ e meant.Seen.gives = nothing_more (grammar.has_commas l) l

  -- ---- ends of expressions

  endeds : (m : Punct) (b : Bool) (ts rest : List Token) (x : Option Expr) → S (Rule.ended m) (grammar.ended_as m b) ts rest x
      → Is text (Symbol.left_out m) ts x
  endeds m true _ rest _ (meant.Seen.part i y _ _ (OfKind.of k) meant.Seen.gives) = Is.nothing (record { is = k })
  endeds m false _ rest _
      (meant.Seen.part i e _ _ (meant.Closed.closed {ts = ts} {c = c} ex close) meant.Seen.gives) =
      tail (Symbol.left_out m) (Some e) (λ l. l) (ts ++ c ∷ []) (Is.something ex close)

  argument_lists : (b : Bool) (ts rest : List Token) (x : List Expr) → S Rule.arguments (grammar.arguments_as b) ts rest x
      → Is text Symbol.arguments ts x
  argument_lists true _ rest _ meant.Seen.gives = Is.no_arguments
  argument_lists false _ rest x (meant.Seen.part i y ts _ part meant.Seen.gives) =
      tail Symbol.arguments x (λ l. l) ts (Is.some_arguments part)

  -- ---- declarations

  sizes : (b : Bool) (ts rest : List Token) (x : Size) → next_is mark.OpenBracket (ts ++ rest) ≡ b
      → S Rule.size (grammar.size_as b) ts rest x → Is text Symbol.size ts x
  sizes true _ rest x e (meant.Seen.part i y _ _ (One.one {t = t}) (meant.Seen.part j z us _ length meant.Seen.gives)) =
      tail Symbol.size x (λ l. t ∷ l) us (length t (next_mark t ((us ++ []) ++ rest) mark.OpenBracket e))
  sizes false _ rest _ e meant.Seen.gives = Is.scalar

  lengths : (b : Bool) (ts rest : List Token) (x : Size) → next_is mark.CloseBracket (ts ++ rest) ≡ b
      → S Rule.length (grammar.length_as b) ts rest x → (o : Token) → IsMark mark.OpenBracket o
      → Is text Symbol.size (o ∷ ts) x
  lengths true _ rest _ e (meant.Seen.part i y _ _ (One.one {t = t}) meant.Seen.gives) o opens =
      Is.unsized opens (next_mark t rest mark.CloseBracket e)
  lengths false _ rest _ e
      (meant.Seen.part i y us _ ex (meant.Seen.part j c _ _ (OfKind.of close) meant.Seen.gives)) o opens =
      Is.sized opens ex (record { is = close })

  initialisers : (b : Bool) (ts rest : List Token) (x : Init) → next_is mark.Assign (ts ++ rest) ≡ b
      → S Rule.initialiser (grammar.initialiser_as b) ts rest x → Is text Symbol.initialiser ts x
  initialisers true _ rest x e
      (meant.Seen.part i y _ _ (One.one {t = t}) (meant.Seen.part j z us _ given meant.Seen.gives)) =
      tail Symbol.initialiser x (λ l. t ∷ l) us (given t (next_mark t ((us ++ []) ++ rest) mark.Assign e))
  initialisers false _ rest _ e meant.Seen.gives = Is.absent

  braced_values : (b : Bool) (es : List Expr) (t o : Token) (us ts rest : List Token) (x : Init)
      → next_is mark.Comma (ts ++ rest) ≡ b → IsMark mark.Assign t → IsMark mark.OpenBrace o
      → Is text (Symbol.separated Listed.values) us es → S Rule.given (grammar.braced es b) ts rest x
      → Is text Symbol.initialiser (t ∷ o ∷ (us ++ ts)) x
  braced_values true es t o us _ rest _ e gives_ opens values
      (meant.Seen.part i y _ _ (One.one {t = m}) (meant.Seen.part j c _ _ (OfKind.of {t = d} close) meant.Seen.gives)) =
      Is.several_comma gives_ opens values (next_mark m ((d ∷ []) ++ rest) mark.Comma e) (record { is = close })
  braced_values false es t o us _ rest _ e gives_ opens values
      (meant.Seen.part j c _ _ (OfKind.of close) meant.Seen.gives) =
      Is.several gives_ opens values (record { is = close })

  givens : (b : Bool) (ts rest : List Token) (x : Init) → next_is mark.OpenBrace (ts ++ rest) ≡ b
      → S Rule.given (grammar.given_as b) ts rest x → (t : Token) → IsMark mark.Assign t
      → Is text Symbol.initialiser (t ∷ ts) x
  givens true _ rest x e
      (meant.Seen.part i y _ _ (One.one {t = o}) (meant.Seen.part j es us vs values (meant.Seen.look s))) t gives_ =
      braced_values (next_is mark.Comma (vs ++ rest)) es t o us vs rest x refl gives_
      (next_mark o ((us ++ vs) ++ rest) mark.OpenBrace e) values s
  givens false _ rest _ e (meant.Seen.part i y us _ ex meant.Seen.gives) t gives_ =
      tail Symbol.initialiser (Init.One y) (λ l. t ∷ l) us (Is.one gives_ ex)

  -- ---- parts of statements

  never_else : (s : Bool) → s ≡ false → s ≡ true → (b : Bool) → b ≡ false
  never_else s f t b = absurd (let never : false ≡ true = sym f ∙ t in cc)

  value_statement : (ts : List Token) (e : Option Expr) → Is text (Symbol.left_out mark.Semicolon) ts e
      → Is text Symbol.statement ts (value_of e)
  value_statement _ _ (Is.nothing m) = Is.empty m
  value_statement _ _ (Is.something ex m) = Is.value ex m

  not_taken : (s : Stmt) → takes_else s ≡ false → (rest : List Token) → takes_else s ≡ true → else_at rest ≡ false
  not_taken s f rest t = never_else (takes_else s) f t (else_at rest)

  if_statement : (t : Token) (cs us : List Token) (e : Expr) (s : Stmt) (other : OtherStmt) → IsKey key.If t
      → meant.InParens text cs e → meant.Branches text us s other
      → Is text Symbol.statement (t ∷ (cs ++ (us ++ []))) (Stmt.If e s other)
  if_statement t _ _ e s _ k (meant.InParens.parens {ts = ts} {o = o} {c = c} opens ex close)
      (meant.Branches.alone {ts = us} h) =
      past Symbol.statement (Stmt.If e s OtherStmt.Nothing) (λ l. t ∷ o ∷ l) ts c (us ++ [])
      (tail Symbol.statement (Stmt.If e s OtherStmt.Nothing) (λ l. t ∷ o ∷ (ts ++ c ∷ l)) us
      (Is.if_alone k opens ex close h))
  if_statement t _ _ e s _ k (meant.InParens.parens {ts = ts} {o = o} {c = c} opens ex close)
      (meant.Branches.both {ts = us} {us = vs} {k = w} {other = other} h none other_key g) =
      past Symbol.statement (Stmt.If e s (OtherStmt.There other)) (λ l. t ∷ o ∷ l) ts c ((us ++ w ∷ vs) ++ [])
      (tail Symbol.statement (Stmt.If e s (OtherStmt.There other)) (λ l. t ∷ o ∷ (ts ++ c ∷ l)) (us ++ w ∷ vs)
      (Is.if_else k opens ex close h none other_key g))

  while_statement : (t : Token) (cs us : List Token) (e : Expr) (s : Stmt) → IsKey key.While t
      → meant.InParens text cs e → Is text Symbol.statement us s
      → Is text Symbol.statement (t ∷ (cs ++ (us ++ []))) (Stmt.While e s)
  while_statement t _ us e s k (meant.InParens.parens {ts = ts} {o = o} {c = c} opens ex close) h =
      past Symbol.statement (Stmt.While e s) (λ l. t ∷ o ∷ l) ts c (us ++ [])
      (tail Symbol.statement (Stmt.While e s) (λ l. t ∷ o ∷ (ts ++ c ∷ l)) us (Is.while_ k opens ex close h))

  do_statement : (t : Token) (us vs : List Token) (s : Stmt) (e : Expr) (line : ℕ) → IsKey key.Do t
      → Is text Symbol.statement us s → meant.Until text vs e line
      → Is text Symbol.statement (t ∷ (us ++ (vs ++ []))) (Stmt.DoWhile s e line)
  do_statement t us _ s e _ k h (meant.Until.until {w = w} {o = o} {c = c} {m = m} {ts = ts} while opens ex close mk) =
      tail Symbol.statement (Stmt.DoWhile s e w.line) (λ l. t ∷ (us ++ l)) (w ∷ o ∷ (ts ++ c ∷ m ∷ []))
      (Is.do_while k h while opens ex close mk)

  for_statement : (t : Token) (hs us : List Token) (h : ForHead) (s : Stmt) → IsKey key.For t
      → meant.Controlled text hs h → Is text Symbol.statement us s
      → Is text Symbol.statement (t ∷ (hs ++ (us ++ []))) (Stmt.For h s)
  for_statement t _ ws _ s k
      (meant.Controlled.controlled {o = o} {ts = fs} {first = f} opens first_
      (meant.Controls.controls {ts = ts} {us = us} {test = test} {step = step} a b)) g =
      let whole : Stmt = Stmt.For (ForHead.Head f test step) s in
      let short : (vs : List Token) → Is text Symbol.statement (t ∷ o ∷ (fs ++ (ts ++ (us ++ vs)))) whole
      → Is text Symbol.statement (t ∷ o ∷ ((fs ++ (ts ++ us)) ++ vs)) whole =
      λ vs i.
      subst (λ (l : List Token). Is text Symbol.statement (t ∷ o ∷ l) whole)
      (sym (meant.append_assoc text fs (ts ++ us) vs))
      (subst (λ (l : List Token). Is text Symbol.statement (t ∷ o ∷ (fs ++ l)) whole)
      (sym (meant.append_assoc text ts us vs)) i) in
      short (ws ++ []) (tail Symbol.statement whole (λ l. t ∷ o ∷ (fs ++ (ts ++ (us ++ l)))) ws
      (Is.for_ k opens first_ a b g))

  switch_statement : (t : Token) (cs us : List Token) (e : Expr) (is : List SwitchItem) → IsKey key.Switch t
      → meant.InParens text cs e → meant.InBraces text us is
      → Is text Symbol.statement (t ∷ (cs ++ (us ++ []))) (Stmt.Switch e (items_of is))
  switch_statement t _ _ e is k (meant.InParens.parens {ts = ts} {o = o} {c = c} opens ex close)
      (meant.InBraces.braces {o = b} {c = d} {ts = us} brace h end) =
      past Symbol.statement (Stmt.Switch e (items_of is)) (λ l. t ∷ o ∷ l) ts c ((b ∷ (us ++ d ∷ [])) ++ [])
      (tail Symbol.statement (Stmt.Switch e (items_of is)) (λ l. t ∷ o ∷ (ts ++ c ∷ l)) (b ∷ (us ++ d ∷ []))
      (Is.switch k opens ex close brace h end))

  -- the form of a statement, by what begins it
  statements : (f : StmtForm) (ts rest : List Token) (x : Stmt) → form_at (ts ++ rest) ≡ f
      → S Rule.statement (grammar.statement_as f) ts rest x
      → Is text Symbol.statement ts x × (takes_else x ≡ true → else_at rest ≡ false)
  statements form.Block _ rest _ e
      (meant.Seen.part i y _ _ (One.one {t = t}) (meant.Seen.part j ss us _ items
      (meant.Seen.part k c _ _ (OfKind.of {t = d} close) meant.Seen.gives))) = (
        Is.block (record { is = form_told t ((us ++ d ∷ []) ++ rest) form.Block e }) items (record { is = close }),
        not_taken (Stmt.Block (stmts_of ss)) refl rest,
      )
  statements form.Value _ rest _ e (meant.Seen.part i y ts _ ended meant.Seen.gives) =
      (tail Symbol.statement (value_of y) (λ l. l) ts (value_statement ts y ended), values_take_none y)
    where
      values_take_none : (y : Option Expr) → takes_else (value_of y) ≡ true → else_at rest ≡ false
      values_take_none None t = not_taken Stmt.Empty refl rest t
      values_take_none (Some v) t = not_taken (Stmt.Value v) refl rest t
  statements form.If _ rest _ e
      (meant.Seen.part i y _ _ (One.one {t = t}) (meant.Seen.part j c cs _ condition
      (meant.Seen.part k b us _ branches meant.Seen.gives))) = (
        if_statement t cs us c b.0 b.1 (record { is = form_told t ((cs ++ (us ++ [])) ++ rest) form.If e }) condition
            branches.0,
        branches.1,
      )
  statements form.While _ rest _ e
      (meant.Seen.part i y _ _ (One.one {t = t}) (meant.Seen.part j c cs _ condition
      (meant.Seen.part k s us _ body meant.Seen.gives))) = (
        while_statement t cs us c s (record { is = form_told t ((cs ++ (us ++ [])) ++ rest) form.While e }) condition body.0,
        body.1,
      )
  statements form.Do _ rest _ e
      (meant.Seen.part i y _ _ (One.one {t = t}) (meant.Seen.part j s us _ body
      (meant.Seen.part k u vs _ until meant.Seen.gives))) = (
        do_statement t us vs s u.0 u.1 (record { is = form_told t ((us ++ (vs ++ [])) ++ rest) form.Do e }) body.0 until,
        not_taken (Stmt.DoWhile s u.0 u.1) refl rest,
      )
  statements form.For _ rest _ e
      (meant.Seen.part i y _ _ (One.one {t = t}) (meant.Seen.part j h hs _ head
      (meant.Seen.part k s us _ body meant.Seen.gives))) = (
        for_statement t hs us h s (record { is = form_told t ((hs ++ (us ++ [])) ++ rest) form.For e }) head body.0,
        body.1,
      )
  statements form.Switch _ rest _ e
      (meant.Seen.part i y _ _ (One.one {t = t}) (meant.Seen.part j c cs _ condition
      (meant.Seen.part k is us _ cases meant.Seen.gives))) = (
        switch_statement t cs us c is (record { is = form_told t ((cs ++ (us ++ [])) ++ rest) form.Switch e }) condition cases,
        not_taken (Stmt.Switch c (items_of is)) refl rest,
      )
  statements form.Break _ rest _ e
      (meant.Seen.part i y _ _ (One.one {t = t}) (meant.Seen.part k c _ _ (OfKind.of {t = d} semicolon)
      (meant.Seen.deep meant.Seen.gives))) = (
        Is.break (record { is = form_told t ((d ∷ []) ++ rest) form.Break e }) (record { is = semicolon }),
        not_taken (Stmt.Break t.start t.line) refl rest,
      )
  statements form.Continue _ rest _ e
      (meant.Seen.part i y _ _ (One.one {t = t}) (meant.Seen.part k c _ _ (OfKind.of {t = d} semicolon)
      (meant.Seen.deep meant.Seen.gives))) = (
        Is.continue (record { is = form_told t ((d ∷ []) ++ rest) form.Continue e }) (record { is = semicolon }),
        not_taken (Stmt.Continue t.start t.line) refl rest,
      )
  statements form.Return _ rest _ e
      (meant.Seen.part i y _ _ (One.one {t = t}) (meant.Seen.part j v us _ ended meant.Seen.gives)) = (
        tail Symbol.statement (Stmt.Return v t.start t.line) (λ l. t ∷ l) us
            (Is.return (record { is = form_told t ((us ++ []) ++ rest) form.Return e }) ended),
        not_taken (Stmt.Return v t.start t.line) refl rest,
      )

  alternatives : (b : Bool) (s : Stmt) (us ts rest : List Token) (x : Stmt × OtherStmt) → else_at (ts ++ rest) ≡ b
      → Is text Symbol.statement us s → (takes_else s ≡ true → else_at (ts ++ rest) ≡ false)
      → S Rule.branches (grammar.alternative_as s b) ts rest x
      → meant.Branches text (us ++ ts) x.0 x.1 × (other_takes_else x.1 ≡ true → else_at rest ≡ false)
  alternatives true s us _ rest _ e h none
      (meant.Seen.part i y _ _ (One.one {t = t}) (meant.Seen.part j other vs _ part meant.Seen.gives)) =
      let behind_ : List Token = (vs ++ []) ++ rest in
      let is : IsKey key.Else t =
      next_key t behind_ key.Else (subst (λ (b : Bool). ElseIs (key_at (t ∷ behind_)) b) e
      (else_is (key_at (t ∷ behind_)))) in (
        subst (λ (l : List Token). meant.Branches text (us ++ t ∷ l) s (OtherStmt.There other))
            (sym (closing.append_nil text vs)) (meant.Branches.both h (takes_none (takes_else s) refl) is part.0),
        part.1,
      )
    where
      takes_none : (b : Bool) → takes_else s ≡ b → takes_else s ≡ false
      takes_none true f = absurd (let never : true ≡ false = sym e ∙ none f in cc)
      takes_none false f = f
  alternatives false s us _ rest _ e h none meant.Seen.gives = (
    subst (λ (l : List Token). meant.Branches text l s OtherStmt.Nothing) (sym (closing.append_nil text us))
        (meant.Branches.alone h),
    λ t. e,
  )

  firsts : (a b : Bool) (ts rest : List Token) (x : OtherStmt) → S Rule.first (grammar.first_as a b) ts rest x
      → Is text Symbol.for_first ts x
  firsts true b _ rest _ (meant.Seen.part i vs ts _ part meant.Seen.gives) =
      tail Symbol.for_first (OtherStmt.There (Stmt.Vars vs)) (λ l. l) ts (Is.first_declares part)
  firsts false true _ rest _ (meant.Seen.part i y _ _ (OfKind.of semicolon) meant.Seen.gives) =
      Is.first_empty (record { is = semicolon })
  firsts false false _ rest _
      (meant.Seen.part i e _ _ (meant.Closed.closed {ts = ts} {c = c} ex semicolon) meant.Seen.gives) =
      tail Symbol.for_first (OtherStmt.There (Stmt.Value e)) (λ l. l) (ts ++ c ∷ []) (Is.first_value ex semicolon)

  items : (b : Bool) (ts rest : List Token) (x : Stmt) → S Rule.item (grammar.item_as b) ts rest x
      → Is text Symbol.item ts x
  items true _ rest _ (meant.Seen.part i vs ts _ part meant.Seen.gives) =
      tail Symbol.item (Stmt.Vars vs) (λ l. l) ts (Is.item_declares part)
  items false _ rest _ (meant.Seen.part i s ts _ part meant.Seen.gives) =
      tail Symbol.item s (λ l. l) ts (Is.item_does part.0)

  switch_items : (f : ItemForm) (ts rest : List Token) (x : SwitchItem) → item_at (ts ++ rest) ≡ f
      → S Rule.switch_item (grammar.switch_item_as f) ts rest x → Is text Symbol.switch_item ts x
  switch_items label.Case _ rest _ e
      (meant.Seen.part i y _ _ (One.one {t = t}) (meant.Seen.part j v us _ ex
      (meant.Seen.part k c _ _ (OfKind.of {t = d} colon) meant.Seen.gives))) =
      Is.case (next_key t ((us ++ d ∷ []) ++ rest) key.Case (label_told (t ∷ ((us ++ d ∷ []) ++ rest)) label.Case e)) ex
      (record { is = colon })
  switch_items label.Default _ rest _ e
      (meant.Seen.part i y _ _ (One.one {t = t}) (meant.Seen.part k c _ _ (OfKind.of {t = d} colon) meant.Seen.gives)) =
      Is.default (next_key t ((d ∷ []) ++ rest) key.Default (label_told (t ∷ ((d ∷ []) ++ rest)) label.Default e))
      (record { is = colon })
  switch_items label.Item _ rest _ e (meant.Seen.part i s ts _ part meant.Seen.gives) =
      tail Symbol.switch_item (SwitchItem.Item s) (λ l. l) ts (Is.does part)

  -- ---- sources

  outers : (b : Bool) (ts rest : List Token) (x : Outer) → S Rule.outer (grammar.outer_as b) ts rest x
      → Is text Symbol.outer ts x
  outers true _ rest x (meant.Seen.part i h ts _ head (meant.Seen.part j o us _ body meant.Seen.gives)) =
      tail Symbol.outer x (λ l. ts ++ l) us (body ts head)
  outers false _ rest _ (meant.Seen.part i vs ts _ part meant.Seen.gives) =
      tail Symbol.outer (Outer.Vars vs) (λ l. l) ts (Is.outer_declares part)

  definitions : (b : Bool) (h : Head) (ts rest : List Token) (x : Outer) → all_named h.params ≡ b
      → S (Rule.body h) (grammar.definition h b) ts rest x → (us : List Token) → Is text Symbol.function_head us h
      → Is text Symbol.outer (us ++ ts) x
  definitions true h _ rest _ e
      (meant.Seen.part i y _ _ (OfKind.of opens) (meant.Seen.part j ss us _ part
      (meant.Seen.part k c _ _ (OfKind.of close) meant.Seen.gives))) hs head =
      Is.defines head e (record { is = opens }) part (record { is = close })
  definitions false h ts rest x e s us head = elim s [ ]

  bodies : (b : Bool) (h : Head) (ts rest : List Token) (x : Outer) → next_is mark.Semicolon (ts ++ rest) ≡ b
      → S (Rule.body h) (grammar.body_as h b) ts rest x → (us : List Token) → Is text Symbol.function_head us h
      → Is text Symbol.outer (us ++ ts) x
  bodies true h _ rest _ e (meant.Seen.part i y _ _ (One.one {t = t}) meant.Seen.gives) us head =
      Is.prototype head (next_mark t rest mark.Semicolon e)
  bodies false h ts rest x e s us head = definitions (all_named h.params) h ts rest x refl s us head

  parameter_lists : (f : ParamsForm) (ts rest : List Token) (x : List Param) → params_at (ts ++ rest) ≡ f
      → S Rule.parameters (grammar.parameters_as f) ts rest x → Is text Symbol.parameters ts x
  parameter_lists params.Empty _ rest _ e meant.Seen.gives = Is.no_parameters
  parameter_lists params.OnlyVoid _ rest _ e (meant.Seen.part i y _ _ (One.one {t = t}) meant.Seen.gives) =
      Is.only_void (void_next t rest e)
  parameter_lists params.Listed _ rest x e (meant.Seen.part i y ts _ part meant.Seen.gives) =
      tail Symbol.parameters x (λ l. l) ts (Is.some_parameters part)

  -- type words are there where they name a type
  first_word : (ws us : List Token) (base : Base) → IsType ws base → first_start (ws ++ us) ≡ first_start ws
  first_word [] us base h = absurd (no_words base h.names)
  first_word (t ∷ ts) us base h = refl

  named_parameters : (b : Bool) (base : Base) (ws us rest : List Token) (x : Param) → name_at (us ++ rest) ≡ b
      → IsType ws base
      → S Rule.parameter (grammar.named_as text base (first_start ((ws ++ us) ++ rest)) b) us rest x
      → Is text Symbol.parameter (ws ++ us) x
  named_parameters true base ws _ rest _ e type (meant.Seen.part i y _ _ (One.one {t = t}) meant.Seen.gives) =
      Is.named type (record { is = is_named (t ∷ rest) e })
  named_parameters false base ws _ rest _ e type meant.Seen.gives =
      let start : first_start ((ws ++ []) ++ rest) ≡ first_start ws =
      ap (λ (l : List Token). first_start (l ++ rest)) (closing.append_nil text ws) ∙ first_word ws rest base type in
      subst (λ (n : ℕ). Is text Symbol.parameter (ws ++ []) (nameless_param base n)) (sym start)
      (tail Symbol.parameter (nameless_param base (first_start ws)) (λ l. l) ws (Is.nameless type))

  -- ---- all rules

  pub closes : (r : Rule) (ts rest : List Token) (x : Result r) → S r (grammar.form_of text r) ts rest x
      → Means r ts rest x
  closes Rule.any _ rest _ meant.Seen.any = One.one
  closes (Rule.token kind) _ rest _ (meant.Seen.token k) = OfKind.of k
  closes Rule.type_name _ rest _ (meant.Seen.words w) = w
  closes Rule.operand ts rest x (meant.Seen.look s) = closing.operands text (operand_at (ts ++ rest)) ts rest x refl s
  closes Rule.postfix _ rest x
      (meant.Seen.part i y ts _ one (meant.Seen.part j z us _ more meant.Seen.gives)) =
      tail Symbol.postfix x (λ l. ts ++ l) us (more ts one)
  closes (Rule.increments e n) ts rest x (meant.Seen.deep (meant.Seen.look s)) =
      closing.increments text e n (increment_at (ts ++ rest)) ts rest x refl s
  closes Rule.unary ts rest x (meant.Seen.look s) = closing.unaries text (prefix_at (ts ++ rest)) ts rest x refl s
  closes Rule.cast ts rest x (meant.Seen.look s) = closing.casts text (cast_at (ts ++ rest)) ts rest x refl s
  closes (Rule.precedence m) ts rest x s = closing.precedences text m ts rest x s
  closes (Rule.operators m e n) ts rest x (meant.Seen.deep (meant.Seen.look s)) =
      closing.operators text m e n (operator_at (m + 1) (ts ++ rest)) ts rest x refl s
  closes Rule.conditional _ rest x (meant.Seen.part i e us ts one (meant.Seen.deep (meant.Seen.look s))) =
      closing.choices text (next_is mark.Question (ts ++ rest)) i e us ts rest x refl one s
  closes Rule.assignment _ rest x (meant.Seen.part i e us ts one (meant.Seen.deep (meant.Seen.look s))) =
      closing.assigneds text (assignment_at (ts ++ rest)) e i us ts rest x refl one s
  closes Rule.expression _ rest x
      (meant.Seen.part i y ts _ one (meant.Seen.part j z us _ more meant.Seen.gives)) =
      tail Symbol.expression x (λ l. ts ++ l) us (more ts (Is.only_assignment one))
  closes (Rule.commas e n) ts rest x (meant.Seen.deep (meant.Seen.look s)) =
      closing.comma_chain text (next_is mark.Comma (ts ++ rest)) e n ts rest x refl s
  closes (Rule.closed m) _ rest _
      (meant.Seen.part i e ts _ ex (meant.Seen.part j c _ _ (OfKind.of close) meant.Seen.gives)) =
      meant.Closed.closed ex (record { is = close })
  closes (Rule.ended m) ts rest x (meant.Seen.look s) = endeds m (next_is m (ts ++ rest)) ts rest x s
  closes Rule.arguments ts rest x (meant.Seen.look s) =
      argument_lists (next_is mark.CloseParen (ts ++ rest)) ts rest x s
  closes (Rule.list l) ts rest x s = lists l ts rest x s
  closes (Rule.more l) ts rest x (meant.Seen.look s) = mores (grammar.goes_on l (ts ++ rest)) l ts rest x refl s
  closes Rule.declaration _ rest _
      (meant.Seen.part i base ws _ type (meant.Seen.part j vs us _ part
      (meant.Seen.part k c _ _ (OfKind.of semicolon) meant.Seen.gives))) =
      Is.declares type part (record { is = semicolon })
  closes (Rule.variable base) _ rest x
      (meant.Seen.part i y _ _ (OfKind.of {t = t} name) (meant.Seen.part j s us _ size
      (meant.Seen.part k z vs _ init meant.Seen.gives))) =
      tail (Symbol.variable base) x (λ l. t ∷ (us ++ l)) vs (Is.declared (record { is = name }) size init)
  closes Rule.size ts rest x (meant.Seen.look s) = sizes (next_is mark.OpenBracket (ts ++ rest)) ts rest x refl s
  closes Rule.length ts rest x (meant.Seen.look s) = lengths (next_is mark.CloseBracket (ts ++ rest)) ts rest x refl s
  closes Rule.initialiser ts rest x (meant.Seen.look s) =
      initialisers (next_is mark.Assign (ts ++ rest)) ts rest x refl s
  closes Rule.given ts rest x (meant.Seen.look s) = givens (next_is mark.OpenBrace (ts ++ rest)) ts rest x refl s
  closes Rule.statement ts rest x (meant.Seen.look s) = statements (form_at (ts ++ rest)) ts rest x refl s
  closes Rule.condition _ rest _
      (meant.Seen.part i y _ _ (OfKind.of {t = o} opens)
      (meant.Seen.part j e _ _ (meant.Closed.closed {ts = ts} {c = c} ex close) meant.Seen.gives)) =
      subst (λ (l : List Token). meant.InParens text (o ∷ l) e) (sym (closing.append_nil text (ts ++ c ∷ [])))
      (meant.InParens.parens (record { is = opens }) ex close)
  closes Rule.branches _ rest x (meant.Seen.part i s us ts one (meant.Seen.look t)) =
      alternatives (else_at (ts ++ rest)) s us ts rest x refl one.0 one.1 t
  closes Rule.until _ rest _
      (meant.Seen.part i y _ _ (OfKind.of {t = w} while)
      (meant.Seen.part j e _ _ (meant.InParens.parens {ts = ts} {o = o} {c = c} opens ex close)
      (meant.Seen.part k m _ _ (OfKind.of {t = d} semicolon) meant.Seen.gives))) =
      subst (λ (l : List Token). meant.Until text (w ∷ o ∷ l) e w.line) (sym (meant.append_assoc text ts (c ∷ []) (d ∷ [])))
      (meant.Until.until (record { is = while }) opens ex close (record { is = semicolon }))
  closes Rule.first ts rest x (meant.Seen.look s) =
      firsts (type_at (ts ++ rest)) (next_is mark.Semicolon (ts ++ rest)) ts rest x s
  closes Rule.controls _ rest _
      (meant.Seen.part i test ts _ a (meant.Seen.part j step us _ b meant.Seen.gives)) =
      subst (λ (l : List Token). meant.Controls text (ts ++ l) test step) (sym (closing.append_nil text us))
      (meant.Controls.controls a b)
  closes Rule.for_head _ rest _
      (meant.Seen.part i y _ _ (OfKind.of {t = o} opens) (meant.Seen.part j f ts _ first_
      (meant.Seen.part k c us _ controls meant.Seen.gives))) =
      subst (λ (l : List Token). meant.Controlled text (o ∷ (ts ++ l)) (ForHead.Head f c.0 c.1))
      (sym (closing.append_nil text us)) (meant.Controlled.controlled (record { is = opens }) first_ controls)
  closes Rule.cases _ rest _
      (meant.Seen.part i y _ _ (OfKind.of opens) (meant.Seen.part j is us _ part
      (meant.Seen.part k c _ _ (OfKind.of close) meant.Seen.gives))) =
      meant.InBraces.braces (record { is = opens }) part (record { is = close })
  closes Rule.item ts rest x (meant.Seen.look s) = items (type_at (ts ++ rest)) ts rest x s
  closes Rule.switch_item ts rest x (meant.Seen.look s) = switch_items (item_at (ts ++ rest)) ts rest x refl s
  closes Rule.outer ts rest x (meant.Seen.look s) = outers (function_at (ts ++ rest)) ts rest x s
  closes Rule.function_head _ rest _
      (meant.Seen.part i base ws _ type (meant.Seen.part j t _ _ (OfKind.of name)
      (meant.Seen.part k o _ _ (OfKind.of opens) (meant.Seen.part l ps us _ part
      (meant.Seen.part m c _ _ (OfKind.of close) meant.Seen.gives))))) =
      Is.heads type (record { is = name }) (record { is = opens }) part (record { is = close })
  closes (Rule.body h) ts rest x (meant.Seen.look s) =
      bodies (next_is mark.Semicolon (ts ++ rest)) h ts rest x refl s
  closes Rule.parameters ts rest x (meant.Seen.look s) = parameter_lists (params_at (ts ++ rest)) ts rest x refl s
  closes Rule.parameter _ rest x (meant.Seen.look (meant.Seen.part i base ws us type (meant.Seen.look s))) =
      named_parameters (name_at (us ++ rest)) base ws us rest x refl type s

-- Tokens are a source with whatever tree they derive.
pub sources : (text : List ℕ) (tokens : List Token) (tree : Tree) → Derives text tokens tree → IsSource text tokens tree
sources text tokens tree d =
    let whole = meant.splits text d.whole (closes text) in
    let all : tokens ≡ whole.front = whole.whole ∙ closing.append_nil text whole.front in
    record {
      outers = subst (λ (l : List Token). Is text (Symbol.following Listed.outers) l tree.outers) (sym all)
          (closes text (Rule.more Listed.outers) whole.front [] tree.outers whole.seen);
      end = d.end;
    }
