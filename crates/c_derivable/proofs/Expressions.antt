-- How expressions of C17's grammar are derived: where a symbol leads back to itself, with what goes on behind it.
use Rattle.std.proofs.Common.{◌≡◌, refl, sym, ap, subst, ◌∙◌, ℕ, zero, suc, ◌+◌, ◌<◌, ◌==◌, max, Bool, true, false, cond, arith, eq-eqb}
use Rattle.std.proofs.Common.{List, [], ◌∷◌, ◌++◌, Option, Some, None}
use Rattle.int_ops.specs.declared.operators.BinOp.{BinOp}
use Rattle.int_ops.specs.declared.operators.BinOp.TheVariants as op
use Rattle.c_tokens.specs.declared.token.Punct.{Punct}
use Rattle.c_tokens.specs.declared.token.Punct.TheVariants as mark
use Rattle.c_tokens.specs.declared.token.Token.{Token}
use Rattle.c_tokens.specs.declared.token.TokenKind.{TokenKind}
use Rattle.c_tokens.specs.declared.token.TokenKind.TheVariants as kind
use Rattle.c_tokens.specs.contracts.token.Punct.{the_type as the_mark}
use denote.Enum.Bare.{true_same}
use Rattle.c_tree.specs.Expr.{Expr, Kind}
use Rattle.c_tree.specs.TreeView.{exprs_of}
use Rattle.std.specs.Prelude.{ℤ}
use Rattle.int_ops.specs.declared.types.IntType.{IntType}
use Rattle.c_grammar.specs.declared.begins.Operand.TheVariants as first
use Rattle.c_grammar.specs.declared.begins.UnaryOperator.{UnaryOperator}
use Rattle.c_grammar.specs.declared.begins.UnaryOperator.TheVariants as unary
use Rattle.c_grammar.specs.declared.begins.Prefix.TheVariants as prefix
use Rattle.c_grammar.specs.declared.begins.BinaryOperator.{BinaryOperator}
use Rattle.c_grammar.specs.declared.begins.BinaryOperator.TheVariants as binary
use Rattle.c_grammar.specs.Words.{name_of, mark_of, mark_at, is_mark, next_is}
use Rattle.c_grammar.specs.Operators.{
  operand_of,
  operand_at,
  increment_of,
  increment_at,
  signed,
  prefix_of,
  prefix_at,
  cast_at,
  operator_if,
  operator_precedence,
  with_precedence,
  operator_at,
  joined,
  assignment_of,
  assignment_at,
  is_unary,
  at,
}
use Rattle.c_grammar.specs.Rules.{Rule, Result}
use Rattle.c_grammar.specs.Grammar as grammar
use Rattle.c_syntax.specs.Syntax.{IsMark, IsName, Increments, Signs, Operates, Assigns, Symbol, Is}
use Rattle.c_derivable.proofs.Marks.{looseness, Ends, Plain, plain, no_increment, no_operator, no_choice, no_assignment, no_comma}
use Rattle.c_derivable.proofs.Begins.{starts_operand, no_prefix, opens, seen, unary_is_no_cast}
use Rattle.c_derivable.proofs.Forms.{append_assoc}
use Rattle.c_derivable.proofs.Forms as forms

-- ---- what marks are

pub is_next : (m : Punct) (t : Token) (ts : List Token) → IsMark m t → next_is m (t ∷ ts) ≡ true
is_next m t ts k = ap (λ (k : TokenKind). is_mark m (mark_of (Some k))) k.is ∙ true_same the_mark m m refl

pub ends_at : (g : ℕ) (m : Punct) (t : Token) (ts : List Token) → IsMark m t → g < looseness (Some m) → Ends g (t ∷ ts)
ends_at g m t ts k l = subst (λ (k : TokenKind). g < looseness (mark_of (Some k))) (sym k.is) l

increment_seen : {j : BinOp} {t : Token} → Increments j t → increment_of (mark_of (Some t.kind)) ≡ Some j
increment_seen (Increments.plus_plus k) = ap (λ (k : TokenKind). increment_of (mark_of (Some k))) k.is
increment_seen (Increments.minus_minus k) = ap (λ (k : TokenKind). increment_of (mark_of (Some k))) k.is

increment_plain : {j : BinOp} {t : Token} → Increments j t → operand_of (Some kind.Name) (mark_of (Some t.kind)) ≡ first.Name
increment_plain (Increments.plus_plus k) = ap (λ (k : TokenKind). operand_of (Some kind.Name) (mark_of (Some k))) k.is
increment_plain (Increments.minus_minus k) = ap (λ (k : TokenKind). operand_of (Some kind.Name) (mark_of (Some k))) k.is

increment_before : {j : BinOp} {t : Token} → Increments j t → prefix_of (mark_of (Some t.kind)) ≡ prefix.Increment j
increment_before (Increments.plus_plus k) = ap (λ (k : TokenKind). prefix_of (mark_of (Some k))) k.is
increment_before (Increments.minus_minus k) = ap (λ (k : TokenKind). prefix_of (mark_of (Some k))) k.is

sign_before : {j : UnaryOperator} {t : Token} → Signs j t → prefix_of (mark_of (Some t.kind)) ≡ prefix.Operator j
sign_before (Signs.plus k) = ap (λ (k : TokenKind). prefix_of (mark_of (Some k))) k.is
sign_before (Signs.minus k) = ap (λ (k : TokenKind). prefix_of (mark_of (Some k))) k.is
sign_before (Signs.complement k) = ap (λ (k : TokenKind). prefix_of (mark_of (Some k))) k.is
sign_before (Signs.not k) = ap (λ (k : TokenKind). prefix_of (mark_of (Some k))) k.is

-- the mark of an operator, where each property of the mark is one of the token
by_mark : (m : Punct) (j : BinaryOperator) (t : Token) → IsMark m t
    → (operator_if (Some m) ≡ Some j) × (looseness (Some m) ≡ operator_precedence j)
    → (operator_if (mark_of (Some t.kind)) ≡ Some j) × (looseness (mark_of (Some t.kind)) ≡ operator_precedence j)
by_mark m j t k h =
    subst (λ (k : TokenKind). (operator_if (mark_of (Some k)) ≡ Some j) × (looseness (mark_of (Some k)) ≡ operator_precedence j))
    (sym k.is) h

pub operator_is : {j : BinaryOperator} {t : Token} → Operates j t
    → (operator_if (mark_of (Some t.kind)) ≡ Some j) × (looseness (mark_of (Some t.kind)) ≡ operator_precedence j)
operator_is (Operates.multiplies {t = t} k) = by_mark mark.Star (binary.Plain op.Mul) t k (refl, refl)
operator_is (Operates.divides {t = t} k) = by_mark mark.Slash (binary.Plain op.Div) t k (refl, refl)
operator_is (Operates.takes_rest {t = t} k) = by_mark mark.Percent (binary.Plain op.Rem) t k (refl, refl)
operator_is (Operates.adds {t = t} k) = by_mark mark.Plus (binary.Plain op.Add) t k (refl, refl)
operator_is (Operates.subtracts {t = t} k) = by_mark mark.Minus (binary.Plain op.Sub) t k (refl, refl)
operator_is (Operates.shifts_left {t = t} k) = by_mark mark.ShiftLeft (binary.Plain op.Shl) t k (refl, refl)
operator_is (Operates.shifts_right {t = t} k) = by_mark mark.ShiftRight (binary.Plain op.Shr) t k (refl, refl)
operator_is (Operates.is_less {t = t} k) = by_mark mark.Less (binary.Plain op.Less) t k (refl, refl)
operator_is (Operates.is_greater {t = t} k) = by_mark mark.Greater (binary.Plain op.Greater) t k (refl, refl)
operator_is (Operates.is_at_most {t = t} k) = by_mark mark.LessEqual (binary.Plain op.LessEqual) t k (refl, refl)
operator_is (Operates.is_at_least {t = t} k) = by_mark mark.GreaterEqual (binary.Plain op.GreaterEqual) t k (refl, refl)
operator_is (Operates.is_equal {t = t} k) = by_mark mark.EqualEqual (binary.Plain op.Equal) t k (refl, refl)
operator_is (Operates.differs {t = t} k) = by_mark mark.NotEqual (binary.Plain op.NotEqual) t k (refl, refl)
operator_is (Operates.has_both {t = t} k) = by_mark mark.And (binary.Plain op.And) t k (refl, refl)
operator_is (Operates.has_one {t = t} k) = by_mark mark.Caret (binary.Plain op.Xor) t k (refl, refl)
operator_is (Operates.has_any {t = t} k) = by_mark mark.Or (binary.Plain op.Or) t k (refl, refl)
operator_is (Operates.both {t = t} k) = by_mark mark.AndAnd binary.LogicalAnd t k (refl, refl)
operator_is (Operates.either {t = t} k) = by_mark mark.OrOr binary.LogicalOr t k (refl, refl)

pub operator_seen : (n : ℕ) {j : BinaryOperator} {t : Token} → Operates j t → operator_precedence j ≡ suc n
    → with_precedence (n + 1) (operator_if (mark_of (Some t.kind))) ≡ Some j
operator_seen n {j = j} o p =
    ap (with_precedence (n + 1)) (operator_is o).0
    ∙ ap (λ (k : ℕ). cond (k == n + 1) (Some j) None) p
    ∙ ap (λ (b : Bool). cond b (Some j) None) (eq-eqb (suc n) (n + 1) (omega arith))

-- the mark of an assignment
by_assignment : (m : Punct) (o : Option BinOp) (t : Token) → IsMark m t
    → (assignment_of (Some m) ≡ Some o) × (looseness (Some m) ≡ 12)
    → (assignment_of (mark_of (Some t.kind)) ≡ Some o) × (looseness (mark_of (Some t.kind)) ≡ 12)
by_assignment m o t k h =
    subst (λ (k : TokenKind). (assignment_of (mark_of (Some k)) ≡ Some o) × (looseness (mark_of (Some k)) ≡ 12)) (sym k.is) h

pub assignment_is : {o : Option BinOp} {t : Token} → Assigns o t
    → (assignment_of (mark_of (Some t.kind)) ≡ Some o) × (looseness (mark_of (Some t.kind)) ≡ 12)
assignment_is (Assigns.gives_it {t = t} k) = by_assignment mark.Assign None t k (refl, refl)
assignment_is (Assigns.multiplies_it {t = t} k) = by_assignment mark.StarAssign (Some op.Mul) t k (refl, refl)
assignment_is (Assigns.divides_it {t = t} k) = by_assignment mark.SlashAssign (Some op.Div) t k (refl, refl)
assignment_is (Assigns.rests_it {t = t} k) = by_assignment mark.PercentAssign (Some op.Rem) t k (refl, refl)
assignment_is (Assigns.adds_to_it {t = t} k) = by_assignment mark.PlusAssign (Some op.Add) t k (refl, refl)
assignment_is (Assigns.subtracts_from_it {t = t} k) = by_assignment mark.MinusAssign (Some op.Sub) t k (refl, refl)
assignment_is (Assigns.shifts_it_left {t = t} k) = by_assignment mark.ShiftLeftAssign (Some op.Shl) t k (refl, refl)
assignment_is (Assigns.shifts_it_right {t = t} k) = by_assignment mark.ShiftRightAssign (Some op.Shr) t k (refl, refl)
assignment_is (Assigns.meets_it {t = t} k) = by_assignment mark.AndAssign (Some op.And) t k (refl, refl)
assignment_is (Assigns.flips_it {t = t} k) = by_assignment mark.CaretAssign (Some op.Xor) t k (refl, refl)
assignment_is (Assigns.joins_it {t = t} k) = by_assignment mark.OrAssign (Some op.Or) t k (refl, refl)

-- the tree of a unary expression may be assigned to
pub unary_is_unary : {text : List ℕ} {ts : List Token} {x : Expr} → Is text Symbol.unary_expression ts x → is_unary x ≡ true
unary_is_unary (Is.only_postfix h) = postfix_is_unary h
  where
    postfix_is_unary : {text : List ℕ} {ts : List Token} {x : Expr} → Is text Symbol.postfix ts x → is_unary x ≡ true
    postfix_is_unary (Is.only_primary (Is.name k)) = refl
    postfix_is_unary (Is.only_primary (Is.number k)) = refl
    postfix_is_unary (Is.only_primary (Is.eof_name k)) = refl
    postfix_is_unary (Is.only_primary (Is.paren o h c)) = refl
    postfix_is_unary (Is.call t o h c) = refl
    postfix_is_unary (Is.index t o h c) = refl
    postfix_is_unary (Is.incremented h i) = refl
unary_is_unary (Is.increments i h) = refl
unary_is_unary (Is.has_sign {j = unary.Plus} i h) = refl
unary_is_unary (Is.has_sign {j = unary.Minus} i h) = refl
unary_is_unary (Is.has_sign {j = unary.Complement} i h) = refl
unary_is_unary (Is.has_sign {j = unary.Not} i h) = refl

module _ (text : List ℕ) where
  abbrev D : (r : Rule) → List Token → Result r → List Token → Type 0
  D r ts x rest = forms.Derived text r ts x rest

  -- What is shown of the tokens of a symbol: with what may stand behind them they are derived. Where what goes on
  -- belongs to the same rule, that is derived with them.
  abbrev pub Alone : (r : Rule) → ℕ → List Token → Result r → Type 0
  Alone r g ts x = (rest : List Token) → Ends g rest → D r (ts ++ rest) x rest

  abbrev pub OfPrimary : List Token → Expr → Type 0
  OfPrimary ts x = (rest : List Token) → Plain rest → D Rule.operand (ts ++ rest) x rest

  abbrev pub OfPostfix : List Token → Expr → Type 0
  OfPostfix ts x = (rest : List Token) (y : Expr) (end : List Token) → Plain rest
      → ((k : ℕ) → D (Rule.increments x k) rest y end) → D Rule.postfix (ts ++ rest) y end

  abbrev pub OfBinary : ℕ → List Token → Expr → Type 0
  OfBinary zero ts x = Alone (Rule.precedence 0) 0 ts x
  OfBinary (suc m) ts x = (rest : List Token) (y : Expr) (end : List Token) → Ends m rest
      → ((k : ℕ) → D (Rule.operators m x k) rest y end) → D (Rule.precedence (suc m)) (ts ++ rest) y end

  abbrev pub OfExpression : List Token → Expr → Type 0
  OfExpression ts x = (rest : List Token) (y : Expr) (end : List Token) → Ends 12 rest
      → ((k : ℕ) → D (Rule.commas x k) rest y end) → D Rule.expression (ts ++ rest) y end

  -- ---- where nothing goes on

  postfix_alone : (ts : List Token) {x : Expr} → OfPostfix ts x → Alone Rule.postfix 0 ts x
  postfix_alone ts {x = x} h rest l =
      h rest x rest (plain (mark_at rest) l)
      (λ k. forms.deep text (Rule.increments x k)
      (forms.look text (Rule.increments x k) (grammar.increments_as x k) increment_at None (no_increment (mark_at rest) l)
      (forms.done text (Rule.increments x k))))

  pub binary_alone : (n : ℕ) (ts : List Token) {x : Expr} → OfBinary n ts x → Alone (Rule.precedence n) n ts x
  binary_alone zero ts h rest l = h rest l
  binary_alone (suc m) ts {x = x} h rest l =
      h rest x rest (omega (arith, l))
      (λ k. forms.deep text (Rule.operators m x k)
      (forms.look text (Rule.operators m x k) (grammar.operators_as m x k) (operator_at (m + 1)) None
      (no_operator (suc m) (m + 1) (mark_at rest) (omega arith) l) (forms.done text (Rule.operators m x k))))

  pub expression_alone : (ts : List Token) {x : Expr} → OfExpression ts x → Alone Rule.expression 13 ts x
  expression_alone ts {x = x} h rest l =
      h rest x rest (omega (arith, l))
      (λ k. forms.deep text (Rule.commas x k)
      (forms.look text (Rule.commas x k) (grammar.commas_as x k) (next_is mark.Comma) false (no_comma (mark_at rest) l)
      (forms.done text (Rule.commas x k))))

  -- an expression and a mark that ends it
  pub closed : (m : Punct) (ts : List Token) {x : Expr} {c : Token} (rest : List Token) → 13 < looseness (Some m)
      → IsMark m c → OfExpression ts x → D (Rule.closed m) (ts ++ c ∷ rest) x rest
  closed m ts {x = x} {c = c} rest l k h =
      forms.part text (Rule.closed m) Rule.expression (expression_alone ts h (c ∷ rest) (ends_at 13 m c rest k l))
      (λ n. forms.mark text (Rule.closed m) k (forms.done text (Rule.closed m)))

  -- ---- primary and postfix expressions

  operand_at_kind : (t : Token) (k : TokenKind) (rest : List Token) → t.kind ≡ k
      → operand_at (t ∷ rest) ≡ operand_of (Some k) (mark_at rest)
  operand_at_kind t k rest e = ap (λ (k : TokenKind). operand_of (Some k) (mark_at rest)) e

  pub of_name : {t : Token} → IsName t → OfPrimary (t ∷ []) (at t (Kind.Name (name_of text t)))
  of_name {t = t} k rest p =
      forms.look text Rule.operand (grammar.operand_as text) operand_at first.Name (operand_at_kind t kind.Name rest k.is ∙ p)
      (forms.token text Rule.operand (forms.deep text Rule.operand (forms.done text Rule.operand)))

  pub of_number : {t : Token} {n : ℤ} {type : IntType} → t.kind ≡ kind.Number n type
      → OfPrimary (t ∷ []) (at t (Kind.Number n type))
  of_number {t = t} {n = n} {type = type} k rest p =
      forms.look text Rule.operand (grammar.operand_as text) operand_at (first.Number n type)
      (operand_at_kind t (kind.Number n type) rest k)
      (forms.token text Rule.operand (forms.deep text Rule.operand (forms.done text Rule.operand)))

  pub of_eof_name : {t : Token} → t.kind ≡ kind.EofName → OfPrimary (t ∷ []) (at t Kind.EofName)
  of_eof_name {t = t} k rest p =
      forms.look text Rule.operand (grammar.operand_as text) operand_at first.EofName (operand_at_kind t kind.EofName rest k)
      (forms.token text Rule.operand (forms.deep text Rule.operand (forms.done text Rule.operand)))

  pub of_paren : {o c : Token} (ts : List Token) {e : Expr} → IsMark mark.OpenParen o → OfExpression ts e
      → IsMark mark.CloseParen c → OfPrimary (o ∷ ts ++ c ∷ []) (at o (Kind.Paren e))
  of_paren {o = o} {c = c} ts {e = e} p h q rest pl =
      forms.look text Rule.operand (grammar.operand_as text) operand_at first.Paren
      (operand_at_kind o (kind.Mark mark.OpenParen) ((ts ++ c ∷ []) ++ rest) p.is)
      (forms.token text Rule.operand (forms.moved text Rule.operand _ (append_assoc ts (c ∷ []) rest)
      (forms.part text Rule.operand (Rule.closed mark.CloseParen) (closed mark.CloseParen ts rest (omega arith) q h)
      (λ n. forms.done text Rule.operand))))

  -- an operand, and what goes on behind it
  pub operand_goes_on : (ts : List Token) {x : Expr} → OfPrimary ts x → OfPostfix ts x
  operand_goes_on ts {x = x} h rest y end p then =
      forms.part text Rule.postfix Rule.operand (h rest p)
      (λ m. forms.part text Rule.postfix (Rule.increments x m) (then m) (λ n. forms.done text Rule.postfix))

  name_before : (t o : Token) (m : Punct) → IsName t → IsMark m o
      → operand_of (Some t.kind) (mark_of (Some o.kind)) ≡ operand_of (Some kind.Name) (Some m)
  name_before t o m k p =
      ap (λ (k : TokenKind). operand_of (Some k) (mark_of (Some o.kind))) k.is
      ∙ ap (λ (k : TokenKind). operand_of (Some kind.Name) (mark_of (Some k))) p.is

  pub of_call : {t o c : Token} (ts : List Token) {es : List Expr} → IsName t → IsMark mark.OpenParen o
      → ((rest : List Token) → D Rule.arguments (ts ++ c ∷ rest) es (c ∷ rest)) → IsMark mark.CloseParen c
      → OfPrimary (t ∷ o ∷ ts ++ c ∷ []) (at t (Kind.Call (name_of text t) (exprs_of es)))
  of_call {t = t} {o = o} {c = c} ts k p h q rest pl =
      forms.look text Rule.operand (grammar.operand_as text) operand_at first.Call (name_before t o mark.OpenParen k p)
      (forms.token text Rule.operand (forms.token text Rule.operand
      (forms.moved text Rule.operand _ (append_assoc ts (c ∷ []) rest)
      (forms.part text Rule.operand Rule.arguments (h rest)
      (λ n. forms.mark text Rule.operand q (forms.done text Rule.operand))))))

  pub of_index : {t o c : Token} (ts : List Token) {e : Expr} → IsName t → IsMark mark.OpenBracket o → OfExpression ts e
      → IsMark mark.CloseBracket c → OfPrimary (t ∷ o ∷ ts ++ c ∷ []) (at o (Kind.Index (name_of text t) t.start t.line e))
  of_index {t = t} {o = o} {c = c} ts k p h q rest pl =
      forms.look text Rule.operand (grammar.operand_as text) operand_at first.Index (name_before t o mark.OpenBracket k p)
      (forms.token text Rule.operand (forms.token text Rule.operand
      (forms.moved text Rule.operand _ (append_assoc ts (c ∷ []) rest)
      (forms.part text Rule.operand (Rule.closed mark.CloseBracket) (closed mark.CloseBracket ts rest (omega arith) q h)
      (λ n. forms.done text Rule.operand)))))

  pub of_incremented : {t : Token} (ts : List Token) {e : Expr} {j : BinOp} → OfPostfix ts e → Increments j t
      → OfPostfix (ts ++ t ∷ []) (at t (Kind.After j e))
  of_incremented {t = t} ts {e = e} {j = j} h i rest y end p then =
      forms.moved text Rule.postfix _ (append_assoc ts (t ∷ []) rest)
      (h (t ∷ rest) y end (increment_plain i)
      (λ k. forms.deep text (Rule.increments e k)
      (forms.look text (Rule.increments e k) (grammar.increments_as e k) increment_at (Some j) (increment_seen i)
      (forms.token text (Rule.increments e k)
      (forms.part text (Rule.increments e k) (Rule.increments (at t (Kind.After j e)) (k + 1)) (then (k + 1))
      (λ n. forms.done text (Rule.increments e k)))))))

  -- ---- unary and cast expressions

  pub of_postfix : (ts : List Token) {e : Expr} → Is text Symbol.postfix ts e → OfPostfix ts e → Alone Rule.unary 0 ts e
  of_postfix ts is h rest l =
      forms.look text Rule.unary grammar.unary_as prefix_at prefix.Absent
      (seen starts_operand (λ k. prefix_of (mark_of k)) prefix.Absent no_prefix ts rest (opens text is) prefix_at (λ t us. refl))
      (forms.part text Rule.unary Rule.postfix (postfix_alone ts h rest l) (λ n. forms.done text Rule.unary))

  pub of_increments : {t : Token} (ts : List Token) {e : Expr} {j : BinOp} → Increments j t → Alone Rule.unary 0 ts e
      → Alone Rule.unary 0 (t ∷ ts) (at t (Kind.Before j e))
  of_increments ts {j = j} i h rest l =
      forms.look text Rule.unary grammar.unary_as prefix_at (prefix.Increment j) (increment_before i)
      (forms.token text Rule.unary
      (forms.part text Rule.unary Rule.unary (h rest l) (λ n. forms.done text Rule.unary)))

  pub of_sign : {t : Token} (ts : List Token) {e : Expr} {j : UnaryOperator} → Signs j t → Alone Rule.cast 0 ts e
      → Alone Rule.unary 0 (t ∷ ts) (at t (signed j e))
  of_sign ts {j = j} i h rest l =
      forms.look text Rule.unary grammar.unary_as prefix_at (prefix.Operator j) (sign_before i)
      (forms.token text Rule.unary
      (forms.part text Rule.unary Rule.cast (h rest l) (λ n. forms.done text Rule.unary)))

  pub of_unary : (ts : List Token) {e : Expr} → Is text Symbol.unary_expression ts e → Alone Rule.unary 0 ts e
      → Alone Rule.cast 0 ts e
  of_unary ts is h rest l =
      forms.look text Rule.cast grammar.cast_as cast_at false (unary_is_no_cast text is rest)
      (forms.part text Rule.cast Rule.unary (h rest l) (λ n. forms.done text Rule.cast))

  pub of_cast : (ts : List Token) {e : Expr} → Alone Rule.cast 0 ts e → OfBinary 0 ts e
  of_cast ts h rest l =
      forms.part text (Rule.precedence 0) Rule.cast (h rest l) (λ n. forms.done text (Rule.precedence 0))

  -- ---- binary expressions

  pub of_tighter : (n : ℕ) (ts : List Token) {e : Expr} → OfBinary n ts e → OfBinary (suc n) ts e
  of_tighter n ts {e = e} h rest y end l then =
      forms.part text (Rule.precedence (suc n)) (Rule.precedence n) (binary_alone n ts h rest l)
      (λ m. forms.part text (Rule.precedence (suc n)) (Rule.operators n e m) (then m)
      (λ k. forms.done text (Rule.precedence (suc n))))

  climbed : (n : ℕ) (ts : List Token) {e : Expr} → OfBinary 0 ts e → OfBinary n ts e
  climbed zero ts h = h
  climbed (suc n) ts h = of_tighter n ts (climbed n ts h)

  pub of_operates : {t : Token} (n : ℕ) (ts us : List Token) (l r : Expr) {j : BinaryOperator} → OfBinary (suc n) ts l
      → Operates j t → operator_precedence j ≡ suc n → OfBinary n us r
      → OfBinary (suc n) (ts ++ t ∷ us) (at t (joined j l r))
  of_operates {t = t} n ts us l r {j = j} hl o p hr rest y end e then =
      forms.moved text (Rule.precedence (suc n)) _ (append_assoc ts (t ∷ us) rest)
      (hl (t ∷ us ++ rest) y end (let loose = (operator_is o).1 in omega (arith, loose, p))
      (λ k. forms.deep text (Rule.operators n l k)
      (forms.look text (Rule.operators n l k) (grammar.operators_as n l k) (operator_at (n + 1)) (Some j) (operator_seen n o p)
      (forms.token text (Rule.operators n l k)
      (forms.part text (Rule.operators n l k) (Rule.precedence n) (binary_alone n us hr rest e)
      (λ m. forms.part text (Rule.operators n l k) (Rule.operators n (at t (joined j l r)) (1 + max k m)) (then (1 + max k m))
      (λ q. forms.done text (Rule.operators n l k))))))))

  -- ---- conditional, assignment and comma expressions

  pub of_binary : (ts : List Token) {e : Expr} → OfBinary 10 ts e → Alone Rule.conditional 11 ts e
  of_binary ts {e = e} h rest l =
      forms.part text Rule.conditional (Rule.precedence 10) (binary_alone 10 ts h rest (omega (arith, l)))
      (λ m. forms.deep text Rule.conditional
      (forms.look text Rule.conditional (grammar.choice_as e m) (next_is mark.Question) false (no_choice (mark_at rest) l)
      (forms.done text Rule.conditional)))

  pub of_chooses : {q c : Token} (ts us vs : List Token) {e a b : Expr} → OfBinary 10 ts e → IsMark mark.Question q
      → OfExpression us a → IsMark mark.Colon c → Alone Rule.conditional 11 vs b
      → Alone Rule.conditional 11 (ts ++ (q ∷ us ++ c ∷ vs)) (at q (Kind.Choose e a b))
  of_chooses {q = q} {c = c} ts us vs {e = e} h k ha d hb rest l =
      forms.moved text Rule.conditional _
      (append_assoc ts (q ∷ us ++ c ∷ vs) rest ∙ ap (λ (l : List Token). ts ++ q ∷ l) (append_assoc us (c ∷ vs) rest))
      (forms.part text Rule.conditional (Rule.precedence 10)
      (binary_alone 10 ts h (q ∷ us ++ c ∷ (vs ++ rest)) (ends_at 10 mark.Question q (us ++ c ∷ (vs ++ rest)) k (omega arith)))
      (λ m. forms.deep text Rule.conditional
      (forms.look text Rule.conditional (grammar.choice_as e m) (next_is mark.Question) true (is_next mark.Question q (us ++ c ∷ (vs ++ rest)) k)
      (forms.token text Rule.conditional
      (forms.part text Rule.conditional (Rule.closed mark.Colon) (closed mark.Colon us (vs ++ rest) (omega arith) d ha)
      (λ n. forms.part text Rule.conditional Rule.conditional (hb rest l)
      (λ p. forms.deep text Rule.conditional (forms.done text Rule.conditional))))))))

  pub of_conditional : (ts : List Token) {e : Expr} → Alone Rule.conditional 11 ts e → Alone Rule.assignment 12 ts e
  of_conditional ts {e = e} h rest l =
      forms.part text Rule.assignment Rule.conditional (h rest (omega (arith, l)))
      (λ m. forms.deep text Rule.assignment
      (forms.look text Rule.assignment (grammar.assigned_as e m) assignment_at None (no_assignment (mark_at rest) l)
      (forms.done text Rule.assignment)))

  pub of_assigns : {t : Token} (ts us : List Token) {l r : Expr} {o : Option BinOp}
      → Is text Symbol.unary_expression ts l → Alone Rule.unary 0 ts l → Assigns o t → Alone Rule.assignment 12 us r
      → Alone Rule.assignment 12 (ts ++ t ∷ us) (at t (Kind.Assign o l r))
  of_assigns {t = t} ts us {l = l} {r = r} {o = o} is hl a hr rest e =
      forms.moved text Rule.assignment _ (append_assoc ts (t ∷ us) rest)
      (forms.part text Rule.assignment Rule.conditional
      (of_binary ts (climbed 10 ts (of_cast ts (of_unary ts is hl))) (t ∷ us ++ rest)
      (let loose = (assignment_is a).1 in omega (arith, loose)))
      (λ m. forms.deep text Rule.assignment
      (forms.look text Rule.assignment (grammar.assigned_as l m) assignment_at (Some o) (assignment_is a).0
      (subst (λ (b : Bool). forms.Formed text Rule.assignment (grammar.target l m o b) (t ∷ us ++ rest)
      (at t (Kind.Assign o l r)) rest) (sym (unary_is_unary is))
      (forms.token text Rule.assignment
      (forms.part text Rule.assignment Rule.assignment (hr rest e)
      (λ n. forms.deep text Rule.assignment (forms.done text Rule.assignment))))))))

  pub of_assignment : (ts : List Token) {e : Expr} → Alone Rule.assignment 12 ts e → OfExpression ts e
  of_assignment ts {e = e} h rest y end l then =
      forms.part text Rule.expression Rule.assignment (h rest l)
      (λ m. forms.part text Rule.expression (Rule.commas e m) (then m) (λ n. forms.done text Rule.expression))

  pub of_comma : {t : Token} (ts us : List Token) {l r : Expr} → OfExpression ts l → IsMark mark.Comma t
      → Alone Rule.assignment 12 us r → OfExpression (ts ++ t ∷ us) (at t (Kind.Comma l r))
  of_comma {t = t} ts us {l = l} {r = r} hl k hr rest y end e then =
      forms.moved text Rule.expression _ (append_assoc ts (t ∷ us) rest)
      (hl (t ∷ us ++ rest) y end (ends_at 12 mark.Comma t (us ++ rest) k (omega arith))
      (λ m. forms.deep text (Rule.commas l m)
      (forms.look text (Rule.commas l m) (grammar.commas_as l m) (next_is mark.Comma) true (is_next mark.Comma t (us ++ rest) k)
      (forms.token text (Rule.commas l m)
      (forms.part text (Rule.commas l m) Rule.assignment (hr rest e)
      (λ n. forms.part text (Rule.commas l m) (Rule.commas (at t (Kind.Comma l r)) (1 + max m n)) (then (1 + max m n))
      (λ q. forms.done text (Rule.commas l m))))))))
