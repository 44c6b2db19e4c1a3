-- What the form of each rule means is what the rule means.
use Rattle.std.proofs.Common.{◌≡◌, refl, sym, ap, subst, ◌∙◌, ℕ, zero, suc, ◌+◌, ◌==◌, Bool, true, false, cond}
use Rattle.std.proofs.Common.{List, [], ◌∷◌, ◌++◌, Option, Some, None, not, eqb-true, arith}
use Rattle.std.specs.Prelude.{ℤ}
use Rattle.int_ops.specs.declared.types.IntType.{IntType}
use Rattle.int_ops.specs.declared.operators.BinOp.{BinOp}
use Rattle.int_ops.specs.declared.operators.BinOp.TheVariants as op
use Rattle.c_tokens.specs.declared.token.Keyword.{Keyword}
use Rattle.c_tokens.specs.declared.token.Keyword.TheVariants as key
use Rattle.c_tokens.specs.declared.token.Punct.{Punct}
use Rattle.c_tokens.specs.declared.token.Punct.TheVariants as mark
use Rattle.c_tokens.specs.declared.token.Token.{Token}
use Rattle.c_tokens.specs.declared.token.TokenKind.{TokenKind}
use Rattle.c_tokens.specs.declared.token.TokenKind.TheVariants as kind
use Rattle.c_tree.specs.declared.expr.Base.{Base}
use Rattle.c_tree.specs.Expr.{Expr, Kind}
use Rattle.c_tree.specs.Stmt.{Size, Init, Var, Stmt, OtherStmt, ForHead, SwitchItem}
use Rattle.c_tree.specs.Tree.{Param, Head, Outer}
use Rattle.c_grammar.specs.declared.begins.Operand.{Operand}
use Rattle.c_grammar.specs.declared.begins.Operand.TheVariants as first
use Rattle.c_grammar.specs.declared.begins.UnaryOperator.{UnaryOperator}
use Rattle.c_grammar.specs.declared.begins.UnaryOperator.TheVariants as unary
use Rattle.c_grammar.specs.declared.begins.Prefix.{Prefix}
use Rattle.c_grammar.specs.declared.begins.Prefix.TheVariants as prefix
use Rattle.c_grammar.specs.declared.begins.BinaryOperator.{BinaryOperator}
use Rattle.c_grammar.specs.declared.begins.BinaryOperator.TheVariants as binary
use Rattle.c_grammar.specs.declared.begins.StmtForm.{StmtForm}
use Rattle.c_grammar.specs.declared.begins.StmtForm.TheVariants as form
use Rattle.c_grammar.specs.declared.begins.ItemForm.{ItemForm}
use Rattle.c_grammar.specs.declared.begins.ItemForm.TheVariants as label
use Rattle.c_grammar.specs.declared.begins.ParamsForm.{ParamsForm}
use Rattle.c_grammar.specs.declared.begins.ParamsForm.TheVariants as params
use Rattle.c_grammar.specs.Words.{name_of, next_kind, behind, mark_of, mark_at, is_mark, next_is, key_of, key_at, is_name, name_at, type_at}
use Rattle.c_grammar.specs.Operators.{
  operand_of,
  operand_at,
  increment_of,
  increment_at,
  signed,
  prefix_of,
  prefix_at,
  cast_at,
  operator_of,
  operator_if,
  operator_precedence,
  with_precedence,
  operator_at,
  joined,
  assignment_of,
  assignment_at,
  is_unary,
  at,
}
use Rattle.c_grammar.specs.Forms.{form_of as stmt_form_of, form_at, is_else, else_at, item_of, item_at, is_void, params_at}
use Rattle.c_grammar.specs.Forms.{all_named, further_at, none_at, function_at, value_of}
use Rattle.c_grammar.specs.Rules.{Listed, Member, Rule, Result}
use Rattle.c_grammar.specs.Grammar as grammar
use Rattle.c_grammar.proofs.Leaves.{marked, named as is_named, worded}
use Rattle.c_syntax.specs.Syntax.{IsMark, IsKey, IsName, IsType, takes_else, other_takes_else, Symbol, Value, symbol_of}
use Rattle.c_syntax.specs.Syntax.{member_of, Is, Increments, Signs, Operates, Assigns}
use Rattle.c_syntax.proofs.Meant.{One, OfKind}
use Rattle.c_syntax.proofs.Meant as meant

pub and_left : (a b : Bool) → cond a b false ≡ true → a ≡ true
and_left true b h = refl
and_left false b h = h

-- ---- kinds of tokens

pub mark_is : (t : Token) (m : Punct) → mark_of (Some t.kind) ≡ Some m → IsMark m t
mark_is t m e = record { is = go t.kind e }
  where
    go : (k : TokenKind) → mark_of (Some k) ≡ Some m → k ≡ kind.Mark m
    go (kind.Mark n) e = (let same : Some n ≡ Some m = e in cc)
    go kind.Name e = absurd (cc)
    go (kind.Number n t) e = absurd (cc)
    go kind.EofName e = absurd (cc)
    go (kind.Key k) e = absurd (cc)

pub next_mark : (t : Token) (ts : List Token) (m : Punct) → next_is m (t ∷ ts) ≡ true → IsMark m t
next_mark t ts m e = record { is = marked m (t ∷ ts) e }

pub next_key : (t : Token) (ts : List Token) (k : Keyword) → key_at (t ∷ ts) ≡ Some k → IsKey k t
next_key t ts k e = record { is = worded k (t ∷ ts) e }

abbrev OperandIs : TokenKind → Option Punct → Operand → Type 0
OperandIs k m first.Name = k ≡ kind.Name
OperandIs k m (first.Number n t) = k ≡ kind.Number n t
OperandIs k m first.EofName = k ≡ kind.EofName
OperandIs k m first.Paren = k ≡ kind.Mark mark.OpenParen
OperandIs k m first.Call = (k ≡ kind.Name) × (m ≡ Some mark.OpenParen)
OperandIs k m first.Index = (k ≡ kind.Name) × (m ≡ Some mark.OpenBracket)
OperandIs k m first.Absent = Unit {0}

operand_is : (k : TokenKind) (m : Option Punct) → OperandIs k m (operand_of (Some k) m)
operand_is kind.Name (Some mark.OpenParen) = (refl, refl)
operand_is kind.Name (Some mark.OpenBracket) = (refl, refl)
operand_is kind.Name _ = refl
operand_is (kind.Number n t) m = refl
operand_is kind.EofName m = refl
operand_is (kind.Mark mark.OpenParen) m = refl
operand_is _ m = tt

operand_told : (t : Token) (ts : List Token) (o : Operand) → operand_at (t ∷ ts) ≡ o → OperandIs t.kind (mark_at ts) o
operand_told t ts o e = subst (λ (o : Operand). OperandIs t.kind (mark_at ts) o) e (operand_is t.kind (mark_at ts))

abbrev IncrementIs : Token → Option BinOp → Type 0
IncrementIs t None = Unit {0}
IncrementIs t (Some o) = Increments o t

increment_is : (t : Token) (m : Option Punct) → mark_of (Some t.kind) ≡ m → IncrementIs t (increment_of m)
increment_is t (Some mark.PlusPlus) e = Increments.plus_plus (mark_is t mark.PlusPlus e)
increment_is t (Some mark.MinusMinus) e = Increments.minus_minus (mark_is t mark.MinusMinus e)
increment_is t _ e = tt

abbrev PrefixIs : Token → Prefix → Type 0
PrefixIs t (prefix.Increment o) = Increments o t
PrefixIs t (prefix.Operator u) = Signs u t
PrefixIs t prefix.Absent = Unit {0}

prefix_is : (t : Token) (m : Option Punct) → mark_of (Some t.kind) ≡ m → PrefixIs t (prefix_of m)
prefix_is t (Some mark.PlusPlus) e = Increments.plus_plus (mark_is t mark.PlusPlus e)
prefix_is t (Some mark.MinusMinus) e = Increments.minus_minus (mark_is t mark.MinusMinus e)
prefix_is t (Some mark.Plus) e = Signs.plus (mark_is t mark.Plus e)
prefix_is t (Some mark.Minus) e = Signs.minus (mark_is t mark.Minus e)
prefix_is t (Some mark.Tilde) e = Signs.complement (mark_is t mark.Tilde e)
prefix_is t (Some mark.Not) e = Signs.not (mark_is t mark.Not e)
prefix_is t _ e = tt

abbrev OperatorIs : Token → Option BinaryOperator → Type 0
OperatorIs t None = Unit {0}
OperatorIs t (Some j) = Operates j t

operator_is : (t : Token) (m : Punct) → mark_of (Some t.kind) ≡ Some m → OperatorIs t (operator_of m)
operator_is t mark.Star e = Operates.multiplies (mark_is t mark.Star e)
operator_is t mark.Slash e = Operates.divides (mark_is t mark.Slash e)
operator_is t mark.Percent e = Operates.takes_rest (mark_is t mark.Percent e)
operator_is t mark.Plus e = Operates.adds (mark_is t mark.Plus e)
operator_is t mark.Minus e = Operates.subtracts (mark_is t mark.Minus e)
operator_is t mark.ShiftLeft e = Operates.shifts_left (mark_is t mark.ShiftLeft e)
operator_is t mark.ShiftRight e = Operates.shifts_right (mark_is t mark.ShiftRight e)
operator_is t mark.Less e = Operates.is_less (mark_is t mark.Less e)
operator_is t mark.Greater e = Operates.is_greater (mark_is t mark.Greater e)
operator_is t mark.LessEqual e = Operates.is_at_most (mark_is t mark.LessEqual e)
operator_is t mark.GreaterEqual e = Operates.is_at_least (mark_is t mark.GreaterEqual e)
operator_is t mark.EqualEqual e = Operates.is_equal (mark_is t mark.EqualEqual e)
operator_is t mark.NotEqual e = Operates.differs (mark_is t mark.NotEqual e)
operator_is t mark.And e = Operates.has_both (mark_is t mark.And e)
operator_is t mark.Caret e = Operates.has_one (mark_is t mark.Caret e)
operator_is t mark.Or e = Operates.has_any (mark_is t mark.Or e)
operator_is t mark.AndAnd e = Operates.both (mark_is t mark.AndAnd e)
operator_is t mark.OrOr e = Operates.either (mark_is t mark.OrOr e)
operator_is t _ e = tt

operator_if_is : (t : Token) (m : Option Punct) → mark_of (Some t.kind) ≡ m → OperatorIs t (operator_if m)
operator_if_is t None e = tt
operator_if_is t (Some m) e = operator_is t m e

precedence_is : (n : ℕ) (j : Option BinaryOperator) (o : BinaryOperator) → with_precedence n j ≡ Some o
    → (j ≡ Some o) × (operator_precedence o ≡ n)
precedence_is n None o e = absurd (let never : None ≡ Some o = e in cc)
precedence_is n (Some k) o e = go (operator_precedence k == n) refl e
  where
    go : (b : Bool) → (operator_precedence k == n) ≡ b → cond b (Some k) None ≡ Some o
        → (Some k ≡ Some o) × (operator_precedence o ≡ n)
    go true f e =
        let same : k ≡ o = cc in
        (e, subst (λ (j : BinaryOperator). operator_precedence j ≡ n) same (eqb-true (operator_precedence k) n f))
    go false f e = absurd (let never : None ≡ Some o = e in cc)

-- an operator of a precedence that is next
operator_next : (n : ℕ) (t : Token) (ts : List Token) (o : BinaryOperator) → operator_at n (t ∷ ts) ≡ Some o
    → Operates o t × (operator_precedence o ≡ n)
operator_next n t ts o e =
    let found = precedence_is n (operator_if (mark_of (Some t.kind))) o e in
    (subst (λ (j : Option BinaryOperator). OperatorIs t j) found.0 (operator_if_is t (mark_of (Some t.kind)) refl), found.1)

abbrev AssignIs : Token → Option (Option BinOp) → Type 0
AssignIs t None = Unit {0}
AssignIs t (Some o) = Assigns o t

assign_is : (t : Token) (m : Option Punct) → mark_of (Some t.kind) ≡ m → AssignIs t (assignment_of m)
assign_is t (Some mark.Assign) e = Assigns.gives_it (mark_is t mark.Assign e)
assign_is t (Some mark.StarAssign) e = Assigns.multiplies_it (mark_is t mark.StarAssign e)
assign_is t (Some mark.SlashAssign) e = Assigns.divides_it (mark_is t mark.SlashAssign e)
assign_is t (Some mark.PercentAssign) e = Assigns.rests_it (mark_is t mark.PercentAssign e)
assign_is t (Some mark.PlusAssign) e = Assigns.adds_to_it (mark_is t mark.PlusAssign e)
assign_is t (Some mark.MinusAssign) e = Assigns.subtracts_from_it (mark_is t mark.MinusAssign e)
assign_is t (Some mark.ShiftLeftAssign) e = Assigns.shifts_it_left (mark_is t mark.ShiftLeftAssign e)
assign_is t (Some mark.ShiftRightAssign) e = Assigns.shifts_it_right (mark_is t mark.ShiftRightAssign e)
assign_is t (Some mark.AndAssign) e = Assigns.meets_it (mark_is t mark.AndAssign e)
assign_is t (Some mark.CaretAssign) e = Assigns.flips_it (mark_is t mark.CaretAssign e)
assign_is t (Some mark.OrAssign) e = Assigns.joins_it (mark_is t mark.OrAssign e)
assign_is t _ e = tt

-- the token that begins a statement
abbrev FormIs : TokenKind → StmtForm → Type 0
FormIs k form.Block = k ≡ kind.Mark mark.OpenBrace
FormIs k form.If = k ≡ kind.Key key.If
FormIs k form.While = k ≡ kind.Key key.While
FormIs k form.Do = k ≡ kind.Key key.Do
FormIs k form.For = k ≡ kind.Key key.For
FormIs k form.Switch = k ≡ kind.Key key.Switch
FormIs k form.Break = k ≡ kind.Key key.Break
FormIs k form.Continue = k ≡ kind.Key key.Continue
FormIs k form.Return = k ≡ kind.Key key.Return
FormIs k form.Value = Unit {0}

form_is : (k : TokenKind) → FormIs k (stmt_form_of (Some k))
form_is (kind.Mark mark.OpenBrace) = refl
form_is (kind.Key key.If) = refl
form_is (kind.Key key.While) = refl
form_is (kind.Key key.Do) = refl
form_is (kind.Key key.For) = refl
form_is (kind.Key key.Switch) = refl
form_is (kind.Key key.Break) = refl
form_is (kind.Key key.Continue) = refl
form_is (kind.Key key.Return) = refl
form_is _ = tt

pub form_told : (t : Token) (ts : List Token) (f : StmtForm) → form_at (t ∷ ts) ≡ f → FormIs t.kind f
form_told t ts f e = subst (λ (f : StmtForm). FormIs t.kind f) e (form_is t.kind)

abbrev LabelIs : Option Keyword → ItemForm → Type 0
LabelIs k label.Case = k ≡ Some key.Case
LabelIs k label.Default = k ≡ Some key.Default
LabelIs k label.Item = Unit {0}

label_is : (k : Option Keyword) → LabelIs k (item_of k)
label_is (Some key.Case) = refl
label_is (Some key.Default) = refl
label_is _ = tt

pub label_told : (ts : List Token) (f : ItemForm) → item_at ts ≡ f → LabelIs (key_at ts) f
label_told ts f e = subst (λ (f : ItemForm). LabelIs (key_at ts) f) e (label_is (key_at ts))

abbrev pub ElseIs : Option Keyword → Bool → Type 0
ElseIs k true = k ≡ Some key.Else
ElseIs k false = Unit {0}

pub else_is : (k : Option Keyword) → ElseIs k (is_else k)
else_is (Some key.Else) = refl
else_is _ = tt

abbrev VoidIs : Option Keyword → Bool → Type 0
VoidIs k true = k ≡ Some key.Void
VoidIs k false = Unit {0}

void_is : (k : Option Keyword) → VoidIs k (is_void k)
void_is (Some key.Void) = refl
void_is _ = tt

pub void_next : (t : Token) (ts : List Token) → params_at (t ∷ ts) ≡ params.OnlyVoid → IsKey key.Void t
void_next t ts e = go (next_is mark.CloseParen (t ∷ ts)) (is_void (key_of (Some t.kind))) refl e
  where
    go : (a b : Bool) → is_void (key_of (Some t.kind)) ≡ b
        → cond a params.Empty (cond b (cond (next_is mark.CloseParen ts) params.OnlyVoid params.Listed) params.Listed)
        ≡ params.OnlyVoid → IsKey key.Void t
    go true b f e = absurd (let never : params.Empty ≡ params.OnlyVoid = e in cc)
    go false false f e = absurd (let never : params.Listed ≡ params.OnlyVoid = e in cc)
    go false true f e =
        next_key t ts key.Void (subst (λ (b : Bool). VoidIs (key_of (Some t.kind)) b) f (void_is (key_of (Some t.kind))))

module _ (text : List ℕ) where
  abbrev S : (r : Rule) → grammar.Grammar (Result r) → List Token → List Token → Result r → Type 0
  S r g ts rest x = meant.Seen text r g ts rest x

  pub append_nil : (xs : List Token) → xs ++ [] ≡ xs
  append_nil [] = refl
  append_nil (x ∷ xs) = ap (λ (l : List Token). x ∷ l) (append_nil xs)

  -- nothing stands behind
  pub tail : (s : Symbol) (x : Value s) (k : List Token → List Token) (ts : List Token) → Is text s (k ts) x
      → Is text s (k (ts ++ [])) x
  tail s x k ts h = subst (λ (l : List Token). Is text s (k l) x) (sym (append_nil ts)) h

  -- what stands behind a mark stands behind what ends in it
  pub past : (s : Symbol) (x : Value s) (k : List Token → List Token) (ts : List Token) (c : Token) (us : List Token)
      → Is text s (k (ts ++ c ∷ us)) x → Is text s (k ((ts ++ c ∷ []) ++ us)) x
  past s x k ts c us h =
      subst (λ (l : List Token). Is text s (k l) x) (sym (meant.append_assoc text ts (c ∷ []) us)) h

  -- the same, read the other way
  nearer : (s : Symbol) (x : Value s) (ts us vs : List Token) → Is text s ((ts ++ us) ++ vs) x
      → Is text s (ts ++ (us ++ vs)) x
  nearer s x ts us vs h = subst (λ (l : List Token). Is text s l x) (meant.append_assoc text ts us vs) h

  -- ---- expressions

  pub operands : (o : Operand) (ts rest : List Token) (x : Expr) → operand_at (ts ++ rest) ≡ o
      → S Rule.operand (grammar.operand_as text o) ts rest x → Is text Symbol.postfix ts x
  operands first.Name _ rest _ e (meant.Seen.part m y _ _ (One.one {t = t}) (meant.Seen.deep meant.Seen.gives)) =
      Is.only_primary (Is.name (record { is = operand_told t rest first.Name e }))
  operands (first.Number n type) _ rest _ e
      (meant.Seen.part m y _ _ (One.one {t = t}) (meant.Seen.deep meant.Seen.gives)) =
      Is.only_primary (Is.number (operand_told t rest (first.Number n type) e))
  operands first.EofName _ rest _ e (meant.Seen.part m y _ _ (One.one {t = t}) (meant.Seen.deep meant.Seen.gives)) =
      Is.only_primary (Is.eof_name (operand_told t rest first.EofName e))
  operands first.Paren _ rest _ e
      (meant.Seen.part m y _ _ (One.one {t = t}) (meant.Seen.part k z _ _ (meant.Closed.closed {ts = ts} {c = c} ex close)
      meant.Seen.gives)) =
      let opens : IsMark mark.OpenParen t =
      record { is = operand_told t (((ts ++ c ∷ []) ++ []) ++ rest) first.Paren e } in
      tail Symbol.postfix (at t (Kind.Paren z)) (λ l. t ∷ l) (ts ++ c ∷ []) (Is.only_primary (Is.paren opens ex close))
  operands first.Call _ rest _ e
      (meant.Seen.part m y _ _ (One.one {t = t}) (meant.Seen.part k z _ _ (One.one {t = o}) (meant.Seen.part j es ts _ args
      (meant.Seen.part i c _ _ (OfKind.of {t = d} close) meant.Seen.gives)))) =
      let told = operand_told t ((o ∷ (ts ++ d ∷ [])) ++ rest) first.Call e in
      Is.call (record { is = told.0 }) (mark_is o mark.OpenParen told.1) args (record { is = close })
  operands first.Index _ rest _ e
      (meant.Seen.part m y _ _ (One.one {t = t}) (meant.Seen.part k z _ _ (One.one {t = o})
      (meant.Seen.part j i _ _ (meant.Closed.closed {ts = ts} {c = c} ex close) meant.Seen.gives))) =
      let told = operand_told t ((o ∷ ((ts ++ c ∷ []) ++ [])) ++ rest) first.Index e in
      tail Symbol.postfix (at o (Kind.Index (name_of text t) t.start t.line i)) (λ l. t ∷ o ∷ l) (ts ++ c ∷ [])
      (Is.index (record { is = told.0 }) (mark_is o mark.OpenBracket told.1) ex close)
  operands first.Absent ts rest x e s = elim s [ ]

  pub increments : (left : Expr) (n : ℕ) (o : Option BinOp) (ts rest : List Token) (x : Expr)
      → increment_at (ts ++ rest) ≡ o → S (Rule.increments left n) (grammar.increments_as left n o) ts rest x
      → (us : List Token) → Is text Symbol.postfix us left → Is text Symbol.postfix (us ++ ts) x
  increments left n None _ rest _ e meant.Seen.gives us h = tail Symbol.postfix left (λ l. l) us h
  increments left n (Some o) _ rest x e
      (meant.Seen.part m y _ _ (One.one {t = t}) (meant.Seen.part k z vs _ more meant.Seen.gives)) us h =
      let is : Increments o t =
      subst (λ (j : Option BinOp). IncrementIs t j) e (increment_is t (mark_of (Some t.kind)) refl) in
      tail Symbol.postfix x (λ l. us ++ t ∷ l) vs
      (nearer Symbol.postfix x us (t ∷ []) vs (more (us ++ t ∷ []) (Is.incremented h is)))

  pub unaries : (p : Prefix) (ts rest : List Token) (x : Expr) → prefix_at (ts ++ rest) ≡ p
      → S Rule.unary (grammar.unary_as p) ts rest x → Is text Symbol.unary_expression ts x
  unaries (prefix.Increment o) _ rest x e
      (meant.Seen.part m y _ _ (One.one {t = t}) (meant.Seen.part k z ts _ part meant.Seen.gives)) =
      let is : Increments o t = subst (λ (p : Prefix). PrefixIs t p) e (prefix_is t (mark_of (Some t.kind)) refl) in
      tail Symbol.unary_expression x (λ l. t ∷ l) ts (Is.increments is part)
  unaries (prefix.Operator o) _ rest x e
      (meant.Seen.part m y _ _ (One.one {t = t}) (meant.Seen.part k z ts _ part meant.Seen.gives)) =
      let is : Signs o t = subst (λ (p : Prefix). PrefixIs t p) e (prefix_is t (mark_of (Some t.kind)) refl) in
      tail Symbol.unary_expression x (λ l. t ∷ l) ts (Is.has_sign is part)
  unaries prefix.Absent _ rest x e (meant.Seen.part m y ts _ part meant.Seen.gives) =
      tail Symbol.unary_expression x (λ l. l) ts (Is.only_postfix part)

  pub casts : (b : Bool) (ts rest : List Token) (x : Expr) → cast_at (ts ++ rest) ≡ b
      → S Rule.cast (grammar.cast_as b) ts rest x → Is text Symbol.cast ts x
  casts true _ rest x e
      (meant.Seen.part m y _ _ (One.one {t = t}) (meant.Seen.part k base ws _ type (meant.Seen.part j c _ _
      (OfKind.of {t = d} close) (meant.Seen.part i z ts _ part meant.Seen.gives)))) =
      let opens : IsMark mark.OpenParen t =
      next_mark t ((ws ++ (d ∷ (ts ++ []))) ++ rest) mark.OpenParen (and_left _ _ e) in
      tail Symbol.cast x (λ l. t ∷ (ws ++ d ∷ l)) ts (Is.converted opens type (record { is = close }) part)
  casts false _ rest x e (meant.Seen.part m y ts _ part meant.Seen.gives) =
      tail Symbol.cast x (λ l. l) ts (Is.only_unary part)

  pub precedences : (m : ℕ) (ts rest : List Token) (x : Expr) → S (Rule.precedence m) (grammar.precedence_of m) ts rest x
      → Is text (Symbol.binary_expression m) ts x
  precedences zero _ rest x (meant.Seen.part m y ts _ part meant.Seen.gives) =
      tail (Symbol.binary_expression 0) x (λ l. l) ts (Is.only_cast part)
  precedences (suc n) _ rest x
      (meant.Seen.part m y ts _ part (meant.Seen.part k z us _ more meant.Seen.gives)) =
      tail (Symbol.binary_expression (suc n)) x (λ l. ts ++ l) us (more ts (Is.only_tighter part))

  pub operators : (m : ℕ) (left : Expr) (n : ℕ) (o : Option BinaryOperator) (ts rest : List Token) (x : Expr)
      → operator_at (m + 1) (ts ++ rest) ≡ o
      → S (Rule.operators m left n) (grammar.operators_as m left n o) ts rest x
      → (us : List Token) → Is text (Symbol.binary_expression (suc m)) us left
      → Is text (Symbol.binary_expression (suc m)) (us ++ ts) x
  operators m left n None _ rest _ e meant.Seen.gives us h =
      tail (Symbol.binary_expression (suc m)) left (λ l. l) us h
  operators m left n (Some o) _ rest x e
      (meant.Seen.part i y _ _ (One.one {t = t}) (meant.Seen.part j right ts _ part
      (meant.Seen.part k z vs _ more meant.Seen.gives))) us h =
      let next = operator_next (m + 1) t ((ts ++ (vs ++ [])) ++ rest) o e in
      let same : operator_precedence o ≡ suc m = next.1 ∙ omega arith in
      tail (Symbol.binary_expression (suc m)) x (λ l. us ++ (t ∷ (ts ++ l))) vs
      (nearer (Symbol.binary_expression (suc m)) x us (t ∷ ts) vs (more (us ++ t ∷ ts) (Is.operates h next.0 same part)))

  pub choices : (b : Bool) (n : ℕ) (e : Expr) (us ts rest : List Token) (x : Expr) → next_is mark.Question (ts ++ rest) ≡ b
      → Is text (Symbol.binary_expression 10) us e → S Rule.conditional (grammar.choice_as e n b) ts rest x
      → Is text Symbol.conditional (us ++ ts) x
  choices true n e us _ rest x q h
      (meant.Seen.part i y _ _ (One.one {t = t}) (meant.Seen.part j a _ _ (meant.Closed.closed {ts = ts} {c = c} ex colon)
      (meant.Seen.part k b vs _ part (meant.Seen.deep meant.Seen.gives)))) =
      let question : IsMark mark.Question t = next_mark t (((ts ++ c ∷ []) ++ (vs ++ [])) ++ rest) mark.Question q in
      past Symbol.conditional x (λ l. us ++ t ∷ l) ts c (vs ++ [])
      (tail Symbol.conditional x (λ l. us ++ (t ∷ (ts ++ c ∷ l))) vs (Is.chooses h question ex colon part))
  choices false n e us _ rest x q h meant.Seen.gives = tail Symbol.conditional e (λ l. l) us (Is.only_binary h)

  cast_unary : (ts : List Token) (e : Expr) → Is text Symbol.cast ts e → is_unary e ≡ true
      → Is text Symbol.unary_expression ts e
  cast_unary ts e (Is.only_unary h) u = h
  cast_unary _ _ (Is.converted o t c h) u = absurd (let never : false ≡ true = u in cc)

  joined_never : (j : BinaryOperator) (t : Token) (l r : Expr) → is_unary (at t (joined j l r)) ≡ true → ⊥
  joined_never (binary.Plain o) t l r u = (let never : false ≡ true = u in cc)
  joined_never binary.LogicalAnd t l r u = (let never : false ≡ true = u in cc)
  joined_never binary.LogicalOr t l r u = (let never : false ≡ true = u in cc)

  binary_unary : (n : ℕ) (ts : List Token) (e : Expr) → Is text (Symbol.binary_expression n) ts e → is_unary e ≡ true
      → Is text Symbol.unary_expression ts e
  binary_unary _ ts e (Is.only_cast h) u = cast_unary ts e h u
  binary_unary _ ts e (Is.only_tighter {n = n} h) u = binary_unary n ts e h u
  binary_unary _ _ _ (Is.operates {t = t} {l = l} {r = r} {j = j} h o p k) u = absurd (joined_never j t l r u)

  conditional_unary : (ts : List Token) (e : Expr) → Is text Symbol.conditional ts e → is_unary e ≡ true
      → Is text Symbol.unary_expression ts e
  conditional_unary ts e (Is.only_binary h) u = binary_unary 10 ts e h u
  conditional_unary _ _ (Is.chooses h q ex c k) u = absurd (let never : false ≡ true = u in cc)

  targets : (b : Bool) (left : Expr) (n : ℕ) (o : Option BinOp) (us ts rest : List Token) (x : Expr)
      → assignment_at (ts ++ rest) ≡ Some o → is_unary left ≡ b → Is text Symbol.conditional us left
      → S Rule.assignment (grammar.target left n o b) ts rest x → Is text Symbol.assignment (us ++ ts) x
  targets true left n o us _ rest x e u h
      (meant.Seen.part i y _ _ (One.one {t = t}) (meant.Seen.part j right ts _ part (meant.Seen.deep meant.Seen.gives))) =
      let is : Assigns o t =
      subst (λ (p : Option (Option BinOp)). AssignIs t p) e (assign_is t (mark_of (Some t.kind)) refl) in
      tail Symbol.assignment x (λ l. us ++ t ∷ l) ts (Is.assigns (conditional_unary us left h u) is part)
  targets false left n o us ts rest x e u h s = elim s [ ]

  pub assigneds : (o : Option (Option BinOp)) (left : Expr) (n : ℕ) (us ts rest : List Token) (x : Expr)
      → assignment_at (ts ++ rest) ≡ o → Is text Symbol.conditional us left
      → S Rule.assignment (grammar.assigned_as left n o) ts rest x → Is text Symbol.assignment (us ++ ts) x
  assigneds None left n us _ rest x e h meant.Seen.gives =
      tail Symbol.assignment left (λ l. l) us (Is.only_conditional h)
  assigneds (Some o) left n us ts rest x e h s = targets (is_unary left) left n o us ts rest x e refl h s

  pub comma_chain : (b : Bool) (left : Expr) (n : ℕ) (ts rest : List Token) (x : Expr) → next_is mark.Comma (ts ++ rest) ≡ b
      → S (Rule.commas left n) (grammar.commas_as left n b) ts rest x
      → (us : List Token) → Is text Symbol.expression us left → Is text Symbol.expression (us ++ ts) x
  comma_chain true left n _ rest x e
      (meant.Seen.part i y _ _ (One.one {t = t}) (meant.Seen.part j right ts _ part
      (meant.Seen.part k z vs _ more meant.Seen.gives))) us h =
      tail Symbol.expression x (λ l. us ++ (t ∷ (ts ++ l))) vs
      (nearer Symbol.expression x us (t ∷ ts) vs
      (more (us ++ t ∷ ts) (Is.comma h (next_mark t ((ts ++ (vs ++ [])) ++ rest) mark.Comma e) part)))
  comma_chain false left n _ rest x e meant.Seen.gives us h = tail Symbol.expression left (λ l. l) us h
