-- An expression without faults has a sound typed form.
use Rattle.std.proofs.Common.{
  arith,
  ◌≡◌,
  refl,
  sym,
  ap,
  ◌∙◌,
  subst,
  inl,
  inr,
  ℕ,
  ◌+◌,
  ◌==◌,
  Bool,
  true,
  false,
  cond,
  List,
  [],
  ◌∷◌,
  ◌++◌,
  length,
  Option,
  Some,
  None,
}
use Rattle.std.proofs.lemmas.Bool.Decides.{Decides-eqb}
use Rattle.int_ops.specs.declared.types.IntType.{IntType}
use Rattle.int_ops.specs.declared.operators.BinOp.{BinOp}
use Rattle.int_ops.specs.Common.{common_type}
use Rattle.int_ops.proofs.TypeLaws.{common_once}
use Rattle.c_tree.specs.declared.expr.Base.{Base}
use Rattle.c_tree.specs.declared.expr.Base.TheVariants as base
use Rattle.c_tree.specs.Expr.{Expr, Kind, Exprs}
use Rattle.c_tree.specs.Formed.{IsNoComparison, Assigns, FormedExpr, FormedKind, FormedExprs}
use Rattle.c_tree.specs.TypedExpr.{TypedExpr, TypedKind, TypedExprs}
use Rattle.c_tree.specs.Sound.{
  Scope,
  Each,
  IsLine,
  IsLength,
  IsVariable,
  HasValue,
  IsPromoted,
  Calls,
  Changes,
  Suits,
  NamesCell,
  SoundExpr,
  SoundExprs,
  SoundAlone,
  SoundValue,
  bases_of,
}
use Rattle.c_tree.specs.TypedParts.{Class, class, compares, shifts, computes, base_of, place_of, line_of}
use Rattle.c_typing.specs.declared.fault.TypeFault.{TypeFault}
use Rattle.c_typing.specs.declared.fault.TypeFault.TheVariants as fault
use Rattle.c_typing.specs.declared.names.Meaning.{Meaning}
use Rattle.c_typing.specs.declared.names.Meaning.TheVariants as meant
use Rattle.c_typing.specs.Names.{Scope as Names, meaning}
use Rattle.c_typing.specs.TypedForms.{
  same_base,
  converted,
  named,
  element,
  passed,
  called,
  operated,
  chosen,
  taken,
  assigned,
  common_base,
  promoted_base,
  typed,
  typed_kind,
  typed_args,
}
use Rattle.c_typing.specs.ExprFaults.{
  name_faults,
  index_faults,
  call_faults,
  sides,
  changed,
  bare,
  bare_kind,
  is_function,
  count,
  at,
  faults,
  kind_faults,
  args_faults,
  value_faults,
  wanted,
}
use Rattle.c_typing.proofs.TypeLaws.{
  same_base_is,
  apart_bases,
  is_promoted,
  is_common,
  has_value,
  not_none,
  none_left,
  none_right,
  wanted_none,
}

-- a length is one that an array may have
abbrev pub IsLengthOf : Option ℕ → Type 0
IsLengthOf None = Unit {0}
IsLengthOf (Some n) = IsLength n

-- what a name means is there in a sound scope
abbrev pub IsKnown : Scope → Meaning → Type 0
IsKnown s (meant.Variable c n t) = IsVariable s c n (base.Int t) × IsLengthOf n
IsKnown s (meant.Function None result params) = Unit {0}
IsKnown s (meant.Function (Some f) result params) = Each HasValue params × Calls s f params result

-- and so is what each name means
abbrev pub Knows : Scope → List Names → Type 0
Knows s n = (name : List ℕ) (m : Meaning) → meaning n name ≡ Some m → IsKnown s m

-- it is known, if it is anything
abbrev IsKnownIf : Scope → Option Meaning → Type 0
IsKnownIf s m = (x : Meaning) → m ≡ Some x → IsKnown s x

line_in : (s : Scope) (e : TypedExpr) → SoundExpr s e → IsLine (line_of e)
line_in s (TypedExpr.At kind b place line) h = h.0

-- an expression in a type is sound, and has this type
abbrev IsIn : Scope → Base → TypedExpr → Type 0
IsIn s to e = (base_of e ≡ to) × SoundExpr s e

lifted_by : (s : Scope) (e : TypedExpr) (to : Base) (same : Bool) → same_base (base_of e) to ≡ same → HasValue to →
    SoundValue s e
    → IsIn s to (cond same e (TypedExpr.At (TypedKind.Convert e) to (place_of e) (line_of e)))
lifted_by s e to true is value h = (same_base_is (base_of e) to is, h.2)
lifted_by s e to false is value h =
    (refl, (line_in s e h.2, (refl, refl), (value, h.0, apart_bases (base_of e) to is, h.1, h.2)))

pub lifted : (s : Scope) (e : TypedExpr) (to : Base) → HasValue to → SoundValue s e → IsIn s to (converted e to)
lifted s e to value h = lifted_by s e to (same_base (base_of e) to) refl value h

-- a value that is wanted and has no fault
pub value : (s : Scope) (fs : List TypeFault) (e : TypedExpr) (place : ℕ) → (fs ≡ [] → SoundAlone s e) → wanted fs
    (base_of e) place ≡ [] → SoundValue s e
value s fs e place alone none =
    let w = wanted_none fs (base_of e) place none in
    ((w.1), (alone w.0).0, (alone w.0).1)

named_sound : (s : Scope) (m : Option Meaning) (place line : ℕ) → IsLine line → IsKnownIf s m → name_faults m place ≡
    [] → SoundAlone s (named m place line)
named_sound s None place line l known none = absurd (not_none _ _ none)
named_sound s (Some (meant.Function f result params)) place line l known none = absurd (not_none _ _ none)
named_sound s (Some (meant.Variable c (Some n) t)) place line l known none = absurd (not_none _ _ none)
named_sound s (Some (meant.Variable c None t)) place line l known none =
    (tt, (l, tt, (known (meant.Variable c None t) refl).0))

element_sound : (s : Scope) (m : Option Meaning) (p q place line : ℕ) (index : TypedExpr) → IsLine q → IsLine line →
    IsKnownIf s m → index_faults m p ≡ []
    → SoundValue s index → SoundAlone s (element m p q index place line)
element_sound s None p q place line index k l known none v = absurd (not_none _ _ none)
element_sound s (Some (meant.Function f result params)) p q place line index k l known none v =
    absurd (not_none _ _ none)
element_sound s (Some (meant.Variable c None t)) p q place line index k l known none v = absurd (not_none _ _ none)
element_sound s (Some (meant.Variable c (Some n) t)) p q place line index k l known none v =
    let h = known (meant.Variable c (Some n) t) refl in
    (tt, (l, tt, (k, h.1, h.0, v.0, v.1, v.2)))

-- arguments, each with a value
abbrev AllValues : Scope → TypedExprs → Type 0
AllValues s TypedExprs.End = Unit {0}
AllValues s (TypedExprs.More e es) = SoundValue s e × AllValues s es

abbrev typed_count : TypedExprs → ℕ
typed_count TypedExprs.End = 0
typed_count (TypedExprs.More e es) = 1 + typed_count es

counted_args : (n : List Names) (es : Exprs) → typed_count (typed_args n es) ≡ count es
counted_args n Exprs.End = refl
counted_args n (Exprs.More e es) = ap (λ k. 1 + k) (counted_args n es)

passed_sound : (s : Scope) (bs : List Base) (es : TypedExprs) → Each HasValue bs → AllValues s es → length bs ≡
    typed_count es
    → (bases_of (passed bs es) ≡ bs) × SoundExprs s (passed bs es)
passed_sound s [] TypedExprs.End values h long = (refl, tt)
passed_sound s [] (TypedExprs.More e es) values h long = absurd (omega (arith, long))
passed_sound s (b ∷ bs) TypedExprs.End values h long = absurd (omega (arith, long))
passed_sound s (b ∷ bs) (TypedExprs.More e es) values h long =
    let one = lifted s e b values.0 h.0 in
    let rest = passed_sound s bs es values.1 h.1 (omega (arith, long)) in
    (ap (λ x. x ∷ bases_of (passed bs es)) one.0 ∙ ap (λ xs. b ∷ xs) rest.0, (one.1, rest.1))

same_count : (a b place : ℕ) (r : Bool) → (a == b) ≡ r → cond r [] (fault.ArgCount place ∷ []) ≡ [] → a ≡ b
same_count a b place true e none = (Decides-eqb a b).0 e
same_count a b place false e none = absurd (not_none _ _ none)

called_sound : (s : Scope) (m : Option Meaning) (args : TypedExprs) (number place line : ℕ) → IsLine line → IsKnownIf s
    m → call_faults m number place ≡ []
    → AllValues s args → typed_count args ≡ number → SoundAlone s (called m args place line)
called_sound s None args number place line l known none h long = absurd (not_none _ _ none)
called_sound s (Some (meant.Variable c n t)) args number place line l known none h long = absurd (not_none _ _ none)
called_sound s (Some (meant.Function None result params)) args number place line l known none h long =
    absurd (not_none _ _ none)
called_sound s (Some (meant.Function (Some f) result params)) args number place line l known none h long =
    let k = known (meant.Function (Some f) result params) refl in
    let p = passed_sound s params args k.0 h (same_count (length params) number place (length params == number) refl
    none ∙ sym long) in
    (tt, (l, tt, (subst (λ bs. Calls s f bs result) (sym p.0) k.1, p.1)))

-- the three forms over a promoted operand
pub promoted_sound : (s : Scope) (e : TypedExpr) → SoundValue s e
    → IsPromoted (promoted_base (base_of e)) × (base_of (converted e (promoted_base (base_of e))) ≡ promoted_base
    (base_of e)) × SoundExpr s (converted e (promoted_base (base_of e)))
promoted_sound s e v =
    let p = is_promoted (base_of e) in
    let x = lifted s e (promoted_base (base_of e)) (has_value _ p) v in
    (p, x.0, x.1)

operated_sound : (s : Scope) (c : Class) (o : BinOp) (l r : TypedExpr) (place line : ℕ) → class o ≡ c → IsLine line →
    SoundValue s l → SoundValue s r
    → SoundAlone s (operated c o l r place line)
operated_sound s compares o l r place line is at_line v w =
    let p = is_common (base_of l) (base_of r) in
    let x = lifted s l (common_base (base_of l) (base_of r)) (has_value _ p) v in
    let y = lifted s r (common_base (base_of l) (base_of r)) (has_value _ p) w in
    (tt, (at_line, tt, (rw is (x.0 ∙ sym y.0, subst IsPromoted (sym x.0) p, refl), x.1, y.1)))
operated_sound s shifts o l r place line is at_line v w =
    let x = promoted_sound s l v in
    let y = promoted_sound s r w in
    (tt, (at_line, tt, (rw is (x.1, x.0, subst IsPromoted (sym y.1) y.0), x.2, y.2)))
operated_sound s computes o l r place line is at_line v w =
    let p = is_common (base_of l) (base_of r) in
    let x = lifted s l (common_base (base_of l) (base_of r)) (has_value _ p) v in
    let y = lifted s r (common_base (base_of l) (base_of r)) (has_value _ p) w in
    (tt, (at_line, tt, (rw is (x.0, y.0, p), x.1, y.1)))

chosen_sound : (s : Scope) (c x y : TypedExpr) (fs gs : List TypeFault) (p q place line : ℕ) → IsLine line → SoundValue
    s c
    → (fs ≡ [] → SoundAlone s x) → (gs ≡ [] → SoundAlone s y) → sides fs (base_of x) p gs (base_of y) q ≡ []
    → SoundAlone s (chosen c x y place line)
chosen_sound s c x y (f ∷ fs) gs p q place line l v a b none = absurd (not_none _ _ none)
chosen_sound s c (TypedExpr.At k base.Void i j) y [] (g ∷ gs) p q place line l v a b none = absurd (not_none _ _ none)
chosen_sound s c (TypedExpr.At k (base.Int t) i j) y [] (g ∷ gs) p q place line l v a b none =
    absurd (not_none _ _ none)
chosen_sound s c (TypedExpr.At k base.Void i j) (TypedExpr.At m base.Void i2 j2) [] [] p q place line l v a b none =
    (tt, (l, tt, (v.0, inl refl, refl, refl, v.1, v.2, (a refl).1, (b refl).1)))
chosen_sound s c (TypedExpr.At k base.Void i j) (TypedExpr.At m (base.Int u) i2 j2) [] [] p q place line l v a b none =
    absurd (not_none _ _ none)
chosen_sound s c (TypedExpr.At k (base.Int t) i j) (TypedExpr.At m base.Void i2 j2) [] [] p q place line l v a b none =
    absurd (not_none _ _ none)
chosen_sound s c (TypedExpr.At k (base.Int t) i j) (TypedExpr.At m (base.Int u) i2 j2) [] [] p q place line l v a b
    none =
    let r = is_common (base.Int t) (base.Int u) in
    let x = lifted s (TypedExpr.At k (base.Int t) i j) (common_base (base.Int t) (base.Int u)) (has_value _ r)
    ((t, refl), (a refl).0, (a refl).1) in
    let y = lifted s (TypedExpr.At m (base.Int u) i2 j2) (common_base (base.Int t) (base.Int u)) (has_value _ r)
    ((u, refl), (b refl).0, (b refl).1) in
    (tt, (l, tt, (v.0, inr r, x.0, y.0, v.1, v.2, x.1, y.1)))

-- what may be assigned
abbrev IsTarget : TypedExpr → Type 0
IsTarget e = NamesCell e × HasValue (base_of e)

named_target : (m : Option Meaning) (place line operator : ℕ)
    → cond (is_function m) (fault.NotAVariable operator ∷ []) (name_faults m place) ≡ []
    → (name_faults m place ≡ []) × IsTarget (named m place line)
named_target None place line operator none = absurd (not_none _ _ none)
named_target (Some (meant.Function f result params)) place line operator none = absurd (not_none _ _ none)
named_target (Some (meant.Variable c (Some n) t)) place line operator none = absurd (not_none _ _ none)
named_target (Some (meant.Variable c None t)) place line operator none = (refl, (tt, (t, refl)))

element_target : (m : Option Meaning) (p q place line : ℕ) (index : TypedExpr) → index_faults m p ≡ [] → IsTarget
    (element m p q index place line)
element_target None p q place line index none = absurd (not_none _ _ none)
element_target (Some (meant.Function f result params)) p q place line index none = absurd (not_none _ _ none)
element_target (Some (meant.Variable c None t)) p q place line index none = absurd (not_none _ _ none)
element_target (Some (meant.Variable c (Some n) t)) p q place line index none = (tt, (t, refl))

never : {A : Type 0} (xs : List A) (x : A) (P : Type 0) → xs ++ x ∷ [] ≡ [] → P
never xs x P none = absurd (not_none _ _ (none_right xs (x ∷ []) none))

mutual
  target : (e : Expr) (n : List Names) (operator : ℕ) → changed n (bare e) operator (faults n e) ≡ [] →
      (faults n e ≡ []) × IsTarget (typed n e)
  target (Expr.At kind place line) n operator none = kind_target kind n place line operator none

  kind_target : (kind : Kind) (n : List Names) (place line operator : ℕ) → changed n (bare_kind kind) operator
      (kind_faults n kind place) ≡ []
      → (kind_faults n kind place ≡ []) × IsTarget (typed_kind n kind place line)
  kind_target (Kind.Name name) n place line operator none = named_target (meaning n name) place line operator none
  kind_target (Kind.Paren e) n place line operator none = target e n operator none
  kind_target (Kind.Index name p q e) n place line operator none =
      (none, element_target (meaning n name) p q place line (typed n e) (none_left _ _ none))
  kind_target (Kind.Number k t) n place line operator none =
      never (kind_faults n (Kind.Number k t) place) (fault.NotAVariable operator) _ none
  kind_target Kind.EofName n place line operator none =
      never (kind_faults n Kind.EofName place) (fault.NotAVariable operator) _ none
  kind_target (Kind.Call name args) n place line operator none =
      never (kind_faults n (Kind.Call name args) place) (fault.NotAVariable operator) _ none
  kind_target (Kind.Plus e) n place line operator none =
      never (kind_faults n (Kind.Plus e) place) (fault.NotAVariable operator) _ none
  kind_target (Kind.Minus e) n place line operator none =
      never (kind_faults n (Kind.Minus e) place) (fault.NotAVariable operator) _ none
  kind_target (Kind.Complement e) n place line operator none =
      never (kind_faults n (Kind.Complement e) place) (fault.NotAVariable operator) _ none
  kind_target (Kind.Not e) n place line operator none =
      never (kind_faults n (Kind.Not e) place) (fault.NotAVariable operator) _ none
  kind_target (Kind.Cast to e) n place line operator none =
      never (kind_faults n (Kind.Cast to e) place) (fault.NotAVariable operator) _ none
  kind_target (Kind.Binary o l r) n place line operator none =
      never (kind_faults n (Kind.Binary o l r) place) (fault.NotAVariable operator) _ none
  kind_target (Kind.AndAlso l r) n place line operator none =
      never (kind_faults n (Kind.AndAlso l r) place) (fault.NotAVariable operator) _ none
  kind_target (Kind.OrElse l r) n place line operator none =
      never (kind_faults n (Kind.OrElse l r) place) (fault.NotAVariable operator) _ none
  kind_target (Kind.Choose c x y) n place line operator none =
      never (kind_faults n (Kind.Choose c x y) place) (fault.NotAVariable operator) _ none
  kind_target (Kind.Assign o l r) n place line operator none =
      never (kind_faults n (Kind.Assign o l r) place) (fault.NotAVariable operator) _ none
  kind_target (Kind.Before o e) n place line operator none =
      never (kind_faults n (Kind.Before o e) place) (fault.NotAVariable operator) _ none
  kind_target (Kind.After o e) n place line operator none =
      never (kind_faults n (Kind.After o e) place) (fault.NotAVariable operator) _ none
  kind_target (Kind.Comma l r) n place line operator none =
      never (kind_faults n (Kind.Comma l r) place) (fault.NotAVariable operator) _ none

-- the type in which a value is taken suits
suits_by : (c : Class) (o : BinOp) (t u : IntType) → class o ≡ c → Assigns (Some o) → Changes (class o) (base.Int t)
    (taken (Some o) (base.Int t) (base.Int u))
suits_by compares o t u is formed = absurd (subst IsNoComparison is formed)
suits_by shifts o t u is formed = rw is (is_promoted (base.Int u))
suits_by computes o t u is formed = rw is (t, common_type t u, refl, refl, common_once t u)

takes_value : (o : Option BinOp) (t u : IntType) → Assigns o → HasValue (taken o (base.Int t) (base.Int u)) × Suits o
    (base.Int t) (taken o (base.Int t) (base.Int u))
takes_value None t u formed = ((t, refl), refl)
takes_value (Some o) t u formed = (value_by (class o) o t u refl, suits_by (class o) o t u refl formed)
  where
    value_by : (c : Class) (o : BinOp) (t u : IntType) → class o ≡ c → HasValue
        (taken (Some o) (base.Int t) (base.Int u))
    value_by compares o t u is = rw is (common_type t u, refl)
    value_by shifts o t u is = rw is (has_value _ (is_promoted (base.Int u)))
    value_by computes o t u is = rw is (common_type t u, refl)

assigned_sound : (s : Scope) (o : Option BinOp) (l r : TypedExpr) (place line : ℕ) → IsLine line → Assigns o → IsTarget
    l → SoundExpr s l → SoundValue s r
    → SoundAlone s (assigned o l r place line)
assigned_sound s o (TypedExpr.At k base.Void i j) r place line at_line formed t x v =
    (let h : base.Void ≡ base.Int t.1.0 = t.1.1 in absurd (cc))
assigned_sound s o l (TypedExpr.At k base.Void i j) place line at_line formed t x v =
    (let h : base.Void ≡ base.Int v.0.0 = v.0.1 in absurd (cc))
assigned_sound s o (TypedExpr.At k (base.Int t) i j) (TypedExpr.At m (base.Int u) i2 j2) place line at_line formed
    names x v =
    let w = takes_value o t u formed in
    let y = lifted s (TypedExpr.At m (base.Int u) i2 j2) (taken o (base.Int t) (base.Int u)) w.0 v in
    (tt, (at_line, tt, (names.0, refl, subst (Suits o (base.Int t)) (sym y.0) w.1, x, y.1)))

mutual
  -- an expression
  pub sound : (e : Expr) (s : Scope) (n : List Names) → Knows s n → FormedExpr e → faults n e ≡ [] → SoundAlone s
      (typed n e)
  sound (Expr.At kind place line) s n known formed none = sound_kind kind place line s n known formed.0 formed.1 none

  sound_kind : (kind : Kind) (place line : ℕ) (s : Scope) (n : List Names) → Knows s n → IsLine line → FormedKind kind
      → kind_faults n kind place ≡ []
      → SoundAlone s (typed_kind n kind place line)
  sound_kind (Kind.Name name) place line s n known l formed none =
      named_sound s (meaning n name) place line l (known name) none
  sound_kind (Kind.Number k t) place line s n known l formed none = (tt, (l, tt, (refl, formed)))
  sound_kind Kind.EofName place line s n known l formed none = (tt, (l, tt, refl))
  sound_kind (Kind.Paren e) place line s n known l formed none = sound e s n known formed none
  sound_kind (Kind.Call name args) place line s n known l formed none =
      called_sound s (meaning n name) (typed_args n args) (count args) place line l (known name) (none_left _ _ none)
      (sound_args args s n known formed (none_right (call_faults (meaning n name) (count args) place) _ none))
      (counted_args n args)
  sound_kind (Kind.Index name p q e) place line s n known l formed none =
      element_sound s (meaning n name) p q place line (typed n e) formed.0 l (known name) (none_left _ _ none)
      (value s (faults n e) (typed n e) (at e) (sound e s n known formed.1)
      (none_right (index_faults (meaning n name) p) _ none))
  sound_kind (Kind.Plus e) place line s n known l formed none = (
    tt,
    (
      l,
      tt,
      promoted_sound s (typed n e) (value s (faults n e) (typed n e) (at e) (sound e s n known formed)
          none),
    ),
  )
  sound_kind (Kind.Minus e) place line s n known l formed none = (
    tt,
    (
      l,
      tt,
      promoted_sound s (typed n e) (value s (faults n e) (typed n e) (at e) (sound e s n known formed)
          none),
    ),
  )
  sound_kind (Kind.Complement e) place line s n known l formed none = (
    tt,
    (
      l,
      tt,
      promoted_sound s (typed n e) (value s (faults n e) (typed n e) (at e) (sound e s n known formed)
          none),
    ),
  )
  sound_kind (Kind.Not e) place line s n known l formed none =
      let v = value s (faults n e) (typed n e) (at e) (sound e s n known formed) none in
      (tt, (l, tt, (refl, v.0, v.1, v.2)))
  sound_kind (Kind.Cast base.Void e) place line s n known l formed none =
      let a = sound e s n known formed none in
      (tt, (l, tt, (refl, inl refl, a.0, a.1)))
  sound_kind (Kind.Cast (base.Int t) e) place line s n known l formed none =
      let v = value s (faults n e) (typed n e) (at e) (sound e s n known formed) none in
      (tt, (l, tt, (refl, inr v.0, v.1, v.2)))
  sound_kind (Kind.Binary o a b) place line s n known l formed none =
      operated_sound s (class o) o (typed n a) (typed n b) place line refl l
      (value s (faults n a) (typed n a) (at a) (sound a s n known formed.0) (none_left _ _ none))
      (value s (faults n b) (typed n b) (at b) (sound b s n known formed.1) (none_right (value_faults n a) _ none))
  sound_kind (Kind.AndAlso a b) place line s n known l formed none =
      let v = value s (faults n a) (typed n a) (at a) (sound a s n known formed.0) (none_left _ _ none) in
      let w = value s (faults n b) (typed n b) (at b) (sound b s n known formed.1)
      (none_right (value_faults n a) _ none) in
      (tt, (l, tt, (refl, v.0, w.0, v.1, w.1, v.2, w.2)))
  sound_kind (Kind.OrElse a b) place line s n known l formed none =
      let v = value s (faults n a) (typed n a) (at a) (sound a s n known formed.0) (none_left _ _ none) in
      let w = value s (faults n b) (typed n b) (at b) (sound b s n known formed.1)
      (none_right (value_faults n a) _ none) in
      (tt, (l, tt, (refl, v.0, w.0, v.1, w.1, v.2, w.2)))
  sound_kind (Kind.Choose c x y) place line s n known l formed none =
      chosen_sound s (typed n c) (typed n x) (typed n y) (faults n x) (faults n y) (at x) (at y) place line l
      (value s (faults n c) (typed n c) (at c) (sound c s n known formed.0) (none_left _ _ none))
      (sound x s n known formed.1) (sound y s n known formed.2) (none_right (value_faults n c) _ none)
  sound_kind (Kind.Assign o a b) place line s n known l formed none =
      let t = target a n place (none_left _ _ none) in
      assigned_sound s o (typed n a) (typed n b) place line l formed.0 t.1 (sound a s n known formed.1 t.0).1
      (value s (faults n b) (typed n b) (at b) (sound b s n known formed.2)
      (none_right (changed n (bare a) place (faults n a)) _ none))
  sound_kind (Kind.Before o e) place line s n known l formed none =
      let t = target e n place none in
      (tt, (l, tt, (formed.0, t.1.0, refl, (sound e s n known formed.1 t.0).1)))
  sound_kind (Kind.After o e) place line s n known l formed none =
      let t = target e n place none in
      (tt, (l, tt, (formed.0, t.1.0, refl, (sound e s n known formed.1 t.0).1)))
  sound_kind (Kind.Comma a b) place line s n known l formed none =
      let x = sound a s n known formed.0 (none_left _ _ none) in
      let y = sound b s n known formed.1 (none_right (faults n a) _ none) in
      (tt, (l, tt, (refl, x.0, y.0, x.1, y.1)))

  sound_args : (es : Exprs) (s : Scope) (n : List Names) → Knows s n → FormedExprs es → args_faults n es ≡ [] →
      AllValues s (typed_args n es)
  sound_args Exprs.End s n known formed none = tt
  sound_args (Exprs.More e es) s n known formed none = (
    value s (faults n e) (typed n e) (at e) (sound e s n known formed.0) (none_left _ _ none),
    sound_args es s n known formed.1 (none_right (value_faults n e) _ none),
  )

-- an expression with a value
pub sound_value : (e : Expr) (s : Scope) (n : List Names) → Knows s n → FormedExpr e → value_faults n e ≡ [] →
    SoundValue s (typed n e)
sound_value e s n known formed none = value s (faults n e) (typed n e) (at e) (sound e s n known formed) none
