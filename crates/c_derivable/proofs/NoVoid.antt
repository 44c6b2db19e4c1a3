-- In derived trees `(void)` is no parameter.
use Rattle.std.proofs.Common.{◌≡◌, refl, sym, ap, ◌∙◌, ℕ, ◌==◌, Bool, true, false, cond, arith, eqb-true}
use Rattle.std.proofs.Common.{List, [], ◌∷◌, Option, Some, None}
use Rattle.std.specs.Prelude.{◌&&◌}
use Rattle.c_tokens.specs.declared.token.Keyword.{Keyword}
use Rattle.c_tokens.specs.declared.token.Keyword.TheVariants as key
use Rattle.c_tokens.specs.declared.token.Punct.TheVariants as mark
use Rattle.c_tokens.specs.declared.token.Token.{Token}
use Rattle.c_tree.specs.declared.expr.Base.{Base}
use Rattle.c_tree.specs.declared.expr.Base.TheVariants as base
use Rattle.c_tree.specs.Tree.{Param, Head, Outer, Tree}
use Rattle.c_grammar.specs.declared.begins.ParamsForm.{ParamsForm}
use Rattle.c_grammar.specs.declared.begins.ParamsForm.TheVariants as params
use Rattle.c_grammar.specs.Words.{mark_of, is_mark, next_is, key_of, key_at, name_at, is_type_word, type_at, type_words, words_with, behind_words, behind, times, same_words, base_at, named_by, type_lists}
use Rattle.c_grammar.specs.Forms.{function_at, is_void, params_at, all_named, first_start}
use Rattle.c_grammar.specs.Rules.{Listed, Rule, Result}
use Rattle.c_grammar.specs.Grammar.{Grammar, form_of, by_rule}
use Rattle.c_grammar.specs.Grammar as grammar
use Rattle.c_grammar.specs.Derivations.{By, Front, Derives}
use Rattle.c_derivable.specs.Laws.{is_void_alone, stands_for_none, HoldsNoVoid, HoldNoVoid}
use Rattle.c_derivable.proofs.Declarations.{behind_end}

both : (a b : Bool) → (a && b) ≡ true → (a ≡ true) × (b ≡ true)
both true b h = (refl, h)
both false b h = absurd (let never : false ≡ true = h in cc)

-- ---- `void` is named by one word

-- the words are `void` alone, counted
record Lone (words : List ℕ) : Type 0 where
  one : times 1 words ≡ 1
  two : times 2 words ≡ 0
  three : times 3 words ≡ 0
  four : times 4 words ≡ 0
  five : times 5 words ≡ 0
  six : times 6 words ≡ 0
  seven : times 7 words ≡ 0
  eight : times 8 words ≡ 0

lone : (words : List ℕ) → same_words words (1 ∷ []) ≡ true → Lone words
lone words h =
    let a = both (times 1 words == 1) _ h in
    let b = both (times 2 words == 0) _ a.1 in
    let c = both (times 3 words == 0) _ b.1 in
    let d = both (times 4 words == 0) _ c.1 in
    let e = both (times 5 words == 0) _ d.1 in
    let f = both (times 6 words == 0) _ e.1 in
    let g = both (times 7 words == 0) (times 8 words == 0) f.1 in record {
      one = eqb-true (times 1 words) 1 a.0;
      two = eqb-true (times 2 words) 0 b.0;
      three = eqb-true (times 3 words) 0 c.0;
      four = eqb-true (times 4 words) 0 d.0;
      five = eqb-true (times 5 words) 0 e.0;
      six = eqb-true (times 6 words) 0 f.0;
      seven = eqb-true (times 7 words) 0 g.0;
      eight = eqb-true (times 8 words) 0 g.1;
    }

abbrev is_int : Base → Bool
is_int (base.Int t) = true
is_int base.Void = false

abbrev all_int : List (List ℕ × Base) → Bool
all_int [] = true
all_int (e ∷ es) = cond (is_int e.1) (all_int es) false

abbrev behind_first : List (List ℕ × Base) → List (List ℕ × Base)
behind_first [] = []
behind_first (e ∷ es) = es

names_no_void : (es : List (List ℕ × Base)) (words : List ℕ) → all_int es ≡ true → named_by es words ≡ Some base.Void → ⊥
names_no_void [] words a h = (let never : None ≡ Some base.Void = h in cc)
names_no_void (e ∷ es) words a h = go (names_no_void es words) (same_words words e.0) h (is_int e.1) refl a
  where
    go : (all_int es ≡ true → named_by es words ≡ Some base.Void → ⊥) → (b : Bool)
        → cond b (Some e.1) (named_by es words) ≡ Some base.Void → (i : Bool) → is_int e.1 ≡ i
        → cond i (all_int es) false ≡ true → ⊥
    go others b h false f a = (let never : false ≡ true = a in cc)
    go others false h true f a = others a h
    go others true h true f a =
        (let same : Some e.1 ≡ Some base.Void = h in
        let void : e.1 ≡ base.Void = cc in
        let never : true ≡ false = sym f ∙ ap is_int void in cc)

first_named : (e : List ℕ × Base) (es : List (List ℕ × Base)) (words : List ℕ) → all_int es ≡ true
    → cond (same_words words e.0) (Some e.1) (named_by es words) ≡ Some base.Void → same_words words e.0 ≡ true
first_named e es words a h = go (same_words words e.0) refl h
  where
    go : (b : Bool) → same_words words e.0 ≡ b → cond b (Some e.1) (named_by es words) ≡ Some base.Void
        → same_words words e.0 ≡ true
    go true f h = f
    go false f h = absurd (names_no_void es words a h)

void_alone : (words : List ℕ) → named_by type_lists words ≡ Some base.Void → Lone words
unfolding type_lists
void_alone words h = lone words (first_named (1 ∷ [], base.Void) (behind_first type_lists) words refl h)

-- behind the only word of a type stands no other
no_word : (us : List Token) → times 1 (type_words us) ≡ 0 → times 2 (type_words us) ≡ 0 → times 3 (type_words us) ≡ 0
    → times 4 (type_words us) ≡ 0 → times 5 (type_words us) ≡ 0 → times 6 (type_words us) ≡ 0
    → times 7 (type_words us) ≡ 0 → times 8 (type_words us) ≡ 0 → type_at us ≡ false
no_word [] a b c d e f g h = refl
no_word (u ∷ us) a b c d e f g h = go (key_of (Some u.kind)) a b c d e f g h
  where
    go : (k : Option Keyword) → times 1 (words_with k (type_words us)) ≡ 0 → times 2 (words_with k (type_words us)) ≡ 0
        → times 3 (words_with k (type_words us)) ≡ 0 → times 4 (words_with k (type_words us)) ≡ 0
        → times 5 (words_with k (type_words us)) ≡ 0 → times 6 (words_with k (type_words us)) ≡ 0
        → times 7 (words_with k (type_words us)) ≡ 0 → times 8 (words_with k (type_words us)) ≡ 0 → is_type_word k ≡ false
    go (Some key.Void) a b c d e f g h = absurd (omega (arith, a))
    go (Some key.Bool) a b c d e f g h = absurd (omega (arith, b))
    go (Some key.Char) a b c d e f g h = absurd (omega (arith, c))
    go (Some key.Short) a b c d e f g h = absurd (omega (arith, d))
    go (Some key.Int) a b c d e f g h = absurd (omega (arith, e))
    go (Some key.Long) a b c d e f g h = absurd (omega (arith, f))
    go (Some key.Signed) a b c d e f g h = absurd (omega (arith, g))
    go (Some key.Unsigned) a b c d e f g h = absurd (omega (arith, h))
    go _ a b c d e f g h = refl

-- where tokens begin with words that name `void`, one word does, and what stands behind it is behind the words
record OnlyVoid (ts : List Token) : Type 0 where
  word : is_void (key_at ts) ≡ true
  rest : behind ts ≡ behind_words ts

only_void : (ts : List Token) → base_at ts ≡ Some base.Void → OnlyVoid ts
only_void ts h = go ts (void_alone (type_words ts) h)
  where
    go : (ts : List Token) → Lone (type_words ts) → OnlyVoid ts
    go [] l = absurd (let one = l.one in omega (arith, one))
    go (t ∷ us) l = at (key_of (Some t.kind)) refl l
      where
        at : (k : Option Keyword) → key_of (Some t.kind) ≡ k → Lone (words_with k (type_words us)) → OnlyVoid (t ∷ us)
        at (Some key.Void) e l =
            let one = l.one in
            let none = no_word us (omega (arith, one)) l.two l.three l.four l.five l.six l.seven l.eight in record {
              word = ap is_void e;
              rest =
                  sym (ap (λ (k : Option Keyword). cond (is_type_word k) (behind_words us) (t ∷ us)) e ∙ behind_end us none);
            }
        at (Some key.Bool) e l = absurd (let two = l.two in omega (arith, two))
        at (Some key.Char) e l = absurd (let three = l.three in omega (arith, three))
        at (Some key.Short) e l = absurd (let four = l.four in omega (arith, four))
        at (Some key.Int) e l = absurd (let five = l.five in omega (arith, five))
        at (Some key.Long) e l = absurd (let six = l.six in omega (arith, six))
        at (Some key.Signed) e l = absurd (let seven = l.seven in omega (arith, seven))
        at (Some key.Unsigned) e l = absurd (let eight = l.eight in omega (arith, eight))
        at _ e l = absurd (let one = l.one in omega (arith, one))

int_holds_no_void : (b : Base) (name : List ℕ) → is_void_alone b (Some name) ≡ false
int_holds_no_void base.Void name = refl
int_holds_no_void (base.Int t) name = refl

-- ---- derivations

module _ (text : List ℕ) where
  -- what stands behind a list without a further member is what stood there
  none_behind : {ts rest : List Token} {xs : List Param} {n : ℕ} (b : Bool)
      → By text (Rule.more Listed.parameters) (grammar.more_as Listed.parameters b) ts xs n rest → xs ≡ [] → ts ≡ rest
  none_behind false By.gives e = refl
  none_behind true (By.part By.any (By.part (By.part p (By.part q By.gives)) By.gives)) e = absurd (cc)

  none_more : {ts rest : List Token} {xs : List Param} {n : ℕ} → Front text (Rule.more Listed.parameters) ts xs n rest
      → xs ≡ [] → ts ≡ rest
  none_more {ts = ts} (By.look d) e = none_behind (grammar.goes_on Listed.parameters ts) d e

  named_so : {us rest : List Token} {p : Param} {n : ℕ} (place : ℕ) (b : Base) (named : Bool)
      → By text Rule.parameter (grammar.named_as text b place named) us p n rest
      → (is_void_alone p.base p.name ≡ true → b ≡ base.Void) × (is_void_alone p.base p.name ≡ true → us ≡ rest)
  named_so place b true (By.part By.any By.gives) = (
    λ e. absurd (let no = int_holds_no_void b _ in let never : false ≡ true = sym no ∙ e in cc),
    λ e. absurd (let no = int_holds_no_void b _ in let never : false ≡ true = sym no ∙ e in cc),
  )
  named_so place base.Void false By.gives = (λ e. refl, λ e. refl)
  named_so place (base.Int t) false By.gives =
      (λ e. absurd (let never : false ≡ true = e in cc), λ e. absurd (let never : false ≡ true = e in cc))

  -- a parameter that is `void` alone is the word `void`
  void_parameter : {ts rest : List Token} {p : Param} {n : ℕ} → Front text Rule.parameter ts p n rest
      → is_void_alone p.base p.name ≡ true → (is_void (key_at ts) ≡ true) × (behind ts ≡ rest)
  void_parameter {ts = ts} (By.look (By.part (By.words {base = b} w) (By.look d))) e =
      let so = named_so (first_start ts) b (name_at (behind_words ts)) d in
      let only = only_void ts (w ∙ ap Some (so.0 e)) in (only.word, only.rest ∙ so.1 e)

  -- a list that is one such parameter, and `)`, are what stands for no parameters
  lone_list : {ts us rest : List Token} {x : Param} {xs : List Param} {n m : ℕ} → Front text Rule.parameter ts x n us
      → Front text (Rule.more Listed.parameters) us xs m rest → next_is mark.CloseParen rest ≡ true
      → stands_for_none (x ∷ xs) ≡ true → is_void (key_at ts) ≡ true × next_is mark.CloseParen (behind ts) ≡ true
  lone_list {xs = []} p more k e =
      let void = void_parameter p e in
      (void.0, ap (next_is mark.CloseParen) (void.1 ∙ none_more more refl) ∙ k)
  lone_list {xs = y ∷ ys} p more k e = absurd (let never : false ≡ true = e in cc)

  listed_so : {ts rest : List Token} {ps : List Param} {n : ℕ} → Front text (Rule.list Listed.parameters) ts ps n rest
      → next_is mark.CloseParen rest ≡ true → stands_for_none ps ≡ true
      → is_void (key_at ts) ≡ true × next_is mark.CloseParen (behind ts) ≡ true
  listed_so (By.part p (By.part more By.gives)) k e = lone_list p more k e

  -- the list is read as parameters only where it isn't that
  not_listed : (ts : List Token) → params_at ts ≡ params.Listed → is_void (key_at ts) ≡ true
      → next_is mark.CloseParen (behind ts) ≡ true → ⊥
  not_listed ts f v c = go (next_is mark.CloseParen ts) (is_void (key_at ts)) v (next_is mark.CloseParen (behind ts)) c f
    where
      go : (a b : Bool) → b ≡ true → (c : Bool) → c ≡ true
          → cond a params.Empty (cond b (cond c params.OnlyVoid params.Listed) params.Listed) ≡ params.Listed → ⊥
      go true b e c g f = (let never : params.Empty ≡ params.Listed = f in cc)
      go false true e true g f = (let never : params.OnlyVoid ≡ params.Listed = f in cc)
      go false true e false g f = (let never : false ≡ true = g in cc)
      go false false e c g f = (let never : false ≡ true = e in cc)

  parameters_by : {ts rest : List Token} {ps : List Param} {n : ℕ} (f : ParamsForm) → params_at ts ≡ f
      → By text Rule.parameters (grammar.parameters_as f) ts ps n rest → next_is mark.CloseParen rest ≡ true
      → stands_for_none ps ≡ false
  parameters_by params.Empty f By.gives k = refl
  parameters_by params.OnlyVoid f (By.part By.any By.gives) k = refl
  parameters_by {ts = ts} {ps = ps} params.Listed f (By.part d By.gives) k = go (stands_for_none ps) refl
    where
      go : (b : Bool) → stands_for_none ps ≡ b → b ≡ false
      go false e = refl
      go true e = absurd (let so = listed_so d k e in not_listed ts f so.0 so.1)

  parameters_so : {ts rest : List Token} {ps : List Param} {n : ℕ} → Front text Rule.parameters ts ps n rest
      → next_is mark.CloseParen rest ≡ true → stands_for_none ps ≡ false
  parameters_so {ts = ts} (By.look d) k = parameters_by (params_at ts) refl d k

  value_so : {r : Rule} {ts rest : List Token} {x y : Result r} {n : ℕ} → By text r (Grammar.gives x) ts y n rest → y ≡ x
  value_so By.gives = refl

  head_so : {ts rest : List Token} {h : Head} {n : ℕ} → Front text Rule.function_head ts h n rest
      → stands_for_none h.params ≡ false
  head_so {h = h} (By.part type (By.part name (By.part paren (By.part {y = ps} d (By.part (By.token k) g))))) =
      ap stands_for_none (ap (λ (h : Head). h.params) (value_so g))
      ∙ parameters_so d (ap (λ k. is_mark mark.CloseParen (mark_of (Some k))) k)

  defined : {ts rest : List Token} {h : Head} {o : Outer} {n : ℕ} (b : Bool)
      → By text (Rule.body h) (grammar.definition h b) ts o n rest → stands_for_none h.params ≡ false → HoldsNoVoid o
  defined true (By.part brace (By.part items (By.part close By.gives))) e = e
  defined false d e = elim d [ ]

  body_by : {ts rest : List Token} {h : Head} {o : Outer} {n : ℕ} (b : Bool)
      → By text (Rule.body h) (grammar.body_as h b) ts o n rest → stands_for_none h.params ≡ false → HoldsNoVoid o
  body_by true (By.part By.any By.gives) e = e
  body_by {h = h} false d e = defined (all_named h.params) d e

  body_so : {ts rest : List Token} {h : Head} {o : Outer} {n : ℕ} → Front text (Rule.body h) ts o n rest
      → stands_for_none h.params ≡ false → HoldsNoVoid o
  body_so {ts = ts} (By.look d) e = body_by (next_is mark.Semicolon ts) d e

  outer_by : {ts rest : List Token} {o : Outer} {n : ℕ} (b : Bool) → By text Rule.outer (grammar.outer_as b) ts o n rest
      → HoldsNoVoid o
  outer_by true (By.part head (By.part body By.gives)) = body_so body (head_so head)
  outer_by false (By.part vs By.gives) = tt

  outer_so : {ts rest : List Token} {o : Outer} {n : ℕ} → Front text Rule.outer ts o n rest → HoldsNoVoid o
  outer_so {ts = ts} (By.look d) = outer_by (function_at ts) d

  outers_so : {ts rest : List Token} {os : List Outer} {n : ℕ} → Front text (Rule.more Listed.outers) ts os n rest
      → HoldNoVoid os
  outers_so {ts = []} (By.look By.gives) = tt
  outers_so {ts = t ∷ ts} (By.look (By.part (By.part o (By.part more By.gives)) By.gives)) = (outer_so o, outers_so more)

  pub derived_hold_no_void : (tokens : List Token) (tree : Tree) → Derives text tokens tree → HoldNoVoid tree.outers
  derived_hold_no_void tokens tree d = outers_so d.whole
