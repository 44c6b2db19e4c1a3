-- What each rule of the parser's grammar means by the grammar without look-ahead, and what its forms mean.
use Rattle.std.proofs.Common.{◌≡◌, refl, sym, ap, subst, ◌∙◌, ℕ, suc, ◌+◌, ◌==◌, Bool, true, false, cond, ◌⊎◌}
use Rattle.std.proofs.Common.{List, [], ◌∷◌, ◌++◌, Option, Some, None}
use Rattle.c_tokens.specs.declared.token.Keyword.TheVariants as key
use Rattle.c_tokens.specs.declared.token.Punct.{Punct}
use Rattle.c_tokens.specs.declared.token.Punct.TheVariants as mark
use Rattle.c_tokens.specs.declared.token.Token.{Token}
use Rattle.c_tokens.specs.declared.token.TokenKind.{TokenKind}
use Rattle.c_tree.specs.declared.expr.Base.{Base}
use Rattle.c_tree.specs.Expr.{Expr}
use Rattle.c_tree.specs.Stmt.{Size, Init, Var, Stmt, OtherStmt, ForHead, SwitchItem}
use Rattle.c_tree.specs.Tree.{Param, Head, Outer}
use Rattle.c_grammar.specs.Words.{type_words, words_with, behind_words, word_number, is_type_word, key_of, named_by, type_lists}
use Rattle.c_tokens.specs.declared.token.Keyword.{Keyword}
use Rattle.c_grammar.specs.Forms.{else_at}
use Rattle.c_grammar.specs.Rules.{Listed, Member, Rule, Result}
use Rattle.c_grammar.specs.Grammar.{Grammar, form_of, has_commas}
use Rattle.c_grammar.specs.Derivations.{By, Front}
use Rattle.c_syntax.specs.Syntax.{IsMark, IsKey, IsName, AreTypeWords, IsType, takes_else, Symbol, Value, Is, symbol_of}
use Rattle.c_syntax.specs.Syntax as syntax

-- the tokens are one
pub data One : List Token → Token → Type 0 where
  one : {t : Token} → One (t ∷ []) t

-- the tokens are one of this kind
pub data OfKind (kind : TokenKind) : List Token → Token → Type 0 where
  of : {t : Token} → t.kind ≡ kind → OfKind kind (t ∷ []) t

module _ (text : List ℕ) where
  -- an expression and the mark behind it
  pub data Closed (m : Punct) : List Token → Expr → Type 0 where
    closed : {ts : List Token} {c : Token} {e : Expr} → Is text Symbol.expression ts e → IsMark m c
        → Closed m (ts ++ c ∷ []) e

  -- an expression in parentheses
  pub data InParens : List Token → Expr → Type 0 where
    parens : {ts : List Token} {o c : Token} {e : Expr} → IsMark mark.OpenParen o → Is text Symbol.expression ts e
        → IsMark mark.CloseParen c → InParens (o ∷ ts ++ c ∷ []) e

  -- what stands behind a condition of an `if`
  pub data Branches : List Token → Stmt → OtherStmt → Type 0 where
    alone : {ts : List Token} {s : Stmt} → Is text Symbol.statement ts s → Branches ts s OtherStmt.Nothing
    both : {ts us : List Token} {k : Token} {s other : Stmt} → Is text Symbol.statement ts s → takes_else s ≡ false
        → IsKey key.Else k → Is text Symbol.statement us other → Branches (ts ++ k ∷ us) s (OtherStmt.There other)

  -- the end of a `do`
  pub data Until : List Token → Expr → ℕ → Type 0 where
    until : {w o c m : Token} {ts : List Token} {e : Expr} → IsKey key.While w → IsMark mark.OpenParen o
        → Is text Symbol.expression ts e → IsMark mark.CloseParen c → IsMark mark.Semicolon m
        → Until (w ∷ o ∷ ts ++ c ∷ m ∷ []) e w.line

  -- the test and the step of a `for`
  pub data Controls : List Token → Option Expr → Option Expr → Type 0 where
    controls : {ts us : List Token} {test step : Option Expr} → Is text (Symbol.left_out mark.Semicolon) ts test
        → Is text (Symbol.left_out mark.CloseParen) us step → Controls (ts ++ us) test step

  -- the parentheses of a `for`
  pub data Controlled : List Token → ForHead → Type 0 where
    controlled : {o : Token} {ts us : List Token} {first : OtherStmt} {test step : Option Expr}
        → IsMark mark.OpenParen o → Is text Symbol.for_first ts first → Controls us test step
        → Controlled (o ∷ ts ++ us) (ForHead.Head first test step)

  -- items of a `switch` in braces
  pub data InBraces : List Token → List SwitchItem → Type 0 where
    braces : {o c : Token} {ts : List Token} {is : List SwitchItem} → IsMark mark.OpenBrace o
        → Is text (Symbol.following Listed.switch_items) ts is → IsMark mark.CloseBrace c
        → InBraces (o ∷ ts ++ c ∷ []) is

  -- what stands behind a member of a list with commas
  pub data Further (l : Listed) : List Token → List (Member l) → Type 0 where
    ends : Further l [] []
    goes : {c : Token} {ts : List Token} {xs : List (Member l)} → IsMark mark.Comma c
        → Is text (Symbol.separated l) ts xs → Further l (c ∷ ts) xs

  -- a list, and what stands behind a member of it
  abbrev pub MeantList : Bool → (l : Listed) → List Token → List (Member l) → Type 0
  MeantList true l ts xs = Is text (Symbol.separated l) ts xs
  MeantList false l ts xs = Is text (Symbol.following l) ts xs

  abbrev pub MeantMore : Bool → (l : Listed) → List Token → List (Member l) → Type 0
  MeantMore true l ts xs = Further l ts xs
  MeantMore false l ts xs = Is text (Symbol.following l) ts xs

  -- The rule's tokens, where the rest stands behind them, are this value.
  abbrev pub Means : (r : Rule) → List Token → List Token → Result r → Type 0
  Means Rule.any ts rest t = One ts t
  Means (Rule.token kind) ts rest t = OfKind kind ts t
  Means Rule.type_name ts rest base = IsType ts base
  Means Rule.operand ts rest e = Is text Symbol.postfix ts e
  Means Rule.postfix ts rest e = Is text Symbol.postfix ts e
  Means (Rule.increments e n) ts rest x =
      (us : List Token) → Is text Symbol.postfix us e → Is text Symbol.postfix (us ++ ts) x
  Means Rule.unary ts rest e = Is text Symbol.unary_expression ts e
  Means Rule.cast ts rest e = Is text Symbol.cast ts e
  Means (Rule.precedence m) ts rest e = Is text (Symbol.binary_expression m) ts e
  Means (Rule.operators m e n) ts rest x =
      (us : List Token) → Is text (Symbol.binary_expression (suc m)) us e
      → Is text (Symbol.binary_expression (suc m)) (us ++ ts) x
  Means Rule.conditional ts rest e = Is text Symbol.conditional ts e
  Means Rule.assignment ts rest e = Is text Symbol.assignment ts e
  Means Rule.expression ts rest e = Is text Symbol.expression ts e
  Means (Rule.commas e n) ts rest x =
      (us : List Token) → Is text Symbol.expression us e → Is text Symbol.expression (us ++ ts) x
  Means (Rule.closed m) ts rest e = Closed m ts e
  Means (Rule.ended m) ts rest e = Is text (Symbol.left_out m) ts e
  Means Rule.arguments ts rest es = Is text Symbol.arguments ts es
  Means (Rule.list l) ts rest xs = MeantList (has_commas l) l ts xs
  Means (Rule.more l) ts rest xs = MeantMore (has_commas l) l ts xs
  Means Rule.declaration ts rest vs = Is text Symbol.declaration ts vs
  Means (Rule.variable base) ts rest v = Is text (Symbol.variable base) ts v
  Means Rule.size ts rest s = Is text Symbol.size ts s
  Means Rule.length ts rest s = (o : Token) → IsMark mark.OpenBracket o → Is text Symbol.size (o ∷ ts) s
  Means Rule.initialiser ts rest i = Is text Symbol.initialiser ts i
  Means Rule.given ts rest i = (t : Token) → IsMark mark.Assign t → Is text Symbol.initialiser (t ∷ ts) i
  Means Rule.statement ts rest s = Is text Symbol.statement ts s × (takes_else s ≡ true → else_at rest ≡ false)
  Means Rule.condition ts rest e = InParens ts e
  Means Rule.branches ts rest b =
      Branches ts b.0 b.1 × (syntax.other_takes_else b.1 ≡ true → else_at rest ≡ false)
  Means Rule.until ts rest u = Until ts u.0 u.1
  Means Rule.first ts rest f = Is text Symbol.for_first ts f
  Means Rule.controls ts rest c = Controls ts c.0 c.1
  Means Rule.for_head ts rest h = Controlled ts h
  Means Rule.cases ts rest is = InBraces ts is
  Means Rule.item ts rest s = Is text Symbol.item ts s
  Means Rule.switch_item ts rest i = Is text Symbol.switch_item ts i
  Means Rule.outer ts rest o = Is text Symbol.outer ts o
  Means Rule.function_head ts rest h = Is text Symbol.function_head ts h
  Means (Rule.body h) ts rest o = (us : List Token) → Is text Symbol.function_head us h → Is text Symbol.outer (us ++ ts) o
  Means Rule.parameters ts rest ps = Is text Symbol.parameters ts ps
  Means Rule.parameter ts rest p = Is text Symbol.parameter ts p

  -- By this form of the rule these tokens, where the rest stands behind them, are this value: a part is what its rule
  -- means.
  pub data Seen : (r : Rule) → Grammar (Result r) → List Token → List Token → Result r → Type 0 where
    gives : {r : Rule} {x : Result r} {rest : List Token} → Seen r (Grammar.gives x) [] rest x
    any : {r : Rule} {f : Token → Result r} {t : Token} {rest : List Token} → Seen r (Grammar.any f) (t ∷ []) rest (f t)
    token : {r : Rule} {kind : TokenKind} {f : Token → Result r} {t : Token} {rest : List Token} → t.kind ≡ kind
        → Seen r (Grammar.token kind f) (t ∷ []) rest (f t)
    words : {r : Rule} {f : Base → Result r} {base : Base} {ws rest : List Token} → IsType ws base
        → Seen r (Grammar.words f) ws rest (f base)
    part : {r q : Rule} {d : ℕ} {next : Result q → ℕ → Grammar (Result r)} {x : Result r} {rest : List Token} (m : ℕ)
        (y : Result q) (ts us : List Token)
        → Means q ts (us ++ rest) y → Seen r (next y m) us rest x → Seen r (Grammar.part d q next) (ts ++ us) rest x
    deep : {r : Rule} {d : ℕ} {g : Grammar (Result r)} {x : Result r} {ts rest : List Token} → Seen r g ts rest x
        → Seen r (Grammar.deep d g) ts rest x
    look : {r : Rule} {next : List Token → Grammar (Result r)} {x : Result r} {ts rest : List Token}
        → Seen r (next (ts ++ rest)) ts rest x → Seen r (Grammar.look next) ts rest x

  -- a front of tokens is seen so, and this is it
  pub record Split (r : Rule) (g : Grammar (Result r)) (ts rest : List Token) (x : Result r) : Type 0 where
    pub front : List Token
    pub whole : ts ≡ front ++ rest
    pub seen : Seen r g front rest x

  pub append_assoc : (xs ys zs : List Token) → (xs ++ ys) ++ zs ≡ xs ++ (ys ++ zs)
  append_assoc [] ys zs = refl
  append_assoc (x ∷ xs) ys zs = ap (λ (l : List Token). x ∷ l) (append_assoc xs ys zs)

  -- the type words that tokens begin with
  abbrev front_words : List Token → List Token
  front_words [] = []
  front_words (t ∷ ts) = cond (is_type_word (key_of (Some t.kind))) (t ∷ front_words ts) []

  words_split : (ts : List Token) → ts ≡ front_words ts ++ behind_words ts
  words_split [] = refl
  words_split (t ∷ ts) = go (is_type_word (key_of (Some t.kind))) (words_split ts)
    where
      go : (b : Bool) → ts ≡ front_words ts ++ behind_words ts
          → t ∷ ts ≡ cond b (t ∷ front_words ts) [] ++ cond b (behind_words ts) (t ∷ ts)
      go true h = ap (λ (l : List Token). t ∷ l) h
      go false h = refl

  front_are_words : (ts : List Token) → AreTypeWords (front_words ts)
  front_are_words [] = tt
  front_are_words (t ∷ ts) = go (is_type_word (key_of (Some t.kind))) refl (front_are_words ts)
    where
      go : (b : Bool) → is_type_word (key_of (Some t.kind)) ≡ b → AreTypeWords (front_words ts)
          → AreTypeWords (cond b (t ∷ front_words ts) [])
      go true e h = (e, h)
      go false e h = tt

  front_same : (ts : List Token) → type_words ts ≡ type_words (front_words ts)
  front_same [] = refl
  front_same (t ∷ ts) = go (key_of (Some t.kind)) refl (front_same ts)
    where
      go : (k : Option Keyword) → key_of (Some t.kind) ≡ k → type_words ts ≡ type_words (front_words ts)
          → words_with k (type_words ts) ≡ type_words (cond (is_type_word k) (t ∷ front_words ts) [])
      go None e h = refl
      go (Some w) e h = at (word_number w == 0) refl
        where
          at : (b : Bool) → (word_number w == 0) ≡ b
              → cond b [] (word_number w ∷ type_words ts) ≡ type_words (cond (cond b false true) (t ∷ front_words ts) [])
          at true f = refl
          at false f =
              ap (λ (l : List ℕ). word_number w ∷ l) h
              ∙ sym (ap (λ (o : Option Keyword). words_with o (type_words (front_words ts))) e
              ∙ ap (λ (c : Bool). cond c [] (word_number w ∷ type_words (front_words ts))) f)

  pub splits : {r : Rule} {g : Grammar (Result r)} {ts rest : List Token} {x : Result r} {n : ℕ} → By text r g ts x n rest
      → ((q : Rule) (front rest : List Token) (y : Result q) → Seen q (form_of text q) front rest y
      → Means q front rest y)
      → Split r g ts rest x
  splits By.gives c = record { front = []; whole = refl; seen = Seen.gives }
  splits (By.any {t = t}) c = record { front = t ∷ []; whole = refl; seen = Seen.any }
  splits (By.token {t = t} k) c = record { front = t ∷ []; whole = refl; seen = Seen.token k }
  splits (By.words {base = base} {ts = ts} b) c = record {
    front = front_words ts;
    whole = words_split ts;
    seen = Seen.words (record {
      words = front_are_words ts;
      names = ap (named_by type_lists) (sym (front_same ts)) ∙ b;
    });
  }
  splits {r = r} {rest = rest} (By.part {q = q} {m = m} {next = next} {y = y} p e) c =
      let a = splits p c in let b = splits e c in record {
        front = a.front ++ b.front;
        whole = a.whole ∙ ap (λ (l : List Token). a.front ++ l) b.whole ∙ sym (append_assoc a.front b.front rest);
        seen = Seen.part m y a.front b.front (subst (λ (l : List Token). Means q a.front l y) b.whole (c q a.front _ y a.seen)) b.seen;
      }
  splits (By.deep e) c =
      let a = splits e c in record { front = a.front; whole = a.whole; seen = Seen.deep a.seen }
  splits {r = r} {rest = rest} {x = x} (By.look {next = next} e) c =
      let a = splits e c in record {
        front = a.front;
        whole = a.whole;
        seen = Seen.look (subst (λ (l : List Token). Seen r (next l) a.front rest x) a.whole a.seen);
      }
