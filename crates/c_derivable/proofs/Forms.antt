-- How derivations are put together, whatever their levels.
use Rattle.std.proofs.Common.{◌≡◌, refl, sym, ap, subst, ℕ, ◌+◌, max}
use Rattle.std.proofs.Common.{List, [], ◌∷◌, ◌++◌}
use Rattle.c_tokens.specs.declared.token.Punct.{Punct}
use Rattle.c_tokens.specs.declared.token.Token.{Token}
use Rattle.c_tokens.specs.declared.token.TokenKind.{TokenKind}
use Rattle.c_tokens.specs.declared.token.TokenKind.TheVariants as kind
use Rattle.c_grammar.specs.Rules.{Rule, Result}
use Rattle.c_grammar.specs.Grammar.{Grammar}
use Rattle.c_grammar.specs.Derivations.{By, Front}
use Rattle.c_syntax.specs.Syntax.{IsMark}

pub append_assoc : (xs ys zs : List Token) → (xs ++ ys) ++ zs ≡ xs ++ (ys ++ zs)
append_assoc [] ys zs = refl
append_assoc (x ∷ xs) ys zs = ap (λ (l : List Token). x ∷ l) (append_assoc xs ys zs)

module _ (text : List ℕ) where
  -- by the form the tokens in front of the rest are this value
  abbrev pub Formed : (r : Rule) → Grammar (Result r) → List Token → Result r → List Token → Type 0
  Formed r g ts x rest = (n : ℕ) × By text r g ts x n rest

  -- by the rule they are
  abbrev pub Derived : (r : Rule) → List Token → Result r → List Token → Type 0
  Derived r ts x rest = (n : ℕ) × Front text r ts x n rest

  pub moved : (r : Rule) (g : Grammar (Result r)) {ts us rest : List Token} {x : Result r} → ts ≡ us
      → Formed r g us x rest → Formed r g ts x rest
  moved r g {rest = rest} {x = x} e f = subst (λ (l : List Token). Formed r g l x rest) (sym e) f

  pub done : (r : Rule) {x : Result r} {rest : List Token} → Formed r (Grammar.gives x) rest x rest
  done r = (0, By.gives)

  pub part : (r q : Rule) {d : ℕ} {next : Result q → ℕ → Grammar (Result r)} {y : Result q} {x : Result r}
      {ts us rest : List Token} → Derived q ts y us → ((m : ℕ) → Formed r (next y m) us x rest)
      → Formed r (Grammar.part d q next) ts x rest
  part r q {d = d} p then = let b = then p.0 in (max (p.0 + d) b.0, By.part p.1 b.1)

  pub deep : (r : Rule) {d : ℕ} {g : Grammar (Result r)} {x : Result r} {ts rest : List Token} → Formed r g ts x rest
      → Formed r (Grammar.deep d g) ts x rest
  deep r {d = d} f = (max d f.0, By.deep f.1)

  pub look : (r : Rule) {X : Type 0} (form : X → Grammar (Result r)) (choice : List Token → X) {x : Result r}
      {ts rest : List Token} (o : X) → choice ts ≡ o → Formed r (form o) ts x rest
      → Formed r (Grammar.look (λ us. form (choice us))) ts x rest
  look r {X = X} form choice {x = x} {ts = ts} {rest = rest} o e f =
      let b = subst (λ (o : X). Formed r (form o) ts x rest) (sym e) f in (b.0, By.look b.1)

  -- a token, whatever it is
  pub token : (r : Rule) {next : Token → ℕ → Grammar (Result r)} {t : Token} {x : Result r} {ts rest : List Token}
      → Formed r (next t 0) ts x rest → Formed r (Grammar.part 0 Rule.any next) (t ∷ ts) x rest
  token r f = (max 0 f.0, By.part By.any f.1)

  -- a token of a kind
  pub of_kind : (r : Rule) (kind : TokenKind) {next : Token → ℕ → Grammar (Result r)} {t : Token} {x : Result r}
      {ts rest : List Token} → t.kind ≡ kind → Formed r (next t 0) ts x rest
      → Formed r (Grammar.part 0 (Rule.token kind) next) (t ∷ ts) x rest
  of_kind r kind k f = (max 0 f.0, By.part (By.token k) f.1)

  -- a mark
  pub mark : (r : Rule) {m : Punct} {next : Grammar (Result r)} {t : Token} {x : Result r} {ts rest : List Token}
      → IsMark m t → Formed r next ts x rest
      → Formed r (Grammar.part 0 (Rule.token (kind.Mark m)) (λ t n. next)) (t ∷ ts) x rest
  mark r {m = m} k f = of_kind r (kind.Mark m) k.is f
