-- What tokens derive by the grammar.
use Rattle.std.specs.Prelude.{◌≡◌, ℕ, ◌+◌, max, List, [], ◌∷◌, Some}
use Rattle.c_tokens.specs.declared.token.Token.{Token}
use Rattle.c_tokens.specs.declared.token.TokenKind.{TokenKind}
use Rattle.c_tree.specs.declared.expr.Base.{Base}
use Rattle.c_tree.specs.Tree.{Tree}
use Rattle.c_grammar.specs.Words.{base_at, behind_words}
use Rattle.c_grammar.specs.Rules.{Listed, Rule, Result}
use Rattle.c_grammar.specs.Grammar.{Grammar, form_of}

-- By this form of the rule the tokens in front of the rest are this value, which has so many levels (own).
pub data By (text : List ℕ) : (r : Rule) → Grammar (Result r) → List Token → Result r → ℕ → List Token → Type 0 where
  gives : {r : Rule} {x : Result r} {ts : List Token} → By text r (Grammar.gives x) ts x 0 ts
  any : {r : Rule} {f : Token → Result r} {t : Token} {ts : List Token} → By text r (Grammar.any f) (t ∷ ts) (f t) 0 ts
  token : {r : Rule} {kind : TokenKind} {f : Token → Result r} {t : Token} {ts : List Token} → t.kind ≡ kind
      → By text r (Grammar.token kind f) (t ∷ ts) (f t) 0 ts
  words : {r : Rule} {f : Base → Result r} {base : Base} {ts : List Token} → base_at ts ≡ Some base
      → By text r (Grammar.words f) ts (f base) 0 (behind_words ts)
  part : {r q : Rule} {d m n : ℕ} {next : Result q → ℕ → Grammar (Result r)} {y : Result q} {x : Result r}
      {ts us rest : List Token}
      → By text q (form_of text q) ts y m us → By text r (next y m) us x n rest
      → By text r (Grammar.part d q next) ts x (max (m + d) n) rest
  deep : {r : Rule} {d n : ℕ} {g : Grammar (Result r)} {x : Result r} {ts rest : List Token} → By text r g ts x n rest
      → By text r (Grammar.deep d g) ts x (max d n) rest
  look : {r : Rule} {next : List Token → Grammar (Result r)} {x : Result r} {n : ℕ} {ts rest : List Token}
      → By text r (next ts) ts x n rest → By text r (Grammar.look next) ts x n rest

-- by the rule the tokens in front of the rest are this value, which has so many levels (C17 6.5 to 6.9)
abbrev pub Front : List ℕ → (r : Rule) → List Token → Result r → ℕ → List Token → Type 0
Front text r = By text r (form_of text r)

-- the end of the last token, where there is one, else this number (own)
abbrev pub end_from : ℕ → List Token → ℕ
end_from n [] = n
end_from n (t ∷ ts) = end_from t.end ts

-- The tokens of a text derive the tree: all of them are its parts, and its end is that of the last token, or 0 (C17
-- 6.9).
pub record Derives (text : List ℕ) (tokens : List Token) (tree : Tree) : Type 0 where
  pub levels : ℕ
  pub whole : Front text (Rule.more Listed.outers) tokens tree.outers levels []
  pub end : tree.end ≡ end_from 0 tokens
