-- What the parts of a source say of its tokens.
use Rattle.std.proofs.Common.{
  ◌≡◌,
  ℕ,
  zero,
  suc,
  ◌+◌,
  ◌<◌,
  ◌≤◌,
  nat_lt,
  length,
  max,
  slice_get,
  Bool,
  true,
  false,
  cond,
  List,
  [],
  ◌∷◌,
  Some,
  refl,
  sym,
  ap,
  ◌∙◌,
  subst,
  arith,
}
use Rattle.std.proofs.lemmas.Bool.{false≢true, lt-ltb}
use Rattle.std.proofs.lemmas.Option.{none-some}
use Rattle.cov_base.specs.Limits.{level_limit}
use Rattle.cov_base.specs.declared.refusal.Refusal.TheVariants as refusal
use Rattle.c_tokens.specs.declared.token.Token.{Token}
use Rattle.c_tokens.specs.Spans.{StandInOrder}
use Rattle.c_tokens.specs.Tokens.{Splits}
use Rattle.c_tokens.proofs.SpanLaws.{fills-in_order}
use Rattle.c_tree.specs.Tree.{Outer, Tree}
use Rattle.c_tree.specs.Levels.{most, outer_levels, tree_levels}
use Rattle.c_grammar.specs.declared.fault.ParseFault.{ParseFault}
use Rattle.c_grammar.specs.declared.fault.ParseFault.TheVariants as fault
use Rattle.c_grammar.specs.Rules.{Listed, Rule, Result}
use Rattle.c_grammar.specs.Grammar.{Grammar}
use Rattle.c_grammar.specs.Derivations.{By, Front, end_from, Derives}
use Rattle.c_grammar.specs.Reads.{Refuses, Fits}
use Rattle.c_grammar.proofs.Moves.{some_same}
use Rattle.c_grammar.proofs.Laws.{one, parted, chosen, by_one}
use Rattle.c_grammar.proofs.Depth.{sized}
use Rattle.c_grammar.proofs.Spends.{front_spends}
use Rattle.c_parser.specs.Sources.{begun_before, Parses, ParseRefuses}

-- behind a value stand the tokens before it
rest_same : {text : List ℕ} {r : Rule} {v x : Result r} {ts rest : List Token} {n : ℕ}
    → By text r (Grammar.gives v) ts x n rest → rest ≡ ts
rest_same By.gives = refl

-- the parts of a source are all its tokens
whole : (text : List ℕ) (k : ℕ) (ts : List Token) {rest : List Token} {xs : List Outer} {n : ℕ} → length ts ≤ k
    → Front text (Rule.more Listed.outers) ts xs n rest → rest ≡ []
whole text k [] l f = rest_same (chosen f)
whole text zero (t ∷ ts) l f = absurd (let no : ⊥ = omega (arith, l) in no)
whole text (suc k) (t ∷ ts) l f =
    let list = by_one {f = λ ys. ys} (chosen f) in
    let member = parted list.2 in
    let others = parted member.then in
    rest_same others.then
    ∙ whole text k member.middle (omega (arith, l, front_spends text Rule.outer refl member.first)) others.first

tree_same : {a b : Tree} → a.outers ≡ b.outers → a.end ≡ b.end → a ≡ b
tree_same {a = a} {b = b} o e =
    ap (λ xs. let t : Tree = record { outers = xs; end = a.end } in t) o
    ∙ ap (λ n. let t : Tree = record { outers = b.outers; end = n } in t) e

-- at most one tree is derived
one_tree : {text : List ℕ} {tokens : List Token} {a b : Tree} → Derives text tokens a → Derives text tokens b → a ≡ b
one_tree d e = tree_same ((one d.whole e.whole).value) (d.end ∙ sym e.end)

-- its levels are those of its derivation
tree_deep : {text : List ℕ} {tokens : List Token} {tree : Tree} (d : Derives text tokens tree) → d.levels
    ≡ tree_levels tree
tree_deep d = (sized {r = Rule.more Listed.outers} tt d.whole).counted

-- the parts and the end make a tree
pub parsed : {text : List ℕ} {tokens rest : List Token} {tree : Tree} {n : ℕ}
    → Fits (Front text (Rule.more Listed.outers) tokens) level_limit tree.outers n rest
    → tree.end ≡ end_from 0 tokens → Parses text tokens tree
parsed {text = text} {tokens = tokens} {rest = rest} {tree = tree} {n = n} f e =
    let d = subst (λ us. Front text (Rule.more Listed.outers) tokens tree.outers n us)
    (whole text (length tokens) tokens (omega arith) f.front) f.front in
    let here : Derives text tokens tree = record { levels = n; whole = d; end = e } in
    record {
      derives = here;
      levels = omega (arith, f.fits, tree_deep here);
      only = λ other h. one_tree h here;
    }

-- where no parts have all tokens, no tree derives them
pub no_tree : {text : List ℕ} {tokens : List Token} {place : ℕ}
    → Refuses (Front text (Rule.more Listed.outers) tokens) level_limit (refusal.Refused (fault.Syntax place))
    → ParseRefuses text tokens (refusal.Refused (fault.Syntax place))
no_tree (Refuses.no_tree h) = ParseRefuses.syntax_ (λ tree d. h tree.outers d.levels [] d.whole)

deep : {text : List ℕ} {tokens : List Token} {place : ℕ}
    → Refuses (Front text (Rule.more Listed.outers) tokens) level_limit (refusal.Refused (fault.TooDeep place))
    → (tree : Tree) → Derives text tokens tree → level_limit < tree_levels tree
deep (Refuses.too_deep h) tree d = omega (arith, h tree.outers d.levels [] d.whole, tree_deep d)

-- 256 tokens have no tree of more levels
pub too_few : {text : List ℕ} {tokens : List Token} {place : ℕ}
    → Refuses (Front text (Rule.more Listed.outers) tokens) level_limit (refusal.Refused (fault.TooDeep place))
    → length tokens ≤ level_limit → ParseRefuses text tokens (refusal.Refused (fault.Syntax place))
too_few h l =
    ParseRefuses.syntax_ (λ tree d. absurd (let no : ⊥ =
    omega (arith, l, deep h tree d, tree_deep d, (sized {r = Rule.more Listed.outers} tt d.whole).within) in no))

pub memory : {text : List ℕ} {tokens : List Token} → ParseRefuses text tokens refusal.NoMemory
memory = ParseRefuses.no_memory

-- what is found in a list that stands in order stands behind its beginning
behind_start : (from to n : ℕ) (ts : List Token) {t : Token} → StandInOrder from to ts → slice_get ts n ≡ Some t → from
    < t.end
behind_start from to n [] o g = elim (none-some _ g) [ ]
behind_start from to zero (x ∷ xs) {t = t} o g =
    let e : x.end ≡ t.end = ap (λ y. y.end) (some_same g) in omega (arith, o.0.behind, o.0.some, e)
behind_start from to (suc n) (x ∷ xs) o g = omega (arith, o.0.behind, o.0.some, behind_start x.end to n xs o.1 g)

one_begun : (b : Bool) (k n : ℕ) → b ≡ true → n ≤ k → n < cond b 1 0 + k
one_begun true k n h l = omega (arith, l)
one_begun false k n h l = elim (false≢true h) [ ]

-- so many tokens begin before the end of a later one
begun : (from to far n : ℕ) (ts : List Token) {t : Token} → StandInOrder from to ts → slice_get ts n ≡ Some t → t.end
    ≤ far → n < begun_before far ts
begun from to far n [] o g l = elim (none-some _ g) [ ]
begun from to far zero (x ∷ xs) {t = t} o g l =
    let e : x.end ≡ t.end = ap (λ y. y.end) (some_same g) in
    one_begun (nat_lt x.start far) (begun_before far xs) zero (lt-ltb x.start far (omega (arith, l, e, o.0.some)))
    (omega arith)
begun from to far (suc n) (x ∷ xs) o g l =
    one_begun (nat_lt x.start far) (begun_before far xs) (suc n)
    (lt-ltb x.start far (omega (arith, l, o.0.some, behind_start x.end to n xs o.1 g)))
    (let h : n < begun_before far xs = begun x.end to far n xs o.1 g l in omega (arith, h))

pub too_deep : {text : List ℕ} {tokens : List Token} {place : ℕ} {f : ParseFault} → Splits text tokens
    → f ≡ fault.TooDeep place
    → Refuses (Front text (Rule.more Listed.outers) tokens) level_limit (refusal.Refused f)
    → {t : Token} {far : ℕ} → slice_get tokens 256 ≡ Some t → far ≡ max place t.end
    → ParseRefuses text tokens (refusal.Refused (fault.TooDeep far))
too_deep {text = text} {tokens = tokens} {place = place} s f h {t = t} {far = far} g e =
    ParseRefuses.too_deep
    (deep (subst (λ x. Refuses (Front text (Rule.more Listed.outers) tokens) level_limit (refusal.Refused x)) f h))
    (begun 0 (0 + length text) far 256 tokens (fills-in_order s) g (omega (arith, e)))
