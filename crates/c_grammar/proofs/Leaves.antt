-- What single tokens say of the rules that they stand for.
use Rattle.std.proofs.Common.{◌≡◌, ℕ, List, [], ◌∷◌, Some, None, true, false, refl, sym, ap, ◌∙◌}
use Rattle.cov_base.specs.declared.refusal.Refusal.{Refusal}
use Rattle.cov_base.specs.declared.refusal.Refusal.TheVariants as refusal
use Rattle.c_tokens.specs.declared.token.Token.{Token}
use Rattle.c_tokens.specs.declared.token.TokenKind.{TokenKind}
use Rattle.c_tokens.specs.declared.token.TokenKind.TheVariants as kind
use Rattle.c_tokens.specs.declared.token.Keyword.{Keyword}
use Rattle.c_tokens.specs.declared.token.Punct.{Punct}
use Rattle.c_tokens.specs.contracts.token.Punct.{the_type as the_mark}
use Rattle.std.proofs.lemmas.Bool.{false≢true}
use denote.Enum.Bare.{same_true, true_same}
use Rattle.c_grammar.specs.declared.fault.ParseFault.{ParseFault}
use Rattle.c_grammar.specs.declared.fault.ParseFault.TheVariants as fault
use Rattle.c_tree.specs.declared.expr.Base.{Base}
use Rattle.std.proofs.lemmas.Option.{none-some}
use Rattle.c_grammar.specs.Words.{base_at, behind_words, is_mark, mark_of, next_is, is_name, name_at, key_of, key_at}
use Rattle.c_grammar.specs.Rules.{Rule}
use Rattle.c_grammar.specs.Derivations.{By, Front}
use Rattle.c_grammar.specs.Reads.{Lacks}
use Rattle.c_grammar.proofs.Moves.{moved1, some_same}

pub any_lacking : {text : List ℕ} {ts : List Token} {place : ℕ} → ts ≡ [] → Lacks (Front text Rule.any ts)
    (refusal.Refused (fault.Syntax place))
any_lacking {text = text} {place = place} s =
    moved1 (λ zs. Lacks (Front text Rule.any zs) (refusal.Refused (fault.Syntax place))) s
    (Lacks.no_tree (λ x n rest d. none d))
  where
    none : {text : List ℕ} {x : Token} {n : ℕ} {rest : List Token} → Front text Rule.any [] x n rest → ⊥
    none d = elim d [ ]

-- a token of a kind is a token
pub as_any : {text : List ℕ} {kind : TokenKind} {ts rest : List Token} {t : Token} {n : ℕ} → Front text
    (Rule.token kind) ts t n rest
    → Front text Rule.any ts t n rest × (t.kind ≡ kind)
as_any (By.token k) = (By.any, k)

-- the next token has this kind
abbrev pub HasKind : TokenKind → List Token → Type 0
HasKind kind [] = Unit {0}
HasKind kind (t ∷ ts) = t.kind ≡ kind

pub of_kind : {text : List ℕ} {kind : TokenKind} {ts rest : List Token} {t : Token} {n : ℕ} → HasKind kind ts → Front
    text Rule.any ts t n rest
    → Front text (Rule.token kind) ts t n rest
of_kind k By.any = By.token k

has_kind : {text : List ℕ} {kind : TokenKind} {ts rest : List Token} {t : Token} {n : ℕ} → Front text (Rule.token kind)
    ts t n rest
    → (u : Token) × (us : List Token) × (ts ≡ u ∷ us) × (u.kind ≡ kind)
has_kind (By.token {t = t} {ts = ts} k) = (t, ts, refl, k)

-- where the next token has the kind, it is read as any token
pub same_lacking : {text : List ℕ} {kind : TokenKind} {ts : List Token} {e : Refusal ParseFault} → Lacks
    (Front text Rule.any ts) e
    → Lacks (Front text (Rule.token kind) ts) e
same_lacking (Lacks.no_tree h) = Lacks.no_tree (λ x n rest d. h x n rest (as_any d).0)
same_lacking Lacks.no_memory = Lacks.no_memory

other_token : {text : List ℕ} {kind : TokenKind} {ts : List Token} {place : ℕ}
    → ((u : Token) (us : List Token) → ts ≡ u ∷ us → u.kind ≡ kind → ⊥) → Lacks (Front text (Rule.token kind) ts)
    (refusal.Refused (fault.Syntax place))
other_token f = Lacks.no_tree (λ x n rest d. let h = has_kind d in f h.0 h.1 h.2 h.3)

-- marks
mark_kind : (m : Punct) (k : TokenKind) → is_mark m (mark_of (Some k)) ≡ true → k ≡ kind.Mark m
mark_kind m (kind.Mark n) h = ap (λ x. kind.Mark x) (same_true the_mark tt n m h)
mark_kind m kind.Name h = elim (false≢true h) [ ]
mark_kind m (kind.Number n t) h = elim (false≢true h) [ ]
mark_kind m kind.EofName h = elim (false≢true h) [ ]
mark_kind m (kind.Key k) h = elim (false≢true h) [ ]

pub marked : (m : Punct) (ts : List Token) → next_is m ts ≡ true → HasKind (kind.Mark m) ts
marked m [] h = tt
marked m (t ∷ ts) h = mark_kind m t.kind h

unmarked : (m : Punct) (ts : List Token) (u : Token) (us : List Token) → next_is m ts ≡ false → ts ≡ u ∷ us → u.kind ≡
    kind.Mark m → ⊥
unmarked m ts u us h s k =
    false≢true (sym h ∙ ap (next_is m) s ∙ ap (λ x. is_mark m (mark_of (Some x))) k ∙ true_same the_mark m m refl)

pub mark_lacking : {text : List ℕ} {m : Punct} {ts : List Token} {place : ℕ} → next_is m ts ≡ false
    → Lacks (Front text (Rule.token (kind.Mark m)) ts) (refusal.Refused (fault.Syntax place))
mark_lacking {m = m} {ts = ts} h = other_token (λ u us s k. unmarked m ts u us h s k)

-- names
name_kind : (k : TokenKind) → is_name (Some k) ≡ true → k ≡ kind.Name
name_kind kind.Name h = refl
name_kind (kind.Mark m) h = elim (false≢true h) [ ]
name_kind (kind.Number n t) h = elim (false≢true h) [ ]
name_kind kind.EofName h = elim (false≢true h) [ ]
name_kind (kind.Key k) h = elim (false≢true h) [ ]

pub named : (ts : List Token) → name_at ts ≡ true → HasKind kind.Name ts
named [] h = tt
named (t ∷ ts) h = name_kind t.kind h

pub name_lacking : {text : List ℕ} {ts : List Token} {place : ℕ} → name_at ts ≡ false
    → Lacks (Front text (Rule.token kind.Name) ts) (refusal.Refused (fault.Syntax place))
name_lacking {ts = ts} h = other_token (λ u us s k. false≢true (sym h ∙ ap name_at s ∙ ap (λ x. is_name (Some x)) k))

-- keywords
word_kind : {w : Keyword} (k : TokenKind) → key_of (Some k) ≡ Some w → k ≡ kind.Key w
word_kind (kind.Key k) h = ap (λ x. kind.Key x) (some_same h)
word_kind kind.Name h = elim (none-some _ h) [ ]
word_kind (kind.Mark m) h = elim (none-some _ h) [ ]
word_kind (kind.Number n t) h = elim (none-some _ h) [ ]
word_kind kind.EofName h = elim (none-some _ h) [ ]

pub worded : (w : Keyword) (ts : List Token) → key_at ts ≡ Some w → HasKind (kind.Key w) ts
worded w [] h = tt
worded w (t ∷ ts) h = word_kind t.kind h

pub word_lacking : {text : List ℕ} {w : Keyword} {ts : List Token} {place : ℕ} → (key_at ts ≡ Some w → ⊥)
    → Lacks (Front text (Rule.token (kind.Key w)) ts) (refusal.Refused (fault.Syntax place))
word_lacking f = other_token (λ u us s k. f (ap key_at s ∙ ap (λ x. key_of (Some x)) k))

-- the words of a type
pub words_found : {text : List ℕ} {ts rest : List Token} {base : Base} → Some base ≡ base_at ts → rest ≡ behind_words ts
    → Front text Rule.type_name ts base 0 rest
words_found {text =
    text} {ts = ts} {base = base} b s = moved1 (λ zs. Front text Rule.type_name ts base 0 zs) s (By.words (sym b))

base_named : {text : List ℕ} {ts rest : List Token} {base : Base} {n : ℕ} → Front text Rule.type_name ts base n rest →
    base_at ts ≡ Some base
base_named (By.words b) = b

pub words_lacking : {text : List ℕ} {ts : List Token} {place : ℕ} → None ≡ base_at ts → Lacks
    (Front text Rule.type_name ts) (refusal.Refused (fault.Syntax place))
words_lacking b = Lacks.no_tree (λ x n rest d. none-some x (b ∙ base_named d))
