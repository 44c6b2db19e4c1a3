-- What stands behind an expression: its refusal is that of what goes on.
use Rattle.std.proofs.Common.{
  ◌≡◌,
  ℕ,
  ◌+◌,
  ◌-◌,
  ◌<◌,
  ◌≤◌,
  max,
  true,
  List,
  length,
  Ok,
  Err,
  refl,
  sym,
  subst,
  arith,
}
use Rattle.std.specs.Prelude.{Result as Outcome, IsErrAnd}
use Rattle.cov_base.specs.declared.refusal.Refusal.{Refusal}
use Rattle.c_tokens.specs.declared.token.Punct.TheVariants as mark
use Rattle.c_tokens.specs.declared.token.Token.{Token}
use Rattle.c_tree.specs.Expr.{Expr, Kind}
use Rattle.c_grammar.specs.declared.fault.ParseFault.{ParseFault}
use Rattle.c_grammar.specs.declared.found.Found.{Found}
use Rattle.c_grammar.specs.Operators.{at}
use Rattle.c_grammar.specs.Rules.{Rule, Result}
use Rattle.c_grammar.specs.Grammar.{Grammar, choice_as}
use Rattle.c_grammar.specs.Derivations.{By, Front}
use Rattle.c_grammar.specs.Reads.{Refuses, Lacks, Fits, Joins}
use Rattle.c_grammar.proofs.Laws.{one, parted, levelled, valued}
use Rattle.c_grammar.proofs.Spends.{front_spends, shorter}
use Rattle.c_grammar.proofs.Steps.{refused_below, deep_most}
use Rattle.c_exprs.specs.Sides.{Deeper, Side, Sides}

-- what a `?` gives back where more is joined
pub passed_on : {H A : Type 0} (view : H → A) (P : A → ℕ → List Token → A → ℕ → List Token
    → Type 0) {room n : ℕ} {x : A}
    {ts : List Token} {e : Refusal ParseFault} (r : Outcome (Found H) (Refusal ParseFault)) → IsErrAnd r (λ y. y ≡ e)
    → Refuses (P x n ts) room e → Joins view P room x n ts r
passed_on view P (Ok found) h f = absurd h
passed_on view P {room = room} {n = n} {x = x} {ts = ts} (Err e) h f = subst (Refuses (P x n ts) room) (sym h) f

-- a token has no levels
zero_levels : {text : List ℕ} {ts us : List Token} {t : Token} {k : ℕ} → Front text Rule.any ts t k us
    → Front text Rule.any ts t 0 us
zero_levels By.any = By.any

-- the refusal of a token that is a level deeper
pub token_refused : {text : List ℕ} (r : Rule) (n : ℕ) {room : ℕ} {next : Token → Grammar (Result r)} {ts : List Token}
    {e : Refusal ParseFault}
    → ((t : Token) (x : Result r) (j : ℕ) (us rest : List Token) → By text r (next t) us x j rest → n + 1 ≤ j)
    → Refuses (Deeper text n ts) room e
    → Refuses (By text r (Grammar.part 0 Rule.any (λ t k. next t)) ts) room e
token_refused r n l h =
    refused_below 0 (λ x j rest p. let d = parted p in (
      d.value,
      n + 1,
      d.middle,
      (zero_levels d.first, refl),
      omega (arith, d.most, l d.value x d.others d.middle rest d.then),
    )) (omega arith) h

-- the refusal of a token and a right side
pub side_refused : {text : List ℕ} (r q : Rule) (n : ℕ) {room : ℕ} {next : Token → Result q → ℕ → Grammar (Result r)}
    {ts : List Token} {e : Refusal ParseFault}
    → ((t : Token) (y : Result q) (k : ℕ) (x : Result r) (j : ℕ) (us rest : List Token) → By text r (next t y k) us x j
    rest → n + 1 ≤ j) → Refuses (Side text (Front text q) n ts) room e
    → Refuses (By text r (Grammar.part 0 Rule.any (λ t m. Grammar.part 1 q (next t))) ts) room e
side_refused r q n l h =
    refused_below 0 (λ x j rest p.
    let d = parted p in
    let e = parted d.then in (
      (d.value, e.value),
      max (n + 1) (e.levels + 1),
      e.middle,
      record {
        middle = d.middle;
        levels = e.levels;
        token = zero_levels d.first;
        right = e.first;
        most = refl;
      },
      omega (arith, d.most, e.most, l d.value e.value e.levels x e.others e.middle rest e.then),
    )) (omega arith) h

-- a token and a right side leave fewer tokens
pub side_shorter : {text : List ℕ} (q : Rule) {n k : ℕ} {ts rest : List Token} {s : Token × Result q}
    → Side text (Front text q) n ts s k rest → length rest < length ts
side_shorter {text = text} q s = omega (arith, front_spends text Rule.any refl s.token, shorter s.right)

pub deeper_lacking : {text : List ℕ} (n : ℕ) {room : ℕ} {ts : List Token} {e : Refusal ParseFault} → Lacks
    (Front text Rule.any ts) e → Refuses (Deeper text n ts) room e
deeper_lacking n (Lacks.no_tree h) = Refuses.no_tree (λ t k rest p. h t 0 rest p.0)
deeper_lacking n Lacks.no_memory = Refuses.no_memory

pub side_lacking : {A : Type 0} {text : List ℕ} (inner : List Token → A → ℕ → List Token → Type 0) {n room : ℕ}
    {ts : List Token} {e : Refusal ParseFault} → Refuses (Deeper text n ts) room e
    → Refuses (Side text inner n ts) room e
side_lacking inner {n = n} h =
    refused_below 0 (λ s k rest p. (s.0, n + 1, p.middle, (p.token, refl), omega (arith, p.most))) (omega arith) h

pub right_refused : {A : Type 0} {text : List ℕ} (inner : List Token → A → ℕ → List Token → Type 0) {n room : ℕ}
    {t : Token} {ts us : List Token} {e : Refusal ParseFault} → Front text Rule.any ts t 0 us
    → Refuses (inner us) (room - 1) e → Refuses (Side text inner n ts) room e
right_refused inner f h =
    refused_below 1 (λ s k rest p. (
      s.1,
      p.levels,
      rest,
      subst (λ vs. inner vs s.1 p.levels rest) (one p.token f).rest p.right,
      omega (arith, p.most),
    )) (omega arith) h

-- the sides of a choice
pub sides_lacking : {text : List ℕ} {n room : ℕ} {ts : List Token} {e : Refusal ParseFault} → Refuses (Deeper text n ts)
    room e → Refuses (Sides text n ts) room e
sides_lacking {n = n} h =
    refused_below 0 (λ s k rest p. (s.0, n + 1, p.middle, (p.token, refl), omega (arith, p.most))) (omega arith) h

pub first_refused : {text : List ℕ} {n room : ℕ} {t : Token} {ts us : List Token} {e : Refusal ParseFault}
    → Front text Rule.any ts t 0 us → Refuses (Front text (Rule.closed mark.Colon) us) (room - 1) e
    → Refuses (Sides text n ts) room e
first_refused {text = text} f h =
    refused_below 1 (λ s k rest p. (
      s.1,
      p.levels,
      p.second,
      subst (λ vs. Front text (Rule.closed mark.Colon) vs s.1 p.levels p.second) (one p.token f).rest p.first,
      omega (arith, p.most),
    )) (omega arith) h

pub last_refused : {text : List ℕ} {n m room : ℕ} {t : Token} {a : Expr} {ts us vs : List Token} {e : Refusal
    ParseFault}
    → Front text Rule.any ts t 0 us → Front text (Rule.closed mark.Colon) us a m vs
    → Refuses (Front text Rule.conditional vs) (room - 1) e → Refuses (Sides text n ts) room e
last_refused {text = text} f g h =
    refused_below 1 (λ s k rest p.
    let a = subst (λ vs. Front text (Rule.closed mark.Colon) vs s.1 p.levels p.second) (one p.token f).rest p.first in (
      s.2,
      p.others,
      rest,
      subst (λ vs. Front text Rule.conditional vs s.2 p.others rest) (one a g).rest p.last,
      omega (arith, p.most),
    )) (omega arith) h

pub choice_refused : (text : List ℕ) (x : Expr) (n room : ℕ) (ts : List Token) {e : Refusal ParseFault}
    → Refuses (Sides text n ts) room e → Refuses (By text Rule.conditional (choice_as x n true) ts) room e
choice_refused text x n room ts h =
    refused_below 0 (λ y j rest p.
    let d = parted p in
    let a = parted d.then in
    let b = parted a.then in
    let l : n + 1 ≤ b.others = deep_most b.then in (
      (d.value, a.value, b.value),
      max (n + 1) (max a.levels b.levels + 1),
      b.middle,
      record {
        middle = d.middle;
        second = a.middle;
        levels = a.levels;
        others = b.levels;
        token = zero_levels d.first;
        first = a.first;
        last = b.first;
        most = refl;
      },
      omega (arith, d.most, a.most, b.most, l),
    )) (omega arith) h

pub choice_found : {text : List ℕ} {x y : Expr} {n k room : ℕ} {s : Token × Expr × Expr} {ts rest : List Token}
    → Fits (Sides text n ts) room s k rest → y ≡ at s.0 (Kind.Choose x s.1 s.2)
    → Fits (By text Rule.conditional (choice_as x n true) ts) room y k rest
choice_found f e = record {
  front = levelled
      (By.part f.front.token (By.part f.front.first (By.part f.front.last (By.deep (valued By.gives e)))))
      (omega (arith, f.front.most));
  fits = f.fits;
}
