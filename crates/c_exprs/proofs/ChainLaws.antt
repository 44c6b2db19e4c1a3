-- Expressions that go on: what operators join to what stands before them.
use Rattle.std.proofs.Common.{
  ◌≡◌,
  ℕ,
  zero,
  suc,
  ◌+◌,
  ◌-◌,
  ◌<◌,
  ◌≤◌,
  max,
  true,
  false,
  List,
  Some,
  None,
  refl,
  ap,
  subst,
  arith,
}
use Rattle.std.specs.Prelude.{Result as Outcome}
use Rattle.int_ops.specs.declared.operators.BinOp.{BinOp}
use Rattle.cov_base.specs.declared.refusal.Refusal.{Refusal}
use Rattle.c_tokens.specs.declared.token.Punct.TheVariants as mark
use Rattle.c_tokens.specs.declared.token.Token.{Token}
use Rattle.c_tree.specs.Expr.{Expr, Kind}
use Rattle.c_grammar.specs.declared.begins.BinaryOperator.{BinaryOperator}
use Rattle.c_grammar.specs.declared.fault.ParseFault.{ParseFault}
use Rattle.c_grammar.specs.declared.found.Found.{Found}
use Rattle.c_grammar.specs.Words.{next_is}
use Rattle.c_grammar.specs.Operators.{at, increment_at, joined, operator_at}
use Rattle.c_grammar.specs.Rules.{Rule, Result}
use Rattle.c_grammar.specs.Grammar.{Grammar, increments_as, operators_as, commas_as}
use Rattle.c_grammar.specs.Derivations.{By, Front}
use Rattle.c_grammar.specs.Reads.{Refuses, Fits, Reads, Leads, Joined}
use Rattle.c_grammar.proofs.Laws.{
  by_one,
  levelled,
  by_rule_read,
  refused_look,
  refused_deep,
  refused_part,
  refused_behind,
}
use Rattle.c_grammar.proofs.Lists.{leads_on}
use Rattle.c_grammar.proofs.Moves.{moved1}
use Rattle.c_grammar.proofs.Spends.{front_spends}
use Rattle.c_grammar.proofs.Steps.{leads_look, leads_part, leads_rule, then_read, deep_most}
use Rattle.c_exprs.specs.Sides.{Deeper, Side}
use Rattle.c_exprs.proofs.SideLaws.{token_refused, side_refused, side_shorter}

-- Operators of one precedence.
operators_deep : {text : List ℕ} {m n j : ℕ} {e x : Expr} {ts rest : List Token}
    → Front text (Rule.operators m e n) ts x j rest → n ≤ j
operators_deep p = deep_most p

pub operators_refused : (text : List ℕ) (m n room : ℕ) (left : Expr) (ts : List Token) {o : BinaryOperator}
    {e : Refusal ParseFault} → operator_at (m + 1) ts ≡ Some o
    → Refuses (Side text (Front text (Rule.precedence m)) n ts) room e
    → Refuses (Front text (Rule.operators m left n) ts) room e
operators_refused text m n room left ts {e = e} h f =
    let r = Rule.operators m left n in
    refused_deep {r = r}
    (refused_look {r = r} (moved1 (λ c. Refuses (By text r (operators_as m left n c) ts) room e) h
    (side_refused r (Rule.precedence m) n (λ t y k x j us rest p. omega (arith, operators_deep (by_one p).2)) f)))

pub operators_joined : {text : List ℕ} (m : ℕ) {n k room : ℕ} {left x : Expr} {o : BinaryOperator}
    {s : Token × Expr} {ts us : List Token} → operator_at (m + 1) ts ≡ Some o
    → Fits (Side text (Front text (Rule.precedence m)) n ts) room s k us → x ≡ at s.0 (joined o left s.1)
    → Joined (Front text (Rule.operators m left n) ts) (Front text (Rule.operators m x k) us) room k ts us
operators_joined {text =
    text} m {n = n} {k = k} {left = left} {x = x} {o = o} {s = s} {ts = ts} {us = us} h f e = record {
      leads = moved1 (λ x. Leads (Front text (Rule.operators m left n) ts) (Front text (Rule.operators m x k) us)) e
          (moved1 (λ k. Leads (Front text (Rule.operators m left n) ts) (Front text
          (Rule.operators m (at s.0 (joined o left s.1)) k) us))
          (let l : k ≡ 1 + max n f.front.levels = omega (arith, f.front.most) in l)
          (leads_on (leads_look r (ap (operators_as m left n) h))
          (leads_on (leads_part r Rule.any f.front.token) (leads_on (leads_part r (Rule.precedence m) f.front.right)
          (leads_rule r (Rule.operators m (at s.0 (joined o left s.1)) (1 + max n f.front.levels)) (λ x. x) (λ x. x)
          (λ x. refl)
          (λ y. refl) (λ y j rest p. omega (arith, operators_deep p)))))));
      fits = f.fits;
      shorter = side_shorter (Rule.precedence m) f.front;
    }
  where
    r : Rule
    r = Rule.operators m left n

pub operators_ended : {text : List ℕ} (m : ℕ) {n room : ℕ} {left : Expr} {ts : List Token}
    → operator_at (m + 1) ts ≡ None
    → n ≤ room → Fits (Front text (Rule.operators m left n) ts) room left n ts
operators_ended {text = text} m {n = n} {left = left} {ts = ts} h l = record {
  front = levelled
      (By.deep (By.look (moved1 (λ c. By text (Rule.operators m left n)
      (operators_as m left n c) ts left 0 ts) h By.gives)))
      (omega arith);
  fits = l;
}

-- `++` and `--` behind an expression.
increments_deep : {text : List ℕ} {n j : ℕ} {e x : Expr} {ts rest : List Token}
    → Front text (Rule.increments e n) ts x j rest → n ≤ j
increments_deep p = deep_most p

pub increments_refused : (text : List ℕ) (n room : ℕ) (left : Expr) (ts : List Token) {o : BinOp}
    {e : Refusal ParseFault} → increment_at ts ≡ Some o → Refuses (Deeper text n ts) room e
    → Refuses (Front text (Rule.increments left n) ts) room e
increments_refused text n room left ts {e = e} h f =
    let r = Rule.increments left n in
    refused_deep {r = r}
    (refused_look {r = r} (moved1 (λ c. Refuses (By text r (increments_as left n c) ts) room e) h
    (token_refused r n (λ t x j us rest p. omega (arith, increments_deep (by_one p).2)) f)))

pub increments_joined : {text : List ℕ} {n k room : ℕ} {left x : Expr} {o : BinOp} {t : Token} {ts us : List Token}
    → increment_at ts ≡ Some o → Fits (Deeper text n ts) room t k us → x ≡ at t (Kind.After o left)
    → Joined (Front text (Rule.increments left n) ts) (Front text (Rule.increments x k) us) room k ts us
increments_joined {text =
    text} {n = n} {k = k} {left = left} {x = x} {o = o} {t = t} {ts = ts} {us = us} h f e = record {
      leads = moved1 (λ x. Leads (Front text (Rule.increments left n) ts) (Front text (Rule.increments x k) us)) e
          (moved1 (λ k. Leads (Front text (Rule.increments left n) ts) (Front text
          (Rule.increments (at t (Kind.After o left)) k) us)) f.front.1
          (leads_on (leads_look r (ap (increments_as left n) h))
          (leads_on (leads_part r Rule.any f.front.0)
          (leads_rule r (Rule.increments (at t (Kind.After o left)) (n + 1)) (λ x. x) (λ x. x) (λ x. refl)
          (λ y. refl) (λ y j rest p. omega (arith, increments_deep p))))));
      fits = f.fits;
      shorter = front_spends text Rule.any refl f.front.0;
    }
  where
    r : Rule
    r = Rule.increments left n

pub increments_ended : {text : List ℕ} {n room : ℕ} {left : Expr} {ts : List Token} → increment_at ts ≡ None
    → n ≤ room → Fits (Front text (Rule.increments left n) ts) room left n ts
increments_ended {text = text} {n = n} {left = left} {ts = ts} h l = record {
  front = levelled
      (By.deep (By.look (moved1 (λ c. By text (Rule.increments left n)
      (increments_as left n c) ts left 0 ts) h By.gives)))
      (omega arith);
  fits = l;
}

-- Commas.
commas_deep : {text : List ℕ} {n j : ℕ} {e x : Expr} {ts rest : List Token}
    → Front text (Rule.commas e n) ts x j rest → n ≤ j
commas_deep p = deep_most p

pub commas_refused : (text : List ℕ) (n room : ℕ) (left : Expr) (ts : List Token) {e : Refusal ParseFault}
    → next_is mark.Comma ts ≡ true → Refuses (Side text (Front text Rule.assignment) n ts) room e
    → Refuses (Front text (Rule.commas left n) ts) room e
commas_refused text n room left ts {e = e} h f =
    let r = Rule.commas left n in
    refused_deep {r = r}
    (refused_look {r = r} (moved1 (λ c. Refuses (By text r (commas_as left n c) ts) room e) h
    (side_refused r Rule.assignment n (λ t y k x j us rest p. omega (arith, commas_deep (by_one p).2)) f)))

pub commas_joined : {text : List ℕ} {n k room : ℕ} {left x : Expr} {s : Token × Expr} {ts us : List Token}
    → next_is mark.Comma ts ≡ true → Fits (Side text (Front text Rule.assignment) n ts) room s k us
    → x ≡ at s.0 (Kind.Comma left s.1)
    → Joined (Front text (Rule.commas left n) ts) (Front text (Rule.commas x k) us) room k ts us
commas_joined {text = text} {n = n} {k = k} {left = left} {x = x} {s = s} {ts = ts} {us = us} h f e = record {
  leads = moved1 (λ x. Leads (Front text (Rule.commas left n) ts) (Front text (Rule.commas x k) us)) e
      (moved1 (λ k. Leads (Front text (Rule.commas left n) ts)
      (Front text (Rule.commas (at s.0 (Kind.Comma left s.1)) k) us))
      (let l : k ≡ 1 + max n f.front.levels = omega (arith, f.front.most) in l)
      (leads_on (leads_look r (ap (commas_as left n) h))
      (leads_on (leads_part r Rule.any f.front.token) (leads_on (leads_part r Rule.assignment f.front.right)
      (leads_rule r (Rule.commas (at s.0 (Kind.Comma left s.1)) (1 + max n f.front.levels)) (λ x. x) (λ x. x)
      (λ x. refl)
      (λ y. refl) (λ y j rest p. omega (arith, commas_deep p)))))));
  fits = f.fits;
  shorter = side_shorter Rule.assignment f.front;
}
  where
    r : Rule
    r = Rule.commas left n

pub commas_ended : {text : List ℕ} {n room : ℕ} {left : Expr} {ts : List Token} → next_is mark.Comma ts ≡ false
    → n ≤ room → Fits (Front text (Rule.commas left n) ts) room left n ts
commas_ended {text = text} {n = n} {left = left} {ts = ts} h l = record {
  front = levelled
      (By.deep (By.look (moved1 (λ c. By text (Rule.commas left n) (commas_as left n c) ts left 0 ts) h By.gives)))
      (omega arith);
  fits = l;
}

-- an expression, and then what a rule joins to it, which is of as many levels at least
pub chain_read : (text : List ℕ) (r q s : Rule) (f : Result s → Result r) {H : Type 0} (view : H → Result r)
    (inner : H → Result s) (next : Result q → ℕ → Grammar (Result r)) (ts us : List Token) (y : Result q) (n room : ℕ)
    → ((x : H) → view x ≡ f (inner x)) → next y n ≡ Grammar.part 0 s (λ x m. Grammar.gives (f x))
    → Fits (Front text q ts) room y n us
    → ((x : Result s) (j : ℕ) (rest : List Token) → Front text s us x j rest → n ≤ j)
    → (result : Outcome (Found H) (Refusal ParseFault)) → Reads inner (Front text s us) room result
    → Reads view (By text r (Grammar.part 0 q next) ts) room result
chain_read text r q s f view inner next ts us y n room e g p l result h =
    then_read text r q view next ts us y n room p
    (λ x j rest d.
    let b = by_one {f = f} (subst (λ c. By text r c us x j rest) g d) in l b.0 j rest b.2)
    result
    (moved1 (λ c. Reads view (By text r c us) room result) g
    (by_rule_read text r s f view inner us room room e (omega arith) (omega arith) result h))

-- Precedences.
pub precedence_next : (text : List ℕ) {m k n room j : ℕ} {y x : Expr} {ts us rest : List Token} → k ≡ m + 1
    → Fits (Front text (Rule.precedence m) ts) room y n us → Fits (Front text (Rule.operators m y n) us) room x j rest
    → Fits (Front text (Rule.precedence k) ts) room x j rest
precedence_next text {m = m} {room = room} {j = j} {x = x} {ts = ts} {rest = rest} e f g =
    moved1 (λ k. Fits (Front text (Rule.precedence k) ts) room x j rest)
    (let h : _ ≡ suc m = omega (arith, e) in h)
    (record {
      front = levelled (By.part f.front (By.part g.front By.gives)) (omega (arith, operators_deep g.front));
      fits = g.fits;
    })

pub precedence_refused : (text : List ℕ) (m d : ℕ) {p room : ℕ} {ts : List Token} {e : Refusal ParseFault} → p ≡ d + m
    → Refuses (Front text (Rule.precedence m) ts) room e → Refuses (Front text (Rule.precedence p) ts) room e
precedence_refused text m d {room = room} {ts = ts} {e = e} h f =
    moved1 (λ p. Refuses (Front text (Rule.precedence p) ts) room e) h (go d)
  where
    go : (d : ℕ) → Refuses (Front text (Rule.precedence (d + m)) ts) room e
    go zero = moved1 (λ p. Refuses (Front text (Rule.precedence p) ts) room e) (let h : 0 + m ≡ m = omega arith in h) f
    go (suc d) =
        moved1 (λ p. Refuses (Front text (Rule.precedence p) ts) room e)
        (let h : suc d + m ≡ suc (d + m) = omega arith in h)
        (refused_part (Rule.precedence (suc (d + m))) (Rule.precedence (d + m)) (go d) (omega arith))

pub precedence_first : {text : List ℕ} {n room : ℕ} {x : Expr} {ts rest : List Token}
    → Fits (Front text Rule.cast ts) room x n rest
    → Fits (Front text (Rule.precedence 0) ts) room x n rest
precedence_first f = record { front = levelled (By.part f.front By.gives) (omega arith); fits = f.fits }

pub cast_refused : (text : List ℕ) (p : ℕ) {room : ℕ} {ts : List Token} {e : Refusal ParseFault} → Refuses
    (Front text Rule.cast ts) room e → Refuses (Front text (Rule.precedence p) ts) room e
cast_refused text p f =
    precedence_refused text 0 p (omega arith) (refused_part (Rule.precedence 0) Rule.cast f (omega arith))

pub tighter_refused : (text : List ℕ) (m p : ℕ) {n room : ℕ} {y : Expr} {ts us : List Token} {e : Refusal ParseFault}
    → m < p
    → Fits (Front text (Rule.precedence m) ts) room y n us → Refuses (Front text (Rule.operators m y n) us) room e
    → Refuses (Front text (Rule.precedence p) ts) room e
tighter_refused text m p {n = n} {y = y} l f h =
    precedence_refused text (suc m) (p - suc m) (omega (arith, l))
    (refused_behind (Rule.precedence (suc m)) (Rule.precedence m) f.front
    (refused_part (Rule.precedence (suc m)) (Rule.operators m y n) h (omega arith)))
