-- What the parts that a reader read say of the whole, part by part.
use Rattle.std.proofs.Common.{◌≡◌, ℕ, ◌+◌, ◌≤◌, max, List, Ok, Err, refl, sym, ap, ◌∙◌, subst, arith}
use Rattle.std.specs.Prelude.{Result as Outcome, IsErrAnd}
use Rattle.cov_base.specs.declared.refusal.Refusal.{Refusal}
use Rattle.c_tokens.specs.declared.token.Token.{Token}
use Rattle.c_grammar.specs.declared.fault.ParseFault.{ParseFault}
use Rattle.c_grammar.specs.declared.found.Found.{Found}
use Rattle.c_grammar.specs.Rules.{Rule, Result}
use Rattle.c_grammar.specs.Grammar.{Grammar}
use Rattle.c_grammar.specs.Derivations.{By, Front}
use Rattle.c_tokens.specs.declared.token.Punct.{Punct}
use Rattle.c_tokens.specs.declared.token.TokenKind.TheVariants as kind
use Rattle.c_grammar.specs.Reads.{Refuses, Lacks, Fits, Reads, Closes, Leads}
use Rattle.c_grammar.proofs.Laws.{
  levelled,
  valued,
  chosen,
  deepened,
  behind,
  by_one,
  one_by,
  refused_behind,
  refused_lacking,
  refused_deep,
  refused_look,
}
use Rattle.c_grammar.proofs.Moves.{moved1}

-- a part of at most so many levels, and then what fits behind it
pub part_read : {text : List ℕ} (r q : Rule) {d small room : ℕ} {next : Result q → ℕ → Grammar (Result r)}
    {ts us rest : List Token} {y : Result q} {x : Result r} {m n : ℕ} → Fits (Front text q ts) small y m us
    → small + d ≤ room → Fits (By text r (next y m) us) room x n rest
    → Fits (By text r (Grammar.part d q next) ts) room x (max (m + d) n) rest
part_read r q f l g = record { front = By.part f.front g.front; fits = omega (arith, l, f.fits, g.fits) }

-- a token or a type, which has no levels, and then what fits behind it
pub token_read : {text : List ℕ} (r q : Rule) {m room : ℕ} {next : Result q → ℕ → Grammar (Result r)}
    {ts us rest : List Token} {y : Result q} {x : Result r} {n : ℕ} → (m ≡ 0) × Front text q ts y 0 us
    → Fits (By text r (next y 0) us) room x n rest → Fits (By text r (Grammar.part 0 q next) ts) room x n rest
token_read r q f g = record { front = levelled (By.part f.1 g.front) (omega arith); fits = g.fits }

-- the value of the form
pub value_read : {text : List ℕ} (r : Rule) {room : ℕ} {ts : List Token} {x v : Result r} → x ≡ v
    → Fits (By text r (Grammar.gives v) ts) room x 0 ts
value_read r e = record { front = valued By.gives e; fits = omega arith }

-- so many levels at least
pub deep_read : {text : List ℕ} (r : Rule) {d room : ℕ} {g : Grammar (Result r)} {ts rest : List Token} {x : Result r}
    {n : ℕ} → d ≤ room → Fits (By text r g ts) room x n rest
    → Fits (By text r (Grammar.deep d g) ts) room x (max d n) rest
deep_read r l f = record { front = By.deep f.front; fits = omega (arith, l, f.fits) }

-- what the next tokens choose
pub look_read : {text : List ℕ} (r : Rule) {X : Type 0} (form : X → Grammar (Result r)) (choice : List Token → X)
    {ts rest : List Token} {room n : ℕ} {x : Result r} {o : X} → choice ts ≡ o → Fits
    (By text r (form o) ts) room x n rest
    → Fits (By text r (Grammar.look (λ us. form (choice us))) ts) room x n rest
look_read {text = text} r form choice {ts = ts} {rest = rest} {n = n} {x = x} e f =
    record { front = By.look (moved1 (λ o. By text r (form o) ts x n rest) e f.front); fits = f.fits }

pub look_refused : {text : List ℕ} (r : Rule) {X : Type 0} (form : X → Grammar (Result r)) (choice : List Token → X)
    {ts : List Token} {room : ℕ} {e : Refusal ParseFault} {o : X} → choice ts ≡ o → Refuses
    (By text r (form o) ts) room e
    → Refuses (By text r (Grammar.look (λ us. form (choice us))) ts) room e
look_refused {text = text} r form choice {ts = ts} {room = room} {e = k} e f =
    refused_look {r = r} (moved1 (λ o. Refuses (By text r (form o) ts) room k) e f)

-- the same with equal levels
pub levels_read : {A : Type 0} {P : A → ℕ → List Token → Type 0} {room : ℕ} {x : A} {n m : ℕ} {rest : List Token}
    → m ≡ n → Fits P room x n rest → Fits P room x m rest
levels_read {P = P} {room = room} {x = x} {rest = rest} e f = subst (λ k. Fits P room x k rest) (sym e) f

-- what a `?` gives back is the refusal that it met
pub passed : {H A : Type 0} (view : H → A) {P : A → ℕ → List Token → Type 0} {room : ℕ} {e : Refusal ParseFault}
    (r : Outcome (Found H) (Refusal ParseFault)) → IsErrAnd r (λ y. y ≡ e) → Refuses P room e → Reads view P room r
passed view (Ok found) h f = absurd h
passed view {P = P} {room = room} (Err e) h f = subst (Refuses P room) (sym h) f

-- where each front has one of another kind in it, so many levels below, the refusal of that one is its own
pub refused_below : {A B : Type 0} {P : A → ℕ → List Token → Type 0} {Q : B → ℕ → List Token → Type 0}
    {small room : ℕ} {e : Refusal ParseFault} (d : ℕ)
    → ((x : A) (n : ℕ) (rest : List Token) → P x n rest → (y : B) × (m : ℕ) × (us : List Token) × Q y m us ×
    (m + d ≤ n))
    → room ≤ small + d → Refuses Q small e → Refuses P room e
refused_below d f l (Refuses.no_tree h) = Refuses.no_tree (λ x n rest p. let g = f x n rest p in h g.0 g.1 g.2 g.3)
refused_below d f l (Refuses.too_deep h) =
    Refuses.too_deep (λ x n rest p. let g = f x n rest p in omega (arith, l, g.4, h g.0 g.1 g.2 g.3))
refused_below d f l Refuses.no_memory = Refuses.no_memory

-- a lacking front is refused
pub lacking : {A : Type 0} {P : A → ℕ → List Token → Type 0} {room : ℕ} {e : Refusal ParseFault} → Lacks P e → Refuses P
    room e
lacking (Lacks.no_tree h) = Refuses.no_tree h
lacking Lacks.no_memory = Refuses.no_memory

-- a part and a mark behind it are all of the form
pub closed_read : {H : Type 0} (text : List ℕ) (r q : Rule) (f : Result q → Result r) (view : H → Result r)
    (inner : H → Result q) (m : Punct) (ts : List Token) (room : ℕ) (found : Found H)
    → ((x : H) → view x ≡ f (inner x)) → Fits (Front text q ts) room (inner found.tree) found.levels found.rest.now
    → (result : Outcome (Found H) (Refusal ParseFault)) → Closes text m found result
    → Reads view (By text r (Grammar.part 0 q (λ y n. Grammar.part 0 (Rule.token (kind.Mark m)) (λ t k. Grammar.gives
    (f y)))) ts) room result
closed_read text r q f view inner m ts room found e p (Ok whole) c =
    levels_read (omega (arith, c.1))
    (part_read r q p (omega arith)
    (token_read r (Rule.token (kind.Mark m)) (refl, c.3) (value_read r (ap view c.0 ∙ e found.tree))))
closed_read text r q f view inner m ts room found e p (Err k) c =
    refused_behind r q p.front (refused_lacking r (Rule.token (kind.Mark m)) c)

-- A chain of operators: what goes on behind an expression of so many levels.
module _ {text : List ℕ} (r : Rule) where
  pub leads_look : {n : ℕ} {next : List Token → Grammar (Result r)} {ts : List Token} {g : Grammar (Result r)}
      → next ts ≡ g
      → Leads (By text r (Grammar.deep n (Grammar.look next)) ts) (By text r (Grammar.deep n g) ts)
  leads_look {n = n} {ts = ts} e = record {
    forth = λ x j rest p.
        let d = deepened p in levelled (By.deep (By.look
        (moved1 (λ g. By text r g ts x d.others rest) e d.then))) d.most;
    back = λ x j rest p.
        let d = deepened p in
        levelled (By.deep (moved1 (λ g. By text r g ts x d.others rest) (sym e) (chosen d.then))) d.most;
  }

  pub leads_part : (q : Rule) {d n k : ℕ} {next : Result q → ℕ → Grammar (Result r)} {ts us : List Token} {y : Result q}
      → Front text q ts y k us
      → Leads (By text r (Grammar.deep n (Grammar.part d q next)) ts)
      (By text r (Grammar.deep (max n (k + d)) (next y k)) us)
  leads_part q f = record {
    forth = λ x j rest p. let e = deepened p in levelled (By.deep (By.part f e.then)) (omega (arith, e.most));
    back = λ x j rest p.
        let e = deepened p in
        let b = behind f e.then in
        levelled (By.deep b.then) (omega (arith, e.most, b.most));
  }

  -- the chain goes on by a rule that has as many levels at least
  pub leads_rule : (q : Rule) (f : Result q → Result r) (g : Result r → Result q) {n : ℕ} {ts : List Token}
      → ((x : Result r) → x ≡ f (g x)) → ((y : Result q) → g (f y) ≡ y)
      → ((y : Result q) (k : ℕ) (rest : List Token) → Front text q ts y k rest → n ≤ k)
      → Leads (By text r (Grammar.deep n (Grammar.part 0 q (λ y m. Grammar.gives (f y)))) ts)
      (λ x j rest. Front text q ts (g x) j rest)
  leads_rule q f g {ts = ts} there back l = record {
    forth = λ x j rest p.
        levelled (By.deep (valued (one_by {f = f} p) (there x))) (omega (arith, l (g x) j rest p));
    back = λ x j rest p.
        let d = deepened p in
        let b = by_one {f = f} d.then in
        levelled (moved1 (λ z. Front text q ts z d.others rest) (ap g b.1 ∙ back b.0) b.2)
        (omega (arith, d.most, l b.0 d.others rest b.2));
  }

-- a part, and then what a reader reads behind it, of as many levels at least
pub then_read : {H : Type 0} (text : List ℕ) (r q : Rule) (view : H → Result r) (next : Result q → ℕ
    → Grammar (Result r))
    (ts us : List Token) (y : Result q) (n room : ℕ) → Fits (Front text q ts) room y n us
    → ((x : Result r) (j : ℕ) (rest : List Token) → By text r (next y n) us x j rest → n ≤ j)
    → (result : Outcome (Found H) (Refusal ParseFault)) → Reads view (By text r (next y n) us) room result
    → Reads view (By text r (Grammar.part 0 q next) ts) room result
then_read text r q view next ts us y n room p l (Ok found) f =
    levels_read (omega (arith, l (view found.tree) found.levels found.rest.now f.front))
    (part_read r q p (omega arith) f)
then_read text r q view next ts us y n room p l (Err e) f = refused_behind r q p.front f

-- a form of as many levels at least
pub deep_reads : {H : Type 0} (text : List ℕ) (r : Rule) (view : H → Result r) (d : ℕ) (g : Grammar (Result r))
    (ts : List Token) (room : ℕ) → ((x : Result r) (j : ℕ) (rest : List Token) → By text r g ts x j rest → d ≤ j)
    → (result : Outcome (Found H) (Refusal ParseFault)) → Reads view (By text r g ts) room result
    → Reads view (By text r (Grammar.deep d g) ts) room result
deep_reads text r view d g ts room l (Ok found) f =
    let k = l (view found.tree) found.levels found.rest.now f.front in
    levels_read (omega (arith, k)) (deep_read r (omega (arith, k, f.fits)) f)
deep_reads text r view d g ts room l (Err e) f = refused_deep f

-- a form is at least as deep as it says
pub deep_most : {text : List ℕ} {r : Rule} {d j : ℕ} {g : Grammar (Result r)} {ts rest : List Token} {x : Result r}
    → By text r (Grammar.deep d g) ts x j rest → d ≤ j
deep_most p = omega (arith, (deepened p).most)
