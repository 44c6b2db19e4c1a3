-- What parts say of the form that they stand in.
use Rattle.std.proofs.Common.{◌≡◌, ℕ, ◌+◌, ◌<◌, ◌≤◌, max, List, ◌∷◌, Ok, Err, refl, sym, ap, ◌∙◌, subst, arith}
use Rattle.std.specs.Prelude.{Result as Outcome}
use Rattle.cov_base.specs.declared.refusal.Refusal.{Refusal}
use Rattle.cov_base.specs.declared.refusal.Refusal.TheVariants as refusal
use Rattle.c_tokens.specs.declared.token.Token.{Token}
use Rattle.c_grammar.specs.declared.fault.ParseFault.{ParseFault}
use Rattle.c_grammar.specs.declared.fault.ParseFault.TheVariants as fault
use Rattle.c_grammar.specs.Rules.{Rule, Result}
use Rattle.c_grammar.specs.Grammar.{Grammar}
use Rattle.c_grammar.specs.Derivations.{By, Front}
use Rattle.c_grammar.specs.Reads.{Refuses, Lacks, Reads}
use Rattle.c_grammar.specs.declared.found.Found.{Found}
use Rattle.c_grammar.proofs.Moves.{some_same}

-- At most one value, with its levels and its rest, is a front of the tokens.
pub record Same {A : Type 0} (x y : A) (n m : ℕ) (ts us : List Token) : Type 0 where
  pub value : x ≡ y
  pub levels : n ≡ m
  pub rest : ts ≡ us

-- what goes on with equal parts
moved_on : {text : List ℕ} {r : Rule} (q : Rule) (next : Result q → ℕ → Grammar (Result r)) {y y' : Result q}
    {m m' : ℕ} {us us' rest : List Token} {x : Result r} {n : ℕ}
    → Same y y' m m' us us' → By text r (next y' m') us' x n rest → By text r (next y m) us x n rest
moved_on {text = text} {r = r} q next {y = y} {m = m} {m' = m'} {us' = us'} {rest = rest} {x = x} {n = n} h d =
    subst (λ zs. By text r (next y m) zs x n rest) (sym h.rest)
    (subst (λ k. By text r (next y k) us' x n rest) (sym h.levels)
    (subst (λ z. By text r (next z m') us' x n rest) (sym h.value) d))

pub one : {text : List ℕ} {r : Rule} {g : Grammar (Result r)} {ts us vs : List Token} {x y : Result r} {n m : ℕ}
    → By text r g ts x n us → By text r g ts y m vs → Same x y n m us vs
one By.gives By.gives = record { value = refl; levels = refl; rest = refl }
one By.any By.any = record { value = refl; levels = refl; rest = refl }
one (By.token k) (By.token k') = record { value = refl; levels = refl; rest = refl }
one (By.words {f = f} b) (By.words b') = record { value = ap f (some_same (sym b ∙ b')); levels = refl; rest = refl }
one (By.part {q = q} {d = d} {n = n} {next = next} p e) (By.part {m = m'} p' e') =
    let h = one p p' in
    let g = one e (moved_on q next h e') in
    record {
      value =
          g.value;
      levels = ap (λ k. max (k + d) n) h.levels ∙ ap (λ k. max (m' + d) k) g.levels;
      rest = g.rest;
    }
one (By.deep {d =
    d} e) (By.deep e') = let h = one e e' in record { value = h.value; levels = ap (max d) h.levels; rest = h.rest }
one (By.look e) (By.look e') = one e e'

-- a front by a form, with equal levels
pub levelled : {text : List ℕ} {r : Rule} {g : Grammar (Result r)} {ts rest : List Token} {x : Result r} {n m : ℕ}
    → By text r g ts x n rest → m ≡ n → By text r g ts x m rest
levelled {text =
    text} {r = r} {g = g} {ts = ts} {rest = rest} {x = x} d e = subst (λ k. By text r g ts x k rest) (sym e) d

-- a front by a form, with an equal value
pub valued : {text : List ℕ} {r : Rule} {g : Grammar (Result r)} {ts rest : List Token} {x y : Result r} {n : ℕ}
    → By text r g ts x n rest → y ≡ x → By text r g ts y n rest
valued {text =
    text} {r = r} {g = g} {ts = ts} {rest = rest} {n = n} d e = subst (λ z. By text r g ts z n rest) (sym e) d

-- A form that begins with a part, split.
pub record Parted (text : List ℕ) (r : Rule) (d : ℕ) (q : Rule) (next : Result q → ℕ → Grammar (Result r))
    (ts : List Token) (x : Result r) (n : ℕ) (rest : List Token) : Type 0 where
  pub value : Result q
  pub levels : ℕ
  pub middle : List Token
  pub others : ℕ
  pub first : Front text q ts value levels middle
  pub then : By text r (next value levels) middle x others rest
  pub most : n ≡ max (levels + d) others

pub parted : {text : List ℕ} {r q : Rule} {d : ℕ} {next : Result q → ℕ → Grammar (Result r)} {ts rest : List Token}
    {x : Result r} {n : ℕ}
    → By text r (Grammar.part d q next) ts x n rest → Parted text r d q next ts x n rest
parted (By.part {n = n} {y = y} {us = us} p e) = record
    { value = y; levels = _; middle = us; others = n; first = p; then = e; most = refl }

-- what goes on behind a part that was found
pub record Behind (text : List ℕ) (r : Rule) (d m : ℕ) (g : Grammar (Result r)) (us : List Token) (x : Result r)
    (n : ℕ) (rest : List Token) : Type 0 where
  pub others : ℕ
  pub then : By text r g us x others rest
  pub most : n ≡ max (m + d) others

pub behind : {text : List ℕ} {r q : Rule} {d : ℕ} {next : Result q → ℕ → Grammar (Result r)} {ts us rest : List Token}
    {y : Result q} {x : Result r} {m n : ℕ}
    → Front text q ts y m us → By text r (Grammar.part d q next) ts x n rest → Behind text r d m (next y m) us x n rest
behind {q = q} {d = d} {next = next} f (By.part {n = n} p e) =
    let h = one f p in record { others = n; then = moved_on q next h e; most = ap (λ k. max (k + d) n) (sym h.levels) }

-- a refused part refuses its form
pub refused_part : {text : List ℕ} (r q : Rule) {d small room : ℕ} {next : Result q → ℕ → Grammar (Result r)}
    {ts : List Token} {e : Refusal ParseFault}
    → Refuses (Front text q ts) small e → room ≤ small + d → Refuses (By text r (Grammar.part d q next) ts) room e
refused_part r q (Refuses.no_tree h) l =
    Refuses.no_tree (λ x n rest f. let p = parted f in h p.value p.levels p.middle p.first)
refused_part r q (Refuses.too_deep h) l =
    Refuses.too_deep (λ x n rest f. let p = parted f in omega (arith, l, h p.value p.levels p.middle p.first, p.most))
refused_part r q Refuses.no_memory l = Refuses.no_memory

-- what is refused behind a part refuses the form
pub refused_behind : {text : List ℕ} (r q : Rule) {d room m : ℕ} {next : Result q → ℕ → Grammar (Result r)}
    {ts us : List Token} {y : Result q} {e : Refusal ParseFault}
    → Front text q ts y m us → Refuses (By text r (next y m) us) room e → Refuses
    (By text r (Grammar.part d q next) ts) room e
refused_behind r q f (Refuses.no_tree h) =
    Refuses.no_tree (λ x n rest d. let b = behind f d in h x b.others rest b.then)
refused_behind r q f (Refuses.too_deep h) =
    Refuses.too_deep (λ x n rest d. let b = behind f d in omega (arith, b.most, h x b.others rest b.then))
refused_behind r q f Refuses.no_memory = Refuses.no_memory

-- what the next tokens choose
pub chosen : {text : List ℕ} {r : Rule} {next : List Token → Grammar (Result r)} {ts rest : List Token} {x : Result r}
    {n : ℕ}
    → By text r (Grammar.look next) ts x n rest → By text r (next ts) ts x n rest
chosen (By.look e) = e

pub refused_look : {text : List ℕ} {r : Rule} {room : ℕ} {next : List Token → Grammar (Result r)} {ts : List Token}
    {e : Refusal ParseFault}
    → Refuses (By text r (next ts) ts) room e → Refuses (By text r (Grammar.look next) ts) room e
refused_look (Refuses.no_tree h) = Refuses.no_tree (λ x n rest d. h x n rest (chosen d))
refused_look (Refuses.too_deep h) = Refuses.too_deep (λ x n rest d. h x n rest (chosen d))
refused_look Refuses.no_memory = Refuses.no_memory

-- A form that is so many levels deep, split.
pub record Deep (text : List ℕ) (r : Rule) (d : ℕ) (g : Grammar (Result r)) (ts : List Token) (x : Result r) (n : ℕ)
    (rest : List Token) : Type 0 where
  pub others : ℕ
  pub then : By text r g ts x others rest
  pub most : n ≡ max d others

pub deepened : {text : List ℕ} {r : Rule} {d : ℕ} {g : Grammar (Result r)} {ts rest : List Token} {x : Result r} {n : ℕ}
    → By text r (Grammar.deep d g) ts x n rest → Deep text r d g ts x n rest
deepened (By.deep {n = n} e) = record { others = n; then = e; most = refl }

pub refused_deep : {text : List ℕ} {r : Rule} {d room : ℕ} {g : Grammar (Result r)} {ts : List Token}
    {e : Refusal ParseFault}
    → Refuses (By text r g ts) room e → Refuses (By text r (Grammar.deep d g) ts) room e
refused_deep (Refuses.no_tree h) = Refuses.no_tree (λ x n rest f. let b = deepened f in h x b.others rest b.then)
refused_deep (Refuses.too_deep h) =
    Refuses.too_deep (λ x n rest f. let b = deepened f in omega (arith, b.most, h x b.others rest b.then))
refused_deep Refuses.no_memory = Refuses.no_memory

-- nothing stands for no form
nothing : {text : List ℕ} {r : Rule} {ts rest : List Token} {x : Result r} {n : ℕ} → By text r Grammar.none ts x n rest
    → ⊥
nothing d = elim d [ ]

pub refused_none : {text : List ℕ} {r : Rule} {room place : ℕ} {ts : List Token} → Refuses (By text r Grammar.none ts)
    room (refusal.Refused (fault.Syntax place))
refused_none = Refuses.no_tree (λ x n rest d. nothing d)

-- no room for so many levels
pub refused_level : {text : List ℕ} {r : Rule} {d room place : ℕ} {g : Grammar (Result r)} {ts : List Token} → room < d
    → Refuses (By text r (Grammar.deep d g) ts) room (refusal.Refused (fault.TooDeep place))
refused_level l = Refuses.too_deep (λ x n rest f. omega (arith, l, (deepened f).most))

-- any token is the first
pub first_token : {text : List ℕ} {ts rest : List Token} {t : Token} {n : ℕ} → Front text Rule.any ts t n rest →
    (ts ≡ t ∷ rest) × (n ≡ 0)
first_token By.any = (refl, refl)

pub token_first : {text : List ℕ} {ts rest : List Token} {t : Token} → ts ≡ t ∷ rest → Front text Rule.any ts t 0 rest
token_first {text = text} {rest = rest} {t = t} s = subst (λ zs. Front text Rule.any zs t 0 rest) (sym s) By.any

-- a form that is one rule
pub by_one : {text : List ℕ} {r q : Rule} {f : Result q → Result r} {ts rest : List Token} {x : Result r} {n : ℕ}
    → By text r (Grammar.part 0 q (λ y m. Grammar.gives (f y))) ts x n rest → (y : Result q) × (x ≡ f y) × Front text q
    ts y n rest
by_one (By.part {m = m} {y = y} p By.gives) = (y, refl, levelled p (omega arith))

pub one_by : {text : List ℕ} {r q : Rule} {f : Result q → Result r} {ts rest : List Token} {y : Result q} {n : ℕ} →
    Front text q ts y n rest
    → By text r (Grammar.part 0 q (λ y m. Grammar.gives (f y))) ts (f y) n rest
one_by p = levelled (By.part p By.gives) (omega arith)

-- a token or a type that is lacking refuses its form
pub refused_lacking : {text : List ℕ} (r q : Rule) {d room : ℕ} {next : Result q → ℕ → Grammar (Result r)}
    {ts : List Token} {e : Refusal ParseFault}
    → Lacks (Front text q ts) e → Refuses (By text r (Grammar.part d q next) ts) room e
refused_lacking r q (Lacks.no_tree h) =
    Refuses.no_tree (λ x n rest f. let p = parted f in h p.value p.levels p.middle p.first)
refused_lacking r q Lacks.no_memory = Refuses.no_memory

-- want of memory says nothing of the tokens
pub no_memory : {A : Type 0} {P : A → ℕ → List Token → Type 0} {room : ℕ} {e : Refusal ParseFault} → e ≡
    refusal.NoMemory → Refuses P room e
no_memory {P = P} {room = room} h = subst (λ e. Refuses P room e) (sym h) Refuses.no_memory

-- what the next tokens choose is read
pub by_look : {H X : Type 0} (text : List ℕ) (r : Rule) (view : H → Result r) (form : X → Grammar (Result r))
    (choice : List Token → X) (ts : List Token) (room : ℕ) {o : X}
    → choice ts ≡ o → (found : Outcome (Found H) (Refusal ParseFault)) → Reads view (By text r (form o) ts) room found
    → Reads view (By text r (Grammar.look (λ us. form (choice us))) ts) room found
by_look text r view form choice ts room e (Ok found) f =
    record {
      front = By.look (subst (λ k. By text r (form k) ts (view found.tree) found.levels found.rest.now) (sym e)
          f.front);
      fits = f.fits;
    }
by_look text r view form choice ts room e (Err k) f =
    refused_look (subst (λ o. Refuses (By text r (form o) ts) room k) (sym e) f)

-- a form that is one rule is read by that rule
pub by_rule_read : {H : Type 0} (text : List ℕ) (r q : Rule) (f : Result q → Result r) (view : H → Result r)
    (inner : H → Result q) (ts : List Token) (room small : ℕ)
    → ((x : H) → view x ≡ f (inner x)) → small ≤ room → room ≤ small → (found : Outcome (Found H) (Refusal ParseFault))
    → Reads inner (Front text q ts) small found
    → Reads view (By text r (Grammar.part 0 q (λ y m. Grammar.gives (f y))) ts) room found
by_rule_read text r q f view inner ts room small e l m (Ok found) h =
    record { front = valued (one_by {f = f} h.front) (e found.tree); fits = omega (arith, l, h.fits) }
by_rule_read text r q f view inner ts room small e l m (Err k) h = refused_part r q h (omega (arith, m))
