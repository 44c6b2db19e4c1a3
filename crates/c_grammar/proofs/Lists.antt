-- Lists and operators that are read from the front: what was read, and what goes on behind it.
use Rattle.std.proofs.Common.{
  ◌≡◌,
  ℕ,
  ◌≤◌,
  max,
  Bool,
  true,
  false,
  List,
  [],
  ◌∷◌,
  ◌++◌,
  map,
  nat_cmp,
  refl,
  sym,
  ap,
  ◌∙◌,
  subst,
  arith,
}
use Rattle.std.specs.Ordering.{ord_max}
use Rattle.std.proofs.lemmas.List.{append_assoc, append-nil, map-append}
use Rattle.cov_base.specs.declared.refusal.Refusal.{Refusal}
use Rattle.c_tokens.specs.declared.token.Token.{Token}
use Rattle.c_grammar.specs.declared.fault.ParseFault.{ParseFault}
use Rattle.c_grammar.specs.Words.{behind}
use Rattle.c_grammar.specs.Rules.{Listed, Member, Rule, Result}
use Rattle.c_grammar.specs.Grammar.{Grammar, member, as_member, goes_on, has_commas, further, more_as}
use Rattle.c_grammar.specs.declared.begins.Following.{Following}
use Rattle.c_grammar.specs.Lists.{following_of, follows, member_at}
use Rattle.c_grammar.specs.Derivations.{By, Front}
use Rattle.c_grammar.specs.Reads.{Refuses, Fits, Leads}
use Rattle.c_grammar.proofs.Moves.{moved1}
use Rattle.c_grammar.proofs.Laws.{parted, behind as behind_part, levelled, chosen, first_token, refused_part}
use Rattle.std.proofs.lemmas.Bool.{false≢true}

-- What is a front in the one way is these members, of at most so many levels, and then what is one in the other way.
pub record Begun {A : Type 0} (P Q : List A → ℕ → List Token → Type 0) (xs : List A) (n : ℕ) : Type 0 where
  pub forth : (ys : List A) (m : ℕ) (rest : List Token) → Q ys m rest → P (xs ++ ys) (max n m) rest
  pub back : (zs : List A) (k : ℕ) (rest : List Token) → P zs k rest
      → (ys : List A) × (m : ℕ) × Q ys m rest × (zs ≡ xs ++ ys) × (k ≡ max n m)

pub begun_none : {A : Type 0} {P : List A → ℕ → List Token → Type 0} → Begun P P [] 0
begun_none {P = P} = record {
  forth = λ ys m rest q. moved1 (λ k. P ys k rest) (let h : max 0 m ≡ m = omega arith in h) q;
  back = λ zs k rest p. (zs, k, p, refl, omega arith);
}

pub begun_on : {A : Type 0} {P Q R : List A → ℕ → List Token → Type 0} {xs ys : List A} {n m : ℕ} → Begun P Q xs n →
    Begun Q R ys m
    → Begun P R (xs ++ ys) (max n m)
begun_on {P = P} {xs = xs} {ys = ys} {n = n} {m = m} b c = record {
  forth = λ zs k rest r.
      moved1 (λ j. P ((xs ++ ys) ++ zs) j rest) (let h : max (max n m) k ≡ max n (max m k) = omega arith in h)
      (moved1 (λ ws. P ws (max n (max m k)) rest) (append_assoc xs ys zs)
      (b.forth (ys ++ zs) (max m k) rest (c.forth zs k rest r)));
  back = λ zs k rest p.
      let g = b.back zs k rest p in
      let h = c.back g.0 g.1 rest g.2 in
      (h.0, h.1, h.2, g.3 ∙ ap (λ ws. xs ++ ws) h.3 ∙ sym (append_assoc xs ys h.0), omega (arith, g.4, h.4));
}

-- a member was read
pub begun_member : (text : List ℕ) (l : Listed) {ts us : List Token} {x : Result (member l)} {m : ℕ} → Front text
    (member l) ts x m us
    → Begun (Front text (Rule.list l) ts) (Front text (Rule.more l) us) (as_member l x ∷ []) m
begun_member text l {ts = ts} {us = us} {x = x} {m = m} f = record {
  forth = λ ys k rest q. levelled (By.part f (By.part q By.gives)) (omega arith);
  back = λ zs k rest p.
      let b = behind_part f p in
      let c = parted b.then in
      go text l x m c.first c.then (omega (arith, b.most, c.most));
}
  where
    go : (text : List ℕ) (l : Listed) (x : Result (member l)) (m : ℕ) {us vs rest : List Token}
        {ys zs : List (Member l)} {i j k : ℕ} → Front text (Rule.more l) us ys i vs
        → By text (Rule.list l) (Grammar.gives (as_member l x ∷ ys)) vs zs j rest → k ≡ max m (max i j)
        → (ys : List (Member l)) × (n : ℕ) × Front text (Rule.more l) us ys n rest × (zs ≡ (as_member l x ∷ []) ++ ys)
        × (k ≡ max m n)
    go text l x m {ys = ys} {i = i} q By.gives e = (ys, i, q, refl, omega (arith, e))

-- behind a comma, where the list has them
abbrev pub past : Bool → List Token → List Token
past true ts = behind ts
past false ts = ts

-- what goes on is one more list
as_list : (text : List ℕ) (l : Listed) (b : Bool) {us rest : List Token} {zs : List (Member l)} {k : ℕ} → By text
    (Rule.more l) (further l b) us zs k rest
    → Front text (Rule.list l) (past b us) zs k rest
as_list text l true {rest = rest} {zs = zs} {k = k} d =
    let p = parted d in
    let f = first_token p.first in
    let h = last p.then in
    subst (λ us. Front text (Rule.list l) us zs k rest) (ap behind (sym f.0)) (levelled h (omega (arith, p.most, f.1)))
  where
    last : {text : List ℕ} {l : Listed} {us rest : List Token} {zs : List (Member l)} {k : ℕ} → By text (Rule.more l)
        (Grammar.part 0 (Rule.list l) (λ x n. Grammar.gives x)) us zs k rest
        → Front text (Rule.list l) us zs k rest
    last (By.part p By.gives) = levelled p (omega arith)
as_list text l false (By.part p By.gives) = levelled p (omega arith)

as_further : (text : List ℕ) (l : Listed) (b : Bool) {us rest : List Token} {zs : List (Member l)} {k : ℕ} →
    (b ≡ true → us ≡ [] → ⊥)
    → Front text (Rule.list l) (past b us) zs k rest → By text (Rule.more l) (further l b) us zs k rest
as_further text l true {us = []} h d = absurd (h refl refl)
as_further text l true {us = t ∷ us} h d = levelled (By.part By.any (By.part d By.gives)) (omega arith)
as_further text l false h d = levelled (By.part d By.gives) (omega arith)

-- a list with commas doesn't go on at the end
no_end : (l : Listed) → goes_on l [] ≡ true → has_commas l ≡ true → ⊥
no_end Listed.arguments g h = false≢true g
no_end Listed.values g h = false≢true g
no_end (Listed.variables base) g h = false≢true g
no_end Listed.parameters g h = false≢true g
no_end Listed.items g h = false≢true h
no_end Listed.switch_items g h = false≢true h
no_end Listed.outers g h = false≢true h

-- the list goes on
pub begun_further : (text : List ℕ) (l : Listed) {us : List Token} → goes_on l us ≡ true
    → Begun (Front text (Rule.more l) us) (Front text (Rule.list l) (past (has_commas l) us)) [] 0
begun_further text l {us = us} g = record {
  forth = λ ys m rest q.
      levelled (By.look (moved1 (λ b. By text (Rule.more l) (more_as l b) us ys m rest) g
      (as_further text l (has_commas l) (λ h s. no_end l (subst (λ zs. goes_on l zs ≡ true) s g) h) q)))
      (omega arith);
  back = λ zs k rest p. (
    zs,
    k,
    as_list text l (has_commas l) (subst (λ b. By text (Rule.more l) (more_as l b) us zs k rest) g
        (chosen p)),
    refl,
    omega arith,
  );
}

-- the list is at its end
pub ends : (text : List ℕ) (l : Listed) {us : List Token} → goes_on l us ≡ false → Front text (Rule.more l) us [] 0 us
ends text l {us = us} g = By.look (moved1 (λ b. By text (Rule.more l) (more_as l b) us [] 0 us) g By.gives)

-- what was begun is whole where nothing more follows
pub begun_end : {A : Type 0} {P Q : List A → ℕ → List Token → Type 0} {xs : List A} {n : ℕ} {rest : List Token} → Begun
    P Q xs n → Q [] 0 rest
    → P xs n rest
begun_end {P = P} {xs = xs} {n = n} {rest = rest} b q =
    subst (λ ys. P ys n rest) (append-nil xs) (subst (λ k. P (xs ++ []) k rest) (let h : max n 0 ≡ n =
    omega arith in h) (b.forth [] 0 rest q))

-- where what follows is refused, all is
pub begun_refused : {A : Type 0} {P Q : List A → ℕ → List Token → Type 0} {xs : List A} {n room : ℕ}
    {e : Refusal ParseFault} → Begun P Q xs n
    → Refuses Q room e → Refuses P room e
begun_refused b (Refuses.no_tree h) = Refuses.no_tree (λ zs k rest p. let g = b.back zs k rest p in h g.0 g.1 rest g.2)
begun_refused b (Refuses.too_deep h) =
    Refuses.too_deep (λ zs k rest p. let g = b.back zs k rest p in omega (arith, g.4, h g.0 g.1 rest g.2))
begun_refused b Refuses.no_memory = Refuses.no_memory

pub leads_none : {A : Type 0} {P : A → ℕ → List Token → Type 0} → Leads P P
leads_none = record { forth = λ x n rest p. p; back = λ x n rest p. p }

pub leads_on : {A : Type 0} {P Q R : A → ℕ → List Token → Type 0} → Leads P Q → Leads Q R → Leads P R
leads_on g h = record {
  forth = λ x n rest p. g.forth x n rest (h.forth x n rest p);
  back = λ x n rest p. h.back x n
      rest (g.back x n rest p);
}

pub leads_refused : {A : Type 0} {P Q : A → ℕ → List Token → Type 0} {room : ℕ} {e : Refusal ParseFault} → Leads P Q →
    Refuses Q room e → Refuses P room e
leads_refused g (Refuses.no_tree h) = Refuses.no_tree (λ x n rest p. h x n rest (g.back x n rest p))
leads_refused g (Refuses.too_deep h) = Refuses.too_deep (λ x n rest p. h x n rest (g.back x n rest p))
leads_refused g Refuses.no_memory = Refuses.no_memory

pub leads_fits : {A : Type 0} {P Q : A → ℕ → List Token → Type 0} {room n : ℕ} {x : A} {rest : List Token} → Leads P Q
    → Fits Q room x n rest → Fits P room x n rest
leads_fits {n = n} {x = x} {rest = rest} g f = record { front = g.forth x n rest f.front; fits = f.fits }

-- the program's greater of two numbers
pub greater : (a b : ℕ) → ord_max nat_cmp a b ≡ max a b
greater a b = grind arith

-- one more member was read
pub member_read : (text : List ℕ) (l : Listed) {H : Type 0} (view : H → Member l)
    (P : List (Member l) → ℕ → List Token → Type 0) (xs : List H) (x : H)
    {new : List H} {ts us : List Token} {y : Result (member l)} {n m k : ℕ} → new ≡ xs ++ x ∷ [] → Begun P
    (Front text (Rule.list l) ts) (map view xs) n
    → Front text (member l) ts y m us → as_member l y ≡ view x → k ≡ ord_max nat_cmp n m → Begun P
    (Front text (Rule.more l) us) (map view new) k
member_read text l view P xs x {new = new} {us = us} {y = y} {n = n} {m = m} {k = k} e b f v h =
    let c = begun_on b (begun_member text l f) in
    subst (λ ys. Begun P (Front text (Rule.more l) us) ys k)
    (ap (λ z. map view xs ++ z ∷ []) v ∙ sym (map-append view xs (x ∷ [])) ∙ ap (map view) (sym e))
    (subst (λ j. Begun P (Front text (Rule.more l) us) (map view xs ++ as_member l y ∷ []) j) (sym (h ∙ greater n m)) c)

-- the list goes on behind it
pub member_further : (text : List ℕ) (l : Listed) {P : List (Member l) → ℕ → List Token → Type 0}
    {xs : List (Member l)} {us next : List Token} {n : ℕ}
    → Begun P (Front text (Rule.more l) us) xs n → goes_on l us ≡ true → next ≡ past (has_commas l) us
    → Begun P (Front text (Rule.list l) next) xs n
member_further text l {P = P} {xs = xs} {us = us} {n = n} b g s =
    let c = begun_on b (begun_further text l g) in
    moved1 (λ zs. Begun P (Front text (Rule.list l) zs) xs n) s
    (subst (λ k. Begun P (Front text (Rule.list l) (past (has_commas l) us)) xs k) (let h : max n 0 ≡ n =
    omega arith in h)
    (subst (λ ys. Begun P (Front text (Rule.list l) (past (has_commas l) us)) ys (max n 0)) (append-nil xs) c))

-- or it is at its end
pub member_last : (text : List ℕ) (l : Listed) {P : List (Member l) → ℕ → List Token → Type 0} {xs : List (Member l)}
    {us : List Token} {n : ℕ}
    → Begun P (Front text (Rule.more l) us) xs n → goes_on l us ≡ false → P xs n us
member_last text l b g = begun_end b (ends text l g)

-- where its next member is refused, a list is
pub member_refused : (text : List ℕ) (l : Listed) {P : List (Member l) → ℕ → List Token → Type 0}
    {xs : List (Member l)} {ts : List Token} {n small room : ℕ}
    {e : Refusal ParseFault} → Begun P (Front text (Rule.list l) ts) xs n → Refuses (Front text (member l) ts) small e
    → room ≤ small → Refuses P room e
member_refused text l b h k = begun_refused b (refused_part (Rule.list l) (member l) h (omega (arith, k)))

-- what tells that the list goes on
pub follows_as : (l : Listed) {f : Following} (ts : List Token) → following_of l ≡ f → goes_on l ts ≡ follows f ts
follows_as l ts e = own l ts ∙ ap (λ f. follows f ts) e
  where
    own : (l : Listed) (ts : List Token) → goes_on l ts ≡ follows (following_of l) ts
    own Listed.arguments ts = refl
    own Listed.values ts = refl
    own (Listed.variables base) ts = refl
    own Listed.parameters ts = refl
    own Listed.items ts = refl
    own Listed.switch_items ts = refl
    own Listed.outers ts = refl

-- where its next member stands
pub member_as : (l : Listed) {f : Following} (ts : List Token) → following_of l ≡ f
    → member_at f ts ≡ past (has_commas l)
    ts
member_as l ts e = ap (λ f. member_at f ts) (sym e) ∙ own l ts
  where
    own : (l : Listed) (ts : List Token) → member_at (following_of l) ts ≡ past (has_commas l) ts
    own Listed.arguments ts = refl
    own Listed.values ts = refl
    own (Listed.variables base) ts = refl
    own Listed.parameters ts = refl
    own Listed.items ts = refl
    own Listed.switch_items ts = refl
    own Listed.outers ts = refl
