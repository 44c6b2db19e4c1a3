-- What a search has found in the end, what it took, and what it shows where it stops.
use Rattle.std.proofs.Common.{◌≡◌, refl, sym, ap, ap₂, subst, ◌∙◌, ℕ, zero, suc, ◌+◌, ◌-◌, ◌≤◌, ◌<◌, ◌==◌, List, [], ◌∷◌, ◌++◌, length, Option, Some, None, Bool, true, false, cond, filter, ltb, ◌⊎◌, inl, inr, arith, append_assoc, append-nil, length-append, eqb-true}
use Rattle.std.proofs.lemmas.Bool.{ltb-false}
use Rattle.cov_base.specs.Net.{NetValue}
use Rattle.prime_paths.specs.Paths.{ArePrimes}
use Rattle.prime_paths.specs.Lister.{simple_paths, is_prime, listing}
use Rattle.prime_paths.specs.Search.{FoundValue, followed, noted, is_long, visit, visits, budget}
use Rattle.prime_paths.proofs.AllPaths.{lists}
use Rattle.prime_paths.proofs.Budget.{spent}

-- what a search that came to paths has found, how many extensions are left, and the limit
pub record HasFound (net : NetValue) (ps : List (List ℕ)) (old new : FoundValue) : Type 0 where
  pub paths : new.paths ≡ old.paths ++ filter (is_prime net) ps
  pub left : new.left + length (filter is_long ps) ≡ old.left
  pub limit : new.limit ≡ old.limit

-- why it stopped: there are more than the limit, or more paths of two or more blocks than extensions
abbrev pub HasStopped : NetValue → List (List ℕ) → FoundValue → Type 0
HasStopped net ps old = (old.limit < length (old.paths ++ filter (is_prime net) ps)) ⊎
    (old.left < length (filter is_long ps))

abbrev found_or : FoundValue → Option FoundValue → FoundValue
found_or d None = d
found_or d (Some x) = x

filter_one : {A : Type 0} (t : A → Bool) (x : A) → filter t (x ∷ []) ≡ cond (t x) (x ∷ []) []
filter_one t x = go (t x)
  where
    go : (c : Bool) → cond c (x ∷ []) [] ≡ cond c (x ∷ []) []
    go c = refl

filter_parts : {A : Type 0} (t : A → Bool) (x : A) (xs : List A) → filter t (x ∷ xs) ≡ filter t (x ∷ []) ++ filter t xs
filter_parts {A} t x xs = go (t x)
  where
    go : (c : Bool) → cond c (x ∷ filter t xs) (filter t xs) ≡ cond c (x ∷ []) [] ++ filter t xs
    go true = refl
    go false = refl

-- ---- a path

noted_found : (net : NetValue) (p : List ℕ) (f g : FoundValue) → noted net p f ≡ Some g
    → (g.paths ≡ f.paths ++ filter (is_prime net) (p ∷ [])) × (g.left ≡ f.left) × (g.limit ≡ f.limit)
noted_found net p f g = go (is_prime net p) (ltb (length f.paths) f.limit)
  where
    go : (c d : Bool) → cond c (cond d (Some (record f { paths = f.paths ++ p ∷ [] })) None) (Some f) ≡ Some g
        → (g.paths ≡ f.paths ++ cond c (p ∷ []) []) × (g.left ≡ f.left) × (g.limit ≡ f.limit)
    go true true e = (let h : record f { paths = f.paths ++ p ∷ [] } ≡ g = ap (found_or f) e in (
      ap (λ (x : FoundValue). x.paths) (sym h),
      ap (λ (x : FoundValue). x.left) (sym h),
      ap
          (λ (x : FoundValue). x.limit) (sym h),
    ))
    go true false e = absurd (let never : None ≡ Some g = e in cc)
    go false d e = (let h : f ≡ g = ap (found_or f) e in (
      ap (λ (x : FoundValue). x.paths) (sym h)
          ∙ sym (append-nil f.paths),
      ap (λ (x : FoundValue). x.left) (sym h),
      ap (λ (x : FoundValue). x.limit)
          (sym h),
    ))

noted_stopped : (net : NetValue) (p : List ℕ) (f : FoundValue) → noted net p f ≡ None
    → f.limit < length (f.paths ++ filter (is_prime net) (p ∷ []))
noted_stopped net p f = go (is_prime net p) (ltb (length f.paths) f.limit) refl
  where
    go : (c d : Bool) → ltb (length f.paths) f.limit ≡ d
        → cond c (cond d (Some (record f { paths = f.paths ++ p ∷ [] })) None) (Some f) ≡ None
        → f.limit < length (f.paths ++ cond c (p ∷ []) [])
    go true true b e = absurd (let never : Some (record f { paths = f.paths ++ p ∷ [] }) ≡ None = e in cc)
    go true false b e =
        let full : f.limit ≤ length f.paths = ltb-false _ _ b in
        let more = length-append f.paths (p ∷ []) in
        omega (arith, full, more)
    go false d b e = absurd (let never : Some f ≡ None = e in cc)

charged_left : (n : ℕ) → (n == 0) ≡ false → n - 1 + 1 ≡ n
charged_left zero e = absurd (let never : true ≡ false = e in cc)
charged_left (suc n) e = omega arith

charged_none : (n : ℕ) → (n == 0) ≡ true → n < 1
charged_none n e = (let z = eqb-true n 0 e in omega (arith, z))

-- an extension is charged, and then the search goes on
visit_found : (net : NetValue) (p : List ℕ) (f g : FoundValue) → visit net p f ≡ Some g → HasFound net (p ∷ []) f g
visit_found net p f g e = (let h = go (is_long p) (f.left == 0) refl e in record {
  paths = h.0;
  left = h.1;
  limit =
      h.2;
})
  where
    go : (c d : Bool) → (f.left == 0) ≡ d
        → cond c (followed (cond d None (Some (record f { left = f.left - 1 }))) (noted net p)) (noted net p f) ≡ Some g
        → (g.paths ≡ f.paths ++ filter (is_prime net) (p ∷ [])) × (g.left + length (cond c (p ∷ []) []) ≡ f.left)
        × (g.limit ≡ f.limit)
    go true true b e = absurd (let never : None ≡ Some g = e in cc)
    go true false b e =
        let h = noted_found net p (record f { left = f.left - 1 }) g e in
        let l = h.1 in
        let k = charged_left f.left b in
        (h.0, omega (arith, l, k), h.2)
    go false d b e = (let h = noted_found net p f g e in let l = h.1 in (h.0, omega (arith, l), h.2))

visit_stopped : (net : NetValue) (p : List ℕ) (f : FoundValue) → visit net p f ≡ None → HasStopped net (p ∷ []) f
visit_stopped net p f e = go (is_long p) (f.left == 0) refl e
  where
    go : (c d : Bool) → (f.left == 0) ≡ d
        → cond c (followed (cond d None (Some (record f { left = f.left - 1 }))) (noted net p)) (noted net p f) ≡ None
        → (f.limit < length (f.paths ++ filter (is_prime net) (p ∷ []))) ⊎ (f.left < length (cond c (p ∷ []) []))
    go true true b e = inr (charged_none f.left b)
    go true false b e = inl (noted_stopped net p (record f { left = f.left - 1 }) e)
    go false d b e = inl (noted_stopped net p f e)

-- ---- paths one behind another

counted_parts : {A : Type 0} (t : A → Bool) (x : A) (xs : List A) → length (filter t (x ∷ xs))
    ≡ length (filter t (x ∷ [])) + length (filter t xs)
counted_parts {A} t x xs = ap (λ (l : List A). length l) (filter_parts t x xs)
    ∙ length-append (filter t (x ∷ [])) (filter t xs)

paths_joined : (net : NetValue) (p : List ℕ) (ps old new : List (List ℕ)) → new ≡ old ++ filter (is_prime net) (p ∷ [])
    → new ++ filter (is_prime net) ps ≡ old ++ filter (is_prime net) (p ∷ ps)
paths_joined net p ps old new e =
    ap (λ (l : List (List ℕ)). l ++ filter (is_prime net) ps) e
    ∙ append_assoc old (filter (is_prime net) (p ∷ [])) (filter (is_prime net) ps)
    ∙ ap (λ (l : List (List ℕ)). old ++ l) (sym (filter_parts (is_prime net) p ps))

found_joined : (net : NetValue) (p : List ℕ) (ps : List (List ℕ)) (f m g : FoundValue) → HasFound net (p ∷ []) f m
    → HasFound net ps m g
    → HasFound net (p ∷ ps) f g
found_joined net p ps f m g a b =
    let one = a.left in
    let rest = b.left in
    let count = counted_parts is_long p ps in
    record {
      paths = b.paths ∙ paths_joined net p ps f.paths m.paths a.paths;
      left = omega (arith, one, rest, count);
      limit = b.limit ∙ a.limit;
    }

stopped_later : (net : NetValue) (p : List ℕ) (ps : List (List ℕ)) (f m : FoundValue) → HasFound net (p ∷ []) f m
    → HasStopped net ps m
    → HasStopped net (p ∷ ps) f
stopped_later net p ps f m a (inl l) =
    let same : length (m.paths ++ filter (is_prime net) ps) ≡ length (f.paths ++ filter (is_prime net) (p ∷ ps)) =
    ap (λ (l : List (List ℕ)). length l) (paths_joined net p ps f.paths m.paths a.paths) in
    let limit = a.limit in
    inl (omega (arith, l, same, limit))
stopped_later net p ps f m a (inr l) =
    let one = a.left in
    let count = counted_parts is_long p ps in
    inr (omega (arith, l, one, count))

stopped_now : (net : NetValue) (p : List ℕ) (ps : List (List ℕ)) (f : FoundValue) → HasStopped net (p ∷ []) f
    → HasStopped net (p ∷ ps) f
stopped_now net p ps f (inl l) =
    let whole : length (f.paths ++ filter (is_prime net) (p ∷ [])) ≤ length
    (f.paths ++ filter (is_prime net) (p ∷ ps)) =
    longer f.paths (filter (is_prime net) (p ∷ [])) (filter (is_prime net) (p ∷ ps))
    (let count = counted_parts (is_prime net) p ps in omega (arith, count)) in
    inl (omega (arith, l, whole))
  where
    longer : (a b c : List (List ℕ)) → length b ≤ length c → length (a ++ b) ≤ length (a ++ c)
    longer a b c l = (let x = length-append a b in let y = length-append a c in omega (arith, l, x, y))
stopped_now net p ps f (inr l) = (let count = counted_parts is_long p ps in inr (omega (arith, l, count)))

-- what a search that goes to its end has found
pub found_all : (net : NetValue) (ps : List (List ℕ)) (f g : FoundValue) → visits net ps f ≡ Some g
    → HasFound net ps f g
found_all net [] f g e =
    let h : f ≡ g = ap (found_or f) e in
    let l = ap (λ (x : FoundValue). x.left) h in
    record {
      paths = ap (λ (x : FoundValue). x.paths) (sym h) ∙ sym (append-nil f.paths);
      left = omega (arith, l);
      limit = ap (λ (x : FoundValue). x.limit) (sym h);
    }
found_all net (p ∷ ps) f g e = go (visit net p f) refl e (λ m. found_all net ps m g)
  where
    go : (o : Option FoundValue) → visit net p f ≡ o → followed o (visits net ps) ≡ Some g
        → ((m : FoundValue) → visits net ps m ≡ Some g → HasFound net ps m g) → HasFound net (p ∷ ps) f g
    go None v e rec = absurd (let never : None ≡ Some g = e in cc)
    go (Some m) v e rec = found_joined net p ps f m g (visit_found net p f m v) (rec m e)

-- why a search stops before its end
pub stopped_all : (net : NetValue) (ps : List (List ℕ)) (f : FoundValue) → visits net ps f ≡ None → HasStopped net ps f
stopped_all net [] f e = absurd (let never : Some f ≡ None = e in cc)
stopped_all net (p ∷ ps) f e = go (visit net p f) refl e (λ m. stopped_all net ps m)
  where
    go : (o : Option FoundValue) → visit net p f ≡ o → followed o (visits net ps) ≡ None
        → ((m : FoundValue) → visits net ps m ≡ None → HasStopped net ps m) → HasStopped net (p ∷ ps) f
    go None v e rec = stopped_now net p ps f (visit_stopped net p f v)
    go (Some m) v e rec = stopped_later net p ps f m (visit_found net p f m v) (rec m e)

-- ---- all simple paths

-- nothing found, and a budget left
abbrev pub unspent : NetValue → ℕ → FoundValue
unspent net limit = record { paths = []; limit = limit; left = budget net.blocks limit }

-- a search that goes to its end has found the prime paths
pub found_primes : (net : NetValue) (limit : ℕ) (g : FoundValue) → visits net (simple_paths net) (unspent net limit)
    ≡ Some g → length g.paths ≤ g.limit
    → ArePrimes net g.paths × (length g.paths ≤ limit)
found_primes net limit g e few =
    let h = found_all net (simple_paths net) (unspent net limit) g e in
    (subst (λ ps. ArePrimes net ps) (sym h.paths) (lists net), subst (λ n. length g.paths ≤ n) h.limit few)

filter_few : {A : Type 0} (t : A → Bool) (xs : List A) → length (filter t xs) ≤ length xs
filter_few t [] = omega arith
filter_few {A} t (x ∷ xs) = go (t x) (filter_few t xs)
  where
    go : (c : Bool) → length (filter t xs) ≤ length xs
        → length (cond c (x ∷ filter t xs) (filter t xs)) ≤ suc (length xs)
    go true l = omega (arith, l)
    go false l = omega (arith, l)

-- one that stops shows more prime paths than the limit
pub more_primes : (net : NetValue) (limit : ℕ) → visits net (simple_paths net) (unspent net limit) ≡ None
    → (paths : List (List ℕ)) × ArePrimes net paths × (limit < length paths)
more_primes net limit e = (listing net, lists net, go (stopped_all net (simple_paths net) (unspent net limit) e))
  where
    go : HasStopped net (simple_paths net) (unspent net limit) → limit < length (listing net)
    go (inl l) = l
    go (inr l) =
        let few = filter_few is_long (simple_paths net) in
        spent net limit (omega (arith, l, few))

filter_less : {A : Type 0} (t u : A → Bool) (xs : List A) → length (filter t (filter u xs)) ≤ length (filter t xs)
filter_less t u [] = omega arith
filter_less {A} t u (x ∷ xs) = go (t x) (u x) refl (filter_less t u xs)
  where
    go : (c d : Bool) → t x ≡ c → length (filter t (filter u xs)) ≤ length (filter t xs)
        → length (filter t (cond d (x ∷ filter u xs) (filter u xs))) ≤ length (cond c (x ∷ filter t xs) (filter t xs))
    go true false e l = omega (arith, l)
    go false false e l = l
    go true true e l =
        let h : length (filter t (x ∷ filter u xs)) ≡ suc (length (filter t (filter u xs))) =
        ap (λ y. length (cond y (x ∷ filter t (filter u xs)) (filter t (filter u xs)))) e in
        omega (arith, l, h)
    go false true e l =
        let h : length (filter t (x ∷ filter u xs)) ≡ length (filter t (filter u xs)) =
        ap (λ y. length (cond y (x ∷ filter t (filter u xs)) (filter t (filter u xs)))) e in
        omega (arith, l, h)

-- how many steps a search took that went to its end
pub steps_counted : (net : NetValue) (limit : ℕ) (g : FoundValue) (before after : ℕ)
    → visits net (simple_paths net) (unspent net limit) ≡ Some g → after + g.left ≡ before + budget net.blocks limit
    → (after ≡ before + length (filter is_long (simple_paths net))) × (before + length (filter is_long g.paths) ≤ after)
steps_counted net limit g before after e steps =
    let h = found_all net (simple_paths net) (unspent net limit) g e in
    let left : g.left + length (filter is_long (simple_paths net)) ≡ budget net.blocks limit = h.left in
    let all : after ≡ before + length (filter is_long (simple_paths net)) = counted
    (budget net.blocks limit) left steps in
    let some : length (filter is_long g.paths) ≤ length (filter is_long (simple_paths net)) =
    subst (λ (ps : List (List ℕ)). length (filter is_long ps) ≤ length (filter is_long (simple_paths net)))
    (sym h.paths)
    (filter_less is_long (is_prime net) (simple_paths net)) in
    (all, omega (arith, all, some))
  where
    counted : (b : ℕ) → g.left + length (filter is_long (simple_paths net)) ≡ b → after + g.left ≡ before + b
        → after ≡ before + length (filter is_long (simple_paths net))
    counted b l s = omega (arith, l, s)

-- the search as the code begins it
pub begins : (net ways : NetValue) (limit left blocks : ℕ) (start : FoundValue) (search : Option FoundValue) → ways
    ≡ net
    → start ≡ record { paths = []; limit = limit; left = left } → left ≡ budget blocks limit → blocks ≡ net.blocks
    → visits ways (simple_paths ways) start ≡ search → visits net (simple_paths net) (unspent net limit) ≡ search
begins net ways limit left blocks start search w s l b e =
    sym (ap₂ (λ (n : NetValue) (f : FoundValue). visits n (simple_paths n) f) w
    (s ∙ ap (λ (k : ℕ). unspent_by k) (l ∙ ap (λ k. budget k limit) b))) ∙ e
  where
    unspent_by : ℕ → FoundValue
    unspent_by k = record { paths = []; limit = limit; left = k }

pub begins_left : (net : NetValue) (limit left blocks : ℕ) (start : FoundValue)
    → start ≡ record { paths = []; limit = limit; left = left } → left ≡ budget blocks limit → blocks ≡ net.blocks
    → start.left ≡ budget net.blocks limit
begins_left net limit left blocks start s l b = ap (λ (f : FoundValue). f.left) s ∙ l ∙ ap (λ k. budget k limit) b
