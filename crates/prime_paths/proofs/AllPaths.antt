-- The plain lister gives all prime paths, each once, in order, and there is only one such list.
use Rattle.std.proofs.Common.{◌≡◌, sym, subst, ◌∙◌, ℕ, zero, suc, ◌≤◌, List, [], ◌∷◌, ◌++◌, length, Bool, true, false, cond, inl, inr, arith, append_assoc, append-nil, flat_map}
use Rattle.cov_base.specs.Net.{NetValue}
use Rattle.prime_paths.specs.Paths.{is_simple_path, Among, Before, Ascend, ArePrimes}
use Rattle.prime_paths.specs.Lister.{inner_blocks, grow, simple_paths, is_prime, listing}
use Rattle.prime_paths.proofs.ListFacts.{among_each, among_some, among_cond, cond_among, among_filter, filter_among, numbers_up, before_more, each_ascends, filter_ascend, one_order}
use Rattle.prime_paths.proofs.SimplePaths.{Some_in, some_path, keeps_front, first_inner, last_inner, short, test_prime, prime_tested}

-- what grows from a simple path are simple paths
grow_sound : (net : NetValue) (n : ℕ) (p q : List ℕ) → is_simple_path net p ≡ true → Among q (grow net n p)
    → is_simple_path net q ≡ true
grow_sound net zero p q s (inl e) = subst (λ l. is_simple_path net l ≡ true) (sym e) s
grow_sound net zero p q s (inr m) = absurd m
grow_sound net (suc n) p q s (inl e) = subst (λ l. is_simple_path net l ≡ true) (sym e) s
grow_sound net (suc n) p q s (inr m) =
    let h = among_some (λ b. cond (is_simple_path net (p ++ b ∷ [])) (grow net n (p ++ b ∷ [])) []) q
    (inner_blocks net) m in
    let k = among_cond q (is_simple_path net (p ++ h.0 ∷ [])) (grow net n (p ++ h.0 ∷ [])) h.2 in
    grow_sound net n (p ++ h.0 ∷ []) q k.0 k.1

-- and they begin with it
grow_begins : (net : NetValue) (n : ℕ) (p q : List ℕ) → Among q (grow net n p) → (r : List ℕ) × (q ≡ p ++ r)
grow_begins net zero p q (inl e) = ([], e ∙ sym (append-nil p))
grow_begins net zero p q (inr m) = absurd m
grow_begins net (suc n) p q (inl e) = ([], e ∙ sym (append-nil p))
grow_begins net (suc n) p q (inr m) =
    let h = among_some (λ b. cond (is_simple_path net (p ++ b ∷ [])) (grow net n (p ++ b ∷ [])) []) q
    (inner_blocks net) m in
    let k = among_cond q (is_simple_path net (p ++ h.0 ∷ [])) (grow net n (p ++ h.0 ∷ [])) h.2 in
    let g = grow_begins net n (p ++ h.0 ∷ []) q k.1 in
    (h.0 ∷ g.0, g.1 ∙ append_assoc p (h.0 ∷ []) g.0)

-- each simple path that begins with a path grows from it
grow_all : (net : NetValue) (n : ℕ) (p r : List ℕ) → Some_in p → length r ≤ n → is_simple_path net (p ++ r) ≡ true
    → Among (p ++ r) (grow net n p)
grow_all net zero p [] some l e = inl (append-nil p)
grow_all net (suc n) p [] some l e = inl (append-nil p)
grow_all net zero p (b ∷ r) some l e = absurd (omega (arith, l))
grow_all net (suc n) p (b ∷ r) some l e =
    let same : (p ++ b ∷ []) ++ r ≡ p ++ (b ∷ r) = append_assoc p (b ∷ []) r in
    let whole : is_simple_path net ((p ++ b ∷ []) ++ r)
    ≡ true = subst (λ l. is_simple_path net l ≡ true) (sym same) e in
    let here : is_simple_path net (p ++ b ∷ []) ≡ true = keeps_front net (p ++ b ∷ []) r (behind p) whole in
    inr (among_each (λ b. cond (is_simple_path net (p ++ b ∷ [])) (grow net n (p ++ b ∷ [])) []) (p ++ (b ∷ r)) b
    (inner_blocks net) (last_inner net p b here)
    (cond_among (p ++ (b ∷ r)) (is_simple_path net (p ++ b ∷ [])) (grow net n (p ++ b ∷ [])) here
    (subst (λ l. Among l (grow net n (p ++ b ∷ []))) same (grow_all net n (p ++ b ∷ []) r (behind p)
    (omega (arith, l)) whole))))
  where
    behind : (p : List ℕ) → Some_in (p ++ b ∷ [])
    behind [] = tt
    behind (x ∷ p) = tt

cond_ascend : (c : Bool) (ps : List (List ℕ)) → Ascend ps → Ascend (cond c ps [])
cond_ascend true ps a = a
cond_ascend false ps a = tt

-- what grows from a path ascends
grow_ascends : (net : NetValue) (n : ℕ) (p : List ℕ) → Ascend (grow net n p)
grow_ascends net zero p = ((λ q m. absurd m), tt)
grow_ascends net (suc n) p = (
  (λ q m. (let h = begins q m in subst (λ l. Before p l) (sym h.2) (before_more p h.0 h.1))),
  each_ascends p (λ b. cond (is_simple_path net (p ++ b ∷ [])) (grow net n (p ++ b ∷ [])) []) (inner_blocks net)
      (numbers_up 2 _)
      (λ b. cond_ascend (is_simple_path net (p ++ b ∷ [])) (grow net n (p ++ b ∷ []))
      (grow_ascends net n (p ++ b ∷ []))) follows,
)
  where
    follows : (b : ℕ) (q : List ℕ) → Among q (cond (is_simple_path net (p ++ b ∷ [])) (grow net n (p ++ b ∷ [])) [])
        → (r : List ℕ) × (q ≡ p ++ (b ∷ r))
    follows b q m =
        let k = among_cond q (is_simple_path net (p ++ b ∷ [])) (grow net n (p ++ b ∷ [])) m in
        let g = grow_begins net n (p ++ b ∷ []) q k.1 in
        (g.0, g.1 ∙ append_assoc p (b ∷ []) g.0)

    begins : (q : List ℕ) → Among q (flat_map (λ b. cond (is_simple_path net (p ++ b ∷ []))
        (grow net n (p ++ b ∷ [])) []) (inner_blocks net))
        → (b : ℕ) × (r : List ℕ) × (q ≡ p ++ (b ∷ r))
    begins q m =
        let h = among_some (λ b. cond (is_simple_path net (p ++ b ∷ [])) (grow net n (p ++ b ∷ [])) []) q
        (inner_blocks net) m in
        let f = follows h.0 q h.2 in
        (h.0, f.0, f.1)

-- the paths from one block
abbrev from_block : NetValue → ℕ → List (List ℕ)
from_block net b = cond (is_simple_path net (b ∷ [])) (grow net net.blocks (b ∷ [])) []

-- the simple paths are those listed
pub simple_sound : (net : NetValue) (q : List ℕ) → Among q (simple_paths net) → is_simple_path net q ≡ true
simple_sound net q m =
    let h = among_some (from_block net) q (inner_blocks net) m in
    let k = among_cond q (is_simple_path net (h.0 ∷ [])) (grow net net.blocks (h.0 ∷ [])) h.2 in
    grow_sound net net.blocks (h.0 ∷ []) q k.0 k.1

pub simple_all : (net : NetValue) (q : List ℕ) → is_simple_path net q ≡ true → Among q (simple_paths net)
simple_all net [] e = absurd (some_path net [] e)
simple_all net (b ∷ r) e =
    among_each (from_block net) (b ∷ r) b (inner_blocks net) (first_inner net b r e)
    (cond_among (b ∷ r) (is_simple_path net (b ∷ [])) (grow net net.blocks (b ∷ [])) (keeps_front net (b ∷ []) r tt e)
    (grow_all net net.blocks (b ∷ []) r tt (short net b r e) e))

pub simple_ascends : (net : NetValue) → Ascend (simple_paths net)
simple_ascends net = each_ascends [] (from_block net) (inner_blocks net) (numbers_up 2 _)
    (λ b. cond_ascend (is_simple_path net (b ∷ [])) (grow net net.blocks (b ∷ []))
    (grow_ascends net net.blocks (b ∷ [])))
    (λ b q m. grow_begins net net.blocks (b ∷ []) q (among_cond q (is_simple_path net (b ∷ []))
    (grow net net.blocks (b ∷ [])) m).1)

-- the plain lister gives exactly the prime paths, each once, in the order of a dictionary
pub lists : (net : NetValue) → ArePrimes net (listing net)
lists net = record {
  sound = λ p m. (let h = among_filter (is_prime net) p (simple_paths net) m in test_prime net p
      (simple_sound net p h.1) h.0);
  complete = λ p h. filter_among (is_prime net) p (simple_paths net) (prime_tested net p h) (simple_all net p h.simple);
  order = filter_ascend (is_prime net) (simple_paths net) (simple_ascends net);
}

-- there is one list of the prime paths
pub one_list : (net : NetValue) (ps : List (List ℕ)) → ArePrimes net ps → ps ≡ listing net
one_list net ps h = one_order ps (listing net) h.order (lists net).order
    (λ p m. (lists net).complete p (h.sound p m)) (λ p m. h.complete p ((lists net).sound p m))
