-- The numbers on the arcs of a net are small where its counters are: the magnitudes of all are bounded together.
use Rattle.std.proofs.Common.{◌≡◌, refl, sym, subst, ◌∙◌, ℕ, zero, suc, ◌+◌, ◌*◌, ◌^◌, ◌≤◌, List, [], ◌∷◌}
use Rattle.std.proofs.Common.{length, get_or, set, drop, replicate, Bool, true, false, cond, arith, pos, negsuc, ◌+ℤ◌, neg_ℤ}
use Rattle.std.specs.Prelude.{◌≤ℤ◌}
use Rattle.std.specs.List.{position}
use Rattle.std.proofs.lemmas.Int.{ints}
use Rattle.std.specs.Prelude.{ℤ, Option, Some, None, unsigned_abs}
use Rattle.std.specs.List.{All}
use Rattle.std.proofs.lemmas.List.{length-replicate}
use Rattle.std.proofs.lemmas.List.Elements.{All-head, All-tail, All-replicate}
use Rattle.cov_base.specs.declared.net.FlowArc.{FlowArc}
use Rattle.cov_base.specs.Net.{NetValue, IsNet}
use Rattle.cov_base.proofs.NetLaws.{HasShape-from_IsNet, All-from_no_position}
use Rattle.span_tree.specs.declared.arrival.Arrival.{Arrival}
use Rattle.span_tree.specs.Tree.{arrivals, is_linked, link_of, order_of, off}
use Rattle.flow_solver.specs.Circulation.{Circulation, is_negative}
use Rattle.flow_solver.specs.Solving.{add_to, add_at, put_along, put_first, numbers_with, counters_behind, spread, gathered}
use Rattle.flow_solver.proofs.Links.{tree_of, inner_exit}
use Rattle.flow_solver.proofs.Sizes.{abs_add, abs_neg, weight, Light, gathered_small}
use Rattle.flow_solver.proofs.Solutions.{has_one, solved_is}
use Rattle.flow_solver.proofs.Spreading.{spread_long}

-- how far from 0 numbers are together
abbrev mass : List ℤ → ℕ
mass [] = 0
mass (x ∷ xs) = unsigned_abs x + mass xs

mass_add : (xs : List ℤ) (i : ℕ) (n : ℤ) → mass (set xs i (get_or xs i (pos 0) +ℤ n)) ≤ mass xs + unsigned_abs n
mass_add [] i n = omega arith
mass_add (x ∷ xs) zero n = (let a = abs_add x n in omega (arith, a))
mass_add (x ∷ xs) (suc i) n = (let a = mass_add xs i n in omega (arith, a))

mass_to : (o : Option ℕ) (n : ℤ) (xs : List ℤ) → mass (add_to o n xs) ≤ mass xs + unsigned_abs n
mass_to None n xs = omega arith
mass_to (Some i) n xs = mass_add xs i n

mass_set : (xs : List ℤ) (i : ℕ) (x : ℤ) → mass (set xs i x) ≤ mass xs + unsigned_abs x
mass_set [] i x = omega arith
mass_set (y ∷ ys) zero x = omega arith
mass_set (y ∷ ys) (suc i) x = (let a = mass_set ys i x in omega (arith, a))

-- a number that goes along an arc adds three times itself at most
mass_along : (came : List Arrival) (i : ℕ) (arc : FlowArc) (n : ℕ) (xs : List ℤ)
    → mass (put_along came i arc (pos n) xs) ≤ mass xs + 3 * n
mass_along came i arc n xs =
    let a = mass_set xs i (pos n) in
    let b = mass_to (link_of came arc.to) (pos n) (set xs i (pos n)) in
    let c = mass_to (link_of came arc.from) (neg_ℤ (pos n)) (add_at came arc.to (pos n) (set xs i (pos n))) in
    let e = abs_neg (pos n) in
    omega (arith, a, b, c, e)

mass_with : (m : ℕ) (came : List Arrival) (i : ℕ) (arc : FlowArc) (given : List ℕ) (xs : List ℤ) → All (λ n. n ≤ m) given
    → mass (numbers_with came i arc given xs) ≤ mass xs + 3 * m
mass_with m came i arc given xs few = go (is_linked came i) given few
  where
    go : (b : Bool) (given : List ℕ) → All (λ n. n ≤ m) given
        → mass (cond b xs (put_first came i arc given xs)) ≤ mass xs + 3 * m
    go true given few = omega arith
    go false [] few = omega arith
    go false (n ∷ given) few =
        let a = mass_along came i arc n xs in
        let b = All-head (λ n. n ≤ m) n given few in
        omega (arith, a, b)

few_behind : (m : ℕ) (came : List Arrival) (i : ℕ) (given : List ℕ) → All (λ n. n ≤ m) given
    → All (λ n. n ≤ m) (counters_behind came i given)
few_behind m came i given few = go (is_linked came i) given few
  where
    go : (b : Bool) (given : List ℕ) → All (λ n. n ≤ m) given → All (λ n. n ≤ m) (cond b given (drop 1 given))
    go true given few = few
    go false [] few = few
    go false (n ∷ given) few = All-tail (λ n. n ≤ m) n given few

mass_spread : (m : ℕ) (came : List Arrival) (i : ℕ) (arcs : List FlowArc) (given : List ℕ) (xs : List ℤ)
    → All (λ n. n ≤ m) given → mass (spread came i arcs given xs) ≤ mass xs + length arcs * (3 * m)
mass_spread m came i [] given xs few = omega arith
mass_spread m came i (arc ∷ arcs) given xs few =
    let a = mass_with m came i arc given xs few in
    let b = mass_spread m came (suc i) arcs (counters_behind came i given) (numbers_with came i arc given xs)
    (few_behind m came i given few) in
    more (mass xs) _ _ (length arcs) (3 * m) a b
  where
    more : (x y z n k : ℕ) → y ≤ x + k → z ≤ y + n * k → z ≤ x + suc n * k
    more x y z n k a b = omega (arith, a, b)

-- the numbers of some arcs are no further from 0 than all
mass_weight : (some : ℕ → Bool) (i : ℕ) (xs : List ℤ) → weight some i xs ≤ mass xs
mass_weight some i [] = omega arith
mass_weight some i (x ∷ xs) = go (some i) (mass_weight some (suc i) xs)
  where
    go : (b : Bool) → weight some (suc i) xs ≤ mass xs
        → cond b (unsigned_abs x) 0 + weight some (suc i) xs ≤ unsigned_abs x + mass xs
    go true h = omega (arith, h)
    go false h = omega (arith, h)

mass_zeros : (n : ℕ) → mass (replicate n (pos 0)) ≡ 0
mass_zeros zero = refl
mass_zeros (suc n) = (let a = mass_zeros n in omega (arith, a))

mass_at : (m : ℕ) (xs : List ℤ) → mass xs ≤ m → All (λ x. unsigned_abs x ≤ m) xs
mass_at m [] h k d l = absurd (omega (arith, l))
mass_at m (x ∷ xs) h zero d l = omega (arith, h)
mass_at m (x ∷ xs) h (suc k) d l = mass_at m xs (omega (arith, h)) k d (omega (arith, l))

-- The only numbers that agree with counters and balance are at most 2^80 away from 0.
pub numbers_small : (net : NetValue) → IsNet net → (given : List ℕ) → length given ≡ length (off net)
    → All (λ n. n ≤ 9223372036854775807) given → (numbers : List ℤ) → Circulation net given numbers
    → All (λ x. unsigned_abs x ≤ 2 ^ 80) numbers
numbers_small net is given many few numbers circulates =
    subst (All (λ x. unsigned_abs x ≤ 2 ^ 80)) (sym same)
    (gathered_small (2 ^ 80) net came (tree_of net is) (inner_exit net.arcs) put light 0)
  where
    came : List Arrival
    came = arrivals net

    clear : List ℤ
    clear = replicate (length net.arcs) (pos 0)

    put : List ℤ
    put = spread came 0 net.arcs given clear

    found : Circulation net given (gathered net.arcs came (order_of came) put)
    found = solved_is net came given clear put (gathered net.arcs came (order_of came) put) is refl many
        (length-replicate (length net.arcs) (pos 0)) (All-replicate (λ x. x ≡ pos 0) (length net.arcs) (pos 0) refl)
        refl refl

    same : numbers ≡ gathered net.arcs came (order_of came) put
    same = (has_one net is).one given numbers (gathered net.arcs came (order_of came) put) circulates found

    total : mass put ≤ 2 ^ 80
    total =
        let a = mass_spread 9223372036854775807 came 0 net.arcs given clear few in
        let z = mass_zeros (length net.arcs) in
        let n = (HasShape-from_IsNet net is).few in
        omega (arith, a, z, n)

    light : Light (2 ^ 80) net came put
    light = record {
      long = spread_long came 0 net.arcs given clear ∙ length-replicate (length net.arcs) (pos 0);
      together = (let a = mass_weight (is_linked came) 0 put in omega (arith, a, total));
      each = mass_at (2 ^ 80) put total;
    }

-- Numbers of which none is negative are from 0 up.
pub flow_bounds : (numbers : List ℤ) → position is_negative numbers ≡ None → All (λ x. unsigned_abs x ≤ 2 ^ 80) numbers
    → All (λ n. (pos 0 ≤ℤ n) × (n ≤ℤ pos (2 ^ 80))) numbers
flow_bounds numbers none small k d low =
    each (get_or numbers k d) (All-from_no_position is_negative numbers none k d low) (small k d low)
  where
    each : (n : ℤ) → is_negative n ≡ false → unsigned_abs n ≤ 2 ^ 80 → (pos 0 ≤ℤ n) × (n ≤ℤ pos (2 ^ 80))
    each (pos n) e h = (omega (arith, ints, h), omega (arith, ints, h))
    each (negsuc n) e h = absurd (let wrong : true ≡ false = e in cc)
