-- One step of each loop.
use Rattle.std.proofs.Common.{◌≡◌, refl, sym, ap, subst, ◌∙◌, ℕ, zero, suc, ◌+◌, ◌*◌, ◌^◌, ◌<◌, ◌≤◌, ◌==◌}
use Rattle.std.proofs.Common.{List, [], ◌∷◌}
use Rattle.std.proofs.Common.{length, get_or, set, drop, Bool, true, false, cond, arith, pos, negsuc, ◌+ℤ◌}
use Rattle.std.proofs.Common.{neg_ℤ, to_z, of_z, eq-eqb}
use Rattle.std.specs.Prelude.{ℤ, Option, Some, None, slice_get, ◌-ℤ◌, unsigned_abs}
use Rattle.std.specs.Int.{w128}
use Rattle.std.specs.List.{All}
use Rattle.std.proofs.lemmas.Bool.{cond-true, cond-false, ne_eqb}
use Rattle.std.proofs.lemmas.Int.{ints, to_z-of_z, fits_signed_from_abs}
use Rattle.std.proofs.lemmas.List.{drop_more}
use Rattle.std.proofs.lemmas.List.Elements.{All-weaker, All-tail}
use Rattle.cov_base.specs.declared.net.FlowArc.{FlowArc}
use Rattle.cov_base.specs.Net.{NetValue, IsNet}
use Rattle.cov_base.proofs.NetLaws.{HasShape-from_IsNet}
use Rattle.span_tree.specs.declared.arrival.Arrival.{Arrival}
use Rattle.span_tree.specs.Tree.{arrivals, is_linked, link_of, order_of}
use Rattle.flow_solver.specs.Solving.{add_at, take_up, settled, settled_by, gathered, numbers_with}
use Rattle.flow_solver.specs.Solving.{counters_behind, spread}
use Rattle.flow_solver.proofs.Links.{tree_of, inner_exit}
use Rattle.span_tree.specs.Tables.{LinkWithin}
use Rattle.flow_solver.proofs.Sizes.{Small, abs_neg, all_more, with_small, light_start, gathered_small}

-- the arc of an index is there
get_some : (xs : List FlowArc) (i : ℕ) (d : FlowArc) → i < length xs → slice_get xs i ≡ Some (get_or xs i d)
get_some [] i d l = absurd (omega (arith, l))
get_some (x ∷ xs) zero d l = refl
get_some (x ∷ xs) (suc i) d l = get_some xs i d (omega (arith, l))

-- what is settled where a block came by an arc
settled_at : (arcs : List FlowArc) (came : List Arrival) (b i : ℕ) (d : FlowArc) (out : List ℤ)
    → Some i ≡ link_of came b → i < length arcs
    → settled arcs came b out ≡ take_up came b i (Some (get_or arcs i d)) out
settled_at arcs came b i d out e l =
    ap (λ (o : Option ℕ). settled_by arcs came b o out) (sym e)
    ∙ ap (λ (o : Option FlowArc). take_up came b i o out) (get_some arcs i d l)

-- a number that is read from its bits
read_back : (x : ℤ) → unsigned_abs x ≤ 2 ^ 100 → to_z w128 (of_z w128 x) ≡ x
read_back x small = to_z-of_z w128 x (fits_signed_from_abs w128 x (omega (arith, small)))

negated : (x : ℤ) → pos 0 -ℤ x ≡ neg_ℤ x
negated x = omega (arith, ints)

abs_negated : (x : ℤ) → unsigned_abs (pos 0 -ℤ x) ≡ unsigned_abs x
abs_negated x = ap unsigned_abs (negated x) ∙ abs_neg x

-- the arc by which a block came is one of so many
link_in : (n i : ℕ) (o : Option ℕ) → Some i ≡ o → LinkWithin n o → i < n
link_in n i o e h = subst (LinkWithin n) (sym e) h

pub settle_into : (arcs : List FlowArc) (came : List Arrival) (b i : ℕ) (d : FlowArc) (out new : List ℤ)
    → Some i ≡ link_of came b → LinkWithin (length out) (link_of came b) → length out ≡ length arcs
    → All (λ x. unsigned_abs x ≤ 2 ^ 90) out → (get_or arcs i d).to ≡ b
    → new ≡ add_at came (get_or arcs i d).from (to_z w128 (of_z w128 (get_or out i (pos 0))))
    (set out i (to_z w128 (of_z w128 (pos 0 -ℤ to_z w128 (of_z w128 (get_or out i (pos 0)))))))
    → new ≡ settled arcs came b out
settle_into arcs came b i d out new e in_ long small to h =
    h ∙ (ap (λ z. add_at came (get_or arcs i d).from z (set out i (to_z w128 (of_z w128 (pos 0 -ℤ z))))) same
    ∙ (ap (λ z. add_at came (get_or arcs i d).from x (set out i z)) turned
    ∙ (sym (cond-true ((get_or arcs i d).to == b) (add_at came (get_or arcs i d).from x (set out i (neg_ℤ x)))
    (add_at came (get_or arcs i d).to x out) (eq-eqb (get_or arcs i d).to b to))
    ∙ sym (settled_at arcs came b i d out e l))))
  where
    l : i < length arcs
    l = subst (λ n. i < n) long (link_in (length out) i (link_of came b) e in_)

    x : ℤ
    x = get_or out i (pos 0)

    within : unsigned_abs x ≤ 2 ^ 90
    within = small i (pos 0) (omega (arith, l, long))

    same : to_z w128 (of_z w128 x) ≡ x
    same = read_back x (let w = within in omega (arith, w))

    turned : to_z w128 (of_z w128 (pos 0 -ℤ x)) ≡ neg_ℤ x
    turned = read_back (pos 0 -ℤ x) (let w = within in let a = abs_negated x in omega (arith, w, a)) ∙ negated x

pub settle_out : (arcs : List FlowArc) (came : List Arrival) (b i : ℕ) (d : FlowArc) (out new : List ℤ)
    → Some i ≡ link_of came b → LinkWithin (length out) (link_of came b) → length out ≡ length arcs
    → All (λ x. unsigned_abs x ≤ 2 ^ 90) out → ((get_or arcs i d).to ≡ b → ⊥)
    → new ≡ add_at came (get_or arcs i d).to (to_z w128 (of_z w128 (get_or out i (pos 0)))) out
    → new ≡ settled arcs came b out
settle_out arcs came b i d out new e in_ long small other h =
    h ∙ (ap (λ z. add_at came (get_or arcs i d).to z out) same
    ∙ (sym (cond-false ((get_or arcs i d).to == b) (add_at came (get_or arcs i d).from x (set out i (neg_ℤ x)))
    (add_at came (get_or arcs i d).to x out) (ne_eqb (get_or arcs i d).to b other))
    ∙ sym (settled_at arcs came b i d out e l)))
  where
    l : i < length arcs
    l = subst (λ n. i < n) long (link_in (length out) i (link_of came b) e in_)

    x : ℤ
    x = get_or out i (pos 0)

    same : to_z w128 (of_z w128 x) ≡ x
    same = read_back x (let w = small i (pos 0) (omega (arith, l, long)) in omega (arith, w))

-- one arc more
pub spread_step : (came : List Arrival) (i : ℕ) (arcs : List FlowArc) (d : FlowArc) (given given' : List ℕ)
    (out out' total : List ℤ) → i < length arcs → given' ≡ counters_behind came i given
    → out' ≡ numbers_with came i (get_or arcs i d) given out → spread came i (drop i arcs) given out ≡ total
    → spread came (i + 1) (drop (i + 1) arcs) given' out' ≡ total
spread_step came i arcs d given given' out out' total l g o h =
    sym (ap (λ (r : List FlowArc). spread came i r given out) (drop_more arcs i d l)
    ∙ (ap (λ n. spread came n (drop (i + 1) arcs) (counters_behind came i given)
    (numbers_with came i (get_or arcs i d) given out)) more
    ∙ (ap (λ (r : List ℕ). spread came (i + 1) (drop (i + 1) arcs) r (numbers_with came i (get_or arcs i d) given
    out)) (sym g)
    ∙ ap (λ (r : List ℤ). spread came (i + 1) (drop (i + 1) arcs) given' r) (sym o)))) ∙ h
  where
    more : suc i ≡ i + 1
    more = omega arith

pub step_small : (came : List Arrival) (i : ℕ) (arc : FlowArc) (given : List ℕ) (out out' : List ℤ)
    → out' ≡ numbers_with came i arc given out → All (λ n. n < 2 ^ 63) given
    → All (λ x. unsigned_abs x ≤ i * 2 ^ 65) out → All (λ x. unsigned_abs x ≤ (i + 1) * 2 ^ 65) out'
step_small came i arc given out out' e few small =
    subst (All (Small ((i + 1) * 2 ^ 65))) (sym e)
    (all_more (i * 2 ^ 65 + 2 ^ 63 + 2 ^ 63 + 2 ^ 63) ((i + 1) * 2 ^ 65) (numbers_with came i arc given out)
    (omega arith)
    (with_small (i * 2 ^ 65) (2 ^ 63) came i arc given out
    (All-weaker (λ n. n < 2 ^ 63) (λ n. n ≤ 2 ^ 63) (λ n l. omega (arith, l)) given few) small))

pub step_counts : (came : List Arrival) (i : ℕ) (given given' : List ℕ) → given' ≡ counters_behind came i given
    → All (λ n. n < 2 ^ 63) given → All (λ n. n < 2 ^ 63) given'
step_counts came i given given' e few = subst (All (λ n. n < 2 ^ 63)) (sym e) (go (is_linked came i) given few)
  where
    go : (x : Bool) (given : List ℕ) → All (λ n. n < 2 ^ 63) given → All (λ n. n < 2 ^ 63) (cond x given (drop 1 given))
    go true g f = f
    go false [] f = f
    go false (n ∷ g) f = All-tail (λ n. n < 2 ^ 63) n g f

-- whichever of the last blocks were taken, the numbers are small
pub gather_small : (net : NetValue) (came : List Arrival) (arcs : List FlowArc) (order : List ℕ) (start out : List ℤ)
    (k : ℕ) → IsNet net → came ≡ arrivals net → arcs ≡ net.arcs → order ≡ order_of came
    → length start ≡ length net.arcs → All (λ x. unsigned_abs x ≤ 2 ^ 77) start
    → out ≡ gathered arcs came (drop k order) start → All (λ x. unsigned_abs x ≤ 2 ^ 90) out
gather_small net came arcs order start out k is tree same blocks long small e =
    subst (All (Small (2 ^ 90))) (sym (e ∙ ap (λ (l : List FlowArc). gathered l came (drop k order) start) same
    ∙ ap (λ (l : List ℕ). gathered net.arcs came (drop k l) start) blocks
    ∙ ap (λ (l : List Arrival). gathered net.arcs l (drop k (order_of l)) start) tree))
    (gathered_small (2 ^ 90) net (arrivals net) (tree_of net is) (inner_exit net.arcs) start
    (light_start (2 ^ 77) (2 ^ 90) net (arrivals net) start long
    (let few = (HasShape-from_IsNet net is).few in omega (arith, few, long)) (omega arith) small) k)
