-- Lines that are put among others, one after another.
use Rattle.std.proofs.Common.{◌≡◌, refl, sym, ap, ◌∙◌, ℕ, List, [], ◌∷◌, Option, Some, None}
use Rattle.flow_graph.specs.Ascending.{inserted, Ascends}
use Rattle.flow_graph.proofs.LineLaws.{Order, below, same, above, order, put_below, put_same, put_above, put_first}
use Rattle.flow_graph.proofs.LineLaws.{line_twice, swapped, ascends-with}
use Rattle.c_lower.specs.Lowered.{add_line}
use Rattle.c_lower.specs.Building.{with_lines}

-- a line among the first ones, or among those that are added, is one of them all
lines_out : (n : ℕ) (ms ls : List ℕ) → with_lines (inserted n ms) ls ≡ inserted n (with_lines ms ls)
lines_out n ms [] = refl
lines_out n ms (l ∷ ls) = ap (λ (r : List ℕ). with_lines r ls) (swapped l n ms) ∙ lines_out n (inserted l ms) ls

lines_in : (n : ℕ) (ms ls : List ℕ) → with_lines ms (inserted n ls) ≡ inserted n (with_lines ms ls)
lines_in n ms [] = refl
lines_in n ms (l ∷ ls) = go (order n l) (lines_in n (inserted l ms) ls)
  where
    go : Order n l → with_lines (inserted l ms) (inserted n ls) ≡ inserted n (with_lines (inserted l ms) ls)
        → with_lines ms (inserted n (l ∷ ls)) ≡ inserted n (with_lines (inserted l ms) ls)
    go (below h) more =
        ap (with_lines ms) (put_below n l ls h) ∙ ap (λ (r : List ℕ). with_lines r ls) (swapped l n ms)
        ∙ lines_out n (inserted l ms) ls
    go (same e) more =
        ap (with_lines ms) (put_same n l ls e)
        ∙ sym (ap (λ (k : ℕ). inserted k (with_lines (inserted l ms) ls)) e ∙ sym (lines_out l (inserted l ms) ls)
        ∙ ap (λ (r : List ℕ). with_lines r ls) (line_twice l ms))
    go (above h) more = ap (with_lines ms) (put_above n l ls h) ∙ more

pub lines_shift : (line : Option ℕ) (ms ls : List ℕ) → with_lines (add_line line ms) ls ≡ with_lines ms
    (add_line line ls)
lines_shift None ms ls = refl
lines_shift (Some n) ms ls = lines_out n ms ls ∙ sym (lines_in n ms ls)

-- ---- ascending lines

pub ascends-add : (line : Option ℕ) (ls : List ℕ) → Ascends ls → Ascends (add_line line ls)
ascends-add None ls h = h
ascends-add (Some n) ls h = ascends-with n ls h

-- ascending lines that are added to none are themselves
pub lines_alone : (ls : List ℕ) → Ascends ls → with_lines [] ls ≡ ls
lines_alone [] h = refl
lines_alone (l ∷ ls) h = lines_out l [] ls ∙ ap (inserted l) (lines_alone ls h.1) ∙ put_first l ls h.0
