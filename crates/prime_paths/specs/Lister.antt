-- A plain lister of all simple and all prime paths of a net.
use Rattle.std.specs.Prelude.{ℕ, zero, suc, ◌-◌, Bool, false, not, ◌&&◌, ◌||◌, cond, List, [], ◌∷◌, ◌++◌, filter}
use Rattle.std.specs.List.{list_any, flat_map}
use Rattle.cov_base.specs.Net.{NetValue}
use Rattle.prime_paths.specs.Paths.{is_simple_path, leads, is_inner, among, front_of}

-- so many numbers, from the given one on
abbrev pub numbers : ℕ → ℕ → List ℕ
numbers from zero = []
numbers from (suc n) = from ∷ numbers (suc from) n

-- the blocks from 2 up
abbrev pub inner_blocks : NetValue → List ℕ
inner_blocks net = numbers 2 (net.blocks - 2)

-- the simple paths that begin with the path and are at most so many blocks longer, in the order of a dictionary
abbrev pub grow : NetValue → ℕ → List ℕ → List (List ℕ)
grow net zero p = p ∷ []
grow net (suc n) p = p ∷ flat_map (λ b. cond (is_simple_path net (p ++ b ∷ [])) (grow net n (p ++ b ∷ [])) [])
    (inner_blocks net)

-- all simple paths of the net: none has more than one block more than the net
abbrev pub simple_paths : NetValue → List (List ℕ)
simple_paths net = flat_map (λ b. cond (is_simple_path net (b ∷ [])) (grow net net.blocks (b ∷ [])) [])
    (inner_blocks net)

-- a simple path that no single block lengthens, behind or in front
abbrev pub is_prime : NetValue → List ℕ → Bool
is_prime net p = not (list_any (λ b. is_simple_path net (p ++ b ∷ []) || is_simple_path net (b ∷ p)) (inner_blocks net))

-- all prime paths of the net, in the order of a dictionary
abbrev pub listing : NetValue → List (List ℕ)
listing net = filter (is_prime net) (simple_paths net)

-- the last block of a path that began at a block
abbrev pub last_from : ℕ → List ℕ → ℕ
last_from x [] = x
last_from x (y ∷ p) = last_from y p

-- the block lengthens the simple path behind: an arc leads to it, the path isn't a cycle, and the block isn't one
-- behind the first
abbrev pub fits_behind : NetValue → List ℕ → ℕ → Bool
fits_behind net [] b = false
fits_behind net (x ∷ p) b = leads net (last_from x p) b && (is_inner net b && (not (among x p) && not (among b p)))

-- the block lengthens the simple path in front: an arc leads from it, the path isn't a cycle, and the block isn't
-- one before the last
abbrev pub fits_before : NetValue → List ℕ → ℕ → Bool
fits_before net [] b = false
fits_before net (x ∷ p) b = is_inner net b && (leads net b x && (not (among x p) && not (among b (front_of (x ∷ p)))))

-- what grows from a simple path by one block, if the block lengthens it
abbrev pub grown_by : NetValue → ℕ → List ℕ → ℕ → List (List ℕ)
grown_by net n p b = cond (is_simple_path net (p ++ b ∷ [])) (grow net n (p ++ b ∷ [])) []
