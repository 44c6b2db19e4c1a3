-- The sparse rows of a list of paths, and the bits of the paths that walks contain.
use Rattle.std.specs.Prelude.{
  ◌≡◌,
  ℕ,
  zero,
  suc,
  ◌+◌,
  ◌*◌,
  ◌/◌,
  ◌≤◌,
  Bool,
  true,
  false,
  cond,
  ◌&&◌,
  ◌||◌,
  ◌==◌,
  ◌⊎◌,
  nat_le,
  List,
  [],
  ◌∷◌,
  ◌++◌,
  length,
  map,
  take,
  drop,
}
use Rattle.std.specs.List.{list_any, flat_map}
use Rattle.cov_base.specs.Falls.{is_real}
use Rattle.cov_base.specs.declared.net.FlowArc.{FlowArc}
use Rattle.prime_paths.specs.Paths.{among, is_simple, Among}
use Rattle.prime_paths.specs.Lister.{numbers}
use Rattle.path_masks.specs.UnderWay.{begins_at, has_move, ends_by_move, is_just}
use Rattle.word_rules.specs.WordRules.{BeginEntry, PassEntry, Words, begin_by, pass_by, begin_spelled, pass_spelled}

-- the one list is a front of the other
abbrev pub is_front : List ℕ → List ℕ → Bool
is_front [] p = true
is_front (x ∷ w) [] = false
is_front (x ∷ w) (y ∷ p) = (x == y) && is_front w p

-- the walk contains, or tours, the path (Ammann and Offutt)
abbrev pub contains : List ℕ → List ℕ → Bool
contains [] p = is_front p []
contains (x ∷ w) p = is_front p (x ∷ w) || contains w p

-- the walk ends with a front of the path that isn't empty
abbrev pub is_under_way : List ℕ → List ℕ → Bool
is_under_way [] p = false
is_under_way (x ∷ w) p = is_front (x ∷ w) p || is_under_way w p

-- 1 where it holds, and 0 where it doesn't
abbrev pub one_if : Bool → ℕ
one_if true = 1
one_if false = 0

-- whether there is a path of this index and it passes the test
abbrev pub nth : (List ℕ → Bool) → List (List ℕ) → ℕ → Bool
nth t [] k = false
nth t (p ∷ ps) zero = t p
nth t (p ∷ ps) (suc k) = nth t ps k

-- the number whose bits tell of each path whether it passes the test, the lowest of the first
abbrev pub word_of : (List ℕ → Bool) → List (List ℕ) → ℕ
word_of t [] = 0
word_of t (p ∷ ps) = one_if (t p) + 2 * word_of t ps

-- the paths of a word: bit k of all is bit k modulo 64 of word k / 64
abbrev pub chunk : List (List ℕ) → ℕ → List (List ℕ)
chunk ps i = take 64 (drop (64 * i) ps)

-- the number of words
abbrev pub width : List (List ℕ) → ℕ
width ps = (length ps + 63) / 64

-- the words whose bits tell of each path whether it passes the test
abbrev pub words_of : (List ℕ → Bool) → List (List ℕ) → List ℕ
words_of t ps = map (λ i. word_of t (chunk ps i)) (numbers 0 (width ps))

-- the bits of the paths that some walk contains
abbrev pub bits_of : List (List ℕ) → List (List ℕ) → List ℕ
bits_of ps walks = words_of (λ p. list_any (λ w. contains w p) walks) ps

-- the begin row's entry for a word: paths that begin at the block, and the path that is this block alone
abbrev pub begin_entry : ℕ → List (List ℕ) → ℕ → BeginEntry
begin_entry s ps i = record {
  word = i;
  begin = word_of (begins_at s) (chunk ps i);
  done = word_of (is_just s)
      (chunk ps i);
}

-- entries for the words that have a path that begins at the block, ascending
abbrev pub row_of_start : ℕ → List (List ℕ) → List BeginEntry
row_of_start s ps = flat_map (λ i. cond (list_any (begins_at s) (chunk ps i)) (begin_entry s ps i ∷ []) [])
    (numbers 0 (width ps))

-- the entry of an arc from v to b for a word: paths with this arc, paths whose last arc it is, paths that begin at
-- its end
abbrev pub pass_entry : ℕ → ℕ → List (List ℕ) → ℕ → PassEntry
pass_entry v b ps i = record {
  word = i;
  keep = word_of (has_move v b) (chunk ps i);
  finish = word_of (ends_by_move v b) (chunk ps i);
  start = word_of (begins_at b) (chunk ps i);
}

-- a path holds v or begins at b
abbrev pub touches : ℕ → ℕ → List ℕ → Bool
touches v b p = among v p || begins_at b p

-- entries for the words that have a path that holds v or begins at b, ascending
abbrev pub row_of_move : ℕ → ℕ → List (List ℕ) → List PassEntry
row_of_move v b ps = flat_map (λ i. cond (list_any (touches v b) (chunk ps i)) (pass_entry v b ps i ∷ []) [])
    (numbers 0 (width ps))

-- the arc has a row: it is real and goes between blocks from 2 up
abbrev pub has_row : FlowArc → Bool
has_row arc = is_real arc.kind && (nat_le 2 arc.from && nat_le 2 arc.to)

-- the begin row and then the rows of the arcs, in their order
abbrev pub table_of : List FlowArc → List (List ℕ) → List ℕ
table_of arcs ps = begin_spelled (row_of_start 2 ps) ++ flat_map
    (λ arc. cond (has_row arc) (pass_spelled (row_of_move arc.from arc.to ps)) []) arcs

-- what the rows make of the words as a walk goes on from v
abbrev pub goes_by : List (List ℕ) → ℕ → List ℕ → Words → Words
goes_by ps v [] ws = ws
goes_by ps v (b ∷ walk) ws = goes_by ps b walk (pass_by (row_of_move v b ps) ws)

-- what the rows make of the words along a walk from a block
abbrev pub walks_by : List (List ℕ) → ℕ → List ℕ → Words → Words
walks_by ps s walk ws = goes_by ps s walk (begin_by (row_of_start s ps) ws)

-- each path is simple, and has two or more blocks or is the block at which walks begin
pub record AreFit (s : ℕ) (ps : List (List ℕ)) : Type 0 where
  pub simple : (p : List ℕ) → Among p ps → is_simple p ≡ true
  pub size : (p : List ℕ) → Among p ps → (2 ≤ length p) ⊎ (p ≡ s ∷ [])

-- what the rows make of the words along walks from a block, one behind another
abbrev pub all_walks_by : List (List ℕ) → ℕ → List (List ℕ) → Words → Words
all_walks_by ps s [] ws = ws
all_walks_by ps s (walk ∷ walks) ws = all_walks_by ps s walks (walks_by ps s walk ws)

-- the words stand for a walk: the bits are those of the paths under way, and the words seen have those of the paths
-- that
-- were seen before and of the paths that the walk contains
abbrev pub StandFor : (List ℕ → Bool) → List (List ℕ) → List ℕ → Words → Type 0
StandFor old ps walk ws = (ws.bits ≡ words_of (λ p. is_under_way walk p) ps)
    × (ws.seen ≡ words_of (λ p. old p || contains walk p) ps)
