-- What the laws of masks say.
use Rattle.std.specs.Prelude.{◌≡◌, ℕ, ◌/◌, ◌%◌, false, Bool, List, [], ◌∷◌, ◌++◌, length, map}
use Rattle.std.specs.Bool.{Decides}
use Rattle.std.specs.Int.{bit_at}
use Rattle.cov_base.specs.Net.{NetValue, IsNet}
use Rattle.word_rules.specs.WordRules.{Words, word_at, begin_by, pass_by}
use Rattle.prime_paths.specs.Paths.{Contains, ArePrimes}
use Rattle.path_masks.specs.UnderWay.{IsUnderWay}
use Rattle.path_masks.specs.Masks.{
  contains,
  is_under_way,
  width,
  one_if,
  nth,
  words_of,
  bits_of,
  row_of_start,
  row_of_move,
  all_walks_by,
  AreFit,
  StandFor,
}

-- the tests of a walk and a path tell whether the walk contains the path, and whether the path is under way
abbrev pub TestsDecide : Type 0
TestsDecide = (walk p : List ℕ) → Decides (contains walk p) (Contains walk p)
    × Decides (is_under_way walk p) (IsUnderWay walk p)

-- bit k modulo 64 of word k / 64 tells whether there is a path of index k and it passes the test; so all further bits
-- are 0
abbrev pub BitsTell : Type 0
BitsTell = (t : List ℕ → Bool) (ps : List (List ℕ)) (k : ℕ)
    → bit_at (word_at (words_of t ps) (k / 64)) (k % 64) ≡ one_if (nth t ps k)

-- after a begin row of the paths the words stand for the walk that is its block alone
abbrev pub WalkBegins : Type 0
WalkBegins = (s : ℕ) (old : List ℕ → Bool) (ps : List (List ℕ)) (ws : Words) → AreFit s ps → length ws.bits ≡ width ps
    → ws.seen ≡ words_of old ps → StandFor old ps (s ∷ []) (begin_by (row_of_start s ps) ws)

-- where words stand for a walk that has come through the first block, then after the row of a move they stand for the
-- walk with the move
abbrev pub WalkGoesOn : Type 0
WalkGoesOn = (s : ℕ) (old : List ℕ → Bool) (ps : List (List ℕ)) (walk : List ℕ) (v b : ℕ) (ws : Words) → AreFit s ps
    → Contains (walk ++ v ∷ []) (s ∷ []) → StandFor old ps (walk ++ v ∷ []) ws
    → StandFor old ps ((walk ++ v ∷ []) ++ b ∷ []) (pass_by (row_of_move v b ps) ws)

-- after some walks, from words without bits, those seen are the bits of the paths that some walk contains
abbrev pub WalksAreSeen : Type 0
WalksAreSeen = (s : ℕ) (ps walks : List (List ℕ)) (ws : Words) → AreFit s ps → length ws.bits ≡ width ps
    → ws.seen ≡ words_of (λ p. false) ps → (all_walks_by ps s walks ws).seen ≡ bits_of ps (map (λ walk. s ∷ walk) walks)

-- the prime paths of a net are fit for walks that begin at block 2
abbrev pub PrimesAreFit : Type 0
PrimesAreFit = (net : NetValue) (ps : List (List ℕ)) → IsNet net → ArePrimes net ps → AreFit 2 ps
