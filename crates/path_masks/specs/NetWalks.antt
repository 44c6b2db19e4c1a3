-- What the rows of a net make of words along walks of the net, and that these then tell of its prime paths.
use Rattle.std.specs.Prelude.{
  ◌≡◌,
  ◌≤◌,
  ℕ,
  Bool,
  true,
  false,
  ◌||◌,
  ◌⊎◌,
  ◌==◌,
  ◌<◌,
  if◌then◌else◌,
  List,
  [],
  ◌∷◌,
  length,
  replicate,
  Option,
  Some,
  None,
  Ok,
}
use Rattle.std.specs.List.{All, fold}
use Rattle.cov_base.specs.Net.{NetValue, IsNet, joins}
use Rattle.cov_base.specs.Walks.{moves, GoesAlong}
use Rattle.cov_base.specs.declared.net.FlowArc.{FlowArc}
use Rattle.word_rules.specs.WordRules.{Words, begin_row, pass_row, begin_by, pass_by}
use Rattle.prime_paths.specs.Paths.{among, Among, is_simple_path, ArePrimes}
use Rattle.prime_paths.specs.Listings.{Lists}
use Rattle.prime_paths.specs.declared.listing.Listing.TheVariants as listing
use Rattle.path_masks.specs.Masks.{contains, is_under_way, words_of, bits_of}
use Rattle.path_masks.specs.Tables.{RowsValue, AreRows}

-- the row of the arc that leads from the one block to the other, if there is such an arc and it has a row
abbrev pub row_along : List FlowArc → List (Option (List ℕ)) → ℕ → ℕ → Option (List ℕ)
row_along [] rows a b = None
row_along (arc ∷ arcs) [] a b = None
row_along (arc ∷ arcs) (row ∷ rows) a b = if joins a b arc then row else row_along arcs rows a b

-- what the row of an arc makes of the words; without one they stay
abbrev pub passed_by : Option (List ℕ) → Words → Words
passed_by None ws = ws
passed_by (Some row) ws = pass_by (pass_row row) ws

-- what the rows make of the words as a walk moves from a block to the next: it begins as it leaves the entry, and then
-- it goes on by the row of the arc
abbrev pub moved_by : List FlowArc → RowsValue → Words → ℕ × ℕ → Words
moved_by arcs rows ws move = if move.0 == 0 then begin_by (begin_row rows.begin) ws
    else passed_by (row_along arcs rows.passes move.0 move.1) ws

-- what they make of the words along a walk
abbrev pub walked_by : List FlowArc → RowsValue → Words → List ℕ → Words
walked_by arcs rows ws walk = fold (moved_by arcs rows) ws (moves walk)

-- a walk of a net goes from the entry to block 2, and on along arcs of the net, maybe to the exit
pub record IsWalk (net : NetValue) (walk : List ℕ) : Type 0 where
  pub rest : List ℕ
  pub first : walk ≡ 0 ∷ (2 ∷ rest)
  pub along : GoesAlong net.arcs walk

-- Each entry of the rows names one of the words.
abbrev pub RowsNameWords : Type 0
RowsNameWords = (arcs : List FlowArc) (paths : List (List ℕ)) (rows : RowsValue) → AreRows arcs paths rows
    → All (λ e. e.word < rows.width) (begin_row rows.begin)
    × ((row : List ℕ) → Among (Some row) rows.passes → All (λ e. e.word < rows.width) (pass_row row))

-- simple paths of a net, prime or not, each of two or more blocks or block 2 alone
pub record AreFollowable (net : NetValue) (paths : List (List ℕ)) : Type 0 where
  pub simple : (p : List ℕ) → Among p paths → is_simple_path net p ≡ true
  pub size : (p : List ℕ) → Among p paths → (2 ≤ length p) ⊎ (p ≡ 2 ∷ [])

-- The prime paths of a net are such paths.
abbrev pub PrimesAreFollowable : Type 0
PrimesAreFollowable = (net : NetValue) (paths : List (List ℕ)) → IsNet net → ArePrimes net paths
    → AreFollowable net paths

-- Where the rows of such paths are made: along any walk that hasn't come to the exit the bits are exactly those of the
-- paths under way, and along any walk the words seen gain exactly the bits of the paths that it contains.
abbrev pub PathsAreFollowed : Type 0
PathsAreFollowed = (net : NetValue) (paths : List (List ℕ)) (rows : RowsValue) → IsNet net
    → AreFollowable net paths → AreRows net.arcs paths rows
    → (walk : List ℕ) (old : List ℕ → Bool) (ws : Words) → IsWalk net walk
    → length ws.bits ≡ rows.width → ws.seen ≡ words_of old paths
    → (among 1 walk ≡ false → (walked_by net.arcs rows ws walk).bits ≡ words_of (λ p. is_under_way walk p) paths)
    × ((walked_by net.arcs rows ws walk).seen ≡ words_of (λ p. old p || contains walk p) paths)

-- Where the rows of such paths are made: after any walks, one behind another, the words seen are exactly the bits of
-- the paths that some walk contains, if none was seen before.
abbrev pub PathsAreSeen : Type 0
PathsAreSeen = (net : NetValue) (paths : List (List ℕ)) (rows : RowsValue) → IsNet net
    → AreFollowable net paths → AreRows net.arcs paths rows
    → (walks : List (List ℕ)) (ws : Words) → All (IsWalk net) walks
    → length ws.bits ≡ rows.width → ws.seen ≡ replicate rows.width 0
    → (fold (walked_by net.arcs rows) ws walks).seen ≡ bits_of paths walks

-- Where all prime paths of a net are listed and their rows are made: along any walk that hasn't come to the exit the
-- bits are exactly those of the prime paths under way, and along any walk the words seen gain exactly the bits of the
-- prime paths that it contains.
abbrev pub PrimesAreFollowed : Type 0
PrimesAreFollowed = (net : NetValue) (limit : ℕ) (paths : List (List ℕ)) (rows : RowsValue) → IsNet net
    → Lists net limit (Ok (listing.All paths)) → AreRows net.arcs paths rows
    → (walk : List ℕ) (old : List ℕ → Bool) (ws : Words) → IsWalk net walk
    → length ws.bits ≡ rows.width → ws.seen ≡ words_of old paths
    → (among 1 walk ≡ false → (walked_by net.arcs rows ws walk).bits ≡ words_of (λ p. is_under_way walk p) paths)
    × ((walked_by net.arcs rows ws walk).seen ≡ words_of (λ p. old p || contains walk p) paths)

-- Where all prime paths of a net are listed and their rows are made: after any walks, one behind another, the words
-- seen are exactly the bits of the prime paths that some walk contains, if none was seen before.
abbrev pub PrimesAreSeen : Type 0
PrimesAreSeen = (net : NetValue) (limit : ℕ) (paths : List (List ℕ)) (rows : RowsValue) → IsNet net
    → Lists net limit (Ok (listing.All paths)) → AreRows net.arcs paths rows
    → (walks : List (List ℕ)) (ws : Words) → All (IsWalk net) walks
    → length ws.bits ≡ rows.width → ws.seen ≡ replicate rows.width 0
    → (fold (walked_by net.arcs rows) ws walks).seen ≡ bits_of paths walks
