-- What the scanner says of a text, and how far it has come (own).
use Rattle.std.specs.Prelude.{◌≡◌, ℕ, List, ◌++◌, length, take, drop}
use Rattle.cov_base.specs.declared.refusal.Refusal.{Refusal}
use Rattle.cov_base.specs.declared.refusal.Refusal.TheVariants.{Refused, NoMemory}
use Rattle.c_tokens.specs.declared.token.LexFault.{LexFault}
use Rattle.c_tokens.specs.declared.token.Token.{Token}
use Rattle.c_tokens.specs.Spans.{StandInOrder}
use Rattle.c_tokens.specs.Tokens.{Fills, Fails, IsFault, Splits, LexFaultAt}

-- This list, and no other, splits the text, and no fault stands in it. Its tokens stand in order in the text.
pub record HasTokens (text : List ℕ) (list : List Token) : Type 0 where
  pub splits : Splits text list
  pub only : (other : List Token) → Splits text other → other ≡ list
  pub no_fault : (fault : LexFault) → LexFaultAt text fault → ⊥
  pub in_order : StandInOrder 0 (length text) list

-- this fault, and no other, stands in the text, and no list splits it
pub record HasFault (text : List ℕ) (fault : LexFault) : Type 0 where
  pub stands : LexFaultAt text fault
  pub only : (other : LexFault) → LexFaultAt text other → other ≡ fault
  pub no_list : (list : List Token) → Splits text list → ⊥

-- what is refused has the fault that is named
abbrev pub ScanRefuses : List ℕ → Refusal LexFault → Type 0
ScanRefuses text (Refused fault) = HasFault text fault
ScanRefuses text NoMemory = Unit {0}

-- Up to a place items fill the text, and these are their tokens: what splits the rest of the text behind it, or fails
-- there, does so in
-- the whole text.
pub record Reaches (text : List ℕ) (at : ℕ) (tokens : List Token) : Type 0 where
  pub fills : (rest : List Token) → Fills (take at text) (drop at text) rest → Splits text (tokens ++ rest)
  pub fails : (fault : LexFault) → Fails (take at text) (drop at text) fault → LexFaultAt text fault

-- the same where the refusal is that of one item at a place
abbrev pub RefusesAt : List ℕ → ℕ → Refusal LexFault → Type 0
RefusesAt text at (Refused fault) = IsFault (take at text) (drop at text) fault
RefusesAt text at NoMemory = Unit {0}
