-- What a reader of a rule says of tokens.
use Rattle.std.specs.Prelude.{◌≡◌, ℕ, ◌<◌, ◌≤◌, List, length, Result, Ok, Err}
use Rattle.cov_base.specs.declared.refusal.Refusal.{Refusal}
use Rattle.cov_base.specs.declared.refusal.Refusal.TheVariants as refusal
use Rattle.c_tokens.specs.declared.token.Punct.{Punct}
use Rattle.c_tokens.specs.declared.token.Token.{Token}
use Rattle.c_tokens.specs.declared.token.TokenKind.TheVariants as kind
use Rattle.c_grammar.specs.declared.fault.ParseFault.{ParseFault}
use Rattle.c_grammar.specs.declared.fault.ParseFault.TheVariants as fault
use Rattle.c_grammar.specs.declared.found.Found.{Found}
use Rattle.c_grammar.specs.Rules.{Rule}
use Rattle.c_grammar.specs.Derivations.{Front}

-- The tokens are refused: they have no such front, all that they have has more levels than there is room for, or memory
-- ran out (own).
pub data Refuses {A : Type 0} (P : A → ℕ → List Token → Type 0) (room : ℕ) : Refusal ParseFault → Type 0 where
  no_tree : {place : ℕ} → ((x : A) (n : ℕ) (rest : List Token) → P x n rest → ⊥) → Refuses P room
      (refusal.Refused (fault.Syntax place))
  too_deep : {place : ℕ} → ((x : A) (n : ℕ) (rest : List Token) → P x n rest → room < n) → Refuses P room
      (refusal.Refused (fault.TooDeep place))
  no_memory : Refuses P room refusal.NoMemory

-- What was found is a front of the tokens, and it has at most so many levels (own).
pub record Fits {A : Type 0} (P : A → ℕ → List Token → Type 0) (room : ℕ) (x : A) (n : ℕ) (rest : List Token) : Type 0
  where
    pub front : P x n rest
    pub fits : n ≤ room

-- the reader found a front of the tokens, or refuses them (own)
abbrev pub Reads : {H A : Type 0} → (H → A) → (A → ℕ → List Token → Type 0) → ℕ → Result (Found H) (Refusal ParseFault)
    → Type 0
Reads view P room (Ok found) = Fits P room (view found.tree) found.levels found.rest.now
Reads view P room (Err e) = Refuses P room e

-- The tokens have no such front, or memory ran out (own).
pub data Lacks {A : Type 0} (P : A → ℕ → List Token → Type 0) : Refusal ParseFault → Type 0 where
  no_tree : {place : ℕ} → ((x : A) (n : ℕ) (rest : List Token) → P x n rest → ⊥) → Lacks P
      (refusal.Refused (fault.Syntax place))
  no_memory : Lacks P refusal.NoMemory

-- the reader found a front of the tokens that has no levels, or the tokens lack one (own)
abbrev pub Takes : {A : Type 0} → (A → ℕ → List Token → Type 0) → Result (Found A) (Refusal ParseFault) → Type 0
Takes P (Ok found) = (found.levels ≡ 0) × P found.tree 0 found.rest.now
Takes P (Err e) = Lacks P e

-- what was found stands before this mark, or the mark is lacking (own)
abbrev pub Closes : {H : Type 0} → List ℕ → Punct → Found H → Result (Found H) (Refusal ParseFault) → Type 0
Closes text m inner (Ok found) =
    (found.tree ≡ inner.tree) × (found.levels ≡ inner.levels) × (close : Token)
    × Front text (Rule.token (kind.Mark m)) inner.rest.now close 0 found.rest.now
Closes text m inner (Err e) = Lacks (Front text (Rule.token (kind.Mark m)) inner.rest.now) e

-- What is a front in the one way is one in the other (own).
pub record Leads {A : Type 0} (P Q : A → ℕ → List Token → Type 0) : Type 0 where
  pub forth : (x : A) (n : ℕ) (rest : List Token) → Q x n rest → P x n rest
  pub back : (x : A) (n : ℕ) (rest : List Token) → P x n rest → Q x n rest

-- A step joined more to an expression: what goes on with the old one goes on with the new one, of at most so many
-- levels and with fewer tokens left (own).
pub record Joined {A : Type 0} (P Q : A → ℕ → List Token → Type 0) (room n : ℕ) (before after : List Token) : Type 0
  where
    pub leads : Leads P Q
    pub fits : n ≤ room
    pub shorter : length after < length before

-- the reader joined more to what stands before the tokens, or what goes on with it is refused (own)
abbrev pub Joins : {H A : Type 0} → (H → A) → (A → ℕ → List Token → A → ℕ → List Token → Type 0) → ℕ → A → ℕ → List
    Token
    → Result (Found H) (Refusal ParseFault) → Type 0
Joins view P room x n ts (Ok found) =
    Joined (P x n ts) (P (view found.tree) found.levels found.rest.now) room found.levels ts found.rest.now
Joins view P room x n ts (Err e) = Refuses (P x n ts) room e
