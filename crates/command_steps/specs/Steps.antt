-- Steps of a command. What steps may come to is a fact of their result: of what they make, or of the answer with which
-- the command ends at one of them.
use Rattle.std.specs.Prelude.{◌≡◌, ◌⊎◌, Result, Ok, Err}
use Rattle.cov_answers.specs.declared.answers.End.{End}
use Rattle.cov_answers.specs.declared.answers.End.TheVariants as answer

-- These steps and then others with what they made: the command ends at one of these, or at one of the others.
abbrev pub Then : {A B : Type 0} → (Result A End → Type 0) → (A → Result B End → Type 0) → Result B End → Type 0
Then {A} first next (Ok b) = (a : A) × first (Ok a) × next a (Ok b)
Then {A} first next (Err end) = first (Err end) ⊎ ((a : A) × first (Ok a) × next a (Err end))

-- this is made; memory may be wanting
abbrev pub Makes : {A : Type 0} → A → Result A End → Type 0
Makes a (Ok b) = b ≡ a
Makes a (Err end) = end ≡ answer.NoMemory

-- the result as it is seen is one that steps may come to
abbrev pub Comes : {X A : Type 0} → (X → A) → (Result A End → Type 0) → Result X End → Type 0
Comes view steps (Ok x) = steps (Ok (view x))
Comes view steps (Err end) = steps (Err end)
