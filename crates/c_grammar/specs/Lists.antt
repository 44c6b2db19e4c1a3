-- How the members of a list follow one another.
use Rattle.std.specs.Prelude.{Bool, not, List, Result, IfOk, ◌<◌, length, ℕ}
use Rattle.cov_base.specs.declared.refusal.Refusal.{Refusal}
use Rattle.c_tokens.specs.declared.token.Punct.TheVariants as mark
use Rattle.c_tokens.specs.declared.token.Token.{Token}
use denote.Ref.{Bor}
use Rattle.c_grammar.specs.declared.begins.Following.{Following}
use Rattle.c_grammar.specs.declared.begins.Following.TheVariants as following
use Rattle.c_grammar.specs.declared.fault.ParseFault.{ParseFault}
use Rattle.c_grammar.specs.declared.found.Found.{Found}
use Rattle.c_grammar.specs.Words.{next_is, behind}
use Rattle.c_grammar.specs.Forms.{further_at, none_at}
use Rattle.c_grammar.specs.Rules.{Listed, Result as Gives}
use Rattle.c_grammar.specs.Grammar.{member}
use Rattle.c_grammar.specs.Derivations.{Front}
use Rattle.c_grammar.specs.Reads.{Reads}

-- what tells that a further member follows (C17 6.5.2, 6.7, 6.7.9, 6.8.2, 6.9)
abbrev pub following_of : Listed → Following
following_of Listed.arguments = following.Comma
following_of Listed.values = following.CommaAndMore
following_of (Listed.variables base) = following.Comma
following_of Listed.parameters = following.Comma
following_of Listed.items = following.UpToBrace
following_of Listed.switch_items = following.UpToBrace
following_of Listed.outers = following.UpToEnd

-- a further member follows (own)
abbrev pub follows : Following → List Token → Bool
follows following.Comma ts = next_is mark.Comma ts
follows following.CommaAndMore ts = further_at ts
follows following.UpToBrace ts = not (next_is mark.CloseBrace ts)
follows following.UpToEnd ts = not (none_at ts)

-- where that member stands: behind the comma, where there is one (own)
abbrev pub member_at : Following → List Token → List Token
member_at following.Comma ts = behind ts
member_at following.CommaAndMore ts = behind ts
member_at following.UpToBrace ts = ts
member_at following.UpToEnd ts = ts

-- what a function value answers for a text and its tokens (own)
abbrev pub Answers : Type 0 → Type 1
Answers H = Bor (List ℕ) → Bor (List Token) → Result (Found H) (Refusal ParseFault) → Type 0

-- each answer is that of a reader of a list's members (own)
abbrev pub ReadsMembers : {H : Type 0} → (l : Listed) → (H → Gives (member l)) → ℕ → Answers H → Type 0
ReadsMembers {H = H} l view room answers =
    (text : Bor (List ℕ)) (tokens : Bor (List Token)) (result : Result (Found H) (Refusal ParseFault))
    → answers text tokens result → Reads view (Front text.now (member l) tokens.now) room result

-- each answer leaves fewer tokens than it was given (own)
abbrev pub Shortens : {H : Type 0} → Answers H → Type 0
Shortens {H = H} answers =
    (text : Bor (List ℕ)) (tokens : Bor (List Token)) (result : Result (Found H) (Refusal ParseFault))
    → answers text tokens result → IfOk result (λ found. length found.rest.now < length tokens.now)
