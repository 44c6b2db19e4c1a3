-- How loosely marks join what stands before them, and what the rules that look ahead see at them.
use Rattle.std.proofs.Common.{◌≡◌, refl, ℕ, ◌≤◌, ◌<◌, ◌==◌, Bool, true, false, cond, arith, eqb-true}
use Rattle.std.proofs.Common.{List, Option, Some, None}
use Rattle.int_ops.specs.declared.operators.BinOp.{BinOp}
use Rattle.c_tokens.specs.declared.token.Punct.{Punct}
use Rattle.c_tokens.specs.declared.token.Punct.TheVariants as mark
use Rattle.c_tokens.specs.declared.token.Token.{Token}
use Rattle.c_tokens.specs.declared.token.TokenKind.TheVariants as kind
use Rattle.c_grammar.specs.declared.begins.Operand.TheVariants as first
use Rattle.c_grammar.specs.declared.begins.BinaryOperator.{BinaryOperator}
use Rattle.c_grammar.specs.Words.{mark_at, is_mark}
use Rattle.c_grammar.specs.Operators.{operand_of, increment_of, operator_of, operator_if, operator_precedence, with_precedence, assignment_of}

-- marks that are no operator of two operands and no assignment
abbrev last : Punct → ℕ
last mark.OpenParen = 0
last mark.OpenBracket = 0
last mark.PlusPlus = 0
last mark.MinusMinus = 0
last mark.Question = 11
last mark.Comma = 13
last _ = 14

abbrev or_last : Punct → Option (Option BinOp) → ℕ
or_last m (Some o) = 12
or_last m None = last m

abbrev or_other : Punct → Option BinaryOperator → ℕ
or_other m (Some j) = operator_precedence j
or_other m None = or_last m (assignment_of (Some m))

-- how loosely a mark joins what stands before it: brackets and increments most tightly, then operators by precedence,
-- then `?`, assignments and commas; all else ends an expression
abbrev pub looseness : Option Punct → ℕ
looseness None = 14
looseness (Some m) = or_other m (operator_of m)

-- what comes next joins more loosely than this
abbrev pub Ends : ℕ → List Token → Type 0
Ends g ts = g < looseness (mark_at ts)

-- no bracket comes next, so that a name stands alone
abbrev pub Plain : List Token → Type 0
Plain ts = operand_of (Some kind.Name) (mark_at ts) ≡ first.Name

pub plain : (m : Option Punct) → 0 < looseness m → operand_of (Some kind.Name) m ≡ first.Name
plain (Some mark.OpenParen) l = absurd (omega (arith, l))
plain (Some mark.OpenBracket) l = absurd (omega (arith, l))
plain _ l = refl

pub no_increment : (m : Option Punct) → 0 < looseness m → increment_of m ≡ None
no_increment (Some mark.PlusPlus) l = absurd (omega (arith, l))
no_increment (Some mark.MinusMinus) l = absurd (omega (arith, l))
no_increment _ l = refl

pub no_operator : (g p : ℕ) (m : Option Punct) → p ≤ g → g < looseness m → with_precedence p (operator_if m) ≡ None
no_operator g p None le l = refl
no_operator g p (Some m) le l = go (operator_of m) l
  where
    go : (o : Option BinaryOperator) → g < or_other m o → with_precedence p o ≡ None
    go None l = refl
    go (Some j) l = at (operator_precedence j == p) refl
      where
        at : (b : Bool) → (operator_precedence j == p) ≡ b → cond b (Some j) None ≡ None
        at true e = let same = eqb-true (operator_precedence j) p e in absurd (omega (arith, same, le, l))
        at false e = refl

pub no_choice : (m : Option Punct) → 11 < looseness m → is_mark mark.Question m ≡ false
no_choice (Some mark.Question) l = absurd (omega (arith, l))
no_choice _ l = refl

pub no_assignment : (m : Option Punct) → 12 < looseness m → assignment_of m ≡ None
no_assignment (Some mark.Assign) l = absurd (omega (arith, l))
no_assignment (Some mark.StarAssign) l = absurd (omega (arith, l))
no_assignment (Some mark.SlashAssign) l = absurd (omega (arith, l))
no_assignment (Some mark.PercentAssign) l = absurd (omega (arith, l))
no_assignment (Some mark.PlusAssign) l = absurd (omega (arith, l))
no_assignment (Some mark.MinusAssign) l = absurd (omega (arith, l))
no_assignment (Some mark.ShiftLeftAssign) l = absurd (omega (arith, l))
no_assignment (Some mark.ShiftRightAssign) l = absurd (omega (arith, l))
no_assignment (Some mark.AndAssign) l = absurd (omega (arith, l))
no_assignment (Some mark.CaretAssign) l = absurd (omega (arith, l))
no_assignment (Some mark.OrAssign) l = absurd (omega (arith, l))
no_assignment _ l = refl

pub no_comma : (m : Option Punct) → 13 < looseness m → is_mark mark.Comma m ≡ false
no_comma (Some mark.Comma) l = absurd (omega (arith, l))
no_comma _ l = refl

pub no_bracket : (m : Option Punct) → 12 < looseness m → is_mark mark.OpenBracket m ≡ false
no_bracket (Some mark.OpenBracket) l = absurd (omega (arith, l))
no_bracket _ l = refl

pub no_initialiser : (m : Option Punct) → 12 < looseness m → is_mark mark.Assign m ≡ false
no_initialiser (Some mark.Assign) l = absurd (omega (arith, l))
no_initialiser _ l = refl
