-- The words of the language, and those that it lacks (C17 6.4.1).
use Rattle.std.specs.Prelude.{ℕ, Bool, true, false, cond, List, [], ◌∷◌, Option, Some, None, Result, Ok, Err, codes}
use Rattle.std.specs.Str.{bytes_eq}
use Rattle.c_tokens.specs.declared.token.Keyword.{Keyword}
use Rattle.c_tokens.specs.declared.token.Keyword.TheVariants as key
use Rattle.c_tokens.specs.declared.token.LeftWord.{LeftWord}
use Rattle.c_tokens.specs.declared.token.LeftWord.TheVariants as left
use Rattle.c_tokens.specs.declared.token.TokenKind.{TokenKind}
use Rattle.c_tokens.specs.declared.token.TokenKind.TheVariants as kind

-- the keywords (C17 6.4.1)
unfoldable pub keywords : List (List ℕ × Keyword)
keywords =
    (codes "_Bool", key.Bool) ∷
    (codes "break", key.Break) ∷
    (codes "case", key.Case) ∷
    (codes "char", key.Char) ∷
    (codes "continue", key.Continue) ∷
    (codes "default", key.Default) ∷
    (codes "do", key.Do) ∷
    (codes "else", key.Else) ∷
    (codes "for", key.For) ∷
    (codes "if", key.If) ∷
    (codes "int", key.Int) ∷
    (codes "long", key.Long) ∷
    (codes "return", key.Return) ∷
    (codes "short", key.Short) ∷
    (codes "signed", key.Signed) ∷
    (codes "switch", key.Switch) ∷
    (codes "unsigned", key.Unsigned) ∷
    (codes "void", key.Void) ∷
    (codes "while", key.While) ∷
    []

-- the keywords of C that this language lacks (C17 6.4.1)
unfoldable pub left_words : List (List ℕ × LeftWord)
left_words =
    (codes "auto", left.Auto) ∷
    (codes "const", left.Const) ∷
    (codes "double", left.Double) ∷
    (codes "enum", left.Enum) ∷
    (codes "extern", left.Extern) ∷
    (codes "float", left.Float) ∷
    (codes "goto", left.Goto) ∷
    (codes "inline", left.Inline) ∷
    (codes "register", left.Register) ∷
    (codes "restrict", left.Restrict) ∷
    (codes "sizeof", left.SizeOf) ∷
    (codes "static", left.Static) ∷
    (codes "struct", left.Struct) ∷
    (codes "typedef", left.TypeDef) ∷
    (codes "union", left.Union) ∷
    (codes "volatile", left.Volatile) ∷
    (codes "_Alignas", left.AlignAs) ∷
    (codes "_Alignof", left.AlignOf) ∷
    (codes "_Atomic", left.Atomic) ∷
    (codes "_Complex", left.Complex) ∷
    (codes "_Generic", left.Generic) ∷
    (codes "_Imaginary", left.Imaginary) ∷
    (codes "_Noreturn", left.NoReturn) ∷
    (codes "_Static_assert", left.StaticAssert) ∷
    (codes "_Thread_local", left.ThreadLocal) ∷
    []

-- what a table has for a word (own)
abbrev pub look_up : {A : Type 0} → List (List ℕ × A) → List ℕ → Option A
look_up [] word = None
look_up (e ∷ es) word = cond (bytes_eq word e.0) (Some e.1) (look_up es word)

-- the first that is there: a keyword, `EOF`, a keyword that the language lacks; every other word is a name (C17 6.4.2.1
-- paragraph 4)
abbrev pub first_of : Option Keyword → Bool → Option LeftWord → Result TokenKind LeftWord
first_of (Some k) is_eof left = Ok (kind.Key k)
first_of None true left = Ok kind.EofName
first_of None false (Some w) = Err w
first_of None false None = Ok kind.Name

-- what a word is: a token, or a word that the language lacks (C17 6.4.1, 6.4.2)
abbrev pub word_of : List ℕ → Result TokenKind LeftWord
word_of word = first_of (look_up keywords word) (bytes_eq word (codes "EOF")) (look_up left_words word)
