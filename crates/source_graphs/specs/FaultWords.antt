-- The faults of a source in words, as messages have them, and their numbers.
use Rattle.std.specs.Prelude.{ℕ, List, codes}
use Rattle.c_tokens.specs.declared.token.LeftWord.{LeftWord}
use Rattle.c_tokens.specs.declared.token.LeftWord.TheVariants as left
use Rattle.c_tokens.specs.declared.token.LexFault.{LexFault}
use Rattle.c_tokens.specs.declared.token.LexFault.TheVariants as lex
use Rattle.c_grammar.specs.declared.fault.ParseFault.{ParseFault}
use Rattle.c_grammar.specs.declared.fault.ParseFault.TheVariants as parse
use Rattle.c_typing.specs.FaultWords as types
use Rattle.c_lower.specs.declared.lowering.LowerFault.{LowerFault}
use Rattle.c_lower.specs.declared.lowering.LowerFault.TheVariants as lower
use Rattle.fake_arcs.specs.declared.pruning.SizeFault.{SizeFault}
use Rattle.fake_arcs.specs.declared.pruning.SizeFault.TheVariants as size
use Rattle.source_graphs.specs.declared.graphs.SourceFault.{SourceFault}
use Rattle.source_graphs.specs.declared.graphs.SourceFault.TheVariants as fault

-- a word or a mark that the language lacks
abbrev pub left_words : LeftWord → List ℕ
left_words left.Auto = codes "left out auto"
left_words left.Const = codes "left out const"
left_words left.Double = codes "left out double"
left_words left.Enum = codes "left out enum"
left_words left.Extern = codes "left out extern"
left_words left.Float = codes "left out float"
left_words left.Goto = codes "left out goto"
left_words left.Inline = codes "left out inline"
left_words left.Register = codes "left out register"
left_words left.Restrict = codes "left out restrict"
left_words left.SizeOf = codes "left out sizeof"
left_words left.Static = codes "left out static"
left_words left.Struct = codes "left out struct"
left_words left.TypeDef = codes "left out typedef"
left_words left.Union = codes "left out union"
left_words left.Volatile = codes "left out volatile"
left_words left.AlignAs = codes "left out _Alignas"
left_words left.AlignOf = codes "left out _Alignof"
left_words left.Atomic = codes "left out _Atomic"
left_words left.Complex = codes "left out _Complex"
left_words left.Generic = codes "left out _Generic"
left_words left.Imaginary = codes "left out _Imaginary"
left_words left.NoReturn = codes "left out _Noreturn"
left_words left.StaticAssert = codes "left out _Static_assert"
left_words left.ThreadLocal = codes "left out _Thread_local"
left_words left.Hash = codes "left out #"
left_words left.Quote = codes "left out \""

-- a fault of a text
abbrev pub lex_words : LexFault → List ℕ
lex_words (lex.BadByte place) = codes "bad byte"
lex_words (lex.LeftOut word place) = left_words word
lex_words (lex.BadNumber place) = codes "bad number"
lex_words (lex.BigLiteral place) = codes "big literal"
lex_words (lex.OpenComment place) = codes "open comment"

-- its place
abbrev pub lex_place : LexFault → ℕ
lex_place (lex.BadByte place) = place
lex_place (lex.LeftOut word place) = place
lex_place (lex.BadNumber place) = place
lex_place (lex.BigLiteral place) = place
lex_place (lex.OpenComment place) = place

-- a fault of tokens
abbrev pub parse_words : ParseFault → List ℕ
parse_words (parse.Syntax place) = codes "syntax"
parse_words (parse.TooDeep place) = codes "too deep"

-- its place
abbrev pub parse_place : ParseFault → ℕ
parse_place (parse.Syntax place) = place
parse_place (parse.TooDeep place) = place

-- globals or a frame that are too large
abbrev pub lower_words : LowerFault → List ℕ
lower_words (lower.FrameTooLarge function count) = codes "frame too large"
lower_words (lower.GlobalsTooLarge count) = codes "globals too large"

-- how many cells they have
abbrev pub lower_count : LowerFault → ℕ
lower_count (lower.FrameTooLarge function count) = count
lower_count (lower.GlobalsTooLarge count) = count

-- graphs that are too large
abbrev pub size_words : SizeFault → List ℕ
size_words (size.TooManyBlocks function count) = codes "too many blocks"
size_words (size.TooManyArcs function count) = codes "too many arcs"
size_words (size.UnitTooLarge count) = codes "unit too large"

-- how many blocks or arcs they have, or their size
abbrev pub size_count : SizeFault → ℕ
size_count (size.TooManyBlocks function count) = count
size_count (size.TooManyArcs function count) = count
size_count (size.UnitTooLarge count) = count

-- the words of a fault, as messages have them
abbrev pub words : SourceFault → List ℕ
words (fault.Lex found) = lex_words found
words (fault.Parse found) = parse_words found
words (fault.Types found) = types.words found
words (fault.Lower found) = lower_words found
words (fault.Size found) = size_words found

-- the words between those and its number: a place or a size
abbrev pub link : SourceFault → List ℕ
link (fault.Lex found) = codes " at byte "
link (fault.Parse found) = codes " at byte "
link (fault.Types found) = codes " at byte "
link (fault.Lower found) = codes " "
link (fault.Size found) = codes " "

-- its place in the text, or how large what is too large is
abbrev pub number : SourceFault → ℕ
number (fault.Lex found) = lex_place found
number (fault.Parse found) = parse_place found
number (fault.Types found) = types.place found
number (fault.Lower found) = lower_count found
number (fault.Size found) = size_count found
