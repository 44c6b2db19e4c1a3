-- What an answer of the top call says by itself: its exit status and its line.
use Rattle.std.specs.Prelude.{◌≡◌, ℕ, ◌≤◌, Bool, true, false, cond, List, [], ◌∷◌, ◌++◌, length, take}
use Rattle.std.specs.Prelude.{codes, decimal, Option, Some, None, string_bytes}
use Rattle.stack_ops.specs.declared.endings.Trap.{Trap}
use Rattle.stack_ops.specs.declared.endings.Trap.TheVariants as trap
use Rattle.code_file.specs.FaultWords as code_words
use Rattle.source_graphs.specs.FaultWords as graph_words
use Rattle.cov_answers.specs.declared.answers.End.{End}
use Rattle.cov_answers.specs.declared.answers.End.TheVariants as answer
use Rattle.cov_answers.specs.declared.answers.SourceFault.{SourceFault}
use Rattle.cov_answers.specs.declared.answers.SourceFault.TheVariants as source_fault
use Rattle.cov_answers.specs.FileFaults as file_words

-- The first bytes of the text, so many, were written behind what stood there.
pub record IsFront (text before : List ℕ) (after : Option (List ℕ)) : Type 0 where
  pub count : ℕ
  pub within : count ≤ length text
  pub written : after ≡ Some (before ++ take count text)

-- The first bytes of the text were written behind what stood there: all of them but for a fault or a want of memory.
pub record IsTold (text before : List ℕ) (after : Option (List ℕ)) (fault want : Type 0) : Type 0 where
  pub front : IsFront text before after
  pub whole : (fault → ⊥) → (want → ⊥) → after ≡ Some (before ++ text)

-- the exit status of an answer
abbrev pub status_of : End → ℕ
status_of answer.Done = 0
status_of (answer.Ran status) = status
status_of (answer.Trapped t line) = 121
status_of (answer.OutOfTurns turns) = 122
status_of answer.NoMemory = 123
status_of _ = 120

-- a trap in words
abbrev pub trap_words : Trap → List ℕ
trap_words trap.Overflow = codes "overflow"
trap_words trap.DivideByZero = codes "divide by zero"
trap_words trap.ShiftRange = codes "shift range"
trap_words trap.BadIndex = codes "bad index"
trap_words trap.CallDepth = codes "call depth"
trap_words trap.OutputLimit = codes "output limit"

-- the fault of a source in words
abbrev pub source_words : SourceFault → List ℕ
source_words (source_fault.NotAccepted fault) = graph_words.words fault
source_words (source_fault.TablesTooLarge n) = codes "tables too large"

-- the words between those and its number
abbrev pub source_link : SourceFault → List ℕ
source_link (source_fault.NotAccepted fault) = graph_words.link fault
source_link (source_fault.TablesTooLarge n) = codes " "

-- its place in the source, or how large what is too large is
abbrev pub source_number : SourceFault → ℕ
source_number (source_fault.NotAccepted fault) = graph_words.number fault
source_number (source_fault.TablesTooLarge n) = n

-- the first words of the line of an answer on the error output
abbrev pub words_of : End → List ℕ
words_of answer.Done = []
words_of (answer.Ran status) = []
words_of (answer.Trapped t line) = codes "cov: trapped "
words_of (answer.OutOfTurns turns) = codes "cov: out of turns after "
words_of (answer.Usage fault) =
    codes "cov: usage: cover SRC IN.. | build SRC | run NAME | report NAME | merge A B OUT | make N"
words_of answer.ConditionCoverage = codes "cov: condition coverage is left out"
words_of (answer.SourceRefused fault) = codes "cov: source: "
words_of (answer.Missing name) = codes "cov: missing "
words_of (answer.TooLong name) = codes "cov: too long "
words_of (answer.BadCode fault) = codes "cov: bad code "
words_of (answer.BadNotes fault) = codes "cov: bad notes "
words_of (answer.BadData fault) = codes "cov: bad data "
words_of (answer.OtherBuild a b) = codes "cov: other build "
words_of (answer.SourceChanged a b) = codes "cov: source changed "
words_of (answer.OtherShape function) = codes "cov: other shape of function "
words_of (answer.NotAFlow function arc) = codes "cov: no flow in function "
words_of answer.RunsPassed = codes "cov: runs passed"
words_of (answer.CountPassed function counter) = codes "cov: count passed in function "
words_of answer.ReadFault = codes "cov: read fault"
words_of answer.WriteFault = codes "cov: write fault"
words_of answer.FolderFault = codes "cov: folder fault"
words_of answer.NoMemory = codes "cov: no memory"

-- what an answer names: a file, a trap or a fault
abbrev pub name_of : End → List ℕ
name_of (answer.Trapped t line) = trap_words t
name_of (answer.SourceRefused fault) = source_words fault
name_of (answer.BadCode fault) = code_words.words fault
name_of (answer.BadNotes fault) = file_words.words fault
name_of (answer.BadData fault) = file_words.words fault
name_of (answer.Missing name) = string_bytes name
name_of (answer.TooLong name) = string_bytes name
name_of _ = []

-- the words between that and its number
abbrev pub link_of : End → List ℕ
link_of (answer.Trapped t line) = codes " at line "
link_of (answer.SourceRefused fault) = source_link fault
link_of (answer.BadCode fault) = codes " at byte "
link_of (answer.BadNotes fault) = codes " at byte "
link_of (answer.BadData fault) = codes " at byte "
link_of _ = []

-- the number that an answer tells, if it tells one: a line, a place in a file, how many there were, a stamp or a function
abbrev pub number_of : End → Option ℕ
number_of (answer.Trapped t line) = Some line
number_of (answer.OutOfTurns turns) = Some turns
number_of (answer.SourceRefused fault) = Some (source_number fault)
number_of (answer.BadCode fault) = Some (code_words.place fault)
number_of (answer.BadNotes fault) = Some (file_words.place fault)
number_of (answer.BadData fault) = Some (file_words.place fault)
number_of (answer.OtherBuild a b) = Some a
number_of (answer.SourceChanged a b) = Some a
number_of (answer.OtherShape function) = Some function
number_of (answer.NotAFlow function arc) = Some function
number_of (answer.CountPassed function counter) = Some function
number_of _ = None

-- the words before the second number
abbrev pub second_link_of : End → List ℕ
second_link_of (answer.OtherBuild a b) = codes " "
second_link_of (answer.SourceChanged a b) = codes " "
second_link_of (answer.NotAFlow function arc) = codes " at arc "
second_link_of (answer.CountPassed function counter) = codes " at counter "
second_link_of _ = []

-- the second number that an answer tells, if it tells one: a stamp, an arc or a counter
abbrev pub second_number_of : End → Option ℕ
second_number_of (answer.OtherBuild a b) = Some b
second_number_of (answer.SourceChanged a b) = Some b
second_number_of (answer.NotAFlow function arc) = Some arc
second_number_of (answer.CountPassed function counter) = Some counter
second_number_of _ = None

-- a number in digits, or nothing
abbrev pub digits_of : Option ℕ → List ℕ
digits_of None = []
digits_of (Some n) = decimal n

-- the line of an answer: its words, what it names, its number and its second one behind the words before them, and a
-- newline
abbrev pub whole_line : End → List ℕ
whole_line end = words_of end ++ (name_of end ++ ((link_of end ++ digits_of (number_of end))
    ++ ((second_link_of end ++ digits_of (second_number_of end)) ++ 10 ∷ [])))

-- whether an answer has no line: the command did all that it does, or the program ran and ended by itself
abbrev pub is_silent : End → Bool
is_silent answer.Done = true
is_silent (answer.Ran status) = true
is_silent _ = false

-- the line of an answer on the error output, if it has one
unfoldable pub line_of : End → List ℕ
line_of end = cond (is_silent end) [] (whole_line end)
