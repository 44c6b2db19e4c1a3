-- What the words after the program's name say.
use Rattle.std.specs.Prelude.{
  ◌≡◌,
  ℕ,
  Bool,
  true,
  false,
  ◌||◌,
  if◌then◌else◌,
  List,
  [],
  ◌∷◌,
  map,
  Option,
  Some,
  None,
  Result,
  Ok,
  Err,
  codes,
  String,
  string_bytes,
}
use Rattle.std.specs.List.{list_any}
use Rattle.std.specs.Str.{bytes_eq}
use Rattle.std.specs.declared.alloc.Global.{Global}
use Rattle.clap.specs.Words.{App, Row, Text, rows_of, found_of, matches_of, fault_of}
use Rattle.clap.specs.Kinds.{Kinds, IsAmong}
use Rattle.clap.specs.declared.error.kind.ErrorKind.{ErrorKind}
use Rattle.clap.specs.declared.error.kind.ErrorKind.TheVariants.{OutOfMemory}
use Rattle.clap.specs.declared.parser.matches.ArgMatches.{ArgMatches}
use Rattle.cov_base.specs.declared.refusal.Refusal.{Refusal}
use Rattle.cov_base.specs.declared.refusal.Refusal.TheVariants as refusal
use Rattle.cov_words.specs.declared.command.Command.{Command}
use Rattle.cov_words.specs.declared.command.Command.TheVariants as given
use Rattle.cov_words.specs.declared.command.UsageFault.TheVariants as usage
use Rattle.cov_words.specs.declared.command.WordsFault.{WordsFault}
use Rattle.cov_words.specs.declared.command.WordsFault.TheVariants as fault
use Rattle.cov_words.specs.declared.syntax.CommandName.{CommandName}
use Rattle.cov_words.specs.declared.syntax.CommandName.TheVariants as which
use Rattle.cov_words.specs.Syntax.{named, app_for}
use Rattle.cov_words.specs.Values.{text_in, texts_in, stands_in, turns_in, path_limit_in, made_in, is_source_name}

-- a command, its names as texts
pub data CommandValue : Type 0 where
  Cover : ℕ → ℕ → Text → List Text → CommandValue
  Build : Bool → ℕ → Text → CommandValue
  Run : ℕ → Text → CommandValue
  Report : Text → CommandValue
  Merge : Text → Text → Text → CommandValue
  Make : ℕ → CommandValue

-- the command that a value of the code is
abbrev pub value_of : Command → CommandValue
value_of (given.Cover turns limit source inputs) =
    Cover turns limit (string_bytes source) (map string_bytes inputs.items)
value_of (given.Build plain limit source) = Build plain limit (string_bytes source)
value_of (given.Run turns name) = Run turns (string_bytes name)
value_of (given.Report name) = Report (string_bytes name)
value_of (given.Merge a b out) = Merge (string_bytes a) (string_bytes b) (string_bytes out)
value_of (given.Make count) = Make count

-- the words are a command; or they have a fault; or `clap` refuses them, by one of these kinds
pub data Reading : Type 0 where
  Reads : CommandValue → Reading
  Faults : WordsFault → Reading
  Misfits : Kinds → Reading

-- a number, and what follows; without one the words have the fault that a number is bad
abbrev pub with_number : Option ℕ → (ℕ → Reading) → Reading
with_number None next = Faults (fault.Usage usage.BadNumber)
with_number (Some n) next = next n

-- a source's name, and what follows; where it is none the words have the fault that the name is bad
abbrev pub with_source : Text → (Text → Reading) → Reading
with_source source next = if is_source_name source then next source else Faults (fault.Usage usage.BadName)

-- `cover`, by its matches
abbrev pub cover_by : List Row → Reading
cover_by rows = with_number (turns_in rows) (λ turns. with_number (path_limit_in rows)
    (λ limit. with_source (text_in (codes "SRC") rows)
    (λ source. Reads (Cover turns limit source (texts_in (codes "IN") rows)))))

-- `build`, by its matches
abbrev pub build_by : List Row → Reading
build_by rows = with_number (path_limit_in rows) (λ limit. with_source (text_in (codes "SRC") rows)
    (λ source. Reads (Build (stands_in (codes "plain") rows) limit source)))

-- `run`, by its matches
abbrev pub run_by : List Row → Reading
run_by rows = with_number (turns_in rows) (λ turns. Reads (Run turns (text_in (codes "NAME") rows)))

-- `report`, by its matches
abbrev pub report_by : List Row → Reading
report_by rows = Reads (Report (text_in (codes "NAME") rows))

-- `merge`, by its matches
abbrev pub merge_by : List Row → Reading
merge_by rows = Reads (Merge (text_in (codes "A") rows) (text_in (codes "B") rows) (text_in (codes "OUT") rows))

-- `make`, by its matches
abbrev pub make_by : List Row → Reading
make_by rows = with_number (made_in rows) (λ count. Reads (Make count))

-- a command, by its matches: a bad number comes before a bad name
abbrev pub reading_by : CommandName → List Row → Reading
reading_by which.Cover rows = cover_by rows
reading_by which.Build rows = build_by rows
reading_by which.Run rows = run_by rows
reading_by which.Report rows = report_by rows
reading_by which.Merge rows = merge_by rows
reading_by which.Make rows = make_by rows

-- the matches are read where `clap` refuses nothing
abbrev pub unless_refused : Kinds → Reading → Reading
unless_refused [] reading = reading
unless_refused (k ∷ ks) reading = Misfits (k ∷ ks)

-- the words of a command, its name first, by what `clap` makes of those behind the name
abbrev pub reading_as : CommandName → List Text → Reading
reading_as name words =
    unless_refused (fault_of (app_for name) words) (reading_by name (matches_of (app_for name) words))

-- the words of the command of a name, if there is one
abbrev pub reading_of : Option CommandName → List Text → Reading
reading_of None words = Faults (fault.Usage usage.UnknownCommand)
reading_of (Some name) words = reading_as name words

-- a word asks for condition coverage
unfoldable pub is_conditions : Text → Bool
is_conditions word = bytes_eq word (codes "-fcondition-coverage") || bytes_eq word (codes "--conditions")

-- what the words say: the faults in their order, or the command
abbrev pub reading : List Text → Reading
reading [] = Faults (fault.Usage usage.NoCommand)
reading (first ∷ words) =
    if list_any is_conditions (first ∷ words) then Faults fault.ConditionCoverage
    else reading_of (named first) (first ∷ words)

-- the kind is one of those by which `clap` refuses the words
abbrev pub HasMisfit : ErrorKind → Reading → Type 0
HasMisfit kind reading = (kinds : Kinds) × (reading ≡ Misfits kinds) × IsAmong kind kinds

-- the answer is what the words say; want of memory says nothing
abbrev pub Answers : Reading → Result Command (Refusal WordsFault) → Type 0
Answers reading (Ok command) = reading ≡ Reads (value_of command)
Answers reading (Err refusal.NoMemory) = Unit {0}
Answers reading (Err (refusal.Refused fault.ConditionCoverage)) = reading ≡ Faults fault.ConditionCoverage
Answers reading (Err (refusal.Refused (fault.Usage usage.NoCommand))) = reading ≡ Faults (fault.Usage usage.NoCommand)
Answers reading (Err (refusal.Refused (fault.Usage usage.UnknownCommand))) =
    reading ≡ Faults (fault.Usage usage.UnknownCommand)
Answers reading (Err (refusal.Refused (fault.Usage (usage.Words kind)))) = HasMisfit kind reading
Answers reading (Err (refusal.Refused (fault.Usage usage.BadNumber))) = reading ≡ Faults (fault.Usage usage.BadNumber)
Answers reading (Err (refusal.Refused (fault.Usage usage.BadName))) = reading ≡ Faults (fault.Usage usage.BadName)

-- the refusal is that of `clap`, for an error of this kind
abbrev pub IsRefusalOf : ErrorKind → Refusal WordsFault → Type 0
IsRefusalOf kind refusal.NoMemory = kind ≡ OutOfMemory
IsRefusalOf kind (refusal.Refused found) = (found ≡ fault.Usage (usage.Words kind)) × (kind ≡ OutOfMemory → ⊥)

-- what `clap` matches of the words, or the kind by which it refuses them; want of memory says nothing
abbrev pub Matches : App → List Text → Result ArgMatches (Refusal WordsFault) → Type 0
Matches app words (Ok matches) = (fault_of app words ≡ []) × (rows_of (found_of matches) ≡ matches_of app words)
Matches app words (Err refusal.NoMemory) = Unit {0}
Matches app words (Err (refusal.Refused found)) =
    (kind : ErrorKind) × (found ≡ fault.Usage (usage.Words kind)) × IsAmong kind (fault_of app words)

-- the name of a source, or the fault that it is bad; want of memory says nothing
abbrev pub Names : Text → Result (String Global) (Refusal WordsFault) → Type 0
Names source (Ok name) = (string_bytes name ≡ source) × (is_source_name source ≡ true)
Names source (Err refusal.NoMemory) = Unit {0}
Names source (Err (refusal.Refused found)) =
    (found ≡ fault.Usage usage.BadName) × (is_source_name source ≡ false)

-- the words are a command
abbrev pub IsCommand : Reading → Type 0
IsCommand (Reads command) = Unit {0}
IsCommand (Faults found) = ⊥
IsCommand (Misfits kinds) = ⊥
