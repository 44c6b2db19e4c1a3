-- What `clap` is told of each command. Its own definitions say what it matches of words by these, and which it refuses.
use Rattle.std.specs.Prelude.{true, List, [], ◌∷◌, Option, Some, None, if◌then◌else◌, codes}
use Rattle.std.specs.List.{fold}
use Rattle.std.specs.Str.{bytes_eq}
use Rattle.clap.specs.Lexer.{usize_max}
use Rattle.clap.specs.Words.{App, Rule, Text, new_app, new_rule, with_rule}
use Rattle.clap.specs.Simple.{on_top}
use Rattle.clap.specs.declared.builder.action.ArgAction.TheVariants.{Set, SetTrue, Append}
use Rattle.cov_words.specs.declared.syntax.CommandName.{CommandName}
use Rattle.cov_words.specs.declared.syntax.CommandName.TheVariants as which

-- the command of this name, if there is one
unfoldable pub named : Text → Option CommandName
named word = if bytes_eq word (codes "cover") then Some which.Cover
    else (if bytes_eq word (codes "build") then Some which.Build
    else (if bytes_eq word (codes "run") then Some which.Run
    else (if bytes_eq word (codes "report") then Some which.Report
    else (if bytes_eq word (codes "merge") then Some which.Merge
    else (if bytes_eq word (codes "make") then Some which.Make
    else None)))))

-- an option with a value, as `--turns N`
abbrev pub option_rule : Text → Rule
option_rule word = record (new_rule word) { long = Some word; action = Some Set }

-- an option without a value, as `--plain`
abbrev pub flag_rule : Text → Rule
flag_rule word = record (new_rule word) { long = Some word; action = Some SetTrue }

-- a word that must stand there
abbrev pub word_rule : Text → Rule
word_rule id = record (new_rule id) { required = true; action = Some Set }

-- one or more words, behind all others
abbrev pub words_rule : Text → Rule
words_rule id = record (new_rule id) {
  required = true;
  range = Some (record { start_inclusive = 1; end_inclusive = usize_max });
  action = Some Append;
}

-- a command of this name, without help and version
abbrev pub bare_app : Text → App
bare_app word = on_top (λ s. record s { disable_help_flag = true; disable_version_flag = true }) (new_app word)

-- a command of this name with these rules
abbrev pub app_with : Text → List Rule → App
app_with word rules = fold with_rule (bare_app word) rules

-- `cover [--turns N] [--path-limit N] SRC IN..`
unfoldable pub cover_app : App
cover_app = app_with (codes "cover")
    (option_rule (codes "turns") ∷ option_rule (codes "path-limit") ∷ word_rule (codes "SRC") ∷ words_rule (codes "IN") ∷ [])

-- `build [--plain] [--path-limit N] SRC`
unfoldable pub build_app : App
build_app = app_with (codes "build")
    (flag_rule (codes "plain") ∷ option_rule (codes "path-limit") ∷ word_rule (codes "SRC") ∷ [])

-- `run [--turns N] NAME`
unfoldable pub run_app : App
run_app = app_with (codes "run") (option_rule (codes "turns") ∷ word_rule (codes "NAME") ∷ [])

-- `report NAME`
unfoldable pub report_app : App
report_app = app_with (codes "report") (word_rule (codes "NAME") ∷ [])

-- `merge A B OUT`
unfoldable pub merge_app : App
merge_app = app_with (codes "merge")
    (word_rule (codes "A") ∷ word_rule (codes "B") ∷ word_rule (codes "OUT") ∷ [])

-- `make N`
unfoldable pub make_app : App
make_app = app_with (codes "make") (word_rule (codes "N") ∷ [])

-- what `clap` is told of the command
abbrev pub app_for : CommandName → App
app_for which.Cover = cover_app
app_for which.Build = build_app
app_for which.Run = run_app
app_for which.Report = report_app
app_for which.Merge = merge_app
app_for which.Make = make_app
