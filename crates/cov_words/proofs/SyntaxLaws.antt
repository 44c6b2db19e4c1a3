-- What `clap` is told of each command is simple, so that its definition gives all matches and all refusals.
use Rattle.std.proofs.Common.{◌≡◌, refl, sym, ap, ap₂, ◌∙◌, Bool, true, false, cond, Option, Some, None, codes}
use Rattle.std.specs.Str.{bytes_eq}
use Rattle.clap.specs.Words.{App, Rule, Text, AddsArg, app_of, rule_of, with_rule, is_simple_and_free}
use Rattle.clap.specs.declared.builder.arg.Arg.{Arg}
use Rattle.clap.specs.declared.builder.command.Command.{Command}
use Rattle.cov_words.specs.declared.syntax.CommandName.{CommandName}
use Rattle.cov_words.specs.declared.syntax.CommandName.TheVariants as which
use Rattle.cov_words.specs.Syntax.{app_for, cover_app, build_app, run_app, report_app, merge_app, make_app}

pub all_simple : (command : CommandName) → is_simple_and_free (app_for command) ≡ true
unfolding cover_app build_app run_app report_app merge_app make_app
all_simple which.Cover = refl
all_simple which.Build = refl
all_simple which.Run = refl
all_simple which.Report = refl
all_simple which.Merge = refl
all_simple which.Make = refl

-- a command with one argument more
pub one_more : (old new : Command) (arg : Arg) (app : App) (rule : Rule) → AddsArg old arg new → arg.global ≡ false
    → app_of old ≡ app → rule_of arg ≡ rule → app_of new ≡ with_rule app rule
one_more old new arg app rule h local same one = h.shape local ∙ ap₂ (λ (a : App) (r : Rule). with_rule a r) same one

-- ---- the command of a name, test by test

abbrev pub from_make : Text → Option CommandName
from_make word = cond (bytes_eq word (codes "make")) (Some which.Make) None

abbrev pub from_merge : Text → Option CommandName
from_merge word = cond (bytes_eq word (codes "merge")) (Some which.Merge) (from_make word)

abbrev pub from_report : Text → Option CommandName
from_report word = cond (bytes_eq word (codes "report")) (Some which.Report) (from_merge word)

abbrev pub from_run : Text → Option CommandName
from_run word = cond (bytes_eq word (codes "run")) (Some which.Run) (from_report word)

abbrev pub from_build : Text → Option CommandName
from_build word = cond (bytes_eq word (codes "build")) (Some which.Build) (from_run word)

-- the test holds, or it doesn't
pub takes : (x y : Option CommandName) (test r : Bool) → r ≡ test → r ≡ true → x ≡ cond test x y
takes x y test r h e = ap (λ b. cond b x y) (sym e ∙ h)

pub skips : (x y : Option CommandName) (test r : Bool) → r ≡ test → r ≡ false → y ≡ cond test x y
skips x y test r h e = ap (λ b. cond b x y) (sym e ∙ h)
