-- The report of a tally.
use Rattle.std.specs.Prelude.{ℕ, unsigned_abs, List, [], ◌∷◌, map}
use Rattle.gcno_format.specs.Notes.{NotesValue, FunctionNotesValue}
use Rattle.report_parts.specs.Shown.{ShownValue}
use Rattle.report_parts.specs.Report.{shown_text}
use Rattle.function_tallies.specs.Tally.{FunctionTallyValue}
use Rattle.path_report.specs.Tally.{TallyValue}

-- a function as the report shows it; the numbers of a tally aren't negative
abbrev pub shown : FunctionNotesValue → FunctionTallyValue → ShownValue
shown f t = record {
  name = f.name;
  net = f.net;
  counts = map unsigned_abs t.arcs;
  listing = t.listing;
  bits = t.bits;
}

-- the functions as the report shows them
abbrev pub all_shown : List FunctionNotesValue → List FunctionTallyValue → List ShownValue
all_shown [] ts = []
all_shown (f ∷ fs) [] = []
all_shown (f ∷ fs) (t ∷ ts) = shown f t ∷ all_shown fs ts

-- the report on the source NAME.c of this text, with these notes and this tally
abbrev pub report_text : List ℕ → List ℕ → NotesValue → TallyValue → List ℕ
report_text name source notes tally =
    shown_text name source tally.runs notes.limit (all_shown notes.functions tally.functions)
