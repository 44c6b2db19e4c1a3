-- What the counts of lines are where the counts of arcs are those of walks.
use Rattle.std.specs.Prelude.{◌≡◌, ℕ, if◌then◌else◌, List, map, Some, None, slice_get}
use Rattle.std.specs.List.{All}
use Rattle.cov_base.specs.Walks.{Walk, GoesAlong, passages, line_passages}
use Rattle.report_parts.specs.Shown.{ShownValue, IsShown}
use Rattle.report_parts.specs.Lines.{is_code_line, line_count}

-- the walk goes along the arcs of its function
abbrev pub GoesWithin : List ShownValue → Walk → Type 0
GoesWithin functions walk = (f : ShownValue) × (slice_get functions walk.function ≡ Some f)
    × GoesAlong f.net.arcs walk.blocks

-- the walks go along the arcs of their functions, and each arc's count is the number of its passages
pub record CountPassages (functions : List ShownValue) (walks : List Walk) : Type 0 where
  pub along : All (GoesWithin functions) walks
  pub counts : (k : ℕ) (f : ShownValue) → slice_get functions k ≡ Some f
      → f.counts ≡ map (passages walks k) f.net.arcs

-- Then each line's count is the number of its passages, where it is in a block.
abbrev pub LinesArePassages : Type 0
LinesArePassages = (functions : List ShownValue) → All IsShown functions → (walks : List Walk)
    → CountPassages functions walks → (line : ℕ) → line_count functions line
    ≡ (if is_code_line functions line then Some (line_passages (map (λ f. f.net) functions) walks line) else None)
