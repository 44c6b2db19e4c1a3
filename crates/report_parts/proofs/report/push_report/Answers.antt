use Rattle.std.proofs.Common.{◌≡◌, ℕ, ◌+◌, ◌<◌, length, ap, ◌∙◌, arith}
use Rattle.report_parts.specs.CountSteps.{count_at}
use Rattle.report_parts.specs.Lines.{line_count, lines_in, report_lines}
use Rattle.report_parts.specs.Report.{shown_text}
use Rattle.report_parts.specs.Summary.{summary_by}
use Rattle.report_parts.proofs.LinesLaws.{report_lines-same, summary-same}
use Rattle.report_parts.proofs.ReportLaws.{four_texts}
use Rattle.report_parts.proofs.report.push_report.Goals as goal

pub returns : goal.returns
unfolding shown_text
returns c =
    let fs = c.args.functions.now in
    let counts = c.in_ok-counts.counts.items in
    let lines = lines_in c.args.source.now in
    let many = c.count_lines-lines.result in
    let same : (k : ℕ) → k < 1 + length lines → count_at counts k ≡ line_count fs k =
    λ k low. c.in_ok-counts.ensures k (omega (arith, low, c.in-Some.ensures, c.count_lines-lines.ensures.lines)) in
    let texts : report_lines (count_at c.deref.result.now) 1 lines ≡ report_lines (line_count fs) 1 lines =
    ap (λ cs. report_lines (count_at cs) 1 lines) c.deref.ensures.value
    ∙ report_lines-same (count_at counts) (line_count fs) 1 lines (λ k low high. same k high) in
    let sums : summary_by (count_at c.deref-2.result.now) many fs ≡ summary_by (line_count fs) (length lines) fs =
    ap (λ cs. summary_by (count_at cs) many fs) c.deref-2.ensures.value
    ∙ (ap (λ n. summary_by (count_at counts) n fs) c.count_lines-lines.ensures.lines
    ∙ summary-same (count_at counts) (line_count fs) (length lines) fs same) in
    four_texts _ _ _ _ _ _ _ _ _ _ _ c.in_ok-push_head.ensures c.in_ok-push_lines.ensures
    c.in_ok-push_functions.ensures c.in_ok-push_sums.ensures texts sums
