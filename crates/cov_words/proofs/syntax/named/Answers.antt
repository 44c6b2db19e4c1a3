use Rattle.std.proofs.Common.{◌∙◌, Some, None, codes}
use Rattle.std.specs.Str.{bytes_eq}
use Rattle.cov_words.specs.declared.syntax.CommandName.TheVariants as which
use Rattle.cov_words.specs.Syntax.{named}
use Rattle.cov_words.proofs.SyntaxLaws.{from_build, from_run, from_report, from_merge, from_make, takes, skips}
use Rattle.cov_words.proofs.syntax.named.Goals as goal

pub returns-then-eq : goal.returns-then-eq
unfolding named
returns-then-eq c =
    takes (Some which.Cover) (from_build c.args.name.now) (bytes_eq c.args.name.now (codes "cover")) c.eq.result c.eq.ensures c.if-eq.true

pub returns-then-eq-2 : goal.returns-then-eq-2
unfolding named
returns-then-eq-2 c =
    takes (Some which.Build) (from_run c.args.name.now) (bytes_eq c.args.name.now (codes "build")) c.eq-else-eq.result c.eq-else-eq.ensures c.if-eq-2.true
    ∙ skips (Some which.Cover) (from_build c.args.name.now) (bytes_eq c.args.name.now (codes "cover")) c.eq.result c.eq.ensures c.if-eq.false

pub returns-then-eq-3 : goal.returns-then-eq-3
unfolding named
returns-then-eq-3 c =
    takes (Some which.Run) (from_report c.args.name.now) (bytes_eq c.args.name.now (codes "run")) c.eq-else-eq-2.result c.eq-else-eq-2.ensures c.if-eq-3.true
    ∙ skips (Some which.Build) (from_run c.args.name.now) (bytes_eq c.args.name.now (codes "build")) c.eq-else-eq.result c.eq-else-eq.ensures c.if-eq-2.false
    ∙ skips (Some which.Cover) (from_build c.args.name.now) (bytes_eq c.args.name.now (codes "cover")) c.eq.result c.eq.ensures c.if-eq.false

pub returns-then-eq-4 : goal.returns-then-eq-4
unfolding named
returns-then-eq-4 c =
    takes (Some which.Report) (from_merge c.args.name.now) (bytes_eq c.args.name.now (codes "report")) c.eq-else-eq-3.result c.eq-else-eq-3.ensures c.if-eq-4.true
    ∙ skips (Some which.Run) (from_report c.args.name.now) (bytes_eq c.args.name.now (codes "run")) c.eq-else-eq-2.result c.eq-else-eq-2.ensures c.if-eq-3.false
    ∙ skips (Some which.Build) (from_run c.args.name.now) (bytes_eq c.args.name.now (codes "build")) c.eq-else-eq.result c.eq-else-eq.ensures c.if-eq-2.false
    ∙ skips (Some which.Cover) (from_build c.args.name.now) (bytes_eq c.args.name.now (codes "cover")) c.eq.result c.eq.ensures c.if-eq.false

pub returns-then-eq-5 : goal.returns-then-eq-5
unfolding named
returns-then-eq-5 c =
    takes (Some which.Merge) (from_make c.args.name.now) (bytes_eq c.args.name.now (codes "merge")) c.eq-else-eq-4.result c.eq-else-eq-4.ensures c.if-eq-5.true
    ∙ skips (Some which.Report) (from_merge c.args.name.now) (bytes_eq c.args.name.now (codes "report")) c.eq-else-eq-3.result c.eq-else-eq-3.ensures c.if-eq-4.false
    ∙ skips (Some which.Run) (from_report c.args.name.now) (bytes_eq c.args.name.now (codes "run")) c.eq-else-eq-2.result c.eq-else-eq-2.ensures c.if-eq-3.false
    ∙ skips (Some which.Build) (from_run c.args.name.now) (bytes_eq c.args.name.now (codes "build")) c.eq-else-eq.result c.eq-else-eq.ensures c.if-eq-2.false
    ∙ skips (Some which.Cover) (from_build c.args.name.now) (bytes_eq c.args.name.now (codes "cover")) c.eq.result c.eq.ensures c.if-eq.false

pub returns-then-eq-6 : goal.returns-then-eq-6
unfolding named
returns-then-eq-6 c =
    takes (Some which.Make) None (bytes_eq c.args.name.now (codes "make")) c.eq-else-eq-5.result c.eq-else-eq-5.ensures c.if-eq-6.true
    ∙ skips (Some which.Merge) (from_make c.args.name.now) (bytes_eq c.args.name.now (codes "merge")) c.eq-else-eq-4.result c.eq-else-eq-4.ensures c.if-eq-5.false
    ∙ skips (Some which.Report) (from_merge c.args.name.now) (bytes_eq c.args.name.now (codes "report")) c.eq-else-eq-3.result c.eq-else-eq-3.ensures c.if-eq-4.false
    ∙ skips (Some which.Run) (from_report c.args.name.now) (bytes_eq c.args.name.now (codes "run")) c.eq-else-eq-2.result c.eq-else-eq-2.ensures c.if-eq-3.false
    ∙ skips (Some which.Build) (from_run c.args.name.now) (bytes_eq c.args.name.now (codes "build")) c.eq-else-eq.result c.eq-else-eq.ensures c.if-eq-2.false
    ∙ skips (Some which.Cover) (from_build c.args.name.now) (bytes_eq c.args.name.now (codes "cover")) c.eq.result c.eq.ensures c.if-eq.false

pub returns-else-eq-6 : goal.returns-else-eq-6
unfolding named
returns-else-eq-6 c =
    skips (Some which.Make) None (bytes_eq c.args.name.now (codes "make")) c.eq-else-eq-5.result c.eq-else-eq-5.ensures c.if-eq-6.false
    ∙ skips (Some which.Merge) (from_make c.args.name.now) (bytes_eq c.args.name.now (codes "merge")) c.eq-else-eq-4.result c.eq-else-eq-4.ensures c.if-eq-5.false
    ∙ skips (Some which.Report) (from_merge c.args.name.now) (bytes_eq c.args.name.now (codes "report")) c.eq-else-eq-3.result c.eq-else-eq-3.ensures c.if-eq-4.false
    ∙ skips (Some which.Run) (from_report c.args.name.now) (bytes_eq c.args.name.now (codes "run")) c.eq-else-eq-2.result c.eq-else-eq-2.ensures c.if-eq-3.false
    ∙ skips (Some which.Build) (from_run c.args.name.now) (bytes_eq c.args.name.now (codes "build")) c.eq-else-eq.result c.eq-else-eq.ensures c.if-eq-2.false
    ∙ skips (Some which.Cover) (from_build c.args.name.now) (bytes_eq c.args.name.now (codes "cover")) c.eq.result c.eq.ensures c.if-eq.false
