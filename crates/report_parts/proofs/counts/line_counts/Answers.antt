use Rattle.std.proofs.Common.{◌≡◌, List, ◌++◌, length, drop, take, replicate, Option, None, ℕ, ap, ◌∙◌, sym, rules}
use Rattle.std.proofs.lemmas.List.{take_at, length-replicate}
use Rattle.report_parts.specs.CountSteps.{count_at, begin_functions, add_functions}
use Rattle.report_parts.proofs.CountLaws.{counts_law}
use Rattle.report_parts.proofs.counts.line_counts.Goals as goal

pub put_counts-requires-clause-none : goal.put_counts-requires-clause-none
put_counts-requires-clause-none c =
    let first : c.in_ok-counts.counts.items ≡ replicate c.args.size None = search rules in
    let e : c.deref_mut.result.now ≡ replicate c.args.size None = c.deref_mut.ensures.value ∙ first in
    e ∙ ap (λ n. replicate n None) (sym (ap length e ∙ length-replicate c.args.size None))

pub returns : goal.returns
returns c =
    let fs = c.args.functions.now in
    let size = c.args.size in
    let counts = c.in_ok-counts.counts in
    let first : counts.items ≡ replicate size None = search rules in
    let new = c.put_counts.new.counts in
    let made : List (Option ℕ) = add_functions fs (begin_functions fs (replicate size None)) in
    let is_made : new ≡ made =
    c.put_counts.ensures ∙ ap (λ cs. add_functions fs (begin_functions fs cs)) (c.deref_mut.ensures.value ∙ first) in
    let full : length new ≡ counts.len = c.put_counts.auto.counts ∙ c.deref_mut.ensures.len in
    let whole : take counts.len (new ++ drop (length new) counts.items) ≡ made = take_at new (drop (length new) counts.items) counts.len full ∙ is_made in
    λ line low. ap (λ cs. count_at cs line) whole ∙ counts_law fs c.requires.shown size line low
