-- The tree of a net spans it.
use Rattle.cov_base.specs.Net.{NetValue, IsNet}
use Rattle.span_tree.specs.Spanning.{Spans}
use Rattle.span_tree.specs.Tree.{arrivals}
use Rattle.span_tree.proofs.Counts.{exit_on_tree}
use Rattle.span_tree.proofs.Spans.{spans, arrivals_length}

pub arrivals_span : (net : NetValue) → IsNet net → Spans net (arrivals net)
arrivals_span net is = record { all = spans net is; once = arrivals_length net is; exit = exit_on_tree net is }
