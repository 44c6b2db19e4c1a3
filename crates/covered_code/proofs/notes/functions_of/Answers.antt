use Rattle.std.proofs.Common.{sym, subst}
use Rattle.std.specs.List.{All}
use Rattle.std.proofs.lemmas.List.Elements.{All-push}
use Rattle.covered_code.specs.UnitNotes.{HasWord}
use Rattle.covered_code.proofs.WritableNotes.{notes_step}
use Rattle.covered_code.proofs.notes.functions_of.Goals as goal

pub loop-graph-preserved : goal.loop-graph-preserved
loop-graph-preserved c = record {
  value = notes_step c.args.graphs.now c.loop-graph.graph-index c.loop-graph.functions.items c.push.new.self.items
      c.in_ok-function_of.field-0 c.graph-item.result c.loop-graph-test.true c.loop-graph.invariant.value
      c.graph-item.is c.in_ok-function_of.ensures.value c.in_ok-push.ensures.items;
  words = subst (All HasWord) (sym c.in_ok-push.ensures.items)
      (All-push HasWord c.loop-graph.functions.items c.in_ok-function_of.field-0 c.loop-graph.invariant.words
      c.in_ok-function_of.ensures.word);
}
