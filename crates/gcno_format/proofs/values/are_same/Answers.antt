use Rattle.std.proofs.lemmas.Slice.Eq.{slice_eq-Decides}
use Rattle.gcno_format.proofs.FunctionLaws.{marks_decide}
use Rattle.gcno_format.proofs.values.are_same.Goals as goal

pub returns : goal.returns
returns c = slice_eq-Decides marks_decide c.args.arcs.now c.args.others.now c.eq.result c.eq.ensures
