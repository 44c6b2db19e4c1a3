use Rattle.c_types.proofs.HeadLaws.{other_count}
use Rattle.c_types.proofs.heads.same_bases.Goals as goal

pub returns-then-bases-params : goal.returns-then-bases-params
returns-then-bases-params c = other_count c.args.bases.now c.args.params.now c.if-bases-params.true
